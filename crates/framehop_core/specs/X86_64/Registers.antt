-- The registers that unwinding on x86_64 can restore: the instruction pointer and the sixteen general registers.
-- (framehop 0.16.0, `UnwindRegsX86_64`.)
use Rattle.std.specs.Prelude.{◌≡◌, ℕ, ◌+◌, List, [], ◌∷◌, length, drop, slice_index}
use Rattle.std.proofs.Common.{zero, suc, sym, ap, ◌∙◌, arith, drop-cons}
use Rattle.std.proofs.lemmas.List.{drop_all}
use Rattle.framehop_core.specs.declared.x86_64.unwindregs.Reg.{Reg}
use Rattle.framehop_core.specs.declared.x86_64.unwindregs.Reg.TheVariants.{RAX, RDX, RCX, RBX, RSI, RDI, RBP, RSP, R8, R9, R10, R11, R12, R13, R14, R15}

-- the instruction pointer, and the general registers by name; rsp is the stack pointer and rbp the frame pointer
pub record Registers : Type 0 where
  pub ip : ℕ
  pub rax : ℕ
  pub rdx : ℕ
  pub rcx : ℕ
  pub rbx : ℕ
  pub rsi : ℕ
  pub rdi : ℕ
  pub rbp : ℕ
  pub rsp : ℕ
  pub r8 : ℕ
  pub r9 : ℕ
  pub r10 : ℕ
  pub r11 : ℕ
  pub r12 : ℕ
  pub r13 : ℕ
  pub r14 : ℕ
  pub r15 : ℕ

-- the value of a register
abbrev pub register : Registers → Reg → ℕ
register r RAX = r.rax
register r RDX = r.rdx
register r RCX = r.rcx
register r RBX = r.rbx
register r RSI = r.rsi
register r RDI = r.rdi
register r RBP = r.rbp
register r RSP = r.rsp
register r R8 = r.r8
register r R9 = r.r9
register r R10 = r.r10
register r R11 = r.r11
register r R12 = r.r12
register r R13 = r.r13
register r R14 = r.r14
register r R15 = r.r15

-- the registers with another value in one of them
abbrev pub with_register : Registers → Reg → ℕ → Registers
with_register r RAX value = record r { rax = value }
with_register r RDX value = record r { rdx = value }
with_register r RCX value = record r { rcx = value }
with_register r RBX value = record r { rbx = value }
with_register r RSI value = record r { rsi = value }
with_register r RDI value = record r { rdi = value }
with_register r RBP value = record r { rbp = value }
with_register r RSP value = record r { rsp = value }
with_register r R8 value = record r { r8 = value }
with_register r R9 value = record r { r9 = value }
with_register r R10 value = record r { r10 = value }
with_register r R11 value = record r { r11 = value }
with_register r R12 value = record r { r12 = value }
with_register r R13 value = record r { r13 = value }
with_register r R14 value = record r { r14 = value }
with_register r R15 value = record r { r15 = value }

-- the registers of a file that keeps the general ones as a list, in the order of `Reg`
abbrev pub registers_of : ℕ → List ℕ → Registers
registers_of ip words = record {
  ip = ip;
  rax = slice_index words 0;
  rdx = slice_index words 1;
  rcx = slice_index words 2;
  rbx = slice_index words 3;
  rsi = slice_index words 4;
  rdi = slice_index words 5;
  rbp = slice_index words 6;
  rsp = slice_index words 7;
  r8 = slice_index words 8;
  r9 = slice_index words 9;
  r10 = slice_index words 10;
  r11 = slice_index words 11;
  r12 = slice_index words 12;
  r13 = slice_index words 13;
  r14 = slice_index words 14;
  r15 = slice_index words 15;
}

-- the general registers as a list, in the order of `Reg`
abbrev pub words_of : Registers → List ℕ
words_of r =
    r.rax ∷ r.rdx ∷ r.rcx ∷ r.rbx ∷ r.rsi ∷ r.rdi ∷ r.rbp ∷ r.rsp ∷ r.r8 ∷ r.r9 ∷ r.r10 ∷ r.r11 ∷ r.r12 ∷ r.r13
    ∷ r.r14 ∷ r.r15 ∷ []

-- the n words from the place i on, and that they are the rest of a list of i + n words
listed : List ℕ → ℕ → ℕ → List ℕ
listed words i zero = []
listed words i (suc n) = slice_index words i ∷ listed words (suc i) n

listed-drop : (words : List ℕ) (i n : ℕ) → i + n ≡ length words → listed words i n ≡ drop i words
unfolding listed
listed-drop words i zero e = sym (drop_all i words (omega arith))
listed-drop words i (suc n) e =
    ap (λ rest. slice_index words i ∷ rest) (listed-drop words (suc i) n (omega arith)) ∙ sym (drop-cons words i 0
    (omega arith))

-- a list of sixteen words is that of its registers
pub words_of-registers_of : (ip : ℕ) (words : List ℕ) → length words ≡ 16 → words_of (registers_of ip words) ≡ words
unfolding listed
words_of-registers_of ip words e = listed-drop words 0 16 (sym e)
