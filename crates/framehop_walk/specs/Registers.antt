-- The registers of a step or a walk, from the field `regs` of a command.
use Rattle.std.specs.Prelude.{ℕ, ◌-◌, ◌^◌, List, codes, Option, Some, None, unwrap_or, Ok}
use Rattle.serde_json.specs.Data.{Data}
use Rattle.framehop_core.specs.Aarch64.Registers.{Registers, strip_ptr_auth}
use Rattle.framehop_core.specs.X86_64.Registers.{Registers as RegistersX86_64, with_register}
use Rattle.framehop_core.specs.declared.x86_64.unwindregs.Reg.{Reg}
use Rattle.framehop_core.specs.declared.x86_64.unwindregs.Reg.TheVariants.{RAX, RDX, RCX, RBX, RSI, RDI, R8, R9, R10, R11, R12, R13, R14, R15}
use Rattle.framehop_walk.specs.Refusals.{Reading, and_then}
use Rattle.framehop_walk.specs.Fields.{field_as, optional_field_as, address}

-- the registers of aarch64, lr without the bits that the mask lacks
abbrev pub masked : ℕ → ℕ → ℕ → ℕ → Registers
masked mask lr sp fp = record { lr_mask = mask; lr = strip_ptr_auth mask lr; sp = sp; fp = fp }

-- `lr`, `sp`, `fp`, and `mask`: all bits where it is left out
unfoldable pub read_aarch64 : Data → Reading Registers
read_aarch64 regs =
    and_then (field_as address (codes "lr") regs) (λ lr.
    and_then (field_as address (codes "sp") regs) (λ sp.
    and_then (field_as address (codes "fp") regs) (λ fp.
    and_then (optional_field_as address (codes "mask") regs) (λ mask.
    Ok (masked (unwrap_or mask (2 ^ 64 - 1)) lr sp fp)))))

-- the registers with the value of one that isn't left out
abbrev pub written : Reg → RegistersX86_64 → Option ℕ → RegistersX86_64
written reg before None = before
written reg before (Some value) = with_register before reg value

-- a register that may be left out, as it is read into the registers
unfoldable pub read_register : List ℕ → Reg → Data → RegistersX86_64 → Reading RegistersX86_64
read_register name reg regs before =
    and_then (optional_field_as address name regs) (λ value. Ok (written reg before value))

-- the registers that may be left out: those with names, then those with numbers
unfoldable pub read_named : Data → RegistersX86_64 → Reading RegistersX86_64
read_named regs before =
    and_then (read_register (codes "rax") RAX regs before) (λ before.
    and_then (read_register (codes "rbx") RBX regs before) (λ before.
    and_then (read_register (codes "rcx") RCX regs before) (λ before.
    and_then (read_register (codes "rdx") RDX regs before) (λ before.
    and_then (read_register (codes "rsi") RSI regs before) (λ before.
    read_register (codes "rdi") RDI regs before)))))

unfoldable pub read_numbered : Data → RegistersX86_64 → Reading RegistersX86_64
read_numbered regs before =
    and_then (read_register (codes "r8") R8 regs before) (λ before.
    and_then (read_register (codes "r9") R9 regs before) (λ before.
    and_then (read_register (codes "r10") R10 regs before) (λ before.
    and_then (read_register (codes "r11") R11 regs before) (λ before.
    and_then (read_register (codes "r12") R12 regs before) (λ before.
    and_then (read_register (codes "r13") R13 regs before) (λ before.
    and_then (read_register (codes "r14") R14 regs before) (λ before.
    read_register (codes "r15") R15 regs before)))))))

-- an instruction pointer, a stack pointer and a frame pointer; the others are 0
abbrev pub three : ℕ → ℕ → ℕ → RegistersX86_64
three ip sp bp = record {
  ip = ip;
  rax = 0;
  rdx = 0;
  rcx = 0;
  rbx = 0;
  rsi = 0;
  rdi = 0;
  rbp = bp;
  rsp = sp;
  r8 = 0;
  r9 = 0;
  r10 = 0;
  r11 = 0;
  r12 = 0;
  r13 = 0;
  r14 = 0;
  r15 = 0;
}

-- `ip`, `sp`, `bp`, and those that may be left out
unfoldable pub read_x86_64 : Data → Reading RegistersX86_64
read_x86_64 regs =
    and_then (field_as address (codes "ip") regs) (λ ip.
    and_then (field_as address (codes "sp") regs) (λ sp.
    and_then (field_as address (codes "bp") regs) (λ bp.
    and_then (read_named regs (three ip sp bp)) (λ read. read_numbered regs read))))
