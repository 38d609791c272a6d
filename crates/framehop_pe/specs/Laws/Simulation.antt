-- A rule of offsets and pops does what the operations or instructions do that it is made of.
use Rattle.std.proofs.Common.{◌≡◌, ◌≢◌, ℕ, zero, suc, ◌+◌, ◌*◌, ◌/◌, ◌%◌, ◌^◌, ◌<◌, pos, ◌-ℤ◌, Bool, true, false, cond, ◌&&◌, nat_eq, nat_lt, nat_le, List, [], ◌∷◌, map, Option, Some, None, Result, Ok, Err, ◌⊎◌, inl, inr, refl, sym, ap, subst, ◌∙◌, arith, Contains, All, get_or, IsTrue}
use Rattle.std.proofs.lemmas.Int.{ints}
use Rattle.std.proofs.lemmas.Bool.Decides.{nat_tests}
use Rattle.std.specs.Option.{option_map}
use Rattle.std.proofs.lemmas.Option.{some_pair_parts}
use Rattle.framehop_core.specs.Memory.{Memory}
use Rattle.framehop_core.specs.Outcome.{answered, address_at, above, word_at, word_from, and_then}
use Rattle.framehop_core.specs.Laws.Outcome.{address_at-ok, word_at-ok, and_then-ok}
use Rattle.framehop_core.specs.X86_64.Ordering.{eight, ordering, IsEncoding}
use Rattle.framehop_core.specs.X86_64.Registers.{Registers, with_register}
use Rattle.framehop_core.specs.Laws.X86_64.{caller-answered, pops-answered}
use Rattle.framehop_core.specs.X86_64.Rules.{nothing_more, kept, popped, outcome, pops_of, offset_and_pops_of, IsRuleOf, IsRuleOfOperations, is_executable}
use Rattle.framehop_core.specs.Laws.Orderings.{IsArrangement-encoding}
use Rattle.framehop_core.specs.Laws.RuleOfOperations.{IsPlain, IsOfPops, kinds, IsRuleOf-executable, rule_of_operations-is}
use Rattle.framehop_core.specs.X86_64.RuleOfOperations.{rule_of, rule_of_operations}
use Rattle.framehop_core.specs.declared.x86_64.unwindregs.Reg.{Reg}
use Rattle.framehop_core.specs.declared.x86_64.unwindregs.Reg.TheVariants.{RAX, RDX, RCX, RBX, RSI, RDI, RBP, RSP, R8, R9, R10, R11, R12, R13, R14, R15}
use Rattle.framehop_core.specs.declared.x86_64.unwind_rule.OffsetOrPop.{OffsetOrPop}
use Rattle.framehop_core.specs.declared.x86_64.unwind_rule.OffsetOrPop.TheVariants.{OffsetBy8, Pop, None as Neither}
use Rattle.framehop_core.specs.declared.x86_64.unwind_rule.UnwindRuleX86_64.{UnwindRuleX86_64}
use Rattle.framehop_core.specs.declared.x86_64.unwind_rule.UnwindRuleX86_64.TheVariants.{JustReturn, OffsetSpAndPopRegisters}
use Rattle.framehop_pe.specs.Resolve.{◌>>=◌, sum, popped_at, popped_word, undone, and_then as undone_then, resolved}
use Rattle.framehop_pe.specs.EpilogRun.{with_sp, with_popped, stepped, stepped_then, ran}
use Rattle.std.specs.declared.ops.ControlFlow.TheVariants.{Continue}
use Rattle.std.proofs.lemmas.Bool.{and_parts}
use Rattle.framehop_pe.specs.declared.unwind_info.epilog.FunctionEpilogInstruction.{FunctionEpilogInstruction}
use Rattle.framehop_pe.specs.declared.unwind_info.epilog.FunctionEpilogInstruction.TheVariants.{AddSP, AddSPFromFP, Pop as PopOf}
use Rattle.framehop_core.specs.declared.unwind_result.UnwindResult.{UnwindResult}
use Rattle.framehop_core.specs.declared.unwind_result.UnwindResult.TheVariants.{ExecRule, Uncacheable}
use Rattle.framehop_core.specs.Laws.Basics.{pos-same, ok-same}
use Rattle.framehop_core.specs.Step.{IfRule, TellsFound}
use Rattle.framehop_pe.specs.Answer.{IsMissingStackData, Simulates}
use Rattle.framehop_pe.specs.Frame.{Way, by_epilog, by_codes, WayOrRefusal, offsets_and_pops, returned, along, way_at, rule_along, found_of, computed_of, found_at, computed_at}
use Rattle.framehop_pe.specs.Sections.{Sections}
use Rattle.framehop_pe.specs.declared.pe.PeUnwinderError.{PeUnwinderError}
use Rattle.framehop_pe.specs.Offsets.{offset_of, of_operation, of_instruction}
use Rattle.framehop_pe.specs.declared.unwind_info.chain.FrameBase.{FrameBase}
use Rattle.framehop_pe.specs.declared.unwind_info.chain.FramedOperation.{FramedOperation}
use Rattle.framehop_pe.specs.declared.unwind_info.operation.UnwindOperation.{UnwindOperation}
use Rattle.framehop_pe.specs.declared.unwind_info.operation.UnwindOperation.TheVariants.{UnStackAlloc, PopNonVolatile, RestoreSp, Read, Skip, MachineFrame}

-- ---- lists of offsets and pops

pops_cons : (register : Reg) (o : Option (List Reg)) (registers : List Reg)
    → option_map (λ rs. register ∷ rs) o ≡ Some registers
    → (rest : List Reg) × (o ≡ Some rest) × (registers ≡ register ∷ rest)
pops_cons register None registers e = cc
pops_cons register (Some rest) registers e = (rest, refl, cc)

-- the first of pops is a pop
pub pops_of-head : (o : OffsetOrPop) (os : List OffsetOrPop) (registers : List Reg) → pops_of (o ∷ os) ≡ Some registers
    → (register : Reg) × (rest : List Reg) × (o ≡ Pop register) × (pops_of os ≡ Some rest)
    × (registers ≡ register ∷ rest)
pops_of-head (OffsetBy8 x) os registers e = cc
pops_of-head (Pop register) os registers e =
    let c = pops_cons register (pops_of os) registers e in
    (register, c.0, refl, c.1, c.2)
pops_of-head Neither os registers e = cc

paired : (x y : ℕ) (o : Option (List Reg)) (registers : List Reg)
    → option_map {U = ℕ × List Reg} (λ rs. (x, rs)) o ≡ Some (y, registers) → (x ≡ y) × (o ≡ Some registers)
paired x y None registers e = cc
paired x y (Some rs) registers e =
    let same = some_pair_parts x y rs registers e in
    (same.0, ap Some same.1)

-- an offset in front, or none
pub offset_or_pops : (os : List OffsetOrPop) (x : ℕ) (registers : List Reg)
    → offset_and_pops_of os ≡ Some (x, registers)
    → ((rest : List OffsetOrPop) × (os ≡ OffsetBy8 x ∷ rest) × (pops_of rest ≡ Some registers))
    ⊎ ((x ≡ 0) × (pops_of os ≡ Some registers))
offset_or_pops [] x registers e = let p = paired 0 x (pops_of []) registers e in inr (sym p.0, p.1)
offset_or_pops (OffsetBy8 y ∷ os) x registers e =
    let p = paired y x (pops_of os) registers e in inl (os, ap (λ n. OffsetBy8 n ∷ os) p.0, p.1)
offset_or_pops (Pop r ∷ os) x registers e = let p = paired 0 x (pops_of (Pop r ∷ os)) registers e in inr (sym p.0, p.1)
offset_or_pops (Neither ∷ os) x registers e =
    let p = paired 0 x (pops_of (Neither ∷ os)) registers e in inr (sym p.0, p.1)

-- ---- which operations are offsets and pops

offset_test : (b : Bool) (n x : ℕ) → cond b (OffsetBy8 n) Neither ≡ OffsetBy8 x → (b ≡ true) × (n ≡ x)
offset_test true n x e = (refl, cc)
offset_test false n x e = cc

offset_no_pop : (b : Bool) (n : ℕ) (r : Reg) → cond b (OffsetBy8 n) Neither ≡ Pop r → ⊥
offset_no_pop true n r e = cc
offset_no_pop false n r e = cc

pub offset_of-exact : (bytes x : ℕ) → offset_of bytes ≡ OffsetBy8 x → bytes ≡ x * 8
offset_of-exact bytes x e =
    let t = offset_test (nat_eq (bytes % 8) 0 && nat_lt (bytes / 8) (2 ^ 16)) (bytes / 8) x e in
    let whole = (and_parts (nat_eq (bytes % 8) 0) (nat_lt (bytes / 8) (2 ^ 16)) t.0).0 in
    let no_rest : bytes % 8 ≡ 0 = grind (arith, nat_tests) in
    let n = t.1 in
    omega arith

operation_pop : (operation : UnwindOperation) (r : Reg) → of_operation operation ≡ Pop r → operation ≡ PopNonVolatile r
operation_pop (UnStackAlloc bytes) r e = absurd (offset_no_pop _ _ r e)
operation_pop (PopNonVolatile s) r e = ap PopNonVolatile cc
operation_pop RestoreSp r e = cc
operation_pop (Read s offset) r e = cc
operation_pop Skip r e = cc
operation_pop (MachineFrame b) r e = cc

operation_offset : (operation : UnwindOperation) (x : ℕ) → of_operation operation ≡ OffsetBy8 x
    → operation ≡ UnStackAlloc (x * 8)
operation_offset (UnStackAlloc bytes) x e = ap UnStackAlloc (offset_of-exact bytes x e)
operation_offset (PopNonVolatile s) x e = cc
operation_offset RestoreSp x e = cc
operation_offset (Read s offset) x e = cc
operation_offset Skip x e = cc
operation_offset (MachineFrame b) x e = cc

-- ---- one step

-- a sum that fits
pub sum-fits : (a b : ℕ) → a + b < 2 ^ 64 → sum a b ≡ Some (a + b)
sum-fits a b h = let e : nat_lt (a + b) (2 ^ 64) ≡ true = grind (arith, nat_tests) in rw e refl

above_is : (a b c : ℕ) → above a b ≡ pos c → c ≡ a + b
above_is a b c e = omega (arith, ints)

-- the next address of pops
pub next-address : (at next : ℕ) → address_at (above at 8) ≡ Ok next → (next ≡ at + 8) × (at + 8 < 2 ^ 64)
next-address at next e =
    let a = address_at-ok (above at 8) next e in
    let is = pos-same _ next a.0 in
    (sym is, let below = a.1 in omega arith)

-- rsp is set last
pub set_last : (r : Registers) (a s word : ℕ) (register : Reg)
    → record (with_register (record r { rsp = a }) register word) { rsp = s }
    ≡ record (with_register r register word) { rsp = s }
set_last r a s word RAX = refl
set_last r a s word RDX = refl
set_last r a s word RCX = refl
set_last r a s word RBX = refl
set_last r a s word RSI = refl
set_last r a s word RDI = refl
set_last r a s word RBP = refl
set_last r a s word RSP = refl
set_last r a s word R8 = refl
set_last r a s word R9 = refl
set_last r a s word R10 = refl
set_last r a s word R11 = refl
set_last r a s word R12 = refl
set_last r a s word R13 = refl
set_last r a s word R14 = refl
set_last r a s word R15 = refl

-- ---- the last pop: of the return address

word-here : (memory : Memory) (at address : ℕ) → word_from memory (pos at) ≡ Ok address → memory at ≡ Some address
word-here memory at address e =
    let a = and_then-ok (address_at (pos at)) (word_at memory) address e in
    let same = pos-same at a.0 (address_at-ok (pos at) a.0 a.1).0 in
    ap memory same ∙ word_at-ok memory a.0 address a.2

pub last-pop : (memory : Memory) (at address : ℕ) (r restored : Registers) → popped memory at [] r ≡ Ok restored
    → word_from memory (pos restored.rsp -ℤ pos 8) ≡ Ok address
    → popped_word memory (record r { rsp = at }) ≡ Ok (address, restored)
last-pop memory at address r restored e word =
    let a = and_then-ok (address_at (above at 8)) (λ sp. Ok (record r { rsp = sp })) restored e in
    let n = next-address at a.0 a.1 in
    let same : record r { rsp = a.0 } ≡ restored = cc in
    let sp : restored.rsp ≡ at + 8 = sym (ap (λ s. s.rsp) same) ∙ n.0 in
    let place : (pos restored.rsp -ℤ pos 8) ≡ pos at = omega (arith, ints) in
    let read = word-here memory at address (rw place at word) in
    ap (λ w. popped_at w (sum at 8) (record r { rsp = at })) read
    ∙ ap (λ s. popped_at (Some address) s (record r { rsp = at })) (sum-fits at 8 n.1)
    ∙ ap (λ s. Ok (address, record r { rsp = s })) (sym n.0)
    ∙ ap (λ s. Ok (address, s)) same

-- ---- one pop of a register

pub record IsPop (memory : Memory) (at : ℕ) (register : Reg) (registers : List Reg)
    (r restored : Registers) : Type 0 where
  pub word : ℕ
  pub found : memory at ≡ Some word
  pub fits : at + 8 < 2 ^ 64
  pub others : popped memory (at + 8) registers (with_register r register word) ≡ Ok restored

pub popped-first : (memory : Memory) (at : ℕ) (register : Reg) (registers : List Reg) (r restored : Registers)
    → popped memory at (register ∷ registers) r ≡ Ok restored → IsPop memory at register registers r restored
popped-first memory at register registers r restored e =
    let a = and_then-ok (word_at memory at) _ restored e in
    let b =
    and_then-ok (address_at (above at 8))
    (λ next. popped memory next registers (with_register r register a.0)) restored a.2 in
    let n = next-address at b.0 b.1 in
    record {
      word = a.0;
      found = word_at-ok memory at a.0 a.1;
      fits = n.1;
      others = ap (λ next. popped memory next registers (with_register r register a.0)) (sym n.0) ∙ b.2;
    }

-- ---- operations

-- a pop, undone at an address
pop-undone : (memory : Memory) (base : FrameBase) (at word : ℕ) (register : Reg) (r : Registers) → memory at ≡ Some word
    → at + 8 < 2 ^ 64
    → undone memory (PopNonVolatile register) base (record r { rsp = at })
    ≡ Some (Continue tt, record (with_register r register word) { rsp = at + 8 })
pop-undone memory base at word register r found fits =
    ap
    (λ w. w >>= (λ v. sum at 8 >>=
    (λ sp. Some (Continue tt, record (with_register (record r { rsp = at }) register v) { rsp = sp })))) found
    ∙ ap
    (λ s.
    s >>= (λ sp. Some (Continue tt, record (with_register (record r { rsp = at }) register word) { rsp = sp })))
    (sum-fits at 8 fits)
    ∙ ap (λ registers. Some (Continue tt, registers)) (set_last r at (at + 8) word register)

offset-undone : (memory : Memory) (base : FrameBase) (size : ℕ) (r : Registers) → r.rsp + size < 2 ^ 64
    → undone memory (UnStackAlloc size) base r ≡ Some (Continue tt, record r { rsp = r.rsp + size })
offset-undone memory base size r fits =
    ap (λ s. s >>= (λ sp. Some (Continue tt, record r { rsp = sp }))) (sum-fits r.rsp size fits)

pub resolved-pops : (memory : Memory) (operations : List FramedOperation) (registers : List Reg) (at address : ℕ)
    (r restored : Registers) → pops_of (map (λ framed. of_operation framed.operation) operations) ≡ Some registers
    → popped memory at registers r ≡ Ok restored → word_from memory (pos restored.rsp -ℤ pos 8) ≡ Ok address
    → resolved memory operations (record r { rsp = at }) ≡ Ok (address, restored)
resolved-pops memory [] registers at address r restored e pops word =
    let none : [] ≡ registers = cc in
    last-pop memory at address r restored (ap (λ rs. popped memory at rs r) none ∙ pops) word
resolved-pops memory (o ∷ operations) registers at address r restored e pops word =
    let h =
    pops_of-head (of_operation o.operation) (map (λ framed. of_operation framed.operation) operations) registers e in
    let is = operation_pop o.operation h.0 h.2 in
    let p = popped-first memory at h.0 h.1 r restored (ap (λ rs. popped memory at rs r) (sym h.4) ∙ pops) in
    let step =
    ap (λ operation. undone memory operation o.base (record r { rsp = at })) is
    ∙ pop-undone memory o.base at p.word h.0 r p.found p.fits in
    ap (λ u. undone_then u (resolved memory operations)) step
    ∙ resolved-pops memory operations h.1 (at + 8) address (with_register r h.0 p.word) restored h.3 p.others word

-- an offset and pops, by operations: an offset in front, or pops alone
resolved-cases : (memory : Memory) (operations : List FramedOperation) (x : ℕ) (registers : List Reg) (address : ℕ)
    (r restored : Registers)
    → ((rest : List OffsetOrPop) × (map (λ framed. of_operation framed.operation) operations ≡ OffsetBy8 x ∷ rest)
    × (pops_of rest ≡ Some registers))
    ⊎ ((x ≡ 0) × (pops_of (map (λ framed. of_operation framed.operation) operations) ≡ Some registers))
    → r.rsp + x * 8 < 2 ^ 64 → popped memory (r.rsp + x * 8) registers r ≡ Ok restored
    → word_from memory (pos restored.rsp -ℤ pos 8) ≡ Ok address → resolved memory operations r ≡ Ok (address, restored)
resolved-cases memory [] x registers address r restored (inl h) fits pops word = cc
resolved-cases memory (o ∷ operations) x registers address r restored (inl h) fits pops word =
    let first : of_operation o.operation ≡ OffsetBy8 x = cc in
    let others : map (λ (framed : FramedOperation). of_operation framed.operation) operations ≡ h.0 = cc in
    let is = operation_offset o.operation x first in
    let step = ap (λ operation. undone memory operation o.base r) is ∙ offset-undone memory o.base (x * 8) r fits in
    ap (λ u. undone_then u (resolved memory operations)) step
    ∙ resolved-pops memory operations registers (r.rsp + x * 8) address r restored (ap pops_of others ∙ h.2) pops word
resolved-cases memory operations x registers address r restored (inr h) fits pops word =
    let here : r.rsp + x * 8 ≡ r.rsp = (let zero = h.0 in omega arith) in
    resolved-pops memory operations registers r.rsp address r restored h.1
    (ap (λ at. popped memory at registers r) (sym here) ∙ pops) word

pub resolved-sequence : (memory : Memory) (operations : List FramedOperation) (x : ℕ) (registers : List Reg)
    (address : ℕ) (r restored : Registers)
    → offset_and_pops_of (map (λ framed. of_operation framed.operation) operations) ≡ Some (x, registers)
    → r.rsp + x * 8 < 2 ^ 64 → popped memory (r.rsp + x * 8) registers r ≡ Ok restored
    → word_from memory (pos restored.rsp -ℤ pos 8) ≡ Ok address → resolved memory operations r ≡ Ok (address, restored)
resolved-sequence memory operations x registers address r restored e fits pops word =
    resolved-cases memory operations x registers address r restored
    (offset_or_pops (map (λ framed. of_operation framed.operation) operations) x registers e) fits pops word

-- ---- instructions

instruction_pop : (instruction : FunctionEpilogInstruction) (r : Reg) → of_instruction instruction ≡ Pop r
    → instruction ≡ PopOf r
instruction_pop (AddSP bytes) r e = absurd (offset_no_pop _ _ r e)
instruction_pop (AddSPFromFP offset) r e = cc
instruction_pop (PopOf s) r e = ap PopOf cc

instruction_offset : (instruction : FunctionEpilogInstruction) (x : ℕ) → of_instruction instruction ≡ OffsetBy8 x
    → instruction ≡ AddSP (x * 8)
instruction_offset (AddSP bytes) x e = ap AddSP (offset_of-exact bytes x e)
instruction_offset (AddSPFromFP offset) x e = cc
instruction_offset (PopOf s) x e = cc

-- any register but rsp may be set before rsp or after it
set_apart : (r : Registers) (a s word : ℕ) (register : Reg) → register ≢ RSP
    → with_register (record r { rsp = s }) register word ≡ record (with_register r register word) { rsp = s }
set_apart r a s word RAX apart = refl
set_apart r a s word RDX apart = refl
set_apart r a s word RCX apart = refl
set_apart r a s word RBX apart = refl
set_apart r a s word RSI apart = refl
set_apart r a s word RDI apart = refl
set_apart r a s word RBP apart = refl
set_apart r a s word RSP apart = absurd (apart refl)
set_apart r a s word R8 apart = refl
set_apart r a s word R9 apart = refl
set_apart r a s word R10 apart = refl
set_apart r a s word R11 apart = refl
set_apart r a s word R12 apart = refl
set_apart r a s word R13 apart = refl
set_apart r a s word R14 apart = refl
set_apart r a s word R15 apart = refl

-- a pop, run at an address
pop-stepped : (memory : Memory) (frame : Option Reg) (at word : ℕ) (register : Reg) (r : Registers) → register ≢ RSP
    → memory at ≡ Some word → at + 8 < 2 ^ 64
    → stepped memory frame (PopOf register) (record r { rsp = at })
    ≡ Ok (record (with_register r register word) { rsp = at + 8 })
pop-stepped memory frame at word register r apart found fits =
    ap (λ w. with_popped register (popped_at w (sum at 8) (record r { rsp = at }))) found
    ∙ ap (λ s. with_popped register (popped_at (Some word) s (record r { rsp = at }))) (sum-fits at 8 fits)
    ∙ ap Ok (set_apart r at (at + 8) word register apart)

offset-stepped : (memory : Memory) (frame : Option Reg) (size : ℕ) (r : Registers) → r.rsp + size < 2 ^ 64
    → stepped memory frame (AddSP size) r ≡ Ok (record r { rsp = r.rsp + size })
offset-stepped memory frame size r fits = ap (λ s. with_sp s r) (sum-fits r.rsp size fits)

-- none of the registers is rsp
abbrev pub ApartFromRsp : List Reg → Type 0
ApartFromRsp [] = Unit {0}
ApartFromRsp (register ∷ registers) = (register ≢ RSP) × ApartFromRsp registers

pub ran-pops : (memory : Memory) (frame : Option Reg) (instructions : List FunctionEpilogInstruction)
    (registers : List Reg) (at address : ℕ) (r restored : Registers) → ApartFromRsp registers
    → pops_of (map of_instruction instructions) ≡ Some registers → popped memory at registers r ≡ Ok restored
    → word_from memory (pos restored.rsp -ℤ pos 8) ≡ Ok address
    → ran memory frame instructions (record r { rsp = at }) ≡ Ok (address, restored)
ran-pops memory frame [] registers at address r restored apart e pops word =
    let none : [] ≡ registers = cc in
    last-pop memory at address r restored (ap (λ rs. popped memory at rs r) none ∙ pops) word
ran-pops memory frame (i ∷ instructions) registers at address r restored apart e pops word =
    let h = pops_of-head (of_instruction i) (map of_instruction instructions) registers e in
    let is = instruction_pop i h.0 h.2 in
    let p = popped-first memory at h.0 h.1 r restored (ap (λ rs. popped memory at rs r) (sym h.4) ∙ pops) in
    let both : ApartFromRsp (h.0 ∷ h.1) = subst ApartFromRsp h.4 apart in
    let step =
    ap (λ instruction. stepped memory frame instruction (record r { rsp = at })) is
    ∙ pop-stepped memory frame at p.word h.0 r both.0 p.found p.fits in
    ap (λ s. stepped_then s (ran memory frame instructions)) step
    ∙ ran-pops memory frame instructions h.1 (at + 8) address
    (with_register r h.0 p.word) restored both.1 h.3 p.others word

ran-cases : (memory : Memory) (frame : Option Reg) (instructions : List FunctionEpilogInstruction) (x : ℕ)
    (registers : List Reg) (address : ℕ) (r restored : Registers) → ApartFromRsp registers
    → ((rest : List OffsetOrPop) × (map of_instruction instructions ≡ OffsetBy8 x ∷ rest)
    × (pops_of rest ≡ Some registers)) ⊎ ((x ≡ 0) × (pops_of (map of_instruction instructions) ≡ Some registers))
    → r.rsp + x * 8 < 2 ^ 64 → popped memory (r.rsp + x * 8) registers r ≡ Ok restored
    → word_from memory (pos restored.rsp -ℤ pos 8) ≡ Ok address
    → ran memory frame instructions r ≡ Ok (address, restored)
ran-cases memory frame [] x registers address r restored apart (inl h) fits pops word = cc
ran-cases memory frame (i ∷ instructions) x registers address r restored apart (inl h) fits pops word =
    let first : of_instruction i ≡ OffsetBy8 x = cc in
    let others : map of_instruction instructions ≡ h.0 = cc in
    let is = instruction_offset i x first in
    let step = ap (λ instruction. stepped memory frame instruction r) is ∙ offset-stepped memory frame (x * 8) r fits in
    ap (λ s. stepped_then s (ran memory frame instructions)) step
    ∙ ran-pops memory frame instructions registers (r.rsp + x * 8) address r restored apart
    (ap pops_of others ∙ h.2) pops word
ran-cases memory frame instructions x registers address r restored apart (inr h) fits pops word =
    let here : r.rsp + x * 8 ≡ r.rsp = (let zero = h.0 in omega arith) in
    ran-pops memory frame instructions registers r.rsp address r restored apart h.1
    (ap (λ at. popped memory at registers r) (sym here) ∙ pops) word

pub ran-sequence : (memory : Memory) (frame : Option Reg) (instructions : List FunctionEpilogInstruction) (x : ℕ)
    (registers : List Reg) (address : ℕ) (r restored : Registers) → ApartFromRsp registers
    → offset_and_pops_of (map of_instruction instructions) ≡ Some (x, registers) → r.rsp + x * 8 < 2 ^ 64
    → popped memory (r.rsp + x * 8) registers r ≡ Ok restored
    → word_from memory (pos restored.rsp -ℤ pos 8) ≡ Ok address
    → ran memory frame instructions r ≡ Ok (address, restored)
ran-sequence memory frame instructions x registers address r restored apart e fits pops word =
    ran-cases memory frame instructions x registers address r restored apart
    (offset_or_pops (map of_instruction instructions) x registers e) fits pops word

-- ---- a rule of an offset and registers

not_among : (k : ℕ) → k < 8 → get_or eight k RSP ≡ RSP → ⊥
not_among zero h e = cc
not_among (suc zero) h e = cc
not_among (suc (suc zero)) h e = cc
not_among (suc (suc (suc zero))) h e = cc
not_among (suc (suc (suc (suc zero)))) h e = cc
not_among (suc (suc (suc (suc (suc zero))))) h e = cc
not_among (suc (suc (suc (suc (suc (suc zero)))))) h e = cc
not_among (suc (suc (suc (suc (suc (suc (suc zero))))))) h e = cc
not_among (suc (suc (suc (suc (suc (suc (suc (suc k)))))))) h e = absurd (omega arith)

apart_from_rsp : (register : Reg) → Contains eight register → register ≢ RSP
apart_from_rsp register h is = not_among h.0 h.1 (subst (λ s. get_or eight h.0 s ≡ s) is h.2)

apart : (registers : List Reg) → All (Contains eight) registers → ApartFromRsp registers
apart [] h = tt
apart (register ∷ registers) h =
    (apart_from_rsp register (h 0 register (omega arith)), apart registers (λ k d within. h (suc k) d (omega arith)))

fits-address : (n : ℕ) → n < 2 ^ 64 → address_at (pos n) ≡ Ok n
fits-address n h = let e : nat_lt n (2 ^ 64) ≡ true = grind (arith, nat_tests) in rw e refl

-- what a rule that answers has done, of an offset and registers
pub record HasPopped (x : ℕ) (registers : List Reg) (r : Registers) (memory : Memory) (address : ℕ)
    (new : Registers) : Type 0 where
  pub fits : r.rsp + x * 8 < 2 ^ 64
  pub apart : ApartFromRsp registers
  pub restored : Registers
  pub pops_are : popped memory (r.rsp + x * 8) registers r ≡ Ok restored
  pub word : word_from memory (pos restored.rsp -ℤ pos 8) ≡ Ok address
  pub new_is : record restored { ip = address } ≡ new

plain : (x : ℕ) (registers : List Reg) (first : Bool) (r : Registers) (memory : Memory) (address : ℕ) (new : Registers)
    → x ≡ 0 → registers ≡ [] → outcome JustReturn first r memory ≡ answered address new
    → HasPopped x registers r memory address new
plain x registers first r memory address new zero_x none e =
    let c = caller-answered (above r.rsp 8) nothing_more kept r memory address new e in
    let sp : c.new_sp ≡ r.rsp + 8 = above_is r.rsp 8 c.new_sp c.sp_is in
    let bp : r.rbp ≡ c.new_bp = ok-same r.rbp c.new_bp c.bp_is in
    let fits : r.rsp + 8 < 2 ^ 64 = (let below = c.sp_fits in omega arith) in
    let here : r.rsp + x * 8 ≡ r.rsp = omega arith in
    record {
      fits = omega arith;
      apart = subst ApartFromRsp (sym none) tt;
      restored = record r { rsp = c.new_sp; rbp = c.new_bp };
      pops_are =
          ap (λ at. popped memory at registers r) here
          ∙ ap (λ rs. popped memory r.rsp rs r) none
          ∙ ap (λ a. and_then a (λ s. Ok (record r { rsp = s }))) (fits-address (r.rsp + 8) fits)
          ∙ ap (λ s. Ok (record r { rsp = s })) (sym sp)
          ∙ ap (λ b. Ok (record r { rsp = c.new_sp; rbp = b })) bp;
      word = c.end.word;
      new_is = sym c.end.registers;
    }

several : (x : ℕ) (registers : List Reg) (y count n : ℕ) (first : Bool) (r : Registers) (memory : Memory) (address : ℕ)
    (new : Registers) → y ≡ x → IsEncoding registers count n
    → outcome (OffsetSpAndPopRegisters y count n) first r memory ≡ answered address new
    → HasPopped x registers r memory address new
several x registers y count n first r memory address new same encoding e =
    let p = pops-answered (above r.rsp (y * 8)) (ordering count n) r memory address new e in
    let at : p.first ≡ r.rsp + x * 8 =
    (let a = above_is r.rsp (y * 8) p.first p.first_is in a ∙ ap (λ z. r.rsp + z * 8) same) in
    record {
      fits = (let below = p.first_fits in omega arith);
      apart = apart registers (IsArrangement-encoding registers count n encoding).among;
      restored = p.restored;
      pops_are =
          ap (λ a. popped memory a registers r) (sym at) ∙ ap (λ rs. popped memory p.first rs r) (sym encoding.orders)
          ∙ p.pops_are;
      word = p.end.word;
      new_is = sym p.end.registers;
    }

kind-popped : (x : ℕ) (registers : List Reg) (rule : UnwindRuleX86_64) (first : Bool) (r : Registers) (memory : Memory)
    (address : ℕ) (new : Registers) → IsPlain x registers rule ⊎ IsOfPops x registers rule
    → outcome rule first r memory ≡ answered address new → HasPopped x registers r memory address new
kind-popped x registers rule first r memory address new (inl p) e =
    plain x registers first r memory address new p.1 p.2
    (subst (λ told. outcome told first r memory ≡ answered address new) p.0 e)
kind-popped x registers rule first r memory address new (inr p) e =
    several x registers x p.0 p.1 first r memory address new refl p.3
    (subst (λ told. outcome told first r memory ≡ answered address new) p.2 e)

rule-popped : (x : ℕ) (registers : List Reg) (rule : UnwindRuleX86_64) (first : Bool) (r : Registers) (memory : Memory)
    (address : ℕ) (new : Registers) → IsRuleOf x registers rule → outcome rule first r memory ≡ answered address new
    → HasPopped x registers r memory address new
rule-popped x registers rule first r memory address new h =
    kind-popped x registers rule first r memory address new (kinds x registers rule h)

-- the rule of a way simulates it
pub Simulates-way : (rule : UnwindRuleX86_64) (way : Way) → IsRuleOfOperations (offsets_and_pops way) (Some rule)
    → Simulates outcome (along way) rule
Simulates-way rule (by_epilog frame instructions) h = λ first r new memory address e.
    let p = rule-popped h.0 h.1 rule first r memory address new h.3 e in
    ap returned
    (ran-sequence memory frame instructions h.0 h.1 address r p.restored p.apart h.2 p.fits p.pops_are p.word)
    ∙ ap (λ s. Ok (address, s)) p.new_is
Simulates-way rule (by_codes operations) h = λ first r new memory address e.
    let p = rule-popped h.0 h.1 rule first r memory address new h.3 e in
    ap returned (resolved-sequence memory operations h.0 h.1 address r p.restored h.2 p.fits p.pops_are p.word)
    ∙ ap (λ s. Ok (address, s)) p.new_is

-- ---- what is found

-- a rule that is found is that of the way that the bytes say
found-way : (told : WayOrRefusal) (rule : UnwindRuleX86_64) → found_of told ≡ Ok (Some rule)
    → (way : Way) × (told ≡ Ok way) × IsRuleOfOperations (offsets_and_pops way) (Some rule)
found-way (Ok way) rule e =
    let same : rule_along way ≡ Some rule = cc in
    (way, refl, subst (IsRuleOfOperations (offsets_and_pops way)) same (rule_of_operations-is (offsets_and_pops way)))
found-way (Err error) rule e = cc

-- what holds of a rule that is found holds of one that is returned
returned-rule : {Rule : Type 0} (P : Rule → Type 0) (found : Result (Option Rule) PeUnwinderError)
    (result : Result (UnwindResult Rule) PeUnwinderError) → TellsFound IsMissingStackData found result
    → ((rule : Rule) → found ≡ Ok (Some rule) → P rule) → IfRule result P
returned-rule P (Err error) result h all = subst (λ r. IfRule r P) (sym h) tt
returned-rule P (Ok (Some rule)) result h all = subst (λ r. IfRule r P) (sym h) (all rule refl)
returned-rule P (Ok None) (Ok (ExecRule rule)) h all = absurd h
returned-rule P (Ok None) (Ok (Uncacheable address)) h all = tt
returned-rule P (Ok None) (Err error) h all = tt

pub found-executable : (told : WayOrRefusal) (result : Result (UnwindResult UnwindRuleX86_64) PeUnwinderError)
    → TellsFound IsMissingStackData (found_of told) result → IfRule result (λ rule. IsTrue (is_executable rule))
found-executable told result h =
    returned-rule (λ rule. IsTrue (is_executable rule)) (found_of told) result h (λ rule e.
    let p = (found-way told rule e).2 in
    IsRuleOf-executable p.0 p.1 rule p.3)

pub found-simulated : (told whole : WayOrRefusal) (result : Result (UnwindResult UnwindRuleX86_64) PeUnwinderError)
    → whole ≡ told → TellsFound IsMissingStackData (found_of told) result → IfRule result (Simulates outcome (computed_of whole))
found-simulated told whole result same h =
    returned-rule (Simulates outcome (computed_of whole)) (found_of told) result h
    (λ rule e first old new memory address answers.
    let p = found-way told rule e in
    ap (λ t. computed_of t memory old) (same ∙ p.1) ∙ Simulates-way rule p.0 p.2 first old new memory address answers)

-- a function that the table does not have
leaf-rule : rule_along (by_codes []) ≡ Some JustReturn
unfolding rule_of_operations rule_of
leaf-rule = refl

pub leaf-found : (whole : WayOrRefusal) → whole ≡ Ok (by_codes [])
    → TellsFound IsMissingStackData (found_of whole) (Ok (ExecRule JustReturn))
leaf-found whole same =
    let found : found_of whole ≡ Ok (Some JustReturn) = ap found_of same ∙ ap Ok leaf-rule in
    subst (λ f. TellsFound IsMissingStackData f (Ok (ExecRule JustReturn))) (sym found) refl

pub leaf-simulated : (whole : WayOrRefusal) → whole ≡ Ok (by_codes [])
    → Simulates outcome (computed_of whole) JustReturn
leaf-simulated whole same = λ first old new memory address answers.
    ap (λ t. computed_of t memory old) same
    ∙ Simulates-way JustReturn (by_codes []) (0, [], refl, (refl, refl)) first old new memory address answers

-- the rule that the bytes give
pub rule-simulates : (sections : Sections) (address : ℕ) (first : Bool) (rule : UnwindRuleX86_64)
    → found_at sections address first ≡ Ok (Some rule) → Simulates outcome (computed_at sections address first) rule
unfolding found_at computed_at
rule-simulates sections address first rule found =
    let told = way_at sections address first in
    found-simulated told told (Ok (ExecRule rule)) refl
    (subst (λ f. TellsFound IsMissingStackData f (Ok (ExecRule rule))) (sym found) refl)
