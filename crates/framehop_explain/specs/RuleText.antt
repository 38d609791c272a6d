-- Unwind rules as text: the rule by its name and its fields, then where the CFA and the caller's registers are. The CFA is
-- the caller's stack pointer (DWARF 5 section 6.4).
use Rattle.std.specs.Prelude.{ℕ, ◌+◌, ◌*◌, ℤ, pos, ◌*ℤ◌, ◌-ℤ◌, unsigned_abs, List, [], ◌∷◌, ◌++◌, length, codes, if◌then◌else◌}
use Rattle.framehop_explain.specs.Pieces.{text_of}
use Rattle.std.specs.Int.{is_negative}
use Rattle.std.specs.Fmt.{decimal, signed_decimal}
use Rattle.framehop_core.specs.X86_64.Ordering.{ordering}
use Rattle.framehop_core.specs.declared.aarch64.unwind_rule.UnwindRuleAarch64.{UnwindRuleAarch64}
use Rattle.framehop_core.specs.declared.aarch64.unwind_rule.UnwindRuleAarch64.TheVariants as aarch64
use Rattle.framehop_core.specs.declared.x86_64.unwind_rule.UnwindRuleX86_64.{UnwindRuleX86_64}
use Rattle.framehop_core.specs.declared.x86_64.unwind_rule.UnwindRuleX86_64.TheVariants as x86_64
use Rattle.framehop_core.specs.declared.x86_64.unwindregs.Reg.{Reg}
use Rattle.framehop_core.specs.declared.x86_64.unwindregs.Reg.TheVariants.{RAX, RDX, RCX, RBX, RSI, RDI, RBP, RSP, R8, R9, R10, R11, R12, R13, R14, R15}

-- a place at a distance from the CFA, in bytes
unfoldable pub distance_text : ℤ → List ℕ
distance_text distance =
    (if is_negative distance then codes "CFA - " else codes "CFA + ") ++ decimal (unsigned_abs distance)

-- a place at an offset from a base in words of 8 bytes, where the CFA is so many bytes above that base
unfoldable pub cfa_place : ℤ → ℕ → List ℕ
cfa_place offset_by_8 cfa = distance_text ((offset_by_8 *ℤ pos 8) -ℤ pos cfa)

-- the name of a register
abbrev pub register_name : Reg → List ℕ
register_name RAX = codes "rax"
register_name RDX = codes "rdx"
register_name RCX = codes "rcx"
register_name RBX = codes "rbx"
register_name RSI = codes "rsi"
register_name RDI = codes "rdi"
register_name RBP = codes "rbp"
register_name RSP = codes "rsp"
register_name R8 = codes "r8"
register_name R9 = codes "r9"
register_name R10 = codes "r10"
register_name R11 = codes "r11"
register_name R12 = codes "r12"
register_name R13 = codes "r13"
register_name R14 = codes "r14"
register_name R15 = codes "r15"

-- registers that are popped one after another: the last one lies next to the return address, which is at CFA - 8
unfoldable pub pops_text : List Reg → List ℕ
pops_text [] = []
pops_text (register ∷ registers) = text_of (
    codes "; " ∷ register_name register ∷ codes " at CFA - " ∷ decimal ((length registers + 2) * 8)
    ∷ pops_text registers ∷ [])

-- registers that are popped from an offset of the stack pointer on, in words of 8 bytes: the CFA is above them and the
-- return address
unfoldable pub popped_text : ℕ → List Reg → List ℕ
popped_text x registers =
    codes "CFA = rsp + " ++ (decimal ((x + length registers + 1) * 8) ++ pops_text registers)

-- a rule of x86_64
abbrev pub x86_64_rule_text : UnwindRuleX86_64 → List ℕ
x86_64_rule_text x86_64.EndOfStack = codes "EndOfStack: end of the stack"
x86_64_rule_text x86_64.JustReturn = codes "JustReturn: CFA = rsp + 8; return address at CFA - 8"
x86_64_rule_text x86_64.JustReturnIfFirstFrameOtherwiseFp =
    codes "JustReturnIfFirstFrameOtherwiseFp: in a first frame CFA = rsp + 8, else CFA = rbp + 16 and rbp at CFA - 16; return address at CFA - 8"
x86_64_rule_text (x86_64.OffsetSp x) = text_of (
    codes "OffsetSp { sp_offset_by_8: " ∷ decimal x
    ∷ codes " }: CFA = rsp + " ∷ decimal (x * 8) ∷ codes "; return address at CFA - 8" ∷ [])
x86_64_rule_text (x86_64.OffsetSpAndRestoreBp x y) = text_of (
    codes "OffsetSpAndRestoreBp { sp_offset_by_8: " ∷ decimal x
    ∷ codes ", bp_storage_offset_from_sp_by_8: " ∷ signed_decimal y
    ∷ codes " }: CFA = rsp + " ∷ decimal (x * 8)
    ∷ codes "; rbp at " ∷ cfa_place y (x * 8)
    ∷ codes "; return address at CFA - 8" ∷ [])
x86_64_rule_text x86_64.UseFramePointer = codes "UseFramePointer: CFA = rbp + 16; rbp at CFA - 16; return address at CFA - 8"
x86_64_rule_text (x86_64.UseFramePointerWithOffsets x y) = text_of (
    codes "UseFramePointerWithOffsets { sp_offset_from_bp_by_8: " ∷ decimal x
    ∷ codes ", bp_storage_offset_from_bp_by_8: " ∷ signed_decimal y
    ∷ codes " }: CFA = rbp + " ∷ decimal (x * 8)
    ∷ codes "; rbp at " ∷ cfa_place y (x * 8)
    ∷ codes "; return address at CFA - 8" ∷ [])
x86_64_rule_text (x86_64.OffsetSpAndPopRegisters x count number) = text_of (
    codes "OffsetSpAndPopRegisters { sp_offset_by_8: " ∷ decimal x
    ∷ codes ", register_count: " ∷ decimal count
    ∷ codes ", encoded_registers_to_pop: " ∷ decimal number
    ∷ codes " }: " ∷ popped_text x (ordering count number)
    ∷ codes "; return address at CFA - 8" ∷ [])

-- a rule of aarch64
abbrev pub aarch64_rule_text : UnwindRuleAarch64 → List ℕ
aarch64_rule_text aarch64.NoOp = codes "NoOp: CFA = sp; return address in lr"
aarch64_rule_text aarch64.NoOpIfFirstFrameOtherwiseFp =
    codes "NoOpIfFirstFrameOtherwiseFp: in a first frame CFA = sp and return address in lr, else CFA = fp + 16, fp at CFA - 16 and return address at CFA - 8"
aarch64_rule_text (aarch64.OffsetSp x) = text_of (
    codes "OffsetSp { sp_offset_by_16: " ∷ decimal x
    ∷ codes " }: CFA = sp + " ∷ decimal (x * 16) ∷ codes "; return address in lr" ∷ [])
aarch64_rule_text (aarch64.OffsetSpIfFirstFrameOtherwiseStackEndsHere x) = text_of (
    codes "OffsetSpIfFirstFrameOtherwiseStackEndsHere { sp_offset_by_16: " ∷ decimal x
    ∷ codes " }: in a first frame CFA = sp + " ∷ decimal (x * 16)
    ∷ codes " and return address in lr, else end of the stack" ∷ [])
aarch64_rule_text (aarch64.OffsetSpAndRestoreLr x z) = text_of (
    codes "OffsetSpAndRestoreLr { sp_offset_by_16: " ∷ decimal x
    ∷ codes ", lr_storage_offset_from_sp_by_8: " ∷ signed_decimal z
    ∷ codes " }: CFA = sp + " ∷ decimal (x * 16)
    ∷ codes "; return address at " ∷ cfa_place z (x * 16) ∷ [])
aarch64_rule_text (aarch64.OffsetSpAndRestoreFpAndLr x y z) = text_of (
    codes "OffsetSpAndRestoreFpAndLr { sp_offset_by_16: " ∷ decimal x
    ∷ codes ", fp_storage_offset_from_sp_by_8: " ∷ signed_decimal y
    ∷ codes ", lr_storage_offset_from_sp_by_8: " ∷ signed_decimal z
    ∷ codes " }: CFA = sp + " ∷ decimal (x * 16)
    ∷ codes "; fp at " ∷ cfa_place y (x * 16)
    ∷ codes "; return address at " ∷ cfa_place z (x * 16) ∷ [])
aarch64_rule_text aarch64.UseFramePointer = codes "UseFramePointer: CFA = fp + 16; fp at CFA - 16; return address at CFA - 8"
aarch64_rule_text (aarch64.UseFramepointerWithOffsets x y z) = text_of (
    codes "UseFramepointerWithOffsets { sp_offset_from_fp_by_8: " ∷ decimal x
    ∷ codes ", fp_storage_offset_from_fp_by_8: " ∷ signed_decimal y
    ∷ codes ", lr_storage_offset_from_fp_by_8: " ∷ signed_decimal z
    ∷ codes " }: CFA = fp + " ∷ decimal (x * 8)
    ∷ codes "; fp at " ∷ cfa_place y (x * 8)
    ∷ codes "; return address at " ∷ cfa_place z (x * 8) ∷ [])
