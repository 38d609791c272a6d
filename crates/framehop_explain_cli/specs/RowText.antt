-- Rows of call frame tables as text, in the words of `readelf --debug-dump=frames-interp` (GNU Binutils).
use Rattle.std.specs.Prelude.{ℕ, ℤ, List, [], ◌∷◌, ◌++◌, codes, Option, Some, None, unsigned_abs, if◌then◌else◌}
use Rattle.std.specs.List.{flat_map, range_with_len, slice_get}
use Rattle.std.specs.Fmt.{decimal}
use Rattle.std.specs.Int.{is_negative}
use Rattle.framehop_cfi.specs.Row.{Row, rule_of}
use Rattle.framehop_cfi.specs.declared.rule.Register.{Register}
use Rattle.framehop_cfi.specs.declared.rule.CfaRule.{CfaRule}
use Rattle.framehop_cfi.specs.declared.rule.CfaRule.TheVariants as cfa
use Rattle.framehop_cfi.specs.declared.rule.RegisterRule.{RegisterRule}
use Rattle.framehop_cfi.specs.declared.rule.RegisterRule.TheVariants as rule

-- the registers of x86_64 by their DWARF numbers (System V ABI, AMD64 supplement, figure 3.36): 16 is the return
-- address
abbrev pub x86_64_names : List (List ℕ)
x86_64_names =
    codes "rax" ∷ codes "rdx" ∷ codes "rcx" ∷ codes "rbx" ∷ codes "rsi" ∷ codes "rdi" ∷ codes "rbp" ∷ codes "rsp"
    ∷ codes "r8" ∷ codes "r9" ∷ codes "r10" ∷ codes "r11" ∷ codes "r12" ∷ codes "r13" ∷ codes "r14" ∷ codes "r15"
    ∷ codes "ra" ∷ []

-- those of aarch64 (DWARF for the Arm 64-bit Architecture, section 4.1): 30 is the link register, 31 the stack pointer
abbrev pub aarch64_names : List (List ℕ)
aarch64_names =
    codes "x0" ∷ codes "x1" ∷ codes "x2" ∷ codes "x3" ∷ codes "x4" ∷ codes "x5" ∷ codes "x6" ∷ codes "x7"
    ∷ codes "x8" ∷ codes "x9" ∷ codes "x10" ∷ codes "x11" ∷ codes "x12" ∷ codes "x13" ∷ codes "x14" ∷ codes "x15"
    ∷ codes "x16" ∷ codes "x17" ∷ codes "x18" ∷ codes "x19" ∷ codes "x20" ∷ codes "x21" ∷ codes "x22" ∷ codes "x23"
    ∷ codes "x24" ∷ codes "x25" ∷ codes "x26" ∷ codes "x27" ∷ codes "x28" ∷ codes "x29" ∷ codes "ra" ∷ codes "sp" ∷ []

-- the name of a register, or its number
abbrev pub name_or_number : Option (List ℕ) → ℕ → List ℕ
name_or_number (Some name) number = name
name_or_number None number = codes "r" ++ decimal number

abbrev pub register_text : List (List ℕ) → Register → List ℕ
register_text names register = name_or_number (slice_get names register.0) register.0

-- a number of bytes with its sign
unfoldable pub offset_text : ℤ → List ℕ
offset_text offset = (if is_negative offset then codes "-" else codes "+") ++ decimal (unsigned_abs offset)

-- how the CFA is found
abbrev pub cfa_text : List (List ℕ) → CfaRule → List ℕ
cfa_text names (cfa.RegisterAndOffset register offset) = register_text names register ++ offset_text offset
cfa_text names (cfa.Expression expression) = codes "exp"

-- how a register is found: at the CFA plus an offset (c), as that sum (v), in another register, or by an expression
abbrev pub rule_text : List (List ℕ) → RegisterRule → List ℕ
rule_text names rule.Undefined = codes "u"
rule_text names rule.SameValue = codes "s"
rule_text names (rule.Offset offset) = codes "c" ++ offset_text offset
rule_text names (rule.ValOffset offset) = codes "v" ++ offset_text offset
rule_text names (rule.Register register) = register_text names register
rule_text names (rule.Expression expression) = codes "exp"
rule_text names (rule.ValExpression expression) = codes "vexp"

-- a register with its rule, if it has one
abbrev pub ruled_text : List (List ℕ) → Register → Option RegisterRule → List ℕ
ruled_text names register None = []
ruled_text names register (Some rule) =
    ((codes " " ++ register_text names register) ++ codes "=") ++ rule_text names rule

abbrev pub column_text : List (List ℕ) → Row → ℕ → List ℕ
column_text names row number = ruled_text names (record { 0 = number }) (rule_of row.rules (record { 0 = number }))

-- those of so many registers from a number on that have a rule
unfoldable pub columns_text : List (List ℕ) → Row → ℕ → ℕ → List ℕ
columns_text names row number count = flat_map (column_text names row) (range_with_len number count)

-- a row: how the CFA is found, then the registers below 256 that have a rule, in the order of their numbers
abbrev pub row_text : List (List ℕ) → Row → List ℕ
row_text names row = (codes "CFA=" ++ cfa_text names row.cfa) ++ columns_text names row 0 256
