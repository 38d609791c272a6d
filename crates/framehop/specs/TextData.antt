-- The code of a module in memory, as what it is.
use Rattle.std.specs.Prelude.{List, ℕ}
use Rattle.framehop_macho.specs.Unwinder.{Text}
use Rattle.framehop.specs.declared.unwind_data.TextByteData.{TextByteData}

-- code, and where it begins
abbrev pub text_data : {D : Type 0} → (D → List ℕ) → TextByteData D → Text
text_data contents t = record { from = t.offset_from_base; bytes = contents t.bytes }
