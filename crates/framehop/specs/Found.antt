-- What a look-up of a module has found, as what it is.
use Rattle.std.specs.Prelude.{Result, Ok, Err}
use Rattle.framehop.specs.Lookup.{DataAt, fde_data, compact_data, pe_data, EntryAt, fde_entry, rule_entry, pe_entry}
use Rattle.framehop.specs.declared.lookup.UnwindDataAt.{UnwindDataAt}
use Rattle.framehop.specs.declared.lookup.UnwindDataAt.TheVariants.{Fde, Compact, Pe}
use Rattle.framehop.specs.declared.lookup.UnwindEntry.{UnwindEntry}
use Rattle.framehop.specs.declared.lookup.UnwindEntry.TheVariants.{Fde as FdeEntry, Rule as RuleEntry, Pe as PeEntry}
use Rattle.framehop.specs.declared.modules.UnwinderError.{UnwinderError}

-- the data that answers an address, or why none does
abbrev pub found_data : {D : Type 0} → Result (UnwindDataAt D) UnwinderError → Result DataAt UnwinderError
found_data (Ok (Fde fde)) = Ok (fde_data fde)
found_data (Ok (Compact info)) = Ok (compact_data info.now)
found_data (Ok (Pe info)) = Ok (pe_data info.now)
found_data (Err error) = Err error

-- what a frame is unwound by
abbrev pub found_entry : {D Rule : Type 0} → Result (UnwindEntry D Rule) UnwinderError
    → Result (EntryAt Rule) UnwinderError
found_entry (Ok (FdeEntry fde)) = Ok (fde_entry fde)
found_entry (Ok (RuleEntry rule)) = Ok (rule_entry rule)
found_entry (Ok (PeEntry info)) = Ok (pe_entry info.now)
found_entry (Err error) = Err error

-- a fact of the rule, where one is found
abbrev pub HasRule : {D Rule : Type 0} → (Rule → Type 0) → UnwindEntry D Rule → Type 0
HasRule P (FdeEntry fde) = Unit {0}
HasRule P (RuleEntry rule) = P rule
HasRule P (PeEntry info) = Unit {0}
