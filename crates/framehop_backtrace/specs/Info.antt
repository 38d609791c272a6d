-- Whether PE or compact unwind info unwinds a frame.
use Rattle.std.specs.Prelude.{ℕ, ◌-◌, Bool, true, false, is_ok, List, Option, Some, None, Result, Ok, Err}
use Rattle.framehop_core.specs.CodeAddress.{FrameLocation, lookup_address, is_first_frame}
use Rattle.framehop_core.specs.Memory.{Memory}
use Rattle.framehop_pe.specs.declared.pe.PeUnwinderError.{PeUnwinderError}
use Rattle.framehop.specs.Lookup.{EntryAt, fde_entry, rule_entry, pe_entry, entry_at}
use Rattle.framehop.specs.Modules.{ModuleView, UnwindData, covering}
use Rattle.framehop.specs.Unwinding.{Readers}
use Rattle.framehop.specs.declared.modules.UnwinderError.{UnwinderError}

-- PE unwind info has a rule, or values that can be computed
abbrev pub is_by_pe : {Rule Regs : Type 0} → Result (Option Rule) PeUnwinderError
    → Result (ℕ × Regs) PeUnwinderError → Bool
is_by_pe (Ok (Some rule)) computed = true
is_by_pe (Ok None) computed = is_ok computed
is_by_pe (Err error) computed = false

module _ {Rule Regs : Type 0} (readers : Readers Rule Regs) (regs : Regs) (memory : Memory) where
  -- PE or compact unwind info is what a frame is unwound by: that has a rule, or its values can be computed
  abbrev pub is_by_entry : ℕ → Bool → Result (EntryAt Rule) UnwinderError → Bool
  is_by_entry relative first (Ok (pe_entry sections)) =
      is_by_pe (readers.pe_found sections relative first) (readers.pe_computed sections relative first memory regs)
  is_by_entry relative first (Ok (rule_entry rule)) = true
  is_by_entry relative first (Ok (fde_entry fde)) = false
  is_by_entry relative first (Err error) = false

  -- unwind data unwinds an address: by PE or by compact unwind info
  abbrev pub is_by_data : UnwindData → ℕ → Bool → Bool
  is_by_data unwind_data relative first =
      is_by_entry relative first (entry_at readers.compact unwind_data relative first)

  -- so does the module that covers it
  abbrev pub is_by_module : ℕ → Bool → Option ModuleView → Bool
  is_by_module address first (Some m) = is_by_data m.unwind_data (address - m.base_avma) first
  is_by_module address first None = false

  -- the covering module's PE or compact unwind info unwinds the frame
  abbrev pub is_by_info : List ModuleView → FrameLocation → Bool
  is_by_info modules location =
      is_by_module (lookup_address location) (is_first_frame location) (covering modules (lookup_address location))
