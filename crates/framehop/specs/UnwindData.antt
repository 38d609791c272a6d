-- The unwind data of a module in memory, as what it is.
use Rattle.std.specs.Prelude.{List, ℕ}
use Rattle.framehop.specs.CallFrames.{header_frames}
use Rattle.framehop.specs.Modules.{UnwindData, no_unwind_data, call_frames, pe_sections, compact_info}
use Rattle.framehop.specs.declared.unwind_data.ModuleUnwindDataInternal.{ModuleUnwindDataInternal}
use Rattle.framehop.specs.declared.unwind_data.ModuleUnwindDataInternal.TheVariants.{EhFrameHdrAndEhFrame, DwarfCfiIndexAndFrames, PeUnwindInfo, CompactUnwindInfoAndEhFrame, None as NoUnwindData}

-- the unwind data of a module, as a value
abbrev pub unwind_data_of : {D : Type 0} → (D → List ℕ) → ModuleUnwindDataInternal D → UnwindData
unwind_data_of contents (EhFrameHdrAndEhFrame d) = call_frames (header_frames d)
unwind_data_of contents (DwarfCfiIndexAndFrames frames) = call_frames frames
unwind_data_of contents (PeUnwindInfo sections) = pe_sections sections
unwind_data_of contents (CompactUnwindInfoAndEhFrame compact) = compact_info compact
unwind_data_of contents (NoUnwindData refusal) = no_unwind_data refusal
