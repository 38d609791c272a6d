-- The compact unwind info of a module (framehop 0.16.0, `ModuleUnwindDataInternal`).
use Rattle.std.specs.Prelude.{Option}
use Rattle.framehop_macho.specs.Unwinder.{Module}
use Rattle.framehop_macho.specs.declared.macho.CompactUnwindInfoUnwinderError.{CompactUnwindInfoUnwinderError}
use Rattle.framehop_macho.specs.declared.macho.CompactUnwindInfoUnwinderError.TheVariants.{BadDwarfUnwinding}
use Rattle.framehop.specs.declared.modules.UnwinderError.{UnwinderError}
use Rattle.framehop.specs.declared.modules.UnwinderError.TheVariants.{CompactUnwindInfo, Dwarf}
use Rattle.framehop.specs.CallFrames.{CallFrames}

-- why compact unwind info does not unwind a frame: what call frame information refuses is its refusal
abbrev pub refusal_of : CompactUnwindInfoUnwinderError → UnwinderError
refusal_of (BadDwarfUnwinding error) = Dwarf error
refusal_of error = CompactUnwindInfo error

-- the info with the module's code and stubs, and `__eh_frame`, if it has one
pub record CompactData : Type 0 where
  pub info : Module
  pub frames : Option CallFrames
