-- What an epilogue's detector has found, as places.
use Rattle.framehop_analysis.specs.declared.aarch64.instruction_analysis.epilogue.EpilogueDetectorAarch64.{EpilogueDetectorAarch64}
use Rattle.framehop_analysis.specs.Aarch64.Epilogue.{Places}

-- the places that the detector has found so far
abbrev pub places_of : EpilogueDetectorAarch64 → Places
places_of d = record { sp = d.sp_offset; fp = d.fp_offset_from_initial_sp; lr = d.lr_offset_from_initial_sp }
