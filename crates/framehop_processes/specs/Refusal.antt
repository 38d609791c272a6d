-- Why a change is refused, where a list of modules is not changed.
use Rattle.framehop.specs.declared.modules.ModuleListError.{ModuleListError}
use Rattle.framehop.specs.declared.modules.ModuleListError.TheVariants as list
use Rattle.framehop_processes.specs.declared.error.ProcessesError.{ProcessesError}
use Rattle.framehop_processes.specs.declared.error.ProcessesError.TheVariants.{OutOfMemory, GenerationsExhausted}

-- the refusal of a list of modules, as one of a process
abbrev pub refusal_of : ModuleListError → ProcessesError
refusal_of list.OutOfMemory = OutOfMemory
refusal_of list.GenerationsExhausted = GenerationsExhausted
