use Rattle.std.proofs.Common.{rules, ◌≡◌, ◌∙◌, true, false, None}
use Rattle.framehop_object.specs.Elf.UnwindSections.{bytes_in, has_eh_frame}
use Rattle.framehop_processes.specs.ObjectFiles.{module_with, debug_frame_with}
use Rattle.framehop_processes.proofs.FrameLemmas.{chosen, not-chosen}
use Rattle.framehop_processes.proofs.object_file.modules_in.Goals as goal

pub returns-in_ok-debug_frame_in-clause-loaded : goal.returns-in_ok-debug_frame_in-clause-loaded
returns-in_ok-debug_frame_in-clause-loaded c =
    let elf = c.args.elf.now in
    let frames = bytes_in c.args.debug_frame in
    let is : has_eh_frame elf ≡ true = search rules in
    c.in_ok-module.ensures.loaded ∙ chosen (has_eh_frame elf) (module_with elf) None frames is

pub returns-in_ok-debug_frame_in-clause-debug_frame : goal.returns-in_ok-debug_frame_in-clause-debug_frame
returns-in_ok-debug_frame_in-clause-debug_frame c =
    let elf = c.args.elf.now in
    let frames = bytes_in c.args.debug_frame in
    let is : has_eh_frame elf ≡ true = search rules in
    c.in_ok-debug_frame_in.ensures ∙ chosen (has_eh_frame elf) (debug_frame_with elf) frames None is

pub returns-in_ok-debug_frame_in-2-clause-loaded : goal.returns-in_ok-debug_frame_in-2-clause-loaded
returns-in_ok-debug_frame_in-2-clause-loaded c =
    let elf = c.args.elf.now in
    let frames = bytes_in c.args.debug_frame in
    let is : has_eh_frame elf ≡ false = search rules in
    c.in_ok-module-2.ensures.loaded ∙ not-chosen (has_eh_frame elf) (module_with elf) None frames is

pub returns-in_ok-debug_frame_in-2-clause-debug_frame : goal.returns-in_ok-debug_frame_in-2-clause-debug_frame
returns-in_ok-debug_frame_in-2-clause-debug_frame c =
    let elf = c.args.elf.now in
    let frames = bytes_in c.args.debug_frame in
    let is : has_eh_frame elf ≡ false = search rules in
    c.in_ok-debug_frame_in-2.ensures ∙ not-chosen (has_eh_frame elf) (debug_frame_with elf) frames None is
