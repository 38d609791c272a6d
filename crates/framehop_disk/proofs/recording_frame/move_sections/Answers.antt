use Rattle.std.proofs.Common.{◌≡◌, ◌-◌, ◌+◌, ◌∙◌, rules, sym, arith}
use Rattle.std.specs.Prelude.{count_ones}
use Rattle.framehop_disk.specs.RecordingFrame.{frame_of, sections_moved}
use Rattle.framehop_disk.specs.Wanted.{sum_64}
use Rattle.framehop_disk.proofs.RecordingFrameLemmas.{moved-none, moved-some}
use Rattle.framehop_disk.proofs.recording_frame.move_sections.Goals as goal

pub loop-section-preserved : goal.loop-section-preserved
loop-section-preserved c =
    let count = count_ones c.args.header.now.features in
    let rest : sections_moved c.args.header.now.records (sum_64 c.loop-section.at 16) (count - (c.loop-section._section + 1)) c.move_section.new.frame
    ≡ frame_of c.args.header.now c.args.frame.now =
    sym (moved-some c.args.header.now.records c.loop-section.at c.loop-section._section count c.loop-section.frame c.move_section.new.frame
    (omega arith) (search rules)) ∙ c.loop-section.invariant in
    search (rules, rest)

pub returns-then-not-move_section : goal.returns-then-not-move_section
returns-then-not-move_section c =
    sym c.loop-section.invariant
    ∙ moved-none c.args.header.now.records c.loop-section.at c.loop-section._section (count_ones c.args.header.now.features) c.loop-section.frame
    (omega arith) (search rules)
