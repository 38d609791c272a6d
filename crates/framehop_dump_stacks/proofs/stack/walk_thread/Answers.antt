use Rattle.std.proofs.Common.{◌∙◌, sym, rules, Some, ap}
use Rattle.std.specs.Prelude.{option_map}
use Rattle.framehop_core.specs.CodeAddress.{FrameLocation}
use Rattle.framehop.specs.Modules.{UnwinderView}
use Rattle.framehop_backtrace.specs.Rows.{Finding, or_else}
use Rattle.framehop_frames.specs.Notes.{noted_from, NotedStack}
use Rattle.framehop_frames.specs.Rows.{debug_rows, rows_in}
use Rattle.framehop_frames.specs.Walker.{row_limits}
use Rattle.framehop_frames.specs.Stack.{stack_from}
use Rattle.framehop_dumps.specs.Dump.{dump_view, memory_in}
use Rattle.framehop_dump_stacks.specs.Thread.{code_in, dumped_from}
use Rattle.framehop_dump_stacks.proofs.stack.walk_thread.Goals as goal

pub returns-clause-walked : goal.returns-clause-walked
returns-clause-walked g c = λ sound.
    let walker = g.U.Steps.walker in
    let files = c.args.files.now in
    let mappings = c.args.process.now.mappings in
    let dump = dump_view c.args.dump.now in
    let start = c.in-Some.start in
    let unwinder = c.unwinder-unwinder.result.now in
    let view = g.U.Unwinder.unwinder_view unwinder in
    let rows-are = g.met.U.Steps.rows_by_modules unwinder in
    let walked = c.in_ok-stack.ensures.walked (search rules) in
    let by-rows = ap (λ (rows : FrameLocation → Finding). stack_from walker c.args.limit view.modules (λ location. or_else (rows location) (debug_rows (walker.row_in row_limits) files mappings location)) (memory_in dump) (code_in dump files mappings) start) rows-are in
    let by-view = ap (λ (v : UnwinderView). stack_from walker c.args.limit v.modules (rows_in walker files mappings v.modules) (memory_in dump) (code_in dump files mappings) start) c.unwinder-unwinder.ensures in
    walked ∙ by-rows ∙ by-view ∙ ap (dumped_from walker g.U.Dumped.begins c.args.limit files mappings c.args.process.now.unwinder.modules dump) (sym c.in-Some.is ∙ c.begin.ensures)

pub returns-clause-noted : goal.returns-clause-noted
returns-clause-noted g c = λ sound.
    let walker = g.U.Steps.walker in
    let files = c.args.files.now in
    let mappings = c.args.process.now.mappings in
    let dump = dump_view c.args.dump.now in
    let start = c.in-Some.start in
    let unwinder = c.unwinder-unwinder.result.now in
    let view = g.U.Unwinder.unwinder_view unwinder in
    let rows-are = g.met.U.Steps.rows_by_modules unwinder in
    let noted = c.in_ok-stack.ensures.noted (search rules) in
    let by-rows = ap (λ (rows : FrameLocation → Finding). noted_from walker c.args.limit view.modules (λ location. or_else (rows location) (debug_rows (walker.row_in row_limits) files mappings location)) (memory_in dump) (code_in dump files mappings) start) rows-are in
    let by-view = ap (λ (v : UnwinderView). noted_from walker c.args.limit v.modules (rows_in walker files mappings v.modules) (memory_in dump) (code_in dump files mappings) start) c.unwinder-unwinder.ensures in
    let by-start = ap (option_map (noted_from walker c.args.limit c.args.process.now.unwinder.modules (rows_in walker files mappings c.args.process.now.unwinder.modules) (memory_in dump) (code_in dump files mappings))) (sym c.in-Some.is ∙ c.begin.ensures) in
    ap (λ (stack : NotedStack g.row.U-UnwindRegs.Denot). Some stack) (noted ∙ by-rows ∙ by-view) ∙ by-start
