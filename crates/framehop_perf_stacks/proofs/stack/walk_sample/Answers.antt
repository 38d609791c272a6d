-- The stack of a sample is that from its registers on, by the modules of its process, over the bytes that were copied.
use Rattle.std.proofs.Common.{◌∙◌, sym, rules, Some, ap, false}
use Rattle.framehop_core.specs.CodeAddress.{FrameLocation}
use Rattle.framehop.specs.Modules.{UnwinderView}
use Rattle.framehop.specs.StackBytes.{memory_of_bytes}
use Rattle.framehop_backtrace.specs.Rows.{Finding, or_else}
use Rattle.framehop_frames.specs.Code.{bytes_after, code_of}
use Rattle.framehop_frames.specs.Notes.{noted_from, NotedStack}
use Rattle.framehop_frames.specs.Rows.{debug_rows, rows_in}
use Rattle.framehop_frames.specs.Walker.{row_limits}
use Rattle.framehop_frames.specs.Stack.{stack_from}
use Rattle.framehop_perf_stacks.specs.Samples.{sampled_from, noted_sample}
use Rattle.framehop_perf_stacks.proofs.stack.walk_sample.Goals as goal

pub returns-clause-walked : goal.returns-clause-walked
returns-clause-walked g c = λ sound.
    let walker = g.U.Steps.walker in
    let files = c.args.files.now in
    let process = c.args.process.now in
    let mappings = process.mappings in
    let start = c.in-Some.start in
    let memory = memory_of_bytes start.sp c.args.copied.now in
    let code = code_of (bytes_after start.sp c.args.copied.now) (λ address. false) files mappings in
    let unwinder = c.unwinder-unwinder.result.now in
    let view = g.U.Unwinder.unwinder_view unwinder in
    let rows-are = g.met.U.Steps.rows_by_modules unwinder in
    let walked = c.in_ok-stack.ensures.walked (search rules) in
    let by-rows = ap (λ (rows : FrameLocation → Finding). stack_from walker c.args.limit view.modules (λ location. or_else (rows location) (debug_rows (walker.row_in row_limits) files mappings location)) memory code start) rows-are in
    let by-view = ap (λ (v : UnwinderView). stack_from walker c.args.limit v.modules (rows_in walker files mappings v.modules) memory code start) c.unwinder-unwinder.ensures in
    walked ∙ by-rows ∙ by-view ∙ ap (sampled_from walker c.args.limit files mappings process.unwinder.modules c.args.copied.now) (sym c.in-Some.is)

pub returns-clause-noted : goal.returns-clause-noted
returns-clause-noted g c = λ sound.
    let walker = g.U.Steps.walker in
    let files = c.args.files.now in
    let process = c.args.process.now in
    let mappings = process.mappings in
    let start = c.in-Some.start in
    let memory = memory_of_bytes start.sp c.args.copied.now in
    let code = code_of (bytes_after start.sp c.args.copied.now) (λ address. false) files mappings in
    let unwinder = c.unwinder-unwinder.result.now in
    let view = g.U.Unwinder.unwinder_view unwinder in
    let rows-are = g.met.U.Steps.rows_by_modules unwinder in
    let noted = c.in_ok-stack.ensures.noted (search rules) in
    let by-rows = ap (λ (rows : FrameLocation → Finding). noted_from walker c.args.limit view.modules (λ location. or_else (rows location) (debug_rows (walker.row_in row_limits) files mappings location)) memory code start) rows-are in
    let by-view = ap (λ (v : UnwinderView). noted_from walker c.args.limit v.modules (rows_in walker files mappings v.modules) memory code start) c.unwinder-unwinder.ensures in
    ap (λ (stack : NotedStack g.row.U-UnwindRegs.Denot). Some stack) (noted ∙ by-rows ∙ by-view)
    ∙ ap (noted_sample walker c.args.limit files mappings process.unwinder.modules c.args.copied.now) (sym c.in-Some.is)
