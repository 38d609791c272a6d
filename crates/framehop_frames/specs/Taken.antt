-- What a walk took for the caller of a frame, beside what the library's step tells for it.
use Rattle.std.specs.Prelude.{Bool, true, false, Result, Ok, Err, if◌then◌else◌}
use Rattle.framehop_backtrace.specs.declared.frame.BacktraceEnd.{BacktraceEnd}
use Rattle.framehop_backtrace.specs.declared.frame.BacktraceEnd.TheVariants.{Root, FramePointerZero, CfaUnknown, ReturnAddressUnknown, DidNotAdvance, NoCaller}
use Rattle.framehop_backtrace.specs.declared.frame.FoundBy.{FoundBy}
use Rattle.framehop_backtrace.specs.declared.frame.FoundBy.TheVariants.{Cfi, Run as ByRun, FramePointer as ByFramePointer, Guess}
use Rattle.framehop_explain.specs.declared.source.RowSource.TheVariants.{Row as HasRow}
use Rattle.framehop_explain.specs.declared.source.Source.{Source}
use Rattle.framehop_explain.specs.declared.source.Source.TheVariants.{Fde, CompactFde, Pe, Compact}
use Rattle.framehop_explain.specs.declared.told.Told.{Told}
use Rattle.framehop_explain.specs.declared.told.Told.TheVariants.{Rule, Computed, Refused}
use Rattle.framehop_frames.specs.declared.note.Data.{Data}
use Rattle.framehop_frames.specs.declared.note.Data.TheVariants as has
use Rattle.framehop_frames.specs.declared.note.Taken.{Taken}
use Rattle.framehop_frames.specs.declared.note.Taken.TheVariants.{Step, Row, DebugFrame, Call, Run, FramePointer}

-- unwind data tells the caller, or that there is none, or that it can't be told
abbrev pub is_by_row : Result FoundBy BacktraceEnd → Bool
is_by_row (Ok Cfi) = true
is_by_row (Err Root) = true
is_by_row (Err CfaUnknown) = true
is_by_row (Err ReturnAddressUnknown) = true
is_by_row (Err DidNotAdvance) = true
is_by_row caller = false

-- the code was run to its return
abbrev pub is_by_run : Result FoundBy BacktraceEnd → Bool
is_by_run (Ok ByRun) = true
is_by_run caller = false

-- after a guess the frame pointer was followed
abbrev pub is_by_frame_pointer : Result FoundBy BacktraceEnd → Bool
is_by_frame_pointer (Ok ByFramePointer) = true
is_by_frame_pointer (Err FramePointerZero) = true
is_by_frame_pointer (Err NoCaller) = true
is_by_frame_pointer caller = false

-- a row, and whether the library has a rule for it or computes the return address
abbrev pub row_of : {R : Type 0} → Told R → Data
row_of (Rule rule) = has.Row
row_of (Computed address) = has.Row
row_of (Refused error) = has.RefusedRow

-- no row: the library has the rule of a function's start, or nothing
abbrev pub start_of : {R : Type 0} → Told R → Data
start_of (Rule rule) = has.Start
start_of (Computed address) = has.Start
start_of (Refused error) = has.Nothing

-- what the module of a frame has for it
abbrev pub data_of : {R : Type 0} → Source → Told R → Data
data_of (Fde section offset HasRow) told = row_of told
data_of (CompactFde function offset HasRow) told = row_of told
data_of (Pe source) told = has.Info
data_of (Compact source) told = has.Info
data_of source told = start_of told

-- in a module
abbrev pub taken_by : Data → Result FoundBy BacktraceEnd → Taken
taken_by has.Row caller = Step
taken_by has.Info caller = Step
taken_by has.RefusedRow caller = Row
taken_by has.Start caller =
    if is_by_row caller then DebugFrame else (if is_by_run caller then Run
    else (if is_by_frame_pointer caller then FramePointer else Step))
taken_by has.Nothing caller =
    if is_by_row caller then DebugFrame else (if is_by_run caller then Run else Step)

-- in no module
abbrev pub taken_outside : Result FoundBy BacktraceEnd → Taken
taken_outside (Ok Guess) = Call
taken_outside caller = Step
