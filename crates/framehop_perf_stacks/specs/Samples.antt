-- The samples of a recording one after another, and what is told of each: a block or a folded line.
use Rattle.std.specs.Prelude.{◌≡◌, ℕ, zero, suc, ◌+◌, ◌-◌, ◌^◌, min, length, not, unwrap_or, Bool, true, false, ◌&&◌, ◌||◌, nat_eq, nat_lt, nat_le, List, [], ◌∷◌, ◌++◌, codes, decimal, map, count_by, Option, Some, None, Result, Ok, Err, ◌==◌, if◌then◌else◌}
use Rattle.std.specs.BTreeMap.{BTreeMap}
use Rattle.std.specs.Cmp.Lexicographic.{pointwise}
use Rattle.std.specs.Io.KnownBytes.{Appends}
use Rattle.std.specs.List.{flat_map}
use Rattle.std.specs.Result.{result_unwrap_or}
use Rattle.framehop_core.specs.CodeAddress.{FrameLocation}
use Rattle.framehop_core.specs.Memory.{Memory}
use Rattle.framehop.specs.Modules.{ModuleView}
use Rattle.framehop.specs.StackBytes.{memory_of_bytes}
use Rattle.framehop_folded.specs.Folded.{entry_of, IsInOrderOfBytes}
use Rattle.framehop_folded.specs.declared.folded.Folded.{Folded}
use Rattle.framehop_processes.specs.declared.mapping.Mapping.{Mapping}
use Rattle.framehop_recording.specs.Attributes.{AttributeView}
use Rattle.framehop_recording.specs.Numbers.{PERF_RECORD_SAMPLE, PERF_RECORD_LOST}
use Rattle.framehop_recording.specs.Records.{RecordView}
use Rattle.framehop_recording.specs.Sample.{SampleView, UserView, read_chain_view, read_user_view}
use Rattle.framehop_recording.specs.Tasks.{lost_at}
use Rattle.framehop_recording.specs.declared.error.RecordingError.{RecordingError}
use Rattle.framehop_recording.specs.declared.sample.Sample.{Sample}
use Rattle.serde_json.specs.Data.{Members, array}
use Rattle.serde_json.specs.View.{items_of}
use Rattle.framehop_perf_stacks.specs.Bodies.{with_body}
use Rattle.framehop_perf_stacks.specs.Changes.{change_in}
use Rattle.framehop_perf_stacks.specs.Chain.{kernel_lines, kernel_text, frames_of_chain}
use Rattle.framehop_perf_stacks.specs.Counts.{CountsOneMore, HasSampleMore}
use Rattle.framehop_backtrace.specs.declared.frame.BacktraceEnd.{BacktraceEnd}
use Rattle.framehop_backtrace.specs.declared.frame.BacktraceEnd.TheVariants.{Root, Refused}
use Rattle.framehop_core.specs.declared.error.Error.TheVariants.{CouldNotReadStack}
use Rattle.framehop_backtrace.specs.declared.frame.FoundBy.{FoundBy}
use Rattle.framehop_frames.specs.Explained.{shown_with}
use Rattle.framehop_frames.specs.JsonFrames.{frames_data}
use Rattle.framehop_frames.specs.Line.{ShownFrame, plain, head_of, address_of_end as address_of_walk, address_text, end_name, has_guess, mark, mark_of, part_of, frames_text, frame_label, frame_line, last_line}
use Rattle.framehop_backtrace.specs.Code.{Code}
use Rattle.framehop_frames.specs.Code.{bytes_after, code_of}
use Rattle.framehop_frames.specs.Notes.{NotedStack, noted_from, AreStackNotes}
use Rattle.framehop_frames.specs.Rows.{rows_in}
use Rattle.framehop_frames.specs.Stack.{StackView, walked, no_stack, shown_frame, stack_from}
use Rattle.framehop_frames.specs.Walker.{Walker}
use Rattle.framehop_perf_stacks.specs.Ended.{drawn_in}
use Rattle.framehop_perf_stacks.specs.Json.{told_if, time_if, thread_members, stack_members, rest_text, counted_line}
use Rattle.framehop_perf_stacks.specs.Names.{Named, named_in, named_after}
use Rattle.framehop_perf_stacks.specs.Processes.{Mapped, mapped_in, after}
use Rattle.framehop_perf_stacks.specs.Recording.{sample_in}
use Rattle.framehop_perf_stacks.specs.Run.{sample_refusal}
use Rattle.framehop_perf_stacks.specs.Vdso.{has_unread_vdso}
use Rattle.framehop_perf_stacks.specs.declared.changes.Change.{Change}
use Rattle.framehop_perf_stacks.specs.declared.counts.Counts.{Counts}
use Rattle.framehop_processes.specs.declared.files.Files.{Files}
use Rattle.framehop_frames.specs.declared.machine.Start.{Start}
use Rattle.framehop_perf_stacks.specs.declared.names.Names.{Names}
use Rattle.framehop_perf_stacks.specs.declared.processes.MappedProcess.{MappedProcess}
use Rattle.framehop_perf_stacks.specs.declared.run.Options.{Options}
use Rattle.framehop_perf_stacks.specs.declared.sample_stack.SampleAt.{SampleAt}
use Rattle.framehop_perf_stacks.specs.declared.sample_stack.EndedStack.{EndedStack}
use Rattle.framehop_perf_stacks.specs.declared.sample_stack.StackEnd.{StackEnd}
use Rattle.framehop_perf_stacks.specs.declared.sample_stack.StackEnd.TheVariants.{Walked, CallChain, NoStack}

-- what the records before a place lead to: the names of threads, and the mappings of processes
pub record State : Type 0 where
  pub named : Named
  pub mapped : Mapped

-- before the first record
abbrev pub beginning : State
beginning = record { named = λ tid. codes "[unknown]"; mapped = λ pid. [] }

-- the mappings after what a record changes
abbrev pub mapped_by : Result (Option Change) RecordingError → Mapped → Mapped
mapped_by (Ok (Some change)) mapped = after change mapped
mapped_by (Ok None) mapped = mapped
mapped_by (Err refusal) mapped = mapped

-- the names and mappings after a record
abbrev pub state_after : Files → RecordView → State → State
state_after files r state =
    record { named = named_after r state.named; mapped = mapped_by (change_in files r) state.mapped }

-- the state after records, one after another
abbrev pub state_over : Files → List RecordView → State → State
state_over files [] state = state
state_over files (r ∷ records) state = state_over files records (state_after files r state)

-- how many generations records draw at most, one after another
abbrev pub drawn_over : Files → List RecordView → State → ℕ
drawn_over files [] state = 0
drawn_over files (r ∷ records) state =
    drawn_in (change_in files r) state.mapped + drawn_over files records (state_after files r state)

-- that of the names and the processes that there are
abbrev pub state_in : Names → BTreeMap ℕ MappedProcess → State
state_in names processes = record { named = named_in names; mapped = mapped_in processes }

-- they are those of a state
pub record Agrees (names : Names) (processes : BTreeMap ℕ MappedProcess) (state : State) : Type 0 where
  pub named : (tid : ℕ) → named_in names tid ≡ state.named tid
  pub mapped : (pid : ℕ) → mapped_in processes pid ≡ state.mapped pid

-- each sample among records, with the state at it
abbrev pub samples_from : Files → State → List RecordView → List (RecordView × State)
samples_from files state [] = []
samples_from files state (r ∷ records) =
    if r.kind == PERF_RECORD_SAMPLE then (r, state) ∷ samples_from files (state_after files r state) records
    else samples_from files (state_after files r state) records

module _ {Regs : Type 0} (walker : Walker Regs) (limit : ℕ) (files : Files) where
  -- the code of a process, whose stack from a stack pointer on has these bytes, by its mappings
  abbrev pub code_in : List Mapping → List ℕ → ℕ → Code
  code_in mappings bytes sp = code_of (bytes_after sp bytes) (λ address. false) files mappings

  -- the stack over the bytes of a copy by the bytes of modules, from the registers with which it begins
  abbrev pub sampled_from : List Mapping → List ModuleView → List ℕ → Option (Start Regs) → StackView
  sampled_from mappings modules bytes (Some start) =
      stack_from walker limit modules (rows_in walker files mappings modules) (memory_of_bytes start.sp bytes)
      (code_in mappings bytes start.sp) start
  sampled_from mappings modules bytes None = no_stack (codes "no-registers")

  -- what is noted of it
  abbrev pub noted_sample : List Mapping → List ModuleView → List ℕ → Option (Start Regs) → Option (NotedStack Regs)
  noted_sample mappings modules bytes (Some start) =
      Some (noted_from walker limit modules (rows_in walker files mappings modules) (memory_of_bytes start.sp bytes)
      (code_in mappings bytes start.sp) start)
  noted_sample mappings modules bytes None = None

-- where the copy of a stack begins: at the stack pointer
abbrev pub base_of : {Regs : Type 0} → Option (Start Regs) → ℕ
base_of (Some start) = start.sp
base_of None = 0

-- the words of a copy of a stack, which begins at the stack pointer
abbrev pub copied_memory : {Regs : Type 0} → List ℕ → Option (Start Regs) → Memory
copied_memory bytes (Some start) = memory_of_bytes start.sp bytes
copied_memory bytes None = memory_of_bytes 0 bytes

-- notes are these where a stack is to be explained, and else none
abbrev pub NotedIf : Bool → (List (List ℕ) → Type 0) → List (List ℕ) → Type 0
NotedIf true are_notes notes = are_notes notes
NotedIf false are_notes notes = notes ≡ []

-- How the stack of a sample ends: as a walk did over a copy that begins at an address, or as a call chain does, of which no
-- end is told; or there is none, and why.
pub data SampleEnd : Type 0 where
  of_walk : ℕ → BacktraceEnd → SampleEnd
  of_chain : SampleEnd
  of_none : List ℕ → SampleEnd

abbrev pub end_of : StackEnd → SampleEnd
end_of (Walked base end) = of_walk base end
end_of CallChain = of_chain
end_of (NoStack why) = of_none why.now

-- the stack of a sample: its frames, the innermost first, and how it ends
pub record SampleStack : Type 0 where
  pub frames : List ShownFrame
  pub end : SampleEnd

abbrev pub stack_of : {Regs : Type 0} → EndedStack Regs → SampleStack
stack_of stack = record { frames = map shown_frame stack.frames.now; end = end_of stack.end }

-- the stack of a walk over a copy that begins at an address
abbrev pub walked_over : ℕ → StackView → SampleStack
walked_over base (walked frames end) = record { frames = frames; end = of_walk base end }
walked_over base (no_stack why) = record { frames = []; end = of_none why }

-- what stands for a stack that can't be read: the frames of a call chain, if it has some
abbrev pub unread_stack : List ℕ → List ShownFrame → SampleStack
unread_stack why [] = record { frames = []; end = of_none why }
unread_stack why (frame ∷ frames) = record { frames = frame ∷ frames; end = of_chain }

-- `is_note`: a note is that of a frame, among modules and over a memory
module _ {Regs : Type 0} (walker : Walker Regs)
    (is_note : List ModuleView → Memory → FrameLocation → Regs → Result FoundBy BacktraceEnd → List ℕ → Type 0)
    (starts : List ModuleView → ℕ → List ℕ → Option (Start Regs) → Type 0) (explained : Bool) (limit : ℕ) (files : Files) where
  -- notes are those of the stack from the registers with which it begins
  abbrev pub AreSampleNotes : List Mapping → List ModuleView → List ℕ → Option (Start Regs) → List (List ℕ) → Type 0
  AreSampleNotes mappings modules bytes start notes =
      AreStackNotes (is_note modules (copied_memory bytes start)) (noted_sample walker limit files mappings modules bytes start) notes

  -- the stack and the notes of the user's side of a sample, if it can be read; else the frames of its call chain, if it has
  -- some, or why there are none
  abbrev pub IsUserStack : List Mapping → List ModuleView → ℕ → Result (List ℕ) RecordingError → Result UserView RecordingError
      → SampleStack → List (List ℕ) → Type 0
  IsUserStack mappings modules mask chain (Ok user) stack notes =
      (start : Option (Start Regs)) × starts modules mask user.registers start
      × (stack ≡ walked_over (base_of start) (sampled_from walker limit files mappings modules user.stack start))
      × NotedIf explained (AreSampleNotes mappings modules user.stack start) notes
  IsUserStack mappings modules mask chain (Err refusal) stack notes =
      (stack ≡ unread_stack (sample_refusal refusal) (frames_of_chain refusal chain)) × (notes ≡ [])

  -- the same of a sample with the mask of its registers: its modules are those of its process's mappings
  abbrev pub IsSampleStack : (Mapping → ModuleView) → Mapped → Result (SampleView × ℕ) RecordingError → SampleStack
      → List (List ℕ) → Type 0
  IsSampleStack module_of mapped (Ok sample) stack notes =
      IsUserStack (mapped sample.0.pid) (map module_of (mapped sample.0.pid)) sample.1 sample.0.chain sample.0.user stack notes
  IsSampleStack module_of mapped (Err refusal) stack notes =
      (stack ≡ unread_stack (sample_refusal refusal) []) × (notes ≡ [])

-- The name of a thread in a folded stack. Where threads are told apart, its process and itself are after the name, as
-- `stackcollapse-perf.pl --tid` of FlameGraph has them.
abbrev pub thread_name : Bool → List ℕ → ℕ → ℕ → List ℕ
thread_name by_thread name pid tid = if by_thread then name ++ 45 ∷ decimal pid ++ 47 ∷ decimal tid else name

-- the same of a sample; the thread of one that can't be read is not known
abbrev pub folded_name : Bool → List ℕ → Option Sample → List ℕ
folded_name by_thread name (Some sample) = thread_name by_thread name sample.pid sample.tid
folded_name by_thread name None = name

-- the head of a sample's block, by the name of its thread; the thread of a sample that can't be read is not known
-- The frames of the kernel come first in it.
abbrev pub head_text : Options → List ℕ → Option Sample → List ℕ
head_text options name (Some sample) =
    head_of name sample.pid sample.tid sample.time ++ kernel_lines options (read_chain_view sample.chain)
head_text options name None = codes "[unknown]:\n"

-- Its thread in JSON. Process and thread are told where threads are told apart or each sample is told, and so is the time.
abbrev pub thread_by : Options → List ℕ → ℕ → ℕ → Option ℕ → Members
thread_by options name pid tid time =
    let each = options.frames || options.by_thread in
    thread_members name (told_if each pid) (told_if each tid) (time_if options.frames time)

abbrev pub thread_told : Options → List ℕ → Option Sample → Members
thread_told options name (Some sample) = thread_by options name sample.pid sample.tid sample.time
thread_told options name None = thread_members name None None None

-- what ends a folded stack: the frames of the kernel
abbrev pub tail_text : Options → Option Sample → List ℕ
tail_text options (Some sample) = kernel_text options (read_chain_view sample.chain)
tail_text options None = []

-- what is told of a sample: the text by which it is counted, what is shown of it where each sample is, how its walk ended or
-- why there is none, whether unwind data tells all its frames, whether it is cut where its copy ends, and whether a frame is
-- in a vdso of which no file was read
pub record Told : Type 0 where
  pub text : List ℕ
  pub shown : List ℕ
  pub end : List ℕ
  pub is_sure : Bool
  pub has_guess : Bool
  pub is_cut : Bool
  pub in_vdso : Bool

-- what the end of a stack is called, and with the address at which it ended, if it ended at one
abbrev pub name_of_end : SampleEnd → List ℕ
name_of_end (of_walk base end) = end_name end
name_of_end of_chain = codes "callchain"
name_of_end (of_none why) = why

abbrev pub address_of_end : SampleEnd → Option ℕ
address_of_end (of_walk base end) = address_of_walk end
address_of_end of_chain = None
address_of_end (of_none why) = None

abbrev pub text_of_end : SampleEnd → List ℕ
text_of_end end = name_of_end end ++ address_text (address_of_end end)

-- The mark of a walk in a folded stack: of its end, or (`true`) that the stack is cut before a frame that is not sure.
abbrev pub mark_of_part : BacktraceEnd → Bool → List ℕ
mark_of_part end cut = if cut then mark (codes "not-sure") else mark_of end

-- that of an end: a call chain is marked before what is cut of it
abbrev pub mark_of_end : SampleEnd → Bool → List ℕ
mark_of_end (of_walk base end) cut = mark_of_part end cut
mark_of_end of_chain cut = mark (codes "callchain") ++ mark_of_part Root cut
mark_of_end (of_none why) cut = mark why

-- a folded stack: the name of a thread, the mark of the end, and the frames, all or (`true`) those that are sure
abbrev pub folded_stack : Bool → Files → List ℕ → List Mapping → SampleStack → List ℕ
folded_stack sure files name mappings stack =
    let part = part_of sure stack.frames in
    plain name ++ mark_of_end stack.end (nat_lt (length part) (length stack.frames))
    ++ frames_text (frame_label files mappings) part

-- the lines of a block after its head: the frames from the innermost on, and the end
abbrev pub block_of : Files → List Mapping → SampleStack → List ℕ
block_of files mappings stack = flat_map (frame_line files mappings) stack.frames ++ last_line (text_of_end stack.end)

-- its JSON, by the members of its thread, but for its count
abbrev pub json_text : Files → List Mapping → SampleStack → Members → List ℕ
json_text files mappings stack who = rest_text (
    stack_members (name_of_end stack.end) (address_of_end stack.end)
    (array (items_of (frames_data files mappings stack.frames))) who)

-- what is counted: a folded stack with what ends it, or its JSON (`true`)
abbrev pub line_by : Bool → Bool → Files → List ℕ → Members → List ℕ → List Mapping → SampleStack → List ℕ
line_by true sure files name who tail mappings stack = json_text files mappings stack who
line_by false sure files name who tail mappings stack = folded_stack sure files name mappings stack ++ tail

-- what is shown: a block, with notes where it is to be explained, or a line of JSON (`true`)
abbrev pub shown_by : Bool → Bool → List (List ℕ) → Files → List ℕ → Members → List Mapping → SampleStack → List ℕ
shown_by true explain notes files head who mappings stack = counted_line 1 (json_text files mappings stack who)
shown_by false explain notes files head who mappings stack =
    shown_with explain notes (head ++ block_of files mappings stack)

-- unwind data tells all frames of a stack: none is after the first that is not sure
abbrev pub is_sure_stack : SampleStack → Bool
is_sure_stack stack = length (part_of true stack.frames) == length stack.frames

-- how many bytes of a stack the kernel copies at most, and perf asks for: a multiple of 8 below 2^16
-- (`sample_stack_user` of `struct perf_event_attr`, include/uapi/linux/perf_event.h)
abbrev pub MOST_COPIED : ℕ
MOST_COPIED = 65528

-- a larger copy, which begins at the same address, would have a word
abbrev pub is_in_larger_copy : ℕ → ℕ → Bool
is_in_larger_copy base address = nat_le base address && nat_le (address - base) (MOST_COPIED - 8)

-- a walk ended at a word that a larger copy would have
abbrev pub is_end_of_copy : ℕ → BacktraceEnd → Bool
is_end_of_copy base (Refused (CouldNotReadStack address)) = is_in_larger_copy base address
is_end_of_copy base end = false

-- a stack is cut: its walk ended so, and its copy is full
abbrev pub is_cut : Bool → SampleEnd → Bool
is_cut full (of_walk base end) = full && is_end_of_copy base end
is_cut full of_chain = false
is_cut full (of_none why) = false

-- what is told of a stack with notes, by the name of its thread, the head of its block, its thread in JSON, what ends its
-- folded stack, the mappings of its process, and whether its copy is full
abbrev pub stack_told : Options → Files → List ℕ → List ℕ → Members → List ℕ → List Mapping → Bool → SampleStack
    → List (List ℕ) → Told
stack_told options files name head who tail mappings full stack notes = record {
  text = line_by options.json options.sure files name who tail mappings stack;
  shown = shown_by options.json options.explain notes files head who mappings stack;
  end = name_of_end stack.end;
  is_sure = is_sure_stack stack;
  has_guess = has_guess stack.frames;
  is_cut = is_cut full stack.end;
  in_vdso = has_unread_vdso files mappings stack.frames;
}

-- the copy of a sample's stack is full
abbrev pub is_full_user : Result UserView RecordingError → Bool
is_full_user (Ok user) = user.is_full
is_full_user (Err refusal) = false

abbrev pub is_copy_full : Option Sample → Bool
is_copy_full (Some sample) = is_full_user (read_user_view sample.user)
is_copy_full None = false

-- the same of a sample, by the name of its thread
abbrev pub told_by : Options → Files → List ℕ → Option Sample → List Mapping → SampleStack → List (List ℕ) → Told
told_by options files name sample mappings stack notes =
    stack_told options files (folded_name options.by_thread name sample) (head_text options name sample)
    (thread_told options name sample) (tail_text options sample) mappings (is_copy_full sample) stack notes

abbrev pub told_of : SampleAt → SampleStack → List (List ℕ) → Told
told_of at stack notes = told_by at.options at.files.now at.name.now at.sample at.mappings.now stack notes

-- the same by the name of its thread and the mappings of its process
abbrev pub sample_told : Options → Files → State → Result (SampleView × ℕ) RecordingError → SampleStack → List (List ℕ) → Told
sample_told options files state (Ok sample) stack notes =
    let name = state.named sample.0.tid in
    stack_told options files (thread_name options.by_thread name sample.0.pid sample.0.tid)
    (head_of name sample.0.pid sample.0.tid sample.0.time ++ kernel_lines options sample.0.chain)
    (thread_by options name sample.0.pid sample.0.tid sample.0.time) (kernel_text options sample.0.chain)
    (state.mapped sample.0.pid) (is_full_user sample.0.user) stack notes
sample_told options files state (Err refusal) stack notes =
    stack_told options files (codes "[unknown]") (codes "[unknown]:\n") (thread_members (codes "[unknown]") None None None) []
    [] false stack notes

module _ {Regs : Type 0} (module_of : Mapping → ModuleView) (walker : Walker Regs)
    (is_note : List ModuleView → Memory → FrameLocation → Regs → Result FoundBy BacktraceEnd → List ℕ → Type 0)
    (starts : List ModuleView → ℕ → List ℕ → Option (Start Regs) → Type 0) (options : Options) (files : Files) where
  -- this is told of a sample at a state: of its stack, by the modules of its process
  abbrev pub IsToldAt : State → Result (SampleView × ℕ) RecordingError → Told → Type 0
  IsToldAt state sample told = (stack : SampleStack) × ((notes : List (List ℕ))
      × IsSampleStack walker is_note starts (options.frames && options.explain) options.limit files module_of state.mapped sample stack notes
      × (told ≡ sample_told options files state sample stack notes))

  -- the same of a record of a recording with these events
  abbrev pub IsToldOf : List AttributeView → RecordView × State → Told → Type 0
  IsToldOf attributes at told = IsToldAt at.1 (sample_in attributes at.0) told

  -- the same of a record with a body that is given for it
  abbrev pub IsToldWith : (RecordView → List ℕ → Type 0) → List AttributeView → RecordView × State → Told → Type 0
  IsToldWith gives attributes at told =
      (body : List ℕ) × gives at.0 body × IsToldOf attributes (with_body at.0 body, at.1) told

-- the members of two lists belong together, one by one
abbrev pub Each : {A B : Type 0} → (A → B → Type 0) → List A → List B → Type 0
Each R [] [] = Unit {0}
Each R [] (y ∷ ys) = ⊥
Each R (x ∷ xs) [] = ⊥
Each R (x ∷ xs) (y ∷ ys) = R x y × Each R xs ys

-- how often a line is among others
abbrev pub occurrences : List ℕ → List (List ℕ) → ℕ
occurrences line texts = count_by (λ text. pointwise nat_eq line text) texts

-- how often a line was counted, if it was, after so many times more
abbrev pub more : Option ℕ → ℕ → Option ℕ
more entry zero = entry
more entry (suc n) = Some (unwrap_or entry 0 + suc n)

-- what is told of a sample is shown, if it is a block, or else counted
abbrev pub IsTextTaken : Bool → Told → Folded → Folded → Option (List ℕ) → Option (List ℕ) → Type 0
IsTextTaken true told old new before after = (new ≡ old) × Appends before after told.shown
IsTextTaken false told old new before after = CountsOneMore old new told.text × (after ≡ before)

-- a sample is counted, and its text is taken
abbrev pub IsTaken : Bool → Told → Counts → Counts → Option (List ℕ) → Option (List ℕ) → Type 0
IsTaken frames told old new before after =
    HasSampleMore old new told.end told.is_sure told.has_guess told.is_cut told.in_vdso
    × IsTextTaken frames told old.stacks new.stacks before after

-- the texts of samples
abbrev pub texts_of : List Told → List (List ℕ)
texts_of samples = map (λ told. told.text) samples

-- what is shown of them, one after another
abbrev pub shown_of : List Told → List ℕ
shown_of samples = flat_map (λ told. told.shown) samples

-- several samples are shown, or counted
abbrev pub AreTextsTaken : Bool → List Told → Folded → Folded → Option (List ℕ) → Option (List ℕ) → Type 0
AreTextsTaken true samples old new before after = (new ≡ old) × Appends before after (shown_of samples)
AreTextsTaken false samples old new before after =
    ((line : List ℕ) → entry_of new line ≡ more (entry_of old line) (occurrences line (texts_of samples))) × (after ≡ before)

-- the ends of their walks
abbrev pub ends_of : List Told → List (List ℕ)
ends_of samples = map (λ told. told.end) samples

-- how many of them have frames that no unwind data tells
abbrev pub unsure_among : List Told → ℕ
unsure_among samples = count_by (λ told. not told.is_sure) samples

-- how many of them have a frame by a guess
abbrev pub guessed_among : List Told → ℕ
guessed_among samples = count_by (λ told. told.has_guess) samples

-- how many of them are cut where their copies end
abbrev pub cut_among : List Told → ℕ
cut_among samples = count_by (λ told. told.is_cut) samples

-- how many of them have a frame in a vdso of which no file was read
abbrev pub in_vdso_among : List Told → ℕ
in_vdso_among samples = count_by (λ told. told.in_vdso) samples

-- samples are counted, by the ends of their walks
pub record HasSamplesMore (samples : List Told) (old new : Counts) : Type 0 where
  pub count : new.samples ≡ old.samples + length samples
  pub unsure : new.unsure ≡ old.unsure + unsure_among samples
  pub guessed : new.guessed ≡ old.guessed + guessed_among samples
  pub cut : new.cut ≡ old.cut + cut_among samples
  pub in_vdso : new.in_vdso ≡ old.in_vdso + in_vdso_among samples
  pub ends : (end : List ℕ) → entry_of new.ends end ≡ more (entry_of old.ends end) (occurrences end (ends_of samples))

-- several samples are counted, and their texts are taken
abbrev pub AreTaken : Bool → List Told → Counts → Counts → Option (List ℕ) → Option (List ℕ) → Type 0
AreTaken frames samples old new before after =
    HasSamplesMore samples old new × AreTextsTaken frames samples old.stacks new.stacks before after

-- each line among texts is there with how often it occurs, and no other is
abbrev pub AreFolded : List (List ℕ) → Folded → Type 0
AreFolded texts folded = (line : List ℕ) → entry_of folded line ≡ more None (occurrences line texts)

-- what is made of samples: blocks that are shown, one after another, or folded stacks
abbrev pub IsMade : Bool → List Told → Folded → Option (List ℕ) → Option (List ℕ) → Type 0
IsMade true samples folded before after = AreFolded [] folded × Appends before after (shown_of samples)
IsMade false samples folded before after = AreFolded (texts_of samples) folded × (after ≡ before)

-- how many records the kernel has lost after a record that says so: at most 2^64 - 1 are counted
abbrev pub lost_after : RecordView → ℕ → ℕ
lost_after r lost =
    if r.kind == PERF_RECORD_LOST then min (lost + result_unwrap_or (lost_at r) 0) (2 ^ 64 - 1) else lost

-- after records, one after another
abbrev pub lost_over : List RecordView → ℕ → ℕ
lost_over [] lost = lost
lost_over (r ∷ records) lost = lost_over records (lost_after r lost)

-- the counts of samples and of the records that they are among
pub record AreSummed (samples : List Told) (records : List RecordView) (counts : Counts) : Type 0 where
  pub count : counts.samples ≡ length samples
  pub unsure : counts.unsure ≡ unsure_among samples
  pub guessed : counts.guessed ≡ guessed_among samples
  pub cut : counts.cut ≡ cut_among samples
  pub in_vdso : counts.in_vdso ≡ in_vdso_among samples
  pub lost : counts.lost ≡ lost_over records 0
  pub ends : AreFolded (ends_of samples) counts.ends
  pub ordered : IsInOrderOfBytes counts.ends
