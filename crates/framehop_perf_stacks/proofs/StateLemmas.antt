-- States that agree lead to states that agree, and a sample has the same text at both.
use Rattle.std.proofs.Common.{◌≡◌, ℕ, ◌<◌, ◌+◌, ◌++◌, IfOk, Bool, true, false, cond, List, map, Option, Some, None, Result, Ok, Err, refl, ap, sym, ◌∙◌, subst, true≢false, arith}
use Rattle.std.specs.Prelude.{◌==◌, ◌&&◌, ◌||◌, ⊤, nat_le, is_some, option_and_then}
use Rattle.std.proofs.lemmas.Bool.Decides.{nat_tests}
use Rattle.std.specs.Result.{result_err}
use Rattle.std.proofs.lemmas.Grind.{common_steps}
use Rattle.framehop_bytes.specs.Bytes.{◌>>=◌}
use Rattle.framehop_core.specs.CodeAddress.{FrameLocation}
use Rattle.framehop_core.specs.Memory.{Memory}
use Rattle.framehop.specs.Modules.{ModuleView}
use Rattle.framehop_backtrace.specs.declared.frame.BacktraceEnd.{BacktraceEnd}
use Rattle.framehop_backtrace.specs.declared.frame.FoundBy.{FoundBy}
use Rattle.framehop_processes.specs.Mappings.{with_mapping, changed_modules}
use Rattle.framehop_processes.specs.declared.mapping.Mapping.{Mapping}
use Rattle.framehop_recording.specs.Mapping.{MappingView, mapping_at}
use Rattle.framehop_recording.specs.Numbers.{PERF_RECORD_MMAP, PERF_RECORD_MMAP2, PERF_RECORD_COMM, PERF_RECORD_FORK, PERF_RECORD_LOST}
use Rattle.framehop_recording.specs.Records.{RecordView}
use Rattle.framehop_recording.specs.Sample.{SampleView}
use Rattle.framehop_recording.specs.Tasks.{CommandView, command_at, task_at, lost_at}
use Rattle.framehop_recording.specs.declared.error.RecordingError.{RecordingError}
use Rattle.framehop_recording.specs.declared.tasks.Task.{Task}
use Rattle.framehop_perf_stacks.specs.Chain.{kernel_lines, kernel_text}
use Rattle.framehop_perf_stacks.specs.Changes.{number_for, change_in, is_of_code, end_of_mapping, base_in, mapping_based, maps_numbered, maps_file, execs_program, forks_process}
use Rattle.framehop_perf_stacks.specs.Ended.{drawn_in, naming_refusal, refusal_in, IsWithoutAddress}
use Rattle.framehop_frames.specs.Line.{head_of}
use Rattle.framehop_perf_stacks.specs.Names.{Named, named_by, named_as_parent, named_after}
use Rattle.framehop_perf_stacks.specs.Processes.{Mapped, after}
use Rattle.framehop_perf_stacks.specs.Samples.{State, mapped_by, IsUserStack, IsToldAt, Told, thread_name, is_full_user, stack_told, thread_by}
use Rattle.framehop_perf_stacks.specs.declared.changes.Change.{Change}
use Rattle.framehop_perf_stacks.specs.declared.changes.Change.TheVariants.{Map, Begin, Fork}
use Rattle.framehop_processes.specs.Files.{object_in}
use Rattle.framehop_processes.specs.declared.files.Files.{Files}
use Rattle.framehop_frames.specs.Walker.{Walker}
use Rattle.framehop_frames.specs.declared.machine.Start.{Start}
use Rattle.framehop_perf_stacks.specs.declared.run.Options.{Options}

-- a choice between values that are the same is the same
cond-same : {A : Type 0} (b : Bool) (x x' y y' : A) → x ≡ x' → y ≡ y' → cond b x y ≡ cond b x' y'
cond-same true x x' y y' e f = e
cond-same false x x' y y' e f = f

-- a choice between functions, at an argument
cond-at : {A B : Type 0} (b : Bool) (f g : A → B) (a : A) → cond b f g a ≡ cond b (f a) (g a)
cond-at true f g a = refl
cond-at false f g a = refl

module _ (named other : Named) (same : (tid : ℕ) → named tid ≡ other tid) where
  by-command : (read : Result CommandView RecordingError) (tid : ℕ) → named_by read named tid ≡ named_by read other tid
  by-command (Ok command) tid =
      cond-same (tid == command.tid) command.name command.name (named tid) (other tid) refl (same tid)
  by-command (Err refusal) tid = same tid

  by-parent : (read : Result Task RecordingError) (tid : ℕ) → named_as_parent read named tid ≡ named_as_parent read other tid
  by-parent (Ok task) tid =
      cond-same (tid == task.tid) (named task.parent_tid) (other task.parent_tid) (named tid) (other tid) (same task.parent_tid) (same tid)
  by-parent (Err refusal) tid = same tid

  by-kind : (is_command is_task : Bool) (command : Result CommandView RecordingError) (task : Result Task RecordingError) (tid : ℕ)
      → cond is_command (named_by command named) (cond is_task (named_as_parent task named) named) tid
      ≡ cond is_command (named_by command other) (cond is_task (named_as_parent task other) other) tid
  by-kind true is_task command task tid = by-command command tid
  by-kind false true command task tid = by-parent task tid
  by-kind false false command task tid = same tid

  pub named-same : (r : RecordView) (tid : ℕ) → named_after r named tid ≡ named_after r other tid
  named-same r tid =
      by-kind (r.kind == PERF_RECORD_COMM) (r.kind == PERF_RECORD_FORK) (command_at r) (task_at r) tid

module _ (mapped other : Mapped) (same : (pid : ℕ) → mapped pid ≡ other pid) where
  after-same : (change : Change) (pid : ℕ) → after change mapped pid ≡ after change other pid
  after-same (Map number mapping) pid =
      cond-same (pid == number) (with_mapping mapping (mapped number)) (with_mapping mapping (other number)) (mapped pid) (other pid)
      (ap (with_mapping mapping) (same number)) (same pid)
  after-same (Begin number) pid = cond-same (pid == number) _ _ (mapped pid) (other pid) refl (same pid)
  after-same (Fork number parent) pid =
      cond-same (pid == number) (mapped parent) (other parent) (mapped pid) (other pid) (same parent) (same pid)

  by-change : (read : Result (Option Change) RecordingError) (pid : ℕ) → mapped_by read mapped pid ≡ mapped_by read other pid
  by-change (Ok (Some change)) pid = after-same change pid
  by-change (Ok None) pid = same pid
  by-change (Err refusal) pid = same pid

  drawn-by-same : (read : Result (Option Change) RecordingError) → drawn_in read mapped ≡ drawn_in read other
  drawn-by-same (Ok (Some (Map number mapping))) = ap (λ list. 1 + changed_modules mapping list) (same number)
  drawn-by-same (Ok (Some (Begin number))) = refl
  drawn-by-same (Ok (Some (Fork number parent))) = refl
  drawn-by-same (Ok None) = refl
  drawn-by-same (Err refusal) = refl

  pub drawn-same : (files : Files) (r : RecordView) → drawn_in (change_in files r) mapped ≡ drawn_in (change_in files r) other
  drawn-same files r = drawn-by-same (change_in files r)

  pub mapped-same : (files : Files) (r : RecordView) (pid : ℕ) → mapped_by (change_in files r) mapped pid ≡ mapped_by (change_in files r) other pid
  mapped-same files r pid = by-change (change_in files r) pid

module _ {Regs : Type 0} (module_of : Mapping → ModuleView) (walker : Walker Regs)
    (is_note : List ModuleView → Memory → FrameLocation → Regs → Result FoundBy BacktraceEnd → List ℕ → Type 0)
    (starts : List ModuleView → ℕ → List ℕ → Option (Start Regs) → Type 0) (options : Options) (files : Files)
    (state other : State) (named : (tid : ℕ) → state.named tid ≡ other.named tid)
    (mapped : (pid : ℕ) → state.mapped pid ≡ other.mapped pid) where
  pub text-same : (sample : Result (SampleView × ℕ) RecordingError) (text : Told)
      → IsToldAt module_of walker is_note starts options files state sample text
      → IsToldAt module_of walker is_note starts options files other sample text
  text-same (Ok sample) text told =
      let pid = sample.0.pid in
      let tid = sample.0.tid in
      let stack = told.0 in
      let notes = told.1.0 in
      let P : List Mapping → Type 0 = λ mappings. IsUserStack walker is_note starts (options.frames && options.explain) options.limit files mappings (map module_of mappings) sample.1 sample.0.chain sample.0.user stack notes in (
        stack,
        (
          notes,
          subst P (mapped pid) told.1.1,
          told.1.2
              ∙ ap (λ name. stack_told options files (thread_name options.by_thread name pid tid) (head_of name pid tid sample.0.time ++ kernel_lines options sample.0.chain) (thread_by options name pid tid sample.0.time) (kernel_text options sample.0.chain) (state.mapped pid) (is_full_user sample.0.user) stack notes) (named tid)
              ∙ ap (λ mappings. stack_told options files (thread_name options.by_thread (other.named tid) pid tid) (head_of (other.named tid) pid tid sample.0.time ++ kernel_lines options sample.0.chain) (thread_by options (other.named tid) pid tid sample.0.time) (kernel_text options sample.0.chain) mappings (is_full_user sample.0.user) stack notes) (mapped pid),
        ),
      )
  text-same (Err refusal) text told = told

-- a record of another kind changes nothing
module _ (r : RecordView) (maps : ((r.kind == PERF_RECORD_MMAP) || (r.kind == PERF_RECORD_MMAP2)) ≡ false)
    (names : (r.kind == PERF_RECORD_COMM) ≡ false) (forks : (r.kind == PERF_RECORD_FORK) ≡ false) where
  pub named-kept : (named : Named) (tid : ℕ) → named_after r named tid ≡ named tid
  named-kept named tid = rw (names, forks) refl

  pub named-unchanged : (named : Named) → named_after r named ≡ named
  named-unchanged named = rw (names, forks) refl

  pub change-none : (files : Files) → change_in files r ≡ Ok None
  unfolding change_in
  change-none files = rw (maps, names, forks) refl

  pub drawn-none : (files : Files) (mapped : Mapped) → drawn_in (change_in files r) mapped ≡ 2
  drawn-none files mapped = ap (λ change. drawn_in change mapped) (change-none files)

  pub mapped-kept : (files : Files) (mapped : Mapped) (pid : ℕ) → mapped_by (change_in files r) mapped pid ≡ mapped pid
  mapped-kept files mapped pid = ap (λ change. mapped_by change mapped pid) (change-none files)

-- ---- refusals of records

-- a value that is made of what was read is refused as that is
read-refused : {A B : Type 0} (read : Result A RecordingError) (f : A → B) → result_err (read >>= (λ a. Ok (f a))) ≡ result_err read
read-refused (Ok a) f = refl
read-refused (Err refusal) f = refl

by-kinds : {A B C D : Type 0} (maps command task : Bool) (m : Result A RecordingError) (c : Result B RecordingError) (t : Result C RecordingError)
    (f : A → Option D) (g : B → Option D) (h : C → Option D)
    → cond maps (result_err m) (cond command (result_err c) (cond task (result_err t) None))
    ≡ result_err (cond maps (m >>= (λ a. Ok (f a))) (cond command (c >>= (λ a. Ok (g a))) (cond task (t >>= (λ a. Ok (h a))) (Ok None))))
by-kinds true command task m c t f g h = sym (read-refused m f)
by-kinds false true task m c t f g h = sym (read-refused c g)
by-kinds false false true m c t f g h = sym (read-refused t h)
by-kinds false false false m c t f g h = refl

module _ (r : RecordView) where
  -- of a sample
  pub sample-unrefused : r.kind ≡ 9 → refusal_in r ≡ None
  unfolding refusal_in
  sample-unrefused is =
      let lost : (r.kind == PERF_RECORD_LOST) ≡ false = rw is refl in
      let maps : ((r.kind == PERF_RECORD_MMAP) || (r.kind == PERF_RECORD_MMAP2)) ≡ false = rw is refl in
      let names : (r.kind == PERF_RECORD_COMM) ≡ false = rw is refl in
      let forks : (r.kind == PERF_RECORD_FORK) ≡ false = rw is refl in
      rw (lost, maps, names, forks) refl

  -- of lost records
  pub lost-refusal : r.kind ≡ 2 → refusal_in r ≡ result_err (lost_at r)
  unfolding refusal_in
  lost-refusal is = let lost : (r.kind == PERF_RECORD_LOST) ≡ true = rw is refl in rw lost refl

  -- of another kind: that of its change
  refusal-of-change : (files : Files) → (r.kind == PERF_RECORD_LOST) ≡ false → refusal_in r ≡ result_err (change_in files r)
  unfolding refusal_in change_in
  refusal-of-change files lost =
      rw lost (by-kinds ((r.kind == PERF_RECORD_MMAP) || (r.kind == PERF_RECORD_MMAP2)) (r.kind == PERF_RECORD_COMM) (r.kind == PERF_RECORD_FORK)
      (mapping_at r) (command_at r) (task_at r) (maps_file files) execs_program forks_process)

  pub change-refused : (files : Files) (refusal : RecordingError) → (r.kind == PERF_RECORD_LOST) ≡ false → change_in files r ≡ Err refusal
      → refusal_in r ≡ Some refusal
  change-refused files refusal lost is = refusal-of-change files lost ∙ ap result_err is

  pub change-unrefused : (files : Files) (change : Option Change) → (r.kind == PERF_RECORD_LOST) ≡ false → change_in files r ≡ Ok change
      → refusal_in r ≡ None
  change-unrefused files change lost is = refusal-of-change files lost ∙ ap result_err is

  -- a mapping names no thread
  unnamed : ((r.kind == PERF_RECORD_MMAP) || (r.kind == PERF_RECORD_MMAP2)) ≡ true → naming_refusal r ≡ None
  unnamed maps =
      let names : (r.kind == PERF_RECORD_COMM) ≡ false = grind (arith, common_steps) in
      let forks : (r.kind == PERF_RECORD_FORK) ≡ false = grind (arith, common_steps) in
      rw (names, forks) refl

  naming-by : (refusal : RecordingError) → (r.kind == PERF_RECORD_LOST) ≡ false → naming_refusal r ≡ Some refusal
      → (b : Bool) → ((r.kind == PERF_RECORD_MMAP) || (r.kind == PERF_RECORD_MMAP2)) ≡ b → refusal_in r ≡ Some refusal
  unfolding refusal_in
  naming-by refusal lost is true maps = absurd (true≢false (sym (ap is_some is) ∙ ap is_some (unnamed maps)))
  naming-by refusal lost is false maps = rw (lost, maps) is

  -- what refuses what a record says of names refuses the record
  pub naming-refused : (refusal : RecordingError) → (r.kind == PERF_RECORD_LOST) ≡ false → naming_refusal r ≡ Some refusal
      → refusal_in r ≡ Some refusal
  naming-refused refusal lost is = naming-by refusal lost is ((r.kind == PERF_RECORD_MMAP) || (r.kind == PERF_RECORD_MMAP2)) refl

-- ---- mappings that have an address

abbrev pub IsAddressed : Option Change → Type 0
IsAddressed None = ⊤
IsAddressed (Some (Map pid mapping)) = mapping.start < mapping.end
IsAddressed (Some (Begin pid)) = ⊤
IsAddressed (Some (Fork pid parent)) = ⊤

based : (m : MappingView) (file : ℕ) (base : Option ℕ) → m.start < end_of_mapping m → (mapping_based m file base).start < (mapping_based m file base).end
based m file (Some base) above = above
based m file None above = above

numbered-by : (files : Files) (m : MappingView) (file : ℕ) (b : Bool) → nat_le (end_of_mapping m) m.start ≡ b
    → IsAddressed (cond b None (Some (Map m.pid (mapping_based m file (base_in (object_in files file) m)))))
numbered-by files m file true is = tt
numbered-by files m file false is =
    let above : m.start < end_of_mapping m = grind (arith, nat_tests) in
    based m file (base_in (object_in files file) m) above

found-addressed : (files : Files) (m : MappingView) (found : Option ℕ) → IsAddressed (option_and_then (maps_numbered files m) found)
found-addressed files m None = tt
found-addressed files m (Some file) = numbered-by files m file (nat_le (end_of_mapping m) m.start) refl

maps-by : (files : Files) (m : MappingView) (b : Bool) → IsAddressed (cond b (option_and_then (maps_numbered files m) (number_for files m)) None)
maps-by files m true = found-addressed files m (number_for files m)
maps-by files m false = tt

begins-by : (pid : ℕ) (b : Bool) → IsAddressed (cond b (Some (Begin pid)) None)
begins-by pid true = tt
begins-by pid false = tt

forks-by : (task : Task) (same made_up : Bool) → IsAddressed (cond same None (cond made_up (Some (Begin task.pid)) (Some (Fork task.pid task.parent_pid))))
forks-by task true made_up = tt
forks-by task false true = tt
forks-by task false false = tt

change-by : (files : Files) (maps command task : Bool) (m : Result MappingView RecordingError) (c : Result CommandView RecordingError) (t : Result Task RecordingError)
    → IfOk (cond maps (m >>= (λ a. Ok (maps_file files a))) (cond command (c >>= (λ a. Ok (execs_program a))) (cond task (t >>= (λ a. Ok (forks_process a))) (Ok None)))) IsAddressed
change-by files true command task (Ok m) c t = maps-by files m (is_of_code m)
change-by files true command task (Err refusal) c t = tt
change-by files false true task m (Ok c) t = begins-by c.pid c.is_exec
change-by files false true task m (Err refusal) t = tt
change-by files false false true m c (Ok t) = forks-by t (t.pid == t.parent_pid) t.is_made_up
change-by files false false true m c (Err refusal) = tt
change-by files false false false m c t = tt

-- what a record maps has an address
pub change-addressed : (files : Files) (r : RecordView) → IfOk (change_in files r) IsAddressed
unfolding change_in
change-addressed files r =
    change-by files ((r.kind == PERF_RECORD_MMAP) || (r.kind == PERF_RECORD_MMAP2)) (r.kind == PERF_RECORD_COMM) (r.kind == PERF_RECORD_FORK)
    (mapping_at r) (command_at r) (task_at r)

pub not-empty : (change : Change) → IsAddressed (Some change) → IsWithoutAddress change → ⊥
not-empty (Map pid mapping) addressed without = omega (arith, addressed, without)
not-empty (Begin pid) addressed without = without
not-empty (Fork pid parent) addressed without = without
