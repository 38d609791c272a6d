-- The JSON of samples: it has no number with a point, so its text is known, and its parts are those of one object.
use Rattle.std.proofs.Common.{◌≡◌, ℕ, List, ◌∷◌, ◌++◌, codes, drop, Bool, true, false, ◌||◌, Option, Some, None, refl, ap, sym, ◌∙◌, append_assoc}
use Rattle.std.specs.Fmt.{decimal}
use Rattle.serde_json.specs.Data.{Data, object, Members}
use Rattle.serde_json.specs.Written.{compact_text, members_have_float, members_text}
use Rattle.serde_json.proofs.OnLiterals.{serde_json_on_literals}
use Rattle.framehop_frames.proofs.FloatLemmas.{HasNone, neither, address-none, number-none, files-none}
use Rattle.framehop_frames.specs.declared.json_files.FilePaths.{FilePaths}
use Rattle.framehop_recording.specs.declared.sample.Sample.{Sample}
use Rattle.framehop_perf_stacks.specs.Json.{told_if, time_if, thread_members, stack_members, stack_line, counted_line, rest_text, head_data}
use Rattle.framehop_perf_stacks.specs.Samples.{thread_told}
use Rattle.framehop_perf_stacks.specs.declared.run.Options.{Options}
use Rattle.framehop_processes.specs.declared.files.NamedFile.{NamedFile}

thread-none : (name : List ℕ) (pid tid time : Option ℕ) → members_have_float (thread_members name pid tid time) ≡ false
thread-none name pid tid time = neither _ _ (number-none pid) (neither _ _ (number-none tid) (neither _ _ (number-none time) refl))

pub told-none : (options : Options) (name : List ℕ) (sample : Option Sample) → members_have_float (thread_told options name sample) ≡ false
told-none options name (Some sample) =
    let each = options.frames || options.by_thread in
    thread-none name (told_if each sample.pid) (told_if each sample.tid) (time_if options.frames sample.time)
told-none options name None = thread-none name None None None

pub stack-none : (end : List ℕ) (end_address : Option ℕ) (frames : Data) (who : Members) → HasNone frames → members_have_float who ≡ false
    → HasNone (object (stack_members end end_address frames who))
stack-none end end_address frames who none others = neither _ _ (address-none end_address) (neither _ _ none others)

pub head-none : (aarch64 : Bool) (paths : List FilePaths) (files : List NamedFile) → HasNone (head_data aarch64 paths files)
head-none aarch64 paths files = neither _ _ (files-none paths files) refl

-- what is after the brace, after a comma
pub rest-is : (end : List ℕ) (end_address : Option ℕ) (frames : Data) (who : Members) (text rest : List ℕ) (brace : ℕ)
    → text ≡ compact_text (object (stack_members end end_address frames who)) → text ≡ brace ∷ rest
    → 44 ∷ rest ≡ rest_text (stack_members end end_address frames who)
rest-is end end_address frames who text rest brace whole cut = ap (λ list. 44 ∷ drop 1 list) (sym cut ∙ whole)

-- a count and the members after it are one object
pub line-is : (count : ℕ) (members : Members) → counted_line count (rest_text members) ≡ stack_line count members
unfolding serde_json_on_literals
line-is count members = ap (λ text. text ++ codes "\n") (append_assoc (codes "{\"count\":") (decimal count) (members_text true members))
