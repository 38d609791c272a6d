-- The time of a sample: its fields are read one after another, and it is as far from the start as there are fields before it.
use Rattle.std.proofs.Common.{◌≡◌, ℕ, ◌+◌, ◌*◌, ◌≤◌, Bool, true, false, not, cond, ◌&&◌, ◌==◌, nat_le, List, [], ◌∷◌, length, Some, None, option_and_then, Result, Ok, Err, refl, ap, sym, ◌∙◌, arith}
use Rattle.std.specs.Result.{result_unwrap_or}
use Rattle.std.proofs.lemmas.Bool.{leb-true, le-leb}
use Rattle.framehop_bytes.specs.Bytes.{◌>>=◌, le8}
use Rattle.framehop_recording.specs.Numbers.{PERF_SAMPLE_IDENTIFIER, PERF_SAMPLE_IP, PERF_SAMPLE_TID, PERF_SAMPLE_TIME, PERF_RECORD_SAMPLE}
use Rattle.framehop_recording.specs.Bytes.{sized_at, u32_at, u64_at, word_at, has_bit}
use Rattle.framehop_recording.specs.Attributes.{AttributeView}
use Rattle.framehop_recording.specs.Records.{RecordView}
use Rattle.framehop_recording.specs.Events.{known_time, count_present, field_between, time_field}
use Rattle.framehop_recording.specs.Sample.{SampleView, optional_at, sample_at}
use Rattle.framehop_recording.specs.declared.error.RecordingError.{RecordingError}
use Rattle.framehop_recording.specs.declared.error.RecordingError.TheVariants.{ShortRecord}

both-true : (a b : Bool) → (a && b) ≡ true → (a ≡ true) × (b ≡ true)
both-true true true e = (refl, refl)
both-true true false e = cc
both-true false b e = cc

-- what was read before something was made of it
bind-is : {A B : Type 0} (r : Result A RecordingError) (f : A → Result B RecordingError) (v : B) → (r >>= f) ≡ Ok v → (x : A) × (r ≡ Ok x) × (f x ≡ Ok v)
bind-is (Ok x) f v e = (x, refl, e)
bind-is (Err error) f v e = cc

guarded : {V : Type 0} (one two : Bool) (first second : RecordingError) (rest : Result V RecordingError) (v : V)
    → cond (not one) (Err first) (cond (not two) (Err second) rest) ≡ Ok v → (one ≡ true) × (two ≡ true)
    × (rest ≡ Ok v)
guarded true true first second rest v e = (refl, refl, e)
guarded true false first second rest v e = cc
guarded false two first second rest v e = cc

some-sized : {A : Type 0} (b : Bool) (value : A) (end : ℕ) (short : RecordingError) (read : A × ℕ) (P : Type 0)
    → (b ≡ true → P) → cond b (Ok (value, end)) (Err short) ≡ Ok read → P × (read ≡ (value, end))
some-sized true value end short read P there e = (there refl, sym (ap (λ r. result_unwrap_or r read) e))
some-sized false value end short read P there e = cc

sized-is : {A : Type 0} (value : A) (size : ℕ) (bytes : List ℕ) (at : ℕ) (short : RecordingError) (read : A × ℕ)
    → sized_at value size bytes at short ≡ Ok read → (at + size ≤ length bytes) × (read ≡ (value, at + size))
sized-is value size bytes at short read e =
    some-sized (nat_le (at + size) (length bytes)) value (at + size) short read (at + size ≤ length bytes) (λ is. leb-true _ _ is) e

u32-end : (bytes : List ℕ) (at : ℕ) (short : RecordingError) (read : ℕ × ℕ) → u32_at bytes at short ≡ Ok read → read.1 ≡ at + 4
unfolding u32_at
u32-end bytes at short read e = ap (λ p. p.1) (sized-is _ 4 bytes at short read e).1

u64-is : (bytes : List ℕ) (at : ℕ) (short : RecordingError) (read : ℕ × ℕ) → u64_at bytes at short ≡ Ok read → (at + 8 ≤ length bytes) × (read ≡ (le8 bytes at, at + 8))
unfolding u64_at
u64-is bytes at short read e = sized-is (le8 bytes at) 8 bytes at short read e

u64-end : (bytes : List ℕ) (at : ℕ) (short : RecordingError) (read : ℕ × ℕ) → u64_at bytes at short ≡ Ok read → read.1 ≡ at + 8
u64-end bytes at short read e = ap (λ p. p.1) (u64-is bytes at short read e).1

optional-end : (present : Bool) (bytes : List ℕ) (at : ℕ) (short : RecordingError) (read : ℕ × ℕ) → optional_at present bytes at short ≡ Ok read → read.1 ≡ at + 8 * cond present 1 0
optional-end true bytes at short read e = u64-end bytes at short read e
optional-end false bytes at short read e =
    let none : at ≡ at + 8 * 0 = omega arith in
    sym (ap (λ r. (result_unwrap_or r read).1) e) ∙ none

word-is : (bytes : List ℕ) (at : ℕ) (short : RecordingError) (read : ℕ × ℕ) → u64_at bytes at short ≡ Ok read → word_at bytes at ≡ Some read.0
word-is bytes at short read e =
    let is = u64-is bytes at short read e in
    ap (λ b. cond b (Some (le8 bytes at)) None) (le-leb _ _ is.0) ∙ ap (λ p. Some p.0) (sym is.1)

time-or-none : (present : Bool) (bytes : List ℕ) (at : ℕ) (short : RecordingError) (read : ℕ × ℕ)
    → optional_at present bytes at short ≡ Ok read
    → cond present (known_time read.0) None ≡ cond present (option_and_then known_time (word_at bytes at)) None
time-or-none true bytes at short read e = ap (option_and_then known_time) (sym (word-is bytes at short read e))
time-or-none false bytes at short read e = refl

abbrev one_if : Bool → ℕ
one_if b = cond b 1 0

-- the fields before the time: an identifier or none, and two more
count-is : (sample_type : ℕ) → has_bit sample_type PERF_SAMPLE_IP ≡ true → has_bit sample_type PERF_SAMPLE_TID ≡ true
    → count_present sample_type (PERF_SAMPLE_IDENTIFIER ∷ PERF_SAMPLE_IP ∷ PERF_SAMPLE_TID ∷ []) ≡ cond
    (has_bit sample_type PERF_SAMPLE_IDENTIFIER) 1 0 + 2
count-is sample_type ip tid =
    let two : cond (has_bit sample_type PERF_SAMPLE_IP) 1 0 ≡ 1 = ap one_if ip in
    let three : cond (has_bit sample_type PERF_SAMPLE_TID) 1 0 ≡ 1 = ap one_if tid in
    omega (arith, two, three)

-- the time of a sample is that of its record
pub sample-time : (a : AttributeView) (r : RecordView) (view : SampleView) → sample_at a r ≡ Ok view → view.time ≡ time_field a r
unfolding sample_at time_field field_between
sample-time a r view e =
    let bytes = r.body in
    let short = ShortRecord r.offset in
    let g = guarded (r.kind == PERF_RECORD_SAMPLE) (has_bit a.sample_type PERF_SAMPLE_IP && has_bit a.sample_type PERF_SAMPLE_TID) _ _ _ view e in
    let place = both-true (has_bit a.sample_type PERF_SAMPLE_IP) (has_bit a.sample_type PERF_SAMPLE_TID) g.1 in
    let identifier = bind-is (optional_at (has_bit a.sample_type PERF_SAMPLE_IDENTIFIER) bytes 0 short) _ view g.2 in
    let ip = bind-is (u64_at bytes identifier.0.1 short) _ view identifier.2 in
    let pid = bind-is (u32_at bytes ip.0.1 short) _ view ip.2 in
    let tid = bind-is (u32_at bytes pid.0.1 short) _ view pid.2 in
    let present = has_bit a.sample_type PERF_SAMPLE_TIME in
    let time = bind-is (optional_at present bytes tid.0.1 short) _ view tid.2 in
    let a1 = optional-end (has_bit a.sample_type PERF_SAMPLE_IDENTIFIER) bytes 0 short identifier.0 identifier.1 in
    let a2 = u64-end bytes identifier.0.1 short ip.0 ip.1 in
    let a3 = u32-end bytes ip.0.1 short pid.0 pid.1 in
    let a4 = u32-end bytes pid.0.1 short tid.0 tid.1 in
    let count = count-is a.sample_type place.0 place.1 in
    let fields : List ℕ = PERF_SAMPLE_IDENTIFIER ∷ PERF_SAMPLE_IP ∷ PERF_SAMPLE_TID ∷ [] in
    let at : tid.0.1 ≡ 8 * count_present a.sample_type fields = omega (arith, a1, a2, a3, a4, count) in
    let named : view.time ≡ cond present (known_time time.0.0) None = ap (λ (read : Result SampleView RecordingError). (result_unwrap_or read view).time) (sym time.2) in
    rw g.0 (named ∙ time-or-none present bytes tid.0.1 short time.0 time.1
    ∙ ap (λ n. cond present (option_and_then known_time (word_at bytes n)) None) at)
