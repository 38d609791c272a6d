-- Records that are read one by one, and the run that they make.
use Rattle.std.proofs.Common.{◌≡◌, ℕ, zero, suc, ◌+◌, ◌-◌, ◌<◌, ◌≤◌, Bool, List, [], ◌∷◌, ◌++◌, length, drop, Some, Ok, Err, refl, ap, sym, ◌∙◌, arith}
use Rattle.framehop_recording.specs.declared.error.RecordingError.{RecordingError}
use Rattle.framehop_recording.specs.Records.{RecordView, Run, record_at, refusal_at_end, run_after, run_in}

-- records before a run
abbrev pub joined : List RecordView → Run → Run
joined before run = record { records = before ++ run.records; refusal = run.refusal }

-- bytes that belong to a record are passed over
run_in-skip : (cut : Bool) (n offset end : ℕ) (bytes : List ℕ) → n ≤ length bytes → end ≡ offset + n → run_in cut n offset bytes ≡ run_in cut 0 end (drop n bytes)
unfolding run_in
run_in-skip cut zero offset end bytes within e = ap (λ at. run_in cut 0 at bytes) (let same : offset ≡ end = omega (arith, e) in same)
run_in-skip cut (suc n) offset end [] within e = absurd (omega (arith, within))
run_in-skip cut (suc n) offset end (b ∷ bytes) within e =
    run_in-skip cut n (offset + 1) end bytes (omega (arith, within)) (omega (arith, e))

less-one : (n : ℕ) → suc n - 1 ≡ n
less-one n = omega arith

one-more : (cut : Bool) (offset end b : ℕ) (bytes : List ℕ) (one : RecordView) (n : ℕ)
    → record_at offset (b ∷ bytes) ≡ Ok (one, suc n) → suc n ≤ length (b ∷ bytes) → end ≡ offset + suc n
    → run_in cut 0 offset (b ∷ bytes) ≡ joined (one ∷ []) (run_in cut 0 end (drop n bytes))
unfolding run_in
one-more cut offset end b bytes one n e within is =
    ap (λ read. run_after read (λ size. run_in cut (size - 1) (offset + 1) bytes)) e
    ∙ ap (λ m. joined (one ∷ []) (run_in cut m (offset + 1) bytes)) (less-one n)
    ∙ ap (λ run. joined (one ∷ []) run) (run_in-skip cut n (offset + 1) end bytes (omega (arith, within)) (omega (arith, is)))

pub append-one : {A : Type 0} (before : List A) (one : A) (others : List A) → before ++ (one ∷ others) ≡ (before ++ one ∷ []) ++ others
append-one [] one others = refl
append-one (x ∷ before) one others = ap (λ rest. x ∷ rest) (append-one before one others)

-- a record, and those after it
pub joined-more : (cut : Bool) (offset end : ℕ) (bytes rest : List ℕ) (before : List RecordView) (one : RecordView)
    (size : ℕ) → record_at offset bytes ≡ Ok (one, size) → (0 < size) × (size ≤ length bytes) → end ≡ offset + size
    → rest ≡ drop size bytes → joined before (run_in cut 0 offset bytes) ≡ joined (before ++ one ∷ [])
    (run_in cut 0 end rest)
joined-more cut offset end bytes rest before one zero e within ends is = absurd (let h = within.0 in omega (arith, h))
joined-more cut offset end [] rest before one (suc n) e within ends is = absurd (let h = within.1 in omega (arith, h))
joined-more cut offset end (b ∷ bytes) rest before one (suc n) e within ends is =
    ap (joined before) (one-more cut offset end b bytes one n e within.1 ends)
    ∙ ap (λ records. record { records = records; refusal = (run_in cut 0 end (drop n bytes)).refusal }) (append-one before one (run_in cut 0 end (drop n bytes)).records)
    ∙ ap (λ left. joined (before ++ one ∷ []) (run_in cut 0 end left)) (sym is)

pub append-none : {A : Type 0} (before : List A) → before ++ [] ≡ before
append-none [] = refl
append-none (x ∷ before) = ap (λ rest. x ∷ rest) (append-none before)

-- the record at the front is refused
pub joined-refused : (cut : Bool) (offset : ℕ) (bytes : List ℕ) (before : List RecordView) (error : RecordingError)
    → record_at offset bytes ≡ Err error → 0 < length bytes
    → joined before (run_in cut 0 offset bytes) ≡ record { records = before; refusal = Some error }
unfolding run_in
joined-refused cut offset [] before error e some = absurd (omega (arith, some))
joined-refused cut offset (b ∷ bytes) before error e some =
    ap (λ read. joined before (run_after read (λ size. run_in cut (size - 1) (offset + 1) bytes))) e
    ∙ ap (λ records. record { records = records; refusal = Some error }) (append-none before)

-- no bytes are left
pub joined-end : (cut : Bool) (offset : ℕ) (bytes : List ℕ) (before : List RecordView) → length bytes ≡ 0
    → joined before (run_in cut 0 offset bytes) ≡ record { records = before; refusal = refusal_at_end cut offset }
unfolding run_in
joined-end cut offset [] before none = ap (λ records. record { records = records; refusal = refusal_at_end cut offset }) (append-none before)
joined-end cut offset (b ∷ bytes) before none = absurd (omega (arith, none))
