-- Samples whose bodies are given apart from their records, of which only the places may be kept.
use Rattle.std.specs.Prelude.{◌≡◌, ◌≢◌, ℕ, List}
use Rattle.framehop_recording.specs.Numbers.{PERF_RECORD_SAMPLE}
use Rattle.framehop_recording.specs.Records.{RecordView}

-- a record with a body in the place of its own
abbrev pub with_body : RecordView → List ℕ → RecordView
with_body r body = record { offset = r.offset; kind = r.kind; misc = r.misc; body = body }

-- the body of each record is its own
abbrev pub own_body : RecordView → List ℕ → Type 0
own_body r body = body ≡ r.body

-- A record with what is given: a sample has a body that is given for it, and any other record is as it is.
pub record IsCompleted (gives : RecordView → List ℕ → Type 0) (r whole : RecordView) : Type 0 where
  pub sample : r.kind ≡ PERF_RECORD_SAMPLE → (body : List ℕ) × gives r body × (whole ≡ with_body r body)
  pub other : r.kind ≢ PERF_RECORD_SAMPLE → whole ≡ r
