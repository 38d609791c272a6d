-- What is counted of samples.
use Rattle.std.specs.Prelude.{◌≡◌, ◌≢◌, ℕ, zero, suc, ◌+◌, ◌++◌, ◌==◌, Bool, if◌then◌else◌, List, [], Some, codes, decimal}
use Rattle.framehop_folded.specs.Folded.{total_of, entry_of, count_in, text_of}
use Rattle.framehop_folded.specs.declared.folded.Folded.{Folded}
use Rattle.framehop_perf_stacks.specs.declared.counts.Counts.{Counts}

-- one line is counted once more, and no other is
pub record CountsOneMore (old new : Folded) (line : List ℕ) : Type 0 where
  pub counted : entry_of new line ≡ Some (count_in old line + 1)
  pub others : (other : List ℕ) → other ≢ line → entry_of new other ≡ entry_of old other
  pub total : total_of new ≡ total_of old + 1

-- a sample more, whose walk ended in this way, whose frames unwind data tells (`true`) or not all, of which one is a guess
-- (`true`) or none, whose stack is cut (`true`) where its copy ends or not, and of which a frame is in a vdso of which no file
-- was read (`true`) or none
pub record HasSampleMore (old new : Counts) (end : List ℕ) (sure guess short vdso : Bool) : Type 0 where
  pub samples : new.samples ≡ old.samples + 1
  pub unsure : new.unsure ≡ old.unsure + (if sure then 0 else 1)
  pub guessed : new.guessed ≡ old.guessed + (if guess then 1 else 0)
  pub cut : new.cut ≡ old.cut + (if short then 1 else 0)
  pub in_vdso : new.in_vdso ≡ old.in_vdso + (if vdso then 1 else 0)
  pub ends : CountsOneMore old.ends new.ends end
  pub lost : new.lost ≡ old.lost

-- one sample, or several
abbrev pub samples_text : ℕ → List ℕ
samples_text n = decimal n ++ (if n == 1 then codes " sample" else codes " samples")

-- what is said of stacks that are cut where their copies end, if there are some
abbrev pub cut_text : ℕ → List ℕ
cut_text zero = []
cut_text (suc n) =
    samples_text (suc n)
    ++ codes " cut at the end of the copied stack: perf record --call-graph dwarf,65528 copies more\n"

-- what is said of frames in a vdso of which no file was read, if there are some
abbrev pub vdso_text : ℕ → List ℕ
vdso_text zero = []
vdso_text (suc n) =
    samples_text (suc n) ++ codes " with a frame in [vdso], of which no file was found: --vdso FILE names it\n"

-- what is said of callers by a guess, if there are some
abbrev pub guess_text : ℕ → List ℕ
guess_text zero = []
guess_text (suc n) = samples_text (suc n) ++ codes " with a caller by [guess]\n"

-- how many samples there are
unfoldable pub counted_text : ℕ → List ℕ
counted_text samples = if samples == 0 then codes "no sample is counted" else samples_text samples

-- the same, and how many records were lost
unfoldable pub samples_line : ℕ → ℕ → List ℕ
samples_line samples lost =
    counted_text samples ++ codes ", " ++ decimal lost ++ codes " records lost by the kernel\n"

-- how many samples are unsure
unfoldable pub unsure_line : ℕ → List ℕ
unsure_line unsure = samples_text unsure ++ codes " with frames that no unwind data tells\n"

-- what is said of samples: how many they are and how many records were lost, how many samples are unsure, how many have a
-- guess, and how often walks ended in which way
abbrev pub counts_text : Counts → List ℕ
counts_text counts =
    samples_line counts.samples counts.lost ++ unsure_line counts.unsure ++ guess_text counts.guessed
    ++ codes "how the stacks ended:\n" ++ text_of counts.ends

-- what can be done for samples that are cut, and for those with a frame in a vdso without a file
abbrev pub advice_text : Counts → List ℕ
advice_text counts = cut_text counts.cut ++ vdso_text counts.in_vdso

-- both
abbrev pub summary_text : Counts → List ℕ
summary_text counts = counts_text counts ++ advice_text counts

-- the same samples are counted, of which the stacks are the same
pub record HasSameSamples (old new : Counts) : Type 0 where
  pub samples : new.samples ≡ old.samples
  pub unsure : new.unsure ≡ old.unsure
  pub guessed : new.guessed ≡ old.guessed
  pub cut : new.cut ≡ old.cut
  pub in_vdso : new.in_vdso ≡ old.in_vdso
  pub ends : new.ends ≡ old.ends
  pub stacks : new.stacks ≡ old.stacks
