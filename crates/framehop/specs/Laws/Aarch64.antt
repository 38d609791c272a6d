-- The laws of `Unwinding` on aarch64.
use Rattle.std.proofs.Common.{◌≡◌, ℕ, ◌<◌, Bool, true, false, List, None, Ok, refl}
use Rattle.framehop_core.specs.Memory.{Memory}
use Rattle.framehop_core.specs.Aarch64.Registers.{Registers}
use Rattle.framehop_core.specs.Aarch64.Rules.{outcome, Advances}
use Rattle.framehop_core.specs.Laws.Aarch64.{outcome-Advances}
use Rattle.framehop_core.specs.declared.aarch64.unwind_rule.UnwindRuleAarch64.{UnwindRuleAarch64}
use Rattle.framehop_core.specs.declared.aarch64.unwind_rule.UnwindRuleAarch64.TheVariants.{UseFramePointer}
use Rattle.framehop_dwarf.specs.Aarch64.{Ascends}
use Rattle.framehop_dwarf.specs.Laws.DirectAarch64.{direct-means}
use Rattle.framehop_pe.specs.Sections.{Sections}
use Rattle.framehop.specs.Policy.{Policy}
use Rattle.framehop.specs.Unwinding.{RisesAsSaid, answer_by, may_take_memory_by}
use Rattle.framehop.specs.Laws.Values.{values-read}
use Rattle.framehop.specs.Aarch64.{aarch64, aarch64_readers, aarch64_meanings, aarch64_means}
use Rattle.framehop.specs.Fresh.{step}
use Rattle.framehop.specs.Modules.{ModuleView}
use Rattle.framehop.specs.Laws.Meaning.{Laws, step-means-by}
use Rattle.framehop_core.specs.CodeAddress.{FrameLocation}
use Rattle.framehop_core.specs.Outcome.{answered}
use Rattle.framehop_dwarf.specs.Laws.Aarch64.{rule-means, values-mean}
use Rattle.framehop_analysis.specs.Laws.Aarch64.Means.{analysed-means}
use Rattle.framehop_macho.specs.Laws.Aarch64.{says-by_code, by_code-analysed}

pub outcome-is : (policy : Policy) → (aarch64 policy).outcome ≡ outcome
unfolding aarch64
outcome-is policy = refl

pub fallback-is : (policy : Policy) → (aarch64 policy).fallback ≡ UseFramePointer
unfolding aarch64
fallback-is policy = refl

pub stack_pointer-is : (policy : Policy) → (aarch64 policy).stack_pointer ≡ (λ (r : Registers). r.sp)
unfolding aarch64
stack_pointer-is policy = refl

pub answer-is : (policy : Policy) → (aarch64 policy).module_answer ≡ answer_by aarch64_readers policy
unfolding aarch64
answer-is policy = refl

pub memory-is : (policy : Policy) → (aarch64 policy).may_take_memory ≡ may_take_memory_by aarch64_readers policy
unfolding aarch64
memory-is policy = refl

-- there are no values by PE unwind info
pub no-pe-values : (sections : Sections) (relative : ℕ) (first : Bool)
    → aarch64_readers.pe_found sections relative first ≡ Ok None → (old new : Registers) → Ascends first old new
no-pe-values sections relative first none old new = cc

-- a rule's step ascends
pub Ascends-rule : (rule : UnwindRuleAarch64) (first : Bool) (old new : Registers) → Advances rule first old new
    → Ascends first old new
Ascends-rule rule first old new advances = record { rises = advances.up.rises; fits = advances.up.fits }

pub rises-as-said : (policy : Policy) → RisesAsSaid (aarch64 policy)
unfolding aarch64
rises-as-said policy = record {
  rules = λ said rule old new memory address e. (outcome-Advances rule false old memory address new e).up.rises refl;
  values = λ said m relative compute e old memory values computed.
      let read =
      values-read aarch64_readers
      (λ sections at kind none. cc) policy m relative false compute e old memory values computed in
      (direct-means read.bytes policy.values memory read.row false old values.0 values.1 read.direct_is).rises refl;
}

-- the readers' laws
readers : Laws aarch64_readers aarch64_meanings outcome
readers = record {
  rule_means = rule-means;
  values_mean = values-mean;
  rule_simulates = λ sections address first rule found. cc;
  says_by_code = says-by_code;
  code_means = λ function code offset rule is. analysed-means code offset rule
      (by_code-analysed function code offset rule is);
}

pub step-means : (policy : Policy) (modules : List ModuleView) (location : FrameLocation) (old new : Registers)
    (memory : Memory) (address : ℕ) → step (aarch64 policy) modules location old memory ≡ answered address new
    → aarch64_means policy modules location old memory address new
step-means policy modules location old new memory address answers =
    step-means-by aarch64_readers aarch64_meanings outcome policy readers (aarch64 policy) (outcome-is policy)
    (answer-is policy) modules location old new memory address answers

pub always_rises-is : (policy : Policy) → (aarch64 policy).always_rises ≡ true
unfolding aarch64
always_rises-is policy = refl

pub says-rising : (policy : Policy)
    → ((old new : Registers) → Ascends false old new → old.sp < new.sp) → (aarch64 policy).always_rises ≡ true
says-rising policy up = always_rises-is policy
