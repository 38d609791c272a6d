-- What a walk keeps of the processes.
use Rattle.std.proofs.Common.{◌≡◌, ◌⊎◌, inl, inr, ℕ, ◌+◌, ◌<◌, ◌≤◌, Bool, true, false, cond, Option, Some, None, IfSome, List, arith, map, ap, ◌∙◌}
use Rattle.std.specs.BTreeMap.{BTreeMap, get}
use Rattle.std.specs.Ordering.{nat_cmp}
use Rattle.framehop.specs.Modules.{ModuleView, UnwinderView}
use Rattle.framehop.specs.Soundness.{AreApart}
use Rattle.framehop_processes.specs.Process.{ProcessView, HasModules}
use Rattle.framehop_processes.specs.declared.mapping.Mapping.{Mapping}
use Rattle.framehop_perf_stacks.specs.Processes.{IsFit, IsServed}

-- an unwinder of a later generation is apart from one that was drawn
pub later-apart : (unwinder later : UnwinderView) (next : ℕ) → unwinder.generation < next → next ≤ later.generation
    → AreApart unwinder later
later-apart unwinder later next drawn at_least = λ same. absurd (omega (arith, same, drawn, at_least))

pub fit-known : (module_of : Mapping → ModuleView) (is_sound : UnwinderView → Type 0) (processes : BTreeMap ℕ ProcessView)
    (next pid : ℕ) (process : ProcessView) → get nat_cmp processes pid ≡ Some process
    → IsServed module_of is_sound processes next → IsFit module_of is_sound processes next process
fit-known module_of is_sound processes next pid process here served = rw here at (served.each pid)

-- the modules of a known process are those of its mappings
pub modules-known : (module_of : Mapping → ModuleView) (is_sound : UnwinderView → Type 0) (processes : BTreeMap ℕ ProcessView)
    (next pid : ℕ) (process : ProcessView) (mappings : List Mapping) → process.mappings ≡ mappings
    → get nat_cmp processes pid ≡ Some process
    → IsServed module_of is_sound processes next → process.unwinder.modules ≡ map module_of mappings
modules-known module_of is_sound processes next pid process mappings mapped here served =
    (fit-known module_of is_sound processes next pid process here served).modules
    ∙ ap (map module_of) mapped

module _ (module_of : Mapping → ModuleView) (old new : UnwinderView → Type 0) (processes : BTreeMap ℕ ProcessView)
    (next : ℕ) (process : ProcessView)
    (keeps : (other : UnwinderView) → AreApart process.unwinder other → old other → new other) where
  -- a process stays fit
  fit-after : (found : Option ProcessView) → IfSome found (IsFit module_of old processes next)
      → IfSome found (λ other. AreApart process.unwinder other.unwinder) → IfSome found (IsFit module_of new processes next)
  fit-after (Some other) fit apart = record {
    modules = fit.modules;
    drawn = fit.drawn;
    sound = keeps other.unwinder apart fit.sound;
    apart = fit.apart;
  }
  fit-after None fit apart = fit

  after-walk : IsFit module_of old processes next process → IsServed module_of old processes next
      → IsServed module_of new processes next
  after-walk fit served = record {
    each = λ pid. fit-after (get nat_cmp processes pid) (served.each pid) (fit.apart pid);
    later = λ unwinder at_least. keeps unwinder (later-apart process.unwinder unwinder next fit.drawn at_least)
        (served.later unwinder at_least);
  }

  -- after a walk with the unwinder of a process, what holds of the processes holds of them over the cache after it
  pub served-after : (pid : ℕ) → get nat_cmp processes pid ≡ Some process → IsServed module_of old processes next
      → IsServed module_of new processes next
  served-after pid here served = after-walk (rw here at (served.each pid)) served

-- ---- after others were drawn

fit-later : (module_of : Mapping → ModuleView) (is_sound : UnwinderView → Type 0) (processes : BTreeMap ℕ ProcessView) (next after : ℕ)
    → next ≤ after → (found : Option ProcessView) → IfSome found (IsFit module_of is_sound processes next)
    → IfSome found (IsFit module_of is_sound processes after)
fit-later module_of is_sound processes next after more (Some process) fit = record {
  modules = fit.modules;
  drawn = let low = fit.drawn in omega (arith, low, more);
  sound = fit.sound;
  apart = fit.apart;
}
fit-later module_of is_sound processes next after more None fit = fit

pub served-later : (module_of : Mapping → ModuleView) (is_sound : UnwinderView → Type 0) (processes : BTreeMap ℕ ProcessView) (next after : ℕ)
    → next ≤ after → IsServed module_of is_sound processes next → IsServed module_of is_sound processes after
served-later module_of is_sound processes next after more served = record {
  each = λ pid. fit-later module_of is_sound processes next after more (get nat_cmp processes pid) (served.each pid);
  later = λ unwinder high. served.later unwinder (omega (arith, high, more));
}

-- ---- a process with a generation that was drawn for it

apart-new : (module_of : Mapping → ModuleView) (is_sound : UnwinderView → Type 0) (processes : BTreeMap ℕ ProcessView) (next : ℕ)
    (unwinder : UnwinderView) → next ≤ unwinder.generation → (found : Option ProcessView)
    → IfSome found (IsFit module_of is_sound processes next) → IfSome found (λ other. AreApart unwinder other.unwinder)
apart-new module_of is_sound processes next unwinder more (Some other) fit =
    λ same. absurd (let low = fit.drawn in omega (arith, same, low, more))
apart-new module_of is_sound processes next unwinder more None fit = tt

pub fit-new : (module_of : Mapping → ModuleView) (is_sound : UnwinderView → Type 0) (processes : BTreeMap ℕ ProcessView) (next : ℕ)
    (process : ProcessView) → HasModules module_of process → process.unwinder.generation ≡ next
    → IsServed module_of is_sound processes next → IsFit module_of is_sound processes (next + 1) process
fit-new module_of is_sound processes next process modules drawn served = record {
  modules = modules;
  drawn = omega (arith, drawn);
  sound = served.later process.unwinder (omega (arith, drawn));
  apart = λ pid. apart-new module_of is_sound processes next process.unwinder (omega (arith, drawn)) (get nat_cmp processes pid) (served.each pid);
}

-- ---- where a process is taken out

if-fewer : (P : ProcessView → Type 0) (found other : Option ProcessView) → (other ≡ None) ⊎ (other ≡ found) → IfSome found P → IfSome other P
if-fewer P found other (inl none) holds = rw none tt
if-fewer P found other (inr same) holds = rw same holds

weaker-some : (P Q : ProcessView → Type 0) → ((process : ProcessView) → P process → Q process) → (found : Option ProcessView)
    → IfSome found P → IfSome found Q
weaker-some P Q weaker (Some process) holds = weaker process holds
weaker-some P Q weaker None holds = holds

-- each is there as it was, or not any more
abbrev pub AreFewer : BTreeMap ℕ ProcessView → BTreeMap ℕ ProcessView → Type 0
AreFewer old new = (pid : ℕ) → (get nat_cmp new pid ≡ None) ⊎ (get nat_cmp new pid ≡ get nat_cmp old pid)

pub without-one : (test : Bool) (found other : Option ProcessView) → other ≡ cond test None found → (other ≡ None) ⊎ (other ≡ found)
without-one true found other is = inl is
without-one false found other is = inr is

module _ (module_of : Mapping → ModuleView) (is_sound : UnwinderView → Type 0) (old new : BTreeMap ℕ ProcessView) (next : ℕ)
    (fewer : AreFewer old new) where
  pub fit-fewer : (process : ProcessView) → IsFit module_of is_sound old next process → IsFit module_of is_sound new next process
  fit-fewer process fit = record {
    modules = fit.modules;
    drawn = fit.drawn;
    sound = fit.sound;
    apart = λ pid. if-fewer (λ other. AreApart process.unwinder other.unwinder) (get nat_cmp old pid) (get nat_cmp new pid) (fewer pid) (fit.apart pid);
  }

  pub served-fewer : IsServed module_of is_sound old next → IsServed module_of is_sound new next
  served-fewer served = record {
    each = λ pid. weaker-some (IsFit module_of is_sound old next) (IsFit module_of is_sound new next) fit-fewer (get nat_cmp new pid)
        (if-fewer (IsFit module_of is_sound old next) (get nat_cmp old pid) (get nat_cmp new pid) (fewer pid) (served.each pid));
    later = served.later;
  }
