-- A walk, one call of the iterator at a time.
use Rattle.std.proofs.Common.{◌≡◌, ℕ, suc, Bool, true, false, cond, ◌==◌, List, [], ◌∷◌, ◌++◌, Option, Some, None, option_map, Result, Ok, Err, refl, sym, ap, ◌∙◌, append_assoc, append-nil, subst}
use Rattle.std.specs.Fn.{Mut}
use Rattle.framehop_core.specs.Memory.{Memory, Answering}
use Rattle.framehop_core.specs.Outcome.{Outcome, answered, root, refused}
use Rattle.framehop_core.specs.CodeAddress.{FrameLocation, at_return_address}
use Rattle.framehop_core.specs.declared.error.Error.{Error}
use Rattle.framehop_core.specs.declared.error.Error.TheVariants.{ReturnAddressIsNull}
use Rattle.framehop.specs.Walk.{Walk, End, at_root, at_refusal, at_limit, frame_before, onward, onward_cache, callers, walk_from, cache_after_callers, cache_after_walk}
use Rattle.framehop.specs.SessionView.{end_of}
use Rattle.framehop.specs.declared.walk.WalkEnd.{WalkEnd}
use Rattle.framehop.specs.Iterator.{Progress, before, at_frame, at_end, Next, next_of, next_after, frames_in, end_in, walk_on, cache_on, cache_after_next}

-- what was done holds where the callback is then
pub Answering-to : {F : Type 0} (calls : Mut F (ℕ × Unit {0}) (Result ℕ (Unit {0}))) {old new after : F} {Holds : Memory → Type 0}
    → Answering calls old new Holds → new ≡ after → Answering calls old after Holds
Answering-to calls {old} {new} {after} {Holds} done same = subst (λ f. Answering calls old f Holds) same done

-- the frames so far before a walk
abbrev pub frames_before : {Regs : Type 0} → List FrameLocation → Walk Regs → Walk Regs
frames_before front walk = record walk { frames = front ++ walk.frames }

-- a call that gives this answer, then so many calls that walk on
abbrev pub answered_walk : {Regs : Type 0} → Result (Option FrameLocation) Error → Walk Regs → Regs → Walk Regs
answered_walk (Ok (Some location)) rest regs = frame_before location rest
answered_walk (Ok None) rest regs = record { frames = []; end = at_root; regs = regs }
answered_walk (Err error) rest regs = record { frames = []; end = at_refusal error; regs = regs }

-- the cache after such a call and those that walk on
abbrev pub answered_cache : {Cache : Type 0} → Result (Option FrameLocation) Error → Cache → Cache → Cache
answered_cache (Ok (Some location)) rest now = rest
answered_cache (Ok None) rest now = now
answered_cache (Err error) rest now = now

same-end : (a b : End) → Some a ≡ Some b → b ≡ a
same-end a b e = cc

module _ {Regs : Type 0} (step : FrameLocation → Regs → Outcome Regs) where
  onward-next : (n : ℕ) (location : FrameLocation) (old : Regs) (outcome : Outcome Regs) → let next = next_after location old outcome in onward (callers step n) old outcome ≡ answered_walk next.answer (walk_on step n next.progress next.regs) next.regs
  onward-next n location old (answered address new) = zero-or n location new address (address == 0)
    where
      zero-or : (n : ℕ) (location : FrameLocation) (new : Regs) (address : ℕ) (b : Bool) → let next : Next Regs = cond b (record { answer = Err ReturnAddressIsNull; progress = at_frame location; regs = new }) (record { answer = Ok (Some (at_return_address address)); progress = at_frame (at_return_address address); regs = new }) in cond b (record { frames = []; end = at_refusal ReturnAddressIsNull; regs = new }) (frame_before (at_return_address address) (callers step n (at_return_address address) new)) ≡ answered_walk next.answer (walk_on step n next.progress next.regs) next.regs
      zero-or n location new address true = refl
      zero-or n location new address false = refl
  onward-next n location old root = refl
  onward-next n location old (refused error) = refl

  -- one call, then the others
  pub walk_on-suc : (n : ℕ) (progress : Progress) (regs : Regs) → let next = next_of step progress regs in walk_on step (suc n) progress regs ≡ answered_walk next.answer (walk_on step n next.progress next.regs) next.regs
  unfolding callers walk_from
  walk_on-suc n (before pc) regs = refl
  walk_on-suc n (at_frame location) regs = onward-next n location regs (step location regs)
  walk_on-suc n at_end regs = refl

  module _ {Cache : Type 0} (cache_after : Cache → FrameLocation → Cache) where
    onward_cache-next : (n : ℕ) (location : FrameLocation) (old : Regs) (now : Cache) (outcome : Outcome Regs) → let next = next_after location old outcome in onward_cache (λ caller new. cache_after_callers step cache_after n caller new now) now outcome ≡ answered_cache next.answer (cache_on step cache_after n next.progress next.regs now) now
    onward_cache-next n location old now (answered address new) = zero-or n location new now address (address == 0)
      where
        zero-or : (n : ℕ) (location : FrameLocation) (new : Regs) (now : Cache) (address : ℕ) (b : Bool) → let next : Next Regs = cond b (record { answer = Err ReturnAddressIsNull; progress = at_frame location; regs = new }) (record { answer = Ok (Some (at_return_address address)); progress = at_frame (at_return_address address); regs = new }) in cond b now (cache_after_callers step cache_after n (at_return_address address) new now) ≡ answered_cache next.answer (cache_on step cache_after n next.progress next.regs now) now
        zero-or n location new now address true = refl
        zero-or n location new now address false = refl
    onward_cache-next n location old now root = refl
    onward_cache-next n location old now (refused error) = refl

    -- the cache after one call, then the others
    pub cache_on-suc : (n : ℕ) (progress : Progress) (regs : Regs) (cache : Cache) → let next = next_of step progress regs in let now = cache_after_next cache_after progress cache in cache_on step cache_after (suc n) progress regs cache ≡ answered_cache next.answer (cache_on step cache_after n next.progress next.regs now) now
    unfolding cache_after_callers cache_after_walk
    cache_on-suc n (before pc) regs cache = refl
    cache_on-suc n (at_frame location) regs cache = onward_cache-next n location regs (cache_after cache location) (step location regs)
    cache_on-suc n at_end regs cache = refl

    -- the frames so far, and what so many further calls give, are the walk of all calls
    pub record WalksOn (front : List FrameLocation) (left total : ℕ) (progress start : Progress) (regs regs0 : Regs) (cache cache0 : Cache) : Type 0 where
      pub walk : frames_before front (walk_on step left progress regs) ≡ walk_on step total start regs0
      pub cached : cache_on step cache_after left progress regs cache ≡ cache_on step cache_after total start regs0 cache0

    module _ (front : List FrameLocation) (total : ℕ) (progress start progress' : Progress) (regs regs0 regs' : Regs) (cache cache0 cache' : Cache) (is_progress : progress' ≡ (next_of step progress regs).progress) (is_regs : regs' ≡ (next_of step progress regs).regs) (is_cache : cache' ≡ cache_after_next cache_after progress cache) where
      -- the walk of all calls, by the answer of the next one
      called : (here left : ℕ) → here ≡ suc left → (answer : Result (Option FrameLocation) Error) → answer ≡ (next_of step progress regs).answer → WalksOn front here total progress start regs regs0 cache cache0 → (frames_before front (answered_walk answer (walk_on step left progress' regs') regs') ≡ walk_on step total start regs0) × (answered_cache answer (cache_on step cache_after left progress' regs' cache') cache' ≡ cache_on step cache_after total start regs0 cache0)
      called here left one_more answer is_answer old =
          let so_far : WalksOn front (suc left) total progress start regs regs0 cache cache0 = subst (λ n. WalksOn front n total progress start regs regs0 cache cache0) one_more old in
          let by_walk = ap (frames_before front) (sym (walk_on-suc left progress regs)) ∙ so_far.walk in
          let by_cache = sym (cache_on-suc left progress regs cache) ∙ so_far.cached in
          (rw (is_answer, is_progress, is_regs) by_walk, rw (is_answer, is_progress, is_regs, is_cache) by_cache)

      -- the call answers a frame, and the walk goes on
      frame-answered : (here left : ℕ) → here ≡ suc left → (answer : Result (Option FrameLocation) Error) → answer ≡ (next_of step progress regs).answer → end_in answer ≡ None → WalksOn front here total progress start regs regs0 cache cache0 → WalksOn (front ++ frames_in answer) left total progress' start regs' regs0 cache' cache0
      frame-answered here left one_more (Ok (Some location)) is_answer none so_far =
          let now = called here left one_more (Ok (Some location)) is_answer so_far in
          record {
            walk = ap (λ frames. record (walk_on step left progress' regs') { frames = frames }) (append_assoc front (location ∷ []) (walk_on step left progress' regs').frames) ∙ now.0;
            cached = now.1;
          }
      frame-answered here left one_more (Ok None) is_answer none so_far = cc
      frame-answered here left one_more (Err error) is_answer none so_far = cc

      pub WalksOn-next : (here left : ℕ) → here ≡ suc left → (ended : Option WalkEnd) → option_map end_of ended ≡ end_in (next_of step progress regs).answer → ended ≡ None → (front' : List FrameLocation) → front' ≡ front ++ frames_in (next_of step progress regs).answer → WalksOn front here total progress start regs regs0 cache cache0 → WalksOn front' left total progress' start regs' regs0 cache' cache0
      WalksOn-next here left one_more ended is_end none front' is_front so_far =
          rw is_front (frame-answered here left one_more (next_of step progress regs).answer refl (sym is_end ∙ ap (option_map end_of) none) so_far)

      -- the call answers an end, and the walk is done
      end-answered : (here left : ℕ) → here ≡ suc left → (answer : Result (Option FrameLocation) Error) → answer ≡ (next_of step progress regs).answer → (end : End) → end_in answer ≡ Some end → WalksOn front here total progress start regs regs0 cache cache0 → (◌≡◌ {A = Walk Regs} (record { frames = front ++ frames_in answer; end = end; regs = regs' }) (walk_on step total start regs0)) × (cache' ≡ cache_on step cache_after total start regs0 cache0)
      end-answered here left one_more (Ok (Some location)) is_answer end some so_far = cc
      end-answered here left one_more (Ok None) is_answer end some so_far =
          let now = called here left one_more (Ok None) is_answer so_far in
          (ap (λ e. record { frames = front ++ []; end = e; regs = regs' }) (same-end at_root end some) ∙ now.0, now.1)
      end-answered here left one_more (Err error) is_answer end some so_far =
          let now = called here left one_more (Err error) is_answer so_far in
          (ap (λ e. record { frames = front ++ []; end = e; regs = regs' }) (same-end (at_refusal error) end some) ∙ now.0, now.1)

      pub WalksOn-ended : (here left : ℕ) → here ≡ suc left → (ended : Option WalkEnd) → option_map end_of ended ≡ end_in (next_of step progress regs).answer → (end : WalkEnd) → ended ≡ Some end → (front' : List FrameLocation) → front' ≡ front ++ frames_in (next_of step progress regs).answer → WalksOn front here total progress start regs regs0 cache cache0 → (◌≡◌ {A = Walk Regs} (record { frames = front'; end = end_of end; regs = regs' }) (walk_on step total start regs0)) × (cache' ≡ cache_on step cache_after total start regs0 cache0)
      WalksOn-ended here left one_more ended is_end end some front' is_front so_far =
          rw is_front (end-answered here left one_more (next_of step progress regs).answer refl (end_of end) (sym is_end ∙ ap (option_map end_of) some) so_far)

    walk_on-zero : (progress : Progress) (regs : Regs) → walk_on step 0 progress regs ≡ record { frames = []; end = at_limit; regs = regs }
    unfolding callers walk_from
    walk_on-zero (before pc) regs = refl
    walk_on-zero (at_frame location) regs = refl
    walk_on-zero at_end regs = refl

    cache_on-zero : (progress : Progress) (regs : Regs) (cache : Cache) → cache_on step cache_after 0 progress regs cache ≡ cache
    unfolding cache_after_callers cache_after_walk
    cache_on-zero (before pc) regs cache = refl
    cache_on-zero (at_frame location) regs cache = refl
    cache_on-zero at_end regs cache = refl

    pub WalksOn-limit : (front : List FrameLocation) (left total : ℕ) (progress start : Progress) (regs regs0 : Regs) (cache cache0 : Cache) → left ≡ 0 → WalksOn front left total progress start regs regs0 cache cache0 → (◌≡◌ {A = Walk Regs} (record { frames = front; end = at_limit; regs = regs }) (walk_on step total start regs0)) × (cache ≡ cache_on step cache_after total start regs0 cache0)
    WalksOn-limit front left total progress start regs regs0 cache cache0 none so_far =
        let walk = subst (λ n. frames_before front (walk_on step n progress regs) ≡ walk_on step total start regs0) none so_far.walk in
        let cached = subst (λ n. cache_on step cache_after n progress regs cache ≡ cache_on step cache_after total start regs0 cache0) none so_far.cached in (
          ap (λ frames. record { frames = frames; end = at_limit; regs = regs }) (sym (append-nil front)) ∙ sym (ap (frames_before front) (walk_on-zero progress regs)) ∙ walk,
          sym (cache_on-zero progress regs cache) ∙ cached,
        )
