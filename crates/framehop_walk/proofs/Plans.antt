-- The commands of the input, one by one, beside those of a session that clones an unwinder only where one is changed.
use Rattle.std.proofs.Common.{◌≡◌, ℕ, zero, suc, ◌+◌, ◌-◌, ◌^◌, ◌<◌, ◌≤◌, Bool, true, false, cond, inl, inr, ⊎_elim, List, [], ◌∷◌, ◌++◌, map, length, get_or, set, slice_set, Option, Some, None, Result, Ok, Err, refl, sym, ap, ◌∙◌, subst, arith, lt-ltb, nat_lt, append_assoc}
use Rattle.std.proofs.lemmas.Bool.{le-ltb}
use Rattle.std.proofs.lemmas.List.{length-map, length-set, map-append, append-nil, get_or_past}
use Rattle.std.specs.Global.{Global}
use Rattle.std.specs.declared.vec.Vec.{Vec}
use Rattle.framehop_core.specs.Outcome.{answer_of, registers_after}
use Rattle.framehop_core.specs.CodeAddress.{location_of}
use Rattle.framehop_core.specs.declared.code_address.FrameAddress.{FrameAddress}
use Rattle.framehop.specs.Modules.{ModuleView, UnwinderView, with_module, has_start, without_module}
use Rattle.framehop.specs.Soundness.{cache_after}
use Rattle.framehop.specs.Unwinding.{Unwinding}
use Rattle.framehop.specs.Walk.{walk_from, cache_after_walk}
use Rattle.framehop.specs.World.{made, stepped, walked, memory_of, refusal_of, needs_unwinder, needs_cache, needs_generation, modules_of, unless_refused}
use Rattle.framehop.specs.CachedWorld.{CachedWorld, CachedReply, of_world, world_of, unwinder_at, cache_at, step_of, cached_reply, cached_after, reply_then, cached_replies}
use Rattle.framehop.specs.declared.session.Memory.{Memory}
use Rattle.framehop.specs.declared.session.Command.{Command}
use Rattle.framehop.specs.declared.session.Command.TheVariants.{New, Clone, Add, Remove, Step as StepCommand, Walk as WalkCommand, Stats}
use Rattle.framehop.specs.declared.session.SessionError.{SessionError}
use Rattle.framehop.specs.declared.session.SessionError.TheVariants.{NoSuchUnwinder}
use Rattle.framehop_walk.specs.declared.sharing.Told.{Told}
use Rattle.framehop_walk.specs.declared.sharing.Told.TheVariants.{Next, AfterClone, Made, Numbered}
use Rattle.framehop_walk.specs.Sharing.{tell, told_by, told_reply, left_after, times, IsCounted, place_in, unwinder_in, seen_by, Plan, Continues, Takes, Owns, IsSharedBy}
use Rattle.framehop_walk.proofs.Places.{length-push, get-default, get-set, below-or_past, copied-once, counted-shared, seen-at, seen-made, seen-copied, seen-changed}

-- ---- one reply before the others

abbrev Replies : Type 0 → Type 0
Replies Regs = Result (List (CachedReply Regs)) SessionError

abbrev Commands : Type 0 → Type 0
Commands Regs = List (Command (Vec ℕ Global) Regs)

module _ {Regs : Type 0} where
  then-next : (told : List Told) (reply : CachedReply Regs) (all left : Replies Regs) → all ≡ told_by told left
      → reply_then reply all ≡ told_by (Next ∷ told) (reply_then reply left)
  unfolding tell
  then-next told reply all (Ok left) e = ap (reply_then reply) e
  then-next told reply all (Err error) e = ap (reply_then reply) e

  then-numbered : (told : List Told) (number : ℕ) (reply : CachedReply Regs) (all left : Replies Regs) → all ≡ told_by told left
      → reply_then (of_world (made number)) all ≡ told_by (Numbered number ∷ told) (reply_then reply left)
  unfolding tell
  then-numbered told number reply all (Ok left) e = ap (reply_then (of_world (made number))) e
  then-numbered told number reply all (Err error) e = ap (reply_then (of_world (made number))) e

  then-made : (told : List Told) (number : ℕ) (all left : Replies Regs) → all ≡ told_by told left
      → reply_then (of_world (made number)) all ≡ told_by (Made number ∷ told) left
  unfolding tell
  then-made told number all (Ok left) e = ap (reply_then (of_world (made number))) e
  then-made told number all (Err error) e = ap (reply_then (of_world (made number))) e

  after-clone : (told : List Told) (reply : CachedReply Regs) (left : Replies Regs)
      → told_by (Next ∷ told) left ≡ told_by (AfterClone ∷ told) (reply_then reply left)
  unfolding tell
  after-clone told reply (Ok left) = refl
  after-clone told reply (Err error) = refl

  unless-both : (told : List Told) (refusal : Option SessionError) (all left : Replies Regs) → all ≡ told_by told left
      → unless_refused refusal all ≡ told_by told (unless_refused refusal left)
  unless-both told (Some error) all left e = refl
  unless-both told None all left e = e

-- ---- the refusals of a command that names an unwinder

modules-at : (us : List UnwinderView) (i : ℕ) → get_or (map (λ (u : UnwinderView). u.modules) us) i [] ≡ (unwinder_in us i).modules
modules-at [] i = refl
modules-at (u ∷ us) zero = refl
modules-at (u ∷ us) (suc i) = modules-at us i

module _ {Rule : Type 0} (state : CachedWorld Rule) where
  needs-there : (unwinder : ℕ) (other : Option SessionError) → unwinder < length state.unwinders
      → needs_unwinder (world_of state) unwinder other ≡ other
  needs-there unwinder other within =
      let e : nat_lt unwinder (length (world_of state).unwinders) ≡ true = lt-ltb _ _ (omega (arith, length-map state.unwinders (λ (u : UnwinderView). u.modules))) in
      rw e refl

  needs-none : (unwinder : ℕ) (other : Option SessionError) → length state.unwinders ≤ unwinder
      → needs_unwinder (world_of state) unwinder other ≡ Some NoSuchUnwinder
  needs-none unwinder other past =
      let e : nat_lt unwinder (length (world_of state).unwinders) ≡ false = le-ltb _ _ (omega (arith, length-map state.unwinders (λ (u : UnwinderView). u.modules))) in
      rw e refl

-- ---- a command of the input, and one of the session

module _ {Rule Regs : Type 0} (unwinding : Unwinding Rule Regs) where
  -- the reply to both is the same
  served : (a b : CachedWorld Rule) (one other : Command (Vec ℕ Global) Regs) (rest more : Commands Regs) (told : List Told)
      → refusal_of (length a.caches) (world_of a) one ≡ refusal_of (length b.caches) (world_of b) other
      → cached_reply {D = Vec ℕ Global} unwinding a one ≡ cached_reply {D = Vec ℕ Global} unwinding b other
      → cached_replies unwinding (cached_after {D = Vec ℕ Global} unwinding a one) rest ≡ told_by told (cached_replies unwinding (cached_after {D = Vec ℕ Global} unwinding b other) more)
      → cached_replies unwinding a (one ∷ rest) ≡ told_by (Next ∷ told) (cached_replies unwinding b (other ∷ more))
  unfolding cached_replies
  served a b one other rest more told refusals replies after =
      ap (λ r. unless_refused r (reply_then (cached_reply {D = Vec ℕ Global} unwinding a one) (cached_replies unwinding (cached_after {D = Vec ℕ Global} unwinding a one) rest))) refusals
      ∙ ap (λ r. unless_refused (refusal_of (length b.caches) (world_of b) other) (reply_then r (cached_replies unwinding (cached_after {D = Vec ℕ Global} unwinding a one) rest))) replies
      ∙ unless-both (Next ∷ told) (refusal_of (length b.caches) (world_of b) other) _ _
      (then-next told (cached_reply {D = Vec ℕ Global} unwinding b other) _ _ after)

  -- both are refused alike
  refused : (a b : CachedWorld Rule) (one other : Command (Vec ℕ Global) Regs) (rest more : Commands Regs) (told : List Told) (error : SessionError)
      → refusal_of (length a.caches) (world_of a) one ≡ Some error → refusal_of (length b.caches) (world_of b) other ≡ Some error
      → cached_replies unwinding a (one ∷ rest) ≡ told_by told (cached_replies unwinding b (other ∷ more))
  unfolding cached_replies
  refused a b one other rest more told error first second =
      ap (λ r. unless_refused r (reply_then (cached_reply {D = Vec ℕ Global} unwinding a one) (cached_replies unwinding (cached_after {D = Vec ℕ Global} unwinding a one) rest))) first
      ∙ ap (λ r. told_by told (unless_refused r (reply_then (cached_reply {D = Vec ℕ Global} unwinding b other) (cached_replies unwinding (cached_after {D = Vec ℕ Global} unwinding b other) more)))) (sym second)

  -- an unwinder is made in both, with its number in the input
  served-new : (a b : CachedWorld Rule) (rest more : Commands Regs) (told : List Told) (number : ℕ)
      → a.next ≡ b.next → number ≡ length a.unwinders
      → cached_replies unwinding (cached_after {D = Vec ℕ Global} unwinding a New) rest ≡ told_by told (cached_replies unwinding (cached_after {D = Vec ℕ Global} unwinding b New) more)
      → cached_replies unwinding a (New ∷ rest) ≡ told_by (Numbered number ∷ told) (cached_replies unwinding b (New ∷ more))
  unfolding cached_replies
  served-new a b rest more told number same is after =
      ap (λ n. unless_refused (needs_generation (record { unwinders = []; left = (2 ^ 64 - 1) - n })) (reply_then (cached_reply {D = Vec ℕ Global} unwinding a New) (cached_replies unwinding (cached_after {D = Vec ℕ Global} unwinding a New) rest))) same
      ∙ ap (λ n. unless_refused (needs_generation (world_of b)) (reply_then (of_world (made n)) (cached_replies unwinding (cached_after {D = Vec ℕ Global} unwinding a New) rest))) (sym is)
      ∙ unless-both (Numbered number ∷ told) (needs_generation (world_of b)) _ _
      (then-numbered told number (cached_reply {D = Vec ℕ Global} unwinding b New) _ _ after)

  -- a clone that is the same one of the session
  served-clone : (a b : CachedWorld Rule) (unwinder : ℕ) (rest more : Commands Regs) (told : List Told) (number : ℕ)
      → unwinder < length a.unwinders → number ≡ length a.unwinders
      → cached_replies unwinding (cached_after {D = Vec ℕ Global} unwinding a (Clone unwinder)) rest ≡ told_by told (cached_replies unwinding b more)
      → cached_replies unwinding a (Clone unwinder ∷ rest) ≡ told_by (Made number ∷ told) (cached_replies unwinding b more)
  unfolding cached_replies
  served-clone a b unwinder rest more told number within is after =
      ap (λ r. unless_refused r (reply_then (cached_reply {D = Vec ℕ Global} unwinding a (Clone unwinder)) (cached_replies unwinding (cached_after {D = Vec ℕ Global} unwinding a (Clone unwinder)) rest))) (needs-there a unwinder None within)
      ∙ ap (λ n. reply_then (of_world (made n)) (cached_replies unwinding (cached_after {D = Vec ℕ Global} unwinding a (Clone unwinder)) rest)) (sym is)
      ∙ then-made told number _ _ after

  -- a clone that the input does not ask for
  cloned : (b : CachedWorld Rule) (place : ℕ) (more : Commands Regs) (told : List Told) → place < length b.unwinders
      → told_by (Next ∷ told) (cached_replies unwinding (cached_after {D = Vec ℕ Global} unwinding b (Clone place)) more)
      ≡ told_by (AfterClone ∷ told) (cached_replies unwinding b (Clone place ∷ more))
  unfolding cached_replies
  cloned b place more told within =
      after-clone told (cached_reply {D = Vec ℕ Global} unwinding b (Clone place)) (cached_replies unwinding (cached_after {D = Vec ℕ Global} unwinding b (Clone place)) more)
      ∙ ap (λ r. told_by (AfterClone ∷ told) (unless_refused r (reply_then (cached_reply {D = Vec ℕ Global} unwinding b (Clone place)) (cached_replies unwinding (cached_after {D = Vec ℕ Global} unwinding b (Clone place)) more)))) (sym (needs-there b place None within))

-- ---- each command

module _ {Rule Regs : Type 0} (unwinding : Unwinding Rule Regs) (places counts : List ℕ) (commands : List (Command (Vec ℕ Global) Regs)) (told : List Told) (is_counted : IsCounted places counts) where
  abbrev plan : Plan Regs
  plan = record { places = places; counts = counts; commands = commands; told = told }

  abbrev with_places : List ℕ → List ℕ → List (Command (Vec ℕ Global) Regs) → List Told → Plan Regs
  with_places new_places new_counts new_commands new_told =
      record { places = new_places; counts = new_counts; commands = new_commands; told = new_told }

  -- a command for which the session does these, of which one has the reply
  goes-on : (new_places new_counts : List ℕ) (command : Command (Vec ℕ Global) Regs) (does : List (Command (Vec ℕ Global) Regs)) (one : Told)
      → ((rest more : List (Command (Vec ℕ Global) Regs)) (more_told : List Told) (state : CachedWorld Rule) → length counts ≡ length state.unwinders
      → ((after : CachedWorld Rule) → length new_counts ≡ length after.unwinders
      → cached_replies unwinding (seen_by new_places after) rest ≡ told_by more_told (cached_replies unwinding after more))
      → cached_replies unwinding (seen_by places state) (command ∷ rest)
      ≡ told_by (one ∷ more_told) (cached_replies unwinding state (does ++ more)))
      → Takes unwinding command plan (with_places new_places new_counts (commands ++ does) (told ++ one ∷ []))
  unfolding Takes Continues
  goes-on new_places new_counts command does one serves =
      λ start rest all so_far more more_told next.
      so_far (does ++ more) (one ∷ more_told) (λ state same. serves rest more more_told state same next)
      ∙ ap (λ t. told_by t (cached_replies unwinding start (commands ++ (does ++ more)))) (sym (append_assoc told (one ∷ []) more_told))
      ∙ ap (λ c. told_by ((told ++ one ∷ []) ++ more_told) (cached_replies unwinding start c)) (sym (append_assoc commands does more))

  module _ (state : CachedWorld Rule) (same : length counts ≡ length state.unwinders) where
    within_state : (u : ℕ) → u < length places → get_or places u 0 < length state.unwinders
    within_state u below = let w = is_counted.within u below in omega (arith, same, w)

    width : length (seen_by places state).unwinders ≡ length places
    width = length-map places (unwinder_in state.unwinders)

  pub takes-new : Takes unwinding New plan (with_places (places ++ length counts ∷ []) (counts ++ 1 ∷ []) (commands ++ New ∷ []) (told ++ Numbered (length places) ∷ []))
  takes-new =
      goes-on (places ++ length counts ∷ []) (counts ++ 1 ∷ []) New (New ∷ []) (Numbered (length places)) (λ rest more more_told state same next.
      let made_one : UnwinderView = record { modules = []; generation = state.next } in
      let us = state.unwinders in
      let e : map (unwinder_in (us ++ made_one ∷ [])) (places ++ length counts ∷ []) ≡ map (unwinder_in us) places ++ made_one ∷ [] =
      ap (λ n. map (unwinder_in (us ++ made_one ∷ [])) (places ++ n ∷ [])) same ∙ seen-made us made_one places (within_state state same) in
      let longer : length (counts ++ 1 ∷ []) ≡ length (us ++ made_one ∷ []) =
      let a = length-push counts 1 in let b = length-push us made_one in omega (arith, a, b, same) in
      served-new unwinding (seen_by places state) state rest more more_told (length places) refl (sym (width state same))
      (ap (λ (vs : List UnwinderView). cached_replies unwinding (record { unwinders = vs; next = state.next + 1; caches = state.caches }) rest) (sym e)
      ∙ next (cached_after {D = Vec ℕ Global} unwinding state New) longer))

  pub takes-shared : (unwinder : ℕ) (new_counts : List ℕ) → unwinder < length places → length new_counts ≡ length counts
      → Takes unwinding (Clone unwinder) plan (with_places (places ++ get_or places unwinder 0 ∷ []) new_counts commands (told ++ Made (length places) ∷ []))
  takes-shared unwinder new_counts within size =
      let place = get_or places unwinder 0 in
      subst (λ cs. Takes unwinding (Clone unwinder) plan (with_places (places ++ place ∷ []) new_counts cs (told ++ Made (length places) ∷ []))) (append-nil commands)
      (goes-on (places ++ place ∷ []) new_counts (Clone unwinder) [] (Made (length places)) (λ rest more more_told state same next.
      let us = state.unwinders in
      let e : map (unwinder_in us) (places ++ place ∷ []) ≡ map (unwinder_in us) places ++ unwinder_in (map (unwinder_in us) places) unwinder ∷ [] =
      map-append (unwinder_in us) places (place ∷ []) ∙ ap (λ v. map (unwinder_in us) places ++ v ∷ []) (sym (seen-at us places unwinder within)) in
      let wide = width state same in
      served-clone unwinding (seen_by places state) state unwinder rest more more_told (length places) (omega (arith, wide)) (sym wide)
      (ap (λ (vs : List UnwinderView). cached_replies unwinding (record { unwinders = vs; next = state.next; caches = state.caches }) rest) (sym e)
      ∙ next state (size ∙ same))))

  pub takes-missing : (unwinder place : ℕ) → length places ≤ unwinder → place ≡ length counts
      → Takes unwinding (Clone unwinder) plan (with_places places counts (commands ++ Clone place ∷ []) (told ++ Next ∷ []))
  takes-missing unwinder place past is =
      goes-on places counts (Clone unwinder) (Clone place ∷ []) Next (λ rest more more_told state same next.
      let wide = width state same in
      refused unwinding (seen_by places state) state (Clone unwinder) (Clone place) rest more (Next ∷ more_told) NoSuchUnwinder
      (needs-none (seen_by places state) unwinder None (omega (arith, wide))) (needs-none state place None (omega (arith, is, same))))

  pub takes-stats : (cache : ℕ) → Takes unwinding (Stats cache) plan (with_places places counts (commands ++ Stats cache ∷ []) (told ++ Next ∷ []))
  takes-stats cache =
      goes-on places counts (Stats cache) (Stats cache ∷ []) Next (λ rest more more_told state same next.
      served unwinding (seen_by places state) state (Stats cache) (Stats cache) rest more more_told refl refl (next state same))

  module _ (unwinder cache place : ℕ) (is : place ≡ place_in places counts unwinder) where
    -- the refusals of a command that names an unwinder and perhaps a cache
    module _ (state : CachedWorld Rule) (same : length counts ≡ length state.unwinders) where
      at_place : unwinder < length places → place ≡ get_or places unwinder 0
      at_place within = is ∙ get-default places unwinder (length counts) 0 within

      needs-alike : (other : Option SessionError) → unwinder < length places
          → needs_unwinder (world_of (seen_by places state)) unwinder other ≡ needs_unwinder (world_of state) place other
      needs-alike other within =
          let wide = width state same in let there = within_state state same unwinder within in let at = at_place within in
          needs-there (seen_by places state) unwinder other (omega (arith, wide)) ∙ sym (needs-there state place other (omega (arith, at, there)))

      needs-neither : (one other : Option SessionError) → length places ≤ unwinder
          → (needs_unwinder (world_of (seen_by places state)) unwinder one ≡ Some NoSuchUnwinder) × (needs_unwinder (world_of state) place other ≡ Some NoSuchUnwinder)
      needs-neither one other past =
          let wide = width state same in let at : place ≡ length counts = is ∙ get_or_past places unwinder (length counts) past in (
            needs-none (seen_by places state) unwinder one (omega (arith, wide)),
            needs-none state place other (omega (arith, at, same)),
          )

      seen-alike : unwinder < length places → unwinder_at (seen_by places state) unwinder ≡ unwinder_at state place
      seen-alike within = seen-at state.unwinders places unwinder within ∙ ap (unwinder_in state.unwinders) (sym (at_place within))

    pub takes-step : (address : FrameAddress) (regs : Regs) (memory : Memory)
        → Takes unwinding (StepCommand unwinder cache address regs memory) plan
        (with_places places counts (commands ++ StepCommand place cache address regs memory ∷ []) (told ++ Next ∷ []))
    takes-step address regs memory =
        let one = StepCommand unwinder cache address regs memory in let other = StepCommand place cache address regs memory in
        goes-on places counts one (other ∷ []) Next (λ rest more more_told state same next.
        let v = seen_by places state in
        ⊎_elim
        (λ within. let alike = seen-alike state same within in
        served unwinding v state one other rest more more_told (needs-alike state same (needs_cache (length state.caches) cache None) within)
        (ap (λ w. let stepping = step_of unwinding w (memory_of memory) (location_of address) regs in of_world (stepped (answer_of stepping) (registers_after regs stepping))) alike)
        (ap (λ w. cached_replies unwinding (record v { caches = slice_set state.caches cache (cache_after unwinding w (cache_at state cache) (location_of address)) }) rest) alike
        ∙ next (cached_after {D = Vec ℕ Global} unwinding state other) same))
        (λ past. let neither = needs-neither state same (needs_cache (length state.caches) cache None) (needs_cache (length state.caches) cache None) past in
        refused unwinding v state one other rest more (Next ∷ more_told) NoSuchUnwinder neither.0 neither.1)
        (below-or_past unwinder (length places)))

    pub takes-walk : (pc : ℕ) (regs : Regs) (memory : Memory) (limit : ℕ)
        → Takes unwinding (WalkCommand unwinder cache pc regs memory limit) plan
        (with_places places counts (commands ++ WalkCommand place cache pc regs memory limit ∷ []) (told ++ Next ∷ []))
    takes-walk pc regs memory limit =
        let one = WalkCommand unwinder cache pc regs memory limit in let other = WalkCommand place cache pc regs memory limit in
        goes-on places counts one (other ∷ []) Next (λ rest more more_told state same next.
        let v = seen_by places state in
        ⊎_elim
        (λ within. let alike = seen-alike state same within in
        served unwinding v state one other rest more more_told (needs-alike state same (needs_cache (length state.caches) cache None) within)
        (ap (λ w. of_world (walked (walk_from (step_of unwinding w (memory_of memory)) limit pc regs))) alike)
        (ap (λ w. cached_replies unwinding (record v { caches = slice_set state.caches cache (cache_after_walk (step_of unwinding w (memory_of memory)) (cache_after unwinding w) limit pc regs (cache_at state cache)) }) rest) alike
        ∙ next (cached_after {D = Vec ℕ Global} unwinding state other) same))
        (λ past. let neither = needs-neither state same (needs_cache (length state.caches) cache None) (needs_cache (length state.caches) cache None) past in
        refused unwinding v state one other rest more (Next ∷ more_told) NoSuchUnwinder neither.0 neither.1)
        (below-or_past unwinder (length places)))

-- ---- a command that changes an unwinder of the session which is only one of the input

module _ {Rule Regs : Type 0} (unwinding : Unwinding Rule Regs) (places : List ℕ) (state : CachedWorld Rule) (unwinder : ℕ)
    (within : unwinder < length places) (there : get_or places unwinder 0 < length state.unwinders) (once : times (get_or places unwinder 0) places ≡ 1)
    (rest more : List (Command (Vec ℕ Global) Regs)) (told : List Told) where
  abbrev seen : CachedWorld Rule
  seen = seen_by places state

  alike : unwinder_at seen unwinder ≡ unwinder_at state (get_or places unwinder 0)
  alike = seen-at state.unwinders places unwinder within

  needs-same : (other : Option SessionError) → needs_unwinder (world_of seen) unwinder other ≡ needs_unwinder (world_of state) (get_or places unwinder 0) other
  needs-same other =
      let wide = length-map places (unwinder_in state.unwinders) in
      needs-there seen unwinder other (omega (arith, wide)) ∙ sym (needs-there state (get_or places unwinder 0) other there)

  -- the unwinder of the input is changed as that of the session
  changed : (x : UnwinderView) (n : ℕ)
      → record seen { unwinders = set seen.unwinders unwinder x; next = n } ≡ seen_by places (record state { unwinders = set state.unwinders (get_or places unwinder 0) x; next = n })
  changed x n =
      ap (λ (us : List UnwinderView). record { unwinders = us; next = n; caches = state.caches }) (sym (seen-changed state.unwinders x places unwinder within there once))

  pub added : (one : ModuleView)
      → cached_replies unwinding (seen_by places (cached_after {D = Vec ℕ Global} unwinding state (Add (get_or places unwinder 0) one))) rest
      ≡ told_by told (cached_replies unwinding (cached_after {D = Vec ℕ Global} unwinding state (Add (get_or places unwinder 0) one)) more)
      → cached_replies unwinding seen (Add unwinder one ∷ rest) ≡ told_by (Next ∷ told) (cached_replies unwinding state (Add (get_or places unwinder 0) one ∷ more))
  added one after =
      let w = unwinder_at state (get_or places unwinder 0) in
      served unwinding seen state (Add unwinder one) (Add (get_or places unwinder 0) one) rest more told
      (needs-same (needs_generation (world_of state))) refl
      (ap (λ (v : UnwinderView). cached_replies unwinding (record seen { unwinders = set seen.unwinders unwinder (record { modules = with_module one v.modules; generation = state.next }); next = state.next + 1 }) rest) alike
      ∙ ap (λ s. cached_replies unwinding s rest) (changed (record { modules = with_module one w.modules; generation = state.next }) (state.next + 1))
      ∙ after)

  removed-as : (start : ℕ) (w : UnwinderView) (b : Bool)
      → cond b (record seen { unwinders = set seen.unwinders unwinder (record { modules = without_module start w.modules; generation = state.next }); next = state.next + 1 }) seen
      ≡ seen_by places (cond b (record state { unwinders = set state.unwinders (get_or places unwinder 0) (record { modules = without_module start w.modules; generation = state.next }); next = state.next + 1 }) state)
  removed-as start w true = changed (record { modules = without_module start w.modules; generation = state.next }) (state.next + 1)
  removed-as start w false = refl

  pub removed : (start : ℕ)
      → cached_replies unwinding (seen_by places (cached_after {D = Vec ℕ Global} unwinding state (Remove (get_or places unwinder 0) start))) rest
      ≡ told_by told (cached_replies unwinding (cached_after {D = Vec ℕ Global} unwinding state (Remove (get_or places unwinder 0) start)) more)
      → cached_replies unwinding seen (Remove unwinder start ∷ rest) ≡ told_by (Next ∷ told) (cached_replies unwinding state (Remove (get_or places unwinder 0) start ∷ more))
  removed start after =
      let w = unwinder_at state (get_or places unwinder 0) in
      let modules : modules_of (world_of seen) unwinder ≡ modules_of (world_of state) (get_or places unwinder 0) =
      modules-at seen.unwinders unwinder ∙ ap (λ (v : UnwinderView). v.modules) alike ∙ sym (modules-at state.unwinders (get_or places unwinder 0)) in
      served unwinding seen state (Remove unwinder start) (Remove (get_or places unwinder 0) start) rest more told
      (ap (λ ms. needs_unwinder (world_of seen) unwinder (cond (has_start start ms) (needs_generation (world_of state)) None)) modules
      ∙ needs-same (cond (has_start start (modules_of (world_of state) (get_or places unwinder 0))) (needs_generation (world_of state)) None)) refl
      (ap (λ (v : UnwinderView). cached_replies unwinding (cond (has_start start v.modules) (record seen { unwinders = set seen.unwinders unwinder (record { modules = without_module start v.modules; generation = state.next }); next = state.next + 1 }) seen) rest) alike
      ∙ ap (λ s. cached_replies unwinding s rest) (removed-as start w (has_start start w.modules))
      ∙ after)

-- ---- the same beside the plan: the unwinder is only one of the input, or it is cloned first

module _ {Rule Regs : Type 0} (unwinding : Unwinding Rule Regs) (old : Plan Regs) (is_counted : IsCounted old.places old.counts)
    (command : ℕ → Command (Vec ℕ Global) Regs) where
  -- the command is one that changes an unwinder
  pub record Changes : Type 0 where
    pub alone : (places : List ℕ) (state : CachedWorld Rule) (unwinder : ℕ) → unwinder < length places
        → get_or places unwinder 0 < length state.unwinders → times (get_or places unwinder 0) places ≡ 1
        → (rest more : List (Command (Vec ℕ Global) Regs)) (told : List Told)
        → cached_replies unwinding (seen_by places (cached_after {D = Vec ℕ Global} unwinding state (command (get_or places unwinder 0)))) rest
        ≡ told_by told (cached_replies unwinding (cached_after {D = Vec ℕ Global} unwinding state (command (get_or places unwinder 0))) more)
        → cached_replies unwinding (seen_by places state) (command unwinder ∷ rest)
        ≡ told_by (Next ∷ told) (cached_replies unwinding state (command (get_or places unwinder 0) ∷ more))
    pub missing : (state : CachedWorld Rule) (unwinder : ℕ) → length state.unwinders ≤ unwinder
        → refusal_of (length state.caches) (world_of state) (command unwinder) ≡ Some NoSuchUnwinder
    pub size : (state : CachedWorld Rule) (unwinder : ℕ) → length (cached_after {D = Vec ℕ Global} unwinding state (command unwinder)).unwinders ≡ length state.unwinders

  module _ (changes : Changes) (unwinder : ℕ) where
    takes-alone : (place : ℕ) → place ≡ place_in old.places old.counts unwinder → (unwinder < length old.places → times place old.places ≡ 1)
        → Takes unwinding (command unwinder) old (record old { commands = old.commands ++ command place ∷ []; told = old.told ++ Next ∷ [] })
    takes-alone place is once =
        goes-on unwinding old.places old.counts old.commands old.told is_counted old.places old.counts (command unwinder) (command place ∷ []) Next (λ rest more more_told state same next.
        ⊎_elim
        (λ within.
        let at : place ≡ get_or old.places unwinder 0 = is ∙ get-default old.places unwinder (length old.counts) 0 within in
        let there = within_state unwinding old.places old.counts old.commands old.told is_counted state same unwinder within in
        let single : times (get_or old.places unwinder 0) old.places ≡ 1 = ap (λ p. times p old.places) (sym at) ∙ once within in
        subst (λ p. cached_replies unwinding (seen_by old.places state) (command unwinder ∷ rest) ≡ told_by (Next ∷ more_told) (cached_replies unwinding state (command p ∷ more))) (sym at)
        (changes.alone old.places state unwinder within there single rest more more_told
        (next (cached_after {D = Vec ℕ Global} unwinding state (command (get_or old.places unwinder 0))) (same ∙ sym (changes.size state (get_or old.places unwinder 0))))))
        (λ past.
        let wide = length-map old.places (unwinder_in state.unwinders) in
        let at : place ≡ length old.counts = is ∙ get_or_past old.places unwinder (length old.counts) past in
        refused unwinding (seen_by old.places state) state (command unwinder) (command place) rest more (Next ∷ more_told) NoSuchUnwinder
        (changes.missing (seen_by old.places state) unwinder (omega (arith, wide)))
        (changes.missing state place (omega (arith, at, same))))
        (below-or_past unwinder (length old.places)))

    takes-copied : (new_counts : List ℕ) → unwinder < length old.places → length new_counts ≡ length old.counts + 1
        → Takes unwinding (command unwinder) old (record {
          places = set old.places unwinder (length old.counts);
          counts = new_counts;
          commands = old.commands ++ (Clone (get_or old.places unwinder 0) ∷ command (length old.counts) ∷ []);
          told = old.told ++ AfterClone ∷ [];
        })
    takes-copied new_counts within size =
        let k = length old.counts in let first = get_or old.places unwinder 0 in let new_places = set old.places unwinder k in
        goes-on unwinding old.places old.counts old.commands old.told is_counted new_places new_counts (command unwinder) (Clone first ∷ command k ∷ []) AfterClone (λ rest more more_told state same next.
        let us = state.unwinders in
        let each = within_state unwinding old.places old.counts old.commands old.told is_counted state same in
        let there = each unwinder within in
        let copied = cached_after {D = Vec ℕ Global} unwinding state (Clone first) in
        let e : map (unwinder_in (us ++ unwinder_in us first ∷ [])) new_places ≡ map (unwinder_in us) old.places =
        ap (λ n. map (unwinder_in (us ++ unwinder_in us first ∷ [])) (set old.places unwinder n)) same ∙ seen-copied us old.places unwinder within each in
        let at : get_or new_places unwinder 0 ≡ k = get-set old.places k 0 unwinder within in
        let wide : length new_places ≡ length old.places = length-set old.places unwinder k in
        let longer = length-push us (unwinder_in us first) in
        let once : times k new_places ≡ 1 = copied-once old.places old.counts is_counted unwinder within in
        ap (λ (vs : List UnwinderView). cached_replies unwinding (record { unwinders = vs; next = state.next; caches = state.caches }) (command unwinder ∷ rest)) (sym e)
        ∙ subst (λ p. cached_replies unwinding (seen_by new_places copied) (command unwinder ∷ rest) ≡ told_by (Next ∷ more_told) (cached_replies unwinding copied (command p ∷ more))) at
        (changes.alone new_places copied unwinder (omega (arith, wide)) (omega (arith, at, longer, same)) (ap (λ p. times p new_places) at ∙ once) rest more more_told
        (next (cached_after {D = Vec ℕ Global} unwinding copied (command (get_or new_places unwinder 0)))
        (size ∙ omega (arith, longer, same) ∙ sym (changes.size copied (get_or new_places unwinder 0)))))
        ∙ cloned unwinding state first (command k ∷ more) more_told there)

    pub takes-owned : (new : Plan Regs) (place : ℕ) (one : Told) → Owns old new unwinder place one
        → Takes unwinding (command unwinder) old (record new { commands = new.commands ++ command place ∷ []; told = new.told ++ one ∷ [] })
    unfolding Owns
    takes-owned new place one (inl (is, at, tells, once)) =
        subst (λ (p : Plan Regs). Takes unwinding (command unwinder) old (record p { commands = p.commands ++ command place ∷ []; told = p.told ++ one ∷ [] })) (sym is)
        (subst (λ t. Takes unwinding (command unwinder) old (record old { commands = old.commands ++ command place ∷ []; told = old.told ++ t ∷ [] })) (sym tells)
        (takes-alone place at once))
    takes-owned new place one (inr (within, at, tells, moved, size, cloning, kept)) =
        let first : place_in old.places old.counts unwinder ≡ get_or old.places unwinder 0 = get-default old.places unwinder (length old.counts) 0 within in
        let does : old.commands ++ (Clone (get_or old.places unwinder 0) ∷ command (length old.counts) ∷ []) ≡ new.commands ++ command place ∷ [] =
        sym (append_assoc old.commands (Clone (get_or old.places unwinder 0) ∷ []) (command (length old.counts) ∷ []))
        ∙ ap (λ n. (old.commands ++ Clone n ∷ []) ++ command (length old.counts) ∷ []) (sym first)
        ∙ ap (λ cs. cs ++ command (length old.counts) ∷ []) (sym cloning)
        ∙ ap (λ n. new.commands ++ command n ∷ []) (sym at) in
        let places_are : set old.places unwinder (length old.counts) ≡ new.places = ap (λ n. set old.places unwinder n) (sym at) ∙ sym moved in
        let told_is : old.told ++ AfterClone ∷ [] ≡ new.told ++ one ∷ [] = ap (λ ts. ts ++ AfterClone ∷ []) (sym kept) ∙ ap (λ t. new.told ++ t ∷ []) (sym tells) in
        subst (λ (ps : List ℕ). Takes unwinding (command unwinder) old (record { places = ps; counts = new.counts; commands = new.commands ++ command place ∷ []; told = new.told ++ one ∷ [] })) places_are
        (subst (λ (cs : List (Command (Vec ℕ Global) Regs)). Takes unwinding (command unwinder) old (record { places = set old.places unwinder (length old.counts); counts = new.counts; commands = cs; told = new.told ++ one ∷ [] })) does
        (subst (λ (ts : List Told). Takes unwinding (command unwinder) old (record { places = set old.places unwinder (length old.counts); counts = new.counts; commands = old.commands ++ (Clone (get_or old.places unwinder 0) ∷ command (length old.counts) ∷ []); told = ts })) told_is
        (takes-copied new.counts within size)))

module _ {Rule Regs : Type 0} (unwinding : Unwinding Rule Regs) (old : Plan Regs) (is_counted : IsCounted old.places old.counts) where
  pub takes-add : (one : ModuleView) (unwinder : ℕ) (new : Plan Regs) (place : ℕ) (tells : Told) → Owns old new unwinder place tells
      → Takes unwinding (Add unwinder one) old (record new { commands = new.commands ++ Add place one ∷ []; told = new.told ++ tells ∷ [] })
  takes-add one unwinder new place tells owns =
      takes-owned unwinding old is_counted (λ u. Add u one) (record {
        alone = λ places state u within there once rest more told after. added unwinding places state u within there once rest more told one after;
        missing = λ state u past. needs-none state u (needs_generation (world_of state)) past;
        size = λ state u. length-set state.unwinders u _;
      }) unwinder new place tells owns

  pub takes-remove : (start : ℕ) (unwinder : ℕ) (new : Plan Regs) (place : ℕ) (tells : Told) → Owns old new unwinder place tells
      → Takes unwinding (Remove unwinder start) old (record new { commands = new.commands ++ Remove place start ∷ []; told = new.told ++ tells ∷ [] })
  takes-remove start unwinder new place tells owns =
      takes-owned unwinding old is_counted (λ u. Remove u start) (record {
        alone = λ places state u within there once rest more told after. removed unwinding places state u within there once rest more told start after;
        missing = λ state u past. needs-none state u _ past;
        size = λ state u. removed-size state u (has_start start (unwinder_at state u).modules);
      }) unwinder new place tells owns
    where
      removed-size : (state : CachedWorld Rule) (u : ℕ) (b : Bool)
          → length (cond b (record state { unwinders = set state.unwinders u (record { modules = without_module start (unwinder_at state u).modules; generation = state.next }); next = state.next + 1 }) state).unwinders ≡ length state.unwinders
      removed-size state u true = length-set state.unwinders u _
      removed-size state u false = refl

-- ---- what the code does for an unwinder that is to be changed, and for a clone

module _ {Regs : Type 0} (old new : Plan Regs) (unwinder place : ℕ) where
  pub owns-alone : new ≡ old → place ≡ place_in old.places old.counts unwinder → (unwinder < length old.places → times (get_or old.places unwinder 0) old.places ≡ 1)
      → Owns old new unwinder place Next
  unfolding Owns
  owns-alone same is once =
      inl (same, is, refl, λ within. ap (λ p. times p old.places) (is ∙ get-default old.places unwinder (length old.counts) 0 within) ∙ once within)

  pub owns-copy : unwinder < length old.places → place ≡ length old.counts → new.places ≡ set old.places unwinder place
      → length new.counts ≡ length old.counts + 1 → new.commands ≡ old.commands ++ Clone (place_in old.places old.counts unwinder) ∷ [] → new.told ≡ old.told
      → Owns old new unwinder place AfterClone
  unfolding Owns
  owns-copy within is moved size cloning kept = inr (within, is, refl, moved, size, cloning, kept)

module _ {Rule Regs : Type 0} (unwinding : Unwinding Rule Regs) (old new : Plan Regs) (unwinder : ℕ) (is_counted : IsCounted old.places old.counts) where
  pub shared-takes : IsSharedBy old new unwinder → Takes unwinding (Clone unwinder) old new
  unfolding IsSharedBy
  shared-takes (inl (within, places, counts, commands, told)) =
      let size : length new.counts ≡ length old.counts = ap length counts ∙ length-set old.counts _ _ in
      subst (λ (p : Plan Regs). Takes unwinding (Clone unwinder) old p)
      (λ i. record { places = (sym places) i; counts = new.counts; commands = (sym commands) i; told = (sym told) i })
      (takes-shared unwinding old.places old.counts old.commands old.told is_counted unwinder new.counts within size)
  shared-takes (inr (past, places, counts, commands, told)) =
      subst (λ (p : Plan Regs). Takes unwinding (Clone unwinder) old p)
      (λ i. record { places = (sym places) i; counts = (sym counts) i; commands = (sym commands) i; told = (sym told) i })
      (takes-missing unwinding old.places old.counts old.commands old.told is_counted unwinder (length old.counts) past refl)

module _ {Regs : Type 0} (old new : Plan Regs) (unwinder : ℕ) where
  pub shared-counted : IsCounted old.places old.counts → IsSharedBy old new unwinder → IsCounted new.places new.counts
  unfolding IsSharedBy
  shared-counted is_counted (inl (within, places, counts, commands, told)) =
      rw (places, counts) (counted-shared old.places old.counts is_counted unwinder within)
  shared-counted is_counted (inr (past, places, counts, commands, told)) = rw (places, counts) is_counted

  pub shares : unwinder < length old.places → new.places ≡ old.places ++ place_in old.places old.counts unwinder ∷ []
      → new.counts ≡ set old.counts (place_in old.places old.counts unwinder) (get_or old.counts (place_in old.places old.counts unwinder) 0 + 1)
      → new.commands ≡ old.commands → new.told ≡ old.told ++ Made (length old.places) ∷ [] → IsSharedBy old new unwinder
  unfolding IsSharedBy
  shares within places counts commands told =
      let e : place_in old.places old.counts unwinder ≡ get_or old.places unwinder 0 = get-default old.places unwinder (length old.counts) 0 within in
      inl (within, places ∙ ap (λ p. old.places ++ p ∷ []) e, counts ∙ ap (λ p. set old.counts p (get_or old.counts p 0 + 1)) e, commands, told)

  pub shares-none : length old.places ≤ unwinder → new.places ≡ old.places → new.counts ≡ old.counts
      → new.commands ≡ old.commands ++ Clone (place_in old.places old.counts unwinder) ∷ [] → new.told ≡ old.told ++ Next ∷ [] → IsSharedBy old new unwinder
  unfolding IsSharedBy
  shares-none past places counts commands told =
      inr (past, places, counts, commands ∙ ap (λ p. old.commands ++ Clone p ∷ []) (get_or_past old.places unwinder (length old.counts) past), told)

-- ---- all commands

module _ {Rule Regs : Type 0} (unwinding : Unwinding Rule Regs) (start : CachedWorld Rule) where
  pub Continues-start : (all : List (Command (Vec ℕ Global) Regs)) → start.unwinders ≡ []
      → Continues unwinding start (record { places = []; counts = []; commands = []; told = [] }) all all
  unfolding Continues
  Continues-start all none = λ more more_told next.
      ap (λ (us : List UnwinderView). cached_replies unwinding (record { unwinders = us; next = start.next; caches = start.caches }) all) none
      ∙ next start (sym (ap length none))

  pub Continues-taken : (old new : Plan Regs) (command : Command (Vec ℕ Global) Regs) (rest all : List (Command (Vec ℕ Global) Regs))
      → Takes unwinding command old new → Continues unwinding start old (command ∷ rest) all → Continues unwinding start new rest all
  unfolding Takes
  Continues-taken old new command rest all takes so_far = takes start rest all so_far

  pub Continues-end : (plan : Plan Regs) (rest all : List (Command (Vec ℕ Global) Regs)) → rest ≡ [] → Continues unwinding start plan rest all
      → cached_replies unwinding start all ≡ told_by plan.told (cached_replies unwinding start plan.commands)
  unfolding Continues cached_replies tell
  Continues-end plan rest all none so_far =
      so_far [] [] (λ state same. ap (cached_replies unwinding (seen_by plan.places state)) none)
      ∙ ap (λ t. told_by t (cached_replies unwinding start (plan.commands ++ []))) (append-nil plan.told)
      ∙ ap (λ c. told_by plan.told (cached_replies unwinding start c)) (append-nil plan.commands)

-- the replies that are left are told
pub tell-next : {Regs : Type 0} (one : Told) (told : List Told) (replies : List (CachedReply Regs))
    → tell (one ∷ told) replies ≡ told_reply one replies ++ tell told (left_after one replies)
unfolding tell
tell-next one told replies = refl

pub tell-none : {Regs : Type 0} (replies : List (CachedReply Regs)) → tell [] replies ≡ []
unfolding tell
tell-none replies = refl

-- what is taken, seen by what is equal to it
pub takes-by : {Rule Regs : Type 0} (unwinding : Unwinding Rule Regs) (old : Plan Regs) (command other : Command (Vec ℕ Global) Regs)
    (places other_places counts other_counts : List ℕ) (commands other_commands : List (Command (Vec ℕ Global) Regs)) (told other_told : List Told)
    → other ≡ command → other_places ≡ places → other_counts ≡ counts → other_commands ≡ commands → other_told ≡ told
    → Takes unwinding command old (record { places = places; counts = counts; commands = commands; told = told })
    → Takes unwinding other old (record { places = other_places; counts = other_counts; commands = other_commands; told = other_told })
takes-by {Rule} {Regs} unwinding old command other places other_places counts other_counts commands other_commands told other_told is p c m t takes =
    subst (λ k. Takes unwinding k old (record { places = other_places; counts = other_counts; commands = other_commands; told = other_told })) (sym is)
    (subst (λ (q : Plan Regs). Takes unwinding command old q)
    (λ i. record { places = (sym p) i; counts = (sym c) i; commands = (sym m) i; told = (sym t) i }) takes)

-- one more reply is told
pub told-more : {Regs : Type 0} (front here replies left all : List (CachedReply Regs)) (one : Told) (told : List Told)
    → here ≡ told_reply one replies → left ≡ left_after one replies → front ++ tell (one ∷ told) replies ≡ all
    → (front ++ here) ++ tell told left ≡ all
told-more front here replies left all one told is_here is_left so_far =
    append_assoc front here (tell told left)
    ∙ ap (λ h. front ++ (h ++ tell told left)) is_here
    ∙ ap (λ l. front ++ (told_reply one replies ++ tell told l)) is_left
    ∙ ap (λ t. front ++ t) (sym (tell-next one told replies))
    ∙ so_far
