-- A walk that is written into a list of addresses, one call of the iterator at a time.
use Rattle.std.proofs.Common.{◌≡◌, ◌≢◌, ℕ, zero, suc, ◌+◌, ◌-◌, ◌<◌, ◌≤◌, List, [], ◌∷◌, ◌++◌, map, length, take, drop, set, Some, None, Ok, Err, refl, sym, ap, ◌∙◌, subst, arith}
use borrow.Rule.Slice.PartMut.{put_mid, post_of}
use Rattle.std.specs.List.{between}
use Rattle.std.proofs.lemmas.List.{take_more_set, map-append, length-append, length-map, take_all, take-append-le, append-nil, drop_at, drop-drop, take-append-drop, take-take, length-take-le, length-drop}
use Rattle.framehop_core.specs.Outcome.{Outcome}
use Rattle.framehop_core.specs.CodeAddress.{FrameLocation, address_of}
use Rattle.framehop.specs.Walk.{callers, cache_after_callers}
use Rattle.framehop.specs.SessionView.{end_of}
use Rattle.framehop.specs.Iterator.{Progress, at_frame, next_of, end_in, frames_in, walk_on, cache_on, cache_after_next}
use Rattle.framehop.specs.declared.walk.WalkEnd.{WalkEnd}
use Rattle.framehop.specs.declared.walk.WalkEnd.TheVariants.{Limit, Refused}
use Rattle.framehop_core.specs.declared.error.Error.TheVariants.{OutOfMemory, ReturnAddressIsNull}
use Rattle.framehop.proofs.WalkLemmas.{WalksOn, WalksOn-next, WalksOn-ended, WalksOn-limit}
use Rattle.framehop_lent.specs.Walk.{BeginsWalk, IsWrittenWalk, IsWrittenUpTo, IsCallerOrEnd, WhereEnded}
use Rattle.framehop_lent.specs.declared.walk.WalkStop.{WalkStop}
use Rattle.framehop_lent.specs.declared.walk.WalkStop.TheVariants.{Ended, Missing}

drop-tail : (i : ℕ) (xs : List ℕ) → drop (suc i) xs ≡ drop 1 (drop i xs)
drop-tail zero xs = refl
drop-tail (suc i) [] = refl
drop-tail (suc i) (x ∷ xs) = drop-tail i xs

-- lists that are equal from a place on are so from the next one on
pub drop-more : (xs ys : List ℕ) (i : ℕ) → drop i xs ≡ drop i ys → drop (i + 1) xs ≡ drop (i + 1) ys
drop-more xs ys i same =
    let next : i + 1 ≡ suc i = omega arith in
    ap (λ n. drop n xs) next ∙ drop-tail i xs ∙ ap (drop 1) same ∙ sym (drop-tail i ys) ∙ sym (ap (λ n. drop n ys) next)

-- the first elements of a copy of a part of a list
pub part-kept : (from m end : ℕ) (list first copy rest : List ℕ) → from + m ≤ end → end ≤ length list → copy ≡ between from end list → drop from list ≡ drop from first → take m (copy ++ rest) ≡ take m (drop from first)
part-kept from m end list first copy rest few within is same =
    let long : length copy ≡ end - from = ap length is ∙ length-take-le (end - from) (drop from list) (omega (arith, within, length-drop from list)) in
    take-append-le m copy rest (omega (arith, few, long)) ∙ ap (take m) is ∙ take-take m (end - from) (drop from list) (omega (arith, few)) ∙ ap (take m) same

-- a list of which a part is put back
pub put-back : (from m i : ℕ) (list first part : List ℕ) → from + m ≡ i → from ≤ length list → part ≡ take m (drop from first) → drop i list ≡ drop i first → drop from (put_mid from m list part) ≡ drop from first
put-back from m i list first part at within is rest =
    drop_at (take from list) (part ++ post_of from m list) from (length-take-le from list within)
    ∙ ap (λ after. part ++ after) (drop-drop m from list ∙ ap (λ n. drop n list) at ∙ rest ∙ sym (ap (λ n. drop n first) at) ∙ sym (drop-drop m from first))
    ∙ ap (λ before. before ++ drop m (drop from first)) is
    ∙ take-append-drop m (drop from first)

module _ {Regs Cache : Type 0} (step : FrameLocation → Regs → Outcome Regs) (cache_after : Cache → FrameLocation → Cache) where
  -- the addresses of the frames so far are written, and the walk goes on from there, by any number of further calls
  pub record WritesOn (frames : List ℕ) (i : ℕ) (progress start : Progress) (regs regs0 : Regs) (cache cache0 : Cache) : Type 0 where
    pub front : List FrameLocation
    pub counted : length front ≡ i
    pub addresses : take i frames ≡ map address_of front
    pub on : (left : ℕ) → WalksOn step cache_after front left (i + left) progress start regs regs0 cache cache0

  -- before the first call
  pub WritesOn-start : (frames : List ℕ) (progress : Progress) (regs : Regs) (cache : Cache) → WritesOn frames 0 progress progress regs regs cache cache
  WritesOn-start frames progress regs cache = record {
    front = [];
    counted = refl;
    addresses = refl;
    on = λ left. let all : left ≡ 0 + left = omega arith in subst (λ n. WalksOn step cache_after [] left n progress progress regs regs cache cache) all (record { walk = refl; cached = refl });
  }

  module _ (frames : List ℕ) (i : ℕ) (progress start : Progress) (regs regs0 : Regs) (cache cache0 : Cache) (so_far : WritesOn frames i progress start regs regs0 cache cache0) where
    -- the walk of this many calls, from any number of which are left
    WritesOn-of : (left total : ℕ) → i + left ≡ total → WalksOn step cache_after so_far.front left total progress start regs regs0 cache cache0
    WritesOn-of left total all = subst (λ n. WalksOn step cache_after so_far.front left n progress start regs regs0 cache cache0) all (so_far.on left)

    -- what is written begins the walk
    pub WritesOn-begins : (total : ℕ) → i ≤ total → BeginsWalk (walk_on step total start regs0) i frames
    WritesOn-begins total within =
        let rest = (walk_on step (total - i) progress regs).frames in
        let on = WritesOn-of (total - i) total (omega (arith, within)) in
        let whole : so_far.front ++ rest ≡ (walk_on step total start regs0).frames = ap (λ w. w.frames) on.walk in
        let long : i ≤ length (map address_of so_far.front) = omega (arith, length-map so_far.front address_of, so_far.counted) in
        so_far.addresses ∙ sym (take_all i (map address_of so_far.front) (omega (arith, length-map so_far.front address_of, so_far.counted))) ∙ sym (take-append-le i (map address_of so_far.front) (map address_of rest) long)
        ∙ ap (take i) (sym (map-append address_of so_far.front rest) ∙ ap (map address_of) whole)

    -- after the last call
    pub WritesOn-limit : (total : ℕ) → i ≡ total → IsWrittenWalk (walk_on step total start regs0) i frames Limit regs × (cache ≡ cache_on step cache_after total start regs0 cache0)
    WritesOn-limit total all =
        let walk = WalksOn-limit step cache_after so_far.front 0 total progress start regs regs0 cache cache0 refl (WritesOn-of 0 total (omega (arith, all))) in (
          record {
            counted = sym so_far.counted ∙ ap (λ w. length w.frames) walk.0;
            addresses = so_far.addresses ∙ ap (λ w. map address_of w.frames) walk.0;
            ends = ap (λ w. w.end) walk.0;
            registers = ap (λ w. w.regs) walk.0;
          },
          walk.1,
        )

    module _ (progress' : Progress) (regs' : Regs) (cache' : Cache) (is_progress : progress' ≡ (next_of step progress regs).progress) (is_regs : regs' ≡ (next_of step progress regs).regs) (is_cache : cache' ≡ cache_after_next cache_after progress cache) where
      -- the call answers a frame
      pub WritesOn-next : (location : FrameLocation) → Ok (Some location) ≡ (next_of step progress regs).answer → i < length frames → WritesOn (set frames i (address_of location)) (i + 1) progress' start regs' regs0 cache' cache0
      WritesOn-next location is more = record {
        front = so_far.front ++ location ∷ [];
        counted = omega (arith, length-append so_far.front (location ∷ []), so_far.counted);
        addresses =
            take_more_set frames i (address_of location) (omega (arith, more)) ∙ ap (λ written. written ++ address_of location ∷ []) so_far.addresses
            ∙ sym (map-append address_of so_far.front (location ∷ []));
        on = λ left.
            WalksOn-next step cache_after so_far.front (i + 1 + left) progress start progress' regs regs0 regs' cache cache0 cache' is_progress is_regs is_cache
            (suc left) left refl None (ap end_in is) refl
            (so_far.front ++ location ∷ []) (ap (λ answer. so_far.front ++ frames_in answer) is) (WritesOn-of (suc left) (i + 1 + left) (omega arith));
      }

      -- the call ends the walk
      pub WritesOn-ended : (total : ℕ) → i < total → (end : WalkEnd) → Some (end_of end) ≡ end_in (next_of step progress regs).answer → [] ≡ frames_in (next_of step progress regs).answer → IsWrittenWalk (walk_on step total start regs0) i frames end regs' × (cache' ≡ cache_on step cache_after total start regs0 cache0)
      WritesOn-ended total more end is none =
          let walk =
          WalksOn-ended step cache_after so_far.front total progress start progress' regs regs0 regs' cache cache0 cache' is_progress is_regs is_cache
          (total - i) (total - i - 1) (omega (arith, more)) (Some end) is end refl
          (so_far.front ++ []) (ap (λ answered. so_far.front ++ answered) none) (WritesOn-of (total - i) total (omega (arith, more))) in
          let front : so_far.front ++ [] ≡ so_far.front = append-nil so_far.front in (
            record {
              counted = sym so_far.counted ∙ sym (ap length front) ∙ ap (λ w. length w.frames) walk.0;
              addresses = so_far.addresses ∙ sym (ap (map address_of) front) ∙ ap (λ w. map address_of w.frames) walk.0;
              ends = ap (λ w. w.end) walk.0;
              registers = ap (λ w. w.regs) walk.0;
            },
            walk.1,
          )

-- a walk over windows that stops at a frame
module _ {Regs Cache : Type 0} (step : FrameLocation → Regs → Outcome Regs) (cache_after : Cache → FrameLocation → Cache) (frames : List ℕ) (i : ℕ) (callee first : FrameLocation) (regs regs0 : Regs) (cache cache0 : Cache) (so_far : WritesOn step cache_after frames i (at_frame callee) (at_frame first) regs regs0 cache cache0) (regs' : Regs) (cache' : Cache) (total : ℕ) (more : i < total) where
  pub WritesOn-stopped : (stop : WalkStop) → IsCallerOrEnd (next_of step (at_frame callee) regs) (Err stop) regs' → (stop ≢ Ended (Refused ReturnAddressIsNull) → regs' ≡ regs) → WhereEnded stop (λ _. cache' ≡ cache_after cache callee) → IsWrittenUpTo step total first regs0 i frames stop regs' × WhereEnded stop (λ _. cache' ≡ cache_after_callers step cache_after total first regs0 cache0)
  WritesOn-stopped (Missing address) is kept cached = (rw (kept (λ e. cc)) (WritesOn-limit step cache_after _ _ _ _ _ _ _ _ so_far i refl).0, tt)
  WritesOn-stopped (Ended end) is kept cached =
      let walk : end ≢ Refused OutOfMemory → IsWrittenWalk (callers step total first regs0) i frames end regs' × (cache' ≡ cache_after_callers step cache_after total first regs0 cache0) = λ fine.
      WritesOn-ended step cache_after _ _ _ _ _ _ _ _ so_far _ _ _ refl (is fine).2 (cached fine) total more end (sym (is fine).0) (sym (is fine).1) in (
        (
          (λ out. rw (kept (λ e. let memory = out in cc)) (WritesOn-limit step cache_after _ _ _ _ _ _ _ _ so_far i refl).0),
          λ fine. (walk fine).0,
        ),
        λ fine. (walk fine).1,
      )
