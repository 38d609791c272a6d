use Rattle.std.proofs.Common.{◌≡◌, ◌+◌, ◌/◌, true, false, length, nat_le, le-leb, arith, refl, rules}
use Rattle.framehop_bytes.specs.Place.{place_of}
use Rattle.framehop_bytes.proofs.Halving.{upper-part, lower-part}
use Rattle.framehop_bytes.proofs.place.place.Goals as goal
use Rattle.framehop_bytes.proofs.place.place.Goals.{then-is_upper, else-is_upper}

pub loop-most-init : goal.loop-most-init
unfolding place_of
loop-most-init g c =
    let starts = g.T.Starts.starts c.args.table.now in
    let all : 0 + length starts ≡ length starts = omega arith in
    record {
      few = c.count-size.ensures.few;
      most = omega arith;
      part = rw c.count-size.ensures.count (record {
        begun = c.requires;
        within = omega arith;
        below = λ h. absurd (omega (arith, h));
        above = λ some h. absurd (omega (arith, h));
        left = λ none. absurd (omega (arith, none, c.requires));
        reached = (length starts, omega arith, rw all refl);
      });
    }

pub loop-most-preserved : goal.loop-most-preserved
loop-most-preserved g c =
    let starts = g.T.Starts.starts c.args.table.now in
    let kept = c.loop-most.invariant in
    let low = c.loop-most.low in
    let size = c.loop-most.size in
    elim c.if-is_upper.branch [
      | then-is_upper w ↦
          let test : nat_le c.start.result c.args.address ≡ true = le-leb _ _ w.if-is_upper.true in
          let one : c.from.result ≡ 1 = rw test at c.from.ensures in
          record {
            few = omega (arith, one, kept.few);
            most = omega (arith, one, kept.most, c.loop-most-test.true);
            part = rw (w.low-is, one) (upper-part starts c.args.address low size kept.part (rw (← c.start.ensures) w.if-is_upper.true));
          }
      | else-is_upper w ↦
          let test : nat_le c.start.result c.args.address ≡ false = search rules in
          let none : c.from.result ≡ 0 = rw test at c.from.ensures in
          let half : (size + c.from.result) / 2 ≡ size / 2 = rw none (omega arith) in
          record {
            few = omega (arith, none, kept.few);
            most = omega (arith, none, kept.most, c.loop-most-test.true);
            part = rw (w.low-is, half) (lower-part starts c.args.address low size kept.part (rw (← c.start.ensures) (omega (arith, w.if-is_upper.false))));
          }
    ]
