use Rattle.std.proofs.Common.{rules, ◌≡◌, ◌+◌, ◌^◌, ◌++◌, ◌∷◌, [], true, false, nat_lt, drop, length, ap, ◌∙◌}
use Rattle.std.proofs.Math.Seq.{drop-length}
use Rattle.framehop_memory.specs.declared.memory.MemoryRange.{MemoryRange}
use Rattle.framehop_dump_files.proofs.RangeLemmas.{append-assoc, items-are, ranges-more, ranges-refused, ranges-none}
use Rattle.framehop_dump_files.proofs.minidump.memory.with_long_ranges.Goals as goal

pub returns-in_default : goal.returns-in_default
returns-in_default c =
    let l = c.loop-entry in
    let entries = c.args.entries.now in
    let is = items-are entries l.entry-index [] (search rules) in
    let over : nat_lt (l.offset + c.u64_at-size.result) (2 ^ 64) ≡ false = search rules in
    record {
      exact = ranges-refused _ l.invariant.0 l.offset _ (drop (l.entry-index + 1) entries) l.invariant.2 _ is c.u64_at-start.result c.u64_at-size.result c.u64_at-start.ensures c.u64_at-size.ensures over;
    }

pub loop-entry-preserved : goal.loop-entry-preserved
loop-entry-preserved c =
    let l = c.loop-entry in
    let entries = c.args.entries.now in
    let is = items-are entries l.entry-index [] (search rules) in
    let range : MemoryRange = record { start = c.u64_at-start.result; size = c.u64_at-size.result; offset = l.offset } in
    let fits : nat_lt (l.offset + c.u64_at-size.result) (2 ^ 64) ≡ true = search rules in
    let ends : c.in-Some.end ≡ l.offset + c.u64_at-size.result = search rules in (
      l.invariant.0 ++ range ∷ [],
      λ list whole. rw (append-assoc list l.invariant.0 (range ∷ [])) (c.pushed-ranges.ensures (list ++ l.invariant.0) (l.invariant.1 list whole)),
      ranges-more _ l.invariant.0 l.offset _ (drop (l.entry-index + 1) entries) l.invariant.2 _ is c.u64_at-start.result c.u64_at-size.result c.u64_at-start.ensures c.u64_at-size.ensures c.in-Some.end fits ends,
    )

pub returns : goal.returns
returns c =
    let l = c.loop-entry in
    let entries = c.args.entries.now in
    let over : l.entry-index ≡ length entries = search rules in
    record {
      exact = (
        l.invariant.0,
        ranges-none _ l.invariant.0 l.offset _ [] l.invariant.2 (ap (λ i. drop i entries) over ∙ drop-length entries),
        l.invariant.1,
      );
    }
