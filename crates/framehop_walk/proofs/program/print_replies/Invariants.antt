use Rattle.std.proofs.Common.{◌≡◌, ◌++◌, drop, map, string_bytes}
use Rattle.framehop.specs.SessionView.{reply_view}
use Rattle.framehop_walk.specs.Program.{lines_of}
use Rattle.framehop_walk.proofs.program.print_replies.Given as goal

abbrev pub invariant-loop-i : goal.invariant-loop-i
invariant-loop-i g l =
    string_bytes l.out ++ lines_of g.A.Registers.text (drop l.i (map (λ v. v.now) l.verbs.items)) (drop l.i (map reply_view l.replies.items))
    ≡ lines_of g.A.Registers.text (map (λ v. v.now) l.verbs.items) (map reply_view l.replies.items)
