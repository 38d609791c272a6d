use Rattle.std.proofs.Common.{◌≡◌, ◌^◌, ◌++◌, drop, map, option_map}
use Rattle.framehop_stacks_cli.specs.CommandLine.{numbers_below}
use Rattle.framehop_stacks_cli.proofs.command_line.numbers_below.Given as goal

-- the numbers so far before those that are left are all numbers
abbrev pub invariant-loop-word : goal.invariant-loop-word
invariant-loop-word l =
    option_map (λ list. l.numbers.items ++ list) (numbers_below (2 ^ 32) (map (λ word. word.now) (drop l.word-index l.words)))
    ≡ numbers_below (2 ^ 32) (map (λ word. word.now) l.words)
