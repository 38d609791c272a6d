use Rattle.std.proofs.Common.{◌≡◌, ◌++◌, drop, map}
use Rattle.std.specs.Result.{result_map_both}
use Rattle.framehop_stacks_cli.specs.Events.{events_of}
use Rattle.framehop_stacks_cli.proofs.events.numbers_by_words.Given as goal

-- the events so far before those of the words that are left are those of all words
abbrev pub invariant-loop-word : goal.invariant-loop-word
invariant-loop-word l =
    result_map_both (λ list. l.numbers.items ++ list) (λ word. word)
    (events_of (map (λ name. name.now) l.names) (map (λ word. word.now) (drop l.word-index l.words)))
    ≡ events_of (map (λ name. name.now) l.names) (map (λ word. word.now) l.words)
