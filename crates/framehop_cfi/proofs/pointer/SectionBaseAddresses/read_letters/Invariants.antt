use Rattle.std.proofs.Common.{◌≡◌, drop}
use Rattle.framehop_cfi.specs.Augmentation.{letters_at}
use Rattle.framehop_cfi.proofs.pointer.SectionBaseAddresses.read_letters.Given as goal

abbrev pub invariant-loop-letter : goal.invariant-loop-letter
invariant-loop-letter l =
    letters_at l.self (drop l.letter-index l.letters) l.bytes l.next l.encoding ≡ letters_at l.self l.letters l.bytes l.at 0
