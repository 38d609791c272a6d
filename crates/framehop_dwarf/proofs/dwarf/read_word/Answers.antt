use Rattle.framehop_dwarf.proofs.Words.{word-found, word-missing}
use Rattle.framehop_core.proofs.Callback.{Answering-so}
use Rattle.framehop_dwarf.proofs.dwarf.read_word.Goals as goal

pub returns-in-Ok-clause-answers : goal.returns-in-Ok-clause-answers
returns-in-Ok-clause-answers g c =
    Answering-so g.F.FnMut c.in-Ok.ensures.answers (λ memory read. word-found memory c.args.address c.in-Ok.word read)

pub returns-in-Err-clause-answers : goal.returns-in-Err-clause-answers
returns-in-Err-clause-answers g c =
    Answering-so g.F.FnMut c.in-Err.ensures.answers (λ memory read. word-missing memory c.args.address c.in-Err.field-0 read)
