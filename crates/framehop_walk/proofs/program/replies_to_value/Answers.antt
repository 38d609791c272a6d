use Rattle.std.proofs.Common.{◌≡◌, ◌∙◌, Ok, Err, sym, rules}
use Rattle.serde_json.specs.View.{view}
use Rattle.framehop_walk.specs.Refusals.{refusal_text}
use Rattle.framehop_walk.specs.Answers.{read_arch}
use Rattle.framehop_walk.specs.declared.program.Arch.TheVariants.{Aarch64, X86_64}
use Rattle.framehop_walk.proofs.Documents.{value-bad, value-refused, value-arch}
use Rattle.framehop_walk.proofs.program.replies_to_value.Goals as goal

pub returns-then-has_bad_number-clause-answers : goal.returns-then-has_bad_number-clause-answers
returns-then-has_bad_number-clause-answers c =
    λ other. value-bad (view c.args.value.now) (sym c.has_bad_number.ensures ∙ c.if-has_bad_number.true)

pub returns-in_err-read_arch-clause-answers : goal.returns-in_err-read_arch-clause-answers
returns-in_err-read_arch-clause-answers c =
    let same : c.from_residual.result ≡ Err c.in_err-read_arch.field-0.0 = search rules in
    rw same (λ other. value-refused (view c.args.value.now) (refusal_text c.in_err-read_arch.field-0.0)
    (sym c.has_bad_number.ensures ∙ c.if-has_bad_number.false) (sym c.in_err-read_arch.ensures))

pub returns-in-Aarch64-clause-answers : goal.returns-in-Aarch64-clause-answers
returns-in-Aarch64-clause-answers c = λ other.
    let told : Ok Aarch64 ≡ read_arch (view c.args.value.now) = rw c.in-Aarch64.is at c.in_ok-read_arch.ensures in
    value-arch (view c.args.value.now) Aarch64 _ (sym c.has_bad_number.ensures ∙ c.if-has_bad_number.false) (sym told) (c.replies_on.ensures other)

pub returns-in-X86_64-clause-answers : goal.returns-in-X86_64-clause-answers
returns-in-X86_64-clause-answers c = λ other.
    let told : Ok X86_64 ≡ read_arch (view c.args.value.now) = rw c.in-X86_64.is at c.in_ok-read_arch.ensures in
    value-arch (view c.args.value.now) X86_64 _ (sym c.has_bad_number.ensures ∙ c.if-has_bad_number.false) (sym told) (c.replies_on-in-X86_64.ensures other)
