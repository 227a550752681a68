use Rattle.std.proofs.Common.{subst}
use Rattle.tla_meaning.specs.declared.outcome.Outcome.{Outcome}
use Rattle.bounded_engine.specs.inner.Finding.{IsCauseOf, PartGives}
use Rattle.bounded_engine.proofs.Shown.{big_shown, wrong_shown}
use Rattle.bounded_engine.proofs.verdicts.of_step.Goals as goal

pub returns-in-Wrong-clause-shown : goal.returns-in-Wrong-clause-shown
returns-in-Wrong-clause-shown c = λ w job gives.
    wrong_shown w job c.args.trace c.in-Wrong.place c.args.question.level c.args.question.query c.step_fault.result
    (subst (IsCauseOf c.args.question.query) c.in-Wrong.is c.requires.0) c.requires.1 c.step_fault.ensures.start c.step_fault.ensures.step
    (subst (λ (o : Outcome). PartGives w job c.args.question.level o c.args.trace) c.in-Wrong.is gives)

pub returns-in-Big-clause-shown : goal.returns-in-Big-clause-shown
returns-in-Big-clause-shown c = λ w job gives.
    big_shown w job c.args.trace c.in-Big.place c.args.question.level c.args.question.query c.step_part.result
    (subst (IsCauseOf c.args.question.query) c.in-Big.is c.requires.0) c.requires.1 c.step_part.ensures.start c.step_part.ensures.step
    (subst (λ (o : Outcome). PartGives w job c.args.question.level o c.args.trace) c.in-Big.is gives)
