use Rattle.std.proofs.Common.{subst}
use Rattle.encoder_laws.specs.Levels.{IsTruthOutcome}
use Rattle.tla_meaning.specs.declared.outcome.Outcome.{Outcome}
use Rattle.bounded_engine.specs.Verdicts.{InvariantGives}
use Rattle.bounded_engine.specs.inner.Finding.{IsCauseOf}
use Rattle.bounded_engine.proofs.Shown.{broken_big, broken_false, broken_wrong}
use Rattle.bounded_engine.proofs.verdicts.of_invariant.Goals as goal

pub returns-in-Wrong-clause-shown : goal.returns-in-Wrong-clause-shown
returns-in-Wrong-clause-shown c = λ w job gives.
    broken_wrong w job c.args.question.level c.args.name c.args.trace c.args.question.query c.in-Wrong.place
    (subst (IsCauseOf c.args.question.query) c.in-Wrong.is c.requires.0) c.requires.1
    (subst (λ (o : Outcome). InvariantGives w job c.args.question.level c.args.name o c.args.trace) c.in-Wrong.is gives)

pub returns-in-Big-clause-shown : goal.returns-in-Big-clause-shown
returns-in-Big-clause-shown c = λ w job gives.
    broken_big w job c.args.question.level c.args.name c.args.trace c.args.question.query c.in-Big.place
    (subst (IsCauseOf c.args.question.query) c.in-Big.is c.requires.0) c.requires.1
    (subst (λ (o : Outcome). InvariantGives w job c.args.question.level c.args.name o c.args.trace) c.in-Big.is gives)

pub returns-in-Val-clause-shown : goal.returns-in-Val-clause-shown
returns-in-Val-clause-shown c = λ w job gives.
    broken_false w job c.args.question.level c.args.name c.args.trace c.args.question.query _
    (subst (IsCauseOf c.args.question.query) c.in-Val.is c.requires.0) c.requires.1 (subst IsTruthOutcome c.in-Val.is c.requires.2)
    (subst (λ (o : Outcome). InvariantGives w job c.args.question.level c.args.name o c.args.trace) c.in-Val.is gives)
