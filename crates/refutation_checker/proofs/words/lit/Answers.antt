use Rattle.refutation_checker.proofs.Literals.{none_negated}
use Rattle.refutation_checker.proofs.words.lit.Goals as goal

pub returns-in_err-var-in-Some : goal.returns-in_err-var-in-Some
returns-in_err-var-in-Some c =
    rw c.from_residual.ensures (none_negated c.args.word.now c.in-Some.digits.now c.args.vars c.requires c.in-Some.ensures c.in_err-var-in-Some.ensures)
