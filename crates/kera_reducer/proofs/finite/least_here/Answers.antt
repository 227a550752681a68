use Rattle.std.proofs.Common.{◌∙◌, ◌++◌, Some, sym, subst}
use Rattle.tla_meaning.specs.declared.place.Place.{Place}
use Rattle.kernel_reduction.specs.Infinite.{infinite_here}
use Rattle.kernel_reduction.specs.inner.Least.{IsLeast}
use Rattle.kernel_reduction.proofs.Places.{here_none, here_one}
use Rattle.kera_reducer.proofs.finite.least_here.Goals as goal

pub returns-then-stands_outside : goal.returns-then-stands_outside
returns-then-stands_outside c = λ ps h.
    subst (λ (p : Place). IsLeast (ps ++ infinite_here c.args.op.now c.args.place c.args.form) (Some p)) (sym c.earlier.ensures)
    (here_one ps c.args.op.now c.args.place c.args.form c.args.least (sym c.stands_outside.ensures ∙ c.if-stands_outside.true) h)

pub returns-else-stands_outside : goal.returns-else-stands_outside
returns-else-stands_outside c = λ ps h.
    here_none ps c.args.op.now c.args.place c.args.form c.args.least (sym c.stands_outside.ensures ∙ c.if-stands_outside.false) h
