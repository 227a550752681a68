use Rattle.std.proofs.Common.{refl, sym, ◌∙◌, true, false}
use Rattle.assignment_finder.proofs.Taking.{target_is}
use Rattle.assignment_finder.proofs.marking.target.Goals as goal

pub returns-then-holds : goal.returns-then-holds
returns-then-holds c = λ m before h.
    target_is c.args.free.now m before c.args.left.now c.in-Name.name c.in-Name.primed true _ h c.in-Name.is (sym c.holds.ensures ∙ c.if-holds.true) refl

pub returns-else-holds : goal.returns-else-holds
returns-else-holds c = λ m before h.
    target_is c.args.free.now m before c.args.left.now c.in-Name.name c.in-Name.primed false _ h c.in-Name.is (sym c.holds.ensures ∙ c.if-holds.false) refl
