use Rattle.std.proofs.Common.{◌≡◌, ◌∙◌, ap}
use Rattle.snowcat_rows.specs.Views.{issued_of}
use Rattle.snowcat_types.specs.inner.Gathered.{requirements_of}
use Rattle.snowcat_types.specs.inner.Solved.{AreEquations}
use Rattle.snowcat_types.proofs.Chosen.{equations_inside, equations_named}
use Rattle.snowcat_types.proofs.Tied.{ok_of, same_below, tied}
use Rattle.snowcat_types.proofs.choosing.tie.Goals as goal

pub ask_each-requires-clause-within : goal.ask_each-requires-clause-within
ask_each-requires-clause-within c =
    equations_inside (issued_of c.args.subst.now) (requirements_of c.as_slice.result.now)
    (same_below (issued_of c.args.subst.now) c.as_slice.result.now c.in-Ok.asked.items c.as_slice.ensures.value
    (ok_of (λ v. AreEquations (issued_of c.args.subst.now) (requirements_of v.items)) c.args.built c.in-Ok.asked c.in-Ok.is c.requires.within))

pub ask_each-requires-clause-named : goal.ask_each-requires-clause-named
ask_each-requires-clause-named c =
    equations_named (issued_of c.args.subst.now) c.as_slice.result.now
    (same_below (issued_of c.args.subst.now) c.as_slice.result.now c.in-Ok.asked.items c.as_slice.ensures.value
    (ok_of (λ v. AreEquations (issued_of c.args.subst.now) (requirements_of v.items)) c.args.built c.in-Ok.asked c.in-Ok.is c.requires.within))

pub returns-in-Ok-clause-tied : goal.returns-in-Ok-clause-tied
returns-in-Ok-clause-tied c = λ w qs e equations.
    tied c.as_slice.result.now c.args.subst.now c.ask_each.new.subst c.ask_each.result c.ask_each.ensures.tried w qs
    (ap requirements_of c.as_slice.ensures.value ∙ ok_of (λ v. requirements_of v.items ≡ qs) c.args.built c.in-Ok.asked c.in-Ok.is e) equations
