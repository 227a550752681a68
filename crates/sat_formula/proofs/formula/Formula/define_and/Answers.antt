use Rattle.std.proofs.Common.{refl, append_assoc}
use Rattle.sat_formula.specs.Formula.{WellFormed}
use Rattle.sat_formula.proofs.GateClauses.{and_extends, and_has_value}
use Rattle.sat_formula.proofs.formula.Formula.define_and.Goals as goal

pub returns-in_err-add-2-clause-grows : goal.returns-in_err-add-2-clause-grows
returns-in_err-add-2-clause-grows c =
    let w : WellFormed c.args.self.now = c.vars.ensures.well_formed in
    rw (c.in_err-add-2.ensures.err, c.in_ok-add.ensures.ok, c.in_ok-out.ensures.longer, c.negated.ensures, c.in_ok-out.ensures.lit)
    (and_extends _ _ c.args.x c.args.y 1 w c.requires.x_below c.requires.y_below refl refl)

pub returns-in_err-add-3-clause-grows : goal.returns-in_err-add-3-clause-grows
returns-in_err-add-3-clause-grows c =
    let w : WellFormed c.args.self.now = c.vars.ensures.well_formed in
    rw (c.in_err-add-3.ensures.err, c.in_ok-add-2.ensures.ok, c.in_ok-add.ensures.ok, c.in_ok-out.ensures.longer, c.negated-2.ensures, c.negated.ensures, c.in_ok-out.ensures.lit)
    (and_extends _ _ c.args.x c.args.y 2 w c.requires.x_below c.requires.y_below refl (simp append_assoc))

pub returns-clause-value : goal.returns-clause-value
returns-clause-value c =
    rw (c.in_ok-add-3.ensures.ok, c.in_ok-add-2.ensures.ok, c.in_ok-add.ensures.ok, c.in_ok-out.ensures.longer, c.negated-3.ensures, c.negated-4.ensures, c.negated-2.ensures, c.negated.ensures, c.in_ok-out.ensures.lit)
    (and_has_value c.args.self.now _ c.args.x c.args.y refl (simp append_assoc))

pub returns-clause-grows : goal.returns-clause-grows
returns-clause-grows c =
    let w : WellFormed c.args.self.now = c.vars.ensures.well_formed in
    rw (c.in_ok-add-3.ensures.ok, c.in_ok-add-2.ensures.ok, c.in_ok-add.ensures.ok, c.in_ok-out.ensures.longer, c.negated-3.ensures, c.negated-4.ensures, c.negated-2.ensures, c.negated.ensures, c.in_ok-out.ensures.lit)
    (and_extends _ _ c.args.x c.args.y 3 w c.requires.x_below c.requires.y_below refl (simp append_assoc))
