use Rattle.std.proofs.Common.{refl, append_assoc}
use Rattle.sat_formula.specs.Formula.{WellFormed}
use Rattle.sat_formula.proofs.GateClauses.{mux_extends, mux_has_value}
use Rattle.sat_formula.proofs.formula.Formula.define_mux.Goals as goal

pub returns-in_err-add-2-clause-grows : goal.returns-in_err-add-2-clause-grows
returns-in_err-add-2-clause-grows c =
    let w : WellFormed c.args.self.now = c.vars.ensures.well_formed in
    rw (c.in_err-add-2.ensures.err, c.in_ok-add.ensures.ok, c.in_ok-out.ensures.longer, c.negated.ensures, c.negated-2.ensures, c.in_ok-out.ensures.lit)
    (mux_extends _ _ c.args.c c.args.y c.args.z 1 w c.requires.c_below c.requires.y_below c.requires.z_below refl refl)

pub returns-in_err-add-3-clause-grows : goal.returns-in_err-add-3-clause-grows
returns-in_err-add-3-clause-grows c =
    let w : WellFormed c.args.self.now = c.vars.ensures.well_formed in
    rw (c.in_err-add-3.ensures.err, c.in_ok-add-2.ensures.ok, c.in_ok-add.ensures.ok, c.in_ok-out.ensures.longer, c.negated.ensures, c.negated-2.ensures, c.negated-3.ensures, c.negated-4.ensures, c.in_ok-out.ensures.lit)
    (mux_extends _ _ c.args.c c.args.y c.args.z 2 w c.requires.c_below c.requires.y_below c.requires.z_below refl (simp append_assoc))

pub returns-in_err-add-4-clause-grows : goal.returns-in_err-add-4-clause-grows
returns-in_err-add-4-clause-grows c =
    let w : WellFormed c.args.self.now = c.vars.ensures.well_formed in
    rw (c.in_err-add-4.ensures.err, c.in_ok-add-3.ensures.ok, c.in_ok-add-2.ensures.ok, c.in_ok-add.ensures.ok, c.in_ok-out.ensures.longer, c.negated.ensures, c.negated-2.ensures, c.negated-3.ensures, c.negated-4.ensures, c.negated-5.ensures, c.in_ok-out.ensures.lit)
    (mux_extends _ _ c.args.c c.args.y c.args.z 3 w c.requires.c_below c.requires.y_below c.requires.z_below refl (simp append_assoc))

pub returns-clause-value : goal.returns-clause-value
returns-clause-value c =
    rw (c.in_ok-add-4.ensures.ok, c.in_ok-add-3.ensures.ok, c.in_ok-add-2.ensures.ok, c.in_ok-add.ensures.ok, c.in_ok-out.ensures.longer, c.negated.ensures, c.negated-2.ensures, c.negated-3.ensures, c.negated-4.ensures, c.negated-5.ensures, c.negated-6.ensures, c.in_ok-out.ensures.lit)
    (mux_has_value c.args.self.now _ c.args.c c.args.y c.args.z refl (simp append_assoc))

pub returns-clause-grows : goal.returns-clause-grows
returns-clause-grows c =
    let w : WellFormed c.args.self.now = c.vars.ensures.well_formed in
    rw (c.in_ok-add-4.ensures.ok, c.in_ok-add-3.ensures.ok, c.in_ok-add-2.ensures.ok, c.in_ok-add.ensures.ok, c.in_ok-out.ensures.longer, c.negated.ensures, c.negated-2.ensures, c.negated-3.ensures, c.negated-4.ensures, c.negated-5.ensures, c.negated-6.ensures, c.in_ok-out.ensures.lit)
    (mux_extends _ _ c.args.c c.args.y c.args.z 4 w c.requires.c_below c.requires.y_below c.requires.z_below refl (simp append_assoc))
