use Rattle.std.proofs.Common.{ap, refl}
use Rattle.sat_formula.specs.declared.cnf.Cnf.{Cnf}
use Rattle.cell_arena.proofs.Growing.{Grows-formula, Grows-trans}
use Rattle.branch_cells.proofs.Narrowing.{layer_narrows}
use Rattle.branch_cells.proofs.merging.layer.Goals as goal

pub returns-in_err-out-clause-grows : goal.returns-in_err-out-clause-grows
returns-in_err-out-clause-grows g c =
    Grows-trans _ _ _ (Grows-formula _ _ c.in_ok-bit.ensures.grows refl) c.in_err-out.ensures.grows

pub returns-clause-grows : goal.returns-clause-grows
returns-clause-grows g c = Grows-trans _ _ _ (Grows-formula _ _ c.in_ok-bit.ensures.grows refl)
    c.in_ok-out.ensures.grows

pub returns-clause-narrows : goal.returns-clause-narrows
returns-clause-narrows g c =
    layer_narrows c.args.b.now _ c.choose_each.new.b c.in_ok-bit.bit c.args.parts.now c.args.half _
    c.in_ok-bit.ensures.lit
    (ap (λ (f : Cnf). f.vars) c.in_ok-bit.ensures.longer) c.in_ok-bit.ensures.free c.requires.1.0 c.requires.1.1
    c.in_ok-out.ensures.grows c.in_ok-out.ensures.each
