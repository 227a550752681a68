use Rattle.std.proofs.Common.{refl, ap}
use Rattle.sat_formula.specs.declared.cnf.Cnf.{Cnf}
use Rattle.cell_arena.proofs.Growing.{Grows-trans, Grows-formula}
use Rattle.cell_merge.proofs.Layering.{layer-narrows}
use Rattle.cell_merge.proofs.picking.layer.Goals as goal

pub returns-in_err-out-clause-grows : goal.returns-in_err-out-clause-grows
returns-in_err-out-clause-grows c = Grows-trans _ _ _ (Grows-formula _ _ c.in_ok-bit.ensures.grows refl) c.in_err-out.ensures.grows

pub returns-clause-grows : goal.returns-clause-grows
returns-clause-grows c = Grows-trans _ _ _ (Grows-formula _ _ c.in_ok-bit.ensures.grows refl) c.in_ok-out.ensures.grows

pub returns-clause-narrows : goal.returns-clause-narrows
returns-clause-narrows c =
    layer-narrows c.args.b.now _ c.choose_each.new.b _ c.args.edges.now c.args.half _ refl c.in_ok-bit.ensures.lit (ap (λ (f : Cnf). f.vars) c.in_ok-bit.ensures.longer) c.in_ok-bit.ensures.free
    c.requires.edges c.requires.enough c.in_ok-out.ensures.grows c.in_ok-out.ensures.each
