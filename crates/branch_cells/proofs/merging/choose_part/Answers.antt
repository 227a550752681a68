use Rattle.std.proofs.Common.{List, refl, subst, sym}
use Rattle.cell_arena.specs.declared.kinds.CellId.{CellId}
use Rattle.cell_arena.proofs.Growing.{Grows-formula, Grows-trans}
use Rattle.branch_cells.specs.Branches.{IsWhole}
use Rattle.branch_cells.specs.inner.Layers.{IsEither}
use Rattle.branch_cells.proofs.Eithers.{part_either, part_made}
use Rattle.branch_cells.proofs.merging.choose_part.Goals as goal

pub returns-in_err-next-clause-grows : goal.returns-in_err-next-clause-grows
returns-in_err-next-clause-grows g c =
    Grows-trans _ _ _ (Grows-formula _ _ c.in_ok-ends.ensures.grows refl) c.in_err-next.ensures.grows

pub returns-clause-either : goal.returns-clause-either
returns-clause-either g c =
    subst (λ (ids : List CellId). IsEither c.choose_names.new.b c.args.bit c.args.x.now c.args.y.now
    (record { ends = c.in_ok-ends.ends; next = ids })) (sym c.from_vec.ensures)
    (part_either _ c.choose_names.new.b g.names c.args.bit c.args.x.now c.args.y.now c.in_ok-ends.ends
    c.in_ok-next.next.items _ _ c.requires.1.0.cells
    c.requires.1.1.cells c.as_slice-xs.ensures c.as_slice-ys.ensures c.in_ok-ends.ensures.ends
    c.in_ok-next.ensures.grows c.in_ok-next.ensures.chosen)

pub returns-clause-whole : goal.returns-clause-whole
returns-clause-whole g c =
    subst (λ (ids : List CellId). IsWhole c.choose_names.new.b g.names
    (record { ends = c.in_ok-ends.ends; next = ids })) (sym c.from_vec.ensures)
    (part_made _ c.choose_names.new.b g.names c.args.bit c.args.x.now c.args.y.now c.in_ok-ends.ends
    c.in_ok-next.next.items _ _ c.requires.1.0.cells
    c.requires.1.1.cells c.as_slice-xs.ensures c.as_slice-ys.ensures c.in_ok-ends.ensures.ends
    c.in_ok-next.ensures.grows c.in_ok-next.ensures.chosen)

pub returns-clause-grows : goal.returns-clause-grows
returns-clause-grows g c =
    Grows-trans _ _ _ (Grows-formula _ _ c.in_ok-ends.ensures.grows refl) c.in_ok-next.ensures.grows
