use Rattle.std.proofs.Common.{◌∙◌, List, ap, subst, sym}
use Rattle.sat_formula.specs.declared.lit.Lit.{Lit}
use Rattle.sat_formula.specs.Lit.{lit_value}
use Rattle.cell_arena.specs.declared.kinds.CellId.{CellId}
use Rattle.branch_cells.specs.Branches.{IsFilled, IsWhole, ends_of}
use Rattle.branch_cells.proofs.Filled.{calm_is, items_count, items_typed, path_filled, path_whole}
use Rattle.branch_cells.proofs.filling.fill.Goals as goal

pub fill_each-requires-clause-count : goal.fill_each-requires-clause-count
fill_each-requires-clause-count g c =
    rw c.as_slice-items.ensures (items_count c.args.b.now g.names c.args.x.now c.args.others.now c.requires.0
    c.requires.1.0 c.requires.1.1.0)

pub fill_each-requires-clause-sorts : goal.fill_each-requires-clause-sorts
fill_each-requires-clause-sorts g c =
    rw c.as_slice-items.ensures (items_typed c.args.b.now g.names c.args.x.now c.args.others.now c.requires.0
    c.requires.1.0 c.requires.1.1.0)

pub returns-clause-filled : goal.returns-clause-filled
returns-clause-filled g c =
    subst (λ (ids : List CellId). IsFilled c.args.b.now c.fill_each.new.b c.args.others.now c.args.x.now
    (record { ends = ends_of c.args.x.now; next = ids }))
    (sym c.from_vec.ensures)
    (path_filled c.args.b.now g.names c.args.x.now c.args.others.now c.requires.0 c.requires.1.0 c.requires.1.1.0 _
    c.is_calm-sure.result
    c.in_ok-next.next.items c.in_ok-next.ensures.grows (rw c.as_slice-items.ensures at c.in_ok-next.ensures.filled)
    (calm_is c.is_calm-sure.result c.args.x.now.wrong c.args.x.now.big c.is_calm-sure.ensures)
    (λ a s. ap (λ (l : Lit). lit_value l a) (sym c.top.ensures.same) ∙ c.top.ensures.forced a s) c.requires.1.1.1)

pub returns-clause-whole : goal.returns-clause-whole
returns-clause-whole g c =
    subst (λ (ids : List CellId). IsWhole c.fill_each.new.b g.names
    (record { ends = ends_of c.args.x.now; next = ids })) (sym c.from_vec.ensures)
    (path_whole c.args.b.now g.names c.args.x.now c.args.others.now c.requires.0 c.requires.1.0 c.requires.1.1.0 _
    c.is_calm-sure.result
    c.in_ok-next.next.items c.in_ok-next.ensures.grows (rw c.as_slice-items.ensures at c.in_ok-next.ensures.filled)
    (calm_is c.is_calm-sure.result c.args.x.now.wrong c.args.x.now.big c.is_calm-sure.ensures)
    (λ a s. ap (λ (l : Lit). lit_value l a) (sym c.top.ensures.same) ∙ c.top.ensures.forced a s) c.requires.1.1.1)
