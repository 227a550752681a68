use Rattle.std.proofs.Common.{List, subst, sym}
use Rattle.cell_arena.specs.declared.kinds.CellId.{CellId}
use Rattle.branch_cells.specs.Branches.{AreOfEither, AreOfKinds}
use Rattle.branch_cells.proofs.Eithers.{cells_of_kinds, either_values}
use Rattle.branch_cells.proofs.merging.choose_cells.Goals as goal

pub returns-clause-either : goal.returns-clause-either
returns-clause-either g c =
    subst (AreOfEither c.choose_names.new.b c.args.l c.args.xs.now c.args.ys.now) (sym c.from_vec.ensures)
    (either_values c.args.b.now g.names c.args.xs.now c.args.ys.now c.requires.1.0 c.requires.1.1
    c.choose_names.new.b c.args.l c.in_ok-cells.cells.items c.in_ok-cells.ensures.grows c.in_ok-cells.ensures.chosen)

pub returns-clause-kinds : goal.returns-clause-kinds
returns-clause-kinds g c =
    subst (AreOfKinds c.choose_names.new.b.arena.kinds g.names) (sym c.from_vec.ensures)
    (cells_of_kinds c.args.b.now g.names c.args.xs.now c.args.ys.now c.requires.1.0 c.requires.1.1
    c.choose_names.new.b c.args.l c.in_ok-cells.cells.items c.in_ok-cells.ensures.grows c.in_ok-cells.ensures.chosen)
