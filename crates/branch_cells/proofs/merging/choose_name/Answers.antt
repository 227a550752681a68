use Rattle.std.proofs.Common.{◌≡◌, rules}
use Rattle.branch_cells.proofs.Eithers.{same_cell}
use Rattle.branch_cells.proofs.merging.choose_name.Goals as goal

pub returns-then-eq-clause-chosen : goal.returns-then-eq-clause-chosen
returns-then-eq-clause-chosen c =
    let e : c.args.x ≡ c.args.y = search rules in
    same_cell c.args.b.now c.args.bit c.args.x c.args.y c.requires.types e
