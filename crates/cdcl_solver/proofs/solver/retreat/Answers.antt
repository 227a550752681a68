use Rattle.std.proofs.lemmas.List.{get_or_read}
use Rattle.cdcl_solver.proofs.SolvingLemmas.{kept_below}
use Rattle.cdcl_solver.proofs.solver.retreat.Goals as goal

pub back-requires : goal.back-requires
back-requires c =
    let s = c.args.solver.now in
    kept_below s c.args.level c.index-keep.result.now c.requires.solving c.requires.level (get_or_read s.levels.items c.args.level c.index-keep.result.now c.requires.level c.index-keep.ensures 0)
