use Rattle.std.proofs.Common.{false}
use Rattle.kernel_trees.proofs.SoundTrees.{sound_step}
use Rattle.path_cells.proofs.StepFacts.{equals_cells, same_step}
use Rattle.path_cells.proofs.stepping.value.Goals as goal

pub returns-clause-step : goal.returns-clause-step
returns-clause-step c =
    λ i.
    let o = c.in_ok-x.ensures in
    let z = sound_step c.requires.names c.args.e.now c.requires.context false c.requires.sound in
    same_step c.args.b.now c.rewrite.new.b c.args.env.now _ _ _ _ _ _ _ c.faults.ensures c.new.ensures c.in_ok-cells.ensures
    (equals_cells c.args.b.now c.rewrite.new.b c.args.env.now c.args.e.now c.in_ok-x.x o.grows (record { sort = o.sort; rewrites = o.rewrites })
    c.requires.holds.there z.0 z.1 i)
