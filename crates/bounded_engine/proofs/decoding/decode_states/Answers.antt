use Rattle.std.proofs.Common.{◌<◌, length, arith}
use Rattle.bounded_engine.proofs.AtLevels.{there_is}
use Rattle.bounded_engine.proofs.Decoded.{level_cells, no_states, states_more}
use Rattle.bounded_engine.proofs.decoding.decode_states.Goals as goal

pub loop-level-init : goal.loop-level-init
loop-level-init c = no_states c.args.encoder.now c.args.assignment.now _ c.new-states.ensures.items

pub decode_cells-requires-clause-cells : goal.decode_cells-requires-clause-cells
decode_cells-requires-clause-cells c =
    let there : c.loop-level.level < length c.args.encoder.now.levels = omega (arith, c.loop-level-test.true, c.requires.there) in
    level_cells c.args.encoder.now c.loop-level.level c.cells.result.now c.requires.encoder there c.cells.ensures

pub loop-level-preserved : goal.loop-level-preserved
loop-level-preserved c =
    let there : c.loop-level.level < length c.args.encoder.now.levels = omega (arith, c.loop-level-test.true, c.requires.there) in
    let x = there_is c.args.encoder.now.levels c.loop-level.level there in
    states_more c.args.encoder.now c.args.assignment.now c.loop-level.level x.0 x.1 c.cells.result.now c.loop-level.states.items c.push.new.self.items
    c.in_ok-state.state (c.cells.ensures x.0 x.1) c.loop-level.invariant c.in_ok-state.ensures c.in_ok-push.ensures.items
