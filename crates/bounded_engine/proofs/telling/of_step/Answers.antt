use Rattle.bounded_engine.proofs.AtLevels.{there_is}
use Rattle.bounded_engine.proofs.Decoded.{both_typed, level_cells, steps_shown}
use Rattle.bounded_engine.proofs.telling.of_step.Goals as goal

pub decode_cells-requires-clause-cells : goal.decode_cells-requires-clause-cells
decode_cells-requires-clause-cells c =
    level_cells c.args.encoder.now c.args.question.level c.attempt-cells.result.now c.requires.ready.1.of.encoder c.requires.ready.1.there c.attempt-cells.ensures

pub tell_step-requires-clause-shown : goal.tell_step-requires-clause-shown
tell_step-requires-clause-shown c =
    let x = there_is c.args.encoder.now.levels c.args.question.level c.requires.ready.1.there in
    steps_shown c.args.encoder.now c.args.assignment.now c.args.question.level x.0 x.1 c.args.a.now c.args.question.query c.attempt-cells.result.now
    c.in_ok-states.states c.in_ok-attempt.attempt c.requires.ready.2 (c.attempt-cells.ensures x.0 x.1) c.requires.shown c.in_ok-states.ensures c.in_ok-attempt.ensures

pub tell_step-requires-clause-typed : goal.tell_step-requires-clause-typed
tell_step-requires-clause-typed c =
    both_typed c.args.a.now c.args.encoder.now c.requires.ready.1.of _ _ c.in_ok-states.ensures.typed c.in_ok-attempt.ensures.typed
