use Rattle.bounded_engine.proofs.AtLevels.{there_is}
use Rattle.bounded_engine.proofs.Decoded.{end_truths, invariants_shown, own_types}
use Rattle.bounded_engine.proofs.Holding.{no_state}
use Rattle.bounded_engine.proofs.telling.of_invariant.Goals as goal

pub tell_invariant-requires-clause-ready : goal.tell_invariant-requires-clause-ready
tell_invariant-requires-clause-ready c =
    let x = there_is c.args.encoder.now.levels c.args.question.level c.requires.ready.1.there in
    let shown = invariants_shown c.args.encoder.now c.args.assignment.now c.args.question.level x.0 x.1 c.args.a.now c.args.question.query c.in_ok-states.states
    c.requires.ready.3 c.requires.shown c.in_ok-states.ensures no_state in (
      c.requires.ready.0,
      c.requires.ready.3,
      end_truths c.args.a.now c.args.encoder.now c.args.question.level c.args.question.query c.in_ok-states.states no_state c.requires.ready.0 c.requires.ready.1
          c.requires.ready.3 shown,
    )

pub tell_invariant-requires-clause-shown : goal.tell_invariant-requires-clause-shown
tell_invariant-requires-clause-shown c =
    let x = there_is c.args.encoder.now.levels c.args.question.level c.requires.ready.1.there in
    invariants_shown c.args.encoder.now c.args.assignment.now c.args.question.level x.0 x.1 c.args.a.now c.args.question.query c.in_ok-states.states c.requires.ready.3
    c.requires.shown c.in_ok-states.ensures

pub tell_invariant-requires-clause-typed : goal.tell_invariant-requires-clause-typed
tell_invariant-requires-clause-typed c = own_types c.args.a.now c.args.encoder.now c.requires.ready.1.of _ c.in_ok-states.ensures.typed
