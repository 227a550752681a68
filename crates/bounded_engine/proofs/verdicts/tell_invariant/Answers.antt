use Rattle.bounded_engine.proofs.Told.{invariant_told}
use Rattle.bounded_engine.proofs.verdicts.tell_invariant.Goals as goal

pub returns : goal.returns
returns c =
    invariant_told c.args.a.now c.args.question.level c.args.question.query c.args.states _ _ c.of_invariant.result c.in_ok-name.ensures.2
    c.of_invariant.ensures.shown c.of_invariant.ensures.states c.requires.typed
