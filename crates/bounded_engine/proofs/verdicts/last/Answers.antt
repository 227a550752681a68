use Rattle.std.proofs.Common.{List, ◌-◌, length, sym, ◌∙◌, ap}
use Rattle.std.specs.Prelude.{slice_get}
use Rattle.tla_meaning.specs.declared.job.State.{State}
use Rattle.bounded_engine.proofs.AtStates.{last_is}
use Rattle.bounded_engine.proofs.verdicts.last.Goals as goal

pub returns : goal.returns
returns c =
    c.last.ensures.value ∙ ap (λ (ss : List State). slice_get ss (length ss - 1)) c.as_slice.ensures ∙ sym (last_is c.args.states.now)
