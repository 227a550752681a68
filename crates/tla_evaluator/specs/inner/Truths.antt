-- Values that are all to be truth values.
use Rattle.std.specs.Prelude.{◌≡◌, Bool, List, Result, Ok, Err, Some}
use Rattle.tla_values.specs.declared.value.Value.{Value}
use Rattle.tla_meaning.specs.declared.outcome.Outcome.{Outcome}
use Rattle.tla_meaning.specs.declared.place.Place.{Place}
use Rattle.tla_meaning.specs.Meaning.{on_all_truths, truths}
use Rattle.tla_evaluator.specs.declared.answers.Stop.{Stop}
use Rattle.tla_evaluator.specs.inner.Gives.{Gives}

-- their truth values, or what stops whatever is made of them
abbrev pub GivesTruths : Place → List Value → Result (List Bool) Stop → Type 0
GivesTruths p vs (Ok bs) = truths vs ≡ Some bs
GivesTruths p vs (Err s) = (f : List Bool → Outcome) → Gives (on_all_truths p f vs) (Err s)
