use Rattle.std.proofs.Common.{None}
use Rattle.tla_meaning.proofs.LevelLaw.{never_big}
use Rattle.tla_meaning.proofs.WidthLaw.{val_narrow, act_narrow, start_narrow, next_narrow, invariant_narrow}
use Rattle.tla_meaning.proofs.theorems.nothing_is_big_without_a_width.Goals as goal

pub returns : goal.returns
returns c = record {
  values = λ e env s t. never_big (val_narrow None e env s t);
  actions = λ m e env s t. never_big (act_narrow None m e env s t);
  starts = λ job s. never_big (start_narrow None job s);
  steps = λ job s t. never_big (next_narrow None job s t);
  invariants = λ job s. never_big (invariant_narrow None job s);
}
