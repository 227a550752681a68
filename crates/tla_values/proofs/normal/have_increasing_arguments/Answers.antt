use Rattle.std.proofs.Common.{sym, ◌∙◌, arith, length-drop}
use Rattle.std.proofs.lemmas.List.{length-map}
use Rattle.tla_values.proofs.Rising.{rising_short}
use Rattle.tla_values.proofs.normal.have_increasing_arguments.Goals as goal

pub returns : goal.returns
returns c = sym (rising_short _ (simp (length-map, length-drop) (omega arith))) ∙ c.loop-i.invariant
