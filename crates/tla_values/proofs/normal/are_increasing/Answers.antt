use Rattle.std.proofs.Common.{sym, ◌∙◌, arith, length-drop}
use Rattle.tla_values.proofs.Rising.{rising_short}
use Rattle.tla_values.proofs.normal.are_increasing.Goals as goal

pub returns : goal.returns
returns c = sym (rising_short _ (simp length-drop (omega arith))) ∙ c.loop-i.invariant
