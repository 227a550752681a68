use Rattle.std.proofs.Common.{◌≡◌, take}
use Rattle.form_choices.specs.inner.Parts.{arrows}
use Rattle.form_choices.proofs.making.arrows.Given as goal

abbrev pub invariant-loop-i : goal.invariant-loop-i
invariant-loop-i l = l.out.items ≡ arrows (take l.i l.edges) (take l.i l.cells)
