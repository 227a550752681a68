use Rattle.std.proofs.Common.{◌≡◌, ◌∷◌, false, take}
use Rattle.tla_meaning.specs.Meaning.{except_marks}
use Rattle.op_inliner.proofs.trees.except_marks.Given as goal

abbrev pub invariant-loop-n : goal.invariant-loop-n
invariant-loop-n l = l.marks.items ≡ false ∷ except_marks (take l.n-index l.counts)
