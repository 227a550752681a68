use Rattle.std.proofs.Common.{◌≡◌, ◌++◌, ◌∷◌, false, drop}
use Rattle.tla_meaning.specs.Meaning.{except_marks}
use Rattle.flat_modules.proofs.resolving.except_marks.Given as goal

abbrev pub invariant-loop-count : goal.invariant-loop-count
invariant-loop-count l = false ∷ except_marks l.counts ≡ l.marks.items ++ except_marks (drop l.count-index l.counts)
