use Rattle.std.proofs.Common.{◌≡◌, map, take}
use Rattle.snowcat_rows.specs.declared.types.Ty.TheVariants as ty
use Rattle.kernel_reduction.specs.Rows.{negation}
use Rattle.kera_reducer.proofs.nodes.negations.Given as goal

abbrev pub invariant-loop-kid : goal.invariant-loop-kid
invariant-loop-kid l = l.negated.items ≡ map (negation l.place ty.Bool) (take l.kid-index l.kids)
