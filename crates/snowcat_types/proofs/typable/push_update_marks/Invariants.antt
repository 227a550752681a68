use Rattle.std.proofs.Common.{◌≡◌, ◌++◌, drop}
use Rattle.tla_meaning.specs.Meaning.{except_marks}
use Rattle.snowcat_types.proofs.typable.push_update_marks.Given as goal

abbrev pub invariant-loop-count : goal.invariant-loop-count
invariant-loop-count l = l.marks.items ++ except_marks (drop l.count-index l.counts) ≡ l.fn.marks.items ++ except_marks l.counts
