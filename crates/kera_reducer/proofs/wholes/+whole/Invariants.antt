use Rattle.std.proofs.Common.{◌≡◌, drop}
use Rattle.std.specs.List.{list_all}
use Rattle.kernel_reduction.specs.Whole.{is_whole}
use Rattle.kera_reducer.proofs.wholes.+whole.Given as goal

abbrev pub invariant-are_whole-loop-e : goal.invariant-are_whole-loop-e
invariant-are_whole-loop-e l = list_all (is_whole l.count) l.es ≡ list_all (is_whole l.count) (drop l.e-index l.es)
