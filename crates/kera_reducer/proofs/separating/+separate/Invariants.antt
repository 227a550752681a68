use Rattle.std.proofs.Common.{◌≡◌, drop}
use Rattle.std.specs.List.{list_all}
use Rattle.kernel_reduction.specs.SizeLaws.{is_apart}
use Rattle.kera_reducer.proofs.separating.+separate.Given as goal

abbrev pub invariant-all_apart-loop-e : goal.invariant-all_apart-loop-e
invariant-all_apart-loop-e l = list_all is_apart l.es ≡ list_all is_apart (drop l.e-index l.es)
