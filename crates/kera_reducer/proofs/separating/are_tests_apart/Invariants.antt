use Rattle.std.proofs.Common.{◌≡◌, drop, map}
use Rattle.std.specs.List.{list_all}
use Rattle.kernel_reduction.specs.SizeLaws.{is_apart}
use Rattle.kera_reducer.proofs.separating.are_tests_apart.Given as goal

abbrev pub invariant-loop-inv : goal.invariant-loop-inv
invariant-loop-inv l = list_all is_apart (map (λ v. v.1) l.invs) ≡ list_all is_apart (map (λ v. v.1) (drop l.inv-index l.invs))
