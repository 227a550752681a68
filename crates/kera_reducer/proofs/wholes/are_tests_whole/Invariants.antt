use Rattle.std.proofs.Common.{◌≡◌, drop, map}
use Rattle.std.specs.List.{list_all}
use Rattle.kernel_reduction.specs.Whole.{is_whole}
use Rattle.kera_reducer.proofs.wholes.are_tests_whole.Given as goal

abbrev pub invariant-loop-inv : goal.invariant-loop-inv
invariant-loop-inv l =
    list_all (is_whole l.count) (map (λ v. v.1) l.invs)
    ≡ list_all (is_whole l.count) (map (λ v. v.1) (drop l.inv-index l.invs))
