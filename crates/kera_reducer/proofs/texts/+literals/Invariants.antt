use Rattle.std.proofs.Common.{◌≡◌, ◌++◌, map, flat_map, take}
use Rattle.kernel_reduction.specs.Literals.{literals_in}
use Rattle.kera_reducer.proofs.texts.+literals.Given as goal

abbrev pub invariant-push_all-loop-e : goal.invariant-push_all-loop-e
invariant-push_all-loop-e l =
    map (λ t. t.now) l.out.items ≡ map (λ t. t.now) l.fn.out.items ++ flat_map literals_in (take l.e-index l.es)
