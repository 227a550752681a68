use Rattle.std.proofs.Common.{◌≡◌, ◌++◌, map, flat_map, take}
use Rattle.kernel_reduction.specs.Literals.{literals_in}
use Rattle.kera_reducer.proofs.texts.push_named.Given as goal

abbrev pub invariant-loop-inv : goal.invariant-loop-inv
invariant-loop-inv l =
    map (λ t. t.now) l.out.items ≡ map (λ t. t.now) l.fn.out.items ++ flat_map literals_in (map (λ v. v.1) (take l.inv-index l.invs))
