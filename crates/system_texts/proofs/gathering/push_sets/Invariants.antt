use Rattle.std.proofs.Common.{◌≡◌, ◌++◌, map, flat_map, take}
use Rattle.system_texts.specs.inner.Gathered.{tree_texts}
use Rattle.system_texts.proofs.gathering.push_sets.Given as goal

abbrev pub invariant-loop-set : goal.invariant-loop-set
invariant-loop-set l = map (λ t. t.now) l.out.items ≡ map (λ t. t.now) l.fn.out.items ++ flat_map tree_texts (map (λ s. s.1) (take l.set-index l.sets))
