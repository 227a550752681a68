use Rattle.std.proofs.Common.{◌≡◌, map, take}
use Rattle.std.specs.List.{zip}
use Rattle.cell_merge.proofs.composites.with_names.Given as goal

abbrev pub invariant-loop-i : goal.invariant-loop-i
invariant-loop-i l = l.out.items ≡ zip (map (λ f. f.0) (take l.i l.fields)) (take l.i l.parts)
