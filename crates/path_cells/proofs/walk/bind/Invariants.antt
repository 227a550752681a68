use Rattle.std.proofs.Common.{◌≡◌, ◌++◌, map, take, zip}
use Rattle.path_cells.proofs.walk.bind.Given as goal

abbrev pub invariant-loop-i : goal.invariant-loop-i
invariant-loop-i l = l.all.items ≡ l.fn.bound ++ zip (take l.i (map (λ p. p.0) l.ps)) (take l.i l.ids)
