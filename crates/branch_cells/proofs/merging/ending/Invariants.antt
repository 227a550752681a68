use Rattle.std.proofs.Common.{◌≡◌, filter, take}
use Rattle.branch_cells.specs.inner.Layers.{can_end}
use Rattle.branch_cells.proofs.merging.ending.Given as goal

abbrev pub invariant-loop-part : goal.invariant-loop-part
invariant-loop-part l = l.some.items ≡ filter (λ p. can_end p.ends) (take l.part-index l.parts)
