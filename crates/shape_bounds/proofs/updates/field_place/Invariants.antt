use Rattle.std.proofs.Common.{◌+◌, ℕ, drop}
use Rattle.shape_bounds.specs.inner.Updated.{IsFieldAt}
use Rattle.shape_bounds.proofs.updates.field_place.Given as goal

abbrev pub invariant-loop-i : goal.invariant-loop-i
invariant-loop-i l = (p : ℕ) → IsFieldAt l.name (drop l.i l.fields) p → IsFieldAt l.name l.fields (p + l.i)
