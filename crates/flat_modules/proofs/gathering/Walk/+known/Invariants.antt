use Rattle.std.proofs.Common.{◌+◌, ◌*◌, take}
use Rattle.tla_meaning.specs.Flattening.{after_extends, after_units, known_within, nothing_known}
use Rattle.flat_modules.specs.inner.Copies.{copy_of}
use Rattle.flat_modules.specs.inner.Gathering.{Follows, Reaches, Remembers}
use Rattle.flat_modules.specs.inner.Learning.{IsKnown}
use Rattle.flat_modules.proofs.gathering.Walk.+known.Given as goal

abbrev pub decreases-known : goal.decreases-known
decreases-known l = 8 * l.self.depth

abbrev pub decreases-at_end : goal.decreases-at_end
decreases-at_end l = 8 * l.self.depth + 4

abbrev pub decreases-extends : goal.decreases-extends
decreases-extends l = 8 * l.self.depth + 3

abbrev pub decreases-extended : goal.decreases-extended
decreases-extended l = 8 * l.self.depth + 1

abbrev pub decreases-units : goal.decreases-units
decreases-units l = 8 * l.self.depth + 3

abbrev pub decreases-unit : goal.decreases-unit
decreases-unit l = 8 * l.self.depth + 2

abbrev pub decreases-instance : goal.decreases-instance
decreases-instance l = 8 * l.self.depth + 1

abbrev pub invariant-extends-loop-name : goal.invariant-extends-loop-name
invariant-extends-loop-name l =
    Reaches l.reached.spare l.self.depth
    (λ n. IsKnown l.fn.told l.reached.knowing (after_extends (known_within n l.self.modules.now) (copy_of l.copy) nothing_known (take l.name-index l.names)))
    × Remembers l.self.modules.now (copy_of l.copy) l.memo

abbrev pub invariant-units-loop-unit : goal.invariant-units-loop-unit
invariant-units-loop-unit l =
    Follows l.fn.reached l.reached l.self.depth (λ n s. after_units (known_within n l.self.modules.now) (copy_of l.copy) s (take l.unit-index l.units))
