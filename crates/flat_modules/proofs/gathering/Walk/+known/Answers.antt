use Rattle.std.proofs.Common.{arith, ◌≡◌, ◌∙◌, ◌-◌, ap, subst, suc, sym, Some, None, IfOk}
use Rattle.std.proofs.lemmas.List.{take_all}
use Rattle.tla_meaning.specs.Flattening.{after_extends, after_unit, after_units, extended, known_within, nothing_known}
use Rattle.tla_meaning.specs.declared.modules.Unit.TheVariants as unit
use Rattle.flat_modules.specs.inner.Copies.{copy_of}
use Rattle.flat_modules.specs.inner.Gathering.{Follows, Fits, IsExtended, Reaches, Remembers}
use Rattle.flat_modules.specs.inner.Learning.{IsKnown}
use Rattle.flat_modules.specs.inner.Standards.{entries_of}
use Rattle.flat_modules.proofs.Depths.{as_extended, fits_inside, if_some, some_depth}
use Rattle.flat_modules.proofs.KnowingLemmas.{copy_with, extends_step, if_ok, instance_known, no_instance, same_copy, units_next, within_file, within_standard}
use Rattle.flat_modules.proofs.gathering.Walk.+known.Goals as goal

pub at_end-returns-clause-known : goal.at_end-returns-clause-known
at_end-returns-clause-known t c =
    let ms = c.args.self.modules.now in
    let k = copy_of c.args.copy.now in
    if_ok (λ r. Follows c.in_ok-reached.reached r c.args.self.depth (λ n s. after_units (known_within n ms) k s c.as_slice-2.result.now))
    (λ r. Reaches r.spare c.args.self.depth (λ n. IsKnown c.args.told r.knowing (after_units (known_within n ms) k (after_extends (known_within n ms) k nothing_known c.args.source.now.extends) c.args.source.now.units)))
    c.units.result
    (λ r follows n f.
    subst (λ xs. IsKnown c.args.told r.knowing (after_units (known_within n ms) k (after_extends (known_within n ms) k nothing_known xs) c.args.source.now.units)) c.as_slice.ensures
    (subst (λ us. IsKnown c.args.told r.knowing (after_units (known_within n ms) k (after_extends (known_within n ms) k nothing_known c.as_slice.result.now) us)) c.as_slice-2.ensures
    (follows c.args.told (λ n. after_extends (known_within n ms) k nothing_known c.as_slice.result.now) c.in_ok-reached.ensures.known n f)))
    c.units.ensures

pub extended-returns-in-Some-clause-known : goal.extended-returns-in-Some-clause-known
extended-returns-in-Some-clause-known t c =
    let ms = c.args.self.modules.now in
    let k = copy_of c.args.copy.now in
    if_some (λ e. IsExtended e ms k c.args.name.now c.args.self.depth) c.in_ok-inside.field-0 c.in-Some.inside c.in-Some.is (c.in_ok-inside.ensures ms k c.requires)

pub extended-known-requires : goal.extended-known-requires
extended-known-requires t c = (omega arith, subst (λ k. Remembers c.args.self.modules.now k c.args.memo.now) (sym c.extended.ensures) c.requires)

pub extended-returns-clause-kept : goal.extended-returns-clause-kept
extended-returns-clause-kept t c =
    let ms = c.args.self.modules.now in
    let k = copy_of c.args.copy.now in
    c.in_ok-keep.ensures ms k (subst (λ j. Remembers ms j c.known.new.memo) c.extended.ensures c.in_ok-reached.ensures.kept)
    (as_extended ms k (copy_of c.extended.result) c.args.name.now c.args.self.depth c.in_ok-reached.reached c.in_ok-inside-2.inside c.extended.ensures c.in_ok-inside-2.ensures
    c.in_ok-reached.ensures.known)

pub extends-returns-clause-known : goal.extends-returns-clause-known
extends-returns-clause-known t c = λ n f.
    subst (λ xs. IsKnown c.args.told c.loop-name.reached.knowing (after_extends (known_within n c.args.self.modules.now) (copy_of c.args.copy.now) nothing_known xs))
    (take_all c.loop-name.name-index c.args.names.now c.loop-name-test.false) (c.loop-name.invariant.0 n f)

pub extends-loop-name-preserved : goal.extends-loop-name-preserved
extends-loop-name-preserved t c = (
  λ n f.
      let both = c.least-reached.ensures c.args.self.depth n f in
      extends_step (known_within n c.args.self.modules.now) (copy_of c.args.copy.now) (extended (copy_of c.args.copy.now) c.bytes.result.now) _ c.args.names.now c.loop-name.name-index c.name-item.result
      c.loop-name-test.true c.name-item.is (ap (extended (copy_of c.args.copy.now)) c.bytes.ensures)
      (c.loop-name.invariant.0 n both.0)
      (subst (λ w. IsKnown None w (known_within n c.args.self.modules.now (extended (copy_of c.args.copy.now) c.bytes.result.now))) (sym c.get.ensures) (c.in_ok-inside.ensures.known n both.1))
      c.in_ok-extend.ensures,
  c.in_ok-inside.ensures.kept,
)

pub instance-known-requires : goal.instance-known-requires
instance-known-requires t c = (
  omega arith,
  c.new-memo.ensures c.args.self.modules.now
      (copy_with c.args.reached.knowing.resolving.scope c.args.unit.now.with.now c.bytes.result.now c.deref-2.result.now c.deref-3.result.now c.deref.result.now),
)

pub instance-returns : goal.instance-returns
instance-returns t c = λ o s k n f.
    let both = c.least.ensures c.args.self.depth n f in
    instance_known (known_within n c.args.self.modules.now) (copy_of c.args.copy.now) _ c.args.unit.now c.in_ok-parts.parts c.deref-4.result.now (s n) (k n both.0)
    c.in_ok-parts.ensures c.deref-4.ensures.value
    (same_copy c.args.reached.knowing.resolving.scope c.args.unit.now.with.now c.bytes.ensures c.deref-2.ensures.value c.deref-3.ensures.value c.deref.ensures.value)
    (c.in_ok-inside.ensures.known n both.1) c.in_ok-instance.ensures

pub known-returns-in-Some-clause-known : goal.known-returns-in-Some-clause-known
known-returns-in-Some-clause-known t c = λ n f.
    let deep : c.args.self.depth ≡ suc (c.args.self.depth - 1) = omega arith in
    subst (IsKnown c.args.told c.in_ok-knowing.knowing)
    (within_standard n (n - 1) c.args.self.modules.now (copy_of c.args.copy.now) (entries_of c.in-Some.standard) (some_depth c.args.self.depth (c.args.self.depth - 1) n deep f) c.in-Some.ensures)
    c.in_ok-knowing.ensures

pub known-returns-in-None-clause-known : goal.known-returns-in-None-clause-known
known-returns-in-None-clause-known t c = λ n f.
    let deep : c.args.self.depth ≡ suc (c.args.self.depth - 1) = omega arith in
    let up = some_depth c.args.self.depth (c.args.self.depth - 1) n deep (subst (λ s. Fits s c.args.self.depth n) c.nothing-in-None.ensures.spare f) in
    subst (IsKnown c.args.told c.nothing-in-None.result.knowing)
    (within_file n (n - 1) c.args.self.modules.now (copy_of c.args.copy.now) None up c.in_default.ensures c.in-None.ensures) c.nothing-in-None.ensures.known

pub known-returns-in_ok-reached-in-Some-find_last-clause-known : goal.known-returns-in_ok-reached-in-Some-find_last-clause-known
known-returns-in_ok-reached-in-Some-find_last-clause-known t c = λ n f.
    let deep : c.args.self.depth ≡ suc (c.args.self.depth - 1) = omega arith in
    let both = c.least.ensures c.args.self.depth n f in
    let up = some_depth c.args.self.depth (c.args.self.depth - 1) n deep both.1 in
    let inner = fits_inside c.in_ok-reached-in-Some-find_last.reached.spare c.args.self.depth (c.args.self.depth - 1) n deep both.0 both.1 in
    subst (IsKnown c.args.told c.in_ok-reached-in-Some-find_last.reached.knowing)
    (within_file n (n - 1) c.args.self.modules.now (copy_of c.args.copy.now) (Some c.in-Some-find_last.source.now) up c.in_default.ensures c.in-Some-find_last.ensures)
    (c.in_ok-reached-in-Some-find_last.ensures.known (n - 1) inner)

pub unit-returns-in-Instance : goal.unit-returns-in-Instance
unit-returns-in-Instance t c =
    let i = c.in-Instance in
    subst (λ u. IfOk c.instance.result (λ r. Follows c.args.reached r c.args.self.depth (λ n s. after_unit (known_within n c.args.self.modules.now) (copy_of c.args.copy.now) s u)))
    (ap (λ cs. unit.Instance i.name i.source cs i.local i.place) c.as_slice.ensures ∙ sym i.is) c.instance.ensures

pub unit-returns-in_ok-knowing-in_default : goal.unit-returns-in_ok-knowing-in_default
unit-returns-in_ok-knowing-in_default t c = λ o s k n f.
    c.in_ok-knowing-in_default.ensures (known_within n c.args.self.modules.now) (no_instance c.args.unit.now c.in_default.not-Instance) o (s n) (k n f)

pub units-loop-unit-preserved : goal.units-loop-unit-preserved
units-loop-unit-preserved t c = λ o s k n f.
    subst (IsKnown o c.in_ok-reached.reached.knowing)
    (units_next (known_within n c.args.self.modules.now) (copy_of c.args.copy.now) (s n) c.args.units.now c.loop-unit.unit-index c.unit-item.result c.loop-unit-test.true c.unit-item.is)
    (c.in_ok-reached.ensures o _ (c.loop-unit.invariant o s k) n f)

pub units-returns : goal.units-returns
units-returns t c = λ o s k n f.
    subst (λ us. IsKnown o c.loop-unit.reached.knowing (after_units (known_within n c.args.self.modules.now) (copy_of c.args.copy.now) (s n) us))
    (take_all c.loop-unit.unit-index c.args.units.now c.loop-unit-test.false) (c.loop-unit.invariant o s k n f)
