use Rattle.std.proofs.Common.{◌≤◌, length, List, subst, arith}
use Rattle.std.proofs.lemmas.List.{get_or_default, take_all}
use Rattle.sat_formula.specs.declared.lit.Lit.{Lit}
use Rattle.word_blaster.proofs.Words.{WordBelow-get}
use Rattle.cell_arena.proofs.Growing.{Grows-refl, Grows-trans}
use Rattle.sequence_rewriter.specs.inner.Shifts.{ShiftsLeft}
use Rattle.sequence_rewriter.proofs.Moves.{doubled, shifts-left-none, shifts-left-more, shifts-left-far}
use Rattle.sequence_rewriter.proofs.shifts.shift_left.Goals as goal

pub loop-bit-init : goal.loop-bit-init
loop-bit-init c = record { grows = Grows-refl _; by = omega arith; shifts = shifts-left-none _ c.args.bits.now _ c.requires.types }

pub step_left-requires-clause-types : goal.step_left-requires-clause-types
step_left-requires-clause-types c = rw c.as_slice-in-loop-bit.ensures.value (record { sort = c.requires.types.sort; are = c.loop-bit.invariant.shifts.sorts c.requires.types.sort c.requires.types.are })

pub step_left-requires-clause-below : goal.step_left-requires-clause-below
step_left-requires-clause-below c = WordBelow-get _ _ c.args.bits.now c.loop-bit.bit-index _ c.requires.below c.loop-bit-test.true c.loop-bit.invariant.grows.formula.vars

pub loop-bit-preserved : goal.loop-bit-preserved
loop-bit-preserved c =
    let i = c.loop-bit.invariant in
    let le : c.loop-bit.by ≤ length c.loop-bit.out.items = let f = c.if-by-as_slice.false in let e = c.as_slice.ensures.len in let v = c.as_slice.ensures.value in rw (← v) (omega arith) in
    record {
      grows = Grows-trans _ _ _ i.grows c.in_ok-moved.ensures.grows;
      by = doubled _ _ i.by;
      shifts = shifts-left-more _ _ _ c.args.bits.now c.loop-bit.bit-index c.loop-bit.by _ _ _ _ c.loop-bit-test.true (get_or_default c.args.bits.now c.loop-bit.bit-index _ _ c.loop-bit-test.true) i.by c.in_ok-moved.ensures.grows le i.shifts
          (rw c.as_slice-in-loop-bit.ensures.value at c.in_ok-moved.ensures.moved);
    }

pub returns-then-by-as_slice-clause-shifts : goal.returns-then-by-as_slice-clause-shifts
returns-then-by-as_slice-clause-shifts c =
    let i = c.loop-bit.invariant in
    let far : length c.loop-bit.out.items ≤ c.loop-bit.by = let f = c.if-by-as_slice.true in let v = c.as_slice.ensures.value in rw (← v) (omega arith) in
    let lt = c.loop-bit-test.true in
    let n = i.shifts.count in
    let p = i.by in
    shifts-left-far _ _ c.args.bits.now c.loop-bit.bit-index _ _ (omega arith) (omega arith) i.shifts

pub returns-clause-shifts : goal.returns-clause-shifts
returns-clause-shifts c =
    subst (λ (bits : List Lit). ShiftsLeft c.args.b.now c.loop-bit.b bits c.args.cells.items c.loop-bit.out.items) (take_all c.loop-bit.bit-index c.args.bits.now c.loop-bit-test.false) c.loop-bit.invariant.shifts
