use Rattle.std.proofs.Common.{List, subst, arith}
use Rattle.std.proofs.lemmas.List.{get_or_default, take_all}
use Rattle.sat_formula.specs.declared.lit.Lit.{Lit}
use Rattle.word_blaster.proofs.Words.{WordBelow-get}
use Rattle.cell_arena.proofs.Growing.{Grows-refl, Grows-trans}
use Rattle.sequence_rewriter.specs.inner.Shifts.{ShiftsRight}
use Rattle.sequence_rewriter.proofs.Moves.{doubled, within-right, shifts-right-none, shifts-right-more}
use Rattle.sequence_rewriter.proofs.shifts.shift_right.Goals as goal

pub loop-bit-init : goal.loop-bit-init
loop-bit-init c = record { grows = Grows-refl _; by = omega arith; shifts = shifts-right-none _ c.args.bits.now _ c.requires.types }

pub step_right-requires-clause-below : goal.step_right-requires-clause-below
step_right-requires-clause-below c = WordBelow-get _ _ c.args.bits.now c.loop-bit.bit-index _ c.requires.below c.loop-bit-test.true c.loop-bit.invariant.grows.formula.vars

pub step_right-requires-clause-types : goal.step_right-requires-clause-types
step_right-requires-clause-types c = rw c.as_slice.ensures.value (record { sort = c.requires.types.sort; are = c.loop-bit.invariant.shifts.sorts c.requires.types.sort c.requires.types.are })

pub step_right-requires-clause-within : goal.step_right-requires-clause-within
step_right-requires-clause-within c =
    rw c.as_slice.ensures.value (within-right _ _ c.args.bits.now c.loop-bit.bit-index c.loop-bit.by _ _ c.loop-bit.invariant.by (let lt = c.loop-bit-test.true in omega arith) c.requires.some c.loop-bit.invariant.shifts)

pub loop-bit-preserved : goal.loop-bit-preserved
loop-bit-preserved c =
    let i = c.loop-bit.invariant in
    let le = within-right _ _ c.args.bits.now c.loop-bit.bit-index c.loop-bit.by _ _ i.by (let lt = c.loop-bit-test.true in omega arith) c.requires.some i.shifts in
    record {
      grows = Grows-trans _ _ _ i.grows c.in_ok-moved.ensures.grows;
      by = doubled _ _ i.by;
      shifts = shifts-right-more _ _ _ c.args.bits.now c.loop-bit.bit-index c.loop-bit.by _ _ _ _ c.loop-bit-test.true (get_or_default c.args.bits.now c.loop-bit.bit-index _ _ c.loop-bit-test.true) i.by c.in_ok-moved.ensures.grows le i.shifts
          (rw c.as_slice.ensures.value at c.in_ok-moved.ensures.moved);
    }

pub returns-clause-shifts : goal.returns-clause-shifts
returns-clause-shifts c =
    subst (λ (bits : List Lit). ShiftsRight c.args.b.now c.loop-bit.b bits c.args.cells.items c.loop-bit.out.items) (take_all c.loop-bit.bit-index c.args.bits.now c.loop-bit-test.false) c.loop-bit.invariant.shifts
