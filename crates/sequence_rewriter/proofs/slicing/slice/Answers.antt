use Rattle.std.proofs.Common.{refl}
use Rattle.cell_arena.proofs.Growing.{Grows-trans, Grows-formula, Satisfies-before}
use Rattle.sat_formula.proofs.Extension.{Grows-trans as formula-trans}
use Rattle.word_blaster.proofs.Words.{WordBelow-later}
use Rattle.cell_merge.proofs.Names.{IsOver-later}
use Rattle.sequence_rewriter.proofs.Slices.{sliced, cut-within}
use Rattle.sequence_rewriter.proofs.slicing.slice.Goals as goal

pub cut_at-requires-clause-bits : goal.cut_at-requires-clause-bits
cut_at-requires-clause-bits c = rw c.as_slice.ensures.value (WordBelow-later _ _ c.in_ok-bits.bits.items c.in_ok-bits.ensures.below c.in_ok-ends.ensures.grows.vars)

pub invariant_of-b-2 : goal.invariant_of-b-2
invariant_of-b-2 c =
    let old = c.args.b.now in
    let over = IsOver-later old.arena old.formula c.cut_at.new.formula (record { fits = old.fits; built = old.built; ranges = old.ranges }) (formula-trans _ c.find_ends.new.formula _ (c.find_ends.ensures.grows) (c.cut_at.ensures.grows)) in
    record { fits = over.fits; built = over.built; ranges = over.ranges }

pub returns-in_err-cut-clause-grows : goal.returns-in_err-cut-clause-grows
returns-in_err-cut-clause-grows c = Grows-formula _ _ (formula-trans _ _ _ c.in_ok-ends.ensures.grows c.in_err-cut.ensures.grows) refl

pub returns-in_err-places-clause-grows : goal.returns-in_err-places-clause-grows
returns-in_err-places-clause-grows c = Grows-formula _ _ (formula-trans _ _ _ c.in_ok-ends.ensures.grows c.in_ok-cut.ensures.grows) refl

pub returns-in_err-moved-clause-grows : goal.returns-in_err-moved-clause-grows
returns-in_err-moved-clause-grows c = Grows-trans _ _ _ (Grows-formula _ _ (formula-trans _ _ _ c.in_ok-ends.ensures.grows c.in_ok-cut.ensures.grows) refl) c.in_err-moved.ensures.grows

pub make_sequence-requires-clause-below : goal.make_sequence-requires-clause-below
make_sequence-requires-clause-below c = rw c.as_slice-3.ensures.value (WordBelow-later _ _ c.in_ok-cut.cut.count.items c.in_ok-cut.ensures.cut.count c.in_ok-moved.ensures.grows.formula.vars)

pub returns-in_err-id-clause-grows : goal.returns-in_err-id-clause-grows
returns-in_err-id-clause-grows c =
    Grows-trans _ _ _ (Grows-trans _ _ _ (Grows-formula _ _ (formula-trans _ _ _ c.in_ok-ends.ensures.grows c.in_ok-cut.ensures.grows) refl) c.in_ok-moved.ensures.grows) c.in_err-id.ensures.grows

pub returns-clause-grows : goal.returns-clause-grows
returns-clause-grows c =
    Grows-trans _ _ _ (Grows-trans _ _ _ (Grows-formula _ _ (formula-trans _ _ _ c.in_ok-ends.ensures.grows c.in_ok-cut.ensures.grows) refl) c.in_ok-moved.ensures.grows) c.in_ok-id.ensures.grows

pub make_sequence-requires-clause-within : goal.make_sequence-requires-clause-within
make_sequence-requires-clause-within c = λ a s.
    let old = c.args.b.now in
    rw c.as_slice-3.ensures.value (cut-within old c.find_ends.new.formula c.cut_at.new.formula c.args.s c.args.m c.args.n c.in_ok-bits.bits.items c.in_ok-ends.ends c.in_ok-cut.cut c.requires
    (record { fits = old.fits; built = old.built; ranges = old.ranges }) c.in_ok-bits.ensures c.in_ok-ends.ensures.grows c.in_ok-ends.ensures.ends c.in_ok-cut.ensures.grows (rw c.as_slice.ensures.value at c.in_ok-cut.ensures.cut)
    _ _ c.in_ok-places.ensures c.in_ok-moved.ensures.shifts.count a (Satisfies-before _ _ a c.in_ok-moved.ensures.grows s))

pub returns-clause-part : goal.returns-clause-part
returns-clause-part c =
    let old = c.args.b.now in
    sliced old c.find_ends.new.formula c.cut_at.new.formula c.args.s c.args.m c.args.n c.in_ok-bits.bits.items c.in_ok-ends.ends c.in_ok-cut.cut c.requires
    (record { fits = old.fits; built = old.built; ranges = old.ranges }) c.in_ok-bits.ensures c.in_ok-ends.ensures.grows c.in_ok-ends.ensures.ends c.in_ok-cut.ensures.grows (rw c.as_slice.ensures.value at c.in_ok-cut.ensures.cut)
    _ _ _ _ _ _ c.in_ok-places.ensures refl refl c.in_ok-moved.ensures.grows (rw c.as_slice-2.ensures.value at c.in_ok-moved.ensures.shifts) c.in_ok-id.ensures.grows (rw c.as_slice-3.ensures.value at c.in_ok-id.ensures.made)
