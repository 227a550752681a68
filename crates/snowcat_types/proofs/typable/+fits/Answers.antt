use Rattle.std.proofs.Common.{◌∙◌, ◌&&◌, ◌+◌, List, ℕ, Bool, arith, ap, sym}
use Rattle.tla_meaning.specs.declared.expr.Expr.{out-Expr}
use Rattle.snowcat_types.specs.Answers.{is_typable_op}
use Rattle.snowcat_types.specs.inner.Bound.{among, names_in}
use Rattle.snowcat_types.proofs.TypableSteps.{left_from, whole_is, child_is, all_children}
use Rattle.snowcat_types.proofs.typable.+fits.Goals as goal

pub tree_fits-returns-then-not-branch-clause-fits : goal.tree_fits-returns-then-not-branch-clause-fits
tree_fits-returns-then-not-branch-clause-fits t c =
    let ms : List Bool = c.in_ok-marks.marks.items in
    let xs : List (List ℕ) = c.as_slice-names.result.now in
    let stands = ap (λ z. is_typable_op c.args.count (out-Expr c.args.e.now).op (among z)) (sym c.as_slice.ensures.value) ∙ sym c.may_stand.ensures ∙ c.if-not-may_stand.false in
    let there = c.names_in-there.ensures ∙ ap (λ z. names_in xs z c.loop-i.i) c.as_slice-in-loop-i.ensures.value in
    sym (whole_is c.args.count c.args.e.now c.args.bound.now.items ms xs c.as_slice-trees.result.now c.as_slice-names.ensures c.as_slice-trees.ensures c.in_ok-marks.ensures stands
    ∙ sym c.loop-i.invariant.left
    ∙ child_is c.args.count c.args.e.now c.args.bound.now.items ms xs c.as_slice-trees.result.now c.loop-i.i c.index-trees-i.result c.names_in-there.result.now c.loop-i.bound.items
    c.in_ok-fits_under.field-0 c.loop-i-test.true c.index-trees-i.is there c.loop-i.invariant.kept c.in_ok-fits_under.ensures.fits
    ∙ ap (λ b. b && left_from c.args.count ms xs c.as_slice-trees.result.now (among c.args.bound.now.items) (c.loop-i.i + 1)) c.if-not-branch.true)

pub tree_fits-loop-i-preserved : goal.tree_fits-loop-i-preserved
tree_fits-loop-i-preserved t c =
    let ms : List Bool = c.in_ok-marks.marks.items in
    let xs : List (List ℕ) = c.as_slice-names.result.now in
    let there = c.names_in-there.ensures ∙ ap (λ z. names_in xs z c.loop-i.i) c.as_slice-in-loop-i.ensures.value in
    record {
      kept = c.in_ok-fits_under.ensures.kept ∙ c.loop-i.invariant.kept;
      left =
          sym (child_is c.args.count c.args.e.now c.args.bound.now.items ms xs c.as_slice-trees.result.now c.loop-i.i c.index-trees-i.result c.names_in-there.result.now c.loop-i.bound.items
          c.in_ok-fits_under.field-0 c.loop-i-test.true c.index-trees-i.is there c.loop-i.invariant.kept c.in_ok-fits_under.ensures.fits
          ∙ ap (λ b. b && left_from c.args.count ms xs c.as_slice-trees.result.now (among c.args.bound.now.items) (c.loop-i.i + 1)) c.if-not-branch.false)
          ∙ c.loop-i.invariant.left;
    }

pub tree_fits-returns-clause-fits : goal.tree_fits-returns-clause-fits
tree_fits-returns-clause-fits t c =
    let ms : List Bool = c.in_ok-marks.marks.items in
    let xs : List (List ℕ) = c.as_slice-names.result.now in
    let stands = ap (λ z. is_typable_op c.args.count (out-Expr c.args.e.now).op (among z)) (sym c.as_slice.ensures.value) ∙ sym c.may_stand.ensures ∙ c.if-not-may_stand.false in
    sym (whole_is c.args.count c.args.e.now c.args.bound.now.items ms xs c.as_slice-trees.result.now c.as_slice-names.ensures c.as_slice-trees.ensures c.in_ok-marks.ensures stands
    ∙ sym c.loop-i.invariant.left
    ∙ all_children c.args.count ms xs c.as_slice-trees.result.now (among c.args.bound.now.items) c.loop-i.i (let h = c.loop-i-test.false in omega (arith, h)))
