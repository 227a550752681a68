use mir.Syntax.{w128}
use mir.Val.{SFits}
use Rattle.std.proofs.lemmas.Int.{to_z-of_z}
use Rattle.std.proofs.Common.{[], ◌∷◌, rules}
use Rattle.kernel_trees.specs.declared.kernel.KerOp.TheVariants as ker
use Rattle.expr_rewriter.proofs.OwnRows.{needs}
use Rattle.expr_rewriter.proofs.OwnSorts.{range_needs}
use Rattle.expr_rewriter.proofs.RangeBounds.{bounds_are, makes_range}
use Rattle.expr_rewriter.proofs.ranges.of_range.Goals as goal

pub range-requires : goal.range-requires
range-requires c =
    needs c.args.b.now c.args.e.now c.args.parts.now
    (c.in-Some.x ∷ c.in-Some.y ∷ []) ker.Range c.requires.can c.requires.operator c.in-Some.ensures
    (range_needs c.args.b.now c.in-Some.x c.in-Some.y)

pub returns-clause-own : goal.returns-clause-own
returns-clause-own c =
    let r = c.bounds_of-low in
    let f : SFits w128 r.result.0 = search rules in
    let g : SFits w128 r.result.1 = search rules in
    makes_range c.args.b.now _ c.args.e.now c.args.parts.now c.in-Some.x c.in-Some.y _ _ _ c.requires.can
    c.requires.operator
    c.in-Some.ensures c.in_ok-own.ensures.grows c.in_ok-own.ensures.cells c.in_ok-own.ensures.shows
    (bounds_are _ _ _ _ r.result.0 r.result.1 c.as_slice.ensures (to_z-of_z w128 r.result.0 f)
    (to_z-of_z w128 r.result.1 g) r.ensures)
