use Rattle.std.proofs.Common.{[], ◌∷◌, refl}
use Rattle.kernel_trees.specs.declared.kernel.KerOp.TheVariants as ker
use Rattle.expr_rewriter.proofs.OwnRows.{makes, needs}
use Rattle.expr_rewriter.proofs.OwnSorts.{slice_makes, slice_needs}
use Rattle.expr_rewriter.proofs.several.part_of_sequence.Goals as goal

pub slice-requires : goal.slice-requires
slice-requires c =
    needs c.args.b.now c.args.e.now c.args.parts.now
    (c.in-Some.x ∷ c.in-Some.y ∷ c.in-Some.z ∷ []) ker.Slice c.requires c.in-Slice.is c.in-Some.ensures
    (slice_needs c.args.b.now c.in-Some.x c.in-Some.y c.in-Some.z)

pub returns-in_ok-own-in-Slice-clause-own : goal.returns-in_ok-own-in-Slice-clause-own
returns-in_ok-own-in-Slice-clause-own c =
    makes c.args.b.now _ c.args.e.now c.args.parts.now (c.in-Some.x ∷ c.in-Some.y ∷ c.in-Some.z ∷ [])
    (c.in-Some.x.cell ∷ c.in-Some.y.cell ∷ c.in-Some.z.cell ∷ []) _ ker.Slice c.requires c.in-Slice.is c.in-Some.ensures
    refl refl
    c.in_ok-own-in-Slice.ensures.grows c.in_ok-own-in-Slice.ensures.row
    (λ a ks _ row h. slice_makes c.args.b.now _ c.in-Some.x c.in-Some.y c.in-Some.z _ c.in_ok-own-in-Slice.ensures.cells
    a ks row h)
