use Rattle.std.proofs.Common.{[], ◌∷◌, refl}
use Rattle.kernel_trees.specs.declared.kernel.Ker.{out-Ker}
use Rattle.expr_rewriter.proofs.OwnRows.{makes, needs, by_sets}
use Rattle.expr_rewriter.proofs.OwnSorts.{sets_make, sets_need}
use Rattle.expr_rewriter.proofs.several.of_sets.Goals as goal

pub combined-requires : goal.combined-requires
combined-requires c =
    needs c.args.b.now c.args.e.now c.args.parts.now (c.in-Some.x ∷ c.in-Some.y ∷ [])
    (out-Ker c.args.e.now).op c.requires.can refl c.in-Some.ensures
    (λ a ks row h. sets_need c.args.b.now c.in-Some.x c.in-Some.y
    (out-Ker c.args.e.now).op a ks c.requires.operator row h)

pub returns-clause-own : goal.returns-clause-own
returns-clause-own c =
    makes c.args.b.now _ c.args.e.now c.args.parts.now (c.in-Some.x ∷ c.in-Some.y ∷ [])
    (c.in-Some.x.cell ∷ c.in-Some.y.cell ∷ []) _ (out-Ker c.args.e.now).op c.requires.can refl c.in-Some.ensures refl
    (by_sets (out-Ker c.args.e.now).op c.requires.operator)
    c.in_ok-own.ensures.grows c.in_ok-own.ensures.row
    (λ a ks _ row h. sets_make c.args.b.now _ c.in-Some.x c.in-Some.y _
    (out-Ker c.args.e.now).op c.in_ok-own.ensures.cells c.requires.operator a ks row h)
