use Rattle.std.proofs.Common.{[], ◌∷◌, refl}
use Rattle.kernel_trees.specs.declared.kernel.KerOp.TheVariants as ker
use Rattle.expr_rewriter.proofs.OwnRows.{makes, needs}
use Rattle.expr_rewriter.proofs.OwnSorts.{count_makes, count_needs, flatten_makes, flatten_needs, length_makes}
use Rattle.expr_rewriter.proofs.OwnSorts.{length_needs}
use Rattle.expr_rewriter.proofs.OwnSorts.{not_makes, not_needs, rest_makes, rest_needs, subsets_makes, subsets_needs}
use Rattle.expr_rewriter.proofs.single.of_one.Goals as goal

pub not-requires : goal.not-requires
not-requires c =
    needs c.args.b.now c.args.e.now c.args.parts.now (c.in-Some.x ∷ []) ker.Not c.requires c.in-Not.is c.in-Some.ensures
    (not_needs c.args.b.now c.in-Some.x)

pub returns-in_ok-own-in-Not-clause-own : goal.returns-in_ok-own-in-Not-clause-own
returns-in_ok-own-in-Not-clause-own c =
    makes c.args.b.now _ c.args.e.now c.args.parts.now (c.in-Some.x ∷ [])
    (c.in-Some.x.cell ∷ []) _ ker.Not c.requires c.in-Not.is c.in-Some.ensures refl refl
    c.in_ok-own-in-Not.ensures.grows c.in_ok-own-in-Not.ensures.row
    (λ a ks _ row h. not_makes _ _ c.in_ok-own-in-Not.ensures.cells a ks row)

pub flatten-requires : goal.flatten-requires
flatten-requires c =
    needs c.args.b.now c.args.e.now c.args.parts.now
    (c.in-Some.x ∷ []) ker.Flatten c.requires c.in-Flatten.is c.in-Some.ensures (flatten_needs c.args.b.now c.in-Some.x)

pub returns-in_ok-own-in-Flatten-clause-own : goal.returns-in_ok-own-in-Flatten-clause-own
returns-in_ok-own-in-Flatten-clause-own c =
    makes c.args.b.now _ c.args.e.now c.args.parts.now (c.in-Some.x ∷ [])
    (c.in-Some.x.cell ∷ []) _ ker.Flatten c.requires c.in-Flatten.is c.in-Some.ensures refl refl
    c.in_ok-own-in-Flatten.ensures.grows c.in_ok-own-in-Flatten.ensures.row
    (λ a ks _ row h. flatten_makes c.args.b.now _ c.in-Some.x _ c.in_ok-own-in-Flatten.ensures.cells a ks row h)

pub subsets-requires : goal.subsets-requires
subsets-requires c =
    needs c.args.b.now c.args.e.now c.args.parts.now
    (c.in-Some.x ∷ []) ker.Subsets c.requires c.in-Subsets.is c.in-Some.ensures (subsets_needs c.args.b.now c.in-Some.x)

pub returns-in_ok-own-in-Subsets-clause-own : goal.returns-in_ok-own-in-Subsets-clause-own
returns-in_ok-own-in-Subsets-clause-own c =
    makes c.args.b.now _ c.args.e.now c.args.parts.now (c.in-Some.x ∷ [])
    (c.in-Some.x.cell ∷ []) _ ker.Subsets c.requires c.in-Subsets.is c.in-Some.ensures refl refl
    c.in_ok-own-in-Subsets.ensures.grows c.in_ok-own-in-Subsets.ensures.row
    (λ a ks _ row h. subsets_makes c.args.b.now _ c.in-Some.x _ c.in_ok-own-in-Subsets.ensures.cells a ks row h)

pub count-requires : goal.count-requires
count-requires c =
    needs c.args.b.now c.args.e.now c.args.parts.now
    (c.in-Some.x ∷ []) ker.Count c.requires c.in-Count.is c.in-Some.ensures (count_needs c.args.b.now c.in-Some.x)

pub returns-in_ok-own-in-Count-clause-own : goal.returns-in_ok-own-in-Count-clause-own
returns-in_ok-own-in-Count-clause-own c =
    makes c.args.b.now _ c.args.e.now c.args.parts.now (c.in-Some.x ∷ [])
    (c.in-Some.x.cell ∷ []) _ ker.Count c.requires c.in-Count.is c.in-Some.ensures refl refl
    c.in_ok-own-in-Count.ensures.grows c.in_ok-own-in-Count.ensures.row
    (λ a ks _ row h. count_makes _ _ c.in_ok-own-in-Count.ensures.cells a ks row)

pub length-requires : goal.length-requires
length-requires c =
    needs c.args.b.now c.args.e.now c.args.parts.now
    (c.in-Some.x ∷ []) ker.Length c.requires c.in-Length.is c.in-Some.ensures (length_needs c.args.b.now c.in-Some.x)

pub returns-in_ok-own-in-Length-clause-own : goal.returns-in_ok-own-in-Length-clause-own
returns-in_ok-own-in-Length-clause-own c =
    makes c.args.b.now _ c.args.e.now c.args.parts.now (c.in-Some.x ∷ [])
    (c.in-Some.x.cell ∷ []) _ ker.Length c.requires c.in-Length.is c.in-Some.ensures refl refl
    c.in_ok-own-in-Length.ensures.grows c.in_ok-own-in-Length.ensures.row
    (λ a ks _ row h. length_makes _ _ c.in_ok-own-in-Length.ensures.cells a ks row)

pub rest-requires : goal.rest-requires
rest-requires c =
    needs c.args.b.now c.args.e.now c.args.parts.now
    (c.in-Some.x ∷ []) ker.Rest c.requires c.in-Rest.is c.in-Some.ensures (rest_needs c.args.b.now c.in-Some.x)

pub returns-in_ok-own-in-Rest-clause-own : goal.returns-in_ok-own-in-Rest-clause-own
returns-in_ok-own-in-Rest-clause-own c =
    makes c.args.b.now _ c.args.e.now c.args.parts.now (c.in-Some.x ∷ [])
    (c.in-Some.x.cell ∷ []) _ ker.Rest c.requires c.in-Rest.is c.in-Some.ensures refl refl
    c.in_ok-own-in-Rest.ensures.grows c.in_ok-own-in-Rest.ensures.row
    (λ a ks _ row h. rest_makes c.args.b.now _ c.in-Some.x _ c.in_ok-own-in-Rest.ensures.cells a ks row h)
