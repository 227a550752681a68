use Rattle.std.proofs.Common.{[], ◌∷◌, refl}
use Rattle.kernel_trees.specs.declared.kernel.KerOp.TheVariants as ker
use Rattle.expr_rewriter.proofs.OwnRows.{makes, needs}
use Rattle.expr_rewriter.proofs.OwnSorts.{equal_makes, equal_needs, functions_make, functions_need, glue_makes}
use Rattle.expr_rewriter.proofs.OwnSorts.{glue_needs}
use Rattle.expr_rewriter.proofs.OwnSorts.{join_makes, join_needs, less_makes, less_needs, push_makes, push_needs}
use Rattle.expr_rewriter.proofs.PartRows.{at_makes, at_needs}
use Rattle.expr_rewriter.proofs.several.of_two.Goals as goal

pub equal-requires : goal.equal-requires
equal-requires c =
    needs c.args.b.now c.args.e.now c.args.parts.now
    (c.in-Some.x ∷ c.in-Some.y ∷ []) ker.Equal c.requires c.in-Equal.is c.in-Some.ensures
    (equal_needs c.args.b.now c.in-Some.x c.in-Some.y)

pub returns-in_ok-own-in-Equal-clause-own : goal.returns-in_ok-own-in-Equal-clause-own
returns-in_ok-own-in-Equal-clause-own c =
    makes c.args.b.now _ c.args.e.now c.args.parts.now (c.in-Some.x ∷ c.in-Some.y ∷ [])
    (c.in-Some.x.cell ∷ c.in-Some.y.cell ∷ []) _ ker.Equal c.requires c.in-Equal.is c.in-Some.ensures refl refl
    c.in_ok-own-in-Equal.ensures.grows c.in_ok-own-in-Equal.ensures.row
    (λ a ks _ row h. equal_makes _ _ c.in_ok-own-in-Equal.ensures.cells a ks row)

pub less-requires : goal.less-requires
less-requires c =
    needs c.args.b.now c.args.e.now c.args.parts.now
    (c.in-Some.x ∷ c.in-Some.y ∷ []) ker.Less c.requires c.in-Less.is c.in-Some.ensures
    (less_needs c.args.b.now c.in-Some.x c.in-Some.y)

pub returns-in_ok-own-in-Less-clause-own : goal.returns-in_ok-own-in-Less-clause-own
returns-in_ok-own-in-Less-clause-own c =
    makes c.args.b.now _ c.args.e.now c.args.parts.now (c.in-Some.x ∷ c.in-Some.y ∷ [])
    (c.in-Some.x.cell ∷ c.in-Some.y.cell ∷ []) _ ker.Less c.requires c.in-Less.is c.in-Some.ensures refl refl
    c.in_ok-own-in-Less.ensures.grows c.in_ok-own-in-Less.ensures.row
    (λ a ks _ row h. less_makes _ _ c.in_ok-own-in-Less.ensures.cells a ks row)

pub functions-requires : goal.functions-requires
functions-requires c =
    needs c.args.b.now c.args.e.now c.args.parts.now
    (c.in-Some.x ∷ c.in-Some.y ∷ []) ker.Functions c.requires c.in-Functions.is c.in-Some.ensures
    (functions_need c.args.b.now c.in-Some.x c.in-Some.y)

pub returns-in_ok-own-in-Functions-clause-own : goal.returns-in_ok-own-in-Functions-clause-own
returns-in_ok-own-in-Functions-clause-own c =
    makes c.args.b.now _ c.args.e.now c.args.parts.now (c.in-Some.x ∷ c.in-Some.y ∷ [])
    (c.in-Some.x.cell ∷ c.in-Some.y.cell ∷ []) _ ker.Functions c.requires c.in-Functions.is c.in-Some.ensures refl refl
    c.in_ok-own-in-Functions.ensures.grows c.in_ok-own-in-Functions.ensures.row
    (λ a ks _ row h. functions_make c.args.b.now _ c.in-Some.x c.in-Some.y _ c.in_ok-own-in-Functions.ensures.cells a ks
    row h)

pub join-requires : goal.join-requires
join-requires c =
    needs c.args.b.now c.args.e.now c.args.parts.now
    (c.in-Some.x ∷ c.in-Some.y ∷ []) ker.Join c.requires c.in-Join.is c.in-Some.ensures
    (join_needs c.args.b.now c.in-Some.x c.in-Some.y)

pub returns-in_ok-own-in-Join-clause-own : goal.returns-in_ok-own-in-Join-clause-own
returns-in_ok-own-in-Join-clause-own c =
    makes c.args.b.now _ c.args.e.now c.args.parts.now (c.in-Some.x ∷ c.in-Some.y ∷ [])
    (c.in-Some.x.cell ∷ c.in-Some.y.cell ∷ []) _ ker.Join c.requires c.in-Join.is c.in-Some.ensures refl refl
    c.in_ok-own-in-Join.ensures.grows c.in_ok-own-in-Join.ensures.row
    (λ a ks _ row h. join_makes c.args.b.now _ c.in-Some.x c.in-Some.y _ c.in_ok-own-in-Join.ensures.cells a ks row h)

pub push-requires : goal.push-requires
push-requires c =
    needs c.args.b.now c.args.e.now c.args.parts.now
    (c.in-Some.x ∷ c.in-Some.y ∷ []) ker.Push c.requires c.in-Push.is c.in-Some.ensures
    (push_needs c.args.b.now c.in-Some.x c.in-Some.y)

pub returns-in_ok-own-in-Push-clause-own : goal.returns-in_ok-own-in-Push-clause-own
returns-in_ok-own-in-Push-clause-own c =
    makes c.args.b.now _ c.args.e.now c.args.parts.now (c.in-Some.x ∷ c.in-Some.y ∷ [])
    (c.in-Some.x.cell ∷ c.in-Some.y.cell ∷ []) _ ker.Push c.requires c.in-Push.is c.in-Some.ensures refl refl
    c.in_ok-own-in-Push.ensures.grows c.in_ok-own-in-Push.ensures.row
    (λ a ks _ row h. push_makes c.args.b.now _ c.in-Some.x c.in-Some.y _ c.in_ok-own-in-Push.ensures.cells a ks row h)

pub glue-requires : goal.glue-requires
glue-requires c =
    needs c.args.b.now c.args.e.now c.args.parts.now
    (c.in-Some.x ∷ c.in-Some.y ∷ []) ker.Glue c.requires c.in-Glue.is c.in-Some.ensures
    (glue_needs c.args.b.now c.in-Some.x c.in-Some.y)

pub returns-in_ok-own-in-Glue-clause-own : goal.returns-in_ok-own-in-Glue-clause-own
returns-in_ok-own-in-Glue-clause-own c =
    makes c.args.b.now _ c.args.e.now c.args.parts.now (c.in-Some.x ∷ c.in-Some.y ∷ [])
    (c.in-Some.x.cell ∷ c.in-Some.y.cell ∷ []) _ ker.Glue c.requires c.in-Glue.is c.in-Some.ensures refl refl
    c.in_ok-own-in-Glue.ensures.grows c.in_ok-own-in-Glue.ensures.row
    (λ a ks _ row h. glue_makes c.args.b.now _ c.in-Some.x c.in-Some.y _ c.in_ok-own-in-Glue.ensures.cells a ks row h)

pub at-requires-clause-index : goal.at-requires-clause-index
at-requires-clause-index c =
    needs c.args.b.now c.args.e.now c.args.parts.now
    (c.in-Some.x ∷ c.in-Some.y ∷ []) ker.At c.requires c.in-At.is c.in-Some.ensures
    (at_needs c.args.b.now c.in-Some.x c.in-Some.y)

pub returns-in_ok-own-in-At-clause-own : goal.returns-in_ok-own-in-At-clause-own
returns-in_ok-own-in-At-clause-own c =
    makes c.args.b.now _ c.args.e.now c.args.parts.now (c.in-Some.x ∷ c.in-Some.y ∷ [])
    (c.in-Some.x.cell ∷ c.in-Some.y.cell ∷ []) _ ker.At c.requires c.in-At.is c.in-Some.ensures refl refl
    c.in_ok-own-in-At.ensures.grows c.in_ok-own-in-At.ensures.row
    (λ a ks e row h. at_makes c.args.b.now _ c.in-Some.x c.in-Some.y _ _ c.in_ok-own-in-At.ensures.cells a ks e row h)
