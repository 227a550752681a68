use Rattle.std.proofs.Common.{ap, refl, sym, ◌∙◌}
use Rattle.kernel_trees.specs.declared.kernel.KerOp.TheVariants as ker
use Rattle.expr_rewriter.proofs.OwnRows.{makes, needs}
use Rattle.expr_rewriter.proofs.ListedRows.{records_count, records_make, records_need, tuples_make, tuples_need}
use Rattle.expr_rewriter.proofs.listed.product_of_all.Goals as goal

pub tuples-requires : goal.tuples-requires
tuples-requires c =
    needs c.args.b.now c.args.e.now c.args.parts.now _ ker.TupForm c.requires c.in-TupForm.is refl
    (tuples_need c.args.b.now c.args.parts.now _ (c.as_slice-sets.ensures.value ∙ c.in_ok-ids.ensures))

pub records-requires-clause-sets : goal.records-requires-clause-sets
records-requires-clause-sets c =
    needs c.args.b.now c.args.e.now c.args.parts.now _ _ c.requires c.in-RecForm.is refl
    (records_need c.args.b.now c.args.parts.now _ _ (c.as_slice-sets.ensures.value ∙ c.in_ok-ids.ensures))

pub records-requires-clause-one_each : goal.records-requires-clause-one_each
records-requires-clause-one_each c =
    needs c.args.b.now c.args.e.now c.args.parts.now _ _ c.requires
    (c.in-RecForm.is ∙ ap (λ names. ker.RecForm names) (sym c.as_slice-texts.ensures)) refl
    (records_count c.args.b.now c.args.parts.now _ _ (c.as_slice-sets.ensures.value ∙ c.in_ok-ids.ensures))

pub returns-in-TupForm-clause-own : goal.returns-in-TupForm-clause-own
returns-in-TupForm-clause-own c =
    let is = c.as_slice-sets.ensures.value ∙ c.in_ok-ids.ensures in
    makes c.args.b.now _ c.args.e.now c.args.parts.now _ _ _ ker.TupForm c.requires c.in-TupForm.is refl is refl
    c.in_ok-own-in-TupForm.ensures.grows c.in_ok-own-in-TupForm.ensures.makes.row
    (λ a ks _ row h. tuples_make c.args.b.now _ c.args.parts.now _ _ is c.in_ok-own-in-TupForm.ensures.makes.cells a ks
    row h)

pub returns-in-RecForm-clause-own : goal.returns-in-RecForm-clause-own
returns-in-RecForm-clause-own c =
    let is = c.as_slice-sets.ensures.value ∙ c.in_ok-ids.ensures in
    makes c.args.b.now _ c.args.e.now c.args.parts.now _ _ _ _ c.requires
    (c.in-RecForm.is ∙ ap (λ names. ker.RecForm names) (sym c.as_slice-texts.ensures)) refl is refl
    c.in_ok-own-in-RecForm.ensures.grows c.in_ok-own-in-RecForm.ensures.makes.row
    (λ a ks _ row h. records_make c.args.b.now _ c.args.parts.now _ _ _ is c.in_ok-own-in-RecForm.ensures.makes.cells a
    ks row h)
