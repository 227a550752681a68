use Rattle.std.proofs.Common.{ap, refl, sym, ◌∙◌}
use Rattle.kernel_trees.specs.declared.kernel.KerOp.TheVariants as ker
use Rattle.expr_rewriter.proofs.OwnRows.{makes, needs}
use Rattle.expr_rewriter.proofs.ListedRows.{are_there, record_makes, record_needs, sequence_makes, set_makes, set_needs}
use Rattle.expr_rewriter.proofs.ListedRows.{tuple_makes}
use Rattle.expr_rewriter.proofs.listed.of_all.Goals as goal

pub set-requires : goal.set-requires
set-requires c =
    needs c.args.b.now c.args.e.now c.args.parts.now _ ker.SetOf c.requires c.in-SetOf.is refl
    (set_needs c.args.b.now c.args.parts.now _ (c.as_slice-members.ensures.value ∙ c.in_ok-ids.ensures))

pub sequence-requires : goal.sequence-requires
sequence-requires c =
    needs c.args.b.now c.args.e.now c.args.parts.now _ ker.SeqOf c.requires c.in-SeqOf.is refl
    (λ a ks row h. are_there c.args.b.now c.args.parts.now _ c.in_ok-ids.ensures ks h)

pub tuple-requires : goal.tuple-requires
tuple-requires c =
    needs c.args.b.now c.args.e.now c.args.parts.now _ ker.TupOf c.requires c.in-TupOf.is refl
    (λ a ks row h. are_there c.args.b.now c.args.parts.now _ c.in_ok-ids.ensures ks h)

pub record-requires-clause-one_each : goal.record-requires-clause-one_each
record-requires-clause-one_each c =
    needs c.args.b.now c.args.e.now c.args.parts.now _ _ c.requires
    (c.in-RecOf.is ∙ ap (λ names. ker.RecOf names) (sym c.as_slice-texts.ensures)) refl
    (record_needs c.args.b.now c.args.parts.now _ (c.as_slice-cells.ensures.value ∙ c.in_ok-ids.ensures) _)

pub record-requires-clause-there : goal.record-requires-clause-there
record-requires-clause-there c =
    needs c.args.b.now c.args.e.now c.args.parts.now _ _ c.requires c.in-RecOf.is refl
    (λ a ks row h. are_there c.args.b.now c.args.parts.now _
    (c.as_slice-cells.ensures.value ∙ c.in_ok-ids.ensures) ks h)

pub returns-in_ok-own-in-SetOf-clause-own : goal.returns-in_ok-own-in-SetOf-clause-own
returns-in_ok-own-in-SetOf-clause-own c =
    let is = c.as_slice-members.ensures.value ∙ c.in_ok-ids.ensures in
    makes c.args.b.now _ c.args.e.now c.args.parts.now _ _ _ ker.SetOf c.requires c.in-SetOf.is refl is refl
    c.in_ok-own-in-SetOf.ensures.grows c.in_ok-own-in-SetOf.ensures.row
    (λ a ks _ row h. set_makes c.args.b.now c.args.parts.now _ is _ _ c.in_ok-own-in-SetOf.ensures.cells a ks row h)

pub returns-in_ok-own-in-SeqOf-clause-own : goal.returns-in_ok-own-in-SeqOf-clause-own
returns-in_ok-own-in-SeqOf-clause-own c =
    makes c.args.b.now _ c.args.e.now c.args.parts.now _ _ _ ker.SeqOf c.requires c.in-SeqOf.is refl c.in_ok-ids.ensures
    refl
    c.in_ok-own-in-SeqOf.ensures.grows c.in_ok-own-in-SeqOf.ensures.row
    (λ a ks _ row h. sequence_makes c.args.b.now c.args.parts.now _ c.in_ok-ids.ensures _ _
    c.in_ok-own-in-SeqOf.ensures.cells a ks row h)

pub returns-in_ok-own-in-TupOf-clause-own : goal.returns-in_ok-own-in-TupOf-clause-own
returns-in_ok-own-in-TupOf-clause-own c =
    makes c.args.b.now _ c.args.e.now c.args.parts.now _ _ _ ker.TupOf c.requires c.in-TupOf.is refl c.in_ok-ids.ensures
    refl
    c.in_ok-own-in-TupOf.ensures.grows c.in_ok-own-in-TupOf.ensures.row
    (λ a ks _ row h. tuple_makes c.args.b.now c.args.parts.now _ c.in_ok-ids.ensures _ _
    c.in_ok-own-in-TupOf.ensures.cells a ks row h)

pub returns-in_ok-own-in-RecOf-clause-own : goal.returns-in_ok-own-in-RecOf-clause-own
returns-in_ok-own-in-RecOf-clause-own c =
    let is = c.as_slice-cells.ensures.value ∙ c.in_ok-ids.ensures in
    makes c.args.b.now _ c.args.e.now c.args.parts.now _ _ _ _ c.requires
    (c.in-RecOf.is ∙ ap (λ names. ker.RecOf names) (sym c.as_slice-texts.ensures)) refl is refl
    c.in_ok-own-in-RecOf.ensures.grows c.in_ok-own-in-RecOf.ensures.row
    (λ a ks _ row h. record_makes c.args.b.now c.args.parts.now _ is _ _ _ c.in_ok-own-in-RecOf.ensures.cells a ks row
    h)
