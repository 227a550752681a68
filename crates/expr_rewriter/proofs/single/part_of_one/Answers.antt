use Rattle.std.proofs.Common.{[], ◌∷◌, refl}
use Rattle.cell_arena.proofs.Growing.{Grows-refl}
use Rattle.kernel_trees.specs.declared.kernel.KerOp.TheVariants as ker
use Rattle.expr_rewriter.proofs.OwnRows.{makes, makes_item, needs, needs_named}
use Rattle.expr_rewriter.proofs.OwnSorts.{first_makes, first_needs}
use Rattle.expr_rewriter.proofs.PartRows.{domain_makes, domain_needs, field_makes, field_needs, item_makes, item_needs}
use Rattle.expr_rewriter.proofs.single.part_of_one.Goals as goal

pub domain-requires : goal.domain-requires
domain-requires c =
    needs_named c.args.b.now c.args.e.now c.args.parts.now
    (c.in-Some.x ∷ []) ker.Domain c.requires c.in-Domain.is c.in-Some.ensures (domain_needs c.args.b.now c.in-Some.x)

pub first-requires-clause-sequence : goal.first-requires-clause-sequence
first-requires-clause-sequence c =
    needs c.args.b.now c.args.e.now c.args.parts.now
    (c.in-Some.x ∷ []) ker.First c.requires c.in-First.is c.in-Some.ensures (first_needs c.args.b.now c.in-Some.x)

pub item-requires : goal.item-requires
item-requires c =
    needs c.args.b.now c.args.e.now c.args.parts.now (c.in-Some.x ∷ [])
    (ker.Item c.in-Item.i) c.requires c.in-Item.is c.in-Some.ensures (item_needs c.args.b.now c.in-Some.x c.in-Item.i)

pub field-requires : goal.field-requires
field-requires c =
    needs c.args.b.now c.args.e.now c.args.parts.now (c.in-Some.x ∷ []) _ c.requires c.in-FieldOf.is c.in-Some.ensures
    (field_needs c.args.b.now c.in-Some.x _)

pub returns-in_ok-own-in-Domain-clause-own : goal.returns-in_ok-own-in-Domain-clause-own
returns-in_ok-own-in-Domain-clause-own c =
    makes c.args.b.now _ c.args.e.now c.args.parts.now (c.in-Some.x ∷ [])
    (c.in-Some.x.cell ∷ []) _ ker.Domain c.requires c.in-Domain.is c.in-Some.ensures refl refl
    c.in_ok-own-in-Domain.ensures.grows c.in_ok-own-in-Domain.ensures.row
    (λ a ks _ row h. domain_makes c.args.b.now _ c.in-Some.x _ c.in_ok-own-in-Domain.ensures.cells a ks row h)

pub returns-in_ok-own-in-First-clause-own : goal.returns-in_ok-own-in-First-clause-own
returns-in_ok-own-in-First-clause-own c =
    makes c.args.b.now _ c.args.e.now c.args.parts.now (c.in-Some.x ∷ [])
    (c.in-Some.x.cell ∷ []) _ ker.First c.requires c.in-First.is c.in-Some.ensures refl refl
    c.in_ok-own-in-First.ensures.grows c.in_ok-own-in-First.ensures.row
    (λ a ks e row h. first_makes c.args.b.now _ c.in-Some.x _ _ c.in_ok-own-in-First.ensures.cells a ks e row h)

pub returns-in-Item-clause-own : goal.returns-in-Item-clause-own
returns-in-Item-clause-own c =
    makes_item c.args.b.now c.args.e.now c.args.parts.now c.in-Some.x _ c.in-Item.i c.requires c.in-Item.is
    c.in-Some.ensures c.item.ensures.row
    (λ a ks _ row h. item_makes c.args.b.now c.in-Some.x _ c.in-Item.i c.item.ensures.cells a ks row h)

pub returns-in-FieldOf-clause-own : goal.returns-in-FieldOf-clause-own
returns-in-FieldOf-clause-own c =
    makes c.args.b.now c.args.b.now c.args.e.now c.args.parts.now (c.in-Some.x ∷ [])
    (c.in-Some.x.cell ∷ []) _ _ c.requires c.in-FieldOf.is c.in-Some.ensures refl refl
    (Grows-refl c.args.b.now) c.field.ensures.row
    (λ a ks _ row h. field_makes c.args.b.now c.in-Some.x _ _ c.field.ensures.cells a ks row h)
