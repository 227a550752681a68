use Rattle.std.proofs.Common.{not, ap, ◌∙◌}
use Rattle.cell_merge.proofs.Edges.{negated-value}
use Rattle.function_operators.proofs.Found.{field_there, finds_field, finds_item, item_there}
use Rattle.function_operators.proofs.parts.find.Goals as goal

pub item-requires : goal.item-requires
item-requires c = item_there c.args.b.now.arena.kinds c.args.f c.args.index c.in-Number.i _ _ c.in-Number.is
    c.requires.is c.requires.at

pub field-requires : goal.field-requires
field-requires c = field_there c.args.b.now.arena.kinds c.args.f c.args.index c.in-Name.name _ _ c.in-Name.is
    c.requires.is c.requires.at

pub returns-in-Number-clause-finds : goal.returns-in-Number-clause-finds
returns-in-Number-clause-finds c =
    finds_item c.args.b.now _ _ _ _ _ c.in-Number.is
    (item_there c.args.b.now.arena.kinds c.args.f c.args.index c.in-Number.i _ _ c.in-Number.is c.requires.is
    c.requires.at) c.item.ensures (
      rw c.negated.ensures c.top.ensures.below,
      λ a s. negated-value c.top.result _ a c.negated.ensures
          ∙ ap not (c.top.ensures.forced a s),
    )

pub returns-in-Name-clause-finds : goal.returns-in-Name-clause-finds
returns-in-Name-clause-finds c =
    finds_field c.args.b.now _ _ _ _ _ c.in-Name.is
    (field_there c.args.b.now.arena.kinds c.args.f c.args.index c.in-Name.name _ _ c.in-Name.is c.requires.is
    c.requires.at) c.field.ensures (
      rw c.negated-in-Name.ensures c.top-in-Name.ensures.below,
      λ a s. negated-value c.top-in-Name.result _ a c.negated-in-Name.ensures
          ∙ ap not (c.top-in-Name.ensures.forced a s),
    )
