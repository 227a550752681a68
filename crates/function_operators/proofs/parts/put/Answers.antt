use Rattle.cell_merge.proofs.Edges.{sort-there}
use Rattle.function_operators.proofs.Found.{field_there, item_there}
use Rattle.function_operators.proofs.Updating.{puts_item}
use Rattle.function_operators.proofs.parts.put.Goals as goal

pub with_item-requires-clause-item : goal.with_item-requires-clause-item
with_item-requires-clause-item c =
    item_there c.args.b.now.arena.kinds c.args.f c.args.index c.in-Number.i _ _ c.in-Number.is c.requires.is
    c.requires.at

pub with_item-requires-clause-there : goal.with_item-requires-clause-there
with_item-requires-clause-there c = sort-there _ _ _ c.requires.new

pub with_field-requires-clause-field : goal.with_field-requires-clause-field
with_field-requires-clause-field c =
    field_there c.args.b.now.arena.kinds c.args.f c.args.index c.in-Name.name _ _ c.in-Name.is c.requires.is
    c.requires.at

pub with_field-requires-clause-there : goal.with_field-requires-clause-there
with_field-requires-clause-there c = sort-there _ _ _ c.requires.new

pub returns-in_ok-made-in-Number-clause-puts : goal.returns-in_ok-made-in-Number-clause-puts
returns-in_ok-made-in-Number-clause-puts c =
    puts_item c.args.b.now _ _ _ _ _ _ c.in-Number.is c.in_ok-made-in-Number.ensures.made
