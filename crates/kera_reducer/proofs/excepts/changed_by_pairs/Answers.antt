use Rattle.std.proofs.Common.{◌∙◌, ap, length}
use Rattle.kera_reducer.proofs.ExceptSteps.{changed_by_let, length-rest_types}
use Rattle.kera_reducer.proofs.excepts.changed_by_pairs.Goals as goal

pub read_operands-requires : goal.read_operands-requires
read_operands-requires c = ap length c.requires.rest_list ∙ length-rest_types c.args.operands.indexes.items

pub returns : goal.returns
returns c =
    changed_by_let c.args.made.now.place c.args.made.now.ty.now c.args.made.now.depth c.args.counts.now c.args.operands
    c.args.rights.items c.args.pairs.now c.in_ok-read.read c.in_ok-body.body c.in_ok-named.named c.in_ok-tree.tree
    c.requires c.in_ok-read.ensures c.in_ok-body.ensures c.in_ok-named.ensures c.in_ok-tree.ensures
