use Rattle.std.proofs.Common.{◌∙◌, sym, ap, [], List}
use Rattle.tla_meaning.specs.declared.expr.Def.{Def}
use Rattle.tla_meaning.specs.Scopes.{find_last}
use Rattle.op_inliner.specs.Known.{arities_of, wants}
use Rattle.op_inliner.proofs.ExpandSteps.{name_answered, name_nodes}
use Rattle.op_inliner.proofs.expanding.Module.expanded.Goals as goal

pub answered-requires-clause-nodes : goal.answered-requires-clause-nodes
answered-requires-clause-nodes c =
    let wanted = ap (λ (ds : List Def). wants 0 (find_last c.args.name.now (arities_of ds []))) (sym c.as_slice.ensures) ∙ sym c.is_operator.ensures ∙ c.if-not-is_operator.false in
    name_nodes c.args.self c.requires.ready c.args.kind c.args.name.now c.in_ok-e.e wanted c.in_ok-e.ensures c.in_ok-nodes.nodes c.in_ok-nodes.ensures

pub returns : goal.returns
returns c =
    let wanted = ap (λ (ds : List Def). wants 0 (find_last c.args.name.now (arities_of ds []))) (sym c.as_slice.ensures) ∙ sym c.is_operator.ensures ∙ c.if-not-is_operator.false in
    name_answered c.args.self c.requires.ready c.args.kind c.args.name.now c.in_ok-e.e wanted c.in_ok-e.ensures c.answered.result c.answered.ensures
