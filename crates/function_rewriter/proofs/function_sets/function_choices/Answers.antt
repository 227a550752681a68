use Rattle.cell_merge.proofs.Unions.{AreNamed-later}
use Rattle.function_rewriter.proofs.FunctionListings.{listed}
use Rattle.function_rewriter.proofs.function_sets.function_choices.Goals as goal

pub list_choices-requires : goal.list_choices-requires
list_choices-requires c = record {
  edges_named = rw c.as_slice-front.ensures.value (AreNamed-later _ _ _ c.in_ok-edges.ensures.joins.named c.in_ok-members.ensures.grows.vars);
  members_named = rw c.as_slice-rest.ensures.value c.in_ok-members.ensures.joins.named;
}

pub returns-clause-lists : goal.returns-clause-lists
returns-clause-lists c =
    listed c.args.arena.now _ _ _ c.args.from c.args.to _ _ _ _ _ c.requires.over.built c.requires.from_set c.requires.to_set c.in_ok-edges.ensures.joins c.in_ok-members.ensures.joins c.as_slice-front.ensures.value c.as_slice-rest.ensures.value
    c.in_ok-members.ensures.grows c.in_ok-choices.ensures.grows c.in_ok-choices.ensures.listing
