use Rattle.form_choices.proofs.Pickings.{to-none}
use Rattle.form_choices.proofs.choosing.pick_empty.Goals as goal

pub pick_function-requires : goal.pick_function-requires
pick_function-requires c = to-none c.args.b.now _ c.args.s _ c.requires c.in_ok-none.ensures.grows c.in_ok-none.ensures.set

pub returns-clause-picks : goal.returns-clause-picks
returns-clause-picks c = record {
  mid = _;
  none = _;
  before = c.in_ok-none.ensures.grows;
  empty = c.in_ok-none.ensures.set;
  picks = c.in_ok-r.ensures.picks;
  after = c.in_ok-r.ensures.grows;
}
