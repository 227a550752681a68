use Rattle.std.proofs.Common.{lt_of_lt_of_le}
use Rattle.level_laws.specs.Branches.{Held, MetWrong, MetBig}
use Rattle.branch_cells.proofs.EndLiterals.{behind_of}
use Rattle.branch_cells.proofs.ends.behind.Goals as goal

pub and-requires-clause-x_below : goal.and-requires-clause-x_below
and-requires-clause-x_below c = c.requires.first Held

pub and-requires-clause-y_below : goal.and-requires-clause-y_below
and-requires-clause-y_below c = c.requires.second Held

pub or_both-requires-clause-x_below : goal.or_both-requires-clause-x_below
or_both-requires-clause-x_below c = lt_of_lt_of_le (c.requires.first MetWrong) c.in_ok-holds.ensures.grows.vars

pub or_both-requires-clause-on_below : goal.or_both-requires-clause-on_below
or_both-requires-clause-on_below c = lt_of_lt_of_le (c.requires.first Held) c.in_ok-holds.ensures.grows.vars

pub or_both-requires-clause-y_below : goal.or_both-requires-clause-y_below
or_both-requires-clause-y_below c = lt_of_lt_of_le (c.requires.second MetWrong) c.in_ok-holds.ensures.grows.vars

pub or_both-requires-2-clause-x_below : goal.or_both-requires-2-clause-x_below
or_both-requires-2-clause-x_below c =
    lt_of_lt_of_le (lt_of_lt_of_le (c.requires.first MetBig) c.in_ok-holds.ensures.grows.vars)
    c.in_ok-wrong.ensures.grows.vars

pub or_both-requires-2-clause-on_below : goal.or_both-requires-2-clause-on_below
or_both-requires-2-clause-on_below c =
    lt_of_lt_of_le (lt_of_lt_of_le (c.requires.first Held) c.in_ok-holds.ensures.grows.vars)
    c.in_ok-wrong.ensures.grows.vars

pub or_both-requires-2-clause-y_below : goal.or_both-requires-2-clause-y_below
or_both-requires-2-clause-y_below c =
    lt_of_lt_of_le (lt_of_lt_of_le (c.requires.second MetBig) c.in_ok-holds.ensures.grows.vars)
    c.in_ok-wrong.ensures.grows.vars

pub returns-clause-ends : goal.returns-clause-ends
returns-clause-ends c =
    behind_of _ _ _ c.args.x c.args.y (record {
      holds = c.in_ok-holds.holds;
      wrong = c.in_ok-wrong.wrong;
      big =
          c.in_ok-big.big;
    })
    c.in_ok-wrong.ensures.grows c.in_ok-big.ensures.grows c.in_ok-holds.ensures.value c.in_ok-wrong.ensures.value
    c.in_ok-big.ensures.value
