use Rattle.std.proofs.Common.{lt_of_lt_of_le}
use Rattle.level_laws.specs.Branches.{Held, MetWrong, MetBig}
use Rattle.branch_cells.proofs.EndLiterals.{also_of}
use Rattle.branch_cells.proofs.ends.also.Goals as goal

pub and-requires-clause-y_below : goal.and-requires-clause-y_below
and-requires-clause-y_below c = c.requires.ends Held

pub and-requires-2-clause-y_below : goal.and-requires-2-clause-y_below
and-requires-2-clause-y_below c = lt_of_lt_of_le (c.requires.ends MetWrong) c.in_ok-holds.ensures.grows.vars

pub and-requires-3-clause-y_below : goal.and-requires-3-clause-y_below
and-requires-3-clause-y_below c =
    lt_of_lt_of_le (lt_of_lt_of_le (c.requires.ends MetBig) c.in_ok-holds.ensures.grows.vars)
    c.in_ok-wrong.ensures.grows.vars

pub returns-clause-ends : goal.returns-clause-ends
returns-clause-ends c =
    also_of _ _ _ c.args.on c.args.x (record {
      holds = c.in_ok-holds.holds;
      wrong = c.in_ok-wrong.wrong;
      big =
          c.in_ok-big.big;
    })
    c.in_ok-wrong.ensures.grows c.in_ok-big.ensures.grows c.in_ok-holds.ensures.value c.in_ok-wrong.ensures.value
    c.in_ok-big.ensures.value
