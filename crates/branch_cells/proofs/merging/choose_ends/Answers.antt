use Rattle.std.proofs.Common.{lt_of_lt_of_le}
use Rattle.level_laws.specs.Branches.{Held, MetWrong, MetBig}
use Rattle.branch_cells.proofs.Eithers.{ends_either}
use Rattle.branch_cells.proofs.merging.choose_ends.Goals as goal

pub mux-requires-clause-y_below : goal.mux-requires-clause-y_below
mux-requires-clause-y_below c = c.requires.first Held

pub mux-requires-clause-z_below : goal.mux-requires-clause-z_below
mux-requires-clause-z_below c = c.requires.second Held

pub mux-requires-2-clause-y_below : goal.mux-requires-2-clause-y_below
mux-requires-2-clause-y_below c = lt_of_lt_of_le (c.requires.first MetWrong) c.in_ok-holds.ensures.grows.vars

pub mux-requires-2-clause-z_below : goal.mux-requires-2-clause-z_below
mux-requires-2-clause-z_below c = lt_of_lt_of_le (c.requires.second MetWrong) c.in_ok-holds.ensures.grows.vars

pub mux-requires-3-clause-y_below : goal.mux-requires-3-clause-y_below
mux-requires-3-clause-y_below c =
    lt_of_lt_of_le (lt_of_lt_of_le (c.requires.first MetBig) c.in_ok-holds.ensures.grows.vars)
    c.in_ok-wrong.ensures.grows.vars

pub mux-requires-3-clause-z_below : goal.mux-requires-3-clause-z_below
mux-requires-3-clause-z_below c =
    lt_of_lt_of_le (lt_of_lt_of_le (c.requires.second MetBig) c.in_ok-holds.ensures.grows.vars)
    c.in_ok-wrong.ensures.grows.vars

pub returns-clause-ends : goal.returns-clause-ends
returns-clause-ends c =
    ends_either _ _ _ c.args.bit c.args.x c.args.y (record
    { holds = c.in_ok-holds.holds; wrong = c.in_ok-wrong.wrong; big = c.in_ok-big.big })
    c.in_ok-wrong.ensures.grows c.in_ok-big.ensures.grows c.in_ok-holds.ensures.value c.in_ok-wrong.ensures.value
    c.in_ok-big.ensures.value
