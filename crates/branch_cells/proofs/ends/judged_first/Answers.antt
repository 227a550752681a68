use Rattle.std.proofs.Common.{lt_of_lt_of_le}
use Rattle.level_laws.specs.Branches.{Held, MetBig}
use Rattle.branch_cells.proofs.ends.judged_first.Goals as goal

pub mux-requires-clause-c_below : goal.mux-requires-clause-c_below
mux-requires-clause-c_below c = c.requires.ends Held

pub mux-requires-clause-z_below : goal.mux-requires-clause-z_below
mux-requires-clause-z_below c = rw c.negated-small.ensures (c.requires.ends MetBig)

pub mux-requires-2-clause-c_below : goal.mux-requires-2-clause-c_below
mux-requires-2-clause-c_below c = lt_of_lt_of_le (c.requires.ends Held) c.in_ok-bad.ensures.grows.vars

pub mux-requires-2-clause-z_below : goal.mux-requires-2-clause-z_below
mux-requires-2-clause-z_below c = lt_of_lt_of_le (c.requires.ends MetBig) c.in_ok-bad.ensures.grows.vars
