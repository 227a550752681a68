-- Ranks of the numbers past their limits that the code keeps.
use Rattle.kernel_shapes.specs.Counts.{Rank, rank}
use Rattle.shape_bounds.specs.declared.limits.Excess.{Excess}

abbrev pub rank_of : Excess → Rank
rank_of e = rank (record { place = e.place; of_sequence = e.of_sequence; number = e.number })
