use Rattle.std.proofs.Common.{take}
use Rattle.sat_formula.specs.Formula.{Grows, HasValue}
use Rattle.tla_values.specs.Order.{same_value}
use Rattle.cell_arena.specs.Decode.{decode}
use Rattle.cell_merge.specs.Edges.{any_edge}
use Rattle.cell_merge.proofs.equality.member_in.Given as goal

abbrev pub invariant-loop-l : goal.invariant-loop-l
invariant-loop-l l = record {
  grows : Grows l.fn.formula l.formula;
  value : HasValue l.formula l.any (λ a. any_edge a (decode l.arena a) (same_value (decode l.arena a l.x)) (take l.l-index l.l-items));
}
