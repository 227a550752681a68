use Rattle.sat_formula.specs.Formula.{Grows}
use Rattle.tla_values.specs.Sets.{member, elements}
use Rattle.cell_arena.specs.Decode.{decode}
use Rattle.cell_merge.specs.Edges.{TestsEach}
use Rattle.cell_merge.proofs.equality.members_in.Given as goal

abbrev pub invariant-loop-l : goal.invariant-loop-l
invariant-loop-l l = record {
  grows : Grows l.fn.formula l.formula;
  tests : TestsEach l.arena l.formula l.l-items l.l-index (λ a v. member v (elements (decode l.arena a l.y))) l.tests.items;
}
