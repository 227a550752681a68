use Rattle.std.proofs.Common.{take}
use Rattle.sat_formula.specs.Formula.{Grows}
use Rattle.member_choices.specs.inner.Listings.{AddsEdges}
use Rattle.member_choices.proofs.listing.add_edges.Given as goal

abbrev pub invariant-loop-edge : goal.invariant-loop-edge
invariant-loop-edge l = record {
  grows : Grows l.fn.formula l.formula;
  adds : AddsEdges l.formula l.edges (take l.edge-index l.edges) l.choices l.out.items;
}
