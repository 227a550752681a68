use Rattle.std.proofs.Common.{ℕ, [], map, take, get_or}
use Rattle.tla_values.specs.declared.value.Value.TheVariants as value
use Rattle.cell_arena.specs.Growth.{Grows}
use Rattle.cell_merge.specs.Sorts.{name}
use Rattle.function_rewriter.specs.inner.Constants.{ConstantEdges}
use Rattle.function_rewriter.proofs.constants.text_edges.Given as goal

abbrev pub invariant-loop-index : goal.invariant-loop-index
invariant-loop-index l = record {
  grows : Grows l.fn.b l.b;
  edges : ConstantEdges l.b name (map (λ (i : ℕ). value.Text (get_or l.fn.b.arena.texts i [])) (take l.index-index l.indexes)) l.edges.items;
}
