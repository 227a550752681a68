use Rattle.std.proofs.Common.{◌∙◌, sym}
use Rattle.cell_merge.specs.Sorts.{set_of}
use Rattle.cell_merge.proofs.SortLaws.{OfSort-later}
use Rattle.cell_tests.specs.Kinds.{sort_of}
use Rattle.cell_tests.proofs.sets.mapped.Goals as goal

pub map-requires-clause-set : goal.map-requires-clause-set
map-requires-clause-set c = record { sort = sort_of c.args.kind; is = OfSort-later _ _ (set_of (sort_of c.args.kind)) _ c.requires.sort c.in_ok-images.ensures.grows }

pub map-requires-clause-images : goal.map-requires-clause-images
map-requires-clause-images c = record {
  count = c.as_slice.ensures.len ∙ sym c.len.ensures ∙ c.if-len-edge_count.false ∙ c.edge_count.ensures;
  sort = sort_of c.args.kind;
  cells = rw c.as_slice.ensures.value c.in_ok-images.ensures.sorts;
}
