-- Rows that go by the type of a node.
use Rattle.std.specs.Prelude.{◌≡◌}
use Rattle.kernel_trees.specs.TypeKinds.{Kind}
use Rattle.kernel_shapes.specs.Rows.{Row, the_arguments, the_places, the_names, a_sequence, a_tuple}
use Rattle.kernel_shapes.specs.Trees.{domain_row, tuple_row}
use Rattle.shape_bounds.specs.declared.kinds.TypeForm.{TypeForm}
use Rattle.shape_bounds.specs.declared.kinds.TypeForm.TheVariants as form

abbrev pub domain_by : TypeForm → Row
domain_by form.Function = the_arguments
domain_by form.Record = the_names
domain_by f = the_places

abbrev pub items_by : TypeForm → Row
items_by form.Sequence = a_sequence
items_by f = a_tuple

pub record IsForm (f : TypeForm) (k : Kind) : Type 0 where
  pub domain : domain_by f ≡ domain_row k
  pub items : items_by f ≡ tuple_row k
