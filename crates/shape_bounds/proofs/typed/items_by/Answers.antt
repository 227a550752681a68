use Rattle.std.proofs.Common.{ap, map, sym}
use Rattle.kernel_shapes.specs.Codes.{mean}
use Rattle.kernel_shapes.specs.Rows.{a_sequence}
use Rattle.shape_bounds.specs.inner.Forms.{items_by}
use Rattle.shape_bounds.proofs.TypeForms.{items_at}
use Rattle.shape_bounds.proofs.typed.items_by.Goals as goal

pub returns-in-Sequence : goal.returns-in-Sequence
returns-in-Sequence c =
    items_at c.args.form a_sequence _ _ c.sequence_of.result (ap items_by c.in-Sequence.is) (ap (map mean) (sym c.as_slice.ensures.value)) c.sequence_of.ensures
