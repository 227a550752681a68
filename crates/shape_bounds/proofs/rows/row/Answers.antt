use Rattle.std.proofs.Common.{◌∙◌, ap, sym, inl, inr}
use Rattle.kernel_shapes.specs.Rows.{a_record, the_records}
use Rattle.shape_bounds.specs.inner.Plain.{row_of}
use Rattle.shape_bounds.proofs.Rowed.{row_at}
use Rattle.shape_bounds.proofs.rows.row.Goals as goal

pub returns-in-SetOf : goal.returns-in-SetOf
returns-in-SetOf c = row_at _ c.args.op.now _ _ _ _ (ap row_of c.in-SetOf.is) c.set_of.ensures

pub returns-in-TupForm : goal.returns-in-TupForm
returns-in-TupForm c = row_at _ c.args.op.now _ _ _ _ (ap row_of c.in-TupForm.is) c.tuples.ensures

pub returns-in-FieldOf : goal.returns-in-FieldOf
returns-in-FieldOf c = row_at _ c.args.op.now _ _ _ _ (ap row_of c.in-FieldOf.is) c.applied_first.ensures

pub returns-in-First : goal.returns-in-First
returns-in-First c = row_at _ c.args.op.now _ _ _ _ (ap row_of c.in-First.is) c.first.ensures

pub returns-in-Join : goal.returns-in-Join
returns-in-Join c = row_at _ c.args.op.now _ _ _ _ (ap row_of c.in-Join.is) c.merged.ensures

pub returns-in-If : goal.returns-in-If
returns-in-If c = elim c.in-If.is [
  | inl e ↦ row_at _ c.args.op.now _ _ _ _ (ap row_of e) c.branches.ensures
  | inr e ↦ row_at _ c.args.op.now _ _ _ _ (ap row_of e) c.branches.ensures
]

pub returns-in-Rest : goal.returns-in-Rest
returns-in-Rest c = elim c.in-Rest.is [
  | inl e ↦ row_at _ c.args.op.now _ _ _ _ (ap row_of e) c.shorter.ensures
  | inr e ↦ row_at _ c.args.op.now _ _ _ _ (ap row_of e) c.shorter.ensures
]

pub returns-in-At : goal.returns-in-At
returns-in-At c = elim c.in-At.is [
  | inl e ↦ row_at _ c.args.op.now _ _ _ _ (ap row_of e) c.applied_first-in-At.ensures
  | inr e ↦ row_at _ c.args.op.now _ _ _ _ (ap row_of e.1) c.applied_first-in-At.ensures
]

pub returns-in-RecForm : goal.returns-in-RecForm
returns-in-RecForm c = row_at _ c.args.op.now _ _ _ _ (ap row_of c.in-RecForm.is ∙ ap the_records (sym c.as_slice.ensures)) c.records.ensures

pub returns-in-RecOf : goal.returns-in-RecOf
returns-in-RecOf c = row_at _ c.args.op.now _ _ _ _ (ap row_of c.in-RecOf.is ∙ ap a_record (sym c.as_slice-in-RecOf.ensures)) c.record.ensures
