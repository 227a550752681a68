use Rattle.std.proofs.Common.{ap}
use Rattle.tla_meaning.specs.declared.op.Op.TheVariants as op
use Rattle.snowcat_rows.specs.declared.types.Ty.{out-Ty}
use Rattle.kernel_reduction.specs.BuildsTyped.{is_record, is_tuple}
use Rattle.kera_reducer.specs.inner.Standing.{MakesOf}
use Rattle.kera_reducer.proofs.IfOks.{ok_by}
use Rattle.kera_reducer.proofs.RowsMade.{field_makes, item_makes}
use Rattle.kera_reducer.proofs.naming.application.Goals as goal

pub returns-in-Tup : goal.returns-in-Tup
unfolding out-Ty denote.Hole.Carrier.out
returns-in-Tup c =
    let m = c.args.made.now in
    ok_by _ (λ k. MakesOf m op.Apply c.args.kids.items k) _ c.item.ensures
    (λ k i. item_makes m c.in_ok-applied.applied c.in_ok-applied.index c.args.kids.items k c.in_ok-applied.ensures
    (ap (λ t. is_tuple (out-Ty t)) c.in-Tup.is) i)

pub returns-in-Rec : goal.returns-in-Rec
unfolding out-Ty denote.Hole.Carrier.out
returns-in-Rec c =
    let m = c.args.made.now in
    ok_by _ (λ k. MakesOf m op.Apply c.args.kids.items k) _ c.field.ensures
    (λ k i. field_makes m c.in_ok-applied.applied c.in_ok-applied.index c.args.kids.items k c.in_ok-applied.ensures
    (ap (λ t. is_record (out-Ty t)) c.in-Rec.is) i)
