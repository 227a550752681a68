use Rattle.std.proofs.Common.{List, subst, sym}
use Rattle.snowcat_rows.specs.declared.types.Ty.{Ty}
use Rattle.snowcat_rows.specs.Closing.{closing}
use Rattle.snowcat_rows.specs.Substitutions.{apply, then_sub}
use Rattle.snowcat_rows.specs.Types.{mean}
use Rattle.snowcat_rows.specs.Views.{settled_by}
use Rattle.snowcat_types.specs.inner.Gathered.{TypesNamed}
use Rattle.snowcat_types.proofs.Listed.{mapped_on}
use Rattle.snowcat_types.proofs.Naming.{type_named, types_snoc}
use Rattle.snowcat_types.proofs.jobs.closed_types.Goals as goal

pub closed_type-requires : goal.closed_type-requires
closed_type-requires c = type_named c.args.types.now c.loop-t.t-index c.t-item.result c.requires c.loop-t-test.true c.t-item.is

pub loop-t-preserved : goal.loop-t-preserved
loop-t-preserved c = record {
  mean =
      mapped_on mean (apply (then_sub closing (settled_by c.args.settled.now))) c.args.types.now c.loop-t.t-index c.t-item.result
      c.loop-t.whole.items c.push.new.self.items c.in_ok-closed_type.field-0 c.loop-t-test.true c.t-item.is c.in_ok-push.ensures.items
      c.loop-t.invariant.mean c.in_ok-closed_type.ensures.mean;
  named =
      let P : List Ty → Type 0 = λ z. TypesNamed z in
      subst P (sym c.in_ok-push.ensures.items)
      (types_snoc c.loop-t.whole.items c.in_ok-closed_type.field-0 c.loop-t.invariant.named c.in_ok-closed_type.ensures.named);
}
