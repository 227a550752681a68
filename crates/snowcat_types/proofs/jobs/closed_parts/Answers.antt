use Rattle.std.proofs.Common.{◌∙◌, List, ap, map, subst, sym}
use Rattle.snowcat_rows.specs.declared.types.Ty.{Ty}
use Rattle.snowcat_rows.specs.Closing.{closing}
use Rattle.snowcat_rows.specs.Substitutions.{apply, then_sub}
use Rattle.snowcat_rows.specs.Views.{settled_by}
use Rattle.snowcat_types.specs.inner.Built.{means}
use Rattle.snowcat_types.specs.inner.Gathered.{PartsNamed, TypesNamed}
use Rattle.snowcat_types.proofs.Listed.{mapped_on}
use Rattle.snowcat_types.proofs.Naming.{part_named, parts_snoc}
use Rattle.snowcat_types.proofs.jobs.closed_parts.Goals as goal

pub closed_types-requires : goal.closed_types-requires
closed_types-requires c =
    let P : List Ty → Type 0 = λ z. TypesNamed z in
    subst P (sym c.as_slice.ensures)
    (part_named c.args.parts.now c.loop-part.part-index c.part-item.result c.requires c.loop-part-test.true c.part-item.is)

pub loop-part-preserved : goal.loop-part-preserved
loop-part-preserved c = record {
  mean =
      mapped_on means (map (apply (then_sub closing (settled_by c.args.settled.now)))) c.args.parts.now c.loop-part.part-index c.part-item.result
      c.loop-part.whole.items c.push.new.self.items c.in_ok-closed_types.field-0 c.loop-part-test.true c.part-item.is c.in_ok-push.ensures.items
      c.loop-part.invariant.mean
      (c.in_ok-closed_types.ensures.mean ∙ ap (λ z. map (apply (then_sub closing (settled_by c.args.settled.now))) (means z)) c.as_slice.ensures);
  named =
      let P : List (List Ty) → Type 0 = λ z. PartsNamed z in
      subst P (sym c.in_ok-push.ensures.items)
      (parts_snoc c.loop-part.whole.items c.in_ok-closed_types.field-0 c.loop-part.invariant.named c.in_ok-closed_types.ensures.named);
}
