use Rattle.std.proofs.Common.{◌+◌, ap, ◌∙◌, arith, rules}
use Rattle.snowcat_rows.specs.Types.{mean}
use Rattle.snowcat_rows.specs.FieldNames.{names_differ}
use Rattle.snowcat_rows.proofs.Distinct.{thin_skip, thin_take}
use Rattle.snowcat_rows.proofs.Fields.{missing_skip, missing_take, some_is, none_is}
use Rattle.snowcat_rows.proofs.records.missing.Goals as goal
use Rattle.snowcat_rows.proofs.records.missing.Goals.{then-is_none+in_ok-name+in_ok-item+in_ok-push, else-is_none}

pub loop-f-preserved : goal.loop-f-preserved
loop-f-preserved c =
    elim c.if-is_none.branch [
      | then-is_none+in_ok-name+in_ok-item+in_ok-push w ↦ (
        missing_take c.args.fs.now c.args.gs.now c.loop-f.items.items c.if-is_none.items.items c.loop-f.f-index (c.loop-f.f-index + 1) c.f-item.result (w.in_ok-name.name, w.in_ok-item.item) (search rules) c.f-item.is (omega arith)
            (none_is c.args.gs.now c.f-item.result.0 c.find.result c.find.ensures w.if-is_none.ensures) (ap (λ v. v.items) w.items-is ∙ w.in_ok-push.ensures.items) w.in_ok-name.ensures (ap mean w.in_ok-item.ensures) c.loop-f.invariant.0,
        thin_take c.args.fs.now c.loop-f.f-index c.f-item.result (search rules) c.f-item.is c.loop-f.items.items c.loop-f.invariant.1 c.if-is_none.items.items (w.in_ok-name.name, w.in_ok-item.item)
            (ap (λ v. v.items) w.items-is ∙ w.in_ok-push.ensures.items) w.in_ok-name.ensures (ap names_differ w.in_ok-item.ensures),
      )
      | else-is_none w ↦ (
        missing_skip c.args.fs.now c.args.gs.now c.loop-f.items.items c.if-is_none.items.items c.loop-f.f-index (c.loop-f.f-index + 1) c.f-item.result (search rules) c.f-item.is (omega arith)
            (some_is c.args.gs.now c.f-item.result.0 c.find.result c.find.ensures w.if-is_none.ensures) (ap (λ v. v.items) w.items-is) c.loop-f.invariant.0,
        thin_skip c.args.fs.now c.loop-f.f-index c.f-item.result (search rules) c.f-item.is c.loop-f.items.items c.loop-f.invariant.1 c.if-is_none.items.items (ap (λ v. v.items) w.items-is),
      )
    ]
