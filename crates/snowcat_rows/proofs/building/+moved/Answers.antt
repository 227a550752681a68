use Rattle.std.proofs.Common.{◌≡◌, map, take, ap, ◌∙◌, arith}
use Rattle.std.proofs.lemmas.Grind.{common_steps}
use Rattle.snowcat_rows.specs.Types.{mean}
use Rattle.snowcat_rows.specs.Readings.{moved}
use Rattle.snowcat_rows.specs.inner.Readers.{moved_fields}
use Rattle.snowcat_rows.proofs.Moves.{all_moved, rec_moved}
use Rattle.snowcat_rows.proofs.building.+moved.Goals as goal

pub copy_moved-returns-in_ok-tail-in-Rec-clause-mean : goal.copy_moved-returns-in_ok-tail-in-Rec-clause-mean
copy_moved-returns-in_ok-tail-in-Rec-clause-mean t c =
    rec_moved c.args.by c.in-Rec.fs c.in_ok-fields-in-Rec.fields c.in-Rec.tail c.in_ok-tail-in-Rec.tail c.args.t.now c.in-Rec.is
    (c.in_ok-fields-in-Rec.ensures.mean ∙ ap (moved_fields c.args.by) c.as_slice-in-Rec.ensures) c.in_ok-tail-in-Rec.ensures

pub copy_all_moved-returns-clause-mean : goal.copy_all_moved-returns-clause-mean
copy_all_moved-returns-clause-mean t c =
    let e : take c.loop-t.t-index c.args.ts.now ≡ c.args.ts.now = grind (arith, common_steps) in
    all_moved c.args.by c.from_vec.result c.args.ts.now
    (ap (map mean) c.from_vec.ensures ∙ c.loop-t.invariant.0 ∙ ap (map (λ u. moved c.args.by (mean u))) e)
