use Rattle.std.proofs.Common.{◌≡◌, map, take, ap, ◌∙◌, arith}
use Rattle.std.proofs.lemmas.Grind.{common_steps}
use Rattle.snowcat_rows.specs.Types.{mean}
use Rattle.snowcat_rows.specs.Substitutions.{apply}
use Rattle.snowcat_rows.specs.Closing.{closing}
use Rattle.snowcat_rows.specs.Codes.{changed}
use Rattle.snowcat_rows.proofs.Means.{rec_closed, row_replaced}
use Rattle.snowcat_rows.proofs.closing.+closed.Goals as goal

pub closed-returns-in_ok-fields-in-Rec-clause-mean : goal.closed-returns-in_ok-fields-in-Rec-clause-mean
closed-returns-in_ok-fields-in-Rec-clause-mean t c =
    rec_closed c.in-Rec.fs c.in_ok-fields-in-Rec.fields c.in-Rec.field-1 c.args.t.now c.in-Rec.is
    (c.in_ok-fields-in-Rec.ensures.mean ∙ ap (changed closing) c.as_slice-in-Rec.ensures)

pub all_closed-returns-clause-mean : goal.all_closed-returns-clause-mean
all_closed-returns-clause-mean t c =
    let e : take c.loop-t.t-index c.args.ts.now ≡ c.args.ts.now = grind (arith, common_steps) in
    row_replaced closing c.from_vec.result c.args.ts.now
    (ap (map mean) c.from_vec.ensures ∙ c.loop-t.invariant.0 ∙ ap (map (λ u. apply closing (mean u))) e)
