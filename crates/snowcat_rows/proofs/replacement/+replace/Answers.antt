use Rattle.std.proofs.Common.{◌≡◌, map, take, ap, ◌∙◌, arith}
use Rattle.std.proofs.lemmas.Grind.{common_steps}
use Rattle.snowcat_rows.specs.Types.{mean}
use Rattle.snowcat_rows.specs.Substitutions.{apply}
use Rattle.snowcat_rows.specs.inner.Lookups.{looked}
use Rattle.snowcat_rows.specs.Codes.{bindings_of, named, changed}
use Rattle.snowcat_rows.proofs.Means.{mean-Rec, rec_after, row_replaced}
use Rattle.snowcat_rows.proofs.replacement.+replace.Goals as goal

pub replace-returns-in_ok-whole-in-Rec-clause-mean : goal.replace-returns-in_ok-whole-in-Rec-clause-mean
replace-returns-in_ok-whole-in-Rec-clause-mean t c =
    mean-Rec c.in_ok-whole-in-Rec.whole.0 c.in_ok-whole-in-Rec.whole.1 ∙ c.in_ok-whole-in-Rec.ensures.mean
    ∙ rec_after (looked (bindings_of c.args.bindings.now)) c.in-Rec.fs c.in-Rec.tail (named c.in_ok-fields-in-Rec.fields.items) c.args.t.now c.in-Rec.is
    (c.in_ok-fields-in-Rec.ensures.mean ∙ ap (changed (looked (bindings_of c.args.bindings.now))) c.as_slice-in-Rec.ensures)

pub replace_all-returns-clause-mean : goal.replace_all-returns-clause-mean
replace_all-returns-clause-mean t c =
    let e : take c.loop-t.t-index c.args.ts.now ≡ c.args.ts.now = grind (arith, common_steps) in
    row_replaced (looked (bindings_of c.args.bindings.now)) c.from_vec.result c.args.ts.now
    (ap (map mean) c.from_vec.ensures ∙ c.loop-t.invariant.0 ∙ ap (map (λ u. apply (looked (bindings_of c.args.bindings.now)) (mean u))) e)
