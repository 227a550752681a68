use Rattle.std.proofs.Common.{◌≡◌, ◌∙◌, ap, rules}
use Rattle.std.specs.List.{flat_map}
use Rattle.snowcat_rows.specs.Numbered.{occurring, row_variable}
use Rattle.snowcat_rows.specs.inner.Meeting.{all_met}
use Rattle.snowcat_rows.proofs.MeetingSteps.{item_met, two_met}
use Rattle.snowcat_rows.proofs.NumberedForms.{occurring-Fun, occurring-Oper, occurring-Rec}
use Rattle.snowcat_rows.proofs.renumbering.+meet.Goals as goal

pub meet_all-loop-t-preserved : goal.meet_all-loop-t-preserved
meet_all-loop-t-preserved t c =
    item_met occurring _ _ _ c.args.ts.now c.loop-t.t-index c.t-item.result _ c.loop-t-test.true c.t-item.is c.loop-t.invariant c.in_ok-meet.ensures

pub meet_fields-loop-f-preserved : goal.meet_fields-loop-f-preserved
meet_fields-loop-f-preserved t c =
    item_met (λ f. occurring f.1) _ _ _ c.args.fs.now c.loop-f.f-index c.f-item.result _ c.loop-f-test.true c.f-item.is c.loop-f.invariant c.in_ok-meet.ensures

pub meet-returns-in_ok-meet-in-Fun-2 : goal.meet-returns-in_ok-meet-in-Fun-2
meet-returns-in_ok-meet-in-Fun-2 t c =
    let a = c.in-Fun.a in
    let b = c.in-Fun.b in
    let first : c.meet-in-Fun.new.known.items ≡ all_met c.args.known.now.items (occurring a) = search rules in
    let last : c.meet-in-Fun-2.new.known.items ≡ all_met c.meet-in-Fun.new.known.items (occurring b) = search rules in
    two_met _ _ _ (occurring a) (occurring b) _ first last (ap occurring c.in-Fun.is ∙ occurring-Fun a b)

pub meet-returns-in_ok-meet_end-in-Rec : goal.meet-returns-in_ok-meet_end-in-Rec
meet-returns-in_ok-meet_end-in-Rec t c =
    let fs = c.in-Rec.fs in
    let k = c.in-Rec.tail in
    let first : c.meet_fields.new.known.items ≡ all_met c.args.known.now.items (flat_map (λ f. occurring f.1) fs) = search rules in
    let last : c.meet_end.new.known.items ≡ all_met c.meet_fields.new.known.items (row_variable k) = search rules in
    two_met _ _ _ (flat_map (λ f. occurring f.1) fs) (row_variable k) _ first last (ap occurring c.in-Rec.is ∙ occurring-Rec fs k)

pub meet-returns-in_ok-meet-in-Oper : goal.meet-returns-in_ok-meet-in-Oper
meet-returns-in_ok-meet-in-Oper t c =
    let ts = c.in-Oper.ts in
    let b = c.in-Oper.b in
    let first : c.meet_all-in-Oper.new.known.items ≡ all_met c.args.known.now.items (flat_map occurring ts) = search rules in
    let last : c.meet-in-Oper.new.known.items ≡ all_met c.meet_all-in-Oper.new.known.items (occurring b) = search rules in
    two_met _ _ _ (flat_map occurring ts) (occurring b) _ first last (ap occurring c.in-Oper.is ∙ occurring-Oper ts b)
