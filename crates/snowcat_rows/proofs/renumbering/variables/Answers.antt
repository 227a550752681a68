use Rattle.std.proofs.Common.{◌≡◌, [], rules}
use Rattle.snowcat_rows.specs.Numbered.{occurring}
use Rattle.snowcat_rows.specs.inner.Meeting.{all_met}
use Rattle.snowcat_rows.proofs.MeetingSteps.{all_met_once}
use Rattle.snowcat_rows.proofs.renumbering.variables.Goals as goal

pub returns : goal.returns
returns c =
    let first : c.meet.new.known.items ≡ all_met [] (occurring c.args.a.now) = search rules in
    all_met_once (occurring c.args.a.now) (occurring c.args.b.now) _ _ first c.in_ok-meet-2.ensures
