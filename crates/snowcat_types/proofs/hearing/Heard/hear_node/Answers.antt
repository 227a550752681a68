use Rattle.snowcat_rows.specs.Views.{known_by}
use Rattle.snowcat_types.proofs.HearingSteps.{node_heard, node_passed}
use Rattle.snowcat_types.proofs.hearing.Heard.hear_node.Goals as goal

pub returns-in_ok-hear-in-Noted : goal.returns-in_ok-hear-in-Noted
returns-in_ok-hear-in-Noted c =
    node_heard (known_by c.args.aliases.now) c.args.self.now c.hear.new.self c.args.op.now c.in-Noted.text c.args.place c.in-Noted.is
    c.in_ok-hear-in-Noted.ensures

pub returns-in_default : goal.returns-in_default
returns-in_default c = node_passed (known_by c.args.aliases.now) c.args.self.now c.args.op.now c.args.place c.in_default.not-Noted
