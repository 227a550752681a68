use Rattle.std.proofs.Common.{refl}
use Rattle.snowcat_rows.specs.Views.{known_by}
use Rattle.snowcat_types.proofs.HearingSteps.{hear_more, hear_none, settled}
use Rattle.snowcat_types.proofs.hearing.Heard.hear.Goals as goal

pub returns-then-is_settled : goal.returns-then-is_settled
returns-then-is_settled c =
    settled (known_by c.args.aliases.now) c.args.self.now c.args.text.now c.args.place (c.is_settled.ensures c.if-is_settled.true)

pub returns-in_ok-learn-in-Some : goal.returns-in_ok-learn-in-Some
returns-in_ok-learn-in-Some c =
    hear_more (known_by c.args.aliases.now) c.args.self.now c.learn.new.self c.args.text.now c.in_ok-name.name c.bytes.result.now c.args.place
    c.in_ok-binds.field-0
    c.in-Some.binds c.in_ok-binds.ensures c.bytes.ensures c.in-Some.is c.in_ok-name.ensures c.in_ok-learn-in-Some.ensures

pub returns-in-None : goal.returns-in-None
returns-in-None c =
    hear_none (known_by c.args.aliases.now) c.args.self.now _ c.args.text.now c.bytes.result.now c.args.place c.earlier.result c.in_ok-binds.field-0
    c.in_ok-binds.ensures c.bytes.ensures c.in-None.is c.earlier.ensures refl refl
