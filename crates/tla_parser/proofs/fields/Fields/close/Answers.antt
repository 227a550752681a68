use Rattle.std.proofs.Common.{arith, rules}
use Rattle.tla_parser.proofs.FieldLaw.{close_so}
use Rattle.tla_parser.proofs.fields.Fields.close.Goals as goal

pub returns : goal.returns
returns c =
    close_so c.args.construct c.args.count c.saturating_sub-kept.result c.args.self.now.open.items c.in_ok-parts.parts.items c.split_off.new.self.items c.push.new.self.items c.args.self.now.once c.shut-once.result.0 c.shut-once.result.1
    (omega (arith, c.saturating_sub-kept.ensures, c.len.ensures)) (search (rules, c.in_ok-parts.ensures.tail)) (search (rules, c.in_ok-parts.ensures.items)) c.shut-once.ensures.once c.shut-once.ensures.name (search (rules, c.in_ok-push.ensures.items))
