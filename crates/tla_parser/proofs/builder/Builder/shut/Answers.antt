use Rattle.std.proofs.Common.{arith, rules, ◌-◌}
use Rattle.tla_parser.proofs.Built.{shut_made}
use Rattle.tla_parser.proofs.builder.Builder.shut.Goals as goal

pub returns : goal.returns
returns c =
    shut_made c.args.construct c.args.count (c.len-2.result - c.args.count) c.args.self.now.items.items c.push.new.self.items c.split_off.new.self.items c.in_ok-parts.parts.items c.in_ok-e.e
    (omega (arith, c.len.ensures)) (omega (arith, c.len-2.ensures)) (search (rules, c.in_ok-parts.ensures.tail)) (search (rules, c.in_ok-parts.ensures.items)) (search (rules, c.in_ok-e.ensures)) (search (rules, c.in_ok-push.ensures.items))
