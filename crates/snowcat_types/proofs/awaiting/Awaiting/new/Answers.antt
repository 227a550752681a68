use Rattle.std.proofs.Common.{rules}
use Rattle.snowcat_types.proofs.Nexts.{first_all, first_awaits}
use Rattle.snowcat_types.proofs.awaiting.Awaiting.new.Goals as goal

pub returns : goal.returns
returns c = record {
  all = first_all (λ w. w.now) c.args.waits.now c.in_ok-marks.marks.items (search rules);
  awaiting =
      first_awaits (λ w. w.now) c.args.waits.now c.in_ok-marks.marks.items (search rules) c.in_ok-watching.watching c.in_ok-turns.turns
      c.in_ok-watching.ensures c.in_ok-turns.ensures.ordered c.in_ok-turns.ensures.none;
  none = c.new-3.ensures.items;
}
