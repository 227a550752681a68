use Rattle.std.proofs.Common.{arith, ◌≡◌, ◌+◌, ◌-◌, ◌<◌, length, sym, ap, ◌∙◌}
use Rattle.tla_evaluator.proofs.Words.{Val, find_last, value_found}
use Rattle.tla_evaluator.specs.inner.Bound.{binding}
use Rattle.tla_evaluator.specs.inner.Readings.{Reading}
use Rattle.tla_evaluator.proofs.NameLemmas.{find_last-hit, find_last-miss}
use Rattle.tla_evaluator.proofs.context.Context.read_bound.Goals as goal

pub returns-then-same_name : goal.returns-then-same_name
returns-then-same_name c =
    let up : c.loop-i.i ≡ (c.loop-i.i - 1) + 1 = omega arith in
    let lt : c.loop-i.i - 1 < length c.self.inside.bound.items = omega arith in
    let hit = find_last-hit c.args.name.now binding c.self.inside.bound.items (c.loop-i.i - 1) c.loop-i.i c.index-entry.result.now up lt c.index-entry.ensures (sym c.if-same_name.ensures) in
    ap (λ (r : Reading). value_found c.args.place (find_last c.args.name.now r.bound)) (sym c.self.view_is)
    ∙ ap (value_found c.args.place) (sym c.loop-i.invariant.1 ∙ hit) ∙ ap (λ v. Val v) (sym c.in_ok-bound_value.ensures)

pub loop-i-preserved : goal.loop-i-preserved
loop-i-preserved c =
    let up : c.loop-i.i ≡ (c.loop-i.i - 1) + 1 = omega arith in
    let lt : c.loop-i.i - 1 < length c.self.inside.bound.items = omega arith in (
      omega arith,
      sym (find_last-miss c.args.name.now binding c.self.inside.bound.items (c.loop-i.i - 1) c.loop-i.i c.index-entry.result.now up lt c.index-entry.ensures (sym c.if-same_name.ensures)) ∙ c.loop-i.invariant.1,
    )
