use Rattle.std.proofs.Common.{ap, ◌∙◌, ◌≡◌, ◌+◌, ◌<◌, ◌≤◌, length, pos, subst, IfSome}
use Rattle.tla_evaluator.proofs.Words.{sequence}
use Rattle.tla_evaluator.proofs.ListLemmas.{part_value}
use Rattle.tla_evaluator.proofs.operators.Row.part.Goals as goal

pub returns : goal.returns
returns c =
    let within = subst (λ o. IfSome o (λ r. (c.args.m.now ≡ pos (1 + r.0)) × (c.args.n.now ≡ pos r.1) × (r.0 < r.1) × (r.1 ≤ length c.args.pairs.now))) c.in_ok-start.ensures.ok_part c.bounds.ensures.some in
    part_value c.args.self.now.place c.args.pairs.now _ _ _ _ _ within.0 within.1 within.2 within.3 (c.in_ok-sequence-2.ensures ∙ ap sequence c.in_ok-items.ensures)
