use Rattle.std.proofs.Common.{◌∙◌, ◌+◌, ◌<◌, ◌≤◌, ℕ, ap, arith, get_or}
use Rattle.std.proofs.lemmas.List.{length_push}
use Rattle.std.proofs.lemmas.List.Elements.{Contains-get_or}
use Rattle.watched_search.specs.Trail.{lits_of}
use Rattle.cdcl_solver.proofs.SatisfyLemmas.{value_pushed}
use Rattle.plain_solver.proofs.model.assignment_of.Goals as goal

pub loop-var-preserved : goal.loop-var-preserved
loop-var-preserved c = record {
  size = rw c.in_ok-push.ensures.items (length_push _ _ ∙ ap (λ (n : ℕ). n + 1) c.loop-var.invariant.size);
  agrees = rw (c.in_ok-push.ensures.items, c.unwrap_or.ensures)
      (value_pushed (lits_of c.args.trail.now.entries) c.loop-var.values.items c.loop-var.var c.value-value.result c.loop-var.invariant.size c.value-value.ensures c.loop-var.invariant.agrees);
}

pub returns-clause-agrees : goal.returns-clause-agrees
returns-clause-agrees c = λ k d lt.
    let T = lits_of c.args.trail.now.entries in
    let below : (get_or T k d).var < c.args.trail.now.room = c.entries.ensures.sound.below k d lt in
    let all : c.args.trail.now.room ≤ c.loop-var.var = (let past = c.loop-var-test.false in let vars = c.room-var-end.ensures in omega arith) in
    rw c.from_vec.ensures (c.loop-var.invariant.agrees (get_or T k d) (omega arith) (Contains-get_or T k d lt))
