use Rattle.std.proofs.Common.{◌≡◌, ◌+◌, ◌<◌, inl, inr, arith}
use Rattle.std.proofs.lemmas.Bool.{cases_lt}
use Rattle.refutation_checker.specs.Follows.{known}
use Rattle.plain_solver.proofs.OccurrenceLemmas.{looked_more, looked_conflict}
use Rattle.plain_solver.proofs.propagation.look_at_all.Goals as goal

pub returns-in-Some : goal.returns-in-Some
returns-in-Some c =
    looked_conflict (known c.args.clauses.now c.args.steps.now) c.args.trail.now c.loop-k.trail c.look_at-found.new.trail (λ j. j < c.loop-k.k) (λ j. j ≡ c.loop-k.k) (λ j. Unit {0}) c.loop-k.invariant c.in-Some.conflict (rw c.in-Some.is at c.look_at-found.ensures)

pub loop-k-preserved : goal.loop-k-preserved
loop-k-preserved c =
    looked_more (known c.args.clauses.now c.args.steps.now) c.args.trail.now c.loop-k.trail c.look_at-found.new.trail (λ j. j < c.loop-k.k) (λ j. j ≡ c.loop-k.k) (λ j. j < c.loop-k.k + 1) c.loop-k.invariant
    (λ j lt. elim (cases_lt j c.loop-k.k) [ inl less ↦ inl less | inr ge ↦ inr (omega arith) ])
    (rw c.in_default.is at c.look_at-found.ensures)
