use Rattle.std.proofs.Common.{◌≡◌, ◌+◌, inl, inr, take, get_or, sym}
use Rattle.std.specs.Prelude.{Contains}
use Rattle.std.proofs.lemmas.List.{take_more}
use Rattle.std.proofs.lemmas.List.Elements.{Contains-push_cases}
use Rattle.refutation_checker.specs.Follows.{known}
use Rattle.plain_solver.proofs.OccurrenceLemmas.{looked_more, looked_conflict}
use Rattle.plain_solver.proofs.propagation.look_over.Goals as goal

pub returns-in-Some : goal.returns-in-Some
returns-in-Some c =
    looked_conflict (known c.args.clauses.now c.args.steps.now) c.args.trail.now c.loop-k.trail c.look_at-found.new.trail (Contains (take c.loop-k.k-index c.args.places.now)) (λ j. j ≡ get_or c.args.places.now c.loop-k.k-index 0) (Contains c.args.places.now) c.loop-k.invariant c.in-Some.conflict (rw c.in-Some.is at c.look_at-found.ensures)

pub loop-k-preserved : goal.loop-k-preserved
loop-k-preserved c =
    looked_more (known c.args.clauses.now c.args.steps.now) c.args.trail.now c.loop-k.trail c.look_at-found.new.trail (Contains (take c.loop-k.k-index c.args.places.now)) (λ j. j ≡ get_or c.args.places.now c.loop-k.k-index 0) (Contains (take (c.loop-k.k-index + 1) c.args.places.now)) c.loop-k.invariant
    (λ j has. elim (Contains-push_cases (take c.loop-k.k-index c.args.places.now) (get_or c.args.places.now c.loop-k.k-index 0) j (rw (take_more c.args.places.now c.loop-k.k-index 0 c.loop-k-test.true) at has)) [ inl old ↦ inl old | inr here ↦ inr (sym here) ])
    (rw c.in_default.is at c.look_at-found.ensures)
