use Rattle.std.proofs.Common.{◌≡◌, ◌<◌, Some, length, arith}
use Rattle.std.proofs.lemmas.List.{length_push}
use Rattle.refutation_checker.specs.Follows.{known}
use Rattle.refutation_checker.proofs.FollowLemmas.{length-known}
use Rattle.plain_solver.proofs.OccurrenceLemmas.{looked_none, looked_false, looked_unit}
use Rattle.plain_solver.proofs.propagation.look_at.Goals as goal

pub returns-in-AllFalse : goal.returns-in-AllFalse
returns-in-AllFalse c =
    let size = length-known c.args.clauses.now c.args.steps.now in
    let lt : c.args.k < length (known c.args.clauses.now c.args.steps.now) = omega arith in
    looked_false (known c.args.clauses.now c.args.steps.now) c.args.trail.now (λ j. j ≡ c.args.k) c.args.k c.requires.chain (lt, rw c.clause_at.ensures at c.in-AllFalse.ensures)

pub returns-in-OneLeft : goal.returns-in-OneLeft
returns-in-OneLeft c =
    let K = known c.args.clauses.now c.args.steps.now in
    let t = c.args.trail.now in
    let size = length-known c.args.clauses.now c.args.steps.now in
    let lt : c.args.k < length (known c.args.clauses.now c.args.steps.now) = omega arith in
    let counted = rw c.push.ensures at c.entries.ensures.sound.counted in
    let longer = length_push t.entries (record { lit = c.in-OneLeft.u; reason = Some c.args.k }) in
    rw c.push.ensures (looked_unit K t c.args.k c.in-OneLeft.u c.requires.chain lt (rw c.clause_at.ensures at c.in-OneLeft.ensures) (omega arith))

pub returns-in-Other : goal.returns-in-Other
returns-in-Other c =
    looked_none (known c.args.clauses.now c.args.steps.now) c.args.trail.now (λ j. j ≡ c.args.k) c.requires.chain (λ j same below. rw same (rw c.clause_at.ensures at c.in-Other.ensures))
