use Rattle.std.proofs.Common.{get_or, arith}
use Rattle.watched_search.proofs.TrailLemmas.{no_entry}
use Rattle.watched_search.proofs.SettleLemmas.{Held-none, Held-by, Held-served, true_apart, equal_lem, IsLowered-cut, IsLowered-to}
use Rattle.watched_search.proofs.propagation.settle.Goals as goal

pub returns-in_default-clause-held : goal.returns-in_default-clause-held
returns-in_default-clause-held c = λ lits t. Held-none _ _ c.args.head lits c.args.l c.requires.head c.in_default.ensures

pub returns-then-eq-clause-held : goal.returns-then-eq-clause-held
returns-then-eq-clause-held c = λ lits t.
    let e = rw c.entries.ensures.same at c.if-eq.ensures in
    let is = equal_lem (get_or c.args.trail.now.entries c.in-Some.place no_entry).lit c.args.l e in
    Held-by _ _ c.args.head lits c.args.l c.in-Some.place c.requires.head c.entries.ensures.sound.distinct c.in-Some.ensures
    (λ lt f. absurd (true_apart c.args.trail.now.entries c.args.l c.in-Some.place c.in-Some.ensures.0 is f))

pub returns-then-place-head-clause-held : goal.returns-then-place-head-clause-held
returns-then-place-head-clause-held c = λ lits t. Held-by _ _ c.args.head lits c.args.l c.in-Some.place c.requires.head c.entries.ensures.sound.distinct c.in-Some.ensures (λ lt e. absurd (omega arith))

pub returns-then-is_true-clause-lowered : goal.returns-then-is_true-clause-lowered
returns-then-is_true-clause-lowered c = rw c.cut.ensures.kept (IsLowered-cut _ c.args.head _)

pub returns-then-is_true-clause-held : goal.returns-then-is_true-clause-held
returns-then-is_true-clause-held c = λ lits t.
    rw c.cut.ensures.kept (Held-served _ _ c.args.head lits c.args.l c.in-Some.place c.requires.head c.entries.ensures.sound.distinct c.in-Some.ensures (t c.if-is_true.true))

pub returns-else-is_true-clause-lowered : goal.returns-else-is_true-clause-lowered
returns-else-is_true-clause-lowered c = rw c.cut.ensures.kept (IsLowered-to _ c.args.head c.in-Some.place (omega arith))

pub returns-else-is_true-clause-held : goal.returns-else-is_true-clause-held
returns-else-is_true-clause-held c = λ lits t.
    rw c.cut.ensures.kept (Held-by _ _ c.in-Some.place lits c.args.l c.in-Some.place (omega arith) c.entries.ensures.sound.distinct c.in-Some.ensures (λ lt e. absurd (omega arith)))
