use Rattle.std.proofs.Common.{◌∙◌, sym, arith}
use Rattle.watched_search.proofs.StartLemmas.{Cut-step, Cut-end}
use Rattle.watched_search.proofs.trail.cut_starts.Goals as goal

pub returns-then-last-limit-clause-kept : goal.returns-then-last-limit-clause-kept
returns-then-last-limit-clause-kept c =
    let top = rw c.deref.ensures.value at (sym c.in-Some.ensures.value) in
    (Cut-end _ _ _ _ _ c.loop-last.invariant.cut top c.if-last-limit.true).0

pub returns-then-last-limit-clause-first : goal.returns-then-last-limit-clause-first
returns-then-last-limit-clause-first c =
    let top = rw c.deref.ensures.value at (sym c.in-Some.ensures.value) in
    (Cut-end _ _ _ _ _ c.loop-last.invariant.cut top c.if-last-limit.true).1

pub loop-last-preserved : goal.loop-last-preserved
loop-last-preserved c =
    let top = rw c.deref.ensures.value at (sym c.in-Some.ensures.value) in
    let len = rw c.deref.ensures.value at c.deref.ensures.len in
    record {
      cut = rw (c.pop.ensures.rest, sym len) (Cut-step _ _ _ _ _ c.loop-last.invariant.cut top (λ lt. let ge = c.if-last-limit.false in omega arith));
      capacity = c.pop.ensures.capacity ∙ c.loop-last.invariant.capacity;
    }
