use Rattle.std.proofs.Common.{◌≡◌, ◌<◌, ◌∙◌, length, get_or, ap, sym, arith}
use Rattle.refutation_checker.specs.Follows.{negation}
use Rattle.watched_search.proofs.TrailLemmas.{no_entry}
use Rattle.watched_search.proofs.HeldLemmas.{kept_open}
use Rattle.watched_search.proofs.LevelLemmas.{next_below, next_false, next_lit, drives_on, next_kept}
use Rattle.watched_search.proofs.propagation.propagate_all.Goals as goal
use Rattle.watched_search.proofs.propagation.propagate_all.Goals.{After-negated-l}

entry_is : (c : After-negated-l) → c.negated-l.result ≡ negation (get_or c.loop-progress.trail.entries c.loop-progress.progress.head no_entry).lit
entry_is c = rw c.entries-in-loop-progress.ensures.same at c.negated-l.ensures

within : (c : After-negated-l) → c.loop-progress.progress.head < length c.loop-progress.trail.entries
within c = rw c.entries.ensures.same at c.loop-progress-test.true

pub visit_list-requires-clause-below : goal.visit_list-requires-clause-below
visit_list-requires-clause-below c =
    let d = (goal.at.visit_list-requires-clause-below c).After-negated-l in
    let below = next_below c.loop-progress.trail c.loop-progress.progress.head c.negated-l.result c.entries.ensures.sound (within d) (entry_is d) in
    let room = c.loop-progress.invariant.driven.room in
    let vars = c.loop-progress.invariant.vars in
    let same = c.requires.room in
    omega arith

pub visit_list-requires-clause-is_false : goal.visit_list-requires-clause-is_false
visit_list-requires-clause-is_false c =
    let d = (goal.at.visit_list-requires-clause-is_false c).After-negated-l in
    next_false c.loop-progress.trail c.loop-progress.progress.head c.negated-l.result c.entries.ensures.sound (within d) (entry_is d)

pub returns-in-Some-visit_list : goal.returns-in-Some-visit_list
returns-in-Some-visit_list c =
    let a = c.in-Some-visit_list.ensures.advances in
    let i = c.loop-progress.invariant in
    record {
      vars = a.vars ∙ i.vars;
      clauses = a.clauses ∙ i.clauses;
      driven = drives_on _ _ _ _ _ _ i.clauses i.driven a;
      kept = a.kept _ i.kept;
      answer = c.in-Some-visit_list.ensures.walked;
    }

pub loop-progress-preserved : goal.loop-progress-preserved
loop-progress-preserved c =
    let d = (goal.at.loop-progress-preserved c).After-negated-l in
    let a = c.in_default-visit_list.ensures.advances in
    let i = c.loop-progress.invariant in
    let lit = next_lit c.loop-progress.trail c.loop-progress.progress.head c.negated-l.result c.entries.ensures.sound (within d) (entry_is d) in
    record {
      vars = a.vars ∙ i.vars;
      clauses = a.clauses ∙ i.clauses;
      paired = a.paired;
      driven = drives_on _ _ _ _ _ _ i.clauses i.driven a;
      kept = next_kept _ _ _ _ _ c.negated-l.result a (within d) lit i.ready i.kept c.in_default-visit_list.ensures.walked;
      ready = i.ready ∙ sym (ap length a.clauses);
    }

pub returns : goal.returns
returns c =
    let i = c.loop-progress.invariant in
    let same = ap length c.entries.ensures.same in
    let past = c.loop-progress-test.false in
    let le = i.kept.head in
    record {
      vars = i.vars;
      clauses = i.clauses;
      driven = i.driven;
      kept = i.kept;
      answer = kept_open c.loop-progress.watched c.loop-progress.trail c.loop-progress.progress i.paired i.kept (omega arith) i.ready;
    }
