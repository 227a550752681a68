use Rattle.std.proofs.lemmas.List.Elements.{All-contains}
use Rattle.sat_formula.specs.Lit.{IsBelow}
use Rattle.watched_search.specs.Trail.{lits_of}
use Rattle.std.proofs.Common.{[]}
use Rattle.refutation_checker.specs.Follows.{known}
use Rattle.watched_search.proofs.TrailLemmas.{no_entry, lit_of-entry}
use Rattle.cdcl_solver.proofs.AcceptanceLemmas.{decisions_below}
use Rattle.cdcl_solver.proofs.ChainLemmas.{reasons_below}
use Rattle.plain_solver.proofs.SearchLemmas.{free-learned, learned_advances}
use Rattle.plain_solver.proofs.searching.learn_decisions.Goals as goal

pub explained-requires-clause-reasons : goal.explained-requires-clause-reasons
explained-requires-clause-reasons c =
    let s = c.args.search.now in
    rw (c.entries-entries.ensures.same, c.count.ensures.count) (reasons_below (known s.clauses s.steps) [] s.trail.entries c.requires.searching.search.chain)

pub add_step-requires-clause-below : goal.add_step-requires-clause-below
add_step-requires-clause-below c =
    rw (c.negated.ensures, c.entries-entries.ensures.same)
    (All-contains (IsBelow c.args.search.now.trail.room) (lits_of c.args.search.now.trail.entries) _ c.entries-entries.ensures.sound.below (lit_of-entry c.args.search.now.trail.entries c.args.last no_entry c.requires.last.within))

pub add_step-requires-clause-free : goal.add_step-requires-clause-free
add_step-requires-clause-free c =
    let s = c.args.search.now in
    let made = rw (c.count.ensures.count, c.entries-entries.ensures.same) at c.in_ok-step.ensures in
    rw (c.negated.ensures, c.entries-entries.ensures.same)
    (free-learned s.clauses s.steps s.trail.room s.trail.entries c.args.conflict c.in_ok-step.step c.args.last no_entry c.requires.searching.search c.requires.conflict made c.requires.last)

pub add_step-requires-clause-names : goal.add_step-requires-clause-names
add_step-requires-clause-names c =
    let made = rw (c.count.ensures.count, c.entries-entries.ensures.same) at c.in_ok-step.ensures in
    rw made.lits (decisions_below c.args.search.now.trail.room c.args.search.now.trail.entries c.entries-entries.ensures.sound.below)

pub returns : goal.returns
returns c =
    let s = c.args.search.now in
    let made = rw (c.count.ensures.count, c.entries-entries.ensures.same) at c.in_ok-step.ensures in
    let went = rw (c.negated.ensures, c.entries-entries.ensures.same) at c.in_ok-add_step.ensures in
    learned_advances s c.args.conflict c.in_ok-step.step c.args.last no_entry c.add_step.new.search c.requires.searching c.requires.conflict made c.entries-entries.ensures.sound.below c.entries-entries.ensures.sound.counted c.requires.last went
