use Rattle.std.proofs.Common.{◌∙◌, arith}
use Rattle.std.proofs.lemmas.List.{length-map}
use Rattle.refutation_checker.specs.Follows.{known}
use Rattle.watched_search.specs.declared.entry.Entry.{Entry}
use Rattle.watched_search.specs.Trail.{lits_of}
use Rattle.plain_solver.proofs.OccurrenceLemmas.{kept_quiet, kept_step, grown_past}
use Rattle.plain_solver.proofs.propagation.propagate.Goals as goal

pub returns-in_default : goal.returns-in_default
returns-in_default c =
    let entries = c.literals.trail.entries in
    let size = length-map entries (λ (e : Entry). e.lit) in
    let past = c.in_default.ensures in
    record {
      chain = c.literals.invariant.chain;
      room = c.literals.invariant.room;
      weight = c.literals.invariant.weight;
      found = kept_quiet (known c.args.clauses.now c.args.steps.now) (lits_of entries) c.literals.next (omega arith) c.literals.invariant.kept;
    }

pub overflow_add-next : goal.overflow_add-next
overflow_add-next c = let fits = c.in-Some.ensures.fits in omega arith

pub literals-preserved : goal.literals-preserved
literals-preserved c =
    let K = known c.args.clauses.now c.args.steps.now in
    let looked = rw (c.in_default-found.is, c.places-places.ensures, c.negated.ensures) at c.look_over-found.ensures in
    let before = c.literals.invariant in
    let less = rw before.room at looked.weight in
    let lighter = before.weight in
    record {
      chain = looked.chain;
      room = looked.room ∙ before.room;
      weight = omega arith;
      head = grown_past c.literals.trail.entries c.look_over-found.new.trail.entries looked.grown.0 c.literals.next looked.grown.1 c.in-Some.ensures.place;
      kept = kept_step K c.args.occurrences.now c.args.trail.now.room c.literals.next c.literals.trail c.look_over-found.new.trail c.in-Some.l c.requires.index c.in-Some.ensures before.kept looked;
    }
