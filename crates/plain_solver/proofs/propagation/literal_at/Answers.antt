use Rattle.std.proofs.Common.{rules, ◌<◌, length, ap}
use Rattle.std.proofs.lemmas.List.{get_or_default}
use Rattle.std.proofs.lemmas.List.Elements.{All-contains}
use Rattle.sat_formula.specs.Lit.{IsBelow}
use Rattle.watched_search.specs.declared.entry.Entry.{Entry}
use Rattle.watched_search.specs.Trail.{lits_of}
use Rattle.watched_search.proofs.TrailLemmas.{no_entry, lit_of-entry}
use Rattle.plain_solver.proofs.propagation.literal_at.Goals as goal

pub returns : goal.returns
returns c =
    let t = c.args.trail.now in
    let past = c.if-place-entries.false in
    let lt : c.args.place < length t.entries = rw c.entries-entries.ensures.same at past in
    rw c.entries-entries.ensures.same (record {
      place = lt;
      fits = search rules;
      room = c.entries-entries.ensures.sound.counted;
      below = All-contains (IsBelow t.room) (lits_of t.entries) _ c.entries-entries.ensures.sound.below (lit_of-entry t.entries c.args.place no_entry lt);
      same = λ d. ap (λ (e : Entry). e.lit) (get_or_default t.entries c.args.place d no_entry lt);
    })
