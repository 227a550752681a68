use Rattle.std.proofs.Common.{◌≡◌, ◌⊎◌, inl, inr, take, not, ap, sym, refl}
use Rattle.std.specs.Prelude.{Contains}
use Rattle.std.proofs.lemmas.Bool.{false≢true}
use Rattle.std.proofs.lemmas.List.{take_all, take_more}
use Rattle.std.proofs.lemmas.List.Elements.{All-more, Contains-push, Contains-append_left}
use Rattle.refutation_checker.specs.Follows.{negation}
use Rattle.refutation_checker.proofs.StatusLemmas.{same_lem}
use Rattle.watched_search.specs.Trail.{lits_of}
use Rattle.watched_search.proofs.TrailLemmas.{no_entry}
use Rattle.cdcl_solver.proofs.acceptance.is_unit.Goals as goal
use Rattle.cdcl_solver.proofs.acceptance.is_unit.Goals.{then-eq, else-eq+else-not-is_among}

pub loop-l-preserved : goal.loop-l-preserved
loop-l-preserved c =
    let more = take_more c.args.lits.now c.loop-l.l-index no_entry.lit c.loop-l-test.true in
    elim c.if-eq.branch [
      | then-eq w ↦
          (let same = sym (same_lem _ _ (ap not w.if-eq.ensures)) in
          record {
            each = All-more (λ m. (m ≡ c.args.u) ⊎ Contains (lits_of (take c.args.count c.args.search.now.entries)) (negation m)) c.args.lits.now c.loop-l.l-index no_entry.lit c.loop-l-test.true c.loop-l.invariant.each (inl same);
            has = λ t. rw (more, same) (Contains-push (take c.loop-l.l-index c.args.lits.now) c.args.u);
          })
      | else-eq+else-not-is_among w ↦
          (let false' = rw w.negated-else-eq.ensures at (w.if-not-is_among.ensures.0 refl) in
          record {
            each = All-more (λ m. (m ≡ c.args.u) ⊎ Contains (lits_of (take c.args.count c.args.search.now.entries)) (negation m)) c.args.lits.now c.loop-l.l-index no_entry.lit c.loop-l-test.true c.loop-l.invariant.each (inr false');
            has = λ t. rw more (Contains-append_left (take c.loop-l.l-index c.args.lits.now) _ c.args.u (c.loop-l.invariant.has (rw w.found-is at t)));
          })
    ]

pub returns : goal.returns
returns c = λ found.
    let all = take_all c.loop-l.l-index c.args.lits.now c.loop-l-test.false in
    record {
      member = rw all at (c.loop-l.invariant.has found);
      not_true = λ t. false≢true (c.if-is_among.ensures.1 t);
      not_false = λ t. false≢true (c.if-is_among-2.ensures.1 (rw c.negated.ensures t));
      others = rw all at c.loop-l.invariant.each;
    }
