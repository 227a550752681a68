use Rattle.std.proofs.Common.{Some, refl, sym, ◌∙◌}
use Rattle.watched_search.specs.Trail.{lits_of, IsFree}
use Rattle.watched_search.proofs.TruthLemmas.{not_true}
use Rattle.watched_search.proofs.MoveLemmas.{at_slot}
use Rattle.watched_search.proofs.VisitLemmas.{other_member, unit_of, false_of, Advances-push, entries_true}
use Rattle.watched_search.proofs.propagation.visit_clause.Goals as goal

pub set_blocker-requires-clause-member : goal.set_blocker-requires-clause-member
set_blocker-requires-clause-member c = other_member _ c.args.at.lit c.args.at.place c.args.at.link _ c.other_watch-other.ensures.paired c.requires.at c.other_watch-other.ensures.same

pub returns-then-is_true-clause-visited : goal.returns-then-is_true-clause-visited
returns-then-is_true-clause-visited c =
    let member = other_member _ c.args.at.lit c.args.at.place c.args.at.link _ c.other_watch-other.ensures.paired c.requires.at c.other_watch-other.ensures.same in
    (c.set_blocker.ensures, rw c.set_blocker.ensures (c.other_watch-other.result, member, c.is_true.ensures.0 c.if-is_true.true))

pub returns-then-is_true-2-clause-visited : goal.returns-then-is_true-2-clause-visited
returns-then-is_true-2-clause-visited c =
    let left = c.if-move_watch.ensures.moved in
    let slot = (at_slot _ c.args.at.lit c.args.at.place c.args.at.link c.other_watch-other.ensures.paired c.requires.at).0 in
    rw left.0 (slot.clause, false_of _ _ _ left.1 (rw c.negated.ensures at (c.is_true-2.ensures.0 c.if-is_true-2.true)))

pub returns-clause-advances : goal.returns-clause-advances
returns-clause-advances c =
    let paired = c.other_watch-other.ensures.paired in
    let left = c.if-move_watch.ensures.moved in
    let slot = (at_slot _ c.args.at.lit c.args.at.place c.args.at.link paired c.requires.at).0 in
    let member = other_member _ c.args.at.lit c.args.at.place c.args.at.link _ paired c.requires.at c.other_watch-other.ensures.same in
    let free : IsFree (lits_of c.args.trail.now.entries) c.other_watch-other.result = (
      λ h. not_true ⊥ (sym c.if-is_true.false ∙ c.is_true.ensures.1 h),
      λ h. not_true ⊥ (sym c.if-is_true-2.false ∙ c.is_true-2.ensures.1 (rw c.negated.ensures h)),
    ) in
    rw (left.0, c.push.ensures) (Advances-push _ _ (record { lit = c.other_watch-other.result; reason = Some c.args.at.link.clause }) paired
    (c.args.at.link.clause, refl, (slot.clause, unit_of _ _ _ left.1 member free)))

pub returns-clause-visited : goal.returns-clause-visited
returns-clause-visited c =
    let left = c.if-move_watch.ensures.moved in
    let member = other_member _ c.args.at.lit c.args.at.place c.args.at.link _ c.other_watch-other.ensures.paired c.requires.at c.other_watch-other.ensures.same in
    (left.0, rw (left.0, c.push.ensures) (entries_true _ (record { lit = c.other_watch-other.result; reason = Some c.args.at.link.clause }) _ member))
