use Rattle.std.proofs.Common.{◌≡◌, ℕ, ◌≤◌, ◌⊎◌, inl, inr, Option, List, [], ◌∷◌, ◌++◌, length, Some, None, refl, sym, ◌∙◌, ap, subst, arith}
use Rattle.std.specs.Prelude.{Contains}
use Rattle.std.proofs.lemmas.Bool.{cases_lt}
use Rattle.std.proofs.lemmas.List.{get_or_default}
use Rattle.std.proofs.lemmas.List.Elements.{All-weaker, Contains-push}
use Rattle.sat_formula.specs.declared.lit.Lit.{Lit}
use Rattle.sat_formula.specs.Lit.{top_lit}
use Rattle.refutation_checker.specs.Follows.{negation, IsFalse, IsUnit}
use Rattle.watch_chains.specs.declared.link.Link.{Link}
use Rattle.watch_chains.specs.Watches.{IsSlot}
use Rattle.watched_search.specs.declared.entry.Entry.{Entry}
use Rattle.watched_search.specs.Trail.{TrailView, lits_of, IsFree}
use Rattle.watched_search.specs.Searching.{clause_at, HasTrue, IsForced}
use Rattle.watched_search.specs.inner.Keeping.{Watched, other_of, watch_at, IsPaired, IsKept}
use Rattle.watched_search.specs.inner.Moving.{IsAt, IsMoved}
use Rattle.watched_search.specs.inner.Visiting.{IsReplacement, IsReplacementIn, Advances}
use Rattle.watched_search.proofs.TrailLemmas.{lits-append}
use Rattle.watched_search.proofs.PairLemmas.{pair_of, some_same}
use Rattle.watched_search.proofs.MoveLemmas.{at_slot}
use Rattle.watched_search.proofs.WalkLemmas.{IsDriven-refl, IsDriven-push}
use Rattle.watched_search.proofs.KeepLemmas.{IsKept-push, IsKept-move}

-- what watches where the walk has come to
pub other_member : (w : Watched) (l : Lit) (i : ℕ) (k : Link) (other : Lit) → IsPaired w → IsAt w l i k → watch_at w.slots (other_of k) ≡ Some other → Contains (clause_at w.clauses k.clause) other
other_member w l i k other paired at watch =
    let st = at_slot w l i k paired at in
    let p = pair_of w k l paired st.0 st.1 in
    let same : p.0 ≡ other = some_same p.0 other (sym p.1 ∙ watch) in
    rw same at p.3

-- no literal but one is not false
pub unit_of : (T c : List Lit) (other : Lit) → IsReplacement T c other None → Contains c other → IsFree T other → IsUnit T c other
unit_of T c other none has free = record { member = has; not_true = free.0; not_false = free.1; others = none }

pub false_of : (T c : List Lit) (other : Lit) → IsReplacement T c other None → Contains T (negation other) → IsFalse T c
false_of T c other none f =
    All-weaker (λ m. (m ≡ other) ⊎ Contains T (negation m)) (λ m. Contains T (negation m))
    (λ m p. elim p [ inl e ↦ subst (λ (x : Lit). Contains T (negation x)) (sym e) f | inr g ↦ g ]) c none

-- a literal becomes true by a clause
pub Advances-push : (w : Watched) (t : TrailView) (e : Entry) → IsPaired w → IsForced w.clauses (lits_of t.entries) e → Advances w w t (record t { entries = t.entries ++ e ∷ [] })
Advances-push w t e paired h = record { vars = refl; clauses = refl; paired = paired; driven = IsDriven-push w.clauses t e h; kept = λ p k. IsKept-push w t p e k }

pub pushed_true : (T c : List Lit) (l : Lit) → Contains c l → HasTrue (T ++ l ∷ []) c
pushed_true T c l has = (l, has, Contains-push T l)

pub entries_true : (es : List Entry) (e : Entry) (c : List Lit) → Contains c e.lit → HasTrue (lits_of (es ++ e ∷ [])) c
entries_true es e c has = rw (lits-append es (e ∷ [])) (pushed_true (lits_of es) c e.lit has)

-- another literal watches
pub Advances-move : (w new : Watched) (t : TrailView) (l v : Lit) (i : ℕ) (k : Link) → IsPaired w → IsPaired new → IsSlot (length w.clauses) k → IsMoved w new l i k v
    → (Contains (lits_of t.entries) (negation v) → ⊥) → Advances w new t t
Advances-move w new t l v i k h paired s moved free =
    let clause = s.clause in
    let slot = s.slot in
    let sized = h.slots in
    record {
      vars = ap (λ (x : Watched). x.vars) moved.same;
      clauses = ap (λ (x : Watched). x.clauses) moved.same;
      paired = paired;
      driven = IsDriven-refl w.clauses t;
      kept = λ p kept. subst (λ (x : Watched). IsKept x t p) (sym moved.same) (IsKept-move w t p k v new.chains (omega arith) free kept);
    }

-- from a mark on, and then up to it, each place is come to
pub looked_round : (T c : List Lit) (other : Lit) (mark : ℕ) (found : Option ℕ) → mark ≤ length c
    → IsReplacementIn T c other mark (length c) None → IsReplacementIn T c other 0 mark found → IsReplacement T c other found
looked_round T c other mark (Some k) le behind before = (let lt = before.1 in omega arith, before.2, before.3)
looked_round T c other mark None le behind before = λ k d lt.
    subst (λ (l : Lit). (l ≡ other) ⊎ Contains T (negation l)) (get_or_default c k top_lit d lt) (elim (cases_lt k mark) [
      | inl front ↦ before k (omega arith) front
      | inr back ↦ behind k (omega arith) lt
    ])
