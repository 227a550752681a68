use Rattle.std.proofs.Common.{◌≡◌, ℕ, ◌+◌, ◌<◌, ◌≤◌, inl, inr, Bool, true, false, ◌&&◌, List, length, get_or, All, Option, Some, None, refl, sym, ◌∙◌, ap, subst, arith, eqb}
use Rattle.std.specs.Prelude.{Contains, nat_lt}
use Rattle.std.specs.Bool.{beq}
use Rattle.std.proofs.lemmas.Bool.{cases_eq, cases_lt, eqb-true}
use Rattle.std.proofs.lemmas.List.{get_or-map, get_or_default}
use Rattle.std.proofs.lemmas.List.Elements.{All-weaker, All-filter}
use Rattle.sat_formula.specs.declared.lit.Lit.{Lit}
use Rattle.sat_formula.specs.Lit.{top_lit}
use Rattle.refutation_checker.specs.Follows.{negation}
use Rattle.refutation_checker.proofs.TrailLemmas.{Lit-same}
use Rattle.watched_search.specs.declared.entry.Entry.{Entry}
use Rattle.watched_search.specs.declared.propagation.Progress.{Progress}
use Rattle.watched_search.specs.Trail.{TrailView, lits_of, DistinctVars, IsPlaceOf, starts_below}
use Rattle.watched_search.specs.Searching.{clause_at, lit_at, HasTrue}
use Rattle.watched_search.specs.Watching.{HasTwo}
use Rattle.watched_search.specs.inner.Keeping.{Watched, slot_of, watch_at, IsPairOf, IsPaired, SameLevel, Held, IsKept, IsLowered}
use Rattle.watched_search.specs.inner.Visiting.{IsDriven, Advances, IsDriving, IsSettled, IsDrivenTo}
use Rattle.watched_search.proofs.StartLemmas.{below_all, in-starts_below}
use Rattle.watched_search.proofs.TrailLemmas.{no_entry, not_itself}
use Rattle.watched_search.proofs.PairLemmas.{slot_cases, watch-place, some_same, none_not_some, IsPairOf-same}
use Rattle.watched_search.proofs.HeldLemmas.{served, Held-cut}
use Rattle.watched_search.proofs.KeepLemmas.{IsKept-lower, IsKept-admit}

-- the entry of a place

pub entry_at : (es : List Entry) (k : ℕ) → k < length es → lit_at (lits_of es) k ≡ (get_or es k no_entry).lit
entry_at es k lt = get_or-map (λ (e : Entry). e.lit) es k no_entry top_lit lt

place_only : (es : List Entry) (l : Lit) (place k : ℕ) → DistinctVars es → IsPlaceOf es l.var (Some place) → k < length es → lit_at (lits_of es) k ≡ negation l → k ≡ place
place_only es l place k apart at lt e =
    let here : (get_or es k no_entry).lit.var ≡ l.var = ap (λ (x : Lit). x.var) (sym (entry_at es k lt) ∙ e) in
    let there : (get_or es place no_entry).lit.var ≡ l.var = at.1 no_entry in
    elim (cases_eq k place) [
      | inl same ↦ same
      | inr differ ↦ elim (cases_lt k place) [
        | inl before ↦ absurd (apart k place no_entry before at.0 (here ∙ sym there))
        | inr ge ↦ absurd (apart place k no_entry (omega arith) lt (there ∙ sym here))
      ]
    ]

-- a literal whose variable has no value
pub Held-none : (es : List Entry) (starts : List ℕ) (head : ℕ) (c : List Lit) (l : Lit) → head ≤ length es → IsPlaceOf es l.var None → Held (lits_of es) starts head c l
Held-none es starts head c l le none = λ k lt e.
    let within : k < length es = omega arith in
    absurd (none k no_entry within (ap (λ (x : Lit). x.var) (sym (entry_at es k within) ∙ e)))

-- a literal is held where it is so at the place of its variable
pub Held-by : (es : List Entry) (starts : List ℕ) (head : ℕ) (c : List Lit) (l : Lit) (place : ℕ) → head ≤ length es → DistinctVars es → IsPlaceOf es l.var (Some place)
    → (place < head → lit_at (lits_of es) place ≡ negation l → (j : ℕ) × (j < length (lits_of es)) × Contains c (lit_at (lits_of es) j) × SameLevel starts place j)
    → Held (lits_of es) starts head c l
Held-by es starts head c l place le apart at here = λ k lt e.
    let same : k ≡ place = place_only es l place k apart at (omega arith) e in
    subst (λ (i : ℕ). (j : ℕ) × (j < length (lits_of es)) × Contains c (lit_at (lits_of es) j) × SameLevel starts i j) (sym same)
    (here (omega arith) (ap (λ (i : ℕ). lit_at (lits_of es) i) (sym same) ∙ e))

-- one that is true is not false
pub true_apart : (es : List Entry) (l : Lit) (place : ℕ) → place < length es → (get_or es place no_entry).lit ≡ l → lit_at (lits_of es) place ≡ negation l → ⊥
true_apart es l place lt is e = not_itself l.neg (ap (λ (x : Lit). x.neg) (sym is ∙ sym (entry_at es place lt) ∙ e))

eq_and : (a b : Bool) → true ≡ (a && b) → (a ≡ true) × (b ≡ true)
eq_and true true e = (refl, refl)
eq_and true false e = cc
eq_and false b e = cc

beq_true : (a b : Bool) → beq a b ≡ true → a ≡ b
beq_true true true e = refl
beq_true true false e = cc
beq_true false true e = cc
beq_true false false e = refl

-- what the `==` of two literals says
pub equal_lem : (u l : Lit) → true ≡ (eqb u.var l.var && beq u.neg l.neg) → u ≡ l
equal_lem u l h = let p = eq_and _ _ h in Lit-same u l (eqb-true u.var l.var p.0) (beq_true u.neg l.neg p.1)

-- levels that begin behind a place are forgotten

starts_to : (place : ℕ) (starts : List ℕ) → All (λ s. s ≤ place) (starts_below (place + 1) starts)
starts_to place starts = All-weaker (λ s. s < place + 1) (λ s. s ≤ place) (λ s lt. omega arith) (starts_below (place + 1) starts) (below_all (place + 1) starts)

pub Held-served : (es : List Entry) (starts : List ℕ) (head : ℕ) (c : List Lit) (l : Lit) (place : ℕ) → head ≤ length es → DistinctVars es → IsPlaceOf es l.var (Some place)
    → HasTrue (lits_of es) c → Held (lits_of es) (starts_below (place + 1) starts) head c l
Held-served es starts head c l place le apart at t =
    Held-by es (starts_below (place + 1) starts) head c l place le apart at (λ lt e. served (lits_of es) (starts_below (place + 1) starts) place c (starts_to place starts) t)

-- the head stays
pub IsLowered-cut : (t : TrailView) (head limit : ℕ) → IsLowered t (record t { starts = starts_below limit t.starts }) head head
IsLowered-cut t head limit = record {
  same = refl;
  lower = omega arith;
  fewer = λ s has. (in-starts_below limit t.starts s has).0;
  within = λ h. All-filter (λ s. nat_lt s limit) (λ s. s ≤ head) t.starts h;
}

-- the head goes back to the place
pub IsLowered-to : (t : TrailView) (head place : ℕ) → place ≤ head → IsLowered t (record t { starts = starts_below (place + 1) t.starts }) head place
IsLowered-to t head place le = record {
  same = refl;
  lower = le;
  fewer = λ s has. (in-starts_below (place + 1) t.starts s has).0;
  within = λ h. starts_to place t.starts;
}

-- a clause without two different literals

both_none : (c : List Lit) (b : Option Lit) → IsPairOf c None b → (b ≡ None) × (HasTwo c → ⊥)
both_none c None h = (refl, h)
both_none c (Some x) h = absurd h

settled_true : (c : Bool) (A B : Type 0) → (c ≡ true → A) → ((c ≡ true → ⊥) → B) → (B → ⊥) → A
settled_true true A B told other bad = told refl
settled_true false A B told other bad = absurd (bad (other (λ e. cc)))

pub settled_short : (w : Watched) (t new : TrailView) (head c : ℕ) (is_true : Bool) → IsPaired w → c < length w.clauses → watch_at w.slots (slot_of c 0) ≡ None
    → IsDriving w.clauses t c (Some is_true) → new ≡ record t { starts = starts_below 0 t.starts } → IsSettled w new head c
settled_short w t new head c is_true h lt none driving is =
    let pair = both_none (clause_at w.clauses c) (watch_at w.slots (slot_of c 1)) (IsPairOf-same (clause_at w.clauses c) (watch_at w.slots (slot_of c 0)) (watch_at w.slots (slot_of c 1)) None (watch_at w.slots (slot_of c 1)) none refl (h.pairs c lt)) in
    let entries : new.entries ≡ t.entries = ap (λ (x : TrailView). x.entries) is in
    let starts : new.starts ≡ starts_below 0 t.starts = ap (λ (x : TrailView). x.starts) is in
    let t' = settled_true is_true (HasTrue (lits_of t.entries) (clause_at w.clauses c)) (HasTwo (clause_at w.clauses c)) driving.0 driving.1 pair.1 in
    record {
      held = λ k l s here at. elim (slot_cases k.slot s.slot) [
        | inl z ↦ absurd (none_not_some l (sym at ∙ watch-place w.slots k (slot_of c 0) (omega arith) ∙ none))
        | inr o ↦ absurd (none_not_some l (sym at ∙ watch-place w.slots k (slot_of c 1) (omega arith) ∙ pair.0))
      ];
      rooted = λ e. rw (entries, starts) (
          let at : lit_at (lits_of t.entries) t'.2.0 ≡ t'.0 = get_or_default (lits_of t.entries) t'.2.0 top_lit t'.0 t'.2.1 ∙ t'.2.2 in
          (t'.2.0, t'.2.1, rw at t'.1, λ s has. let bad = (in-starts_below 0 t.starts s has).1 in absurd (omega arith)));
    }

-- a clause that two literals watch
pub settled_long : (w : Watched) (u v : TrailView) (lower less c : ℕ) (a b : Lit) → watch_at w.slots (slot_of c 0) ≡ Some a → watch_at w.slots (slot_of c 1) ≡ Some b
    → IsLowered u v lower less → Held (lits_of u.entries) u.starts lower (clause_at w.clauses c) a → Held (lits_of v.entries) v.starts less (clause_at w.clauses c) b
    → IsSettled w v less c
settled_long w u v lower less c a b ea eb low ha hb =
    let entries : v.entries ≡ u.entries = ap (λ (x : TrailView). x.entries) low.same in
    let first : Held (lits_of v.entries) v.starts less (clause_at w.clauses c) a = rw entries (Held-cut (lits_of u.entries) u.starts v.starts lower less (clause_at w.clauses c) a low.lower low.fewer ha) in
    record {
      held = λ k l s here at. elim (slot_cases k.slot s.slot) [
        | inl z ↦
            (let same : a ≡ l = some_same a l (sym ea ∙ watch-place w.slots (slot_of c 0) k (omega arith) ∙ at) in
            subst (λ (x : Lit). Held (lits_of v.entries) v.starts less (clause_at w.clauses c) x) same first)
        | inr o ↦
            (let same : b ≡ l = some_same b l (sym eb ∙ watch-place w.slots (slot_of c 1) k (omega arith) ∙ at) in
            subst (λ (x : Lit). Held (lits_of v.entries) v.starts less (clause_at w.clauses c) x) same hb)
      ];
      rooted = λ e. absurd (none_not_some a (sym ea ∙ e));
    }

-- the next clause was looked at

pub IsDriven-lower : (clauses : List (List Lit)) (t u v : TrailView) (head less : ℕ) → IsDriven clauses t u → IsLowered u v head less → IsDriven clauses t v
IsDriven-lower clauses t u v head less d low = record {
  room = ap (λ (x : TrailView). x.room) low.same ∙ d.room;
  more = d.more;
  entries = ap (λ (x : TrailView). x.entries) low.same ∙ d.entries;
  forced = d.forced;
}

pub admitted : (w : Watched) (t u v : TrailView) (p : Progress) (less : ℕ) → p.ready < length w.clauses → Advances w w t u → IsLowered u v p.head less → IsSettled w v less p.ready
    → IsKept w t p → IsDrivenTo w t v (record { head = less; ready = p.ready + 1 })
admitted w t u v p less lt a low settled kept = record {
  driven = IsDriven-lower w.clauses t u v p.head less a.driven low;
  kept = IsKept-admit w v (record p { head = less }) lt (IsKept-lower w u v p less low (a.kept p kept)) settled.held settled.rooted;
}
