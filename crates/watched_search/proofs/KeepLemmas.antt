use Rattle.std.proofs.Common.{◌≡◌, ℕ, ◌+◌, ◌<◌, ◌≤◌, inl, inr, List, [], ◌∷◌, ◌++◌, length, set, take, get_or, All, Option, Some, None, sym, ◌∙◌, ap, subst, arith}
use Rattle.std.specs.Prelude.{Contains}
use Rattle.std.proofs.lemmas.Bool.{cases_eq, cases_lt}
use Rattle.std.proofs.lemmas.List.Elements.{All-contains}
use Rattle.std.proofs.lemmas.List.{get_or-set_same, get_or-set_other, get_or_append_left, length_push, length-map, length-take, take-map}
use Rattle.sat_formula.specs.declared.lit.Lit.{Lit}
use Rattle.refutation_checker.specs.Follows.{negation}
use Rattle.watch_chains.specs.declared.link.Link.{Link}
use Rattle.watch_chains.specs.Chains.{place_of}
use Rattle.watch_chains.specs.Watches.{IsSlot}
use Rattle.watched_search.specs.declared.entry.Entry.{Entry}
use Rattle.watched_search.specs.declared.propagation.Progress.{Progress}
use Rattle.watched_search.specs.Trail.{TrailView, lits_of, starts_below}
use Rattle.watched_search.specs.Searching.{clause_at, lit_at, HasTrue}
use Rattle.watched_search.specs.inner.Keeping.{Watched, slot_of, watch_at, IsPaired, Held, Rooted, IsKept, IsLowered}
use Rattle.watched_search.proofs.TrailLemmas.{lits-append}
use Rattle.watched_search.proofs.StartLemmas.{in-starts_below}
use Rattle.watched_search.proofs.HeldLemmas.{Held-push, Rooted-push, Held-next, Held-open, Held-cut, Rooted-cut, Held-back, Rooted-back}

some_same : (a b : Lit) → Some a ≡ Some b → a ≡ b
some_same a b e = cc

none_not_some : (l : Lit) → Some l ≡ None → ⊥
none_not_some l e = cc

lits_length : (es : List Entry) → length (lits_of es) ≡ length es
lits_length es = length-map es (λ (e : Entry). e.lit)

-- nothing was looked at
pub IsKept-none : (w : Watched) (t : TrailView) → t.starts ≡ [] → IsKept w t (record { head = 0; ready = 0 })
IsKept-none w t e = record {
  head = omega arith;
  ready = omega arith;
  starts = rw e (λ k d lt. absurd (omega arith));
  held = λ k l s at. let lt = s.clause in absurd (omega arith);
  rooted = λ c lt at. absurd (omega arith);
}

-- an entry is added
pub IsKept-push : (w : Watched) (t : TrailView) (p : Progress) (e : Entry) → IsKept w t p → IsKept w (record t { entries = t.entries ++ e ∷ [] }) p
IsKept-push w t p e h =
    let size = length_push t.entries e in
    let within = h.head in
    let lits : lits_of (t.entries ++ e ∷ []) ≡ lits_of t.entries ++ e.lit ∷ [] = lits-append t.entries (e ∷ []) in
    record {
      head = omega arith;
      ready = h.ready;
      starts = h.starts;
      held = λ k l s at. rw lits (Held-push (lits_of t.entries) t.starts p.head (clause_at w.clauses k.clause) l e.lit (omega (arith, lits_length t.entries)) (h.held k l s at));
      rooted = λ c lt at. rw lits (Rooted-push (lits_of t.entries) t.starts (clause_at w.clauses c) e.lit (h.rooted c lt at));
    }

-- another literal watches in a slot, which is not false
pub IsKept-move : (w : Watched) (t : TrailView) (p : Progress) (k : Link) (v : Lit) (chains : List (List Link)) → place_of k < length w.slots
    → (Contains (lits_of t.entries) (negation v) → ⊥) → IsKept w t p
    → IsKept (record w { slots = set w.slots (place_of k) (Some v); chains = chains }) t p
IsKept-move w t p k v chains lt free h =
    let within = h.head in
    record {
      head = h.head;
      ready = h.ready;
      starts = h.starts;
      held = λ m l s at. elim (cases_eq (place_of m) (place_of k)) [
        | inl here ↦
            (let is : Some v ≡ Some l = sym (get_or-set_same w.slots (place_of k) (Some v) None lt) ∙ ap (λ (i : ℕ). get_or (set w.slots (place_of k) (Some v)) i None) (sym here) ∙ at in
            let same : v ≡ l = some_same v l is in
            Held-open (lits_of t.entries) t.starts p.head (clause_at w.clauses m.clause) l (omega (arith, lits_length t.entries)) (rw same at free))
        | inr apart ↦ h.held m l s (sym (get_or-set_other w.slots (place_of k) (place_of m) (Some v) None apart) ∙ at)
      ];
      rooted = λ c below at. elim (cases_eq (place_of (slot_of c 0)) (place_of k)) [
        | inl here ↦
            absurd (none_not_some v (sym (get_or-set_same w.slots (place_of k) (Some v) None lt) ∙ ap (λ (i : ℕ). get_or (set w.slots (place_of k) (Some v)) i None) (sym here) ∙ at))
        | inr apart ↦ h.rooted c below (sym (get_or-set_other w.slots (place_of k) (place_of (slot_of c 0)) (Some v) None apart) ∙ at)
      ];
    }

-- it is looked again from an earlier entry on
pub IsKept-lower : (w : Watched) (t new : TrailView) (p : Progress) (less : ℕ) → IsLowered t new p.head less → IsKept w t p → IsKept w new (record p { head = less })
IsKept-lower w t new p less low h =
    let within = h.head in
    let lower = low.lower in
    let entries : new.entries ≡ t.entries = ap (λ (x : TrailView). x.entries) low.same in
    let fewer = low.fewer in
    record {
      head = rw entries (omega arith);
      ready = h.ready;
      starts = low.within h.starts;
      held = λ k l s at. rw entries (Held-cut (lits_of t.entries) t.starts new.starts p.head less (clause_at w.clauses k.clause) l low.lower low.fewer (h.held k l s at));
      rooted = λ c lt at. rw entries (Rooted-cut (lits_of t.entries) t.starts new.starts (clause_at w.clauses c) low.fewer (h.rooted c lt at));
    }

-- the next entry was looked at: each clause that watches its negation is true
pub IsKept-next : (w : Watched) (t : TrailView) (p : Progress) → p.head < length t.entries → IsKept w t p
    → ((k : Link) (l : Lit) → IsSlot p.ready k → watch_at w.slots k ≡ Some l → lit_at (lits_of t.entries) p.head ≡ negation l → HasTrue (lits_of t.entries) (clause_at w.clauses k.clause))
    → IsKept w t (record p { head = p.head + 1 })
IsKept-next w t p lt h looked = record {
  head = omega arith;
  ready = h.ready;
  starts = λ k d at. let le = h.starts k d at in omega arith;
  held = λ k l s at. Held-next (lits_of t.entries) t.starts p.head (clause_at w.clauses k.clause) l h.starts (h.held k l s at) (looked k l s at);
  rooted = h.rooted;
}

-- the next clause was looked at
pub IsKept-admit : (w : Watched) (t : TrailView) (p : Progress) → p.ready < length w.clauses → IsKept w t p
    → ((k : Link) (l : Lit) → IsSlot (length w.clauses) k → k.clause ≡ p.ready → watch_at w.slots k ≡ Some l → Held (lits_of t.entries) t.starts p.head (clause_at w.clauses p.ready) l)
    → (watch_at w.slots (slot_of p.ready 0) ≡ None → Rooted (lits_of t.entries) t.starts (clause_at w.clauses p.ready))
    → IsKept w t (record p { ready = p.ready + 1 })
IsKept-admit w t p lt h held rooted = record {
  head = h.head;
  ready = omega arith;
  starts = h.starts;
  held = λ k l s at.
      let below = s.clause in
      let slot = s.slot in
      elim (cases_lt k.clause p.ready) [
        | inl before ↦ h.held k l (record { clause = before; slot = slot }) at
        | inr ge ↦
            (let here : k.clause ≡ p.ready = omega arith in
            subst (λ (c : ℕ). Held (lits_of t.entries) t.starts p.head (clause_at w.clauses c) l) (sym here) (held k l (record { clause = omega arith; slot = slot }) here at))
      ];
  rooted = λ c below at. elim (cases_lt c p.ready) [
    | inl before ↦ h.rooted c before at
    | inr ge ↦
        (let here : c ≡ p.ready = omega arith in
        subst (λ (n : ℕ). Rooted (lits_of t.entries) t.starts (clause_at w.clauses n)) (sym here) (rooted (rw here at at)))
  ];
}

-- entries are taken back, and it is looked again from where a level begins
pub IsKept-back : (w : Watched) (t : TrailView) (p : Progress) (keep less : ℕ) → keep ≤ length t.entries → less ≤ keep → Contains t.starts less
    → All (λ s. s ≤ less) (starts_below keep t.starts) → IsKept w t p
    → IsKept w (record t { entries = take keep t.entries; starts = starts_below keep t.starts }) (record p { head = less })
IsKept-back w t p keep less kept lk at within h =
    let size = length-take keep t.entries in
    let lower : less ≤ p.head = All-contains (λ s. s ≤ p.head) t.starts less h.starts at in
    let lits : lits_of (take keep t.entries) ≡ take keep (lits_of t.entries) = sym (take-map (λ (e : Entry). e.lit) keep t.entries) in
    let sub = λ (s : ℕ) (has : Contains (starts_below keep t.starts) s). (in-starts_below keep t.starts s has).0 in
    record {
      head = omega arith;
      ready = h.ready;
      starts = within;
      held = λ k l s is. rw lits (Held-back (lits_of t.entries) t.starts (starts_below keep t.starts) p.head less keep (clause_at w.clauses k.clause) l lower lk at sub (h.held k l s is));
      rooted = λ c lt is. rw lits (Rooted-back (lits_of t.entries) t.starts (starts_below keep t.starts) less keep (clause_at w.clauses c) lk at sub (h.rooted c lt is));
    }

-- a clause is added, and was not looked at yet
pub IsKept-add : (w : Watched) (t : TrailView) (p : Progress) (c : List Lit) (a b : Option Lit) (chains : List (List Link)) → IsPaired w → IsKept w t p
    → IsKept (record w { clauses = w.clauses ++ c ∷ []; slots = w.slots ++ a ∷ b ∷ []; chains = chains }) t p
IsKept-add w t p c a b chains pair h =
    let size = length_push w.clauses c in
    let slots = pair.slots in
    let ready = h.ready in
    record {
      head = h.head;
      ready = omega arith;
      starts = h.starts;
      held = λ k l s at.
          let below = s.clause in
          let slot = s.slot in
          rw (get_or_append_left w.clauses (c ∷ []) [] k.clause (omega arith)) (h.held k l s (sym (get_or_append_left w.slots (a ∷ b ∷ []) None (place_of k) (omega arith)) ∙ at));
      rooted = λ n lt at.
          rw (get_or_append_left w.clauses (c ∷ []) [] n (omega arith)) (h.rooted n lt (sym (get_or_append_left w.slots (a ∷ b ∷ []) None (place_of (slot_of n 0)) (omega arith)) ∙ at));
    }
