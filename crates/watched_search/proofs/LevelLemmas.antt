use Rattle.std.proofs.Common.{◌≡◌, ℕ, ◌+◌, ◌-◌, ◌<◌, ◌≤◌, inl, inr, List, [], ◌∷◌, ◌++◌, length, take, get_or, Some, None, refl, sym, ◌∙◌, ap, subst, arith}
use Rattle.std.specs.Prelude.{Contains, slice_get}
use Rattle.std.proofs.lemmas.List.{length-map, length-append, get_or_append_left}
use Rattle.std.proofs.lemmas.List.Elements.{All-push, All-weaker, All-contains, All-contains_itself, Contains-push_cases, Contains-get_or}
use Rattle.std.proofs.lemmas.Option.{get_or_from_slice_get, slice_get_within, slice_get-get_or}
use Rattle.sat_formula.specs.declared.lit.Lit.{Lit}
use Rattle.sat_formula.specs.Lit.{IsBelow, top_lit}
use Rattle.refutation_checker.specs.Follows.{negation}
use Rattle.refutation_checker.proofs.TrailLemmas.{Lit-same, not_not}
use Rattle.watch_chains.specs.Watches.{list_at}
use Rattle.watched_search.specs.declared.entry.Entry.{Entry}
use Rattle.watched_search.specs.declared.propagation.Progress.{Progress}
use Rattle.watched_search.specs.Codes.{code}
use Rattle.watched_search.specs.Trail.{TrailView, lits_of, IsTrail, starts_below, starts_from}
use Rattle.watched_search.specs.Searching.{clause_at, lit_at, HasTrue}
use Rattle.watched_search.specs.inner.Keeping.{Watched, Held, Rooted, IsKept}
use Rattle.watched_search.specs.inner.Visiting.{IsDriven, Advances, IsWalked}
use Rattle.watched_search.proofs.StartLemmas.{Rising, below_all, in-starts_below, in-starts_from, starts-last}
use Rattle.watched_search.proofs.TrailLemmas.{lits-append, lit_of-entry, no_entry}
use Rattle.watched_search.proofs.WalkLemmas.{IsDriven-trans}
use Rattle.watched_search.proofs.SettleLemmas.{entry_at}
use Rattle.watched_search.proofs.KeepLemmas.{IsKept-none, IsKept-next, IsKept-back}

-- a level begins behind all entries

more_starts : (T : List Lit) (starts : List ℕ) (s j : ℕ) → s ≡ length T → j < length T → (n : ℕ) → Contains (starts ++ s ∷ []) n → n ≤ j → Contains starts n
more_starts T starts s j e lt n has le = elim (Contains-push_cases starts s n has) [ inl old ↦ old | inr same ↦ absurd (omega arith) ]

Held-start : (T : List Lit) (starts : List ℕ) (head s : ℕ) (c : List Lit) (l : Lit) → s ≡ length T → Held T starts head c l → Held T (starts ++ s ∷ []) head c l
Held-start T starts head s c l e h = λ k lt at.
    let p = h k lt at in
    (p.0, p.1, p.2, λ n has le. p.3 n (more_starts T starts s p.0 e p.1 n has le) le)

Rooted-start : (T : List Lit) (starts : List ℕ) (s : ℕ) (c : List Lit) → s ≡ length T → Rooted T starts c → Rooted T (starts ++ s ∷ []) c
Rooted-start T starts s c e p =
    (p.0, p.1, p.2, λ n has. elim (Contains-push_cases starts s n has) [ inl old ↦ p.3 n old | inr same ↦ let lt = p.1 in omega arith ])

pub IsKept-start : (w : Watched) (t : TrailView) (p : Progress) (s : ℕ) → s ≡ length t.entries → p.head ≡ length t.entries → IsKept w t p → IsKept w (record t { starts = t.starts ++ s ∷ [] }) p
IsKept-start w t p s e head h =
    let long : length (lits_of t.entries) ≡ length t.entries = length-map t.entries (λ (x : Entry). x.lit) in
    record {
      head = h.head;
      ready = h.ready;
      starts = All-push (λ n. n ≤ p.head) t.starts s h.starts (omega arith);
      held = λ k l slot at. Held-start (lits_of t.entries) t.starts p.head s (clause_at w.clauses k.clause) l (e ∙ sym long) (h.held k l slot at);
      rooted = λ c lt at. Rooted-start (lits_of t.entries) t.starts s (clause_at w.clauses c) (e ∙ sym long) (h.rooted c lt at);
    }

-- entries are taken back

pub back_to_cut : (w : Watched) (t : TrailView) (p : Progress) (keep start : ℕ) → keep ≤ length t.entries → Some start ≡ slice_get (starts_from keep t.starts) 0 → start ≡ keep → IsKept w t p
    → IsKept w (record t { entries = take keep t.entries; starts = starts_below keep t.starts }) (record p { head = keep })
back_to_cut w t p keep start le e same h =
    let has = (in-starts_from keep t.starts start (sym e)).0 in
    IsKept-back w t p keep keep le (omega arith) (rw same at has)
    (All-weaker (λ s. s < keep) (λ s. s ≤ keep) (λ s lt. omega arith) (starts_below keep t.starts) (below_all keep t.starts)) h

pub back_to_start : (w : Watched) (t : TrailView) (p : Progress) (keep start : ℕ) → keep ≤ length t.entries → Rising (starts_below keep t.starts)
    → Some start ≡ slice_get (starts_below keep t.starts) (length (starts_below keep t.starts) - 1) → IsKept w t p
    → IsKept w (record t { entries = take keep t.entries; starts = starts_below keep t.starts }) (record p { head = start })
back_to_start w t p keep start le rising e h =
    let left = starts_below keep t.starts in
    let within = slice_get_within left (length left - 1) start (sym e) in
    let has : Contains left start = rw (get_or_from_slice_get left (length left - 1) start 0 (sym e)) at (Contains-get_or left (length left - 1) 0 within) in
    let p' = in-starts_below keep t.starts start has in
    let before = p'.1 in
    IsKept-back w t p keep start le (omega arith) p'.0
    (All-weaker (Contains left) (λ s. s ≤ start) (λ s is. starts-last left start s rising (sym e) is) left (All-contains_itself left)) h

none_some : (n : ℕ) (A : Type 0) → None ≡ Some n → A
none_some n A e = cc

no_start : (starts : List ℕ) → None ≡ slice_get starts (length starts - 1) → starts ≡ []
no_start [] e = refl
no_start (x ∷ xs) e =
    let some = slice_get-get_or (x ∷ xs) (length (x ∷ xs) - 1) 0 (omega arith) in
    none_some (get_or (x ∷ xs) (length (x ∷ xs) - 1) 0) (x ∷ xs ≡ []) (e ∙ some)

pub back_to_none : (w : Watched) (t : TrailView) (keep : ℕ) → None ≡ slice_get (starts_below keep t.starts) (length (starts_below keep t.starts) - 1)
    → IsKept w (record t { entries = take keep t.entries; starts = starts_below keep t.starts }) (record { head = 0; ready = 0 })
back_to_none w t keep e = IsKept-none w (record t { entries = take keep t.entries; starts = starts_below keep t.starts }) (no_start (starts_below keep t.starts) e)

-- an entry is looked at

twice_negated : (l : Lit) → negation (negation l) ≡ l
twice_negated l = Lit-same (negation (negation l)) l refl (not_not l.neg)

module _ (t : TrailView) (k : ℕ) (l : Lit) (sound : IsTrail t) (lt : k < length t.entries) (is : l ≡ negation (get_or t.entries k no_entry).lit) where
  pub next_below : l.var < t.room
  next_below =
      let below = All-contains (IsBelow t.room) (lits_of t.entries) (get_or t.entries k no_entry).lit sound.below (lit_of-entry t.entries k no_entry lt) in
      rw is below

  pub next_false : Contains (lits_of t.entries) (negation l)
  next_false = rw (is, twice_negated (get_or t.entries k no_entry).lit) (lit_of-entry t.entries k no_entry lt)

  pub next_lit : lit_at (lits_of t.entries) k ≡ negation l
  next_lit = entry_at t.entries k lt ∙ sym (ap negation is ∙ twice_negated (get_or t.entries k no_entry).lit)

pub drives_on : (clauses : List (List Lit)) (w x : Watched) (t u v : TrailView) → w.clauses ≡ clauses → IsDriven clauses t u → Advances w x u v → IsDriven clauses t v
drives_on clauses w x t u v e d a = IsDriven-trans clauses t u v d (subst (λ (cs : List (List Lit)). IsDriven cs u v) e a.driven)

negation_same : (l m : Lit) → negation l ≡ negation m → l ≡ m
negation_same l m e = sym (twice_negated l) ∙ ap negation e ∙ twice_negated m

lits_before : (xs : List Entry) (ys : List Entry) (k : ℕ) → k < length xs → lit_at (lits_of (xs ++ ys)) k ≡ lit_at (lits_of xs) k
lits_before xs ys k lt =
    let long : length (lits_of xs) ≡ length xs = length-map xs (λ (x : Entry). x.lit) in
    ap (λ (T : List Lit). lit_at T k) (lits-append xs ys) ∙ get_or_append_left (lits_of xs) (lits_of ys) top_lit k (omega arith)

-- all clauses that the negation of an entry watches are true
pub next_kept : (w x : Watched) (t u : TrailView) (p : Progress) (l : Lit) → Advances w x t u → p.head < length t.entries → lit_at (lits_of t.entries) p.head ≡ negation l
    → p.ready ≡ length w.clauses → IsKept w t p → IsWalked x u l None → IsKept x u (record p { head = p.head + 1 })
next_kept w x t u p l a lt at ready h walked =
    let kept = a.kept p h in
    let longer : length u.entries ≡ length t.entries + length a.driven.more = ap length a.driven.entries ∙ length-append t.entries a.driven.more in
    let same : lit_at (lits_of u.entries) p.head ≡ negation l = ap (λ (es : List Entry). lit_at (lits_of es) p.head) a.driven.entries ∙ lits_before t.entries a.driven.more p.head lt ∙ at in
    IsKept-next x u p (omega arith) kept (λ k m s is e.
    let it : m ≡ l = negation_same m l (sym e ∙ same) in
    let slot = s.slot in
    let clause = s.clause in
    let long : length x.clauses ≡ length w.clauses = ap length a.clauses in
    All-contains (λ n. HasTrue (lits_of u.entries) (clause_at x.clauses n.clause)) (list_at x.chains (code l)) k walked
    (subst (λ (y : Lit). Contains (list_at x.chains (code y)) k) it (a.paired.linked k m (record { clause = omega arith; slot = slot }) is)))
