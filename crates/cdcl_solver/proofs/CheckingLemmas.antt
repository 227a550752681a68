use Rattle.std.proofs.Common.{◌≡◌, ℕ, ◌+◌, ◌-◌, ◌<◌, ◌≤◌, inl, Bool, false, List, [], ◌∷◌, ◌++◌, length, drop, take, map, All, Option, Some, None, get_or, refl, sym, ◌∙◌, ap, subst}
use Rattle.std.specs.Prelude.{Contains, is_some}
use Rattle.std.proofs.lemmas.List.{take_more, length-map}
use Rattle.sat_formula.specs.declared.lit.Lit.{Lit}
use Rattle.sat_formula.specs.Lit.{IsBelow, top_lit}
use Rattle.refutation_checker.specs.Marks.{TellsValue}
use Rattle.refutation_checker.specs.Follows.{negation, IsFalse, IsUnit, Propagates}
use Rattle.refutation_checker.proofs.StatusLemmas.{Found, IsUnit-first, IsUnit-more}
use Rattle.refutation_checker.proofs.HintLemmas.{split_at, left_none}
use Rattle.refutation_checker.proofs.AssumeLemmas.{assumed_more, HasNoOpposites-step}
use Rattle.watched_search.specs.declared.entry.Entry.{Entry}
use Rattle.watched_search.specs.Trail.{TrailView, lits_of}
use Rattle.watched_search.specs.Codes.{code, literal}
use Rattle.watched_search.proofs.TrailLemmas.{lits-append}
use Rattle.watched_search.proofs.SpanLemmas.{literal-code, literal_at}
use Rattle.cdcl_solver.specs.inner.Checking.{IsAlone, Assumes}

-- clauses as codes

pub literal_same : (l : Lit) (n : ℕ) → code l ≡ n → literal n ≡ l
literal_same l n e = ap (λ (m : ℕ). literal m) (sym e) ∙ literal-code l

pub literals_more : (codes : List ℕ) (i d : ℕ) → i < length codes → take (i + 1) (map (λ n. literal n) codes) ≡ take i (map (λ n. literal n) codes) ++ literal (get_or codes i d) ∷ []
literals_more codes i d lt =
    let lits : List Lit = map (λ n. literal n) codes in
    take_more lits i top_lit (rw (length-map codes (λ n. literal n)) lt) ∙ ap (λ (l : Lit). take i lits ++ l ∷ []) (literal_at codes i d lt)

pub literal_below : (codes : List ℕ) (room i d : ℕ) → All (IsBelow room) (map (λ n. literal n) codes) → i < length codes → IsBelow room (literal (get_or codes i d))
literal_below codes room i d below lt = rw (literal_at codes i d lt) at (below i top_lit (rw (length-map codes (λ n. literal n)) lt))

-- what is so of a code's literal is so of the literal that was made of it
pub literal_is : (P : Lit → Type 0) (l : Lit) (n : ℕ) → code l ≡ n → P (literal n) → P l
literal_is P l n e = subst P (literal_same l n e)

-- the literal whose code was found, if one was
abbrev pub literal_found : Option ℕ → Option Lit
literal_found None = None
literal_found (Some n) = Some (literal n)

-- one more literal that has no value
pub Found-alone : (T front : List Lit) (found : Option ℕ) (n : ℕ) → Found T front (literal_found found) → IsAlone found n → (Contains T (literal n) → ⊥) → (Contains T (negation (literal n)) → ⊥)
    → IsUnit T (front ++ literal n ∷ []) (literal n)
Found-alone T front None n h alone nt nf = IsUnit-first T front (literal n) h (nt, nf)
Found-alone T front (Some other) n h alone nt nf = IsUnit-more T front (literal n) (literal n) (rw alone at h) (inl refl)

-- a trail that grows

pub pushed_kept : (first before after : TrailView) (es : List Entry) → before ≡ record first { entries = before.entries } → after ≡ record before { entries = es } → after ≡ record first { entries = after.entries }
pushed_kept first before after es kept pushed =
    let same : after ≡ record first { entries = es } = pushed ∙ ap (λ (t : TrailView). record t { entries = es }) kept in
    same ∙ ap (λ (more : List Entry). record first { entries = more }) (sym (ap (λ (t : TrailView). t.entries) same))

pub no_value : (T : List Lit) (l : Lit) (v : Option Bool) → TellsValue T l v → false ≡ is_some v → (Contains T l → ⊥) × (Contains T (negation l) → ⊥)
no_value T l None told none = told
no_value T l (Some b) told none = cc

pub assumed_next : (lits : List Lit) (i : ℕ) (d : Lit) (es after : List Entry) (e : Entry) → i < length lits → after ≡ es ++ e ∷ [] → e.lit ≡ negation (get_or lits i d)
    → (Contains (lits_of es) (get_or lits i d) → ⊥) → Assumes (take i lits) (lits_of es) → Assumes (take (i + 1) lits) (lits_of after)
assumed_next lits i d es after e lt grown own free before = record {
  made = rw (grown, lits-append es (e ∷ []), own) (assumed_more lits (lits_of es) i d lt before.made);
  apart = HasNoOpposites-step lits (lits_of es) i d lt before.made before.apart free;
}

-- hints

unit_then : (K : List (List Lit)) (T : List Lit) (h : ℕ) (u : Lit) (hs : List ℕ) → 0 < h → h ≤ length K → IsUnit T (get_or K (h - 1) []) u → Propagates K (T ++ u ∷ []) hs
    → Propagates K T (h ∷ hs)
unit_then K T h u [] a b unit p = absurd p
unit_then K T h u (k ∷ hs) a b unit p = (a, (b, (u, (unit, p))))

module _ (K : List (List Lit)) (T : List Lit) (hints : List ℕ) (i : ℕ) (lt : i < length hints) (some : 0 < get_or hints i 0) (within : get_or hints i 0 ≤ length K) where
  pub at_unit : (u : Lit) → IsUnit T (get_or K (get_or hints i 0 - 1) []) u → Propagates K (T ++ u ∷ []) (drop (i + 1) hints) → Propagates K T (drop i hints)
  at_unit u unit p = rw (split_at hints i lt) (unit_then K T (get_or hints i 0) u (drop (i + 1) hints) some within unit p)

  pub at_last : IsFalse T (get_or K (get_or hints i 0 - 1) []) → i + 1 ≡ length hints → Propagates K T (drop i hints)
  at_last f e = rw (split_at hints i lt, left_none hints i e) (some, (within, f))
