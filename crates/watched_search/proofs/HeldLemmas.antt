use Rattle.std.proofs.Common.{◌≡◌, ◌≢◌, ℕ, ◌+◌, ◌<◌, ◌≤◌, ◌⊎◌, inl, inr, Bool, true, false, List, [], ◌∷◌, ◌++◌, length, take, All, Option, Some, None, refl, sym, ◌∙◌, ap, subst, arith}
use Rattle.std.specs.Prelude.{Contains}
use Rattle.std.proofs.lemmas.Bool.{cases_eq, cases_lt}
use Rattle.std.proofs.lemmas.List.{get_or_default, get_or_append_left, length_push, length-map, get_or-take, length-take}
use Rattle.std.proofs.lemmas.List.Elements.{All-contains, Contains-get_or, Contains-append_left, Contains-append_right, Contains-push}
use Rattle.sat_formula.specs.declared.lit.Lit.{Lit}
use Rattle.sat_formula.specs.Lit.{top_lit}
use Rattle.refutation_checker.specs.Follows.{negation}
use Rattle.refutation_checker.proofs.TrailLemmas.{Lit-same, Contains-nil, Contains-cons_cases}
use Rattle.watched_search.specs.declared.entry.Entry.{Entry}
use Rattle.watched_search.specs.declared.propagation.Progress.{Progress}
use Rattle.watched_search.specs.Trail.{TrailView, lits_of}
use Rattle.watched_search.specs.Searching.{clause_at, lit_at, HasTrue, IsOpen}
use Rattle.watched_search.specs.inner.Keeping.{Watched, slot_of, watch_at, IsPairOf, IsPaired, SameLevel, Held, Rooted, IsKept}

lit_at-push : (T : List Lit) (m : Lit) (k : ℕ) → k < length T → lit_at (T ++ m ∷ []) k ≡ lit_at T k
lit_at-push T m k lt = get_or_append_left T (m ∷ []) top_lit k lt

-- a literal becomes true
pub Held-push : (T : List Lit) (starts : List ℕ) (head : ℕ) (c : List Lit) (l m : Lit) → head ≤ length T → Held T starts head c l
    → Held (T ++ m ∷ []) starts head c l
Held-push T starts head c l m le h = λ k lt e.
    let size = length_push T m in
    let p = h k lt (sym (lit_at-push T m k (omega arith)) ∙ e) in
    let at = p.1 in
    (p.0, omega arith, rw (lit_at-push T m p.0 p.1) p.2, p.3)

pub Rooted-push : (T : List Lit) (starts : List ℕ) (c : List Lit) (m : Lit) → Rooted T starts c → Rooted (T ++ m ∷ []) starts c
Rooted-push T starts c m p =
    let size = length_push T m in
    let at = p.1 in
    (p.0, omega arith, rw (lit_at-push T m p.0 p.1) p.2, p.3)

-- a true literal serves where no level begins later
pub served : (T : List Lit) (starts : List ℕ) (k : ℕ) (c : List Lit) → All (λ s. s ≤ k) starts → HasTrue T c
    → (j : ℕ) × (j < length T) × Contains c (lit_at T j) × SameLevel starts k j
served T starts k c within t =
    let j = t.2.0 in
    let at : lit_at T j ≡ t.0 = get_or_default T j top_lit t.0 t.2.1 ∙ t.2.2 in
    (j, t.2.1, rw at t.1, λ s has le. All-contains (λ s. s ≤ k) starts s within has)

-- one more entry was looked at
pub Held-next : (T : List Lit) (starts : List ℕ) (head : ℕ) (c : List Lit) (l : Lit) → All (λ s. s ≤ head) starts → Held T starts head c l
    → (lit_at T head ≡ negation l → HasTrue T c) → Held T starts (head + 1) c l
Held-next T starts head c l within h now = λ k lt e. elim (cases_lt k head) [
  | inl before ↦ h k before e
  | inr ge ↦
      (let at : k ≡ head = omega arith in
      subst (λ (i : ℕ). (j : ℕ) × (j < length T) × Contains c (lit_at T j) × SameLevel starts i j) (sym at)
      (served T starts head c within (now (ap (λ (i : ℕ). lit_at T i) (sym at) ∙ e))))
]

-- what is not false is held
pub Held-open : (T : List Lit) (starts : List ℕ) (head : ℕ) (c : List Lit) (l : Lit) → head ≤ length T → (Contains T (negation l) → ⊥)
    → Held T starts head c l
Held-open T starts head c l le free = λ k lt e. absurd (free (rw e at (Contains-get_or T k top_lit (omega arith))))

-- levels are forgotten, and entries are to be looked at again
pub Held-cut : (T : List Lit) (starts fewer : List ℕ) (head less : ℕ) (c : List Lit) (l : Lit) → less ≤ head
    → ((s : ℕ) → Contains fewer s → Contains starts s) → Held T starts head c l → Held T fewer less c l
Held-cut T starts fewer head less c l le sub h = λ k lt e.
    let p = h k (omega arith) e in
    (p.0, p.1, p.2, λ s has at. p.3 s (sub s has) at)

pub Rooted-cut : (T : List Lit) (starts fewer : List ℕ) (c : List Lit) → ((s : ℕ) → Contains fewer s → Contains starts s) → Rooted T starts c → Rooted T fewer c
Rooted-cut T starts fewer c sub p = (p.0, p.1, p.2, λ s has. p.3 s (sub s has))

-- entries are taken back, and it is looked again from where a level began
pub Held-back : (T : List Lit) (starts fewer : List ℕ) (head less keep : ℕ) (c : List Lit) (l : Lit) → less ≤ head → less ≤ keep
    → Contains starts less → ((s : ℕ) → Contains fewer s → Contains starts s) → Held T starts head c l → Held (take keep T) fewer less c l
Held-back T starts fewer head less keep c l lh lk at sub h = λ k lt e.
    let size = length-take keep T in
    let old : lit_at (take keep T) k ≡ lit_at T k = get_or-take keep T k top_lit (omega arith) in
    let p = h k (omega arith) (sym old ∙ e) in
    let within = p.1 in
    let before : p.0 < less = elim (cases_lt p.0 less) [ inl b ↦ b | inr ge ↦ let bad = p.3 less at (omega arith) in absurd (omega arith) ] in
    (p.0, omega arith, rw (get_or-take keep T p.0 top_lit (omega arith)) p.2, λ s has le. p.3 s (sub s has) le)

pub Rooted-back : (T : List Lit) (starts fewer : List ℕ) (less keep : ℕ) (c : List Lit) → less ≤ keep
    → Contains starts less → ((s : ℕ) → Contains fewer s → Contains starts s) → Rooted T starts c → Rooted (take keep T) fewer c
Rooted-back T starts fewer less keep c lk at sub p =
    let size = length-take keep T in
    let within = p.1 in
    let before = p.3 less at in
    (p.0, omega arith, rw (get_or-take keep T p.0 top_lit (omega arith)) p.2, λ s has. p.3 s (sub s has))

-- whether a literal is in a list

bool_cases : (a b : Bool) → (a ≡ b) ⊎ (a ≡ b → ⊥)
bool_cases true true = inl refl
bool_cases true false = inr (λ e. cc)
bool_cases false true = inr (λ e. cc)
bool_cases false false = inl refl

pub lit_cases : (a b : Lit) → (a ≡ b) ⊎ (a ≡ b → ⊥)
lit_cases a b = elim (cases_eq a.var b.var) [
  | inr ne ↦ inr (λ e. ne (ap (λ (l : Lit). l.var) e))
  | inl v ↦ elim (bool_cases a.neg b.neg) [
    | inl n ↦ inl (Lit-same a b v n)
    | inr ne ↦ inr (λ e. ne (ap (λ (l : Lit). l.neg) e))
  ]
]

pub has_cases : (T : List Lit) (l : Lit) → Contains T l ⊎ (Contains T l → ⊥)
has_cases [] l = inr (Contains-nil l)
has_cases (x ∷ T) l = elim (lit_cases x l) [
  | inl e ↦ inl (subst (λ (m : Lit). Contains (x ∷ T) m) e (Contains-append_left (x ∷ []) T x (Contains-push [] x)))
  | inr ne ↦ elim (has_cases T l) [
    | inl h ↦ inl (Contains-append_right (x ∷ []) T l h)
    | inr none ↦ inr (λ h. elim (Contains-cons_cases x T l h) [ inl e ↦ ne e | inr r ↦ none r ])
  ]
]

-- once all entries were looked at, a watched clause is open

held_true : (T : List Lit) (starts : List ℕ) (c : List Lit) (l : Lit) → Held T starts (length T) c l → Contains T (negation l) → HasTrue T c
held_true T starts c l h false' =
    let at : lit_at T false'.0 ≡ negation l = get_or_default T false'.0 top_lit (negation l) false'.1 ∙ false'.2 in
    let p = h false'.0 false'.1 at in
    (lit_at T p.0, p.2, Contains-get_or T p.0 top_lit p.1)

two_open : (T : List Lit) (starts : List ℕ) (c : List Lit) (a b : Lit) → Contains c a → Contains c b → a ≢ b
    → Held T starts (length T) c a → Held T starts (length T) c b → IsOpen T c
two_open T starts c a b in_a in_b apart ha hb =
    elim (has_cases T (negation a)) [
      | inl f ↦ inl (held_true T starts c a ha f)
      | inr na ↦ elim (has_cases T (negation b)) [
        | inl f ↦ inl (held_true T starts c b hb f)
        | inr nb ↦ elim (has_cases T a) [
          | inl t ↦ inl (a, in_a, t)
          | inr fa ↦ elim (has_cases T b) [
            | inl t ↦ inl (b, in_b, t)
            | inr fb ↦ inr (a, b, in_a, in_b, apart, (fa, na), (fb, nb))
          ]
        ]
      ]
    ]

open_of : (T : List Lit) (starts : List ℕ) (c : List Lit) (a b : Option Lit) → IsPairOf c a b
    → ((l : Lit) → a ≡ Some l → Held T starts (length T) c l) → ((l : Lit) → b ≡ Some l → Held T starts (length T) c l)
    → (a ≡ None → Rooted T starts c) → IsOpen T c
open_of T starts c None None pair ha hb root = let p = root refl in inl (lit_at T p.0, p.2, Contains-get_or T p.0 top_lit p.1)
open_of T starts c None (Some b) pair ha hb root = absurd pair
open_of T starts c (Some a) None pair ha hb root = absurd pair
open_of T starts c (Some a) (Some b) pair ha hb root = two_open T starts c a b pair.0 pair.1 pair.2 (ha a refl) (hb b refl)

-- where all is looked at, each clause is open
pub kept_open : (w : Watched) (t : TrailView) (p : Progress) → IsPaired w → IsKept w t p → p.head ≡ length t.entries → p.ready ≡ length w.clauses
    → All (IsOpen (lits_of t.entries)) w.clauses
kept_open w t p pair kept head ready = λ c d lt.
    let T = lits_of t.entries in
    let all : length T ≡ p.head = length-map t.entries (λ (e : Entry). e.lit) ∙ sym head in
    let before : c < p.ready = omega arith in
    rw (get_or_default w.clauses c d [] lt) (
    open_of T t.starts (clause_at w.clauses c) (watch_at w.slots (slot_of c 0)) (watch_at w.slots (slot_of c 1)) (pair.pairs c lt)
    (λ l e. subst (λ (n : ℕ). Held T t.starts n (clause_at w.clauses c) l) (sym all) (kept.held (slot_of c 0) l (record { clause = before; slot = omega arith }) e))
    (λ l e. subst (λ (n : ℕ). Held T t.starts n (clause_at w.clauses c) l) (sym all) (kept.held (slot_of c 1) l (record { clause = before; slot = omega arith }) e))
    (λ e. kept.rooted c before e))
