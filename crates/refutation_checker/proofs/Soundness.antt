use Rattle.std.proofs.Common.{◌≡◌, ℕ, suc, ◌+◌, ◌-◌, ◌<◌, ◌≤◌, ◌⊎◌, inl, inr, Bool, true, false, not, ◌||◌, List, [], ◌∷◌, ◌++◌, length, take, map, IsTrue, All, Some, get_or, refl, sym, ◌∙◌, ap, arith, append_assoc, add-one, zero}
use Rattle.std.specs.Prelude.{Contains, slice_get}
use Rattle.std.proofs.lemmas.Bool.{false≢true, not-true, cases_Bool, eqb-true, cases_eq}
use Rattle.std.proofs.lemmas.List.{take_more, map-append, append-nil, nil_from_length}
use Rattle.std.proofs.lemmas.List.Elements.{All-nil, All-head, All-tail, All-cons, All-contains, All-push, All-map}
use Rattle.std.proofs.lemmas.Option.{slice_get-get_or}
use Rattle.sat_formula.specs.declared.lit.Lit.{Lit}
use Rattle.sat_formula.specs.Lit.{lit_value}
use Rattle.sat_formula.specs.Clause.{clause_true, AllTrue}
use Rattle.sat_formula.proofs.GateClauses.{lit_value-negation}
use Rattle.refutation_checker.specs.declared.log.Step.{Step}
use Rattle.refutation_checker.specs.Follows.{negation, IsFalse, Propagates, known, Follows, EachFollows, IsUnsatisfiable, ends_empty}

-- each literal of the trail is true
abbrev pub Agrees : List Bool → List Lit → Type 0
Agrees a T = All (λ l. lit_value l a ≡ true) T

false_lit : (a : List Bool) (T : List Lit) (l : Lit) → Agrees a T → Contains T (negation l) → lit_value l a ≡ false
false_lit a T l h c = not-true (lit_value l a) (sym (lit_value-negation l a) ∙ All-contains (λ m. lit_value m a ≡ true) T (negation l) h c)

false_clause : (a : List Bool) (T c : List Lit) → Agrees a T → IsFalse T c → clause_true a c ≡ false
false_clause a T [] h f = refl
false_clause a T (l ∷ c) h f =
    let p = false_lit a T l h (All-head (λ m. Contains T (negation m)) l c f) in
    let q = false_clause a T c h (All-tail (λ m. Contains T (negation m)) l c f) in
    rw (p, q)

unit_true : (a : List Bool) (T c : List Lit) (u : Lit) → Agrees a T → All (λ l. (l ≡ u) ⊎ Contains T (negation l)) c → clause_true a c ≡ true → lit_value u a ≡ true
unit_true a T [] u h f e = absurd (false≢true e)
unit_true a T (l ∷ c) u h f e =
    elim (All-head (λ m. (m ≡ u) ⊎ Contains T (negation m)) l c f) [
      | inl same ↦ elim (cases_Bool (lit_value u a)) [
        | inl t ↦ t
        | inr n ↦ unit_true a T c u h (All-tail (λ m. (m ≡ u) ⊎ Contains T (negation m)) l c f) (rw (same, n) at e)
      ]
      | inr opposed ↦
          (let n : lit_value l a ≡ false = false_lit a T l h opposed in
          unit_true a T c u h (All-tail (λ m. (m ≡ u) ⊎ Contains T (negation m)) l c f) (rw n at e))
    ]

pub Propagates-sound : (known : List (List Lit)) (T : List Lit) (hints : List ℕ) (a : List Bool) → AllTrue a known → Agrees a T → Propagates known T hints → ⊥
Propagates-sound known T [] a sat h p = p
Propagates-sound known T (k ∷ []) a sat h p =
    let some : 0 < k = p.0 in
    let in' : k ≤ length known = p.1.0 in
    false≢true (sym (false_clause a T _ h p.1.1) ∙ sat (k - 1) [] (omega arith))
Propagates-sound known T (k ∷ j ∷ hs) a sat h p =
    let some : 0 < k = p.0 in
    let in' : k ≤ length known = p.1.0 in
    let u : Lit = p.1.1.0 in
    let t : lit_value u a ≡ true = unit_true a T _ u h p.1.1.1.0.others (sat (k - 1) [] (omega arith)) in
    Propagates-sound known (T ++ u ∷ []) (j ∷ hs) a sat (All-push (λ l. lit_value l a ≡ true) T u h t) p.1.1.1.1

or_false_left : (x y : Bool) → x || y ≡ false → x ≡ false
or_false_left true y e = cc
or_false_left false y e = refl

or_false_right : (x y : Bool) → x || y ≡ false → y ≡ false
or_false_right true y e = cc
or_false_right false y e = e

falsified : (a : List Bool) (c : List Lit) → clause_true a c ≡ false → All (λ l. lit_value (negation l) a ≡ true) c
falsified a [] e = All-nil (λ l. lit_value (negation l) a ≡ true)
falsified a (l ∷ c) e =
    All-cons (λ m. lit_value (negation m) a ≡ true) l c
    (lit_value-negation l a ∙ ap not (or_false_left (lit_value l a) (clause_true a c) e))
    (falsified a c (or_false_right (lit_value l a) (clause_true a c) e))

-- a clause that follows is true wherever the clauses before it are
pub Follows-sound : (clauses : List (List Lit)) (s : Step) (a : List Bool) → Follows clauses s → AllTrue a clauses → clause_true a s.lits ≡ true
Follows-sound clauses s a f sat = elim (cases_Bool (clause_true a s.lits)) [
  | inl t ↦ t
  | inr n ↦ absurd (Propagates-sound clauses (map negation s.lits) s.hints a sat
      (All-map (λ l. lit_value l a ≡ true) negation s.lits (falsified a s.lits n)) f.works)
]

no_step : Step
no_step = record { id = 0; lits = []; hints = [] }

each_true : (formula : List (List Lit)) (steps : List Step) (a : List Bool) → EachFollows formula steps → AllTrue a formula
    → (n : ℕ) → n ≤ length steps → AllTrue a (known formula (take n steps))
each_true formula steps a each sat zero le = rw (append-nil formula) sat
each_true formula steps a each sat (suc n) le =
    let lt : n < length steps = le in
    let before : AllTrue a (known formula (take n steps)) = each_true formula steps a each sat n (omega arith) in
    let here : clause_true a (get_or steps n no_step).lits ≡ true = Follows-sound _ (get_or steps n no_step) a (each n lt no_step) before in
    let e : known formula (take (n + 1) steps) ≡ known formula (take n steps) ++ (get_or steps n no_step).lits ∷ [] =
    rw (take_more steps n no_step lt, map-append (λ (s : Step). s.lits) (take n steps) (get_or steps n no_step ∷ [])) (sym (append_assoc formula _ _)) in
    let all : AllTrue a (known formula (take (n + 1) steps)) = rw e (All-push (λ c. IsTrue (clause_true a c)) _ _ before here) in
    rw add-one at all

pub Refutes-sound : (formula : List (List Lit)) (steps : List Step) → EachFollows formula steps → IsTrue (ends_empty steps) → IsUnsatisfiable formula
Refutes-sound formula steps each e a sat = elim (cases_eq (length steps) 0) [
  | inl none ↦ false≢true (rw (nil_from_length steps none) at e)
  | inr some ↦
      (let lt : length steps - 1 < length steps = omega arith in
      let before : AllTrue a (known formula (take (length steps - 1) steps)) = each_true formula steps a each sat (length steps - 1) (omega arith) in
      let here : clause_true a (get_or steps (length steps - 1) no_step).lits ≡ true = Follows-sound _ (get_or steps (length steps - 1) no_step) a (each (length steps - 1) lt no_step) before in
      let found : slice_get steps (length steps - 1) ≡ Some (get_or steps (length steps - 1) no_step) = slice_get-get_or steps (length steps - 1) no_step lt in
      let size : length (get_or steps (length steps - 1) no_step).lits ≡ 0 = eqb-true _ _ (rw found at e) in
      false≢true (rw (nil_from_length _ size) at here))
]
