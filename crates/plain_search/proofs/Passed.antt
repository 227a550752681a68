-- What a search has passed holds no assignment that satisfies the clauses.
use Rattle.std.proofs.Common.{◌≡◌, ℕ, ◌≤◌, ◌⊎◌, inl, inr, Bool, true, false, List, [], ◌∷◌, ◌++◌, length, All, refl, sym, ◌∙◌, ap, subst, arith}
use Rattle.std.specs.Prelude.{◌&&◌, ◌||◌, not, nat_lt, IsTrue}
use Rattle.std.proofs.lemmas.Bool.{and_parts, or_cases, ltb-true}
use Rattle.std.proofs.lemmas.List.Elements.{All-head, All-tail}
use Rattle.sat_formula.specs.declared.lit.Lit.{Lit}
use Rattle.sat_formula.specs.Lit.{lit_value}
use Rattle.sat_formula.specs.Clause.{clause_true, AllTrue}
use Rattle.sat_formula.proofs.Extension.{lit_value-append}
use Rattle.plain_search.specs.inner.Search.{is_false, has_false, is_before, IsTurn}

-- ---- a false clause stays false

false_stays : (p rest : List Bool) (clause : List Lit) → is_false p clause ≡ true → clause_true (p ++ rest) clause ≡ false
false_stays p rest [] h = refl
false_stays p rest (l ∷ ls) h =
    let parts = and_parts (nat_lt l.var (length p) && not (lit_value l p)) (is_false p ls) h in
    let here = and_parts (nat_lt l.var (length p)) (not (lit_value l p)) parts.0 in
    let kept = lit_value-append l p rest (ltb-true l.var (length p) here.0) in
    ap (λ b. b || clause_true (p ++ rest) ls) (kept ∙ not_true (lit_value l p) here.1) ∙ false_stays p rest ls parts.1
  where
    not_true : (b : Bool) → not b ≡ true → b ≡ false
    not_true true h = sym h
    not_true false h = refl

-- no assignment that begins with these values satisfies the clauses
pub refuted : (p rest : List Bool) (clauses : List (List Lit)) → has_false p clauses ≡ true → AllTrue (p ++ rest) clauses → ⊥
refuted p rest [] h all = cc
refuted p rest (c ∷ cs) h all = elim (or_cases (is_false p c) (has_false p cs) h) [
  | inl here ↦
      let no : clause_true (p ++ rest) c ≡ false = false_stays p rest c here in
      let true_there : clause_true (p ++ rest) c ≡ true = All-head (λ x. IsTrue (clause_true (p ++ rest) x)) c cs all in
      cc
  | inr later ↦ refuted p rest cs later (All-tail (λ x. IsTrue (clause_true (p ++ rest) x)) c cs all)
]

-- ---- order

pub before-push : (vs a : List Bool) → is_before vs a ≡ false → is_before (vs ++ false ∷ []) a ≡ false
before-push [] [] h = refl
before-push [] (true ∷ as') h = refl
before-push [] (false ∷ as') h = refl
before-push (v ∷ vs) [] h = refl
before-push (true ∷ vs) (true ∷ as') h = before-push vs as' h
before-push (true ∷ vs) (false ∷ as') h = h
before-push (false ∷ vs) (true ∷ as') h = refl
before-push (false ∷ vs) (false ∷ as') h = before-push vs as' h

-- what is not before values that are all true begins with them
not_before_all : (vs a : List Bool) → All (λ b. b ≡ true) vs → length vs ≤ length a → is_before vs a ≡ false → (rest : List Bool) × (a ≡ vs ++ rest)
not_before_all [] a all le h = (a, refl)
not_before_all (v ∷ vs) [] all le h = absurd (omega arith)
not_before_all (true ∷ vs) (true ∷ as') all le h =
    let more = not_before_all vs as' (All-tail (λ b. b ≡ true) true vs all) (omega arith) h in
    (more.0, ap (λ (x : List Bool). true ∷ x) more.1)
not_before_all (true ∷ vs) (false ∷ as') all le h = absurd (cc)
not_before_all (false ∷ vs) (b ∷ as') all le h = let no : false ≡ true = All-head (λ b. b ≡ true) false vs all in absurd (cc)

-- what is before the turned values and not before the old ones begins with the old ones
between : (kept tried a : List Bool) → All (λ b. b ≡ true) tried → length (kept ++ false ∷ tried) ≤ length a
    → is_before (kept ++ false ∷ tried) a ≡ false → (is_before (kept ++ true ∷ []) a ≡ false) ⊎ ((rest : List Bool) × (a ≡ (kept ++ false ∷ tried) ++ rest))
between [] tried [] all le h = absurd (omega arith)
between [] tried (true ∷ as') all le h = inl refl
between [] tried (false ∷ as') all le h =
    let more = not_before_all tried as' all (omega arith) h in
    inr (more.0, ap (λ (x : List Bool). false ∷ x) more.1)
between (k ∷ ks) tried [] all le h = absurd (omega arith)
between (true ∷ ks) tried (true ∷ as') all le h = further true (between ks tried as' all (omega arith) h)
  where
    further : (b : Bool) → (is_before (ks ++ true ∷ []) as' ≡ false) ⊎ ((rest : List Bool) × (as' ≡ (ks ++ false ∷ tried) ++ rest))
        → (is_before (ks ++ true ∷ []) as' ≡ false) ⊎ ((rest : List Bool) × (b ∷ as' ≡ (b ∷ (ks ++ false ∷ tried)) ++ rest))
    further b (inl apart) = inl apart
    further b (inr more) = inr (more.0, ap (λ (x : List Bool). b ∷ x) more.1)
between (true ∷ ks) tried (false ∷ as') all le h = absurd (cc)
between (false ∷ ks) tried (true ∷ as') all le h = inl refl
between (false ∷ ks) tried (false ∷ as') all le h = further false (between ks tried as' all (omega arith) h)
  where
    further : (b : Bool) → (is_before (ks ++ true ∷ []) as' ≡ false) ⊎ ((rest : List Bool) × (as' ≡ (ks ++ false ∷ tried) ++ rest))
        → (is_before (ks ++ true ∷ []) as' ≡ false) ⊎ ((rest : List Bool) × (b ∷ as' ≡ (b ∷ (ks ++ false ∷ tried)) ++ rest))
    further b (inl apart) = inl apart
    further b (inr more) = inr (more.0, ap (λ (x : List Bool). b ∷ x) more.1)

-- ---- what is passed

-- no assignment that satisfies the clauses is before the values
abbrev pub Passed : ℕ → List (List Lit) → List Bool → Type 0
Passed n clauses values = (a : List Bool) → length a ≡ n → AllTrue a clauses → is_before values a ≡ false

pub passed-push : (n : ℕ) (clauses : List (List Lit)) (values : List Bool) → Passed n clauses values → Passed n clauses (values ++ false ∷ [])
passed-push n clauses values passed = λ a size all. before-push values a (passed a size all)

pub passed-turn : (n : ℕ) (clauses : List (List Lit)) (old new : List Bool) → IsTurn old new → length old ≤ n → has_false old clauses ≡ true
    → Passed n clauses old → Passed n clauses new
passed-turn n clauses old new turn le conflict passed = λ a size all.
    let fits : length (turn.kept ++ false ∷ turn.tried) ≤ length a = let l = ap length turn.were in omega arith in
    let not_before : is_before (turn.kept ++ false ∷ turn.tried) a ≡ false = subst (λ (x : List Bool). is_before x a ≡ false) turn.were (passed a size all) in
    elim (between turn.kept turn.tried a turn.all_tried fits not_before) [
      | inl apart ↦ subst (λ (x : List Bool). is_before x a ≡ false) (sym turn.are) apart
      | inr begins ↦ absurd (refuted (turn.kept ++ false ∷ turn.tried) begins.0 clauses
          (subst (λ (x : List Bool). has_false x clauses ≡ true) turn.were conflict) (subst (λ (x : List Bool). AllTrue x clauses) begins.1 all))
    ]

-- where nothing is left, nothing satisfies the clauses
pub none_left : (n : ℕ) (clauses : List (List Lit)) (values a : List Bool) → All (λ b. b ≡ true) values → length values ≤ n → has_false values clauses ≡ true
    → Passed n clauses values → length a ≡ n → AllTrue a clauses → ⊥
none_left n clauses values a ended le conflict passed size all =
    let begins = not_before_all values a ended (omega arith) (passed a size all) in
    refuted values begins.0 clauses conflict (subst (λ (x : List Bool). AllTrue x clauses) begins.1 all)

pub false_as : (items seen : List Bool) (clauses : List (List Lit)) → seen ≡ items → true ≡ has_false seen clauses → has_false items clauses ≡ true
false_as items seen clauses same conflict = sym (conflict ∙ ap (λ (x : List Bool). has_false x clauses) same)
