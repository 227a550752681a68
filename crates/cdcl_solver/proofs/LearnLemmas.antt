use Rattle.std.proofs.Common.{◌≡◌, ℕ, ◌<◌, ◌≤◌, ◌⊎◌, inl, inr, Bool, true, false, ◌||◌, List, [], ◌∷◌, ◌++◌, length, take, map, All, get_or, refl, sym, subst, arith, append_assoc}
use Rattle.std.specs.Prelude.{Contains}
use Rattle.std.proofs.lemmas.Bool.{cases_lt}
use Rattle.std.proofs.lemmas.List.{map-append, get_or_append_left, length_push, take-append-le, take_all, get_or_push}
use Rattle.std.proofs.lemmas.List.Elements.{All-nil, All-head, All-tail, All-cons, All-map, All-contains, All-push, All-weaker, All-contains_itself, Contains-append_left, Contains-append_right, Contains-push}
use Rattle.sat_formula.specs.declared.lit.Lit.{Lit}
use Rattle.sat_formula.specs.Lit.{lit_value, IsBelow}
use Rattle.sat_formula.specs.Clause.{clause_true, AllTrue}
use Rattle.refutation_checker.specs.declared.log.Step.{Step}
use Rattle.refutation_checker.specs.Follows.{negation}
use Rattle.refutation_checker.specs.Follows.{IsFalse, IsUnit}
use Rattle.refutation_checker.specs.Follows.{known, Follows}
use Rattle.refutation_checker.proofs.TrailLemmas.{Contains-cons_cases, Contains-nil}
use Rattle.watched_search.specs.declared.entry.Entry.{Entry}
use Rattle.watched_search.specs.Trail.{lits_of, IsFree}
use Rattle.watched_search.specs.Searching.{IsFalseAt}
use Rattle.cdcl_solver.specs.inner.Chain.{Quiet, Chain, decisions, IsExplained}
use Rattle.cdcl_solver.specs.Answers.{IsNew, EachNew}
use Rattle.cdcl_solver.proofs.ChainLemmas.{negation-negation, Chain-consistent, decisions-within}
use Rattle.cdcl_solver.proofs.HintsLemmas.{Chain-propagates}

-- each literal is u or false: so u is in the clause, or the clause is false
has_or_false : (T c : List Lit) (u : Lit) → All (λ l. (l ≡ u) ⊎ Contains T (negation l)) c → Contains c u ⊎ IsFalse T c
has_or_false T [] u h = inr (All-nil (λ l. Contains T (negation l)))
has_or_false T (l ∷ c) u h = elim (All-head (λ m. (m ≡ u) ⊎ Contains T (negation m)) l c h) [
  | inl e ↦ inl (subst (λ (m : Lit). Contains (l ∷ c) m) e (Contains-append_left (l ∷ []) c l (Contains-push [] l)))
  | inr f ↦ elim (has_or_false T c u (All-tail (λ m. (m ≡ u) ⊎ Contains T (negation m)) l c h)) [
    | inl has ↦ inl (Contains-append_right (l ∷ []) c u has)
    | inr rest ↦ inr (All-cons (λ m. Contains T (negation m)) l c f rest)
  ]
]

-- a clause that would be a unit before the last decision contains no clause that says nothing there
pub IsUnit-contains_none : (T D : List Lit) (u : Lit) (c : List Lit) → IsUnit T D u → Quiet T c → All (Contains D) c → ⊥
IsUnit-contains_none T D u c unit quiet within =
    let each : All (λ l. (l ≡ u) ⊎ Contains T (negation l)) c =
    All-weaker (Contains D) (λ l. (l ≡ u) ⊎ Contains T (negation l)) (λ l has. All-contains (λ m. (m ≡ u) ⊎ Contains T (negation m)) D l unit.others has) c within in
    elim (has_or_false T c u each) [
      | inl has ↦ quiet.1 u (record { member = has; not_true = unit.not_true; not_false = unit.not_false; others = each })
      | inr f ↦ quiet.0 f
    ]

pub IsUnit-new : (T D : List Lit) (u : Lit) (clauses : List (List Lit)) → IsUnit T D u → All (Quiet T) clauses → IsNew clauses D
IsUnit-new T D u clauses unit quiet = All-weaker (Quiet T) (λ c. All (Contains D) c → ⊥) (λ c q. IsUnit-contains_none T D u c unit q) clauses quiet

-- the negated decisions are a unit before the last of them
pub decisions-unit : (T ds : List Lit) (l : Lit) → IsFree T l → ((m : Lit) → Contains ds m → Contains T m) → IsUnit T (map negation (ds ++ l ∷ [])) (negation l)
decisions-unit T ds l free within = record {
  member = rw (map-append negation ds (l ∷ [])) (Contains-push (map negation ds) (negation l));
  not_true = free.1;
  not_false = λ t. free.0 (rw (negation-negation l) at t);
  others = All-map (λ m. (m ≡ negation l) ⊎ Contains T (negation m)) negation (ds ++ l ∷ [])
      (All-push (λ m. (negation m ≡ negation l) ⊎ Contains T (negation (negation m))) ds l
      (All-weaker (Contains ds) (λ m. (negation m ≡ negation l) ⊎ Contains T (negation (negation m))) (λ m has. inr (rw (negation-negation m) (within m has))) ds (All-contains_itself ds))
      (inl refl));
}

pub map-negation : (ls : List Lit) → map negation (map negation ls) ≡ ls
map-negation [] = refl
map-negation (l ∷ ls) = rw (negation-negation l, map-negation ls)

pub Contains-negation : (ls : List Lit) (l : Lit) → Contains ls l → Contains (map negation ls) (negation l)
Contains-negation [] l h = absurd (Contains-nil l h)
Contains-negation (x ∷ ls) l h = elim (Contains-cons_cases x ls l h) [
  | inl e ↦ subst (λ (m : Lit). Contains (map negation (x ∷ ls)) (negation m)) e (Contains-append_left (negation x ∷ []) (map negation ls) (negation x) (Contains-push [] (negation x)))
  | inr rest ↦ Contains-append_right (negation x ∷ []) (map negation ls) (negation l) (Contains-negation ls l rest)
]

-- the negated decisions follow, by the trail's reasons and a false clause
pub learned-follows : (clauses : List (List Lit)) (es : List Entry) (h : ℕ) (s : Step) → Chain clauses [] es → IsFalseAt clauses (lits_of es) h
    → IsExplained (length clauses) es h s → Follows clauses s
learned-follows clauses es h s c f made =
    let back : map negation s.lits ≡ decisions es = rw made.lits (map-negation (decisions es)) in
    record {
      next = made.next;
      apart = λ l a b.
          let a' : Contains (decisions es) (negation l) = rw back at (Contains-negation s.lits l a) in
          let b' : Contains (decisions es) (negation (negation l)) = rw back at (Contains-negation s.lits (negation l) b) in
          Chain-consistent clauses [] es c (negation l) (decisions-within es (negation l) a') (decisions-within es (negation (negation l)) b');
      works = rw (back, made.hints) (Chain-propagates clauses h [] es c (decisions es) (record { sub = λ l t. t; sup = λ l t. t }) f);
    }

-- a log grows by a step that contains no clause
pub EachNew-push : (formula : List (List Lit)) (steps : List Step) (s : Step) → EachNew formula steps → (0 < length s.lits → IsNew (known formula steps) s.lits) → EachNew formula (steps ++ s ∷ [])
EachNew-push formula steps s each new = λ k lt d.
    let size = length_push steps s in
    let le : k ≤ length steps = omega arith in
    let before : take k (steps ++ s ∷ []) ≡ take k steps = take-append-le k steps (s ∷ []) le in
    elim (cases_lt k (length steps)) [
      | inl older ↦ rw (before, get_or_append_left steps (s ∷ []) d k older) (each k older d)
      | inr ge ↦
          (let last : length steps ≡ k = omega arith in
          rw (before, take_all k steps ge, get_or_push steps s d k last) new)
    ]

pub known-push : (formula : List (List Lit)) (steps : List Step) (s : Step) → known formula (steps ++ s ∷ []) ≡ known formula steps ++ s.lits ∷ []
known-push formula steps s = rw (map-append (λ (s : Step). s.lits) steps (s ∷ [])) (sym (append_assoc formula _ _))

or_true : (x y : Bool) → y ≡ true → x || y ≡ true
or_true true y e = refl
or_true false y e = e

-- each variable has a value, and each clause says nothing: so each clause is true
true_or_false : (T : List Lit) (a : List Bool) (c : List Lit) → All (λ l. lit_value l a ≡ true) T → All (λ l. Contains T l ⊎ Contains T (negation l)) c
    → (clause_true a c ≡ true) ⊎ IsFalse T c
true_or_false T a [] agrees h = inr (All-nil (λ l. Contains T (negation l)))
true_or_false T a (l ∷ c) agrees h = elim (All-head (λ m. Contains T m ⊎ Contains T (negation m)) l c h) [
  | inl t ↦ inl (rw (All-contains (λ m. lit_value m a ≡ true) T l agrees t))
  | inr f ↦ elim (true_or_false T a c agrees (All-tail (λ m. Contains T m ⊎ Contains T (negation m)) l c h)) [
    | inl rest ↦ inl (or_true (lit_value l a) (clause_true a c) rest)
    | inr rest ↦ inr (All-cons (λ m. Contains T (negation m)) l c f rest)
  ]
]

pub all_true : (T : List Lit) (a : List Bool) (clauses : List (List Lit)) (room : ℕ) → All (λ l. lit_value l a ≡ true) T
    → ((l : Lit) → l.var < room → Contains T l ⊎ Contains T (negation l)) → All (λ c. All (IsBelow room) c) clauses → All (Quiet T) clauses → AllTrue a clauses
all_true T a clauses room agrees full below quiet = λ k d lt.
    let c : List Lit = get_or clauses k d in
    let within : All (λ l. Contains T l ⊎ Contains T (negation l)) c =
    All-weaker (IsBelow room) (λ l. Contains T l ⊎ Contains T (negation l)) (λ l b. full l b) c (below k d lt) in
    elim (true_or_false T a c agrees within) [
      | inl t ↦ t
      | inr f ↦ absurd ((quiet k d lt).0 f)
    ]
