use Rattle.std.proofs.Common.{◌≡◌, ℕ, ◌+◌, ◌<◌, ◌⊎◌, inl, inr, not, Option, Some, None, subst, Bool, true, false, ◌||◌, List, [], ◌∷◌, ◌++◌, length, All, get_or, refl, sym, ◌∙◌, arith, IsTrue, length-append}
use Rattle.std.proofs.lemmas.List.{get_or_append_left, get_or_push, length_push}
use Rattle.sat_formula.specs.declared.lit.Lit.{Lit}
use Rattle.sat_formula.specs.declared.cnf.Cnf.{Cnf}
use Rattle.sat_formula.specs.Lit.{lit_value}
use Rattle.sat_formula.specs.Clause.{clause_true, AllTrue, NamesBelow}
use Rattle.sat_formula.specs.Formula.{Satisfies}
use Rattle.refutation_checker.specs.declared.log.Step.{Step}
use Rattle.refutation_checker.specs.Follows.{known}
use Rattle.std.specs.Prelude.{Contains, is_some}
use Rattle.std.proofs.lemmas.Bool.{cases_lt, false≢true}
use Rattle.refutation_checker.specs.Follows.{negation}
use Rattle.refutation_checker.specs.Marks.{TellsValue}
use Rattle.watched_search.specs.Trail.{TrailView, lits_of, IsFree}
use Rattle.cdcl_solver.specs.inner.Chain.{Quiet}
use Rattle.cdcl_solver.specs.Answers.{IsModel, clauses_with}
use Rattle.plain_solver.specs.inner.Search.{IsComplete}
use Rattle.cdcl_solver.proofs.LearnLemmas.{all_true}

longer : {X : Type 0} (xs ys : List X) (k : ℕ) → k < length xs → k < length (xs ++ ys)
longer xs ys k lt = let s = length-append xs ys in omega arith

All-front : {X : Type 0} (P : X → Type 0) (xs ys : List X) → All P (xs ++ ys) → All P xs
All-front P xs ys h = λ k d lt. rw (get_or_append_left xs ys d k lt) at (h k d (longer xs ys k lt))

or_false : (x : Bool) → x || false ≡ true → x ≡ true
or_false true e = refl
or_false false e = e

pub model : (f : Cnf) (assume : Lit) (a : List Bool) (steps : List Step) (t : TrailView) → t.room ≡ f.vars → NamesBelow f.vars (clauses_with f assume)
    → IsComplete (known (clauses_with f assume) steps) t → All (λ l. lit_value l a ≡ true) (lits_of t.entries) → length a ≡ t.room → IsModel f assume a
unfolding Satisfies
model f assume a steps t room within complete agrees size =
    let F : List (List Lit) = clauses_with f assume in
    let quiet : All (Quiet (lits_of t.entries)) F = All-front (Quiet (lits_of t.entries)) F _ complete.quiet in
    let all : AllTrue a F = all_true (lits_of t.entries) a F t.room agrees complete.full (rw (sym room) at within) quiet in
    let size' = length_push f.clauses (assume ∷ []) in
    let lt : length f.clauses < length F = omega arith in
    let last : get_or F (length f.clauses) [] ≡ assume ∷ [] = get_or_push f.clauses (assume ∷ []) [] (length f.clauses) refl in
    record {
      length = size ∙ room;
      satisfies = All-front (λ c. IsTrue (clause_true a c)) f.clauses ((assume ∷ []) ∷ []) all;
      assumed = or_false (lit_value assume a) (rw last at (all (length f.clauses) [] lt));
    }

-- a variable with a value, and one without
signed : (T : List Lit) (v : ℕ) (n : Bool) (told : Option Bool) → TellsValue T (record { var = v; neg = false }) told → is_some told ≡ true
    → Contains T (record { var = v; neg = n }) ⊎ Contains T (record { var = v; neg = not n })
signed T v n None t some = absurd (false≢true some)
signed T v true (Some true) t some = inr t.0
signed T v false (Some true) t some = inl t.0
signed T v true (Some false) t some = inl t.1
signed T v false (Some false) t some = inr t.1

pub valued : (T : List Lit) (v : ℕ) (told : Option Bool) → TellsValue T (record { var = v; neg = false }) told → is_some told ≡ true
    → ((m : Lit) → m.var < v → Contains T m ⊎ Contains T (negation m)) → (m : Lit) → m.var < v + 1 → Contains T m ⊎ Contains T (negation m)
valued T v told t some old m lt = elim (cases_lt m.var v) [
  | inl older ↦ old m older
  | inr ge ↦
      (let here : v ≡ m.var = omega arith in
      signed T m.var m.neg told (subst (λ (w : ℕ). TellsValue T (record { var = w; neg = false }) told) here t) some)
]

pub unvalued : (T : List Lit) (v : ℕ) (told : Option Bool) → TellsValue T (record { var = v; neg = false }) told → is_some told ≡ false → (n : Bool) → IsFree T (record { var = v; neg = n })
unvalued T v None t none true = (t.1, t.0)
unvalued T v None t none false = (t.0, t.1)
unvalued T v (Some b) t none n = absurd (false≢true (sym none))
