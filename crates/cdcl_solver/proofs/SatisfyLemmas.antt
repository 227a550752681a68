use Rattle.std.proofs.Common.{◌≡◌, ℕ, ◌+◌, ◌<◌, inl, inr, not, Option, Some, None, subst, Bool, true, false, ◌||◌, List, [], ◌∷◌, ◌++◌, length, All, get_or, refl, ◌∙◌, arith, IsTrue, length-append}
use Rattle.std.proofs.lemmas.List.{get_or_append_left, get_or_push, length_push}
use Rattle.sat_formula.specs.declared.lit.Lit.{Lit}
use Rattle.sat_formula.specs.declared.cnf.Cnf.{Cnf}
use Rattle.sat_formula.specs.Lit.{lit_value, IsBelow}
use Rattle.refutation_checker.specs.Marks.{TellsValue}
use Rattle.refutation_checker.proofs.TrailLemmas.{Lit-same}
use Rattle.std.specs.Prelude.{Contains, if◌then◌else◌}
use Rattle.std.specs.Option.{unwrap_or}
use Rattle.std.proofs.lemmas.Bool.{cases_lt}
use Rattle.sat_formula.specs.Clause.{clause_true, AllTrue}
use Rattle.sat_formula.specs.Formula.{Satisfies}
use Rattle.refutation_checker.specs.Follows.{known}
use Rattle.watched_search.specs.Trail.{lits_of}
use Rattle.cdcl_solver.specs.declared.solver.Solver.{Solver}
use Rattle.cdcl_solver.specs.inner.Chain.{Quiet}
use Rattle.cdcl_solver.specs.Answers.{IsModel, clauses_with}
use Rattle.cdcl_solver.specs.inner.Solving.{IsSolving, IsComplete}
use Rattle.cdcl_solver.proofs.LearnLemmas.{all_true}
use Rattle.cdcl_solver.proofs.SolvingLemmas.{all_quiet}

longer : {X : Type 0} (xs ys : List X) (k : ℕ) → k < length xs → k < length (xs ++ ys)
longer xs ys k lt = let s = length-append xs ys in omega arith

All-front : {X : Type 0} (P : X → Type 0) (xs ys : List X) → All P (xs ++ ys) → All P xs
All-front P xs ys h = λ k d lt. rw (get_or_append_left xs ys d k lt) at (h k d (longer xs ys k lt))

or_false : (x : Bool) → x || false ≡ true → x ≡ true
or_false true e = refl
or_false false e = e

pub model : (f : Cnf) (assume : Lit) (a : List Bool) (s : Solver) → IsSolving s → IsComplete s.search → s.clauses ≡ clauses_with f assume → s.search.vars ≡ f.vars
    → All (λ l. lit_value l a ≡ true) (lits_of s.search.entries) → length a ≡ s.search.vars → IsModel f assume a
unfolding Satisfies
model f assume a s solving complete clauses vars agrees size =
    let F : List (List Lit) = clauses_with f assume in
    let T : List Lit = lits_of s.search.entries in
    let quiet : All (Quiet T) (known s.clauses s.steps) = all_quiet (known s.clauses s.steps) s.search.entries solving.log.chain (rw solving.same at complete.opened) in
    let below : All (λ c. All (IsBelow s.search.vars) c) F = All-front (λ c. All (IsBelow s.search.vars) c) F _ (rw clauses at solving.log.within) in
    let all : AllTrue a F = all_true T a F s.search.vars agrees complete.full below (All-front (Quiet T) F _ (rw clauses at quiet)) in
    let longer = length_push f.clauses (assume ∷ []) in
    let lt : length f.clauses < length F = omega arith in
    let last : get_or F (length f.clauses) [] ≡ assume ∷ [] = get_or_push f.clauses (assume ∷ []) [] (length f.clauses) refl in
    record {
      length = size ∙ vars;
      satisfies = All-front (λ c. IsTrue (clause_true a c)) f.clauses ((assume ∷ []) ∷ []) all;
      assumed = or_false (lit_value assume a) (rw last at (all (length f.clauses) [] lt));
    }

-- one value more
told_value : (T : List Lit) (v : ℕ) (n : Bool) (told : Option Bool) → TellsValue T (record { var = v; neg = false }) told → Contains T (record { var = v; neg = n })
    → (if n then not (unwrap_or told false) else unwrap_or told false) ≡ true
told_value T v true None t has = absurd (t.1 has)
told_value T v true (Some true) t has = absurd (t.1 has)
told_value T v true (Some false) t has = refl
told_value T v false None t has = absurd (t.0 has)
told_value T v false (Some true) t has = refl
told_value T v false (Some false) t has = absurd (t.0 has)

pub value_pushed : (T : List Lit) (values : List Bool) (v : ℕ) (told : Option Bool) → length values ≡ v → TellsValue T (record { var = v; neg = false }) told
    → ((m : Lit) → m.var < v → Contains T m → lit_value m values ≡ true) → (m : Lit) → m.var < v + 1 → Contains T m → lit_value m (values ++ unwrap_or told false ∷ []) ≡ true
value_pushed T values v told size tells old m lt has = elim (cases_lt m.var v) [
  | inl older ↦
      (let within : m.var < length values = omega arith in
      rw (get_or_append_left values (unwrap_or told false ∷ []) false m.var within) (old m older has))
  | inr ge ↦
      (let here : length values ≡ m.var = omega arith in
      let same : m ≡ record { var = v; neg = m.neg } = Lit-same m (record { var = v; neg = m.neg }) (omega arith) refl in
      rw (get_or_push values (unwrap_or told false) false m.var here) (told_value T v m.neg told tells (subst (λ (l : Lit). Contains T l) same has)))
]
