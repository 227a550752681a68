-- How many conflicts the logs of a certificate hold, and what is left of a budget.
use Rattle.std.proofs.Common.{◌≡◌, ℕ, suc, ◌+◌, ◌-◌, ◌<◌, ◌≤◌, Bool, true, false, List, [], ◌∷◌, ◌++◌, length, Option, Some, None, IsTrue, refl, sym, ◌∙◌, ap, subst, arith}
use Rattle.std.specs.Prelude.{nat_lt, All, cond, slice_get, sum_by}
use Rattle.std.proofs.lemmas.Bool.{eqb-true, lt-ltb}
use Rattle.std.proofs.lemmas.List.Elements.{All-head, All-tail}
use Rattle.std.proofs.lemmas.List.Sums.{sum_by-append}
use Rattle.sat_formula.specs.declared.cnf.Cnf.{Cnf}
use Rattle.sat_formula.specs.declared.lit.Lit.{Lit}
use Rattle.cdcl_solver.specs.Answers as solver
use Rattle.cdcl_solver.specs.declared.answer.Answer.{Answer}
use Rattle.cdcl_solver.specs.declared.answer.Answer.TheVariants.{Unsat}
use Rattle.refutation_checker.specs.Follows.{ends_empty, is_empty_step}
use Rattle.refutation_checker.specs.declared.log.Step.{Step}
use Rattle.refutation_checker.specs.declared.section.Section.{Section}
use Rattle.bounded_engine.specs.Sections.{conflicts_in, conflicts_spent, IsWithin}
use Rattle.bounded_engine.specs.inner.Asking.{IsLeft, left_after}

-- the empty clause is no conflict
abbrev counted : Bool → ℕ
counted b = cond b 1 0

none_counted : (s : Step) → is_empty_step (Some s) ≡ true → counted (nat_lt 0 (length s.lits)) ≡ 0
none_counted s empty = ap (λ (n : ℕ). counted (nat_lt 0 n)) (eqb-true (length s.lits) 0 empty)

at_most_one : (b : Bool) → counted b ≤ 1
at_most_one true = omega arith
at_most_one false = omega arith

one_more : (s : Step) (log : List Step) → conflicts_in (s ∷ log) ≡ counted (nat_lt 0 (length s.lits)) + conflicts_in log
one_more s log =
    let first : conflicts_in (s ∷ []) ≡ counted (nat_lt 0 (length s.lits)) = omega arith in
    sum_by-append (λ (x : Step). counted (nat_lt 0 (length x.lits))) (s ∷ []) log ∙ ap (λ (n : ℕ). n + conflicts_in log) first

-- a log that ends with the empty clause has fewer conflicts than steps
fewer_conflicts : (log : List Step) → ends_empty log ≡ true → conflicts_in log + 1 ≤ length log
fewer_conflicts [] ends = absurd cc
fewer_conflicts (s ∷ []) ends = let none = none_counted s ends in let first = one_more s [] in omega (arith, none, first)
fewer_conflicts (s ∷ t ∷ log) ends =
    let at : length (s ∷ t ∷ log) - 1 ≡ suc (length (t ∷ log) - 1) = omega arith in
    let later : ends_empty (t ∷ log) ≡ true = sym (ap (λ (n : ℕ). is_empty_step (slice_get (s ∷ t ∷ log) n)) at) ∙ ends in
    let rest = fewer_conflicts (t ∷ log) later in
    let here = at_most_one (nat_lt 0 (length s.lits)) in
    let first = one_more s (t ∷ log) in
    omega (arith, rest, here, first)

-- so it is within the budget that its length is within
pub log_within : (left : Option ℕ) (log : List Step) → solver.IsWithin left log → IsTrue (ends_empty log) → IsWithin left (conflicts_in log)
log_within None log short ends = tt
log_within (Some n) log short ends = let fewer = fewer_conflicts log ends in omega (arith, fewer)

-- a log without the empty clause has as many conflicts as steps
pub all_conflicts : (log : List Step) → All (λ s. 0 < length s.lits) log → conflicts_in log ≡ length log
all_conflicts [] some = refl
all_conflicts (s ∷ log) some =
    let here : counted (nat_lt 0 (length s.lits)) ≡ 1 = ap counted (lt-ltb 0 (length s.lits) (All-head (λ (x : Step). 0 < length x.lits) s log some)) in
    let rest = all_conflicts log (All-tail (λ (x : Step). 0 < length x.lits) s log some) in
    let first = one_more s log in
    omega (arith, here, rest, first)

-- ---- sections

pub spent_more : (sections : List Section) (s : Section) → conflicts_spent (sections ++ s ∷ []) ≡ conflicts_spent sections + conflicts_in s.log
spent_more sections s =
    let f : Section → ℕ = λ x. conflicts_in x.log in
    let one : sum_by f (s ∷ []) ≡ conflicts_in s.log = sum_one f s in
    sum_by-append f sections (s ∷ []) ∙ ap (λ (n : ℕ). conflicts_spent sections + n) one
  where
    sum_one : (f : Section → ℕ) (x : Section) → sum_by f (x ∷ []) ≡ f x
    sum_one f x = omega arith

-- ---- budgets

-- what was spent is within the budget
pub left_within : (budget : Option ℕ) (spent : ℕ) (left : Option ℕ) → IsLeft budget spent left → IsWithin budget spent
left_within None spent left is = tt
left_within (Some n) spent None is = absurd is
left_within (Some n) spent (Some k) is = omega (arith, is)

-- what is left after a section more
pub left_more : (budget : Option ℕ) (spent more : ℕ) (left : Option ℕ) → IsLeft budget spent left → IsWithin left more → IsLeft budget (spent + more) (left_after left more)
left_more None spent more None is within = tt
left_more None spent more (Some k) is within = absurd is
left_more (Some n) spent more None is within = absurd is
left_more (Some n) spent more (Some k) is within = omega (arith, is, within)

-- where all that was left is spent, the budget is
pub left_spent : (budget : Option ℕ) (spent more : ℕ) (left : Option ℕ) → IsLeft budget spent left → left ≡ Some more → budget ≡ Some (spent + more)
left_spent None spent more None is all = absurd cc
left_spent None spent more (Some k) is all = absurd is
left_spent (Some n) spent more None is all = absurd is
left_spent (Some n) spent more (Some k) is all =
    let same : k ≡ more = cc in
    ap (λ (x : ℕ). Some x) (sym is ∙ ap (λ (x : ℕ). spent + x) same)

pub left_at_first : (budget : Option ℕ) → IsLeft budget 0 budget
left_at_first None = tt
left_at_first (Some n) = omega arith

-- the log that refutes
pub unsat_log : (f : Cnf) (l : Lit) (left : Option ℕ) (a : Answer) (log : List Step) → solver.IsAnswer f l left a → a ≡ Unsat log
    → solver.IsRefutation f.vars (solver.clauses_with f l) left log
unsat_log f l left a log is same = subst (λ (x : Answer). solver.IsAnswer f l left x) same is
