-- Where a path of a system holds it has assigned what it must.
use Rattle.std.proofs.Common.{◌≡◌, ◌⊎◌, inl, inr, ℕ, zero, suc, ◌≤◌, ◌<◌, Bool, true, false, not, ◌&&◌, IsTrue, List}
use Rattle.std.proofs.Common.{[], ◌∷◌, map, length, Some, refl, sym, ◌∙◌, ap, subst, arith}
use Rattle.std.specs.Prelude.{get_or, slice_get}
use Rattle.std.specs.List.{list_all}
use Rattle.tla_meaning.specs.declared.job.Job.{Job}
use Rattle.tla_meaning.specs.declared.job.State.{State}
use Rattle.tla_meaning.specs.Executions.{constants, no_scope}
use Rattle.tla_meaning.specs.Numbers.{Width}
use Rattle.tla_meaning.proofs.Laws.{none≢some}
use Rattle.tla_meaning.proofs.Views.{false≢true, and_both}
use Rattle.kernel_trees.specs.declared.path.Assigned.{Assigned}
use Rattle.kernel_trees.specs.Assignments.{AssignedPath}
use Rattle.kernel_trees.specs.Paths.{Marks}
use Rattle.kernel_trees.specs.Picks.{IsOneOf}
use Rattle.kernel_trees.specs.Systems.{constants_first}
use Rattle.kernel_shapes.specs.Systems.{MarksVariables, assigns as must_assign, the_constants_of}
use Rattle.kernel_shapes.proofs.Ended.{not_lacking}
use Rattle.path_walks.specs.Steps.{assigns}
use Rattle.level_laws.specs.Branches.{Held}
use Rattle.step_laws.specs.PathEnds.{PathEnds}
use Rattle.step_branches.proofs.Runs.{count, counted, many}

-- ---- constants stand first

no_true : (bs : List Bool) (i : ℕ) → IsTrue (list_all not bs) → slice_get bs i ≡ Some true → ⊥
no_true [] i h e = none≢some e
no_true (true ∷ bs) i h e = false≢true h
no_true (false ∷ bs) zero h e = different e
  where
    different : Some false ≡ Some true → ⊥
    different q = cc
no_true (false ∷ bs) (suc i) h e = no_true bs i h e

constant_below : (bs : List Bool) (i : ℕ) → IsTrue (constants_first bs) → slice_get bs i ≡ Some true → i < count bs
constant_below [] i h e = absurd (none≢some e)
constant_below (true ∷ bs) zero h e = omega arith
constant_below (true ∷ bs) (suc i) h e = let lt = constant_below bs i h e in omega arith
constant_below (false ∷ bs) zero h e = absurd (different e)
  where
    different : Some false ≡ Some true → ⊥
    different q = cc
constant_below (false ∷ bs) (suc i) h e = absurd (no_true bs i h e)

none_counted : (bs : List Bool) → IsTrue (list_all not bs) → count bs ≡ 0
none_counted [] h = refl
none_counted (true ∷ bs) h = absurd (false≢true h)
none_counted (false ∷ bs) h = none_counted bs h

below_constant : (bs : List Bool) (i : ℕ) → IsTrue (constants_first bs) → i < count bs → get_or bs i false ≡ true
below_constant [] i h lt = absurd (omega (arith, lt))
below_constant (true ∷ bs) zero h lt = refl
below_constant (true ∷ bs) (suc i) h lt = below_constant bs i h (omega (arith, lt))
below_constant (false ∷ bs) i h lt = absurd (omega (arith, lt, none_counted bs h))

-- a variable stands behind them
pub variable_above : (bs : List Bool) (i : ℕ) → IsTrue (constants_first bs) → slice_get bs i ≡ Some false →
    (count bs ≤ i) × (i < length bs)
variable_above [] i h e = absurd (none≢some e)
variable_above (true ∷ bs) zero h e = absurd (different e)
  where
    different : Some true ≡ Some false → ⊥
    different q = cc
variable_above (true ∷ bs) (suc i) h e = let z = variable_above bs i h e in let a = z.0 in let b = z.1 in
    (omega arith, omega arith)
variable_above (false ∷ bs) zero h e = let n = none_counted bs h in (omega arith, omega arith)
variable_above (false ∷ bs) (suc i) h e = let n = none_counted bs h in let lt = there bs i e in
    (omega arith, omega arith)
  where
    there : (bs : List Bool) (i : ℕ) → slice_get bs i ≡ Some false → i < length bs
    there [] i e = absurd (none≢some e)
    there (b ∷ bs) zero e = omega arith
    there (b ∷ bs) (suc i) e = let lt = there bs i e in omega arith

flag_there : (bs : List Bool) (i : ℕ) → i < length bs → (b : Bool) × (slice_get bs i ≡ Some b)
flag_there [] i lt = absurd (omega (arith, lt))
flag_there (b ∷ bs) zero lt = (b, refl)
flag_there (b ∷ bs) (suc i) lt = flag_there bs i (omega (arith, lt))

not_lacked : (a b : Bool) → a ≡ true → (a && not b) ≡ false → b ≡ true
not_lacked a true e f = refl
not_lacked a false e f = absurd (false≢true (sym f ∙ and_both a true e refl))

-- ---- a path of Next or of Init: each name is a constant or assigned

pub covers : (job : Job) (fixed : List Bool) → fixed ≡ map (λ d. d.constant) job.names →
    IsTrue (constants_first fixed) → (m : Marks) → MarksVariables m fixed → (zs : AssignedPath) →
    ((i : ℕ) → IsTrue (must_assign m zs i)) → (w : Width) (s t : State) → PathEnds w zs Held s t → (i : ℕ) →
    i < length job.names →
    (i < constants job) ⊎ (assigns zs i ≡ true)
covers job fixed is h m marks zs must w s t e i lt =
    by (flag_there fixed i (subst (λ (n : ℕ). i < n) (sym (ap length is ∙ many job.names)) lt))
  where
    by : (b : Bool) × (slice_get fixed i ≡ Some b) → (i < constants job) ⊎ (assigns zs i ≡ true)
    by x = at x.0 x.1
      where
        at : (b : Bool) → slice_get fixed i ≡ Some b → (i < constants job) ⊎ (assigns zs i ≡ true)
        at true q = inl (subst (λ (n : ℕ). i < n) (ap count is ∙ counted job.names) (constant_below fixed i h q))
        at false q = inr (not_lacked (m i true) (assigns zs i) (marks i q)
            (not_lacking w s t zs e.0 no_scope m i (must i) e.1))

-- ---- a path of CInit: each constant is assigned

pub constants_covered : (fixed : List Bool) → IsTrue (constants_first fixed) → (zs : AssignedPath) →
    ((i : ℕ) → IsTrue (must_assign (the_constants_of fixed) zs i)) →
    (w : Width) (s t : State) → PathEnds w zs Held s t → (i : ℕ) → i < count fixed → assigns zs i ≡ true
constants_covered fixed h zs must w s t e i lt =
    not_lacked (get_or fixed i false) (assigns zs i) (below_constant fixed i h lt)
    (not_lacking w s t zs e.0 no_scope (the_constants_of fixed) i (must i) e.1)

-- ---- one of several

pub one_of_all : (test : Assigned → Bool) (xs : List Assigned) (x : Assigned) → IsTrue (list_all test xs) →
    IsOneOf x xs → IsTrue (test x)
one_of_all test [] x h o = absurd o
one_of_all test (y ∷ ys) x h (inl e) =
    subst (λ (z : Assigned). IsTrue (test z)) (sym e) (first (test y) (list_all test ys) h)
  where
    first : (a b : Bool) → IsTrue (a && b) → IsTrue a
    first true b k = refl
    first false b k = k
one_of_all test (y ∷ ys) x h (inr o) = one_of_all test ys x (rest (test y) (list_all test ys) h) o
  where
    rest : (a b : Bool) → IsTrue (a && b) → IsTrue b
    rest true b k = k
    rest false b k = absurd (false≢true k)
