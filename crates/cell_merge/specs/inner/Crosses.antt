-- What is said of two lists of literals, place by place.
use Rattle.std.specs.Prelude.{◌≡◌, ℕ, Bool, true, false, not, ◌&&◌, ◌||◌, List, [], ◌∷◌, All, length}
use Rattle.std.specs.List.{list_all}
use Rattle.sat_formula.specs.declared.lit.Lit.{Lit}
use Rattle.sat_formula.specs.declared.cnf.Cnf.{Cnf}
use Rattle.sat_formula.specs.Lit.{lit_value, values, IsBelow}
use Rattle.sat_formula.specs.Formula.{Satisfies}

-- at some place both are set
abbrev pub any_both : List Bool → List Bool → Bool
any_both [] qs = false
any_both (p ∷ ps) [] = false
any_both (p ∷ ps) (q ∷ qs) = (p && q) || any_both ps qs

-- at each place where the flag is set so is the test
abbrev pub each_holds : List Bool → List Bool → Bool
each_holds [] qs = true
each_holds (p ∷ ps) [] = true
each_holds (p ∷ ps) (q ∷ qs) = (not p || q) && each_holds ps qs

-- each is set too where both the flag and its test are
abbrev pub crossed : Bool → List Bool → List Bool → List Bool
crossed l [] rs = []
crossed l (c ∷ cs) [] = []
crossed l (c ∷ cs) (r ∷ rs) = (c || (l && r)) ∷ crossed l cs rs

-- two lists of one length over the first n variables
pub record AreAlong (n : ℕ) (xs ys : List Lit) : Type 0 where
  pub left : All (IsBelow n) xs
  pub right : All (IsBelow n) ys
  pub same : length xs ≡ length ys

-- of the literals that were covered, and of those with a test more
pub record Covers (f : Cnf) (l : Lit) (row covered new : List Lit) : Type 0 where
  pub named : All (IsBelow f.vars) new
  pub count : length new ≡ length covered
  pub values : (a : List Bool) → Satisfies a f → values new a ≡ crossed (lit_value l a) (values covered a) (values row a)

-- literals that are true together where each test is whose literal is true
pub record AreImplied (f : Cnf) (xs tests new : List Lit) : Type 0 where
  pub named : All (IsBelow f.vars) new
  pub values : (a : List Bool) → Satisfies a f → list_all (λ l. lit_value l a) new ≡ each_holds (values xs a) (values tests a)

-- literals that are true together where those of both lists are
pub record AreBoth (xs ys new : List Lit) : Type 0 where
  pub named : (n : ℕ) → All (IsBelow n) xs → All (IsBelow n) ys → All (IsBelow n) new
  pub values : (a : List Bool) → list_all (λ l. lit_value l a) new ≡ (list_all (λ l. lit_value l a) xs && list_all (λ l. lit_value l a) ys)
