-- What satisfies a formula, as it grows; which variables a term reads; and what is known of a formula only where one
-- literal is true. Source: Konnov, Kukovec and Tran, "TLA+ Model Checking Made Symbolic", OOPSLA 2019, on arenas and
-- the constraints over them.
use Rattle.std.specs.Prelude.{◌≡◌, ◌↔◌, ℕ, ◌<◌, ◌≤◌, Bool, true, false, List, slice_index_or}
use Rattle.sat_formula.specs.declared.cnf.Cnf.{Cnf}
use Rattle.sat_formula.specs.Formula.{Satisfies}

-- a truth value for each variable; one past its end counts as false
abbrev pub Assignment : Type 0
Assignment = List Bool

abbrev pub bit : Assignment → ℕ → Bool
bit a i = slice_index_or a i false

-- a number of variables, and which assignments are allowed
pub record Constraint : Type 1 where
  pub vars : ℕ
  pub Sat : Assignment → Type 0

abbrev pub of_formula : Cnf → Constraint
of_formula f = record { vars = f.vars; Sat = λ a. Satisfies a f }

-- the constraint, and this is true
abbrev pub under : Constraint → (Assignment → Bool) → Constraint
under f on = record { vars = f.vars; Sat = λ a. f.Sat a × (on a ≡ true) }

-- ---- variables

-- the same on the first n variables
abbrev pub Agree : ℕ → Assignment → Assignment → Type 0
Agree n a b = (i : ℕ) → i < n → bit a i ≡ bit b i

-- what is read of an assignment depends on the first n variables alone
abbrev pub Reads : {A : Type 0} → ℕ → (Assignment → A) → Type 0
Reads n f = (a b : Assignment) → Agree n a b → f a ≡ f b

-- ---- growth

-- an assignment that is allowed, with this
pub record Allowed (f : Constraint) (P : Assignment → Type 0) : Type 0 where
  pub at : Assignment
  pub satisfies : f.Sat at
  pub so : P at

-- one that agrees with an older one on the variables of the older constraint
pub record Extended (old new : Constraint) (a : Assignment) (P : Assignment → Type 0) : Type 0 where
  pub to : Assignment
  pub agrees : Agree old.vars a to
  pub satisfies : new.Sat to
  pub so : P to

-- what the newer constraint allows the older one does, and each assignment that the older one allows goes on to one
-- that the newer one does
pub record Grown (old new : Constraint) : Type 0 where
  pub vars : old.vars ≤ new.vars
  pub stays : (a : Assignment) → new.Sat a → old.Sat a
  pub extends : (a : Assignment) → old.Sat a → Extended old new a (λ b. Unit {0})

-- a bit that each assignment of the older constraint can have with either value
pub record IsFreeBit (old new : Constraint) (free : Assignment → Bool) : Type 0 where
  pub grown : Grown old new
  pub reads : Reads new.vars free
  pub either : (a : Assignment) → old.Sat a → (v : Bool) → Extended old new a (λ b. free b ≡ v)

-- ---- what is read under each allowed assignment

-- it has this value
pub record HasValue {A : Type 0} (f : Constraint) (r value : Assignment → A) : Type 0 where
  pub reads : Reads f.vars r
  pub is : (a : Assignment) → f.Sat a → r a ≡ value a

-- it is true exactly where this holds, so no choice is left to it
pub record IsTrueWhere (f : Constraint) (l : Assignment → Bool) (Q : Assignment → Type 0) : Type 0 where
  pub reads : Reads f.vars l
  pub exact : (a : Assignment) → f.Sat a → (l a ≡ true) ↔ Q a
