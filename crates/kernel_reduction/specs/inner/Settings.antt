-- In which setting each child of a node is built: its position, and the names that are bound around it. The number of a
-- bound name is how many names are bound around its binder and before it.
use Rattle.std.specs.Prelude.{◌≡◌, ◌-◌, ℕ, zero, suc, Bool, true, false, not, ◌&&◌, ◌||◌, nat_eq, nat_le, nat_lt, if◌then◌else◌, List, [], ◌∷◌, ◌++◌, length, replicate, Option, Some, None}
use Rattle.tla_meaning.specs.declared.actions.Assignable.{Assignable}
use Rattle.tla_meaning.specs.declared.expr.Expr.{Expr}
use Rattle.tla_meaning.specs.declared.op.Op.{Op}
use Rattle.tla_meaning.specs.declared.op.Op.TheVariants as op
use Rattle.snowcat_rows.specs.declared.types.Ty.{Ty}
use Rattle.kernel_trees.specs.declared.kernel.Ker.{Ker}
use Rattle.kernel_reduction.specs.Builds.{passes_on}
use Rattle.kernel_reduction.specs.BuildsTyped.{BuildsTyped}
use Rattle.kernel_reduction.specs.Reduction.{Numbering}

-- ---- numbers

abbrev pub counted_from : ℕ → List (List ℕ) → Numbering
counted_from n [] = []
counted_from n (x ∷ xs) = (x, n) ∷ counted_from (suc n) xs

-- each name with the number of those before it
abbrev pub counted : List (List ℕ) → Numbering
counted xs = counted_from 0 xs

-- ---- names

-- binders whose names are bound in what follows a set for each
abbrev pub binds_behind : Op → Bool
binds_behind op.Exists = true
binds_behind op.Forall = true
binds_behind op.Filter = true
binds_behind op.MapTo = true
binds_behind op.Lambda = true
binds_behind o = false

abbrev pub binds_some : Op → Bool
binds_some op.Fold = true
binds_some (op.Except counts) = true
binds_some o = binds_behind o

-- how many numbers what an EXCEPT binds has in the child at this number behind the function: in a right side one for each
-- index of its path, and two that a LET may need
abbrev pub numbers_at : List ℕ → ℕ → ℕ
numbers_at [] n = 0
numbers_at (c ∷ cs) n = if nat_lt n c then 0 else if nat_eq n c then suc (suc c) else numbers_at cs (n - suc c)

-- what an EXCEPT binds, as often as it has numbers in this child
abbrev pub updated_names : List ℕ → List (List ℕ) → ℕ → List (List ℕ)
updated_names cs (x ∷ []) (suc n) = replicate (numbers_at cs n) x
updated_names cs xs n = []

-- the names that a node binds in the child at this number
abbrev pub names_at : Op → List (List ℕ) → ℕ → List (List ℕ)
names_at op.Fold xs n = if nat_eq n 0 then xs else []
names_at (op.Except cs) xs n = updated_names cs xs n
names_at o xs n = if binds_behind o && nat_le (length xs) n then xs else []

-- ---- positions

-- of the children of a CASE, branches alternate with guards, and the last of an odd number is the branch of OTHER
abbrev pub is_odd : ℕ → Bool
is_odd zero = false
is_odd (suc n) = not (is_odd n)

-- whether the child at this number of so many stands where the node does, where some do
abbrev pub is_passed : Op → ℕ → ℕ → ℕ → Bool
is_passed op.Exists names count n = nat_le names n
is_passed op.If names count n = nat_lt 0 n
is_passed (op.Case other) names count n = is_odd n || nat_eq (suc n) count
is_passed o names count n = true

-- the position that is passed on, if one is
abbrev pub passing : Option Assignable → Op → List Expr → Option Assignable
passing None o es = None
passing (Some m) o es = if passes_on m o es then Some m else None

abbrev pub position_at : Option Assignable → Op → ℕ → ℕ → ℕ → Option Assignable
position_at i o names count n = if is_passed o names count n then i else None

-- ---- children

-- those from this number on, by the position and the bound names of each; the types that are to be read, and those left
abbrev pub AreBuilt :
    (ℕ → Option Assignable) → (ℕ → List (List ℕ)) → ℕ → List Expr → List Ty → List Ker → List Ty → Type 0
AreBuilt f g n [] ts [] us = ts ≡ us
AreBuilt f g n (e ∷ es) ts (k ∷ ks) vs =
    (us : List Ty) × BuildsTyped (f n) (counted (g n)) e ts k us × AreBuilt f g (suc n) es us ks vs
AreBuilt f g n es ts ks us = ⊥

abbrev pub positions : Option Assignable → Op → List Expr → List (List ℕ) → ℕ → Option Assignable
positions i o es xs n = position_at i o (length xs) (length es) n

abbrev pub scopes : List (List ℕ) → Op → List (List ℕ) → ℕ → List (List ℕ)
scopes names o xs n = names ++ names_at o xs n

-- all children of a node, where the position is passed on and these names are bound around the node
abbrev pub ChildrenBuilt :
    Option Assignable → List (List ℕ) → Op → List Expr → List (List ℕ) → List Ty → List Ker → List Ty → Type 0
ChildrenBuilt i names o es xs ts ks us = AreBuilt (positions i o es xs) (scopes names o xs) 0 es ts ks us
