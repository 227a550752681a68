-- How many variables have no binding.
use Rattle.std.specs.Prelude.{ℕ, zero, suc, ◌≡◌, ◌<◌, ◌+◌, Bool, false, ◌||◌, ◌==◌, if◌then◌else◌, List, [], ◌∷◌}
use Rattle.snowcat_rows.specs.Types.{Term}
use Rattle.snowcat_rows.specs.Chains.{Variable, type_var, row_var, Binding, key, Occurs, OccursIn}

abbrev pub same_variable : Variable → Variable → Bool
same_variable (type_var v) (type_var w) = v == w
same_variable (row_var v) (row_var w) = v == w
same_variable x y = false

abbrev pub is_bound : Variable → List Binding → Bool
is_bound v [] = false
is_bound v (b ∷ bs) = same_variable v (key b) || is_bound v bs

abbrev pub open_among : (ℕ → Variable) → ℕ → List Binding → ℕ
open_among f zero bs = 0
open_among f (suc n) bs = (if is_bound (f n) bs then 0 else 1) + open_among f n bs

-- of the type variables below n and the row variables below m
abbrev pub open_count : ℕ → ℕ → List Binding → ℕ
open_count n m bs = open_among type_var n bs + open_among row_var m bs

-- the type variables are below n
abbrev pub TypesBelow : ℕ → Term → Type 0
TypesBelow n u = (v : ℕ) → Occurs (type_var v) u → v < n

abbrev pub BindingTypes : ℕ → Binding → Type 0
BindingTypes n b = ((v : ℕ) → key b ≡ type_var v → v < n) × ((v : ℕ) → OccursIn (type_var v) b → v < n)

abbrev pub AllTypes : ℕ → List Binding → Type 0
AllTypes n [] = Unit {0}
AllTypes n (b ∷ bs) = BindingTypes n b × AllTypes n bs
