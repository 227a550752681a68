-- Where the binding of a variable stands in a list.
use Rattle.std.specs.Prelude.{ℕ, suc, ◌≡◌, List, [], ◌∷◌, get_or}
use Rattle.std.specs.Coded.{×_prop, Unit-prop, Coded-set, coded_ℕ}
use Rattle.snowcat_rows.specs.declared.bindings.Bound.{Bound}
use Rattle.snowcat_rows.specs.declared.places.Places.{Places}
use Rattle.snowcat_rows.specs.Chains.{Variable, type_var, row_var, key}
use Rattle.snowcat_rows.specs.Codes.{binding}

-- the place that is noted for the variable
abbrev pub entry : Places → Variable → ℕ
entry p (type_var v) = get_or p.types.items v 0
entry p (row_var r) = get_or p.rows.items r 0

-- the bindings stand at the places of their variables, the first at i
abbrev pub IndexedFrom : (Variable → ℕ) → ℕ → List Bound → Type 0
IndexedFrom e i [] = Unit {0}
IndexedFrom e i (b ∷ bs) = (e (key (binding b)) ≡ i) × IndexedFrom e (suc i) bs

abbrev pub Indexed : Places → List Bound → Type 0
Indexed p bs = IndexedFrom (entry p) 0 bs

IndexedFrom-prop : (e : Variable → ℕ) (i : ℕ) (bs : List Bound) → IsProp (IndexedFrom e i bs)
IndexedFrom-prop e i [] = Unit-prop
IndexedFrom-prop e i (b ∷ bs) = ×_prop (Coded-set coded_ℕ (e (key (binding b))) i) (IndexedFrom-prop e (suc i) bs)

pub Indexed-prop : (p : Places) (bs : List Bound) → IsProp (Indexed p bs)
Indexed-prop p bs = IndexedFrom-prop (entry p) 0 bs
