-- Types in which no bound variable is left, and bindings that are put in place in one another.
use Rattle.std.specs.Prelude.{ℕ, ◌≡◌, ◌++◌, true, List, [], ◌∷◌, Option, Some, None}
use Rattle.std.specs.Coded.{×_prop, Coded-set, coded_bool}
use Rattle.snowcat_rows.specs.declared.bindings.Bound.{Bound}
use Rattle.snowcat_rows.specs.declared.places.Places.{Places}
use Rattle.snowcat_rows.specs.Types.{Term, Slot}
use Rattle.snowcat_rows.specs.Throughout.{Throughout, ThroughoutSlot}
use Rattle.snowcat_rows.specs.Substitutions.{Sub, apply, apply_row}
use Rattle.snowcat_rows.specs.Chains.{Variable, type_var, row_var, Binding, to_type, to_row, key, sub_of}
use Rattle.snowcat_rows.specs.inner.Naming.{all_bound_named}
use Rattle.snowcat_rows.specs.inner.Places.{Indexed, Indexed-prop}

-- none of the bindings binds the variable
abbrev pub IsFree : Variable → List Binding → Type 0
IsFree x [] = Unit {0}
IsFree x (b ∷ bs) = (x ≡ key b → ⊥) × IsFree x bs

abbrev pub EndFree : List Binding → Option ℕ → Type 0
EndFree bs None = Unit {0}
EndFree bs (Some r) = IsFree (row_var r) bs

-- no variable of the type is bound
abbrev pub AllFree : List Binding → Term → Type 0
AllFree bs t = Throughout (λ v. IsFree (type_var v) bs) (λ h. Unit {0}) (EndFree bs) t

abbrev pub FieldsFree : List Binding → (List ℕ → Slot) → Type 0
FieldsFree bs f = (name : List ℕ) → ThroughoutSlot (λ v. IsFree (type_var v) bs) (λ h. Unit {0}) (EndFree bs) (f name)

-- the binding of what its variable stands for under the substitution
abbrev pub under : Sub → Binding → Binding
under s (to_type v t) = to_type v (apply s t)
under s (to_row r w) = to_row r (apply_row s w)

-- from the last binding to the first, each under those that are made after it
abbrev pub settled : List Binding → List Binding
settled [] = []
settled (b ∷ bs) = settled bs ++ under (sub_of bs) b ∷ []

-- each binding stands at its place, and field names differ
abbrev pub AreSettled : List Bound → Places → Type 0
AreSettled bs p = Indexed p bs × (all_bound_named bs ≡ true)

pub AreSettled-prop : (bs : List Bound) (p : Places) → IsProp (AreSettled bs p)
AreSettled-prop bs p = ×_prop (Indexed-prop p bs) (Coded-set coded_bool (all_bound_named bs) true)
