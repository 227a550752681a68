-- What is bound and how many variables are issued.
use Rattle.std.specs.Prelude.{◌≡◌, ◌≤◌, true, List}
use Rattle.std.specs.Coded.{×_prop, Coded-set, coded_bool}
use Rattle.snowcat_rows.specs.declared.substitution.Store.{Store}
use Rattle.snowcat_rows.specs.Types.{Term}
use Rattle.snowcat_rows.specs.Chains.{Binding, Chain}
use Rattle.snowcat_rows.specs.Codes.{Begins, bindings_of}
use Rattle.snowcat_rows.specs.Sorting.{AllWithin, AllWithin-prop, Chain-prop, Within}
use Rattle.snowcat_rows.specs.Unifying.{IsMade}
use Rattle.snowcat_rows.specs.inner.Naming.{all_bound_named}
use Rattle.snowcat_rows.specs.inner.Places.{Indexed, Indexed-prop}

abbrev pub bound_in : Store → List Binding
bound_in s = bindings_of s.bindings.items

-- in all that is bound the names of a record's fields differ
abbrev pub IsNamed : Store → Type 0
IsNamed s = all_bound_named s.bindings.items ≡ true

-- no bound variable stands in its own binding or later, all variables are issued, each binding stands at its place, and
-- field names differ
abbrev pub IsSound : Store → Type 0
IsSound s = Chain (bound_in s) × (AllWithin s.issued (bound_in s) × (Indexed s.places s.bindings.items × IsNamed s))

pub IsSound-prop : (s : Store) → IsProp (IsSound s)
IsSound-prop s =
    ×_prop (Chain-prop (bound_in s)) (×_prop (AllWithin-prop s.issued (bound_in s))
    (×_prop (Indexed-prop s.places s.bindings.items) (Coded-set coded_bool (all_bound_named s.bindings.items) true)))

-- all variables of both types are issued
abbrev pub HasBoth : Store → Term → Term → Type 0
HasBoth s a b = Within s.issued a × Within s.issued b

-- what was bound is bound, and the places are as they were
abbrev pub IsFurther : Store → Store → Type 0
IsFurther s t = Begins s.bindings.items t.bindings.items × (t.places ≡ s.places)

-- what was bound is bound, each at its place
abbrev pub IsKept : Store → Store → Type 0
IsKept s t = Begins s.bindings.items t.bindings.items × Indexed t.places s.bindings.items

-- the new bindings make the types equal
pub record IsSolved (s t : Store) (a b : Term) : Type 0 where
  pub chain : Chain (bound_in t)
  pub within : AllWithin t.issued (bound_in t)
  pub more : s.issued ≤ t.issued
  pub named : IsNamed t
  pub made : IsMade s.issued t.issued (bound_in s) (bound_in t) a b
