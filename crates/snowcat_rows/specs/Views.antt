-- What a `Subst` is, and what is settled.
use Rattle.std.specs.Prelude.{ℕ, zero, suc, List, [], ◌∷◌, Option, Some, None}
use Rattle.snowcat_rows.specs.declared.substitution.Subst.{Subst}
use Rattle.snowcat_rows.specs.declared.settling.Settled.{Settled}
use Rattle.snowcat_rows.specs.Substitutions.{Sub}
use Rattle.snowcat_rows.specs.Chains.{Binding, Chain, sub_of, to_type, to_row}
use Rattle.snowcat_rows.specs.Sorting.{AllWithin}
use Rattle.snowcat_rows.specs.Codes.{bindings_of}
use Rattle.snowcat_rows.specs.declared.reading.Aliases.{Aliases}
use Rattle.snowcat_rows.specs.Readings.{Known}
use Rattle.snowcat_rows.specs.inner.Lookups.{looked}
use Rattle.snowcat_rows.specs.inner.Readers.{known_of}

abbrev pub issued_of : Subst → ℕ
issued_of s = s.store.issued

-- its bindings in the order in which they were made
abbrev pub kept_by : Subst → List Binding
kept_by s = bindings_of s.store.bindings.items

-- what each variable stands for
abbrev pub stands_for : Subst → Sub
stands_for s = sub_of (kept_by s)

-- what each variable stands for, looked up once
abbrev pub settled_by : Settled → Sub
settled_by s = looked (bindings_of s.bindings.items)

-- no bound variable stands in its own binding or later, and all are of the first n
abbrev pub IsIssued : ℕ → List Binding → Type 0
IsIssued n bs = Chain bs × AllWithin n bs

abbrev pub type_bound : Binding → Option ℕ
type_bound (to_type v t) = Some v
type_bound (to_row r w) = None

-- the type variable that the i-th binding binds
abbrev pub type_bound_at : List Binding → ℕ → Option ℕ
type_bound_at [] i = None
type_bound_at (b ∷ bs) zero = type_bound b
type_bound_at (b ∷ bs) (suc i) = type_bound_at bs i

-- the aliases that count, each with its type and the number of its variables
abbrev pub known_by : Aliases → Known
known_by a = known_of a.known.items
