-- The lists and bindings of the code, and what its calls say.
use Rattle.std.specs.Prelude.{ℕ, ◌≡◌, ◌++◌, List, map, Option}
use Rattle.snowcat_rows.specs.declared.types.Ty.{Ty}
use Rattle.snowcat_rows.specs.declared.bindings.Bound.{Bound}
use Rattle.snowcat_rows.specs.declared.bindings.Bound.TheVariants as bound
use Rattle.snowcat_rows.specs.declared.occurrences.Unknown.{Unknown}
use Rattle.snowcat_rows.specs.declared.occurrences.Unknown.TheVariants as unknown
use Rattle.snowcat_rows.specs.Types.{Term, Slot, fields, lookup, mean}
use Rattle.snowcat_rows.specs.Substitutions.{Sub, apply, or_else, tail_row}
use Rattle.snowcat_rows.specs.Chains.{Binding, to_type, to_row, Variable, type_var, row_var}

-- the fields, with what their types mean
abbrev pub named : List (List ℕ × Ty) → List (List ℕ × Term)
named fs = map (λ f. (f.0, mean f.1)) fs

-- what a record has of each name
abbrev pub has : List (List ℕ × Ty) → List ℕ → Slot
has fs = lookup (named fs)

abbrev pub changed : Sub → List (List ℕ × Ty) → List (List ℕ × Term)
changed s fs = map (λ f. (f.0, apply s (mean f.1))) fs

abbrev pub binding : Bound → Binding
binding (bound.Type v t) = to_type v (mean t)
binding (bound.Row r gs k) = to_row r (record { at = has gs; tail = k })

abbrev pub bindings_of : List Bound → List Binding
bindings_of bs = map binding bs

abbrev pub variable : Unknown → Variable
variable (unknown.Type v) = type_var v
variable (unknown.Row r) = row_var r

-- the record of the fields, followed by what its row variable stands for
abbrev pub followed : List (List ℕ × Term) → Sub → Option ℕ → Term
followed fs s k = fields (λ n. or_else (lookup fs n) ((tail_row s k).at n)) (tail_row s k).tail

-- ys begins with xs
abbrev pub Begins : {A : Type 0} (xs ys : List A) → Type 0
Begins {A} xs ys = (zs : List A) × (ys ≡ xs ++ zs)
