-- What is built of types whose field names differ.
use Rattle.std.specs.Prelude.{ℕ, Bool, true, false, ◌&&◌, List, reverse}
use Rattle.std.specs.List.{list_all}
use Rattle.snowcat_rows.specs.declared.marks.Mark.{Mark}
use Rattle.snowcat_rows.specs.declared.marks.Mark.TheVariants as mark
use Rattle.snowcat_rows.specs.declared.building.Built.{Built}
use Rattle.snowcat_rows.specs.declared.building.Built.TheVariants as built
use Rattle.snowcat_rows.specs.declared.building.Builder.{Builder}
use Rattle.snowcat_rows.specs.declared.building.Alias.{Alias}
use Rattle.snowcat_rows.specs.declared.types.Ty.{Ty}
use Rattle.snowcat_rows.specs.declared.bindings.Bound.{Bound}
use Rattle.snowcat_rows.specs.declared.bindings.Bound.TheVariants as bound
use Rattle.snowcat_rows.specs.declared.substitution.Round.{Round}
use Rattle.snowcat_rows.specs.declared.substitution.Round.TheVariants.{Equal, Differs, More}
use Rattle.snowcat_rows.specs.declared.substitution.UnifyFault.{UnifyFault}
use Rattle.snowcat_rows.specs.declared.substitution.UnifyFault.TheVariants.{Clash, Memory}
use Rattle.snowcat_rows.specs.FieldNames.{names, names_differ}
use Rattle.snowcat_rows.specs.TypeTexts.{are_distinct}

abbrev pub item_named : Built → Bool
item_named (built.Type t d) = names_differ t
item_named (built.Types ts d) = list_all names_differ ts

-- of each type that was built
abbrev pub all_named : Builder → Bool
all_named b = list_all item_named (reverse b.items.items)

abbrev pub fields_named : List (List ℕ × Ty) → Bool
fields_named fs = list_all (λ f. names_differ f.1) fs

-- the names that the mark gives to fields differ
abbrev pub mark_named : Mark → Bool
mark_named (mark.Record xs r) = are_distinct xs
mark_named m = true

-- the mark makes something of types before it, or of none
abbrev pub is_construct : Mark → Bool
is_construct mark.Bool = false
is_construct mark.Int = false
is_construct mark.Str = false
is_construct (mark.Named x) = false
is_construct (mark.Var x) = false
is_construct (mark.Alias x) = false
is_construct m = true

abbrev pub aliases_named : List Alias → Bool
aliases_named ks = list_all (λ k. names_differ k.of) ks

-- in the record of these fields the names differ
abbrev pub record_named : List (List ℕ × Ty) → Bool
record_named fs = are_distinct (names fs) && fields_named fs

abbrev pub bound_named : Bound → Bool
bound_named (bound.Type v t) = names_differ t
bound_named (bound.Row r fs k) = record_named fs

-- in all that is bound the names differ
abbrev pub all_bound_named : List Bound → Bool
all_bound_named bs = list_all bound_named bs

abbrev pub are_named : Ty → Ty → Bool
are_named x y = names_differ x && names_differ y

-- in the two types of a fault the names differ
abbrev pub fault_named : UnifyFault → Bool
fault_named (Clash x y) = are_named x y
fault_named (Memory e) = true

-- in the types that a round leaves the names differ
abbrev pub round_named : Round → Bool
round_named Equal = true
round_named (Differs x y) = are_named x y
round_named (More x y) = are_named x y
