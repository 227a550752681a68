-- The standard modules, which are read from no file (Specifying Systems, chapter 18; the Apalache manual for its own).
use Rattle.std.specs.Prelude.{ℕ, true, List, [], ◌∷◌, codes, Option}
use Rattle.tla_meaning.specs.declared.op.Form.TheVariants as form
use Rattle.tla_meaning.specs.declared.op.Op.{Op}
use Rattle.tla_meaning.specs.declared.op.Op.TheVariants as op
use Rattle.tla_meaning.specs.Scopes.{find_last}
use Rattle.tla_meaning.specs.declared.symbols.Entry.{Entry}
use Rattle.tla_meaning.specs.declared.symbols.Kind.TheVariants.{Definition}
use Rattle.tla_meaning.specs.Symbols.{outside, standard_origin}

-- an operator of a standard module: its name, the operator at the node of its use, how many arguments it wants
abbrev pub standard : List ℕ → Op → ℕ → Entry
standard x o n = record { name = x; kind = Definition; place = outside; origin = standard_origin x; stands = o; arity = n; exported = true }

-- one that is only refused where it is reached
abbrev pub library : List ℕ → ℕ → Entry
library x n = standard x (op.Outside form.Library) n

abbrev pub natural_numbers : List Entry
natural_numbers = standard (codes "Nat") op.NatSet 0 ∷ []

abbrev pub integers : List Entry
integers = standard (codes "Nat") op.NatSet 0 ∷ standard (codes "Int") op.IntSet 0 ∷ []

abbrev pub sequences : List Entry
sequences =
    standard (codes "Seq") op.SeqSet 1
    ∷ standard (codes "Len") op.Len 1
    ∷ standard (codes "Append") op.Append 2
    ∷ standard (codes "Head") op.Head 1
    ∷ standard (codes "Tail") op.Tail 1
    ∷ standard (codes "SubSeq") op.SubSeq 3
    ∷ library (codes "SelectSeq") 2
    ∷ []

abbrev pub finite_sets : List Entry
finite_sets = standard (codes "Cardinality") op.Cardinality 1 ∷ standard (codes "IsFiniteSet") op.IsFinite 1 ∷ []

abbrev pub model_values : List Entry
model_values =
    library (codes "Print") 2
    ∷ library (codes "PrintT") 1
    ∷ library (codes "Assert") 2
    ∷ library (codes "Permutations") 1
    ∷ library (codes "SortSeq") 2
    ∷ library (codes "ToString") 1
    ∷ library (codes "TLCGet") 1
    ∷ library (codes "TLCSet") 2
    ∷ library (codes "RandomElement") 1
    ∷ library (codes "JavaTime") 0
    ∷ library (codes "Any") 0
    ∷ library (codes "TLCEval") 1
    ∷ []

abbrev pub apalache : List Entry
apalache =
    standard (codes "ApaFoldSeqLeft") op.Fold 3
    ∷ library (codes "ApaFoldSet") 3
    ∷ library (codes "Gen") 1
    ∷ library (codes "Guess") 1
    ∷ library (codes "MkSeq") 2
    ∷ library (codes "FunAsSeq") 3
    ∷ library (codes "SetAsFun") 1
    ∷ library (codes "Repeat") 3
    ∷ library (codes "Skolem") 1
    ∷ library (codes "Expand") 1
    ∷ library (codes "ConstCardinality") 1
    ∷ []

abbrev pub standard_modules : List (List ℕ × List Entry)
standard_modules =
    (codes "Naturals", natural_numbers)
    ∷ (codes "Integers", integers)
    ∷ (codes "Sequences", sequences)
    ∷ (codes "FiniteSets", finite_sets)
    ∷ (codes "TLC", model_values)
    ∷ (codes "Apalache", apalache)
    ∷ []

-- what a standard module of this name declares, where there is one
abbrev pub standard_module : List ℕ → Option (List Entry)
standard_module x = find_last x standard_modules
