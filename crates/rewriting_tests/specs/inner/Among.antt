-- Texts of a tree, and names of fields in a type, among given texts.
use Rattle.std.specs.Prelude.{ℕ, List, [], ◌∷◌, All}
use Rattle.snowcat_rows.specs.declared.types.Ty.{Ty}
use Rattle.kernel_trees.specs.TypeKinds.{kind_of}
use Rattle.typed_cells.specs.Known.{IsTextAmong}
use Rattle.expr_rewriter.specs.Rewriting.{type_texts}

abbrev pub AreAmong : List (List ℕ) → List (List ℕ) → Type 0
AreAmong texts xs = All (IsTextAmong texts) xs

-- the names of fields in the type
abbrev pub IsTypeAmong : List (List ℕ) → Ty → Type 0
IsTypeAmong texts t = AreAmong texts (type_texts (kind_of t))

abbrev pub AreTypesAmong : List (List ℕ) → List Ty → Type 0
AreTypesAmong texts [] = Unit {0}
AreTypesAmong texts (t ∷ ts) = IsTypeAmong texts t × AreTypesAmong texts ts

-- names of fields, and those in the types of fields
abbrev pub AreFieldsAmong : List (List ℕ) → List (List ℕ × Ty) → Type 0
AreFieldsAmong texts [] = Unit {0}
AreFieldsAmong texts (f ∷ fs) = (IsTextAmong texts f.0 × IsTypeAmong texts f.1) × AreFieldsAmong texts fs
