-- Records whose field names differ. Source: the Apalache manual, "Type System 1.2".
use Rattle.std.specs.Prelude.{ℕ, Bool, true, ◌&&◌, List, map}
use Rattle.std.specs.List.{list_all}
use Rattle.snowcat_rows.specs.declared.types.Ty.{Ty}
use Rattle.snowcat_rows.specs.declared.types.Ty.TheOpen as layer
use Rattle.snowcat_rows.specs.declared.types.Ty.TheFolds.{fold-Ty}
use Rattle.snowcat_rows.specs.TypeTexts.{are_distinct}

-- the names of some fields
abbrev pub names : {X : Type 0} → List (List ℕ × X) → List (List ℕ)
names fs = map (λ f. f.0) fs

abbrev pub differ_layer : layer.Ty-F Bool → Bool
differ_layer (layer.Set a) = a
differ_layer (layer.Seq a) = a
differ_layer (layer.Fun a b) = a && b
differ_layer (layer.Tup ts) = list_all (λ t. t) ts
differ_layer (layer.Rec fs k) = are_distinct (names fs) && list_all (λ f. f.1) fs
differ_layer (layer.Oper ts b) = list_all (λ t. t) ts && b
differ_layer x = true

-- in each record of the type the names of the fields differ
unfoldable pub names_differ : Ty → Bool
names_differ = fold-Ty Bool differ_layer
