-- The sorts of small types, by computing.
use Rattle.std.proofs.Common.{◌≡◌, ℕ, List, [], ◌∷◌, Some, None, refl}
use Rattle.cell_merge.specs.Sorts.{truth, number, name, set_of, function_of, sequence_of, record_of, tuple_of}
use Rattle.snowcat_rows.specs.declared.types.Ty.{Bool as bool_ty, Int as int_ty, Str as str_ty, Named as named_ty}
use Rattle.snowcat_rows.specs.declared.types.Ty.{Var as var_ty, Set as set_ty, Seq as seq_ty, Fun as fun_ty}
use Rattle.snowcat_rows.specs.declared.types.Ty.{Tup as tup_ty, Rec as rec_ty}
use Rattle.kernel_trees.specs.TypeKinds.{Truth, Number, Set, Rec, fields}
use Rattle.kernel_trees.proofs.TypeLaws.{type_kinds}
use Rattle.typed_cells.specs.FieldOrder.{in_order}
use Rattle.typed_cells.specs.KindSorts.{names_within, record_sort, sort_at, type_sort}

abbrev a : List ℕ
a = 97 ∷ []

abbrev b : List ℕ
b = 98 ∷ []

-- Set(Int -> Seq(Str))
of_sets : type_sort (set_ty (fun_ty int_ty (seq_ty str_ty))) ≡ Some (set_of (function_of number (sequence_of name)))
of_sets = simp (type_kinds)

-- texts of any type are of one sort
of_names : type_sort (named_ty a) ≡ Some name
of_names = simp (type_kinds)

-- <<Int, Bool>>, part by part
of_tuples : type_sort (tup_ty (int_ty ∷ bool_ty ∷ [])) ≡ Some (tuple_of 2 (sort_at (number ∷ truth ∷ [])))
of_tuples = simp (type_kinds)

second_item : sort_at (number ∷ truth ∷ []) 1 ≡ truth
second_item = refl

-- {b: Int, a: Bool} has its fields in the order of their bytes
of_records : type_sort (rec_ty ((b, int_ty) ∷ (a, bool_ty) ∷ []) None) ≡ Some
    (record_of (a ∷ b ∷ []) (sort_at (truth ∷ number ∷ [])))
of_records = simp (type_kinds)

-- and so has a record that is made of an Int at b and a Bool at a
of_fields : record_sort (in_order (b ∷ a ∷ []) (number ∷ truth ∷ [])) ≡ record_of (a ∷ b ∷ [])
    (sort_at (truth ∷ number ∷ []))
of_fields = refl

-- a type with a variable has none
of_variables : type_sort (set_ty (var_ty 0)) ≡ None
of_variables = simp (type_kinds)

-- the names of fields, also within
names : names_within (Set (Rec (fields ((b, Number) ∷ (a, Rec (fields ((b, Truth) ∷ []))) ∷ [])))) ≡ a ∷ b ∷ b ∷ []
names = refl
