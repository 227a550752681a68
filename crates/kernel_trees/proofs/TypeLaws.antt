-- The kinds of types, form by form, and equal kinds.
use Rattle.std.proofs.Common.{◌≡◌, ℕ, true, ◌&&◌, List, [], map, refl, ◌∙◌, ap, ap₂, Option, Some, None, option_map, option_and_then}
use Rattle.std.specs.Ordering.{is_eq}
use Rattle.tla_values.specs.Order.{text_cmp}
use Rattle.tla_values.proofs.TotalLemmas.{texts_equal}
use Rattle.tla_meaning.proofs.Laws.{equal_of}
use Rattle.tla_meaning.proofs.Views.{and_left, and_right, false≢true}
use Rattle.snowcat_rows.specs.declared.types.Ty.{Ty, out-Ty, Bool as bool_ty, Int, Str, Named, Var, Set as set_ty, Seq as seq_ty, Fun as fun_ty, Tup as tup_ty, Rec as rec_ty, Oper}
use Rattle.snowcat_rows.specs.declared.types.Ty.TheVariants.{outs-Bool, outs-Int, outs-Str, outs-Named, outs-Var, outs-Set, outs-Seq, outs-Fun, outs-Tup, outs-Rec, outs-Oper}
use Rattle.snowcat_rows.specs.declared.types.Ty.TheOpen as layer
use Rattle.snowcat_rows.specs.declared.types.Ty.TheFolds.{fold_out-Ty, map-Ty}
use Rattle.kernel_trees.specs.TypeKinds.{Kind, Truth, Number, Word, Set, Seq, Fun, Tup, Rec, Kinds, no_kinds, more_kinds, Fields, no_fields, more_fields, kinds, all_there, kind_layer, word_kind, record_kind, kind_of, same, all_same, fields_same}

abbrev Opened : layer.Ty-F Ty → Option Kind
Opened o = kind_layer (map-Ty Ty (Option Kind) kind_of o)

pub kind_out : (t : Ty) → kind_of t ≡ Opened (out-Ty t)
unfolding kind_of
kind_out t = fold_out-Ty (Option Kind) kind_layer t

pub kind-Bool : kind_of bool_ty ≡ Some Truth
kind-Bool = kind_out bool_ty ∙ ap Opened outs-Bool

pub kind-Int : kind_of Int ≡ Some Number
kind-Int = kind_out Int ∙ ap Opened outs-Int

pub kind-Str : kind_of Str ≡ Some (Word [])
kind-Str = kind_out Str ∙ ap Opened outs-Str

pub kind-Named : (x : List ℕ) → kind_of (Named x) ≡ word_kind x
kind-Named x = kind_out (Named x) ∙ ap Opened (outs-Named x)

pub kind-Var : (n : ℕ) → kind_of (Var n) ≡ None
kind-Var n = kind_out (Var n) ∙ ap Opened (outs-Var n)

pub kind-Set : (a : Ty) → kind_of (set_ty a) ≡ option_map Set (kind_of a)
kind-Set a = kind_out (set_ty a) ∙ ap Opened (outs-Set a)

pub kind-Seq : (a : Ty) → kind_of (seq_ty a) ≡ option_map Seq (kind_of a)
kind-Seq a = kind_out (seq_ty a) ∙ ap Opened (outs-Seq a)

pub kind-Fun : (a b : Ty) → kind_of (fun_ty a b) ≡ option_and_then (λ x. option_map (λ y. Fun x y) (kind_of b)) (kind_of a)
kind-Fun a b = kind_out (fun_ty a b) ∙ ap Opened (outs-Fun a b)

pub kind-Tup : (as' : List Ty) → kind_of (tup_ty as') ≡ option_map (λ xs. Tup (kinds xs)) (all_there (map kind_of as'))
kind-Tup as' = kind_out (tup_ty as') ∙ ap Opened (outs-Tup as')

pub kind-Rec : (fs : List (List ℕ × Ty)) →
    kind_of (rec_ty fs None) ≡ record_kind (map (λ f. (f.0, kind_of f.1)) fs)
kind-Rec fs = kind_out (rec_ty fs None) ∙ ap Opened (outs-Rec fs None)

pub kind-open : (fs : List (List ℕ × Ty)) (r : ℕ) → kind_of (rec_ty fs (Some r)) ≡ None
kind-open fs r = kind_out (rec_ty fs (Some r)) ∙ ap Opened (outs-Rec fs (Some r))

pub kind-Oper : (as' : List Ty) (b : Ty) → kind_of (Oper as' b) ≡ None
kind-Oper as' b = kind_out (Oper as' b) ∙ ap Opened (outs-Oper as' b)

pub ruleset type_kinds =
    (kind-Bool, kind-Int, kind-Str, kind-Named, kind-Var, kind-Set, kind-Seq, kind-Fun, kind-Tup, kind-Rec, kind-open, kind-Oper)

-- ---- equal kinds

mutual
  pub same_is : (a b : Kind) → same a b ≡ true → a ≡ b
  same_is Truth Truth h = refl
  same_is Number Number h = refl
  same_is (Word x) (Word y) h = ap Word (texts_equal x y (equal_of (text_cmp x y) h))
  same_is (Set a) (Set b) h = ap Set (same_is a b h)
  same_is (Seq a) (Seq b) h = ap Seq (same_is a b h)
  same_is (Fun a b) (Fun c d) h =
      ap₂ Fun (same_is a c (and_left (same a c) (same b d) h)) (same_is b d (and_right (same a c) (same b d) h))
  same_is (Tup a) (Tup b) h = ap Tup (all_same_is a b h)
  same_is (Rec a) (Rec b) h = ap Rec (fields_same_is a b h)
  same_is a b h = absurd (false≢true h)

  pub all_same_is : (a b : Kinds) → all_same a b ≡ true → a ≡ b
  all_same_is no_kinds no_kinds h = refl
  all_same_is (more_kinds a as') (more_kinds b bs) h =
      ap₂ more_kinds (same_is a b (and_left (same a b) (all_same as' bs) h))
      (all_same_is as' bs (and_right (same a b) (all_same as' bs) h))
  all_same_is a b h = absurd (false≢true h)

  pub fields_same_is : (a b : Fields) → fields_same a b ≡ true → a ≡ b
  fields_same_is no_fields no_fields h = refl
  fields_same_is (more_fields x a as') (more_fields y b bs) h =
      let name : is_eq (text_cmp x y) ≡ true = and_left (is_eq (text_cmp x y)) (same a b && fields_same as' bs) h in
      let rest : (same a b && fields_same as' bs) ≡ true = and_right (is_eq (text_cmp x y)) (same a b && fields_same as' bs) h in
      (λ i. more_fields (texts_equal x y (equal_of (text_cmp x y) name) i)
      (same_is a b (and_left (same a b) (fields_same as' bs) rest) i)
      (fields_same_is as' bs (and_right (same a b) (fields_same as' bs) rest) i))
  fields_same_is a b h = absurd (false≢true h)
