-- What a type's form says of its kind.
use Rattle.std.proofs.Common.{◌≡◌, ℕ, Bool, true, false, IsTrue, List, [], ◌∷◌, map, Option, Some, None, Result, Ok, Err, IfOk, option_map, option_and_then, refl, sym, ◌∙◌, ap, ap₂, subst}
use Rattle.std.specs.Prelude.{IfSome, is_some, if◌then◌else◌}
use Rattle.tla_meaning.proofs.Views.{false≢true}
use Rattle.snowcat_rows.specs.declared.types.Ty.{Ty, Bool as bool_ty, Int, Str, Named, Var, Set as set_ty, Seq as seq_ty, Fun as fun_ty, Tup as tup_ty, Rec as rec_ty, Oper}
use Rattle.kernel_trees.specs.TypeKinds.{Kind, Set, Seq, Fun, Tup, Rec, kinds, fields, all_there, all_fields_there, word_kind, kind_of}
use Rattle.kernel_trees.proofs.TypeLaws.{kind-Bool, kind-Int, kind-Str, kind-Named, kind-Var, kind-Set, kind-Seq, kind-Fun, kind-Tup, kind-Rec, kind-open, kind-Oper}
use Rattle.kernel_shapes.specs.Kernel.{kind_or_truth}
use Rattle.shape_bounds.specs.declared.kinds.TypeForm.{TypeForm}
use Rattle.shape_bounds.specs.declared.kinds.TypeForm.TheVariants as form
use Rattle.std.specs.declared.alloc.AllocError.{AllocError}
use Rattle.kernel_shapes.specs.declared.bounds.Shape.{Shape as Code}
use Rattle.kernel_shapes.specs.Codes.{mean}
use Rattle.kernel_shapes.specs.Rows.{Row, no_literal}
use Rattle.kernel_shapes.specs.Shape.{Shape}
use Rattle.shape_bounds.specs.inner.Forms.{IsForm, items_by}
use Rattle.shape_bounds.specs.inner.Table.{row_kept}

abbrev FormOf : TypeForm → Option Kind → Type 0
FormOf f o = IsForm f (kind_or_truth o)

at : (f : TypeForm) (t u : Ty) (o : Option Kind) → t ≡ u → kind_of u ≡ o → FormOf f o → FormOf f (kind_of t)
at f t u o e k h = subst (FormOf f) (sym (ap kind_of e ∙ k)) h

pub bool_form : (t : Ty) → t ≡ bool_ty → FormOf form.Other (kind_of t)
bool_form t e = at form.Other t bool_ty _ e kind-Bool (record { domain = refl; items = refl })

pub int_form : (t : Ty) → t ≡ Int → FormOf form.Other (kind_of t)
int_form t e = at form.Other t Int _ e kind-Int (record { domain = refl; items = refl })

pub str_form : (t : Ty) → t ≡ Str → FormOf form.Other (kind_of t)
str_form t e = at form.Other t Str _ e kind-Str (record { domain = refl; items = refl })

pub named_form : (t : Ty) (x : List ℕ) → t ≡ Named x → FormOf form.Other (kind_of t)
named_form t x e = at form.Other t (Named x) _ e (kind-Named x) (by x)
  where
    by : (z : List ℕ) → FormOf form.Other (word_kind z)
    by [] = record { domain = refl; items = refl }
    by (c ∷ z) = record { domain = refl; items = refl }

pub var_form : (t : Ty) (n : ℕ) → t ≡ Var n → FormOf form.Other (kind_of t)
var_form t n e = at form.Other t (Var n) _ e (kind-Var n) (record { domain = refl; items = refl })

pub oper_form : (t : Ty) (us : List Ty) (b : Ty) → t ≡ Oper us b → FormOf form.Other (kind_of t)
oper_form t us b e = at form.Other t (Oper us b) _ e (kind-Oper us b) (record { domain = refl; items = refl })

pub set_form : (t a : Ty) → t ≡ set_ty a → FormOf form.Other (kind_of t)
set_form t a e = at form.Other t (set_ty a) _ e (kind-Set a) (by (kind_of a))
  where
    by : (o : Option Kind) → FormOf form.Other (option_map Set o)
    by (Some k) = record { domain = refl; items = refl }
    by None = record { domain = refl; items = refl }

pub tup_form : (t : Ty) (us : List Ty) → t ≡ tup_ty us → FormOf form.Other (kind_of t)
tup_form t us e = at form.Other t (tup_ty us) _ e (kind-Tup us) (by (all_there (map kind_of us)))
  where
    by : (o : Option (List Kind)) → FormOf form.Other (option_map (λ ks. Tup (kinds ks)) o)
    by (Some k) = record { domain = refl; items = refl }
    by None = record { domain = refl; items = refl }

known : (f : TypeForm) (t u : Ty) (o : Option Kind) → t ≡ u → kind_of u ≡ o → (IsTrue (is_some o) → FormOf f o) → IsTrue (is_some (kind_of t)) → FormOf f (kind_of t)
known f t u o e k h s = at f t u o e k (h (subst (λ (p : Option Kind). IsTrue (is_some p)) (ap kind_of e ∙ k) s))

pub seq_form : (t a : Ty) → t ≡ seq_ty a → IsTrue (is_some (kind_of t)) → FormOf form.Sequence (kind_of t)
seq_form t a e = known form.Sequence t (seq_ty a) _ e (kind-Seq a) (by (kind_of a))
  where
    by : (o : Option Kind) → IsTrue (is_some (option_map Seq o)) → FormOf form.Sequence (option_map Seq o)
    by (Some k) h = record { domain = refl; items = refl }
    by None h = absurd (false≢true h)

pub fun_form : (t a b : Ty) → t ≡ fun_ty a b → IsTrue (is_some (kind_of t)) → FormOf form.Function (kind_of t)
fun_form t a b e = known form.Function t (fun_ty a b) _ e (kind-Fun a b) (by (kind_of a) (kind_of b))
  where
    by : (o p : Option Kind) → IsTrue (is_some (option_and_then (λ x. option_map (λ y. Fun x y) p) o)) → FormOf form.Function (option_and_then (λ x. option_map (λ y. Fun x y) p) o)
    by (Some k) (Some l) h = record { domain = refl; items = refl }
    by (Some k) None h = absurd (false≢true h)
    by None p h = absurd (false≢true h)

pub rec_form : (t : Ty) (fs : List (List ℕ × Ty)) (r : Option ℕ) → t ≡ rec_ty fs r → IsTrue (is_some (kind_of t)) → FormOf form.Record (kind_of t)
rec_form t fs (Some r) e = known form.Record t (rec_ty fs (Some r)) _ e (kind-open fs r) (λ h. absurd (false≢true h))
rec_form t fs None e = known form.Record t (rec_ty fs None) _ e (kind-Rec fs) (by _ (all_fields_there (map (λ (f : List ℕ × Ty). (f.0, kind_of f.1)) fs)))
  where
    by : (b : Bool) (o : Option (List (List ℕ × Kind))) → IsTrue (is_some (if b then option_map (λ xs. Rec (fields xs)) o else None)) → FormOf form.Record (if b then option_map (λ xs. Rec (fields xs)) o else None)
    by true (Some xs) h = record { domain = refl; items = refl }
    by true None h = absurd (false≢true h)
    by false o h = absurd (false≢true h)

pub some_form : (o : Option TypeForm) (f : TypeForm) (k : Kind) (A : Type 0) → IfSome o (λ g. (A → IsForm f k) → IsForm g k) → (A → IsForm f k) → IfSome o (λ g. IsForm g k)
some_form (Some g) f k A h i = h i
some_form None f k A h i = tt

pub items_at : (f : TypeForm) (r : Row) (as' bs : List Shape) (res : Result Code AllocError) → items_by f ≡ r → bs ≡ as' →
    IfOk res (λ s. (v : ℕ) → mean s ≡ row_kept v r no_literal as') → IfOk res (λ s. (v : ℕ) → mean s ≡ row_kept v (items_by f) no_literal bs)
items_at f r as' bs (Ok s) e g h = λ v. h v ∙ ap₂ (λ (q : Row) (cs : List Shape). row_kept v q no_literal cs) (sym e) (sym g)
items_at f r as' bs (Err s) e g h = tt
