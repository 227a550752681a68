-- What fits the second of two shapes of one kind fits their join.
use Rattle.std.proofs.Common.{◌≡◌, ℕ, IsTrue, List, [], ◌∷◌, length, ap₂, refl, sym, ◌∙◌, subst}
use Rattle.std.proofs.lemmas.Map.Text.{is_eq-slice_cmp}
use Rattle.std.proofs.lemmas.Slice.Eq.{bytes_eq-Decides}
use Rattle.tla_values.specs.Order.{Layer}
use Rattle.tla_values.specs.declared.value.Value.{Value, out-Value}
use Rattle.tla_meaning.specs.Shapes.{items_of}
use Rattle.tla_meaning.specs.Scopes.{same_text}
use Rattle.tla_meaning.proofs.Views.{and_left, and_right, false≢true}
use Rattle.kernel_shapes.specs.Shape.{Shape, Atom, Num, Set, Fun, Rec, Tup, Seq, Empty, Shapes, no_shapes, more_shapes, join, join_items, join_all, alike, alike_items, alike_all, same_names}
use Rattle.kernel_shapes.specs.Fits.{FitsLayer, FieldsFit, ItemsFit, FitAll}
use Rattle.kernel_shapes.proofs.FitLemmas.{AllFit, all_to, some_to, int_to, set_to, fun_to, hull_right, more_right, join_left}

pub text_is : (x y : List ℕ) → IsTrue (same_text x y) → x ≡ y
text_is x y e = (bytes_eq-Decides x y).0 (sym (is_eq-slice_cmp x y) ∙ e)

names_are : (xs ys : List (List ℕ)) → IsTrue (same_names xs ys) → xs ≡ ys
names_are [] [] e = refl
names_are (x ∷ xs) (y ∷ ys) e =
    ap₂ (λ (z : List ℕ) (zs : List (List ℕ)). z ∷ zs) (text_is x y (and_left (same_text x y) (same_names xs ys) e))
    (names_are xs ys (and_right (same_text x y) (same_names xs ys) e))
names_are [] (y ∷ ys) e = absurd (false≢true e)
names_are (x ∷ xs) [] e = absurd (false≢true e)

mutual
  pub join_right : (a b : Shape) (x : Layer Value) → IsTrue (alike a b) → FitsLayer b x → FitsLayer (join a b) x
  join_right Empty b x e h = h
  join_right Atom Atom x e h = h
  join_right (Num a b) (Num c d) x e h = int_to _ _ (hull_right a b c d) x h
  join_right (Set n a) (Set m b) x e h =
      set_to _ _ (λ vs g. (more_right (length vs) n m g.0, all_to _ _ (λ v. join_right a b (out-Value v) e) vs g.1)) x h
  join_right (Fun n a r) (Fun m b s) x e h =
      fun_to _ _ (λ ps g. (
        more_right (length ps) n m g.0,
        all_to _ _ (λ p l. (
          join_right a b (out-Value p.0) (and_left (alike a b) (alike r s) e) l.0,
          join_right r s (out-Value p.1) (and_right (alike a b) (alike r s) e) l.1,
        )) ps g.1,
      )) x h
  join_right (Seq n a) (Seq m b) x e h =
      fun_to _ _ (λ ps. some_to _ _ (λ vs g. (more_right (length vs) n m g.0, all_to _ _ (λ v. join_right a b (out-Value v) e) vs g.1)) (items_of ps)) x h
  join_right (Rec xs as') (Rec ys bs) x e h =
      let same : ys ≡ xs = sym (names_are xs ys (and_left (same_names xs ys) (alike_items as' bs) e)) in
      fun_to _ _ (λ ps g. (g.0, g.1, fields_right xs as' bs ps (and_right (same_names xs ys) (alike_items as' bs) e) g.2)) x (subst (λ zs. FitsLayer (Rec zs bs) x) same h)
  join_right (Tup as') (Tup bs) x e h = fun_to _ _ (λ ps. some_to _ _ (λ vs. items_right as' bs vs e) (items_of ps)) x h
  join_right a Empty x e h = absurd h
  join_right a b x e h = absurd (false≢true e)

  fields_right : (xs : List (List ℕ)) (as' bs : Shapes) (ps : List (Value × Value)) → IsTrue (alike_items as' bs) → FieldsFit xs bs ps → FieldsFit xs (join_items as' bs) ps
  fields_right xs no_shapes no_shapes ps e h = h
  fields_right (x ∷ xs) (more_shapes a as') (more_shapes b bs) ps e h = (
    some_to _ _ (λ v. join_right a b (out-Value v) (and_left (alike a b) (alike_items as' bs) e)) _ h.0,
    fields_right xs as' bs ps (and_right (alike a b) (alike_items as' bs) e) h.1,
  )
  fields_right [] (more_shapes a as') (more_shapes b bs) ps e h = absurd h
  fields_right xs no_shapes (more_shapes b bs) ps e h = absurd (false≢true e)
  fields_right xs (more_shapes a as') no_shapes ps e h = absurd (false≢true e)

  items_right : (as' bs : Shapes) (vs : List Value) → IsTrue (alike_items as' bs) → ItemsFit bs vs → ItemsFit (join_items as' bs) vs
  items_right no_shapes no_shapes vs e h = h
  items_right (more_shapes a as') (more_shapes b bs) (v ∷ vs) e h =
      (join_right a b (out-Value v) (and_left (alike a b) (alike_items as' bs) e) h.0, items_right as' bs vs (and_right (alike a b) (alike_items as' bs) e) h.1)
  items_right (more_shapes a as') (more_shapes b bs) [] e h = absurd h
  items_right no_shapes (more_shapes b bs) vs e h = absurd (false≢true e)
  items_right (more_shapes a as') no_shapes vs e h = absurd (false≢true e)

-- each of several values fits the join of their shapes
pub all_joined : (as' : List Shape) (vs : List Value) → IsTrue (alike_all as') → FitAll as' vs → AllFit (join_all as') vs
all_joined [] [] e h = tt
all_joined [] (v ∷ vs) e h = absurd h
all_joined (a ∷ as') [] e h = absurd h
all_joined (a ∷ as') (v ∷ vs) e h =
    let one : IsTrue (alike a (join_all as')) = and_left (alike a (join_all as')) (alike_all as') e in (
      join_left a (join_all as') (out-Value v) h.0,
      all_to _ _ (λ u. join_right a (join_all as') (out-Value u) one) vs (all_joined as' vs (and_right (alike a (join_all as')) (alike_all as') e) h.1),
    )
