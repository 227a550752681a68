-- Shapes that pass the test of equality are equal.
use Rattle.std.proofs.Common.{◌≡◌, ℕ, Bool, true, false, ◌&&◌, nat_eq, suc, IsTrue, List, [], ◌∷◌, length, map, ℤ, refl, sym, ◌∙◌, ap, ap₂}
use Rattle.std.specs.Ordering.{int_eq}
use Rattle.std.proofs.lemmas.Bool.{eqb-true}
use Rattle.std.proofs.lemmas.Bool.Decides.{Decides-int_eq}
use Rattle.tla_meaning.specs.Scopes.{same_text}
use Rattle.tla_meaning.proofs.Views.{and_left, and_right, false≢true}
use Rattle.kernel_shapes.proofs.JoinRight.{text_is}
use Rattle.kernel_shapes.specs.Shape.{Shape, Atom, Num, Set, Fun, Rec, Tup, Seq, Empty, Shapes, no_shapes, more_shapes, same_names, shapes}
use Rattle.kernel_shapes.specs.declared.bounds.Shape.{Shape as Code, Rec as record_of}
use Rattle.kernel_shapes.specs.Codes.{mean}
use Rattle.shape_bounds.specs.inner.Equality.{same, same_items}
use Rattle.shape_bounds.proofs.Means.{mean-Rec}

numbers_are : (n m : ℕ) → IsTrue (nat_eq n m) → n ≡ m
numbers_are n m e = eqb-true n m e

ends_are : (a b : ℤ) → IsTrue (int_eq a b) → a ≡ b
ends_are a b e = (Decides-int_eq a b).0 e

names_are : (xs ys : List (List ℕ)) → IsTrue (same_names xs ys) → xs ≡ ys
names_are [] [] e = refl
names_are (x ∷ xs) (y ∷ ys) e =
    ap₂ (λ (z : List ℕ) (zs : List (List ℕ)). z ∷ zs) (text_is x y (and_left (same_text x y) (same_names xs ys) e))
    (names_are xs ys (and_right (same_text x y) (same_names xs ys) e))
names_are [] (y ∷ ys) e = absurd (false≢true e)
names_are (x ∷ xs) [] e = absurd (false≢true e)

mutual
  same_is : (a b : Shape) → IsTrue (same a b) → a ≡ b
  same_is Atom Atom e = refl
  same_is (Num a b) (Num c d) e = ap₂ Num (ends_are a c (and_left (int_eq a c) (int_eq b d) e)) (ends_are b d (and_right (int_eq a c) (int_eq b d) e))
  same_is (Set n a) (Set m b) e = ap₂ Set (numbers_are n m (and_left (nat_eq n m) (same a b) e)) (same_is a b (and_right (nat_eq n m) (same a b) e))
  same_is (Fun n a r) (Fun m b s) e =
      let l : IsTrue (same a b && same r s) = and_right (nat_eq n m) (same a b && same r s) e in
      ap₂ (λ (k : ℕ) (c : Shape). Fun k c r) (numbers_are n m (and_left (nat_eq n m) (same a b && same r s) e)) (same_is a b (and_left (same a b) (same r s) l))
      ∙ ap (Fun m b) (same_is r s (and_right (same a b) (same r s) l))
  same_is (Rec xs as') (Rec ys bs) e =
      ap₂ Rec (names_are xs ys (and_left (same_names xs ys) (same_items as' bs) e)) (items_are as' bs (and_right (same_names xs ys) (same_items as' bs) e))
  same_is (Tup as') (Tup bs) e = ap Tup (items_are as' bs e)
  same_is (Seq n a) (Seq m b) e = ap₂ Seq (numbers_are n m (and_left (nat_eq n m) (same a b) e)) (same_is a b (and_right (nat_eq n m) (same a b) e))
  same_is Empty Empty e = refl
  same_is a b e = absurd (false≢true e)

  items_are : (as' bs : Shapes) → IsTrue (same_items as' bs) → as' ≡ bs
  items_are no_shapes no_shapes e = refl
  items_are (more_shapes a as') (more_shapes b bs) e =
      ap₂ more_shapes (same_is a b (and_left (same a b) (same_items as' bs) e)) (items_are as' bs (and_right (same a b) (same_items as' bs) e))
  items_are as' bs e = absurd (false≢true e)

first_of : Shape → Shapes → Shape
first_of c no_shapes = c
first_of c (more_shapes a as') = a

others_of : Shapes → Shapes
others_of no_shapes = no_shapes
others_of (more_shapes a as') = as'

listed : (as' bs : List Shape) → shapes as' ≡ shapes bs → as' ≡ bs
unfolding first_of others_of
listed [] [] e = refl
listed (a ∷ as') (b ∷ bs) e = ap₂ (λ (c : Shape) (cs : List Shape). c ∷ cs) (ap (first_of a) e) (listed as' bs (ap others_of e))
listed [] (b ∷ bs) e = absurd (cc)
listed (a ∷ as') [] e = absurd (cc)

-- lists of shapes that pass it are equal
pub same_shapes : (as' bs : List Shape) → IsTrue (same_items (shapes as') (shapes bs)) → as' ≡ bs
same_shapes as' bs e = listed as' bs (items_are (shapes as') (shapes bs) e)

-- ---- what the code finds

never : (b c : Bool) → false ≡ c → false ≡ b && c
never true c e = e
never false c e = refl

pub other_lengths : {X : Type 0} (f g : X → Shape) (xs ys : List X) → (length xs ≡ length ys → ⊥) → false ≡ same_items (shapes (map f xs)) (shapes (map g ys))
other_lengths f g [] [] e = absurd (e refl)
other_lengths f g [] (y ∷ ys) e = refl
other_lengths f g (x ∷ xs) [] e = refl
other_lengths f g (x ∷ xs) (y ∷ ys) e = never (same (f x) (g y)) _ (other_lengths f g xs ys (λ h. e (ap suc h)))

pub other_fields : (xs ys : List (List ℕ × Code)) → (length xs ≡ length ys → ⊥) →
    false ≡ same_names (map (λ x. x.0) xs) (map (λ y. y.0) ys) && same_items (shapes (map (λ x. mean x.1) xs)) (shapes (map (λ y. mean y.1) ys))
other_fields xs ys e = never (same_names (map (λ x. x.0) xs) (map (λ y. y.0) ys)) _ (other_lengths (λ x. mean x.1) (λ y. mean y.1) xs ys e)

pub same_records : (a b : Code) (xs ys us vs : List (List ℕ × Code)) (t : Bool) → a ≡ record_of us → b ≡ record_of vs → xs ≡ us → ys ≡ vs →
    t ≡ same_names (map (λ x. x.0) xs) (map (λ y. y.0) ys) && same_items (shapes (map (λ x. mean x.1) xs)) (shapes (map (λ y. mean y.1) ys)) → t ≡ same (mean a) (mean b)
same_records a b xs ys us vs t e f g h i =
    i
    ∙ ap₂ (λ us vs. same_names (map (λ x. x.0) us) (map (λ y. y.0) vs) && same_items (shapes (map (λ x. mean x.1) us)) (shapes (map (λ y. mean y.1) vs))) g h
    ∙ sym (ap₂ same (ap mean e ∙ mean-Rec us) (ap mean f ∙ mean-Rec vs))
