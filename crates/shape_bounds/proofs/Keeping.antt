-- Rows of the table give shapes that are alike but for numbers past the greatest that is kept, if the operands are so.
use Rattle.std.proofs.Common.{◌≡◌, ℕ, zero, suc, ◌+◌, ◌*◌, max, Bool, true, false, List, [], ◌∷◌, map, refl, sym, ◌∙◌, ap, ap₂, if◌then◌else◌}
use Rattle.tla_meaning.specs.Scopes.{same_text}
use Rattle.kernel_shapes.specs.Shape.{Shape, Num, Set, Fun, Rec, Tup, Seq, Empty, Shapes, no_shapes, more_shapes, shapes, field, item, count, inside, result, join, join_items, join_all}
use Rattle.kernel_shapes.specs.Rows.{product_of, insides}
use Rattle.shape_bounds.specs.Kept.{kept, capped, capped_items}
use Rattle.shape_bounds.proofs.Sums.{kept_product, kept_twice, kept_max}

mutual
  pub capped_join : (a b : Shape) → capped (join a b) ≡ join (capped a) (capped b)
  capped_join Empty b = refl
  capped_join (Num a b) (Num c d) = refl
  capped_join (Set n a) (Set m b) = ap₂ Set (kept_max n m) (capped_join a b)
  capped_join (Fun n a r) (Fun m b s) =
      ap₂ (λ (k : ℕ) (x : Shape). Fun k x (capped (join r s))) (kept_max n m) (capped_join a b)
      ∙ ap (λ (x : Shape). Fun (max (kept n) (kept m)) (join (capped a) (capped b)) x) (capped_join r s)
  capped_join (Seq n a) (Seq m b) = ap₂ Seq (kept_max n m) (capped_join a b)
  capped_join (Rec xs as') (Rec ys bs) = ap (λ (zs : Shapes). Rec xs zs) (capped_join_items as' bs)
  capped_join (Tup as') (Tup bs) = ap Tup (capped_join_items as' bs)
  capped_join a Empty = refl
  capped_join a b = refl

  pub capped_join_items : (as' bs : Shapes) → capped_items (join_items as' bs) ≡ join_items (capped_items as') (capped_items bs)
  capped_join_items no_shapes bs = refl
  capped_join_items (more_shapes a as') no_shapes = refl
  capped_join_items (more_shapes a as') (more_shapes b bs) =
      ap₂ more_shapes (capped_join a b) (capped_join_items as' bs)

pub capped_join_all : (as' : List Shape) → capped (join_all as') ≡ join_all (map capped as')
capped_join_all [] = refl
capped_join_all (a ∷ as') = capped_join a (join_all as') ∙ ap (λ (b : Shape). join (capped a) b) (capped_join_all as')

pub capped_shapes : (as' : List Shape) → capped_items (shapes as') ≡ shapes (map capped as')
capped_shapes [] = refl
capped_shapes (a ∷ as') = ap (λ (bs : Shapes). more_shapes (capped a) bs) (capped_shapes as')

pub capped_inside : (a : Shape) → capped (inside a) ≡ inside (capped a)
capped_inside (Set n a) = refl
capped_inside (Fun n a r) = refl
capped_inside (Seq n a) = refl
capped_inside a = refl

pub capped_result : (a : Shape) → capped (result a) ≡ result (capped a)
capped_result (Fun n a r) = refl
capped_result (Seq n a) = refl
capped_result a = refl

count_items : (as' : Shapes) → count (Tup (capped_items as')) ≡ count (Tup as')
count_items no_shapes = refl
count_items (more_shapes a as') = ap (λ (n : ℕ). n + 1) (count_items as')

pub kept_count : (a : Shape) → kept (count (capped a)) ≡ kept (count a)
kept_count (Set n a) = kept_twice n
kept_count (Fun n a r) = kept_twice n
kept_count (Seq n a) = kept_twice n
kept_count (Tup as') = ap kept (count_items as')
kept_count (Rec xs as') = refl
kept_count a = refl

pub capped_item : (n : ℕ) (as' : Shapes) → capped (item n as') ≡ item n (capped_items as')
capped_item n no_shapes = refl
capped_item zero (more_shapes a as') = refl
capped_item (suc zero) (more_shapes a as') = refl
capped_item (suc (suc n)) (more_shapes a as') = capped_item (suc n) as'

capped_if : (b : Bool) (a c d : Shape) → capped c ≡ d → capped (if b then a else c) ≡ (if b then capped a else d)
capped_if true a c d h = refl
capped_if false a c d h = h

pub capped_field : (x : List ℕ) (xs : List (List ℕ)) (as' : Shapes) → capped (field x xs as') ≡ field x xs (capped_items as')
capped_field x [] as' = refl
capped_field x (y ∷ ys) no_shapes = refl
capped_field x (y ∷ ys) (more_shapes a as') = capped_if (same_text x y) a _ _ (capped_field x ys as')

pub capped_insides : (as' : List Shape) → map capped (insides as') ≡ insides (map capped as')
capped_insides [] = refl
capped_insides (a ∷ as') = ap₂ (λ (b : Shape) (bs : List Shape). b ∷ bs) (capped_inside a) (capped_insides as')

pub kept_products : (as' : List Shape) → kept (product_of (map capped as')) ≡ kept (product_of as')
kept_products [] = refl
kept_products (a ∷ as') =
    kept_product (count (capped a)) (product_of (map capped as'))
    ∙ ap₂ (λ (m n : ℕ). kept (m * n)) (kept_count a) (kept_products as')
    ∙ sym (kept_product (count a) (product_of as'))
