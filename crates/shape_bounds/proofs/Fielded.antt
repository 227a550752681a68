-- Fields put in order, and what is taken from the end of a list.
use Rattle.std.proofs.Common.{◌≡◌, ℕ, zero, suc, ◌+◌, ◌*◌, ◌<◌, ◌≤◌, Bool, true, false, List, [], ◌∷◌, ◌++◌, map, take, drop, length, get_or, refl, sym, ◌∙◌, ap, ap₂, arith, if◌then◌else◌}
use Rattle.std.proofs.Math.Seq.{drop-length}
use Rattle.std.specs.Ordering.{is_lt}
use Rattle.tla_values.specs.Order.{text_cmp}
use Rattle.kernel_shapes.specs.declared.bounds.Shape.{Shape as Code}
use Rattle.kernel_shapes.specs.declared.bounds.Shape.{Rec as record_of, Tup as tuple}
use Rattle.kernel_shapes.specs.Codes.{mean}
use Rattle.shape_bounds.proofs.Means.{mean-Rec, mean-Tup}
use Rattle.kernel_shapes.specs.Rows.{put_field, in_order, product_of, insides, record_shape}
use Rattle.kernel_shapes.specs.Shape.{Shape, Shapes, Rec, Tup, more_shapes, count, inside, join, join_items, join_all, shapes}
use Rattle.shape_bounds.specs.Kept.{kept}
use Rattle.shape_bounds.specs.inner.Table.{IsPlace, fields_of}
use Rattle.shape_bounds.specs.inner.Joined.{IsJoined, joined_each}
use Rattle.shape_bounds.proofs.Sums.{kept_product}

abbrev Field : Type 0
Field = List ℕ × Code

-- the name comes before that of the field at i
pub put_here : (x : List ℕ) (a : Shape) (fs : List Field) (i : ℕ) (f : Field) → i < length fs → is_lt (text_cmp x (get_or fs i f).0) ≡ true →
    take i (fields_of fs) ++ put_field x a (drop i (fields_of fs)) ≡ take i (fields_of fs) ++ (x, a) ∷ drop i (fields_of fs)
put_here x a [] i f h l = absurd (omega (arith, h))
put_here x a (g ∷ fs) zero f h l =
    ap (λ (b : Bool). if b then (x, a) ∷ (g.0, mean g.1) ∷ fields_of fs else (g.0, mean g.1) ∷ put_field x a (fields_of fs))
    l
put_here x a (g ∷ fs) (suc i) f h l =
    ap (λ (zs : List (List ℕ × Shape)). (g.0, mean g.1) ∷ zs) (put_here x a fs i f (omega (arith, h)) l)

pub put_more : (x : List ℕ) (a : Shape) (fs : List Field) (i : ℕ) (f : Field) → i < length fs → is_lt (text_cmp x (get_or fs i f).0) ≡ false →
    take i (fields_of fs) ++ put_field x a (drop i (fields_of fs)) ≡ take (suc i) (fields_of fs) ++ put_field x a (drop (suc i) (fields_of fs))
put_more x a [] i f h l = absurd (omega (arith, h))
put_more x a (g ∷ fs) zero f h l =
    ap (λ (b : Bool). if b then (x, a) ∷ (g.0, mean g.1) ∷ fields_of fs else (g.0, mean g.1) ∷ put_field x a (fields_of fs))
    l
put_more x a (g ∷ fs) (suc i) f h l =
    ap (λ (zs : List (List ℕ × Shape)). (g.0, mean g.1) ∷ zs) (put_more x a fs i f (omega (arith, h)) l)

pub put_last : (x : List ℕ) (a : Shape) (fs : List Field) (i : ℕ) → length fs ≤ i →
    take i (fields_of fs) ++ put_field x a (drop i (fields_of fs)) ≡ take (length fs) (fields_of fs) ++ (x, a) ∷ drop (length fs) (fields_of fs)
put_last x a [] zero h = refl
put_last x a [] (suc i) h = refl
put_last x a (g ∷ fs) zero h = absurd (omega (arith, h))
put_last x a (g ∷ fs) (suc i) h = ap (λ (zs : List (List ℕ × Shape)). (g.0, mean g.1) ∷ zs) (put_last x a fs i (omega (arith, h)))

-- ---- one more in front of what was taken from the end

pub in_order_more : (xs : List (List ℕ)) (vs : List Code) (k : ℕ) (x : List ℕ) (v : Code) → k < length xs → k < length vs →
    x ≡ get_or xs k x → v ≡ get_or vs k v →
    put_field x (mean v) (in_order (drop (suc k) xs) (drop (suc k) (map mean vs))) ≡ in_order (drop k xs) (drop k (map mean vs))
in_order_more [] vs k x v h l e f = absurd (omega (arith, h))
in_order_more (y ∷ xs) [] k x v h l e f = absurd (omega (arith, l))
in_order_more (y ∷ xs) (u ∷ vs) zero x v h l e f =
    ap₂ (λ (z : List ℕ) (w : Code). put_field z (mean w) (in_order xs (map mean vs))) e f
in_order_more (y ∷ xs) (u ∷ vs) (suc k) x v h l e f = in_order_more xs vs k x v (omega (arith, h)) (omega (arith, l)) e f

pub product_more : (xs : List Code) (k n : ℕ) (x : Code) → k < length xs → x ≡ get_or xs k x → n ≡ kept (product_of (drop (suc k) (map mean xs))) →
    kept (kept (count (mean x)) * n) ≡ kept (product_of (drop k (map mean xs)))
product_more [] k n x h e p = absurd (omega (arith, h))
product_more (y ∷ xs) zero n x h e p =
    ap₂ (λ (z : Code) (m : ℕ). kept (kept (count (mean z)) * m)) e p
    ∙ sym (kept_product (count (mean y)) (product_of (map mean xs)))
product_more (y ∷ xs) (suc k) n x h e p = product_more xs k n x (omega (arith, h)) e p

pub join_all_more : (xs : List Code) (k : ℕ) (x : Code) → k < length xs → x ≡ get_or xs k x →
    join (mean x) (join_all (drop (suc k) (map mean xs))) ≡ join_all (drop k (map mean xs))
join_all_more [] k x h e = absurd (omega (arith, h))
join_all_more (y ∷ xs) zero x h e = ap (λ (z : Code). join (mean z) (join_all (map mean xs))) e
join_all_more (y ∷ xs) (suc k) x h e = join_all_more xs k x (omega (arith, h)) e

pub nothing_left : {X : Type 0} → (f : Code → X) (xs : List Code) → drop (length xs) (map f xs) ≡ []
nothing_left f [] = refl
nothing_left f (x ∷ xs) = nothing_left f xs

pub insides_are : (xs : List Code) → map (λ x. inside (mean x)) xs ≡ insides (map mean xs)
insides_are [] = refl
insides_are (x ∷ xs) = ap (λ (as' : List Shape). inside (mean x) ∷ as') (insides_are xs)

-- ---- joins item by item

module _ {X : Type 0} (f : X → Shape) where
  pub joined_both : (xs ys : List X) (i : ℕ) (x y : X) → i < length xs → i < length ys → x ≡ get_or xs i x → y ≡ get_or ys i y →
      take i (joined_each (map f xs) (map f ys)) ++ join (f x) (f y) ∷ [] ≡ take (suc i) (joined_each (map f xs) (map f ys))
  joined_both [] ys i x y h l e g = absurd (omega (arith, h))
  joined_both (u ∷ xs) [] i x y h l e g = absurd (omega (arith, l))
  joined_both (u ∷ xs) (v ∷ ys) zero x y h l e g = ap₂ (λ (a b : X). join (f a) (f b) ∷ []) e g
  joined_both (u ∷ xs) (v ∷ ys) (suc i) x y h l e g =
      ap (λ (as' : List Shape). join (f u) (f v) ∷ as') (joined_both xs ys i x y (omega (arith, h)) (omega (arith, l)) e g)

  alone_at : (xs : List X) (i : ℕ) (x : X) → i < length xs → x ≡ get_or xs i x → take i (map f xs) ++ f x ∷ [] ≡ take (suc i) (map f xs)
  alone_at [] i x h e = absurd (omega (arith, h))
  alone_at (u ∷ xs) zero x h e = ap (λ (a : X). f a ∷ []) e
  alone_at (u ∷ xs) (suc i) x h e = ap (λ (as' : List Shape). f u ∷ as') (alone_at xs i x (omega (arith, h)) e)

  pub joined_alone : (xs ys : List X) (i : ℕ) (x : X) → i < length xs → length ys ≤ i → x ≡ get_or xs i x →
      take i (joined_each (map f xs) (map f ys)) ++ f x ∷ [] ≡ take (suc i) (joined_each (map f xs) (map f ys))
  joined_alone [] ys i x h l e = absurd (omega (arith, h))
  joined_alone (u ∷ xs) [] i x h l e = alone_at (u ∷ xs) i x h e
  joined_alone (u ∷ xs) (v ∷ ys) zero x h l e = absurd (omega (arith, l))
  joined_alone (u ∷ xs) (v ∷ ys) (suc i) x h l e =
      ap (λ (as' : List Shape). join (f u) (f v) ∷ as') (joined_alone xs ys i x (omega (arith, h)) (omega (arith, l)) e)

  pub joined_whole : (xs ys : List X) (i : ℕ) → length xs ≤ i → take i (joined_each (map f xs) (map f ys)) ≡ joined_each (map f xs) (map f ys)
  joined_whole [] ys zero h = refl
  joined_whole [] ys (suc i) h = refl
  joined_whole (u ∷ xs) [] i h = whole (u ∷ xs) i h
    where
      whole : (zs : List X) (j : ℕ) → length zs ≤ j → take j (map f zs) ≡ map f zs
      whole [] zero l = refl
      whole [] (suc j) l = refl
      whole (z ∷ zs) zero l = absurd (omega (arith, l))
      whole (z ∷ zs) (suc j) l = ap (λ (as' : List Shape). f z ∷ as') (whole zs j (omega (arith, l)))
  joined_whole (u ∷ xs) (v ∷ ys) zero h = absurd (omega (arith, h))
  joined_whole (u ∷ xs) (v ∷ ys) (suc i) h = ap (λ (as' : List Shape). join (f u) (f v) ∷ as') (joined_whole xs ys i (omega (arith, h)))

pub order_none : (xs : List (List ℕ)) (vs : List Code) (n : ℕ) → n ≡ length xs → [] ≡ in_order (drop n xs) (drop n (map mean vs))
order_none xs vs n e = ap (λ (ys : List (List ℕ)). in_order ys (drop n (map mean vs))) (sym (ap (λ m. drop m xs) e ∙ drop-length xs))

names_of : (fs : List Field) → map (λ (f : List ℕ × Shape). f.0) (fields_of fs) ≡ map (λ (f : Field). f.0) fs
names_of [] = refl
names_of (f ∷ fs) = ap (λ (xs : List (List ℕ)). f.0 ∷ xs) (names_of fs)

items_of : (fs : List Field) → map (λ (f : List ℕ × Shape). f.1) (fields_of fs) ≡ map (λ (f : Field). mean f.1) fs
items_of [] = refl
items_of (f ∷ fs) = ap (λ (xs : List Shape). mean f.1 ∷ xs) (items_of fs)

-- the record of fields that are in order
pub record_is : (xs : List (List ℕ)) (vs : List Code) (fs gs : List Field) → gs ≡ fs → fields_of fs ≡ in_order xs (map mean vs) →
    mean (record_of gs) ≡ record_shape xs (map mean vs)
record_is xs vs fs gs e h =
    ap (λ (hs : List Field). mean (record_of hs)) e
    ∙ mean-Rec fs
    ∙ ap₂ (λ (ys : List (List ℕ)) (as' : List Shape). Rec ys (shapes as')) (sym (names_of fs)) (sym (items_of fs))
    ∙ ap (λ (hs : List (List ℕ × Shape)). Rec (map (λ (f : List ℕ × Shape). f.0) hs) (shapes (map (λ (f : List ℕ × Shape). f.1) hs))) h

fields_cut : (fs : List Field) (n : ℕ) (f : Field) → fields_of (take n fs ++ f ∷ drop n fs) ≡ take n (fields_of fs) ++ (f.0, mean f.1) ∷ drop n (fields_of fs)
fields_cut [] zero f = refl
fields_cut [] (suc n) f = refl
fields_cut (g ∷ fs) zero f = refl
fields_cut (g ∷ fs) (suc n) f = ap (λ (hs : List (List ℕ × Shape)). (g.0, mean g.1) ∷ hs) (fields_cut fs n f)

pub fields_put : (x : List ℕ) (v : Code) (fs gs : List Field) (n : ℕ) → IsPlace x fs n → gs ≡ take n fs ++ (x, v) ∷ drop n fs →
    fields_of gs ≡ put_field x (mean v) (fields_of fs)
fields_put x v fs gs n p e = ap fields_of e ∙ fields_cut fs n (x, v) ∙ sym (p.put (mean v))

shapes_joined : (as' bs : List Shape) → shapes (joined_each as' bs) ≡ join_items (shapes as') (shapes bs)
shapes_joined [] bs = refl
shapes_joined (a ∷ as') [] = refl
shapes_joined (a ∷ as') (b ∷ bs) = ap (λ (cs : Shapes). more_shapes (join a b) cs) (shapes_joined as' bs)

pub tuples_joined : (a b : Code) (xs ys us vs zs : List Code) → a ≡ tuple xs → b ≡ tuple ys → us ≡ xs → vs ≡ ys →
    map mean zs ≡ joined_each (map mean us) (map mean vs) → mean (tuple zs) ≡ join (mean a) (mean b)
tuples_joined a b xs ys us vs zs e f g h p =
    mean-Tup zs
    ∙ ap (λ (as' : List Shape). Tup (shapes as')) (p ∙ ap₂ (λ (as' bs : List Code). joined_each (map mean as') (map mean bs)) g h)
    ∙ ap Tup (shapes_joined (map mean xs) (map mean ys))
    ∙ sym (ap₂ (λ (x y : Code). join (mean x) (mean y)) e f ∙ ap₂ join (mean-Tup xs) (mean-Tup ys))

abbrev item_of : Field → Shape
item_of f = mean f.1

pub records_joined : (a b : Code) (xs ys us vs zs : List Field) → a ≡ record_of xs → b ≡ record_of ys → us ≡ xs → vs ≡ ys →
    IsJoined us vs zs → mean (record_of zs) ≡ join (mean a) (mean b)
records_joined a b xs ys us vs zs e f g h p =
    mean-Rec zs
    ∙ ap₂ (λ (ns : List (List ℕ)) (as' : List Shape). Rec ns (shapes as'))
    (p.names ∙ ap (map (λ (x : Field). x.0)) g)
    (p.shapes ∙ ap₂ (λ (as' bs : List Field). joined_each (map item_of as') (map item_of bs)) g h)
    ∙ ap (λ (as' : Shapes). Rec (map (λ (x : Field). x.0) xs) as') (shapes_joined (map item_of xs) (map item_of ys))
    ∙ sym (ap₂ (λ (x y : Code). join (mean x) (mean y)) e f ∙ ap₂ join (mean-Rec xs) (mean-Rec ys))

pub more_mapped : {X : Type 0} → (f : X → Shape) (xs : List X) (x : X) → map f (xs ++ x ∷ []) ≡ map f xs ++ f x ∷ []
more_mapped f [] x = refl
more_mapped f (y ∷ xs) x = ap (λ (as' : List Shape). f y ∷ as') (more_mapped f xs x)

more_names : (fs : List Field) (f : Field) → map (λ (x : Field). x.0) (fs ++ f ∷ []) ≡ map (λ (x : Field). x.0) fs ++ f.0 ∷ []
more_names [] f = refl
more_names (g ∷ fs) f = ap (λ (xs : List (List ℕ)). g.0 ∷ xs) (more_names fs f)

module _ {X : Type 0} (f : X → Shape) where
  -- one item more
  pub item_both : (xs ys items new : List X) (item x y : X) (i : ℕ) → map f items ≡ take i (joined_each (map f xs) (map f ys)) →
      new ≡ items ++ item ∷ [] → f item ≡ join (f x) (f y) → i < length xs → i < length ys → x ≡ get_or xs i x → y ≡ get_or ys i y →
      map f new ≡ take (i + 1) (joined_each (map f xs) (map f ys))
  item_both xs ys items new item x y i h n e l k p q =
      let one : suc i ≡ i + 1 = omega arith in
      ap (map f) n ∙ more_mapped f items item
      ∙ ap₂ (λ (as' : List Shape) (a : Shape). as' ++ a ∷ []) h e
      ∙ joined_both f xs ys i x y l k p q
      ∙ ap (λ m. take m (joined_each (map f xs) (map f ys))) one

  pub item_alone : (xs ys items new : List X) (item x : X) (i : ℕ) → map f items ≡ take i (joined_each (map f xs) (map f ys)) →
      new ≡ items ++ item ∷ [] → f item ≡ f x → i < length xs → length ys ≤ i → x ≡ get_or xs i x →
      map f new ≡ take (i + 1) (joined_each (map f xs) (map f ys))
  item_alone xs ys items new item x i h n e l k p =
      let one : suc i ≡ i + 1 = omega arith in
      ap (map f) n ∙ more_mapped f items item
      ∙ ap₂ (λ (as' : List Shape) (a : Shape). as' ++ a ∷ []) h e
      ∙ joined_alone f xs ys i x l k p
      ∙ ap (λ m. take m (joined_each (map f xs) (map f ys))) one

name_at : (fs : List Field) (i : ℕ) (f : Field) → i < length fs → f ≡ get_or fs i f →
    take i (map (λ (x : Field). x.0) fs) ++ f.0 ∷ [] ≡ take (suc i) (map (λ (x : Field). x.0) fs)
name_at [] i f h e = absurd (omega (arith, h))
name_at (g ∷ fs) zero f h e = ap (λ (x : Field). x.0 ∷ []) e
name_at (g ∷ fs) (suc i) f h e = ap (λ (xs : List (List ℕ)). g.0 ∷ xs) (name_at fs i f (omega (arith, h)) e)

pub name_more : (xs fields new : List Field) (x : Field) (n : List ℕ) (v : Code) (i : ℕ) → map (λ (z : Field). z.0) fields ≡ take i (map (λ (z : Field). z.0) xs) →
    new ≡ fields ++ (n, v) ∷ [] → n ≡ x.0 → i < length xs → x ≡ get_or xs i x → map (λ (z : Field). z.0) new ≡ take (i + 1) (map (λ (z : Field). z.0) xs)
name_more xs fields new x n v i h e p l q =
    let one : suc i ≡ i + 1 = omega arith in
    ap (map (λ (z : Field). z.0)) e ∙ more_names fields (n, v)
    ∙ ap₂ (λ (ns : List (List ℕ)) (m : List ℕ). ns ++ m ∷ []) h p
    ∙ name_at xs i x l q
    ∙ ap (λ m. take m (map (λ (z : Field). z.0) xs)) one

pub names_whole : (xs : List Field) (i : ℕ) → length xs ≤ i → take i (map (λ (z : Field). z.0) xs) ≡ map (λ (z : Field). z.0) xs
names_whole [] zero l = refl
names_whole [] (suc i) l = refl
names_whole (x ∷ xs) zero l = absurd (omega (arith, l))
names_whole (x ∷ xs) (suc i) l = ap (λ (ns : List (List ℕ)). x.0 ∷ ns) (names_whole xs i (omega (arith, l)))
