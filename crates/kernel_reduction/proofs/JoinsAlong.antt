-- Joins along a path of indexes, taken step by step.
use Rattle.std.proofs.Common.{◌≡◌, ℕ, zero, suc, max, Bool, true, false, List, [], ◌∷◌, ℤ, pos, negsuc, refl, sym, ◌∙◌, ap, ap₂, arith, if◌then◌else◌}
use Rattle.std.proofs.lemmas.Int.{ints}
use Rattle.std.specs.Int.{int_max, int_min}
use Rattle.tla_meaning.specs.declared.place.Place.{Place}
use Rattle.tla_meaning.specs.Scopes.{same_text}
use Rattle.kernel_shapes.specs.Shape.{Shape, Atom, Num, Set, Fun, Rec, Tup, Seq, Empty, Shapes, no_shapes, more_shapes, field, item, join, join_items}
use Rattle.kernel_shapes.specs.Rows.{Literal, no_literal, number, text, applied_at, changed_at, field_changed, item_changed, joined_at}
use Rattle.kernel_reduction.proofs.Gists.{own}
use Rattle.kernel_reduction.proofs.Joins.{join_self, items_self}

least_again : (a c : ℤ) → int_min a (int_min a c) ≡ int_min a c
least_again a c = grind (arith, ints)

greatest_again : (a c : ℤ) → int_max a (int_max a c) ≡ int_max a c
greatest_again a c = grind (arith, ints)

max_again : (n m : ℕ) → max n (max n m) ≡ max n m
max_again n m = omega arith

max_self : (n : ℕ) → max n n ≡ n
max_self n = omega arith

mutual
  join_again : (a b : Shape) → join a (join a b) ≡ join a b
  join_again Empty b = refl
  join_again (Num a b) (Num c d) = ap₂ Num (least_again a c) (greatest_again b d)
  join_again (Set n a) (Set m b) = ap₂ Set (max_again n m) (join_again a b)
  join_again (Fun n a r) (Fun m b s) = λ i. Fun (max_again n m i) (join_again a b i) (join_again r s i)
  join_again (Seq n a) (Seq m b) = ap₂ Seq (max_again n m) (join_again a b)
  join_again (Rec xs as') (Rec ys bs) = ap (Rec xs) (items_again as' bs)
  join_again (Tup as') (Tup bs) = ap Tup (items_again as' bs)
  join_again a b = join_self a

  items_again : (as' bs : Shapes) → join_items as' (join_items as' bs) ≡ join_items as' bs
  items_again no_shapes bs = refl
  items_again (more_shapes a as') no_shapes = items_self (more_shapes a as')
  items_again (more_shapes a as') (more_shapes b bs) = ap₂ more_shapes (join_again a b) (items_again as' bs)

-- what is joined along a path holds what was there
items_hold : (f : Shape → Shape) → ((a : Shape) → join a (f a) ≡ f a) → (n : ℕ) (as' : Shapes) → join_items as' (item_changed n f as') ≡ item_changed n f as'
items_hold f h n no_shapes = refl
items_hold f h zero (more_shapes a as') = items_self (more_shapes a as')
items_hold f h (suc zero) (more_shapes a as') = ap₂ more_shapes (h a) (items_self as')
items_hold f h (suc (suc n)) (more_shapes a as') = ap₂ more_shapes (join_self a) (items_hold f h (suc n) as')

fields_hold : (f : Shape → Shape) → ((a : Shape) → join a (f a) ≡ f a) → (x : List ℕ) (xs : List (List ℕ)) (as' : Shapes) → join_items as' (field_changed x f xs as') ≡ field_changed x f xs as'
fields_hold f h x [] as' = items_self as'
fields_hold f h x (y ∷ ys) no_shapes = refl
fields_hold f h x (y ∷ ys) (more_shapes a as') = by (same_text x y) (fields_hold f h x ys as')
  where
    by : (b : Bool) → join_items as' (field_changed x f ys as') ≡ field_changed x f ys as' →
        join_items (more_shapes a as') (if b then more_shapes (f a) as' else more_shapes a (field_changed x f ys as')) ≡ (if b then more_shapes (f a) as' else more_shapes a (field_changed x f ys as'))
    by true r = ap₂ more_shapes (h a) (items_self as')
    by false r = ap₂ more_shapes (join_self a) r

hold : (f : Shape → Shape) → ((a : Shape) → join a (f a) ≡ f a) → (l : Literal) (a : Shape) → join a (changed_at a l f) ≡ changed_at a l f
hold f h (number (pos n)) (Tup as') = ap Tup (items_hold f h n as')
hold f h (number (negsuc n)) (Tup as') = join_self (Tup as')
hold f h (text x) (Tup as') = join_self (Tup as')
hold f h no_literal (Tup as') = join_self (Tup as')
hold f h (text x) (Rec xs as') = ap (Rec xs) (fields_hold f h x xs as')
hold f h (number n) (Rec xs as') = join_self (Rec xs as')
hold f h no_literal (Rec xs as') = join_self (Rec xs as')
hold f h l (Fun n a r) = λ i. Fun (max_self n i) (join_self a i) (h r i)
hold f h l (Seq n a) = ap₂ Seq (max_self n) (h a)
hold f h l Atom = refl
hold f h l (Num a b) = join_self (Num a b)
hold f h l (Set n a) = join_self (Set n a)
hold f h l Empty = refl

changes_joined : (l : Literal) (ls : List Literal) (new a : Shape) → joined_at (l ∷ ls) new a ≡ changed_at a l (joined_at ls new)
changes_joined l ls new Empty = refl
changes_joined l ls new Atom = refl
changes_joined l ls new (Num a b) = refl
changes_joined l ls new (Set n a) = refl
changes_joined l ls new (Fun n a r) = refl
changes_joined l ls new (Rec xs as') = refl
changes_joined l ls new (Tup as') = refl
changes_joined l ls new (Seq n a) = refl

join_holds : (ls : List Literal) (new a : Shape) → join a (joined_at ls new a) ≡ joined_at ls new a
join_holds [] new a = join_again a new
join_holds (l ∷ ls) new a = ap (join a) (changes_joined l ls new a) ∙ hold (joined_at ls new) (join_holds ls new) l a ∙ sym (changes_joined l ls new a)

-- ---- a path index by index

items_twice : (f : Shape → Shape) → ((a : Shape) → join a (f a) ≡ f a) → (n : ℕ) (as' : Shapes) → item_changed n (λ b. join b (f (item n as'))) as' ≡ item_changed n f as'
items_twice f h n no_shapes = refl
items_twice f h zero (more_shapes a as') = refl
items_twice f h (suc zero) (more_shapes a as') = ap (λ (b : Shape). more_shapes b as') (h a)
items_twice f h (suc (suc n)) (more_shapes a as') = ap (more_shapes a) (items_twice f h (suc n) as')

fields_twice : (f : Shape → Shape) → ((a : Shape) → join a (f a) ≡ f a) → (x : List ℕ) (xs : List (List ℕ)) (as' : Shapes) →
    field_changed x (λ b. join b (f (field x xs as'))) xs as' ≡ field_changed x f xs as'
fields_twice f h x [] as' = refl
fields_twice f h x (y ∷ ys) no_shapes = refl
fields_twice f h x (y ∷ ys) (more_shapes a as') = by (same_text x y) (fields_twice f h x ys as')
  where
    by : (b : Bool) → field_changed x (λ b. join b (f (field x ys as'))) ys as' ≡ field_changed x f ys as' →
        (if b then more_shapes (join a (f (if b then a else field x ys as'))) as' else more_shapes a (field_changed x (λ c. join c (f (if b then a else field x ys as'))) ys as'))
        ≡ (if b then more_shapes (f a) as' else more_shapes a (field_changed x f ys as'))
    by true r = ap (λ (b : Shape). more_shapes b as') (h a)
    by false r = ap (more_shapes a) r

twice : (f : Shape → Shape) → ((a : Shape) → join a (f a) ≡ f a) → (l : Literal) (a : Shape) → changed_at a l (λ b. join b (f (applied_at a l))) ≡ changed_at a l f
twice f h (number (pos n)) (Tup as') = ap Tup (items_twice f h n as')
twice f h (number (negsuc n)) (Tup as') = refl
twice f h (text x) (Tup as') = refl
twice f h no_literal (Tup as') = refl
twice f h (text x) (Rec xs as') = ap (Rec xs) (fields_twice f h x xs as')
twice f h (number n) (Rec xs as') = refl
twice f h no_literal (Rec xs as') = refl
twice f h l (Fun n a r) = ap (Fun n a) (h r)
twice f h l (Seq n a) = ap (Seq n) (h a)
twice f h l Atom = refl
twice f h l (Num a b) = refl
twice f h l (Set n a) = refl
twice f h l Empty = refl

pub joined_twice : (l : Literal) (ls : List Literal) (new a : Shape) → joined_at (l ∷ []) (joined_at ls new (applied_at a l)) a ≡ joined_at (l ∷ ls) new a
joined_twice l ls new a = changes_joined l [] (joined_at ls new (applied_at a l)) a ∙ twice (joined_at ls new) (join_holds ls new) l a ∙ sym (changes_joined l ls new a)

-- a change inside leaves the number
pub own_joined : (p : Place) (l : Literal) (ls : List Literal) (new a : Shape) → own p (joined_at (l ∷ ls) new a) ≡ own p a
own_joined p (number (pos n)) ls new (Tup as') = refl
own_joined p (number (negsuc n)) ls new (Tup as') = refl
own_joined p (text x) ls new (Tup as') = refl
own_joined p no_literal ls new (Tup as') = refl
own_joined p (text x) ls new (Rec xs as') = refl
own_joined p (number n) ls new (Rec xs as') = refl
own_joined p no_literal ls new (Rec xs as') = refl
own_joined p l ls new (Fun n a r) = refl
own_joined p l ls new (Seq n a) = refl
own_joined p l ls new Atom = refl
own_joined p l ls new (Num a b) = refl
own_joined p l ls new (Set n a) = refl
own_joined p l ls new Empty = refl
