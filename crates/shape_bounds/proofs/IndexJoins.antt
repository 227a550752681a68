-- Joins of a shape with another at an index.
use Rattle.std.proofs.Common.{◌≡◌, ℕ, zero, suc, ◌+◌, ◌-◌, ◌<◌, ◌≤◌, Bool, true, false, List, [], ◌∷◌, ◌++◌, map, take, drop, length, get_or, ℤ, pos, negsuc, ◌<ℤ◌, ◌≤ℤ◌, nat_abs, refl, sym, ◌∙◌, ap, ap₂, arith, if◌then◌else◌}
use Rattle.std.proofs.lemmas.Int.{ints}
use Rattle.tla_meaning.specs.Scopes.{same_text}
use Rattle.kernel_trees.proofs.Steps.{same_text_same}
use Rattle.kernel_shapes.proofs.JoinRight.{text_is}
use Rattle.kernel_shapes.specs.declared.bounds.Shape.{Shape as Code, Rec as record_of, Tup as tuple}
use Rattle.kernel_shapes.specs.Codes.{mean}
use Rattle.kernel_shapes.specs.Rows.{Literal, no_literal, number, text, field_changed, item_changed, joined_at}
use Rattle.kernel_shapes.specs.Shape.{Shape, Atom, Num, Set, Fun, Rec, Tup, Seq, Empty, Shapes, no_shapes, more_shapes, shapes, join}
use Rattle.shape_bounds.specs.inner.Joined.{IsJoinedAt, joined_one}
use Rattle.shape_bounds.specs.inner.Updated.{IsFieldAt, IsItemAt}
use Rattle.shape_bounds.specs.Kept.{capped, capped_items, kept}
use Rattle.shape_bounds.proofs.Fielded.{more_mapped}
use Rattle.shape_bounds.proofs.Keeping.{capped_join}
use Rattle.shape_bounds.proofs.Means.{mean-Rec, mean-Tup}
use Rattle.shape_bounds.proofs.Places.{not_same}

-- ---- the place of an item

none_joined : (b : Shape) (as' : List Shape) → joined_one (length as') b as' ≡ as'
none_joined b [] = refl
none_joined b (a ∷ as') = ap (λ (cs : List Shape). a ∷ cs) (none_joined b as')

item_zero : (b : Shape) (as' : Shapes) → item_changed 0 (λ a. join a b) as' ≡ as'
item_zero b no_shapes = refl
item_zero b (more_shapes a as') = refl

item_past : (b : Shape) (n : ℕ) (as' : List Shape) → length as' < n → item_changed n (λ a. join a b) (shapes as') ≡ shapes as'
item_past b n [] h = refl
item_past b zero (a ∷ as') h = refl
item_past b (suc zero) (a ∷ as') h = absurd (omega (arith, h))
item_past b (suc (suc n)) (a ∷ as') h = ap (λ (cs : Shapes). more_shapes a cs) (item_past b (suc n) as' (omega (arith, h)))

item_there : (b : Shape) (k : ℕ) (as' : List Shape) → item_changed (suc k) (λ a. join a b) (shapes as') ≡ shapes (joined_one k b as')
item_there b k [] = refl
item_there b zero (a ∷ as') = refl
item_there b (suc k) (a ∷ as') = ap (λ (cs : Shapes). more_shapes a cs) (item_there b k as')

none_at : (b : Shape) (m : ℕ) (as' : List Shape) → length as' ≡ m → as' ≡ joined_one m b as'
none_at b m as' l = sym (none_joined b as') ∙ ap (λ (k : ℕ). joined_one k b as') l

pub item_low : (n : ℤ) (m : ℕ) → n <ℤ pos 1 → IsItemAt n m m
item_low (pos zero) m h = record { changed = λ b as' l. ap Tup (item_zero b (shapes as')) ∙ ap (λ (cs : List Shape). Tup (shapes cs)) (none_at b m as' l) }
item_low (pos (suc n)) m h = absurd (omega (arith, ints, h))
item_low (negsuc n) m h = record { changed = λ b as' l. ap (λ (cs : List Shape). Tup (shapes cs)) (none_at b m as' l) }

pub item_high : (n : ℤ) (m : ℕ) → pos m <ℤ n → IsItemAt n m m
item_high (pos n) m h = record {
  changed = λ b as' l.
      let k : length as' < n = omega (arith, ints, h, l) in
      ap Tup (item_past b n as' k) ∙ ap (λ (cs : List Shape). Tup (shapes cs)) (none_at b m as' l);
}
item_high (negsuc n) m h = record { changed = λ b as' l. ap (λ (cs : List Shape). Tup (shapes cs)) (none_at b m as' l) }

pub item_taken : (n : ℤ) (m k : ℕ) → k ≡ nat_abs n → pos 1 ≤ℤ n → IsItemAt n m (k - 1)
item_taken (pos zero) m k e low = absurd (omega (arith, ints, low))
item_taken (pos (suc n)) m k e low =
    let less : n ≡ k - 1 = omega (arith, e) in
    record { changed = λ b as' l. ap Tup (item_there b n as' ∙ ap (λ (i : ℕ). shapes (joined_one i b as')) less) }
item_taken (negsuc n) m k e low = absurd (omega (arith, ints, low))

-- ---- the place of a field

abbrev Field : Type 0
Field = List ℕ × Code

abbrev names : List Field → List (List ℕ)
names fs = map (λ (f : Field). f.0) fs

abbrev items : List Field → List Shape
items fs = map (λ (f : Field). mean f.1) fs

field_first : (x : List ℕ) (f : Field) (fs : List Field) → same_text x f.0 ≡ true → IsFieldAt x (f ∷ fs) 0
field_first x f fs e = record {
  changed = λ b. ap (λ (t : Bool). if t then more_shapes (join (mean f.1) b) (shapes (items fs)) else more_shapes (mean f.1) (field_changed x (λ a. join a b) (names fs) (shapes (items fs)))) e;
}

field_later : (x : List ℕ) (f : Field) (fs : List Field) (p : ℕ) → same_text x f.0 ≡ false → IsFieldAt x fs p → IsFieldAt x (f ∷ fs) (suc p)
field_later x f fs p e h = record {
  changed = λ b.
      ap (λ (t : Bool). if t then more_shapes (join (mean f.1) b) (shapes (items fs)) else more_shapes (mean f.1) (field_changed x (λ a. join a b) (names fs) (shapes (items fs)))) e
      ∙ ap (λ (cs : Shapes). more_shapes (mean f.1) cs) (h.changed b);
}

pub field_here : (x : List ℕ) (fs : List Field) (i : ℕ) (f : Field) → i < length fs → f ≡ get_or fs i f → x ≡ f.0 → IsFieldAt x (drop i fs) 0
field_here x [] i f h e s = absurd (omega (arith, h))
field_here x (g ∷ fs) zero f h e s =
    field_first x g fs (ap (λ (y : Field). same_text x y.0) (sym e) ∙ ap (same_text x) (sym s) ∙ same_text_same x)
field_here x (g ∷ fs) (suc i) f h e s = field_here x fs i f (omega (arith, h)) e s

pub field_more : (x : List ℕ) (fs : List Field) (i : ℕ) (f : Field) → i < length fs → f ≡ get_or fs i f → (x ≡ f.0 → ⊥) → (p : ℕ) →
    IsFieldAt x (drop (suc i) fs) p → IsFieldAt x (drop i fs) (suc p)
field_more x [] i f h e s p k = absurd (omega (arith, h))
field_more x (g ∷ fs) zero f h e s p k =
    field_later x g fs p (not_same (same_text x g.0) (λ t. s (text_is x g.0 t ∙ sym (ap (λ (y : Field). y.0) e)))) k
field_more x (g ∷ fs) (suc i) f h e s p k = field_more x fs i f (omega (arith, h)) e s p k

pub field_none : (x : List ℕ) (fs : List Field) (i : ℕ) → length fs ≤ i → IsFieldAt x (drop i fs) 0
field_none x [] zero h = record { changed = λ b. refl }
field_none x [] (suc i) h = record { changed = λ b. refl }
field_none x (g ∷ fs) zero h = absurd (omega (arith, h))
field_none x (g ∷ fs) (suc i) h = field_none x fs i (omega (arith, h))

-- ---- one item behind another

module _ {X : Type 0} (f : X → Shape) (b : Shape) where
  mapped_at : (xs : List X) (i : ℕ) (x : X) → i < length xs → x ≡ get_or xs i x → take i (map f xs) ++ f x ∷ [] ≡ take (suc i) (map f xs)
  mapped_at [] i x h e = absurd (omega (arith, h))
  mapped_at (u ∷ xs) zero x h e = ap (λ (a : X). f a ∷ []) e
  mapped_at (u ∷ xs) (suc i) x h e = ap (λ (as' : List Shape). f u ∷ as') (mapped_at xs i x (omega (arith, h)) e)

  one_here : (xs : List X) (i : ℕ) (x : X) → i < length xs → x ≡ get_or xs i x →
      take i (joined_one i b (map f xs)) ++ join (f x) b ∷ [] ≡ take (suc i) (joined_one i b (map f xs))
  one_here [] i x h e = absurd (omega (arith, h))
  one_here (u ∷ xs) zero x h e = ap (λ (a : X). join (f a) b ∷ []) e
  one_here (u ∷ xs) (suc i) x h e = ap (λ (as' : List Shape). f u ∷ as') (one_here xs i x (omega (arith, h)) e)

  one_there : (xs : List X) (p i : ℕ) (x : X) → (i ≡ p → ⊥) → i < length xs → x ≡ get_or xs i x →
      take i (joined_one p b (map f xs)) ++ f x ∷ [] ≡ take (suc i) (joined_one p b (map f xs))
  one_there [] p i x n h e = absurd (omega (arith, h))
  one_there (u ∷ xs) zero zero x n h e = absurd (n refl)
  one_there (u ∷ xs) (suc p) zero x n h e = ap (λ (a : X). f a ∷ []) e
  one_there (u ∷ xs) zero (suc i) x n h e = ap (λ (as' : List Shape). join (f u) b ∷ as') (mapped_at xs i x (omega (arith, h)) e)
  one_there (u ∷ xs) (suc p) (suc i) x n h e = ap (λ (as' : List Shape). f u ∷ as') (one_there xs p i x (λ q. n (ap suc q)) (omega (arith, h)) e)

  pub one_whole : (xs : List X) (p i : ℕ) → length xs ≤ i → take i (joined_one p b (map f xs)) ≡ joined_one p b (map f xs)
  one_whole [] p zero h = refl
  one_whole [] p (suc i) h = refl
  one_whole (u ∷ xs) p zero h = absurd (omega (arith, h))
  one_whole (u ∷ xs) zero (suc i) h = ap (λ (as' : List Shape). join (f u) b ∷ as') (all_taken xs i (omega (arith, h)))
    where
      all_taken : (zs : List X) (j : ℕ) → length zs ≤ j → take j (map f zs) ≡ map f zs
      all_taken [] zero l = refl
      all_taken [] (suc j) l = refl
      all_taken (z ∷ zs) zero l = absurd (omega (arith, l))
      all_taken (z ∷ zs) (suc j) l = ap (λ (as' : List Shape). f z ∷ as') (all_taken zs j (omega (arith, l)))
  one_whole (u ∷ xs) (suc p) (suc i) h = ap (λ (as' : List Shape). f u ∷ as') (one_whole xs p i (omega (arith, h)))

  -- one item more
  pub joined_here : (xs got new : List X) (item x : X) (p i : ℕ) → map f got ≡ take i (joined_one p b (map f xs)) → new ≡ got ++ item ∷ [] →
      f item ≡ join (f x) b → i ≡ p → i < length xs → x ≡ get_or xs i x → map f new ≡ take (i + 1) (joined_one p b (map f xs))
  joined_here xs got new item x p i h n e s l q =
      let one : suc i ≡ i + 1 = omega arith in
      ap (map f) n ∙ more_mapped f got item
      ∙ ap₂ (λ (as' : List Shape) (a : Shape). as' ++ a ∷ []) (h ∙ ap (λ (j : ℕ). take i (joined_one j b (map f xs))) (sym s)) e
      ∙ one_here xs i x l q
      ∙ ap₂ (λ (m j : ℕ). take m (joined_one j b (map f xs))) one s

  pub joined_there : (xs got new : List X) (item x : X) (p i : ℕ) → map f got ≡ take i (joined_one p b (map f xs)) → new ≡ got ++ item ∷ [] →
      f item ≡ f x → (i ≡ p → ⊥) → i < length xs → x ≡ get_or xs i x → map f new ≡ take (i + 1) (joined_one p b (map f xs))
  joined_there xs got new item x p i h n e s l q =
      let one : suc i ≡ i + 1 = omega arith in
      ap (map f) n ∙ more_mapped f got item
      ∙ ap₂ (λ (as' : List Shape) (a : Shape). as' ++ a ∷ []) h e
      ∙ one_there xs p i x s l q
      ∙ ap (λ (m : ℕ). take m (joined_one p b (map f xs))) one

-- ---- tuples and records

pub tuple_joined : (a : Code) (xs us zs : List Code) (n : ℤ) (p m : ℕ) (b : Shape) → a ≡ tuple xs → us ≡ xs → length us ≡ m → IsItemAt n m p →
    map mean zs ≡ joined_one p b (map mean us) → mean (tuple zs) ≡ joined_at (number n ∷ []) b (mean a)
tuple_joined a xs us zs n p m b e g l h q =
    mean-Tup zs ∙ ap (λ (as' : List Shape). Tup (shapes as')) (q ∙ ap (λ (vs : List Code). joined_one p b (map mean vs)) g)
    ∙ sym (h.changed b (map mean xs) (mapped_length xs ∙ sym (ap (λ (vs : List Code). length vs) g) ∙ l))
    ∙ sym (ap (joined_at (number n ∷ []) b) (ap mean e ∙ mean-Tup xs))
  where
    mapped_length : (vs : List Code) → length (map mean vs) ≡ length vs
    mapped_length [] = refl
    mapped_length (v ∷ vs) = ap suc (mapped_length vs)

pub record_joined : (a : Code) (xs us zs : List Field) (x : List ℕ) (p : ℕ) (b : Shape) → a ≡ record_of xs → us ≡ xs → IsFieldAt x us p → IsJoinedAt p b us zs →
    mean (record_of zs) ≡ joined_at (text x ∷ []) b (mean a)
record_joined a xs us zs x p b e g h j =
    mean-Rec zs
    ∙ ap₂ (λ (ns : List (List ℕ)) (as' : List Shape). Rec ns (shapes as')) (j.names) (j.shapes)
    ∙ ap (λ (as' : Shapes). Rec (names us) as') (sym (h.changed b))
    ∙ ap (λ (vs : List Field). Rec (names vs) (field_changed x (λ (c : Shape). join c b) (names vs) (shapes (items vs)))) g
    ∙ sym (ap (joined_at (text x ∷ []) b) (ap mean e ∙ mean-Rec xs))

-- ---- numbers that are kept

capped_changed : (n : ℕ) (b : Shape) (as' : Shapes) → capped_items (item_changed n (λ a. join a b) as') ≡ item_changed n (λ a. join a (capped b)) (capped_items as')
capped_changed n b no_shapes = refl
capped_changed zero b (more_shapes a as') = refl
capped_changed (suc zero) b (more_shapes a as') = ap (λ (c : Shape). more_shapes c (capped_items as')) (capped_join a b)
capped_changed (suc (suc n)) b (more_shapes a as') = ap (λ (cs : Shapes). more_shapes (capped a) cs) (capped_changed (suc n) b as')

capped_choice : (t : Bool) (a b : Shape) (as' bs cs : Shapes) → capped_items bs ≡ cs →
    capped_items (if t then more_shapes (join a b) as' else more_shapes a bs)
    ≡ (if t then more_shapes (join (capped a) (capped b)) (capped_items as') else more_shapes (capped a) cs)
capped_choice true a b as' bs cs h = ap (λ (c : Shape). more_shapes c (capped_items as')) (capped_join a b)
capped_choice false a b as' bs cs h = ap (λ (ds : Shapes). more_shapes (capped a) ds) h

capped_field : (x : List ℕ) (b : Shape) (ys : List (List ℕ)) (as' : Shapes) →
    capped_items (field_changed x (λ a. join a b) ys as') ≡ field_changed x (λ a. join a (capped b)) ys (capped_items as')
capped_field x b [] as' = refl
capped_field x b (y ∷ ys) no_shapes = refl
capped_field x b (y ∷ ys) (more_shapes a as') =
    capped_choice (same_text x y) a b as' (field_changed x (λ c. join c b) ys as') (field_changed x (λ c. join c (capped b)) ys (capped_items as')) (capped_field x b ys as')

pub capped_joined : (l : Literal) (b a : Shape) → capped (joined_at (l ∷ []) b a) ≡ joined_at (l ∷ []) (capped b) (capped a)
capped_joined l b Empty = refl
capped_joined l b Atom = refl
capped_joined l b (Num c d) = refl
capped_joined l b (Set n a) = refl
capped_joined l b (Fun n a r) = ap (Fun (kept n) (capped a)) (capped_join r b)
capped_joined l b (Seq n a) = ap (Seq (kept n)) (capped_join a b)
capped_joined (number (pos n)) b (Tup as') = ap Tup (capped_changed n b as')
capped_joined (number (negsuc n)) b (Tup as') = refl
capped_joined no_literal b (Tup as') = refl
capped_joined (text x) b (Tup as') = refl
capped_joined (text x) b (Rec xs as') = ap (Rec xs) (capped_field x b xs as')
capped_joined (number n) b (Rec xs as') = refl
capped_joined no_literal b (Rec xs as') = refl
