-- EXCEPT: the value with a new one at the end of a path fits the join along the path.
use Rattle.std.proofs.Common.{◌≡◌, ℕ, zero, suc, ◌+◌, ◌≤◌, Bool, true, false, not, ◌||◌, IsTrue, List, [], ◌∷◌, length, Option, Some, None, option_map, pos, arith, refl, sym, ◌∙◌, ap, subst, if◌then◌else◌}
use Rattle.std.proofs.lemmas.Int.{ints}
use Rattle.std.proofs.lemmas.List.{length-map}
use Rattle.std.specs.List.{AllByRecursion, list_any}
use Rattle.std.specs.Ordering.{is_eq, int_cmp}
use Rattle.tla_values.specs.Order.{Layer, same_value}
use Rattle.tla_values.specs.Sets.{apply, override_at}
use Rattle.tla_values.specs.declared.value.Value.{Value, out-Value}
use Rattle.tla_values.specs.declared.value.Value.TheVariants as value
use Rattle.tla_values.specs.declared.value.Value.TheOpen as layer
use Rattle.tla_values.proofs.Extensional.{same_equal, same_itself}
use Rattle.tla_values.proofs.FunLaws.{override_arguments}
use Rattle.tla_meaning.specs.Forms.{same_set}
use Rattle.tla_meaning.specs.Scopes.{same_text}
use Rattle.tla_meaning.specs.Shapes.{items_of, items_from, is_int}
use Rattle.tla_meaning.specs.Meaning.{Reached, At, Outside, NoFunction, reached_at, step_into, go_on, at_path, put_at, set_path}
use Rattle.tla_meaning.proofs.NormalShapes.{IfSomes}
use Rattle.tla_meaning.proofs.Views.{and_left, and_right, false≢true}
use Rattle.kernel_shapes.specs.Shape.{Shape, Atom, Num, Set, Fun, Rec, Tup, Seq, Empty, Shapes, no_shapes, more_shapes, item, field, alike}
use Rattle.kernel_shapes.specs.Rows.{Literal, number, text, applied_at, shape_at, item_changed, field_changed, joined_at}
use Rattle.kernel_shapes.specs.Sized.{readable, is_once, goes_through, path_readable}
use Rattle.kernel_shapes.specs.Fits.{OfSome, FitsLayer, Fits, FieldsFit, ItemsFit}
use Rattle.kernel_shapes.proofs.FitLemmas.{all_to, some_to, fun_to, join_left}
use Rattle.kernel_shapes.proofs.JoinRight.{join_right, text_is}
use Rattle.kernel_shapes.proofs.Applied.{IsLiteral, number_at, number_there, applied_some}
use Rattle.kernel_shapes.proofs.Records.{texts, same_texts}

-- what is said of the value that a path reaches
abbrev pub IfReached : (Value → Type 0) → Reached → Type 0
IfReached P (At v) = P v
IfReached P Outside = Unit {0}
IfReached P NoFunction = Unit {0}

-- the results of a function with a new value at an argument
overridden : (P : Value × Value → Type 0) (Q : Value × Value → Type 0) (ps : List (Value × Value)) (i v : Value) →
    ((p : Value × Value) → P p → Q p) → ((p : Value × Value) → P p → Q (p.0, v)) → AllByRecursion P ps → AllByRecursion Q (override_at ps i v)
overridden P Q [] i v f g h = tt
overridden P Q (p ∷ ps) i v f g h = (by (same_value i p.0), overridden P Q ps i v f g h.1)
  where
    by : (b : Bool) → Q (if b then (p.0, v) else p)
    by true = g p h.0
    by false = f p h.0

-- the items of a sequence with a new value at an argument
items_overridden : (P Q : Value → Type 0) (n : ℕ) (ps : List (Value × Value)) (i v : Value) (m : ℕ) → ((u : Value) → P u → Q u) → Q v →
    OfSome (λ vs. (length vs ≤ m) × AllByRecursion P vs) (items_from n ps) → OfSome (λ vs. (length vs ≤ m) × AllByRecursion Q vs) (items_from n (override_at ps i v))
items_overridden P Q n [] i v m f q h = (h.0, tt)
items_overridden P Q n (p ∷ ps) i v m f q h =
    by (λ k. items_overridden P Q (n + 1) ps i v k f q) (is_int n (out-Value p.0)) refl h
  where
    same : (j : ℕ) → j ≤ j
    same j = omega arith

    below : (a b m : ℕ) → suc a ≤ m → b ≤ a → suc b ≤ m
    below a b m x y = omega (arith, x, y)

    more : (u : Value) (o o' : Option (List Value)) → ((k : ℕ) → OfSome (λ vs. (length vs ≤ k) × AllByRecursion P vs) o → OfSome (λ vs. (length vs ≤ k) × AllByRecursion Q vs) o') → Q u →
        OfSome (λ vs. (length vs ≤ m) × AllByRecursion P vs) (option_map (λ xs. p.1 ∷ xs) o) → OfSome (λ vs. (length vs ≤ m) × AllByRecursion Q vs) (option_map (λ xs. u ∷ xs) o')
    more u (Some xs) (Some ys) r y k =
        let s = r (length xs) (same (length xs), k.1.1) in (below (length xs) (length ys) m k.0 s.0, (y, s.1))
    more u (Some xs) None r y k = absurd (r (length xs) (same (length xs), k.1.1))
    more u None o' r y k = absurd k

    old : (o : Option (List Value)) → OfSome (λ vs. (length vs ≤ m) × AllByRecursion P vs) (option_map (λ xs. p.1 ∷ xs) o) → P p.1
    old (Some xs) k = k.1.0
    old None k = absurd k

    rest : List (Value × Value)
    rest = override_at ps i v

    by_test : ((k : ℕ) → OfSome (λ vs. (length vs ≤ k) × AllByRecursion P vs) (items_from (n + 1) ps) → OfSome (λ vs. (length vs ≤ k) × AllByRecursion Q vs) (items_from (n + 1) rest)) →
        is_int n (out-Value p.0) ≡ true → OfSome (λ vs. (length vs ≤ m) × AllByRecursion P vs) (option_map (λ xs. p.1 ∷ xs) (items_from (n + 1) ps)) → (b : Bool) →
        OfSome (λ vs. (length vs ≤ m) × AllByRecursion Q vs) (items_from n ((if b then (p.0, v) else p) ∷ rest))
    by_test r e k true =
        subst (λ (c : Bool). OfSome (λ vs. (length vs ≤ m) × AllByRecursion Q vs) (if c then option_map (λ xs. v ∷ xs) (items_from (n + 1) rest) else None)) (sym e)
        (more v (items_from (n + 1) ps) (items_from (n + 1) rest) r q k)
    by_test r e k false =
        subst (λ (c : Bool). OfSome (λ vs. (length vs ≤ m) × AllByRecursion Q vs) (if c then option_map (λ xs. p.1 ∷ xs) (items_from (n + 1) rest) else None)) (sym e)
        (more p.1 (items_from (n + 1) ps) (items_from (n + 1) rest) r (f p.1 (old (items_from (n + 1) ps) k)) k)

    by : ((k : ℕ) → OfSome (λ vs. (length vs ≤ k) × AllByRecursion P vs) (items_from (n + 1) ps) → OfSome (λ vs. (length vs ≤ k) × AllByRecursion Q vs) (items_from (n + 1) rest)) →
        (c : Bool) → is_int n (out-Value p.0) ≡ c → OfSome (λ vs. (length vs ≤ m) × AllByRecursion P vs) (if c then option_map (λ xs. p.1 ∷ xs) (items_from (n + 1) ps) else None) →
        OfSome (λ vs. (length vs ≤ m) × AllByRecursion Q vs) (items_from n (override_at (p ∷ ps) i v))
    by r true e k = by_test r e k (same_value i p.0)
    by r false e k = absurd k

-- ---- what fits still fits the join along a path

item_more : (n : ℕ) (f : Shape → Shape) (as' : Shapes) (vs : List Value) → ((x : Layer Value) → FitsLayer (item (suc n) as') x → FitsLayer (f (item (suc n) as')) x) →
    ItemsFit as' vs → ItemsFit (item_changed (suc n) f as') vs
item_more n f no_shapes vs k h = h
item_more zero f (more_shapes a as') (v ∷ vs) k h = (k (out-Value v) h.0, h.1)
item_more (suc n) f (more_shapes a as') (v ∷ vs) k h = (h.0, item_more n f as' vs k h.1)
item_more n f (more_shapes a as') [] k h = absurd h

field_more : (x : List ℕ) (f : Shape → Shape) (xs : List (List ℕ)) (as' : Shapes) (ps : List (Value × Value)) → ((y : Layer Value) → FitsLayer (field x xs as') y → FitsLayer (f (field x xs as')) y) →
    FieldsFit xs as' ps → FieldsFit xs (field_changed x f xs as') ps
field_more x f [] no_shapes ps k h = tt
field_more x f [] (more_shapes a as') ps k h = absurd h
field_more x f (y ∷ ys) no_shapes ps k h = absurd h
field_more x f (y ∷ ys) (more_shapes a as') ps k h = by (same_text x y) k (λ l. field_more x f ys as' ps l h.1)
  where
    by : (b : Bool) → ((z : Layer Value) → FitsLayer (if b then a else field x ys as') z → FitsLayer (f (if b then a else field x ys as')) z) →
        (((z : Layer Value) → FitsLayer (field x ys as') z → FitsLayer (f (field x ys as')) z) → FieldsFit ys (field_changed x f ys as') ps) →
        FieldsFit (y ∷ ys) (if b then more_shapes (f a) as' else more_shapes a (field_changed x f ys as')) ps
    by true l r = (some_to _ _ (λ v. l (out-Value v)) (apply ps (value.Text y)) h.0, h.1)
    by false l r = (h.0, r l)

-- one step of it
more_at : (a : Shape) (l : Literal) (ls : List Literal) (new : Shape) (x : Layer Value) → IsTrue (goes_through a l) →
    ((y : Layer Value) → FitsLayer (applied_at a l) y → FitsLayer (joined_at ls new (applied_at a l)) y) → FitsLayer a x → FitsLayer (joined_at (l ∷ ls) new a) x
more_at (Fun n a r) l ls new x e f h = fun_to _ _ (λ ps k. (k.0, all_to _ _ (λ p m. (m.0, f (out-Value p.1) m.1)) ps k.1)) x h
more_at (Seq n a) l ls new x e f h = fun_to _ _ (λ ps. some_to _ _ (λ vs k. (k.0, all_to _ _ (λ v. f (out-Value v)) vs k.1)) (items_of ps)) x h
more_at (Tup as') (number (pos (suc n))) ls new x e f h = fun_to _ _ (λ ps. some_to _ _ (λ vs. item_more n (joined_at ls new) as' vs f) (items_of ps)) x h
more_at (Tup as') (number (pos zero)) ls new x e f h = absurd (false≢true e)
more_at (Tup as') l ls new x e f h = absurd (false≢true e)
more_at (Rec xs as') (text y) ls new x e f h = fun_to _ _ (λ ps k. (k.0, k.1, field_more y (joined_at ls new) xs as' ps f k.2)) x h
more_at (Rec xs as') l ls new x e f h = absurd (false≢true e)
more_at Atom l ls new x e f h = h
more_at (Num a b) l ls new x e f h = h
more_at (Set n a) l ls new x e f h = h
more_at Empty l ls new x e f h = h

pub joined_more : (ls : List Literal) (new a : Shape) (x : Layer Value) → IsTrue (path_readable a ls) → FitsLayer a x → FitsLayer (joined_at ls new a) x
joined_more [] new a x e h = join_left a new x h
joined_more (l ∷ ls) new a x e h =
    let here = and_left (goes_through a l) (path_readable (applied_at a l) ls) e in
    let rest = and_right (goes_through a l) (path_readable (applied_at a l) ls) e in
    more_at a l ls new x here (λ y k. joined_more ls new (applied_at a l) y rest k) h

-- ---- a tuple with a new item

-- what stands at a number changes nothing behind it
untouched : (n m : ℕ) (ps : List (Value × Value)) (v : Value) → suc m ≤ n → items_from n (override_at ps (value.Int (pos m)) v) ≡ items_from n ps
untouched n m [] v h = refl
untouched n m (p ∷ ps) v h = by (is_int n (out-Value p.0)) refl (untouched (n + 1) m ps v (more n m h))
  where
    more : (n m : ℕ) → suc m ≤ n → suc m ≤ n + 1
    more n m q = omega (arith, q)

    other : (n m : ℕ) → suc m ≤ n → is_eq (int_cmp (pos m) (pos n)) ≡ false
    other n m q = grind (arith, ints, q)

    rest : List (Value × Value)
    rest = override_at ps (value.Int (pos m)) v

    kept : (b : Bool) → same_value (value.Int (pos m)) p.0 ≡ b → b ≡ false → items_from (n + 1) rest ≡ items_from (n + 1) ps →
        items_from n ((if b then (p.0, v) else p) ∷ rest) ≡ items_from n (p ∷ ps)
    kept true e f r = absurd (false≢true (sym f))
    kept false e f r = ap (λ (o : Option (List Value)). if is_int n (out-Value p.0) then option_map (λ xs. p.1 ∷ xs) o else None) r

    neither : (b : Bool) → is_int n (out-Value p.0) ≡ false → items_from n ((if b then (p.0, v) else p) ∷ rest) ≡ items_from n (p ∷ ps)
    neither b e = empty b ∙ sym (ap (λ (c : Bool). if c then option_map (λ xs. p.1 ∷ xs) (items_from (n + 1) ps) else None) e)
      where
        empty : (b : Bool) → items_from n ((if b then (p.0, v) else p) ∷ rest) ≡ None
        empty true = ap (λ (c : Bool). if c then option_map (λ xs. v ∷ xs) (items_from (n + 1) rest) else None) e
        empty false = ap (λ (c : Bool). if c then option_map (λ xs. p.1 ∷ xs) (items_from (n + 1) rest) else None) e

    by : (b : Bool) → is_int n (out-Value p.0) ≡ b → items_from (n + 1) rest ≡ items_from (n + 1) ps → items_from n (override_at (p ∷ ps) (value.Int (pos m)) v) ≡ items_from n (p ∷ ps)
    by true e r = kept (same_value (value.Int (pos m)) p.0) refl (number_at n m p.0 e ∙ other n m h) r
    by false e r = neither (same_value (value.Int (pos m)) p.0) e

item_put : (as' : Shapes) (f : Shape → Shape) (n k : ℕ) (ps : List (Value × Value)) (w : Value) → OfSome (ItemsFit as') (items_from n ps) → Fits (f (item (suc k) as')) w →
    OfSome (ItemsFit (item_changed (suc k) f as')) (items_from n (override_at ps (value.Int (pos (n + k))) w))
item_put no_shapes f n k [] w h g = h
item_put (more_shapes a as') f n k [] w h g = absurd h
item_put as' f n k (p ∷ ps) w h g =
    by as' k (is_int n (out-Value p.0)) refl (items_from (n + 1) ps) refl h g (λ bs j l m. item_put bs f (n + 1) j ps w l m)
  where
    same_first : (n : ℕ) → is_eq (int_cmp (pos (n + 0)) (pos n)) ≡ true
    same_first n = grind (arith, ints)

    same_later : (n k : ℕ) → is_eq (int_cmp (pos (n + suc k)) (pos n)) ≡ false
    same_later n k = grind (arith, ints)

    below : (n : ℕ) → suc (n + 0) ≤ n + 1
    below n = omega arith

    shifted : (n k : ℕ) → n + 1 + k ≡ n + suc k
    shifted n k = omega arith

    at_first : (a : Shape) (as' : Shapes) (o : Option (List Value)) → items_from (n + 1) ps ≡ o → IsTrue (is_int n (out-Value p.0)) → OfSome (ItemsFit (more_shapes a as')) (option_map (λ xs. p.1 ∷ xs) o) → Fits (f a) w →
        (b : Bool) → same_value (value.Int (pos (n + 0))) p.0 ≡ b → b ≡ true →
        OfSome (ItemsFit (more_shapes (f a) as')) (items_from n ((if b then (p.0, w) else p) ∷ override_at ps (value.Int (pos (n + 0))) w))
    at_first a as' None e i l m b s t = absurd l
    at_first a as' (Some xs) e i l m false s t = absurd (false≢true t)
    at_first a as' (Some xs) e i l m true s t =
        subst (λ (c : Bool). OfSome (ItemsFit (more_shapes (f a) as')) (if c then option_map (λ ys. w ∷ ys) (items_from (n + 1) (override_at ps (value.Int (pos (n + 0))) w)) else None)) (sym i)
        (subst (λ (o : Option (List Value)). OfSome (ItemsFit (more_shapes (f a) as')) (option_map (λ ys. w ∷ ys) o)) (sym (untouched (n + 1) (n + 0) ps w (below n) ∙ e)) (m, l.1))

    at_later : (a : Shape) (as' : Shapes) (k : ℕ) → IsTrue (is_int n (out-Value p.0)) → Fits a p.1 →
        OfSome (ItemsFit (item_changed (suc k) f as')) (items_from (n + 1) (override_at ps (value.Int (pos (n + suc k))) w)) →
        (b : Bool) → b ≡ false →
        OfSome (ItemsFit (more_shapes a (item_changed (suc k) f as'))) (items_from n ((if b then (p.0, w) else p) ∷ override_at ps (value.Int (pos (n + suc k))) w))
    at_later a as' k i l r true t = absurd (false≢true (sym t))
    at_later a as' k i l r false t =
        subst (λ (c : Bool). OfSome (ItemsFit (more_shapes a (item_changed (suc k) f as'))) (if c then option_map (λ ys. p.1 ∷ ys) (items_from (n + 1) (override_at ps (value.Int (pos (n + suc k))) w)) else None)) (sym i)
        (more (items_from (n + 1) (override_at ps (value.Int (pos (n + suc k))) w)) r)
      where
        more : (o : Option (List Value)) → OfSome (ItemsFit (item_changed (suc k) f as')) o → OfSome (ItemsFit (more_shapes a (item_changed (suc k) f as'))) (option_map (λ ys. p.1 ∷ ys) o)
        more (Some ys) q = (l, q)
        more None q = absurd q

    first_fits : (a : Shape) (as' : Shapes) (o : Option (List Value)) → OfSome (ItemsFit (more_shapes a as')) (option_map (λ xs. p.1 ∷ xs) o) → Fits a p.1 × OfSome (ItemsFit as') o
    first_fits a as' (Some xs) l = l
    first_fits a as' None l = absurd l

    by : (as' : Shapes) (k : ℕ) (b : Bool) → is_int n (out-Value p.0) ≡ b → (o : Option (List Value)) → items_from (n + 1) ps ≡ o →
        OfSome (ItemsFit as') (if b then option_map (λ xs. p.1 ∷ xs) (items_from (n + 1) ps) else None) → Fits (f (item (suc k) as')) w →
        ((bs : Shapes) (j : ℕ) → OfSome (ItemsFit bs) (items_from (n + 1) ps) → Fits (f (item (suc j) bs)) w →
        OfSome (ItemsFit (item_changed (suc j) f bs)) (items_from (n + 1) (override_at ps (value.Int (pos (n + 1 + j))) w))) →
        OfSome (ItemsFit (item_changed (suc k) f as')) (items_from n (override_at (p ∷ ps) (value.Int (pos (n + k))) w))
    by as' k false e o q l m r = absurd l
    by no_shapes k true e o q l m r = absurd (none (items_from (n + 1) ps) l)
      where
        none : (o : Option (List Value)) → OfSome (ItemsFit no_shapes) (option_map (λ xs. p.1 ∷ xs) o) → ⊥
        none (Some xs) z = z
        none None z = z
    by (more_shapes a as') zero true e o q l m r =
        at_first a as' o q e (subst (λ (z : Option (List Value)). OfSome (ItemsFit (more_shapes a as')) (option_map (λ xs. p.1 ∷ xs) z)) q l) m
        (same_value (value.Int (pos (n + 0))) p.0) refl (number_there n p.0 0 e ∙ same_first n)
    by (more_shapes a as') (suc k) true e o q l m r =
        let z = first_fits a as' (items_from (n + 1) ps) l in
        at_later a as' k e z.0
        (subst (λ (i : ℕ). OfSome (ItemsFit (item_changed (suc k) f as')) (items_from (n + 1) (override_at ps (value.Int (pos i)) w))) (shifted n k) (r as' k z.1 m))
        (same_value (value.Int (pos (n + suc k))) p.0) (number_there n p.0 (suc k) e ∙ same_later n k)

-- ---- a record with a new field

apply_other : (ps : List (Value × Value)) (i v j : Value) → same_value j i ≡ false → apply (override_at ps i v) j ≡ apply ps j
apply_other [] i v j e = refl
apply_other (p ∷ ps) i v j e = by (same_value i p.0) refl (apply_other ps i v j e)
  where
    rest : List (Value × Value)
    rest = override_at ps i v

    by : (b : Bool) → same_value i p.0 ≡ b → apply rest j ≡ apply ps j → apply ((if b then (p.0, v) else p) ∷ rest) j ≡ apply (p ∷ ps) j
    by false f r = ap (λ (o : Option Value). if same_value j p.0 then Some p.1 else o) r
    by true f r = two (same_value j p.0) refl
      where
        two : (c : Bool) → same_value j p.0 ≡ c → (if c then Some v else apply rest j) ≡ (if c then Some p.1 else apply ps j)
        two true g =
            let a : j ≡ p.0 = same_equal j p.0 g in
            let b : p.0 ≡ i = sym (same_equal i p.0 f) in
            absurd (false≢true (sym e ∙ subst (λ (z : Value). same_value j z ≡ true) (a ∙ b) (same_itself j)))
        two false g = r

apply_itself : (P Q : Value → Type 0) (ps : List (Value × Value)) (i v : Value) → OfSome P (apply ps i) → Q v → OfSome Q (apply (override_at ps i v) i)
apply_itself P Q [] i v h q = absurd h
apply_itself P Q (p ∷ ps) i v h q = by (same_value i p.0) refl h (λ k. apply_itself P Q ps i v k q)
  where
    by : (b : Bool) → same_value i p.0 ≡ b → OfSome P (if b then Some p.1 else apply ps i) → (OfSome P (apply ps i) → OfSome Q (apply (override_at ps i v) i)) →
        OfSome Q (apply ((if b then (p.0, v) else p) ∷ override_at ps i v) i)
    by true e k r = subst (λ (c : Bool). OfSome Q (if c then Some v else apply (override_at ps i v) i)) (sym e) q
    by false e k r = subst (λ (c : Bool). OfSome Q (if c then Some p.1 else apply (override_at ps i v) i)) (sym e) (r k)

other_text : (x y : List ℕ) → same_text x y ≡ false → same_value (value.Text y) (value.Text x) ≡ false
other_text x y e = by (same_value (value.Text y) (value.Text x)) refl
  where
    by : (b : Bool) → same_value (value.Text y) (value.Text x) ≡ b → b ≡ false
    by false s = refl
    by true s =
        let a : y ≡ x = text_is y x (sym (same_texts y x) ∙ s) in
        let b : same_text x x ≡ true = sym (same_texts x x) ∙ same_itself (value.Text x) in
        absurd (false≢true (sym e ∙ subst (λ (z : List ℕ). same_text x z ≡ true) (sym a) b))

fields_other : (x : List ℕ) (xs : List (List ℕ)) (as' : Shapes) (ps : List (Value × Value)) (w : Value) → IsTrue (not (list_any (same_text x) xs)) →
    FieldsFit xs as' ps → FieldsFit xs as' (override_at ps (value.Text x) w)
fields_other x [] no_shapes ps w e h = tt
fields_other x [] (more_shapes a as') ps w e h = absurd h
fields_other x (y ∷ ys) no_shapes ps w e h = absurd h
fields_other x (y ∷ ys) (more_shapes a as') ps w e h = by (same_text x y) refl e (λ f. fields_other x ys as' ps w f h.1)
  where
    by : (b : Bool) → same_text x y ≡ b → IsTrue (not (b || list_any (same_text x) ys)) → (IsTrue (not (list_any (same_text x) ys)) → FieldsFit ys as' (override_at ps (value.Text x) w)) →
        FieldsFit (y ∷ ys) (more_shapes a as') (override_at ps (value.Text x) w)
    by true s f r = absurd (false≢true f)
    by false s f r =
        (subst (OfSome (λ v. FitsLayer a (out-Value v))) (sym (apply_other ps (value.Text x) w (value.Text y) (other_text x y s))) h.0, r f)

field_put : (x : List ℕ) (f : Shape → Shape) (xs : List (List ℕ)) (as' : Shapes) (ps : List (Value × Value)) (w : Value) → IsTrue (is_once x xs) →
    FieldsFit xs as' ps → Fits (f (field x xs as')) w → FieldsFit xs (field_changed x f xs as') (override_at ps (value.Text x) w)
field_put x f [] as' ps w e h g = absurd (false≢true e)
field_put x f (y ∷ ys) no_shapes ps w e h g = absurd h
field_put x f (y ∷ ys) (more_shapes a as') ps w e h g = by (same_text x y) refl e g (λ t k. field_put x f ys as' ps w t h.1 k)
  where
    by : (b : Bool) → same_text x y ≡ b → IsTrue (if b then not (list_any (same_text x) ys) else is_once x ys) → Fits (f (if b then a else field x ys as')) w →
        (IsTrue (is_once x ys) → Fits (f (field x ys as')) w → FieldsFit ys (field_changed x f ys as') (override_at ps (value.Text x) w)) →
        FieldsFit (y ∷ ys) (if b then more_shapes (f a) as' else more_shapes a (field_changed x f ys as')) (override_at ps (value.Text x) w)
    by true s t k r =
        let same : x ≡ y = text_is x y s in (
          subst (λ (z : List ℕ). OfSome (λ v. FitsLayer (f a) (out-Value v)) (apply (override_at ps (value.Text x) w) (value.Text z))) same
              (apply_itself (λ v. FitsLayer a (out-Value v)) (λ v. FitsLayer (f a) (out-Value v)) ps (value.Text x) w
              (subst (λ (z : List ℕ). OfSome (λ v. FitsLayer a (out-Value v)) (apply ps (value.Text z))) (sym same) h.0) k),
          fields_other x ys as' ps w t h.1,
        )
    by false s t k r =
        (subst (OfSome (λ v. FitsLayer a (out-Value v))) (sym (apply_other ps (value.Text x) w (value.Text y) (other_text x y s))) h.0, r t k)

-- ---- the value with a new one at a path

-- the values of literals
abbrev pub LiteralsAre : List Literal → List Value → Type 0
LiteralsAre [] [] = Unit {0}
LiteralsAre (l ∷ ls) (i ∷ is) = IsLiteral l i × LiteralsAre ls is
LiteralsAre [] (i ∷ is) = ⊥
LiteralsAre (l ∷ ls) [] = ⊥

once_there : (x : List ℕ) (xs : List (List ℕ)) → IsTrue (is_once x xs) → IsTrue (list_any (same_text x) xs)
once_there x [] e = absurd (false≢true e)
once_there x (y ∷ ys) e = by (same_text x y) e (once_there x ys)
  where
    by : (b : Bool) → IsTrue (if b then not (list_any (same_text x) ys) else is_once x ys) → (IsTrue (is_once x ys) → IsTrue (list_any (same_text x) ys)) → IsTrue (b || list_any (same_text x) ys)
    by true e r = refl
    by false e r = r e

through_readable : (a : Shape) (l : Literal) → IsTrue (goes_through a l) → IsTrue (readable a l)
through_readable (Rec xs as') (text x) e = once_there x xs e
through_readable (Rec xs as') l e = absurd (false≢true e)
through_readable (Tup as') (number (pos (suc n))) e = refl
through_readable (Tup as') (number (pos zero)) e = absurd (false≢true e)
through_readable (Tup as') l e = absurd (false≢true e)
through_readable Atom l e = refl
through_readable (Num a b) l e = refl
through_readable (Set n a) l e = refl
through_readable (Fun n a r) l e = refl
through_readable (Seq n a) l e = refl
through_readable Empty l e = refl

one_more : (n : ℕ) → 1 + n ≡ suc n
one_more n = omega arith

put_layer : (a : Shape) (l : Literal) (ls : List Literal) (new : Shape) (i w : Value) (ps : List (Value × Value)) → IsTrue (goes_through a l) → IsLiteral l i →
    ((x : Layer Value) → FitsLayer (applied_at a l) x → FitsLayer (joined_at ls new (applied_at a l)) x) → Fits (joined_at ls new (applied_at a l)) w → FitsLayer a (layer.Fun ps) →
    FitsLayer (joined_at (l ∷ ls) new a) (layer.Fun (override_at ps i w))
put_layer (Fun n a r) l ls new i w ps e s f g h =
    let m = h.0 in
    let q = length-map ps (λ (p : Value × Value). if same_value i p.0 then (p.0, w) else p) in
    (omega (arith, q, m), overridden _ _ ps i w (λ p k. (k.0, f (out-Value p.1) k.1)) (λ p k. (k.0, g)) h.1)
put_layer (Seq n a) l ls new i w ps e s f g h = items_overridden _ _ 1 ps i w n (λ u k. f (out-Value u) k) g h
put_layer (Tup as') (number (pos (suc n))) ls new i w ps e s f g h =
    subst (λ (j : Value). OfSome (ItemsFit (item_changed (suc n) (joined_at ls new) as')) (items_of (override_at ps j w))) (sym s)
    (subst (λ (m : ℕ). OfSome (ItemsFit (item_changed (suc n) (joined_at ls new) as')) (items_of (override_at ps (value.Int (pos m)) w))) (one_more n)
    (item_put as' (joined_at ls new) 1 n ps w h g))
put_layer (Tup as') (number (pos zero)) ls new i w ps e s f g h = absurd (false≢true e)
put_layer (Tup as') l ls new i w ps e s f g h = absurd (false≢true e)
put_layer (Rec xs as') (text x) ls new i w ps e s f g h =
    let m = h.0 in
    let q = length-map ps (λ (p : Value × Value). if same_value i p.0 then (p.0, w) else p) in (
      omega (arith, q, m),
      subst (λ (us : List Value). IsTrue (same_set (texts xs) us)) (sym (override_arguments ps i w)) h.1,
      subst (λ (j : Value). FieldsFit xs (field_changed x (joined_at ls new) xs as') (override_at ps j w)) (sym s) (field_put x (joined_at ls new) xs as' ps w e h.2 g),
    )
put_layer (Rec xs as') l ls new i w ps e s f g h = absurd (false≢true e)
put_layer Atom l ls new i w ps e s f g h = absurd h
put_layer (Num a b) l ls new i w ps e s f g h = absurd h
put_layer (Set n a) l ls new i w ps e s f g h = absurd h
put_layer Empty l ls new i w ps e s f g h = absurd h

put_there : (a : Shape) (l : Literal) (ls : List Literal) (new : Shape) (i : Value) (f : Value) (change : Value → Value) → IsTrue (goes_through a l) → IsLiteral l i →
    ((x : Layer Value) → FitsLayer (applied_at a l) x → FitsLayer (joined_at ls new (applied_at a l)) x) →
    ((u : Value) → Fits (applied_at a l) u → Fits (joined_at ls new (applied_at a l)) (change u)) → Fits (joined_at (l ∷ ls) new a) f → (x : Layer Value) → FitsLayer a x →
    Fits (joined_at (l ∷ ls) new a) (put_at x i change f)
put_there a l ls new i f change e s r q k (layer.Fun ps) h = by (apply ps i) (applied_some a l ps i (through_readable a l e) s h)
  where
    by : (o : Option Value) → IfSomes (Fits (applied_at a l)) o →
        Fits (joined_at (l ∷ ls) new a) (elim o [ None ↦ f | Some u ↦ value.Fun (override_at ps i (change u)) ])
    by None m = k
    by (Some u) m =
        subst (FitsLayer (joined_at (l ∷ ls) new a)) (sym (value.outs-Fun (override_at ps i (change u))))
        (put_layer a l ls new i (change u) ps e s r (q u m) h)
put_there a l ls new i f change e s r q k x h = k

-- the old value at the path and the new one, each by its shape
pub put_fits : (ls : List Literal) (is : List Value) (new a : Shape) (v f : Value) → LiteralsAre ls is → IsTrue (path_readable a ls) → IsTrue (alike (shape_at a ls) new) →
    Fits new v → Fits a f → Fits (joined_at ls new a) (set_path is v f)
put_fits [] [] new a v f s e g h k = join_right a new (out-Value v) g h
put_fits [] (i ∷ is) new a v f s e g h k = absurd s
put_fits (l ∷ ls) [] new a v f s e g h k = absurd s
put_fits (l ∷ ls) (i ∷ is) new a v f s e g h k =
    let here = and_left (goes_through a l) (path_readable (applied_at a l) ls) e in
    let rest = and_right (goes_through a l) (path_readable (applied_at a l) ls) e in
    put_there a l ls new i f (set_path is v) here s.0 (λ x m. joined_more ls new (applied_at a l) x rest m)
    (λ u m. put_fits ls is new (applied_at a l) v u s.1 rest g h m) (joined_more (l ∷ ls) new a (out-Value f) e k) (out-Value f) k

-- the old value at a path of a value that fits
pub reached_fits : (ls : List Literal) (is : List Value) (a : Shape) (f : Value) → LiteralsAre ls is → IsTrue (path_readable a ls) → Fits a f → IfReached (Fits (shape_at a ls)) (at_path f is)
reached_fits [] [] a f s e h = h
reached_fits [] (i ∷ is) a f s e h = absurd s
reached_fits (l ∷ ls) [] a f s e h = absurd s
reached_fits (l ∷ ls) (i ∷ is) a f s e h =
    let here = and_left (goes_through a l) (path_readable (applied_at a l) ls) e in
    let rest = and_right (goes_through a l) (path_readable (applied_at a l) ls) e in
    by (out-Value f) h here (λ u m. reached_fits ls is (applied_at a l) u s.1 rest m)
  where
    go : (o : Option Value) → IfSomes (Fits (applied_at a l)) o → ((u : Value) → Fits (applied_at a l) u → IfReached (Fits (shape_at a (l ∷ ls))) (at_path u is)) →
        IfReached (Fits (shape_at a (l ∷ ls))) (go_on (reached_at o) (λ u. at_path u is))
    go None m r = tt
    go (Some u) m r = r u m

    by : (x : Layer Value) → FitsLayer a x → IsTrue (goes_through a l) → ((u : Value) → Fits (applied_at a l) u → IfReached (Fits (shape_at a (l ∷ ls))) (at_path u is)) →
        IfReached (Fits (shape_at a (l ∷ ls))) (go_on (step_into x i) (λ u. at_path u is))
    by (layer.Fun ps) g e r = go (apply ps i) (applied_some a l ps i (through_readable a l e) s.0 g) r
    by (layer.Bool b) g e r = tt
    by (layer.Int b) g e r = tt
    by (layer.Text b) g e r = tt
    by (layer.Set b) g e r = tt
