-- DOMAIN of a function, of a sequence or tuple, of a record.
use Rattle.std.proofs.Common.{◌≡◌, ℕ, suc, ◌+◌, ◌≤◌, Bool, true, false, ◌||◌, IsTrue, List, [], ◌∷◌, map, length, Option, Some, None, option_map, ℤ, pos, ◌+ℤ◌, ◌≤ℤ◌, refl, sym, ◌∙◌, ap, subst, arith, if◌then◌else◌}
use Rattle.std.specs.Int.{int_max, int_min}
use Rattle.std.proofs.lemmas.Int.{ints, clamps}
use Rattle.std.proofs.lemmas.List.{length-map}
use Rattle.std.specs.List.{list_all}
use Rattle.tla_values.specs.Order.{Layer, same_value}
use Rattle.tla_values.specs.Sets.{arguments, member}
use Rattle.tla_values.specs.declared.value.Value.{Value, out-Value}
use Rattle.tla_values.specs.declared.value.Value.TheVariants as value
use Rattle.tla_values.specs.declared.value.Value.TheOpen as layer
use Rattle.tla_values.proofs.Extensional.{same_equal}
use Rattle.tla_meaning.specs.declared.op.Op.TheVariants as op
use Rattle.tla_meaning.specs.declared.place.Place.{Place}
use Rattle.tla_meaning.specs.declared.outcome.Outcome.{Outcome}
use Rattle.tla_meaning.specs.declared.outcome.Outcome.TheVariants.{Val, Big}
use Rattle.tla_meaning.specs.Numbers.{in_width}
use Rattle.tla_meaning.specs.Shapes.{items_of, items_from, is_int}
use Rattle.tla_meaning.specs.Operators.{domain, on_function}
use Rattle.tla_meaning.proofs.NormalShapes.{all_mapped}
use Rattle.tla_meaning.proofs.Views.{and_left, and_right, false≢true}
use Rattle.kernel_shapes.specs.Shape.{Shape, Atom, Num, Set, Fun, Rec, Tup, Seq, Empty, Shapes, no_shapes, more_shapes, count, inside, interval, moved, highest, lowest}
use Rattle.kernel_shapes.specs.Rows.{the_arguments, the_places, the_names}
use Rattle.kernel_shapes.specs.Sized.{Sized, shapes_of, index_of, row_joins, is_function, has_places, is_record}
use Rattle.kernel_shapes.specs.Fits.{OfSome, FitsLayer, Fits, ItemsFit}
use Rattle.kernel_shapes.proofs.FitLemmas.{IfVal, AllFit}
use Rattle.kernel_shapes.proofs.Intervals.{width_between}
use Rattle.kernel_shapes.proofs.Operators.{fits_set}
use Rattle.kernel_shapes.proofs.Combine.{MeetAll}
use Rattle.kernel_shapes.proofs.Records.{texts}
use Rattle.kernel_shapes.proofs.Tables.{Gives}

as_many : (ps : List (Value × Value)) → length (arguments ps) ≡ length ps
as_many ps = length-map ps (λ (p : Value × Value). p.0)

-- where the arguments fit in any case
domain_fits : (w : ℕ) (p : Place) (P : Value → Type 0) (ps : List (Value × Value)) → P (value.Set (arguments ps)) → (o : Option (List Value)) → IfVal P (domain (Some w) p ps o)
domain_fits w p P ps h None = h
domain_fits w p P ps h (Some xs) = by (in_width (Some w) (pos (length xs)))
  where
    by : (b : Bool) → IfVal P (if b then Val (value.Set (arguments ps)) else Big p)
    by true = h
    by false = tt

-- ---- functions

arguments_at : (w : ℕ) (p : Place) (a : Shape) (x : Layer Value) → IsTrue (is_function a) → FitsLayer a x → IfVal (Fits (Set (count a) (inside a))) (on_function p (λ ps. domain (Some w) p ps (items_of ps)) (x ∷ []))
arguments_at w p (Fun n a r) (layer.Fun ps) e h =
    let m = as_many ps in
    let l = h.0 in
    domain_fits w p _ ps (fits_set n a (arguments ps) (omega (arith, m, l)) (all_mapped _ _ (λ (q : Value × Value). q.0) (λ q k. k.0) ps h.1)) (items_of ps)
arguments_at w p Empty (layer.Fun ps) e h = absurd h
arguments_at w p Atom (layer.Fun ps) e h = absurd h
arguments_at w p (Num a b) (layer.Fun ps) e h = absurd h
arguments_at w p (Set n a) (layer.Fun ps) e h = absurd h
arguments_at w p (Rec xs as') (layer.Fun ps) e h = absurd (false≢true e)
arguments_at w p (Tup as') (layer.Fun ps) e h = absurd (false≢true e)
arguments_at w p (Seq n a) (layer.Fun ps) e h = absurd (false≢true e)
arguments_at w p a x e h = tt

-- ---- records

text_from : (v : Value) (ns : List (List ℕ)) → IsTrue (member v (texts ns)) → FitsLayer Atom (out-Value v)
text_from v [] h = absurd (false≢true h)
text_from v (n ∷ ns) h = by (same_value v (value.Text n)) refl h (text_from v ns)
  where
    by : (b : Bool) → same_value v (value.Text n) ≡ b → IsTrue (b || member v (texts ns)) → (IsTrue (member v (texts ns)) → FitsLayer Atom (out-Value v)) → FitsLayer Atom (out-Value v)
    by true e k r = subst (λ (u : Value). FitsLayer Atom (out-Value u)) (sym (same_equal v (value.Text n) e)) (subst (FitsLayer Atom) (sym (value.outs-Text n)) tt)
    by false e k r = r k

texts_fit : (ns : List (List ℕ)) (vs : List Value) → IsTrue (list_all (λ v. member v (texts ns)) vs) → AllFit Atom vs
texts_fit ns [] h = tt
texts_fit ns (v ∷ vs) h =
    (text_from v ns (and_left (member v (texts ns)) (list_all (λ u. member u (texts ns)) vs) h), texts_fit ns vs (and_right (member v (texts ns)) (list_all (λ u. member u (texts ns)) vs) h))

names_at : (w : ℕ) (p : Place) (a : Shape) (x : Layer Value) → IsTrue (is_record a) → FitsLayer a x → IfVal (Fits (Set (count a) Atom)) (on_function p (λ ps. domain (Some w) p ps (items_of ps)) (x ∷ []))
names_at w p (Rec xs as') (layer.Fun ps) e h =
    let m = as_many ps in
    let l = h.0 in
    domain_fits w p _ ps (fits_set (length xs) Atom (arguments ps) (omega (arith, m, l))
    (texts_fit xs (arguments ps) (and_right (list_all (λ v. member v (arguments ps)) (texts xs)) (list_all (λ v. member v (texts xs)) (arguments ps)) h.1))) (items_of ps)
names_at w p Empty (layer.Fun ps) e h = absurd h
names_at w p Atom (layer.Fun ps) e h = absurd h
names_at w p (Num a b) (layer.Fun ps) e h = absurd h
names_at w p (Set n a) (layer.Fun ps) e h = absurd h
names_at w p (Fun n a r) (layer.Fun ps) e h = absurd (false≢true e)
names_at w p (Tup as') (layer.Fun ps) e h = absurd (false≢true e)
names_at w p (Seq n a) (layer.Fun ps) e h = absurd (false≢true e)
names_at w p a x e h = tt

-- ---- sequences and tuples

int_there : (lo hi : ℤ) (n : ℕ) (x : Layer Value) → IsTrue (is_int n x) → lo ≤ℤ pos n → pos n ≤ℤ hi → FitsLayer (Num lo hi) x
int_there lo hi n (layer.Int m) e h k = (grind (arith, ints, h, k), grind (arith, ints, h, k))
int_there lo hi n (layer.Bool b) e h k = absurd (false≢true e)
int_there lo hi n (layer.Text b) e h k = absurd (false≢true e)
int_there lo hi n (layer.Set b) e h k = absurd (false≢true e)
int_there lo hi n (layer.Fun b) e h k = absurd (false≢true e)

-- the arguments are the numbers from n on, as many as the items
places_from : (lo hi : ℤ) (n : ℕ) (ps : List (Value × Value)) (xs : List Value) → items_from n ps ≡ Some xs → lo ≤ℤ pos n → pos (n + length xs) ≤ℤ (hi +ℤ pos 1) →
    (length ps ≡ length xs) × AllFit (Num lo hi) (arguments ps)
places_from lo hi n [] [] e h k = (refl, tt)
places_from lo hi n [] (x ∷ xs) e h k = absurd (some_other e)
  where
    empty : List Value
    empty = []

    some_other : Some empty ≡ Some (x ∷ xs) → ⊥
    some_other q = cc
places_from lo hi n (p ∷ ps) xs e h k =
    by (is_int n (out-Value p.0)) refl (items_from (n + 1) ps) refl xs e k (λ ys g q r. places_from lo hi (n + 1) ps ys g q r)
  where
    more : (n m : ℕ) → pos (n + suc m) ≤ℤ (hi +ℤ pos 1) → (pos (n + 1 + m) ≤ℤ (hi +ℤ pos 1)) × (pos n ≤ℤ hi)
    more n m q = (omega (arith, ints, q), omega (arith, ints, q))

    up : (n : ℕ) → lo ≤ℤ pos n → lo ≤ℤ pos (n + 1)
    up n q = omega (arith, ints, q)

    by : (b : Bool) → is_int n (out-Value p.0) ≡ b → (o : Option (List Value)) → items_from (n + 1) ps ≡ o → (xs : List Value) →
        (if b then option_map (λ ys. p.1 ∷ ys) o else None) ≡ Some xs → pos (n + length xs) ≤ℤ (hi +ℤ pos 1) →
        ((ys : List Value) → items_from (n + 1) ps ≡ Some ys → lo ≤ℤ pos (n + 1) → pos (n + 1 + length ys) ≤ℤ (hi +ℤ pos 1) → (length ps ≡ length ys) × AllFit (Num lo hi) (arguments ps)) → (length (p ∷ ps) ≡ length xs) × AllFit (Num lo hi) (arguments (p ∷ ps))
    by false f o g xs s q t = absurd cc
    by true f None g xs s q t = absurd cc
    by true f (Some ys) g xs s q t =
        let same : p.1 ∷ ys ≡ xs = cc in
        let q1 : pos (n + suc (length ys)) ≤ℤ (hi +ℤ pos 1) = subst (λ (zs : List Value). pos (n + length zs) ≤ℤ (hi +ℤ pos 1)) (sym same) q in
        let m = more n (length ys) q1 in
        let r = t ys g (up n h) m.0 in
        (ap suc r.0 ∙ ap length same, (int_there lo hi n (out-Value p.0) f h m.1, r.1))

-- how many items there are, where there are
abbrev AtMost : ℕ → Option (List Value) → Type 0
AtMost n o = OfSome (λ xs. length xs ≤ n) o

items_many : (as' : Shapes) (xs : List Value) → ItemsFit as' xs → length xs ≤ count (Tup as')
items_many no_shapes [] h = omega arith
items_many no_shapes (x ∷ xs) h = absurd h
items_many (more_shapes a as') [] h = omega arith
items_many (more_shapes a as') (x ∷ xs) h = let r = items_many as' xs h.1 in omega (arith, r)

how_many : (a : Shape) (ps : List (Value × Value)) → IsTrue (has_places a) → FitsLayer a (layer.Fun ps) → AtMost (count a) (items_of ps)
how_many (Seq n a) ps e h = by (items_of ps) h
  where
    by : (o : Option (List Value)) → OfSome (λ vs. (length vs ≤ n) × AllFit a vs) o → AtMost n o
    by (Some xs) k = k.0
    by None k = k
how_many (Tup as') ps e h = by (items_of ps) h
  where
    by : (o : Option (List Value)) → OfSome (ItemsFit as') o → AtMost (count (Tup as')) o
    by (Some xs) k = items_many as' xs k
    by None k = k
how_many Empty ps e h = absurd h
how_many Atom ps e h = absurd h
how_many (Num a b) ps e h = absurd h
how_many (Set n a) ps e h = absurd h
how_many (Fun n a r) ps e h = absurd (false≢true e)
how_many (Rec xs as') ps e h = absurd (false≢true e)

numbers_fit : (w n : ℕ) (ps : List (Value × Value)) (xs : List Value) → items_of ps ≡ Some xs → length xs ≤ n → in_width (Some w) (pos (length xs)) ≡ true →
    Fits (Set n (interval w (pos 1) (pos n))) (value.Set (arguments ps))
numbers_fit w n ps xs s l e =
    let b = width_between w (pos (length xs)) e in
    let top = b.high in
    let r = places_from (moved w (pos 1)) (moved w (pos n)) 1 ps xs s (low w) (high (lowest w) (highest w) n (length xs) l top) in
    let many = r.0 in
    let m = as_many ps in
    fits_set n (interval w (pos 1) (pos n)) (arguments ps) (omega (arith, m, many, l)) r.1
  where
    low : (w : ℕ) → moved w (pos 1) ≤ℤ pos 1
    low w = omega (arith, ints, clamps)

    high : (a b : ℤ) (n m : ℕ) → m ≤ n → pos m ≤ℤ b → pos (1 + m) ≤ℤ (int_max a (int_min b (pos n)) +ℤ pos 1)
    high a b n m q t = omega (arith, ints, clamps, q, t)

places_at : (w : ℕ) (p : Place) (a : Shape) (x : Layer Value) → IsTrue (has_places a) → FitsLayer a x →
    IfVal (Fits (Set (count a) (interval w (pos 1) (pos (count a))))) (on_function p (λ ps. domain (Some w) p ps (items_of ps)) (x ∷ []))
places_at w p a (layer.Fun ps) e h = by (items_of ps) refl (how_many a ps e h)
  where
    by : (o : Option (List Value)) → items_of ps ≡ o → AtMost (count a) o → IfVal (Fits (Set (count a) (interval w (pos 1) (pos (count a))))) (domain (Some w) p ps o)
    by None s k = absurd k
    by (Some xs) s k = inside_width (in_width (Some w) (pos (length xs))) refl
      where
        inside_width : (b : Bool) → in_width (Some w) (pos (length xs)) ≡ b →
            IfVal (Fits (Set (count a) (interval w (pos 1) (pos (count a))))) (if b then Val (value.Set (arguments ps)) else Big p)
        inside_width true f = numbers_fit w (count a) ps xs s k f
        inside_width false f = tt
places_at w p a x e h = tt

-- ---- the rows

many_wrong : (P : Value → Type 0) (p : Place) (f : List (Value × Value) → Outcome) (x y : Layer Value) (ls : List (Layer Value)) → IfVal P (on_function p f (x ∷ y ∷ ls))
many_wrong P p f (layer.Fun ps) y ls = tt
many_wrong P p f x y ls = tt

pub arguments_give : (w : ℕ) (p : Place) (as' : List Sized) (vs : List Value) → MeetAll as' vs → IsTrue (row_joins the_arguments (index_of as') (shapes_of as')) → Gives w p op.Domain the_arguments as' vs
arguments_give w p (a ∷ []) (v ∷ []) h e = arguments_at w p a.shape (out-Value v) e h.0.0
arguments_give w p as' [] h e = tt
arguments_give w p as' (v ∷ u ∷ vs) h e = many_wrong _ p _ (out-Value v) (out-Value u) (map out-Value vs)
arguments_give w p [] (v ∷ []) h e = absurd h
arguments_give w p (a ∷ b ∷ as') (v ∷ []) h e = absurd h.1

pub places_give : (w : ℕ) (p : Place) (as' : List Sized) (vs : List Value) → MeetAll as' vs → IsTrue (row_joins the_places (index_of as') (shapes_of as')) → Gives w p op.Domain the_places as' vs
places_give w p (a ∷ []) (v ∷ []) h e = places_at w p a.shape (out-Value v) e h.0.0
places_give w p as' [] h e = tt
places_give w p as' (v ∷ u ∷ vs) h e = many_wrong _ p _ (out-Value v) (out-Value u) (map out-Value vs)
places_give w p [] (v ∷ []) h e = absurd h
places_give w p (a ∷ b ∷ as') (v ∷ []) h e = absurd h.1

pub names_give : (w : ℕ) (p : Place) (as' : List Sized) (vs : List Value) → MeetAll as' vs → IsTrue (row_joins the_names (index_of as') (shapes_of as')) → Gives w p op.Domain the_names as' vs
names_give w p (a ∷ []) (v ∷ []) h e = names_at w p a.shape (out-Value v) e h.0.0
names_give w p as' [] h e = tt
names_give w p as' (v ∷ u ∷ vs) h e = many_wrong _ p _ (out-Value v) (out-Value u) (map out-Value vs)
names_give w p [] (v ∷ []) h e = absurd h
names_give w p (a ∷ b ∷ as') (v ∷ []) h e = absurd h.1
