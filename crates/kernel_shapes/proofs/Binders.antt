-- Binders and folds: the body at each choice of members.
use Rattle.std.proofs.Common.{◌≡◌, ℕ, zero, suc, ◌*◌, ◌≤◌, Bool, true, false, ◌&&◌, IsTrue, List, [], ◌∷◌, map, zip, length, take, drop, Option, Some, None, arith, refl, ap, ◌⊎◌, inl, inr}
use Rattle.std.proofs.Math.Nat.{mul-le-mul}
use Rattle.std.specs.List.{AllByRecursion, list_any, list_all}
use Rattle.std.specs.Prelude.{option_and_then, option_map}
use Rattle.tla_values.specs.Order.{Layer}
use Rattle.tla_values.specs.Sets.{set_of}
use Rattle.tla_values.specs.declared.value.Value.{Value, out-Value}
use Rattle.tla_values.specs.declared.value.Value.TheOpen as layer
use Rattle.tla_values.proofs.SetLaws.{all_set_of}
use Rattle.tla_meaning.specs.declared.op.Op.{Op}
use Rattle.tla_meaning.specs.declared.op.Op.TheVariants as op
use Rattle.tla_meaning.specs.declared.place.Place.{Place}
use Rattle.tla_meaning.specs.declared.job.State.{State}
use Rattle.tla_meaning.specs.declared.outcome.Outcome.{Outcome}
use Rattle.tla_meaning.specs.declared.outcome.Outcome.TheVariants.{Val, Wrong}
use Rattle.tla_meaning.specs.Outcomes.{strict}
use Rattle.tla_meaning.specs.Shapes.{choices, with_each, set_items, all_set_items, items_of, the_set}
use Rattle.tla_meaning.specs.Operators.{yes_no, on_all_sets, on_items}
use Rattle.tla_meaning.specs.Meaning.{View, outcomes, child, truths, on_all_truths, kept, bound_table, over_members, folded, fold_over}
use Rattle.tla_meaning.proofs.NormalShapes.{all_plus, all_mapped}
use Rattle.tla_meaning.proofs.Views.{and_left, and_right, and_both, false≢true}
use Rattle.kernel_shapes.specs.Shape.{Shape, Atom, Num, Set, Fun, Rec, Tup, Seq, Empty, count, inside, join, alike}
use Rattle.kernel_shapes.specs.Rows.{insides, product_of, reached_by}
use Rattle.kernel_shapes.specs.Sized.{Sized, Seen, shapes_of, child_at, all_sound, body, step, steps_sound, is_sequence}
use Rattle.kernel_shapes.specs.Fits.{OfSome, FitsLayer, Fits, FitAll}
use Rattle.kernel_shapes.proofs.FitLemmas.{IfVal, AllFit, IsSet, is_set, members_of, all_to, join_left, weaker, with_fits}
use Rattle.kernel_shapes.proofs.JoinRight.{join_right}
use Rattle.kernel_shapes.proofs.Sizes.{product_size, choices_size, set_size}
use Rattle.kernel_shapes.proofs.Operators.{fits_set}
use Rattle.kernel_shapes.proofs.Combine.{Meets, KidsFit, MeetAll, all_fit, kid_fits, take_fits, drop_fits, strict_meets, strict_each, IsTruth, yes_fits}

-- ---- choices

abbrev pub SetsFit : List Shape → List (List Value) → Type 0
SetsFit [] [] = Unit {0}
SetsFit (a ∷ as') (xs ∷ xss) = IsSet a xs × SetsFit as' xss
SetsFit [] (xs ∷ xss) = ⊥
SetsFit (a ∷ as') [] = ⊥

sets_of : (as' : List Shape) (vs : List Value) → FitAll as' vs → OfSome (SetsFit as') (all_set_items vs) ⊎ (all_set_items vs ≡ None)
sets_of [] [] h = inl tt
sets_of [] (v ∷ vs) h = absurd h
sets_of (a ∷ as') [] h = absurd h
sets_of (a ∷ as') (v ∷ vs) h = by (out-Value v) h.0 (all_set_items vs) (sets_of as' vs h.1)
  where
    by : (x : Layer Value) → FitsLayer a x → (o : Option (List (List Value))) → OfSome (SetsFit as') o ⊎ (o ≡ None) →
        OfSome (SetsFit (a ∷ as')) (option_and_then (λ xs. option_map (λ xss. xs ∷ xss) o) (set_items x))
        ⊎ (option_and_then (λ xs. option_map (λ xss. xs ∷ xss) o) (set_items x) ≡ None)
    by (layer.Set xs) g (Some xss) (inl k) = inl (members_of a xs g, k)
    by (layer.Set xs) g None k = inr refl
    by (layer.Set xs) g (Some xss) (inr k) = inr (ap (λ (q : Option (List (List Value))). option_map (λ yss. xs ∷ yss) q) k)
    by (layer.Bool b) g o k = inr refl
    by (layer.Int b) g o k = inr refl
    by (layer.Text b) g o k = inr refl
    by (layer.Fun b) g o k = inr refl

pub on_sets_fit : (P : Value → Type 0) (p : Place) (as' : List Shape) (vs : List Value) (f : List (List Value) → Outcome) → FitAll as' vs →
    ((xss : List (List Value)) → SetsFit as' xss → IfVal P (f xss)) → IfVal P (on_all_sets p f vs)
on_sets_fit P p as' vs f h k = by (all_set_items vs) (sets_of as' vs h)
  where
    by : (o : Option (List (List Value))) → OfSome (SetsFit as') o ⊎ (o ≡ None) → IfVal P (elim o [ None ↦ Wrong p | Some xss ↦ f xss ])
    by None g = tt
    by (Some xss) (inl g) = k xss g
    by (Some xss) (inr g) = absurd (some_none g)
      where
        some_none : Some xss ≡ None → ⊥
        some_none e = cc

with_each_fit : (a : Shape) (bs : List Shape) (xs : List Value) (yss : List (List Value)) → AllFit a xs → AllByRecursion (FitAll bs) yss →
    AllByRecursion (FitAll (a ∷ bs)) (with_each xs yss)
with_each_fit a bs [] yss h k = tt
with_each_fit a bs (x ∷ xs) yss h k =
    all_plus _ (map (λ ys. x ∷ ys) yss) (with_each xs yss) (all_mapped (FitAll bs) (FitAll (a ∷ bs)) (λ ys. x ∷ ys) (λ ys r. (h.0, r)) yss k)
    (with_each_fit a bs xs yss h.1 k)

pub choices_fit : (as' : List Shape) (xss : List (List Value)) → SetsFit as' xss → AllByRecursion (FitAll (insides as')) (choices xss)
choices_fit [] [] h = (tt, tt)
choices_fit [] (xs ∷ xss) h = absurd h
choices_fit (a ∷ as') [] h = absurd h
choices_fit (a ∷ as') (xs ∷ xss) h = by a h.0 (choices_fit as' xss h.1)
  where
    by : (a : Shape) → IsSet a xs → AllByRecursion (FitAll (insides as')) (choices xss) → AllByRecursion (FitAll (insides (a ∷ as'))) (with_each xs (choices xss))
    by _ (is_set {a = a} k l) r = with_each_fit a (insides as') xs (choices xss) l r

product_below : (as' : List Shape) (xss : List (List Value)) → SetsFit as' xss → product_size xss ≤ product_of as'
product_below [] [] h = omega arith
product_below [] (xs ∷ xss) h = absurd h
product_below (a ∷ as') [] h = absurd h
product_below (a ∷ as') (xs ∷ xss) h = by a h.0 (product_below as' xss h.1)
  where
    by : (a : Shape) → IsSet a xs → product_size xss ≤ product_of as' → product_size (xs ∷ xss) ≤ product_of (a ∷ as')
    by _ (is_set k l) r = mul-le-mul k r

pub choices_below : (as' : List Shape) (xss : List (List Value)) → SetsFit as' xss → length (choices xss) ≤ product_of as'
choices_below as' xss h = let e = choices_size xss in let l = product_below as' xss h in omega (arith, e, l)

-- ---- binders over what fits

-- the domains join, and then the body over all choices, each of which fits
pub over_fits : (Q : Value → Type 0) (s t : State) (p : Place) (o : Op) (n : ℕ) (v : View) (u : Seen) → KidsFit s t v.here u.here →
    ((vs : List Value) (as' : List Shape) → FitAll as' vs → KidsFit s t (v.under vs) (u.under as')) →
    IsTrue (all_sound (take n u.here)) → IsTrue (body n u).sound →
    ((xss : List (List Value)) (vs : List Value) → SetsFit (shapes_of (take n u.here)) xss → length vs ≡ length (choices xss) → AllFit (body n u).shape vs →
    IfVal Q (bound_table p o (choices xss) vs)) → IfVal Q (over_members p o n v s t)
over_fits Q s t p o n v u h k e g r =
    let as' : List Shape = shapes_of (take n u.here) in
    let at_choice : List Value → Outcome = λ vs. (child p n (v.under vs)).value s t in
    strict_meets Q s t (take n v.here) (take n u.here) (on_all_sets p (λ xss. strict (map at_choice (choices xss)) (bound_table p o (choices xss))))
    (take_fits s t n v.here u.here h) e (λ vs m.
    on_sets_fit Q p as' vs (λ xss. strict (map at_choice (choices xss)) (bound_table p o (choices xss))) (all_fit (take n u.here) vs m) (λ xss l.
    strict_each (Fits (body n u).shape) Q at_choice (choices xss) (bound_table p o (choices xss))
    (all_to (FitAll (insides as')) (λ c. IfVal (Fits (body n u).shape) (at_choice c))
    (λ c y. weaker (Meets (body n u)) (Fits (body n u).shape) (at_choice c) (λ w z. z.0) (kid_fits s t p n (v.under c) (u.under (insides as')) (k c (insides as') y) g))
    (choices xss) (choices_fit as' xss l))
    (λ vs q y. r xss vs l q y)))

truths_fit : (p : Place) (f : List Bool → Outcome) (P : Value → Type 0) (vs : List Value) → ((bs : List Bool) → IfVal P (f bs)) → IfVal P (on_all_truths p f vs)
truths_fit p f P vs h = by (truths vs)
  where
    by : (o : Option (List Bool)) → IfVal P (elim o [ None ↦ Wrong p | Some bs ↦ f bs ])
    by None = tt
    by (Some bs) = h bs

pub exists_fits : (p : Place) (cs : List (List Value)) (vs : List Value) → IsTruth (bound_table p op.Exists cs vs)
exists_fits p cs vs = truths_fit p (λ bs. yes_no (list_any (λ b. b) bs)) _ vs (λ bs. yes_fits (list_any (λ b. b) bs))

pub forall_fits : (p : Place) (cs : List (List Value)) (vs : List Value) → IsTruth (bound_table p op.Forall cs vs)
forall_fits p cs vs = truths_fit p (λ bs. yes_no (list_all (λ b. b) bs)) _ vs (λ bs. yes_fits (list_all (λ b. b) bs))

pub map_fits : (as' : List Shape) (b : Shape) (xss : List (List Value)) (vs : List Value) → SetsFit as' xss → length vs ≡ length (choices xss) → AllFit b vs →
    Fits (Set (product_of as') b) (the_set vs)
map_fits as' b xss vs h e k =
    let l = choices_below as' xss h in
    let m = set_size vs in
    fits_set (product_of as') b (set_of vs) (omega (arith, l, m, e)) (all_set_of _ vs k)

-- of one name
kept_fit : (a : Shape) (cs : List (List Value)) (bs : List Bool) → AllByRecursion (FitAll (a ∷ [])) cs → AllFit a (kept cs bs)
kept_fit a [] bs h = tt
kept_fit a ([] ∷ cs) bs h = absurd h.0
kept_fit a ((v ∷ vs) ∷ cs) [] h = tt
kept_fit a ((v ∷ vs) ∷ cs) (true ∷ bs) h = (h.0.0, kept_fit a cs bs h.1)
kept_fit a ((v ∷ vs) ∷ cs) (false ∷ bs) h = kept_fit a cs bs h.1

kept_size : (cs : List (List Value)) (bs : List Bool) → length (kept cs bs) ≤ length cs
kept_size [] bs = omega arith
kept_size ([] ∷ cs) [] = omega arith
kept_size ((v ∷ vs) ∷ cs) [] = omega arith
kept_size ([] ∷ cs) (b ∷ bs) = let r = kept_size cs bs in omega (arith, r)
kept_size ((v ∷ vs) ∷ cs) (true ∷ bs) = let r = kept_size cs bs in omega (arith, r)
kept_size ((v ∷ vs) ∷ cs) (false ∷ bs) = let r = kept_size cs bs in omega (arith, r)

pub filter_fits : (p : Place) (a : Shape) (xs : List Value) (vs : List Value) → IsSet a xs → IfVal (Fits (Set (count a) (inside a))) (bound_table p op.Filter (choices (xs ∷ [])) vs)
filter_fits p _ xs vs (is_set {n = n} {a = a} h k) =
    truths_fit p (λ bs. Val (the_set (kept (choices (xs ∷ [])) bs))) _ vs (λ bs.
    let m = set_size (kept (choices (xs ∷ [])) bs) in
    let q = kept_size (choices (xs ∷ [])) bs in
    let c = choices_size (xs ∷ []) in
    let one : length xs * 1 ≡ length xs = omega arith in
    fits_set n a (set_of (kept (choices (xs ∷ [])) bs)) (omega (arith, h, m, q, c, one))
    (all_set_of _ (kept (choices (xs ∷ [])) bs) (kept_fit a (choices (xs ∷ [])) bs (choices_fit (Set n a ∷ []) (xs ∷ []) (is_set h k, tt)))))

pub zip_size : (xs vs : List Value) → length (zip xs vs) ≤ length vs
zip_size [] vs = omega arith
zip_size (x ∷ xs) [] = omega arith
zip_size (x ∷ xs) (v ∷ vs) = let r = zip_size xs vs in omega (arith, r)

-- ---- folds

abbrev all_steps : (Shape → Sized) → ℕ → Shape → Bool
all_steps g zero a = true
all_steps g (suc n) a = (g a).sound && (alike a (reached_by n (λ b. (g b).shape) (g a).shape) && all_steps g n (g a).shape)

-- a value after some steps fits the join of the shapes that the steps reach
folded_fits : (f : Value → Value → Outcome) (g : Shape → Sized) (b : Shape) → ((v x : Value) (a : Shape) → Fits a v → Fits b x → IsTrue (g a).sound → IfVal (Meets (g a)) (f v x)) →
    (n : ℕ) (xs : List Value) (v : Value) (a : Shape) → length xs ≤ n → AllFit b xs → Fits a v →
    IsTrue (all_steps g n a) → IfVal (Fits (reached_by n (λ c. (g c).shape) a)) (folded f xs v)
folded_fits f g b r zero [] v a l h k e = k
folded_fits f g b r zero (x ∷ xs) v a l h k e = absurd (no_room (length xs) l)
  where
    no_room : (n : ℕ) → suc n ≤ 0 → ⊥
    no_room n h = omega (arith, h)
folded_fits f g b r (suc n) [] v a l h k e = join_left a (reached_by n (λ c. (g c).shape) (g a).shape) (out-Value v) k
folded_fits f g b r (suc n) (x ∷ xs) v a l h k e =
    let rest : Shape = reached_by n (λ c. (g c).shape) (g a).shape in
    let e1 = and_right (g a).sound (alike a rest && all_steps g n (g a).shape) e in
    with_fits (Meets (g a)) (Fits (join a rest)) (f v x) (folded f xs) (r v x a k h.0 (and_left (g a).sound (alike a rest && all_steps g n (g a).shape) e))
    (λ w y. weaker (Fits rest) (Fits (join a rest)) (folded f xs w) (λ z q. join_right a rest (out-Value z) (and_left (alike a rest) (all_steps g n (g a).shape) e1) q)
    (folded_fits f g b r n xs w (g a).shape (omega (arith, l)) h.1 y.0 (and_right (alike a rest) (all_steps g n (g a).shape) e1)))

step_same : (u : Seen) (n : ℕ) (a : Shape) → IsTrue (steps_sound n u a) → IsTrue (all_steps (step u) n a)
step_same u zero a h = h
step_same u (suc n) a h =
    let rest : Bool = alike a (reached_by n (λ b. (step u b).shape) (step u a).shape) in
    let tail : Bool = steps_sound n u (step u a).shape in
    and_both (step u a).sound (rest && all_steps (step u) n (step u a).shape) (and_left (step u a).sound (rest && tail) h)
    (and_both rest (all_steps (step u) n (step u a).shape) (and_left rest tail (and_right (step u a).sound (rest && tail) h))
    (step_same u n (step u a).shape (and_right rest tail (and_right (step u a).sound (rest && tail) h))))

-- the sequence of a fold
over_items : (p : Place) (P : Value → Type 0) (b : Shape) (x : Layer Value) (f : List Value → Outcome) → IsTrue (is_sequence b) → FitsLayer b x →
    ((xs : List Value) → length xs ≤ count b → AllFit (inside b) xs → IfVal P (f xs)) →
    IfVal P (elim x as (λ _. Outcome) [ layer.Fun ps ↦ on_items p f (items_of ps) | _ ↦ Wrong p ])
over_items p P (Seq n a) (layer.Fun ps) f e h k = by (items_of ps) h
  where
    by : (o : Option (List Value)) → OfSome (λ xs. (length xs ≤ n) × AllFit a xs) o → IfVal P (on_items p f o)
    by (Some xs) g = k xs g.0 g.1
    by None g = tt
over_items p P Atom (layer.Fun ps) f e h k = absurd h
over_items p P (Num a b) (layer.Fun ps) f e h k = absurd h
over_items p P (Set n a) (layer.Fun ps) f e h k = absurd h
over_items p P (Fun n a r) (layer.Fun ps) f e h k = absurd (false≢true e)
over_items p P (Rec xs as') (layer.Fun ps) f e h k = absurd (false≢true e)
over_items p P (Tup as') (layer.Fun ps) f e h k = absurd (false≢true e)
over_items p P Empty (layer.Fun ps) f e h k = absurd h
over_items p P b x f e h k = tt

pub fold_fits : (s t : State) (p : Place) (v : View) (u : Seen) → KidsFit s t v.here u.here →
    ((vs : List Value) (as' : List Shape) → FitAll as' vs → KidsFit s t (v.under vs) (u.under as')) →
    IsTrue (all_sound (drop 1 u.here)) → IsTrue (is_sequence (child_at 2 u.here).shape) →
    IsTrue (steps_sound (count (child_at 2 u.here).shape) u (child_at 1 u.here).shape) →
    IfVal (Fits (reached_by (count (child_at 2 u.here).shape) (λ a. (step u a).shape) (child_at 1 u.here).shape))
    (strict (outcomes (drop 1 v.here) s t) (fold_over p (λ a b. (child p 0 (v.under (a ∷ b ∷ []))).value s t)))
fold_fits s t p v u h k e q g =
    let body_at : Value → Value → Outcome = λ a b. (child p 0 (v.under (a ∷ b ∷ []))).value s t in
    let n : ℕ = count (child_at 2 u.here).shape in
    let b : Shape = (child_at 2 u.here).shape in
    let a : Shape = (child_at 1 u.here).shape in
    let P : Value → Type 0 = Fits (reached_by n (λ c. (step u c).shape) a) in
    strict_meets P s t (drop 1 v.here) (drop 1 u.here) (fold_over p body_at) (drop_fits s t 1 v.here u.here h) e (λ vs m.
    by P body_at u.here vs m q (λ xs w l y z. folded_fits body_at (step u) (inside b) (λ w x c i j d.
    kid_fits s t p 0 (v.under (w ∷ x ∷ [])) (u.under (c ∷ inside b ∷ [])) (k (w ∷ x ∷ []) (c ∷ inside b ∷ []) (i, (j, tt))) d)
    n xs w a l y z (step_same u n a g)))
  where
    by : (P : Value → Type 0) (f : Value → Value → Outcome) (as' : List Sized) (vs : List Value) → MeetAll (drop 1 as') vs → IsTrue (is_sequence (child_at 2 as').shape) →
        ((xs : List Value) (w : Value) → length xs ≤ count (child_at 2 as').shape → AllFit (inside (child_at 2 as').shape) xs → Fits (child_at 1 as').shape w → IfVal P (folded f xs w)) →
        IfVal P (fold_over p f vs)
    by P f (c ∷ a ∷ b ∷ []) (w ∷ x ∷ []) m q r = over_items p P b.shape (out-Value x) (λ xs. folded f xs w) q m.1.0.0 (λ xs l y. r xs w l y m.0.0)
    by P f (c ∷ a ∷ b ∷ []) [] m q r = tt
    by P f (c ∷ a ∷ b ∷ []) (w ∷ []) m q r = tt
    by P f (c ∷ a ∷ b ∷ []) (w ∷ x ∷ y ∷ vs) m q r = tt
    by P f [] [] m q r = tt
    by P f [] (w ∷ vs) m q r = absurd m
    by P f (c ∷ []) [] m q r = tt
    by P f (c ∷ []) (w ∷ vs) m q r = absurd m
    by P f (c ∷ a ∷ []) [] m q r = tt
    by P f (c ∷ a ∷ []) (w ∷ []) m q r = tt
    by P f (c ∷ a ∷ []) (w ∷ x ∷ vs) m q r = absurd m.1
    by P f (c ∷ a ∷ b ∷ d ∷ as') [] m q r = tt
    by P f (c ∷ a ∷ b ∷ d ∷ as') (w ∷ []) m q r = tt
    by P f (c ∷ a ∷ b ∷ d ∷ as') (w ∷ x ∷ []) m q r = absurd m.1.1
    by P f (c ∷ a ∷ b ∷ d ∷ as') (w ∷ x ∷ y ∷ vs) m q r = tt
