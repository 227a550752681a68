-- The numbers of a range lie between the bounds that shapes give it.
use Rattle.std.proofs.Common.{◌≡◌, ℕ, Bool, true, IsTrue, List, [], ◌∷◌, map, ℤ, int_le, arith, refl, sym, ◌∙◌, ap, ap₂, subst, inl, inr}
use Rattle.std.proofs.lemmas.Int.{ints}
use Rattle.std.specs.List.{list_all}
use Rattle.tla_values.specs.Order.{Layer}
use Rattle.tla_values.specs.declared.value.Value.{Value, out-Value}
use Rattle.tla_values.specs.declared.value.Value.TheOpen as layer
use Rattle.tla_values.specs.declared.value.Value.TheVariants as value
use Rattle.tla_meaning.specs.declared.place.Place.{Place}
use Rattle.tla_meaning.specs.Numbers.{range}
use Rattle.tla_meaning.proofs.Views.{and_both, and_left, and_right}
use Rattle.kernel_trees.specs.declared.kernel.Ker.{Ker, out-Ker, out-roll-Ker}
use Rattle.kernel_trees.specs.declared.kernel.Ker.TheOpen.{Ker-F}
use Rattle.kernel_trees.specs.Sound.{literal_of}
use Rattle.kernel_trees.specs.TypeKinds as kind
use Rattle.kernel_trees.specs.TypeKinds.{Kind}
use Rattle.kernel_shapes.specs.Shape.{Shape, Num, Set, Empty, join_all, alike, alike_all}
use Rattle.kernel_shapes.specs.Fits.{Fits, FitsLayer}
use Rattle.kernel_shapes.specs.Kernel.{ker_shape, ker_sized}
use Rattle.kernel_shapes.specs.Rows.{a_range, row_shape, set_of_interval}
use Rattle.kernel_shapes.specs.Sized.{Extent}
use Rattle.kernel_shapes.specs.TypedStates.{OfKind}
use Rattle.kernel_shapes.proofs.FitLemmas.{AllFit, join_left}
use Rattle.kernel_shapes.proofs.JoinRight.{join_right}
use Rattle.kernel_shapes.proofs.KindLaw.{AllOfKind, all_alike, join_all_kind}
use Rattle.kernel_shapes.proofs.Operators.{range_fits, two_numbers}
use Rattle.kernel_ranges.specs.Ranges.{in_bounds, lies_between, numbers_from}
use Rattle.tree_bounds.specs.Bounded.{constant, ends}
use Rattle.tree_bounds.proofs.Elements.{Among}

abbrev pub numbers : Kind
numbers = kind.Set kind.Number

-- ---- what fits a set of numbers

literal_at : (p : Place) (n : ℤ) → literal_of (out-Ker (constant p n)).op ≡ layer.Int n
literal_at p n = ap (λ (y : Ker-F Ker). literal_of y.op) (out-roll-Ker _) ∙ value.outs-Int n

between : (a b : ℤ) (x : Layer Value) → FitsLayer (Num a b) x → lies_between (layer.Int a) (layer.Int b) x ≡ true
between a b (layer.Int n) h =
    let p = h.0 in let q = h.1 in
    and_both (int_le a n) (int_le n b) (grind (arith, ints, p)) (grind (arith, ints, q))
between a b (layer.Bool x) h = absurd h
between a b (layer.Text x) h = absurd h
between a b (layer.Set x) h = absurd h
between a b (layer.Fun x) h = absurd h

fitting_lie : (p : Place) (a : Shape) (vs : List Value) → OfKind numbers a → FitsLayer a (layer.Set vs) →
    list_all (in_bounds (ends p a)) vs ≡ true
fitting_lie p (Set n (Num a b)) vs k h = each vs h.1
  where
    test : Value → Bool
    test v = in_bounds (ends p (Set n (Num a b))) v

    one : (v : Value) → FitsLayer (Num a b) (out-Value v) → test v ≡ true
    one v h =
        ap₂ (λ l m. lies_between l m (out-Value v)) (literal_at p a) (literal_at p b) ∙ between a b (out-Value v) h

    each : (vs : List Value) → AllFit (Num a b) vs → list_all test vs ≡ true
    each [] h = refl
    each (v ∷ vs) h = and_both (test v) (list_all test vs) (one v h.0) (each vs h.1)
fitting_lie p (Set n Empty) [] k h = refl
fitting_lie p (Set n Empty) (v ∷ vs) k h = absurd h.1.0
fitting_lie p Empty vs k h = absurd h
fitting_lie p (Set n a) vs k h = absurd k
fitting_lie p a vs k h = absurd k

-- ---- shapes over several extents

-- what fits a shape at one of them fits the join over all
joined_fits : (f : Extent → Shape) (gs : List Extent) (g : Extent) (x : Layer Value) → IsTrue (alike_all (map f gs)) →
    Among g gs → FitsLayer (f g) x → FitsLayer (join_all (map f gs)) x
joined_fits f [] g x e h k = absurd h
joined_fits f (y ∷ gs) g x e (inl q) k =
    join_left (f y) (join_all (map f gs)) x (subst (λ z. FitsLayer (f z) x) (sym q) k)
joined_fits f (y ∷ gs) g x e (inr h) k =
    let one : Bool = alike (f y) (join_all (map f gs)) in
    let rest : Bool = alike_all (map f gs) in
    join_right (f y) (join_all (map f gs)) x (and_left one rest e) (joined_fits f gs g x (and_right one rest e) h k)

all_kind : (k : Kind) (f : Extent → Shape) (gs : List Extent) → ((g : Extent) → OfKind k (f g)) → AllOfKind k (map f gs)
all_kind k f [] h = tt
all_kind k f (g ∷ gs) h = (h g, all_kind k f gs h)

-- ---- a range

range_kind : (w : ℕ) (a b : Shape) → OfKind numbers (set_of_interval w a b)
range_kind w (Num a b) (Num c d) = tt
range_kind w a b = tt

-- the shape of a range, by those of its ends
abbrev pub range_shape : ℕ → Ker → Ker → Extent → Shape
range_shape w x y g = row_shape w a_range (ker_sized w y g).literal (ker_shape w x g ∷ ker_shape w y g ∷ [])

-- the numbers from one that fits to another
pub range_between : (w : ℕ) (p : Place) (x y : Ker) (gs : List Extent) (g : Extent) (l r : Layer Value) → Among g gs →
    FitsLayer (ker_shape w x g) l → FitsLayer (ker_shape w y g) r →
    list_all (in_bounds (ends p (join_all (map (range_shape w x y) gs)))) (numbers_from l r) ≡ true
range_between w p x y gs g (layer.Int m) (layer.Int n) here h k =
    let shapes : List Shape = map (range_shape w x y) gs in
    let kinds : AllOfKind numbers shapes =
    all_kind numbers (range_shape w x y) gs (λ h. range_kind w (ker_shape w x h) (ker_shape w y h)) in
    let two : List Shape = ker_shape w x g ∷ ker_shape w y g ∷ [] in
    let fit : Fits (range_shape w x y g) (value.Set (range m n)) =
    range_fits w (ker_sized w y g).literal two m n (two_numbers two m n (h, (k, tt))) in
    fitting_lie p (join_all shapes) (range m n) (join_all_kind numbers shapes kinds)
    (joined_fits (range_shape w x y) gs g (layer.Set (range m n)) (all_alike numbers shapes kinds) here
    (subst (FitsLayer (range_shape w x y g)) (value.outs-Set (range m n)) fit))
range_between w p x y gs g l r here h k = refl
