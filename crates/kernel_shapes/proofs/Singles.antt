-- Functions of one argument, and one function over another.
use Rattle.std.proofs.Common.{ℕ, ◌+◌, ◌≤◌, Bool, ◌&&◌, IsTrue, List, [], ◌∷◌, ◌++◌, map, length, sym, subst, arith}
use Rattle.std.proofs.lemmas.List.{length-append}
use Rattle.tla_values.specs.Order.{Layer}
use Rattle.tla_values.specs.Sets.{function_of}
use Rattle.tla_values.specs.declared.value.Value.TheOpen as layer
use Rattle.tla_values.proofs.FunLaws.{all_function}
use Rattle.tla_meaning.specs.declared.outcome.Outcome.{Outcome}
use Rattle.tla_meaning.specs.declared.outcome.Outcome.TheVariants.{Val}
use Rattle.tla_meaning.specs.Shapes.{the_function}
use Rattle.tla_meaning.specs.Operators.{on_functions}
use Rattle.tla_meaning.proofs.NormalShapes.{all_plus}
use Rattle.tla_meaning.proofs.Views.{and_left, and_right, false≢true}
use Rattle.tla_values.specs.declared.value.Value.{Value, out-Value}
use Rattle.tla_values.specs.declared.value.Value.TheVariants as value
use Rattle.tla_meaning.specs.declared.op.Op.TheVariants as op
use Rattle.tla_meaning.specs.declared.place.Place.{Place}
use Rattle.kernel_shapes.specs.Shape.{Shape, Atom, Num, Set, Fun, Rec, Tup, Seq, Empty, count, inside, result, join, alike}
use Rattle.kernel_shapes.specs.Rows.{a_single, a_merge}
use Rattle.kernel_shapes.specs.Sized.{Sized, shapes_of, index_of, row_joins, is_function}
use Rattle.kernel_shapes.specs.Fits.{FitsLayer, Fits}
use Rattle.kernel_shapes.proofs.FitLemmas.{IfVal, PairsFit, all_to, join_left}
use Rattle.kernel_shapes.proofs.JoinRight.{join_right}
use Rattle.kernel_shapes.proofs.Sizes.{function_size}
use Rattle.kernel_shapes.proofs.Combine.{MeetAll}
use Rattle.kernel_shapes.proofs.Tables.{Gives}

fits_single : (a b : Shape) (x y : Value) → Fits a x → Fits b y → Fits (Fun 1 a b) (value.Fun ((x, y) ∷ []))
fits_single a b x y h k = subst (FitsLayer (Fun 1 a b)) (sym (value.outs-Fun ((x, y) ∷ []))) (omega arith, ((h, k), tt))

pub single_gives : (w : ℕ) (p : Place) (as' : List Sized) (vs : List Value) → MeetAll as' vs → Gives w p op.Single a_single as' vs
single_gives w p (a ∷ b ∷ []) (x ∷ y ∷ []) h = fits_single a.shape b.shape x y h.0.0 h.1.0.0
single_gives w p as' [] h = tt
single_gives w p as' (x ∷ []) h = tt
single_gives w p as' (x ∷ y ∷ z ∷ vs) h = tt
single_gives w p [] (x ∷ y ∷ []) h = absurd h
single_gives w p (a ∷ []) (x ∷ y ∷ []) h = absurd h.1
single_gives w p (a ∷ b ∷ c ∷ as') (x ∷ y ∷ []) h = absurd h.1.1

-- ---- one function over another

merged_fits : (n m : ℕ) (a b r s : Shape) (ps qs : List (Value × Value)) → length ps ≤ n → PairsFit a r ps → length qs ≤ m → PairsFit b s qs → IsTrue (alike a b) → IsTrue (alike r s) →
    Fits (Fun (n + m) (join a b) (join r s)) (the_function (ps ++ qs))
merged_fits n m a b r s ps qs h k i l e f =
    let q = function_size (ps ++ qs) in
    let t = length-append ps qs in
    subst (FitsLayer (Fun (n + m) (join a b) (join r s))) (sym (value.outs-Fun (function_of (ps ++ qs)))) (
      omega (arith, q, t, h, i),
      all_function _ (ps ++ qs) (all_plus _ ps qs
          (all_to _ _ (λ p g. (join_left a b (out-Value p.0) g.0, join_left r s (out-Value p.1) g.1)) ps k)
          (all_to _ _ (λ p g. (join_right a b (out-Value p.0) e g.0, join_right r s (out-Value p.1) f g.1)) qs l)),
    )

pub data IsFun : Shape → List (Value × Value) → Type 0 where
  is_fun : {n : ℕ} {a r : Shape} {ps : List (Value × Value)} → length ps ≤ n → PairsFit a r ps → IsFun (Fun n a r) ps

pairs_of : (a : Shape) (ps : List (Value × Value)) → IsTrue (is_function a) → FitsLayer a (layer.Fun ps) → IsFun a ps
pairs_of (Fun n a r) ps e h = is_fun h.0 h.1
pairs_of Empty ps e h = absurd h
pairs_of Atom ps e h = absurd h
pairs_of (Num a b) ps e h = absurd h
pairs_of (Set n a) ps e h = absurd h
pairs_of (Seq n a) ps e h = absurd (false≢true e)
pairs_of (Rec xs as') ps e h = absurd (false≢true e)
pairs_of (Tup as') ps e h = absurd (false≢true e)

merge_at : (p : Place) (a b : Shape) (x y : Layer Value) → IsTrue (is_function a) → IsTrue (is_function b) → IsTrue (alike (inside a) (inside b)) → IsTrue (alike (result a) (result b)) →
    FitsLayer a x → FitsLayer b y → IfVal (Fits (Fun (count a + count b) (join (inside a) (inside b)) (join (result a) (result b)))) (on_functions p (λ ps qs. Val (the_function (ps ++ qs))) (x ∷ y ∷ []))
merge_at p a b (layer.Fun ps) (layer.Fun qs) e f g i h k = by a b (pairs_of a ps e h) (pairs_of b qs f k) g i
  where
    by : (a b : Shape) → IsFun a ps → IsFun b qs → IsTrue (alike (inside a) (inside b)) → IsTrue (alike (result a) (result b)) →
        Fits (Fun (count a + count b) (join (inside a) (inside b)) (join (result a) (result b))) (the_function (ps ++ qs))
    by _ _ (is_fun {n = n} {a = a} {r = r} l q) (is_fun {n = m} {a = b} {r = s} t u) g i = merged_fits n m a b r s ps qs l q t u g i
merge_at p a b x y e f g i h k = tt

merge_one : (P : Value → Type 0) (p : Place) (f : List (Value × Value) → List (Value × Value) → Outcome) (x : Layer Value) → IfVal P (on_functions p f (x ∷ []))
merge_one P p f (layer.Fun ps) = tt
merge_one P p f x = tt

merge_many : (P : Value → Type 0) (p : Place) (f : List (Value × Value) → List (Value × Value) → Outcome) (x y z : Layer Value) (ls : List (Layer Value)) → IfVal P (on_functions p f (x ∷ y ∷ z ∷ ls))
merge_many P p f (layer.Fun ps) (layer.Fun qs) z ls = tt
merge_many P p f x y z ls = tt

pub merge_gives : (w : ℕ) (p : Place) (as' : List Sized) (vs : List Value) → MeetAll as' vs → IsTrue (row_joins a_merge (index_of as') (shapes_of as')) → Gives w p op.Merge a_merge as' vs
merge_gives w p (a ∷ b ∷ []) (x ∷ y ∷ []) h e =
    let k1 : Bool = alike (inside a.shape) (inside b.shape) in
    let k2 : Bool = alike (result a.shape) (result b.shape) in
    let e1 = and_right (is_function a.shape) (is_function b.shape && (k1 && k2)) e in
    let e2 = and_right (is_function b.shape) (k1 && k2) e1 in
    merge_at p a.shape b.shape (out-Value x) (out-Value y) (and_left (is_function a.shape) (is_function b.shape && (k1 && k2)) e) (and_left (is_function b.shape) (k1 && k2) e1)
    (and_left k1 k2 e2) (and_right k1 k2 e2) h.0.0 h.1.0.0
merge_gives w p as' [] h e = tt
merge_gives w p as' (x ∷ []) h e = merge_one _ p _ (out-Value x)
merge_gives w p as' (x ∷ y ∷ z ∷ vs) h e = merge_many _ p _ (out-Value x) (out-Value y) (out-Value z) (map out-Value vs)
merge_gives w p [] (x ∷ y ∷ []) h e = absurd h
merge_gives w p (a ∷ []) (x ∷ y ∷ []) h e = absurd h.1
merge_gives w p (a ∷ b ∷ c ∷ as') (x ∷ y ∷ []) h e = absurd h.1.1
