-- Values that fit: shapes by the values that fit them, joins, and lists of values.
use Rattle.std.proofs.Common.{ℕ, ◌≤◌, max, List, [], ◌∷◌, length, Option, Some, None, ℤ, ◌≤ℤ◌, arith}
use Rattle.std.specs.List.{AllByRecursion}
use Rattle.std.specs.Int.{int_max, int_min}
use Rattle.std.proofs.lemmas.Int.{ints, clamps}
use Rattle.tla_values.specs.Order.{Layer}
use Rattle.tla_values.specs.declared.value.Value.{Value, out-Value}
use Rattle.tla_values.specs.declared.value.Value.TheOpen as layer
use Rattle.tla_meaning.specs.declared.place.Place.{Place}
use Rattle.tla_meaning.specs.declared.outcome.Fault.{Fault}
use Rattle.tla_meaning.specs.declared.outcome.Fault.TheVariants.{NoFault, IsWrong, IsBig}
use Rattle.tla_meaning.specs.declared.outcome.Outcome.{Outcome}
use Rattle.tla_meaning.specs.declared.outcome.Outcome.TheVariants.{Val, Wrong, Big}
use Rattle.tla_meaning.specs.Outcomes.{join_faults, joined, values, fault_or, strict, with_value}
use Rattle.tla_meaning.specs.Shapes.{items_of}
use Rattle.kernel_shapes.specs.Shape.{Shape, Num, Set, Fun, Rec, Tup, Seq, Empty, Shapes, no_shapes, more_shapes, join, join_items}
use Rattle.kernel_shapes.specs.Fits.{OfInt, OfSet, OfFun, OfSome, FitsLayer, Fits, FieldsFit, ItemsFit, FitAll}
use Rattle.kernel_shapes.proofs.Intervals.{Between}

-- ---- outcomes

-- what is said of the value of an outcome
abbrev pub IfVal : (Value → Type 0) → Outcome → Type 0
IfVal P (Val v) = P v
IfVal P (Wrong p) = Unit {0}
IfVal P (Big p) = Unit {0}

abbrev pub OutcomesFit : List Shape → List Outcome → Type 0
OutcomesFit [] [] = Unit {0}
OutcomesFit (a ∷ as') (o ∷ os) = IfVal (Fits a) o × OutcomesFit as' os
OutcomesFit [] (o ∷ os) = ⊥
OutcomesFit (a ∷ as') [] = ⊥

wrong_first : (P : Value → Type 0) (p : Place) (g : Fault) (o : Outcome) → IfVal P (fault_or (join_faults (IsWrong p) g) o)
wrong_first P p NoFault o = tt
wrong_first P p (IsWrong q) o = tt
wrong_first P p (IsBig q) o = tt

big_first : (P : Value → Type 0) (p : Place) (g : Fault) (o : Outcome) → IfVal P (fault_or (join_faults (IsBig p) g) o)
big_first P p NoFault o = tt
big_first P p (IsWrong q) o = tt
big_first P p (IsBig q) o = tt

-- where operands join, their values fit
pub strict_fits : (P : Value → Type 0) (as' : List Shape) (os : List Outcome) (f : List Value → Outcome) → OutcomesFit as' os →
    ((vs : List Value) → FitAll as' vs → IfVal P (f vs)) → IfVal P (strict os f)
strict_fits P [] [] f h k = k [] tt
strict_fits P [] (o ∷ os) f h k = absurd h
strict_fits P (a ∷ as') [] f h k = absurd h
strict_fits P (a ∷ as') (Val v ∷ os) f h k =
    strict_fits P as' os (λ vs. f (v ∷ vs)) h.1 (λ vs g. k (v ∷ vs) (h.0, g))
strict_fits P (a ∷ as') (Wrong p ∷ os) f h k = wrong_first P p (joined os) (f (values os))
strict_fits P (a ∷ as') (Big p ∷ os) f h k = big_first P p (joined os) (f (values os))

pub with_fits : (P Q : Value → Type 0) (o : Outcome) (f : Value → Outcome) → IfVal P o → ((v : Value) → P v → IfVal Q (f v)) → IfVal Q (with_value o f)
with_fits P Q (Val v) f h k = k v h
with_fits P Q (Wrong p) f h k = tt
with_fits P Q (Big p) f h k = tt

pub weaker : (P Q : Value → Type 0) (o : Outcome) → ((v : Value) → P v → Q v) → IfVal P o → IfVal Q o
weaker P Q (Val v) f h = f v h
weaker P Q (Wrong p) f h = tt
weaker P Q (Big p) f h = tt

-- ---- a shape by the value that fits it

abbrev pub AllFit : Shape → List Value → Type 0
AllFit a vs = AllByRecursion (λ v. FitsLayer a (out-Value v)) vs

abbrev pub PairsFit : Shape → Shape → List (Value × Value) → Type 0
PairsFit a r ps = AllByRecursion (λ p. FitsLayer a (out-Value p.0) × FitsLayer r (out-Value p.1)) ps

pub data IsNum : Shape → ℤ → Type 0 where
  is_num : {a b n : ℤ} → Between a b n → IsNum (Num a b) n

pub data IsSet : Shape → List Value → Type 0 where
  is_set : {n : ℕ} {a : Shape} {vs : List Value} → length vs ≤ n → AllFit a vs → IsSet (Set n a) vs

pub number_of : (a : Shape) (n : ℤ) → FitsLayer a (layer.Int n) → IsNum a n
number_of (Num a b) n h = is_num (record { low = h.0; high = h.1 })
number_of a n h = absurd h

pub members_of : (a : Shape) (vs : List Value) → FitsLayer a (layer.Set vs) → IsSet a vs
members_of (Set n a) vs h = is_set h.0 h.1
members_of a vs h = absurd h

-- ---- joins

pub all_to : {X : Type 0} (P Q : X → Type 0) → ((x : X) → P x → Q x) → (xs : List X) → AllByRecursion P xs → AllByRecursion Q xs
all_to P Q f [] h = tt
all_to P Q f (x ∷ xs) h = (f x h.0, all_to P Q f xs h.1)

pub some_to : {X : Type 0} (P Q : X → Type 0) → ((x : X) → P x → Q x) → (o : Option X) → OfSome P o → OfSome Q o
some_to P Q f (Some x) h = f x h
some_to P Q f None h = h

pub int_to : (P Q : ℤ → Type 0) → ((n : ℤ) → P n → Q n) → (x : Layer Value) → OfInt P x → OfInt Q x
int_to P Q f (layer.Int n) h = f n h
int_to P Q f x h = absurd h

pub set_to : (P Q : List Value → Type 0) → ((vs : List Value) → P vs → Q vs) → (x : Layer Value) → OfSet P x → OfSet Q x
set_to P Q f (layer.Set vs) h = f vs h
set_to P Q f x h = absurd h

pub fun_to : (P Q : List (Value × Value) → Type 0) → ((ps : List (Value × Value)) → P ps → Q ps) → (x : Layer Value) → OfFun P x → OfFun Q x
fun_to P Q f (layer.Fun ps) h = f ps h
fun_to P Q f x h = absurd h

hull_left : (a b c d n : ℤ) → (a ≤ℤ n) × (n ≤ℤ b) → (int_min a c ≤ℤ n) × (n ≤ℤ int_max b d)
hull_left a b c d n h = let p = h.0 in let q = h.1 in (omega (arith, ints, clamps, p), omega (arith, ints, clamps, q))

pub hull_right : (a b c d n : ℤ) → (c ≤ℤ n) × (n ≤ℤ d) → (int_min a c ≤ℤ n) × (n ≤ℤ int_max b d)
hull_right a b c d n h = let p = h.0 in let q = h.1 in (omega (arith, ints, clamps, p), omega (arith, ints, clamps, q))

more_left : (k n m : ℕ) → k ≤ n → k ≤ max n m
more_left k n m h = omega arith

pub more_right : (k n m : ℕ) → k ≤ m → k ≤ max n m
more_right k n m h = omega arith

mutual
  pub join_left : (a b : Shape) (x : Layer Value) → FitsLayer a x → FitsLayer (join a b) x
  join_left Empty b x h = absurd h
  join_left (Num a b) (Num c d) x h = int_to _ _ (hull_left a b c d) x h
  join_left (Set n a) (Set m b) x h =
      set_to _ _ (λ vs g. (more_left (length vs) n m g.0, all_to _ _ (λ v. join_left a b (out-Value v)) vs g.1)) x h
  join_left (Fun n a r) (Fun m b s) x h =
      fun_to _ _ (λ ps g. (
        more_left (length ps) n m g.0,
        all_to _ _ (λ p l. (join_left a b (out-Value p.0) l.0, join_left r s (out-Value p.1) l.1)) ps g.1,
      )) x h
  join_left (Seq n a) (Seq m b) x h =
      fun_to _ _ (λ ps. some_to _ _ (λ vs g. (more_left (length vs) n m g.0, all_to _ _ (λ v. join_left a b (out-Value v)) vs g.1)) (items_of ps)) x h
  join_left (Rec xs as') (Rec ys bs) x h = fun_to _ _ (λ ps g. (g.0, g.1, fields_left xs as' bs ps g.2)) x h
  join_left (Tup as') (Tup bs) x h = fun_to _ _ (λ ps. some_to _ _ (items_left as' bs) (items_of ps)) x h
  join_left a b x h = h

  fields_left : (xs : List (List ℕ)) (as' bs : Shapes) (ps : List (Value × Value)) → FieldsFit xs as' ps → FieldsFit xs (join_items as' bs) ps
  fields_left [] no_shapes bs ps h = tt
  fields_left (x ∷ xs) (more_shapes a as') (more_shapes b bs) ps h =
      (some_to _ _ (λ v. join_left a b (out-Value v)) _ h.0, fields_left xs as' bs ps h.1)
  fields_left (x ∷ xs) (more_shapes a as') no_shapes ps h = h
  fields_left [] (more_shapes a as') bs ps h = absurd h
  fields_left (x ∷ xs) no_shapes bs ps h = absurd h

  items_left : (as' bs : Shapes) (vs : List Value) → ItemsFit as' vs → ItemsFit (join_items as' bs) vs
  items_left no_shapes bs vs h = h
  items_left (more_shapes a as') no_shapes vs h = h
  items_left (more_shapes a as') (more_shapes b bs) (v ∷ vs) h = (join_left a b (out-Value v) h.0, items_left as' bs vs h.1)
  items_left (more_shapes a as') (more_shapes b bs) [] h = absurd h
