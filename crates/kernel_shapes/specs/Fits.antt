-- Which values fit a shape. Source: Konnov, Kukovec and Tran, "TLA+ Model Checking Made Symbolic", OOPSLA 2019, on the
-- static bounds of cells and arenas.
use Rattle.std.specs.Prelude.{ℕ, ◌≤◌, ◌≤ℤ◌, List, [], ◌∷◌, length, Option, Some, None, ℤ, IsTrue, ◌≡◌}
use Rattle.std.specs.List.{AllByRecursion}
use Rattle.tla_values.specs.Order.{Layer}
use Rattle.tla_values.specs.Sets.{apply}
use Rattle.tla_values.specs.declared.value.Value.{Value, out-Value}
use Rattle.tla_values.specs.declared.value.Value.TheVariants as value
use Rattle.tla_values.specs.declared.value.Value.TheOpen as layer
use Rattle.tla_meaning.specs.Shapes.{items_of}
use Rattle.tla_meaning.specs.Forms.{has_fields}
use Rattle.kernel_shapes.specs.Shape.{Shape, Atom, Num, Set, Fun, Rec, Tup, Seq, Empty, Shapes, no_shapes, more_shapes}

-- what is said of a value of one kind, where a value of another kind does not do
abbrev pub IsAtom : Layer Value → Type 0
IsAtom (layer.Bool b) = Unit {0}
IsAtom (layer.Text t) = Unit {0}
IsAtom x = ⊥

abbrev pub OfInt : (ℤ → Type 0) → Layer Value → Type 0
OfInt P (layer.Int n) = P n
OfInt P x = ⊥

abbrev pub OfSet : (List Value → Type 0) → Layer Value → Type 0
OfSet P (layer.Set xs) = P xs
OfSet P x = ⊥

abbrev pub OfFun : (List (Value × Value) → Type 0) → Layer Value → Type 0
OfFun P (layer.Fun ps) = P ps
OfFun P x = ⊥

abbrev pub OfSome : {X : Type 0} → (X → Type 0) → Option X → Type 0
OfSome P (Some x) = P x
OfSome P None = ⊥

abbrev mutual
  pub FitsLayer : Shape → Layer Value → Type 0
  FitsLayer Atom x = IsAtom x
  FitsLayer (Num a b) x = OfInt (λ n. (a ≤ℤ n) × (n ≤ℤ b)) x
  FitsLayer (Set n a) x = OfSet (λ vs. (length vs ≤ n) × AllByRecursion (λ v. FitsLayer a (out-Value v)) vs) x
  FitsLayer (Fun n a r) x =
      OfFun
      (λ ps. (length ps ≤ n) × AllByRecursion (λ p. FitsLayer a (out-Value p.0) × FitsLayer r (out-Value p.1)) ps)
      x
  FitsLayer (Rec xs as') x =
      OfFun (λ ps. (length ps ≤ length xs) × IsTrue (has_fields xs ps) × FieldsFit xs as' ps) x
  FitsLayer (Tup as') x = OfFun (λ ps. OfSome (ItemsFit as') (items_of ps)) x
  FitsLayer (Seq n a) x =
      OfFun (λ ps. OfSome (λ vs. (length vs ≤ n) × AllByRecursion (λ v. FitsLayer a (out-Value v)) vs) (items_of ps)) x
  FitsLayer Empty x = ⊥

  pub FieldsFit : List (List ℕ) → Shapes → List (Value × Value) → Type 0
  FieldsFit [] no_shapes ps = Unit {0}
  FieldsFit (x ∷ xs) (more_shapes a as') ps =
      OfSome (λ v. FitsLayer a (out-Value v)) (apply ps (value.Text x)) × FieldsFit xs as' ps
  FieldsFit [] (more_shapes a as') ps = ⊥
  FieldsFit (x ∷ xs) no_shapes ps = ⊥

  pub ItemsFit : Shapes → List Value → Type 0
  ItemsFit no_shapes [] = Unit {0}
  ItemsFit (more_shapes a as') (v ∷ vs) = FitsLayer a (out-Value v) × ItemsFit as' vs
  ItemsFit no_shapes (v ∷ vs) = ⊥
  ItemsFit (more_shapes a as') [] = ⊥

-- a value fits a shape
abbrev pub Fits : Shape → Value → Type 0
Fits a v = FitsLayer a (out-Value v)

-- each value a shape
abbrev pub FitAll : List Shape → List Value → Type 0
FitAll [] [] = Unit {0}
FitAll (a ∷ as') (v ∷ vs) = Fits a v × FitAll as' vs
FitAll [] (v ∷ vs) = ⊥
FitAll (a ∷ as') [] = ⊥

-- the values of a state, where a name that has no shape yet may have any
abbrev pub FitsSome : Option Shape → Value → Type 0
FitsSome None v = Unit {0}
FitsSome (Some a) v = Fits a v

abbrev pub StateFits : List (Option Shape) → List Value → Type 0
StateFits [] [] = Unit {0}
StateFits (o ∷ os) (v ∷ vs) = FitsSome o v × StateFits os vs
StateFits [] (v ∷ vs) = ⊥
StateFits (o ∷ os) [] = ⊥

-- ---- scopes and states

-- the same names in order, each with a value that fits its shape
abbrev pub BoundFit : List (List ℕ × Value) → List (List ℕ × Shape) → Type 0
BoundFit [] [] = Unit {0}
BoundFit (e ∷ es) (b ∷ bs) = (e.0 ≡ b.0) × Fits b.1 e.1 × BoundFit es bs
BoundFit [] (b ∷ bs) = ⊥
BoundFit (e ∷ es) [] = ⊥
