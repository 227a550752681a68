-- The extents of which the code's shapes are those that are kept.
use Rattle.std.proofs.Common.{◌≡◌, Bool, true, false, List, [], ◌∷◌, map, Option, option_map, refl}
use Rattle.std.proofs.Common.{sym, ◌∙◌, ap, ap₂}
use Rattle.kernel_shapes.specs.declared.bounds.Shape.{Shape as Code}
use Rattle.kernel_shapes.specs.declared.bounds.Shape.TheVariants as code
use Rattle.kernel_shapes.specs.Codes.{mean}
use Rattle.kernel_shapes.specs.Shape.{Shape, Atom, Num, Set, Fun, Rec, Tup, Seq, Empty}
use Rattle.kernel_shapes.specs.Sized.{Extent}
use Rattle.shape_bounds.specs.Extents.{extent_of, given_shape, kept_extent}
use Rattle.shape_bounds.specs.Kept.{capped}
use Rattle.shape_bounds.proofs.Means.{mean-Empty}
use Rattle.step_branches.specs.Ways.{shapes_of_constants}
use Rattle.step_encoder.specs.inner.Asked.{AreKept}

-- ---- lists of shapes

abbrev pub or_empty : List Bool → List Shape → List Shape
or_empty [] as' = []
or_empty (b ∷ bs) [] = []
or_empty (true ∷ bs) (a ∷ as') = a ∷ or_empty bs as'
or_empty (false ∷ bs) (a ∷ as') = Empty ∷ or_empty bs as'

pub mean_constants : (bs : List Bool) (cs : List Code) → map mean (shapes_of_constants bs cs) ≡ or_empty bs
    (map mean cs)
mean_constants [] cs = refl
mean_constants (b ∷ bs) [] = refl
mean_constants (true ∷ bs) (c ∷ cs) = ap (λ (as' : List Shape). mean c ∷ as') (mean_constants bs cs)
mean_constants (false ∷ bs) (c ∷ cs) = ap₂ (λ (a : Shape) (as' : List Shape). a ∷ as') mean-Empty (mean_constants bs cs)

capped_constants : (bs : List Bool) (as' : List Shape) → map capped (or_empty bs as') ≡ or_empty bs (map capped as')
capped_constants [] as' = refl
capped_constants (b ∷ bs) [] = refl
capped_constants (true ∷ bs) (a ∷ as') = ap (λ (cs : List Shape). capped a ∷ cs) (capped_constants bs as')
capped_constants (false ∷ bs) (a ∷ as') = ap (λ (cs : List Shape). Empty ∷ cs) (capped_constants bs as')

pub constants_kept : (bs : List Bool) (cs : List Code) → AreKept cs → AreKept (shapes_of_constants bs cs)
constants_kept bs cs h = record {
  shapes = or_empty bs h.shapes;
  kept = mean_constants bs cs ∙ ap (or_empty bs) h.kept ∙ sym (capped_constants bs h.shapes);
}

pub empty_kept : (bs : List Bool) → AreKept (map (λ _. code.Empty) bs)
empty_kept bs = record { shapes = map (λ _. Empty) bs; kept = by bs }
  where
    by : (bs : List Bool) → map mean (map (λ _. code.Empty) bs) ≡ map capped (map (λ _. Empty) bs)
    by [] = refl
    by (b ∷ bs) = ap₂ (λ (a : Shape) (as' : List Shape). a ∷ as') mean-Empty (by bs)

-- ---- extents

given_capped : (a : Shape) → option_map capped (given_shape a) ≡ given_shape (capped a)
given_capped Atom = refl
given_capped (Num a b) = refl
given_capped (Set n a) = refl
given_capped (Fun n a r) = refl
given_capped (Rec xs as') = refl
given_capped (Tup as') = refl
given_capped (Seq n a) = refl
given_capped Empty = refl

all_capped : (as' : List Shape) → map (option_map capped) (map given_shape as') ≡ map given_shape (map capped as')
all_capped [] = refl
all_capped (a ∷ as') = ap₂ (λ (o : Option Shape) (os : List (Option Shape)). o ∷ os) (given_capped a) (all_capped as')

pub some_extent : (now next : List Code) → AreKept now → AreKept next →
    (g : Extent) × (kept_extent g ≡ extent_of now next [])
some_extent now next h k = (
  record { now = map given_shape h.shapes; next = map given_shape k.shapes; bound = [] },
  ap₂ (λ (os ps : List (Option Shape)). record { now = os; next = ps; bound = [] })
      (all_capped h.shapes ∙ ap (map given_shape) (sym h.kept))
      (all_capped k.shapes ∙ ap (map given_shape) (sym k.kept)),
)
