-- Shapes as a way has them, where those of the level are kept up to the greatest number.
use Rattle.std.proofs.Common.{◌≡◌, Bool, true, false, List, [], ◌∷◌, map, Option, None, option_map, refl, sym, ◌∙◌}
use Rattle.std.proofs.Common.{ap, ap₂}
use Rattle.kernel_shapes.specs.declared.bounds.Shape.{Shape as Code}
use Rattle.kernel_shapes.specs.declared.bounds.Shape.TheVariants as code
use Rattle.kernel_shapes.specs.Codes.{mean}
use Rattle.kernel_shapes.specs.Shape.{Shape, Empty}
use Rattle.shape_bounds.specs.Extents.{extent_of, given_shape, given_shapes, kept_extent}
use Rattle.shape_bounds.specs.Kept.{capped}
use Rattle.shape_bounds.proofs.Means.{mean-Empty}
use Rattle.path_bounds.proofs.Starting.{of_constants}
use Rattle.step_branches.specs.Ways.{shapes_of_constants}

capped_given : (a : Shape) → option_map capped (given_shape a) ≡ given_shape (capped a)
capped_given Empty = refl
capped_given a = refl

-- the shapes that are given, as an extent has them
pub kept_shapes : (as' : List Shape) → map (option_map capped) (map given_shape as') ≡ map given_shape (map capped as')
kept_shapes [] = refl
kept_shapes (a ∷ as') = ap₂ (λ (o : Option Shape) (os : List (Option Shape)). o ∷ os) (capped_given a) (kept_shapes as')

pub capped_constants : (bs : List Bool) (as' : List Shape) →
    map capped (of_constants bs as') ≡ of_constants bs (map capped as')
capped_constants [] as' = refl
capped_constants (b ∷ bs) [] = refl
capped_constants (true ∷ bs) (a ∷ as') = ap (λ (cs : List Shape). capped a ∷ cs) (capped_constants bs as')
capped_constants (false ∷ bs) (a ∷ as') = ap (λ (cs : List Shape). Empty ∷ cs) (capped_constants bs as')

pub mean_constants : (bs : List Bool) (cs : List Code) →
    map mean (shapes_of_constants bs cs) ≡ of_constants bs (map mean cs)
mean_constants [] cs = refl
mean_constants (b ∷ bs) [] = refl
mean_constants (true ∷ bs) (c ∷ cs) = ap (λ (as' : List Shape). mean c ∷ as') (mean_constants bs cs)
mean_constants (false ∷ bs) (c ∷ cs) = ap₂ (λ (a : Shape) (as' : List Shape). a ∷ as') mean-Empty (mean_constants bs cs)

-- all names have their shapes
pub all_kept : (as' : List Shape) (cs : List Code) → map mean cs ≡ map capped as' →
    map (option_map capped) (map given_shape as') ≡ given_shapes cs
all_kept as' cs e = kept_shapes as' ∙ ap (map given_shape) (sym e)

-- the constants have theirs
pub constants_kept : (bs : List Bool) (as' : List Shape) (cs : List Code) → map mean cs ≡ map capped as' →
    map (option_map capped) (map given_shape (of_constants bs as')) ≡ given_shapes (shapes_of_constants bs cs)
constants_kept bs as' cs e =
    kept_shapes (of_constants bs as')
    ∙ ap (map given_shape) (capped_constants bs as' ∙ (ap (of_constants bs) (sym e) ∙ sym (mean_constants bs cs)))

-- none has one
abbrev pub no_shapes : List Bool → List (Option Shape)
no_shapes bs = map (λ b. None) bs

pub none_kept : (bs : List Bool) →
    map (option_map capped) (no_shapes bs) ≡ given_shapes (map (λ (b : Bool). code.Empty) bs)
none_kept [] = refl
none_kept (b ∷ bs) = ap₂ (λ (o : Option Shape) (os : List (Option Shape)). o ∷ os) (sym (ap given_shape mean-Empty))
    (none_kept bs)

-- an extent by its two lists
pub extent_given : (os ps : List (Option Shape)) (now next : List Code) →
    map (option_map capped) os ≡ given_shapes now → map (option_map capped) ps ≡ given_shapes next →
    kept_extent (record { now = os; next = ps; bound = [] }) ≡ extent_of now next []
extent_given os ps now next p q = ap₂ (λ (a b : List (Option Shape)). record { now = a; next = b; bound = [] }) p q
