-- The guards and branches of a CASE, apart and in a row.
use Rattle.std.proofs.Common.{◌≡◌, List, [], ◌∷◌, ◌++◌, refl, sym, ◌∙◌, ap, Option, Some, None}
use Rattle.std.proofs.lemmas.List.{append-nil, append_assoc}
use Rattle.tla_meaning.specs.declared.place.Place.{Place}
use Rattle.snowcat_rows.specs.declared.types.Ty.{Ty}
use Rattle.snowcat_rows.specs.declared.types.Ty.TheVariants as ty
use Rattle.kernel_trees.specs.declared.kernel.Ker.{Ker}
use Rattle.kernel_trees.specs.declared.kernel.KerOp.TheVariants as ker
use Rattle.kernel_reduction.specs.Rows.{case_branches, nested_ifs, node}
use Rattle.kera_reducer.specs.inner.Standing.{arm_node, flat, nested}

-- ---- apart

pub one_guard : (xs : List (Ker × Ker)) (k : Ker) → flat xs (Some k) ≡ flat xs None ++ k ∷ []
one_guard [] k = refl
one_guard (x ∷ xs) k = ap (λ ks. x.0 ∷ x.1 ∷ ks) (one_guard xs k)

pub one_arm : (xs : List (Ker × Ker)) (g k : Ker) → flat (xs ++ (g, k) ∷ []) None ≡ flat xs (Some g) ++ k ∷ []
one_arm [] g k = refl
one_arm (x ∷ xs) g k = ap (λ ks. x.0 ∷ x.1 ∷ ks) (one_arm xs g k)

pub with_guard : (xs : List (Ker × Ker)) (ks : List Ker) (k : Ker) → flat xs None ≡ ks → flat xs (Some k) ≡ ks ++ k ∷ []
with_guard xs ks k h = one_guard xs k ∙ ap (λ z. z ++ k ∷ []) h

pub with_arm : (xs : List (Ker × Ker)) (ks : List Ker) (g k : Ker) → flat xs (Some g) ≡ ks →
    flat (xs ++ (g, k) ∷ []) None ≡ ks ++ k ∷ []
with_arm xs ks g k h = one_arm xs g k ∙ ap (λ z. z ++ k ∷ []) h

-- ---- as a value

pub nested_more : (p : Place) (a : Ty) (xs : List (Ker × Ker)) (g k z : Ker) →
    nested p a xs (node p a ker.If (g ∷ k ∷ z ∷ [])) ≡ nested p a (xs ++ (g, k) ∷ []) z
nested_more p a [] g k z = refl
nested_more p a (x ∷ xs) g k z = ap (λ y. node p a ker.If (x.0 ∷ x.1 ∷ y ∷ [])) (nested_more p a xs g k z)

pub nested_other : (p : Place) (a : Ty) (xs : List (Ker × Ker)) (k : Ker) →
    nested p a xs k ≡ nested_ifs p a (flat xs (Some k))
nested_other p a [] k = refl
nested_other p a (x ∷ xs) k = ap (λ y. node p a ker.If (x.0 ∷ x.1 ∷ y ∷ [])) (nested_other p a xs k)

pub nested_none : (p : Place) (a : Ty) (xs : List (Ker × Ker)) →
    nested p a xs (node p a ker.NoCase []) ≡ nested_ifs p a (flat xs None)
nested_none p a [] = refl
nested_none p a (x ∷ xs) = ap (λ y. node p a ker.If (x.0 ∷ x.1 ∷ y ∷ [])) (nested_none p a xs)

-- ---- in an action position

pub next_arm : (p : Place) (made front : List Ker) (g k : Ker) (xs : List (Ker × Ker)) (o : Option Ker) (all : List Ker) →
    made ++ case_branches p ty.Bool front ((g, k) ∷ xs) o ≡ all →
    (made ++ arm_node p front g k ∷ []) ++ case_branches p ty.Bool (front ++ g ∷ []) xs o ≡ all
next_arm p made front g k xs o all h =
    append_assoc made (arm_node p front g k ∷ []) (case_branches p ty.Bool (front ++ g ∷ []) xs o) ∙ h

pub last_arm : (p : Place) (made front : List Ker) (k : Ker) (xs : List (Ker × Ker)) (o : Option Ker) →
    made ++ case_branches p ty.Bool front [] o ≡ case_branches p ty.Bool [] (xs ++ []) o →
    case_branches p ty.Bool front [] o ≡ k ∷ [] → made ++ k ∷ [] ≡ case_branches p ty.Bool [] xs o
last_arm p made front k xs o h e =
    ap (λ z. made ++ z) (sym e) ∙ h ∙ ap (λ z. case_branches p ty.Bool [] z o) (append-nil xs)
