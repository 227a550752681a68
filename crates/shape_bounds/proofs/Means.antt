-- What each form of shape of the code means.
use Rattle.std.proofs.Common.{◌≡◌, ℕ, ℤ, List, [], ◌∷◌, map, refl, ap, ap₂, ◌∙◌}
use Rattle.kernel_shapes.specs.declared.bounds.Shape.{Shape as Code, out-Shape}
use Rattle.kernel_shapes.specs.declared.bounds.Shape.{Atom as atom, Num as num, Set as set, Fun as function, Rec as record_of, Tup as tuple, Seq as sequence, Empty as empty}
use Rattle.kernel_shapes.specs.declared.bounds.Shape.TheVariants.{outs-Atom, outs-Num, outs-Set, outs-Fun, outs-Rec, outs-Tup, outs-Seq, outs-Empty}
use Rattle.kernel_shapes.specs.declared.bounds.Shape.TheOpen as layer
use Rattle.kernel_shapes.specs.declared.bounds.Shape.TheFolds.{fold_out-Shape, map-Shape}
use Rattle.kernel_shapes.specs.Codes.{mean, mean_layer}
use Rattle.kernel_shapes.specs.Shape.{Shape, Atom, Num, Set, Fun, Rec, Tup, Seq, Empty, shapes}

abbrev Opened : layer.Shape-F Code → Shape
Opened o = mean_layer (map-Shape Code Shape mean o)

mean_out : (t : Code) → mean t ≡ mean_layer (map-Shape Code Shape mean (out-Shape t))
unfolding mean
mean_out t = fold_out-Shape Shape mean_layer t

pub mean-Atom : mean atom ≡ Atom
mean-Atom = mean_out atom ∙ ap Opened outs-Atom

pub mean-Num : (a b : ℤ) → mean (num a b) ≡ Num a b
mean-Num a b = mean_out (num a b) ∙ ap Opened (outs-Num a b)

pub mean-Set : (n : ℕ) (a : Code) → mean (set n a) ≡ Set n (mean a)
mean-Set n a = mean_out (set n a) ∙ ap Opened (outs-Set n a)

pub mean-Fun : (n : ℕ) (a b : Code) → mean (function n a b) ≡ Fun n (mean a) (mean b)
mean-Fun n a b = mean_out (function n a b) ∙ ap Opened (outs-Fun n a b)

names_of : (fs : List (List ℕ × Code)) → map (λ (f : List ℕ × Shape). f.0) (map (λ (f : List ℕ × Code). (f.0, mean f.1)) fs) ≡ map (λ (f : List ℕ × Code). f.0) fs
names_of [] = refl
names_of (f ∷ fs) = ap (λ (xs : List (List ℕ)). f.0 ∷ xs) (names_of fs)

items_of : (fs : List (List ℕ × Code)) → map (λ (f : List ℕ × Shape). f.1) (map (λ (f : List ℕ × Code). (f.0, mean f.1)) fs) ≡ map (λ (f : List ℕ × Code). mean f.1) fs
items_of [] = refl
items_of (f ∷ fs) = ap (λ (xs : List Shape). mean f.1 ∷ xs) (items_of fs)

pub mean-Rec : (fs : List (List ℕ × Code)) → mean (record_of fs) ≡ Rec (map (λ f. f.0) fs) (shapes (map (λ f. mean f.1) fs))
mean-Rec fs = mean_out (record_of fs) ∙ ap Opened (outs-Rec fs) ∙ ap₂ (λ (xs : List (List ℕ)) (as' : List Shape). Rec xs (shapes as')) (names_of fs) (items_of fs)

pub mean-Tup : (as' : List Code) → mean (tuple as') ≡ Tup (shapes (map mean as'))
mean-Tup as' = mean_out (tuple as') ∙ ap Opened (outs-Tup as')

pub mean-Seq : (n : ℕ) (a : Code) → mean (sequence n a) ≡ Seq n (mean a)
mean-Seq n a = mean_out (sequence n a) ∙ ap Opened (outs-Seq n a)

pub mean-Empty : mean empty ≡ Empty
mean-Empty = mean_out empty ∙ ap Opened outs-Empty

pub ruleset means = (mean-Atom, mean-Num, mean-Set, mean-Fun, mean-Rec, mean-Tup, mean-Seq, mean-Empty)
