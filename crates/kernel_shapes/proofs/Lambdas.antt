-- Function constructors of any number of names.
use Rattle.std.proofs.Common.{◌≡◌, List, [], ◌∷◌, map, zip, length, sym, subst, arith}
use Rattle.std.specs.List.{AllByRecursion}
use Rattle.tla_values.specs.Sets.{function_of}
use Rattle.tla_values.specs.declared.value.Value.{Value}
use Rattle.tla_values.specs.declared.value.Value.TheVariants as value
use Rattle.tla_values.proofs.FunLaws.{all_function}
use Rattle.tla_meaning.specs.Shapes.{choices, the_function}
use Rattle.tla_meaning.specs.Meaning.{argument}
use Rattle.kernel_shapes.specs.Shape.{Shape, Fun}
use Rattle.kernel_shapes.specs.Rows.{insides, product_of, argument_of}
use Rattle.kernel_shapes.specs.Fits.{FitsLayer, Fits, FitAll}
use Rattle.kernel_shapes.proofs.FitLemmas.{AllFit, PairsFit}
use Rattle.kernel_shapes.proofs.Sizes.{function_size}
use Rattle.kernel_shapes.proofs.Sequences.{fits_tuple}
use Rattle.kernel_shapes.proofs.Binders.{SetsFit, choices_fit, choices_below, zip_size}

argument_fits : (as' : List Shape) (c : List Value) → FitAll (insides as') c → Fits (argument_of as') (argument c)
argument_fits [] [] h = fits_tuple [] [] tt
argument_fits [] (v ∷ vs) h = absurd h
argument_fits (a ∷ []) [] h = absurd h
argument_fits (a ∷ []) (v ∷ []) h = h.0
argument_fits (a ∷ []) (v ∷ u ∷ vs) h = absurd h.1
argument_fits (a ∷ b ∷ as') [] h = absurd h
argument_fits (a ∷ b ∷ as') (v ∷ []) h = absurd h.1
argument_fits (a ∷ b ∷ as') (v ∷ u ∷ vs) h = fits_tuple (insides (a ∷ b ∷ as')) (v ∷ u ∷ vs) h

pairs_fit : (as' : List Shape) (r : Shape) (cs : List (List Value)) (vs : List Value) → AllByRecursion (FitAll (insides as')) cs → AllFit r vs →
    PairsFit (argument_of as') r (zip (map argument cs) vs)
pairs_fit as' r [] vs h k = tt
pairs_fit as' r (c ∷ cs) [] h k = tt
pairs_fit as' r (c ∷ cs) (v ∷ vs) h k = ((argument_fits as' c h.0, k.0), pairs_fit as' r cs vs h.1 k.1)

pub lambda_fits : (as' : List Shape) (r : Shape) (xss : List (List Value)) (vs : List Value) → SetsFit as' xss → length vs ≡ length (choices xss) → AllFit r vs →
    Fits (Fun (product_of as') (argument_of as') r) (the_function (zip (map argument (choices xss)) vs))
lambda_fits as' r xss vs h e k =
    let ps : List (Value × Value) = zip (map argument (choices xss)) vs in
    let m = function_size ps in
    let q = zip_size (map argument (choices xss)) vs in
    let c = choices_below as' xss h in
    subst (FitsLayer (Fun (product_of as') (argument_of as') r)) (sym (value.outs-Fun (function_of ps)))
    (omega (arith, m, q, c, e), all_function _ ps (pairs_fit as' r (choices xss) vs (choices_fit as' xss h) k))
