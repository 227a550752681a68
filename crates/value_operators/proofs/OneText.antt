-- Definitions that stand in two places, with one meaning: ranges, sublists, and lists of results.
use Rattle.std.proofs.Common.{◌≡◌, ℕ, zero, suc, List, [], ◌∷◌, ◌++◌, map, refl, ◌∙◌, ap, ℤ, pos, ◌+ℤ◌}
use Rattle.tla_values.specs.declared.value.Value.{Value}
use Rattle.tla_values.specs.declared.value.Value.TheVariants as value
use Rattle.tla_meaning.specs.Numbers.{from_on, range}
use Rattle.tla_meaning.specs.Shapes.{sublists, with_each, each_to}
use Rattle.set_rewriter.specs.Ranges.{from_on as from_on', count_of, range as range'}
use Rattle.set_rewriter.specs.Subsets.{sublists as sublists'}
use Rattle.function_rewriter.specs.FunctionSets.{with_each as with_each', each_to as each_to'}

same-from_on : (a : ℤ) (n : ℕ) → from_on' a n ≡ from_on a n
same-from_on a zero = refl
same-from_on a (suc n) = ap (λ (l : List Value). value.Int a ∷ l) (same-from_on (a +ℤ pos 1) n)

pub same-range : (a b : ℤ) → range' a b ≡ range a b
same-range a b = same-from_on a (count_of a b)

pub same-sublists : (xs : List Value) → sublists' xs ≡ sublists xs
same-sublists [] = refl
same-sublists (x ∷ xs) = ap (λ (l : List (List Value)). l ++ map (λ ys. x ∷ ys) l) (same-sublists xs)

same-with_each : (xs : List Value) (yss : List (List Value)) → with_each' xs yss ≡ with_each xs yss
same-with_each [] yss = refl
same-with_each (x ∷ xs) yss = ap (λ (l : List (List Value)). map (λ ys. x ∷ ys) yss ++ l) (same-with_each xs yss)

pub same-each_to : (xs ts : List Value) → each_to' xs ts ≡ each_to xs ts
same-each_to [] ts = refl
same-each_to (x ∷ xs) ts = same-with_each ts (each_to' xs ts) ∙ ap (with_each ts) (same-each_to xs ts)
