-- Definitions of values that stand twice, in the crate of the values and in that of their meaning.
use Rattle.std.proofs.Common.{◌≡◌, ℕ, ◌+◌, List, [], ◌∷◌, Some, refl, ap}
use Rattle.std.specs.Prelude.{pos}
use Rattle.std.proofs.lemmas.Cmp.{int_eq_equiv}
use Rattle.tla_values.specs.declared.value.Value.{Value}
use Rattle.tla_values.specs.declared.value.Value.TheVariants as value
use Rattle.tla_values.specs.Sequences.{numbered as cell_numbered, sequence as cell_sequence}
use Rattle.tla_meaning.specs.Shapes.{items_from, items_of, numbered, sequence}

pub same-numbered : (n : ℕ) (xs : List Value) → cell_numbered n xs ≡ numbered n xs
same-numbered n [] = refl
same-numbered n (x ∷ xs) = ap (λ ps. (value.Int (pos n), x) ∷ ps) (same-numbered (n + 1) xs)

pub same-sequence : (xs : List Value) → cell_sequence xs ≡ sequence xs
same-sequence xs = ap value.Fun (same-numbered 1 xs)

-- the items of a sequence are those that it was made of
items-from : (n : ℕ) (xs : List Value) → items_from n (numbered n xs) ≡ Some xs
items-from n [] = refl
items-from n (x ∷ xs) = rw (value.outs-Int, int_eq_equiv.refl (pos n), items-from (n + 1) xs) refl

pub items-numbered : (xs : List Value) → items_of (numbered 1 xs) ≡ Some xs
items-numbered xs = items-from 1 xs
