-- Sequences and tuples as functions (Specifying Systems, sections 16.1.8 and 18.1).
use Rattle.std.specs.Prelude.{ℕ, ◌+◌, List, [], ◌∷◌, pos}
use Rattle.tla_values.specs.declared.value.Value.{Value}
use Rattle.tla_values.specs.declared.value.Value.TheVariants as value

-- the items at the arguments from n on
abbrev pub numbered : ℕ → List Value → List (Value × Value)
numbered n [] = []
numbered n (x ∷ xs) = (value.Int (pos n), x) ∷ numbered (n + 1) xs

-- a sequence or tuple is a function on 1 to its length
abbrev pub sequence : List Value → Value
sequence xs = value.Fun (numbered 1 xs)
