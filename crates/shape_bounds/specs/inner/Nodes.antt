-- What stands at nodes of the kernel: constants and literals, infinite sets, binders, the numbers along a fold.
use Rattle.std.specs.Prelude.{ℕ, zero, suc, Bool, true, false, List, [], ◌∷◌, ◌++◌}
use Rattle.tla_values.specs.Order.{Layer}
use Rattle.tla_values.specs.declared.value.Value.{Value, out-Value}
use Rattle.tla_values.specs.declared.value.Value.TheOpen as layer
use Rattle.tla_meaning.specs.declared.place.Place.{Place}
use Rattle.kernel_trees.specs.declared.kernel.KerOp.{KerOp}
use Rattle.kernel_trees.specs.declared.kernel.KerOp.TheVariants as ker
use Rattle.kernel_shapes.specs.Counts.{Count, count_at}
use Rattle.kernel_shapes.specs.Rows.{Literal, no_literal, number, text, Row, a_truth, a_part, a_map, a_function}
use Rattle.kernel_trees.specs.declared.kernel.Ker.{Ker, out-Ker}
use Rattle.kernel_shapes.specs.Shape.{Shape, Atom, Empty, interval}
use Rattle.kernel_shapes.specs.Sized.{Sized, Position, walked, as_form}

-- a constant
abbrev pub constant_shape : ℕ → Layer Value → Shape
constant_shape w (layer.Bool b) = Atom
constant_shape w (layer.Int n) = interval w n n
constant_shape w (layer.Text x) = Atom
constant_shape w l = Empty

abbrev pub constant_literal : Layer Value → Literal
constant_literal (layer.Int n) = number n
constant_literal (layer.Text x) = text x
constant_literal l = no_literal

-- the literal that a node is
abbrev pub literal_at : KerOp → Literal
literal_at (ker.Const v) = constant_literal (out-Value v)
literal_at o = no_literal

abbrev pub is_endless : KerOp → Bool
is_endless ker.IntForm = true
is_endless ker.NatForm = true
is_endless ker.TextForm = true
is_endless ker.SeqForm = true
is_endless o = false

-- the numbers along a fold's steps
abbrev pub counts_along : (Shape → Sized) → ℕ → Shape → List Count
counts_along f zero a = []
counts_along f (suc n) a = (f a).counts walked ++ counts_along f n (f a).shape

abbrev pub is_binder : KerOp → Bool
is_binder ker.Filter = true
is_binder ker.MapOver = true
is_binder ker.FunOf = true
is_binder ker.Some = true
is_binder ker.Every = true
is_binder o = false

-- the row of a binder of n names
abbrev pub binder_row : KerOp → ℕ → Row
binder_row ker.Filter n = a_part
binder_row ker.MapOver n = a_map n
binder_row ker.FunOf n = a_function n
binder_row o n = a_truth

abbrev pub is_literal : Ker → Literal
is_literal k = literal_at (out-Ker k).op

-- the literal that stands second
abbrev pub second_of : List Ker → Literal
second_of [] = no_literal
second_of (k ∷ []) = no_literal
second_of (k ∷ j ∷ ks) = is_literal j

abbrev pub is_membership : KerOp → Bool
is_membership ker.Member = true
is_membership ker.Included = true
is_membership o = false

abbrev pub is_product : KerOp → Bool
is_product (ker.RecForm xs) = true
is_product ker.TupForm = true
is_product o = false

-- where the operand of a set of subsets stands
abbrev pub subset_operand : Position → Position
subset_operand as_form = as_form
subset_operand q = walked

-- the number of a set of functions, subsets, records or tuples
abbrev pub walked_count : Position → Place → Shape → List Count
walked_count walked p a = count_at p a
walked_count q p a = []

-- a tuple or a sequence of items
abbrev pub is_listed : KerOp → Bool
is_listed ker.TupOf = true
is_listed ker.SeqOf = true
is_listed o = false
