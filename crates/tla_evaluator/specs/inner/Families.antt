-- The rows of the table of operators by family: what each gives of operands that are of the family's kind.
use Rattle.std.specs.Prelude.{not, true, List, [], ◌∷◌, length, ℤ, pos, ◌+ℤ◌, ◌-ℤ◌, ◌*ℤ◌, int_lt, int_le}
use Rattle.tla_values.specs.Order.{same_value}
use Rattle.tla_values.specs.Sets.{union_of, inter_of, minus, apply}
use Rattle.tla_values.specs.declared.value.Value.{Value, out-Value}
use Rattle.tla_values.specs.declared.value.Value.TheVariants as value
use Rattle.tla_meaning.specs.declared.op.Op.{Op}
use Rattle.tla_meaning.specs.declared.op.Op.TheVariants as op
use Rattle.tla_meaning.specs.declared.place.Place.{Place}
use Rattle.tla_meaning.specs.declared.outcome.Outcome.{Outcome}
use Rattle.tla_meaning.specs.declared.outcome.Outcome.TheVariants.{Val, Wrong}
use Rattle.tla_meaning.specs.Numbers.{Width, number, power, quotient, range, remainder}
use Rattle.tla_meaning.specs.Operators.{applied, domain, head_of, on_all_sets, or_wrong, tail_of, yes_no}
use Rattle.tla_meaning.specs.Shapes.{functions, items_of, subsets, union_all}

abbrev pub of_numbers : Width → Place → Op → ℤ → ℤ → Outcome
of_numbers w p op.Lt a b = yes_no (int_lt a b)
of_numbers w p op.Gt a b = yes_no (int_lt b a)
of_numbers w p op.Le a b = yes_no (int_le a b)
of_numbers w p op.Ge a b = yes_no (int_le b a)
of_numbers w p op.Add a b = number w p (a +ℤ b)
of_numbers w p op.Sub a b = number w p (a -ℤ b)
of_numbers w p op.Mul a b = number w p (a *ℤ b)
of_numbers w p op.Div a b = quotient w p a b
of_numbers w p op.Mod a b = remainder w p a b
of_numbers w p op.Pow a b = power w p a b
of_numbers w p op.Range a b = Val (value.Set (range a b))
of_numbers w p o a b = Wrong p

-- of two values of any kind
abbrev pub of_two : Place → Op → Value → Value → Outcome
of_two p op.Eq a b = yes_no (same_value a b)
of_two p op.Assign a b = yes_no (same_value a b)
of_two p op.Ne a b = yes_no (not (same_value a b))
of_two p op.Apply a b = applied p (out-Value a) b
of_two p op.Single a b = Val (value.Fun ((a, b) ∷ []))
of_two p o a b = Wrong p

abbrev pub of_set : Width → Place → Op → List Value → Outcome
of_set w p op.Powerset xs = Val (subsets xs)
of_set w p op.BigUnion xs = on_all_sets p (λ xss. Val (value.Set (union_all xss))) xs
of_set w p op.Cardinality xs = number w p (pos (length xs))
of_set w p op.IsFinite xs = yes_no true
of_set w p o xs = Wrong p

abbrev pub of_sets : Place → Op → List Value → List Value → Outcome
of_sets p op.Cup xs ys = Val (value.Set (union_of xs ys))
of_sets p op.Cap xs ys = Val (value.Set (inter_of xs ys))
of_sets p op.Minus xs ys = Val (value.Set (minus xs ys))
of_sets p op.FunSet xs ys = Val (functions xs ys)
of_sets p o xs ys = Wrong p

abbrev pub of_function : Width → Place → Op → List (Value × Value) → Outcome
of_function w p op.Domain ps = domain w p ps (items_of ps)
of_function w p (op.Field name) ps = or_wrong p (apply ps (value.Text name))
of_function w p o ps = Wrong p

abbrev pub of_items : Width → Place → Op → List Value → Outcome
of_items w p op.Len xs = number w p (pos (length xs))
of_items w p op.Head xs = head_of p xs
of_items w p op.Tail xs = tail_of p xs
of_items w p o xs = Wrong p
