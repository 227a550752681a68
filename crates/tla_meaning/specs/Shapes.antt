-- Values by their kinds: sequences, records, sets of sets and of functions.
use Rattle.std.specs.Prelude.{ℕ, ◌+◌, Bool, false, List, [], ◌∷◌, ◌++◌, map, Option, Some, None, option_map, option_and_then, pos, zip, if◌then◌else◌}
use Rattle.std.specs.Ordering.{int_eq}
use Rattle.tla_values.specs.Order.{Layer}
use Rattle.tla_values.specs.Sets.{set_of, function_of, union_of}
use Rattle.tla_values.specs.declared.value.Value.{Value, out-Value}
use Rattle.tla_values.specs.declared.value.Value.TheVariants as value
use Rattle.tla_values.specs.declared.value.Value.TheOpen as layer

abbrev pub truth : Bool → Value
truth b = value.Bool b

-- a set of items in any order
abbrev pub the_set : List Value → Value
the_set xs = value.Set (set_of xs)

-- a function of pairs in any order
abbrev pub the_function : List (Value × Value) → Value
the_function ps = value.Fun (function_of ps)

-- the items at the arguments from n on
abbrev pub numbered : ℕ → List Value → List (Value × Value)
numbered n [] = []
numbered n (x ∷ xs) = (value.Int (pos n), x) ∷ numbered (n + 1) xs

-- a sequence or tuple is a function on 1 to n
abbrev pub sequence : List Value → Value
sequence xs = value.Fun (numbered 1 xs)

-- a record is a function on texts
abbrev pub record_of : List (List ℕ) → List Value → Value
record_of names vs = the_function (zip (map (λ n. value.Text n) names) vs)

abbrev pub is_int : ℕ → Layer Value → Bool
is_int n (layer.Int m) = int_eq m (pos n)
is_int n x = false

-- the items of a function, where its arguments are the numbers from n on
abbrev pub items_from : ℕ → List (Value × Value) → Option (List Value)
items_from n [] = Some []
items_from n (p ∷ ps) =
    if is_int n (out-Value p.0) then option_map (λ xs. p.1 ∷ xs) (items_from (n + 1) ps) else None

-- the items of a sequence
abbrev pub items_of : List (Value × Value) → Option (List Value)
items_of ps = items_from 1 ps

abbrev pub set_items : Layer Value → Option (List Value)
set_items (layer.Set xs) = Some xs
set_items x = None

-- the items of several sets
abbrev pub all_set_items : List Value → Option (List (List Value))
all_set_items [] = Some []
all_set_items (v ∷ vs) =
    option_and_then (λ xs. option_map (λ xss. xs ∷ xss) (all_set_items vs)) (set_items (out-Value v))

abbrev pub union_all : List (List Value) → List Value
union_all [] = []
union_all (xs ∷ xss) = union_of xs (union_all xss)

-- the lists that leave out some items
abbrev pub sublists : List Value → List (List Value)
sublists [] = [] ∷ []
sublists (x ∷ xs) = sublists xs ++ map (λ ys. x ∷ ys) (sublists xs)

-- one of each, in every way
abbrev pub with_each : List Value → List (List Value) → List (List Value)
with_each [] yss = []
with_each (x ∷ xs) yss = map (λ ys. x ∷ ys) yss ++ with_each xs yss

abbrev pub choices : List (List Value) → List (List Value)
choices [] = [] ∷ []
choices (xs ∷ xss) = with_each xs (choices xss)

abbrev pub each_to : List Value → List Value → List (List Value)
each_to [] ts = [] ∷ []
each_to (x ∷ xs) ts = with_each ts (each_to xs ts)

-- all subsets, functions, records and tuples
abbrev pub subsets : List Value → Value
subsets xs = the_set (map (λ ys. value.Set ys) (sublists xs))

abbrev pub functions : List Value → List Value → Value
functions xs ts = the_set (map (λ ys. value.Fun (zip xs ys)) (each_to xs ts))

abbrev pub records : List (List ℕ) → List (List Value) → Value
records names xss = the_set (map (record_of names) (choices xss))

abbrev pub tuples : List (List Value) → Value
tuples xss = the_set (map sequence (choices xss))
