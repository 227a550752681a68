-- Sets and functions as lists in strictly increasing order.
use Rattle.std.specs.Prelude.{Bool, true, ◌&&◌, not, List, [], ◌∷◌, map, filter, Option, Some, None, if◌then◌else◌, IsTrue}
use Rattle.std.specs.List.{list_all, list_any}
use Rattle.std.specs.declared.cmp.Ordering.{Ordering}
use Rattle.std.specs.declared.cmp.Ordering.TheVariants.{Less, Equal, Greater}
use Rattle.tla_values.specs.Order.{Layer, same_value, value_lt, value_cmp}
use Rattle.tla_values.specs.declared.value.Value.{Value, Fun, out-Value}
use Rattle.tla_values.specs.declared.value.Value.TheOpen as layer
use Rattle.tla_values.specs.declared.value.Value.TheFolds.{every-Value}

-- each item is below the next
abbrev pub increasing : List Value → Bool
increasing [] = true
increasing (x ∷ []) = true
increasing (x ∷ y ∷ ys) = value_lt x y && increasing (y ∷ ys)

abbrev pub arguments : List (Value × Value) → List Value
arguments ps = map (λ p. p.0) ps

-- a set is increasing, and a function has increasing arguments
abbrev pub normal_here : Layer Value → Bool
normal_here (layer.Bool b) = true
normal_here (layer.Int n) = true
normal_here (layer.Text t) = true
normal_here (layer.Set xs) = increasing xs
normal_here (layer.Fun ps) = increasing (arguments ps)

abbrev pub elements_here : Layer Value → List Value
elements_here (layer.Bool b) = []
elements_here (layer.Int n) = []
elements_here (layer.Text t) = []
elements_here (layer.Set xs) = xs
elements_here (layer.Fun ps) = []

-- the members of a set; of any other value none
unfoldable pub elements : Value → List Value
elements v = elements_here (out-Value v)

-- so it is in the value and in everything within it
unfoldable pub Normal : Value → Type 0
Normal = every-Value (λ x. IsTrue (normal_here x))

abbrev pub member : Value → List Value → Bool
member v xs = list_any (same_value v) xs

abbrev pub subset : List Value → List Value → Bool
subset xs ys = list_all (λ x. member x ys) xs

-- where it is less, equal or greater
abbrev pub by_order : {A : Type 0} → Ordering → A → A → A → A
by_order Less a b c = a
by_order Equal a b c = b
by_order Greater a b c = c

-- whether no two are equal
abbrev pub distinct : List Value → Bool
distinct [] = true
distinct (x ∷ xs) = not (member x xs) && distinct xs

-- the set with one more member
abbrev pub insert : Value → List Value → List Value
insert v [] = v ∷ []
insert v (x ∷ xs) = by_order (value_cmp v x) (v ∷ x ∷ xs) (x ∷ xs) (x ∷ insert v xs)

-- the set of the items
abbrev pub set_of : List Value → List Value
set_of [] = []
set_of (x ∷ xs) = insert x (set_of xs)

abbrev pub union_of : List Value → List Value → List Value
union_of [] ys = ys
union_of (x ∷ xs) ys = insert x (union_of xs ys)

abbrev pub inter_of : List Value → List Value → List Value
inter_of xs ys = filter (λ x. member x ys) xs

abbrev pub minus : List Value → List Value → List Value
minus xs ys = filter (λ x. not (member x ys)) xs

-- the value of a function at an argument
abbrev pub apply : List (Value × Value) → Value → Option Value
apply [] a = None
apply (p ∷ ps) a = if same_value a p.0 then Some p.1 else apply ps a

-- the function with v at a, where a is an argument
abbrev pub override_at : List (Value × Value) → Value → Value → List (Value × Value)
override_at ps a v = map (λ p. if same_value a p.0 then (p.0, v) else p) ps

-- the function with a pair, in place of one with its argument
abbrev pub insert_pair : Value × Value → List (Value × Value) → List (Value × Value)
insert_pair q [] = q ∷ []
insert_pair q (p ∷ ps) =
    by_order (value_cmp q.0 p.0) (q ∷ p ∷ ps) (q ∷ ps) (p ∷ insert_pair q ps)

-- the function of the pairs, the first of those with one argument
abbrev pub function_of : List (Value × Value) → List (Value × Value)
function_of [] = []
function_of (p ∷ ps) = insert_pair p (function_of ps)

-- the function of the pairs, where no two have equal arguments
abbrev pub fun_of : List (Value × Value) → Option Value
fun_of ps = if distinct (arguments ps) then Some (Fun (function_of ps)) else None
