-- Whether each range `a..b` that the evaluation of a kernel tree comes to lies within its two further children. Source:
-- Konnov, Kukovec and Tran, "TLA+ Model Checking Made Symbolic", OOPSLA 2019, on static bounds; Specifying Systems,
-- section 16.1, for what is evaluated.
use Rattle.std.specs.Prelude.{ℕ, Bool, true, false, ◌&&◌, List, [], ◌∷◌, map, take, drop, length, Option, None, Some, int_le}
use Rattle.std.specs.List.{list_all}
use Rattle.tla_values.specs.Order.{Layer}
use Rattle.tla_values.specs.declared.value.Value.{Value, out-Value}
use Rattle.tla_values.specs.declared.value.Value.TheOpen as layer
use Rattle.tla_meaning.specs.declared.job.State.{State}
use Rattle.tla_meaning.specs.declared.outcome.Fault.{Fault}
use Rattle.tla_meaning.specs.declared.outcome.Fault.TheVariants.{NoFault, IsWrong, IsBig}
use Rattle.tla_meaning.specs.declared.outcome.Outcome.{Outcome}
use Rattle.tla_meaning.specs.declared.outcome.Outcome.TheVariants.{Val, Wrong, Big}
use Rattle.tla_meaning.specs.Outcomes.{joined, values}
use Rattle.tla_meaning.specs.Numbers.{Width, range}
use Rattle.tla_meaning.specs.Shapes.{all_set_items, choices, items_of}
use Rattle.tla_meaning.specs.Scopes.{Scope, bind}
use Rattle.tla_meaning.specs.Meaning.{Reached, At, Outside, NoFunction, step_into}
use Rattle.kernel_trees.specs.declared.kernel.Ker.{Ker, out-Ker}
use Rattle.kernel_trees.specs.declared.kernel.KerOp.{KerOp}
use Rattle.kernel_trees.specs.declared.kernel.KerOp.TheVariants as ker
use Rattle.kernel_trees.specs.Sound.{literal_of}
use Rattle.kernel_trees.specs.Trees.{ker_val, names_of, recur}

-- of a tree, in a scope at two states
abbrev pub Within : Type 0
Within = Scope → State → State → Bool

-- a child, and whether its ranges lie within their bounds
abbrev pub Child : Type 0
Child = Ker × Within

-- what the child gives
abbrev pub gives : Width → Child → Scope → State → State → Outcome
gives w k sc s t = ker_val w k.0 sc s t

-- ---- one range

-- the numbers from the first to the second have the third among them
abbrev pub lies_between : Layer Value → Layer Value → Layer Value → Bool
lies_between (layer.Int low) (layer.Int high) (layer.Int n) = int_le low n && int_le n high
lies_between x y z = false

-- a range without bounds has no number that lies within them
abbrev pub in_bounds : List Ker → Value → Bool
in_bounds (low ∷ high ∷ []) v = lies_between (literal_of (out-Ker low).op) (literal_of (out-Ker high).op) (out-Value v)
in_bounds ks v = false

-- the numbers of a range, where its ends are numbers
abbrev pub numbers_from : Layer Value → Layer Value → List Value
numbers_from (layer.Int m) (layer.Int n) = range m n
numbers_from x y = []

-- all numbers of the range are in bounds, so that a range without numbers lies anywhere
abbrev pub range_lies : List Ker → Outcome → Outcome → Bool
range_lies bounds (Val x) (Val y) = list_all (in_bounds bounds) (numbers_from (out-Value x) (out-Value y))
range_lies bounds o q = true

-- ---- what is gone on to

-- where the outcome is this truth value, what follows is evaluated
abbrev pub followed : Bool → Layer Value → Bool → Bool
followed true (layer.Bool true) rest = rest
followed false (layer.Bool false) rest = rest
followed t x rest = true

abbrev pub goes_on : Bool → Outcome → Bool → Bool
goes_on t (Val v) rest = followed t (out-Value v) rest
goes_on t (Wrong p) rest = true
goes_on t (Big p) rest = true

-- operands from the left, each where those before it are this truth value
abbrev pub in_turn : Width → Bool → List Child → Scope → State → State → Bool
in_turn w b [] sc s t = true
in_turn w b (k ∷ ks) sc s t = k.1 sc s t && goes_on b (gives w k sc s t) (in_turn w b ks sc s t)

-- ---- bodies

-- all trees in one scope
abbrev pub all_within : List Child → Scope → State → State → Bool
all_within ks sc s t = list_all (λ k. k.1 sc s t) ks

-- the choices of members of sets, where these have no fault and are sets
abbrev pub choices_in : Option (List (List Value)) → List (List Value)
choices_in None = []
choices_in (Some xss) = choices xss

abbrev pub choices_without : Fault → List Value → List (List Value)
choices_without NoFault vs = choices_in (all_set_items vs)
choices_without (IsWrong p) vs = []
choices_without (IsBig p) vs = []

abbrev pub choices_of : List Outcome → List (List Value)
choices_of os = choices_without (joined os) (values os)

abbrev pub body_within : List Child → Scope → State → State → Bool
body_within (k ∷ []) sc s t = k.1 sc s t
body_within ks sc s t = true

-- the sets, and then the body at all choices of their members
abbrev pub at_members : Width → List ℕ → List Child → Scope → State → State → Bool
at_members w xs ks sc s t =
    let sets : List Child = take (length xs) ks in
    all_within sets sc s t
    && list_all (λ vs. body_within (drop (length xs) ks) (bind (names_of xs) vs sc) s t)
    (choices_of (map (λ k. gives w k sc s t) sets))

-- what an update has at its index, where it has something there
abbrev pub reached_within : (Value → Bool) → Reached → Bool
reached_within test (At old) = test old
reached_within test Outside = true
reached_within test NoFunction = true

abbrev pub at_old : (Value → Bool) → Outcome → Outcome → Bool
at_old test (Val f) (Val i) = reached_within test (step_into (out-Value f) i)
at_old test o q = true

-- a fold's steps, up to the first that has a fault
abbrev pub after : Outcome → (Value → Bool) → Bool
after (Val v) rest = rest v
after (Wrong p) rest = true
after (Big p) rest = true

abbrev pub each_step : (Value → Value → Outcome) → (Value → Value → Bool) → List Value → Value → Bool
each_step f test [] v = true
each_step f test (x ∷ xs) v = test v x && after (f v x) (each_step f test xs)

abbrev pub items_within : (List Value → Bool) → Option (List Value) → Bool
items_within test None = true
items_within test (Some xs) = test xs

abbrev pub over_items : (List Value → Bool) → Layer Value → Bool
over_items test (layer.Fun ps) = items_within test (items_of ps)
over_items test x = true

abbrev pub at_steps : (Value → Value → Outcome) → (Value → Value → Bool) → Outcome → Outcome → Bool
at_steps f test (Val v) (Val q) = over_items (λ xs. each_step f test xs v) (out-Value q)
at_steps f test o q = true

-- ---- a node

abbrev pub within_at : Width → KerOp → List ℕ → List Child → Within
within_at w (ker.Const v) xs ks sc s t = true
within_at w ker.NoCase xs ks sc s t = true
within_at w ker.And xs ks sc s t = in_turn w true ks sc s t
within_at w ker.Or xs ks sc s t = in_turn w false ks sc s t
within_at w ker.If xs (c ∷ x ∷ y ∷ []) sc s t =
    c.1 sc s t
    && (goes_on true (gives w c sc s t) (x.1 sc s t) && goes_on false (gives w c sc s t) (y.1 sc s t))
within_at w ker.Some xs ks sc s t = at_members w xs ks sc s t
within_at w ker.Every xs ks sc s t = at_members w xs ks sc s t
within_at w ker.Filter xs ks sc s t = at_members w xs ks sc s t
within_at w ker.MapOver xs ks sc s t = at_members w xs ks sc s t
within_at w ker.FunOf xs ks sc s t = at_members w xs ks sc s t
within_at w ker.Update xs (f ∷ i ∷ e ∷ []) sc s t =
    (f.1 sc s t && i.1 sc s t)
    && at_old (λ v. e.1 (bind (names_of xs) (v ∷ []) sc) s t) (gives w f sc s t) (gives w i sc s t)
within_at w ker.FoldLeft xs (e ∷ f ∷ q ∷ []) sc s t =
    (f.1 sc s t && q.1 sc s t)
    && at_steps (λ v x. gives w e (bind (names_of xs) (v ∷ x ∷ []) sc) s t)
    (λ v x. e.1 (bind (names_of xs) (v ∷ x ∷ []) sc) s t) (gives w f sc s t) (gives w q sc s t)
within_at w ker.Range xs (x ∷ y ∷ bounds) sc s t =
    (x.1 sc s t && y.1 sc s t) && range_lies (map (λ k. k.0) bounds) (gives w x sc s t) (gives w y sc s t)
within_at w o xs ks sc s t = all_within ks sc s t

-- whether each range that is evaluated lies within its bounds
abbrev pub is_within : Width → Ker → Within
is_within w = recur (λ x. within_at w x.op x.binds x.args)
