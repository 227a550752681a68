-- The infinite sets of a job that stand outside a form position. `Int`, `Nat`, `STRING` and `Seq(S)` are sets that no value
-- is; they may stand where a set is only asked for its members. Source: the Apalache manual, "Symbolic Model Checking with
-- Apalache", on infinite sets; Specifying Systems, sections 16.1.6 to 16.1.9, on sets of sets, functions, records and
-- tuples, and 18.1 and 18.4, on `Seq`, `Nat` and `Int`.
use Rattle.std.specs.Prelude.{◌≡◌, ◌++◌, ℕ, zero, suc, Bool, true, false, not, ◌&&◌, if◌then◌else◌, List, [], ◌∷◌, flat_map, Option, Some, None, Contains}
use Rattle.tla_meaning.specs.declared.expr.Expr.{Expr}
use Rattle.tla_meaning.specs.declared.expr.Expr.TheOpen.{Expr-F}
use Rattle.tla_meaning.specs.declared.expr.Expr.TheFolds.{fold-Expr}
use Rattle.tla_meaning.specs.declared.job.Job.{Job}
use Rattle.tla_meaning.specs.declared.op.Op.{Op}
use Rattle.tla_meaning.specs.declared.op.Op.TheVariants as op
use Rattle.tla_meaning.specs.declared.place.Place.{Place}
use Rattle.tla_meaning.specs.Outcomes.{before as comes_before}
use Rattle.snowcat_types.specs.Systems.{parts_of}

abbrev pub is_infinite : Op → Bool
is_infinite op.IntSet = true
is_infinite op.NatSet = true
is_infinite op.StringSet = true
is_infinite op.SeqSet = true
is_infinite o = false

-- whether a child stands in a form position, by its number and whether the node does: the set of a membership or inclusion
-- and the operand of `Seq` do; the operands of sets of sets, functions, records and tuples do where the node does, but for
-- the domain of functions
abbrev pub form_child : Op → ℕ → Bool → Bool
form_child op.In (suc zero) b = true
form_child op.NotIn (suc zero) b = true
form_child op.SubsetEq (suc zero) b = true
form_child op.SeqSet n b = true
form_child op.Powerset n b = b
form_child op.FunSet (suc zero) b = b
form_child (op.RecSet names) n b = b
form_child op.Product n b = b
form_child (op.Noted note) n b = b
form_child o n b = false

-- the node itself
abbrev pub infinite_here : Op → Place → Bool → List Place
infinite_here o p b = if is_infinite o && not b then p ∷ [] else []

-- the children from this number on
abbrev pub infinite_below : Op → ℕ → Bool → List (Bool → List Place) → List Place
infinite_below o n b [] = []
infinite_below o n b (k ∷ ks) = k (form_child o n b) ++ infinite_below o (suc n) b ks

abbrev pub infinite_node : Expr-F (Bool → List Place) → Bool → List Place
infinite_node x b = infinite_here x.op x.place b ++ infinite_below x.op 0 b x.args

-- the places of the infinite sets of a tree that stand outside a form position, where the tree stands in one or not
unfoldable pub infinite_in : Expr → Bool → List Place
infinite_in = fold-Expr (Bool → List Place) infinite_node

abbrev pub all_infinite : List Expr → List Place
all_infinite es = flat_map (λ e. infinite_in e false) es

-- no part of a job stands in a form position
abbrev pub infinite_places : Job → List Place
infinite_places job = all_infinite (parts_of job)

-- it is one of them, and none comes before it
pub record IsLeastInfinite (job : Job) (p : Place) : Type 0 where
  pub there : Contains (infinite_places job) p
  pub least : (q : Place) → Contains (infinite_places job) q → comes_before q p ≡ false

-- the least of them, if there is one
abbrev pub IsLeastIfAny : Job → Option Place → Type 0
IsLeastIfAny job None = (p : Place) → Contains (infinite_places job) p → ⊥
IsLeastIfAny job (Some p) = IsLeastInfinite job p
