-- Meanings of small trees, by computation.
use Rattle.std.proofs.Common.{◌≡◌, ◌∙◌, ap, ℕ, true, false, Bool, List, [], ◌∷◌, pos, Some, None, refl, sym, subst, arith}
use Rattle.std.proofs.lemmas.List.Elements.{All-nil}
use Rattle.tla_values.specs.Sets.{Normal}
use Rattle.tla_values.proofs.OrderLemmas.{value_cmp_out}
use Rattle.tla_values.specs.declared.value.Value.{Value}
use Rattle.tla_values.specs.declared.value.Value.TheVariants as value
use Rattle.tla_meaning.specs.declared.actions.Assignable.TheVariants.{Primed}
use Rattle.tla_meaning.specs.declared.expr.Decl.{Decl}
use Rattle.tla_meaning.specs.declared.expr.Def.{Def}
use Rattle.tla_meaning.specs.declared.expr.Expr.{Expr, out-roll-Expr, roll-Expr}
use Rattle.tla_meaning.specs.declared.job.Job.{Job}
use Rattle.tla_meaning.specs.declared.job.State.{State}
use Rattle.tla_meaning.specs.declared.forms.SetForm.TheVariants as form
use Rattle.tla_meaning.specs.declared.modules.Flat.{Flat}
use Rattle.tla_meaning.specs.declared.place.Place.{Place}
use Rattle.tla_meaning.specs.declared.op.Op.{Op}
use Rattle.tla_meaning.specs.declared.op.Op.TheVariants as op
use Rattle.tla_values.specs.declared.value.Value.TheOpen as layer
use Rattle.tla_meaning.specs.declared.outcome.Outcome.{Outcome}
use Rattle.tla_meaning.specs.declared.outcome.Outcome.TheVariants.{Val, Wrong, Big}
use Rattle.tla_meaning.specs.declared.questions.Query.TheVariants.{StepWrong}
use Rattle.tla_meaning.specs.Executions.{no_scope, start, IsState, IsWrongOutcome}
use Rattle.tla_meaning.specs.Jobs.{names_of}
use Rattle.tla_meaning.specs.Questions.{Holds, IsFirst}
use Rattle.tla_meaning.specs.Actions.{act, effect_of, effects_and, meaning, outcome_of, val}
use Rattle.tla_meaning.specs.Definitions.{defined_as}
use Rattle.tla_meaning.specs.Folds.{with_lambdas}
use Rattle.tla_meaning.specs.Forms.{belongs}
use Rattle.tla_meaning.specs.Meaning.{fold_over, folded}
use Rattle.tla_meaning.specs.Operators.{on_items, yes_no}
use Rattle.tla_meaning.specs.Scopes.{Scope, bind, define, pass}
use Rattle.tla_meaning.specs.Shapes.{items_of, sequence}
use Rattle.tla_meaning.proofs.MeaningLemmas.{belongs-out, denotation-roll, val-roll, with_lambdas-roll}

abbrev pub at : ℕ → Place
at n = record { file = 0; line = 1; col = n }

abbrev leaf : ℕ → Op → Expr
leaf n o = roll-Expr (record { place = at n; op = o; args = []; binds = [] })

abbrev tree : ℕ → Op → List Expr → Expr
tree n o es = roll-Expr (record { place = at n; op = o; args = es; binds = [] })

abbrev pub state_at : Value → State
state_at v = record { vals = v ∷ [] }

-- x = FALSE
abbrev x_is_false : Expr
x_is_false = tree 3 op.Eq (leaf 1 (op.Name 0 false) ∷ leaf 5 (op.Bool false) ∷ [])

holds_there : val None x_is_false no_scope (state_at (value.Bool false)) (state_at (value.Bool true)) ≡ Val (value.Bool true)
holds_there = simp (val-roll, denotation-roll, value_cmp_out, value.outs-Bool)

-- 1 \div 0 is Wrong at the operator
divided : val None (tree 3 op.Div (leaf 1 (op.Int (pos 1)) ∷ leaf 8 (op.Int (pos 0)) ∷ [])) no_scope (state_at (value.Bool false)) (state_at (value.Bool false)) ≡ Wrong (at 3)
divided = simp (val-roll, denotation-roll, value.outs-Int)

-- 127 + 1 is Big at width 8
too_big : val (Some 8) (tree 3 op.Add (leaf 1 (op.Int (pos 127)) ∷ leaf 8 (op.Int (pos 1)) ∷ [])) no_scope (state_at (value.Bool false)) (state_at (value.Bool false)) ≡ Big (at 3)
too_big = simp (val-roll, denotation-roll, value.outs-Int)

-- of an action, x' = FALSE \/ 1 = 1 \div 0
abbrev left : Expr
left = tree 3 op.Eq (leaf 1 (op.Name 0 true) ∷ leaf 5 (op.Bool false) ∷ [])

abbrev right : Expr
right = tree 12 op.Eq (leaf 11 (op.Int (pos 1)) ∷ tree 16 op.Div (leaf 14 (op.Int (pos 1)) ∷ leaf 18 (op.Int (pos 0)) ∷ []) ∷ [])

abbrev step : Expr
step = tree 9 op.Or (left ∷ right ∷ [])

left_holds : val None left no_scope (state_at (value.Bool true)) (state_at (value.Bool false)) ≡ Val (value.Bool true)
left_holds = simp (val-roll, denotation-roll, value_cmp_out, value.outs-Bool)

divides : val None (tree 16 op.Div (leaf 14 (op.Int (pos 1)) ∷ leaf 18 (op.Int (pos 0)) ∷ [])) no_scope (state_at (value.Bool true)) (state_at (value.Bool false)) ≡ Wrong (at 16)
divides = simp (val-roll, denotation-roll, value.outs-Int)

one : val None (leaf 11 (op.Int (pos 1))) no_scope (state_at (value.Bool true)) (state_at (value.Bool false)) ≡ Val (value.Int (pos 1))
one = simp (val-roll)

right_wrong : val None right no_scope (state_at (value.Bool true)) (state_at (value.Bool false)) ≡ Wrong (at 16)
right_wrong = simp (divides, one, val-roll)

stopped : val None step no_scope (state_at (value.Bool true)) (state_at (value.Bool false)) ≡ Val (value.Bool true)
stopped = simp (left_holds, value.outs-Bool, val-roll)

-- ---- a prime stands for its operand in the next state

-- (x \/ 1 \div 0)'
abbrev primed_choice : Expr
primed_choice = tree 20 op.Prime (tree 5 op.Or (leaf 3 (op.Name 0 false) ∷ tree 12 op.Div (leaf 10 (op.Int (pos 1)) ∷ leaf 14 (op.Int (pos 0)) ∷ []) ∷ []) ∷ [])

-- as an action it is strict in both operands
primed_action : act None Primed primed_choice no_scope (state_at (value.Bool true)) (state_at (value.Bool true)) ≡ Wrong (at 12)
primed_action = simp (denotation-roll, value.outs-Bool, value.outs-Int)

-- as a value it stops at the first operand that decides
primed_value : val None primed_choice no_scope (state_at (value.Bool true)) (state_at (value.Bool true)) ≡ Val (value.Bool true)
primed_value = simp (val-roll, denotation-roll, value.outs-Bool)

-- x' \in (Int)'
in_primed_form : val None (tree 3 op.In (leaf 1 (op.Name 0 true) ∷ tree 12 op.Prime (leaf 8 op.IntSet ∷ []) ∷ [])) no_scope
    (state_at (value.Bool true)) (state_at (value.Int (pos 7))) ≡ Val (value.Bool true)
in_primed_form = simp (val-roll, denotation-roll, belongs-out, form.outs-AllInts, value.outs-Int)

-- ---- an operator's name in a fold

abbrev defined : List ℕ → List (List ℕ) → Expr → Def
defined x xs e = record { name = x; place = at 1; params = xs; note = []; body = e }

-- Second(a, b) == b; Folded == ApaFoldSeqLeft(Second, 0, <<5>>)
abbrev second : Def
second = defined (83 ∷ []) ((97 ∷ []) ∷ (98 ∷ []) ∷ []) (leaf 18 (op.Param (98 ∷ [])))

abbrev folding : Def
folding = defined (70 ∷ []) [] (tree 8 op.Fold (leaf 9 (op.Use (83 ∷ [])) ∷ leaf 12 (op.Int (pos 0)) ∷ tree 15 op.Tuple (leaf 17 (op.Int (pos 5)) ∷ []) ∷ []))

abbrev folded_module : Flat
folded_module = record { files = []; decls = []; defs = second ∷ folding ∷ []; assumes = []; aliases = [] }

-- the body that stands for LAMBDA a, b: Second(a, b)
abbrev second_used : Expr
second_used = tree 9 (op.Use (83 ∷ [])) (leaf 9 (op.Bound (97 ∷ [])) ∷ leaf 9 (op.Bound (98 ∷ [])) ∷ [])

abbrev folding_written : Expr
folding_written = roll-Expr (record {
  place = at 8;
  op = op.Fold;
  args = second_used ∷ leaf 12 (op.Int (pos 0)) ∷ tree 15 op.Tuple (leaf 17 (op.Int (pos 5)) ∷ []) ∷ [];
  binds = (97 ∷ []) ∷ (98 ∷ []) ∷ [];
})

written : with_lambdas folding.body ≡ folding_written
written = simp (with_lambdas-roll, out-roll-Expr)

-- where Second is defined
abbrev with_second : Scope
with_second = define (83 ∷ []) (λ arguments. meaning None (with_lambdas second.body) (pass second.params arguments no_scope)) no_scope

second_value : (v u : Value) (s t : State) → val None second_used (bind ((97 ∷ []) ∷ (98 ∷ []) ∷ []) (v ∷ u ∷ []) with_second) s t ≡ Val u
second_value v u s t = simp (with_lambdas-roll, val-roll, denotation-roll)

five : (s t : State) → val None (tree 15 op.Tuple (leaf 17 (op.Int (pos 5)) ∷ [])) with_second s t ≡ Val (sequence (value.Int (pos 5) ∷ []))
five s t = simp (val-roll, denotation-roll)

one_item : (v x : Value) → on_items (at 8) (λ xs. folded (λ a b. Val b) xs v) (items_of ((value.Int (pos 1), x) ∷ [])) ≡ Val x
one_item v x = simp (value.outs-Int)

second_item : (v x : Value) → fold_over (at 8) (λ a b. Val b) (v ∷ sequence (x ∷ []) ∷ []) ≡ Val x
second_item v x =
    ap (λ l. elim l as (λ _. Outcome) [ layer.Fun ps ↦ on_items (at 8) (λ xs. folded (λ a b. Val b) xs v) (items_of ps) | _ ↦ Wrong (at 8) ])
    (value.outs-Fun ((value.Int (pos 1), x) ∷ [])) ∙ one_item v x

-- a fold over one item whose body gives its second name
module _ (body first items : Expr) (sc : Scope) (s t : State) (v x : Value) where
  second_of_one : ((a b : Value) → val None body (bind ((97 ∷ []) ∷ (98 ∷ []) ∷ []) (a ∷ b ∷ []) sc) s t ≡ Val b) →
      val None first sc s t ≡ Val v → val None items sc s t ≡ Val (sequence (x ∷ [])) →
      val None (roll-Expr (record { place = at 8; op = op.Fold; args = body ∷ first ∷ items ∷ []; binds = (97 ∷ []) ∷ (98 ∷ []) ∷ [] })) sc s t ≡ Val x
  second_of_one h f i = simp (val-roll, h, f, i) (second_item v x)

zero_value : (s t : State) → val None (leaf 12 (op.Int (pos 0))) with_second s t ≡ Val (value.Int (pos 0))
zero_value s t = simp (val-roll)

folded_five : (s t : State) → val None folding_written with_second s t ≡ Val (value.Int (pos 5))
folded_five s t =
    second_of_one second_used (leaf 12 (op.Int (pos 0))) (tree 15 op.Tuple (leaf 17 (op.Int (pos 5)) ∷ [])) with_second s t
    (value.Int (pos 0)) (value.Int (pos 5)) (λ a b. second_value a b s t) (zero_value s t) (five s t)

fold_by_name : (s t : State) → (defined_as None folded_module (at 1) (70 ∷ [])).value s t ≡ Val (value.Int (pos 5))
fold_by_name s t = ap (λ e. val None e with_second s t) written ∙ folded_five s t

-- ---- a form behind a definition, under a prime: q' \in T' where T == Seq(Int)

abbrev with_sequences : Scope
with_sequences = define (84 ∷ []) (λ arguments. meaning None (tree 6 op.SeqSet (leaf 10 op.IntSet ∷ [])) no_scope) no_scope

abbrev in_defined : Expr
in_defined = tree 3 op.In (leaf 1 (op.Name 0 true) ∷ tree 9 op.Prime (leaf 8 (op.Use (84 ∷ [])) ∷ []) ∷ [])

empty_belongs : belongs (form.Sequences form.AllInts) (sequence []) ≡ true
empty_belongs = simp (belongs-out, form.outs-Sequences, form.outs-AllInts, value.outs-Fun)

in_primed_definition : val None in_defined with_sequences (state_at (value.Bool true)) (state_at (sequence [])) ≡ Val (value.Bool true)
in_primed_definition = simp (val-roll, denotation-roll, form.outs-Sequences, form.outs-AllInts) (ap (λ b. Val (value.Bool b)) empty_belongs)

-- ---- names, assumptions and questions

abbrev declaration : ℕ → Bool → Decl
declaration x constant = record { name = x ∷ []; constant = constant; place = at x; note = [] }

-- VARIABLE x; CONSTANT N; VARIABLE y; CONSTANT M
abbrev declaring : Flat
declaring = record {
  files = [];
  decls = declaration 120 false ∷ declaration 78 true ∷ declaration 121 false ∷ declaration 77 true ∷ [];
  defs = [];
  assumes = [];
  aliases = [];
}

constants_first : names_of declaring ≡ declaration 78 true ∷ declaration 77 true ∷ declaration 120 false ∷ declaration 121 false ∷ []
constants_first = refl

-- a job whose one assumption is e
abbrev always : Expr
always = leaf 1 (op.Bool true)

abbrev assuming : Expr → Job
assuming e = record {
  files = [];
  names = [];
  aliases = [];
  cinit = always;
  assume = e;
  init = always;
  next = always;
  invs = [];
}

abbrev nothing : State
nothing = record { vals = [] }

module _ (e : Expr) (o : Outcome) where
  start_of : val None e no_scope nothing nothing ≡ o →
      start None (assuming e) nothing ≡ outcome_of (effects_and (effect_of (yes_no true) ∷ effect_of o ∷ effect_of (yes_no true) ∷ []))
  start_of h = simp (h, denotation-roll, value.outs-Bool)

-- FALSE /\ 1 \div 0 is one operand, which stops at FALSE
abbrev one_assumption : Expr
one_assumption = tree 5 op.And (leaf 3 (op.Bool false) ∷ tree 12 op.Div (leaf 10 (op.Int (pos 1)) ∷ leaf 14 (op.Int (pos 0)) ∷ []) ∷ [])

stops : val None one_assumption no_scope nothing nothing ≡ Val (value.Bool false)
stops = simp (val-roll, denotation-roll, value.outs-Bool)

assumption_stops : start None (assuming one_assumption) nothing ≡ Val (value.Bool false)
assumption_stops = start_of one_assumption (Val (value.Bool false)) stops ∙ simp (value.outs-Bool)

-- 1 \div 0 = 1 makes the start Wrong, and that is the first question
abbrev wrong_assumption : Expr
wrong_assumption = tree 7 op.Eq (tree 3 op.Div (leaf 1 (op.Int (pos 1)) ∷ leaf 5 (op.Int (pos 0)) ∷ []) ∷ leaf 9 (op.Int (pos 1)) ∷ [])

divides_by_zero : val None wrong_assumption no_scope nothing nothing ≡ Wrong (at 3)
divides_by_zero = simp (val-roll, denotation-roll, value.outs-Int)

wrong_start : start None (assuming wrong_assumption) nothing ≡ Wrong (at 3)
wrong_start = start_of wrong_assumption (Wrong (at 3)) divides_by_zero ∙ simp (value.outs-Bool)

empty_state : IsState (assuming wrong_assumption) nothing
empty_state = record { fills = refl; normal = All-nil Normal }

first_is_wrong : IsFirst None (assuming wrong_assumption) 0 StepWrong
first_is_wrong = record {
  holds = (nothing, empty_state, subst IsWrongOutcome (sym wrong_start) tt);
  before = All-nil (λ r. Holds r None (assuming wrong_assumption) 0 → ⊥);
  below = λ m less. omega arith;
}
