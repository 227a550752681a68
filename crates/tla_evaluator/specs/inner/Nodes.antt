-- What a node gives, by the outcomes of its children.
use Rattle.std.specs.Prelude.{ℕ, suc, Some, if◌then◌else◌, Bool, true, false, List, [], ◌∷◌, ◌++◌, drop, length, map, not, take}
use Rattle.tla_values.specs.declared.value.Value.{Value}
use Rattle.tla_values.specs.declared.value.Value.TheVariants as value
use Rattle.tla_meaning.specs.declared.expr.Expr.{Expr, out-Expr}
use Rattle.tla_meaning.specs.declared.job.State.{State}
use Rattle.tla_meaning.specs.declared.op.Op.{Op}
use Rattle.tla_meaning.specs.declared.op.Op.TheVariants as op
use Rattle.tla_meaning.specs.declared.outcome.Outcome.{Outcome}
use Rattle.tla_meaning.specs.declared.outcome.Outcome.TheVariants.{Val, Wrong}
use Rattle.tla_meaning.specs.declared.place.Place.{Place}
use Rattle.tla_meaning.specs.declared.forms.SetForm.{SetForm}
use Rattle.tla_meaning.specs.declared.forms.SetForm.TheVariants as form
use Rattle.tla_meaning.specs.Forms.{Formed, Made, belongs, is_set_form}
use Rattle.tla_meaning.specs.Meaning.{Update, all_in, bound_table, conjoined, disjoined, first_updated, fold_over, form_of_all, form_of_one, function_form, implied, in_form, plain, read}
use Rattle.tla_meaning.specs.Operators.{on_all_sets, table, yes_no}
use Rattle.tla_meaning.specs.Outcomes.{strict, values}
use Rattle.tla_meaning.specs.Scopes.{bound_to, find_last, value_found}
use Rattle.tla_meaning.specs.Shapes.{choices}
use Rattle.tla_meaning.specs.Numbers.{number}
use Rattle.tla_evaluator.specs.Trees.{first_at, outcomes_at}
use Rattle.tla_evaluator.specs.inner.Branches.{branch_form, branch_in, branch_value, first_tree}
use Rattle.tla_evaluator.specs.inner.Readings.{Reading, forms_in, outcomes_in, value_in}

-- from the left, up to the first operand that has this truth value
abbrev pub junction : Bool → Place → List Outcome → Outcome
junction true p os = disjoined p os
junction false p os = conjoined p os

-- the body at each choice of values for the names
abbrev pub bodies_at : ℕ → Place → List (List ℕ) → List Expr → List (List ℕ × Value) → State → State → List (List Value) → List Outcome
bodies_at w p xs es vars s t cs = map (λ c. first_at w p es (vars ++ bound_to xs c) s t) cs

-- a binder: the domains join first, and then the body over all members
abbrev pub bound_at : ℕ → Place → Op → List (List ℕ) → List Expr → List (List ℕ × Value) → State → State → Outcome
bound_at w p o xs es vars s t =
    strict
    (outcomes_at w (take (length xs) es) vars s t)
    (on_all_sets p (λ xss. strict (bodies_at w p xs (drop (length xs) es) vars s t (choices xss)) (bound_table p o (choices xss))))

-- EXCEPT: the trees of the indexes, and of each update the values of its indexes with their number
abbrev pub index_trees : List ℕ → List Expr → List Expr
index_trees [] es = []
index_trees (n ∷ ns) es = take n es ++ index_trees ns (drop (suc n) es)

abbrev pub paths_at : ℕ → List ℕ → List Expr → List (List ℕ × Value) → State → State → List (ℕ × List Value)
paths_at w [] es vars s t = []
paths_at w (n ∷ ns) es vars s t = (n, values (outcomes_at w (take n es) vars s t)) ∷ paths_at w ns (drop (suc n) es) vars s t

-- an update by a path: the right side stands behind the indexes, and reads the old value
abbrev pub update_at : ℕ → Place → List (List ℕ) → List Value → List Expr → List (List ℕ × Value) → State → State → Update
update_at w p xs path es vars s t = (path, λ old. first_at w p es (vars ++ bound_to xs (old ∷ [])) s t)

abbrev pub updates_at : ℕ → Place → List (List ℕ) → List (ℕ × List Value) → List Expr → List (List ℕ × Value) → State → State → List Update
updates_at w p xs [] es vars s t = []
updates_at w p xs (u ∷ us) es vars s t =
    update_at w p xs u.1 (drop u.0 es) vars s t ∷ updates_at w p xs us (drop (suc u.0) es) vars s t

abbrev pub except_at : ℕ → Place → List ℕ → List (List ℕ) → List Expr → List (List ℕ × Value) → State → State → Outcome
except_at w p ns xs [] vars s t = Wrong p
except_at w p ns xs (e ∷ es) vars s t =
    strict (outcomes_at w (e ∷ index_trees ns es) vars s t)
    (first_updated p (updates_at w p xs (paths_at w ns es vars s t) es vars s t))

-- a fold: the body of the value so far and each item
abbrev pub fold_at : ℕ → Place → List (List ℕ) → List Expr → List (List ℕ × Value) → State → State → Outcome
fold_at w p xs es vars s t =
    strict (outcomes_at w (drop 1 es) vars s t)
    (fold_over p (λ a b. first_at w p es (vars ++ bound_to xs (a ∷ b ∷ [])) s t))

-- what a membership asks of a value and a form
abbrev pub membership_test : Op → Place → Value → SetForm → Outcome
membership_test op.In p v f = yes_no (belongs f v)
membership_test op.NotIn p v f = yes_no (not (belongs f v))
membership_test op.SubsetEq p v f = all_in p v f
membership_test o p v f = Wrong p

-- where the form is a set form
abbrev pub tested : Op → Place → Value → SetForm → Outcome
tested o p v f = if is_set_form f then membership_test o p v f else Wrong p

-- the same, by what an evaluation reads
abbrev pub bound_in : Reading → Place → Op → List (List ℕ) → List Expr → Outcome
bound_in r p o xs es = bound_at r.width p o xs es r.bound r.state r.next

abbrev pub except_in : Reading → Place → List ℕ → List (List ℕ) → List Expr → Outcome
except_in r p ns xs es = except_at r.width p ns xs es r.bound r.state r.next

abbrev pub fold_in : Reading → Place → List (List ℕ) → List Expr → Outcome
fold_in r p xs es = fold_at r.width p xs es r.bound r.state r.next

abbrev pub update_in : Reading → Place → List (List ℕ) → List Value → List Expr → Update
update_in r p xs path es = update_at r.width p xs path es r.bound r.state r.next

abbrev pub updates_in : Reading → Place → List (List ℕ) → List (ℕ × List Value) → List Expr → List Update
updates_in r p xs paths es = updates_at r.width p xs paths es r.bound r.state r.next

abbrev pub bodies_in : Reading → Place → List (List ℕ) → List Expr → List (List Value) → List Outcome
bodies_in r p xs es cs = bodies_at r.width p xs es r.bound r.state r.next cs

abbrev pub paths_in : Reading → List ℕ → List Expr → List (ℕ × List Value)
paths_in r ns es = paths_at r.width ns es r.bound r.state r.next

-- what a node gives in a position of values, by its operator
abbrev pub node_in : Reading → Place → Op → List (List ℕ) → List Expr → Outcome
node_in r p (op.Bool b) xs es = yes_no b
node_in r p (op.Int n) xs es = number (Some r.width) p n
node_in r p (op.Str a) xs es = Val (value.Text a)
node_in r p (op.Name i primed) xs es = read p i (if primed then r.next else r.state)
node_in r p (op.Bound x) xs es = value_found p (find_last x r.bound)
node_in r p op.And xs es = junction false p (outcomes_in r es)
node_in r p op.Or xs es = junction true p (outcomes_in r es)
node_in r p op.Implies xs es = implied p (outcomes_in r es)
node_in r p op.If xs es = branch_value r (branch_in r p op.If es)
node_in r p (op.Case other) xs es = branch_value r (branch_in r p (op.Case other) es)
node_in r p op.In xs es = in_form p (membership_test op.In p) (outcomes_in r es) (forms_in r es)
node_in r p op.NotIn xs es = in_form p (membership_test op.NotIn p) (outcomes_in r es) (forms_in r es)
node_in r p op.SubsetEq xs es = in_form p (membership_test op.SubsetEq p) (outcomes_in r es) (forms_in r es)
node_in r p op.Exists xs es = bound_in r p op.Exists xs es
node_in r p op.Forall xs es = bound_in r p op.Forall xs es
node_in r p op.Filter xs es = bound_in r p op.Filter xs es
node_in r p op.MapTo xs es = bound_in r p op.MapTo xs es
node_in r p op.Lambda xs es = bound_in r p op.Lambda xs es
node_in r p (op.Except ns) xs es = except_in r p ns xs es
node_in r p op.Fold xs es = fold_in r p xs es
node_in r p (op.Noted x) xs es = branch_value r (first_tree p es)
node_in r p (op.Use x) xs es = Wrong p
node_in r p (op.Param x) xs es = Wrong p
node_in r p (op.Let ds) xs es = Wrong p
node_in r p op.Prime xs es = Wrong p
node_in r p op.Unchanged xs es = Wrong p
node_in r p op.Boxed xs es = Wrong p
node_in r p op.Angled xs es = Wrong p
node_in r p o xs es = strict (outcomes_in r es) (table (Some r.width) p o)

-- `Seq(F)`, and else `SUBSET F`
abbrev pub one_form : Op → SetForm → SetForm
one_form op.SeqSet f = form.Sequences f
one_form o f = form.Subsets f

-- the records of these forms, and else the tuples
abbrev pub form_of_several : Op → List SetForm → SetForm
form_of_several (op.RecSet names) fs = form.Records names fs
form_of_several o fs = form.Tuples fs

-- the form of a node, by its operator; where that describes no set, the set that its value is
abbrev pub form_node : Reading → Expr → Op → Formed
form_node r e op.IntSet = Made form.AllInts
form_node r e op.NatSet = Made form.AllNats
form_node r e op.StringSet = Made form.AllTexts
form_node r e op.SeqSet = form_of_one (out-Expr e).place (one_form op.SeqSet) (forms_in r (out-Expr e).args)
form_node r e op.Powerset = form_of_one (out-Expr e).place (one_form op.Powerset) (forms_in r (out-Expr e).args)
form_node r e op.FunSet = function_form (out-Expr e).place (outcomes_in r (out-Expr e).args) (forms_in r (out-Expr e).args)
form_node r e (op.RecSet names) = form_of_all (out-Expr e).place (form_of_several (op.RecSet names)) (forms_in r (out-Expr e).args)
form_node r e op.Product = form_of_all (out-Expr e).place (form_of_several op.Product) (forms_in r (out-Expr e).args)
form_node r e (op.Noted x) = branch_form r (first_tree (out-Expr e).place (out-Expr e).args)
form_node r e o = plain (value_in r e)
