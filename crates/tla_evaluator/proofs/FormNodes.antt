-- The form that an evaluation finds at each node.
use Rattle.std.proofs.Common.{◌≡◌, ℕ, false, IsTrue, List, length, refl, ap, ap₂, ◌∙◌, sym, Some}
use Rattle.tla_evaluator.proofs.Words.{AllInts, AllNats, AllTexts, Denotation, Expr, Made, Op, Place, Records, Sequences, State, Subsets, Tuples, Value, denotation_of, form_of_all, form_of_one, function_form, out-Expr, plain, role, view}
use Rattle.tla_meaning.specs.declared.op.Op.TheVariants as op
use Rattle.tla_evaluator.specs.inner.Nodes.{form_node}
use Rattle.tla_evaluator.specs.inner.Readings.{Reading, form_in}
use Rattle.tla_evaluator.specs.Trees.{first_form_at, form_at, forms_at, outcomes_at, scope_at, is_expanded_op, value_at}
use Rattle.tla_evaluator.proofs.BranchLemmas.{first_form}
use Rattle.tla_evaluator.proofs.TreeLemmas.{sense_at, sense_gone}
use Rattle.tla_evaluator.proofs.NodeLemmas.{here_first_form, here_forms, here_outcomes, children}

module _ (w : ℕ) (e : Expr) (vars : List (List ℕ × Value)) (s t : State) where
  abbrev place : Place
  place = (out-Expr e).place

  abbrev trees : List Expr
  trees = (out-Expr e).args

  abbrev names : List (List ℕ)
  names = (out-Expr e).binds

  abbrev sense : Op → Denotation
  sense o = denotation_of (Some w) place o (length names) (view place (role o (length names)) names (children w place names vars s t trees) (scope_at vars))

  form_is : (o : Op) → (out-Expr e).op ≡ o → IsTrue (is_expanded_op o) → form_at w e vars s t ≡ (sense o).form s t
  form_is o is h = ap (λ (a : Denotation). a.form s t) (sense_at (Some w) e (scope_at vars) o is h)

  ints_is : (out-Expr e).op ≡ op.IntSet → Made AllInts ≡ form_at w e vars s t
  ints_is is = sym (form_is op.IntSet is refl)

  nats_is : (out-Expr e).op ≡ op.NatSet → Made AllNats ≡ form_at w e vars s t
  nats_is is = sym (form_is op.NatSet is refl)

  texts_is : (out-Expr e).op ≡ op.StringSet → Made AllTexts ≡ form_at w e vars s t
  texts_is is = sym (form_is op.StringSet is refl)

  sequences_is : (out-Expr e).op ≡ op.SeqSet → form_of_one place Sequences (forms_at w trees vars s t) ≡ form_at w e vars s t
  sequences_is is = sym (form_is op.SeqSet is refl ∙ ap (form_of_one place Sequences) (here_forms w place names vars s t trees))

  subsets_is : (out-Expr e).op ≡ op.Powerset → form_of_one place Subsets (forms_at w trees vars s t) ≡ form_at w e vars s t
  subsets_is is = sym (form_is op.Powerset is refl ∙ ap (form_of_one place Subsets) (here_forms w place names vars s t trees))

  functions_is : (out-Expr e).op ≡ op.FunSet → function_form place (outcomes_at w trees vars s t) (forms_at w trees vars s t) ≡ form_at w e vars s t
  functions_is is = sym (form_is op.FunSet is refl ∙ ap₂ (function_form place) (here_outcomes w place names vars s t trees) (here_forms w place names vars s t trees))

  records_is : (ns : List (List ℕ)) → (out-Expr e).op ≡ op.RecSet ns → form_of_all place (Records ns) (forms_at w trees vars s t) ≡ form_at w e vars s t
  records_is ns is = sym (form_is (op.RecSet ns) is refl ∙ ap (form_of_all place (Records ns)) (here_forms w place names vars s t trees))

  tuples_is : (out-Expr e).op ≡ op.Product → form_of_all place Tuples (forms_at w trees vars s t) ≡ form_at w e vars s t
  tuples_is is = sym (form_is op.Product is refl ∙ ap (form_of_all place Tuples) (here_forms w place names vars s t trees))

  noted_form_is : (x : List ℕ) → (out-Expr e).op ≡ op.Noted x → first_form_at w place trees vars s t ≡ form_at w e vars s t
  noted_form_is x is = sym (form_is (op.Noted x) is refl ∙ here_first_form w place names vars s t trees)

  -- a node that describes no set is the set that its value is
  plain_is : (o : Op) → (out-Expr e).op ≡ o → IsTrue (is_expanded_op o) → plain ((sense o).value s t) ≡ (sense o).form s t → plain (value_at w e vars s t) ≡ form_at w e vars s t
  plain_is o is h same = ap (λ (a : Denotation). plain (a.value s t)) (sense_at (Some w) e (scope_at vars) o is h) ∙ same ∙ sym (form_is o is h)

  gone_is : is_expanded_op (out-Expr e).op ≡ false → plain (value_at w e vars s t) ≡ form_at w e vars s t
  gone_is k =
      ap (λ (a : Denotation). plain (a.value s t)) (sense_gone (Some w) e (scope_at vars) k)
      ∙ sym (ap (λ (a : Denotation). a.form s t) (sense_gone (Some w) e (scope_at vars) k))

pub form_is_node : (r : Reading) (e : Expr) → form_node r e (out-Expr e).op ≡ form_in r e
form_is_node r e = by (out-Expr e).op refl
  where
    by : (o : Op) → (out-Expr e).op ≡ o → form_node r e o ≡ form_in r e
    by op.IntSet is = ints_is r.width e r.bound r.state r.next is
    by op.NatSet is = nats_is r.width e r.bound r.state r.next is
    by op.StringSet is = texts_is r.width e r.bound r.state r.next is
    by op.SeqSet is = sequences_is r.width e r.bound r.state r.next is
    by op.Powerset is = subsets_is r.width e r.bound r.state r.next is
    by op.FunSet is = functions_is r.width e r.bound r.state r.next is
    by (op.RecSet names) is = records_is r.width e r.bound r.state r.next names is
    by op.Product is = tuples_is r.width e r.bound r.state r.next is
    by (op.Noted x) is = first_form r (out-Expr e).place (out-Expr e).args ∙ noted_form_is r.width e r.bound r.state r.next x is
    by (op.Use x) is = gone_is r.width e r.bound r.state r.next (ap is_expanded_op is)
    by (op.Param x) is = gone_is r.width e r.bound r.state r.next (ap is_expanded_op is)
    by (op.Let ds) is = gone_is r.width e r.bound r.state r.next (ap is_expanded_op is)
    by op.Prime is = gone_is r.width e r.bound r.state r.next (ap is_expanded_op is)
    by op.Unchanged is = gone_is r.width e r.bound r.state r.next (ap is_expanded_op is)
    by op.Boxed is = gone_is r.width e r.bound r.state r.next (ap is_expanded_op is)
    by op.Angled is = gone_is r.width e r.bound r.state r.next (ap is_expanded_op is)
    by o is = plain_is r.width e r.bound r.state r.next o is refl refl
