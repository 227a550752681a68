-- Rows in which the operator stays, by the kernel's name for it.
use Rattle.std.proofs.Common.{◌≡◌, ℕ, true, List, [], map, refl, sym, ◌∙◌, ap, ap₂}
use Rattle.tla_meaning.specs.declared.expr.Expr.{Expr}
use Rattle.tla_meaning.specs.declared.forms.SetForm.TheVariants as form
use Rattle.tla_meaning.specs.declared.place.Place.{Place}
use Rattle.tla_meaning.specs.declared.job.State.{State}
use Rattle.tla_meaning.specs.declared.outcome.Outcome.{Outcome}
use Rattle.tla_meaning.specs.Forms.{belongs}
use Rattle.tla_meaning.specs.Outcomes.{strict}
use Rattle.tla_meaning.specs.Numbers.{Width}
use Rattle.tla_meaning.specs.Operators.{table, yes_no}
use Rattle.tla_meaning.specs.Scopes.{Scope}
use Rattle.tla_meaning.specs.Meaning.{outcomes, forms, outer, plain, conjoined, disjoined, if_chosen, in_form, all_in, form_of_one, form_of_all, function_form}
use Rattle.tla_meaning.specs.Actions.{meaning}
use Rattle.tla_meaning.proofs.Views.{false≢true}
use Rattle.snowcat_rows.specs.declared.types.Ty.{Ty}
use Rattle.kernel_trees.specs.declared.kernel.Ker.{Ker}
use Rattle.kernel_trees.specs.declared.kernel.KerOp.{KerOp}
use Rattle.kernel_trees.specs.declared.kernel.KerOp.TheVariants as ker
use Rattle.kernel_trees.specs.Trees.{op_of}
use Rattle.kernel_trees.proofs.Nodes.{all_meanings, sense_at, outcomes_here}
use Rattle.kernel_trees.proofs.Operators.{by_node, form_by_node, forms_here}
use Rattle.kernel_reduction.specs.Reduction.{Numbering, Matched}
use Rattle.kernel_reduction.specs.Rows.{node}
use Rattle.kernel_reduction.specs.Builds.{is_same}
use Rattle.kernel_reduction.proofs.Frame.{node_means, KeepsNode, KeepsEach, operands_kept, operand_forms_kept}

module _ (w : Width) (ρ : Numbering) (p : Place) (es : List Expr) (xs : List (List ℕ)) (ks : List Ker)
    (h : KeepsEach w ρ es ks) where
  -- the operands of both, in scopes that are tied
  module _ (a b : Scope) (s t : State) (r : Matched ρ a b s t) where
    operands : outcomes (outer p [] (map (meaning w) es) a) s t ≡ outcomes (outer p [] (all_meanings w ks) b) s t
    operands = operands_kept w ρ s t p es ks a b h r ∙ sym (outcomes_here w p ks b s t)

    operand_forms : forms (outer p [] (map (meaning w) es) a) s t ≡ forms (outer p [] (all_meanings w ks) b) s t
    operand_forms = operand_forms_kept w ρ s t p es ks a b h r ∙ sym (forms_here w s t p ks b)

    same_value_of : (o : KerOp) → is_same o ≡ true →
        (node_means w p (op_of o) es xs a).value s t ≡ (sense_at w p o 0 [] ks b).value s t
    same_value_of (ker.Const v) g = absurd (false≢true g)
    same_value_of (ker.Name i primed) g = absurd (false≢true g)
    same_value_of (ker.Bound n) g = absurd (false≢true g)
    same_value_of ker.Filter g = absurd (false≢true g)
    same_value_of ker.MapOver g = absurd (false≢true g)
    same_value_of ker.Range g = absurd (false≢true g)
    same_value_of ker.FunOf g = absurd (false≢true g)
    same_value_of ker.Update g = absurd (false≢true g)
    same_value_of (ker.Item i) g = absurd (false≢true g)
    same_value_of ker.FoldLeft g = absurd (false≢true g)
    same_value_of ker.Some g = absurd (false≢true g)
    same_value_of ker.Every g = absurd (false≢true g)
    same_value_of ker.NoCase g = absurd (false≢true g)
    same_value_of ker.And g = ap (conjoined p) operands
    same_value_of ker.Or g = ap (disjoined p) operands
    same_value_of ker.If g = ap (if_chosen p) operands
    same_value_of ker.Member g = ap₂ (in_form p (λ v f. yes_no (belongs f v))) operands operand_forms
    same_value_of ker.Included g = ap₂ (in_form p (all_in p)) operands operand_forms
    same_value_of o g = ap (λ (os : List Outcome). strict os (table w p (op_of o))) operands

    same_form_of : (o : KerOp) → is_same o ≡ true →
        (node_means w p (op_of o) es xs a).form s t ≡ (sense_at w p o 0 [] ks b).form s t
    same_form_of (ker.Const v) g = absurd (false≢true g)
    same_form_of (ker.Name i primed) g = absurd (false≢true g)
    same_form_of (ker.Bound n) g = absurd (false≢true g)
    same_form_of ker.Filter g = absurd (false≢true g)
    same_form_of ker.MapOver g = absurd (false≢true g)
    same_form_of ker.Range g = absurd (false≢true g)
    same_form_of ker.FunOf g = absurd (false≢true g)
    same_form_of ker.Update g = absurd (false≢true g)
    same_form_of (ker.Item i) g = absurd (false≢true g)
    same_form_of ker.FoldLeft g = absurd (false≢true g)
    same_form_of ker.Some g = absurd (false≢true g)
    same_form_of ker.Every g = absurd (false≢true g)
    same_form_of ker.NoCase g = absurd (false≢true g)
    same_form_of ker.IntForm g = refl
    same_form_of ker.NatForm g = refl
    same_form_of ker.TextForm g = refl
    same_form_of ker.SeqForm g = ap (form_of_one p form.Sequences) operand_forms
    same_form_of ker.Subsets g = ap (form_of_one p form.Subsets) operand_forms
    same_form_of ker.Functions g = ap₂ (function_form p) operands operand_forms
    same_form_of (ker.RecForm names) g = ap (form_of_all p (form.Records names)) operand_forms
    same_form_of ker.TupForm g = ap (form_of_all p form.Tuples) operand_forms
    same_form_of o g = ap plain (same_value_of o g)

  pub keeps_same : (c : Ty) (o : KerOp) → is_same o ≡ true → KeepsNode w ρ p (op_of o) es xs (node p c o ks)
  keeps_same c o g = record {
    value = λ a b s t r. same_value_of a b s t r o g ∙ sym (by_node w s t p c o ks [] b);
    form = λ a b s t r. same_form_of a b s t r o g ∙ sym (form_by_node w s t p c o ks [] b);
  }
