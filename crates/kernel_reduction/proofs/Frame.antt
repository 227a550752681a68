-- What a node keeps, by what its children keep: the frame of all rows.
use Rattle.std.proofs.Common.{◌≡◌, ℕ, false, List, [], ◌∷◌, map, length, refl, sym, ◌∙◌, ap}
use Rattle.tla_meaning.specs.declared.expr.Expr.{Expr, out-Expr, roll-out-Expr}
use Rattle.tla_meaning.specs.declared.op.Op.{Op}
use Rattle.tla_meaning.specs.declared.place.Place.{Place}
use Rattle.tla_meaning.specs.declared.job.State.{State}
use Rattle.tla_meaning.specs.declared.outcome.Outcome.{Outcome}
use Rattle.tla_meaning.specs.Forms.{Formed}
use Rattle.tla_meaning.specs.Numbers.{Width}
use Rattle.tla_meaning.specs.Scopes.{Denotation, Scope}
use Rattle.tla_meaning.specs.Meaning.{outcomes, forms, outer, plain, role, view}
use Rattle.tla_meaning.specs.Actions.{meaning, denotation_of, val}
use Rattle.tla_meaning.proofs.MeaningLemmas.{denotation-roll}
use Rattle.snowcat_rows.specs.declared.types.Ty.{Ty}
use Rattle.kernel_trees.specs.declared.kernel.Ker.{Ker}
use Rattle.kernel_trees.specs.declared.kernel.KerOp.{KerOp}
use Rattle.kernel_trees.specs.Trees.{ker_val, ker_form}
use Rattle.kernel_trees.proofs.Operators.{is_form, form_plain}
use Rattle.kernel_reduction.specs.Reduction.{Numbering, Matched, Keeps}
use Rattle.kernel_reduction.specs.Rows.{tree}

-- what a node means, by its parts
abbrev pub node_means : Width → Place → Op → List Expr → List (List ℕ) → Scope → Denotation
node_means w p o es xs a =
    denotation_of w p o (length xs) (view p (role o (length xs)) xs (map (meaning w) es) a)

-- the same value and the same form as a node
pub record KeepsNode (w : Width) (ρ : Numbering) (p : Place) (o : Op) (es : List Expr) (xs : List (List ℕ))
    (k : Ker) : Type 0 where
  pub value : (a b : Scope) (s t : State) → Matched ρ a b s t → (node_means w p o es xs a).value s t ≡ ker_val w k b s t
  pub form : (a b : Scope) (s t : State) → Matched ρ a b s t → (node_means w p o es xs a).form s t ≡ ker_form w k b s t

-- several trees, in order
abbrev pub KeepsEach : Width → Numbering → List Expr → List Ker → Type 0
KeepsEach w ρ [] [] = Unit {0}
KeepsEach w ρ (e ∷ es) (k ∷ ks) = Keeps w ρ e k × KeepsEach w ρ es ks
KeepsEach w ρ es ks = ⊥

-- what a tree means is what its node does
pub opened : (w : Width) (e : Expr) (a : Scope) →
    meaning w e a ≡ node_means w (out-Expr e).place (out-Expr e).op (out-Expr e).args (out-Expr e).binds a
opened w e a = ap (λ x. meaning w x a) (sym (roll-out-Expr e)) ∙ denotation-roll w (out-Expr e) a

pub keeps_opened : (w : Width) (ρ : Numbering) (e : Expr) (k : Ker) →
    KeepsNode w ρ (out-Expr e).place (out-Expr e).op (out-Expr e).args (out-Expr e).binds k → Keeps w ρ e k
keeps_opened w ρ e k h = record {
  value = λ a b s t r. ap (λ (d : Denotation). d.value s t) (opened w e a) ∙ h.value a b s t r;
  form = λ a b s t r. ap (λ (d : Denotation). d.form s t) (opened w e a) ∙ h.form a b s t r;
}

-- ---- the children in the node's scope

module _ (w : Width) (ρ : Numbering) (s t : State) where
  abbrev pub job_vals : List Expr → Scope → List Outcome
  job_vals es a = map (λ e. val w e a s t) es

  abbrev pub ker_vals : List Ker → Scope → List Outcome
  ker_vals ks b = map (λ k. ker_val w k b s t) ks

  abbrev pub job_forms : List Expr → Scope → List Formed
  job_forms es a = map (λ e. (meaning w e a).form s t) es

  abbrev pub ker_forms : List Ker → Scope → List Formed
  ker_forms ks b = map (λ k. ker_form w k b s t) ks

  pub vals_kept : (es : List Expr) (ks : List Ker) (a b : Scope) → KeepsEach w ρ es ks → Matched ρ a b s t →
      job_vals es a ≡ ker_vals ks b
  vals_kept [] [] a b h r = refl
  vals_kept [] (k ∷ ks) a b h r = absurd h
  vals_kept (e ∷ es) [] a b h r = absurd h
  vals_kept (e ∷ es) (k ∷ ks) a b h r = λ i. h.0.value a b s t r i ∷ vals_kept es ks a b h.1 r i

  pub forms_kept : (es : List Expr) (ks : List Ker) (a b : Scope) → KeepsEach w ρ es ks → Matched ρ a b s t →
      job_forms es a ≡ ker_forms ks b
  forms_kept [] [] a b h r = refl
  forms_kept [] (k ∷ ks) a b h r = absurd h
  forms_kept (e ∷ es) [] a b h r = absurd h
  forms_kept (e ∷ es) (k ∷ ks) a b h r = λ i. h.0.form a b s t r i ∷ forms_kept es ks a b h.1 r i

  outcomes_job : (p : Place) (es : List Expr) (a : Scope) →
      outcomes (outer p [] (map (meaning w) es) a) s t ≡ job_vals es a
  outcomes_job p [] a = refl
  outcomes_job p (e ∷ es) a = ap (λ (os : List Outcome). val w e a s t ∷ os) (outcomes_job p es a)

  forms_job : (p : Place) (es : List Expr) (a : Scope) → forms (outer p [] (map (meaning w) es) a) s t ≡ job_forms es a
  forms_job p [] a = refl
  forms_job p (e ∷ es) a = ap (λ (fs : List Formed). (meaning w e a).form s t ∷ fs) (forms_job p es a)

  -- the operands' outcomes and forms are those of the kernel's children
  pub operands_kept : (p : Place) (es : List Expr) (ks : List Ker) (a b : Scope) → KeepsEach w ρ es ks →
      Matched ρ a b s t →
      outcomes (outer p [] (map (meaning w) es) a) s t ≡ ker_vals ks b
  operands_kept p es ks a b h r = outcomes_job p es a ∙ vals_kept es ks a b h r

  pub operand_forms_kept : (p : Place) (es : List Expr) (ks : List Ker) (a b : Scope) → KeepsEach w ρ es ks →
      Matched ρ a b s t →
      forms (outer p [] (map (meaning w) es) a) s t ≡ ker_forms ks b
  operand_forms_kept p es ks a b h r = forms_job p es a ∙ forms_kept es ks a b h r

-- ---- a row that is no set form: its values are enough

pub plain_row : (w : Width) (ρ : Numbering) (p q : Place) (o : Op) (es : List Expr) (xs : List (List ℕ)) (c : Ty)
    (ko : KerOp) (ks : List Ker) (ns : List ℕ) →
    ((a : Scope) (s t : State) → (node_means w p o es xs a).form s t ≡ plain ((node_means w p o es xs a).value s t)) →
    ((s t : State) → is_form w s t ko ≡ false) →
    ((a b : Scope) (s t : State) → Matched ρ a b s t →
    (node_means w p o es xs a).value s t ≡ ker_val w (tree q c ko ks ns) b s t) →
    KeepsNode w ρ p o es xs (tree q c ko ks ns)
plain_row w ρ p q o es xs c ko ks ns f g h = record {
  value = h;
  form = λ a b s t r. f a s t ∙ ap plain (h a b s t r) ∙ sym (form_plain w s t q c ko ks ns b (g s t));
}
