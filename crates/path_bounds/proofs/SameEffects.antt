-- A path with bounds holds, meets faults and has sets as the path does.
use Rattle.std.proofs.Common.{◌≡◌, ◌⊎◌, inl, inr, ◌↔◌, ℕ, List, [], ◌∷◌, map, refl, sym, ◌∙◌, ap, ap₂, subst}
use Rattle.tla_values.specs.declared.value.Value.{Value}
use Rattle.tla_meaning.specs.declared.job.State.{State}
use Rattle.tla_meaning.specs.declared.outcome.Fault.{Fault}
use Rattle.tla_meaning.specs.declared.outcome.Outcome.{Outcome}
use Rattle.tla_meaning.specs.Forms.{Formed, form_fault}
use Rattle.tla_meaning.specs.Numbers.{Width}
use Rattle.tla_meaning.specs.Outcomes.{fault_of, joined}
use Rattle.tla_meaning.specs.Scopes.{Scope, bind}
use Rattle.kernel_trees.specs.declared.kernel.Ker.{Ker}
use Rattle.kernel_trees.specs.declared.path.AssignedStep.{AssignedStep}
use Rattle.kernel_trees.specs.declared.path.AssignedStep.TheVariants as mark
use Rattle.kernel_trees.specs.Assignments.{AssignedHolds, AssignedMeets, HasMember, HasSets, IsSetForm}
use Rattle.kernel_trees.specs.Paths.{numbers}
use Rattle.kernel_trees.specs.Picks.{Picked, picking, set_outcomes}
use Rattle.kernel_trees.specs.Trees.{ker_form, ker_val, names_of}
use Rattle.kernel_shapes.specs.Levels.{Assigns}
use Rattle.kernel_shapes.specs.Sized.{Extent}
use Rattle.tree_bounds.specs.Bounded.{with_bounds}
use Rattle.tree_bounds.proofs.SameExpressions.{same_forms, same_outcomes}
use Rattle.path_bounds.specs.BoundedPaths.{bounded_steps, past}

-- ---- picks

abbrev pub bounded_sets : ℕ → Extent → List (ℕ × Ker) → List (ℕ × Ker)
bounded_sets w g ps = map (λ p. (p.0, with_bounds w p.1 (g ∷ []))) ps

pub numbers_same : (w : ℕ) (g : Extent) (ps : List (ℕ × Ker)) → numbers (bounded_sets w g ps) ≡ numbers ps
numbers_same w g [] = refl
numbers_same w g (p ∷ ps) = ap (λ (ns : List ℕ). p.0 ∷ ns) (numbers_same w g ps)

pub outcomes_same : (w : ℕ) (g : Extent) (v : Width) (s t : State) (ps : List (ℕ × Ker)) (sc : Scope) →
    set_outcomes v s t (bounded_sets w g ps) sc ≡ set_outcomes v s t ps sc
outcomes_same w g v s t [] sc = refl
outcomes_same w g v s t (p ∷ ps) sc =
    ap₂ (λ (o : Outcome) (os : List Outcome). o ∷ os) (same_outcomes w p.1 (g ∷ []) v sc s t) (outcomes_same w g v s t ps sc)

pub picking_same : (w : ℕ) (g : Extent) (ps : List (ℕ × Ker)) (vs : List Value) (sc : Scope) → picking (bounded_sets w g ps) vs sc ≡ picking ps vs sc
picking_same w g ps vs sc = ap (λ (ns : List ℕ). bind (names_of ns) vs sc) (numbers_same w g ps)

either : {A B C D : Type 0} → A ⊎ B → (A → C) → (B → D) → C ⊎ D
either (inl a) f g = inl (f a)
either (inr b) f g = inr (g b)

module _ (w : ℕ) (a : Assigns) (v : Width) (s t : State) where
  val_is : (k : Ker) (g : Extent) (sc : Scope) → ker_val v (with_bounds w k (g ∷ [])) sc s t ≡ ker_val v k sc s t
  val_is k g sc = same_outcomes w k (g ∷ []) v sc s t

  form_is : (k : Ker) (g : Extent) (sc : Scope) → ker_form v (with_bounds w k (g ∷ [])) sc s t ≡ ker_form v k sc s t
  form_is k g sc = same_forms w k (g ∷ []) v sc s t

  picked_is : (ps : List (ℕ × Ker)) (g : Extent) (sc : Scope) (vs : List Value) →
      Picked (set_outcomes v s t (bounded_sets w g ps) sc) vs ↔ Picked (set_outcomes v s t ps sc) vs
  picked_is ps g sc vs =
      let e = outcomes_same w g v s t ps sc in
      (λ h. subst (λ (os : List Outcome). Picked os vs) e h, λ h. subst (λ (os : List Outcome). Picked os vs) (sym e) h)

  pub same_holds : (zs : List AssignedStep) (g : Extent) (vss : List (List Value)) (sc : Scope) →
      AssignedHolds v s t (bounded_steps w a zs g) vss sc ↔ AssignedHolds v s t zs vss sc
  same_holds [] g vss sc = (λ h. h, λ h. h)
  same_holds (mark.Guard k b ∷ zs) g vss sc =
      let n = same_holds zs g vss sc in
      (λ h. (sym (val_is k g sc) ∙ h.0, n.0 h.1), λ h. (val_is k g sc ∙ h.0, n.1 h.1))
  same_holds (mark.Pick ps ∷ zs) g [] sc = (λ h. h, λ h. h)
  same_holds (mark.Pick ps ∷ zs) g (vs ∷ vss) sc =
      let g' : Extent = past w a (mark.Pick ps) g in
      let n = same_holds zs g' vss (picking ps vs sc) in
      let p = picked_is ps g sc vs in
      let e = picking_same w g ps vs sc in
      let Rest : Scope → Type 0 = λ c. AssignedHolds v s t (bounded_steps w a zs g') vss c in
      (λ h. (p.0 h.0, n.0 (subst Rest e h.1)), λ h. (p.1 h.0, subst Rest (sym e) (n.1 h.1)))
  same_holds (mark.Equals i k ∷ zs) g vss sc =
      let n = same_holds zs (past w a (mark.Equals i k) g) vss sc in (
        λ h. ((h.0.0, (sym (val_is k g sc) ∙ h.0.1.0, h.0.1.1)), n.0 h.1),
        λ h. ((h.0.0, (val_is k g sc ∙ h.0.1.0, h.0.1.1)), n.1 h.1),
      )
  same_holds (mark.Among i k ∷ zs) g vss sc =
      let n = same_holds zs (past w a (mark.Among i k) g) vss sc in (
        λ h. (subst (HasMember t i) (form_is k g sc) h.0, n.0 h.1),
        λ h. (subst (HasMember t i) (sym (form_is k g sc)) h.0, n.1 h.1),
      )

  abbrev Meets : List AssignedStep → Extent → List (List Value) → Scope → Fault → Type 0
  Meets zs g vss sc f = AssignedMeets v s t (bounded_steps w a zs g) vss sc f

  pub same_meets : (zs : List AssignedStep) (g : Extent) (vss : List (List Value)) (sc : Scope) (f : Fault) →
      Meets zs g vss sc f ↔ AssignedMeets v s t zs vss sc f
  same_meets [] g vss sc f = (λ h. h, λ h. h)
  same_meets (mark.Guard k b ∷ zs) g vss sc f =
      let n = same_meets zs g vss sc f in
      let e = val_is k g sc in
      let Faulty : Outcome → Type 0 = λ o. fault_of o ≡ f in (
        λ h. either h (subst Faulty e) (λ q. (sym e ∙ q.0, n.0 q.1)),
        λ h. either h (subst Faulty (sym e)) (λ q. (e ∙ q.0, n.1 q.1)),
      )
  same_meets (mark.Pick ps ∷ zs) g [] sc f =
      let e = outcomes_same w g v s t ps sc in
      let Faulty : List Outcome → Type 0 = λ os. joined os ≡ f in (
        λ h. either h (subst Faulty e) (λ q. q),
        λ h. either h (subst Faulty (sym e)) (λ q. q),
      )
  same_meets (mark.Pick ps ∷ zs) g (vs ∷ vss) sc f =
      let g' : Extent = past w a (mark.Pick ps) g in
      let n = same_meets zs g' vss (picking ps vs sc) f in
      let p = picked_is ps g sc vs in
      let o = outcomes_same w g v s t ps sc in
      let e = picking_same w g ps vs sc in
      let Faulty : List Outcome → Type 0 = λ os. joined os ≡ f in
      let Rest : Scope → Type 0 = λ c. Meets zs g' vss c f in (
        λ h. either h (subst Faulty o) (λ q. (p.0 q.0, n.0 (subst Rest e q.1))),
        λ h. either h (subst Faulty (sym o)) (λ q. (p.1 q.0, subst Rest (sym e) (n.1 q.1))),
      )
  same_meets (mark.Equals i k ∷ zs) g vss sc f =
      let n = same_meets zs (past w a (mark.Equals i k) g) vss sc f in
      let e = val_is k g sc in
      let Faulty : Outcome → Type 0 = λ o. fault_of o ≡ f in (
        λ h. either h (subst Faulty e) (λ q. ((q.0.0, (sym e ∙ q.0.1.0, q.0.1.1)), n.0 q.1)),
        λ h. either h (subst Faulty (sym e)) (λ q. ((q.0.0, (e ∙ q.0.1.0, q.0.1.1)), n.1 q.1)),
      )
  same_meets (mark.Among i k ∷ zs) g vss sc f =
      let n = same_meets zs (past w a (mark.Among i k) g) vss sc f in
      let e = form_is k g sc in
      let Faulty : Formed → Type 0 = λ o. form_fault o ≡ f in (
        λ h. either h (subst Faulty e) (λ q. (subst (HasMember t i) e q.0, n.0 q.1)),
        λ h. either h (subst Faulty (sym e)) (λ q. (subst (HasMember t i) (sym e) q.0, n.1 q.1)),
      )

  pub same_sets : (zs : List AssignedStep) (g : Extent) (sc : Scope) → HasSets v s t (bounded_steps w a zs g) sc ↔ HasSets v s t zs sc
  same_sets [] g sc = (λ h. h, λ h. h)
  same_sets (mark.Guard k b ∷ zs) g sc =
      let n = same_sets zs g sc in
      let e = val_is k g sc in
      (λ h q. n.0 (h (e ∙ q)), λ h q. n.1 (h (sym e ∙ q)))
  same_sets (mark.Pick ps ∷ zs) g sc =
      let g' : Extent = past w a (mark.Pick ps) g in
      let Rest : Scope → Type 0 = λ c. HasSets v s t (bounded_steps w a zs g') c in (
        λ h vs q. (same_sets zs g' (picking ps vs sc)).0 (subst Rest (picking_same w g ps vs sc) (h vs ((picked_is ps g sc vs).1 q))),
        λ h vs q. subst Rest (sym (picking_same w g ps vs sc)) ((same_sets zs g' (picking ps vs sc)).1 (h vs ((picked_is ps g sc vs).0 q))),
      )
  same_sets (mark.Equals i k ∷ zs) g sc =
      let n = same_sets zs (past w a (mark.Equals i k) g) sc in
      let e = val_is k g sc in (
        λ h q. n.0 (h (q.0, (e ∙ q.1.0, q.1.1))),
        λ h q. n.1 (h (q.0, (sym e ∙ q.1.0, q.1.1))),
      )
  same_sets (mark.Among i k ∷ zs) g sc =
      let n = same_sets zs (past w a (mark.Among i k) g) sc in
      let e = form_is k g sc in (
        λ h. (subst IsSetForm e h.0, λ q. n.0 (h.1 (subst (HasMember t i) (sym e) q))),
        λ h. (subst IsSetForm (sym e) h.0, λ q. n.1 (h.1 (subst (HasMember t i) e q))),
      )
