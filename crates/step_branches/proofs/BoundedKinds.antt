-- The kinds of a path's trees are those of the path with bounds, and it ends as that one does.
use Rattle.std.proofs.Common.{◌≡◌, ◌↔◌, ℕ, IsTrue, List, [], ◌∷◌, ◌++◌, map, refl, sym, ◌∙◌, ap, subst}
use Rattle.std.specs.Prelude.{flat_map}
use Rattle.tla_meaning.specs.declared.job.State.{State}
use Rattle.tla_meaning.specs.declared.outcome.Fault.TheVariants.{IsWrong, IsBig, NoFault}
use Rattle.tla_meaning.specs.declared.outcome.Outcome.{Outcome}
use Rattle.tla_meaning.specs.Executions.{no_scope}
use Rattle.tla_meaning.specs.Numbers.{Width}
use Rattle.tla_meaning.specs.Outcomes.{joined, values}
use Rattle.tla_meaning.specs.Scopes.{Scope}
use Rattle.tla_meaning.specs.Shapes.{all_set_items}
use Rattle.kernel_trees.specs.declared.path.Assigned.{Assigned}
use Rattle.kernel_trees.specs.declared.path.AssignedStep.{AssignedStep}
use Rattle.kernel_trees.specs.declared.path.AssignedStep.TheVariants as mark
use Rattle.kernel_trees.specs.Assignments.{HasMember, IsSetForm, IsTruth, ReadsNext, assigned_by, is_in, is_there}
use Rattle.kernel_trees.specs.Paths.{Marks}
use Rattle.kernel_trees.specs.Picks.{Picked, picking}
use Rattle.kernel_trees.proofs.Assigning.{Kinds}
use Rattle.kernel_shapes.specs.Levels.{Assigns}
use Rattle.kernel_shapes.specs.Sized.{Extent}
use Rattle.tree_bounds.proofs.SameExpressions.{same_forms, same_outcomes}
use Rattle.path_bounds.specs.BoundedPaths.{HasPathBounds, bounded_steps, past}
use Rattle.path_bounds.proofs.SameEffects.{outcomes_same, picking_same}
use Rattle.path_walks.specs.Steps.{PathHasKinds, assigns}
use Rattle.level_laws.specs.Branches.{Ending, Held, MetWrong, MetBig}
use Rattle.step_laws.specs.PathEnds.{PathEnds}

-- ---- kinds

module _ (n : ℕ) (how : Assigns) (w : Width) (m : Marks) (s t : State) (r : ReadsNext m s t) where
  pub kinds_of_bounded : (zs : List AssignedStep) (sc : Scope) (g : Extent) →
      PathHasKinds w s t (bounded_steps n how zs g) sc → Kinds w m s t r zs sc
  kinds_of_bounded [] sc g h = tt
  kinds_of_bounded (mark.Guard e b ∷ zs) sc g h =
      let v = same_outcomes n e (g ∷ []) w sc s t in
      (subst IsTruth v h.0, λ x. kinds_of_bounded zs sc (past n how (mark.Guard e b) g) (h.1 [] (v ∙ x)))
  kinds_of_bounded (mark.Pick ps ∷ zs) sc g h =
      let v = outcomes_same n g w s t ps sc in
      let g' : Extent = past n how (mark.Pick ps) g in (
        subst (λ (os : List Outcome). joined os ≡ NoFault → IsTrue (is_there (all_set_items (values os)))) v h.0,
        λ vs x.
            kinds_of_bounded zs (picking ps vs sc) g'
            (subst (PathHasKinds w s t (bounded_steps n how zs g')) (picking_same n g ps vs sc)
            (h.1 vs (subst (λ (os : List Outcome). Picked os vs) (sym v) x))),
      )
  kinds_of_bounded (mark.Equals i e ∷ zs) sc g h =
      let v = same_outcomes n e (g ∷ []) w sc s t in
      λ x. kinds_of_bounded zs sc (past n how (mark.Equals i e) g) (h.1 [] (x.0, (v ∙ x.1.0, x.1.1)))
  kinds_of_bounded (mark.Among i e ∷ zs) sc g h =
      let v = same_forms n e (g ∷ []) w sc s t in (
        subst IsSetForm v h.0,
        λ x. kinds_of_bounded zs sc (past n how (mark.Among i e) g) (h.1 [] (subst (HasMember t i) (sym v) x)),
      )

-- ---- the path with bounds in the place of the path

abbrev all_in : List (List ℕ) → List ℕ
all_in [] = []
all_in (xs ∷ xss) = xs ++ all_in xss

joined_are : (zs : List AssignedStep) → flat_map assigned_by zs ≡ all_in (map assigned_by zs)
joined_are [] = refl
joined_are (z ∷ zs) = ap (λ (js : List ℕ). assigned_by z ++ js) (joined_are zs)

together : (zs ys : List AssignedStep) → map assigned_by zs ≡ map assigned_by ys →
    flat_map assigned_by zs ≡ flat_map assigned_by ys
together zs ys e = joined_are zs ∙ (ap all_in e ∙ sym (joined_are ys))

module _ (n : ℕ) (how : Assigns) (x : Assigned) (g : Extent) (b : Assigned) (h : HasPathBounds n how x g b) where
  pub bounded_assigns : (i : ℕ) → assigns b.steps i ≡ assigns x.steps i
  bounded_assigns i = ap (λ (js : List ℕ). is_in js i) (together b.steps x.steps h.assigned)

  pub bounded_ends : (w : Width) (k : Ending) (s t : State) → PathEnds w b.steps k s t ↔ PathEnds w x.steps k s t
  bounded_ends w Held s t = (
    λ e. (e.0, (h.holds w s t e.0 no_scope).0 e.1),
    λ e.
        (e.0, (h.holds w s t e.0 no_scope).1 e.1),
  )
  bounded_ends w MetWrong s t = (
    λ e. (e.0, (e.1.0, (h.meets w s t e.1.0 no_scope (IsWrong e.0)).0 e.1.1)),
    λ e. (e.0, (e.1.0, (h.meets w s t e.1.0 no_scope (IsWrong e.0)).1 e.1.1)),
  )
  bounded_ends w MetBig s t = (
    λ e. (e.0, (e.1.0, (h.meets w s t e.1.0 no_scope (IsBig e.0)).0 e.1.1)),
    λ e. (e.0, (e.1.0, (h.meets w s t e.1.0 no_scope (IsBig e.0)).1 e.1.1)),
  )

  pub bounded_kinds : (w : Width) (m : Marks) (s t : State) (r : ReadsNext m s t) →
      PathHasKinds w s t b.steps no_scope → Kinds w m s t r x.steps no_scope
  bounded_kinds w m s t r k =
      kinds_of_bounded n how w m s t r x.steps no_scope g
      (subst (λ (zs : List AssignedStep). PathHasKinds w s t zs no_scope) h.steps k)
