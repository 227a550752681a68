-- The law of paths, for the paths that are handed on.
use Rattle.std.proofs.Common.{◌≡◌, inl, inr, IsTrue, List, [], ◌∷◌, map, refl, sym, ◌∙◌, subst, Option, Some, None}
use Rattle.tla_values.specs.Order.{Layer}
use Rattle.tla_values.specs.declared.value.Value.{Value, out-Value}
use Rattle.tla_meaning.specs.declared.place.Place.{Place}
use Rattle.tla_meaning.specs.declared.job.State.{State}
use Rattle.tla_meaning.specs.declared.outcome.Fault.{Fault}
use Rattle.tla_meaning.specs.declared.outcome.Fault.TheVariants.{NoFault, IsWrong, IsBig}
use Rattle.tla_meaning.specs.declared.outcome.Outcome.{Outcome}
use Rattle.tla_meaning.specs.declared.outcome.Outcome.TheVariants.{Val, Wrong, Big}
use Rattle.tla_meaning.specs.Outcomes.{fault_of, joined, values}
use Rattle.tla_meaning.specs.Shapes.{all_set_items}
use Rattle.tla_meaning.specs.Numbers.{Width}
use Rattle.kernel_trees.specs.Paths.{Marks, Step, Holds, Branch, Choice, ways, step_of, path_of, paths}
use Rattle.tla_meaning.specs.Scopes.{Scope}
use Rattle.tla_meaning.proofs.Views.{false≢true}
use Rattle.kernel_trees.specs.declared.kernel.Ker.{Ker}
use Rattle.kernel_trees.specs.declared.path.KerPath.{KerPath}
use Rattle.kernel_trees.specs.Trees.{ker_val}
use Rattle.kernel_trees.specs.Ways.{Way}
use Rattle.kernel_trees.specs.Picks.{IsOneOf, kind_fault, guard_fault, IsFault, HoldsFor, MeetsFor, IsByPaths, set_outcomes, picking}
use Rattle.kernel_trees.specs.Assignments.{PathHolds, PathMeets, HasKinds, AllHaveKinds, is_truth, IsTruth, is_there, IsByKerPaths}
use Rattle.kernel_trees.proofs.Picking.{join_same, one_map, map_one}
use Rattle.tla_values.specs.declared.value.Value.TheOpen as layer
use Rattle.tla_meaning.specs.declared.actions.Effect.{Effect}

abbrev Picks : Type 0
Picks = List (List Value)

not_none : {f : Fault} → NoFault ≡ f → IsFault f → ⊥
not_none e n = subst IsFault (sym e) n

-- ---- the same choices

pub holds_to : (w : Width) (s t : State) (ys : List Step) (vss : Picks) (sc : Scope) → HoldsFor w s t ys vss sc → PathHolds w s t (map step_of ys) vss sc
holds_to w s t [] vss sc h = h
holds_to w s t (Holds k ∷ ys) vss sc h = (h.0, holds_to w s t ys vss sc h.1)
holds_to w s t (Branch p k b ∷ ys) vss sc h = (h.0, holds_to w s t ys vss sc h.1)
holds_to w s t (Choice p ps ∷ ys) [] sc h = absurd h
holds_to w s t (Choice p ps ∷ ys) (vs ∷ vss) sc h = (h.0, holds_to w s t ys vss (picking ps vs sc) h.1)

pub holds_from : (w : Width) (s t : State) (ys : List Step) (vss : Picks) (sc : Scope) → PathHolds w s t (map step_of ys) vss sc → HoldsFor w s t ys vss sc
holds_from w s t [] vss sc h = h
holds_from w s t (Holds k ∷ ys) vss sc h = (h.0, holds_from w s t ys vss sc h.1)
holds_from w s t (Branch p k b ∷ ys) vss sc h = (h.0, holds_from w s t ys vss sc h.1)
holds_from w s t (Choice p ps ∷ ys) [] sc h = absurd h
holds_from w s t (Choice p ps ∷ ys) (vs ∷ vss) sc h = (h.0, holds_from w s t ys vss (picking ps vs sc) h.1)

-- ---- the same faults

kind_none : (p : Place) (l : Layer Value) → IsTrue (is_truth l) → kind_fault p l ≡ NoFault
kind_none p (layer.Bool b) h = refl
kind_none p (layer.Int i) h = absurd (false≢true h)
kind_none p (layer.Text a) h = absurd (false≢true h)
kind_none p (layer.Set xs) h = absurd (false≢true h)
kind_none p (layer.Fun ps) h = absurd (false≢true h)

guard_fault_is : (p : Place) (o : Outcome) → IsTruth o → guard_fault p o ≡ fault_of o
guard_fault_is p (Val v) h = kind_none p (out-Value v) h
guard_fault_is p (Wrong q) h = refl
guard_fault_is p (Big q) h = refl

some_sets : (p : Place) (o : Option (List (List Value))) → IsTrue (is_there o) → elim o [ None ↦ IsWrong p | Some xss ↦ NoFault ] ≡ NoFault
some_sets p None h = absurd (false≢true h)
some_sets p (Some xss) h = refl

sets_fault_is : (p : Place) (o : Option (List (List Value))) (f : Fault) → (f ≡ NoFault → IsTrue (is_there o)) →
    elim f [ NoFault ↦ elim o [ None ↦ IsWrong p | Some xss ↦ NoFault ] | IsWrong q ↦ IsWrong q | IsBig q ↦ IsBig q ] ≡ f
sets_fault_is p o NoFault h = some_sets p o (h refl)
sets_fault_is p o (IsWrong q) h = refl
sets_fault_is p o (IsBig q) h = refl

guard_meets : (p : Place) (o : Outcome) (f : Fault) → IsFault f → fault_of o ≡ f → guard_fault p o ≡ f
guard_meets p (Val v) f n e = absurd (not_none e n)
guard_meets p (Wrong q) f n e = e
guard_meets p (Big q) f n e = e

sets_meet : (p : Place) (o : Option (List (List Value))) (g f : Fault) → IsFault f → g ≡ f →
    elim g [ NoFault ↦ elim o [ None ↦ IsWrong p | Some xss ↦ NoFault ] | IsWrong q ↦ IsWrong q | IsBig q ↦ IsBig q ] ≡ f
sets_meet p o NoFault f n e = absurd (not_none e n)
sets_meet p o (IsWrong q) f n e = e
sets_meet p o (IsBig q) f n e = e

pub meets_from : (w : Width) (s t : State) (ys : List Step) (vss : Picks) (sc : Scope) (f : Fault) → IsFault f →
    PathMeets w s t (map step_of ys) vss sc f → MeetsFor w s t ys vss sc f
meets_from w s t [] vss sc f n h = h
meets_from w s t (Holds k ∷ ys) vss sc f n (inl e) = inl e
meets_from w s t (Holds k ∷ ys) vss sc f n (inr h) = inr (h.0, meets_from w s t ys vss sc f n h.1)
meets_from w s t (Branch p k b ∷ ys) vss sc f n (inl e) = inl (guard_meets p (ker_val w k sc s t) f n e)
meets_from w s t (Branch p k b ∷ ys) vss sc f n (inr h) = inr (h.0, meets_from w s t ys vss sc f n h.1)
meets_from w s t (Choice p ps ∷ ys) vss sc f n (inl e) =
    inl (sets_meet p (all_set_items (values (set_outcomes w s t ps sc))) (joined (set_outcomes w s t ps sc)) f n e)
meets_from w s t (Choice p ps ∷ ys) [] sc f n (inr h) = absurd h
meets_from w s t (Choice p ps ∷ ys) (vs ∷ vss) sc f n (inr h) = inr (h.0, meets_from w s t ys vss (picking ps vs sc) f n h.1)

pub meets_to : (w : Width) (s t : State) (ys : List Step) (vss : Picks) (sc : Scope) (f : Fault) → HasKinds w s t (map step_of ys) sc →
    MeetsFor w s t ys vss sc f → PathMeets w s t (map step_of ys) vss sc f
meets_to w s t [] vss sc f c h = h
meets_to w s t (Holds k ∷ ys) vss sc f c (inl e) = inl e
meets_to w s t (Holds k ∷ ys) vss sc f c (inr h) = inr (h.0, meets_to w s t ys vss sc f (c.1 h.0) h.1)
meets_to w s t (Branch p k b ∷ ys) vss sc f c (inl e) = inl (sym (guard_fault_is p (ker_val w k sc s t) c.0) ∙ e)
meets_to w s t (Branch p k b ∷ ys) vss sc f c (inr h) = inr (h.0, meets_to w s t ys vss sc f (c.1 h.0) h.1)
meets_to w s t (Choice p ps ∷ ys) vss sc f c (inl e) =
    inl (sym (sets_fault_is p (all_set_items (values (set_outcomes w s t ps sc))) (joined (set_outcomes w s t ps sc)) c.0) ∙ e)
meets_to w s t (Choice p ps ∷ ys) [] sc f c (inr h) = absurd h
meets_to w s t (Choice p ps ∷ ys) (vs ∷ vss) sc f c (inr h) = inr (h.0, meets_to w s t ys vss (picking ps vs sc) f (c.1 vs h.0) h.1)

kinds_of : (w : Width) (s t : State) (k : Ker) (ys : List (Way Step)) (y : Way Step) (sc : Scope) → AllHaveKinds w s t (map (path_of k) ys) sc → IsOneOf y ys →
    HasKinds w s t (map step_of y.steps) sc
kinds_of w s t k [] y sc c h = absurd h
kinds_of w s t k (z ∷ zs) y sc c (inl e) = subst (λ (x : Way Step). HasKinds w s t (map step_of x.steps) sc) (sym e) c.0
kinds_of w s t k (z ∷ zs) y sc c (inr e) = kinds_of w s t k zs y sc c.1 e

-- the law of paths, for the paths that are handed on
pub by_ker_paths : (w : Width) (m : Marks) (k : Ker) (sc : Scope) (s t : State) (e : Effect) → IsByPaths w s t (ways m k) sc e →
    AllHaveKinds w s t (paths m k) sc → IsByKerPaths w s t (paths m k) sc e
by_ker_paths w m k sc s t e x c =
    record {
      holds = (
        λ e. let r = x.holds.0 e in
            (path_of k r.0, one_map (path_of k) r.0 (ways m k) r.1, (r.2.0, holds_to w s t r.0.steps r.2.0 sc r.2.1)),
        λ r. let y = map_one (path_of k) r.0 (ways m k) r.1 in
            x.holds.1 (y.0, y.1, (r.2.0, holds_from w s t y.0.steps r.2.0 sc (subst (λ (z : KerPath). PathHolds w s t z.steps r.2.0 sc) y.2 r.2.1))),
      );
      fault = join_same
          (λ g r. (
            path_of k r.0,
            one_map (path_of k) r.0 (ways m k) r.1,
            (r.2.0, meets_to w s t r.0.steps r.2.0 sc g (kinds_of w s t k (ways m k) r.0 sc c r.1) r.2.1),
          ))
          (λ g n r. let y = map_one (path_of k) r.0 (ways m k) r.1 in
          (y.0, y.1, (r.2.0, meets_from w s t y.0.steps r.2.0 sc g n (subst (λ (z : KerPath). PathMeets w s t z.steps r.2.0 sc g) y.2 r.2.1))))
          x.fault;
    }
