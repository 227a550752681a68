-- A path with bounds assigns and reads the names that the path does, and has its nodes and texts.
use Rattle.std.proofs.Common.{◌≡◌, ℕ, Bool, true, not, ◌&&◌, IsTrue, List, [], ◌∷◌, map, refl, ap₂}
use Rattle.std.specs.List.{list_all}
use Rattle.snowcat_rows.specs.declared.types.Ty.{Ty}
use Rattle.kernel_trees.specs.declared.kernel.Ker.{Ker}
use Rattle.kernel_trees.specs.declared.kernel.KerOp.{KerOp}
use Rattle.kernel_trees.specs.declared.path.AssignedStep.{AssignedStep}
use Rattle.kernel_trees.specs.declared.path.AssignedStep.TheVariants as mark
use Rattle.kernel_trees.specs.Assignments.{assigned_by, open_names, read_by, reads_late}
use Rattle.kernel_trees.specs.Paths.{Marks, mentions, sets}
use Rattle.kernel_trees.specs.Systems.{texts_on, texts_within}
use Rattle.kernel_trees.proofs.SoundWider.{and_mono}
use Rattle.kernel_shapes.specs.Levels.{Assigns}
use Rattle.kernel_shapes.specs.Sized.{Extent}
use Rattle.tree_bounds.specs.Bounded.{with_bounds}
use Rattle.tree_bounds.proofs.SameShapes.{same_names}
use Rattle.shape_bounds.specs.BoundedTrees.{PassesNumbers, each_node}
use Rattle.shape_bounds.proofs.BoundNodes.{nodes_kept, texts_kept}
use Rattle.path_bounds.specs.BoundedPaths.{bounded_step, bounded_steps, nodes_on, past}
use Rattle.path_bounds.proofs.SameEffects.{bounded_sets}

-- ---- names

step_assigns : (w : ℕ) (g : Extent) (z : AssignedStep) → assigned_by (bounded_step w g z) ≡ assigned_by z
step_assigns w g (mark.Guard k b) = refl
step_assigns w g (mark.Pick ps) = refl
step_assigns w g (mark.Equals i k) = refl
step_assigns w g (mark.Among i k) = refl

pub same_assigned : (w : ℕ) (a : Assigns) (zs : List AssignedStep) (g : Extent) → map assigned_by (bounded_steps w a zs g) ≡ map assigned_by zs
same_assigned w a [] g = refl
same_assigned w a (z ∷ zs) g = ap₂ (λ (is : List ℕ) (iss : List (List ℕ)). is ∷ iss) (step_assigns w g z) (same_assigned w a zs (past w a z g))

sets_late : (w : ℕ) (g : Extent) (m : Marks) (ps : List (ℕ × Ker)) →
    list_all (λ k. not (mentions m k)) (sets (bounded_sets w g ps)) ≡ list_all (λ k. not (mentions m k)) (sets ps)
sets_late w g m [] = refl
sets_late w g m (p ∷ ps) = ap₂ (λ (b c : Bool). not b && c) (same_names w p.1 (g ∷ []) m) (sets_late w g m ps)

pub same_late : (w : ℕ) (a : Assigns) (m : Marks) (before : List ℕ) (zs : List AssignedStep) (g : Extent) →
    reads_late m before (bounded_steps w a zs g) ≡ reads_late m before zs
same_late w a m before [] g = refl
same_late w a m before (mark.Guard k b ∷ zs) g =
    ap₂ (λ (b c : Bool). not b && c) (same_names w k (g ∷ []) (open_names m before)) (same_late w a m before zs g)
same_late w a m before (mark.Pick ps ∷ zs) g =
    ap₂ (λ (b c : Bool). b && c) (sets_late w g (open_names m before) ps) (same_late w a m before zs (past w a (mark.Pick ps) g))
same_late w a m before (mark.Equals i k ∷ zs) g =
    ap₂ (λ (b c : Bool). not b && c) (same_names w k (g ∷ []) (open_names m before)) (same_late w a m (i ∷ before) zs (past w a (mark.Equals i k) g))
same_late w a m before (mark.Among i k ∷ zs) g =
    ap₂ (λ (b c : Bool). not b && c) (same_names w k (g ∷ []) (open_names m before)) (same_late w a m (i ∷ before) zs (past w a (mark.Among i k) g))

-- ---- what holds of each tree

module _ (w : ℕ) (P : Ker → Bool) (stays : (k : Ker) (g : Extent) → P k ≡ true → P (with_bounds w k (g ∷ [])) ≡ true) where
  abbrev pub passes_step : AssignedStep → Bool
  passes_step z = list_all P (read_by z)

  sets_pass : (g : Extent) (ps : List (ℕ × Ker)) → list_all P (sets ps) ≡ true → list_all P (sets (bounded_sets w g ps)) ≡ true
  sets_pass g [] h = refl
  sets_pass g (p ∷ ps) h =
      and_mono (P p.1) (list_all P (sets ps)) (P (with_bounds w p.1 (g ∷ []))) (list_all P (sets (bounded_sets w g ps)))
      (stays p.1 g) (sets_pass g ps) h

  one_passes : (g : Extent) (k : Ker) → (P k && true) ≡ true → (P (with_bounds w k (g ∷ [])) && true) ≡ true
  one_passes g k h = and_mono (P k) true (P (with_bounds w k (g ∷ []))) true (stays k g) (λ e. e) h

  step_passes : (g : Extent) (z : AssignedStep) → passes_step z ≡ true → passes_step (bounded_step w g z) ≡ true
  step_passes g (mark.Guard k b) h = one_passes g k h
  step_passes g (mark.Pick ps) h = sets_pass g ps h
  step_passes g (mark.Equals i k) h = one_passes g k h
  step_passes g (mark.Among i k) h = one_passes g k h

  pub path_passes : (a : Assigns) (zs : List AssignedStep) (g : Extent) → list_all passes_step zs ≡ true → list_all passes_step (bounded_steps w a zs g) ≡ true
  path_passes a [] g h = refl
  path_passes a (z ∷ zs) g h =
      and_mono (passes_step z) (list_all passes_step zs) (passes_step (bounded_step w g z)) (list_all passes_step (bounded_steps w a zs (past w a z g)))
      (step_passes g z) (path_passes a zs (past w a z g)) h

pub nodes_stay : (w : ℕ) (a : Assigns) (test : KerOp → Ty → Bool) → PassesNumbers test → (zs : List AssignedStep) (g : Extent) →
    IsTrue (nodes_on test zs) → IsTrue (nodes_on test (bounded_steps w a zs g))
nodes_stay w a test n zs g h = path_passes w (each_node test) (λ k f e. nodes_kept w test n k (f ∷ []) e) a zs g h

pub texts_stay : (w : ℕ) (a : Assigns) (xs : List (List ℕ)) (zs : List AssignedStep) (g : Extent) → IsTrue (texts_on xs zs) → IsTrue (texts_on xs (bounded_steps w a zs g))
texts_stay w a xs zs g h = path_passes w (texts_within xs) (λ k f e. texts_kept w xs k (f ∷ []) e) a zs g h
