-- What holds of the paths of a sound kernel tree with their assignments.
use Rattle.std.proofs.Common.{◌≡◌, ℕ, Bool, false, ◌&&◌, IsTrue, List, [], ◌∷◌, refl, sym, ◌∙◌, ap, subst, inl, inr}
use Rattle.std.specs.List.{list_all}
use Rattle.tla_meaning.proofs.Views.{and_both, and_left, and_right}
use Rattle.kernel_trees.specs.declared.kernel.Ker.{Ker}
use Rattle.kernel_trees.specs.declared.path.Assigned.{Assigned}
use Rattle.kernel_trees.specs.declared.path.AssignedStep.{AssignedStep}
use Rattle.kernel_trees.specs.declared.path.KerPath.{KerPath}
use Rattle.kernel_trees.specs.Assignments.{lacks, marked, reads_late}
use Rattle.kernel_trees.specs.Paths.{Marks, paths}
use Rattle.kernel_trees.specs.Sound.{kind_at, sound_assigned, sound_path, sound_tree}
use Rattle.kernel_trees.specs.Systems.{assigns_once, sound_part, sound_paths, texts_on, texts_within}
use Rattle.kernel_trees.specs.TypeKinds.{Kind, Truth, is_kind}
use Rattle.kernel_trees.proofs.SoundPaths.{paths_are_sound}
use Rattle.kernel_trees.proofs.Trees.{Each}
use Rattle.kernel_shapes.specs.Laws.{PathsAre}
use Rattle.kernel_shapes.specs.Systems.{assigns, every_name}
use Rattle.kernel_shapes.proofs.Ended.{whole_assigns}
use Rattle.assignment_finder.specs.Finding.{IsAssigned}
use Rattle.assignment_finder.proofs.Walking.{fine_reads}
use Rattle.accepted_systems.proofs.AlongPaths.{MarkHas, PathHas, marks_have, paths_have}
use Rattle.accepted_systems.proofs.AssignedOnce.{marked_once}
use Rattle.accepted_systems.proofs.ReadLate.{HasNone, late_by, none_down, unmarked}
use Rattle.accepted_systems.proofs.SoundlyAssigned.{IsFinite, fine_finite, marked_sound}
use Rattle.accepted_systems.proofs.TextsKept.{HasTexts, steps_within, texts_down}

-- ---- lists

pub each_true : {X : Type 0} (f : X → Bool) (xs : List X) → IsTrue (list_all f xs) → Each (λ x. IsTrue (f x)) xs
each_true f [] h = tt
each_true f (x ∷ xs) h = (and_left (f x) (list_all f xs) h, each_true f xs (and_right (f x) (list_all f xs) h))

pub all_true : {X : Type 0} (f : X → Bool) (P : X → Type 0) → ((x : X) → P x → IsTrue (f x)) → (xs : List X) →
    Each P xs → IsTrue (list_all f xs)
all_true f P g [] h = refl
all_true f P g (x ∷ xs) h = and_both (f x) (list_all f xs) (g x h.0) (all_true f P g xs h.1)

-- ---- without assignments

pub record Sound (names : List Kind) (texts : List (List ℕ)) (x : KerPath) : Type 0 where
  pub sound : IsTrue (sound_path names [] x.steps)
  pub texts_are : PathHas (HasTexts texts) x

both_are : (names : List Kind) (texts : List (List ℕ)) (xs : List KerPath) →
    Each (λ x. IsTrue (sound_path names [] x.steps)) xs →
    Each (PathHas (HasTexts texts)) xs → Each (Sound names texts) xs
both_are names texts [] h g = tt
both_are names texts (x ∷ xs) h g = (record { sound = h.0; texts_are = g.0 }, both_are names texts xs h.1 g.1)

pub paths_sound : (names : List Kind) (texts : List (List ℕ)) (m : Marks) (k : Ker) →
    IsTrue (sound_part names texts k) →
    Each (Sound names texts) (paths m k)
paths_sound names texts m k h =
    let whole : Bool = is_kind Truth (kind_at k) && sound_tree names k [] false in
    both_are names texts (paths m k)
    (each_true (λ x. sound_path names [] x.steps) (paths m k)
    (paths_are_sound names m k [] (and_left whole (texts_within texts k) h)))
    (paths_have (HasTexts texts) (texts_down texts) m k (and_right whole (texts_within texts k) h))

-- ---- with them

pub record Facts (names : List Kind) (texts : List (List ℕ)) (m : Marks) (a : Assigned) : Type 0 where
  pub sound : IsTrue (sound_assigned names [] a.steps)
  pub once : IsTrue (assigns_once a.steps)
  pub texts_are : IsTrue (texts_on texts a.steps)
  pub late : IsTrue (reads_late m [] a.steps)
  pub assign : (i : ℕ) → IsTrue (assigns m a.steps i)

module _ (m : Marks) (p : KerPath) (a : Assigned) (h : IsAssigned m p a) where
  its_steps : a.steps ≡ marked m [] p.steps
  its_steps = ap (λ (x : Assigned). x.steps) h.is

  pub facts : (names : List Kind) (texts : List (List ℕ)) → Sound names texts p → Facts names texts m a
  facts names texts g = record {
    sound = subst (λ (zs : List AssignedStep). IsTrue (sound_assigned names [] zs)) (sym its_steps)
        (marked_sound names m p.steps [] [] g.sound
        (subst (Each IsFinite) its_steps (fine_finite m [] a.steps h.fine)));
    once = subst (λ (zs : List AssignedStep). IsTrue (assigns_once zs)) (sym its_steps) (marked_once m p.steps);
    texts_are = subst (λ (zs : List AssignedStep). IsTrue (texts_on texts zs)) (sym its_steps)
        (steps_within texts (marked m [] p.steps)
        (marks_have (HasTexts texts) (texts_down texts) m [] p.steps g.texts_are));
    late = fine_reads m [] a.steps h.fine;
    assign = λ i. subst (λ (zs : List AssignedStep). IsTrue (assigns m zs i)) (sym its_steps)
        (whole_assigns m p.steps i (elim h.whole [
          | inl e ↦ inl e
          | inr n ↦ inr (λ j. ap (λ (zs : List AssignedStep). lacks m zs j) (sym its_steps) ∙ n j)
        ]));
  }

  -- where the path's trees hold only names that are marked
  pub late_everywhere : PathHas (HasNone (unmarked m)) p → IsTrue (reads_late every_name [] a.steps)
  late_everywhere g =
      late_by m every_name [] a.steps
      (subst (Each (MarkHas (HasNone (unmarked m)))) (sym its_steps)
      (marks_have (HasNone (unmarked m)) (none_down (unmarked m)) m [] p.steps g))
      (fine_reads m [] a.steps h.fine)

module _ (names : List Kind) (texts : List (List ℕ)) (m : Marks) (xs : List Assigned)
    (h : Each (Facts names texts m) xs) where
  pub all_sound : IsTrue (list_all (λ (x : Assigned). sound_assigned names [] x.steps) xs)
  all_sound = all_true (λ x. sound_assigned names [] x.steps) (Facts names texts m) (λ x f. f.sound) xs h

  pub all_sound_paths : IsTrue (sound_paths names texts xs)
  all_sound_paths =
      all_true (λ x. (sound_assigned names [] x.steps && assigns_once x.steps) && texts_on texts x.steps)
      (Facts names texts m)
      (λ x f.
      and_both (sound_assigned names [] x.steps && assigns_once x.steps) (texts_on texts x.steps)
      (and_both (sound_assigned names [] x.steps) (assigns_once x.steps) f.sound f.once) f.texts_are) xs h

  pub paths_are : PathsAre names m xs
  paths_are = record {
    sound = all_sound;
    late = all_true (λ x. reads_late m [] x.steps) (Facts names texts m) (λ x f. f.late) xs h;
    assign = λ i. all_true (λ x. assigns m x.steps i) (Facts names texts m) (λ x f. f.assign i) xs h;
  }
