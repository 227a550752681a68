-- Steps that read no marked name before its assignment read none of fewer names so.
use Rattle.std.proofs.Common.{◌≡◌, ℕ, Bool, true, false, not, ◌&&◌, IsTrue, List, [], ◌∷◌, ◌++◌, zip, length, Option, Some, None, refl, ap}
use Rattle.std.specs.Prelude.{slice_get}
use Rattle.std.specs.List.{list_all}
use Rattle.tla_meaning.proofs.Views.{and_left, and_right, and_both, false≢true}
use Rattle.kernel_trees.specs.declared.kernel.Ker.{Ker}
use Rattle.kernel_trees.specs.declared.path.AssignedStep.{AssignedStep}
use Rattle.kernel_trees.specs.declared.path.AssignedStep.TheVariants as mark
use Rattle.kernel_trees.specs.Assignments.{is_in, open_names, reads_late}
use Rattle.kernel_trees.specs.Paths.{Marks, mentions, numbers, sets}
use Rattle.kernel_trees.specs.Sound.{Context, is_finite, kind_at, passes, picked_kinds, sound, sound_assigned, sound_guard, sound_pick}
use Rattle.kernel_trees.specs.TypeKinds.{Kind, Set, Truth, is_kind}
use Rattle.kernel_trees.proofs.SoundNames.{sound_below}
use Rattle.kernel_shapes.proofs.PathLaw.{Within, quiet}

not_true : (b : Bool) → IsTrue (not b) → b ≡ false
not_true true h = absurd (false≢true h)
not_true false h = refl

-- what passes a test there
there : {X : Type 0} (test : X → Bool) (o : Option X) → IsTrue (passes test o) → (x : X) × IsTrue (test x)
there test None h = absurd (false≢true h)
there test (Some x) h = (x, h)

module _ (names : List Kind) (p q : Marks) (h : Within (length names) p q) where
  open_within : (before : List ℕ) → Within (length names) (open_names p before) (open_names q before)
  open_within before i primed l e =
      and_both (q i primed) (not (is_in before i)) (h i primed l (and_left (p i primed) (not (is_in before i)) e))
      (and_right (p i primed) (not (is_in before i)) e)

  abbrev Late : Marks → List ℕ → Ker → Bool
  Late m before k = not (mentions (open_names m before) k)

  tree_late : (before : List ℕ) (c : Context) (b : Bool) (k : Ker) → IsTrue (sound names k c b) →
      IsTrue (Late q before k) →
      IsTrue (Late p before k)
  tree_late before c b k s e =
      ap not (quiet (length names) (open_names p before) (open_names q before) (open_within before) k
      (sound_below names k c b s)
      (not_true (mentions (open_names q before) k) e))

  sets_late : (before : List ℕ) (c : Context) (ps : List (ℕ × Ker)) → IsTrue (sound_pick names c ps) →
      IsTrue (list_all (Late q before) (sets ps)) → IsTrue (list_all (Late p before) (sets ps))
  sets_late before c [] s e = refl
  sets_late before c (x ∷ ps) s e =
      and_both (Late p before x.1) (list_all (Late p before) (sets ps))
      (tree_late before c false x.1 (and_left (sound names x.1 c false) (sound_pick names c ps) s)
      (and_left (Late q before x.1) (list_all (Late q before) (sets ps)) e))
      (sets_late before c ps (and_right (sound names x.1 c false) (sound_pick names c ps) s)
      (and_right (Late q before x.1) (list_all (Late q before) (sets ps)) e))

  pub late_fewer : (zs : List AssignedStep) (before : List ℕ) (c : Context) → IsTrue (sound_assigned names c zs) →
      IsTrue (reads_late q before zs) → IsTrue (reads_late p before zs)
  late_fewer [] before c s e = refl
  late_fewer (mark.Guard k b ∷ zs) before c s e =
      and_both (Late p before k) (reads_late p before zs)
      (tree_late before c false k
      (and_right (is_kind Truth (kind_at k)) (sound names k c false)
      (and_left (sound_guard names c k) (sound_assigned names c zs) s))
      (and_left (Late q before k) (reads_late q before zs) e))
      (late_fewer zs before c (and_right (sound_guard names c k) (sound_assigned names c zs) s)
      (and_right (Late q before k) (reads_late q before zs) e))
  late_fewer (mark.Pick ps ∷ zs) before c s e =
      let test : List Kind → Bool = λ ms. sound_assigned names (c ++ zip (numbers ps) ms) zs in
      let z = there test (picked_kinds ps) (and_right (sound_pick names c ps) (passes test (picked_kinds ps)) s) in
      and_both (list_all (Late p before) (sets ps)) (reads_late p before zs)
      (sets_late before c ps (and_left (sound_pick names c ps) (passes test (picked_kinds ps)) s)
      (and_left (list_all (Late q before) (sets ps)) (reads_late q before zs) e))
      (late_fewer zs before (c ++ zip (numbers ps) z.0) z.1 (and_right (list_all (Late q before) (sets ps))
      (reads_late q before zs) e))
  late_fewer (mark.Equals i k ∷ zs) before c s e =
      let typed : Bool = passes (λ a. is_kind a (kind_at k)) (slice_get names i) in
      and_both (Late p before k) (reads_late p (i ∷ before) zs)
      (tree_late before c false k
      (and_right typed (sound names k c false) (and_left (typed && sound names k c false) (sound_assigned names c zs)
      s))
      (and_left (Late q before k) (reads_late q (i ∷ before) zs) e))
      (late_fewer zs (i ∷ before) c (and_right (typed && sound names k c false) (sound_assigned names c zs) s)
      (and_right (Late q before k) (reads_late q (i ∷ before) zs) e))
  late_fewer (mark.Among i k ∷ zs) before c s e =
      let typed : Bool = passes (λ a. is_kind (Set a) (kind_at k)) (slice_get names i) && is_finite k in
      and_both (Late p before k) (reads_late p (i ∷ before) zs)
      (tree_late before c true k
      (and_right typed (sound names k c true) (and_left (typed && sound names k c true) (sound_assigned names c zs) s))
      (and_left (Late q before k) (reads_late q (i ∷ before) zs) e))
      (late_fewer zs (i ∷ before) c (and_right (typed && sound names k c true) (sound_assigned names c zs) s)
      (and_right (Late q before k) (reads_late q (i ∷ before) zs) e))
