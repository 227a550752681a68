-- A sound path that reads no name of wider marks too late, of the declared names alone.
use Rattle.std.proofs.Common.{◌≡◌, ℕ, Bool, true, false, not, ◌&&◌, IsTrue, List, [], ◌∷◌, ◌++◌, length, refl}
use Rattle.std.proofs.Common.{ap}
use Rattle.std.specs.Prelude.{Option, None, Some, slice_get, zip}
use Rattle.std.specs.List.{list_all}
use Rattle.tla_meaning.proofs.Views.{and_left, and_right, and_both, false≢true}
use Rattle.kernel_trees.specs.declared.kernel.Ker.{Ker}
use Rattle.kernel_trees.specs.declared.path.AssignedStep.{AssignedStep}
use Rattle.kernel_trees.specs.declared.path.AssignedStep.TheVariants as mark
use Rattle.kernel_trees.specs.Assignments.{is_in, open_names, reads_late}
use Rattle.kernel_trees.specs.Paths.{Marks, mentions, numbers, sets}
use Rattle.kernel_trees.specs.Sound.{Context, is_finite, kind_at, passes, picked_kinds, sound, sound_assigned}
use Rattle.kernel_trees.specs.Sound.{sound_guard, sound_pick}
use Rattle.kernel_trees.specs.TypeKinds.{Kind, Set, Truth, is_kind}
use Rattle.kernel_trees.proofs.SoundNames.{sound_below}
use Rattle.kernel_shapes.proofs.PathLaw.{Within, quiet}

module _ (names : List Kind) (p q : Marks) (within : Within (length names) p q) where
  not_true : (b : Bool) → IsTrue (not b) → b ≡ false
  not_true true h = absurd (false≢true h)
  not_true false h = refl

  open_within : (before : List ℕ) → Within (length names) (open_names p before) (open_names q before)
  open_within before i primed l e =
      and_both (q i primed) (not (is_in before i)) (within i primed l
      (and_left (p i primed) (not (is_in before i)) e)) (and_right (p i primed) (not (is_in before i)) e)

  tree_late : (before : List ℕ) (k : Ker) (c : Context) (b : Bool) → IsTrue (sound names k c b) →
      IsTrue (not (mentions (open_names q before) k)) →
      IsTrue (not (mentions (open_names p before) k))
  tree_late before k c b s e =
      ap not (quiet (length names) (open_names p before) (open_names q before) (open_within before) k
      (sound_below names k c b s)
      (not_true (mentions (open_names q before) k) e))

  sets_late : (before : List ℕ) (ps : List (ℕ × Ker)) (c : Context) → IsTrue (sound_pick names c ps) →
      IsTrue (list_all (λ k. not (mentions (open_names q before) k)) (sets ps)) →
      IsTrue (list_all (λ k. not (mentions (open_names p before) k)) (sets ps))
  sets_late before [] c s e = refl
  sets_late before (x ∷ ps) c s e =
      let rest : Bool = list_all (λ (y : ℕ × Ker). sound names y.1 c false) ps in
      let more : Bool = list_all (λ k. not (mentions (open_names q before) k)) (sets ps) in
      and_both (not (mentions (open_names p before) x.1)) (list_all (λ k. not (mentions (open_names p before) k))
      (sets ps))
      (tree_late before x.1 c false (and_left (sound names x.1 c false) rest s)
      (and_left (not (mentions (open_names q before) x.1)) more e))
      (sets_late before ps c (and_right (sound names x.1 c false) rest s)
      (and_right (not (mentions (open_names q before) x.1)) more e))

  pub late_within : (zs : List AssignedStep) (before : List ℕ) (c : Context) → IsTrue (sound_assigned names c zs) →
      IsTrue (reads_late q before zs) →
      IsTrue (reads_late p before zs)
  late_within [] before c s e = refl
  late_within (mark.Guard k b ∷ zs) before c s e =
      let guard : Bool = sound_guard names c k in
      and_both (not (mentions (open_names p before) k)) (reads_late p before zs)
      (tree_late before k c false (and_right (is_kind Truth (kind_at k)) (sound names k c false)
      (and_left guard (sound_assigned names c zs) s))
      (and_left (not (mentions (open_names q before) k)) (reads_late q before zs) e))
      (late_within zs before c (and_right guard (sound_assigned names c zs) s)
      (and_right (not (mentions (open_names q before) k)) (reads_late q before zs) e))
  late_within (mark.Pick ps ∷ zs) before c s e =
      let behind : List Kind → Bool = λ ms. sound_assigned names (c ++ zip (numbers ps) ms) zs in
      let all : Bool = list_all (λ k. not (mentions (open_names q before) k)) (sets ps) in
      and_both (list_all (λ k. not (mentions (open_names p before) k)) (sets ps)) (reads_late p before zs)
      (sets_late before ps c (and_left (sound_pick names c ps) (passes behind (picked_kinds ps)) s)
      (and_left all (reads_late q before zs) e))
      (by (picked_kinds ps) (and_right (sound_pick names c ps) (passes behind (picked_kinds ps)) s)
      (λ ms t. late_within zs before (c ++ zip (numbers ps) ms) t (and_right all (reads_late q before zs) e)))
    where
      by : (o : Option (List Kind)) → IsTrue (passes (λ ms. sound_assigned names (c ++ zip (numbers ps) ms) zs) o) →
          ((ms : List Kind) → IsTrue (sound_assigned names (c ++ zip (numbers ps) ms) zs) →
          IsTrue (reads_late p before zs)) → IsTrue (reads_late p before zs)
      by None t go = absurd (false≢true t)
      by (Some ms) t go = go ms t
  late_within (mark.Equals i k ∷ zs) before c s e =
      let kinds : Bool = passes (λ a. is_kind a (kind_at k)) (slice_get names i) in
      let own : Bool = kinds && sound names k c false in
      and_both (not (mentions (open_names p before) k)) (reads_late p (i ∷ before) zs)
      (tree_late before k c false (and_right kinds (sound names k c false) (and_left own (sound_assigned names c zs) s))
      (and_left (not (mentions (open_names q before) k)) (reads_late q (i ∷ before) zs) e))
      (late_within zs (i ∷ before) c (and_right own (sound_assigned names c zs) s)
      (and_right (not (mentions (open_names q before) k)) (reads_late q (i ∷ before) zs) e))
  late_within (mark.Among i k ∷ zs) before c s e =
      let kinds : Bool = passes (λ a. is_kind (Set a) (kind_at k)) (slice_get names i) && is_finite k in
      let own : Bool = kinds && sound names k c true in
      and_both (not (mentions (open_names p before) k)) (reads_late p (i ∷ before) zs)
      (tree_late before k c true (and_right kinds (sound names k c true) (and_left own (sound_assigned names c zs) s))
      (and_left (not (mentions (open_names q before) k)) (reads_late q (i ∷ before) zs) e))
      (late_within zs (i ∷ before) c (and_right own (sound_assigned names c zs) s)
      (and_right (not (mentions (open_names q before) k)) (reads_late q (i ∷ before) zs) e))
