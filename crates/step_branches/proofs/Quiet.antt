-- Paths of CInit read and assign no variable.
use Rattle.std.proofs.Common.{◌≡◌, inl, inr, ℕ, ◌≤◌, ◌<◌, Bool, true, false, not, ◌&&◌, ◌||◌, IsTrue, List, [], ◌∷◌}
use Rattle.std.proofs.Common.{◌++◌, length, refl, sym, ap, subst, arith}
use Rattle.std.specs.Prelude.{Option, Some, None, nat_eq, nat_le, slice_get, zip}
use Rattle.std.specs.List.{list_all}
use Rattle.tla_meaning.specs.declared.job.Job.{Job}
use Rattle.tla_meaning.specs.Executions.{constants}
use Rattle.tla_meaning.specs.Numbers.{Width}
use Rattle.tla_meaning.proofs.Views.{and_both, and_left, and_right, false≢true}
use Rattle.kernel_trees.specs.declared.kernel.Ker.{Ker}
use Rattle.kernel_trees.specs.declared.path.Assigned.{Assigned}
use Rattle.kernel_trees.specs.declared.path.AssignedStep.{AssignedStep}
use Rattle.kernel_trees.specs.declared.path.AssignedStep.TheVariants as mark
use Rattle.kernel_trees.specs.declared.system.System.{System}
use Rattle.kernel_trees.specs.Assignments.{is_in, open_names, reads_late}
use Rattle.kernel_trees.specs.Paths.{mentions, numbers, sets}
use Rattle.kernel_trees.specs.Picks.{IsOneOf}
use Rattle.kernel_trees.specs.Sound.{Context, is_finite, kind_at, passes, picked_kinds, sound, sound_assigned}
use Rattle.kernel_trees.specs.Sound.{sound_pick}
use Rattle.kernel_trees.specs.TypeKinds as kind
use Rattle.kernel_trees.specs.TypeKinds.{Kind, is_kind}
use Rattle.kernel_trees.proofs.SoundNames.{sound_below}
use Rattle.kernel_shapes.specs.Systems.{every_name}
use Rattle.kernel_shapes.proofs.PathLaw.{Within, quiet}
use Rattle.path_walks.specs.Steps.{assigns}
use Rattle.step_laws.specs.Encodable.{CanEncode}
use Rattle.step_laws.specs.Systems.{StandsFor, steps_of}
use Rattle.step_laws.proofs.Constants.{AllQuiet, untouched, variables}
use Rattle.step_branches.proofs.Covers.{one_of_all}
use Rattle.step_branches.proofs.SystemFacts as facts

-- ---- numbers

same_number : (i : ℕ) → nat_eq i i ≡ true
same_number i = grind arith

is_same : (i j : ℕ) → nat_eq i j ≡ true → i ≡ j
is_same i j q = grind (arith, q)

is_from : (c i : ℕ) → nat_le c i ≡ true → c ≤ i
is_from c i q = grind (arith, q)

not_from : (c i : ℕ) → i < c → not (nat_le c i) ≡ true
not_from c i lt = grind (arith, lt)

or_right : (a b : Bool) → b ≡ true → (a || b) ≡ true
or_right true b e = refl
or_right false b e = e

not_false : (b : Bool) → IsTrue (not b) → b ≡ false
not_false true h = absurd (false≢true h)
not_false false h = refl

passed : {X : Type 0} (test : X → Bool) (o : Option X) → IsTrue (passes test o) → (x : X) × IsTrue (test x)
passed test None h = absurd (false≢true h)
passed test (Some x) h = (x, h)

-- ---- a path

-- the constants are the names below c
module _ (c : ℕ) (names : List Kind) where
  abbrev AreConstant : (ℕ → Bool) → Type 0
  AreConstant test = (i : ℕ) → test i ≡ true → i < c

  -- a tree that reads late, where constants alone were assigned before
  tree_quiet : (before : List ℕ) → AreConstant (is_in before) → (k : Ker) (x : Context) (b : Bool) →
      IsTrue (sound names k x b) →
      IsTrue (not (mentions (open_names every_name before) k)) → IsTrue (not (mentions (variables c) k))
  tree_quiet before h k x b s q =
      ap not (quiet (length names) (variables c) (open_names every_name before) within
      k (sound_below names k x b s) (not_false (mentions (open_names every_name before) k) q))
    where
      within : Within (length names) (variables c) (open_names every_name before)
      within i primed l e = by (is_in before i) refl
        where
          by : (d : Bool) → is_in before i ≡ d → not d ≡ true
          by true p = absurd (omega (arith, h i p, is_from c i e))
          by false p = refl

  sets_quiet : (before : List ℕ) → AreConstant (is_in before) → (ps : List (ℕ × Ker)) (x : Context) →
      IsTrue (sound_pick names x ps) →
      IsTrue (list_all (λ k. not (mentions (open_names every_name before) k)) (sets ps)) →
      IsTrue (list_all (λ k. not (mentions (variables c) k)) (sets ps))
  sets_quiet before h [] x s q = refl
  sets_quiet before h (p ∷ ps) x s q =
      let own : Bool = sound names p.1 x false in
      let late : Ker → Bool = λ k. not (mentions (open_names every_name before) k) in
      and_both (not (mentions (variables c) p.1)) (list_all (λ k. not (mentions (variables c) k)) (sets ps))
      (tree_quiet before h p.1 x false (and_left own (sound_pick names x ps) s)
      (and_left (late p.1) (list_all late (sets ps)) q))
      (sets_quiet before h ps x (and_right own (sound_pick names x ps) s)
      (and_right (late p.1) (list_all late (sets ps)) q))

  -- one constant more is assigned
  one_more : (before : List ℕ) (j : ℕ) → AreConstant (is_in before) → j < c → AreConstant (is_in (j ∷ before))
  one_more before j h lt i e = by (nat_eq i j) refl e
    where
      by : (b : Bool) → nat_eq i j ≡ b → (b || is_in before i) ≡ true → i < c
      by true q k = subst (λ (n : ℕ). n < c) (sym (is_same i j q)) lt
      by false q k = h i k

  path_quiet : (zs : List AssignedStep) (before : List ℕ) (x : Context) → IsTrue (sound_assigned names x zs) →
      IsTrue (reads_late every_name before zs) →
      AreConstant (is_in before) → AreConstant (assigns zs) → IsTrue (list_all (untouched (variables c)) zs)
  path_quiet [] before x s r h a = refl
  path_quiet (mark.Guard k b ∷ zs) before x s r h a =
      let late : Bool = not (mentions (open_names every_name before) k) in
      let typed : Bool = is_kind kind.Truth (kind_at k) in
      let own : Bool = sound names k x false in
      and_both (not (mentions (variables c) k)) (list_all (untouched (variables c)) zs)
      (tree_quiet before h k x false (and_right typed own (and_left (typed && own) (sound_assigned names x zs) s))
      (and_left late (reads_late every_name before zs) r))
      (path_quiet zs before x (and_right (typed && own) (sound_assigned names x zs) s)
      (and_right late (reads_late every_name before zs) r) h a)
  path_quiet (mark.Pick ps ∷ zs) before x s r h a =
      let late : Bool = list_all (λ k. not (mentions (open_names every_name before) k)) (sets ps) in
      let test : List Kind → Bool = λ ms. sound_assigned names (x ++ zip (numbers ps) ms) zs in
      let rest = passed test (picked_kinds ps) (and_right (sound_pick names x ps) (passes test (picked_kinds ps)) s) in
      and_both (list_all (λ k. not (mentions (variables c) k)) (sets ps)) (list_all (untouched (variables c)) zs)
      (sets_quiet before h ps x (and_left (sound_pick names x ps) (passes test (picked_kinds ps)) s)
      (and_left late (reads_late every_name before zs) r))
      (path_quiet zs before (x ++ zip (numbers ps) rest.0) rest.1 (and_right late (reads_late every_name before zs) r)
      h a)
  path_quiet (mark.Equals i e ∷ zs) before x s r h a =
      let late : Bool = not (mentions (open_names every_name before) e) in
      let typed : Bool = passes (λ d. is_kind d (kind_at e)) (slice_get names i) in
      let own : Bool = sound names e x false in
      let lt : i < c = a i (ap (λ (b : Bool). b || assigns zs i) (same_number i)) in
      and_both (not (nat_le c i) && not (mentions (variables c) e)) (list_all (untouched (variables c)) zs)
      (and_both (not (nat_le c i)) (not (mentions (variables c) e)) (not_from c i lt)
      (tree_quiet before h e x false (and_right typed own (and_left (typed && own) (sound_assigned names x zs) s))
      (and_left late (reads_late every_name (i ∷ before) zs) r)))
      (path_quiet zs (i ∷ before) x (and_right (typed && own) (sound_assigned names x zs) s)
      (and_right late (reads_late every_name (i ∷ before) zs) r)
      (one_more before i h lt) (λ j q. a j (or_right (nat_eq j i) (assigns zs j) q)))
  path_quiet (mark.Among i e ∷ zs) before x s r h a =
      let late : Bool = not (mentions (open_names every_name before) e) in
      let typed : Bool = passes (λ d. is_kind (kind.Set d) (kind_at e)) (slice_get names i) && is_finite e in
      let own : Bool = sound names e x true in
      let lt : i < c = a i (ap (λ (b : Bool). b || assigns zs i) (same_number i)) in
      and_both (not (nat_le c i) && not (mentions (variables c) e)) (list_all (untouched (variables c)) zs)
      (and_both (not (nat_le c i)) (not (mentions (variables c) e)) (not_from c i lt)
      (tree_quiet before h e x true (and_right typed own (and_left (typed && own) (sound_assigned names x zs) s))
      (and_left late (reads_late every_name (i ∷ before) zs) r)))
      (path_quiet zs (i ∷ before) x (and_right (typed && own) (sound_assigned names x zs) s)
      (and_right late (reads_late every_name (i ∷ before) zs) r)
      (one_more before i h lt) (λ j q. a j (or_right (nat_eq j i) (assigns zs j) q)))

-- ---- the paths of CInit

pub paths_quiet : (w : Width) (job : Job) (s : System) → CanEncode s → StandsFor w job s →
    AllQuiet (variables (constants job)) (steps_of s.constants)
paths_quiet w job s can stands = each s.constants (λ x o. o)
  where
    each : (xs : List Assigned) → ((x : Assigned) → IsOneOf x xs → IsOneOf x s.constants) →
        AllQuiet (variables (constants job)) (steps_of xs)
    each [] inside = tt
    each (x ∷ xs) inside = (
      path_quiet (constants job) can.names x.steps [] []
          (one_of_all (λ (y : Assigned). sound_assigned can.names [] y.steps) s.constants x can.constants.sound
          (inside x (inl refl)))
          (one_of_all (λ (y : Assigned). reads_late every_name [] y.steps) s.constants x can.constants.late
          (inside x (inl refl)))
          (λ i e. absurd (false≢true e)) (facts.constant_assigned w job s can stands x (inside x (inl refl))),
      each xs (λ y o. inside y (inr o)),
    )
