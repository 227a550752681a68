-- What holds of a tree, and goes down to the operands that its paths take apart, holds of the trees along its paths;
-- and of those of the assignments on them.
use Rattle.std.proofs.Common.{◌≡◌, ℕ, zero, suc, Bool, true, false, IsTrue, List, [], ◌∷◌, ◌++◌, map, zip, take, length, refl, sym, subst, Option, Some, None, if◌then◌else◌}
use Rattle.std.specs.Prelude.{slice_get}
use Rattle.tla_meaning.specs.declared.place.Place.{Place}
use Rattle.kernel_trees.specs.declared.kernel.Ker.{Ker, roll-Ker, out-Ker, roll-out-Ker}
use Rattle.kernel_trees.specs.declared.kernel.Ker.TheOpen.{Ker-F}
use Rattle.kernel_trees.specs.declared.kernel.KerOp.{KerOp}
use Rattle.kernel_trees.specs.declared.kernel.KerOp.TheVariants as ker
use Rattle.kernel_trees.specs.declared.path.AssignedStep.{AssignedStep}
use Rattle.kernel_trees.specs.declared.path.KerPath.{KerPath}
use Rattle.kernel_trees.specs.declared.path.PathStep.{PathStep}
use Rattle.kernel_trees.specs.declared.path.PathStep.TheVariants as path
use Rattle.kernel_trees.specs.Assignments.{assignment, marked, read_by, step_by}
use Rattle.kernel_trees.specs.Paths.{Branch, Choice, Holds, Marks, Parted, Step, any_mentions, choice_ways, ends_at, if_ways, path_of, paths, place_of, sets, step_of, ways, ways_of}
use Rattle.kernel_trees.specs.Ways.{Way, after, after_each, all_of, alone, any_of, branch, has_ended, one_after}
use Rattle.kernel_trees.proofs.LawOfPaths.{ways-roll}
use Rattle.kernel_trees.proofs.Trees.{Each, by_nodes}
use Rattle.accepted_systems.proofs.Assigning.{IsAssignment, by_value, by_form, is_assignment}

-- what a path takes apart, and what an assignment is made of
abbrev pub is_parted : KerOp → Bool
is_parted ker.And = true
is_parted ker.Or = true
is_parted ker.If = true
is_parted ker.Some = true
is_parted ker.Equal = true
is_parted ker.Member = true
is_parted o = false

abbrev pub GoesDown : (Ker → Type 0) → Type 0
GoesDown P = (x : Ker-F Ker) → IsTrue (is_parted x.op) → P (roll-Ker x) → Each P x.args

both_each : {X : Type 0} (P : X → Type 0) (xs ys : List X) → Each P xs → Each P ys → Each P (xs ++ ys)
both_each P [] ys h g = g
both_each P (x ∷ xs) ys h g = (h.0, both_each P xs ys h.1 g)

each_taken : {X : Type 0} (P : X → Type 0) (n : ℕ) (xs : List X) → Each P xs → Each P (take n xs)
each_taken P zero xs h = tt
each_taken P (suc n) [] h = tt
each_taken P (suc n) (x ∷ xs) h = (h.0, each_taken P n xs h.1)

module _ (P : Ker → Type 0) where
  abbrev StepHas : Step → Type 0
  StepHas (Holds k) = P k
  StepHas (Branch p k b) = P k
  StepHas (Choice p ps) = Each P (sets ps)

  abbrev WayHas : Way Step → Type 0
  WayHas y = Each StepHas y.steps

  -- ---- conjunctions

  joined_have : (a : Way Step) (bs : List (Way Step)) → WayHas a → Each WayHas bs → Each WayHas (map (one_after a) bs)
  joined_have a [] h g = tt
  joined_have a (b ∷ bs) h g = (both_each StepHas a.steps b.steps h g.0, joined_have a bs h g.1)

  after_has : (a : Way Step) (bs : List (Way Step)) (e : Bool) → WayHas a → Each WayHas bs →
      Each WayHas (if e then a ∷ [] else map (one_after a) bs)
  after_has a bs true h g = (h, tt)
  after_has a bs false h g = joined_have a bs h g

  each_after_has : (as' bs : List (Way Step)) → Each WayHas as' → Each WayHas bs →
      Each WayHas (after_each ends_at as' bs)
  each_after_has [] bs h g = tt
  each_after_has (a ∷ as') bs h g =
      both_each WayHas (after ends_at a bs) (after_each ends_at as' bs)
      (after_has a bs (has_ended ends_at a.steps) h.0 g)
      (each_after_has as' bs h.1 g)

  all_have : (yss : List (List (Way Step))) → Each (Each WayHas) yss → Each WayHas (all_of ends_at yss)
  all_have [] h = (tt, tt)
  all_have (ys ∷ yss) h = each_after_has ys (all_of ends_at yss) h.0 (all_have yss h.1)

  -- ---- alternatives and choices, over trees with their paths

  abbrev PartHas : Parted → Type 0
  PartHas k = P k.0 × Each WayHas k.1

  branch_has : (front : List Step) (p : Place) (ys : List (Way Step)) → Each StepHas front → Each WayHas ys →
      Each WayHas (branch front p ys)
  branch_has front p [] f h = tt
  branch_has front p (y ∷ ys) f h = (both_each StepHas front y.steps f h.0, branch_has front p ys f h.1)

  ways_have : (ks : List Parted) → Each PartHas ks → Each (Each WayHas) (map (λ k. k.1) ks)
  ways_have [] h = tt
  ways_have (k ∷ ks) h = (h.0.1, ways_have ks h.1)

  trees_have : (ks : List Parted) → Each PartHas ks → Each P (map (λ k. k.0) ks)
  trees_have [] h = tt
  trees_have (k ∷ ks) h = (h.0.0, trees_have ks h.1)

  any_have : (ks : List Parted) → Each PartHas ks → Each WayHas (any_of (map (λ k. (place_of k, k.1)) ks))
  any_have [] h = tt
  any_have (k ∷ ks) h =
      both_each WayHas (branch [] (place_of k) k.1) (any_of (map (λ (k : Parted). (place_of k, k.1)) ks))
      (branch_has [] (place_of k) k.1 tt h.0.1) (any_have ks h.1)

  if_have : (self : Ker) (p : Place) (ks : List Parted) → P self → Each PartHas ks → Each WayHas (if_ways self p ks)
  if_have self p [] g h = ((g, tt), tt)
  if_have self p (a ∷ []) g h = ((g, tt), tt)
  if_have self p (a ∷ b ∷ []) g h = ((g, tt), tt)
  if_have self p (c ∷ a ∷ b ∷ []) g h =
      both_each WayHas (branch (Branch p c.0 true ∷ []) (place_of a) a.1)
      (branch (Branch p c.0 false ∷ []) (place_of b) b.1)
      (branch_has (Branch p c.0 true ∷ []) (place_of a) a.1 (h.0.0, tt) h.1.0.1)
      (branch_has (Branch p c.0 false ∷ []) (place_of b) b.1 (h.0.0, tt) h.1.1.0.1)
  if_have self p (a ∷ b ∷ c ∷ d ∷ ks) g h = ((g, tt), tt)

  sets_have : (xs : List ℕ) (ks : List Ker) → Each P ks → Each P (sets (zip xs ks))
  sets_have [] ks h = tt
  sets_have (x ∷ xs) [] h = tt
  sets_have (x ∷ xs) (k ∷ ks) h = (h.0, sets_have xs ks h.1)

  picked_have : (p : Place) (ps : List (ℕ × Ker)) (ys : List (Way Step)) → Each P (sets ps) → Each WayHas ys →
      Each WayHas (map (λ (y : Way Step). record { taken = y.taken; steps = Choice p ps ∷ y.steps }) ys)
  picked_have p ps [] g h = tt
  picked_have p ps (y ∷ ys) g h = ((g, h.0), picked_have p ps ys g h.1)

  choice_has : (self : Ker) (p : Place) (ps : List (ℕ × Ker)) (n : ℕ) (ks : List Parted) → P self → Each P (sets ps) →
      Each PartHas ks → Each WayHas (choice_ways self p ps (slice_get ks n))
  choice_has self p ps n [] g f h = ((g, tt), tt)
  choice_has self p ps zero (k ∷ ks) g f h = picked_have p ps k.1 f h.0.1
  choice_has self p ps (suc n) (k ∷ ks) g f h = choice_has self p ps n ks g f h.1

  either_have : (b : Bool) (self : Ker) (ys : List (Way Step)) → P self → Each WayHas ys →
      Each WayHas (if b then ys else alone (Holds self))
  either_have true self ys g h = h
  either_have false self ys g h = ((g, tt), tt)

  -- ---- the induction

  node_has : (m : Marks) (o : KerOp) (self : Ker) (p : Place) (xs : List ℕ) (ks : List Parted) → P self →
      (IsTrue (is_parted o) → Each PartHas ks) → Each WayHas (ways_of m o self p xs ks)
  node_has m ker.And self p xs ks g f = all_have (map (λ k. k.1) ks) (ways_have ks (f refl))
  node_has m ker.Or self p xs ks g f = either_have (any_mentions m ks) self _ g (any_have ks (f refl))
  node_has m ker.If self p xs ks g f = either_have (any_mentions m ks) self _ g (if_have self p ks g (f refl))
  node_has m ker.Some self p xs ks g f =
      let front : List Parted = take (length xs) ks in
      choice_has self p (zip xs (map (λ k. k.0) front)) (length xs) ks g
      (sets_have xs (map (λ k. k.0) front) (trees_have front (each_taken PartHas (length xs) ks (f refl)))) (f refl)
  node_has m o self p xs ks g f = ((g, tt), tt)

  module _ (down : GoesDown P) (m : Marks) where
    abbrev Fine : Ker → Type 0
    Fine k = P k → Each WayHas (ways m k)

    parts_have : (ks : List Ker) → Each Fine ks → Each P ks → Each PartHas (map (λ k. (k, ways m k)) ks)
    parts_have [] f h = tt
    parts_have (k ∷ ks) f h = ((h.0, f.0 h.0), parts_have ks f.1 h.1)

    fine : (k : Ker) → Fine k
    fine = by_nodes Fine (λ x f h.
        subst (Each WayHas) (sym (ways-roll m x))
        (node_has m x.op (roll-Ker x) x.place x.binds (map (λ k. (k, ways m k)) x.args) h
        (λ e. parts_have x.args f (down x e h))))

  -- ---- steps as they are handed on

  abbrev pub PathStepHas : PathStep → Type 0
  PathStepHas (path.Guard k b) = P k
  PathStepHas (path.Pick ps) = Each P (sets ps)

  steps_have : (ys : List Step) → Each StepHas ys → Each PathStepHas (map step_of ys)
  steps_have [] h = tt
  steps_have (Holds k ∷ ys) h = (h.0, steps_have ys h.1)
  steps_have (Branch p k b ∷ ys) h = (h.0, steps_have ys h.1)
  steps_have (Choice p ps ∷ ys) h = (h.0, steps_have ys h.1)

  abbrev pub PathHas : KerPath → Type 0
  PathHas x = Each PathStepHas x.steps

  each_path_has : (k : Ker) (ys : List (Way Step)) → Each WayHas ys → Each PathHas (map (path_of k) ys)
  each_path_has k [] h = tt
  each_path_has k (y ∷ ys) h = (steps_have y.steps h.0, each_path_has k ys h.1)

  pub paths_have : GoesDown P → (m : Marks) (k : Ker) → P k → Each PathHas (paths m k)
  paths_have down m k h = each_path_has k (ways m k) (fine down m k h)

  -- ---- with their assignments

  abbrev pub MarkHas : AssignedStep → Type 0
  MarkHas z = Each P (read_by z)

  module _ (down : GoesDown P) (m : Marks) where
    made_has : (before : List ℕ) (o : KerOp) (ks : List Ker) (a : ℕ × AssignedStep) → IsAssignment m before o ks a →
        (IsTrue (is_parted o) → Each P ks) → MarkHas a.1
    made_has before o ks a (by_value x e i primed q t) h = ((h refl).1.0, tt)
    made_has before o ks a (by_form x e i primed q t) h = ((h refl).1.0, tt)

    operands_have : (k : Ker) → P k → IsTrue (is_parted (out-Ker k).op) → Each P (out-Ker k).args
    operands_have k h e = down (out-Ker k) e (subst P (sym (roll-out-Ker k)) h)

    step_has : (before : List ℕ) (k : Ker) (rest : List ℕ → List AssignedStep) (o : Option (ℕ × AssignedStep)) →
        assignment m before k ≡ o → P k → ((names : List ℕ) → Each MarkHas (rest names)) →
        Each MarkHas (step_by k before rest o)
    step_has before k rest None q h f = ((h, tt), f before)
    step_has before k rest (Some a) q h f = (
      made_has before (out-Ker k).op (out-Ker k).args a (is_assignment m before (out-Ker k).op (out-Ker k).args a q)
          (operands_have k h),
      f (a.0 ∷ before),
    )

    pub marks_have : (before : List ℕ) (ys : List PathStep) → Each PathStepHas ys → Each MarkHas (marked m before ys)
    marks_have before [] h = tt
    marks_have before (path.Guard k false ∷ ys) h = ((h.0, tt), marks_have before ys h.1)
    marks_have before (path.Guard k true ∷ ys) h =
        step_has before k (λ names. marked m names ys) (assignment m before k) refl h.0
        (λ names. marks_have names ys h.1)
    marks_have before (path.Pick ps ∷ ys) h = (h.0, marks_have before ys h.1)
