-- Along paths whose steps are sized alike the same numbers are refused, and the same shapes are left.
use Rattle.std.proofs.Common.{◌≡◌, ℕ, zero, suc, ◌+◌, Bool, true, false, ◌&&◌, IsTrue, List, [], ◌∷◌, ◌++◌, map, zip, length, Option, Some, None, option_map, refl, sym, ◌∙◌, ap, ap₂, subst, if◌then◌else◌}
use Rattle.std.specs.Prelude.{not, option_and_then, slice_get}
use Rattle.tla_meaning.proofs.Laws.{none≢some}
use Rattle.tla_meaning.proofs.Views.{and_left, and_right, false≢true}
use Rattle.kernel_trees.specs.declared.kernel.Ker.{Ker, out-Ker}
use Rattle.kernel_trees.specs.declared.kernel.KerOp.{KerOp}
use Rattle.kernel_trees.specs.declared.kernel.KerOp.TheVariants as ker
use Rattle.kernel_trees.specs.declared.path.AssignedStep.{AssignedStep}
use Rattle.kernel_trees.specs.declared.path.AssignedStep.TheVariants as mark
use Rattle.kernel_trees.specs.declared.path.PathStep.{PathStep}
use Rattle.kernel_trees.specs.declared.path.PathStep.TheVariants as path
use Rattle.kernel_trees.specs.Assignments.{assignment, assignment_of, is_in, marked, step_by, target}
use Rattle.kernel_trees.specs.Paths.{Marks, Step, Holds, Branch, Choice, numbers, step_of}
use Rattle.kernel_trees.specs.Sound.{Context, kind_at, passes, picked_kinds, sound, sound_guard, sound_path, sound_pick}
use Rattle.kernel_trees.specs.Trees.{names_of, number_name}
use Rattle.kernel_trees.specs.TypeKinds as kind
use Rattle.kernel_trees.specs.TypeKinds.{Kind, Truth, all_there, is_kind, members}
use Rattle.kernel_trees.proofs.SoundRows.{BinderRow, Row, row_equal, row_member, found}
use Rattle.kernel_trees.proofs.SoundTrees.{Child, Children, Node, node_binder, node_name, node_plain, sound_step}
use Rattle.kernel_shapes.specs.Counts.{Count, Rank, either_rank, first_rank}
use Rattle.kernel_shapes.specs.Kernel.{ker_shape, ker_sized}
use Rattle.kernel_shapes.specs.Levels as level
use Rattle.kernel_shapes.specs.Levels.{Assigns, Path, in_next, in_state, after_path, after_step, assign, path_numbers, picked_counts, picked_names, picked_shapes, put, step_numbers}
use Rattle.kernel_shapes.specs.Shape.{Shape, inside}
use Rattle.kernel_shapes.specs.Sized.{Extent, Sized, Sizing, assigned_from, bind_shapes, no_size, picked_from, walked}
use Rattle.kernel_shapes.specs.Systems.{sized_step}
use Rattle.kernel_shapes.specs.TypedExtents.{NamesOfKinds, OfTypes}
use Rattle.kernel_shapes.specs.TypedStates.{EachOfKind, OfKind}
use Rattle.kernel_shapes.proofs.KindLaw.{member_kind}
use Rattle.kernel_shapes.proofs.Refusals.{rank_append}
use Rattle.kernel_shapes.proofs.SoundShapes.{more_types}
use Rattle.kernel_reduction.specs.JobParts.{sized_job_step, sized_sets, typed_sized}
use Rattle.kernel_reduction.specs.JobPaths.{JobAssigned, JobStep, Operand, Guarded, Chosen, Unmatched, Asks, Picks, Sets, SetsFrom, Stops, TypedTree, and_before, assigned_or, job_assignment, job_marked}
use Rattle.kernel_reduction.specs.inner.SameWays.{Pairs}
use Rattle.kernel_reduction.proofs.Filled.{kept_there, shape_kind}
use Rattle.kernel_reduction.proofs.Gists.{Gist, gist}
use Rattle.kernel_reduction.proofs.GistNodes.{ker_gist}
use Rattle.kernel_reduction.proofs.SizedSteps.{AssignsNone, KeptGuard, KeptSets, KeptTree, SameMark, SizedStep, as_gist, both_among, both_equal, neither, sized_branch, sized_choice, sized_end, sized_guard, sized_operand, when_walked}

-- ---- what is assigned is sound

some_same : {X : Type 0} {x y : X} → Some x ≡ Some y → x ≡ y
some_same e = cc

-- two operands, the second of this kind where the first is of that one, and in a form position or not
record Operands (names : List Kind) (c : Context) (b : Bool) (made : Kind → Kind) (x e : Ker) : Type 0 where
  kind : Kind
  left : Child names c false kind x
  right : Child names c b (made kind) e

abbrev plainly : Kind → Kind
plainly a = a

equal_row : (names : List Kind) (c : Context) (b : Bool) {a : Kind} {as' : List Kind} {x e : Ker} → Row ker.Equal a as' → Children names ker.Equal 0 c b (x ∷ e ∷ []) as' →
    Operands names c false plainly x e
equal_row names c b (row_equal d) h = record { kind = d; left = h.0; right = h.1.0 }

member_row : (names : List Kind) (c : Context) (b : Bool) {a : Kind} {as' : List Kind} {x e : Ker} → Row ker.Member a as' → Children names ker.Member 0 c b (x ∷ e ∷ []) as' →
    Operands names c true kind.Set x e
member_row names c b (row_member d) h = record { kind = d; left = h.0; right = h.1.0 }

no_equal : {a d : Kind} {ms : List Kind} → BinderRow ker.Equal a ms d → ⊥
no_equal r = elim r [ ]

no_member : {a d : Kind} {ms : List Kind} → BinderRow ker.Member a ms d → ⊥
no_member r = elim r [ ]

no_row : {i : ℕ} {primed : Bool} {a : Kind} {as' : List Kind} → Row (ker.Name i primed) a as' → ⊥
no_row r = elim r [ ]

no_binder : {i : ℕ} {primed : Bool} {a d : Kind} {ms : List Kind} → BinderRow (ker.Name i primed) a ms d → ⊥
no_binder r = elim r [ ]

equal_operands : (names : List Kind) (c : Context) (b : Bool) {a : Kind} {xs : List ℕ} {x e : Ker} → Node names c b ker.Equal a xs (x ∷ e ∷ []) → Operands names c false plainly x e
equal_operands names c b (node_plain o a xs ks as' r h i) = equal_row names c b r h
equal_operands names c b (node_binder o a xs ks sets body ms e q n r g h) = absurd (no_equal r)

member_operands : (names : List Kind) (c : Context) (b : Bool) {a : Kind} {xs : List ℕ} {x e : Ker} → Node names c b ker.Member a xs (x ∷ e ∷ []) → Operands names c true kind.Set x e
member_operands names c b (node_plain o a xs ks as' r h i) = member_row names c b r h
member_operands names c b (node_binder o a xs ks sets body ms e q n r g h) = absurd (no_member r)

name_kind : (names : List Kind) (c : Context) (b : Bool) {a : Kind} {i : ℕ} {primed : Bool} {xs : List ℕ} {ks : List Ker} → Node names c b (ker.Name i primed) a xs ks → slice_get names i ≡ Some a
name_kind names c b (node_name i primed a xs e) = e
name_kind names c b (node_plain o a xs ks as' r h i) = absurd (no_row r)
name_kind names c b (node_binder o a xs ks sets body ms e q n r g h) = absurd (no_binder r)

-- the name at the root of a left side has its kind
target_kind : (names : List Kind) (c : Context) (m : Marks) (before : List ℕ) (i : ℕ) (a : Kind) (o : KerOp) (xs : List ℕ) (ks : List Ker) →
    Node names c false o a xs ks → target m before o ≡ Some i → slice_get names i ≡ Some a
target_kind names c m before i a (ker.Name j primed) xs ks n e = by (m j primed && not (is_in before j)) e
  where
    by : (b : Bool) → (if b then Some j else None) ≡ Some i → slice_get names i ≡ Some a
    by true q = subst (λ (l : ℕ). slice_get names l ≡ Some a) (some_same q) (name_kind names c false n)
    by false q = absurd (none≢some q)
target_kind names c m before i a o xs ks n e = absurd (none≢some e)

left_kind : (names : List Kind) (c : Context) (m : Marks) (before : List ℕ) (i : ℕ) (a : Kind) (x : Ker) → Child names c false a x → target m before (out-Ker x).op ≡ Some i →
    slice_get names i ≡ Some a
left_kind names c m before i a x h e =
    let s = sound_step names x c false h.1 in
    ap (λ o. o) (target_kind names c m before i s.0 (out-Ker x).op (out-Ker x).binds (out-Ker x).args s.2 e) ∙ sym s.1 ∙ h.0

-- the right side of an assignment
record Assigned (names : List Kind) (c : Context) (b : Bool) (made : Kind → Kind) (i : ℕ) (e : Ker) : Type 0 where
  kind : Kind
  name : slice_get names i ≡ Some kind
  right : Child names c b (made kind) e

abbrev is_equals : AssignedStep → Bool
is_equals (mark.Equals i e) = true
is_equals z = false

abbrev right_of : AssignedStep → List Ker
right_of (mark.Equals i e) = e ∷ []
right_of (mark.Among i e) = e ∷ []
right_of z = []

one_same : {x y : Ker} → x ∷ [] ≡ y ∷ [] → x ≡ y
one_same q = cc

-- by the name of its left side
abbrev pair_with : (ℕ → AssignedStep) → ℕ → ℕ × AssignedStep
pair_with make j = (j, make j)

assigned_as : (make : ℕ → AssignedStep) (o : Option ℕ) (i : ℕ) (z : AssignedStep) → option_map (pair_with make) o ≡ Some (i, z) → (o ≡ Some i) × (make i ≡ z)
assigned_as make None i z q = absurd (none≢some q)
assigned_as make (Some j) i z q =
    let e : j ≡ i = ap (λ (a : ℕ × AssignedStep). a.0) (some_same q) in
    (ap Some e, ap make (sym e) ∙ ap (λ (a : ℕ × AssignedStep). a.1) (some_same q))

equal_sound : (names : List Kind) (c : Context) (m : Marks) (before : List ℕ) (i : ℕ) (e : Ker) (a : Kind) (o : KerOp) (xs : List ℕ) (ks : List Ker) → Node names c false o a xs ks →
    assignment_of m before o ks ≡ Some (i, mark.Equals i e) → Assigned names c false plainly i e
equal_sound names c m before i e a ker.Equal xs (x ∷ f ∷ []) n q =
    let z = assigned_as (λ j. mark.Equals j f) (target m before (out-Ker x).op) i (mark.Equals i e) q in
    let r = equal_operands names c false n in
    let same : f ≡ e = one_same (ap right_of z.1) in record {
      kind = r.kind;
      name = left_kind names c m before i r.kind x r.left z.0;
      right = subst (Child names c false r.kind) same r.right;
    }
equal_sound names c m before i e a ker.Member xs (x ∷ f ∷ []) n q =
    let z = assigned_as (λ j. mark.Among j f) (target m before (out-Ker x).op) i (mark.Equals i e) q in
    absurd (false≢true (ap is_equals z.1))
equal_sound names c m before i e a o xs ks n q = absurd (none≢some q)

among_sound : (names : List Kind) (c : Context) (m : Marks) (before : List ℕ) (i : ℕ) (e : Ker) (a : Kind) (o : KerOp) (xs : List ℕ) (ks : List Ker) → Node names c false o a xs ks →
    assignment_of m before o ks ≡ Some (i, mark.Among i e) → Assigned names c true kind.Set i e
among_sound names c m before i e a ker.Member xs (x ∷ f ∷ []) n q =
    let z = assigned_as (λ j. mark.Among j f) (target m before (out-Ker x).op) i (mark.Among i e) q in
    let r = member_operands names c false n in
    let same : f ≡ e = one_same (ap right_of z.1) in record {
      kind = r.kind;
      name = left_kind names c m before i r.kind x r.left z.0;
      right = subst (Child names c true (kind.Set r.kind)) same r.right;
    }
among_sound names c m before i e a ker.Equal xs (x ∷ f ∷ []) n q =
    let z = assigned_as (λ j. mark.Equals j f) (target m before (out-Ker x).op) i (mark.Among i e) q in
    absurd (false≢true (sym (ap is_equals z.1)))
among_sound names c m before i e a o xs ks n q = absurd (none≢some q)

-- ---- what is picked

abbrev KindsAre : List (ℕ × Ker) → List Kind → Type 0
KindsAre [] [] = Unit {0}
KindsAre (p ∷ ps) (k ∷ ks) = (kind_at p.1 ≡ Some (kind.Set k)) × KindsAre ps ks
KindsAre [] (k ∷ ks) = ⊥
KindsAre (p ∷ ps) [] = ⊥

kinds_are : (ps : List (ℕ × Ker)) (ms : List Kind) → picked_kinds ps ≡ Some ms → KindsAre ps ms
kinds_are [] ms q = subst (KindsAre []) (some_same q) tt
kinds_are (p ∷ ps) ms q = by (kind_at p.1) refl (all_there (map (λ (x : ℕ × Ker). kind_at x.1) ps)) q (kinds_are ps)
  where
    at : (a : Kind) (r : Option (List Kind)) → option_map (λ bs. a ∷ bs) r ≡ Some ms → kind_at p.1 ≡ Some (kind.Set a) →
        ((bs : List Kind) → r ≡ Some bs → KindsAre ps bs) → KindsAre (p ∷ ps) ms
    at a None e f rest = absurd (none≢some e)
    at a (Some bs) e f rest = subst (KindsAre (p ∷ ps)) (some_same e) (f, rest bs refl)

    by : (o : Option Kind) → kind_at p.1 ≡ o → (r : Option (List Kind)) → option_and_then members (option_and_then (λ x. option_map (λ xs. x ∷ xs) r) o) ≡ Some ms →
        ((bs : List Kind) → option_and_then members r ≡ Some bs → KindsAre ps bs) → KindsAre (p ∷ ps) ms
    by None f r e rest = absurd (none≢some e)
    by (Some a) f None e rest = absurd (none≢some e)
    by (Some (kind.Set a)) f (Some as') e rest = at a (members as') e f rest
    by (Some a) f (Some as') e rest = absurd (none≢some e)

passed : {X : Type 0} (test : X → Bool) (o : Option X) → passes test o ≡ true → (x : X) × (o ≡ Some x) × (test x ≡ true)
passed test None h = absurd (false≢true h)
passed test (Some x) h = (x, refl, h)

abbrev pick_sizings : ℕ → List (ℕ × Ker) → List (List ℕ × Sizing)
pick_sizings w ps = map (λ (p : ℕ × Ker). (number_name p.0, ker_sized w p.1)) ps

pick_names : (w : ℕ) (ps : List (ℕ × Ker)) → picked_names (pick_sizings w ps) ≡ names_of (numbers ps)
pick_names w [] = refl
pick_names w (p ∷ ps) = ap (λ (l : List (List ℕ)). number_name p.0 ∷ l) (pick_names w ps)

as_many : (ps : List (ℕ × Ker)) (ms : List Kind) → KindsAre ps ms → length (numbers ps) ≡ length ms
as_many [] [] h = refl
as_many [] (k ∷ ks) h = absurd h
as_many (p ∷ ps) [] h = absurd h
as_many (p ∷ ps) (k ∷ ks) h = ap suc (as_many ps ks h.1)

put_kinds : (ks : List Kind) (os : List (Option Shape)) (i : ℕ) (a : Kind) (b : Shape) → NamesOfKinds ks os → slice_get ks i ≡ Some a → OfKind a b → NamesOfKinds ks (put i b os)
put_kinds [] [] i a b h e k = tt
put_kinds [] (o ∷ os) i a b h e k = absurd h
put_kinds (j ∷ js) [] i a b h e k = absurd h
put_kinds (j ∷ js) (None ∷ os) zero a b h e k = (subst (λ (l : Kind). OfKind l b) (sym (some_same e)) k, h)
put_kinds (j ∷ js) (Some d ∷ os) zero a b h e k = (subst (λ (l : Kind). OfKind l b) (sym (some_same e)) k, h.1)
put_kinds (j ∷ js) (None ∷ os) (suc i) a b h e k = put_kinds js os i a b h e k
put_kinds (j ∷ js) (Some d ∷ os) (suc i) a b h e k = (h.0, put_kinds js os i a b h.1 e k)

assign_types : (how : Assigns) (names : List Kind) (c : Context) (g : Extent) (i : ℕ) (a : Kind) (b : Shape) → OfTypes names c g → slice_get names i ≡ Some a → OfKind a b →
    OfTypes names c (assign how i b g)
assign_types in_next names c g i a b r e k = record { now = r.now; next = put_kinds names g.next i a b r.next e k; bound = r.bound }
assign_types in_state names c g i a b r e k =
    record { now = put_kinds names g.now i a b r.now e k; next = put_kinds names g.next i a b r.next e k; bound = r.bound }

-- ---- along a path

module _ (how : Assigns) (names : List Kind) where
  -- the same numbers are refused, the same shapes are left, and these are of the names' kinds
  pub record SamePath (ps qs : Path) (g : Extent) : Type 0 where
    pub ranks : first_rank (path_numbers how ps g) ≡ first_rank (path_numbers how qs g)
    pub ends : after_path how ps g ≡ after_path how qs g
    pub kinds : NamesOfKinds names (after_path how qs g).next

  step_then : (s u : level.Step) (ps qs : Path) (g : Extent) → first_rank (step_numbers s g) ≡ first_rank (step_numbers u g) → after_step how s g ≡ after_step how u g →
      SamePath ps qs (after_step how u g) → SamePath (s ∷ ps) (u ∷ qs) g
  step_then s u ps qs g r e h = record {
    ranks =
        rank_append (step_numbers s g) (path_numbers how ps (after_step how s g))
        ∙ ap₂ either_rank r (ap (λ (k : Extent). first_rank (path_numbers how ps k)) e ∙ h.ranks)
        ∙ sym (rank_append (step_numbers u g) (path_numbers how qs (after_step how u g)));
    ends = ap (after_path how ps) e ∙ h.ends;
    kinds = h.kinds;
  }

module _ (how : Assigns) (w : ℕ) (names : List Kind) (m : Marks) where
  module _ (c : Context) (g : Extent) (r : OfTypes names c g) where
    guard_kind : (k : Ker) → sound_guard names c k ≡ true → kind_at k ≡ Some Truth
    guard_kind k h = found Truth (kind_at k) (and_left (is_kind Truth (kind_at k)) (sound names k c false) h)

    guard_sound : (k : Ker) → sound_guard names c k ≡ true → sound names k c false ≡ true
    guard_sound k h = and_right (is_kind Truth (kind_at k)) (sound names k c false) h

    guard_rank : (t : TypedTree) (k : Ker) → KeptGuard w t k → sound_guard names c k ≡ true → first_rank ((typed_sized w t g).counts walked) ≡ first_rank ((ker_sized w k g).counts walked)
    guard_rank t k h s = kept_there w names c g r when_walked t k false Truth h (guard_sound k s) (guard_kind k s)

    tree_same : (t : TypedTree) (k : Ker) (b : Bool) (a : Kind) → KeptTree w t k → Child names c b a k → gist (typed_sized w t g) ≡ ker_gist w k g
    tree_same t k b a h s = kept_there w names c g r as_gist t k b a h s.1 s.0

    pick_ranks : (n : ℕ) (xs : List (List ℕ × TypedTree)) (ps : List (ℕ × Ker)) (ms : List Kind) → KeptSets w n xs ps → sound_pick names c ps ≡ true → KindsAre ps ms →
        (first_rank (picked_counts (sized_sets w n xs) g) ≡ first_rank (picked_counts (pick_sizings w ps) g))
        × ((picked_names (sized_sets w n xs) ≡ picked_names (pick_sizings w ps)) × (picked_shapes (sized_sets w n xs) g ≡ picked_shapes (pick_sizings w ps) g))
    pick_ranks n [] [] ms h s k = (refl, (refl, refl))
    pick_ranks n [] (p ∷ ps) ms h s k = absurd h
    pick_ranks n (x ∷ xs) [] ms h s k = absurd h
    pick_ranks n (x ∷ xs) (p ∷ ps) [] h s k = absurd k
    pick_ranks n (x ∷ xs) (p ∷ ps) (a ∷ ms) h s k =
        let e = tree_same x.1 p.1 false (kind.Set a) h.1.0 (k.0, and_left (sound names p.1 c false) (sound_pick names c ps) s) in
        let z = pick_ranks (suc n) xs ps ms h.1.1 (and_right (sound names p.1 c false) (sound_pick names c ps) s) k.1 in (
          rank_append ((typed_sized w x.1 g).counts picked_from) (picked_counts (sized_sets w (suc n) xs) g)
              ∙ ap₂ either_rank (ap (λ (a : Gist). a.rank picked_from) e) z.0
              ∙ sym (rank_append ((ker_sized w p.1 g).counts picked_from) (picked_counts (pick_sizings w ps) g)),
          (
            ap₂ (λ (j : ℕ) (l : List (List ℕ)). number_name j ∷ l) (sym h.0) z.1.0,
            ap₂ (λ (a : Gist) (l : List Shape). inside a.shape ∷ l) e z.1.1,
          ),
        )

    pick_kinds : (ps : List (ℕ × Ker)) (ms : List Kind) → sound_pick names c ps ≡ true → KindsAre ps ms → EachOfKind ms (picked_shapes (pick_sizings w ps) g)
    pick_kinds [] [] s k = tt
    pick_kinds [] (a ∷ ms) s k = absurd k
    pick_kinds (p ∷ ps) [] s k = absurd k
    pick_kinds (p ∷ ps) (a ∷ ms) s k = (
      member_kind a (ker_shape w p.1 g) (shape_kind w names c g r p.1 false (kind.Set a) (and_left (sound names p.1 c false) (sound_pick names c ps) s) k.0),
      pick_kinds ps ms (and_right (sound names p.1 c false) (sound_pick names c ps) s) k.1,
    )

    pick_types : (ps : List (ℕ × Ker)) (ms : List Kind) → sound_pick names c ps ≡ true → KindsAre ps ms →
        OfTypes names (c ++ zip (numbers ps) ms) (bind_shapes (picked_names (pick_sizings w ps)) (picked_shapes (pick_sizings w ps) g) g)
    pick_types ps ms s k =
        let inner : List Shape = picked_shapes (pick_sizings w ps) g in
        subst (λ (xs : List (List ℕ)). OfTypes names (c ++ zip (numbers ps) ms) (bind_shapes xs inner g)) (sym (pick_names w ps))
        (more_types names c g (numbers ps) ms inner r (as_many ps ms k) (pick_kinds ps ms s k))

  abbrev job_path : List ℕ → List JobStep → Path
  job_path before xs = map (sized_job_step w) (job_marked m before xs)

  abbrev kernel_path : List ℕ → List PathStep → Path
  kernel_path before ys = map (sized_step w) (marked m before ys)

  -- a guard, as a step that is to be TRUE or FALSE
  guard_then : (c : Context) (g : Extent) (before : List ℕ) (e : Sizing) (k : Ker) (b : Bool) (ps : Path) (ys : List PathStep) → AssignsNone m k →
      first_rank ((e g).counts walked) ≡ first_rank ((ker_sized w k g).counts walked) → SamePath how names ps (kernel_path before ys) g →
      SamePath how names (level.Guard e ∷ ps) (kernel_path before (path.Guard k b ∷ ys)) g
  guard_then c g before e k true ps ys n q h =
      subst (λ o. SamePath how names (level.Guard e ∷ ps) (map (sized_step w) (step_by k before (λ names. marked m names ys) o)) g) (sym (n before))
      (step_then how names (level.Guard e) (level.Guard (ker_sized w k)) ps (kernel_path before ys) g q refl h)
  guard_then c g before e k false ps ys n q h = step_then how names (level.Guard e) (level.Guard (ker_sized w k)) ps (kernel_path before ys) g q refl h

  -- what is said of the rest of a path
  abbrev Rest : List JobStep → List Step → Type 0
  Rest xs zs = (before : List ℕ) (c : Context) (g : Extent) → OfTypes names c g → sound_path names c (map step_of zs) ≡ true →
      SamePath how names (job_path before xs) (kernel_path before (map step_of zs)) g

  operand_same : (t : TypedTree) (k : Ker) → KeptTree w t k → (before : List ℕ) (o : Option (ℕ × JobAssigned)) (q : Option (ℕ × AssignedStep)) → assignment m before k ≡ q →
      SameMark w o q → (xs : List JobStep) (zs : List Step) → Rest xs zs → (c : Context) (g : Extent) → OfTypes names c g →
      sound_guard names c k ≡ true → sound_path names c (map step_of zs) ≡ true →
      SamePath how names (map (sized_job_step w) (assigned_or t o ∷ job_marked m (and_before o before) xs))
      (map (sized_step w) (step_by k before (λ names. marked m names (map step_of zs)) q)) g
  operand_same t k f before _ _ e neither xs zs h c g r s l =
      step_then how names (level.Guard (typed_sized w t)) (level.Guard (ker_sized w k)) (job_path before xs) (kernel_path before (map step_of zs)) g
      (ap when_walked (tree_same c g r t k false Truth f (guard_kind c g r k s, guard_sound c g r k s))) refl
      (h before c g r l)
  operand_same t k f before _ _ e (both_equal i u j v) xs zs h c g r s l =
      let y = sound_step names k c false (guard_sound c g r k s) in
      let z = equal_sound names c m before i j y.0 (out-Ker k).op (out-Ker k).binds (out-Ker k).args y.2 e in
      let q = tree_same c g r u j false z.kind v z.right in
      step_then how names (level.Equals i (typed_sized w u)) (level.Equals i (ker_sized w j)) (job_path (i ∷ before) xs) (kernel_path (i ∷ before) (map step_of zs)) g
      (ap when_walked q) (ap (λ (a : Gist). assign how i a.shape g) q)
      (h (i ∷ before) c (assign how i (ker_shape w j g) g)
      (assign_types how names c g i z.kind (ker_shape w j g) r z.name (shape_kind w names c g r j false z.kind z.right.1 z.right.0)) l)
  operand_same t k f before _ _ e (both_among i u j v) xs zs h c g r s l =
      let y = sound_step names k c false (guard_sound c g r k s) in
      let z = among_sound names c m before i j y.0 (out-Ker k).op (out-Ker k).binds (out-Ker k).args y.2 e in
      let q = tree_same c g r u j true (kind.Set z.kind) v z.right in
      step_then how names (level.Among i (typed_sized w u)) (level.Among i (ker_sized w j)) (job_path (i ∷ before) xs) (kernel_path (i ∷ before) (map step_of zs)) g
      (ap (λ (a : Gist). a.rank assigned_from) q) (ap (λ (a : Gist). assign how i (inside a.shape) g) q)
      (h (i ∷ before) c (assign how i (inside (ker_shape w j g)) g)
      (assign_types how names c g i z.kind (inside (ker_shape w j g)) r z.name
      (member_kind z.kind (ker_shape w j g) (shape_kind w names c g r j true (kind.Set z.kind) z.right.1 z.right.0))) l)

  step_same : (x : JobStep) (z : Step) → SizedStep w m x z → (xs : List JobStep) (zs : List Step) → Rest xs zs → (before : List ℕ) (c : Context) (g : Extent) →
      OfTypes names c g → sound_path names c (map step_of (z ∷ zs)) ≡ true → SamePath how names (job_path before (x ∷ xs)) (kernel_path before (map step_of (z ∷ zs))) g
  step_same _ _ (sized_operand t k f n) xs zs h before c g r s =
      let here : Bool = sound_guard names c k in
      let rest : Bool = sound_path names c (map step_of zs) in
      operand_same t k f before (job_assignment m before t) (assignment m before k) refl (n before) xs zs h c g r (and_left here rest s) (and_right here rest s)
  step_same _ _ (sized_branch p t b k f n) xs zs h before c g r s =
      let here : Bool = sound_guard names c k in
      let rest : Bool = sound_path names c (map step_of zs) in
      guard_then c g before (typed_sized w t) k b (job_path before xs) (map step_of zs) n (guard_rank c g r t k f (and_left here rest s))
      (h before c g r (and_right here rest s))
  step_same _ _ (sized_guard p t b k f n) xs zs h before c g r s =
      let here : Bool = sound_guard names c k in
      let rest : Bool = sound_path names c (map step_of zs) in
      guard_then c g before (typed_sized w t) k true (job_path before xs) (map step_of zs) n (guard_rank c g r t k f (and_left here rest s))
      (h before c g r (and_right here rest s))
  step_same _ _ (sized_choice p ys ps f) xs zs h before c g r s =
      let here : Bool = sound_pick names c ps in
      let behind : List Kind → Bool = λ ms. sound_path names (c ++ zip (numbers ps) ms) (map step_of zs) in
      let one : here ≡ true = and_left here (passes behind (picked_kinds ps)) s in
      let z = passed behind (picked_kinds ps) (and_right here (passes behind (picked_kinds ps)) s) in
      let k : KindsAre ps z.0 = kinds_are ps z.0 z.1 in
      let q = pick_ranks c g r 0 ys ps z.0 f one k in
      step_then how names (level.Pick (sized_sets w 0 ys)) (level.Pick (pick_sizings w ps)) (job_path before xs) (kernel_path before (map step_of zs)) g q.0
      (ap₂ (λ (l : List (List ℕ)) (as' : List Shape). bind_shapes l as' g) q.1.0 q.1.1)
      (h before (c ++ zip (numbers ps) z.0) (bind_shapes (picked_names (pick_sizings w ps)) (picked_shapes (pick_sizings w ps) g) g) (pick_types c g r ps z.0 one k) z.2)
  step_same _ _ (sized_end p k f n) xs zs h before c g r s =
      let here : Bool = sound_guard names c k in
      let rest : Bool = sound_path names c (map step_of zs) in
      guard_then c g before (λ g. no_size) k true (job_path before xs) (map step_of zs) n (sym (f g)) (h before c g r (and_right here rest s))

  pub paths_same : (xs : List JobStep) (zs : List Step) → Pairs (SizedStep w m) xs zs → Rest xs zs
  paths_same [] [] h before c g r s = record { ranks = refl; ends = refl; kinds = r.next }
  paths_same [] (z ∷ zs) h before c g r s = absurd h
  paths_same (x ∷ xs) [] h before c g r s = absurd h
  paths_same (x ∷ xs) (z ∷ zs) h before c g r s = step_same x z h.0 xs zs (paths_same xs zs h.1) before c g r s
