-- Along a path with bounds each range that is evaluated lies within its bounds.
use Rattle.std.proofs.Common.{◌≡◌, ◌≤◌, ℕ, zero, suc, Bool, true, false, not, ◌&&◌, IsTrue, List, [], ◌∷◌, ◌++◌, map, zip, length, Option, Some, None, option_and_then, refl, sym, ◌∙◌, ap, subst, arith}
use Rattle.std.specs.Prelude.{slice_get}
use Rattle.std.specs.List.{AllByRecursion, Contains, list_all}
use Rattle.tla_values.specs.Sets.{Normal}
use Rattle.tla_values.specs.declared.value.Value.{Value}
use Rattle.tla_meaning.specs.declared.job.State.{State}
use Rattle.tla_meaning.specs.declared.outcome.Outcome.{Outcome}
use Rattle.tla_meaning.specs.Scopes.{Scope}
use Rattle.tla_meaning.proofs.Laws.{none≢some}
use Rattle.tla_meaning.proofs.Views.{and_left, and_right, and_both, false≢true}
use Rattle.kernel_trees.specs.declared.kernel.Ker.{Ker}
use Rattle.kernel_trees.specs.declared.path.AssignedStep.{AssignedStep}
use Rattle.kernel_trees.specs.declared.path.AssignedStep.TheVariants as mark
use Rattle.kernel_trees.specs.Assignments.{HasMember, is_in, open_names, reads_late}
use Rattle.kernel_trees.specs.Paths.{Marks, mentions, numbers, sets}
use Rattle.kernel_trees.specs.Picks.{Picked}
use Rattle.kernel_trees.specs.Sound.{Context, is_finite, kind_at, passes, picked_kinds, sound, sound_assigned, sound_guard, sound_pick}
use Rattle.kernel_trees.specs.Trees.{as_expr}
use Rattle.kernel_trees.specs.TypeKinds as kind
use Rattle.kernel_trees.specs.TypeKinds.{Kind, is_kind, members}
use Rattle.kernel_trees.proofs.SoundNames.{sound_below}
use Rattle.kernel_trees.proofs.SoundRows.{found, sets_of}
use Rattle.kernel_ranges.specs.Ranges.{is_within}
use Rattle.kernel_shapes.specs.Kernel.{ker_shape, kinds_in}
use Rattle.kernel_shapes.specs.Levels.{Assigns, in_next, in_state}
use Rattle.kernel_shapes.specs.Shape.{inside}
use Rattle.kernel_shapes.specs.Sized.{Extent}
use Rattle.kernel_shapes.specs.Systems.{no_scope}
use Rattle.kernel_shapes.specs.TypedExtents.{without_shape}
use Rattle.kernel_shapes.proofs.FormLaw.{form_fits}
use Rattle.kernel_shapes.proofs.KernelLaw.{each_kernel_value_fits, tree_expanded}
use Rattle.kernel_shapes.proofs.KindLaw.{member_kind}
use Rattle.kernel_shapes.proofs.PathLaw.{Along as Fitting, NowIs, One, Standing, Within, finite_tree, normal_scope, quiet, tree_shape}
use Rattle.tree_bounds.specs.Bounded.{with_bounds}
use Rattle.tree_bounds.specs.Laws.{Covers}
use Rattle.tree_bounds.proofs.Lying.{each_range_lies}
use Rattle.tree_bounds.proofs.SameExpressions.{same_forms, same_outcomes}
use Rattle.path_bounds.specs.BoundedPaths.{Begins, HasNow, IsOwnNext, StartsAt, bounded_step, bounded_steps, past}
use Rattle.path_bounds.specs.Steps.{PathWithin, StepWithin, Takes, scope_past}
use Rattle.path_bounds.proofs.Assigning.{assigned_fits}
use Rattle.path_bounds.proofs.Picking.{Asked, asked, of_members, picked_fits}
use Rattle.path_bounds.proofs.SameEffects.{bounded_sets, outcomes_same, picking_same}

-- ---- a step with bounds is taken as the step is

takes_same : (w : ℕ) (g : Extent) (s t : State) (z : AssignedStep) (vs : List Value) (sc : Scope) → Takes (Some w) s t (bounded_step w g z) vs sc → Takes (Some w) s t z vs sc
takes_same w g s t (mark.Guard k b) vs sc h = sym (same_outcomes w k (g ∷ []) (Some w) sc s t) ∙ h
takes_same w g s t (mark.Pick ps) vs sc h = subst (λ (os : List Outcome). Picked os vs) (outcomes_same w g (Some w) s t ps sc) h
takes_same w g s t (mark.Equals i k) vs sc h = (h.0, (sym (same_outcomes w k (g ∷ []) (Some w) sc s t) ∙ h.1.0, h.1.1))
takes_same w g s t (mark.Among i k) vs sc h = subst (HasMember t i) (same_forms w k (g ∷ []) (Some w) sc s t) h

past_same : (w : ℕ) (g : Extent) (z : AssignedStep) (vs : List Value) (sc : Scope) → scope_past (bounded_step w g z) vs sc ≡ scope_past z vs sc
past_same w g (mark.Guard k b) vs sc = refl
past_same w g (mark.Pick ps) vs sc = picking_same w g ps vs sc
past_same w g (mark.Equals i k) vs sc = refl
past_same w g (mark.Among i k) vs sc = refl

-- ---- options

not_is : (b : Bool) → IsTrue (not b) → b ≡ false
not_is true h = absurd (false≢true h)
not_is false h = refl

is_not : (b : Bool) → b ≡ false → IsTrue (not b)
is_not b e = ap not e

what_passes : {X : Type 0} (test : X → Bool) (o : Option X) → IsTrue (passes test o) → (x : X) × (o ≡ Some x) × IsTrue (test x)
what_passes test None h = absurd (false≢true h)
what_passes test (Some x) h = (x, refl, h)

kinds_there : (o : Option (List Kind)) (ms : List Kind) → option_and_then members o ≡ Some ms → (as' : List Kind) × (o ≡ Some as') × (members as' ≡ Some ms)
kinds_there None ms e = absurd (none≢some e)
kinds_there (Some as') ms e = (as', refl, e)

normal_there : (vs : List Value) (i : ℕ) (v : Value) → AllByRecursion Normal vs → slice_get vs i ≡ Some v → Normal v
normal_there [] i v h e = absurd (none≢some e)
normal_there (u ∷ vs) zero v h e = subst Normal (same e) h.0
  where
    same : {x y : Value} → Some x ≡ Some y → x ≡ y
    same q = cc
normal_there (u ∷ vs) (suc i) v h e = normal_there vs i v h.1 e

the_one : (g : Extent) → Contains (g ∷ []) g
the_one g = (0, omega arith, refl)

-- ---- where a path comes to these steps

pub record Comes (how : Assigns) (names : List Kind) (m : Marks) (s t : State) (zs : List AssignedStep) (sc : Scope) (g : Extent) : Type 0 where
  pub before : List ℕ
  pub context : Context
  pub fits : Fitting how names m before context sc g s t
  pub steps : IsTrue (sound_assigned names context zs)
  pub late : IsTrue (reads_late m before zs)

module _ (how : Assigns) (w : ℕ) (wide : 2 ≤ w) (names : List Kind) (m : Marks) (s t : State) where
  -- a tree that reads no marked name before its assignment reads names with shapes alone
  reads_shaped : (before : List ℕ) (c : Context) (g : Extent) (k : Ker) (b : Bool) → Standing how names m before c g → sound names k c b ≡ true →
      IsTrue (not (mentions (open_names m before) k)) → mentions (without_shape g) k ≡ false
  reads_shaped before c g k b a h e =
      quiet (length names) (without_shape g) (open_names m before) covers k (sound_below names k c b h) (not_is (mentions (open_names m before) k) e)
    where
      covers : Within (length names) (without_shape g) (open_names m before)
      covers i true l f =
          let z = a.next i l f in
          and_both (m i true) (not (is_in before i)) z.0 (ap not z.1)
      covers i false l f = by how (a.now i l)
        where
          by : (how : Assigns) → NowIs how m before g i → (m i false && not (is_in before i)) ≡ true
          by in_next n = absurd (false≢true (sym n ∙ f))
          by in_state n = let z = n f in and_both (m i false) (not (is_in before i)) z.0 (ap not z.1)

  tree_within : (before : List ℕ) (c : Context) (sc : Scope) (g : Extent) (k : Ker) (b : Bool) → Fitting how names m before c sc g s t → sound names k c b ≡ true →
      IsTrue (not (mentions (open_names m before) k)) → is_within (Some w) (with_bounds w k (g ∷ [])) sc s t ≡ true
  tree_within before c sc g k b a h e =
      let covers : Covers names c k g = record { types = a.stands.types; reads = is_not (mentions (without_shape g) k) (reads_shaped before c g k b a.stands h e) } in
      each_range_lies w names k c b (g ∷ []) g sc s t wide h (covers, tt) (the_one g) a.ready

  one_within : (before : List ℕ) (c : Context) (sc : Scope) (g : Extent) (k : Ker) (b : Bool) → Fitting how names m before c sc g s t → sound names k c b ≡ true →
      IsTrue (not (mentions (open_names m before) k)) → (is_within (Some w) (with_bounds w k (g ∷ [])) sc s t && true) ≡ true
  one_within before c sc g k b a h e =
      and_both (is_within (Some w) (with_bounds w k (g ∷ [])) sc s t) true (tree_within before c sc g k b a h e) refl

  sets_within : (before : List ℕ) (c : Context) (sc : Scope) (g : Extent) (ps : List (ℕ × Ker)) → Fitting how names m before c sc g s t → Asked names c m before ps →
      list_all (λ k. is_within (Some w) k sc s t) (sets (bounded_sets w g ps)) ≡ true
  sets_within before c sc g [] a h = refl
  sets_within before c sc g (p ∷ ps) a h =
      and_both (is_within (Some w) (with_bounds w p.1 (g ∷ [])) sc s t) _ (tree_within before c sc g p.1 false a h.0.0 h.0.1) (sets_within before c sc g ps a h.1)

  pub step_within : (z : AssignedStep) (zs : List AssignedStep) (sc : Scope) (g : Extent) → Comes how names m s t (z ∷ zs) sc g → StepWithin (Some w) s t (bounded_step w g z) sc
  step_within (mark.Guard k b) zs sc g r =
      one_within r.before r.context sc g k false r.fits
      (and_right (is_kind kind.Truth (kind_at k)) (sound names k r.context false) (and_left (sound_guard names r.context k) (sound_assigned names r.context zs) r.steps))
      (and_left (not (mentions (open_names m r.before) k)) (reads_late m r.before zs) r.late)
  step_within (mark.Pick ps) zs sc g r =
      sets_within r.before r.context sc g ps r.fits
      (asked names r.context m r.before ps (and_left (sound_pick names r.context ps) _ r.steps) (and_left _ (reads_late m r.before zs) r.late))
  step_within (mark.Equals i k) zs sc g r =
      one_within r.before r.context sc g k false r.fits
      (and_right (passes (λ d. is_kind d (kind_at k)) (slice_get names i)) (sound names k r.context false) (and_left _ (sound_assigned names r.context zs) r.steps))
      (and_left (not (mentions (open_names m r.before) k)) (reads_late m (i ∷ r.before) zs) r.late)
  step_within (mark.Among i k) zs sc g r =
      one_within r.before r.context sc g k true r.fits
      (and_right (passes (λ d. is_kind (kind.Set d) (kind_at k)) (slice_get names i) && is_finite k) (sound names k r.context true) (and_left _ (sound_assigned names r.context zs) r.steps))
      (and_left (not (mentions (open_names m r.before) k)) (reads_late m (i ∷ r.before) zs) r.late)

  -- a step that is taken leads to the next one
  pub goes_on : (z : AssignedStep) (zs : List AssignedStep) (vs : List Value) (sc : Scope) (g : Extent) → Comes how names m s t (z ∷ zs) sc g → Takes (Some w) s t z vs sc →
      Comes how names m s t zs (scope_past z vs sc) (past w how z g)
  goes_on (mark.Guard k b) zs vs sc g r q = record {
    before = r.before;
    context = r.context;
    fits = r.fits;
    steps = and_right (sound_guard names r.context k) (sound_assigned names r.context zs) r.steps;
    late = and_right (not (mentions (open_names m r.before) k)) (reads_late m r.before zs) r.late;
  }
  goes_on (mark.Pick ps) zs vs sc g r q =
      let test : List Kind → Bool = λ ms. sound_assigned names (r.context ++ zip (numbers ps) ms) zs in
      let z = what_passes test (picked_kinds ps) (and_right (sound_pick names r.context ps) (passes test (picked_kinds ps)) r.steps) in
      let y = kinds_there (kind.all_there (map (λ (p : ℕ × Ker). kind_at p.1) ps)) z.0 z.1 in
      let early : Bool = list_all (λ (k : Ker). not (mentions (open_names m r.before) k)) (sets ps) in
      record {
        before = r.before;
        context = r.context ++ zip (numbers ps) z.0;
        fits = picked_fits how w wide names m r.before r.context sc g s t ps z.0 vs r.fits
            (asked names r.context m r.before ps (and_left (sound_pick names r.context ps) (passes test (picked_kinds ps)) r.steps) (and_left early (reads_late m r.before zs) r.late))
            (of_members ps y.0 z.0 y.1 (sets_of y.0 z.0 y.2)) q;
        steps = z.2;
        late = and_right early (reads_late m r.before zs) r.late;
      }
  goes_on (mark.Equals i k) zs vs sc g r q =
      let typed : Bool = passes (λ d. is_kind d (kind_at k)) (slice_get names i) in
      let own : Bool = sound names k r.context false in
      let front = and_left (typed && own) (sound_assigned names r.context zs) r.steps in
      let z = what_passes (λ d. is_kind d (kind_at k)) (slice_get names i) (and_left typed own front) in
      let here = and_right typed own front in
      let reads = and_left (not (mentions (open_names m r.before) k)) (reads_late m (i ∷ r.before) zs) r.late in
      let shaped = tree_shape how w wide names m r.before r.context g k false z.0 r.fits.stands here (found z.0 (kind_at k) z.2) reads in
      record {
        before = i ∷ r.before;
        context = r.context;
        fits = assigned_fits how names m r.before r.context sc g s t i z.0 (ker_shape w k g) q.0 r.fits z.1 shaped.0 q.1.1
            (each_kernel_value_fits w k sc g s t q.0 wide r.fits.ready shaped.1 q.1.0);
        steps = and_right (typed && own) (sound_assigned names r.context zs) r.steps;
        late = and_right (not (mentions (open_names m r.before) k)) (reads_late m (i ∷ r.before) zs) r.late;
      }
  goes_on (mark.Among i k) zs vs sc g r q =
      let typed : Bool = passes (λ d. is_kind (kind.Set d) (kind_at k)) (slice_get names i) in
      let own : Bool = sound names k r.context true in
      let front = and_left ((typed && is_finite k) && own) (sound_assigned names r.context zs) r.steps in
      let ends = and_left (typed && is_finite k) own front in
      let z = what_passes (λ d. is_kind (kind.Set d) (kind_at k)) (slice_get names i) (and_left typed (is_finite k) ends) in
      let here = and_right (typed && is_finite k) own front in
      let reads = and_left (not (mentions (open_names m r.before) k)) (reads_late m (i ∷ r.before) zs) r.late in
      let shaped = tree_shape how w wide names m r.before r.context g k true (kind.Set z.0) r.fits.stands here (found (kind.Set z.0) (kind_at k) z.2) reads in
      let normal = r.fits.normal in
      record {
        before = i ∷ r.before;
        context = r.context;
        fits = assigned_fits how names m r.before r.context sc g s t i z.0 (inside (ker_shape w k g)) q.value r.fits z.1 (member_kind z.0 (ker_shape w k g) shaped.0) q.has
            (form_fits w (as_expr k) (kinds_in k) sc g s t q.form q.value wide (tree_expanded k) (finite_tree k (and_right typed (is_finite k) ends)) r.fits.ready
            (normal_scope sc normal.bound normal.named) normal.now normal.next shaped.1 q.made q.set (normal_there t.vals i q.value normal.next q.has) q.belongs);
        steps = and_right ((typed && is_finite k) && own) (sound_assigned names r.context zs) r.steps;
        late = and_right (not (mentions (open_names m r.before) k)) (reads_late m (i ∷ r.before) zs) r.late;
      }

  pub path_within : (zs : List AssignedStep) (sc : Scope) (g : Extent) → Comes how names m s t zs sc g → PathWithin (Some w) s t (bounded_steps w how zs g) sc
  path_within [] sc g r = tt
  path_within (z ∷ zs) sc g r = (
    step_within z zs sc g r,
    λ vs q. subst (PathWithin (Some w) s t (bounded_steps w how zs (past w how z g))) (sym (past_same w g z vs sc))
        (path_within zs (scope_past z vs sc) (past w how z g) (goes_on z zs vs sc g r (takes_same w g s t z vs sc q))),
  )

-- ---- from the start

begins_now : (how : Assigns) (m : Marks) (g : Extent) (i : ℕ) → HasNow how m g i → NowIs how m [] g i
begins_now in_next m g i h = h
begins_now in_state m g i h = λ e. (h e, refl)

own_one : (how : Assigns) (s t : State) → IsOwnNext how s t → One how s t
own_one in_next s t h = h
own_one in_state s t h = h

pub within_from : (how : Assigns) (w : ℕ) (names : List Kind) (m : Marks) (s t : State) (zs : List AssignedStep) (g : Extent) → 2 ≤ w → IsTrue (sound_assigned names [] zs) →
    IsTrue (reads_late m [] zs) → Begins how names m g → StartsAt how g s t → PathWithin (Some w) s t (bounded_steps w how zs g) no_scope
within_from how w names m s t zs g wide h l b f =
    path_within how w wide names m s t zs no_scope g (record {
      before = [];
      context = [];
      fits = record {
        stands = record {
          types = b.types;
          now = λ i q. begins_now how m g i (b.now i q);
          next = λ i q e. (b.next i q e, refl);
        };
        ready = f.ready;
        normal = f.normal;
        one = own_one how s t f.own;
      };
      steps = h;
      late = l;
    })
