-- Where the paths of Next, of Init and of CInit are taken.
use Rattle.std.proofs.Common.{◌≡◌, ℕ, zero, suc, ◌<◌, Bool, true, IsTrue, List, [], ◌∷◌, map, take, length, Some}
use Rattle.std.proofs.Common.{option_map, refl, sym, ◌∙◌, ap, subst, arith}
use Rattle.sat_formula.specs.Formula.{Satisfies}
use Rattle.tla_values.specs.declared.value.Value.{Value}
use Rattle.tla_meaning.specs.declared.job.Job.{Job}
use Rattle.tla_meaning.specs.declared.job.State.{State}
use Rattle.tla_meaning.specs.Executions.{IsState, constants}
use Rattle.cell_arena.specs.declared.build.Build.{Build}
use Rattle.cell_arena.specs.declared.kinds.CellId.{CellId}
use Rattle.cell_arena.specs.declared.kinds.CellKind.{CellKind}
use Rattle.kernel_trees.specs.declared.path.Assigned.{Assigned}
use Rattle.kernel_trees.specs.declared.system.System.{System}
use Rattle.kernel_trees.specs.Systems.{constants_first}
use Rattle.kernel_trees.specs.TypeKinds.{Kind}
use Rattle.kernel_shapes.specs.declared.bounds.Shape.{Shape as Code}
use Rattle.kernel_shapes.specs.Fits.{StateFits}
use Rattle.kernel_shapes.specs.Laws.{FitsTyped}
use Rattle.kernel_shapes.specs.TypedStates.{EachOfKind}
use Rattle.kernel_shapes.specs.Levels.{at_names, constant_shapes, from_state, in_next, kept_constants}
use Rattle.kernel_shapes.specs.Shape.{Shape}
use Rattle.kernel_shapes.specs.Systems.{assigns as must_assign, every_name, system_parts, the_constants_of}
use Rattle.kernel_shapes.proofs.StartLaw.{constants_fit}
use Rattle.shape_bounds.specs.declared.paths.Target.{Target}
use Rattle.shape_bounds.specs.Extents.{assigns_in, extent_of, given_shape, given_shapes, kept_extent}
use Rattle.shape_bounds.specs.Kept.{capped}
use Rattle.path_bounds.specs.BoundedPaths.{Begins, StartsAt}
use Rattle.path_bounds.proofs.Starting.{all_given, constants_begin, constants_given, constants_start, next_begins}
use Rattle.path_bounds.proofs.Starting.{next_starts, of_constants, start_begins, state_starts}
use Rattle.path_walks.specs.Steps.{assigns}
use Rattle.branch_cells.specs.declared.branch.BranchCells.{BranchCells}
use Rattle.branch_cells.specs.declared.way.Way.{Way}
use Rattle.branch_cells.specs.Branches.{AreOfKinds}
use Rattle.cell_merge.proofs.Edges.{sort-there}
use Rattle.typed_cells.specs.KindSorts.{sort_of}
use Rattle.level_laws.specs.Constraints.{Assignment}
use Rattle.step_laws.specs.Encodable.{start_marks, step_marks}
use Rattle.step_laws.specs.Laws.{IsNext}
use Rattle.step_laws.specs.Transitions.{HasConstants}
use Rattle.step_branches.specs.Branches.{width_of}
use Rattle.step_branches.specs.Readings.{state_at, values_at}
use Rattle.step_branches.specs.Ways.{shapes_of_constants}
use Rattle.step_branches.proofs.Choosing.{AllThere}
use Rattle.step_branches.proofs.Covers.{constants_covered, covers, one_of_all}
use Rattle.step_branches.proofs.Fitting.{fronts_same, next_known, nothing_fits, start_fits, state_is, state_reads}
use Rattle.step_branches.proofs.Fitting.{step_fits, values_read}
use Rattle.step_branches.proofs.Given.{all_kept, constants_kept, extent_given, mean_constants, no_shapes, none_kept}
use Rattle.step_branches.proofs.Parts.{FitsWay, Scene}
use Rattle.step_branches.proofs.Premises.{GoesFromConstants, GoesFromLevel, GoesFromNothing}
use Rattle.step_branches.proofs.Runs.{all_normal, follows, keeps_constants}
use Rattle.step_branches.proofs.SystemFacts as facts

-- ---- cells of kinds

pub kinds_there : (b : Build) (names : List Kind) (ids : List CellId) → AreOfKinds b.arena.kinds names ids →
    AllThere b ids
kinds_there b [] [] h i d lt = absurd (omega (arith, lt))
kinds_there b [] (id ∷ ids) h i d lt = absurd h
kinds_there b (k ∷ ks) [] h i d lt = absurd h
kinds_there b (k ∷ ks) (id ∷ ids) h zero d lt = sort-there b.arena.kinds (sort_of k) id h.0
kinds_there b (k ∷ ks) (id ∷ ids) h (suc i) d lt = kinds_there b ks ids h.1 i d (omega (arith, lt))

pub kinds_many : (kinds : List CellKind) (names : List Kind) (ids : List CellId) → AreOfKinds kinds names ids →
    length ids ≡ length names
kinds_many kinds [] [] h = refl
kinds_many kinds [] (id ∷ ids) h = absurd h
kinds_many kinds (k ∷ ks) [] h = absurd h
kinds_many kinds (k ∷ ks) (id ∷ ids) h = ap suc (kinds_many kinds ks ids h.1)

-- ---- Next

module _ (job : Job) (s : System) (old new : Build) (on : Assignment → Bool) (cells : List CellId) (codes : List Code)
    (way : Way) (r : BranchCells)
    (h : GoesFromLevel job s old new on cells codes way r) where
  abbrev fixed : List Bool
  fixed = s.ker.fixed

  abbrev names : List Kind
  names = h.can.names

  first_ones : IsTrue (constants_first fixed)
  first_ones = facts.first_ones (width_of old) job s h.can h.stands

  many : length way.others ≡ length job.names
  many =
      kinds_many old.arena.kinds names way.others h.follow.ready.others
      ∙ (sym (facts.filled (width_of old) job s h.can h.stands) ∙ facts.many (width_of old) job s h.can h.stands)

  cells_many : length cells ≡ length job.names
  cells_many = ap length (sym h.begins.is.others) ∙ many

  step_state : (a : Assignment) → IsState job (state_at old.arena cells a)
  step_state a = state_is job old cells a cells_many

  step_starts : (a : Assignment) → Satisfies a old.formula → on a ≡ true → (t : State) →
      IsNext job (state_at old.arena cells a) t →
      FitsWay way names (step_marks s) (state_at old.arena cells a) t
  step_starts a sat o t l = record {
    extent = from_state fixed h.shapes;
    given = extent_given (map (λ b. Some b) h.shapes) (kept_constants fixed h.shapes) way.now way.next
        (all_given h.shapes (values_at old.arena cells a) codes typed.0 (sym h.kept) ∙ ap given_shapes
        (sym h.begins.shapes_now))
        (constants_given fixed h.shapes t.vals codes (shapes_of_constants fixed codes) go.ready.next (sym h.kept)
        (mean_constants fixed codes)
        ∙ ap given_shapes (sym h.begins.shapes_next));
    begins = subst (λ (g : Target). Begins (assigns_in g) names (step_marks s) (from_state fixed h.shapes))
        (sym h.begins.is.target)
        (next_begins names (step_marks s) fixed h.shapes filled
        (facts.step_marked (width_of old) job s h.can h.stands) typed.1);
    starts = subst (λ (g : Target). StartsAt (assigns_in g) (from_state fixed h.shapes) (state_at old.arena cells a)
        t) (sym h.begins.is.target) go;
  }
    where
      filled : length fixed ≡ length names
      filled = facts.filled (width_of old) job s h.can h.stands

      typed : FitsTyped names h.shapes (state_at old.arena cells a)
      typed = h.fits a sat o

      go : StartsAt in_next (from_state fixed h.shapes) (state_at old.arena cells a) t
      go =
          next_starts names fixed h.shapes (state_at old.arena cells a) t filled typed
          (keeps_constants job fixed h.stands.fixed first_ones (state_at old.arena cells a) t (step_state a) l.0 l.1)
          (all_normal (values_at old.arena cells a) (step_state a).normal) (all_normal t.vals l.0.normal)

  pub step_scene : Scene job old way s.next on (state_at old.arena cells) (IsNext job) (λ u t. u) (λ t. t)
  step_scene = record {
    names = names;
    marks = step_marks s;
    free = constants job;
    extent = record {
      now = map given_shape h.shapes;
      next = map given_shape (of_constants fixed h.shapes);
      bound =
          [];
    };
    given = extent_given (map given_shape h.shapes) (map given_shape (of_constants fixed h.shapes)) way.now way.next
        (all_kept h.shapes codes h.kept ∙ ap given_shapes (sym h.begins.shapes_now))
        (constants_kept fixed h.shapes codes h.kept ∙ ap given_shapes (sym h.begins.shapes_next));
    wide = h.wide;
    width = h.follow.ready.width;
    bound = h.begins.is.bound;
    there = h.follow.ready.cells.there;
    others = kinds_there old names way.others h.follow.ready.others;
    many = many;
    reads_on = h.reads;
    reads = state_reads old cells;
    paths = facts.step_path (width_of old) job s h.can h.stands;
    state = λ e t l. l.0;
    fits = λ a sat o t l.
        step_fits old job fixed first_ones (facts.counts (width_of old) job s h.can h.stands) cells way.env
        h.begins.is.bound h.begins.following a
        h.begins.current cells_many t l;
    starts = step_starts;
    legal = λ a t sat o st k. (
      st,
      sym
          (k ∙ ap (λ (ids : List CellId). take (constants job) (values_at old.arena ids a)) h.begins.is.others),
    );
    known = λ x one e t t' l l' m same.
        next_known job (assigns x.steps)
        (covers job fixed h.stands.fixed first_ones (step_marks s)
        (facts.step_marked (width_of old) job s h.can h.stands) x.steps
        (λ i. one_of_all (λ (y : Assigned). must_assign (step_marks s) y.steps i) s.next x (h.can.next.assign i) one)
        (width_of old) e t m)
        t t' l.0 l'.0 (sym l.1 ∙ l'.1) same;
  }

  pub step_free : step_scene.free ≡ constants job
  unfolding step_scene
  step_free = refl

-- ---- Init

module _ (job : Job) (s : System) (old new : Build) (on : Assignment → Bool) (cells : List CellId) (codes : List Code)
    (way : Way) (r : BranchCells)
    (h : GoesFromConstants job s old new on cells codes way r) where
  abbrev start_shapes : List Shape
  start_shapes = constant_shapes (system_parts old.arena.width s)

  abbrev start_values : Assignment → List Value
  start_values a = take (constants job) (values_at old.arena cells a)

  start_many : length way.others ≡ length job.names
  start_many =
      kinds_many old.arena.kinds h.can.names way.others h.follow.ready.others
      ∙ (sym (facts.filled (width_of old) job s h.can h.stands) ∙ facts.many (width_of old) job s h.can h.stands)

  start_starts : (a : Assignment) → Satisfies a old.formula → on a ≡ true → (t : State) →
      HasConstants job (start_values a) t →
      FitsWay way h.can.names (start_marks s) t t
  start_starts a sat o t l = record {
    extent = at_names (kept_constants s.ker.fixed start_shapes);
    given = extent_given (kept_constants s.ker.fixed start_shapes) (kept_constants s.ker.fixed start_shapes) way.now
        way.next
        (kept ∙ ap given_shapes (sym h.begins.shapes_now)) (kept ∙ ap given_shapes (sym h.begins.shapes_next));
    begins = subst (λ (g : Target). Begins (assigns_in g) h.can.names (start_marks s)
        (at_names (kept_constants s.ker.fixed start_shapes)))
        (sym h.begins.is.target)
        (start_begins h.can.names (start_marks s) s.ker.fixed start_shapes filled
        (facts.start_marked (width_of old) job s h.can h.stands) both.1);
    starts = subst (λ (g : Target). StartsAt (assigns_in g) (at_names (kept_constants s.ker.fixed start_shapes)) t t)
        (sym h.begins.is.target)
        (state_starts (kept_constants s.ker.fixed start_shapes) t both.0 (all_normal t.vals l.0.normal));
  }
    where
      filled : length s.ker.fixed ≡ length h.can.names
      filled = facts.filled (width_of old) job s h.can h.stands

      both : StateFits (kept_constants s.ker.fixed start_shapes) t.vals × EachOfKind h.can.names start_shapes
      both =
          constants_fit old.arena.width s h.can.names t h.wide filled
          (l.0.fills ∙ (sym (facts.many (width_of old) job s h.can h.stands) ∙ filled))
          h.can.constants (all_normal t.vals l.0.normal) (follows old.arena.width s.constants t t (h.held a sat o t l))

      kept : map (option_map capped) (kept_constants s.ker.fixed start_shapes) ≡ given_shapes
          (shapes_of_constants s.ker.fixed codes)
      kept =
          constants_given s.ker.fixed start_shapes t.vals codes (shapes_of_constants s.ker.fixed codes) both.0
          (sym h.kept)
          (mean_constants s.ker.fixed codes)

  pub start_scene : Scene job old way s.start on start_values (HasConstants job) (λ u t. t) (λ t. t)
  start_scene = record {
    names = h.can.names;
    marks = start_marks s;
    free = constants job;
    extent = at_names (map given_shape (of_constants s.ker.fixed start_shapes));
    given = extent_given (map given_shape (of_constants s.ker.fixed start_shapes))
        (map given_shape (of_constants s.ker.fixed start_shapes)) way.now way.next
        (constants_kept s.ker.fixed start_shapes codes h.kept ∙ ap given_shapes (sym h.begins.shapes_now))
        (constants_kept s.ker.fixed start_shapes codes h.kept ∙ ap given_shapes (sym h.begins.shapes_next));
    wide = h.wide;
    width = h.follow.ready.width;
    bound = h.begins.is.bound;
    there = h.follow.ready.cells.there;
    others = kinds_there old h.can.names way.others h.follow.ready.others;
    many = start_many;
    reads_on = h.reads;
    reads = λ a b ag. ap (take (constants job)) (values_read old cells a b ag);
    paths = facts.start_path (width_of old) job s h.can h.stands;
    state = λ e t l. l.0;
    fits = λ a sat o t l.
        start_fits old job s.ker.fixed (facts.first_ones (width_of old) job s h.can h.stands)
        (facts.counts (width_of old) job s h.can h.stands)
        cells way.env h.begins.is.bound h.begins.following a
        (h.begins.current ∙ ap (λ (n : ℕ). take n cells) (facts.counts (width_of old) job s h.can h.stands)) t l;
    starts = start_starts;
    legal = λ a t sat o st k. (
      st,
      k ∙ ap (λ (ids : List CellId). take (constants job) (values_at old.arena ids a))
          h.begins.is.others,
    );
    known = λ x one e t t' l l' m same.
        next_known job (assigns x.steps)
        (covers job s.ker.fixed h.stands.fixed (facts.first_ones (width_of old) job s h.can h.stands) (start_marks s)
        (λ i q. facts.start_marked (width_of old) job s h.can h.stands i true q) x.steps
        (λ i. one_of_all (λ (y : Assigned). must_assign (start_marks s) y.steps i) s.start x (h.can.start.assign i)
        one) (width_of old) t t m)
        t t' l.0 l'.0 (l.1 ∙ sym l'.1) same;
  }

  pub start_free : start_scene.free ≡ constants job
  unfolding start_scene
  start_free = refl

-- ---- CInit

module _ (job : Job) (s : System) (old new : Build) (cells : List CellId) (way : Way) (r : BranchCells)
    (h : GoesFromNothing job s old new cells way r) where
  nothing_starts : (t : State) → IsState job t → FitsWay way h.can.names every_name t t
  nothing_starts t st = record {
    extent = at_names (no_shapes s.ker.fixed);
    given = nothing_given;
    begins = subst (λ (g : Target). Begins (assigns_in g) h.can.names every_name (at_names (no_shapes s.ker.fixed)))
        (sym h.begins.is.target)
        (constants_begin h.can.names s.ker.fixed (facts.filled (width_of old) job s h.can h.stands));
    starts = subst (λ (g : Target). StartsAt (assigns_in g) (at_names (no_shapes s.ker.fixed)) t t)
        (sym h.begins.is.target)
        (constants_start s.ker.fixed t (facts.many (width_of old) job s h.can h.stands ∙ sym st.fills)
        (all_normal t.vals st.normal));
  }
    where
      nothing_given : kept_extent (at_names (no_shapes s.ker.fixed)) ≡ extent_of way.now way.next []
      nothing_given =
          extent_given (no_shapes s.ker.fixed) (no_shapes s.ker.fixed) way.now way.next
          (none_kept s.ker.fixed ∙ ap given_shapes (sym h.begins.shapes_now))
          (none_kept s.ker.fixed ∙ ap given_shapes (sym h.begins.shapes_next))

  pub constants_scene : Scene job old way s.constants (λ a. true) (λ a. tt) (λ (e : Unit {0}) t. IsState job t)
      (λ e t. t) (λ t. take (constants job) t.vals)
  constants_scene = record {
    names = h.can.names;
    marks = every_name;
    free = 0;
    extent = at_names (no_shapes s.ker.fixed);
    given = extent_given (no_shapes s.ker.fixed) (no_shapes s.ker.fixed) way.now way.next
        (none_kept s.ker.fixed ∙ ap given_shapes (sym h.begins.shapes_now))
        (none_kept s.ker.fixed ∙ ap given_shapes (sym h.begins.shapes_next));
    wide = h.wide;
    width = h.follow.ready.width;
    bound = h.begins.is.bound;
    there = h.follow.ready.cells.there;
    others = kinds_there old h.can.names way.others h.follow.ready.others;
    many = kinds_many old.arena.kinds h.can.names way.others h.follow.ready.others
        ∙ (sym (facts.filled (width_of old) job s h.can h.stands) ∙ facts.many (width_of old) job s h.can h.stands);
    reads_on = λ a b ag. refl;
    reads = λ a b ag. refl;
    paths = facts.constant_path (width_of old) job s h.can h.stands;
    state = λ e t l. l;
    fits = λ a sat o t l. nothing_fits old s.ker.fixed way.env h.begins.is.bound h.begins.current h.begins.following a
        t;
    starts = λ a sat o t l. nothing_starts t l;
    legal = λ a t sat o st k. st;
    known = λ x one e t t' l l' m same.
        fronts_same (constants job) t.vals t'.vals (l.fills ∙ sym l'.fills)
        (λ i lt k. same i
        (constants_covered s.ker.fixed (facts.first_ones (width_of old) job s h.can h.stands) x.steps
        (λ i. one_of_all (λ (y : Assigned). must_assign (the_constants_of s.ker.fixed) y.steps i) s.constants x
        (h.can.constants.assign i) one)
        (width_of old) t t m i (subst (λ (n : ℕ). i < n) (sym (facts.counts (width_of old) job s h.can h.stands)) lt)));
  }
