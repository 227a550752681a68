-- The conditions of the assumption and of the invariants, at the states of a job.
use Rattle.std.proofs.Common.{◌≡◌, ℕ, zero, suc, ◌<◌, ◌≤◌, Bool, true, false, not, ◌||◌, IsTrue}
use Rattle.std.proofs.Common.{List, [], ◌∷◌, map, take, length, Option, Some, None, refl, sym, ◌∙◌, ap}
use Rattle.std.proofs.Common.{ap₂, subst, arith}
use Rattle.std.specs.Prelude.{All, nat_le, nat_lt, slice_get}
use Rattle.std.specs.List.{list_all, list_any}
use Rattle.std.proofs.lemmas.List.Elements.{All-cons, All-head, All-nil, All-tail}
use Rattle.sat_formula.specs.Formula.{Satisfies}
use Rattle.tla_values.specs.declared.value.Value.{Value}
use Rattle.tla_meaning.specs.declared.job.Job.{Job}
use Rattle.tla_meaning.specs.declared.job.State.{State}
use Rattle.tla_meaning.specs.declared.outcome.Outcome.{Outcome}
use Rattle.tla_meaning.specs.Actions.{val}
use Rattle.tla_meaning.specs.Executions.{IsState, constants, no_scope}
use Rattle.tla_meaning.proofs.Views.{false≢true}
use Rattle.cell_arena.specs.declared.build.Build.{Build}
use Rattle.cell_arena.specs.declared.kinds.CellId.{CellId}
use Rattle.cell_arena.specs.Cells.{Cells as Arena}
use Rattle.cell_arena.specs.Decode.{decode}
use Rattle.kernel_trees.specs.declared.kernel.Ker.{Ker}
use Rattle.kernel_trees.specs.declared.system.System.{System}
use Rattle.kernel_trees.specs.declared.kernel.KerOp.{KerOp}
use Rattle.kernel_trees.specs.declared.kernel.KerOp.TheVariants as ker
use Rattle.kernel_trees.specs.Paths.{Marks, mentions, mentions_at}
use Rattle.kernel_trees.specs.Sound.{sound}
use Rattle.kernel_trees.specs.Systems.{constants_first}
use Rattle.kernel_trees.specs.Trees.{ker_val}
use Rattle.kernel_trees.specs.TypeKinds.{Kind}
use Rattle.kernel_trees.proofs.SoundNames.{sound_below}
use Rattle.kernel_trees.proofs.Trees.{Each, by_nodes, mentions-roll}
use Rattle.kernel_shapes.specs.declared.bounds.Shape.{Shape as Code}
use Rattle.kernel_shapes.specs.Codes.{mean}
use Rattle.kernel_shapes.specs.Fits.{FitAll, StateFits}
use Rattle.kernel_shapes.specs.Laws.{FitsTyped}
use Rattle.kernel_shapes.specs.Levels.{at_names, at_state, kept_constants}
use Rattle.kernel_shapes.specs.Shape.{Shape, Empty}
use Rattle.kernel_shapes.specs.Sized.{Extent}
use Rattle.kernel_shapes.specs.TypedExtents.{NamesOfKinds, without_shape}
use Rattle.kernel_shapes.specs.TypedStates.{EachOfKind}
use Rattle.kernel_shapes.proofs.LevelLaw.{has_none, kept_kinds, kept_none}
use Rattle.kernel_shapes.proofs.PathLaw.{Within, quiet}
use Rattle.tree_bounds.specs.Laws.{Covers}
use Rattle.shape_bounds.specs.Extents.{extent_of, kept_extent}
use Rattle.shape_bounds.specs.Kept.{capped}
use Rattle.path_bounds.proofs.Starting.{all_given, constants_given, of_constants as of_constants_too}
use Rattle.expr_rewriter.specs.declared.cell_env.CellEnv.{CellEnv}
use Rattle.expr_rewriter.specs.Environments.{Fits, bound_cell}
use Rattle.branch_cells.specs.declared.branch.Ends.{Ends}
use Rattle.branch_cells.specs.Ends.{AreAllEndsOf, AreEndsOf}
use Rattle.step_branches.specs.Readings.{state_at, values_at}
use Rattle.step_branches.specs.Ways.{of_constants, shapes_of_constants}
use Rattle.step_laws.specs.Encodable.{constant_count, the_variables}
use Rattle.step_laws.specs.Systems.{StandsFor}
use Rattle.step_laws.specs.Transitions.{HasConstants}
use Rattle.encoder_laws.specs.Levels.{HaveTruths, IsTruthOutcome}
use Rattle.step_encoder.specs.inner.Asked.{AreConditionsOf, IsAt, IsConditionOf, names_of, state_env}
use Rattle.step_encoder.proofs.Constants.{at_place, at_take, constants_at, count, others_false, take_at}
use Rattle.step_encoder.proofs.Extents.{mean_constants, or_empty}
use Rattle.step_encoder.proofs.Systems.{IsSoundTruth, Known}

-- ---- extents

less : (m n : ℕ) → suc m ≡ suc n → m ≡ n
less m n q = omega (arith, q)

no_first : (n : ℕ) → 0 ≡ suc n → ⊥
no_first n q = omega (arith, q)

abbrev the_extent : List (Option Shape) → List (Option Shape) → Extent
the_extent os ps = record { now = os; next = ps; bound = [] }

extent_same : (os ps : List (Option Shape)) → os ≡ ps → (qs rs : List (Option Shape)) → qs ≡ rs →
    the_extent os qs ≡ the_extent ps rs
extent_same os ps e qs rs f = ap₂ the_extent e f

pub state_extent : (as' : List Shape) (vs : List Value) (cs : List Code) → FitAll as' vs →
    map mean cs ≡ map capped as' → kept_extent (at_state as') ≡ extent_of cs cs []
state_extent as' vs cs h e = let g = all_given as' vs cs h (sym e) in extent_same _ _ g _ _ g

pub constants_extent : (bs : List Bool) (as' : List Shape) (vs : List Value) (cs : List Code) →
    StateFits (kept_constants bs as') vs → map mean cs ≡ map capped as' →
    kept_extent (at_names (kept_constants bs as')) ≡ extent_of (shapes_of_constants bs cs)
    (shapes_of_constants bs cs) []
constants_extent bs as' vs cs h e =
    let g = constants_given bs as' vs cs (shapes_of_constants bs cs) h (sym e)
    (mean_constants bs cs ∙ same bs (map mean cs)) in
    extent_same _ _ g _ _ g
  where
    same : (bs : List Bool) (as' : List Shape) → or_empty bs as' ≡ of_constants_too bs as'
    same [] as' = refl
    same (b ∷ bs) [] = refl
    same (true ∷ bs) (a ∷ as') = ap (λ (xs : List Shape). a ∷ xs) (same bs as')
    same (false ∷ bs) (a ∷ as') = ap (λ (xs : List Shape). Empty ∷ xs) (same bs as')

-- ---- what a tree reads has shapes

abbrev no_marks : Marks
no_marks i primed = false

state_kinds : (ks : List Kind) (as' : List Shape) → EachOfKind ks as' → NamesOfKinds ks (map (λ a. Some a) as')
state_kinds [] [] h = tt
state_kinds [] (a ∷ as') h = absurd h
state_kinds (k ∷ ks) [] h = absurd h
state_kinds (k ∷ ks) (a ∷ as') h = (h.0, state_kinds ks as' h.1)

state_values : (as' : List Shape) (vs : List Value) → FitAll as' vs → StateFits (map (λ a. Some a) as') vs
state_values [] [] h = tt
state_values (a ∷ as') (v ∷ vs) h = (h.0, state_values as' vs h.1)
state_values [] (v ∷ vs) h = absurd h
state_values (a ∷ as') [] h = absurd h

all_there : (ks : List Kind) (as' : List Shape) (i : ℕ) → EachOfKind ks as' → nat_lt i (length ks) ≡ true →
    has_none (map (λ a. Some a) as') i ≡ true → ⊥
all_there [] as' i h l e = none i l
  where
    none : (i : ℕ) → nat_lt i 0 ≡ true → ⊥
    none i q = grind (arith, q)
all_there (k ∷ ks) [] i h l e = absurd h
all_there (k ∷ ks) (a ∷ as') zero h l e = false≢true e
all_there (k ∷ ks) (a ∷ as') (suc i) h l e = all_there ks as' i h.1 (lower i (length ks) l) e
  where
    lower : (j n : ℕ) → nat_lt (suc j) (suc n) ≡ true → nat_lt j n ≡ true
    lower j n q = grind (arith, q)

reads : (names : List Kind) (k : Ker) (p q : Marks) → IsTrue (sound names k [] false) → Within (length names) p q →
    mentions q k ≡ false → IsTrue (not (mentions p k))
reads names k p q s h e = ap not (quiet (length names) p q h k (sound_below names k [] false s) e)

-- the wider marks may be what nothing reads
none_of : (ks : List Ker) → Each (λ k. mentions no_marks k ≡ false) ks →
    list_any (λ b. b) (map (mentions no_marks) ks) ≡ false
none_of [] h = refl
none_of (k ∷ ks) h = by (mentions no_marks k) (list_any (λ b. b) (map (mentions no_marks) ks)) h.0 (none_of ks h.1)
  where
    by : (a b : Bool) → a ≡ false → b ≡ false → (a || b) ≡ false
    by true b e f = absurd (false≢true (sym e))
    by false b e f = f

none_of_two : (ks : List Ker) → Each (λ k. mentions no_marks k ≡ false) ks →
    list_any (λ b. b) (take 2 (map (mentions no_marks) ks)) ≡ false
none_of_two [] h = refl
none_of_two (a ∷ []) h = none_of (a ∷ []) h
none_of_two (a ∷ b ∷ ks) h = none_of (a ∷ b ∷ []) (h.0, (h.1.0, tt))

node_reads : (o : KerOp) (ks : List Ker) → Each (λ k. mentions no_marks k ≡ false) ks →
    mentions_at no_marks o (map (mentions no_marks) ks) ≡ false
node_reads (ker.Name j primed) ks h = refl
node_reads (ker.Const v) ks h = refl
node_reads ker.NoCase ks h = refl
node_reads ker.Range ks h = none_of_two ks h
node_reads o ks h = none_of ks h

nothing_read : (k : Ker) → mentions no_marks k ≡ false
nothing_read = by_nodes (λ k. mentions no_marks k ≡ false) (λ x h. mentions-roll no_marks x ∙ node_reads x.op x.args h)

pub state_covers : (names : List Kind) (k : Ker) (as' : List Shape) → IsTrue (sound names k [] false) →
    EachOfKind names as' → Covers names [] k (at_state as')
state_covers names k as' s h = record {
  types = record { now = state_kinds names as' h; next = state_kinds names as' h; bound = tt };
  reads = reads names k (without_shape (at_state as')) no_marks s within (nothing_read k);
}
  where
    within : Within (length names) (without_shape (at_state as')) no_marks
    within i true l e = absurd (all_there names as' i h l e)
    within i false l e = absurd (all_there names as' i h l e)

pub constants_cover : (names : List Kind) (k : Ker) (bs : List Bool) (as' : List Shape) →
    IsTrue (sound names k [] false) → length bs ≡ length names → EachOfKind names as' →
    IsTrue (constants_first bs) → mentions (λ i primed. nat_le (count bs) i) k ≡ false →
    Covers names [] k (at_names (kept_constants bs as'))
constants_cover names k bs as' s many h first silent = record {
  types = record { now = kept_kinds bs names as' many h; next = kept_kinds bs names as' many h; bound = tt };
  reads = reads names k (without_shape (at_names (kept_constants bs as')))
      (λ i primed. nat_le (count bs) i) s within silent;
}
  where
    above : (m i : ℕ) → m ≤ i → nat_le m i ≡ true
    above m i q = grind (arith, q)

    within : Within (length names) (without_shape (at_names (kept_constants bs as'))) (λ i primed. nat_le (count bs) i)
    within i true l e = above (count bs) i (others_false bs i first (kept_none bs names as' i many h l e))
    within i false l e = above (count bs) i (others_false bs i first (kept_none bs names as' i many h l e))

-- ---- environments

value_at : (c : Arena) (a : List Bool) (ids : List CellId) (i : ℕ) (id : CellId) → slice_get ids i ≡ Some id →
    slice_get (values_at c ids a) i ≡ Some (decode c a id)
value_at c a [] i id e = absurd (none i e)
  where
    wrong : None ≡ Some id → ⊥
    wrong q = cc

    none : (i : ℕ) → slice_get [] i ≡ Some id → ⊥
    none zero q = wrong q
    none (suc i) q = wrong q
value_at c a (x ∷ xs) zero id e = ap (λ (y : CellId). Some (decode c a y)) (same e)
  where
    same : Some x ≡ Some id → x ≡ id
    same q = cc
value_at c a (x ∷ xs) (suc i) id e = value_at c a xs i id e

some_at : (ids : List CellId) (i : ℕ) (id : CellId) → at_place (map (λ x. Some x) ids) i ≡ Some id →
    slice_get ids i ≡ Some id
some_at [] i id e = absurd (none i e)
  where
    wrong : None ≡ Some id → ⊥
    wrong q = cc

    none : (i : ℕ) → at_place {X = CellId} [] i ≡ Some id → ⊥
    none zero q = wrong q
    none (suc i) q = wrong q
some_at (x ∷ xs) zero id e = e
some_at (x ∷ xs) (suc i) id e = some_at xs i id e

no_bound : (n : ℕ) (id : CellId) → bound_cell [] n ≡ Some id → ⊥
no_bound n id e = cc

pub state_fits : (c : Arena) (a : List Bool) (ids : List CellId) →
    Fits c a (state_env ids) no_scope (state_at c ids a) (state_at c ids a)
state_fits c a ids = record {
  current = λ i id e. value_at c a ids i id e;
  following = λ i id e. value_at c a ids i id (some_at ids i id e);
  rest = λ i e. refl;
  bound = λ n id e. absurd (no_bound n id e);
}

-- the first values of a state are those of cells
first_values : (n : ℕ) (vs us : List Value) (i : ℕ) (v : Value) → take n vs ≡ take n us → i < n →
    slice_get us i ≡ Some v → slice_get vs i ≡ Some v
first_values n vs us i v e lt f =
    sym (at_take n vs i lt) ∙ (ap (λ (xs : List Value). slice_get xs i) e ∙ (at_take n us i lt ∙ f))

pub constants_fit_env : (c : Arena) (a : List Bool) (n : ℕ) (bs : List Bool) (ids : List CellId) (env : CellEnv)
    (t : State) → IsTrue (constants_first bs) → n ≡ count bs →
    env.now ≡ take n ids → env.next ≡ of_constants bs ids → env.bound ≡ [] →
    take n t.vals ≡ take n (values_at c ids a) → Fits c a env no_scope t t
constants_fit_env c a n bs ids env t first many e f g same = record {
  current = λ i id q.
      let z = take_at n ids i id (ap (λ (xs : List CellId). slice_get xs i) (sym e) ∙ q) in
      first_values n t.vals (values_at c ids a) i (decode c a id) same z.0 (value_at c a ids i id z.1);
  following = λ i id q.
      let r : at_place (of_constants bs ids) i ≡ Some id = ap (λ (os : List (Option CellId)). at_place os i) (sym f) ∙
      q in
      first_values n t.vals (values_at c ids a) i (decode c a id) same
      (subst (λ (m : ℕ). i < m) (sym many) (below bs ids i id first r))
      (value_at c a ids i id (constants_at bs ids i id r));
  rest = λ i q. refl;
  bound = λ m id q. absurd (no_bound m id (ap (λ (es : List (ℕ × CellId)). bound_cell es m) (sym g) ∙ q));
}
  where
    none_some : (id : CellId) → None ≡ Some id → ⊥
    none_some id q = cc

    -- a place at which a constant stands is one of the first
    below : (bs : List Bool) (ids : List CellId) (i : ℕ) (id : CellId) → IsTrue (constants_first bs) →
        at_place (of_constants bs ids) i ≡ Some id → i < count bs
    below [] ids zero id h q = absurd (none_some id q)
    below [] ids (suc i) id h q = absurd (none_some id q)
    below (b ∷ bs) [] zero id h q = absurd (none_some id q)
    below (b ∷ bs) [] (suc i) id h q = absurd (none_some id q)
    below (true ∷ bs) (x ∷ xs) zero id h q = omega arith
    below (true ∷ bs) (x ∷ xs) (suc i) id h q = more i (count bs) (below bs xs i id h q)
      where
        more : (m n : ℕ) → m < n → suc m < suc n
        more m n q = omega (arith, q)
    below (false ∷ bs) (x ∷ xs) zero id h q = absurd (none_some id q)
    below (false ∷ bs) (x ∷ xs) (suc i) id h q = absurd (no_others bs xs i id h q)
      where
        no_others : (bs : List Bool) (xs : List CellId) (i : ℕ) (id : CellId) → IsTrue (list_all not bs) →
            at_place (of_constants bs xs) i ≡ Some id → ⊥
        no_others [] xs zero id h q = none_some id q
        no_others [] xs (suc i) id h q = none_some id q
        no_others (b ∷ bs) [] zero id h q = none_some id q
        no_others (b ∷ bs) [] (suc i) id h q = none_some id q
        no_others (true ∷ bs) (x ∷ xs) i id h q = false≢true h
        no_others (false ∷ bs) (x ∷ xs) zero id h q = none_some id q
        no_others (false ∷ bs) (x ∷ xs) (suc i) id h q = no_others bs xs i id h q

-- ---- the trees of a job

unmapped : {X Y : Type 0} (P : Y → Type 0) (f : X → Y) (xs : List X) → All P (map f xs) → All (λ x. P (f x)) xs
unmapped P f [] h = All-nil (λ x. P (f x))
unmapped P f (x ∷ xs) h = All-cons (λ y. P (f y)) x xs (All-head P (f x) (map f xs) h)
    (unmapped P f xs (All-tail P (f x) (map f xs) h))

-- where invariants are evaluated
pub record AtLevel (b : Build) (s : System) (job : Job) (codes : List Code) (cells : List CellId)
    (a : List Bool) : Type 0 where
  pub known : Known s
  pub stands : StandsFor (Some b.arena.width) job s
  pub satisfies : Satisfies a b.formula
  pub state : IsState job (state_at b.arena cells a)
  pub shapes : List Shape
  pub kept : map mean codes ≡ map capped shapes
  pub fits : FitsTyped (names_of s) shapes (state_at b.arena cells a)

module _ (b : Build) (s : System) (job : Job) (codes : List Code) (cells : List CellId) (a : List Bool)
    (h : AtLevel b s job codes cells a) where
  abbrev t : State
  t = state_at b.arena cells a

  at_tree : (k : Ker) → IsSoundTruth (names_of s) k → IsAt b (state_env cells) codes codes k a t t
  at_tree k o = record {
    satisfies = h.satisfies;
    extent = at_state h.shapes;
    kept = state_extent h.shapes t.vals codes h.fits.0 h.kept;
    names = names_of s;
    sound = o.sound;
    covers = state_covers (names_of s) k h.shapes o.sound h.fits.1;
    fits = state_fits b.arena a cells;
    ready = record {
      bound = tt;
      now = state_values h.shapes t.vals h.fits.0;
      next =
          state_values h.shapes t.vals h.fits.0;
    };
  }

  abbrev given : Ker → Outcome
  given k = ker_val (Some b.arena.width) k no_scope t t

  all_end : (ks : List Ker) (xs : List Ends) → All (IsSoundTruth (names_of s)) ks →
      AreConditionsOf b (state_env cells) codes ks xs → AreAllEndsOf a xs (map given ks)
  all_end [] [] o c = tt
  all_end [] (x ∷ xs) o c = absurd c
  all_end (k ∷ ks) [] o c = absurd c
  all_end (k ∷ ks) (x ∷ xs) o c = (
    c.0.says a t t (at_tree k (All-head (IsSoundTruth (names_of s)) k ks o)),
    all_end ks xs (All-tail (IsSoundTruth (names_of s)) k ks o) c.1,
  )

  all_truth : (ks : List Ker) (xs : List Ends) → All (IsSoundTruth (names_of s)) ks →
      AreConditionsOf b (state_env cells) codes ks xs → All IsTruthOutcome (map given ks)
  all_truth [] xs o c = All-nil IsTruthOutcome
  all_truth (k ∷ ks) [] o c = absurd c
  all_truth (k ∷ ks) (x ∷ xs) o c =
      All-cons IsTruthOutcome (given k) (map given ks) (c.0.truth a t t
      (at_tree k (All-head (IsSoundTruth (names_of s)) k ks o)))
      (all_truth ks xs (All-tail (IsSoundTruth (names_of s)) k ks o) c.1)

  same : map (λ e. val (Some b.arena.width) e.1 no_scope t t) job.invs ≡ map given s.ker.invs
  same = (h.stands.same t t h.state h.state).invs

  pub invariants_end : (xs : List Ends) → AreConditionsOf b (state_env cells) codes s.ker.invs xs →
      AreAllEndsOf a xs (map (λ e. val (Some b.arena.width) e.1 no_scope t t) job.invs)
  invariants_end xs c = subst (AreAllEndsOf a xs) (sym same) (all_end s.ker.invs xs h.known.invs c)

  pub invariants_truth : (xs : List Ends) → AreConditionsOf b (state_env cells) codes s.ker.invs xs →
      HaveTruths (Some b.arena.width) job t
  invariants_truth xs c =
      unmapped IsTruthOutcome (λ e. val (Some b.arena.width) e.1 no_scope t t) job.invs
      (subst (All IsTruthOutcome) (sym same) (all_truth s.ker.invs xs h.known.invs c))

-- where the assumption is
pub record AtConstants (b : Build) (s : System) (job : Job) (codes : List Code) (cells : List CellId) (env : CellEnv)
    (a : List Bool) (t : State) : Type 0 where
  pub known : Known s
  pub silent : mentions (the_variables s) s.ker.assume ≡ false
  pub stands : StandsFor (Some b.arena.width) job s
  pub satisfies : Satisfies a b.formula
  pub current : env.now ≡ take (constant_count s) cells
  pub following : env.next ≡ of_constants s.ker.fixed cells
  pub bound : env.bound ≡ []
  pub counted : constant_count s ≡ constants job
  pub constants_are : HasConstants job (take (constants job) (values_at b.arena cells a)) t
  pub shapes : List Shape
  pub kept : map mean codes ≡ map capped shapes
  pub fits : StateFits (kept_constants s.ker.fixed shapes) t.vals
  pub kinds : EachOfKind (names_of s) shapes

pub assumption_ends : (b : Build) (s : System) (job : Job) (codes : List Code) (cells : List CellId) (env : CellEnv)
    (a : List Bool) (t : State) (x : Ends) →
    AtConstants b s job codes cells env a t →
    IsConditionOf b env (shapes_of_constants s.ker.fixed codes) (shapes_of_constants s.ker.fixed codes) s.ker.assume x →
    AreEndsOf a x (val (Some b.arena.width) job.assume no_scope t t)
assumption_ends b s job codes cells env a t x h c =
    let st : IsState job t = h.constants_are.0 in
    subst (AreEndsOf a x) (sym (h.stands.same t t st st).assume) (c.says a t t (record {
      satisfies = h.satisfies;
      extent = at_names (kept_constants s.ker.fixed h.shapes);
      kept = constants_extent s.ker.fixed h.shapes t.vals codes h.fits h.kept;
      names = names_of s;
      sound = h.known.assume.sound;
      covers = constants_cover (names_of s) s.ker.assume s.ker.fixed h.shapes h.known.assume.sound h.known.filled
          h.kinds h.known.first h.silent;
      fits = constants_fit_env b.arena a (constant_count s) s.ker.fixed cells env t h.known.first refl h.current
          h.following h.bound
          (subst (λ (n : ℕ). take n t.vals ≡ take n (values_at b.arena cells a)) (sym h.counted) h.constants_are.1);
      ready = record { bound = tt; now = h.fits; next = h.fits };
    }))
