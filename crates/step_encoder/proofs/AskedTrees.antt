-- What is asked where a tree is taken as a whole: of the invariants of a level, and of the assumption behind the
-- constants.
use Rattle.std.proofs.Common.{◌≡◌, ◌⊎◌, inl, inr, ℕ, zero, suc, ◌<◌, ◌≤◌, Bool, true, false, IsTrue, List}
use Rattle.std.proofs.Common.{[], ◌∷◌, map, take, length, None, Some, refl, sym, ◌∙◌, ap, subst, arith}
use Rattle.std.specs.Prelude.{All, nat_eq, nat_le, slice_get}
use Rattle.std.proofs.lemmas.List.Elements.{All-cons, All-head, All-map, All-nil, All-tail, All-take}
use Rattle.tla_meaning.proofs.Views.{and_left, false≢true}
use Rattle.cell_arena.specs.declared.build.Build.{Build}
use Rattle.cell_arena.specs.Growth.{Grows}
use Rattle.cell_arena.specs.declared.kinds.CellId.{CellId}
use Rattle.cell_arena.specs.declared.kinds.CellKind.{CellKind}
use Rattle.kernel_trees.specs.declared.kernel.Ker.{Ker}
use Rattle.kernel_trees.specs.declared.system.System.{System}
use Rattle.kernel_trees.specs.Paths.{mentions}
use Rattle.kernel_trees.specs.Sound.{sound}
use Rattle.kernel_trees.specs.Systems.{constants_first}
use Rattle.kernel_trees.specs.TypeKinds.{Kind}
use Rattle.kernel_trees.proofs.SoundNames.{sound_below}
use Rattle.kernel_shapes.specs.declared.bounds.Shape.{Shape as Code}
use Rattle.kernel_shapes.specs.Levels.{constant_shapes}
use Rattle.kernel_shapes.specs.Systems.{system_parts}
use Rattle.kernel_shapes.proofs.PathLaw.{Within, quiet}
use Rattle.system_texts.specs.SystemTexts.{HasTreeTexts}
use Rattle.typed_cells.specs.KindSorts.{HasSort, sort_of}
use Rattle.expr_rewriter.specs.declared.cell_env.CellEnv.{CellEnv}
use Rattle.expr_rewriter.specs.Environments.{HoldsEnv, IsThere, is_name, name_cell}
use Rattle.branch_cells.specs.declared.branch.BranchCells.{BranchCells}
use Rattle.branch_cells.specs.declared.branch.Ends.{Ends}
use Rattle.branch_cells.specs.declared.way.Way.{Way}
use Rattle.branch_cells.specs.Branches.{AreOfKinds}
use Rattle.step_branches.specs.Ways.{of_constants}
use Rattle.step_encoder.specs.inner.Asked.{AreConditionsOf, AreKept, CanAsk, CanJudge, names_of, state_env}
use Rattle.step_encoder.specs.inner.Made.{CanGoOn}
use Rattle.step_encoder.proofs.CellKinds.{env_is, kinds_at, kinds_count, kinds_some, kinds_there}
use Rattle.step_encoder.proofs.Conditions.{conditions_later}
use Rattle.step_encoder.proofs.Constants.{at_place, at_take, constants_all, constants_there, count, first_true}
use Rattle.step_encoder.proofs.Extents.{constants_kept, some_extent}
use Rattle.step_encoder.proofs.Systems.{IsSoundTruth, known, texts_of_assume, texts_of_invs}

none_kind : {X : Type 0} (x : X) → None ≡ Some x → ⊥
none_kind x e = cc

get_below : {X : Type 0} (xs : List X) (i : ℕ) (x : X) → slice_get xs i ≡ Some x → i < length xs
get_below [] zero x e = absurd (none_kind x e)
get_below [] (suc i) x e = absurd (none_kind x e)
get_below (y ∷ xs) zero x e = omega arith
get_below (y ∷ xs) (suc i) x e = more i (length xs) (get_below xs i x e)
  where
    more : (m n : ℕ) → m < n → suc m < suc n
    more m n q = omega (arith, q)

some_at : (ids : List CellId) (i : ℕ) (id : CellId) → slice_get ids i ≡ Some id →
    at_place (map (λ x. Some x) ids) i ≡ Some id
some_at [] zero id e = absurd (none_kind id e)
some_at [] (suc i) id e = absurd (none_kind id e)
some_at (x ∷ xs) zero id e = e
some_at (x ∷ xs) (suc i) id e = some_at xs i id e

-- ---- a state

module _ (ks : List CellKind) (names : List Kind) (ids : List CellId) (h : AreOfKinds ks names ids) where
  cell_of : (i : ℕ) (primed : Bool) (id : CellId) → slice_get ids i ≡ Some id →
      name_cell (state_env ids) i primed ≡ Some id
  cell_of i true id e = some_at ids i id e
  cell_of i false id e = rw e refl

  pub state_holds : (k : Ker) → HoldsEnv ks names [] k (state_env ids)
  state_holds k = record {
    there = record {
      current = kinds_there ks names ids h;
      following = All-map (IsThere (length ks)) (λ (id : CellId). Some id) ids (kinds_there ks names ids h);
      bound = All-nil (λ (e : ℕ × CellId). e.1.index < length ks);
    };
    named = λ i primed a m e.
        let c = kinds_some ks names ids i h (get_below names i a e) in
        subst (HasSort ks (sort_of a)) (sym (cell_of i primed c.0 c.1)) (kinds_at ks names ids i a c.0 h e c.1);
    numbered = λ n a q. absurd (none_kind a q);
  }

pub can_ask_invariants : (b : Build) (s : System) (codes : List Code) (cells : List CellId) →
    CanJudge b s codes cells → All (CanAsk b (state_env cells) codes codes) s.ker.invs
can_ask_invariants b s codes cells h = by s.ker.invs (known s h.over.known).invs
    (texts_of_invs b.arena.texts s h.over.texts)
  where
    one : (k : Ker) → IsSoundTruth (names_of s) k → HasTreeTexts b.arena.texts k →
        CanAsk b (state_env cells) codes codes k
    one k o t =
        let g = some_extent codes codes h.shapes h.shapes in
        record {
          names = names_of s;
          extent = g.0;
          kept = g.1;
          sound = o.sound;
          truth = o.truth;
          holds = state_holds b.arena.kinds (names_of s) cells h.kinds k;
          texts = t;
        }

    by : (ks : List Ker) → All (IsSoundTruth (names_of s)) ks → All (HasTreeTexts b.arena.texts) ks →
        All (CanAsk b (state_env cells) codes codes) ks
    by [] o t = All-nil (CanAsk b (state_env cells) codes codes)
    by (k ∷ ks) o t =
        All-cons (CanAsk b (state_env cells) codes codes) k ks (one k (All-head (IsSoundTruth (names_of s)) k ks o)
        (All-head (HasTreeTexts b.arena.texts) k ks t))
        (by ks (All-tail (IsSoundTruth (names_of s)) k ks o) (All-tail (HasTreeTexts b.arena.texts) k ks t))

-- as they are handed in
pub asks_as : (b : Build) (s : System) (codes : List Code) (cells ids : List CellId) (env : CellEnv)
    (trees : List Ker) → CanJudge b s codes cells → env ≡ state_env ids → ids ≡ cells →
    trees ≡ s.ker.invs → All (CanAsk b env codes codes) trees
asks_as b s codes cells ids env trees h e f g =
    subst (λ (ks : List Ker). All (CanAsk b env codes codes) ks) (sym g)
    (subst (λ (v : CellEnv). All (CanAsk b v codes codes) s.ker.invs) (sym (e ∙ ap state_env f))
    (can_ask_invariants b s codes cells h))

-- and what is answered
pub conditions_as : (b c : Build) (s : System) (codes : List Code) (cells ids : List CellId) (env : CellEnv)
    (trees : List Ker) (xs : List Ends) → Grows b c → env ≡ state_env ids →
    ids ≡ cells → trees ≡ s.ker.invs → AreConditionsOf b env codes trees xs →
    AreConditionsOf c (state_env cells) codes s.ker.invs xs
conditions_as b c s codes cells ids env trees xs grows e f g h =
    conditions_later b c (state_env cells) codes s.ker.invs xs grows
    (subst (λ (v : CellEnv). AreConditionsOf b v codes s.ker.invs xs) (e ∙ ap state_env f)
    (subst (λ (ks : List Ker). AreConditionsOf b env codes ks xs) g h))

-- ---- the constants

eq_of : (i j : ℕ) → nat_eq i j ≡ true → i ≡ j
eq_of i j h = grind (arith, h)

name_is : (i j : ℕ) (p q : Bool) → is_name i p j q ≡ true → i ≡ j
name_is i j true q h = eq_of i j (and_left (nat_eq i j) q h)
name_is i j false true h = absurd (false≢true h)
name_is i j false false h = eq_of i j h

-- a tree that mentions no variable mentions constants
constant_read : (names : List Kind) (k : Ker) (c : ℕ) → IsTrue (sound names k [] false) →
    mentions (λ i primed. nat_le c i) k ≡ false → (i : ℕ) (primed : Bool) →
    mentions (is_name i primed) k ≡ true → (i < c) ⊎ (c ≤ i) → i < c
constant_read names k c s silent i primed m (inl lt) = lt
constant_read names k c s silent i primed m (inr le) =
    absurd (false≢true (sym (quiet (length names) (is_name i primed) (λ j q. nat_le c j) within k
    (sound_below names k [] false s) silent) ∙ m))
  where
    above : (c i j : ℕ) → c ≤ i → i ≡ j → nat_le c j ≡ true
    above c i j q e = grind (arith, q, e)

    within : Within (length names) (is_name i primed) (λ j q. nat_le c j)
    within j q l e = above c i j le (name_is i j primed q e)

either : (i c : ℕ) → (i < c) ⊎ (c ≤ i)
either i c = grind arith

module _ (ks : List CellKind) (names : List Kind) (fixed : List Bool) (filled : length fixed ≡ length names)
    (first : IsTrue (constants_first fixed)) (ids : List CellId)
    (h : AreOfKinds ks names ids) (env : CellEnv) (now_is : env.now ≡ take (count fixed) ids)
    (next_is : env.next ≡ of_constants fixed ids) (bound_is : env.bound ≡ []) where
  abbrev first_env : CellEnv
  first_env = record { now = take (count fixed) ids; next = of_constants fixed ids; bound = [] }

  same_env : env ≡ first_env
  same_env = env_is env (take (count fixed) ids) (of_constants fixed ids) [] now_is next_is bound_is

  as_many : length fixed ≡ length ids
  as_many = filled ∙ sym (kinds_count ks names ids h)

  constant_cell : (i : ℕ) (primed : Bool) (id : CellId) → i < count fixed → slice_get ids i ≡ Some id →
      name_cell first_env i primed ≡ Some id
  constant_cell i true id lt e = constants_there fixed ids i as_many (first_true fixed i first lt) ∙ e
  constant_cell i false id lt e = rw (at_take (count fixed) ids i lt ∙ e) refl

  pub constants_hold : (k : Ker) → IsTrue (sound names k [] false) →
      mentions (λ i primed. nat_le (count fixed) i) k ≡ false → HoldsEnv ks names [] k env
  constants_hold k s silent = subst (HoldsEnv ks names [] k) (sym same_env) (record {
    there = record {
      current = All-take (λ (id : CellId). id.index < length ks) (count fixed) ids (kinds_there ks names ids h);
      following = constants_all (IsThere (length ks)) fixed ids tt (kinds_there ks names ids h);
      bound = All-nil (λ (e : ℕ × CellId). e.1.index < length ks);
    };
    named = λ i primed a m e.
        let c = kinds_some ks names ids i h (get_below names i a e) in
        let lt = constant_read names k (count fixed) s silent i primed m (either i (count fixed)) in
        subst (HasSort ks (sort_of a)) (sym (constant_cell i primed c.0 lt c.1))
        (kinds_at ks names ids i a c.0 h e c.1);
    numbered = λ n a q. absurd (none_kind a q);
  })

pub can_ask_assumption : (b : Build) (s : System) (constants : BranchCells) (way : Way) → CanGoOn b s constants way →
    CanAsk b way.env way.now way.next s.ker.assume
can_ask_assumption b s constants way h =
    let k = known s h.over.known in
    let kept : AreKept h.is.codes = record {
      shapes = constant_shapes (system_parts b.arena.width s);
      kept =
          h.is.shapes;
    } in
    let now : AreKept way.now = subst AreKept (sym h.is.is.shapes_now) (constants_kept s.ker.fixed h.is.codes kept) in
    let next : AreKept way.next = subst AreKept (sym h.is.is.shapes_next)
    (constants_kept s.ker.fixed h.is.codes kept) in
    let g = some_extent way.now way.next now next in
    record {
      names = names_of s;
      extent = g.0;
      kept = g.1;
      sound = k.assume.sound;
      truth = k.assume.truth;
      holds =
          constants_hold b.arena.kinds (names_of s) s.ker.fixed k.filled k.first constants.next h.whole.cells way.env
          h.is.is.current h.is.is.following h.is.is.is.bound s.ker.assume
          k.assume.sound h.over.known.assume;
      texts = texts_of_assume b.arena.texts s h.over.texts;
    }
