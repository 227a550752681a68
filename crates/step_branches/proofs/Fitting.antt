-- Cells of names before the paths of an action: the states that fit them, and which next states count.
use Rattle.std.proofs.Common.{◌≡◌, ◌⊎◌, inl, inr, ℕ, zero, suc, ◌<◌, Bool, true, false, not, IsTrue, List, [], ◌∷◌}
use Rattle.std.proofs.Common.{map, take, length, Option, Some, None, refl, sym, ◌∙◌, ap, ap₂, subst, arith, All}
use Rattle.std.specs.Prelude.{option_and_then, slice_get}
use Rattle.std.specs.List.{list_all}
use Rattle.std.proofs.lemmas.Option.{slice_get_within, get_or_from_slice_get}
use Rattle.tla_values.specs.Sets.{Normal}
use Rattle.tla_values.specs.declared.value.Value.{Value}
use Rattle.tla_meaning.specs.declared.job.Job.{Job}
use Rattle.tla_meaning.specs.declared.job.State.{State}
use Rattle.tla_meaning.specs.Executions.{IsState, constants, no_scope}
use Rattle.tla_meaning.proofs.Laws.{none≢some}
use Rattle.tla_meaning.proofs.Views.{false≢true}
use Rattle.cell_arena.specs.declared.build.Build.{Build}
use Rattle.cell_arena.specs.declared.kinds.CellId.{CellId}
use Rattle.cell_arena.specs.Decode.{decode}
use Rattle.cell_arena.specs.Growth.{Grows}
use Rattle.cell_arena.proofs.Growing.{decode-before}
use Rattle.cell_merge.proofs.Normals.{decoded-normal}
use Rattle.kernel_trees.specs.Systems.{constants_first}
use Rattle.expr_rewriter.specs.declared.cell_env.CellEnv.{CellEnv}
use Rattle.expr_rewriter.specs.Environments.{AreThere, Fits, IsThere, bound_cell, next_cell}
use Rattle.path_walks.specs.Paths.{AllNormal}
use Rattle.level_laws.specs.Constraints.{Assignment, Reads}
use Rattle.step_laws.specs.Laws.{IsNext}
use Rattle.step_laws.specs.Transitions.{HasConstants}
use Rattle.step_branches.specs.Readings.{state_at, values_at}
use Rattle.step_branches.specs.Ways.{of_constants}
use Rattle.step_branches.proofs.Decoding.{decode_reads}
use Rattle.step_branches.proofs.Runs.{count}

-- ---- lists

pub slice_map : {X Y : Type 0} (f : X → Y) (xs : List X) (i : ℕ) (x : X) → slice_get xs i ≡ Some x →
    slice_get (map f xs) i ≡ Some (f x)
slice_map f [] i x e = absurd (none≢some e)
slice_map {X = X} f (y ∷ ys) zero x e = ap (λ (z : X). Some (f z)) (same e)
  where
    same : {u v : X} → Some u ≡ Some v → u ≡ v
    same q = cc
slice_map f (y ∷ ys) (suc i) x e = slice_map f ys i x e

map_none : {X Y : Type 0} (f : X → Y) (xs : List X) (i : ℕ) → slice_get xs i ≡ None → slice_get (map f xs) i ≡ None
map_none f [] i e = refl
map_none f (y ∷ ys) zero e = absurd (none≢some (sym e))
map_none f (y ∷ ys) (suc i) e = map_none f ys i e

take_below : {X : Type 0} (n : ℕ) (xs : List X) (i : ℕ) (x : X) → slice_get (take n xs) i ≡ Some x →
    (i < n) × (slice_get xs i ≡ Some x)
take_below zero xs i x e = absurd (none≢some e)
take_below (suc n) [] i x e = absurd (none≢some e)
take_below (suc n) (y ∷ ys) zero x e = (omega arith, e)
take_below (suc n) (y ∷ ys) (suc i) x e = let z = take_below n ys i x e in (let lt = z.0 in omega arith, z.1)

pub take_get : (n : ℕ) (xs : List Value) (i : ℕ) → i < n → slice_get (take n xs) i ≡ slice_get xs i
take_get zero xs i lt = absurd (omega (arith, lt))
take_get (suc n) [] i lt = refl
take_get (suc n) (x ∷ xs) zero lt = refl
take_get (suc n) (x ∷ xs) (suc i) lt = take_get n xs i (omega (arith, lt))

none_too : (xs ys : List Value) → length xs ≡ length ys → (i : ℕ) → slice_get xs i ≡ None →
    slice_get xs i ≡ slice_get ys i
none_too [] [] e i h = refl
none_too [] (y ∷ ys) e i h = absurd (none (length ys) e)
  where
    none : (n : ℕ) → 0 ≡ suc n → ⊥
    none n q = omega (arith, q)
none_too (x ∷ xs) [] e i h = absurd (none (length xs) e)
  where
    none : (n : ℕ) → suc n ≡ 0 → ⊥
    none n q = omega (arith, q)
none_too (x ∷ xs) (y ∷ ys) e zero h = absurd (none≢some (sym h))
none_too (x ∷ xs) (y ∷ ys) e (suc i) h = none_too xs ys (less (length xs) (length ys) e) i h
  where
    less : (m n : ℕ) → suc m ≡ suc n → m ≡ n
    less m n q = omega (arith, q)

pub lists_same : (xs ys : List Value) → length xs ≡ length ys →
    ((i : ℕ) → i < length xs → slice_get xs i ≡ slice_get ys i) → xs ≡ ys
lists_same [] [] e h = refl
lists_same [] (y ∷ ys) e h = absurd (none (length ys) e)
  where
    none : (n : ℕ) → 0 ≡ suc n → ⊥
    none n q = omega (arith, q)
lists_same (x ∷ xs) [] e h = absurd (none (length xs) e)
  where
    none : (n : ℕ) → suc n ≡ 0 → ⊥
    none n q = omega (arith, q)
lists_same (x ∷ xs) (y ∷ ys) e h =
    ap₂ (λ (v : Value) (vs : List Value). v ∷ vs) (same (h 0 (omega arith)))
    (lists_same xs ys (less (length xs) (length ys) e) (λ i lt. h (suc i) (omega (arith, lt))))
  where
    same : {u v : Value} → Some u ≡ Some v → u ≡ v
    same q = cc

    less : (m n : ℕ) → suc m ≡ suc n → m ≡ n
    less m n q = omega (arith, q)

-- lists whose first n are the same, item by item
pub fronts_same : (n : ℕ) (xs ys : List Value) → length xs ≡ length ys →
    ((i : ℕ) → i < n → i < length xs → slice_get xs i ≡ slice_get ys i) → take n xs ≡ take n ys
fronts_same zero xs ys e h = refl
fronts_same (suc n) [] [] e h = refl
fronts_same (suc n) [] (y ∷ ys) e h = absurd (none (length ys) e)
  where
    none : (n : ℕ) → 0 ≡ suc n → ⊥
    none n q = omega (arith, q)
fronts_same (suc n) (x ∷ xs) [] e h = absurd (none (length xs) e)
  where
    none : (n : ℕ) → suc n ≡ 0 → ⊥
    none n q = omega (arith, q)
fronts_same (suc n) (x ∷ xs) (y ∷ ys) e h =
    ap₂ (λ (v : Value) (vs : List Value). v ∷ vs) (same (h 0 (omega arith) (omega arith)))
    (fronts_same n xs ys (less (length xs) (length ys) e) (λ i lt k. h (suc i) (omega (arith, lt)) (omega (arith, k))))
  where
    same : {u v : Value} → Some u ≡ Some v → u ≡ v
    same q = cc

    less : (m n : ℕ) → suc m ≡ suc n → m ≡ n
    less m n q = omega (arith, q)

pub item_there : {X : Type 0} (xs : List X) (i : ℕ) → i < length xs → (x : X) × (slice_get xs i ≡ Some x)
item_there [] i lt = absurd (omega (arith, lt))
item_there (x ∷ xs) zero lt = (x, refl)
item_there (x ∷ xs) (suc i) lt = item_there xs i (omega (arith, lt))

pub all_at : {X : Type 0} (P : X → Type 0) (xs : List X) (i : ℕ) (x : X) → All P xs → slice_get xs i ≡ Some x → P x
all_at P xs i x h e = subst P (get_or_from_slice_get xs i x x e) (h i x (slice_get_within xs i x e))

-- ---- the states of cells

pub values_read : (b : Build) (cells : List CellId) → Reads b.formula.vars (values_at b.arena cells)
values_read b [] x y same = refl
values_read b (id ∷ ids) x y same =
    ap₂ (λ (v : Value) (vs : List Value). v ∷ vs) (decode_reads b id x y same) (values_read b ids x y same)

pub state_reads : (b : Build) (cells : List CellId) → Reads b.formula.vars (state_at b.arena cells)
state_reads b cells x y same = ap (λ (vs : List Value). record { vals = vs }) (values_read b cells x y same)

pub state_normal : (job : Job) (t : State) → IsState job t → AllNormal t
state_normal job t st i v e = subst Normal (get_or_from_slice_get t.vals i v v e)
    (st.normal i v (slice_get_within t.vals i v e))

pub values_length : (b : Build) (cells : List CellId) (a : Assignment) →
    length (values_at b.arena cells a) ≡ length cells
values_length b [] a = refl
values_length b (id ∷ ids) a = ap suc (values_length b ids a)

-- as many cells as names are a state, under every assignment
pub state_is : (job : Job) (b : Build) (cells : List CellId) (a : Assignment) → length cells ≡ length job.names →
    IsState job (state_at b.arena cells a)
state_is job b cells a many = record { fills = values_length b cells a ∙ many; normal = all_normal cells }
  where
    all_normal : (ids : List CellId) → All Normal (values_at b.arena ids a)
    all_normal [] i d lt = absurd (omega (arith, lt))
    all_normal (id ∷ ids) zero d lt = decoded-normal b.arena a id
    all_normal (id ∷ ids) (suc i) d lt = all_normal ids i d (omega (arith, lt))

-- ---- environments

no_bound : (n : ℕ) (id : CellId) (es : List (ℕ × CellId)) → es ≡ [] → bound_cell es n ≡ Some id → ⊥
no_bound n id es e h = none≢some (sym (ap (λ (xs : List (ℕ × CellId)). bound_cell xs n) e) ∙ h)

next_slice : (env : CellEnv) (i : ℕ) (id : CellId) → next_cell env i ≡ Some id → slice_get env.next i ≡ Some (Some id)
next_slice env i id e = by (slice_get env.next i) refl e
  where
    by : (o : Option (Option CellId)) → slice_get env.next i ≡ o → option_and_then (λ p. p) o ≡ Some id →
        slice_get env.next i ≡ Some (Some id)
    by None q k = absurd (none≢some k)
    by (Some o) q k = q ∙ ap Some k

-- what fits the older cells fits them in a later build
pub fits_later : (b c : Build) (env : CellEnv) (a : Assignment) (s t : State) → Grows b c →
    AreThere (length b.arena.kinds) env → env.bound ≡ [] →
    Fits b.arena a env no_scope s t → Fits c.arena a env no_scope s t
fits_later b c env a s t g there none f = record {
  current = λ i id e.
      f.current i id e ∙ ap Some (sym
      (decode-before b c a id g (all_at (λ (y : CellId). y.index < length b.arena.kinds) env.now i id
      there.current e)));
  following = λ i id e.
      f.following i id e
      ∙ ap Some (sym (decode-before b c a id g
      (all_at (IsThere (length b.arena.kinds)) env.next i (Some id) there.following (next_slice env i id e))));
  rest = f.rest;
  bound = λ n id e. absurd (no_bound n id env.bound none e);
}

-- only constants have a cell in the next state
none_behind : (bs : List Bool) (cells : List CellId) (i : ℕ) (id : CellId) → IsTrue (list_all not bs) →
    option_and_then (λ o. o) (slice_get (of_constants bs cells) i) ≡ Some id → ⊥
none_behind [] cells i id h e = none≢some e
none_behind (b ∷ bs) [] i id h e = none≢some e
none_behind (true ∷ bs) (c ∷ cs) i id h e = false≢true h
none_behind (false ∷ bs) (c ∷ cs) zero id h e = none≢some e
none_behind (false ∷ bs) (c ∷ cs) (suc i) id h e = none_behind bs cs i id h e

constant_cell : (bs : List Bool) (cells : List CellId) (i : ℕ) (id : CellId) → IsTrue (constants_first bs) →
    option_and_then (λ o. o) (slice_get (of_constants bs cells) i) ≡ Some id →
    (i < count bs) × (slice_get cells i ≡ Some id)
constant_cell [] cells i id h e = absurd (none≢some e)
constant_cell (b ∷ bs) [] i id h e = absurd (none≢some e)
constant_cell (true ∷ bs) (c ∷ cs) zero id h e = (omega arith, e)
constant_cell (true ∷ bs) (c ∷ cs) (suc i) id h e = let z = constant_cell bs cs i id h e in
    (let lt = z.0 in omega arith, z.1)
constant_cell (false ∷ bs) (c ∷ cs) i id h e = absurd (none_behind (false ∷ bs) (c ∷ cs) i id h e)

abbrev pub no_cells : List Bool → List (Option CellId)
no_cells bs = map (λ _. None) bs

none_given : (bs : List Bool) (i : ℕ) (id : CellId) → option_and_then (λ o. o) (slice_get (no_cells bs) i) ≡ Some id → ⊥
none_given [] i id e = none≢some e
none_given (b ∷ bs) zero id e = none≢some e
none_given (b ∷ bs) (suc i) id e = none_given bs i id e

module _ (b : Build) (job : Job) (fixed : List Bool) (first_ones : IsTrue (constants_first fixed))
    (counts : count fixed ≡ constants job)
    (cells : List CellId) (env : CellEnv) (bound : env.bound ≡ []) (following : env.next ≡ of_constants fixed cells)
    (a : Assignment) where
  -- a state with the constants of the cells
  constant_there : (t : State) → take (constants job) t.vals ≡ take (constants job) (values_at b.arena cells a) →
      (i : ℕ) (id : CellId) →
      i < constants job → slice_get cells i ≡ Some id → slice_get t.vals i ≡ Some (decode b.arena a id)
  constant_there t k i id lt e =
      sym (take_get (constants job) t.vals i lt)
      ∙ (ap (λ (xs : List Value). slice_get xs i) k
      ∙ (take_get (constants job) (values_at b.arena cells a) i lt ∙ slice_map (decode b.arena a) cells i id e))

  next_there : (t : State) → take (constants job) t.vals ≡ take (constants job) (values_at b.arena cells a) →
      (i : ℕ) (id : CellId) →
      next_cell env i ≡ Some id → slice_get t.vals i ≡ Some (decode b.arena a id)
  next_there t k i id e =
      let z = constant_cell fixed cells i id first_ones
      (ap (λ (os : List (Option CellId)). option_and_then (λ o. o) (slice_get os i)) (sym following) ∙ e) in
      constant_there t k i id (subst (λ (n : ℕ). i < n) counts z.0) z.1

  -- before a path of Next each name has its cell, and the constants have theirs in the next state too
  pub step_fits : env.now ≡ cells → length cells ≡ length job.names → (t : State) →
      IsNext job (state_at b.arena cells a) t →
      Fits b.arena a env no_scope (state_at b.arena cells a) t
  step_fits now many t n = record {
    current = λ i id e. slice_map (decode b.arena a) cells i id
        (ap (λ (xs : List CellId). slice_get xs i) (sym now) ∙ e);
    following = λ i id e. next_there t (sym n.1) i id e;
    rest = λ i e.
        none_too (values_at b.arena cells a) t.vals (values_length b cells a ∙ many ∙ sym n.0.fills) i
        (map_none (decode b.arena a) cells i (ap (λ (xs : List CellId). slice_get xs i) (sym now) ∙ e));
    bound = λ k id e. absurd (no_bound k id env.bound bound e);
  }

  -- before a path of Init the constants have theirs, in the state and in the next one, which are the same
  pub start_fits : env.now ≡ take (constants job) cells → (t : State) →
      HasConstants job (take (constants job) (values_at b.arena cells a)) t →
      Fits b.arena a env no_scope t t
  start_fits now t h = record {
    current = λ i id e.
        let z = take_below (constants job) cells i id (ap (λ (xs : List CellId). slice_get xs i) (sym now) ∙ e) in
        constant_there t h.1 i id z.0 z.1;
    following = λ i id e. next_there t h.1 i id e;
    rest = λ i e. refl;
    bound = λ k id e. absurd (no_bound k id env.bound bound e);
  }

-- before a path of CInit there is none
pub nothing_fits : (b : Build) (fixed : List Bool) (env : CellEnv) → env.bound ≡ [] → env.now ≡ [] →
    env.next ≡ no_cells fixed →
    (a : Assignment) (t : State) → Fits b.arena a env no_scope t t
nothing_fits b fixed env bound now next a t = record {
  current = λ i id e. absurd (none≢some (ap (λ (xs : List CellId). slice_get xs i) (sym now) ∙ e));
  following = λ i id e.
      absurd (none_given fixed i id (ap (λ (os : List (Option CellId)). option_and_then (λ o. o) (slice_get os i))
      (sym next) ∙ e));
  rest = λ i e. refl;
  bound = λ k id e. absurd (no_bound k id env.bound bound e);
}

-- ---- next states by what is assigned

-- each name is a constant, or assigned
abbrev pub AssignsAll : Job → (ℕ → Bool) → Type 0
AssignsAll job given = (i : ℕ) → i < length job.names → (i < constants job) ⊎ (given i ≡ true)

pub next_known : (job : Job) (given : ℕ → Bool) → AssignsAll job given → (t t' : State) → IsState job t →
    IsState job t' → take (constants job) t.vals ≡ take (constants job) t'.vals →
    ((i : ℕ) → given i ≡ true → slice_get t.vals i ≡ slice_get t'.vals i) → t ≡ t'
next_known job given covers t t' st st' k h =
    ap (λ (xs : List Value). record { vals = xs })
    (lists_same t.vals t'.vals (st.fills ∙ sym st'.fills)
    (λ i lt. by i (covers i (subst (λ (m : ℕ). i < m) st.fills lt))))
  where
    by : (i : ℕ) → (i < constants job) ⊎ (given i ≡ true) → slice_get t.vals i ≡ slice_get t'.vals i
    by i (inl lt) =
        sym (take_get (constants job) t.vals i lt) ∙
        (ap (λ (xs : List Value). slice_get xs i) k ∙ take_get (constants job) t'.vals i lt)
    by i (inr a) = h i a
