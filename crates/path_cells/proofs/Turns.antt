-- The walk over the steps in code: its start, one step more, its end.
use Rattle.std.proofs.Common.{◌≡◌, ◌⊎◌, inl, inr, ℕ, zero, suc, ◌+◌, ◌<◌, Bool, true, false, not, ◌||◌, IsTrue, List, [], ◌∷◌, ◌++◌, map, take, drop, length, length-set, get_or, All, append_assoc, refl, sym, ◌∙◌, ap, subst, arith}
use Rattle.std.specs.Prelude.{Option, Some, None, flat_map, nat_eq, slice_get}
use Rattle.std.specs.List.{list_any}
use Rattle.std.proofs.lemmas.Bool.{eq-eqb, eqb-true}
use Rattle.std.proofs.lemmas.List.{length-map}
use Rattle.std.proofs.lemmas.List.Elements.{All-head}
use Rattle.sat_formula.specs.declared.lit.Lit.{Lit}
use Rattle.sat_formula.specs.Formula.{Satisfies}
use Rattle.sat_formula.specs.Lit.{lit_value, top_lit}
use Rattle.cell_arena.specs.declared.build.Build.{Build}
use Rattle.cell_arena.specs.declared.kinds.CellId.{CellId}
use Rattle.cell_arena.specs.declared.kinds.CellKind.{CellKind}
use Rattle.cell_arena.specs.Growth.{Grows}
use Rattle.cell_arena.proofs.Growing.{Grows-trans, Satisfies-before}
use Rattle.cell_merge.specs.Sorts.{OfSort}
use Rattle.cell_merge.proofs.SortLaws.{OfSort-later}
use Rattle.kernel_trees.specs.declared.path.AssignedStep.{AssignedStep}
use Rattle.kernel_trees.specs.declared.path.AssignedStep.TheVariants as mark
use Rattle.kernel_trees.specs.Assignments.{assigned_by, is_in}
use Rattle.kernel_trees.specs.Sound.{Context, sound_assigned}
use Rattle.kernel_trees.specs.TypeKinds.{Kind}
use Rattle.outcome_cells.proofs.Later.{width-later}
use Rattle.typed_cells.specs.KindSorts.{sort_of}
use Rattle.expr_rewriter.specs.declared.cell_env.CellEnv.{CellEnv}
use Rattle.path_walks.specs.declared.answer.PathCells.{PathCells}
use Rattle.path_walks.specs.declared.answer.StepCells.{StepCells}
use Rattle.path_walks.specs.Steps.{assigns}
use Rattle.path_walks.specs.Paths.{AreBelow, CanRewritePath, HasNextSorts, Items, each_once, item_at}
use Rattle.path_walks.specs.inner.Walks.{AddsLiterals, IsStep, OneEach, Walk as WalkOver, env_past, items_past}
use Rattle.path_walks.proofs.Ends.{walk_none, walk_over}
use Rattle.path_walks.proofs.Items.{count_past, item_other, named_past, the_name}
use Rattle.path_walks.proofs.Walked.{walk_more, walk_never}
use Rattle.path_cells.specs.declared.walk.Walk.{Walk}
use Rattle.path_cells.specs.inner.Steps.{CellSorts, IsStepCells, is_never, the_bottom}
use Rattle.path_cells.specs.inner.Walking.{Adds, CanGoOn, IsWalking, Turn, adds, never, no_steps, over, takes}
use Rattle.path_cells.proofs.Behind.{can_rest, get_below}
use Rattle.path_cells.proofs.Conditions.{among_kind, can_one, equals_kind, sound_behind}
use Rattle.path_cells.proofs.Shown.{never_true, true_false}
use Rattle.path_cells.proofs.Wider.{and_first, and_second}

some_one : {X : Type 0} (x y : X) → Some x ≡ Some y → x ≡ y
some_one x y e = cc

-- ---- no name twice

flat_append : (xs ys : List AssignedStep) → flat_map assigned_by (xs ++ ys) ≡ flat_map assigned_by xs ++ flat_map assigned_by ys
flat_append [] ys = refl
flat_append (x ∷ xs) ys = ap (λ l. assigned_by x ++ l) (flat_append xs ys) ∙ sym (append_assoc (assigned_by x) (flat_map assigned_by xs) (flat_map assigned_by ys))

or_neither : (p q : Bool) → (p || q) ≡ false → (p ≡ false) × (q ≡ false)
or_neither true q e = absurd (true_false e)
or_neither false q e = (refl, e)

neither_or : (p q : Bool) → p ≡ false → q ≡ false → (p || q) ≡ false
neither_or true q e h = absurd (true_false e)
neither_or false q e h = h

not_true : (p : Bool) → not p ≡ true → p ≡ false
not_true true e = absurd (true_false (sym e))
not_true false e = refl

in_front : (xs : List ℕ) (i : ℕ) (ys : List ℕ) (k : ℕ) → is_in (xs ++ i ∷ ys) k ≡ false → nat_eq k i ≡ false
in_front [] i ys k e = (or_neither (nat_eq k i) (is_in ys k) e).0
in_front (x ∷ xs) i ys k e = in_front xs i ys k (or_neither (nat_eq k x) (is_in (xs ++ i ∷ ys) k) e).1

turned : (i k : ℕ) → nat_eq k i ≡ false → nat_eq i k ≡ false
turned i k e = by (nat_eq i k) refl
  where
    by : (b : Bool) → nat_eq i k ≡ b → b ≡ false
    by true q = absurd (true_false (sym (eq-eqb k i (sym (eqb-true i k q))) ∙ e))
    by false q = refl

once_apart : (xs : List ℕ) (i : ℕ) (ys : List ℕ) → each_once (xs ++ i ∷ ys) ≡ true → is_in xs i ≡ false
once_apart [] i ys e = refl
once_apart (x ∷ xs) i ys e =
    let p = and_first (not (is_in (xs ++ i ∷ ys) x)) (each_once (xs ++ i ∷ ys)) e in
    neither_or (nat_eq i x) (is_in xs i) (turned i x (in_front xs i ys x (not_true (is_in (xs ++ i ∷ ys) x) p)))
    (once_apart xs i ys (and_second (not (is_in (xs ++ i ∷ ys) x)) (each_once (xs ++ i ∷ ys)) e))

module _ (front : List AssignedStep) (z : AssignedStep) (back : List AssignedStep) (once : each_once (flat_map assigned_by (front ++ z ∷ back)) ≡ true) where
  apart : (i : ℕ) (ys : List ℕ) → flat_map assigned_by (z ∷ back) ≡ i ∷ ys → is_in (flat_map assigned_by front) i ≡ false
  apart i ys e =
      once_apart (flat_map assigned_by front) i ys
      (subst (λ l. each_once l ≡ true) (flat_append front (z ∷ back) ∙ ap (λ l. flat_map assigned_by front ++ l) e) once)

pub is_fresh : (front : List AssignedStep) (z : AssignedStep) (back : List AssignedStep) → each_once (flat_map assigned_by (front ++ z ∷ back)) ≡ true →
    (j : ℕ) → is_in (assigned_by z) j ≡ true → assigns front j ≡ false
is_fresh front (mark.Guard k b) back once j e = absurd (true_false (sym e))
is_fresh front (mark.Pick ps) back once j e = absurd (true_false (sym e))
is_fresh front (mark.Equals i k) back once j e =
    subst (λ n. assigns front n ≡ false) (sym (the_name i j e)) (apart front (mark.Equals i k) back once i (flat_map assigned_by back) refl)
is_fresh front (mark.Among i k) back once j e =
    subst (λ n. assigns front n ≡ false) (sym (the_name i j e)) (apart front (mark.Among i k) back once i (flat_map assigned_by back) refl)

-- ---- the types of names

name_below : (names : List Kind) (c : Context) (z : AssignedStep) (back : List AssignedStep) → IsTrue (sound_assigned names c (z ∷ back)) →
    (j : ℕ) → is_in (assigned_by z) j ≡ true → j < length names
name_below names c (mark.Guard k b) back s j e = absurd (true_false (sym e))
name_below names c (mark.Pick ps) back s j e = absurd (true_false (sym e))
name_below names c (mark.Equals i k) back s j e =
    let r = equals_kind names c i k back s in
    subst (λ n. n < length names) (sym (the_name i j e)) (get_below names i r.kind r.is)
name_below names c (mark.Among i k) back s j e =
    let r = among_kind names c i k back s in
    subst (λ n. n < length names) (sym (the_name i j e)) (get_below names i r.kind r.is)

name_sorts : (ks : List CellKind) (names : List Kind) (c : Context) (z : AssignedStep) (back : List AssignedStep) (ids : List CellId) →
    IsTrue (sound_assigned names c (z ∷ back)) → CellSorts ks z ids → (j : ℕ) (a : Kind) → is_in (assigned_by z) j ≡ true → slice_get names j ≡ Some a →
    All (OfSort ks (sort_of a)) ids
name_sorts ks names c (mark.Guard k b) back ids s q j a e n = absurd (true_false (sym e))
name_sorts ks names c (mark.Pick ps) back ids s q j a e n = absurd (true_false (sym e))
name_sorts ks names c (mark.Equals i k) back ids s q j a e n =
    let r = equals_kind names c i k back s in
    subst (λ d. All (OfSort ks (sort_of d)) ids) (some_one r.kind a (sym r.is ∙ (ap (slice_get names) (sym (the_name i j e)) ∙ n))) (q r.kind r.so)
name_sorts ks names c (mark.Among i k) back ids s q j a e n =
    let r = among_kind names c i k back s in
    subst (λ d. All (OfSort ks (sort_of d)) ids) (some_one r.kind a (sym r.is ∙ (ap (slice_get names) (sym (the_name i j e)) ∙ n))) (q r.kind r.so)

-- ---- one step more

module _ (old g h : Build) (start : CellEnv) (front : List AssignedStep) (z : AssignedStep) (back : List AssignedStep) (u v : Walk)
    (can : CanRewritePath old start (front ++ z ∷ back)) (forced : (a : List Bool) → Satisfies a old.formula → lit_value top_lit a ≡ true)
    (W : IsWalking old g start front (z ∷ back) u) where
  whole_is : (front ++ z ∷ []) ++ back ≡ front ++ z ∷ back
  whole_is = append_assoc front (z ∷ []) back

  fresh : (j : ℕ) → is_in (assigned_by z) j ≡ true → assigns front j ≡ false
  fresh = is_fresh front z back can.once

  never_at : (b : Build) → Grows old b → (l : Lit) → is_never l ≡ true → (a : List Bool) → Satisfies a b.formula → lit_value l a ≡ false
  never_at b gb l e a p = never_true l a e (forced a (Satisfies-before old b a gb p))

  over_turn : is_never u.cells.holds ≡ true → IsWalking old g start (front ++ z ∷ []) back u
  over_turn e = record {
    walk = walk_over old g start u.env front z u.cells W.walk (never_at g W.walk.grows u.cells.holds e) fresh;
    count = W.count;
    sorts = subst (λ l. HasNextSorts g start l u.cells) (sym whole_is) W.sorts;
    can = inl e;
  }

  module _ (i : Build) (m : StepCells) (c : CanRewritePath g u.env (z ∷ back)) (gi : Grows g i) (step : IsStepCells g i u.env z m) (ih : Grows i h)
      (same : h.arena ≡ i.arena) where
    gh : Grows g h
    gh = Grows-trans g i h gi ih

    at_width : IsStep (Some old.arena.width) g i u.env z m
    at_width = subst (λ n. IsStep (Some n) g i u.env z m) (width-later old g W.walk.grows) step.step

    -- a step that never holds
    module _ (lits : AddsLiterals h.formula m u.cells v.cells) (bottom : v.cells.holds ≡ the_bottom) (next : v.cells.next ≡ u.cells.next)
        (env : v.env ≡ u.env) where
      none_holds : (a : List Bool) → Satisfies a h.formula → lit_value v.cells.holds a ≡ false
      none_holds a p =
          subst (λ l. lit_value l a ≡ false) (sym bottom) (never_at h (Grows-trans old g h W.walk.grows gh) the_bottom refl a p)

      pub never_turn : IsWalking old h start (front ++ z ∷ []) back v
      never_turn = record {
        walk = walk_never old g i h start u.env front z m u.cells v.cells W.walk gi at_width ih lits can.cells.there c.cells.there fresh none_holds next v.env;
        count = ap length next ∙ W.count ∙ ap (λ (e : CellEnv). length e.next) (sym env);
        sorts = record {
          count = ap length next ∙ W.sorts.count;
          sorts = λ names d s j a y n e.
              OfSort-later g h (sort_of a) y.0
              (W.sorts.sorts names d (subst (λ l. IsTrue (sound_assigned names d l)) whole_is s) j a y n (ap (λ (xs : Items). item_at xs j) (sym next) ∙ e)) gh;
        };
        can = inl (subst (λ l. is_never l ≡ true) (sym bottom) refl);
      }

    -- a step with its cells
    module _ (calm : list_any is_never m.choices ≡ false) (lits : AddsLiterals h.formula m u.cells v.cells) (env : v.env ≡ env_past z m.cells u.env)
        (next : v.cells.next ≡ items_past z m.cells v.cells.holds u.cells.next) where
      one : OneEach z m.cells
      one = step.gives.one calm

      new_sorts : CellSorts h.arena.kinds z m.cells
      new_sorts = subst (λ b. CellSorts b.kinds z m.cells) (sym same) (step.gives.sorts calm)

      enough : (j : ℕ) → is_in (assigned_by z) j ≡ true → j < length u.cells.next
      enough j e =
          let lt = name_below c.names c.context z back c.sound j e in
          let n = W.count in
          let k = c.cells.count in
          omega arith

      next_sort : (names : List Kind) (d : Context) → IsTrue (sound_assigned names d (front ++ z ∷ back)) → (j : ℕ) (a : Kind) (y : CellId × Lit) →
          slice_get names j ≡ Some a → item_at v.cells.next j ≡ Some y → (b : Bool) → is_in (assigned_by z) j ≡ b → OfSort h.arena.kinds (sort_of a) y.0
      next_sort names d s j a y n e true q =
          let r = sound_behind names d front (z ∷ back) s in
          let k = named_past v.cells.holds u.cells.next h.arena z m.cells j one q (enough j q) in
          let all = name_sorts h.arena.kinds names r.context z back m.cells r.sound new_sorts j a q n in
          let here = All-head (OfSort h.arena.kinds (sort_of a)) k.cell [] (subst (All (OfSort h.arena.kinds (sort_of a))) k.among all) in
          subst (λ (w : CellId × Lit). OfSort h.arena.kinds (sort_of a) w.0)
          (some_one (k.cell, v.cells.holds) y (sym (ap (λ (xs : Items). item_at xs j) next ∙ k.is) ∙ e)) here
      next_sort names d s j a y n e false q =
          OfSort-later g h (sort_of a) y.0
          (W.sorts.sorts names d s j a y n (sym (ap (λ (xs : Items). item_at xs j) next ∙ item_other v.cells.holds u.cells.next z m.cells j q) ∙ e)) gh

      env_count : length (env_past z m.cells u.env).next ≡ length u.env.next
      env_count = by z m.cells
        where
          by : (z : AssignedStep) (ids : List CellId) → length (env_past z ids u.env).next ≡ length u.env.next
          by (mark.Guard k b) ids = refl
          by (mark.Pick ps) ids = refl
          by (mark.Equals j k) [] = refl
          by (mark.Equals j k) (id ∷ ids) = length-set u.env.next j (Some id)
          by (mark.Among j k) [] = refl
          by (mark.Among j k) (id ∷ ids) = length-set u.env.next j (Some id)

      pub takes_turn : IsWalking old h start (front ++ z ∷ []) back v
      takes_turn = record {
        walk = subst (λ e. WalkOver old h start e (front ++ z ∷ []) v.cells) (sym env)
            (walk_more old g i h start u.env front z m u.cells v.cells W.walk gi at_width ih lits can.cells.there c.cells.there fresh one next enough);
        count = ap length next ∙ count_past v.cells.holds u.cells.next z m.cells ∙ W.count ∙ sym env_count ∙ ap (λ (e : CellEnv). length e.next) (sym env);
        sorts = record {
          count = ap length next ∙ count_past v.cells.holds u.cells.next z m.cells ∙ W.sorts.count;
          sorts = λ names d s j a y n e.
              next_sort names d (subst (λ l. IsTrue (sound_assigned names d l)) whole_is s) j a y n e (is_in (assigned_by z) j) refl;
        };
        can = inr (subst (λ e. CanRewritePath h e back) (sym env) (can_rest g h u.env gh z back m.cells c one new_sorts));
      }

    pub adds_turn : Adds h.formula z m u v → IsWalking old h start (front ++ z ∷ []) back v
    adds_turn (never e lits bottom next env) = never_turn lits bottom next env
    adds_turn (takes e lits env next) = takes_turn e lits env next

  go_on : is_never u.cells.holds ≡ false → (is_never u.cells.holds ≡ true) ⊎ CanRewritePath g u.env (z ∷ back) → CanRewritePath g u.env (z ∷ back)
  go_on e (inl q) = absurd (true_false (sym q ∙ e))
  go_on e (inr c) = c

  pub walking_turn : Turn g h z u v → IsWalking old h start (front ++ z ∷ []) back v
  walking_turn (over e p q) =
      subst (λ b. IsWalking old b start (front ++ z ∷ []) back v) (sym p)
      (subst (IsWalking old g start (front ++ z ∷ []) back) (sym q) (over_turn e))
  walking_turn (adds e i m gi step ih same a) = adds_turn i m (go_on e W.can) gi step ih same a

  pub can_go_on : CanGoOn g u z
  can_go_on = record { below = W.walk.cells.below; can = by W.can }
    where
      by : (is_never u.cells.holds ≡ true) ⊎ CanRewritePath g u.env (z ∷ back) → (is_never u.cells.holds ≡ true) ⊎ CanRewritePath g u.env (z ∷ [])
      by (inl e) = inl e
      by (inr c) = inr (can_one g u.env z back c)

-- ---- the start and the end

none_at : (os : List (Option CellId)) (j : ℕ) → item_at (map (λ _. None) os) j ≡ None
none_at [] j = refl
none_at (o ∷ os) zero = refl
none_at (o ∷ os) (suc j) = none_at os j

pub walking_none : (b : Build) (env : CellEnv) (zs : List AssignedStep) (u : Walk) → CanRewritePath b env zs →
    ((a : List Bool) → Satisfies a b.formula → lit_value top_lit a ≡ true) → 0 < b.formula.vars → u.env ≡ env → u.cells ≡ no_steps top_lit env.next →
    IsWalking b b env [] zs u
walking_none b env zs u c forced some e q = record {
  walk = subst (λ d. WalkOver b b env d [] u.cells) (sym e)
      (subst (λ x. WalkOver b b env env [] x) (sym q)
      (walk_none b env (no_steps top_lit env.next) below (none_at env.next) forced (λ a p. ap not (forced a p)) (λ a p. ap not (forced a p))));
  count = as_many ∙ ap (λ (d : CellEnv). length d.next) (sym e);
  sorts = record {
    count = as_many;
    sorts = λ names d s j a y n i. absurd (none_some y (sym (none_at env.next j) ∙ (ap (λ (x : PathCells). item_at x.next j) (sym q) ∙ i)));
  };
  can = inr (subst (λ d. CanRewritePath b d zs) (sym e) c);
}
  where
    none_some : (y : CellId × Lit) → None ≡ Some y → ⊥
    none_some y e = cc

    as_many : length u.cells.next ≡ length env.next
    as_many = ap (λ (x : PathCells). length x.next) q ∙ length-map env.next (λ (_ : Option CellId). None)

    below : AreBelow b (no_steps top_lit env.next)
    below = record {
      holds = some;
      wrong = some;
      big = some;
      items = λ j y i. absurd (none_some y (sym (none_at env.next j) ∙ i));
    }

-- ---- the places of the steps

pub take_one : {X : Type 0} (xs : List X) (i : ℕ) (d : X) → i < length xs → take (i + 1) xs ≡ take i xs ++ get_or xs i d ∷ []
take_one [] i d lt = absurd (omega arith)
take_one (x ∷ xs) zero d lt = refl
take_one (x ∷ xs) (suc i) d lt =
    let e : suc i + 1 ≡ suc (i + 1) = omega arith in
    ap (λ n. take n (x ∷ xs)) e ∙ ap (λ l. x ∷ l) (take_one xs i d (omega arith))

pub drop_one : {X : Type 0} (xs : List X) (i : ℕ) (d : X) → i < length xs → drop i xs ≡ get_or xs i d ∷ drop (i + 1) xs
drop_one [] i d lt = absurd (omega arith)
drop_one (x ∷ xs) zero d lt = refl
drop_one (x ∷ xs) (suc i) d lt =
    let e : suc (i + 1) ≡ suc i + 1 = omega arith in
    drop_one xs i d (omega arith) ∙ ap (λ n. get_or xs i d ∷ drop n (x ∷ xs)) e

pub take_drop : {X : Type 0} (xs : List X) (i : ℕ) → take i xs ++ drop i xs ≡ xs
take_drop xs zero = refl
take_drop [] (suc i) = refl
take_drop (x ∷ xs) (suc i) = ap (λ l. x ∷ l) (take_drop xs i)
