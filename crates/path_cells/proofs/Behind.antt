-- What is asked of a path is asked of the rest, in the environment behind its first step.
use Rattle.std.proofs.Common.{◌≡◌, ◌⊎◌, inl, inr, ℕ, zero, suc, ◌<◌, Bool, true, false, not, ◌&&◌, ◌||◌, eqb, List, [], ◌∷◌, ◌++◌, set, map, zip, length, length-set, All, refl, sym, ◌∙◌, ap, subst, arith}
use Rattle.std.specs.Prelude.{Option, Some, None, flat_map, nat_eq, option_and_then, slice_get}
use Rattle.std.specs.List.{list_all}
use Rattle.std.proofs.lemmas.Bool.{eqb-true, eqb-false, ne_eqb}
use Rattle.std.proofs.lemmas.List.{length-map}
use Rattle.std.proofs.lemmas.List.Elements.{All-head, All-set}
use Rattle.tla_meaning.specs.declared.place.Place.{Place}
use Rattle.tla_meaning.specs.Scopes.{or_else}
use Rattle.snowcat_rows.specs.declared.types.Ty.{Ty}
use Rattle.snowcat_rows.specs.declared.types.Ty.TheVariants as ty
use Rattle.cell_arena.specs.declared.build.Build.{Build}
use Rattle.cell_arena.specs.declared.kinds.CellId.{CellId}
use Rattle.cell_arena.specs.declared.kinds.CellKind.{CellKind}
use Rattle.cell_arena.specs.Growth.{Grows}
use Rattle.cell_merge.specs.Sorts.{OfSort}
use Rattle.cell_merge.proofs.SortLaws.{OfSort-later}
use Rattle.cell_merge.proofs.Edges.{sort-there}
use Rattle.kernel_trees.specs.declared.kernel.Ker.{Ker, roll-Ker}
use Rattle.kernel_trees.specs.declared.kernel.KerOp.TheVariants as ker
use Rattle.kernel_trees.specs.declared.path.AssignedStep.{AssignedStep}
use Rattle.kernel_trees.specs.declared.path.AssignedStep.TheVariants as mark
use Rattle.kernel_trees.specs.Assignments.{assigned_by, is_in, open_names, reads_late}
use Rattle.kernel_trees.specs.Paths.{Marks, mentions, numbers, sets}
use Rattle.kernel_trees.specs.Sound.{Context, is_finite, kind_at, passes, picked_kinds, sound, sound_assigned, sound_guard, sound_pick}
use Rattle.kernel_trees.specs.TypeKinds.{Kind, Set, is_kind}
use Rattle.kernel_trees.proofs.Trees.{mentions-roll}
use Rattle.typed_cells.specs.KindSorts.{HasSort, OfSorts, sort_of}
use Rattle.typed_cells.specs.Known.{IsTextAmong}
use Rattle.expr_rewriter.specs.declared.cell_env.CellEnv.{CellEnv}
use Rattle.expr_rewriter.specs.Environments.{HoldsEnv, IsThere, bound_cell, is_name, next_cell}
use Rattle.expr_rewriter.proofs.Holding.{HoldsEnv-bound, HoldsEnv-later}
use Rattle.expr_rewriter.proofs.Opening.{texts_later}
use Rattle.path_walks.specs.Paths.{CanRewritePath, HoldsCells, blank, each_once, is_blank, path_texts}
use Rattle.path_walks.specs.inner.Walks.{OneEach, env_past, put_next}
use Rattle.path_walks.proofs.Items.{get_set_other, get_set_same}
use Rattle.path_cells.specs.inner.Steps.{CellSorts}
use Rattle.path_cells.proofs.Wider.{and_first, and_second, late_wider}
use Rattle.path_cells.proofs.Conditions.{among_kind, equals_kind, texts_rest}

true_false : true ≡ false → ⊥
true_false e = cc

some_one : {X : Type 0} (x y : X) → Some x ≡ Some y → x ≡ y
some_one x y e = cc

pub get_below : {X : Type 0} (xs : List X) (i : ℕ) (x : X) → slice_get xs i ≡ Some x → i < length xs
get_below [] i x e = absurd (cc)
get_below (y ∷ ys) zero x e = omega arith
get_below (y ∷ ys) (suc i) x e = let lt = get_below ys i x e in omega arith

number_or : (k j : ℕ) → (k ≡ j) ⊎ (k ≡ j → ⊥)
number_or k j = by (eqb k j) refl
  where
    by : (b : Bool) → eqb k j ≡ b → (k ≡ j) ⊎ (k ≡ j → ⊥)
    by true e = inl (eqb-true k j e)
    by false e = inr (eqb-false k j e)

-- ---- growth

HasSort-later : (b c : Build) (a : Kind) (o : Option CellId) → Grows b c → HasSort b.arena.kinds (sort_of a) o → HasSort c.arena.kinds (sort_of a) o
HasSort-later b c a None g h = h
HasSort-later b c a (Some id) g h = OfSort-later b c (sort_of a) id h g

-- a tree that reads nothing
module _ (p : Place) (t : Ty) where
  abbrev nothing : Ker
  nothing = roll-Ker (record { place = p; ty = t; op = ker.NoCase; args = []; binds = [] })

  no_mention : (m : Marks) → mentions m nothing ≡ false
  no_mention m = mentions-roll m (record { place = p; ty = t; op = ker.NoCase; args = []; binds = [] })

  holds_nothing : (ks : List CellKind) (names : List Kind) (c : Context) (env : CellEnv) → HoldsCells ks names c env → HoldsEnv ks names c nothing env
  holds_nothing ks names c env h = record {
    there = h.there;
    named = λ i primed a m n. absurd (true_false (sym m ∙ no_mention (is_name i primed)));
    numbered = h.numbered;
  }

a_place : Place
a_place = record { file = 0; line = 0; col = 0 }

pub cells_later : (b c : Build) (names : List Kind) (d : Context) (env : CellEnv) → Grows b c → HoldsCells b.arena.kinds names d env →
    HoldsCells c.arena.kinds names d env
cells_later b c names d env g h = record {
  there = (HoldsEnv-later b c names d (nothing a_place ty.Bool) env g (holds_nothing a_place ty.Bool b.arena.kinds names d env h)).there;
  count = h.count;
  current = λ i a id n e. OfSort-later b c (sort_of a) id (h.current i a id n e) g;
  following = λ i a id n e. OfSort-later b c (sort_of a) id (h.following i a id n e) g;
  numbered = λ n a e. HasSort-later b c a (bound_cell env.bound n) g (h.numbered n a e);
}

-- ---- more bound numbers

pub cells_bound : (ks : List CellKind) (names : List Kind) (c : Context) (env : CellEnv) (xs : List ℕ) (ms : List Kind) (ids : List CellId) →
    length xs ≡ length ms → OfSorts ks (map sort_of ms) ids → HoldsCells ks names c env →
    HoldsCells ks names (c ++ zip xs ms) (record { now = env.now; next = env.next; bound = env.bound ++ zip xs ids })
cells_bound ks names c env xs ms ids n o h =
    let e = HoldsEnv-bound ks names c (nothing a_place ty.Bool) env xs ms ids n o (holds_nothing a_place ty.Bool ks names c env h) in
    record {
      there = e.there;
      count = h.count;
      current = h.current;
      following = h.following;
      numbered = e.numbered;
    }

-- ---- one more assigned name

at_put : (xs : List (Option CellId)) (j : ℕ) (id d : CellId) → option_and_then (λ o. o) (slice_get (set xs j (Some id)) j) ≡ Some d → id ≡ d
at_put [] j id d e = absurd (cc)
at_put (x ∷ xs) zero id d e = some_one id d e
at_put (x ∷ xs) (suc j) id d e = at_put xs j id d e

module _ (ks : List CellKind) (names : List Kind) (c : Context) (env : CellEnv) (i : ℕ) (a : Kind) (id : CellId) (n : slice_get names i ≡ Some a)
    (s : OfSort ks (sort_of a) id) (h : HoldsCells ks names c env) where
  abbrev given : CellEnv
  given = record { now = env.now; next = put_next i (id ∷ []) env.next; bound = env.bound }

  same_kind : (j : ℕ) (d : Kind) → j ≡ i → slice_get names j ≡ Some d → a ≡ d
  same_kind j d e q = some_one a d (sym n ∙ (ap (slice_get names) (sym e) ∙ q))

  next_sort : (j : ℕ) (d : Kind) (x : CellId) → slice_get names j ≡ Some d → next_cell given j ≡ Some x → (j ≡ i) ⊎ (j ≡ i → ⊥) → OfSort ks (sort_of d) x
  next_sort j d x m e (inl q) =
      subst (λ k. OfSort ks (sort_of k) x) (same_kind j d q m)
      (subst (OfSort ks (sort_of a)) (at_put env.next i id x (subst (λ k. next_cell given k ≡ Some x) q e)) s)
  next_sort j d x m e (inr q) =
      h.following j d x m (ap (option_and_then (λ o. o)) (sym (get_set_other env.next i j (Some id) q)) ∙ e)

  pub cells_given : HoldsCells ks names c given
  cells_given = record {
    there = record {
      current = h.there.current;
      following = All-set (IsThere (length ks)) env.next i (Some id) (sort-there ks (sort_of a) id s) h.there.following;
      bound = h.there.bound;
    };
    count = length-set env.next i (Some id) ∙ h.count;
    current = h.current;
    following = λ j d x m e. next_sort j d x m e (number_or j i);
    numbered = h.numbered;
  }

  -- the name is read behind its assignment, and no other is
  here_blank : (p : Bool) → blank given i p ≡ false
  here_blank p = by p
    where
      lt : i < length env.next
      lt = let q = get_below names i a n in let r = h.count in omega arith

      put_there : next_cell given i ≡ Some id
      put_there = ap (option_and_then (λ o. o)) (get_set_same env.next i (Some id) lt)

      some_either : (o : Option CellId) → is_blank (or_else o (Some id)) ≡ false
      some_either None = refl
      some_either (Some x) = refl

      by : (p : Bool) → blank given i p ≡ false
      by true = ap is_blank put_there
      by false = ap (λ (o : Option CellId). is_blank (or_else (slice_get env.now i) o)) put_there ∙ some_either (slice_get env.now i)

  other_blank : (j : ℕ) (p : Bool) → (j ≡ i → ⊥) → blank given j p ≡ blank env j p
  other_blank j true q = ap (λ (o : Option (Option CellId)). is_blank (option_and_then (λ o. o) o)) (get_set_other env.next i j (Some id) q)
  other_blank j false q =
      ap (λ (o : Option (Option CellId)). is_blank (or_else (slice_get env.now j) (option_and_then (λ o. o) o))) (get_set_other env.next i j (Some id) q)

  pub fewer_open : (j : ℕ) (p : Bool) → open_names (blank given) [] j p ≡ true → open_names (blank env) (i ∷ []) j p ≡ true
  fewer_open j p e = by (number_or j i)
    where
      first : blank given j p ≡ true
      first = and_first (blank given j p) true e

      both : (x y : Bool) → x ≡ true → y ≡ false → (x && not (y || false)) ≡ true
      both true false e f = refl
      both true true e f = absurd (true_false f)
      both false y e f = absurd (true_false (sym e))

      by : (j ≡ i) ⊎ (j ≡ i → ⊥) → open_names (blank env) (i ∷ []) j p ≡ true
      by (inl q) = absurd (true_false (sym first ∙ (ap (λ k. blank given k p) q ∙ here_blank p)))
      by (inr q) = both (blank env j p) (nat_eq j i) (sym (other_blank j p q) ∙ first) (ne_eqb j i q)

-- ---- the rest

module _ (g h : Build) (env : CellEnv) (gr : Grows g h) where
  members_sound : (names : List Kind) (c : Context) (ps : List (ℕ × Ker)) (back : List AssignedStep) (o : Option (List Kind)) → picked_kinds ps ≡ o →
      passes (λ ms. sound_assigned names (c ++ zip (numbers ps) ms) back) o ≡ true →
      (ms : List Kind) × ((picked_kinds ps ≡ Some ms) × (sound_assigned names (c ++ zip (numbers ps) ms) back ≡ true))
  members_sound names c ps back None q e = absurd (true_false (sym e))
  members_sound names c ps back (Some ms) q e = (ms, (q, e))

  sorts_count : (ms : List Kind) (ids : List CellId) → OfSorts h.arena.kinds (map sort_of ms) ids → length ids ≡ length ms
  sorts_count [] [] s = refl
  sorts_count [] (id ∷ ids) s = absurd s
  sorts_count (m ∷ ms) [] s = absurd s
  sorts_count (m ∷ ms) (id ∷ ids) s = let e = sorts_count ms ids s.1 in omega arith

  later_texts : (zs : List AssignedStep) → All (IsTextAmong g.arena.texts) ([] ∷ path_texts zs) → All (IsTextAmong h.arena.texts) ([] ∷ path_texts zs)
  later_texts zs t = texts_later g h ([] ∷ path_texts zs) gr t

  given_rest : (i : ℕ) (back : List AssignedStep) (ids : List CellId) (names : List Kind) (c : Context) (a : Kind) →
      HoldsCells g.arena.kinds names c env → length ids ≡ 1 → slice_get names i ≡ Some a → All (OfSort h.arena.kinds (sort_of a)) ids →
      sound_assigned names c back ≡ true → each_once (flat_map assigned_by back) ≡ true → reads_late (blank env) (i ∷ []) back ≡ true →
      All (IsTextAmong g.arena.texts) ([] ∷ path_texts back) →
      CanRewritePath h (record { now = env.now; next = put_next i ids env.next; bound = env.bound }) back
  given_rest i back [] names c a cells one n s sound once known texts = absurd (omega arith)
  given_rest i back (id ∷ []) names c a cells one n s sound once known texts =
      let sort = All-head (OfSort h.arena.kinds (sort_of a)) id [] s in
      let later = cells_later g h names c env gr cells in
      record {
        names = names;
        context = c;
        sound = sound;
        once = once;
        cells = cells_given h.arena.kinds names c env i a id n sort later;
        known = late_wider (blank (record { now = env.now; next = put_next i (id ∷ []) env.next; bound = env.bound })) (blank env) [] (i ∷ []) back
            (fewer_open h.arena.kinds names c env i a id n sort later) known;
        texts = later_texts back texts;
      }
  given_rest i back (id ∷ d ∷ ids) names c a cells one n s sound once known texts = absurd (omega arith)

  pub can_rest : (z : AssignedStep) (back : List AssignedStep) (ids : List CellId) → CanRewritePath g env (z ∷ back) → OneEach z ids →
      CellSorts h.arena.kinds z ids → CanRewritePath h (env_past z ids env) back
  can_rest (mark.Guard k b) back ids c one s = record {
    names = c.names;
    context = c.context;
    sound = and_second (sound_guard c.names c.context k) (sound_assigned c.names c.context back) c.sound;
    once = c.once;
    cells = cells_later g h c.names c.context env gr c.cells;
    known = and_second (not (mentions (open_names (blank env) []) k)) (reads_late (blank env) [] back) c.known;
    texts = later_texts back (texts_rest (IsTextAmong g.arena.texts) (mark.Guard k b) back c.texts);
  }
  can_rest (mark.Pick ps) back ids c one s =
      let m = members_sound c.names c.context ps back (picked_kinds ps) refl
      (and_second (sound_pick c.names c.context ps) (passes (λ ms. sound_assigned c.names (c.context ++ zip (numbers ps) ms) back) (picked_kinds ps)) c.sound) in
      let sorts = s m.0 m.1.0 in
      let e = sorts_count m.0 ids sorts in
      let n : length (numbers ps) ≡ length m.0 = length-map ps (λ (x : ℕ × Ker). x.0) ∙ (sym one ∙ e) in
      record {
        names = c.names;
        context = c.context ++ zip (numbers ps) m.0;
        sound = m.1.1;
        once = c.once;
        cells = cells_bound h.arena.kinds c.names c.context env (numbers ps) m.0 ids n sorts (cells_later g h c.names c.context env gr c.cells);
        known = and_second (list_all (λ k. not (mentions (open_names (blank env) []) k)) (sets ps)) (reads_late (blank env) [] back) c.known;
        texts = later_texts back (texts_rest (IsTextAmong g.arena.texts) (mark.Pick ps) back c.texts);
      }
  can_rest (mark.Equals i e) back ids c one s =
      let k = equals_kind c.names c.context i e back c.sound in
      let front = passes (λ a. is_kind a (kind_at e)) (slice_get c.names i) && sound c.names e c.context false in
      given_rest i back ids c.names c.context k.kind c.cells one k.is (s k.kind k.so)
      (and_second front (sound_assigned c.names c.context back) c.sound)
      (and_second (not (is_in (flat_map assigned_by back) i)) (each_once (flat_map assigned_by back)) c.once)
      (and_second (not (mentions (open_names (blank env) []) e)) (reads_late (blank env) (i ∷ []) back) c.known)
      (texts_rest (IsTextAmong g.arena.texts) (mark.Equals i e) back c.texts)
  can_rest (mark.Among i e) back ids c one s =
      let k = among_kind c.names c.context i e back c.sound in
      let front = (passes (λ a. is_kind (Set a) (kind_at e)) (slice_get c.names i) && is_finite e) && sound c.names e c.context true in
      given_rest i back ids c.names c.context k.kind c.cells one k.is (s k.kind k.so)
      (and_second front (sound_assigned c.names c.context back) c.sound)
      (and_second (not (is_in (flat_map assigned_by back) i)) (each_once (flat_map assigned_by back)) c.once)
      (and_second (not (mentions (open_names (blank env) []) e)) (reads_late (blank env) (i ∷ []) back) c.known)
      (texts_rest (IsTextAmong g.arena.texts) (mark.Among i e) back c.texts)
