-- The paths of CInit, Init and Next can be rewritten from where they are taken.
use Rattle.std.proofs.Common.{◌≡◌, ℕ, suc, ◌<◌, ◌≤◌, Bool, true, false, ◌&&◌, IsTrue, List, []}
use Rattle.std.proofs.Common.{◌∷◌, map, take, length, Option, Some, None, refl, sym, ◌∙◌, ap, subst, arith}
use Rattle.std.specs.Prelude.{All, nat_le, nat_lt, slice_get}
use Rattle.std.specs.List.{list_all}
use Rattle.std.proofs.lemmas.List.{take_all}
use Rattle.std.proofs.lemmas.List.Elements.{All-cons, All-nil, All-take}
use Rattle.tla_meaning.specs.Scopes.{or_else}
use Rattle.tla_meaning.proofs.Views.{and_left, and_right, and_both, false≢true}
use Rattle.kernel_trees.specs.declared.path.Assigned.{Assigned}
use Rattle.kernel_trees.specs.declared.system.System.{System}
use Rattle.kernel_trees.specs.Assignments.{reads_late}
use Rattle.kernel_trees.specs.Paths.{Marks}
use Rattle.kernel_trees.specs.Sound.{sound_assigned}
use Rattle.kernel_trees.specs.Systems.{assigns_once, constants_first}
use Rattle.kernel_trees.specs.TypeKinds.{Kind}
use Rattle.kernel_shapes.specs.declared.bounds.Shape.{Shape as Code}
use Rattle.kernel_shapes.specs.Laws.{PathsAre}
use Rattle.kernel_shapes.specs.Systems.{every_name}
use Rattle.kernel_shapes.proofs.PathLaw.{Within}
use Rattle.shape_bounds.specs.Kept.{IsWidth}
use Rattle.cell_arena.specs.declared.build.Build.{Build}
use Rattle.cell_arena.specs.declared.kinds.CellId.{CellId}
use Rattle.cell_arena.specs.declared.kinds.CellKind.{CellKind}
use Rattle.typed_cells.specs.Known.{IsTextAmong}
use Rattle.system_texts.specs.SystemTexts.{is_textual}
use Rattle.path_bounds.specs.BoundedPaths.{nodes_on}
use Rattle.expr_rewriter.specs.declared.cell_env.CellEnv.{CellEnv}
use Rattle.expr_rewriter.specs.Environments.{IsThere, next_cell}
use Rattle.path_walks.specs.Paths.{HoldsCells, blank, is_blank}
use Rattle.branch_cells.specs.declared.way.Way.{Way}
use Rattle.branch_cells.specs.Along.{CanFollow, CanGoAlong, IsReady}
use Rattle.branch_cells.specs.Branches.{AreOfKinds}
use Rattle.step_branches.specs.Ways.{IsConstantsWay, IsStartWay, IsStepWay, of_constants}
use Rattle.step_laws.specs.Encodable.{constant_count, start_marks, step_marks}
use Rattle.step_encoder.specs.inner.Asked.{AreKept, IsOver, names_of}
use Rattle.step_encoder.proofs.CellKinds.{env_is, kinds_at, kinds_count, kinds_some, kinds_there}
use Rattle.step_encoder.proofs.Constants.{at_place, constants_all, constants_at, constants_count}
use Rattle.step_encoder.proofs.Constants.{constants_there, count, count_within, first_true, get_none, nones_all}
use Rattle.step_encoder.proofs.Constants.{nones_at, take_at}
use Rattle.step_encoder.proofs.Extents.{constants_kept, empty_kept, some_extent}
use Rattle.step_encoder.proofs.Late.{late_within}
use Rattle.step_encoder.proofs.Systems.{Known, all_nodes, all_once, known, same_names, texts_of_constants}
use Rattle.step_encoder.proofs.Systems.{texts_of_next, texts_of_start}

-- ---- all paths of an action

abbrev all_paths_sound : List Kind → List Assigned → Bool
all_paths_sound names xs = list_all (λ x. sound_assigned names [] x.steps) xs

abbrev all_late : Marks → List Assigned → Bool
all_late m xs = list_all (λ x. reads_late m [] x.steps) xs

pub all_follow : (b : Build) (names : List Kind) (way : Way) (m : Marks) → Within (length names) (blank way.env) m →
    IsTextAmong b.arena.texts [] → (xs : List Assigned) →
    IsTrue (all_paths_sound names xs) → IsTrue (all_once xs) → IsTrue (all_late m xs) →
    IsTrue (all_nodes b.arena.texts xs) → All (CanFollow b names way) xs
all_follow b names way m within empty [] s o l t = All-nil (CanFollow b names way)
all_follow b names way m within empty (x ∷ xs) s o l t =
    let own = and_left (sound_assigned names [] x.steps) (all_paths_sound names xs) s in
    All-cons (CanFollow b names way) x xs
    (record {
      sound = own;
      once = and_left (assigns_once x.steps) (all_once xs) o;
      late = late_within names (blank way.env) m within x.steps [] [] own
          (and_left (reads_late m [] x.steps) (all_late m xs) l);
      texts = record {
        empty = empty;
        nodes = and_left (nodes_on (is_textual b.arena.texts) x.steps)
            (all_nodes b.arena.texts xs) t;
      };
    })
    (all_follow b names way m within empty xs (and_right (sound_assigned names [] x.steps) (all_paths_sound names xs) s)
    (and_right (assigns_once x.steps) (all_once xs) o)
    (and_right (reads_late m [] x.steps) (all_late m xs) l)
    (and_right (nodes_on (is_textual b.arena.texts) x.steps) (all_nodes b.arena.texts xs) t))

-- ---- cells

none_kind : {X : Type 0} (x : X) → None ≡ Some x → ⊥
none_kind x e = cc

module _ (ks : List CellKind) (names : List Kind) (fixed : List Bool) (filled : length fixed ≡ length names) where
  abbrev Here : Option CellId → Type 0
  Here o = IsThere (length ks) o

  abbrev none_env : CellEnv
  none_env = record { now = []; next = map (λ _. None) fixed; bound = [] }

  abbrev no_items : List Bool → List (Option CellId)
  no_items bs = map (λ _. None) bs

  count_of : (bs : List Bool) → length (no_items bs) ≡ length bs
  count_of [] = refl
  count_of (b ∷ bs) = ap suc (count_of bs)

  pub nothing_held : (env : CellEnv) → env.now ≡ [] → env.next ≡ map (λ _. None) fixed → env.bound ≡ [] →
      HoldsCells ks names [] env
  nothing_held env e f g = subst (HoldsCells ks names []) (sym (env_is env [] (map (λ _. None) fixed) [] e f g)) by
    where
      by : HoldsCells ks names [] none_env
      by = record {
        there = record {
          current = All-nil (λ (id : CellId). id.index < length ks);
          following = nones_all Here fixed tt;
          bound = All-nil (λ (e : ℕ × CellId). e.1.index < length ks);
        };
        count = count_of fixed ∙ filled;
        current = λ i a id q r. absurd (get_none i id r);
        following = λ i a id q r. absurd (none_kind id (sym (nones_at fixed i) ∙ r));
        numbered = λ n a q. absurd (none_kind a q);
      }

  module _ (ids : List CellId) (h : AreOfKinds ks names ids) where
    as_many : length fixed ≡ length ids
    as_many = filled ∙ sym (kinds_count ks names ids h)

    abbrev first_env : ℕ → CellEnv
    first_env n = record { now = take n ids; next = of_constants fixed ids; bound = [] }

    pub some_held : (n : ℕ) (env : CellEnv) → env.now ≡ take n ids → env.next ≡ of_constants fixed ids →
        env.bound ≡ [] → HoldsCells ks names [] env
    some_held n env e f g = subst (HoldsCells ks names []) (sym (env_is env (take n ids)
        (of_constants fixed ids) [] e f g)) by
      where
        by : HoldsCells ks names [] (first_env n)
        by = record {
          there = record {
            current = All-take (λ (id : CellId). id.index < length ks) n ids (kinds_there ks names ids h);
            following = constants_all Here fixed ids tt (kinds_there ks names ids h);
            bound = All-nil (λ (e : ℕ × CellId). e.1.index < length ks);
          };
          count = constants_count fixed ids as_many ∙ filled;
          current = λ i a id q r. kinds_at ks names ids i a id h q (take_at n ids i id r).1;
          following = λ i a id q r. kinds_at ks names ids i a id h q (constants_at fixed ids i id r);
          numbered = λ n a q. absurd (none_kind a q);
        }

    -- a name without a cell behind CInit is a variable
    constant_there : (i : ℕ) → IsTrue (constants_first fixed) → i < count fixed →
        is_blank (at_place (of_constants fixed ids) i) ≡ false
    constant_there i first lt =
        let c = kinds_some ks names ids i h (before i (count fixed) (length fixed) (length names) lt
        (count_within fixed) filled) in
        ap is_blank (constants_there fixed ids i as_many (first_true fixed i first lt) ∙ c.1)
      where
        before : (i m n k : ℕ) → i < m → m ≤ n → n ≡ k → i < k
        before i m n k p q e = omega (arith, p, q, e)

    marked : (i n c : ℕ) → nat_lt i n ≡ true → (i < c → ⊥) → (nat_lt i n && nat_le c i) ≡ true
    marked i n c l q = and_both (nat_lt i n) (nat_le c i) l (above i c q)
      where
        above : (i c : ℕ) → (i < c → ⊥) → nat_le c i ≡ true
        above i c q = grind (arith, q)

    next_blank : (i : ℕ) → IsTrue (constants_first fixed) → is_blank (at_place (of_constants fixed ids) i) ≡ true →
        i < count fixed → ⊥
    next_blank i first e lt = false≢true (sym (constant_there i first lt) ∙ e)

    either_blank : (o p : Option CellId) → is_blank (or_else o p) ≡ true → is_blank p ≡ true
    either_blank None p e = e
    either_blank (Some id) p e = absurd (false≢true e)

    below : (i n : ℕ) → nat_lt i n ≡ true → i < n
    below i n l = grind (arith, l)

    pub start_within : (env : CellEnv) → IsTrue (constants_first fixed) → env.next ≡ of_constants fixed ids →
        Within (length names) (blank env) (λ i primed. nat_lt i (length fixed) && nat_le (count fixed) i)
    start_within env first f i primed l e =
        marked i (length fixed) (count fixed) (subst (λ (n : ℕ). nat_lt i n ≡ true) (sym filled) l)
        (next_blank i first (by primed e))
      where
        next_is : next_cell env i ≡ at_place (of_constants fixed ids) i
        next_is = ap (λ (os : List (Option CellId)). at_place os i) f

        by : (primed : Bool) → blank env i primed ≡ true → is_blank (at_place (of_constants fixed ids) i) ≡ true
        by true e = ap is_blank (sym next_is) ∙ e
        by false e = ap is_blank (sym next_is) ∙ either_blank (slice_get env.now i) (next_cell env i) e

    pub step_within : (env : CellEnv) → IsTrue (constants_first fixed) → env.now ≡ ids →
        env.next ≡ of_constants fixed ids →
        Within (length names) (blank env) (λ i primed. nat_lt i (length fixed) && (primed && nat_le (count fixed) i))
    step_within env first g f i true l e =
        marked i (length fixed) (count fixed) (subst (λ (n : ℕ). nat_lt i n ≡ true) (sym filled) l)
        (next_blank i first (ap (λ (os : List (Option CellId)). is_blank (at_place os i)) (sym f) ∙ e))
    step_within env first g f i false l e =
        let c = kinds_some ks names ids i h (below i (length names) l) in
        absurd (false≢true (ap (λ (o : Option CellId). is_blank (or_else o (next_cell env i)))
        (sym (ap (λ (xs : List CellId). slice_get xs i) g ∙ c.1)) ∙ e))

pub every_within : (names : List Kind) (env : CellEnv) → Within (length names) (blank env) every_name
every_within names env i primed l e = refl

-- ---- the three

module _ (b : Build) (s : System) (over : IsOver b s) (narrow : 4 ≤ b.arena.width) (wide : b.arena.width ≤ 64) where
  abbrev is : Known s
  is = known s over.known

  -- of a way, what is known by its kind
  record Stood (ids : List CellId) (way : Way) : Type 0 where
    pub width : way.width ≡ b.arena.width
    pub others : way.others ≡ ids
    pub kinds : AreOfKinds b.arena.kinds (names_of s) ids
    pub cells : HoldsCells b.arena.kinds (names_of s) [] way.env
    pub now : AreKept way.now
    pub next : AreKept way.next

  sized : (w : ℕ) → w ≡ b.arena.width → IsWidth w
  sized w e = record { some = some w b.arena.width e narrow; narrow = subst (λ (n : ℕ). n ≤ 64) (sym e) wide }
    where
      some : (w n : ℕ) → w ≡ n → 4 ≤ n → 1 ≤ w
      some w n e h = omega (arith, e, h)

  ready : (others : List CellId) (way : Way) → Stood others way → IsReady b (names_of s) way
  ready others way h =
      let g = some_extent way.now way.next h.now h.next in
      record {
        width = h.width;
        sized = sized way.width h.width;
        extent = g.0;
        shapes = g.1;
        cells = h.cells;
        others = subst (AreOfKinds b.arena.kinds (names_of s)) (sym h.others) h.kinds;
      }

  paths : (m : Marks) (xs : List Assigned) → PathsAre over.known.names m xs → PathsAre (names_of s) m xs
  paths m xs h = subst (λ (ns : List Kind). PathsAre ns m xs) (sym (same_names s over.known)) h

  pub can_constants : (others : List CellId) (way : Way) → AreOfKinds b.arena.kinds (names_of s) others →
      IsConstantsWay s b.arena.width others way →
      CanGoAlong b (names_of s) way s.constants
  can_constants others way h w = record {
    ready = ready others way (record {
      width = w.is.width;
      others = w.is.others;
      kinds = h;
      cells = nothing_held b.arena.kinds (names_of s) s.ker.fixed is.filled way.env w.current w.following w.is.bound;
      now = subst AreKept (sym w.shapes_now) (empty_kept s.ker.fixed);
      next = subst AreKept (sym w.shapes_next) (empty_kept s.ker.fixed);
    });
    paths = all_follow b (names_of s) way every_name (every_within (names_of s) way.env) over.texts.empty s.constants
        (subst (λ (ns : List Kind). IsTrue (all_paths_sound ns s.constants))
        (sym (same_names s over.known)) over.known.constants.sound)
        is.constants over.known.constants.late (texts_of_constants b.arena.texts s over.texts);
  }

  pub can_start : (cells : List CellId) (codes : List Code) (way : Way) → AreKept codes →
      AreOfKinds b.arena.kinds (names_of s) cells → IsStartWay s b.arena.width cells codes way →
      CanGoAlong b (names_of s) way s.start
  can_start cells codes way kept h w =
      let p = paths (start_marks s) s.start over.known.start in
      record {
        ready = ready cells way (record {
          width = w.is.width;
          others = w.is.others;
          kinds = h;
          cells = some_held b.arena.kinds (names_of s) s.ker.fixed is.filled cells h
              (constant_count s) way.env w.current w.following w.is.bound;
          now = subst AreKept (sym w.shapes_now) (constants_kept s.ker.fixed codes kept);
          next = subst AreKept (sym w.shapes_next) (constants_kept s.ker.fixed codes kept);
        });
        paths = all_follow b (names_of s) way (start_marks s) (start_within b.arena.kinds
            (names_of s) s.ker.fixed is.filled cells h way.env is.first w.following) over.texts.empty
            s.start p.sound is.start p.late (texts_of_start b.arena.texts s over.texts);
      }

  pub can_step : (cells : List CellId) (codes : List Code) (way : Way) → AreKept codes →
      AreOfKinds b.arena.kinds (names_of s) cells → IsStepWay s b.arena.width cells codes way →
      CanGoAlong b (names_of s) way s.next
  can_step cells codes way kept h w =
      let p = paths (step_marks s) s.next over.known.next in
      record {
        ready = ready cells way (record {
          width = w.is.width;
          others = w.is.others;
          kinds = h;
          cells = all_held cells h way.env w.current w.following w.is.bound;
          now = subst AreKept (sym w.shapes_now) kept;
          next = subst AreKept (sym w.shapes_next) (constants_kept s.ker.fixed codes kept);
        });
        paths = all_follow b (names_of s) way (step_marks s) (step_within b.arena.kinds
            (names_of s) s.ker.fixed is.filled cells h way.env is.first w.current w.following)
            over.texts.empty s.next p.sound is.next p.late (texts_of_next b.arena.texts s over.texts);
      }
    where
      same : (n : ℕ) → n ≤ n
      same n = omega arith

      all_held : (cells : List CellId) → AreOfKinds b.arena.kinds (names_of s) cells → (env : CellEnv) →
          env.now ≡ cells → env.next ≡ of_constants s.ker.fixed cells → env.bound ≡ [] →
          HoldsCells b.arena.kinds (names_of s) [] env
      all_held cells h env e f g = some_held b.arena.kinds (names_of s) s.ker.fixed is.filled cells h
          (length cells) env (e ∙ sym (take_all (length cells) cells (same (length cells)))) f g
