-- A path with the bounds of its ranges can be written, from the start and from a state of cells of their types.
use Rattle.std.proofs.Common.{◌≡◌, ℕ, zero, suc, ◌<◌, true, false, IsTrue, List, [], ◌∷◌, ◌++◌, All, map, length, flat_map, replicate, Option, Some, None, option_map, option_and_then, refl, sym, ◌∙◌, ap, ap₂, subst, arith}
use Rattle.std.specs.Prelude.{◌||◌, IfSome, nat_lt, slice_get}
use Rattle.std.proofs.lemmas.List.Elements.{All-cons, All-head, All-nil, All-tail}
use Rattle.std.proofs.lemmas.List.{length-replicate}
use Rattle.sat_formula.specs.declared.lit.Lit.{Lit}
use Rattle.tla_values.specs.declared.value.Value.TheVariants as value
use Rattle.tla_values.proofs.Extensional.{same_itself}
use Rattle.tla_meaning.specs.declared.actions.Assignable.TheVariants as assignable
use Rattle.tla_meaning.specs.Scopes.{or_else}
use Rattle.tla_meaning.proofs.Laws.{none≢some}
use Rattle.tla_meaning.proofs.Views.{false≢true}
use Rattle.snowcat_rows.specs.declared.types.Ty.{Ty}
use Rattle.kernel_trees.specs.declared.kernel.Ker.{Ker}
use Rattle.kernel_trees.specs.declared.path.Assigned.{Assigned}
use Rattle.kernel_trees.specs.declared.path.AssignedStep.{AssignedStep}
use Rattle.kernel_trees.specs.declared.path.AssignedStep.TheVariants as mark
use Rattle.kernel_trees.specs.Assignments.{assigned_by, read_by}
use Rattle.kernel_trees.specs.Paths.{Marks, marks_below, sets}
use Rattle.kernel_trees.specs.Sound.{sound_assigned}
use Rattle.kernel_trees.specs.TypeKinds.{Kind, kind_of}
use Rattle.kernel_shapes.specs.declared.bounds.Shape.{Shape as Code}
use Rattle.kernel_shapes.specs.declared.bounds.Shape.TheVariants as shape
use Rattle.kernel_shapes.specs.Codes.{mean}
use Rattle.kernel_shapes.specs.Levels.{Assigns}
use Rattle.kernel_shapes.specs.Shape.{Shape, Atom, Num, Set, Fun, Rec, Tup, Seq, Empty}
use Rattle.kernel_shapes.specs.Sized.{Extent}
use Rattle.kernel_shapes.proofs.PathLaw.{Within}
use Rattle.shape_bounds.specs.Extents.{extent_of, given_shape, given_shapes, kept_extent}
use Rattle.shape_bounds.specs.Kept.{capped}
use Rattle.shape_bounds.proofs.Means.{mean-Empty}
use Rattle.path_bounds.specs.BoundedPaths.{HasPathBounds}
use Rattle.cell_arena.specs.declared.build.Build.{Build}
use Rattle.cell_arena.specs.declared.kinds.CellId.{CellId}
use Rattle.cell_arena.specs.declared.kinds.CellKind.{CellKind}
use Rattle.cell_merge.specs.Sorts.{OfSort}
use Rattle.typed_cells.specs.KindSorts.{sort_of}
use Rattle.typed_cells.specs.Known.{IsTextAmong}
use Rattle.expr_rewriter.specs.declared.cell_env.CellEnv.{CellEnv}
use Rattle.expr_rewriter.specs.Environments.{IsThere, next_cell}
use Rattle.expr_rewriter.specs.Rewriting.{texts_in}
use Rattle.path_walks.specs.declared.answer.PathCells.{PathCells}
use Rattle.path_walks.specs.Paths.{CanRewritePath, HasNextSorts, Items, blank, each_once, is_blank, item_at, path_texts}
use Rattle.path_cell_tests.specs.Tested.{AreKept, AreSound, AreStateCells, HasItemSorts, IsReady, IsTested, IsTextlessStep, kinds_of}
use Rattle.path_cell_tests.proofs.LateReads.{late_fewer}

-- ---- texts

flat-append : {X Y : Type 0} (f : X → List Y) (xs ys : List X) → flat_map f xs ≡ [] → flat_map f ys ≡ [] →
    flat_map f (xs ++ ys) ≡ []
flat-append f [] ys h g = g
flat-append f (x ∷ xs) ys h g = join (f x) (flat_map f xs) (flat_map f (xs ++ ys)) h (λ e. flat-append f xs ys e g)
  where
    join : {Y : Type 0} (us vs ws : List Y) → us ++ vs ≡ [] → (vs ≡ [] → ws ≡ []) → us ++ ws ≡ []
    join [] vs ws e f = f e
    join (u ∷ us) vs ws e f = absurd (cc)

sets-textless : (ps : List (ℕ × Ker)) → All (λ p. texts_in p.1 ≡ []) ps → flat_map texts_in (sets ps) ≡ []
sets-textless [] h = refl
sets-textless (p ∷ ps) h =
    ap₂ (λ us vs. us ++ vs) (All-head (λ (q : ℕ × Ker). texts_in q.1 ≡ []) p ps h)
    (sets-textless ps (All-tail (λ (q : ℕ × Ker). texts_in q.1 ≡ []) p ps h))

tree-textless : (k : Ker) → texts_in k ≡ [] → flat_map texts_in (k ∷ []) ≡ []
tree-textless k h = ap (λ us. us ++ []) h

step-textless : (z : AssignedStep) → IsTextlessStep z → flat_map texts_in (read_by z) ≡ []
step-textless (mark.Guard k b) h = tree-textless k h
step-textless (mark.Pick ps) h = sets-textless ps h
step-textless (mark.Equals i k) h = tree-textless k h
step-textless (mark.Among i k) h = tree-textless k h

path-textless : (zs : List AssignedStep) → All IsTextlessStep zs → path_texts zs ≡ []
path-textless [] h = refl
path-textless (z ∷ zs) h =
    flat-append texts_in (read_by z) (flat_map read_by zs) (step-textless z (All-head IsTextlessStep z zs h))
    (path-textless zs (All-tail IsTextlessStep z zs h))

pub can-rewrite : (b : Build) (env : CellEnv) (zs : List AssignedStep) → IsReady b.arena.kinds env zs →
    IsTextAmong b.arena.texts [] →
    All IsTextlessStep zs → CanRewritePath b env zs
can-rewrite b env zs r t h = record {
  names = r.names;
  context = [];
  sound = r.sound;
  once = r.once;
  cells = r.cells;
  known = r.known;
  texts = All-cons (IsTextAmong b.arena.texts) [] (path_texts zs) t
      (subst (All (IsTextAmong b.arena.texts)) (sym (path-textless zs h)) (All-nil (IsTextAmong b.arena.texts)));
}

-- ---- bounds

abbrev no_codes : ℕ → List Code
no_codes n = replicate n shape.Empty

no-shapes : (n : ℕ) → map (option_map capped) (given_shapes (no_codes n)) ≡ given_shapes (no_codes n)
no-shapes zero = refl
no-shapes (suc n) =
    ap₂ (λ (a : Shape) os. option_map capped (given_shape a) ∷ os) mean-Empty (no-shapes n)
    ∙ ap (λ (a : Shape). given_shape a ∷ given_shapes (no_codes n)) (sym mean-Empty)

pub none-kept : (n : ℕ) (codes : List Code) → codes ≡ no_codes n → AreKept codes
none-kept n codes e = subst AreKept (sym e) (record { whole = given_shapes (no_codes n); kept = no-shapes n })

pub kept-extent : (now next : List Code) → AreKept now → AreKept next →
    (g : Extent) × (kept_extent g ≡ extent_of now next [])
kept-extent now next h k = (
  record { now = h.whole; next = k.whole; bound = [] },
  ap₂ (λ as' bs. record { now = as'; next = bs; bound = [] }) h.kept k.kept,
)

pub start-kept : (as' : List Shape) (codes : List Code) → map capped as' ≡ map mean codes → AreKept codes
start-kept as' codes e = record { whole = map given_shape as'; kept = each as' ∙ ap (map given_shape) e }
  where
    one : (a : Shape) → option_map capped (given_shape a) ≡ given_shape (capped a)
    one Atom = refl
    one (Num l h) = refl
    one (Set n a) = refl
    one (Fun n a r) = refl
    one (Rec xs fs) = refl
    one (Tup xs) = refl
    one (Seq n a) = refl
    one Empty = refl

    each : (as' : List Shape) → map (option_map capped) (map given_shape as') ≡ map given_shape (map capped as')
    each [] = refl
    each (a ∷ as') = ap₂ (λ x xs. x ∷ xs) (one a) (each as')

-- with its bounds a path is as sound as before
pub bounds-sound : (w : ℕ) (a : Assigns) (x : Assigned) (g : Extent) (r : Assigned) (names : List Kind) (m : Marks) →
    HasPathBounds w a x g r → AreSound names m x.steps → AreSound names m r.steps
bounds-sound w a x g r names m h s = record {
  sound = h.stays_sound names [] s.sound;
  once = subst (λ l. IsTrue (each_once l)) (flat-of x.steps r.steps h.assigned) s.once;
  late = h.late m [] ∙ s.late;
}
  where
    flat-map : {X Y : Type 0} (f : X → List Y) (xs : List X) → flat_map f xs ≡ flat_map (λ ys. ys) (map f xs)
    flat-map f [] = refl
    flat-map f (x ∷ xs) = ap (λ ys. f x ++ ys) (flat-map f xs)

    flat-of : (zs rs : List AssignedStep) → map assigned_by rs ≡ map assigned_by zs →
        flat_map assigned_by zs ≡ flat_map assigned_by rs
    flat-of zs rs e = flat-map assigned_by zs ∙ ap (flat_map (λ ys. ys)) (sym e) ∙ sym (flat-map assigned_by rs)

-- ---- cells

abbrev no_cells : ℕ → List (Option CellId)
no_cells n = replicate n None

none-at : (n i : ℕ) → option_and_then (λ (o : Option CellId). o) (slice_get (no_cells n) i) ≡ None
none-at zero i = refl
none-at (suc n) zero = refl
none-at (suc n) (suc i) = none-at n i

none-there : (k n : ℕ) → All (IsThere k) (no_cells n)
none-there k zero = All-nil (IsThere k)
none-there k (suc n) = All-cons (IsThere k) None (no_cells n) tt (none-there k n)

mapped-length : {X Y : Type 0} (f : X → Y) (xs : List X) → length (map f xs) ≡ length xs
mapped-length f [] = refl
mapped-length f (x ∷ xs) = ap (λ n. suc n) (mapped-length f xs)

some-same : {X : Type 0} {x y : X} → Some x ≡ Some y → x ≡ y
some-same e = cc

-- one kind more
one-kind : (o : Option Kind) (os : Option (List Kind)) (names : List Kind) (n : ℕ) →
    ((ks : List Kind) → os ≡ Some ks → length ks ≡ n) →
    option_and_then (λ x. option_map (λ xs. x ∷ xs) os) o ≡ Some names → length names ≡ suc n
one-kind None os names n f h = absurd (none≢some h)
one-kind (Some k) None names n f h = absurd (none≢some h)
one-kind (Some k) (Some ks) names n f h = ap length (sym (some-same h)) ∙ ap (λ m. suc m) (f ks refl)

kinds-length : (types : List Ty) (names : List Kind) → kinds_of types ≡ Some names → length names ≡ length types
kinds-length [] names e = ap length (sym (some-same e))
kinds-length (t ∷ types) names e = one-kind (kind_of t) (kinds_of types) names (length types) (kinds-length types) e

-- no name has a cell
pub ready-start : (ks : List CellKind) (types : List Ty) (env : CellEnv) (x r : Assigned) (w : ℕ) (a : Assigns)
    (g : Extent) →
    HasPathBounds w a x g r → IsTested types (assignable.Variables 0) x → env.now ≡ [] →
    env.next ≡ no_cells (length types) → env.bound ≡ [] →
    IsReady ks env r.steps
ready-start ks types env x r w a g h t now next bound =
    let s = bounds-sound w a x g r t.names (marks_below (length types) (assignable.Variables 0)) h t.are in
    record {
      names = t.names;
      sound = s.sound;
      once = s.once;
      cells = record {
        there = record {
          current = subst (All (λ id. id.index < length ks)) (sym now) (All-nil (λ id. id.index < length ks));
          following = subst (All (IsThere (length ks))) (sym next) (none-there (length ks) (length types));
          bound = subst (All (λ e. e.1.index < length ks)) (sym bound) (All-nil (λ e. e.1.index < length ks));
        };
        count = ap length next ∙ length-replicate (length types) None ∙ sym (kinds-length types t.names t.kinds);
        current = λ i b id e f. absurd (none≢some (sym (ap (λ l. slice_get l i) now) ∙ f));
        following = λ i b id e f. absurd
            (none≢some (sym (none-at (length types) i) ∙ ap (λ l. option_and_then (λ o. o) (slice_get l i)) (sym next)
            ∙ f));
        numbered = λ n b f. absurd (none≢some f);
      };
      known = late_fewer t.names (blank env) (marks_below (length types) (assignable.Variables 0))
          (within (kinds-length types t.names t.kinds)) r.steps [] [] s.sound s.late;
    }
  where
    within : length t.names ≡ length types →
        Within (length t.names) (blank env) (marks_below (length types) (assignable.Variables 0))
    within e i primed l f = grind (arith, e, l)

pub ready-step : (ks : List CellKind) (types : List Ty) (state : List CellId) (env : CellEnv) (x r : Assigned) (w : ℕ)
    (a : Assigns) (g : Extent) →
    HasPathBounds w a x g r → IsTested types (assignable.PrimedVariables 0) x → AreStateCells ks types state →
    env.now ≡ state →
    env.next ≡ no_cells (length types) → env.bound ≡ [] → IsReady ks env r.steps
ready-step ks types state env x r w a g h t c now next bound =
    let s = bounds-sound w a x g r t.names (marks_below (length types) (assignable.PrimedVariables 0)) h t.are in
    record {
      names = t.names;
      sound = s.sound;
      once = s.once;
      cells = record {
        there = record {
          current = subst (All (λ id. id.index < length ks)) (sym now) c.there;
          following = subst (All (IsThere (length ks))) (sym next) (none-there (length ks) (length types));
          bound = subst (All (λ e. e.1.index < length ks)) (sym bound) (All-nil (λ e. e.1.index < length ks));
        };
        count = ap length next ∙ length-replicate (length types) None ∙ sym (kinds-length types t.names t.kinds);
        current = λ i b id e f. c.sorts t.names t.kinds i b id e (ap (λ l. slice_get l i) (sym now) ∙ f);
        following = λ i b id e f. absurd
            (none≢some (sym (none-at (length types) i) ∙ ap (λ l. option_and_then (λ o. o) (slice_get l i)) (sym next)
            ∙ f));
        numbered = λ n b f. absurd (none≢some f);
      };
      known = late_fewer t.names (blank env) (marks_below (length types) (assignable.PrimedVariables 0))
          within r.steps [] [] s.sound s.late;
    }
  where
    count : length t.names ≡ length env.now
    count = kinds-length types t.names t.kinds ∙ sym c.count ∙ ap length (sym now)

    within : Within (length t.names) (blank env) (marks_below (length types) (assignable.PrimedVariables 0))
    within i true l f = below (kinds-length types t.names t.kinds) l
      where
        below : length t.names ≡ length types → nat_lt i (length t.names) ≡ true →
            marks_below (length types) (assignable.PrimedVariables 0) i true ≡ true
        below e l = grind (arith, e, l)
    within i false l f = absurd (held env.now i (below count l) f)
      where
        below : length t.names ≡ length env.now → nat_lt i (length t.names) ≡ true → i < length env.now
        below e l = grind (arith, e, l)

        held : (ids : List CellId) (j : ℕ) → j < length ids →
            is_blank (or_else (slice_get ids j) (next_cell env i)) ≡ true → ⊥
        held [] j lt e = absurd (omega (arith, lt))
        held (id ∷ ids) zero lt e = false≢true e
        held (id ∷ ids) (suc j) lt e = held ids j (omega (arith, lt)) e

-- ---- what a path from the start gives

pub item-sorts : (b : Build) (types : List Ty) (env : CellEnv) (r : Assigned) (p : PathCells) (names : List Kind) →
    kinds_of types ≡ Some names →
    IsTrue (sound_assigned names [] r.steps) → env.next ≡ no_cells (length types) → HasNextSorts b env r.steps p →
    HasItemSorts b.arena.kinds types p.next
item-sorts b types env r p names k s next h = record {
  count = h.count ∙ ap length next ∙ length-replicate (length types) None;
  sorts = λ ns e i a y f g.
      h.sorts names [] s i a y (ap (λ (l : List Kind). slice_get l i) (some-same (sym k ∙ e)) ∙ f) g;
}

-- the cells of the items, where each name has one
given-at : (ids : List CellId) (items : Items) (i : ℕ) (id : CellId) →
    map (λ x. Some x) ids ≡ map (option_map (λ y. y.0)) items →
    slice_get ids i ≡ Some id → (y : CellId × Lit) × ((item_at items i ≡ Some y) × (y.0 ≡ id))
given-at [] items i id e f = absurd (none≢some f)
given-at (x ∷ ids) [] i id e f = absurd (cc)
given-at (x ∷ ids) (None ∷ items) i id e f = absurd
    (none-first x (map (λ z. Some z) ids) (map (option_map (λ y. y.0)) items) e)
  where
    none-first : (x : CellId) (us vs : List (Option CellId)) → Some x ∷ us ≡ None ∷ vs → ⊥
    none-first x us vs e = absurd (cc)
given-at (x ∷ ids) (Some y ∷ items) zero id e f =
    (y, (refl, first x y.0 (map (λ z. Some z) ids) (map (option_map (λ z. z.0)) items) e ∙ same f))
  where
    first : (u v : CellId) (us vs : List (Option CellId)) → Some u ∷ us ≡ Some v ∷ vs → v ≡ u
    first u v us vs e = cc

    same : Some x ≡ Some id → x ≡ id
    same e = cc
given-at (x ∷ ids) (Some y ∷ items) (suc i) id e f = given-at ids items i id
    (rest (Some x) (Some y.0) (map (λ z. Some z) ids) (map (option_map (λ z. z.0)) items) e) f
  where
    rest : (u v : Option CellId) (us vs : List (Option CellId)) → u ∷ us ≡ v ∷ vs → us ≡ vs
    rest u v us vs e = cc

pub state-cells : (ks : List CellKind) (types : List Ty) (items : Items) (ids : List CellId) →
    HasItemSorts ks types items →
    map (λ x. Some x) ids ≡ map (option_map (λ y. y.0)) items → All (λ id. id.index < length ks) ids →
    AreStateCells ks types ids
state-cells ks types items ids h e there = record {
  count = sym (mapped-length (λ x. Some x) ids) ∙ ap length e ∙ mapped-length (option_map (λ y. y.0)) items ∙ h.count;
  there = there;
  sorts = λ names k i a id f g.
      let z = given-at ids items i id e g in
      subst (OfSort ks (sort_of a)) z.1.1 (h.sorts names k i a z.0 f z.1.0);
}

-- ---- the only text

pub one-text : (old new : List (List ℕ)) (x y : List ℕ) → new ≡ old ++ x ∷ [] → old ≡ [] → x ≡ y → y ≡ [] →
    new ≡ [] ∷ []
one-text old new x y e f g h = e ∙ ap₂ (λ l z. l ++ z ∷ []) f (g ∙ h)

pub empty-among : (ts : List (List ℕ)) → ts ≡ [] ∷ [] → IsTextAmong ts []
empty-among ts e = subst (λ us. IsTextAmong us []) (sym e) (ap (λ b. b || false) (same_itself (value.Text [])))

-- ---- answers that may be none

pub if-some : {X : Type 0} (P Q : X → Type 0) (o : Option X) → ((x : X) → P x → Q x) → IfSome o P → IfSome o Q
if-some P Q None f h = h
if-some P Q (Some x) f h = f x h

pub start-sorts : (b : Build) (types : List Ty) (env : CellEnv) (x r : Assigned) (w : ℕ) (a : Assigns) (g : Extent) →
    HasPathBounds w a x g r →
    IsTested types (assignable.Variables 0) x → env.next ≡ no_cells (length types) → (o : Option PathCells) →
    IfSome o (HasNextSorts b env r.steps) →
    IfSome o (λ p. HasItemSorts b.arena.kinds types p.next)
start-sorts b types env x r w a g h t next o s =
    let sound = (bounds-sound w a x g r t.names (marks_below (length types) (assignable.Variables 0)) h t.are).sound in
    if-some (HasNextSorts b env r.steps) (λ p. HasItemSorts b.arena.kinds types p.next) o
    (λ p q. item-sorts b types env r p t.names t.kinds sound next q) s
