-- Paths that are taken one behind another, as the build grows.
use Rattle.std.proofs.Common.{◌≡◌, ℕ, ◌+◌, ◌<◌, ◌≤◌, Bool, true, false, not, ◌&&◌, List, [], ◌∷◌, ◌++◌, length, get_or, take, map, flat_map, All, Option, Some, None, refl, sym, ◌∙◌, ap, subst, lt_of_lt_of_le}
use Rattle.std.proofs.lemmas.List.{take_all, take_more}
use Rattle.std.proofs.lemmas.List.Elements.{All-weaker}
use Rattle.std.proofs.lemmas.Option.{none-some, same_Some}
use Rattle.sat_formula.specs.declared.lit.Lit.{Lit}
use Rattle.sat_formula.specs.Lit.{lit_value}
use Rattle.cell_arena.specs.declared.build.Build.{Build}
use Rattle.cell_arena.specs.declared.kinds.CellId.{CellId}
use Rattle.cell_arena.specs.Growth.{Grows, Keeps}
use Rattle.cell_arena.proofs.Growing.{Grows-refl, Grows-trans}
use Rattle.cell_merge.proofs.SortLaws.{OfSort-later}
use Rattle.kernel_shapes.specs.Sized.{Extent}
use Rattle.kernel_trees.specs.declared.path.Assigned.{Assigned}
use Rattle.kernel_trees.specs.declared.path.AssignedStep.{AssignedStep}
use Rattle.kernel_trees.specs.Assignments.{assigned_by, is_in}
use Rattle.kernel_trees.specs.Scoped.{differ}
use Rattle.kernel_trees.specs.TypeKinds.{Kind}
use Rattle.path_bounds.specs.BoundedPaths.{HasPathBounds}
use Rattle.path_walks.specs.declared.answer.PathCells.{PathCells}
use Rattle.path_walks.specs.Paths.{CanRewritePath, HasNextSorts, IsPathCells, blank, each_once}
use Rattle.path_walks.specs.Steps.{assigns}
use Rattle.shape_bounds.specs.Extents.{assigns_in, extent_of, kept_extent}
use Rattle.typed_cells.specs.KindSorts.{HasSort, sort_of}
use Rattle.expr_rewriter.specs.declared.cell_env.CellEnv.{CellEnv}
use Rattle.expr_rewriter.specs.Environments.{AreThere, IsThere, bound_cell}
use Rattle.system_texts.specs.SystemTexts.{HasPathTexts}
use Rattle.system_texts.proofs.TextLaws.{path_texts_among, path_texts_stay}
use Rattle.branch_cells.specs.declared.branch.BranchCells.{BranchCells}
use Rattle.branch_cells.specs.declared.way.Way.{Way}
use Rattle.branch_cells.specs.Along.{ArePartsBetween, CanFollow, IsPart, IsPartBetween, IsReady}
use Rattle.branch_cells.specs.Branches.{HasWhole, IsFilled, IsWhole, ItemsOfKinds}
use Rattle.branch_cells.proofs.Items.{kinds_later, kinds_there}

-- ---- one path

-- no number stands twice
once_is : (ns : List ℕ) → differ ns ≡ each_once ns
once_is [] = refl
once_is (n ∷ ns) = ap (λ b. not (is_in ns n) && b) (once_is ns)

flat_of_map : {X Y : Type 0} (f : X → List Y) (xs : List X) → flat_map (λ (ys : List Y). ys) (map f xs) ≡ flat_map f xs
flat_of_map f [] = refl
flat_of_map f (x ∷ xs) = ap (λ ys. f x ++ ys) (flat_of_map f xs)

same_assigned : (xs ys : List AssignedStep) → map assigned_by xs ≡ map assigned_by ys →
    flat_map assigned_by xs ≡ flat_map assigned_by ys
same_assigned xs ys e =
    sym (flat_of_map assigned_by xs) ∙ ap (flat_map (λ (is : List ℕ). is)) e ∙ flat_of_map assigned_by ys

pub can_rewrite : (b : Build) (names : List Kind) (way : Way) (x r : Assigned) → (ready : IsReady b names way) →
    CanFollow b names way x →
    ((g : Extent) → kept_extent g ≡ extent_of way.now way.next [] →
    HasPathBounds way.width (assigns_in way.target) x g r) →
    CanRewritePath b way.env r.steps
can_rewrite b names way x r ready can bounds =
    let h = bounds ready.extent ready.shapes in
    record {
      names = names;
      context = [];
      sound = h.stays_sound names [] can.sound;
      once = sym (once_is (flat_map assigned_by r.steps)) ∙ ap differ (same_assigned r.steps x.steps h.assigned)
          ∙ can.once;
      cells = ready.cells;
      known = h.late (blank way.env) [] ∙ can.late;
      texts = path_texts_among b.arena.texts r.steps
          (path_texts_stay b.arena.texts way.width (assigns_in way.target) x ready.extent r h can.texts);
    }

pub items_of : (b mid : Build) (names : List Kind) (way : Way) (x r : Assigned) (y : PathCells) →
    (ready : IsReady b names way) →
    CanFollow b names way x →
    ((g : Extent) → kept_extent g ≡ extent_of way.now way.next [] →
    HasPathBounds way.width (assigns_in way.target) x g r) →
    HasNextSorts mid way.env r.steps y → ItemsOfKinds mid.arena.kinds names y.next
items_of b mid names way x r y ready can bounds h = record {
  count = h.count ∙ ready.cells.count;
  sorts = λ i a z n e. h.sorts names [] ((bounds ready.extent ready.shapes).stays_sound names [] can.sound) i a z n e;
}

-- where the path holds each name with an item has its value
pub has_whole : (b mid : Build) (env : CellEnv) (zs : List AssignedStep) (y : PathCells) → IsPathCells b mid env zs y →
    HasWhole mid.formula y
has_whole b mid env zs y h a s on i z e = by (assigns zs i) refl
  where
    by : (t : Bool) → assigns zs i ≡ t → lit_value z.1 a ≡ true
    by false f = absurd (none-some z (sym (h.others i f) ∙ e))
    by true f =
        let item = h.whole a s on i f in
        let same : item.0 ≡ z = same_Some item.0 z (sym item.1.0 ∙ e) in
        subst (λ (w : CellId × Lit). lit_value w.1 a ≡ true) same item.1.1

pub part_of : (old mid new : Build) (names : List Kind) (way : Way) (x r : Assigned) (y : PathCells) (p : BranchCells) →
    ((g : Extent) → kept_extent g ≡ extent_of way.now way.next [] →
    HasPathBounds way.width (assigns_in way.target) x g r) → IsPathCells old mid way.env r.steps y → Grows old mid →
    IsFilled mid new way.others y p → IsWhole new names p → IsPart old new way x p
part_of old mid new names way x r y p bounds cells grows filled whole = record {
  bounded = r;
  bounds = bounds;
  middle = mid;
  path = y;
  cells = cells;
  grows = grows;
  filled = filled;
  there = kinds_there new.arena.kinds names p.next whole.cells;
}

-- ---- as the build grows

there_later : (m n : ℕ) (env : CellEnv) → m ≤ n → AreThere m env → AreThere n env
there_later m n env le h = record {
  current = All-weaker (λ (id : CellId). id.index < m) (λ (id : CellId). id.index < n)
      (λ id lt. lt_of_lt_of_le lt le) env.now h.current;
  following = All-weaker (IsThere m) (IsThere n) one env.next h.following;
  bound = All-weaker (λ (e : ℕ × CellId). e.1.index < m) (λ (e : ℕ × CellId). e.1.index < n)
      (λ e lt. lt_of_lt_of_le lt le) env.bound h.bound;
}
  where
    one : (o : Option CellId) → IsThere m o → IsThere n o
    one None lt = tt
    one (Some id) lt = lt_of_lt_of_le lt le

sort_later : (b c : Build) (a : Kind) (o : Option CellId) → Grows b c → HasSort b.arena.kinds (sort_of a) o →
    HasSort c.arena.kinds (sort_of a) o
sort_later b c a None g h = h
sort_later b c a (Some id) g h = OfSort-later b c (sort_of a) id h g

pub ready_later : (b c : Build) (names : List Kind) (way : Way) → Grows b c → IsReady b names way → IsReady c names way
unfolding Keeps
ready_later b c names way g h = record {
  width = h.width ∙ sym g.keeps.width;
  sized = h.sized;
  extent = h.extent;
  shapes = h.shapes;
  cells = record {
    there = there_later (length b.arena.kinds) (length c.arena.kinds) way.env g.longer h.cells.there;
    count = h.cells.count;
    current = λ i a id n e. OfSort-later b c (sort_of a) id (h.cells.current i a id n e) g;
    following = λ i a id n e. OfSort-later b c (sort_of a) id (h.cells.following i a id n e) g;
    numbered = λ n a e. sort_later b c a (bound_cell way.env.bound n) g (h.cells.numbered n a e);
  };
  others = kinds_later b c names way.others g h.others;
}

follow_later : (b c : Build) (names : List Kind) (way : Way) (x : Assigned) → Grows b c → CanFollow b names way x →
    CanFollow c names way x
unfolding Keeps
follow_later b c names way x g h = record {
  sound = h.sound;
  once = h.once;
  late = h.late;
  texts = subst (λ (ts : List (List ℕ)). HasPathTexts ts x.steps) (sym g.keeps.texts) h.texts;
}

-- ---- one part for each path

parts_more : (old mid new : Build) (way : Way) (xs : List Assigned) (rs : List BranchCells) (x : Assigned)
    (r : BranchCells) → Grows old mid →
    Grows mid new → ArePartsBetween old mid way xs rs → IsPart mid new way x r →
    ArePartsBetween old new way (xs ++ x ∷ []) (rs ++ r ∷ [])
parts_more old mid new way xs rs x r f g h p = by xs rs h
  where
    last : IsPartBetween old new way x r
    last = record { from = mid; to = new; before = f; part = p; after = Grows-refl new }

    by : (xs : List Assigned) (rs : List BranchCells) → ArePartsBetween old mid way xs rs →
        ArePartsBetween old new way (xs ++ x ∷ []) (rs ++ r ∷ [])
    by [] [] h = (last, tt)
    by [] (q ∷ rs) h = absurd h
    by (y ∷ xs) [] h = absurd h
    by (y ∷ xs) (q ∷ rs) h =
        let p = h.0 in (
          record {
            from = p.from;
            to = p.to;
            before = p.before;
            part = p.part;
            after =
                Grows-trans p.to mid new p.after g;
          },
          by xs rs h.1,
        )

pub parts_none : (b : Build) (way : Way) (xs : List Assigned) (rs : List BranchCells) → rs ≡ [] →
    ArePartsBetween b b way (take 0 xs) rs
parts_none b way xs rs e = subst (ArePartsBetween b b way (take 0 xs)) (sym e) tt

pub parts_step : (old mid new : Build) (way : Way) (paths : List Assigned) (i : ℕ) (rs after : List BranchCells)
    (x : Assigned) (r : BranchCells) →
    i < length paths → x ≡ get_or paths i x → Grows old mid → Grows mid new →
    ArePartsBetween old mid way (take i paths) rs → IsPart mid new way x r →
    after ≡ rs ++ r ∷ [] → ArePartsBetween old new way (take (i + 1) paths) after
parts_step old mid new way paths i rs after x r lt e f g h p pushed =
    subst (ArePartsBetween old new way (take (i + 1) paths)) (sym pushed)
    (subst (λ (xs : List Assigned). ArePartsBetween old new way xs (rs ++ r ∷ []))
    (sym (take_more paths i x lt ∙ ap (λ (y : Assigned). take i paths ++ y ∷ []) (sym e)))
    (parts_more old mid new way (take i paths) rs x r f g h p))

pub parts_all : (old new : Build) (way : Way) (paths : List Assigned) (i : ℕ) (rs : List BranchCells) →
    length paths ≤ i →
    ArePartsBetween old new way (take i paths) rs → ArePartsBetween old new way paths rs
parts_all old new way paths i rs le h = subst (λ (xs : List Assigned). ArePartsBetween old new way xs rs)
    (take_all i paths le) h

-- a path of those that can be followed
pub path_here : (b mid : Build) (names : List Kind) (way : Way) (paths : List Assigned) (i : ℕ) (x : Assigned) →
    All (CanFollow b names way) paths →
    Grows b mid → i < length paths → x ≡ get_or paths i x → CanFollow mid names way x
path_here b mid names way paths i x h g lt e =
    subst (CanFollow mid names way) (sym e) (follow_later b mid names way (get_or paths i x) g (h i x lt))
