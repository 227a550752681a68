-- A node whose children stand in its setting, over their cells.
use Rattle.std.proofs.Common.{◌≡◌, ℕ, suc, Bool, true, false, ◌&&◌, IsTrue, List, [], ◌∷◌, map, get_or, All, refl, sym, ◌∙◌, ap, subst, Some}
use Rattle.std.proofs.lemmas.List.Elements.{All-cons, All-nil}
use Rattle.tla_meaning.specs.declared.job.State.{State}
use Rattle.tla_meaning.specs.declared.place.Place.{Place}
use Rattle.tla_meaning.specs.declared.outcome.Outcome.{Outcome}
use Rattle.tla_meaning.specs.Numbers.{Width}
use Rattle.tla_meaning.specs.Scopes.{Scope}
use Rattle.cell_arena.specs.declared.build.Build.{Build}
use Rattle.cell_arena.specs.Cells.{Cells as Arena}
use Rattle.cell_merge.specs.Sorts.{Sort, truth}
use Rattle.kernel_trees.specs.declared.kernel.Ker.{Ker, out-Ker, roll-out-Ker}
use Rattle.kernel_trees.specs.declared.kernel.KerOp.{KerOp}
use Rattle.kernel_trees.specs.declared.kernel.KerOp.TheVariants as ker
use Rattle.kernel_trees.specs.Sound.{Context, kind_at}
use Rattle.kernel_trees.specs.Trees.{ker_val}
use Rattle.kernel_trees.specs.TypeKinds.{Kind, Truth}
use Rattle.kernel_trees.proofs.Operators.{tree, val_and, val_or, val_if}
use Rattle.kernel_trees.proofs.SoundRows.{AreAll, BinderRow, Row, row_some, row_and, row_or, row_if}
use Rattle.kernel_trees.proofs.SoundTrees.{Children, Node, node_name, node_bound, node_plain, node_bounded, node_binder, node_update, node_fold, sound_step}
use Rattle.kernel_trees.proofs.Trees.{Each}
use Rattle.kernel_ranges.specs.Ranges.{in_turn, is_within, within_at}
use Rattle.kernel_ranges.proofs.Opened.{AllLie, if_lies, is_plain, plain_lies, range_numbers, turn_lies, with_within, within-out}
use Rattle.outcome_cells.specs.declared.cells.Cells.{Cells}
use Rattle.outcome_cells.specs.Shows.{AllShow, AreCells, CellsOfOneSort, Shows}
use Rattle.outcome_cells.specs.Turns.{ShowInTurn, TakesBranch, TakesInTurn}
use Rattle.typed_cells.specs.KindSorts.{sort_of}
use Rattle.expr_rewriter.specs.declared.settings.Setting.TheVariants.{Level}
use Rattle.expr_rewriter.specs.Operating.{AreParts, CanOperate, Operates, is_operated, operands, operands_at}
use Rattle.expr_rewriter.specs.Rewriting.{HasTreeSort}
use Rattle.expr_rewriter.specs.inner.Parts.{CanJoin, Joins, PartsShow}
use Rattle.expr_rewriter.specs.inner.Settings.{setting_of}

pub some_kind : (a b : Kind) → Some a ≡ Some b → a ≡ b
some_kind a b e = cc

-- a tree by the operator that stands at it
pub as_tree : (k : Ker) (o : KerOp) → (out-Ker k).op ≡ o → k ≡ tree (out-Ker k).place (out-Ker k).ty o (out-Ker k).args (out-Ker k).binds
as_tree k o e = sym (roll-out-Ker k) ∙ ap (λ o. tree (out-Ker k).place (out-Ker k).ty o (out-Ker k).args (out-Ker k).binds) e

-- its ranges, by that operator
pub within_by : (w : Width) (k : Ker) (o : KerOp) (sc : Scope) (s t : State) → (out-Ker k).op ≡ o → IsTrue (is_within w k sc s t) →
    within_at w o (out-Ker k).binds (with_within w (out-Ker k).args) sc s t ≡ true
within_by w k o sc s t e h =
    ap (λ o. within_at w o (out-Ker k).binds (with_within w (out-Ker k).args) sc s t) (sym e) ∙ sym (within-out w k sc s t) ∙ h

-- a sort that the cells of a tree have, by its kind
pub tree_sort : (b : Build) (k : Ker) (a : Kind) (s : Sort) (x : Cells) → kind_at k ≡ Some a → sort_of a ≡ s → AreCells b s x → HasTreeSort b k x
tree_sort b k a s x e q h d g = subst (λ c. AreCells b (sort_of c) x) (some_kind a d (sym e ∙ g)) (subst (λ r. AreCells b r x) (sym q) h)

-- ---- conjunctions and disjunctions

abbrev is_junction : KerOp → Bool
is_junction ker.And = true
is_junction ker.Or = true
is_junction o = false

row_junction : (o : KerOp) (a : Kind) (as' : List Kind) → is_junction o ≡ true → Row o a as' → (a ≡ Truth) × AreAll Truth as'
row_junction o a as' e (row_and ks h) = (refl, h)
row_junction o a as' e (row_or ks h) = (refl, h)
row_junction o a as' e r = absurd (cc)

binder_junction : (o : KerOp) (a : Kind) (ms : List Kind) (d : Kind) → is_junction o ≡ true → BinderRow o a ms d → ⊥
binder_junction o a ms d e (row_some ns) = cc
binder_junction o a ms d e r = cc

kinds_all : (names : List Kind) (c : Context) (o : KerOp) (n : ℕ) (ks : List Ker) (as' : List Kind) → Children names o n c false ks as' → AreAll Truth as' →
    Each (λ j. kind_at j ≡ Some Truth) ks
kinds_all names c o n [] as' h q = tt
kinds_all names c o n (k ∷ ks) [] h q = absurd h
kinds_all names c o n (k ∷ ks) (a ∷ as') h q = (h.0.0 ∙ ap Some q.0, kinds_all names c o (suc n) ks as' h.1 q.1)

junction_kinds : (names : List Kind) (c : Context) (o : KerOp) (a : Kind) (xs : List ℕ) (ks : List Ker) → is_junction o ≡ true →
    Node names c false o a xs ks → (a ≡ Truth) × Each (λ j. kind_at j ≡ Some Truth) ks
junction_kinds names c o a xs ks e (node_name i primed b ys q) = absurd (cc)
junction_kinds names c o a xs ks e (node_bound n b ys q) = absurd (cc)
junction_kinds names c o a xs ks e (node_plain p b ys ls bs r h i) =
    let z = row_junction o a bs e r in (z.0, kinds_all names c o 0 ks bs h z.1)
junction_kinds names c o a xs ks e (node_bounded ys x y l u p q r s) = absurd (cc)
junction_kinds names c o a xs ks e (node_binder p b ys ls sets body ms d q n r t u) = absurd (binder_junction o a ms d e r)
junction_kinds names c o a xs ks e (node_update b x f i d j m p q r t) = absurd (cc)
junction_kinds names c o a xs ks e (node_fold b x y d f q m p r t) = absurd (cc)

junction_operands : (o : KerOp) (ks : List Ker) → is_junction o ≡ true → operands_at o ks ≡ ks
junction_operands ker.Range ks e = absurd (cc)
junction_operands o ks e = refl

truth_parts : (b : Build) (ks : List Ker) (xs : List Cells) → Each (λ j. kind_at j ≡ Some Truth) ks → AreParts b ks xs → All (AreCells b truth) xs
truth_parts b [] [] e h = All-nil (AreCells b truth)
truth_parts b [] (x ∷ xs) e h = absurd h
truth_parts b (k ∷ ks) [] e h = absurd h
truth_parts b (k ∷ ks) (x ∷ xs) e h = All-cons (AreCells b truth) x xs (h.0 Truth e.0) (truth_parts b ks xs e.1 h.1)

abbrev JunctionOf : Ker → Type 0
JunctionOf k = (kind_at k ≡ Some Truth) × Each (λ j. kind_at j ≡ Some Truth) (operands k)

junction_of : (b : Build) (k : Ker) (xs : List Cells) → CanJoin b k xs → is_junction (out-Ker k).op ≡ true → JunctionOf k
junction_of b k xs c e =
    let z = sound_step c.names k c.context false c.sound in
    let q = junction_kinds c.names c.context (out-Ker k).op z.0 (out-Ker k).binds (out-Ker k).args e z.2 in (
      z.1 ∙ ap Some q.0,
      subst (Each (λ j. kind_at j ≡ Some Truth)) (sym (junction_operands (out-Ker k).op (out-Ker k).args e)) q.1,
    )

is_and : (o : KerOp) → o ≡ ker.And → is_junction o ≡ true
is_and o e = ap is_junction e

is_or : (o : KerOp) → o ≡ ker.Or → is_junction o ≡ true
is_or o e = ap is_junction e

pub and_parts : (b : Build) (k : Ker) (xs : List Cells) → CanJoin b k xs → (out-Ker k).op ≡ ker.And → All (AreCells b truth) xs
and_parts b k xs c e = truth_parts b (operands k) xs (junction_of b k xs c (is_and (out-Ker k).op e)).1 c.parts

pub or_parts : (b : Build) (k : Ker) (xs : List Cells) → CanJoin b k xs → (out-Ker k).op ≡ ker.Or → All (AreCells b truth) xs
or_parts b k xs c e = truth_parts b (operands k) xs (junction_of b k xs c (is_or (out-Ker k).op e)).1 c.parts

pub and_sort : (b d : Build) (k : Ker) (xs : List Cells) (r : Cells) → CanJoin b k xs → (out-Ker k).op ≡ ker.And → AreCells d truth r → HasTreeSort d k r
and_sort b d k xs r c e h = tree_sort d k Truth truth r (junction_of b k xs c (is_and (out-Ker k).op e)).0 refl h

pub or_sort : (b d : Build) (k : Ker) (xs : List Cells) (r : Cells) → CanJoin b k xs → (out-Ker k).op ≡ ker.Or → AreCells d truth r → HasTreeSort d k r
or_sort b d k xs r c e h = tree_sort d k Truth truth r (junction_of b k xs c (is_or (out-Ker k).op e)).0 refl h

-- operands in turn
module _ (c : Arena) (a : List Bool) (sc : Scope) (s t : State) where
  abbrev outs : List Ker → List Outcome
  outs ks = map (λ k. ker_val (Some c.width) k sc s t) ks

  turn_shown : (b : Bool) (ks : List Ker) (xs : List Cells) → in_turn (Some c.width) b (with_within (Some c.width) ks) sc s t ≡ true →
      PartsShow c a sc s t ks xs → ShowInTurn b c a xs (outs ks)
  turn_shown b [] [] h p = tt
  turn_shown b [] (x ∷ xs) h p = absurd p
  turn_shown b (k ∷ ks) [] h p = absurd p
  turn_shown b (k ∷ ks) (x ∷ xs) h p =
      let z = turn_lies (Some c.width) s t b k ks sc h in
      (p.0 z.0, λ e. turn_shown b ks xs (z.1 e) p.1)

  -- operands that are all evaluated
  pub all_shown : (ks : List Ker) (xs : List Cells) → AllLie (Some c.width) s t sc ks → PartsShow c a sc s t ks xs → AllShow c a xs (outs ks)
  all_shown [] [] h p = tt
  all_shown [] (x ∷ xs) h p = absurd p
  all_shown (k ∷ ks) [] h p = absurd p
  all_shown (k ∷ ks) (x ∷ xs) h p = (p.0 h.0, all_shown ks xs h.1 p.1)

pub and_joins : (b d : Build) (k : Ker) (xs : List Cells) (r : Cells) → (out-Ker k).op ≡ ker.And → TakesInTurn b d true xs r → Joins b d k xs r
and_joins b d k xs r e h = record {
  shows = λ a m sc s t w p.
      let ks : List Ker = (out-Ker k).args in
      let v = sym (ap (λ j. ker_val (Some b.arena.width) j sc s t) (as_tree k ker.And e)
      ∙ val_and (Some b.arena.width) s t (out-Ker k).place (out-Ker k).ty ks (out-Ker k).binds sc) in
      subst (Shows d.arena a r) v
      (h.shows a m (out-Ker k).place (outs b.arena a sc s t ks)
      (turn_shown b.arena a sc s t true ks xs (within_by (Some b.arena.width) k ker.And sc s t e w)
      (subst (λ o. PartsShow b.arena a sc s t (operands_at o ks) xs) e p)));
}

pub or_joins : (b d : Build) (k : Ker) (xs : List Cells) (r : Cells) → (out-Ker k).op ≡ ker.Or → TakesInTurn b d false xs r → Joins b d k xs r
or_joins b d k xs r e h = record {
  shows = λ a m sc s t w p.
      let ks : List Ker = (out-Ker k).args in
      let v = sym (ap (λ j. ker_val (Some b.arena.width) j sc s t) (as_tree k ker.Or e)
      ∙ val_or (Some b.arena.width) s t (out-Ker k).place (out-Ker k).ty ks (out-Ker k).binds sc) in
      subst (Shows d.arena a r) v
      (h.shows a m (out-Ker k).place (outs b.arena a sc s t ks)
      (turn_shown b.arena a sc s t false ks xs (within_by (Some b.arena.width) k ker.Or sc s t e w)
      (subst (λ o. PartsShow b.arena a sc s t (operands_at o ks) xs) e p)));
}

-- ---- IF

-- a guard and two branches with their cells
pub record Branches (b : Build) (k : Ker) (xs : List Cells) : Type 0 where
  pub kind : Kind
  pub is : kind_at k ≡ Some kind
  pub condition : Ker
  pub first : Ker
  pub second : Ker
  pub trees : (out-Ker k).args ≡ condition ∷ first ∷ second ∷ []
  pub guard : Cells
  pub left : Cells
  pub right : Cells
  pub cells : xs ≡ guard ∷ left ∷ right ∷ []
  pub guard_is : AreCells b truth guard
  pub left_is : AreCells b (sort_of kind) left
  pub right_is : AreCells b (sort_of kind) right

abbrev is_if : KerOp → Bool
is_if ker.If = true
is_if o = false

binder_if : (o : KerOp) (a : Kind) (ms : List Kind) (d : Kind) → is_if o ≡ true → BinderRow o a ms d → ⊥
binder_if o a ms d e (row_some ns) = cc
binder_if o a ms d e r = cc

abbrev Three : Kind → List Ker → Type 0
Three a ks = (c : Ker) × (x : Ker) × (y : Ker) × (ks ≡ c ∷ x ∷ y ∷ []) × (kind_at c ≡ Some Truth) × (kind_at x ≡ Some a) × (kind_at y ≡ Some a)

three : (names : List Kind) (c : Context) (o : KerOp) (a : Kind) (ks : List Ker) → Children names o 0 c false ks (Truth ∷ a ∷ a ∷ []) → Three a ks
three names c o a [] h = absurd h
three names c o a (x ∷ []) h = absurd h.1
three names c o a (x ∷ y ∷ []) h = absurd h.1.1
three names c o a (x ∷ y ∷ z ∷ []) h = (x, y, z, refl, h.0.0, h.1.0.0, h.1.1.0.0)
three names c o a (x ∷ y ∷ z ∷ k ∷ ks) h = absurd h.1.1.1

row_three : (names : List Kind) (c : Context) (o : KerOp) (a : Kind) (as' : List Kind) (ks : List Ker) → is_if o ≡ true → Row o a as' →
    Children names o 0 c false ks as' → Three a ks
row_three names c o a as' ks e (row_if d) h = three names c ker.If d ks h
row_three names c o a as' ks e r h = absurd (cc)

if_three : (names : List Kind) (c : Context) (o : KerOp) (a : Kind) (xs : List ℕ) (ks : List Ker) → is_if o ≡ true →
    Node names c false o a xs ks → Three a ks
if_three names c o a xs ks e (node_name i primed b ys q) = absurd (cc)
if_three names c o a xs ks e (node_bound n b ys q) = absurd (cc)
if_three names c o a xs ks e (node_plain p b ys ls bs r h i) = row_three names c o a bs ks e r h
if_three names c o a xs ks e (node_bounded ys x y l u p q r s) = absurd (cc)
if_three names c o a xs ks e (node_binder p b ys ls sets body ms d q n r t u) = absurd (binder_if o a ms d e r)
if_three names c o a xs ks e (node_update b x f i d j m p q r t) = absurd (cc)
if_three names c o a xs ks e (node_fold b x y d f q m p r t) = absurd (cc)

three_cells : (b : Build) (c x y : Ker) (xs : List Cells) → AreParts b (c ∷ x ∷ y ∷ []) xs →
    (u : Cells) × (v : Cells) × (w : Cells) × (xs ≡ u ∷ v ∷ w ∷ []) × HasTreeSort b c u × HasTreeSort b x v × HasTreeSort b y w
three_cells b c x y [] h = absurd h
three_cells b c x y (u ∷ []) h = absurd h.1
three_cells b c x y (u ∷ v ∷ []) h = absurd h.1.1
three_cells b c x y (u ∷ v ∷ w ∷ []) h = (u, v, w, refl, h.0, h.1.0, h.1.1.0)
three_cells b c x y (u ∷ v ∷ w ∷ z ∷ xs) h = absurd h.1.1.1

pub branches : (b : Build) (k : Ker) (xs : List Cells) → CanJoin b k xs → (out-Ker k).op ≡ ker.If → Branches b k xs
branches b k xs c e =
    let z = sound_step c.names k c.context false c.sound in
    let q = if_three c.names c.context (out-Ker k).op z.0 (out-Ker k).binds (out-Ker k).args (ap is_if e) z.2 in
    let p : AreParts b (q.0 ∷ q.1 ∷ q.2 ∷ []) xs =
    subst (λ ks. AreParts b ks xs) q.3 (subst (λ o. AreParts b (operands_at o (out-Ker k).args) xs) e c.parts) in
    let u = three_cells b q.0 q.1 q.2 xs p in
    record {
      kind = z.0;
      is = z.1;
      condition = q.0;
      first = q.1;
      second = q.2;
      trees = q.3;
      guard = u.0;
      left = u.1;
      right = u.2;
      cells = u.3;
      guard_is = u.4 Truth q.4;
      left_is = u.5 z.0 q.5;
      right_is = u.6 z.0 q.6;
    }

pub if_joins : (b d : Build) (k : Ker) (xs : List Cells) (r : Cells) (q : Branches b k xs) → (out-Ker k).op ≡ ker.If →
    TakesBranch b d q.guard q.left q.right r → Joins b d k xs r
if_joins b d k xs r q e h = record {
  shows = λ a m sc s t w p.
      let wide : Width = Some b.arena.width in
      let place : Place = (out-Ker k).place in
      let three : List Ker = q.condition ∷ q.first ∷ q.second ∷ [] in
      let v = sym (ap (λ j. ker_val wide j sc s t) (as_tree k ker.If e
      ∙ ap (λ ks. tree place (out-Ker k).ty ker.If ks (out-Ker k).binds) q.trees)
      ∙ val_if wide s t place (out-Ker k).ty q.condition q.first q.second (out-Ker k).binds sc) in
      let lies = if_lies wide s t (out-Ker k).binds q.condition q.first q.second sc
      (subst (λ ks. within_at wide ker.If (out-Ker k).binds (with_within wide ks) sc s t ≡ true) q.trees (within_by wide k ker.If sc s t e w)) in
      let parts : PartsShow b.arena a sc s t three (q.guard ∷ q.left ∷ q.right ∷ []) =
      subst (PartsShow b.arena a sc s t three) q.cells
      (subst (λ ks. PartsShow b.arena a sc s t ks xs) q.trees (subst (λ o. PartsShow b.arena a sc s t (operands_at o (out-Ker k).args) xs) e p)) in
      subst (Shows d.arena a r) v
      (h.shows a m place (ker_val wide q.condition sc s t) (ker_val wide q.first sc s t) (ker_val wide q.second sc s t)
      (record {
        guard_shown = parts.0 lies.0;
        first = λ g. parts.1.0 (lies.1 g);
        second = λ g. parts.1.1.0 (lies.2 g);
      }));
}

-- the same of the cells by their places
module _ (b : Build) (k : Ker) (xs : List Cells) (c : CanJoin b k xs) (e : (out-Ker k).op ≡ ker.If) (u : Cells) where
  abbrev three_of : Branches b k xs
  three_of = branches b k xs c e

  pub if_guard : AreCells b truth (get_or xs 0 u)
  if_guard = subst (λ (l : List Cells). AreCells b truth (get_or l 0 u)) (sym three_of.cells) three_of.guard_is

  left_is : AreCells b (sort_of three_of.kind) (get_or xs 1 u)
  left_is = subst (λ (l : List Cells). AreCells b (sort_of three_of.kind) (get_or l 1 u)) (sym three_of.cells) three_of.left_is

  right_is : AreCells b (sort_of three_of.kind) (get_or xs 2 u)
  right_is = subst (λ (l : List Cells). AreCells b (sort_of three_of.kind) (get_or l 2 u)) (sym three_of.cells) three_of.right_is

  pub if_both : CellsOfOneSort b (get_or xs 1 u) (get_or xs 2 u)
  if_both = record { sort = sort_of three_of.kind; left = left_is; right = right_is }

  module _ (d : Build) (r : Cells) (h : TakesBranch b d (get_or xs 0 u) (get_or xs 1 u) (get_or xs 2 u) r) where
    pub if_sort : HasTreeSort d k r
    if_sort = tree_sort d k three_of.kind (sort_of three_of.kind) r three_of.is refl (h.cells (sort_of three_of.kind) left_is right_is)

    pub if_made : Joins b d k xs r
    if_made =
        if_joins b d k xs r three_of e
        (subst (λ (l : List Cells). TakesBranch b d (get_or l 0 u) (get_or l 1 u) (get_or l 2 u) r) three_of.cells h)

-- ---- operators that evaluate all their operands

operated : (o : KerOp) → setting_of o ≡ Level → (o ≡ ker.And → ⊥) → (o ≡ ker.Or → ⊥) → (o ≡ ker.If → ⊥) → is_operated o ≡ true
operated ker.And e f g h = absurd (f refl)
operated ker.Or e f g h = absurd (g refl)
operated ker.If e f g h = absurd (h refl)
operated (ker.Const v) e f g h = absurd (cc)
operated (ker.Name i primed) e f g h = absurd (cc)
operated (ker.Bound n) e f g h = absurd (cc)
operated ker.NoCase e f g h = absurd (cc)
operated ker.Some e f g h = absurd (cc)
operated ker.Every e f g h = absurd (cc)
operated ker.Filter e f g h = absurd (cc)
operated ker.MapOver e f g h = absurd (cc)
operated ker.FunOf e f g h = absurd (cc)
operated ker.Update e f g h = absurd (cc)
operated ker.FoldLeft e f g h = absurd (cc)
operated ker.Member e f g h = absurd (cc)
operated ker.Included e f g h = absurd (cc)
operated ker.IntForm e f g h = absurd (cc)
operated ker.NatForm e f g h = absurd (cc)
operated ker.TextForm e f g h = absurd (cc)
operated ker.SeqForm e f g h = absurd (cc)
operated o e f g h = refl

pub can_operate : (b : Build) (k : Ker) (xs : List Cells) → CanJoin b k xs → ((out-Ker k).op ≡ ker.And → ⊥) → ((out-Ker k).op ≡ ker.Or → ⊥) →
    ((out-Ker k).op ≡ ker.If → ⊥) → CanOperate b k xs
can_operate b k xs c f g h = record {
  names = c.names;
  context = c.context;
  sound = c.sound;
  operated = operated (out-Ker k).op c.level f g h;
  texts = c.texts;
  parts = c.parts;
}

abbrev is_range : KerOp → Bool
is_range ker.Range = true
is_range o = false

operated_plain : (o : KerOp) → is_operated o ≡ true → is_range o ≡ false → is_plain o ≡ true
operated_plain ker.Range e h = absurd (cc)
operated_plain ker.And e h = absurd (cc)
operated_plain ker.Or e h = absurd (cc)
operated_plain ker.If e h = absurd (cc)
operated_plain (ker.Const v) e h = absurd (cc)
operated_plain ker.NoCase e h = absurd (cc)
operated_plain ker.Some e h = absurd (cc)
operated_plain ker.Every e h = absurd (cc)
operated_plain ker.Filter e h = absurd (cc)
operated_plain ker.MapOver e h = absurd (cc)
operated_plain ker.FunOf e h = absurd (cc)
operated_plain ker.Update e h = absurd (cc)
operated_plain ker.FoldLeft e h = absurd (cc)
operated_plain o e h = refl

module _ (w : Width) (s t : State) (sc : Scope) (xs : List ℕ) where
  range_lie : (ks : List Ker) → within_at w ker.Range xs (with_within w ks) sc s t ≡ true → AllLie w s t sc (operands_at ker.Range ks)
  range_lie [] h = tt
  range_lie (x ∷ []) h = (one (is_within w x sc s t) h, tt)
    where
      one : (a : Bool) → (a && true) ≡ true → a ≡ true
      one true h = refl
      one false h = absurd (cc)
  range_lie (x ∷ y ∷ bounds) h = let z = range_numbers w s t xs x y bounds sc h in (z.0, (z.1, tt))

  pub operated_lie : (o : KerOp) (ks : List Ker) → is_operated o ≡ true → within_at w o xs (with_within w ks) sc s t ≡ true →
      AllLie w s t sc (operands_at o ks)
  operated_lie ker.Range ks e h = range_lie ks h
  operated_lie o ks e h = plain_lies w s t o xs ks sc (operated_plain o e refl) h

pub operate_joins : (b d : Build) (k : Ker) (xs : List Cells) (r : Cells) → is_operated (out-Ker k).op ≡ true → Operates b d k xs r → Joins b d k xs r
operate_joins b d k xs r e h = record {
  shows = λ a m sc s t w p.
      h.shows a m sc s t w
      (all_shown b.arena a sc s t (operands k) xs
      (operated_lie (Some b.arena.width) s t sc (out-Ker k).binds (out-Ker k).op (out-Ker k).args e (within_by (Some b.arena.width) k (out-Ker k).op sc s t refl w)) p);
}

pub level_operated : (b : Build) (k : Ker) (xs : List Cells) → CanOperate b k xs → is_operated (out-Ker k).op ≡ true
level_operated b k xs c = c.operated
