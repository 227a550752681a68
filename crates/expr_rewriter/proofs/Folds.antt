-- A fold over the places of a sequence: one step more, and the node from its parts and its steps.
use Rattle.std.proofs.Common.{◌≡◌, ℕ, suc, ◌<◌, ◌+◌, Bool, true, false, not, IsTrue, List, [], ◌∷◌, ◌++◌, map, take, drop, zip, length, get_or, refl, sym, ◌∙◌, ap, ap₂, subst, arith, Option, Some, None, if◌then◌else◌}
use Rattle.std.specs.Prelude.{slice_get}
use Rattle.std.proofs.lemmas.List.{take_all}
use Rattle.sat_formula.specs.declared.lit.Lit.{Lit}
use Rattle.sat_formula.specs.Lit.{lit_value}
use Rattle.sat_formula.specs.Formula.{Satisfies}
use Rattle.tla_values.specs.declared.value.Value.{Value}
use Rattle.tla_meaning.specs.declared.job.State.{State}
use Rattle.tla_meaning.specs.declared.outcome.Outcome.{Outcome}
use Rattle.tla_meaning.specs.declared.outcome.Outcome.TheVariants.{Val, Wrong, Big}
use Rattle.tla_meaning.specs.Meaning.{folded}
use Rattle.tla_meaning.specs.Outcomes.{with_value}
use Rattle.tla_meaning.specs.Scopes.{Scope, bind}
use Rattle.tla_meaning.proofs.Views.{and_both, and_left, and_right}
use Rattle.cell_arena.specs.declared.build.Build.{Build}
use Rattle.cell_arena.specs.declared.kinds.CellId.{CellId}
use Rattle.cell_arena.specs.declared.kinds.CellKind.{CellKind}
use Rattle.cell_arena.specs.Cells.{kind_at as kind_at'}
use Rattle.cell_arena.specs.Decode.{decode}
use Rattle.cell_arena.specs.Growth.{Grows}
use Rattle.cell_arena.proofs.Growing.{Grows-trans, Satisfies-before, decode-before, kind-before}
use Rattle.cell_merge.specs.Composites.{parts_of}
use Rattle.cell_merge.specs.Partial.{Tells}
use Rattle.cell_merge.specs.Sorts.{Sort, OfSort, sequence_of}
use Rattle.cell_merge.proofs.Edges.{negated-value, sort-there}
use Rattle.cell_merge.proofs.SortLaws.{OfSort-later}
use Rattle.kernel_trees.specs.declared.kernel.Ker.{Ker, out-Ker}
use Rattle.kernel_trees.specs.declared.kernel.KerOp.{KerOp}
use Rattle.kernel_trees.specs.declared.kernel.KerOp.TheVariants as ker
use Rattle.kernel_trees.specs.Sound.{Context, kind_at, sound}
use Rattle.kernel_trees.specs.Trees.{ker_val, names_of}
use Rattle.kernel_trees.specs.TypeKinds.{Kind, Seq}
use Rattle.kernel_trees.proofs.SoundRows.{BinderRow, Row, row_const, row_some}
use Rattle.kernel_trees.proofs.Trees.{Each}
use Rattle.kernel_trees.proofs.SoundTrees.{Child, Node, node_name, node_bound, node_plain, node_bounded, node_binder, node_update, node_fold, sound_step}
use Rattle.kernel_ranges.specs.Ranges.{after, each_step, is_within}
use Rattle.outcome_cells.specs.declared.cells.Cells.{Cells}
use Rattle.outcome_cells.specs.Shows.{AreCells, CellsOfOneSort, Shows}
use Rattle.outcome_cells.proofs.Later.{AreCells-later, Shows-later, cells-there, width-later}
use Rattle.typed_cells.specs.KindSorts.{sort_of}
use Rattle.typed_cells.specs.KindSorts.{OfSorts}
use Rattle.member_choices.specs.Folds.{HasPlaceIn, HoldsItems, IsItemAt, IsSequenceIn, IsStep, items_in}
use Rattle.member_choices.proofs.FoldSteps.{fold_turn, front_more, front_whole}
use Rattle.expr_rewriter.specs.declared.cell_env.CellEnv.{CellEnv}
use Rattle.expr_rewriter.specs.declared.settings.Setting.TheVariants.{Fold, Leaf}
use Rattle.expr_rewriter.specs.Environments.{Fits}
use Rattle.expr_rewriter.specs.Operating.{AreParts, operands_at}
use Rattle.expr_rewriter.specs.Rewriting.{CanRewrite, HasTreeSort, Rewrites}
use Rattle.expr_rewriter.specs.inner.Folding.{CanStep, FoldsOver, fold_body, fold_parts, items_of_cell, step_lies, step_val}
use Rattle.expr_rewriter.specs.inner.Parts.{IsTree}
use Rattle.expr_rewriter.specs.inner.Settings.{setting_of, with_bound}
use Rattle.expr_rewriter.proofs.Fitting.{Fits-before, fits_bound}
use Rattle.expr_rewriter.proofs.Levels.{some_kind}
use Rattle.expr_rewriter.proofs.Opening.{Reads, can-later, children_read, place_can, under_can}
use Rattle.expr_rewriter.proofs.Steps.{env_there, sort_later}

-- ---- steps over plain values

module _ (f : Value → Value → Outcome) (test : Value → Value → Bool) where
  each_front : (xs : List Value) (x v : Value) → each_step f test (xs ++ x ∷ []) v ≡ true → each_step f test xs v ≡ true
  each_front [] x v h = refl
  each_front (y ∷ xs) x v h =
      and_both (test v y) (after (f v y) (each_step f test xs)) (and_left (test v y) (after (f v y) (each_step f test (xs ++ x ∷ []))) h)
      (by (f v y) (λ u. each_front xs x u) (and_right (test v y) (after (f v y) (each_step f test (xs ++ x ∷ []))) h))
    where
      by : (o : Outcome) → ((u : Value) → each_step f test (xs ++ x ∷ []) u ≡ true → each_step f test xs u ≡ true) →
          after o (each_step f test (xs ++ x ∷ [])) ≡ true → after o (each_step f test xs) ≡ true
      by (Val u) k h = k u h
      by (Wrong p) k h = refl
      by (Big p) k h = refl

  one_value : (u v : Value) → Val u ≡ Val v → u ≡ v
  one_value u v e = cc

  each_last : (xs : List Value) (x v u : Value) → each_step f test (xs ++ x ∷ []) v ≡ true → folded f xs v ≡ Val u → test u x ≡ true
  each_last [] x v u h e = subst (λ z. test z x ≡ true) (one_value v u e) (and_left (test v x) (after (f v x) (each_step f test [])) h)
  each_last (y ∷ xs) x v u h e =
      by (f v y) (λ w. each_last xs x w u) (and_right (test v y) (after (f v y) (each_step f test (xs ++ x ∷ []))) h) e
    where
      by : (o : Outcome) → ((w : Value) → each_step f test (xs ++ x ∷ []) w ≡ true → folded f xs w ≡ Val u → test u x ≡ true) →
          after o (each_step f test (xs ++ x ∷ [])) ≡ true → with_value o (folded f xs) ≡ Val u → test u x ≡ true
      by (Val w) k h e = k w h e
      by (Wrong p) k h e = absurd (cc)
      by (Big p) k h e = absurd (cc)

  -- up to the item at place i
  front_lies : (xs : List Value) (i : ℕ) (v : Value) (o : Option Value) → slice_get xs i ≡ o → each_step f test (take (suc i) xs) v ≡ true →
      each_step f test (take i xs) v ≡ true
  front_lies xs i v None e h = subst (λ l. each_step f test l v ≡ true) (front_whole f xs i e) h
  front_lies xs i v (Some x) e h = each_front (take i xs) x v (subst (λ l. each_step f test l v ≡ true) (front_more f xs i x e) h)

  here_lies : (xs : List Value) (i : ℕ) (v u x : Value) → slice_get xs i ≡ Some x → each_step f test (take (suc i) xs) v ≡ true →
      folded f (take i xs) v ≡ Val u → test u x ≡ true
  here_lies xs i v u x e h k = each_last (take i xs) x v u (subst (λ l. each_step f test l v ≡ true) (front_more f xs i x e) h) k

  -- the fold up to place i, and the step there
  turn_over : (xs : List Value) (i : ℕ) (o : Outcome) (q : Option Value) → slice_get xs i ≡ q → (there : Bool) (g : Value → Outcome) →
      (q ≡ None → there ≡ false) → ((x : Value) → q ≡ Some x → there ≡ true) → ((x u : Value) → q ≡ Some x → g u ≡ f u x) →
      (if there then with_value (with_value o (folded f (take i xs))) g else with_value o (folded f (take i xs)))
      ≡ with_value o (folded f (take (suc i) xs))
  turn_over xs i o None e there g n s k =
      ap (λ (b : Bool). if b then with_value (with_value o (folded f (take i xs))) g else with_value o (folded f (take i xs))) (n refl)
      ∙ ap (λ l. with_value o (folded f l)) (sym (front_whole f xs i e))
  turn_over xs i o (Some x) e there g n s k =
      ap (λ (b : Bool). if b then with_value (with_value o (folded f (take i xs))) g else with_value o (folded f (take i xs))) (s x refl)
      ∙ by o
    where
      same : (p : Outcome) → with_value p g ≡ with_value p (λ u. f u x)
      same (Val u) = k x u refl
      same (Wrong p) = refl
      same (Big p) = refl

      by : (o : Outcome) → with_value (with_value o (folded f (take i xs))) g ≡ with_value o (folded f (take (suc i) xs))
      by (Val v) = same (folded f (take i xs) v) ∙ sym (fold_turn f xs i v (Some x) e)
      by (Wrong p) = refl
      by (Big p) = refl

-- ---- the parts of a fold

pub record FoldOf (names : List Kind) (c : Context) (a : Kind) (xs : List ℕ) (ks : List Ker) : Type 0 where
  pub so_far : ℕ
  pub item : ℕ
  pub binds : xs ≡ so_far ∷ item ∷ []
  pub body : Ker
  pub first : Ker
  pub seq : Ker
  pub args : ks ≡ body ∷ first ∷ seq ∷ []
  pub kind : Kind
  pub body_is : Child names (c ++ (so_far, a) ∷ (item, kind) ∷ []) false a body
  pub first_is : Child names c false a first
  pub seq_is : Child names c false (Seq kind) seq

fold_row : (o : KerOp) (a : Kind) (as' : List Kind) → Row o a as' → setting_of o ≡ Fold → ⊥
fold_row o a as' (row_const v b h) e = absurd (cc)
fold_row o a as' r e = absurd (cc)

fold_binder : (o : KerOp) (a : Kind) (ms : List Kind) (d : Kind) → setting_of o ≡ Fold → BinderRow o a ms d → ⊥
fold_binder o a ms d e (row_some ns) = cc
fold_binder o a ms d e r = cc

fold_of : (names : List Kind) (c : Context) (o : KerOp) (a : Kind) (xs : List ℕ) (ks : List Ker) → setting_of o ≡ Fold →
    Node names c false o a xs ks → (o ≡ ker.FoldLeft) × FoldOf names c a xs ks
fold_of names c o a xs ks e (node_name i primed b ys q) = absurd (cc)
fold_of names c o a xs ks e (node_bound n b ys q) = absurd (cc)
fold_of names c o a xs ks e (node_plain p b ys ls bs r h i) = absurd (fold_row o a bs r e)
fold_of names c o a xs ks e (node_bounded ys x y l u p q r s) = absurd (cc)
fold_of names c o a xs ks e (node_binder p b ys ls sets body ms d q n r t u) = absurd (fold_binder o a ms d e r)
fold_of names c o a xs ks e (node_update b x f i d j m p q r t) = absurd (cc)
fold_of names c o a xs ks e (node_fold b x y d f q m p r t) = (
  refl,
  record {
    so_far = x;
    item = y;
    binds = refl;
    body = d;
    first = f;
    seq = q;
    args = refl;
    kind = m;
    body_is = p;
    first_is = r;
    seq_is = t;
  },
)

abbrev pub FoldAt : List Kind → Context → Ker → Type 0
FoldAt names c k = (a : Kind) × (kind_at k ≡ Some a) × ((out-Ker k).op ≡ ker.FoldLeft) × FoldOf names c a (out-Ker k).binds (out-Ker k).args

pub fold_at : (names : List Kind) (c : Context) (k : Ker) → IsTrue (sound names k c false) → setting_of (out-Ker k).op ≡ Fold → FoldAt names c k
fold_at names c k h e =
    let z = sound_step names k c false h in
    let u = fold_of names c (out-Ker k).op z.0 (out-Ker k).binds (out-Ker k).args e z.2 in
    (z.0, z.1, u.0, u.1)

fold_reads : (k : Ker) → setting_of (out-Ker k).op ≡ Fold → Each (Reads k) (out-Ker k).args
fold_reads k e = subst (Each (Reads k)) (all (out-Ker k).op (out-Ker k).args e) (children_read k (λ h. leaf (sym h ∙ e)))
  where
    leaf : Leaf ≡ Fold → ⊥
    leaf e = cc

    all : (o : KerOp) (ks : List Ker) → setting_of o ≡ Fold → operands_at o ks ≡ ks
    all ker.Range ks e = absurd (cc)
    all o ks e = refl

-- ---- the children

module _ (b : Build) (k : Ker) (env : CellEnv) (can : CanRewrite b k env) (e : setting_of (out-Ker k).op ≡ Fold) where
  abbrev node : FoldAt can.names can.context k
  node = fold_at can.names can.context k can.sound e

  abbrev parts : FoldOf can.names can.context node.0 (out-Ker k).binds (out-Ker k).args
  parts = node.3

  at_place : (ks : List Ker) (i : ℕ) (j d : Ker) → ks ≡ (out-Ker k).args → get_or (parts.body ∷ parts.first ∷ parts.seq ∷ []) i d ≡ j →
      get_or ks i d ≡ j
  at_place ks i j d p q = ap (λ (l : List Ker). get_or l i d) (p ∙ parts.args) ∙ q

  pub three_args : (ks : List Ker) → ks ≡ (out-Ker k).args → length ks ≡ 3
  three_args ks p = ap length (p ∙ parts.args)

  pub body_is : (ks : List Ker) (j : Ker) → ks ≡ (out-Ker k).args → j ≡ get_or ks 0 j → fold_body k ≡ Some j
  body_is ks j p q = ap (λ (l : List Ker). slice_get l 0) parts.args ∙ ap Some (sym (q ∙ at_place ks 0 parts.body j p refl))

  pub first_can : (ks : List Ker) (j : Ker) → ks ≡ (out-Ker k).args → j ≡ get_or ks 1 j → CanRewrite b j env
  first_can ks j p q =
      subst (λ (y : Ker). CanRewrite b y env) (sym (q ∙ at_place ks 1 parts.first j p refl))
      (place_can b k env can (fold_reads k e) 1 parts.first (ap (λ (l : List Ker). slice_get l 1) parts.args) parts.first_is.1)

  pub seq_can : (d : Build) (env' : CellEnv) (ks : List Ker) (j : Ker) → Grows b d → env' ≡ env → ks ≡ (out-Ker k).args → j ≡ get_or ks 2 j →
      CanRewrite d j env'
  seq_can d env' ks j g r p q =
      subst (CanRewrite d j) (sym r)
      (subst (λ (y : Ker). CanRewrite d y env) (sym (q ∙ at_place ks 2 parts.seq j p refl))
      (can-later b d parts.seq env g
      (place_can b k env can (fold_reads k e) 2 parts.seq (ap (λ (l : List Ker). slice_get l 2) parts.args) parts.seq_is.1)))

  -- the cells of the first value and of the sequence
  pub parts_are : (d f : Build) (env1 env2 : CellEnv) (ks : List Ker) (i j : Ker) (first seq : Cells) → Grows d f → ks ≡ (out-Ker k).args →
      i ≡ get_or ks 1 i → j ≡ get_or ks 2 j → IsTree d i env1 first → IsTree f j env2 seq → AreParts f (fold_parts k) (first ∷ seq ∷ [])
  parts_are d f env1 env2 ks i j first seq g p q r t u =
      subst (λ l. AreParts f (drop 1 l) (first ∷ seq ∷ [])) (sym parts.args) (
        subst (λ (y : Ker). HasTreeSort f y first) (q ∙ at_place ks 1 parts.first i p refl) (sort_later d f i first g t.sort),
        (subst (λ (y : Ker). HasTreeSort f y seq) (r ∙ at_place ks 2 parts.seq j p refl) u.sort, tt),
      )

-- ---- one step more

module _ (b0 : Build) (env : CellEnv) (k : Ker) (first seq : Cells) (can : CanStep b0 env k first seq) where
  abbrev step_node : FoldAt can.can.names can.can.context k
  step_node = fold_at can.can.names can.can.context k can.can.sound can.fold

  abbrev step_parts : FoldOf can.can.names can.can.context step_node.0 (out-Ker k).binds (out-Ker k).args
  step_parts = step_node.3

  cells_parts : AreParts b0 (step_parts.first ∷ step_parts.seq ∷ []) (first ∷ seq ∷ [])
  cells_parts = subst (λ l. AreParts b0 (drop 1 l) (first ∷ seq ∷ [])) step_parts.args can.parts

  abbrev value_sort : Sort
  value_sort = sort_of step_node.0

  first_sort : AreCells b0 value_sort first
  first_sort = cells_parts.0 step_node.0 step_parts.first_is.0

  seq_sort : OfSort b0.arena.kinds (sequence_of (sort_of step_parts.kind)) seq.cell
  seq_sort = (cells_parts.1.0 (Seq step_parts.kind) step_parts.seq_is.0).sort

  pub is_sequence : IsSequenceIn b0.arena.kinds seq.cell
  is_sequence = record { sort = sort_of step_parts.kind; is = seq_sort }

  pub has_place : (b : Build) (n i : ℕ) → Grows b0 b → HoldsItems b0 seq.cell n → i < n → HasPlaceIn b.arena.kinds seq.cell i
  has_place b n i g h lt = record {
    sort = sort_of step_parts.kind;
    is = OfSort-later b0 b (sequence_of (sort_of step_parts.kind)) seq.cell seq_sort g;
    within =
        let count : length (parts_of (kind_at' b.arena.kinds seq.cell)) ≡ length (parts_of (kind_at' b0.arena.kinds seq.cell)) =
        ap (λ (q : CellKind). length (parts_of q)) (kind-before b0 b seq.cell g seq_sort.0) in
        let places = h.places in omega arith;
  }

  abbrev so_far_sort : (b : Build) (x : Cells) → HasTreeSort b k x → AreCells b value_sort x
  so_far_sort b x h = h step_node.0 step_node.1

  body_kind : (body : Ker) → fold_body k ≡ Some body → kind_at body ≡ Some step_node.0
  body_kind body q = ap kind_at (one (sym q ∙ ap (λ (l : List Ker). slice_get l 0) step_parts.args)) ∙ step_parts.body_is.0
    where
      one : {x y : Ker} → Some x ≡ Some y → x ≡ y
      one e = cc

  -- no step
  pub no_steps : FoldsOver (λ a. take 0 (items_of_cell b0.arena seq a)) b0 b0 env k first first
  no_steps = record {
    sort = λ a q. subst (λ u. AreCells b0 (sort_of u) first) (some_kind step_node.0 a (sym step_node.1 ∙ q)) first_sort;
    shows = λ a m sc s t f body q o h l. by a o h;
  }
    where
      by : (a : List Bool) (o : Outcome) → Shows b0.arena a first o → Shows b0.arena a first (with_value o (λ v. Val v))
      by a (Val v) h = h
      by a (Wrong p) h = h
      by a (Big p) h = h

  module _ (b b1 : Build) (i : ℕ) (so_far : Cells) (part : CellId × Lit) (g : Grows b0 b) (g1 : Grows b b1)
      (made : FoldsOver (λ a. take i (items_of_cell b0.arena seq a)) b0 b env k first so_far) (item : IsItemAt b b1 seq.cell i part) where
    sorts : OfSorts b1.arena.kinds (map sort_of (step_node.0 ∷ step_parts.kind ∷ [])) (so_far.cell ∷ part.0 ∷ [])
    sorts = (
      OfSort-later b b1 value_sort so_far.cell (so_far_sort b so_far made.sort).sort g1,
      (item.sort (sort_of step_parts.kind) (OfSort-later b0 b (sequence_of (sort_of step_parts.kind)) seq.cell seq_sort g), tt),
    )

    pub step_can : (env' : CellEnv) (xs : List ℕ) (ids : List CellId) (body : Ker) → env' ≡ env → xs ≡ (out-Ker k).binds →
        ids ≡ so_far.cell ∷ part.0 ∷ [] → fold_body k ≡ Some body → CanRewrite b1 body (with_bound env' xs ids)
    step_can env' xs ids body r p q l =
        subst (λ (v : CellEnv). CanRewrite b1 body (with_bound v xs ids)) (sym r)
        (subst (λ (z : List ℕ × List CellId). CanRewrite b1 body (with_bound env z.0 z.1)) (ap₂ (λ (x : List ℕ) (y : List CellId). (x, y)) (sym p) (sym q))
        (under_can b0 k env can.can (fold_reads k can.fold) b1 0 body (out-Ker k).binds (step_node.0 ∷ step_parts.kind ∷ []) (so_far.cell ∷ part.0 ∷ [])
        (Grows-trans b0 b b1 g g1) l (subst (λ j. IsTrue (sound can.can.names j (can.can.context ++ zip (out-Ker k).binds (step_node.0 ∷ step_parts.kind ∷ [])) false))
        (one (ap (λ (m : List Ker). slice_get m 0) (sym step_parts.args) ∙ l))
        (subst (λ ys. IsTrue (sound can.can.names step_parts.body (can.can.context ++ zip ys (step_node.0 ∷ step_parts.kind ∷ [])) false)) (sym step_parts.binds) step_parts.body_is.1))
        (ap length step_parts.binds) sorts))
      where
        one : {x y : Ker} → Some x ≡ Some y → x ≡ y
        one e = cc

    pub step_count : (xs : List ℕ) (ids : List CellId) → xs ≡ (out-Ker k).binds → ids ≡ so_far.cell ∷ part.0 ∷ [] → length xs ≡ length ids
    step_count xs ids p q = ap length (p ∙ step_parts.binds) ∙ sym (ap length q)

    module _ (b2 b3 : Build) (env' : CellEnv) (xs : List ℕ) (ids : List CellId) (body : Ker) (next r : Cells) (there : Lit) (g2 : Grows b1 b2)
        (g3 : Grows b2 b3) (er : env' ≡ env) (p : xs ≡ (out-Ker k).binds) (q : ids ≡ so_far.cell ∷ part.0 ∷ []) (l : fold_body k ≡ Some body)
        (t : IsTree b2 body (with_bound env' xs ids) next) (neg : there ≡ record { var = part.1.var; neg = not part.1.neg }) where
      pub step_below : there.var < b2.formula.vars
      step_below = let z = item.yields.below in let n = g2.formula.vars in subst (λ (y : Lit). y.var < b2.formula.vars) (sym neg) (omega arith)

      older_so_far : AreCells b2 value_sort so_far
      older_so_far = AreCells-later b b2 value_sort so_far (Grows-trans b b1 b2 g1 g2) (so_far_sort b so_far made.sort)

      next_sort : AreCells b2 value_sort next
      next_sort = t.sort step_node.0 (body_kind body l)

      pub step_types : CellsOfOneSort b2 so_far next
      step_types = record { sort = value_sort; left = older_so_far; right = next_sort }

      module _ (step : IsStep b2 b3 there so_far next r) where
        rewrites : Rewrites b2 body (with_bound env (out-Ker k).binds (so_far.cell ∷ part.0 ∷ [])) next
        rewrites =
            subst (λ (z : List ℕ × List CellId). Rewrites b2 body (with_bound env z.0 z.1) next) (ap₂ (λ (x : List ℕ) (y : List CellId). (x, y)) p q)
            (subst (λ (v : CellEnv). Rewrites b2 body (with_bound v xs ids) next) er t.rewrites)

        old_next : Grows b b2
        old_next = Grows-trans b b1 b2 g1 g2

        all_grows : Grows b0 b2
        all_grows = Grows-trans b0 b b2 g old_next

        module _ (a : List Bool) (m : Satisfies a b3.formula) (sc : Scope) (s u : State) (fits : Fits b3.arena a env sc s u) (other : Ker)
            (ol : fold_body k ≡ Some other) (o : Outcome) (h : Shows b0.arena a first o) where
          abbrev w : ℕ
          w = b0.arena.width

          abbrev f : Value → Value → Outcome
          f = step_val w other (out-Ker k).binds sc s u

          abbrev test : Value → Value → Bool
          test = step_lies w other (out-Ker k).binds sc s u

          abbrev items : List Value
          items = items_of_cell b0.arena seq a

          abbrev at_item : Option Value
          at_item = slice_get items i

          m2 : Satisfies a b2.formula
          m2 = Satisfies-before b2 b3 a g3 m

          m1 : Satisfies a b1.formula
          m1 = Satisfies-before b1 b2 a g2 m2

          m0 : Satisfies a b.formula
          m0 = Satisfies-before b b1 a g1 m1

          fits2 : Fits b2.arena a env sc s u
          fits2 = Fits-before b2 b3 a env sc s u g3 (env_there b0 b2 k env can.can all_grows) fits

          fits0 : Fits b.arena a env sc s u
          fits0 = Fits-before b b2 a env sc s u old_next (env_there b0 b k env can.can g) fits2

          same_items : items_in (decode b.arena a seq.cell) ≡ items
          same_items = ap items_in (decode-before b0 b a seq.cell g (sort-there b0.arena.kinds (sequence_of (sort_of step_parts.kind)) seq.cell seq_sort))

          told : Tells (lit_value part.1 a) (decode b1.arena a part.0) at_item
          told = subst (λ xs. Tells (lit_value part.1 a) (decode b1.arena a part.0) (slice_get xs i)) same_items (item.yields.tells a m1)

          there_value : lit_value there a ≡ not (lit_value part.1 a)
          there_value = negated-value part.1 there a neg

          absent : at_item ≡ None → lit_value there a ≡ false
          absent e = there_value ∙ ap not (subst (Tells (lit_value part.1 a) (decode b1.arena a part.0)) e told)

          present : (x : Value) → at_item ≡ Some x → lit_value there a ≡ true
          present x e = there_value ∙ ap not (subst (Tells (lit_value part.1 a) (decode b1.arena a part.0)) e told).0

          item_value : (x : Value) → at_item ≡ Some x → decode b2.arena a part.0 ≡ x
          item_value x e = decode-before b1 b2 a part.0 g2 item.yields.there ∙ (subst (Tells (lit_value part.1 a) (decode b1.arena a part.0)) e told).1

          so_far_shows : ((v : Value) → o ≡ Val v → each_step f test (take (suc i) items) v ≡ true) →
              Shows b2.arena a so_far (with_value o (folded f (take i items)))
          so_far_shows lie =
              Shows-later b b2 a so_far (with_value o (folded f (take i items))) old_next (cells-there b value_sort so_far (so_far_sort b so_far made.sort))
              (made.shows a m0 sc s u fits0 other ol o h (λ v e. front_lies f test items i v at_item refl (lie v e)))

          fold_val : (v : Value) → o ≡ Val v → with_value o (folded f (take i items)) ≡ folded f (take i items) v
          fold_val v e = ap (λ (z : Outcome). with_value z (folded f (take i items))) e

          next_shows : ((v : Value) → o ≡ Val v → each_step f test (take (suc i) items) v ≡ true) → (v : Value) →
              with_value o (folded f (take i items)) ≡ Val v → lit_value there a ≡ true → Shows b2.arena a next (f v (decode b2.arena a part.0))
          next_shows lie v e on = by at_item refl
            where
              begins : (o : Outcome) → with_value o (folded f (take i items)) ≡ Val v → (y : Value) × (o ≡ Val y)
              begins (Val y) e = (y, refl)
              begins (Wrong z) e = absurd (cc)
              begins (Big z) e = absurd (cc)

              one : {x y : Ker} → Some x ≡ Some y → x ≡ y
              one e = cc

              by : (q : Option Value) → at_item ≡ q → Shows b2.arena a next (f v (decode b2.arena a part.0))
              by None z = absurd (no (sym on ∙ absent z))
                where
                  no : true ≡ false → ⊥
                  no e = cc
              by (Some x) z =
                  let start = begins o e in
                  let lies = here_lies f test items i start.0 v x z (lie start.0 start.1) (sym (fold_val start.0 start.1) ∙ e) in
                  let v_is : decode b2.arena a so_far.cell ≡ v = (so_far_shows lie).shown.value v e in
                  let x_is : decode b2.arena a part.0 ≡ x = item_value x z in
                  let vals : map (decode b2.arena a) (so_far.cell ∷ part.0 ∷ []) ≡ v ∷ decode b2.arena a part.0 ∷ [] =
                  ap (λ (y : Value). y ∷ decode b2.arena a part.0 ∷ []) v_is in
                  let wide : b2.arena.width ≡ w = width-later b0 b2 all_grows in
                  let same : body ≡ other = one (sym l ∙ ol) in
                  let in_scope : List Value → Scope = λ vs. bind (names_of (out-Ker k).binds) vs sc in
                  let all = fits_bound b2.arena a env sc s u (out-Ker k).binds (so_far.cell ∷ part.0 ∷ []) (ap length step_parts.binds) fits2 in
                  let asked : IsTrue (is_within (Some w) other (in_scope (v ∷ decode b2.arena a part.0 ∷ [])) s u) =
                  subst (λ (y : Value). test v y ≡ true) (sym x_is) lies in
                  subst (λ n. Shows b2.arena a next (ker_val (Some n) other (in_scope (v ∷ decode b2.arena a part.0 ∷ [])) s u)) wide
                  (subst (λ y. Shows b2.arena a next (ker_val (Some b2.arena.width) y (in_scope (v ∷ decode b2.arena a part.0 ∷ [])) s u)) same
                  (subst (λ (vs : List Value). Shows b2.arena a next (ker_val (Some b2.arena.width) body (in_scope vs) s u)) vals
                  (rewrites.shows a m2 (in_scope (map (decode b2.arena a) (so_far.cell ∷ part.0 ∷ []))) s u all
                  (subst (λ (vs : List Value). IsTrue (is_within (Some b2.arena.width) body (in_scope vs) s u)) (sym vals)
                  (subst (λ y. IsTrue (is_within (Some b2.arena.width) y (in_scope (v ∷ decode b2.arena a part.0 ∷ [])) s u)) (sym same)
                  (subst (λ n. IsTrue (is_within (Some n) other (in_scope (v ∷ decode b2.arena a part.0 ∷ [])) s u)) (sym wide) asked))))))

          made_shows : ((v : Value) → o ≡ Val v → each_step f test (take (suc i) items) v ≡ true) →
              Shows b3.arena a r (with_value o (folded f (take (suc i) items)))
          made_shows lie =
              subst (Shows b3.arena a r)
              (turn_over f test items i o at_item refl (lit_value there a) (λ v. f v (decode b2.arena a part.0)) absent present
              (λ x v e. ap (f v) (item_value x e)))
              (step.shows a m (with_value o (folded f (take i items))) (λ v. f v (decode b2.arena a part.0)) (so_far_shows lie) (next_shows lie))

        pub steps_turn : FoldsOver (λ a. take (i + 1) (items_of_cell b0.arena seq a)) b0 b3 env k first r
        steps_turn =
            subst (λ (n : ℕ). FoldsOver (λ a. take n (items_of_cell b0.arena seq a)) b0 b3 env k first r) next_place
            (record {
              sort = λ c e. subst (λ y. AreCells b3 (sort_of y) r) (some_kind step_node.0 c (sym step_node.1 ∙ e)) (step.cells value_sort older_so_far next_sort);
              shows = λ a m sc s u fits other ol o h lie. made_shows a m sc s u fits other ol o h lie;
            })
          where
            next_place : suc i ≡ i + 1
            next_place = omega arith

  -- all steps
  pub all_steps : (b : Build) (n : ℕ) (r : Cells) → Grows b0 b → HoldsItems b0 seq.cell n →
      FoldsOver (λ a. take n (items_of_cell b0.arena seq a)) b0 b env k first r → FoldsOver (items_of_cell b0.arena seq) b0 b env k first r
  all_steps b n r g h made = record {
    sort = made.sort;
    shows = λ a m sc s t fits body l o x lie.
        let whole : take n (items_of_cell b0.arena seq a) ≡ items_of_cell b0.arena seq a =
        take_all n (items_of_cell b0.arena seq a) (h.within a (Satisfies-before b0 b a g m)) in
        subst (λ xs. Shows b.arena a r (with_value o (folded (step_val b0.arena.width body (out-Ker k).binds sc s t) xs))) whole
        (made.shows a m sc s t fits body l o x (λ v e.
        subst (λ xs. each_step (step_val b0.arena.width body (out-Ker k).binds sc s t) (step_lies b0.arena.width body (out-Ker k).binds sc s t) xs v ≡ true)
        (sym whole) (lie v e)));
  }
