-- A fold from its parts and its steps.
use Rattle.std.proofs.Common.{◌≡◌, ℕ, ◌<◌, ◌+◌, Bool, true, IsTrue, List, [], ◌∷◌, map, drop, length, get_or, All, refl, sym, ◌∙◌, ap, ap₂, subst, Option, Some}
use Rattle.std.specs.Prelude.{slice_get}
use Rattle.std.proofs.lemmas.List.Elements.{All-cons, All-nil}
use Rattle.sat_formula.specs.Formula.{Satisfies, Grows as FormulaGrows}
use Rattle.tla_values.specs.Order.{Layer}
use Rattle.tla_values.specs.Sequences.{sequence as cell_sequence}
use Rattle.tla_values.specs.declared.value.Value.{Value, out-Value}
use Rattle.tla_values.specs.declared.value.Value.TheVariants as value
use Rattle.tla_values.specs.declared.value.Value.TheVariants.{outs-Fun}
use Rattle.tla_values.specs.declared.value.Value.TheOpen as layer
use Rattle.tla_meaning.specs.declared.job.State.{State}
use Rattle.tla_meaning.specs.declared.outcome.Fault.TheVariants.{NoFault}
use Rattle.tla_meaning.specs.declared.outcome.Outcome.{Outcome}
use Rattle.tla_meaning.specs.declared.outcome.Outcome.TheVariants.{Val, Wrong, Big}
use Rattle.tla_meaning.specs.declared.place.Place.{Place}
use Rattle.tla_meaning.specs.Meaning.{fold_over, folded}
use Rattle.tla_meaning.specs.Numbers.{Width}
use Rattle.tla_meaning.specs.Operators.{on_items}
use Rattle.tla_meaning.specs.Outcomes.{joined, strict, with_value}
use Rattle.tla_meaning.specs.Scopes.{Scope}
use Rattle.tla_meaning.specs.Shapes.{items_of, numbered}
use Rattle.cell_arena.specs.declared.build.Build.{Build}
use Rattle.cell_arena.specs.declared.kinds.CellId.{CellId}
use Rattle.cell_arena.specs.Cells.{Cells as Arena, kind_at as kind_at'}
use Rattle.cell_arena.specs.Decode.{decode, kind_value}
use Rattle.cell_arena.specs.Growth.{Grows}
use Rattle.cell_arena.proofs.Decoding.{decode-kind}
use Rattle.cell_arena.proofs.Growing.{Grows-trans, Satisfies-before, decode-before}
use Rattle.cell_merge.specs.Arrows.{pairs_here, pairs_of}
use Rattle.cell_merge.specs.Sorts.{Sort, OfSort, sequence_of}
use Rattle.cell_merge.proofs.Edges.{is-sequence}
use Rattle.kernel_trees.specs.declared.kernel.Ker.{Ker, out-Ker}
use Rattle.kernel_trees.specs.declared.kernel.KerOp.TheVariants as ker
use Rattle.kernel_trees.specs.Sound.{kind_at}
use Rattle.kernel_trees.specs.Trees.{ker_val}
use Rattle.kernel_trees.specs.TypeKinds.{Seq}
use Rattle.kernel_trees.proofs.Binders.{val_fold}
use Rattle.kernel_trees.proofs.Operators.{tree}
use Rattle.kernel_ranges.specs.Ranges.{each_step, is_within, within_at}
use Rattle.kernel_ranges.proofs.Opened.{fold_lies, with_within}
use Rattle.outcome_cells.specs.declared.cells.Cells.{Cells}
use Rattle.outcome_cells.specs.Joins.{IsStrict}
use Rattle.outcome_cells.specs.Shows.{AllShow, AreCells, FaultsBelow, Shows, faults_of}
use Rattle.outcome_cells.proofs.Later.{AreCells-behind, AreCells-below, AreCells-later, cells-there, width-later}
use Rattle.outcome_cells.proofs.OneText.{items-numbered, same-numbered}
use Rattle.typed_cells.specs.KindSorts.{sort_of}
use Rattle.member_choices.specs.Folds.{items_in}
use Rattle.expr_rewriter.specs.declared.cell_env.CellEnv.{CellEnv}
use Rattle.expr_rewriter.specs.declared.settings.Setting.TheVariants.{Fold}
use Rattle.expr_rewriter.specs.Environments.{Fits}
use Rattle.expr_rewriter.specs.Operating.{AreParts}
use Rattle.expr_rewriter.specs.Rewriting.{CanRewrite, HasTreeSort}
use Rattle.expr_rewriter.specs.inner.Folding.{CanFoldNode, CanStep, FoldShows, FoldsNode, FoldsOver, fold_body, fold_parts, items_of_cell, step_lies, step_val}
use Rattle.expr_rewriter.specs.inner.Parts.{IsTree, PartsShow}
use Rattle.expr_rewriter.specs.inner.Settings.{setting_of}
use Rattle.expr_rewriter.proofs.Fitting.{Fits-before}
use Rattle.expr_rewriter.proofs.Folds.{FoldAt, FoldOf, first_can, fold_at, seq_can}
use Rattle.expr_rewriter.proofs.Levels.{as_tree, some_kind, within_by}
use Rattle.expr_rewriter.proofs.Opening.{can-later}
use Rattle.expr_rewriter.proofs.Steps.{env_there, sort_later, tree_later, trees_show}

-- ---- the items of a sequence

items_numbered : (n : ℕ) (xs : List Value) → map (λ (q : Value × Value). q.1) (numbered n xs) ≡ xs
items_numbered n [] = refl
items_numbered n (x ∷ xs) = ap (λ (l : List Value). x ∷ l) (items_numbered (n + 1) xs)

-- a value that is a sequence of these items
pub record Listed (v : Value) : Type 0 where
  pub pairs : List (Value × Value)
  pub out : out-Value v ≡ layer.Fun pairs
  pub items : items_of pairs ≡ Some (items_in v)

listed : (v : Value) (xs : List Value) → v ≡ cell_sequence xs → Listed v
unfolding pairs_of
listed v xs e =
    let o : out-Value v ≡ layer.Fun (numbered 1 xs) = ap out-Value (e ∙ ap value.Fun (same-numbered 1 xs)) ∙ outs-Fun (numbered 1 xs) in
    record {
      pairs = numbered 1 xs;
      out = o;
      items = items-numbered xs ∙ ap Some (sym (ap (λ (l : Layer Value). map (λ (q : Value × Value). q.1) (pairs_here l)) o ∙ items_numbered 1 xs));
    }

pub sequence_listed : (b : Build) (a : List Bool) (s : Sort) (id : CellId) → OfSort b.arena.kinds (sequence_of s) id → Listed (decode b.arena a id)
sequence_listed b a s id h =
    let k = is-sequence (OfSort b.arena.kinds s) (kind_at' b.arena.kinds id) h.1 in
    listed (decode b.arena a id) _ (decode-kind b.arena a id b.built h.0 ∙ ap (kind_value b.arena.texts a (decode b.arena a)) k.2)

-- ---- two parts

abbrev pub Two : Outcome → Outcome → Type 0
Two o q = (v : Value) × (u : Value) × (o ≡ Val v) × (q ≡ Val u)

pub two_values : (o q : Outcome) → joined (o ∷ q ∷ []) ≡ NoFault → Two o q
two_values (Val v) (Val u) h = (v, u, refl, refl)
two_values (Val v) (Wrong p) h = absurd (cc)
two_values (Val v) (Big p) h = absurd (cc)
two_values (Wrong p) (Val u) h = absurd (cc)
two_values (Wrong p) (Wrong q) h = absurd (cc)
two_values (Wrong p) (Big q) h = absurd (cc)
two_values (Big p) (Val u) h = absurd (cc)
two_values (Big p) (Wrong q) h = absurd (cc)
two_values (Big p) (Big q) h = absurd (cc)

-- a fold over a sequence of these items
fold_listed : (p : Place) (f : Value → Value → Outcome) (v q : Value) (h : Listed q) → fold_over p f (v ∷ q ∷ []) ≡ folded f (items_in q) v
fold_listed p f v q h =
    ap (λ (l : Layer Value). elim l as (λ _. Outcome) [ layer.Fun ps ↦ on_items p (λ xs. folded f xs v) (items_of ps) | _ ↦ Wrong p ]) h.out
    ∙ ap (λ (o : Option (List Value)). on_items p (λ xs. folded f xs v) o) h.items

-- ---- the node

module _ (b : Build) (k : Ker) (first seq own : Cells) (c : CanFoldNode b k first seq own) where
  abbrev node : FoldAt c.names c.context k
  node = fold_at c.names c.context k c.sound c.fold

  abbrev parts : FoldOf c.names c.context node.0 (out-Ker k).binds (out-Ker k).args
  parts = node.3

  cells_are : AreParts b (parts.first ∷ parts.seq ∷ []) (first ∷ seq ∷ [])
  cells_are = subst (λ l. AreParts b (drop 1 l) (first ∷ seq ∷ [])) parts.args c.parts

  first_cells : AreCells b (sort_of node.0) first
  first_cells = cells_are.0 node.0 parts.first_is.0

  seq_cells : AreCells b (sequence_of (sort_of parts.kind)) seq
  seq_cells = cells_are.1.0 (Seq parts.kind) parts.seq_is.0

  pub both_below : All (λ x. FaultsBelow b.formula.vars (faults_of x)) (first ∷ seq ∷ [])
  both_below =
      All-cons (λ x. FaultsBelow b.formula.vars (faults_of x)) first (seq ∷ []) (AreCells-below b (sort_of node.0) first first_cells)
      (All-cons (λ x. FaultsBelow b.formula.vars (faults_of x)) seq [] (AreCells-below b (sequence_of (sort_of parts.kind)) seq seq_cells)
      (All-nil (λ x. FaultsBelow b.formula.vars (faults_of x))))

  own_cells : AreCells b (sort_of node.0) own
  own_cells = c.sort node.0 node.1

  pub own_below : FaultsBelow b.formula.vars (faults_of own)
  own_below = AreCells-below b (sort_of node.0) own own_cells

  pub fold_sort : (d : Build) (r : Cells) → Grows b d → IsStrict d.formula (first ∷ seq ∷ []) own r → HasTreeSort d k r
  fold_sort d r g h = λ a e.
      subst (λ u. AreCells d (sort_of u) r) (some_kind node.0 a (sym node.1 ∙ e)) (AreCells-behind b d (sort_of node.0) own r g own_cells h.cell h.below)

  pub folds_node : (d : Build) (r : Cells) → d.arena ≡ b.arena → FormulaGrows b.formula d.formula → IsStrict d.formula (first ∷ seq ∷ []) own r →
      FoldsNode b d k first seq own r
  folds_node d r q g h = record {
    shows = λ a m sc s t w p l.
        let wide : Width = Some b.arena.width in
        let xs : List ℕ = (out-Ker k).binds in
        let place : Place = (out-Ker k).place in
        let vf : Outcome = ker_val wide parts.first sc s t in
        let vq : Outcome = ker_val wide parts.seq sc s t in
        let f : Value → Value → Outcome = step_val b.arena.width parts.body xs sc s t in
        let lies = fold_lies wide s t xs parts.body parts.first parts.seq sc
        (subst (λ ks. within_at wide ker.FoldLeft xs (with_within wide ks) sc s t ≡ true) parts.args
        (within_by wide k ker.FoldLeft sc s t node.2 w)) in
        let show : PartsShow b.arena a sc s t (parts.first ∷ parts.seq ∷ []) (first ∷ seq ∷ []) =
        subst (λ ks. PartsShow b.arena a sc s t (drop 1 ks) (first ∷ seq ∷ [])) parts.args p in
        let v : ker_val wide k sc s t ≡ strict (vf ∷ vq ∷ []) (fold_over place f) =
        ap (λ j. ker_val wide j sc s t)
        (as_tree k ker.FoldLeft node.2
        ∙ ap₂ (λ (ks : List Ker) (ns : List ℕ). tree place (out-Ker k).ty ker.FoldLeft ks ns) parts.args parts.binds)
        ∙ val_fold wide s t place (out-Ker k).ty parts.body parts.first parts.seq parts.so_far parts.item sc
        ∙ ap (λ (ns : List ℕ). strict (vf ∷ vq ∷ []) (fold_over place (step_val b.arena.width parts.body ns sc s t))) (sym parts.binds) in
        let both : AllShow b.arena a (first ∷ seq ∷ []) (vf ∷ vq ∷ []) = (show.0 lies.0, (show.1.0 lies.1, tt)) in
        let is : Listed (decode b.arena a seq.cell) = sequence_listed b a (sort_of parts.kind) seq.cell seq_cells.sort in
        let body_here : fold_body k ≡ Some parts.body = ap (λ (y : List Ker). slice_get y 0) parts.args in
        subst (λ (y : Arena). Shows y a r (ker_val wide k sc s t)) (sym q)
        (subst (Shows b.arena a r) (sym v)
        (h.shows a m b.arena (vf ∷ vq ∷ []) (fold_over place f) both (λ free.
        let two = two_values vf vq free in
        let first_is : decode b.arena a first.cell ≡ two.0 = both.0.shown.value two.0 two.2 in
        let seq_is : decode b.arena a seq.cell ≡ two.1 = both.1.0.shown.value two.1 two.3 in
        subst (Shows b.arena a own)
        (ap (λ (o : Outcome). with_value o (folded f (items_in (decode b.arena a seq.cell)))) (two.2 ∙ ap Val (sym first_is))
        ∙ sym (fold_listed place f (decode b.arena a first.cell) (decode b.arena a seq.cell) is))
        (l parts.body body_here vf both.0 (λ y e.
        lies.2 y (decode b.arena a seq.cell) is.pairs (items_in (decode b.arena a seq.cell)) e (two.3 ∙ ap Val (sym seq_is)) is.out is.items)))));
  }

-- ---- from the trees

pub parts_later : (b d : Build) (ks : List Ker) (xs : List Cells) → Grows b d → AreParts b ks xs → AreParts d ks xs
parts_later b d [] [] g h = tt
parts_later b d [] (x ∷ xs) g h = absurd h
parts_later b d (k ∷ ks) [] g h = absurd h
parts_later b d (k ∷ ks) (x ∷ xs) g h = (sort_later b d k x g h.0, parts_later b d ks xs g h.1)

shows_before : (b d : Build) (a : List Bool) (x : Cells) (o : Outcome) → Grows b d → x.cell.index < length b.arena.kinds → Shows d.arena a x o →
    Shows b.arena a x o
shows_before b d a x o g lt h = record {
  shown = record {
    wrong = h.shown.wrong;
    big = h.shown.big;
    value = λ v e. sym (decode-before b d a x.cell g lt) ∙ h.shown.value v e;
  };
}

pub can_step : (b d : Build) (k : Ker) (env env' : CellEnv) (first seq : Cells) → CanRewrite b k env → setting_of (out-Ker k).op ≡ Fold → Grows b d →
    env' ≡ env → AreParts d (fold_parts k) (first ∷ seq ∷ []) → CanStep d env' k first seq
can_step b d k env env' first seq c e g r p = record {
  can = subst (CanRewrite d k) (sym r) (can-later b d k env g c);
  fold = e;
  parts = p;
}

pub can_fold_node : (b d f : Build) (k : Ker) (env env' : CellEnv) (first seq own : Cells) (items : List Bool → List Value) → CanRewrite b k env →
    setting_of (out-Ker k).op ≡ Fold → Grows d f → AreParts d (fold_parts k) (first ∷ seq ∷ []) → FoldsOver items d f env' k first own →
    CanFoldNode f k first seq own
can_fold_node b d f k env env' first seq own items c e g p o = record {
  names = c.names;
  context = c.context;
  sound = c.sound;
  fold = e;
  parts = parts_later d f (fold_parts k) (first ∷ seq ∷ []) g p;
  sort = o.sort;
}

-- b0 is the build in which the tree can be rewritten, b1 and b2 those of its parts, b3 that of its steps
module _ (b0 b1 b2 b3 : Build) (k : Ker) (env env1 env2 : CellEnv) (can : CanRewrite b0 k env) (e : setting_of (out-Ker k).op ≡ Fold) (ks : List Ker) (i j : Ker)
    (first seq own : Cells) (g1 : Grows b0 b1) (g2 : Grows b1 b2) (g3 : Grows b2 b3) (p : ks ≡ (out-Ker k).args) (qi : i ≡ get_or ks 1 i)
    (qj : j ≡ get_or ks 2 j) (r1 : env1 ≡ env) (r2 : env2 ≡ env) (t : IsTree b1 i env first) (u : IsTree b2 j env1 seq)
    (o : FoldsOver (items_of_cell b2.arena seq) b2 b3 env2 k first own) where
  abbrev tree_node : FoldAt can.names can.context k
  tree_node = fold_at can.names can.context k can.sound e

  abbrev tree_parts : FoldOf can.names can.context tree_node.0 (out-Ker k).binds (out-Ker k).args
  tree_parts = tree_node.3

  first_same : i ≡ tree_parts.first
  first_same = qi ∙ ap (λ (l : List Ker). get_or l 1 i) (p ∙ tree_parts.args)

  seq_same : j ≡ tree_parts.seq
  seq_same = qj ∙ ap (λ (l : List Ker). get_or l 2 j) (p ∙ tree_parts.args)

  first_tree : IsTree b3 tree_parts.first env first
  first_tree =
      subst (λ (y : Ker). IsTree b3 y env first) first_same
      (tree_later b0 b1 b3 i env first (first_can b0 k env can e ks i p qi) g1 (Grows-trans b1 b2 b3 g2 g3) t)

  seq_tree : IsTree b3 tree_parts.seq env seq
  seq_tree =
      subst (λ (y : Ker). IsTree b3 y env seq) seq_same
      (tree_later b1 b2 b3 j env seq (seq_can b0 k env can e b1 env ks j g1 refl p qj) g2 g3 (subst (λ (v : CellEnv). IsTree b2 j v seq) r1 u))

  grown : Grows b0 b2
  grown = Grows-trans b0 b1 b2 g1 g2

  first_there : first.cell.index < length b2.arena.kinds
  first_there =
      cells-there b2 (sort_of tree_node.0) first
      (AreCells-later b1 b2 (sort_of tree_node.0) first g2 (t.sort tree_node.0 (ap kind_at first_same ∙ tree_parts.first_is.0)))

  seq_there : seq.cell.index < length b2.arena.kinds
  seq_there = cells-there b2 (sequence_of (sort_of tree_parts.kind)) seq (u.sort (Seq tree_parts.kind) (ap kind_at seq_same ∙ tree_parts.seq_is.0))

  own_shows : (a : List Bool) (sc : Scope) (s t : State) → Satisfies a b3.formula → Fits b3.arena a env sc s t → (body : Ker) → fold_body k ≡ Some body →
      FoldShows b3.arena b3.arena a body (out-Ker k).binds sc s t first (items_of_cell b3.arena seq a) own
  own_shows a sc s t m fits body l out h lie =
      let wide : b3.arena.width ≡ b2.arena.width = width-later b2 b3 g3 in
      let items : items_of_cell b3.arena seq a ≡ items_of_cell b2.arena seq a = ap items_in (decode-before b2 b3 a seq.cell g3 seq_there) in
      let xs : List ℕ = (out-Ker k).binds in
      subst (λ (n : ℕ × List Value). Shows b3.arena a own (with_value out (folded (step_val n.0 body xs sc s t) n.1)))
      (ap₂ (λ (n : ℕ) (ys : List Value). (n, ys)) (sym wide) (sym items))
      (o.shows a m sc s t (subst (λ (v : CellEnv). Fits b3.arena a v sc s t) (sym r2) fits) body l out (shows_before b2 b3 a first out g3 first_there h) (λ v q.
      subst (λ (n : ℕ × List Value). each_step (step_val n.0 body xs sc s t) (step_lies n.0 body xs sc s t) n.1 v ≡ true)
      (ap₂ (λ (n : ℕ) (ys : List Value). (n, ys)) wide items) (lie v q)))

  pub fold_tree : (z : Build) (x : Cells) → Grows b3 z → HasTreeSort z k x → FoldsNode b3 z k first seq own x → IsTree z k env x
  fold_tree z x g h n = record {
    sort = h;
    rewrites = record {
      shows = λ a m sc s t' fits w.
          let wide : z.arena.width ≡ b3.arena.width = width-later b3 z g in
          let sat = Satisfies-before b3 z a g m in
          let old = Fits-before b3 z a env sc s t' g (env_there b0 b3 k env can (Grows-trans b0 b2 b3 grown g3)) fits in
          let show : PartsShow b3.arena a sc s t' (fold_parts k) (first ∷ seq ∷ []) =
          subst (λ l. PartsShow b3.arena a sc s t' (drop 1 l) (first ∷ seq ∷ [])) (sym tree_parts.args)
          (trees_show b3 a env sc s t' (tree_parts.first ∷ tree_parts.seq ∷ []) (first ∷ seq ∷ []) sat old (first_tree, (seq_tree, tt))) in
          subst (λ n. Shows z.arena a x (ker_val (Some n) k sc s t')) (sym wide)
          (n.shows a m sc s t' (subst (λ n. IsTrue (is_within (Some n) k sc s t')) wide w) show (own_shows a sc s t' sat old));
    };
  }
