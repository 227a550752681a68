-- An update from its parts and its right side.
use Rattle.std.proofs.Common.{◌≡◌, ℕ, ◌<◌, true, false, IsTrue, List, [], ◌∷◌, ◌++◌, take, length, get_or, All, refl, sym, ◌∙◌, ap, ap₂, subst, arith, Option, Some, None}
use Rattle.std.specs.Prelude.{IfSome, slice_get}
use Rattle.std.proofs.lemmas.List.Elements.{All-cons, All-nil}
use Rattle.sat_formula.specs.declared.lit.Lit.{Lit}
use Rattle.sat_formula.specs.Formula.{Grows as FormulaGrows}
use Rattle.tla_values.specs.declared.value.Value.{Value, out-Value}
use Rattle.tla_meaning.specs.declared.outcome.Outcome.{Outcome}
use Rattle.tla_meaning.specs.declared.outcome.Outcome.TheVariants.{Val}
use Rattle.tla_meaning.specs.declared.place.Place.{Place}
use Rattle.tla_meaning.specs.Meaning.{At, step_into, updated}
use Rattle.tla_meaning.specs.Numbers.{Width}
use Rattle.tla_meaning.specs.Outcomes.{strict}
use Rattle.tla_meaning.specs.Scopes.{bind}
use Rattle.cell_arena.specs.declared.build.Build.{Build}
use Rattle.cell_arena.specs.declared.kinds.CellId.{CellId}
use Rattle.cell_arena.specs.Cells.{Cells as Arena}
use Rattle.cell_arena.specs.Decode.{decode}
use Rattle.cell_arena.specs.Growth.{Grows}
use Rattle.cell_arena.proofs.Growing.{Grows-formula, Satisfies-before}
use Rattle.cell_merge.specs.Sorts.{Sort, OfSort}
use Rattle.kernel_trees.specs.declared.kernel.Ker.{Ker, out-Ker}
use Rattle.kernel_trees.specs.declared.kernel.KerOp.{KerOp}
use Rattle.kernel_trees.specs.declared.kernel.KerOp.TheVariants as ker
use Rattle.kernel_trees.specs.Sound.{Context, kind_at, literal_of, sound, updated_kind}
use Rattle.kernel_trees.specs.Trees.{ker_val, names_of}
use Rattle.kernel_trees.specs.TypeKinds.{Kind}
use Rattle.kernel_trees.proofs.Binders.{one_update, updated_by, val_update}
use Rattle.kernel_trees.proofs.Operators.{tree}
use Rattle.kernel_trees.proofs.SoundRows.{BinderRow, Row, row_const, row_some}
use Rattle.kernel_trees.proofs.SoundTrees.{Child, Node, node_name, node_bound, node_plain, node_bounded, node_binder, node_update, node_fold, sound_step}
use Rattle.kernel_ranges.specs.Ranges.{is_within, within_at}
use Rattle.kernel_ranges.proofs.Opened.{update_lies, with_within}
use Rattle.outcome_cells.specs.declared.cells.Cells.{Cells}
use Rattle.outcome_cells.specs.Joins.{IsStrict}
use Rattle.outcome_cells.specs.Shows.{AllShow, AreCells, FaultsBelow, Shows, faults_of}
use Rattle.outcome_cells.proofs.Later.{AllShow-later, AreCells-behind, AreCells-below, AreCells-later}
use Rattle.outcome_cells.proofs.Operands.{values_shown}
use Rattle.typed_cells.specs.KindSorts.{sort_of}
use Rattle.function_operators.specs.declared.index.Index.{Index}
use Rattle.function_operators.specs.Parts.{HasPart, Indexed, index_value}
use Rattle.function_operators.specs.Updates.{IsOld, IsUpdate, TakesChange, is_outside, reach}
use Rattle.expr_rewriter.specs.declared.settings.Setting.TheVariants.{Update}
use Rattle.expr_rewriter.specs.Operating.{AreParts}
use Rattle.expr_rewriter.specs.Rewriting.{HasTreeSort}
use Rattle.expr_rewriter.specs.inner.Parts.{PartsShow}
use Rattle.expr_rewriter.specs.inner.Settings.{setting_of}
use Rattle.expr_rewriter.specs.inner.Updating.{CanUpdate, GivesIndex, HasIndex, IsIndex, IsOldOf, ShowsRight, Updates, update_body}
use Rattle.expr_rewriter.proofs.FoldNodes.{Two, two_values}
use Rattle.expr_rewriter.proofs.Levels.{as_tree, some_kind, within_by}

some_map : {X : Type 0} (P Q : X → Type 0) (o : Option X) → ((x : X) → P x → Q x) → IfSome o P → IfSome o Q
some_map P Q None f h = h
some_map P Q (Some x) f h = f x h

-- ---- the old value

pub index_indexed : (b : Build) (f x : CellId) (k : Ker) (i : Index) → HasIndex b.arena.kinds f x k → IsIndex b.arena f x k i → Indexed b.arena.kinds f i
index_indexed b f x k i h is = record {
  whole = sort_of h.whole;
  part = sort_of h.part;
  is = h.whole_is;
  at = is.at h.whole h.place h.part h.whole_is h.place_is h.found;
}

pub is_old : (old new : Build) (f x : CellId) (k : Ker) (i : Index) (r : Option (CellId × Lit)) → IsIndex old.arena f x k i → IsOld old new f i r →
    IsOldOf old new f x k r
is_old old new f x k i r is o = record {
  below = o.below;
  sort = λ a j d h g q.
      some_map (λ (z : CellId × Lit). (w p : Sort) → OfSort old.arena.kinds w f → HasPart old.arena.kinds i w p → OfSort new.arena.kinds p z.0)
      (λ (z : CellId × Lit). OfSort new.arena.kinds (sort_of d) z.0) r (λ z m. m (sort_of a) (sort_of d) h (is.at a j d h g q)) o.sort;
  reaches = λ a m v g. ap (step_into (out-Value (decode old.arena a f))) (sym (is.value a v g)) ∙ o.reaches a m;
}

-- ---- the parts of an update

pub record UpdateOf (names : List Kind) (c : Context) (a : Kind) (xs : List ℕ) (ks : List Ker) : Type 0 where
  pub number : ℕ
  pub binds : xs ≡ number ∷ []
  pub whole : Ker
  pub index : Ker
  pub body : Ker
  pub args : ks ≡ whole ∷ index ∷ body ∷ []
  pub place : Kind
  pub part : Kind
  pub whole_is : Child names c false a whole
  pub index_is : Child names c false place index
  pub found : updated_kind a place (literal_of (out-Ker index).op) ≡ Some part
  pub body_is : Child names (c ++ (number, part) ∷ []) false part body

update_row : (o : KerOp) (a : Kind) (as' : List Kind) → Row o a as' → setting_of o ≡ Update → ⊥
update_row o a as' (row_const v b h) e = absurd (cc)
update_row o a as' r e = absurd (cc)

update_binder : (o : KerOp) (a : Kind) (ms : List Kind) (d : Kind) → setting_of o ≡ Update → BinderRow o a ms d → ⊥
update_binder o a ms d e (row_some ns) = cc
update_binder o a ms d e r = cc

update_of : (names : List Kind) (c : Context) (o : KerOp) (a : Kind) (xs : List ℕ) (ks : List Ker) → setting_of o ≡ Update →
    Node names c false o a xs ks → (o ≡ ker.Update) × UpdateOf names c a xs ks
update_of names c o a xs ks e (node_name i primed b ys q) = absurd (cc)
update_of names c o a xs ks e (node_bound n b ys q) = absurd (cc)
update_of names c o a xs ks e (node_plain p b ys ls bs r h i) = absurd (update_row o a bs r e)
update_of names c o a xs ks e (node_bounded ys x y l u p q r s) = absurd (cc)
update_of names c o a xs ks e (node_binder p b ys ls sets body ms d q n r t u) = absurd (update_binder o a ms d e r)
update_of names c o a xs ks e (node_update b x f i d j m p q r t) = (
  refl,
  record {
    number = x;
    binds = refl;
    whole = f;
    index = i;
    body = d;
    args = refl;
    place = j;
    part = m;
    whole_is = p;
    index_is = q;
    found = r;
    body_is = t;
  },
)
update_of names c o a xs ks e (node_fold b x y d f q m p r t) = absurd (cc)

abbrev pub UpdateAt : List Kind → Context → Ker → Type 0
UpdateAt names c k = (a : Kind) × (kind_at k ≡ Some a) × ((out-Ker k).op ≡ ker.Update) × UpdateOf names c a (out-Ker k).binds (out-Ker k).args

pub update_at : (names : List Kind) (c : Context) (k : Ker) → IsTrue (sound names k c false) → setting_of (out-Ker k).op ≡ Update → UpdateAt names c k
update_at names c k h e =
    let z = sound_step names k c false h in
    let u = update_of names c (out-Ker k).op z.0 (out-Ker k).binds (out-Ker k).args e z.2 in
    (z.0, z.1, u.0, u.1)

-- ---- the node

module _ (b : Build) (k : Ker) (whole place : Cells) (change : Option (Lit × Cells)) (c : CanUpdate b k whole place change) where
  abbrev node : UpdateAt c.names c.context k
  node = update_at c.names c.context k c.sound c.update

  abbrev parts : UpdateOf c.names c.context node.0 (out-Ker k).binds (out-Ker k).args
  parts = node.3

  cells_are : AreParts b (parts.whole ∷ parts.index ∷ []) (whole ∷ place ∷ [])
  cells_are = subst (λ l. AreParts b (take 2 l) (whole ∷ place ∷ [])) parts.args c.parts

  whole_cells : AreCells b (sort_of node.0) whole
  whole_cells = cells_are.0 node.0 parts.whole_is.0

  place_cells : AreCells b (sort_of parts.place) place
  place_cells = cells_are.1.0 parts.place parts.index_is.0

  pub index_there : (ks : List Ker) → ks ≡ (out-Ker k).args → 1 < length ks
  index_there ks p = let n : length ks ≡ 3 = ap length (p ∙ parts.args) in omega arith

  index_same : (ks : List Ker) (j : Ker) → ks ≡ (out-Ker k).args → j ≡ get_or ks 1 j → j ≡ parts.index
  index_same ks j p q = q ∙ ap (λ (l : List Ker). get_or l 1 j) (p ∙ parts.args)

  pub has_index : (ks : List Ker) (j : Ker) → ks ≡ (out-Ker k).args → j ≡ get_or ks 1 j → HasIndex b.arena.kinds whole.cell place.cell j
  has_index ks j p q = record {
    whole = node.0;
    place = parts.place;
    part = parts.part;
    whole_is = whole_cells.sort;
    place_is = place_cells.sort;
    found = ap (λ (y : Ker). updated_kind node.0 parts.place (literal_of (out-Ker y).op)) (index_same ks j p q) ∙ parts.found;
  }

  module _ (ks : List Ker) (j : Ker) (i : Index) (p : ks ≡ (out-Ker k).args) (q : j ≡ get_or ks 1 j) (is : IsIndex b.arena whole.cell place.cell j i) where
    at : HasPart b.arena.kinds i (sort_of node.0) (sort_of parts.part)
    at =
        is.at node.0 parts.place parts.part whole_cells.sort place_cells.sort
        (ap (λ (y : Ker). updated_kind node.0 parts.place (literal_of (out-Ker y).op)) (index_same ks j p q) ∙ parts.found)

    body_here : update_body k ≡ Some parts.body
    body_here = ap (λ (l : List Ker). slice_get l 2) parts.args

    right_cells : IfSome change (λ x. AreCells b (sort_of parts.part) x.1)
    right_cells =
        some_map (λ (x : Lit × Cells). HasTreeSort b parts.body x.1) (λ (x : Lit × Cells). AreCells b (sort_of parts.part) x.1) change
        (λ x h. h parts.part parts.body_is.0) (c.sort parts.body body_here)

    pub takes_change : TakesChange b whole.cell i change
    takes_change = record {
      whole = sort_of node.0;
      part = sort_of parts.part;
      is = whole_cells.sort;
      at = at;
      below = c.below;
      cells = right_cells;
    }

    module _ (d : Build) (own : Cells) (g : Grows b d) (u : IsUpdate b d whole.cell i change own) where
      pub both_below : All (λ x. FaultsBelow d.formula.vars (faults_of x)) (whole ∷ place ∷ [])
      both_below =
          All-cons (λ x. FaultsBelow d.formula.vars (faults_of x)) whole (place ∷ [])
          (AreCells-below d (sort_of node.0) whole (AreCells-later b d (sort_of node.0) whole g whole_cells))
          (All-cons (λ x. FaultsBelow d.formula.vars (faults_of x)) place []
          (AreCells-below d (sort_of parts.place) place (AreCells-later b d (sort_of parts.place) place g place_cells))
          (All-nil (λ x. FaultsBelow d.formula.vars (faults_of x))))

      own_cells : AreCells d (sort_of node.0) own
      own_cells =
          u.cells (sort_of node.0) (sort_of parts.part) whole_cells.sort at
          (some_map (λ (x : Lit × Cells). AreCells b (sort_of parts.part) x.1) (λ (x : Lit × Cells). OfSort b.arena.kinds (sort_of parts.part) x.1.cell) change
          (λ x h. h.sort) right_cells)

      pub own_below : FaultsBelow d.formula.vars (faults_of own)
      own_below = AreCells-below d (sort_of node.0) own own_cells

      pub update_sort : (e : Build) (r : Cells) → Grows d e → IsStrict e.formula (whole ∷ place ∷ []) own r → HasTreeSort e k r
      update_sort e r l h = λ a z.
          subst (λ y. AreCells e (sort_of y) r) (some_kind node.0 a (sym node.1 ∙ z)) (AreCells-behind d e (sort_of node.0) own r l own_cells h.cell h.below)

      pub updates_node : (e : Build) (r : Cells) → e.arena ≡ d.arena → FormulaGrows d.formula e.formula → IsStrict e.formula (whole ∷ place ∷ []) own r →
          Updates b e k whole place change r
      updates_node e r same_arena fg h = record {
        shows = λ a m sc s t w show l.
            let wide : Width = Some b.arena.width in
            let xs : List ℕ = (out-Ker k).binds in
            let at_place : Place = (out-Ker k).place in
            let vf : Outcome = ker_val wide parts.whole sc s t in
            let vi : Outcome = ker_val wide parts.index sc s t in
            let right : Value → Outcome = λ old. ker_val wide parts.body (bind (names_of xs) (old ∷ []) sc) s t in
            let grown = Grows-formula d e fg same_arena in
            let sat = Satisfies-before d e a grown m in
            let lies = update_lies wide s t xs parts.whole parts.index parts.body sc
            (subst (λ ks. within_at wide ker.Update xs (with_within wide ks) sc s t ≡ true) parts.args (within_by wide k ker.Update sc s t node.2 w)) in
            let shown : PartsShow b.arena a sc s t (parts.whole ∷ parts.index ∷ []) (whole ∷ place ∷ []) =
            subst (λ ks. PartsShow b.arena a sc s t (take 2 ks) (whole ∷ place ∷ [])) parts.args show in
            let v : ker_val wide k sc s t ≡ strict (vf ∷ vi ∷ []) (updated_by wide s t at_place right) =
            ap (λ j. ker_val wide j sc s t)
            (as_tree k ker.Update node.2
            ∙ ap₂ (λ (ks : List Ker) (ns : List ℕ). tree at_place (out-Ker k).ty ker.Update ks ns) parts.args parts.binds)
            ∙ val_update wide s t at_place (out-Ker k).ty parts.whole parts.index parts.body parts.number sc
            ∙ ap (λ (ns : List ℕ). strict (vf ∷ vi ∷ []) (updated_by wide s t at_place (λ old. ker_val wide parts.body (bind (names_of ns) (old ∷ []) sc) s t)))
            (sym parts.binds) in
            let both : AllShow b.arena a (whole ∷ place ∷ []) (vf ∷ vi ∷ []) = (shown.0 lies.0, (shown.1.0 lies.1, tt)) in
            let later : AllShow d.arena a (whole ∷ place ∷ []) (vf ∷ vi ∷ []) =
            AllShow-later b d a (sort_of node.0 ∷ sort_of parts.place ∷ []) (whole ∷ place ∷ []) (vf ∷ vi ∷ []) g (whole_cells, (place_cells, tt)) both in
            let f : Value = decode b.arena a whole.cell in
            let x : Value = decode b.arena a place.cell in
            subst (λ (y : Arena). Shows y a r (ker_val wide k sc s t)) (sym same_arena)
            (subst (Shows d.arena a r) (sym v)
            (h.shows a m d.arena (vf ∷ vi ∷ []) (updated_by wide s t at_place right) later (λ free.
            let two : Two vf vi = two_values vf vi free in
            let f_is : f ≡ two.0 = both.0.shown.value two.0 two.2 in
            let x_is : x ≡ two.1 = both.1.0.shown.value two.1 two.3 in
            let gives : GivesIndex b.arena a place.cell parts.index x =
            record { cell = refl; width = wide; scope = sc; now = s; next = t; gives = two.3 ∙ ap Val (sym x_is) } in
            let value : index_value b.arena a i ≡ x = is.value a x (subst (λ y. GivesIndex b.arena a place.cell y x) (sym (index_same ks j p q)) gives) in
            let told : ShowsRight b.arena a k sc s t whole change x = l parts.index (ap (λ (y : List Ker). slice_get y 1) parts.args) x gives in
            let reaches : reach b.arena a whole.cell i ≡ step_into (out-Value f) x = ap (step_into (out-Value f)) value in
            subst (Shows d.arena a own)
            (ap (λ y. updated at_place ((y ∷ [], right) ∷ []) f) value
            ∙ one_update wide s t at_place right x f (out-Value f)
            ∙ ap (updated_by wide s t at_place right)
            (sym (values_shown b.arena a (whole ∷ place ∷ []) (vf ∷ vi ∷ []) both free) ∙ values_shown d.arena a (whole ∷ place ∷ []) (vf ∷ vi ∷ []) later free))
            (u.shows a sat at_place right
            (record {
              outside = told.outside ∙ ap is_outside (sym reaches);
              shows = some_map
                  (λ (y : Lit × Cells). (z : Value) → step_into (out-Value f) x ≡ At z →
                  IsTrue (is_within wide parts.body (bind (names_of xs) (z ∷ []) sc) s t) → Shows b.arena a y.1 (right z))
                  (λ (y : Lit × Cells). (z : Value) → reach b.arena a whole.cell i ≡ At z → Shows b.arena a y.1 (right z)) change
                  (λ y n z o. n z (sym reaches ∙ o)
                  (lies.2 f x z (two.2 ∙ ap Val (sym f_is)) (two.3 ∙ ap Val (sym x_is)) (sym reaches ∙ o))) (told.shows parts.body body_here);
            })))));
      }
