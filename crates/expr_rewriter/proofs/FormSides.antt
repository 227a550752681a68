-- A value and a form: what is asked of them, and what a membership or an inclusion shows.
use Rattle.std.proofs.Common.{◌≡◌, ℕ, Bool, true, false, IsTrue, List, [], ◌∷◌, refl, sym, ◌∙◌, ap, subst, arith, Some}
use Rattle.sat_formula.specs.declared.cnf.Cnf.{Cnf}
use Rattle.sat_formula.specs.declared.lit.Lit.{Lit}
use Rattle.sat_formula.specs.Formula.{Grows as FormulaGrows}
use Rattle.sat_formula.proofs.Extension.{Satisfies-older}
use Rattle.sat_formula.specs.Lit.{lit_value}
use Rattle.tla_values.specs.declared.value.Value.{Value}
use Rattle.tla_values.specs.declared.value.Value.TheVariants as value
use Rattle.tla_meaning.specs.declared.forms.SetForm.{SetForm}
use Rattle.tla_meaning.specs.declared.job.State.{State}
use Rattle.tla_meaning.specs.declared.outcome.Outcome.{Outcome}
use Rattle.tla_meaning.specs.declared.outcome.Outcome.TheVariants.{Val, Wrong, Big}
use Rattle.tla_meaning.specs.Forms.{belongs, form_fault}
use Rattle.tla_meaning.specs.Meaning.{all_in, in_form}
use Rattle.tla_meaning.specs.Numbers.{Width}
use Rattle.tla_meaning.specs.Operators.{yes_no}
use Rattle.tla_meaning.specs.Outcomes.{fault_of, fault_or, join_faults}
use Rattle.tla_meaning.specs.Scopes.{Scope}
use Rattle.cell_arena.specs.declared.build.Build.{Build}
use Rattle.cell_arena.specs.declared.kinds.CellId.{CellId}
use Rattle.cell_arena.specs.Decode.{decode}
use Rattle.cell_arena.specs.Growth.{Decodes, Grows}
use Rattle.cell_arena.proofs.Growing.{Satisfies-before}
use Rattle.cell_merge.specs.Sorts.{truth}
use Rattle.kernel_trees.specs.declared.kernel.Ker.{Ker, out-Ker}
use Rattle.kernel_trees.specs.declared.kernel.KerOp.{KerOp}
use Rattle.kernel_trees.specs.declared.kernel.KerOp.TheVariants as ker
use Rattle.kernel_trees.specs.Sound.{Context, kind_at}
use Rattle.kernel_trees.specs.Trees.{ker_form, ker_val}
use Rattle.kernel_trees.specs.TypeKinds.{Kind, Set, Truth}
use Rattle.kernel_trees.proofs.Operators.{tree, val_included, val_member}
use Rattle.kernel_trees.proofs.SoundRows.{BinderRow, Row, row_const, row_included, row_ints, row_member, row_nats}
use Rattle.kernel_trees.proofs.SoundRows.{row_sequences, row_some, row_texts}
use Rattle.kernel_trees.proofs.SoundTrees.{Children, Node, node_name, node_bound, node_plain, node_bounded, node_binder}
use Rattle.kernel_trees.proofs.SoundTrees.{node_update, node_fold, sound_step}
use Rattle.outcome_cells.specs.declared.cells.Cells.{Cells}
use Rattle.outcome_cells.specs.declared.cells.Faults.{Faults}
use Rattle.outcome_cells.specs.Joins.{JoinsTwo, StandsBehind}
use Rattle.outcome_cells.specs.Rows.{ShowsAt}
use Rattle.outcome_cells.specs.Shown.{Shown, ShownFault}
use Rattle.outcome_cells.specs.Shows.{AreCells, FaultsBelow, Shows, faults_of}
use Rattle.outcome_cells.proofs.Later.{AreCells-below}
use Rattle.typed_cells.specs.KindSorts.{sort_of}
use Rattle.form_cells.specs.declared.form.Form.{Form}
use Rattle.form_cells.specs.declared.form.FormCells.{FormCells}
use Rattle.form_cells.specs.FormSorts.{AreForms}
use Rattle.form_cells.specs.FormValues.{ShowsForm, form_value}
use Rattle.form_cells.proofs.FormsLater.{set-value}
use Rattle.expr_rewriter.specs.declared.settings.Setting.TheVariants as setting
use Rattle.expr_rewriter.specs.Rewriting.{HasTreeSort}
use Rattle.expr_rewriter.specs.inner.Forming.{CanRelate, CanTest, Relates, ShowsTest, StandsBehindTwo, Tests}
use Rattle.expr_rewriter.specs.inner.Forming.{literals_of, related}
use Rattle.expr_rewriter.specs.inner.Settings.{setting_of}
use Rattle.expr_rewriter.proofs.FormMeanings.{all_in_set, both_meet}
use Rattle.expr_rewriter.proofs.FormShown.{part_of}
use Rattle.expr_rewriter.proofs.Levels.{as_tree, tree_sort}

-- ---- which nodes stand in this setting

-- a membership or an inclusion, and the kinds of its sides
pub data Sides : KerOp → Kind → Kind → Kind → Type 0 where
  member_sides : (a : Kind) → Sides ker.Member a a Truth
  included_sides : (a : Kind) → Sides ker.Included (Set a) a Truth

pub record Relation (names : List Kind) (c : Context) (o : KerOp) (d : Kind) (ks : List Ker) : Type 0 where
  pub left : Ker
  pub right : Ker
  pub whole : ks ≡ left ∷ right ∷ []
  pub value : Kind
  pub members : Kind
  pub row : Sides o value members d
  pub left_kind : kind_at left ≡ Some value
  pub right_kind : kind_at right ≡ Some (Set members)
  pub left_sound : IsTrue (Rattle.kernel_trees.specs.Sound.sound names left c false)
  pub right_sound : IsTrue (Rattle.kernel_trees.specs.Sound.sound names right c true)

member_relation : (names : List Kind) (c : Context) (a : Kind) (ks : List Ker) →
    Children names ker.Member 0 c false ks (a ∷ Set a ∷ []) →
    Relation names c ker.Member Truth ks
member_relation names c a [] h = absurd h
member_relation names c a (x ∷ []) h = absurd h.1
member_relation names c a (x ∷ y ∷ []) h = record {
  left = x;
  right = y;
  whole = refl;
  value = a;
  members = a;
  row = member_sides a;
  left_kind = h.0.0;
  right_kind = h.1.0.0;
  left_sound = h.0.1;
  right_sound = h.1.0.1;
}
member_relation names c a (x ∷ y ∷ z ∷ ks) h = absurd h.1.1

included_relation : (names : List Kind) (c : Context) (a : Kind) (ks : List Ker) →
    Children names ker.Included 0 c false ks (Set a ∷ Set a ∷ []) →
    Relation names c ker.Included Truth ks
included_relation names c a [] h = absurd h
included_relation names c a (x ∷ []) h = absurd h.1
included_relation names c a (x ∷ y ∷ []) h = record {
  left = x;
  right = y;
  whole = refl;
  value = Set a;
  members = a;
  row = included_sides a;
  left_kind = h.0.0;
  right_kind = h.1.0.0;
  left_sound = h.0.1;
  right_sound = h.1.0.1;
}
included_relation names c a (x ∷ y ∷ z ∷ ks) h = absurd h.1.1

never : false ≡ true → ⊥
never e = cc

row_relation : (names : List Kind) (c : Context) (o : KerOp) (d : Kind) (bs : List Kind) (ks : List Ker) →
    setting_of o ≡ setting.Form → Row o d bs →
    Children names o 0 c false ks bs → (Rattle.kernel_trees.specs.Sound.is_infinite o ≡ true → false ≡ true) →
    Relation names c o d ks
row_relation names c o d bs ks e (row_member a) h i = member_relation names c a ks h
row_relation names c o d bs ks e (row_included a) h i = included_relation names c a ks h
row_relation names c o d bs ks e row_ints h i = absurd (never (i refl))
row_relation names c o d bs ks e row_nats h i = absurd (never (i refl))
row_relation names c o d bs ks e row_texts h i = absurd (never (i refl))
row_relation names c o d bs ks e (row_sequences a) h i = absurd (never (i refl))
row_relation names c o d bs ks e (row_const v b q) h i = absurd (cc)
row_relation names c o d bs ks e r h i = absurd (cc)

binder_none : (o : KerOp) (a : Kind) (ms : List Kind) (d : Kind) → setting_of o ≡ setting.Form → BinderRow o a ms d → ⊥
binder_none o a ms d e (row_some ns) = cc
binder_none o a ms d e r = cc

pub relation_of : (names : List Kind) (c : Context) (o : KerOp) (d : Kind) (xs : List ℕ) (ks : List Ker) →
    setting_of o ≡ setting.Form →
    Node names c false o d xs ks → Relation names c o d ks
relation_of names c o a xs ks e (node_name i primed b ys q) = absurd (cc)
relation_of names c o a xs ks e (node_bound n b ys q) = absurd (cc)
relation_of names c o a xs ks e (node_plain p b ys ls bs r h i) = row_relation names c o a bs ks e r h i
relation_of names c o a xs ks e (node_bounded ys x y l u p q r s) = absurd (cc)
relation_of names c o a xs ks e (node_binder p b ys ls sets body ms d q n r t u) = absurd (binder_none o a ms d e r)
relation_of names c o a xs ks e (node_update b x f i d j m p q r t) = absurd (cc)
relation_of names c o a xs ks e (node_fold b x y d f q m p r t) = absurd (cc)

-- ---- the test

pub tested : (b c d : Build) (o : KerOp) (x : CellId) (y : Form) (l : Lit) (id : CellId) (r : Cells) → Grows c d →
    Tests b c.formula o x y l →
    Decodes d id (λ a. value.Bool (lit_value l a)) → AreCells d truth r →
    ShowsAt d r (λ a _. Val (decode d.arena a id)) → ShowsTest b d o x y r
tested b c d o x y l id r g h k s w = record {
  cells = s;
  shows = λ a m.
      subst (Shows d.arena a r)
      (ap Val (k.value a m ∙ ap value.Bool (h.value a (Satisfies-before c d a g m))))
      (w.shows a m (record { file = 0; line = 0; col = 0 }));
}

-- ---- the node

left_fault : (w b : Bool) (v : Value) (o : Outcome) → Shown w b v o → ShownFault w b (fault_of o)
left_fault w b v (Val u) h = record { wrong = h.wrong; big = h.big }
left_fault w b v (Wrong p) h = record { wrong = h.wrong; big = h.big }
left_fault w b v (Big p) h = record { wrong = h.wrong; big = h.big }

module _ (b : Build) (k : Ker) (x : Cells) (y : FormCells) (c : CanRelate b k x y) where
  relation : (d : Kind) × (kind_at k ≡ Some d) × Relation c.names c.context (out-Ker k).op d (out-Ker k).args
  relation =
      let z = sound_step c.names k c.context false c.sound in
      (z.0, z.1, relation_of c.names c.context (out-Ker k).op z.0 (out-Ker k).binds (out-Ker k).args c.relation z.2)

  heads : (u v : Ker) (us vs : List Ker) → u ∷ us ≡ v ∷ vs → u ≡ v
  heads u v us vs e = cc

  seconds : (u v w z : Ker) (us vs : List Ker) → u ∷ w ∷ us ≡ v ∷ z ∷ vs → w ≡ z
  seconds u v w z us vs e = cc

  -- the cells of the left side, and the members of the form
  pub record AreSides : Type 0 where
    pub value : Kind
    pub members : Kind
    pub kind : Kind
    pub is : kind_at k ≡ Some kind
    pub row : Sides (out-Ker k).op value members kind
    pub left : AreCells b (sort_of value) x
    pub right : AreForms b (sort_of members) y

  pub sides_are : AreSides
  sides_are =
      let z = relation in
      let q = z.2 in
      let e = sym c.sides ∙ q.whole in
      record {
        value = q.value;
        members = q.members;
        kind = z.0;
        is = z.1;
        row = q.row;
        left = c.left_is q.value (ap kind_at (heads c.left q.left (c.right ∷ []) (q.right ∷ []) e) ∙ q.left_kind);
        right = c.right_is q.members (ap kind_at (seconds c.left q.left c.right q.right [] [] e) ∙ q.right_kind);
      }

  test_of : (o : KerOp) (value members d : Kind) → Sides o value members d → AreCells b (sort_of value) x →
      AreForms b (sort_of members) y →
      CanTest b.arena.kinds o x.cell y.form
  test_of o value members d (member_sides a) l r = record { sort = sort_of a; cell = l.sort; form = r.form }
  test_of o value members d (included_sides a) l r = record { sort = sort_of a; cell = l.sort; form = r.form }

  pub can_test : CanTest b.arena.kinds (out-Ker k).op x.cell y.form
  can_test = let s = sides_are in test_of (out-Ker k).op s.value s.members s.kind s.row s.left s.right

  pub left_below : FaultsBelow b.formula.vars (faults_of x)
  left_below = let s = sides_are in AreCells-below b (sort_of s.value) x s.left

  pub right_below : FaultsBelow b.formula.vars (literals_of y)
  right_below = let s = sides_are in record { wrong = s.right.wrong; big = s.right.big }

  side_truth : (o : KerOp) (value members d : Kind) → Sides o value members d → d ≡ Truth
  side_truth o value members d (member_sides a) = refl
  side_truth o value members d (included_sides a) = refl

  pub relate_sort : (d : Build) (r : Cells) → AreCells d truth r → HasTreeSort d k r
  relate_sort d r h =
      let s = sides_are in
      tree_sort d k Truth truth r (s.is ∙ ap Some (side_truth (out-Ker k).op s.value s.members s.kind s.row)) refl h

  -- what the node gives, by both sides
  module _ (a : List Bool) (sc : Scope) (s t : State) (left right : Ker) (e : (out-Ker k).args ≡ left ∷ right ∷ [])
      (l : Shows b.arena a x (ker_val (Some b.arena.width) left sc s t))
      (r : ShowsForm b.arena a y (ker_form (Some b.arena.width) right sc s t)) where
    abbrev wide : Width
    wide = Some b.arena.width

    abbrev outcome : Outcome
    outcome =
        fault_or (join_faults (fault_of (ker_val wide left sc s t)) (form_fault (ker_form wide right sc s t)))
        (yes_no (related (out-Ker k).op (form_value b.arena a y.form) (decode b.arena a x.cell)))

    abbrev node : KerOp → Ker
    node o = tree (out-Ker k).place (out-Ker k).ty o (left ∷ right ∷ []) (out-Ker k).binds

    -- the right side's own outcome is not evaluated
    gives : (test : Value → SetForm → Outcome) (m : Kind) → AreForms b (sort_of m) y →
        in_form (out-Ker k).place test (ker_val wide left sc s t ∷ ker_val wide right sc s t ∷ [])
        (ker_form wide left sc s t ∷ ker_form wide right sc s t ∷ [])
        ≡ fault_or (join_faults (fault_of (ker_val wide left sc s t)) (form_fault (ker_form wide right sc s t)))
        (test (decode b.arena a x.cell) (form_value b.arena a y.form))
    gives test m h =
        both_meet (out-Ker k).place test (decode b.arena a x.cell) (form_value b.arena a y.form)
        (ker_val wide left sc s t) (ker_val wide right sc s t ∷ [])
        (ker_form wide left sc s t) (ker_form wide right sc s t) (part_of b a s t sc (sort_of m) y right h r)
        (λ u q. l.shown.value u q)

    by_sides : (o : KerOp) (value members d : Kind) → Sides o value members d → AreCells b (sort_of value) x →
        AreForms b (sort_of members) y →
        ker_val wide (node o) sc s t
        ≡ fault_or (join_faults (fault_of (ker_val wide left sc s t)) (form_fault (ker_form wide right sc s t)))
        (yes_no (related o (form_value b.arena a y.form) (decode b.arena a x.cell)))
    by_sides o value members d (member_sides m) u v =
        val_member wide s t (out-Ker k).place (out-Ker k).ty (left ∷ right ∷ []) (out-Ker k).binds sc
        ∙ gives (λ v f. yes_no (belongs f v)) m v
    by_sides o value members d (included_sides m) u v =
        let z = set-value b.arena a b.built (sort_of m) x.cell u.sort in
        val_included wide s t (out-Ker k).place (out-Ker k).ty (left ∷ right ∷ []) (out-Ker k).binds sc
        ∙ gives (all_in (out-Ker k).place) m v
        ∙ ap (fault_or (join_faults (fault_of (ker_val wide left sc s t)) (form_fault (ker_form wide right sc s t))))
        (all_in_set (out-Ker k).place (decode b.arena a x.cell) (form_value b.arena a y.form) z.items z.is)

    pub relate_gives : ker_val wide k sc s t ≡ outcome
    relate_gives =
        let q = sides_are in
        ap (λ j. ker_val wide j sc s t)
        (as_tree k (out-Ker k).op refl ∙ ap (λ ks. tree (out-Ker k).place (out-Ker k).ty (out-Ker k).op ks
        (out-Ker k).binds) e)
        ∙ by_sides (out-Ker k).op q.value q.members q.kind q.row q.left q.right

  -- behind the faults of both sides
  pub relate_shows : (c1 d : Build) (own r : Cells) → Grows c1 d → d.arena ≡ c1.arena →
      ShowsTest b c1 (out-Ker k).op x.cell y.form own →
      StandsBehindTwo d.formula (faults_of x) (literals_of y) own r → Relates b d k x y r
  relate_shows c1 d own r g same w h = record {
    shows = λ a m sc s t left right e l n.
        let o = yes_no (related (out-Ker k).op (form_value b.arena a y.form) (decode b.arena a x.cell)) in
        subst (Shows d.arena a r) (sym (relate_gives a sc s t left right e l n))
        (h.shows a m d.arena (fault_of (ker_val (Some b.arena.width) left sc s t))
        (form_fault (ker_form (Some b.arena.width) right sc s t)) o
        (record {
          shown = left_fault (lit_value x.wrong a) (lit_value x.big a) (decode b.arena a x.cell)
              (ker_val (Some b.arena.width) left sc s t) l.shown;
        })
        (record { shown = record { wrong = n.shown.wrong; big = n.shown.big } })
        (subst (λ z. Shows z a own o) (sym same) (w.shows a (Satisfies-before c1 d a g m))));
  }

  -- what is asked before that, once more is built
  pub left_later : (d : Build) → Grows b d → FaultsBelow d.formula.vars (faults_of x)
  left_later d g = below_later d (faults_of x) g left_below
    where
      below_later : (d : Build) (z : Faults) → Grows b d → FaultsBelow b.formula.vars z → FaultsBelow d.formula.vars z
      below_later d z g h = let n = g.formula.vars in let p = h.wrong in let q = h.big in
          record { wrong = omega arith; big = omega arith }

  pub right_later : (d : Build) → Grows b d → FaultsBelow d.formula.vars (literals_of y)
  right_later d g = let n = g.formula.vars in let h = right_below in let p = h.wrong in let q = h.big in
      record { wrong = omega arith; big = omega arith }

pub two_behind : (f g : Cnf) (x y first : Faults) (own r : Cells) → FormulaGrows f g → JoinsTwo f x y first →
    StandsBehind g first own r →
    StandsBehindTwo g x y own r
two_behind f g x y first own r grown j h = record {
  cell = h.cell;
  below = h.below;
  shows = λ a m c u v o p q w. h.shows a m c (join_faults u v) o (j.shows a (Satisfies-older f g a grown m) u v p q)
      (λ e. w);
}
