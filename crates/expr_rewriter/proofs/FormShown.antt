-- What a form over cells shows of a tree, where its sets and parts are shown.
use Rattle.std.proofs.Common.{◌≡◌, ℕ, zero, suc, Bool, true, List, [], ◌∷◌, map, take, drop, All, refl, sym, ◌∙◌, ap}
use Rattle.std.proofs.Common.{subst, Some}
use Rattle.std.proofs.lemmas.List.Elements.{All-cons, All-nil}
use Rattle.sat_formula.specs.declared.cnf.Cnf.{Cnf}
use Rattle.tla_meaning.specs.declared.forms.SetForm.TheVariants as set
use Rattle.tla_meaning.specs.declared.job.State.{State}
use Rattle.tla_meaning.specs.declared.outcome.Fault.TheVariants.{NoFault}
use Rattle.tla_meaning.specs.declared.outcome.Outcome.{Outcome}
use Rattle.tla_meaning.specs.declared.place.Place.{Place}
use Rattle.tla_meaning.specs.Forms.{Made, form_faults}
use Rattle.tla_meaning.specs.Numbers.{Width}
use Rattle.tla_meaning.specs.Outcomes.{join_faults, joined}
use Rattle.tla_meaning.specs.Scopes.{Scope}
use Rattle.cell_arena.specs.declared.build.Build.{Build}
use Rattle.cell_arena.specs.declared.kinds.CellId.{CellId}
use Rattle.cell_arena.specs.Cells.{Cells as Arena}
use Rattle.cell_arena.specs.Decode.{decode}
use Rattle.cell_arena.specs.Growth.{Grows}
use Rattle.cell_merge.specs.Sorts.{Sort, set_of}
use Rattle.snowcat_rows.specs.declared.types.Ty.{Ty}
use Rattle.kernel_trees.specs.declared.kernel.Ker.{Ker, out-Ker}
use Rattle.kernel_trees.specs.declared.kernel.KerOp.{KerOp}
use Rattle.kernel_trees.specs.declared.kernel.KerOp.TheVariants as ker
use Rattle.kernel_trees.specs.Sound.{Context, kind_at}
use Rattle.kernel_trees.specs.Trees.{ker_form, ker_val}
use Rattle.kernel_trees.specs.TypeKinds.{Kind, Set}
use Rattle.kernel_trees.proofs.Operators.{form_functions, form_ints, form_nats, form_records, form_sequences}
use Rattle.kernel_trees.proofs.Operators.{form_subsets, form_texts, form_tuples, set_forms, tree, vals}
use Rattle.kernel_trees.proofs.SoundRows.{Row, row_functions, row_ints, row_nats, row_records, row_sequences}
use Rattle.kernel_trees.proofs.SoundRows.{row_subsets, row_texts, row_tuples}
use Rattle.kernel_trees.proofs.SoundTrees.{Children, sound_step}
use Rattle.kernel_ranges.proofs.Opened.{AllLie, plain_lies}
use Rattle.outcome_cells.specs.declared.cells.Cells.{Cells}
use Rattle.outcome_cells.specs.declared.cells.Faults.{Faults}
use Rattle.outcome_cells.specs.Shown.{big_fault, wrong_fault}
use Rattle.outcome_cells.specs.Shows.{AllShow, AreCells, FaultsBelow, Shows, faults_of}
use Rattle.outcome_cells.proofs.Later.{AreCells-below}
use Rattle.typed_cells.specs.KindSorts.{sort_of}
use Rattle.form_cells.specs.declared.form.Form.{Form, out-Form}
use Rattle.form_cells.specs.declared.form.Form.TheOpen as form
use Rattle.form_cells.specs.declared.form.FormCells.{FormCells}
use Rattle.form_cells.specs.FormSorts.{AreForms, IsFormOf, is}
use Rattle.form_cells.specs.FormValues.{AllFormsShow, ShowsForm, form_value}
use Rattle.form_cells.proofs.FormsLater.{IsFormOf-later, ShowsForm-later, is-set-form, set-value}
use Rattle.form_cells.proofs.Opened.{opened_value, value-out}
use Rattle.expr_rewriter.specs.Forming.{HasFormSort}
use Rattle.expr_rewriter.specs.Operating.{AreParts}
use Rattle.expr_rewriter.specs.inner.Forming.{AreFormParts, CanForm, OfSets, FormsShow, JoinsForms, MakesForm}
use Rattle.expr_rewriter.specs.inner.Forming.{form_over, form_parts, form_sets, literals_of, makes_form, set_count}
use Rattle.expr_rewriter.proofs.FormMeanings.{Meets, Part, Parts, SetPart, all_meets, form-honest, function_meets}
use Rattle.expr_rewriter.proofs.FormMeanings.{made_meets, one_meets}
use Rattle.expr_rewriter.proofs.FormNodes.{FormRow, form_row, forms_of, made_sort, makes_plain}
use Rattle.expr_rewriter.proofs.Opening.{each_take}
use Rattle.kernel_trees.proofs.Trees.{Each}
use Rattle.expr_rewriter.proofs.Levels.{all_shown, as_tree, within_by}

some_same : {X : Type 0} {x y : X} → Some x ≡ Some y → x ≡ y
some_same e = cc

abbrev pub cells_of : List Cells → List CellId
cells_of xs = map (λ (x : Cells). x.cell) xs

module _ (b : Build) (a : List Bool) (s t : State) (sc : Scope) where
  abbrev wide : Width
  wide = Some b.arena.width

  pub part_of : (r : Sort) (y : FormCells) (k : Ker) → AreForms b r y → ShowsForm b.arena a y (ker_form wide k sc s t) →
      Part (form_value b.arena a y.form) (ker_form wide k sc s t)
  part_of r y k h m = record {
    set = is-set-form b.arena a b.built r y.form h.form;
    honest = form-honest wide s t k sc;
    form = m.shown.form;
  }

  set_part : (r : Sort) (x : Cells) (o : Outcome) → AreCells b (set_of r) x → Shows b.arena a x o →
      SetPart (decode b.arena a x.cell) o
  set_part r x o h m =
      let v = set-value b.arena a b.built r x.cell h.sort in
      record { items = v.items; set = v.is; value = m.shown.value }

  parts_of : (names : List Kind) (c : Context) (o : KerOp) (n : ℕ) (ms : List Kind) (ks : List Ker)
      (ys : List FormCells) →
      Children names o n c true ks (map Set ms) → AreFormParts b ks ys →
      AllFormsShow b.arena a ys (set_forms wide s t ks sc) →
      Parts (map (form_value b.arena a) (forms_of ys)) (set_forms wide s t ks sc)
  parts_of names c o n [] [] [] h p m = tt
  parts_of names c o n [] [] (y ∷ ys) h p m = absurd p
  parts_of names c o n [] (k ∷ ks) ys h p m = absurd h
  parts_of names c o n (d ∷ ms) [] ys h p m = absurd h
  parts_of names c o n (d ∷ ms) (k ∷ ks) [] h p m = absurd p
  parts_of names c o n (d ∷ ms) (k ∷ ks) (y ∷ ys) h p m =
      (part_of (sort_of d) y k (p.0 d h.0.0) m.0, parts_of names c o (suc n) ms ks ys h.1 p.1 m.1)

  module _ (p : Place) (ty : Ty) (xs : List ℕ) (names : List Kind) (c : Context) where
    -- the faults of the sets and parts, the form of this layer, and what the tree gives
    abbrev At : KerOp → List Ker → form.Form-F Form → Type 0
    At o ks x =
        Meets (join_faults (joined (vals wide s t (take (set_count o) ks) sc))
        (form_faults (set_forms wide s t (drop (set_count o) ks) sc)))
        (opened_value b.arena a x) (ker_form wide (tree p ty o ks xs) sc s t)

    meets_with : (o : KerOp) (ks : List Ker) (x y : form.Form-F Form) → At o ks x → x ≡ y → At o ks y
    meets_with o ks x y h e = subst (At o ks) e h

    at_sequence : (d : Kind) (ks : List Ker) (us : List Cells) (ys : List FormCells) (x : form.Form-F Form) →
        Children names ker.SeqForm 0 c true ks (Set d ∷ []) → AreFormParts b ks ys →
        AllFormsShow b.arena a ys (set_forms wide s t ks sc) →
        form_over ker.SeqForm (cells_of us) (forms_of ys) ≡ Some x → At ker.SeqForm ks x
    at_sequence d [] us ys x h q m e = absurd h
    at_sequence d (k ∷ []) us [] x h q m e = absurd q
    at_sequence d (k ∷ []) us (y ∷ []) x h q m e =
        meets_with ker.SeqForm (k ∷ []) (form.Sequences y.form) x
        (subst (Meets _ (set.Sequences (form_value b.arena a y.form)))
        (sym (form_sequences wide s t p ty (k ∷ []) xs sc))
        (one_meets p set.Sequences (form_value b.arena a y.form) (ker_form wide k sc s t)
        (part_of (sort_of d) y k (q.0 d h.0.0) m.0))) (some_same e)
    at_sequence d (k ∷ []) us (y ∷ z ∷ ys) x h q m e = absurd q.1
    at_sequence d (k ∷ l ∷ ks) us ys x h q m e = absurd h.1

    at_subset : (d : Kind) (ks : List Ker) (us : List Cells) (ys : List FormCells) (x : form.Form-F Form) →
        Children names ker.Subsets 0 c true ks (Set d ∷ []) → AreFormParts b ks ys →
        AllFormsShow b.arena a ys (set_forms wide s t ks sc) →
        form_over ker.Subsets (cells_of us) (forms_of ys) ≡ Some x → At ker.Subsets ks x
    at_subset d [] us ys x h q m e = absurd h
    at_subset d (k ∷ []) us [] x h q m e = absurd q
    at_subset d (k ∷ []) us (y ∷ []) x h q m e =
        meets_with ker.Subsets (k ∷ []) (form.Subsets y.form) x
        (subst (Meets _ (set.Subsets (form_value b.arena a y.form))) (sym (form_subsets wide s t p ty (k ∷ []) xs sc))
        (one_meets p set.Subsets (form_value b.arena a y.form) (ker_form wide k sc s t)
        (part_of (sort_of d) y k (q.0 d h.0.0) m.0))) (some_same e)
    at_subset d (k ∷ []) us (y ∷ z ∷ ys) x h q m e = absurd q.1
    at_subset d (k ∷ l ∷ ks) us ys x h q m e = absurd h.1

    at_function : (d g : Kind) (ks : List Ker) (us : List Cells) (ys : List FormCells) (x : form.Form-F Form) →
        Children names ker.Functions 0 c true ks (Set d ∷ Set g ∷ []) → AreParts b (take 1 ks) us →
        AreFormParts b (drop 1 ks) ys →
        AllShow b.arena a us (vals wide s t (take 1 ks) sc) →
        AllFormsShow b.arena a ys (set_forms wide s t (drop 1 ks) sc) →
        form_over ker.Functions (cells_of us) (forms_of ys) ≡ Some x → At ker.Functions ks x
    at_function d g [] us ys x h r q n m e = absurd h
    at_function d g (k ∷ []) us ys x h r q n m e = absurd h.1
    at_function d g (k ∷ l ∷ []) [] ys x h r q n m e = absurd r
    at_function d g (k ∷ l ∷ []) (u ∷ []) [] x h r q n m e = absurd q
    at_function d g (k ∷ l ∷ []) (u ∷ []) (y ∷ []) x h r q n m e =
        meets_with ker.Functions (k ∷ l ∷ []) (form.Functions u.cell y.form) x
        (subst (Meets _ _) (sym (form_functions wide s t p ty (k ∷ l ∷ []) xs sc))
        (function_meets p (decode b.arena a u.cell) (ker_val wide k sc s t) (ker_val wide l sc s t ∷ [])
        (ker_form wide k sc s t) (ker_form wide l sc s t)
        (form_value b.arena a y.form)
        (set_part (sort_of d) u (ker_val wide k sc s t) (r.0 (Set d) h.0.0) n.0)
        (part_of (sort_of g) y l (q.0 g h.1.0.0) m.0))) (some_same e)
    at_function d g (k ∷ l ∷ []) (u ∷ []) (y ∷ z ∷ ys) x h r q n m e = absurd q.1
    at_function d g (k ∷ l ∷ []) (u ∷ v ∷ us) ys x h r q n m e = absurd r.1
    at_function d g (k ∷ l ∷ j ∷ ks) us ys x h r q n m e = absurd h.1.1

    at_constant : (o : KerOp) (ks : List Ker) (v x : form.Form-F Form) → set_count o ≡ 0 →
        Children names o 0 c true ks [] →
        ker_form wide (tree p ty o ks xs) sc s t ≡ Made (opened_value b.arena a v) → v ≡ x → At o ks x
    at_constant o [] v x z h f e =
        subst (At o []) e
        (subst (λ n. Meets (join_faults (joined (vals wide s t (take n []) sc))
        (form_faults (set_forms wide s t (drop n []) sc)))
        (opened_value b.arena a v) (ker_form wide (tree p ty o [] xs) sc s t)) (sym z)
        (subst (Meets NoFault (opened_value b.arena a v)) (sym f) (made_meets (opened_value b.arena a v))))
    at_constant o (k ∷ ks) v x z h f e = absurd h

    pub made_value : (o : KerOp) (d : Kind) (bs : List Kind) (ks : List Ker) (us : List Cells) (ys : List FormCells)
        (x : form.Form-F Form) →
        makes_form o ≡ true → Row o d bs → Children names o 0 c true ks bs → AreParts b (take (set_count o) ks) us →
        AreFormParts b (drop (set_count o) ks) ys → AllShow b.arena a us (vals wide s t (take (set_count o) ks) sc) →
        AllFormsShow b.arena a ys (set_forms wide s t (drop (set_count o) ks) sc) →
        form_over o (cells_of us) (forms_of ys) ≡ Some x → At o ks x
    made_value o d bs ks us ys x i row_ints h r q n m e = at_constant ker.IntForm ks form.Ints x refl h
        (form_ints wide s t p ty ks xs sc) (some_same e)
    made_value o d bs ks us ys x i row_nats h r q n m e = at_constant ker.NatForm ks form.Nats x refl h
        (form_nats wide s t p ty ks xs sc) (some_same e)
    made_value o d bs ks us ys x i row_texts h r q n m e = at_constant ker.TextForm ks form.Texts x refl h
        (form_texts wide s t p ty ks xs sc) (some_same e)
    made_value o d bs ks us ys x i (row_sequences g) h r q n m e = at_sequence g ks us ys x h q m e
    made_value o d bs ks us ys x i (row_subsets g) h r q n m e = at_subset g ks us ys x h q m e
    made_value o d bs ks us ys x i (row_functions g j) h r q n m e = at_function g j ks us ys x h r q n m e
    made_value o d bs ks us ys x i (row_tuples ms) h r q n m e =
        meets_with ker.TupForm ks (form.Tuples (forms_of ys)) x
        (subst (Meets _ _) (sym (form_tuples wide s t p ty ks xs sc))
        (all_meets p set.Tuples (map (form_value b.arena a) (forms_of ys)) (set_forms wide s t ks sc)
        (parts_of names c ker.TupForm 0 ms ks ys h q m))) (some_same e)
    made_value o d bs ks us ys x i (row_records ns ms l) h r q n m e =
        meets_with (ker.RecForm ns) ks (form.Records ns (forms_of ys)) x
        (subst (Meets _ _) (sym (form_records wide s t p ty ns ks xs sc))
        (all_meets p (set.Records ns) (map (form_value b.arena a) (forms_of ys)) (set_forms wide s t ks sc)
        (parts_of names c (ker.RecForm ns) 0 ms ks ys h q m))) (some_same e)
    made_value o d bs ks us ys x i w h r q n m e = absurd (cc)

-- ---- the node

lies_take : (w : Width) (s t : State) (sc : Scope) (n : ℕ) (ks : List Ker) → AllLie w s t sc ks →
    AllLie w s t sc (take n ks)
lies_take w s t sc zero ks h = tt
lies_take w s t sc (suc n) [] h = tt
lies_take w s t sc (suc n) (k ∷ ks) h = (h.0, lies_take w s t sc n ks h.1)

lies_drop : (w : Width) (s t : State) (sc : Scope) (n : ℕ) (ks : List Ker) → AllLie w s t sc ks →
    AllLie w s t sc (drop n ks)
lies_drop w s t sc zero ks h = h
lies_drop w s t sc (suc n) [] h = tt
lies_drop w s t sc (suc n) (k ∷ ks) h = lies_drop w s t sc n ks h.1

forms_shown : (c : Arena) (a : List Bool) (sc : Scope) (s t : State) (ks : List Ker) (ys : List FormCells) →
    AllLie (Some c.width) s t sc ks →
    FormsShow c a sc s t ks ys → AllFormsShow c a ys (set_forms (Some c.width) s t ks sc)
forms_shown c a sc s t [] [] h p = tt
forms_shown c a sc s t [] (y ∷ ys) h p = absurd p
forms_shown c a sc s t (k ∷ ks) [] h p = absurd p
forms_shown c a sc s t (k ∷ ks) (y ∷ ys) h p = (p.0 h.0, forms_shown c a sc s t ks ys h.1 p.1)

-- the kind of the tree, its row and its children
pub row_of : (b : Build) (k : Ker) (us : List Cells) (ys : List FormCells) (c : CanForm b k us ys) →
    (d : Kind) × (kind_at k ≡ Some d) × FormRow c.names c.context (out-Ker k).op d (out-Ker k).args
row_of b k us ys c =
    let z = sound_step c.names k c.context true c.sound in
    (z.0, z.1, form_row c.names c.context (out-Ker k).op z.0 (out-Ker k).binds (out-Ker k).args c.makes z.2)

module _ (b d : Build) (k : Ker) (us : List Cells) (ys : List FormCells) (c : CanForm b k us ys) (r : FormCells)
    (grown : Grows b d)
    (made : form_over (out-Ker k).op (cells_of us) (forms_of ys) ≡ Some (out-Form r.form)) where
  sorted : (m : Kind) → kind_at k ≡ Some (Set m) → IsFormOf b.arena.kinds (sort_of m) r.form
  sorted m e =
      let z = row_of b k us ys c in
      let q = made_sort b c.names c.context (out-Ker k).op z.0 z.2.kinds (out-Ker k).args us ys
      (out-Form r.form) c.makes z.2.row z.2.children
      c.sets_are c.parts_are made in
      subst (λ n. IsFormOf b.arena.kinds (sort_of n) r.form) (one z.0 q.0 m z.1 q.1 e) (is (sort_of q.0) r.form q.2)
    where
      one : (a n m : Kind) → kind_at k ≡ Some a → a ≡ Set n → kind_at k ≡ Some (Set m) → n ≡ m
      one a n m e f g = cc

  pub form_sort : FaultsBelow d.formula.vars (literals_of r) → HasFormSort d k r
  form_sort below m e = record {
    form = IsFormOf-later b d grown (sort_of m) r.form (sorted m e);
    wrong = below.wrong;
    big = below.big;
  }

  pub form_makes : JoinsForms d.formula us ys (literals_of r) → MakesForm b d k us ys r
  form_makes j = record {
    shows = λ a m sc s t w ps fs.
        let z = row_of b k us ys c in
        let o : KerOp = (out-Ker k).op in
        let ks : List Ker = (out-Ker k).args in
        let wide : Width = Some b.arena.width in
        let place : Place = (out-Ker k).place in
        let lies = plain_lies wide s t o (out-Ker k).binds ks sc (makes_plain o c.makes)
        (within_by wide k o sc s t refl w) in
        let sets = all_shown b.arena a sc s t (form_sets k) us (lies_take wide s t sc (set_count o) ks lies) ps in
        let parts = forms_shown b.arena a sc s t (form_parts k) ys (lies_drop wide s t sc (set_count o) ks lies) fs in
        let q = made_value b a s t sc place (out-Ker k).ty (out-Ker k).binds c.names c.context o z.0 z.2.kinds ks us ys
        (out-Form r.form) c.makes
        z.2.row z.2.children c.sets_are c.parts_are sets parts made in
        let f = j.shows a m b.arena (vals wide s t (form_sets k) sc)
        (set_forms wide s t (form_parts k) sc) sets parts in
        let member = sound_step c.names k c.context true c.sound in
        let sort = made_sort b c.names c.context o z.0 z.2.kinds ks us ys
        (out-Form r.form) c.makes z.2.row z.2.children c.sets_are c.parts_are made in
        subst (λ j. ShowsForm d.arena a r (ker_form wide j sc s t)) (sym (as_tree k o refl))
        (ShowsForm-later b d grown a (sort_of sort.0) r
        (ker_form wide (tree place (out-Ker k).ty o ks (out-Ker k).binds) sc s t)
        (is (sort_of sort.0) r.form sort.2)
        (record {
          shown = record {
            wrong = f.shown.wrong ∙ ap wrong_fault (sym q.fault);
            big = f.shown.big ∙ ap big_fault (sym q.fault);
            form = λ g e. value-out b.arena a r.form ∙ q.form g e;
          };
        }));
  }

-- ---- the literals of sets and parts, which are trees of sets

abbrev pub IsSet : Kind → Type 0
IsSet a = (m : Kind) × (a ≡ Set m)

all_sets : (ms : List Kind) → Each IsSet (map Set ms)
all_sets [] = tt
all_sets (m ∷ ms) = ((m, refl), all_sets ms)

pub row_sets : (o : KerOp) (d : Kind) (bs : List Kind) → makes_form o ≡ true → Row o d bs → Each IsSet bs
row_sets o d bs i row_ints = tt
row_sets o d bs i row_nats = tt
row_sets o d bs i row_texts = tt
row_sets o d bs i (row_sequences a) = ((a, refl), tt)
row_sets o d bs i (row_subsets a) = ((a, refl), tt)
row_sets o d bs i (row_functions a g) = ((a, refl), ((g, refl), tt))
row_sets o d bs i (row_tuples ms) = all_sets ms
row_sets o d bs i (row_records ns ms l) = all_sets ms
row_sets o d bs i r = absurd (cc)

pub children_sets : (names : List Kind) (c : Context) (o : KerOp) (n : ℕ) (ks : List Ker) (bs : List Kind) →
    Children names o n c true ks bs → Each IsSet bs →
    Each OfSets ks
children_sets names c o n [] bs h e = tt
children_sets names c o n (k ∷ ks) [] h e = absurd h
children_sets names c o n (k ∷ ks) (a ∷ bs) h e =
    ((e.0.0, h.0.0 ∙ ap Some e.0.1), children_sets names c o (suc n) ks bs h.1 e.1)

each_drop : (n : ℕ) (ks : List Ker) → Each OfSets ks → Each OfSets (drop n ks)
each_drop zero ks h = h
each_drop (suc n) [] h = tt
each_drop (suc n) (k ∷ ks) h = each_drop n ks h.1

cells_below : (b : Build) (ks : List Ker) (us : List Cells) → Each OfSets ks → AreParts b ks us →
    All (λ x. FaultsBelow b.formula.vars (faults_of x)) us
cells_below b [] [] e h = All-nil (λ x. FaultsBelow b.formula.vars (faults_of x))
cells_below b [] (u ∷ us) e h = absurd h
cells_below b (k ∷ ks) [] e h = absurd h
cells_below b (k ∷ ks) (u ∷ us) e h =
    All-cons (λ x. FaultsBelow b.formula.vars (faults_of x)) u us
    (AreCells-below b (set_of (sort_of e.0.0)) u (h.0 (Set e.0.0) e.0.1))
    (cells_below b ks us e.1 h.1)

forms_below : (b : Build) (ks : List Ker) (ys : List FormCells) → Each OfSets ks → AreFormParts b ks ys →
    All (λ y. FaultsBelow b.formula.vars (literals_of y)) ys
forms_below b [] [] e h = All-nil (λ y. FaultsBelow b.formula.vars (literals_of y))
forms_below b [] (y ∷ ys) e h = absurd h
forms_below b (k ∷ ks) [] e h = absurd h
forms_below b (k ∷ ks) (y ∷ ys) e h =
    let f = h.0 e.0.0 e.0.1 in
    All-cons (λ y. FaultsBelow b.formula.vars (literals_of y)) y ys (record { wrong = f.wrong; big = f.big })
    (forms_below b ks ys e.1 h.1)

module _ (b : Build) (k : Ker) (us : List Cells) (ys : List FormCells) (c : CanForm b k us ys) where
  children_of_sets : Each OfSets (out-Ker k).args
  children_of_sets =
      let z = row_of b k us ys c in
      children_sets c.names c.context (out-Ker k).op 0 (out-Ker k).args z.2.kinds z.2.children
      (row_sets (out-Ker k).op z.0 z.2.kinds c.makes z.2.row)

  pub sets_below : All (λ x. FaultsBelow b.formula.vars (faults_of x)) us
  sets_below = cells_below b (form_sets k) us
      (each_take OfSets (set_count (out-Ker k).op) (out-Ker k).args children_of_sets) c.sets_are

  pub parts_below : All (λ y. FaultsBelow b.formula.vars (literals_of y)) ys
  parts_below = forms_below b (form_parts k) ys
      (each_drop (set_count (out-Ker k).op) (out-Ker k).args children_of_sets) c.parts_are

pub form_made : (k : Ker) (us : List Cells) (ys : List FormCells) (fs : List Form) (r : Form) → fs ≡ forms_of ys →
    form_over (out-Ker k).op (cells_of us) fs ≡ Some (out-Form r) →
    form_over (out-Ker k).op (cells_of us) (forms_of ys) ≡ Some (out-Form r)
form_made k us ys fs r e h = ap (form_over (out-Ker k).op (cells_of us)) (sym e) ∙ h

pub joins_made : (f : Cnf) (us : List Cells) (xs ys : List FormCells) (r : Faults) → xs ≡ ys → JoinsForms f us xs r →
    JoinsForms f us ys r
joins_made f us xs ys r e h = subst (λ l. JoinsForms f us l r) e h
