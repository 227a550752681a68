-- Membership in a form of each kind: what is asked of the parts, and what their answers say of the whole.
use Rattle.std.proofs.Common.{◌≡◌, ℕ, ◌<◌, Bool, true, ◌&&◌, List, map, length, [], ◌∷◌, suc, refl, sym, ◌∙◌, ap, ap₂, subst, arith}
use Rattle.std.specs.List.{list_all}
use Rattle.std.proofs.lemmas.List.{take_all}
use Rattle.sat_formula.specs.declared.lit.Lit.{Lit}
use Rattle.sat_formula.specs.declared.cnf.Cnf.{Cnf}
use Rattle.sat_formula.specs.Lit.{lit_value}
use Rattle.sat_formula.specs.Formula.{HasValue, Satisfies}
use Rattle.sat_formula.proofs.Extension.{HasValue-same}
use Rattle.tla_values.specs.Sets.{elements, member}
use Rattle.tla_values.specs.declared.value.Value.{out-Value}
use Rattle.tla_meaning.specs.Forms.{all_belong, belongs, is_natural, results}
use Rattle.cell_arena.specs.declared.build.Build.{Build}
use Rattle.cell_arena.specs.declared.kinds.CellId.{CellId}
use Rattle.cell_arena.specs.declared.kinds.CellKind.{CellKind}
use Rattle.cell_arena.specs.Cells.{kind_at}
use Rattle.cell_arena.specs.Decode.{decode, present}
use Rattle.cell_arena.specs.Growth.{Grows}
use Rattle.cell_arena.proofs.Growing.{Satisfies-before}
use Rattle.cell_merge.specs.Arrows.{pairs_of}
use Rattle.cell_merge.specs.Composites.{parts_of}
use Rattle.cell_merge.specs.Sorts.{ArePlaced, IsTuple, MemberType, OfSort, Sort, number, sequence_of, set_of}
use Rattle.cell_merge.proofs.FunctionValues.{results-numbered}
use Rattle.function_rewriter.proofs.Composites.{pairs-fun}
use Rattle.sequence_rewriter.specs.Sequences.{IsSequenceCell, items}
use Rattle.typed_cells.specs.KindSorts.{OfSorts, sort_at}
use Rattle.form_cells.specs.declared.form.Form.{Form, Plain, Ints, Nats, Texts, Sequences, Subsets, Functions, Records, Tuples}
use Rattle.form_cells.specs.FormSorts.{AreFormsOf, IsFormOf, MemberAndForm, SetAndForm, more, none}
use Rattle.form_cells.specs.FormValues.{form_value}
use Rattle.form_cells.specs.inner.Listed.{AreFields, EdgesAndForm, FunctionAndForm, FunctionAndSet, IsParted, IsRecordCell, IsTupleCell, ListsItems, ListsMembers, PartsAndForms, function_belongs}
use Rattle.form_cells.proofs.BelongLemmas.{Edge}
use Rattle.form_cells.proofs.CellValues.{function-value, number-value, record-value, sequence-value, set-items, text-value, tuple-value}
use Rattle.form_cells.proofs.FormsLater.{IsFormOf-later, value-later}
use Rattle.form_cells.proofs.Meant.{meant-functions, meant-ints, meant-nats, meant-plain, meant-records, meant-sequences, meant-subsets, meant-texts, meant-tuples}
use Rattle.form_cells.proofs.Opened.{sort-functions, sort-ints, sort-nats, sort-plain, sort-records, sort-sequences, sort-subsets, sort-texts, sort-tuples, value-functions, value-ints, value-nats, value-plain, value-records, value-sequences, value-subsets, value-texts, value-tuples}
use Rattle.form_cells.proofs.RecordLemmas.{record-fields, record-names}

-- a form for each sort
forms-count : (ks : List CellKind) (ss : List Sort) (fs : List Form) → AreFormsOf ks ss fs → length ss ≡ length fs
forms-count ks ss fs none = refl
forms-count ks ss fs (more s rs f gs h k) = ap suc (forms-count ks rs gs k)

-- cells that stand in the places of some sorts
placed-sorts : (ks : List CellKind) (ss : List Sort) (xs : List CellId) → ArePlaced (length ss) (λ i. OfSort ks (sort_at ss i)) xs → OfSorts ks ss xs
placed-sorts ks [] [] h = tt
placed-sorts ks [] (x ∷ xs) h = absurd (let e = h.0 in omega arith)
placed-sorts ks (s ∷ ss) [] h = absurd (let e = h.0 in omega arith)
placed-sorts ks (s ∷ ss) (x ∷ xs) h = (h.1 0 x (omega arith), placed-sorts ks ss xs (let e = h.0 in omega arith, λ i d lt. h.1 (suc i) d (omega arith)))

module _ (b : Build) (x : CellId) (f : Form) (h : MemberAndForm b.arena.kinds x f) where
  abbrev ks : List CellKind
  ks = b.arena.kinds

  abbrev meets : List Bool → Bool
  meets a = belongs (form_value b.arena a f) (decode b.arena a x)

  -- ---- Plain

  pub asked-plain : (s : CellId) → f ≡ Plain s → MemberType ks x s
  asked-plain s e = record { sort = h.sort; left = h.cell; right = sort-plain ks h.sort f h.form s e }

  pub meets-plain : (g : Cnf) (l : Lit) (s : CellId) → f ≡ Plain s → HasValue g l (λ a. member (decode b.arena a x) (elements (decode b.arena a s))) → HasValue g l meets
  meets-plain g l s e v =
      HasValue-same g l _ _ v (λ a sat.
      let k = set-items b.arena a b.built s h.sort (sort-plain ks h.sort f h.form s e) in
      sym (meant-plain (form_value b.arena a f) (decode b.arena a x) (decode b.arena a s) k.0 (value-plain b.arena a f s e) k.1))

  -- ---- Ints, Nats, Texts

  pub meets-ints : (g : Cnf) (l : Lit) → f ≡ Ints → l.var < g.vars → ((a : List Bool) → Satisfies a g → lit_value l a ≡ true) → HasValue g l meets
  meets-ints g l e below v = record {
    below = below;
    value = λ a sat.
        let k = number-value b.arena a b.built x (subst (λ s. OfSort ks s x) (sort-ints ks h.sort f h.form e) h.cell) in
        v a sat ∙ sym (meant-ints (form_value b.arena a f) (decode b.arena a x) _ (value-ints b.arena a f e) k.1.1);
  }

  pub meets-texts : (g : Cnf) (l : Lit) → f ≡ Texts → l.var < g.vars → ((a : List Bool) → Satisfies a g → lit_value l a ≡ true) → HasValue g l meets
  meets-texts g l e below v = record {
    below = below;
    value = λ a sat.
        let k = text-value b.arena a b.built x (subst (λ s. OfSort ks s x) (sort-texts ks h.sort f h.form e) h.cell) in
        v a sat ∙ sym (meant-texts (form_value b.arena a f) (decode b.arena a x) k.0 (value-texts b.arena a f e) k.1);
  }

  pub asked-nats : f ≡ Nats → OfSort ks number x
  asked-nats e = subst (λ s. OfSort ks s x) (sort-nats ks h.sort f h.form e) h.cell

  pub meets-nats : (g : Cnf) (l : Lit) → f ≡ Nats → HasValue g l (λ a. is_natural (out-Value (decode b.arena a x))) → HasValue g l meets
  meets-nats g l e v = HasValue-same g l _ _ v (λ a sat. sym (meant-nats (form_value b.arena a f) (decode b.arena a x) (value-nats b.arena a f e)))

  -- ---- Sequences

  module _ (k : Form) (e : f ≡ Sequences k) where
    item : (t : Sort) × ((h.sort ≡ sequence_of t) × IsFormOf ks t k)
    item = sort-sequences ks h.sort f h.form k e

    cell : OfSort ks (sequence_of item.0) x
    cell = subst (λ s. OfSort ks s x) item.1.0 h.cell

    pub asked-sequences : IsSequenceCell ks x
    asked-sequences = record { sort = item.0; is = cell }

    module _ (c : Build) (es : List Edge) (bc : Grows b c) (lists : ListsItems b c x es) where
      pub items-asked : EdgesAndForm c es k
      items-asked = record { sort = item.0; cells = lists.sorts item.0 cell; named = lists.named; form = IsFormOf-later b c bc item.0 k item.1.1 }

      pub meets-sequences : (d : Build) (l : Lit) → Grows c d
          → HasValue d.formula l (λ a. list_all (belongs (form_value c.arena a k)) (present a (decode c.arena a) es)) → HasValue d.formula l meets
      meets-sequences d l cd v =
          HasValue-same d.formula l _ _ v (λ a sat.
          let w = sequence-value b.arena a b.built x item.0 cell in
          lists.values a (Satisfies-before c d a cd sat) (belongs (form_value c.arena a k))
          ∙ ap₂ (λ g vs. list_all (belongs g) vs) (value-later b c bc a item.0 k item.1.1) (ap items w.1.1.1 ∙ ap (map (λ p. p.1)) (pairs-fun _) ∙ results-numbered 1 _)
          ∙ sym (meant-sequences (form_value b.arena a f) (decode b.arena a x) (form_value b.arena a k) _ (value-sequences b.arena a f k e) w.1.1.1))

  -- ---- Subsets

  module _ (k : Form) (e : f ≡ Subsets k) where
    part : (t : Sort) × ((h.sort ≡ set_of t) × IsFormOf ks t k)
    part = sort-subsets ks h.sort f h.form k e

    pub asked-subsets : SetAndForm ks x k
    asked-subsets = record { sort = part.0; cell = subst (λ s. OfSort ks s x) part.1.0 h.cell; form = part.1.1 }

    pub meets-subsets : (g : Cnf) (l : Lit) → HasValue g l (λ a. list_all (belongs (form_value b.arena a k)) (elements (decode b.arena a x))) → HasValue g l meets
    unfolding part asked-subsets
    meets-subsets g l v =
        HasValue-same g l _ _ v (λ a sat.
        let w = set-items b.arena a b.built x part.0 asked-subsets.cell in
        sym (meant-subsets (form_value b.arena a f) (decode b.arena a x) (form_value b.arena a k) w.0 (value-subsets b.arena a f k e) w.1))

  -- ---- Functions

  module _ (s : CellId) (k : Form) (e : f ≡ Functions s k) where
    pub asked-functions : FunctionAndForm ks x s k
    asked-functions = let p = sort-functions ks h.sort f h.form s k e in record {
      from = p.from;
      to = p.to;
      function = subst (λ t. OfSort ks t x) p.is h.cell;
      domain = p.domain;
      results = p.results;
    }

    pub meets-functions : (g : Cnf) (l : Lit) → HasValue g l (λ a. function_belongs b.arena a x s (form_value b.arena a k)) → HasValue g l meets
    meets-functions g l v =
        HasValue-same g l _ _ v (λ a sat.
        let w = function-value b.arena a b.built x asked-functions.from asked-functions.to asked-functions.function in
        sym (meant-functions (form_value b.arena a f) (decode b.arena a x) (elements (decode b.arena a s)) (form_value b.arena a k) _ (value-functions b.arena a f k s e) w.1.1))

  -- ---- Records

  module _ (names : List (List ℕ)) (fs : List Form) (e : f ≡ Records names fs) where
    pub asked-records : IsRecordCell ks x names
    asked-records = let p = sort-records ks h.sort f h.form names fs e in record {
      sorts = p.sorts;
      count = forms-count ks p.sorts fs p.forms ∙ sym p.count;
      is = subst (λ t. OfSort ks t x) p.is h.cell;
    }

    module _ (xs : List CellId) (fields : AreFields b x names xs) where
      pub fields-asked : PartsAndForms ks xs fs
      unfolding asked-records
      fields-asked = let p = sort-records ks h.sort f h.form names fs e in record {
        sorts = p.sorts;
        cells = subst (λ ss. OfSorts ks ss xs) (take_all (length names) p.sorts (omega (arith, asked-records.count))) (fields.sorts p.sorts asked-records.count asked-records.is);
        forms = p.forms;
      }

      pub meets-records : (g : Cnf) (l : Lit) → HasValue g l (λ a. all_belong (map (form_value b.arena a) fs) (map (decode b.arena a) xs)) → HasValue g l meets
      meets-records g l v =
          HasValue-same g l _ _ v (λ a sat.
          let w = record-value b.arena a b.built x _ _ asked-records.is in
          sym (meant-records (form_value b.arena a f) (decode b.arena a x) names (map (form_value b.arena a) fs) _ (value-records b.arena a f names fs e) w.1.1
          ∙ ap₂ (λ t vs. t && all_belong (map (form_value b.arena a) fs) vs) (record-names b a x names asked-records) (record-fields b a x names xs fields)))

  -- ---- Tuples

  module _ (fs : List Form) (e : f ≡ Tuples fs) where
    pub asked-tuples : IsTupleCell ks x
    asked-tuples = let p = sort-tuples ks h.sort f h.form fs e in record {
      count = length p.sorts;
      sorts = sort_at p.sorts;
      is = subst (λ t. OfSort ks t x) p.is h.cell;
    }

    module _ (xs : List CellId) (parts : xs ≡ parts_of (kind_at ks x)) where
      pub tuple-asked : PartsAndForms ks xs fs
      unfolding asked-tuples
      tuple-asked = let p = sort-tuples ks h.sort f h.form fs e in record {
        sorts = p.sorts;
        cells = placed-sorts ks p.sorts xs (let w = tuple-value b.arena [] b.built x asked-tuples.count asked-tuples.sorts asked-tuples.is in
            let P : CellKind → Type 0 = IsTuple (length p.sorts) (λ i. OfSort ks (sort_at p.sorts i)) in
            subst (ArePlaced (length p.sorts) (λ i. OfSort ks (sort_at p.sorts i))) (sym (parts ∙ ap parts_of w.1.0)) (subst P w.1.0 asked-tuples.is.1));
        forms = p.forms;
      }

      pub meets-tuples : (g : Cnf) (l : Lit) → HasValue g l (λ a. all_belong (map (form_value b.arena a) fs) (map (decode b.arena a) xs)) → HasValue g l meets
      meets-tuples g l v =
          HasValue-same g l _ _ v (λ a sat.
          let w = tuple-value b.arena a b.built x asked-tuples.count asked-tuples.sorts asked-tuples.is in
          sym (meant-tuples (form_value b.arena a f) (decode b.arena a x) (map (form_value b.arena a) fs) _ (value-tuples b.arena a f fs e) w.1.1
          ∙ ap (λ ps. all_belong (map (form_value b.arena a) fs) (map (decode b.arena a) ps)) (sym (parts ∙ ap parts_of w.1.0))))

-- ---- a set's members, and a function's results

pub set-asked : (b : Build) (x : CellId) (f : Form) (es : List Edge) → SetAndForm b.arena.kinds x f → ListsMembers b x es → EdgesAndForm b es f
set-asked b x f es h lists = record { sort = h.sort; cells = lists.sorts h.sort h.cell; named = lists.named; form = h.form }

pub set-meets : (b c : Build) (x : CellId) (f : Form) (es : List Edge) (l : Lit) → Grows b c → ListsMembers b x es
    → HasValue c.formula l (λ a. list_all (belongs (form_value b.arena a f)) (present a (decode b.arena a) es))
    → HasValue c.formula l (λ a. list_all (belongs (form_value b.arena a f)) (elements (decode b.arena a x)))
set-meets b c x f es l g lists v = HasValue-same c.formula l _ _ v (λ a sat. lists.values a (Satisfies-before b c a g sat) (belongs (form_value b.arena a f)))

module _ (b : Build) (x s : CellId) (f : Form) (h : FunctionAndForm b.arena.kinds x s f) where
  pub function-asked : FunctionAndSet b.arena.kinds x s
  function-asked = record { from = h.from; to = h.to; function = h.function; domain = h.domain }

  module _ (c : Build) (agrees : Lit) (es : List Edge) (bc : Grows b c) (parted : IsParted b c x s (agrees, es)) where
    pub results-asked : EdgesAndForm c es f
    results-asked = let l = parted.results.lists h.from in record {
      sort = h.to;
      cells = l.sorts h.to h.function;
      named = l.named;
      form = IsFormOf-later b c bc h.to f h.results;
    }

    pub function-meets : (d e : Build) (all l : Lit) → Grows c d → Grows d e
        → HasValue d.formula all (λ a. list_all (belongs (form_value c.arena a f)) (present a (decode c.arena a) es))
        → HasValue e.formula l (λ a. lit_value agrees a && lit_value all a)
        → HasValue e.formula l (λ a. function_belongs b.arena a x s (form_value b.arena a f))
    function-meets d e all l cd de v both =
        HasValue-same e.formula l _ _ both (λ a sat.
        let sd = Satisfies-before d e a de sat in
        let sc = Satisfies-before c d a cd sd in
        ap₂ (λ p q. p && q) (parted.agrees.value a sc)
        (v.value a sd ∙ (parted.results.lists h.from).values a sc (belongs (form_value c.arena a f))
        ∙ ap (λ g. list_all (belongs g) (results (pairs_of (decode b.arena a x)))) (value-later b c bc a h.to f h.results)))
