-- A node that binds names to members of sets, over the cells of its sets and of its bodies.
use Rattle.std.proofs.Common.{◌≡◌, ℕ, zero, suc, ◌<◌, Bool, true, false, not, ◌&&◌, ◌||◌, IsTrue, List, [], ◌∷◌, ◌++◌, map, length, get_or, All, refl, sym, ◌∙◌, ap, subst, arith, Option, Some, None}
use Rattle.std.specs.Prelude.{option_map, option_and_then}
use Rattle.std.specs.List.{list_all}
use Rattle.std.proofs.lemmas.List.Elements.{All-cons, All-head, All-nil, All-tail, All-weaker}
use Rattle.sat_formula.specs.Lit.{lit_value}
use Rattle.sat_formula.specs.Formula.{Grows as FormulaGrows}
use Rattle.tla_values.specs.Order.{Layer}
use Rattle.tla_values.specs.Sets.{elements, elements_here}
use Rattle.tla_values.specs.declared.value.Value.{Value, out-Value}
use Rattle.tla_values.specs.declared.value.Value.TheVariants.{outs-Set}
use Rattle.tla_values.specs.declared.value.Value.TheOpen as layer
use Rattle.tla_meaning.specs.declared.job.State.{State}
use Rattle.tla_meaning.specs.declared.outcome.Fault.TheVariants.{NoFault}
use Rattle.tla_meaning.specs.declared.outcome.Outcome.{Outcome}
use Rattle.tla_meaning.specs.declared.outcome.Outcome.TheVariants.{Wrong}
use Rattle.tla_meaning.specs.declared.place.Place.{Place}
use Rattle.tla_meaning.specs.Meaning.{bound_table}
use Rattle.tla_meaning.specs.Numbers.{Width}
use Rattle.tla_meaning.specs.Operators.{on_all_sets}
use Rattle.tla_meaning.specs.Outcomes.{joined, strict}
use Rattle.tla_meaning.specs.Scopes.{Scope, bind}
use Rattle.tla_meaning.specs.Shapes.{all_set_items, choices, set_items}
use Rattle.snowcat_rows.specs.declared.types.Ty.{Ty}
use Rattle.cell_arena.specs.declared.build.Build.{Build}
use Rattle.cell_arena.specs.declared.kinds.CellId.{CellId}
use Rattle.cell_arena.specs.Cells.{Cells as Arena}
use Rattle.cell_arena.specs.Decode.{decode, kind_value}
use Rattle.cell_arena.specs.Growth.{Grows}
use Rattle.cell_arena.proofs.Decoding.{decode-kind}
use Rattle.cell_arena.proofs.Growing.{Grows-formula, Satisfies-before}
use Rattle.cell_merge.specs.Picks.{IsSetCell}
use Rattle.cell_merge.specs.Sorts.{Sort, OfSort, set_of}
use Rattle.cell_merge.proofs.Edges.{is-set}
use Rattle.kernel_trees.specs.declared.kernel.Ker.{Ker, out-Ker}
use Rattle.kernel_trees.specs.declared.kernel.KerOp.{KerOp}
use Rattle.kernel_trees.specs.declared.kernel.KerOp.TheVariants as ker
use Rattle.kernel_trees.specs.Sound.{Context, kind_at}
use Rattle.kernel_trees.specs.Trees.{ker_val, names_of, op_of}
use Rattle.kernel_trees.specs.TypeKinds.{Kind, Set}
use Rattle.kernel_trees.proofs.Binders.{at_members, val_every, val_filter, val_function, val_map, val_some}
use Rattle.kernel_trees.proofs.Operators.{tree, vals}
use Rattle.kernel_trees.proofs.SoundTrees.{Sets, sound_step}
use Rattle.kernel_ranges.specs.Ranges.{at_members as lie_at_members, is_within, within_at}
use Rattle.kernel_ranges.proofs.Opened.{members_lie, with_within}
use Rattle.outcome_cells.specs.declared.cells.Cells.{Cells}
use Rattle.outcome_cells.specs.Joins.{IsStrict}
use Rattle.outcome_cells.specs.Shows.{AllCells, AllShow, AreCells, FaultsBelow, Shows, cell_values, faults_of}
use Rattle.outcome_cells.proofs.Later.{AllShow-later, AreCells-behind, AreCells-below, AreCells-later}
use Rattle.outcome_cells.proofs.Operands.{values_shown}
use Rattle.typed_cells.specs.KindSorts.{sort_of}
use Rattle.member_choices.specs.declared.choice.Choice.{Choice}
use Rattle.member_choices.specs.Binders.{Binds as ChoicesBind}
use Rattle.member_choices.specs.Choices.{AreBodies, AreChoices, BodiesShow, ChoicesOf, any_choice}
use Rattle.typed_cells.specs.KindSorts.{OfSorts}
use Rattle.member_choices.proofs.MoreChoices.{none_other}
use Rattle.expr_rewriter.specs.declared.settings.Setting.TheVariants.{Binder}
use Rattle.expr_rewriter.specs.Operating.{AreParts}
use Rattle.expr_rewriter.specs.Rewriting.{HasTreeSort}
use Rattle.expr_rewriter.specs.inner.Binding.{Binds, BindsSort, BodiesGive, CanBind, CanBindNode, SetKinds, body_of, sets_of}
use Rattle.expr_rewriter.specs.inner.Parts.{PartsShow}
use Rattle.expr_rewriter.specs.inner.Settings.{setting_of}
use Rattle.expr_rewriter.proofs.Levels.{all_shown, as_tree, some_kind, within_by}
use Rattle.expr_rewriter.proofs.Opening.{Parts, binder_parts, parts_body, parts_sets}
use Rattle.expr_rewriter.proofs.Rows.{is_row}

-- ---- the operator

binder_within : (w : Width) (o : KerOp) (xs : List ℕ) (ks : List Ker) (sc : Scope) (s t : State) → setting_of o ≡ Binder →
    within_at w o xs (with_within w ks) sc s t ≡ lie_at_members w xs (with_within w ks) sc s t
binder_within w ker.Some xs ks sc s t e = refl
binder_within w ker.Every xs ks sc s t e = refl
binder_within w ker.Filter xs ks sc s t e = refl
binder_within w ker.MapOver xs ks sc s t e = refl
binder_within w ker.FunOf xs ks sc s t e = refl
binder_within w o xs ks sc s t e = absurd (cc)

binder_val : (w : Width) (s t : State) (p : Place) (a : Ty) (o : KerOp) (ks : List Ker) (body : Ker) (xs : List ℕ) (sc : Scope) →
    setting_of o ≡ Binder → length ks ≡ length xs →
    ker_val w (tree p a o (ks ++ body ∷ []) xs) sc s t ≡ at_members w s t p (op_of o) ks body xs sc
binder_val w s t p a ker.Some ks body xs sc e n = val_some w s t p a ks body xs sc n
binder_val w s t p a ker.Every ks body xs sc e n = val_every w s t p a ks body xs sc n
binder_val w s t p a ker.Filter ks body xs sc e n = val_filter w s t p a ks body xs sc n
binder_val w s t p a ker.MapOver ks body xs sc e n = val_map w s t p a ks body xs sc n
binder_val w s t p a ker.FunOf ks body xs sc e n = val_function w s t p a ks body xs sc n
binder_val w s t p a o ks body xs sc e n = absurd (cc)

-- ---- sets

-- cells of sets of these kinds of members
abbrev pub SetCells : Build → List Kind → List Cells → Type 0
SetCells b [] [] = Unit {0}
SetCells b [] (x ∷ xs) = ⊥
SetCells b (m ∷ ms) [] = ⊥
SetCells b (m ∷ ms) (x ∷ xs) = AreCells b (set_of (sort_of m)) x × SetCells b ms xs

pub sets_kinds : (names : List Kind) (c : Context) (ks : List Ker) (ms : List Kind) → Sets names c ks ms → SetKinds ks ms
sets_kinds names c [] [] h = tt
sets_kinds names c [] (m ∷ ms) h = absurd h
sets_kinds names c (k ∷ ks) [] h = absurd h
sets_kinds names c (k ∷ ks) (m ∷ ms) h = (h.0.0, sets_kinds names c ks ms h.1)

pub set_cells : (b : Build) (ks : List Ker) (ms : List Kind) (xs : List Cells) → SetKinds ks ms → AreParts b ks xs → SetCells b ms xs
set_cells b [] [] [] h p = tt
set_cells b [] [] (x ∷ xs) h p = absurd p
set_cells b [] (m ∷ ms) xs h p = absurd h
set_cells b (k ∷ ks) [] xs h p = absurd h
set_cells b (k ∷ ks) (m ∷ ms) [] h p = absurd p
set_cells b (k ∷ ks) (m ∷ ms) (x ∷ xs) h p = (p.0 (Set m) h.0, set_cells b ks ms xs h.1 p.1)

pub are_sets : (b : Build) (ms : List Kind) (xs : List Cells) → SetCells b ms xs → All (λ (x : Cells). IsSetCell b x.cell) xs
are_sets b [] [] h = All-nil (λ (x : Cells). IsSetCell b x.cell)
are_sets b [] (x ∷ xs) h = absurd h
are_sets b (m ∷ ms) [] h = absurd h
are_sets b (m ∷ ms) (x ∷ xs) h =
    All-cons (λ (x : Cells). IsSetCell b x.cell) x xs (record { sort = sort_of m; is = h.0.sort }) (are_sets b ms xs h.1)

-- the same of the cells alone
pub set_ids : (b : Build) (xs : List Cells) (ids : List CellId) → ids ≡ map (λ x. x.cell) xs → All (λ (x : Cells). IsSetCell b x.cell) xs →
    All (IsSetCell b) ids
set_ids b xs ids e h = subst (All (IsSetCell b)) (sym e) (by xs h)
  where
    by : (xs : List Cells) → All (λ (x : Cells). IsSetCell b x.cell) xs → All (IsSetCell b) (map (λ x. x.cell) xs)
    by [] h = All-nil (IsSetCell b)
    by (x ∷ xs) h =
        All-cons (IsSetCell b) x.cell (map (λ x. x.cell) xs) (All-head (λ (x : Cells). IsSetCell b x.cell) x xs h)
        (by xs (All-tail (λ (x : Cells). IsSetCell b x.cell) x xs h))

pub set_sorts : (b : Build) (ms : List Kind) (xs : List Cells) → SetCells b ms xs → OfSorts b.arena.kinds (map set_of (map sort_of ms)) (map (λ x. x.cell) xs)
set_sorts b [] [] h = tt
set_sorts b [] (x ∷ xs) h = absurd h
set_sorts b (m ∷ ms) [] h = absurd h
set_sorts b (m ∷ ms) (x ∷ xs) h = (h.0.sort, set_sorts b ms xs h.1)

set_all : (b : Build) (ms : List Kind) (xs : List Cells) → SetCells b ms xs → AllCells b (map set_of (map sort_of ms)) xs
set_all b [] [] h = tt
set_all b [] (x ∷ xs) h = absurd h
set_all b (m ∷ ms) [] h = absurd h
set_all b (m ∷ ms) (x ∷ xs) h = (h.0, set_all b ms xs h.1)

-- the faults of sets, also once the build has grown
pub sets_below : (b d : Build) (ms : List Kind) (xs : List Cells) → Grows b d → SetCells b ms xs →
    All (λ x. FaultsBelow d.formula.vars (faults_of x)) xs
sets_below b d [] [] g h = All-nil (λ x. FaultsBelow d.formula.vars (faults_of x))
sets_below b d [] (x ∷ xs) g h = absurd h
sets_below b d (m ∷ ms) [] g h = absurd h
sets_below b d (m ∷ ms) (x ∷ xs) g h =
    All-cons (λ x. FaultsBelow d.formula.vars (faults_of x)) x xs
    (AreCells-below d (set_of (sort_of m)) x (AreCells-later b d (set_of (sort_of m)) x g h.0)) (sets_below b d ms xs g h.1)

set_value : (l : Layer Value) (xs : List Value) → l ≡ layer.Set xs → set_items l ≡ Some (elements_here l)
set_value l xs e = ap set_items e ∙ ap Some (sym (ap elements_here e))

set_decoded : (b : Build) (a : List Bool) (s : Sort) (id : CellId) → OfSort b.arena.kinds (set_of s) id →
    set_items (out-Value (decode b.arena a id)) ≡ Some (elements (decode b.arena a id))
unfolding elements
set_decoded b a s id h =
    let k = is-set (OfSort b.arena.kinds s) _ h.1 in
    set_value (out-Value (decode b.arena a id)) _
    (ap out-Value (decode-kind b.arena a id b.built h.0 ∙ ap (kind_value b.arena.texts a (decode b.arena a)) k.1) ∙ outs-Set _)

sets_decoded : (b : Build) (a : List Bool) (ms : List Kind) (xs : List Cells) → SetCells b ms xs →
    all_set_items (cell_values b.arena a xs) ≡ Some (map (λ id. elements (decode b.arena a id)) (map (λ x. x.cell) xs))
sets_decoded b a [] [] h = refl
sets_decoded b a [] (x ∷ xs) h = absurd h
sets_decoded b a (m ∷ ms) [] h = absurd h
sets_decoded b a (m ∷ ms) (x ∷ xs) h =
    ap (λ (o : Option (List Value)). option_and_then (λ ys. option_map (λ xss. ys ∷ xss) (all_set_items (cell_values b.arena a xs))) o)
    (set_decoded b a (sort_of m) x.cell h.0.sort)
    ∙ ap (λ (o : Option (List (List Value))). option_map (λ xss. elements (decode b.arena a x.cell) ∷ xss) o) (sets_decoded b a ms xs h.1)

-- ---- what is asked of the choices and the bodies

-- a sound binder's parts
abbrev pub PartsOf : (b : Build) (k : Ker) (sets : List Cells) (cs : List Choice) (bodies : List Cells) → CanBindNode b k sets cs bodies → Type 0
PartsOf b k sets cs bodies c = (a : Kind) × (kind_at k ≡ Some a) × Parts c.names c.context (out-Ker k).op a (out-Ker k).binds (out-Ker k).args

pub parts_of : (b : Build) (k : Ker) (sets : List Cells) (cs : List Choice) (bodies : List Cells) (c : CanBindNode b k sets cs bodies) →
    PartsOf b k sets cs bodies c
parts_of b k sets cs bodies c =
    let z = sound_step c.names k c.context false c.sound in
    (z.0, z.1, binder_parts c.names c.context (out-Ker k).op z.0 (out-Ker k).binds (out-Ker k).args c.binder z.2)

module _ (b : Build) (k : Ker) (sets : List Cells) (cs : List Choice) (bodies : List Cells) (c : CanBindNode b k sets cs bodies) where
  abbrev own : PartsOf b k sets cs bodies c
  own = parts_of b k sets cs bodies c

  abbrev parts : Parts c.names c.context (out-Ker k).op own.0 (out-Ker k).binds (out-Ker k).args
  parts = own.2

  sets_same : sets_of k ≡ parts.sets
  sets_same = parts_sets c.names c.context (out-Ker k).op own.0 (out-Ker k).binds (out-Ker k).args parts

  body_same : body_of k ≡ Some parts.body
  body_same = parts_body c.names c.context (out-Ker k).op own.0 (out-Ker k).binds (out-Ker k).args parts

  pub cells_are : SetCells b parts.members sets
  cells_are =
      set_cells b parts.sets parts.members sets (sets_kinds c.names c.context parts.sets parts.members parts.sets_are)
      (subst (λ ks. AreParts b ks sets) sets_same c.parts)

  choices_are : ChoicesOf b.arena.kinds (map sort_of parts.members) cs
  choices_are =
      c.choices_are parts.members
      (subst (λ ks. SetKinds ks parts.members) (sym sets_same) (sets_kinds c.names c.context parts.sets parts.members parts.sets_are))

  bodies_are : AreBodies b (sort_of parts.kind) cs bodies
  bodies_are = record {
    below = c.below;
    count = c.count;
    cells = All-weaker (HasTreeSort b parts.body) (AreCells b (sort_of parts.kind)) (λ x h. h parts.kind parts.body_is.0) bodies (c.sorts parts.body body_same);
  }

  pub can_bind : CanBind b (out-Ker k).op cs bodies
  can_bind = record {
    kind = own.0;
    members = parts.members;
    body = parts.kind;
    row = is_row (out-Ker k).op own.0 parts.members parts.kind parts.row;
    choices = choices_are;
    bodies_are = bodies_are;
  }

  -- the operator's own cells
  pub own_cells : (d : Build) (r : Cells) → BindsSort b d (out-Ker k).op cs bodies r → AreCells d (sort_of own.0) r
  own_cells d r h = h.cells own.0 parts.members parts.kind (is_row (out-Ker k).op own.0 parts.members parts.kind parts.row) choices_are bodies_are

  pub node_sort : (d e : Build) (x r : Cells) → Grows d e → BindsSort b d (out-Ker k).op cs bodies x → IsStrict e.formula sets x r → HasTreeSort e k r
  node_sort d e x r g h q = λ a i.
      subst (λ u. AreCells e (sort_of u) r) (some_kind own.0 a (sym own.1 ∙ i))
      (AreCells-behind d e (sort_of own.0) x r g (own_cells d x h) q.cell q.below)

  -- ---- the outcome

  module _ (a : List Bool) (sc : Scope) (s t : State) where
    abbrev wide : Width
    wide = Some b.arena.width

    abbrev outs : List Outcome
    outs = vals wide s t parts.sets sc

    abbrev at_values : List Value → Outcome
    at_values vs = ker_val wide parts.body (bind (names_of (out-Ker k).binds) vs sc) s t

    abbrev over : List (List Value) → Outcome
    over vss = strict (map at_values vss) (bound_table (out-Ker k).place (op_of (out-Ker k).op) vss)

    abbrev row : List Value → Outcome
    row vs = on_all_sets (out-Ker k).place (λ xss. over (choices xss)) vs

    outcome : ker_val wide k sc s t ≡ strict outs row
    outcome =
        ap (λ j. ker_val wide j sc s t)
        (as_tree k (out-Ker k).op refl ∙ ap (λ ks. tree (out-Ker k).place (out-Ker k).ty (out-Ker k).op ks (out-Ker k).binds) parts.whole)
        ∙ binder_val wide s t (out-Ker k).place (out-Ker k).ty (out-Ker k).op parts.sets parts.body (out-Ker k).binds sc c.binder parts.count

    abbrev members_of : List (List Value)
    members_of = map (λ id. elements (decode b.arena a id)) (map (λ x. x.cell) sets)

    abbrev lies_at : List Value → Bool
    lies_at vs = is_within wide parts.body (bind (names_of (out-Ker k).binds) vs sc) s t

    within : IsTrue (is_within wide k sc s t) → lie_at_members wide (out-Ker k).binds (with_within wide (parts.sets ++ parts.body ∷ [])) sc s t ≡ true
    within w =
        ap (λ ks. lie_at_members wide (out-Ker k).binds (with_within wide ks) sc s t) (sym parts.whole)
        ∙ sym (binder_within wide (out-Ker k).op (out-Ker k).binds (out-Ker k).args sc s t c.binder)
        ∙ within_by wide k (out-Ker k).op sc s t refl w

    sets_show : IsTrue (is_within wide k sc s t) → PartsShow b.arena a sc s t (sets_of k) sets → AllShow b.arena a sets outs
    sets_show w p =
        all_shown b.arena a sc s t parts.sets sets
        (members_lie wide s t (out-Ker k).binds parts.sets parts.body sc parts.count (within w)).0
        (subst (λ ks. PartsShow b.arena a sc s t ks sets) sets_same p)

    -- where the sets have no fault, each choice is one at which the ranges of the body lie within their bounds
    all_lie : IsTrue (is_within wide k sc s t) → PartsShow b.arena a sc s t (sets_of k) sets → joined outs ≡ NoFault →
        list_all lies_at (choices members_of) ≡ true
    all_lie w p e =
        (members_lie wide s t (out-Ker k).binds parts.sets parts.body sc parts.count (within w)).1 members_of e
        (ap all_set_items (values_shown b.arena a sets outs (sets_show w p) e) ∙ sets_decoded b a parts.members sets cells_are)

    each_there : (cs : List Choice) (p : List Value → Bool) (i : ℕ) (d : Choice) → any_choice a (decode b.arena a) (λ vs. not (p vs)) cs ≡ false → i < length cs →
        lit_value (get_or cs i d).there a ≡ true → p (map (decode b.arena a) (get_or cs i d).cells) ≡ true
    each_there [] p i d h lt l = absurd (omega arith)
    each_there (x ∷ cs) p zero d h lt l = by (lit_value x.there a) (p (map (decode b.arena a) x.cells)) (any_choice a (decode b.arena a) (λ vs. not (p vs)) cs) l h
      where
        by : (l q r : Bool) → l ≡ true → ((l && not q) || r) ≡ false → q ≡ true
        by true true r e h = refl
        by true false r e h = absurd (cc)
        by false q r e h = absurd (cc)
    each_there (x ∷ cs) p (suc i) d h lt l =
        each_there cs p i d (by (lit_value x.there a && not (p (map (decode b.arena a) x.cells))) (any_choice a (decode b.arena a) (λ vs. not (p vs)) cs) h) (omega arith) l
      where
        by : (q r : Bool) → (q || r) ≡ false → r ≡ false
        by true r h = absurd (cc)
        by false r h = h

    bodies_show : IsTrue (is_within wide k sc s t) → PartsShow b.arena a sc s t (sets_of k) sets → BodiesGive b.arena a k sc s t cs bodies →
        AreChoices a (decode b.arena a) cs (choices members_of) → joined outs ≡ NoFault → BodiesShow b.arena a cs bodies at_values
    bodies_show w p g h e = record {
      at = λ i d x lt l.
          g.at parts.body body_same i d x lt l
          (each_there cs lies_at i d (none_other a (decode b.arena a) cs (choices members_of) lies_at h (all_lie w p e)) lt l);
    }

  pub node_binds : (d e : Build) (x r : Cells) → Grows b d → e.arena ≡ d.arena → FormulaGrows d.formula e.formula →
      BindsSort b d (out-Ker k).op cs bodies x → ChoicesBind b d (op_of (out-Ker k).op) cs bodies x → IsStrict e.formula sets x r → Binds b e k sets cs bodies r
  node_binds d e x r g q f i h j = record {
    shows = λ a m sc s t w p l.
        let k' = Grows-formula d e f q in
        let sat = Satisfies-before d e a k' m in
        let all = sets_show a sc s t w p in
        let lists = c.members a (Satisfies-before b d a g sat) in
        let later = AllShow-later b d a (map set_of (map sort_of parts.members)) sets (outs a sc s t) g (set_all b parts.members sets cells_are) all in
        subst (λ (c : Arena). Shows c a r (ker_val (Some b.arena.width) k sc s t)) (sym q)
        (subst (Shows d.arena a r) (sym (outcome a sc s t))
        (j.shows a m d.arena (outs a sc s t) (row a sc s t) later (λ free.
        subst (Shows d.arena a x)
        (sym (ap (λ (vs : List Value). row a sc s t vs) (sym (values_shown d.arena a sets (outs a sc s t) later free) ∙ values_shown b.arena a sets (outs a sc s t) all free)
        ∙ ap (λ (o : Option (List (List Value))). elim o [ None ↦ Wrong (out-Ker k).place | Some xss ↦ over a sc s t (choices xss) ])
        (sets_decoded b a parts.members sets cells_are)))
        (h.shows a sat (out-Ker k).place (choices (members_of a sc s t)) (at_values a sc s t) lists (bodies_show a sc s t w p l lists free)))));
  }
