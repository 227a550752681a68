-- Sets that are made of choices: of the members at which a body is true, of a body's values, and of one cell each.
use Rattle.std.proofs.Common.{◌≡◌, ℕ, zero, suc, ◌+◌, ◌<◌, ◌≤◌, Bool, true, false, ◌&&◌, ◌||◌, List, [], ◌∷◌, ◌++◌, map}
use Rattle.std.proofs.Common.{length, take, get_or, All, refl, ap, ◌∙◌, sym, subst, arith}
use Rattle.std.proofs.lemmas.List.{length-map}
use Rattle.std.proofs.lemmas.List.Elements.{All-cons, All-head, All-nil, All-tail}
use Rattle.sat_formula.specs.declared.lit.Lit.{Lit}
use Rattle.sat_formula.specs.Lit.{lit_value, IsBelow}
use Rattle.sat_formula.specs.Formula.{Satisfies}
use Rattle.tla_values.specs.Sets.{set_of}
use Rattle.tla_values.specs.declared.value.Value.{Value}
use Rattle.tla_values.specs.declared.value.Value.TheVariants as value
use Rattle.tla_meaning.specs.declared.op.Op.TheVariants as op
use Rattle.tla_meaning.specs.declared.outcome.Fault.TheVariants.{NoFault}
use Rattle.tla_meaning.specs.declared.outcome.Outcome.{Outcome}
use Rattle.tla_meaning.specs.Meaning.{kept}
use Rattle.tla_meaning.specs.Outcomes.{joined}
use Rattle.tla_meaning.specs.Shapes.{the_set}
use Rattle.cell_arena.specs.declared.build.Build.{Build}
use Rattle.cell_arena.specs.declared.kinds.CellId.{CellId}
use Rattle.cell_arena.specs.declared.kinds.CellKind.{CellKind}
use Rattle.cell_arena.specs.declared.kinds.CellKind.TheVariants.{Set}
use Rattle.cell_arena.specs.Cells.{Cells as Arena}
use Rattle.cell_arena.specs.Decode.{decode, present}
use Rattle.cell_arena.specs.Growth.{Adds, Decodes, Grows}
use Rattle.cell_arena.proofs.Growing.{Satisfies-before}
use Rattle.cell_merge.specs.Edges.{AreNamed, LeadTo, OneSort, any_edge}
use Rattle.cell_merge.specs.Sorts.{Sort, OfSort, set_of as set_sort, truth}
use Rattle.cell_merge.proofs.SortLaws.{sort-set}
use Rattle.outcome_cells.specs.declared.cells.Cells.{Cells}
use Rattle.outcome_cells.specs.declared.cells.Faults.{Faults}
use Rattle.outcome_cells.specs.Shows.{AreCells, FaultsBelow, faults_of}
use Rattle.outcome_cells.proofs.Joining.{any_map, val_of}
use Rattle.typed_cells.specs.Known.{IsSetOfEdges}
use Rattle.member_choices.specs.declared.choice.Choice.{Choice}
use Rattle.member_choices.specs.Binders.{MakesImages, MakesPart}
use Rattle.member_choices.specs.Choices.{AreBodies, AreChoices, BodiesOfOne, BodiesShow, ChoicesBelow, any_choice}
use Rattle.member_choices.specs.inner.Tests.{AreImagesOf, CollectsCells, HaveValues, JoinsBodies, KeepsMembers}
use Rattle.member_choices.specs.inner.Tests.{cells_of, choice_edges, first_passes}
use Rattle.member_choices.proofs.BinderRows.{images_shown, is_true, kept_shown}
use Rattle.member_choices.proofs.Joined.{all-truths, truths-had, values-shown}
use Rattle.member_choices.proofs.Parts.{kept-any, set-found}
use Rattle.member_choices.proofs.Quantified.{are-over}
use Rattle.member_choices.proofs.Testing.{choices-later}

abbrev Edge : Type 0
Edge = Lit × CellId

-- a new set cell with the faults of the bodies
module _ (mid new : Build) (out : List Edge) (faults : Faults) (id : CellId) (cs : List Choice) (bodies : List Cells)
    (joins : JoinsBodies mid.formula cs bodies faults) (grows : Grows mid new) (adds : Adds mid new (Set out) id) where
  pub set-cells : (s : Sort) → LeadTo mid.arena.kinds s out →
      AreCells new (set_sort s) (record { cell = id; wrong = faults.wrong; big = faults.big })
  set-cells s lead =
      let g = grows.formula.vars in
      let w = joins.below.wrong in
      let b = joins.below.big in
      record { sort = sort-set mid new out s id adds grows lead; wrong = omega arith; big = omega arith }

-- ---- the members at which a body is true

module _ (old mid new : Build) (cs : List Choice) (bodies : List Cells) (out : List Edge) (faults : Faults)
    (id : CellId)
    (are : AreBodies old truth cs bodies) (same : mid.arena ≡ old.arena)
    (keeps : KeepsMembers old.arena mid.formula cs bodies out faults) (grows : Grows mid new)
    (adds : Adds mid new (Set out) id)
    (decodes : Decodes new id (λ a. value.Set (set_of (present a (decode mid.arena a) out)))) where
  kept-value : (a : List Bool) → Satisfies a mid.formula → (vss : List (List Value)) (body : List Value → Outcome) →
      AreChoices a (decode old.arena a) cs vss → BodiesShow old.arena a cs bodies body →
      joined (map body vss) ≡ NoFault →
      the_set (present a (decode old.arena a) out) ≡ the_set (kept vss (map is_true (map (λ vs. val_of (body vs)) vss)))
  kept-value a s vss body choices show calm =
      let t : List Value → Bool = λ vs. is_true (val_of (body vs)) in
      let have = values-shown old.arena a cs bodies body vss are.count choices show calm in
      let turned = truths-had old.arena a cs bodies (λ vs. val_of (body vs)) old.built
      (are-over old cs bodies are).cells are.count have in
      ap (λ xs. value.Set xs) (set-found a (decode old.arena a) out (kept vss (map t vss))
      (λ p. keeps.members a s t turned p ∙ choices (λ vs. t vs && first_passes p vs) ∙ sym (kept-any t p vss)))
      ∙ ap (λ (bs : List Bool). the_set (kept vss bs)) (twice vss)
    where
      twice : (vss : List (List Value)) → map (λ vs. is_true (val_of (body vs))) vss ≡ map is_true
          (map (λ vs. val_of (body vs)) vss)
      twice [] = refl
      twice (vs ∷ vss) = ap (λ (bs : List Bool). is_true (val_of (body vs)) ∷ bs) (twice vss)

  pub makes-part : MakesPart old new op.Filter cs bodies (record { cell = id; wrong = faults.wrong; big = faults.big })
  makes-part = record {
    binds = record {
      shows = λ a s p vss body choices show.
          let s0 = Satisfies-before mid new a grows s in
          record {
            shown = rw (decodes.value a s, same)
                (kept_shown _ _ body vss (keeps.joins.shows a s0 old.arena vss body choices show).shown p _
                (λ e. all-truths old.arena a cs bodies (λ vs. val_of (body vs)) old.built
                (are-over old cs bodies are).cells are.count
                (values-shown old.arena a cs bodies body vss are.count choices show e) vss choices)
                (λ e. kept-value a s0 vss body choices show e));
          };
    };
    cells = λ s h. set-cells mid new out faults id cs bodies keeps.joins grows adds s
        (subst (λ (c : Arena). LeadTo c.kinds s out) (sym same) (keeps.sorts s h));
  }

-- ---- edges to one cell each

edges-push : (cs : List Choice) (ids : List CellId) (i : ℕ) (d : Choice) (e : CellId) → i < length cs → i < length ids →
    choice_edges (take (i + 1) cs) (take (i + 1) ids) ≡ choice_edges (take i cs) (take i ids) ++
    ((get_or cs i d).there, get_or ids i e) ∷ []
edges-push [] ids i d e lt le = absurd (omega arith)
edges-push (c ∷ cs) [] i d e lt le = absurd (omega arith)
edges-push (c ∷ cs) (x ∷ ids) zero d e lt le = refl
edges-push (c ∷ cs) (x ∷ ids) (suc i) d e lt le =
    let n : suc i + 1 ≡ suc (i + 1) = omega arith in
    ap (λ (m : ℕ). choice_edges (take m (c ∷ cs)) (take m (x ∷ ids))) n
    ∙ ap (λ (es : List Edge). (c.there, x) ∷ es) (edges-push cs ids i d e (omega arith) (omega arith))

pub edges-more : (cs : List Choice) (ids : List CellId) (i : ℕ) (d : Choice) (e : CellId) (out after : List Edge) →
    i < length cs → i < length ids →
    out ≡ choice_edges (take i cs) (take i ids) → after ≡ out ++ ((get_or cs i d).there, get_or ids i e) ∷ [] →
    after ≡ choice_edges (take (i + 1) cs) (take (i + 1) ids)
edges-more cs ids i d e out after lt le is pushed =
    pushed ∙ ap (λ (es : List Edge). es ++ ((get_or cs i d).there, get_or ids i e) ∷ []) is
    ∙ sym (edges-push cs ids i d e lt le)

pub edges-named : (n : ℕ) (cs : List Choice) (ids : List CellId) → ChoicesBelow n cs → AreNamed n (choice_edges cs ids)
edges-named n [] ids h = All-nil (λ (e : Edge). IsBelow n e.0)
edges-named n (c ∷ cs) [] h = All-nil (λ (e : Edge). IsBelow n e.0)
edges-named n (c ∷ cs) (x ∷ ids) h =
    let P : Choice → Type 0 = λ c. IsBelow n c.there in
    All-cons (λ (e : Edge). IsBelow n e.0) (c.there, x) (choice_edges cs ids) (All-head P c cs h)
    (edges-named n cs ids (All-tail P c cs h))

pub edges-lead : (ks : List CellKind) (s : Sort) (cs : List Choice) (ids : List CellId) → All (OfSort ks s) ids →
    LeadTo ks s (choice_edges cs ids)
edges-lead ks s [] ids h = All-nil (λ (e : Edge). OfSort ks s e.1)
edges-lead ks s (c ∷ cs) [] h = All-nil (λ (e : Edge). OfSort ks s e.1)
edges-lead ks s (c ∷ cs) (x ∷ ids) h =
    All-cons (λ (e : Edge). OfSort ks s e.1) (c.there, x) (choice_edges cs ids) (All-head (OfSort ks s) x ids h)
    (edges-lead ks s cs ids (All-tail (OfSort ks s) x ids h))

-- what some edge has passes where what some choice gives does
edges-any : (c : Arena) (a : List Bool) (cs : List Choice) (ids : List CellId) (h : List Value → Value)
    (p : Value → Bool) → length ids ≡ length cs →
    HaveValues c a cs ids h → any_edge a (decode c a) p (choice_edges cs ids) ≡ any_choice a (decode c a)
    (λ vs. p (h vs)) cs
unfolding HaveValues
edges-any c a [] ids h p n have = refl
edges-any c a (d ∷ cs) [] h p n have = absurd (omega arith)
edges-any c a (d ∷ cs) (x ∷ ids) h p n have =
    ap (λ t. t || any_edge a (decode c a) p (choice_edges cs ids)) (here (lit_value d.there a) refl)
    ∙ ap (λ t. (lit_value d.there a && p (h (map (decode c a) d.cells))) || t)
    (edges-any c a cs ids h p (omega arith) (λ i e y lt on. have (suc i) e y (omega arith) on))
  where
    here : (t : Bool) → lit_value d.there a ≡ t → (t && p (decode c a x)) ≡ (t && p (h (map (decode c a) d.cells)))
    here true e = ap p (have zero d x (omega arith) e)
    here false e = refl

pub one-sort : (ks : List CellKind) (n : ℕ) (cs : List Choice) (ids : List CellId) (items : List Edge) →
    AreImagesOf ks n cs ids →
    items ≡ choice_edges cs ids → OneSort ks n items
one-sort ks n cs ids items h is = rw is (record {
  sort = h.sort;
  cells = edges-lead ks h.sort cs ids h.cells;
  named = edges-named n cs ids h.below;
})

pub collects : (old new : Build) (cs : List Choice) (ids : List CellId) (items : List Edge) (id : CellId) →
    length ids ≡ length cs →
    items ≡ choice_edges cs ids → IsSetOfEdges old new items id → CollectsCells old new cs ids id
collects old new cs ids items id n is set = record {
  value = λ a s vss h choices have.
      set.value.value a s
      ∙ ap (λ (es : List Edge). value.Set (set_of (present a (decode old.arena a) es))) is
      ∙ ap (λ xs. value.Set xs) (set-found a (decode old.arena a) (choice_edges cs ids) (map h vss)
      (λ p. edges-any old.arena a cs ids h p n have ∙ choices (λ vs. p (h vs)) ∙ sym (any_map p h vss)));
  sort = λ s h. set.sort s (subst (LeadTo old.arena.kinds s) (sym is) (edges-lead old.arena.kinds s cs ids h));
}

-- ---- a body's values

pub bodies-named : (b : Build) (cs : List Choice) (bodies : List Cells) → BodiesOfOne b cs bodies →
    All (λ x. FaultsBelow b.formula.vars (faults_of x)) bodies
bodies-named b cs bodies h = λ i d lt. let p = h.are.cells i d lt in record { wrong = p.wrong; big = p.big }

pub cells-sort : (b : Build) (s : Sort) (bodies : List Cells) → All (AreCells b s) bodies →
    All (OfSort b.arena.kinds s) (cells_of bodies)
cells-sort b s [] h = All-nil (OfSort b.arena.kinds s)
cells-sort b s (x ∷ xs) h =
    All-cons (OfSort b.arena.kinds s) x.cell (cells_of xs) (All-head (AreCells b s) x xs h).sort
    (cells-sort b s xs (All-tail (AreCells b s) x xs h))

pub are-images : (b : Build) (n : ℕ) (cs : List Choice) (bodies : List Cells) (ids : List CellId) →
    BodiesOfOne b cs bodies → b.formula.vars ≤ n →
    ids ≡ cells_of bodies → AreImagesOf b.arena.kinds n cs ids
are-images b n cs bodies ids h le is = rw is (record {
  below = choices-later b.formula.vars n cs h.are.below le;
  count = length-map bodies (λ (x : Cells). x.cell) ∙ h.are.count;
  sort = h.sort;
  cells = cells-sort b h.sort bodies h.are.cells;
})

pub makes-images : (old mid new : Build) (cs : List Choice) (bodies : List Cells) (ids : List CellId) (faults : Faults)
    (id : CellId) → length bodies ≡ length cs →
    mid.arena ≡ old.arena → JoinsBodies mid.formula cs bodies faults → ids ≡ cells_of bodies →
    CollectsCells mid new cs ids id → Grows mid new →
    MakesImages old new op.MapTo cs bodies (record { cell = id; wrong = faults.wrong; big = faults.big })
makes-images old mid new cs bodies ids faults id n same joins ids_are set grows = record {
  binds = record {
    shows = λ a s p vss body choices show.
        let s0 = Satisfies-before mid new a grows s in
        let h : List Value → Value = λ vs. val_of (body vs) in
        record {
          shown = images_shown _ _ body vss (joins.shows a s0 old.arena vss body choices show).shown p
              (decode new.arena a id)
              (λ e. set.value a s vss h (rw same choices)
              (rw (same, ids_are) (values-shown old.arena a cs bodies body vss n choices show e)));
        };
  };
  cells = λ s h.
      let g = grows.formula.vars in
      let w = joins.below.wrong in
      let b = joins.below.big in
      record {
        sort = set.sort s (rw (same, ids_are) (cells-sort old s bodies h));
        wrong = omega arith;
        big = omega arith;
      };
}
