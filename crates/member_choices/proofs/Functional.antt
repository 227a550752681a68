-- The function from choices to the values of bodies.
use Rattle.std.proofs.Common.{◌≡◌, ℕ, ◌<◌, ◌+◌, Bool, true, false, not, ◌&&◌, if◌then◌else◌, List, [], ◌∷◌, map, zip}
use Rattle.std.proofs.Common.{length, get_or, All, refl, ap, ◌∙◌, sym, subst, arith}
use Rattle.std.specs.List.{list_all}
use Rattle.std.proofs.lemmas.List.{length-map}
use Rattle.std.proofs.lemmas.List.Elements.{All-cons, All-nil, All-weaker}
use Rattle.sat_formula.specs.declared.lit.Lit.{Lit}
use Rattle.sat_formula.specs.Formula.{Satisfies, Grows as FormulaGrows}
use Rattle.sat_formula.proofs.Extension.{Satisfies-older}
use Rattle.tla_values.specs.Order.{same_value}
use Rattle.tla_values.specs.Sets.{function_of}
use Rattle.tla_values.specs.declared.value.Value.{Value}
use Rattle.tla_values.specs.declared.value.Value.TheVariants as value
use Rattle.tla_values.proofs.Extensional.{same_equal, same_itself}
use Rattle.tla_meaning.specs.declared.op.Op.TheVariants as op
use Rattle.tla_meaning.specs.declared.outcome.Fault.TheVariants.{NoFault}
use Rattle.tla_meaning.specs.declared.outcome.Outcome.{Outcome}
use Rattle.tla_meaning.specs.Meaning.{argument}
use Rattle.tla_meaning.specs.Outcomes.{joined}
use Rattle.tla_meaning.specs.Shapes.{numbered, the_function}
use Rattle.cell_arena.specs.declared.build.Build.{Build}
use Rattle.cell_arena.specs.declared.kinds.CellId.{CellId}
use Rattle.cell_arena.specs.declared.kinds.CellKind.{CellKind}
use Rattle.cell_arena.specs.declared.kinds.CellKind.TheVariants.{Fun}
use Rattle.cell_arena.specs.Cells.{Cells as Arena}
use Rattle.cell_arena.specs.Decode.{decode, present_pairs}
use Rattle.cell_arena.specs.Growth.{Adds, Decodes, Grows}
use Rattle.cell_arena.proofs.Growing.{Satisfies-before}
use Rattle.cell_merge.specs.Arrows.{LeadFrom, pairs_of}
use Rattle.cell_merge.specs.Sorts.{Sort, OfSort}
use Rattle.cell_merge.proofs.Edges.{sort-there}
use Rattle.cell_merge.proofs.SortLaws.{OfSort-later, sort-function}
use Rattle.outcome_cells.specs.declared.cells.Cells.{Cells}
use Rattle.outcome_cells.specs.declared.cells.Faults.{Faults}
use Rattle.outcome_cells.specs.Shows.{AreCells}
use Rattle.outcome_cells.proofs.Joining.{val_of}
use Rattle.typed_cells.specs.KindSorts.{OfSorts}
use Rattle.typed_cells.proofs.PartSorts.{sorts-count}
use Rattle.member_choices.specs.declared.choice.Choice.{Choice}
use Rattle.member_choices.specs.Binders.{MakesFunction, argument_sort}
use Rattle.member_choices.specs.Choices.{AreChoices, BodiesOfOne, BodiesShow, ChoicesOf, ChoicesOfSome}
use Rattle.member_choices.specs.inner.Tests.{AreWholes, HaveValues, JoinsBodies, cells_of, choice_arrows, whole_sort}
use Rattle.member_choices.specs.inner.Tests.{whole_value}
use Rattle.member_choices.proofs.BinderRows.{function_shown}
use Rattle.member_choices.proofs.Collected.{cells-sort}
use Rattle.member_choices.proofs.Graphed.{arrows-lead, functions-one}
use Rattle.member_choices.proofs.Joined.{values-shown}
use Rattle.member_choices.proofs.Moved.{choices-move, values-move, wholes-have}
use Rattle.member_choices.proofs.Placing.{pairs-fun}
use Rattle.member_choices.proofs.Testing.{all-unless, any-none}
use Rattle.member_choices.proofs.Tupled.{ChoicesOf-later}

abbrev Arrow : Type 0
Arrow = Lit × CellId × CellId

-- ---- the values of which an argument is made

is_alone : List Sort → Bool
is_alone (s ∷ []) = true
is_alone ss = false

parts : Bool → Value → List Value
parts alone v = if alone then v ∷ [] else map (λ q. q.1) (pairs_of v)

results : (n : ℕ) (vs : List Value) → map (λ (q : Value × Value). q.1) (numbered n vs) ≡ vs
results n [] = refl
results n (v ∷ vs) = ap (λ l. v ∷ l) (results (n + 1) vs)

parts-argument : (ss : List Sort) (vs : List Value) → length vs ≡ length ss → parts (is_alone ss) (argument vs) ≡ vs
unfolding is_alone parts
parts-argument [] [] e = ap (map (λ (q : Value × Value). q.1)) (pairs-fun [])
parts-argument [] (v ∷ vs) e = absurd (omega arith)
parts-argument (s ∷ []) [] e = absurd (omega arith)
parts-argument (s ∷ []) (v ∷ []) e = refl
parts-argument (s ∷ []) (v ∷ w ∷ vs) e = absurd (omega arith)
parts-argument (s ∷ t ∷ ss) [] e = absurd (omega arith)
parts-argument (s ∷ t ∷ ss) (v ∷ []) e = absurd (omega arith)
parts-argument (s ∷ t ∷ ss) (v ∷ w ∷ vs) e =
    ap (map (λ (q : Value × Value). q.1)) (pairs-fun (numbered 1 (v ∷ w ∷ vs))) ∙ results 1 (v ∷ w ∷ vs)

-- a rule for the arguments of choices of one number of cells, and so for those of the language
module _ (c : Arena) (a : List Bool) (ss : List Sort) (cs : List Choice) (vss : List (List Value))
    (h : List Value → Value)
    (are : ChoicesOf c.kinds ss cs) (choices : AreChoices a (decode c a) cs vss) where
  rule : Value → Value
  rule v = h (parts (is_alone ss) v)

  follows : (xs : List CellId) → OfSorts c.kinds ss xs → h (map (decode c a) xs) ≡ rule (argument (map (decode c a) xs))
  unfolding rule
  follows xs k = ap h (sym (parts-argument ss (map (decode c a) xs) (length-map xs (decode c a)
      ∙ sorts-count c.kinds ss xs k)))

  of-choices : All (λ (d : Choice). h (map (decode c a) d.cells) ≡ rule (argument (map (decode c a) d.cells))) cs
  of-choices = λ i d lt. follows (get_or cs i d).cells (are i d lt)

  test : List Value → Bool
  test vs = same_value (h vs) (rule (argument vs))

  all-pass : list_all test vss ≡ true
  unfolding test
  all-pass = all-unless test vss
      (sym (choices (λ vs. not (test vs)))
      ∙ any-none a (decode c a) (λ vs. not (test vs)) cs (λ i d lt on.
      ap not (subst (λ v. same_value (h (map (decode c a) (get_or cs i d).cells)) v ≡ true) (of-choices i d lt)
      (same_itself (h (map (decode c a) (get_or cs i d).cells))))))

  of-all : All (λ vs. h vs ≡ rule (argument vs)) vss
  unfolding test
  of-all = each vss all-pass
    where
      both : (p q : Bool) → (p && q) ≡ true → (p ≡ true) × (q ≡ true)
      both true q e = (refl, e)
      both false q e = absurd (cc)

      each : (wss : List (List Value)) → list_all test wss ≡ true → All (λ vs. h vs ≡ rule (argument vs)) wss
      each [] e = All-nil (λ vs. h vs ≡ rule (argument vs))
      each (vs ∷ wss) e =
          let b = both (test vs) (list_all test wss) e in
          All-cons (λ vs. h vs ≡ rule (argument vs)) vs wss (same_equal (h vs) (rule (argument vs)) b.0) (each wss b.1)

  pub functions-same : (xs ys : List CellId) → length xs ≡ length cs → length ys ≡ length cs →
      HaveValues c a cs xs argument → HaveValues c a cs ys h →
      function_of (present_pairs a (decode c a) (choice_arrows cs xs ys)) ≡ function_of
      (zip (map argument vss) (map h vss))
  functions-same xs ys n m p q = functions-one c a cs vss xs ys h rule n m choices p q of-choices of-all

-- ---- the cell

pub arrows-there : (ks : List CellKind) (s t : Sort) (es : List Arrow) → LeadFrom ks s t es →
    All (λ (e : Arrow). (e.1.index < length ks) × (e.2.index < length ks)) es
arrows-there ks s t es h =
    All-weaker (λ (e : Arrow). OfSort ks s e.1 × OfSort ks t e.2)
    (λ (e : Arrow). (e.1.index < length ks) × (e.2.index < length ks))
    (λ e p. (sort-there ks s e.1 p.0, sort-there ks t e.2 p.1)) es h

bodies-there : (b : Build) (s : Sort) (bodies : List Cells) → All (AreCells b s) bodies →
    All (λ (x : CellId). x.index < length b.arena.kinds) (cells_of bodies)
bodies-there b s bodies h =
    All-weaker (OfSort b.arena.kinds s) (λ (x : CellId). x.index < length b.arena.kinds)
    (λ x p. sort-there b.arena.kinds s x p) (cells_of bodies)
    (cells-sort b s bodies h)

module _ (old mid : Build) (cs : List Choice) (bodies : List Cells) (args ys : List CellId) (arrows : List Arrow)
    (are : BodiesOfOne old cs bodies) (some : ChoicesOfSome old.arena.kinds cs) (before : Grows old mid)
    (wholes : AreWholes old mid (whole_value true) (whole_sort true) cs (length cs) args)
    (ys_are : ys ≡ cells_of bodies) (arrows_are : arrows ≡ choice_arrows cs args ys) where
  lead : (ss : List Sort) (s : Sort) → ChoicesOf old.arena.kinds ss cs → All (AreCells old s) bodies →
      LeadFrom mid.arena.kinds (argument_sort ss) s arrows
  lead ss s h k =
      subst (LeadFrom mid.arena.kinds (argument_sort ss) s) (sym arrows_are)
      (arrows-lead mid.arena.kinds (argument_sort ss) s cs args ys (wholes.sorts ss h)
      (subst (All (OfSort mid.arena.kinds s)) (sym ys_are)
      (All-weaker (OfSort old.arena.kinds s) (OfSort mid.arena.kinds s) (λ x p. OfSort-later old mid s x p before)
      (cells_of bodies)
      (cells-sort old s bodies k))))

  pub arrows-older : All (λ (e : Arrow). (e.1.index < length mid.arena.kinds) × (e.2.index < length mid.arena.kinds))
      arrows
  arrows-older = arrows-there mid.arena.kinds (argument_sort some.sorts) are.sort arrows
      (lead some.sorts are.sort some.are are.are.cells)

  module _ (late new : Build) (faults : Faults) (id : CellId) (same : late.arena ≡ mid.arena)
      (fg : FormulaGrows mid.formula late.formula)
      (joins : JoinsBodies late.formula cs bodies faults) (grows : Grows late new)
      (adds : Adds late new (Fun arrows) id)
      (decodes : Decodes new id (λ a. value.Fun (function_of (present_pairs a (decode late.arena a) arrows)))) where
    function-value : (a : List Bool) → Satisfies a late.formula →
        (vss : List (List Value)) (body : List Value → Outcome) →
        AreChoices a (decode old.arena a) cs vss → BodiesShow old.arena a cs bodies body →
        joined (map body vss) ≡ NoFault →
        value.Fun (function_of (present_pairs a (decode late.arena a) arrows)) ≡ the_function
        (zip (map argument vss) (map (λ vs. val_of (body vs)) vss))
    function-value a s vss body choices show calm =
        let s1 = Satisfies-older mid.formula late.formula a fg s in
        let ss : List Sort = some.sorts in
        let h : List Value → Value = λ vs. val_of (body vs) in
        let n : length ys ≡ length cs = ap (λ (xs : List CellId). length xs) ys_are
        ∙ length-map bodies (λ (x : Cells). x.cell) ∙ are.are.count in
        let moved = choices-move old mid a ss before cs vss some.are choices in
        let have : HaveValues mid.arena a cs ys h = subst (λ (xs : List CellId). HaveValues mid.arena a cs xs h)
        (sym ys_are)
        (values-move old mid a ss before cs (cells_of bodies) h some.are (length-map bodies (λ (x : Cells). x.cell)
        ∙ are.are.count) (bodies-there old are.sort bodies are.are.cells)
        (values-shown old.arena a cs bodies body vss are.are.count choices show calm)) in
        ap (λ (d : Arena). value.Fun (function_of (present_pairs a (decode d a) arrows))) same
        ∙ ap (λ (es : List Arrow). value.Fun (function_of (present_pairs a (decode mid.arena a) es))) arrows_are
        ∙ ap (λ ps. value.Fun ps) (functions-same mid.arena a ss cs vss h
        (ChoicesOf-later old mid ss cs before some.are) moved args ys wholes.count n
        (wholes-have old mid a ss before (whole_value true) (whole_sort true) cs args some.are s1 wholes) have)

    pub makes-function : MakesFunction old new op.Lambda cs bodies
        (record { cell = id; wrong = faults.wrong; big = faults.big })
    makes-function = record {
      binds = record {
        shows = λ a s p vss body choices show.
            let s0 = Satisfies-before late new a grows s in
            record {
              shown = rw (decodes.value a s) (function_shown _ _ body vss
                  (joins.shows a s0 old.arena vss body choices show).shown p _
                  (λ e. function-value a s0 vss body choices show e));
            };
      };
      cells = λ ss s h k.
          let g = grows.formula.vars in
          let w = joins.below.wrong in
          let b = joins.below.big in
          record {
            sort = sort-function late new arrows (argument_sort ss) s id adds grows
                (subst (λ (d : Arena). LeadFrom d.kinds (argument_sort ss) s arrows) (sym same) (lead ss s h k));
            wrong = omega arith;
            big = omega arith;
          };
    }
