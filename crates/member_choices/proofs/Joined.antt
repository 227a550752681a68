-- The faults of bodies at the choices that are there, and their values where there is none.
use Rattle.std.proofs.Common.{◌≡◌, ℕ, ◌<◌, Bool, true, false, not, ◌&&◌, List, [], ◌∷◌, map, length, get_or, All, refl}
use Rattle.std.proofs.Common.{ap, ◌∙◌, sym, arith}
use Rattle.std.specs.Prelude.{if◌then◌else◌}
use Rattle.std.specs.List.{list_any, list_all}
use Rattle.std.proofs.lemmas.List.{get_or-map, length-map}
use Rattle.std.proofs.lemmas.List.Elements.{All-cons, All-head, All-tail}
use Rattle.sat_formula.specs.declared.lit.Lit.{Lit}
use Rattle.sat_formula.specs.declared.cnf.Cnf.{Cnf}
use Rattle.sat_formula.specs.Lit.{lit_value, IsBelow}
use Rattle.sat_formula.specs.Formula.{HasValue, Grows}
use Rattle.sat_formula.proofs.Extension.{Satisfies-older}
use Rattle.sat_formula.proofs.GateClauses.{lit_value-negation}
use Rattle.tla_values.specs.declared.value.Value.{Value}
use Rattle.tla_values.specs.declared.value.Value.TheVariants as value
use Rattle.tla_meaning.specs.declared.outcome.Fault.TheVariants.{NoFault}
use Rattle.tla_meaning.specs.declared.outcome.Outcome.{Outcome}
use Rattle.tla_meaning.specs.declared.outcome.Outcome.TheVariants.{Val, Wrong, Big}
use Rattle.tla_meaning.specs.Outcomes.{joined}
use Rattle.tla_meaning.specs.Meaning.{truth_of}
use Rattle.cell_arena.specs.declared.kinds.CellId.{CellId}
use Rattle.cell_arena.specs.Cells.{Cells as Arena, WellBuilt, kind_at}
use Rattle.cell_arena.specs.Decode.{decode, kind_value}
use Rattle.cell_arena.proofs.Decoding.{decode-kind}
use Rattle.cell_merge.specs.Sorts.{OfSort, truth}
use Rattle.cell_merge.proofs.Edges.{is-bit}
use Rattle.outcome_cells.specs.Bits.{AreBits}
use Rattle.outcome_cells.specs.declared.cells.Cells.{Cells}
use Rattle.outcome_cells.specs.declared.cells.Faults.{Faults}
use Rattle.outcome_cells.specs.Shown.{Shown, big_fault, is_wrong, is_big, wrong_fault}
use Rattle.outcome_cells.specs.Shows.{FaultsBelow, faults_of}
use Rattle.outcome_cells.proofs.Joining.{all_map, items_shown, val_of}
use Rattle.outcome_cells.proofs.Truths.{bits-count}
use Rattle.member_choices.specs.declared.choice.Choice.{Choice}
use Rattle.member_choices.specs.Choices.{AreChoices, BodiesShow}
use Rattle.member_choices.specs.inner.Tests.{AreTurned, FindsBody, HaveValues, IsAny, JoinsBodies, TestsChoices}
use Rattle.member_choices.specs.inner.Tests.{cells_of}
use Rattle.member_choices.proofs.Testing.{all-unless, any-none, none-at}
use Rattle.member_choices.proofs.BinderRows.{is_true, is_truth, there, true_here}

pub negated-lit : (l m : Lit) (a : List Bool) → m ≡ record { var = l.var; neg = not l.neg } →
    lit_value m a ≡ not (lit_value l a)
negated-lit l m a e = ap (λ (x : Lit). lit_value x a) e ∙ lit_value-negation l a

-- ---- the literals of faults

pub below-wrongs : (n : ℕ) (xs : List Cells) → All (λ x. FaultsBelow n (faults_of x)) xs →
    All (IsBelow n) (map (λ x. x.wrong) xs)
below-wrongs n xs h = λ i d lt.
    let x : Cells = record { cell = record { index = 0 }; wrong = d; big = d } in
    let m : length (map (λ (y : Cells). y.wrong) xs) ≡ length xs = length-map xs (λ (y : Cells). y.wrong) in
    let le : i < length xs = omega arith in
    rw (get_or-map (λ (y : Cells). y.wrong) xs i x d le) (h i x le).wrong

pub below-bigs : (n : ℕ) (xs : List Cells) → All (λ x. FaultsBelow n (faults_of x)) xs →
    All (IsBelow n) (map (λ x. x.big) xs)
below-bigs n xs h = λ i d lt.
    let x : Cells = record { cell = record { index = 0 }; wrong = d; big = d } in
    let m : length (map (λ (y : Cells). y.big) xs) ≡ length xs = length-map xs (λ (y : Cells). y.big) in
    let le : i < length xs = omega arith in
    rw (get_or-map (λ (y : Cells). y.big) xs i x d le) (h i x le).big

module _ (c : Arena) (a : List Bool) (cs : List Choice) (bodies : List Cells) (body : List Value → Outcome)
    (n : length bodies ≡ length cs) (show : BodiesShow c a cs bodies body) where
  wrongs-test : TestsChoices a (decode c a) cs (map (λ x. x.wrong) bodies) (λ vs. is_wrong (body vs))
  unfolding TestsChoices
  wrongs-test = λ i d l lt on.
      let x : Cells = record { cell = record { index = 0 }; wrong = l; big = l } in
      ap (λ m. lit_value m a) (get_or-map (λ (y : Cells). y.wrong) bodies i x l (omega arith))
      ∙ (show.at i d x lt on).shown.wrong

  bigs-test : TestsChoices a (decode c a) cs (map (λ x. x.big) bodies) (λ vs. is_big (body vs))
  unfolding TestsChoices
  bigs-test = λ i d l lt on.
      let x : Cells = record { cell = record { index = 0 }; wrong = l; big = l } in
      ap (λ m. lit_value m a) (get_or-map (λ (y : Cells). y.big) bodies i x l (omega arith))
      ∙ (show.at i d x lt on).shown.big

-- the faults that are joined: one gate over those that are Wrong, one over those that are Big, and one that tells
pub bodies-join : (f g h : Cnf) (cs : List Choice) (bodies : List Cells) (ws bs : List Lit) (w nw b r : Lit) →
    length bodies ≡ length cs →
    ws ≡ map (λ x. x.wrong) bodies → bs ≡ map (λ x. x.big) bodies → IsAny f cs ws w → IsAny g cs bs b → Grows f g →
    Grows g h →
    ((a : List Bool) → lit_value nw a ≡ not (lit_value w a)) → HasValue h r (λ a. lit_value nw a && lit_value b a) →
    JoinsBodies h cs bodies (record { wrong = w; big = r })
bodies-join f g h cs bodies ws bs w nw b r n ws_is bs_is wrong big fg gh negated both = record {
  below = record { wrong = let p = wrong.below in let q = fg.vars in let u = gh.vars in omega arith; big = both.below };
  shows = λ a s c vss body choices show. record {
    shown =
        let s1 = Satisfies-older g h a gh s in
        let s0 = Satisfies-older f g a fg s1 in
        let t = items_shown body vss in
        let w_is : lit_value w a ≡ list_any (λ vs. is_wrong (body vs)) vss =
        wrong.value a s0 (decode c a) (λ vs. is_wrong (body vs)) (rw ws_is (wrongs-test c a cs bodies body n show))
        ∙ choices (λ vs. is_wrong (body vs)) in
        let b_is : lit_value b a ≡ list_any (λ vs. is_big (body vs)) vss =
        big.value a s1 (decode c a) (λ vs. is_big (body vs)) (rw bs_is (bigs-test c a cs bodies body n show))
        ∙ choices (λ vs. is_big (body vs)) in
        record {
          wrong = w_is ∙ t.wrong;
          big = both.value a s ∙ ap (λ x. x && lit_value b a) (negated a ∙ ap not w_is)
              ∙ ap (λ x. not (list_any (λ vs. is_wrong (body vs)) vss) && x) b_is ∙ t.big;
        };
  };
}

pub joins-later : (f g : Cnf) (cs : List Choice) (bodies : List Cells) (r : Faults) → Grows f g →
    JoinsBodies f cs bodies r → JoinsBodies g cs bodies r
joins-later f g cs bodies r grows h = record {
  below = let w = h.below.wrong in let b = h.below.big in let n = grows.vars in
      record { wrong = omega arith; big = omega arith };
  shows = λ a s. h.shows a (Satisfies-older f g a grows s);
}

-- ---- values where there is no fault

calm_value : (w b : Bool) (v : Value) (o : Outcome) → Shown w b v o → is_wrong o ≡ false → is_big o ≡ false →
    v ≡ val_of o
calm_value w b v (Val x) h e k = h.value x refl
calm_value w b v (Wrong p) h e k = absurd (cc)
calm_value w b v (Big p) h e k = absurd (cc)

pub values-shown : (c : Arena) (a : List Bool) (cs : List Choice) (bodies : List Cells) (body : List Value → Outcome)
    (vss : List (List Value)) → length bodies ≡ length cs → AreChoices a (decode c a) cs vss →
    BodiesShow c a cs bodies body →
    joined (map body vss) ≡ NoFault → HaveValues c a cs (cells_of bodies) (λ vs. val_of (body vs))
unfolding HaveValues
values-shown c a cs bodies body vss n choices show calm =
    let t = items_shown body vss in
    let no_wrong : list_any (λ vs. is_wrong (body vs)) vss ≡ false = t.wrong ∙ ap (λ f. wrong_fault f) calm in
    let no_big : list_any (λ vs. is_big (body vs)) vss ≡ false =
    ap (λ x. not x && list_any (λ vs. is_big (body vs)) vss) (sym no_wrong) ∙ t.big ∙ ap (λ f. big_fault f) calm in
    λ i d id lt on.
    let x : Cells = record {
      cell = id;
      wrong = record { var = 0; neg = false };
      big = record { var = 0; neg = false };
    } in
    ap (decode c a) (get_or-map (λ (y : Cells). y.cell) bodies i x id (omega arith))
    ∙ calm_value _ _ _ _ (show.at i d x lt on).shown
    (none-at a (decode c a) (λ vs. is_wrong (body vs)) cs (choices (λ vs. is_wrong (body vs)) ∙ no_wrong) i d lt on)
    (none-at a (decode c a) (λ vs. is_big (body vs)) cs (choices (λ vs. is_big (body vs)) ∙ no_big) i d lt on)

-- ---- truth values

pub truth-cell : (c : Arena) (a : List Bool) (id : CellId) → WellBuilt c → OfSort c.kinds truth id →
    (t : Bool) × (decode c a id ≡ value.Bool t)
truth-cell c a id built h =
    let k = is-bit (kind_at c.kinds id) h.1 in
    (lit_value k.0 a, decode-kind c a id built h.0 ∙ ap (kind_value c.texts a (decode c a)) k.1)

true-of : (t : Bool) → is_true (value.Bool t) ≡ t
true-of t = ap (λ l. true_here (truth_of l)) (value.outs-Bool t)

truth-of : (t : Bool) → is_truth (value.Bool t) ≡ true
truth-of t = ap (λ l. there (truth_of l)) (value.outs-Bool t)

-- what truth values have is one
module _ (c : Arena) (a : List Bool) (cs : List Choice) (bodies : List Cells) (h : List Value → Value)
    (built : WellBuilt c)
    (truths : All (λ x. OfSort c.kinds truth x.cell) bodies) (n : length bodies ≡ length cs)
    (have : HaveValues c a cs (cells_of bodies) h) where
  one : (i : ℕ) (d : Choice) → i < length cs → lit_value (get_or cs i d).there a ≡ true →
      (t : Bool) × (h (map (decode c a) (get_or cs i d).cells) ≡ value.Bool t)
  unfolding HaveValues
  one i d lt on =
      let id : CellId = record { index = 0 } in
      let x : Cells = record {
        cell = id;
        wrong = record { var = 0; neg = false };
        big = record { var = 0; neg = false };
      } in
      let r = truth-cell c a (get_or bodies i x).cell built (truths i x (omega arith)) in (
        r.0,
        sym (have i d id lt on) ∙ ap (decode c a) (get_or-map (λ (y : Cells). y.cell) bodies i x id (omega arith))
            ∙ r.1,
      )

  pub truths-had : HaveValues c a cs (cells_of bodies) (λ vs. value.Bool (is_true (h vs)))
  unfolding HaveValues
  truths-had = λ i d id lt on.
      let r = one i d lt on in
      have i d id lt on ∙ r.1 ∙ ap (λ t. value.Bool t) (sym (true-of r.0) ∙ ap is_true (sym r.1))

  pub all-truths : (vss : List (List Value)) → AreChoices a (decode c a) cs vss → list_all is_truth (map h vss) ≡ true
  all-truths vss choices =
      all_map is_truth h vss
      ∙ all-unless (λ vs. is_truth (h vs)) vss
      (sym (choices (λ vs. not (is_truth (h vs))))
      ∙ any-none a (decode c a) (λ vs. not (is_truth (h vs))) cs
      (λ i d lt on. let r = one i d lt on in ap not (ap is_truth r.1 ∙ truth-of r.0)))

-- ---- the literals of truth values

pub turned-same : (c : Arena) (bodies : List Cells) (ls : List Lit) → AreBits c bodies ls → AreTurned c bodies true ls
turned-same c bodies ls h = record { named = h.named; count = bits-count c bodies ls h; values = h.values }

pub turned-other : (c : Arena) (bodies : List Cells) (ls ms : List Lit) → AreBits c bodies ls →
    ms ≡ map (λ (l : Lit). record { var = l.var; neg = not l.neg }) ls → AreTurned c bodies false ms
turned-other c bodies ls ms h is = rw is (record {
  named = below ls h.named;
  count = length-map ls (λ (l : Lit). record { var = l.var; neg = not l.neg }) ∙ bits-count c bodies ls h;
  values = λ a. h.values a ∙ twice a ls;
})
  where
    below : (ls : List Lit) → All (IsBelow c.vars) ls →
        All (IsBelow c.vars) (map (λ (l : Lit). record { var = l.var; neg = not l.neg }) ls)
    below [] h = h
    below (l ∷ ls) h = All-cons (IsBelow c.vars) (record { var = l.var; neg = not l.neg }) _
        (All-head (IsBelow c.vars) l ls h)
        (below ls (All-tail (IsBelow c.vars) l ls h))

    back : (t : Bool) → t ≡ not (not t)
    back true = refl
    back false = refl

    twice : (a : List Bool) (ls : List Lit) → map (λ l. value.Bool (lit_value l a)) ls ≡
        map (λ l. value.Bool (not (lit_value l a))) (map (λ (l : Lit). record { var = l.var; neg = not l.neg }) ls)
    twice a [] = refl
    twice a (l ∷ ls) =
        ap (λ t. value.Bool t ∷ map (λ l. value.Bool (lit_value l a)) ls) (back (lit_value l a)
        ∙ ap not (sym (lit_value-negation l a)))
        ∙ ap (λ vs. value.Bool (not (lit_value (record { var = l.var; neg = not l.neg }) a)) ∷ vs) (twice a ls)

one-bool : (x y : Bool) → value.Bool x ≡ value.Bool y → x ≡ y
one-bool x y e = sym (true-of x) ∙ ap is_true e ∙ true-of y

pub bits-test : (c : Arena) (a : List Bool) (cs : List Choice) (bodies : List Cells) (wanted : Bool) (ls : List Lit)
    (t : List Value → Bool) →
    length bodies ≡ length cs → AreTurned c bodies wanted ls →
    HaveValues c a cs (cells_of bodies) (λ vs. value.Bool (t vs)) →
    TestsChoices a (decode c a) cs ls (λ vs. if wanted then t vs else not (t vs))
unfolding HaveValues TestsChoices
bits-test c a cs bodies wanted ls t n turned have = λ i d l lt on.
    let id : CellId = record { index = 0 } in
    let x : Cells = record { cell = id; wrong = l; big = l } in
    let lb : i < length bodies = omega arith in
    let m = turned.count in
    let ll : i < length ls = omega arith in
    let v : Value = value.Bool false in
    turn wanted (lit_value (get_or ls i l) a) (t (map (decode c a) (get_or cs i d).cells))
    (one-bool _ _ (sym (get_or-map (λ (l : Lit). value.Bool (if wanted then lit_value l a else not (lit_value l a))) ls
    i l v ll)
    ∙ ap (λ (vs : List Value). get_or vs i v) (sym (turned.values a))
    ∙ get_or-map (λ (y : Cells). decode c a y.cell) bodies i x v lb
    ∙ ap (decode c a) (sym (get_or-map (λ (y : Cells). y.cell) bodies i x id lb)) ∙ have i d id lt on))
  where
    turn : (w l t : Bool) → (if w then l else not l) ≡ t → l ≡ (if w then t else not t)
    turn true l t e = e
    turn false true t e = ap not e
    turn false false t e = ap not e

pub finds-body : (c : Arena) (f g : Cnf) (cs : List Choice) (bodies : List Cells) (wanted : Bool) (ls : List Lit)
    (l : Lit) (r : Faults) →
    length bodies ≡ length cs → Grows f g → JoinsBodies f cs bodies r → AreTurned c bodies wanted ls → IsAny g cs ls l →
    FindsBody c g cs bodies wanted (l, r)
finds-body c f g cs bodies wanted ls l r n grows joins turned any = record {
  joins = joins-later f g cs bodies r grows joins;
  below = any.below;
  value = λ a s t have. any.value a s (decode c a) (λ vs. if wanted then t vs else not (t vs))
      (bits-test c a cs bodies wanted ls t n turned have);
}
