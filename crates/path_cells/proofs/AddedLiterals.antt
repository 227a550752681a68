-- The literals of a path behind one step more.
use Rattle.std.proofs.Common.{◌≡◌, ◌<◌, ℕ, Bool, true, false, not, ◌&&◌, ◌||◌, List, ◌∷◌, All, refl, sym, ◌∙◌, ap, ap₂, subst}
use Rattle.std.specs.List.{list_all, list_any}
use Rattle.std.proofs.lemmas.List.Elements.{All-cons}
use Rattle.sat_formula.specs.declared.cnf.Cnf.{Cnf}
use Rattle.sat_formula.specs.declared.lit.Lit.{Lit}
use Rattle.sat_formula.specs.Formula.{Grows, HasValue, Satisfies}
use Rattle.sat_formula.specs.Lit.{IsBelow, lit_value, top_lit}
use Rattle.sat_formula.proofs.Extension.{Grows-trans, HasValue-later, HasValue-same, Satisfies-older}
use Rattle.path_walks.specs.declared.answer.PathCells.{PathCells}
use Rattle.path_walks.specs.declared.answer.StepCells.{StepCells}
use Rattle.path_walks.specs.inner.Walks.{AddsLiterals, all_true}
use Rattle.path_cells.specs.inner.Steps.{LiteralsBelow, StepBelow, all_literals, is_never, negation, the_bottom}
use Rattle.path_cells.proofs.Shown.{negated, never_all, never_true, true_false}

-- ---- the literals that are all true

pub all_below : (n : ℕ) (x : PathCells) (m : StepCells) → LiteralsBelow n x → StepBelow n m → All (IsBelow n) (all_literals x.holds m)
all_below n x m h s =
    All-cons (IsBelow n) x.holds (negation m.faults.wrong ∷ negation m.faults.big ∷ m.choices) h.holds
    (All-cons (IsBelow n) (negation m.faults.wrong) (negation m.faults.big ∷ m.choices) s.faults.wrong
    (All-cons (IsBelow n) (negation m.faults.big) m.choices s.faults.big s.choices))

turned : (p w b c : Bool) → (p && (not w && (not b && c))) ≡ (p && (c && (not w && not b)))
turned true true b true = refl
turned true true b false = refl
turned true false true true = refl
turned true false true false = refl
turned true false false true = refl
turned true false false false = refl
turned false w b c = refl

pub all_value : (l : Lit) (m : StepCells) (a : List Bool) →
    list_all (λ l. lit_value l a) (all_literals l m)
    ≡ (lit_value l a && (all_true m.choices a && (not (lit_value m.faults.wrong a) && not (lit_value m.faults.big a))))
all_value l m a =
    ap₂ (λ (p q : Bool). lit_value l a && (p && (q && all_true m.choices a))) (negated m.faults.wrong a) (negated m.faults.big a)
    ∙ turned (lit_value l a) (lit_value m.faults.wrong a) (lit_value m.faults.big a) (all_true m.choices a)

-- ---- a fault that counts where the steps before hold

pub fault_value : (f g : Cnf) (on fails own bad bad₁ : Lit) → Grows f g → HasValue f own (λ a. lit_value on a && lit_value fails a) →
    HasValue g bad₁ (λ a. lit_value bad a || lit_value own a) → HasValue g bad₁ (λ a. lit_value bad a || (lit_value on a && lit_value fails a))
fault_value f g on fails own bad bad₁ gr h k =
    HasValue-same g bad₁ (λ a. lit_value bad a || lit_value own a) (λ a. lit_value bad a || (lit_value on a && lit_value fails a)) k
    (λ a s. ap (λ (p : Bool). lit_value bad a || p) (h.value a (Satisfies-older f g a gr s)))

-- all three, each at the formula at which it was made
pub record Made (f1 f2 f3 f4 f5 : Cnf) (x y : PathCells) (m : StepCells) (all : List Lit) (own_wrong own_big : Lit) : Type 0 where
  pub are : all ≡ all_literals x.holds m
  pub holds : HasValue f1 y.holds (λ a. list_all (λ l. lit_value l a) all)
  pub own_wrong_is : HasValue f2 own_wrong (λ a. lit_value x.holds a && lit_value m.faults.wrong a)
  pub wrong : HasValue f3 y.wrong (λ a. lit_value x.wrong a || lit_value own_wrong a)
  pub own_big_is : HasValue f4 own_big (λ a. lit_value x.holds a && lit_value m.faults.big a)
  pub big : HasValue f5 y.big (λ a. lit_value x.big a || lit_value own_big a)

pub literals_added : (f1 f2 f3 f4 f5 : Cnf) (x y : PathCells) (m : StepCells) (all : List Lit) (own_wrong own_big : Lit) →
    Made f1 f2 f3 f4 f5 x y m all own_wrong own_big → Grows f1 f2 → Grows f2 f3 → Grows f3 f4 → Grows f4 f5 → AddsLiterals f5 m x y
literals_added f1 f2 f3 f4 f5 x y m all own_wrong own_big h g12 g23 g34 g45 =
    let g35 = Grows-trans f3 f4 f5 g34 g45 in
    let g15 = Grows-trans f1 f2 f5 g12 (Grows-trans f2 f3 f5 g23 g35) in
    record {
      holds = HasValue-later f1 f5 y.holds
          (λ a. lit_value x.holds a && (all_true m.choices a && (not (lit_value m.faults.wrong a) && not (lit_value m.faults.big a))))
          (HasValue-same f1 y.holds (λ a. list_all (λ l. lit_value l a) all)
          (λ a. lit_value x.holds a && (all_true m.choices a && (not (lit_value m.faults.wrong a) && not (lit_value m.faults.big a))))
          h.holds (λ a s. ap (λ (ls : List Lit). list_all (λ l. lit_value l a) ls) h.are ∙ all_value x.holds m a)) g15;
      wrong = HasValue-later f3 f5 y.wrong (λ a. lit_value x.wrong a || (lit_value x.holds a && lit_value m.faults.wrong a))
          (fault_value f2 f3 x.holds m.faults.wrong own_wrong x.wrong y.wrong g23 h.own_wrong_is h.wrong) g35;
      big = fault_value f4 f5 x.holds m.faults.big own_big x.big y.big g45 h.own_big_is h.big;
    }

-- ---- a step that never holds

and_none : (p c q : Bool) → c ≡ false → (p && (c && q)) ≡ false
and_none true true q e = absurd (true_false e)
and_none true false q e = refl
and_none false c q e = refl

pub bottom_added : (f : Cnf) (m : StepCells) (x y z : PathCells) → AddsLiterals f m x y → list_any is_never m.choices ≡ true →
    ((a : List Bool) → Satisfies a f → lit_value top_lit a ≡ true) → 0 < f.vars → z.holds ≡ the_bottom → z.wrong ≡ y.wrong → z.big ≡ y.big → AddsLiterals f m x z
bottom_added f m x y z h never forced some e w b = record {
  holds = subst (λ l. HasValue f l (λ a. lit_value x.holds a && (all_true m.choices a && (not (lit_value m.faults.wrong a) && not (lit_value m.faults.big a))))) (sym e)
      (record {
        below = some;
        value = λ a s.
            never_true the_bottom a refl (forced a s)
            ∙ sym (and_none (lit_value x.holds a) (all_true m.choices a) (not (lit_value m.faults.wrong a) && not (lit_value m.faults.big a))
            (never_all m.choices a never (forced a s)));
      });
  wrong = subst (λ l. HasValue f l (λ a. lit_value x.wrong a || (lit_value x.holds a && lit_value m.faults.wrong a))) (sym w) h.wrong;
  big = subst (λ l. HasValue f l (λ a. lit_value x.big a || (lit_value x.holds a && lit_value m.faults.big a))) (sym b) h.big;
}
