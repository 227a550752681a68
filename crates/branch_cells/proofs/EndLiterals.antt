-- Literals of ends: of a truth value's cells, of two parts, and of outcomes from the last to the first.
use Rattle.std.proofs.Common.{◌≡◌, ◌↔◌, ℕ, ◌<◌, Bool, true, false, not, ◌&&◌, ◌||◌, List, [], ◌∷◌, length, drop, get_or, ◌+◌, refl, sym, ◌∙◌, ap, subst, true≢false}
use Rattle.std.specs.Prelude.{if◌then◌else◌}
use Rattle.std.proofs.lemmas.List.{drop_more}
use Rattle.sat_formula.specs.declared.cnf.Cnf.{Cnf}
use Rattle.sat_formula.specs.declared.lit.Lit.{Lit}
use Rattle.sat_formula.specs.Formula.{Grows, HasValue, Satisfies}
use Rattle.sat_formula.specs.Lit.{lit_value}
use Rattle.sat_formula.proofs.Extension.{HasValue-later, HasValue-same, Satisfies-older}
use Rattle.sat_formula.proofs.GateClauses.{lit_value-negation}
use Rattle.tla_values.specs.declared.value.Value.{Value, out-Value}
use Rattle.tla_values.specs.declared.value.Value.TheVariants as value
use Rattle.tla_values.specs.declared.value.Value.TheVariants.{outs-Bool}
use Rattle.tla_meaning.specs.declared.outcome.Outcome.{Outcome}
use Rattle.tla_meaning.specs.declared.outcome.Outcome.TheVariants.{Val, Wrong, Big}
use Rattle.tla_meaning.specs.Actions.{is_true}
use Rattle.tla_meaning.specs.Executions.{IsYes, first_not_yes, is_yes}
use Rattle.tla_meaning.specs.Operators.{yes_no}
use Rattle.tla_meaning.specs.Questions.{IsBigOutcome, IsNotTrue}
use Rattle.cell_arena.specs.declared.build.Build.{Build}
use Rattle.cell_arena.specs.Cells.{Cells as Arena}
use Rattle.cell_arena.specs.Decode.{decode}
use Rattle.outcome_cells.specs.declared.cells.Cells.{Cells}
use Rattle.outcome_cells.specs.Shown.{Shown, is_big, is_wrong}
use Rattle.level_laws.specs.Branches.{Ending, Held, MetWrong, MetBig}
use Rattle.level_laws.proofs.Bits.{if_false, if_true}
use Rattle.step_laws.specs.Outcomes.{outcome_ends}
use Rattle.branch_cells.specs.declared.branch.Ends.{Ends}
use Rattle.branch_cells.specs.Ends.{AreAlso, AreAllEndsOf, AreBehind, AreJudged, IsCondition, end_of, ends_at}

-- ---- truth values

and_if : (p q : Bool) → (p && q) ≡ (if p then q else false)
and_if true q = refl
and_if false q = refl

or_if : (p q r : Bool) → (p || (q && r)) ≡ (if p then true else (if q then r else false))
or_if true q r = refl
or_if false q r = and_if q r

true_is_yes : (b : Bool) → is_yes (yes_no b) ≡ b
true_is_yes b = ap is_true (outs-Bool b)

same_truth : (p q : Bool) {A : Type 0} → p ≡ q → (q ≡ true) ↔ A → (p ≡ true) ↔ A
same_truth p q e h = ((λ t. h.0 (sym e ∙ t)), (λ x. e ∙ h.1 x))

-- ---- two parts

pub either_of : (f g : Cnf) (x on y both l : Lit) → Grows f g → HasValue f both (λ a. lit_value on a && lit_value y a) →
    HasValue g l (λ a. lit_value x a || lit_value both a) →
    HasValue g l (λ a. if lit_value x a then true else (if lit_value on a then lit_value y a else false))
either_of f g x on y both l gr h k = HasValue-same g l _ _ k (λ a s.
    ap (λ t. lit_value x a || t) (h.value a (Satisfies-older f g a gr s)) ∙ or_if (lit_value x a) (lit_value on a)
    (lit_value y a))

pub behind_of : (f g h : Cnf) (x y r : Ends) → Grows f g → Grows g h →
    HasValue f r.holds (λ a. lit_value x.holds a && lit_value y.holds a) →
    HasValue g r.wrong (λ a. if lit_value x.wrong a then true else
    (if lit_value x.holds a then lit_value y.wrong a else false)) →
    HasValue h r.big (λ a. if lit_value x.big a then true else
    (if lit_value x.holds a then lit_value y.big a else false)) →
    AreBehind h x y r
behind_of f g h x y r p q u v w Held =
    HasValue-later g h r.holds _ (HasValue-later f g r.holds _
    (HasValue-same f r.holds _ _ u (λ a s. and_if (lit_value x.holds a) (lit_value y.holds a))) p) q
behind_of f g h x y r p q u v w MetWrong = HasValue-later g h r.wrong _ v q
behind_of f g h x y r p q u v w MetBig = w

pub also_of : (f g h : Cnf) (on : Lit) (x r : Ends) → Grows f g → Grows g h →
    HasValue f r.holds (λ a. lit_value on a && lit_value x.holds a) →
    HasValue g r.wrong (λ a. lit_value on a && lit_value x.wrong a) →
    HasValue h r.big (λ a. lit_value on a && lit_value x.big a) → AreAlso h on x r
also_of f g h on x r p q u v w Held =
    HasValue-later g h r.holds _ (HasValue-later f g r.holds _
    (HasValue-same f r.holds _ _ u (λ a s. and_if (lit_value on a) (lit_value x.holds a))) p) q
also_of f g h on x r p q u v w MetWrong =
    HasValue-later g h r.wrong _ (HasValue-same g r.wrong _ _ v (λ a s. and_if (lit_value on a) (lit_value x.wrong a)))
    q
also_of f g h on x r p q u v w MetBig = HasValue-same h r.big _ _ w (λ a s. and_if (lit_value on a) (lit_value x.big a))

-- ---- a truth value's cells

-- the literal that it holds, of what the cells show
holds_says : (h t w b : Bool) (o : Outcome) → h ≡ (t && (not w && not b)) → Shown w b (value.Bool t) o →
    (h ≡ true) ↔ IsYes o
holds_says h t w b (Val v) e s =
    let is : v ≡ value.Bool t = sym (s.value v refl) in
    let truth : is_yes (Val v) ≡ t = ap (λ (u : Value). is_true (out-Value u)) is ∙ true_is_yes t in
    let calm : h ≡ t = e ∙ ap (λ u. t && (not u && not b)) s.wrong ∙ ap (λ u. t && (true && not u)) s.big
    ∙ and_true t in
    ((λ k. truth ∙ (sym calm ∙ k)), (λ k. calm ∙ (sym truth ∙ k)))
  where
    and_true : (t : Bool) → (t && true) ≡ t
    and_true true = refl
    and_true false = refl
holds_says h t w b (Wrong p) e s =
    let off : h ≡ false = e ∙ ap (λ u. t && (not u && not b)) s.wrong ∙ and_false t in
    ((λ k. absurd (true≢false (sym k ∙ off))), (λ k. absurd (true≢false (sym k))))
  where
    and_false : (t : Bool) → (t && false) ≡ false
    and_false true = refl
    and_false false = refl
holds_says h t w b (Big p) e s =
    let off : h ≡ false = e ∙ ap (λ u. t && (not w && not u)) s.big ∙ none t w in
    ((λ k. absurd (true≢false (sym k ∙ off))), (λ k. absurd (true≢false (sym k))))
  where
    none : (t w : Bool) → (t && (not w && false)) ≡ false
    none true true = refl
    none true false = refl
    none false w = refl

wrong_says : (w : Bool) (o : Outcome) → w ≡ is_wrong o → (w ≡ true) ↔ outcome_ends o MetWrong
wrong_says w (Val v) e = ((λ k. true≢false (sym k ∙ e)), (λ k. absurd k))
wrong_says w (Wrong p) e = ((λ k. tt), (λ k. e))
wrong_says w (Big p) e = ((λ k. true≢false (sym k ∙ e)), (λ k. absurd k))

big_says : (b : Bool) (o : Outcome) → b ≡ is_big o → (b ≡ true) ↔ outcome_ends o MetBig
big_says b (Val v) e = ((λ k. true≢false (sym k ∙ e)), (λ k. absurd k))
big_says b (Wrong p) e = ((λ k. true≢false (sym k ∙ e)), (λ k. absurd k))
big_says b (Big p) e = ((λ k. tt), (λ k. e))

-- that there is no fault
pub calm_of : (f : Cnf) (wrong big w b l : Lit) → w ≡ record { var = wrong.var; neg = not wrong.neg } →
    b ≡ record { var = big.var; neg = not big.neg } →
    HasValue f l (λ a. lit_value w a && lit_value b a) →
    HasValue f l (λ a. not (lit_value wrong a) && not (lit_value big a))
calm_of f wrong big w b l e g h = HasValue-same f l _ _ h (λ a s.
    ap (λ t. t && lit_value b a) (ap (λ (k : Lit). lit_value k a) e ∙ lit_value-negation wrong a)
    ∙ ap (λ t. not (lit_value wrong a) && t) (ap (λ (k : Lit). lit_value k a) g ∙ lit_value-negation big a))

-- the literal of the cell, and that it is TRUE without a fault
pub holds_of : (f g : Cnf) (bit calm l wrong big : Lit) → Grows f g →
    HasValue f calm (λ a. not (lit_value wrong a) && not (lit_value big a)) →
    HasValue g l (λ a. lit_value bit a && lit_value calm a) →
    HasValue g l (λ a. lit_value bit a && (not (lit_value wrong a) && not (lit_value big a)))
holds_of f g bit calm l wrong big gr h k =
    HasValue-same g l _ _ k (λ a s. ap (λ t. lit_value bit a && t) (h.value a (Satisfies-older f g a gr s)))

pub condition_of : (old new : Build) (x : Cells) (bit holds : Lit) → new.arena ≡ old.arena →
    ((a : List Bool) → decode old.arena a x.cell ≡ value.Bool (lit_value bit a)) →
    HasValue new.formula holds (λ a. lit_value bit a && (not (lit_value x.wrong a) && not (lit_value x.big a))) →
    x.wrong.var < new.formula.vars → x.big.var < new.formula.vars →
    IsCondition new x (record { holds = holds; wrong = x.wrong; big = x.big })
condition_of old new x bit holds same is says wrong big = record {
  below = below_at;
  says = λ a s o h k. says_at a s o (subst (λ v. Shown (lit_value x.wrong a) (lit_value x.big a) v o)
      (decoded a) h.shown) k;
}
  where
    decoded : (a : List Bool) → decode new.arena a x.cell ≡ value.Bool (lit_value bit a)
    decoded a = ap (λ (c : Arena). decode c a x.cell) same ∙ is a

    below_at : (k : Ending) → (end_of (record { holds = holds; wrong = x.wrong; big = x.big }) k).var < new.formula.vars
    below_at Held = says.below
    below_at MetWrong = wrong
    below_at MetBig = big

    says_at : (a : List Bool) → Satisfies a new.formula → (o : Outcome) →
        Shown (lit_value x.wrong a) (lit_value x.big a) (value.Bool (lit_value bit a)) o →
        (k : Ending) → (ends_at (record { holds = holds; wrong = x.wrong; big = x.big }) k a ≡ true) ↔ outcome_ends o k
    says_at a s o h Held = holds_says (lit_value holds a) (lit_value bit a) (lit_value x.wrong a) (lit_value x.big a) o
        (says.value a s) h
    says_at a s o h MetWrong = wrong_says (lit_value x.wrong a) o h.wrong
    says_at a s o h MetBig = big_says (lit_value x.big a) o h.big

-- ---- outcomes one behind the other

-- of none
pub judged_none : (f : Cnf) (bottom : Lit) → bottom.var < f.vars →
    ((a : List Bool) → Satisfies a f → lit_value bottom a ≡ false) →
    AreJudged f [] (bottom, bottom)
judged_none f bottom lt h = record { below = (lt, lt); says = λ a s os all. by a os (h a s) all }
  where
    by : (a : List Bool) (os : List Outcome) → lit_value bottom a ≡ false → AreAllEndsOf a [] os →
        ((lit_value bottom a ≡ true) ↔ IsNotTrue (first_not_yes os)) ×
        ((lit_value bottom a ≡ true) ↔ IsBigOutcome (first_not_yes os))
    by a (o ∷ os) e all = absurd all
    by a [] e all = (
      ((λ t. absurd (true≢false (sym t ∙ e))), (λ k. absurd (k (true_is_yes true)))),
      ((λ t. absurd (true≢false (sym t ∙ e))), (λ k. absurd k)),
    )

-- an outcome that is not TRUE
not_true_says : (b : Bool) (o : Outcome) → is_yes o ≡ false → (b ≡ true) ↔ IsBigOutcome o → (not b ≡ true) ↔ IsNotTrue o
not_true_says b (Val v) off h = ((λ t. λ yes. true≢false (sym yes ∙ off)), (λ k. none b refl))
  where
    none : (c : Bool) → b ≡ c → not b ≡ true
    none true e = absurd (h.0 e)
    none false e = ap not e
not_true_says b (Wrong p) off h = ((λ t. tt), (λ k. none b refl))
  where
    none : (c : Bool) → b ≡ c → not b ≡ true
    none true e = absurd (h.0 e)
    none false e = ap not e
not_true_says b (Big p) off h = ((λ t. true≢false (sym (h.1 tt) ∙ flipped b t)), (λ k. absurd k))
  where
    flipped : (b : Bool) → not b ≡ true → b ≡ false
    flipped true e = absurd (true≢false (sym e))
    flipped false e = refl

-- what is judged of an outcome in front of others
module _ (bad more_bad big more_big holds own : Bool) (o : Outcome) (os : List Outcome)
    (first : bad ≡ (if holds then more_bad else not own)) (second : big ≡ (if holds then more_big else own))
    (held : (holds ≡ true) ↔ IsYes o) (met : (own ≡ true) ↔ IsBigOutcome o)
    (rest : ((more_bad ≡ true) ↔ IsNotTrue (first_not_yes os)) × ((more_big ≡ true) ↔ IsBigOutcome (first_not_yes os)))
  where
    judged_at : (t : Bool) → is_yes o ≡ t →
        ((bad ≡ true) ↔ IsNotTrue (first_not_yes (o ∷ os))) × ((big ≡ true) ↔ IsBigOutcome (first_not_yes (o ∷ os)))
    judged_at true e =
        let on : holds ≡ true = held.1 e in
        let goes : first_not_yes (o ∷ os) ≡ first_not_yes os =
        ap (λ (t : Bool). elim t as (λ _. Outcome) [ true ↦ first_not_yes os | false ↦ o ]) e in (
          subst (λ (q : Outcome). (bad ≡ true) ↔ IsNotTrue q) (sym goes)
              (same_truth bad more_bad (first ∙ if_true holds more_bad (not own) on) rest.0),
          subst (λ (q : Outcome). (big ≡ true) ↔ IsBigOutcome q) (sym goes)
              (same_truth big more_big (second ∙ if_true holds more_big own on) rest.1),
        )
    judged_at false e =
        let off : holds ≡ false = not_held holds refl in
        let stops : first_not_yes (o ∷ os) ≡ o =
        ap (λ (t : Bool). elim t as (λ _. Outcome) [ true ↦ first_not_yes os | false ↦ o ]) e in (
          subst (λ (q : Outcome). (bad ≡ true) ↔ IsNotTrue q) (sym stops)
              (same_truth bad (not own) (first ∙ if_false holds more_bad (not own) off) (not_true_says own o e met)),
          subst (λ (q : Outcome). (big ≡ true) ↔ IsBigOutcome q) (sym stops)
              (same_truth big own (second ∙ if_false holds more_big own off) met),
        )
      where
        not_held : (t : Bool) → holds ≡ t → holds ≡ false
        not_held true k = absurd (true≢false (sym (held.0 k) ∙ e))
        not_held false k = k

pub judged_front : (f g : Cnf) (x : Ends) (xs : List Ends) (rest r : Lit × Lit) → Grows f g → AreJudged f xs rest →
    HasValue g r.0 (λ a. if lit_value x.holds a then lit_value rest.0 a else not (lit_value x.big a)) →
    HasValue g r.1 (λ a. if lit_value x.holds a then lit_value rest.1 a else lit_value x.big a) → AreJudged g (x ∷ xs) r
judged_front f g x xs rest r gr j bad big = record {
  below = (bad.below, big.below);
  says =
      λ a s os all. by a s os all;
}
  where
    by : (a : List Bool) → Satisfies a g → (os : List Outcome) → AreAllEndsOf a (x ∷ xs) os →
        ((lit_value r.0 a ≡ true) ↔ IsNotTrue (first_not_yes os)) ×
        ((lit_value r.1 a ≡ true) ↔ IsBigOutcome (first_not_yes os))
    by a s [] all = absurd all
    by a s (o ∷ os) all =
        judged_at (lit_value r.0 a) (lit_value rest.0 a) (lit_value r.1 a) (lit_value rest.1 a) (lit_value x.holds a)
        (lit_value x.big a)
        o os (bad.value a s) (big.value a s) (all.0 Held) (all.0 MetBig)
        (j.says a (Satisfies-older f g a gr s) os all.1) (is_yes o) refl

-- the next one from the end
pub judged_step : (f g : Cnf) (xs : List Ends) (k : ℕ) (d : Ends) (rest r : Lit × Lit) → Grows f g → k < length xs →
    AreJudged f (drop (k + 1) xs) rest →
    HasValue g r.0 (λ a. if lit_value (get_or xs k d).holds a then lit_value rest.0 a else not
    (lit_value (get_or xs k d).big a)) →
    HasValue g r.1 (λ a. if lit_value (get_or xs k d).holds a then lit_value rest.1 a else lit_value
    (get_or xs k d).big a) →
    AreJudged g (drop k xs) r
judged_step f g xs k d rest r gr lt j bad big =
    subst (λ ys. AreJudged g ys r) (sym (drop_more xs k d lt))
    (judged_front f g (get_or xs k d) (drop (k + 1) xs) rest r gr j bad big)

abbrev pub first_ends : Ends
first_ends = record {
  holds = record { var = 0; neg = false };
  wrong = record { var = 0; neg = false };
  big =
      record { var = 0; neg = false };
}
