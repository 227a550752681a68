-- A fold over the first items of a sequence, one more at a time.
use Rattle.std.proofs.Common.{◌≡◌, ℕ, zero, suc, Bool, true, false, not, ◌&&◌, ◌||◌, List, [], ◌∷◌, ◌++◌, take, refl}
use Rattle.std.proofs.Common.{sym, ◌∙◌, ap, subst, Option, Some, None}
use Rattle.std.specs.Prelude.{slice_get, if◌then◌else◌}
use Rattle.sat_formula.specs.declared.lit.Lit.{Lit}
use Rattle.sat_formula.specs.Lit.{lit_value}
use Rattle.sat_formula.specs.Formula.{HasValue, Grows as FormulaGrows}
use Rattle.sat_formula.proofs.Extension.{Satisfies-older}
use Rattle.tla_values.specs.declared.value.Value.{Value}
use Rattle.tla_meaning.specs.declared.outcome.Outcome.{Outcome}
use Rattle.tla_meaning.specs.declared.outcome.Outcome.TheVariants.{Val, Wrong, Big}
use Rattle.tla_meaning.specs.Outcomes.{with_value}
use Rattle.tla_meaning.specs.Meaning.{folded}
use Rattle.cell_arena.specs.declared.build.Build.{Build}
use Rattle.cell_arena.specs.Cells.{Cells as Arena}
use Rattle.cell_arena.specs.Decode.{decode}
use Rattle.cell_merge.specs.Choices.{Chooses}
use Rattle.cell_merge.specs.Sorts.{OfSort}
use Rattle.outcome_cells.specs.declared.cells.Cells.{Cells}
use Rattle.outcome_cells.specs.Shown.{Shown}
use Rattle.outcome_cells.proofs.Showing.{later}
use Rattle.member_choices.specs.Folds.{IsStep}

module _ (f : Value → Value → Outcome) where
  goes_on : (o : Outcome) → with_value o (λ u. Val u) ≡ o
  goes_on (Val v) = refl
  goes_on (Wrong p) = refl
  goes_on (Big p) = refl

  pub fold_push : (xs : List Value) (x v : Value) → folded f (xs ++ x ∷ []) v ≡ with_value (folded f xs v) (λ u. f u x)
  fold_push [] x v = goes_on (f v x)
  fold_push (y ∷ xs) x v = by (f v y) (λ u. fold_push xs x u)
    where
      by : (o : Outcome) → ((u : Value) → folded f (xs ++ x ∷ []) u ≡ with_value (folded f xs u) (λ u. f u x)) →
          with_value o (folded f (xs ++ x ∷ [])) ≡ with_value (with_value o (folded f xs)) (λ u. f u x)
      by (Val u) h = h u
      by (Wrong p) h = refl
      by (Big p) h = refl

  -- one more item, where there is one
  abbrev pub turned : Outcome → Option Value → Outcome
  turned o None = o
  turned o (Some x) = with_value o (λ u. f u x)

  some_one : (x y : Value) → Some x ≡ Some y → x ≡ y
  some_one x y e = cc

  pub front_more : (xs : List Value) (i : ℕ) (x : Value) → slice_get xs i ≡ Some x →
      take (suc i) xs ≡ take i xs ++ x ∷ []
  front_more [] i x e = absurd (cc)
  front_more (y ∷ xs) zero x e = ap (λ z. z ∷ []) (some_one y x e)
  front_more (y ∷ xs) (suc i) x e = ap (λ ys. y ∷ ys) (front_more xs i x e)

  pub front_whole : (xs : List Value) (i : ℕ) → slice_get xs i ≡ None → take (suc i) xs ≡ take i xs
  front_whole [] zero e = refl
  front_whole [] (suc i) e = refl
  front_whole (y ∷ xs) zero e = absurd (cc)
  front_whole (y ∷ xs) (suc i) e = ap (λ ys. y ∷ ys) (front_whole xs i e)

  pub fold_turn : (xs : List Value) (i : ℕ) (v : Value) (o : Option Value) → slice_get xs i ≡ o →
      folded f (take (suc i) xs) v ≡ turned (folded f (take i xs) v) o
  fold_turn xs i v None e = ap (λ ys. folded f ys v) (front_whole xs i e)
  fold_turn xs i v (Some x) e = ap (λ ys. folded f ys v) (front_more xs i x e) ∙ fold_push (take i xs) x v

no_more : (w b : Bool) → (w || (not b && false)) ≡ w
no_more true b = refl
no_more false true = refl
no_more false false = refl

at_two : (P : Bool → Bool → Type 0) (a b c d : Bool) → a ≡ c → b ≡ d → P c d → P a b
at_two P a b c d e f p = subst (λ x. P x b) (sym e) (subst (λ x. P c x) (sym f) p)

-- the literals and the value of a step, where the place is there, else those so far
pub step_shown : (there w b w2 b2 : Bool) (v v2 : Value) (o : Outcome) (f : Value → Outcome) → Shown w b v o →
    (o ≡ Val v → there ≡ true → Shown w2 b2 v2 (f v)) →
    Shown (w || (not b && (there && w2))) (b || (not w && (there && b2))) (if there then v2 else v)
    (if there then with_value o f else o)
step_shown true w b w2 b2 v v2 o f h k = later w b w2 b2 v v2 o f h (λ e. k e refl)
step_shown false w b w2 b2 v v2 o f h k = at_two (λ x y. Shown x y v o) _ _ w b (no_more w b) (no_more b w) h

-- one choice of the cell, and the faults of the step behind those so far
pub steps : (old mid new : Build) (there : Lit) (so_far next r : Cells) →
    Chooses old mid there next.cell so_far.cell r.cell →
    new.arena ≡ mid.arena → FormulaGrows mid.formula new.formula →
    HasValue new.formula r.wrong (λ a. lit_value so_far.wrong a ||
    (not (lit_value so_far.big a) && (lit_value there a && lit_value next.wrong a))) →
    HasValue new.formula r.big (λ a. lit_value so_far.big a ||
    (not (lit_value so_far.wrong a) && (lit_value there a && lit_value next.big a))) →
    IsStep old new there so_far next r
steps old mid new there so_far next r chooses same grows wrong big = record {
  cells = λ s p q. record {
    sort = subst (λ (c : Arena). OfSort c.kinds s r.cell) (sym same) (chooses.sort s q.sort p.sort);
    wrong = wrong.below;
    big = big.below;
  };
  shows = λ a s o f p q. record {
    shown =
        let v : Value = decode old.arena a so_far.cell in
        let u : Value = decode old.arena a next.cell in
        let e : decode new.arena a r.cell ≡ (if lit_value there a then u else v) =
        ap (λ (c : Arena). decode c a r.cell) same
        ∙ chooses.value.value a (Satisfies-older mid.formula new.formula a grows s) in
        rw (wrong.value a s, big.value a s, e)
        (step_shown (lit_value there a) (lit_value so_far.wrong a) (lit_value so_far.big a) (lit_value next.wrong a)
        (lit_value next.big a) v u o f p.shown
        (λ g t. (q v g t).shown));
  };
}
