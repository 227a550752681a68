-- The branch that a guard takes, by the literals that are made for it.
use Rattle.std.proofs.Common.{◌≡◌, Bool, not, ◌&&◌, ◌||◌, List, sym, ◌∙◌, ap, subst}
use Rattle.std.specs.Prelude.{if◌then◌else◌}
use Rattle.sat_formula.specs.declared.lit.Lit.{Lit}
use Rattle.sat_formula.specs.Formula.{HasValue}
use Rattle.sat_formula.specs.Lit.{lit_value}
use Rattle.sat_formula.proofs.Extension.{HasValue-later}
use Rattle.tla_values.specs.declared.value.Value.TheVariants as value
use Rattle.tla_meaning.specs.declared.outcome.Outcome.{Outcome}
use Rattle.tla_meaning.specs.declared.place.Place.{Place}
use Rattle.tla_meaning.specs.Meaning.{choose}
use Rattle.tla_meaning.specs.Operators.{yes_no}
use Rattle.cell_arena.specs.declared.build.Build.{Build}
use Rattle.cell_arena.specs.Cells.{Cells as Arena}
use Rattle.cell_arena.specs.Decode.{decode}
use Rattle.cell_arena.specs.Growth.{Grows}
use Rattle.cell_arena.proofs.Growing.{Satisfies-before}
use Rattle.cell_merge.specs.Choices.{Chooses}
use Rattle.cell_merge.specs.Sorts.{OfSort}
use Rattle.outcome_cells.specs.declared.cells.Cells.{Cells}
use Rattle.outcome_cells.specs.Shown.{Shown}
use Rattle.outcome_cells.specs.Turns.{ShowBranches, TakesBranch}
use Rattle.outcome_cells.proofs.Showing.{chosen, shown_as}

-- the literals of the branch that is taken, behind those of the guard
abbrev pub guarded : Bool → Bool → Bool → Bool → Bool → Bool
guarded first other t x y = first || (not other && (if t then x else y))

module _ (c : Arena) (a : List Bool) (guard x y : Cells) (bit : Lit) where
  abbrev pub guarded_wrong : Bool
  guarded_wrong =
      guarded (lit_value guard.wrong a) (lit_value guard.big a) (lit_value bit a) (lit_value x.wrong a) (lit_value y.wrong a)

  abbrev pub guarded_big : Bool
  guarded_big =
      guarded (lit_value guard.big a) (lit_value guard.wrong a) (lit_value bit a) (lit_value x.big a) (lit_value y.big a)

  branch_shown : (p : Place) (g o q : Outcome) → decode c a guard.cell ≡ value.Bool (lit_value bit a) →
      ShowBranches c a guard x y g o q →
      Shown guarded_wrong guarded_big (if lit_value bit a then decode c a x.cell else decode c a y.cell) (choose p g o q)
  branch_shown p g o q e h =
      let first : Shown (lit_value guard.wrong a) (lit_value guard.big a) (value.Bool (lit_value bit a)) g =
      subst (λ v. Shown (lit_value guard.wrong a) (lit_value guard.big a) v g) e h.guard_shown.shown in
      chosen _ _ (lit_value bit a) (lit_value x.wrong a) (lit_value x.big a) (lit_value y.wrong a) (lit_value y.big a)
      (decode c a x.cell) (decode c a y.cell) p g o q first
      (λ i j. (h.first (i ∙ ap yes_no j)).shown) (λ i j. (h.second (i ∙ ap yes_no j)).shown)

-- the build between has the old cells, over a longer formula
pub branch_taken : (old mid new : Build) (guard x y r : Cells) (bit : Lit) → mid.arena ≡ old.arena → Grows mid new →
    ((a : List Bool) → decode old.arena a guard.cell ≡ value.Bool (lit_value bit a)) →
    HasValue mid.formula r.wrong (λ a. guarded_wrong old.arena a guard x y bit) →
    HasValue mid.formula r.big (λ a. guarded_big old.arena a guard x y bit) →
    Chooses mid new bit x.cell y.cell r.cell → TakesBranch old new guard x y r
branch_taken old mid new guard x y r bit same grows e w b chooses = record {
  cells = λ s h k.
      record {
        sort = chooses.sort s (subst (λ (c : Arena). OfSort c.kinds s x.cell) (sym same) h.sort)
            (subst (λ (c : Arena). OfSort c.kinds s y.cell) (sym same) k.sort);
        wrong = (HasValue-later mid.formula new.formula r.wrong _ w grows.formula).below;
        big = (HasValue-later mid.formula new.formula r.big _ b grows.formula).below;
      };
  shows = λ a s p g o q h.
      let t = Satisfies-before mid new a grows s in
      let v : decode new.arena a r.cell ≡ (if lit_value bit a then decode old.arena a x.cell else decode old.arena a y.cell) =
      chooses.value.value a s ∙ ap (λ (c : Arena). if lit_value bit a then decode c a x.cell else decode c a y.cell) same in
      record {
        shown = shown_as _ _ _ _ _ _ (choose p g o q) (sym (w.value a t)) (sym (b.value a t)) (sym v)
            (branch_shown old.arena a guard x y bit p g o q (e a) h);
      };
}
