-- The choices of a set cell, and steps of a fold: what meets the definitions, and what does not.
use Rattle.std.proofs.Common.{◌≡◌, ℕ, zero, suc, ◌<◌, Bool, true, false, cond, ◌&&◌, ◌||◌, All, IsTrue, List, [], ◌∷◌}
use Rattle.std.proofs.Common.{map, get_or, if◌then◌else◌, refl, sym, ◌∙◌, ap, subst, arith}
use Rattle.std.specs.List.{list_any}
use Rattle.std.proofs.lemmas.List.Elements.{All-cons, All-head, All-nil}
use Rattle.sat_formula.specs.declared.lit.Lit.{Lit}
use Rattle.sat_formula.specs.declared.cnf.Cnf.{Cnf}
use Rattle.sat_formula.specs.Lit.{lit_value, IsBelow}
use Rattle.sat_formula.specs.Clause.{clause_true}
use Rattle.sat_formula.specs.Formula.{Satisfies}
use Rattle.tla_values.specs.Sets.{elements, set_of}
use Rattle.tla_values.specs.declared.value.Value.{Value}
use Rattle.tla_values.specs.declared.value.Value.TheVariants as value
use Rattle.tla_values.proofs.Members.{elements-set}
use Rattle.tla_meaning.specs.declared.outcome.Outcome.TheVariants.{Val, Wrong}
use Rattle.tla_meaning.specs.declared.place.Place.{Place}
use Rattle.tla_meaning.specs.Outcomes.{with_value}
use Rattle.tla_meaning.specs.Shapes.{choices}
use Rattle.cell_arena.specs.declared.build.Build.{Build}
use Rattle.cell_arena.specs.declared.kinds.CellId.{CellId}
use Rattle.cell_arena.specs.declared.kinds.CellKind.TheVariants.{Bit, Set}
use Rattle.cell_arena.specs.Cells.{Cells as Arena}
use Rattle.cell_arena.specs.Decode.{decode, decode_all, value_at}
use Rattle.cell_merge.specs.Sorts.{Sort, OfSort, set_of as set_sort}
use Rattle.outcome_cells.specs.declared.cells.Cells.{Cells}
use Rattle.outcome_cells.specs.Shows.{Shows}
use Rattle.typed_cells.specs.KindSorts.{OfSorts}
use Rattle.member_choices.specs.declared.choice.Choice.{Choice}
use Rattle.member_choices.specs.Choices.{ListsChoices}
use Rattle.member_choices.specs.Folds.{IsStep}

abbrev top : Lit
top = record { var = 0; neg = false }

abbrev free : Lit
free = record { var = 1; neg = false }

abbrev member : CellId
member = record { index = 0 }

abbrev set : CellId
set = record { index = 1 }

-- TRUE, and a set of which it is a member where the second variable is true
abbrev arena : Arena
arena = record { texts = []; width = 4; kinds = Bit top ∷ Set ((free, member) ∷ []) ∷ []; vars = 2 }

abbrev formula : Cnf
formula = record { vars = 2; clauses = (top ∷ []) ∷ [] }

members : (a : List Bool) → elements (decode arena a set) ≡
    (if lit_value free a then decode arena a member ∷ [] else [])
unfolding decode decode_all
members a = elements-set _ ∙ split (lit_value free a)
  where
    split : (t : Bool) → set_of (map (λ (e : Lit × CellId). value_at (value.Bool (lit_value top a) ∷ []) e.1)
        (cond t ((free, member) ∷ []) []))
        ≡ (if t then decode arena a member ∷ [] else [])
    split true = refl
    split false = refl

-- the one choice, where the member is there
lists-one : ListsChoices arena formula (set ∷ []) (record { there = free; cells = member ∷ [] } ∷ [])
lists-one = record {
  below = All-cons (λ (c : Choice). IsBelow 2 c.there) (record { there = free; cells = member ∷ [] }) [] (omega arith)
      (All-nil (λ (c : Choice). IsBelow 2 c.there));
  sorts = λ ss h. sorts ss h;
  members = λ a s p.
      split (lit_value free a) p (decode arena a member)
      ∙ ap (λ (xs : List Value). list_any p (choices (xs ∷ []))) (sym (members a));
}
  where
    split : (t : Bool) (p : List Value → Bool) (v : Value) →
        ((t && p (v ∷ [])) || false) ≡ list_any p (choices ((if t then v ∷ [] else []) ∷ []))
    split true p v = refl
    split false p v = refl

    sorts : (ss : List Sort) → OfSorts arena.kinds (map set_sort ss) (set ∷ []) →
        All (λ (c : Choice). OfSorts arena.kinds ss c.cells) (record { there = free; cells = member ∷ [] } ∷ [])
    sorts [] h = absurd h
    sorts (s ∷ []) h = All-cons (λ (c : Choice). OfSorts arena.kinds (s ∷ []) c.cells)
        (record { there = free; cells = member ∷ [] }) []
        (All-head (λ (e : Lit × CellId). OfSort arena.kinds s e.1) (free, member) [] h.0.1, tt)
        (All-nil (λ (c : Choice). OfSorts arena.kinds (s ∷ []) c.cells))
    sorts (s ∷ t ∷ ss) h = absurd h.1

satisfies : Satisfies (true ∷ true ∷ []) formula
unfolding Satisfies
satisfies = λ k d lt. one k d lt
  where
    one : (k : ℕ) (d : List Lit) → k < 1 → IsTrue (clause_true (true ∷ true ∷ []) (get_or ((top ∷ []) ∷ []) k d))
    one zero d lt = refl
    one (suc k) d lt = absurd (omega arith)

-- no choice at all, and one that is always there, are not those of the set
none-missed : ListsChoices arena formula (set ∷ []) [] → ⊥
none-missed h =
    let e : false ≡ list_any (λ vs. true) (choices (elements (decode arena (true ∷ true ∷ []) set) ∷ [])) =
    h.members (true ∷ true ∷ []) satisfies (λ vs. true) in
    let f : false ≡ true = e ∙ ap (λ (xs : List Value). list_any (λ vs. true) (choices (xs ∷ [])))
    (members (true ∷ true ∷ [])) in
    absurd (cc)

-- ---- steps of a fold

never-there : (b : Build) (there : Lit) (so_far step : Cells) →
    ((a : List Bool) → Satisfies a b.formula → lit_value there a ≡ false) →
    IsStep b b there so_far step so_far
never-there b there so_far step off = record {
  cells = λ s p q. p;
  shows = λ a s o f p q. subst (λ t. Shows b.arena a so_far (if t then with_value o f else o)) (sym (off a s)) p;
}

-- where there was a fault, what the step alone shows is not the fold's
fault-stays : (b : Build) (a : List Bool) (there : Lit) (so_far step : Cells) (p : Place) → Satisfies a b.formula →
    Shows b.arena a so_far (Wrong p) → lit_value step.wrong a ≡ false → IsStep b b there so_far step step → ⊥
fault-stays b a there so_far step p s shows calm h =
    let r : Shows b.arena a step (if lit_value there a then Wrong p else Wrong p) =
    h.shows a s (Wrong p) (λ v. Val v) shows (λ v e t. absurd (cc)) in
    let w : lit_value step.wrong a ≡ true = either (lit_value there a) r in
    absurd (cc)
  where
    either : (t : Bool) → Shows b.arena a step (if t then Wrong p else Wrong p) → lit_value step.wrong a ≡ true
    either true r = r.shown.wrong
    either false r = r.shown.wrong
