-- The faults of all operands, by the literals that say whether one is Wrong and whether one is Big.
use Rattle.std.proofs.Common.{◌≡◌, Bool, true, false, not, ◌&&◌, ◌||◌, List, [], ◌∷◌, map, refl, sym, ◌∙◌, ap}
use Rattle.std.specs.List.{list_any, list_all}
use Rattle.std.specs.Prelude.{Some}
use Rattle.sat_formula.specs.declared.cnf.Cnf.{Cnf}
use Rattle.sat_formula.specs.declared.lit.Lit.{Lit}
use Rattle.sat_formula.specs.Lit.{lit_value}
use Rattle.sat_formula.specs.Formula.{Grows, HasValue, Satisfies}
use Rattle.sat_formula.proofs.Extension.{Grows-trans, HasValue-later, Satisfies-older}
use Rattle.sat_formula.proofs.GateClauses.{lit_value-negation}
use Rattle.tla_values.specs.declared.value.Value.{Value}
use Rattle.tla_meaning.specs.declared.op.Op.{Op}
use Rattle.tla_meaning.specs.declared.place.Place.{Place}
use Rattle.tla_meaning.specs.declared.outcome.Fault.TheVariants.{NoFault, IsWrong, IsBig}
use Rattle.tla_meaning.specs.declared.outcome.Outcome.{Outcome}
use Rattle.tla_meaning.specs.declared.outcome.Outcome.TheVariants.{Val, Wrong, Big}
use Rattle.tla_meaning.specs.Outcomes.{fault_of, joined, strict, with_value}
use Rattle.tla_meaning.specs.Operators.{table}
use Rattle.cell_arena.specs.declared.build.Build.{Build}
use Rattle.cell_arena.specs.Cells.{Cells as Arena}
use Rattle.cell_arena.specs.Decode.{decode}
use Rattle.outcome_cells.specs.declared.cells.Cells.{Cells}
use Rattle.outcome_cells.specs.declared.cells.Faults.{Faults}
use Rattle.outcome_cells.specs.Joins.{IsStrict, JoinsOperands, StandsBehind}
use Rattle.outcome_cells.specs.Rows.{IsRow}
use Rattle.outcome_cells.specs.Shown.{ShownFault}
use Rattle.outcome_cells.specs.Shows.{AllShow, Shows, ShowsFault, cell_values, faults_of}
use Rattle.outcome_cells.proofs.Operands.{strict_row}
use Rattle.outcome_cells.proofs.Showing.{both_shown, none_shown}

-- one is true where not all of the negations are
pub any-value : (a : List Bool) (ls : List Lit)
    → not (list_all (λ l. lit_value l a) (map (λ (l : Lit). record { var = l.var; neg = not l.neg }) ls)) ≡ list_any (λ l. lit_value l a) ls
any-value a [] = refl
any-value a (l ∷ ls) =
    let others : Bool = list_all (λ l. lit_value l a) (map (λ (l : Lit). record { var = l.var; neg = not l.neg }) ls) in
    ap (λ t. not (t && others)) (lit_value-negation l a) ∙ split (lit_value l a) others (any-value a ls)
  where
    split : (t all : Bool) → not all ≡ list_any (λ l. lit_value l a) ls →
        not (not t && all) ≡ (t || list_any (λ l. lit_value l a) ls)
    split true all h = refl
    split false all h = h

-- whether an operand is Wrong, and whether one is Big
abbrev pub any_wrong : List Bool → List Cells → Bool
any_wrong a xs = list_any (λ x. lit_value x.wrong a) xs

abbrev pub any_big : List Bool → List Cells → Bool
any_big a xs = list_any (λ x. lit_value x.big a) xs

pub operands_shown : (c : Arena) (a : List Bool) (xs : List Cells) (os : List Outcome) → AllShow c a xs os →
    ShownFault (any_wrong a xs) (not (any_wrong a xs) && any_big a xs) (joined os)
operands_shown c a [] [] h = none_shown
operands_shown c a [] (o ∷ os) h = absurd h
operands_shown c a (x ∷ xs) [] h = absurd h
operands_shown c a (x ∷ xs) (o ∷ os) h =
    let w = lit_value x.wrong a in
    let b = lit_value x.big a in
    let s = both_shown w b (any_wrong a xs) (not (any_wrong a xs) && any_big a xs) (decode c a x.cell) o (joined os)
    h.0.shown (operands_shown c a xs os h.1) in
    record { wrong = s.wrong; big = sym (more w b (any_wrong a xs) (any_big a xs)) ∙ s.big }
  where
    more : (v c w b : Bool) → (not (v || w) && (c || (not w && b))) ≡ (not (v || w) && (c || b))
    more true c w b = refl
    more false c true b = refl
    more false c false b = refl

-- so it is of the literals that are made for it, one after the other
pub operands_joined : (f g h : Cnf) (xs : List Cells) (wrong either big : Lit) → Grows f g → Grows g h →
    HasValue f wrong (λ a. any_wrong a xs) → HasValue g either (λ a. any_big a xs) →
    HasValue h big (λ a. lit_value (record { var = wrong.var; neg = not wrong.neg }) a && lit_value either a) →
    JoinsOperands h xs (record { wrong = wrong; big = big })
operands_joined f g h xs wrong either big fg gh p q r =
    let w = HasValue-later f h wrong (λ a. any_wrong a xs) p (Grows-trans f g h fg gh) in
    let e = HasValue-later g h either (λ a. any_big a xs) q gh in
    record {
      below = record { wrong = w.below; big = r.below };
      shows = λ a s c os all.
          let shown = operands_shown c a xs os all in
          let no : lit_value (record { var = wrong.var; neg = not wrong.neg }) a ≡ not (any_wrong a xs) =
          lit_value-negation wrong a ∙ ap not (w.value a s) in
          record { shown = record { wrong = w.value a s ∙ shown.wrong; big = r.value a s ∙ rw (no, e.value a s) shown.big } };
    }

-- an operator behind the faults of its operands
pub strict_behind : (f g : Cnf) (xs : List Cells) (first : Faults) (own r : Cells) → Grows f g →
    JoinsOperands f xs first →
    StandsBehind g first own r → IsStrict g xs own r
strict_behind f g xs first own r grows joins stands = record {
  cell = stands.cell;
  below = stands.below;
  shows = λ a s c os row all h.
      stands.shows a s c (joined os) (row _) (joins.shows a (Satisfies-older f g a grows s) c os all)
      (λ e. strict_row c c a xs os own row all (h e) e);
}

-- the literals of cells alone show the outcome's fault
pub own_fault : (c : Arena) (a : List Bool) (x : Cells) (o : Outcome) → Shows c a x o → ShowsFault a (faults_of x) (fault_of o)
own_fault c a x (Val v) h = record { shown = record { wrong = h.shown.wrong; big = h.shown.big } }
own_fault c a x (Wrong p) h = record { shown = record { wrong = h.shown.wrong; big = h.shown.big } }
own_fault c a x (Big p) h = record { shown = record { wrong = h.shown.wrong; big = h.shown.big } }

-- what goes on with a value, behind the faults of the cells that have it
pub goes_on : (f : Cnf) (x y r : Cells) → StandsBehind f (faults_of x) y r → (a : List Bool) → Satisfies a f →
    (c : Arena) (o : Outcome) (g : Value → Outcome) → Shows c a x o → ((v : Value) → o ≡ Val v → Shows c a y (g v)) →
    Shows c a r (with_value o g)
goes_on f x y r h a s c (Val v) g first next = h.shows a s c NoFault (g v) (own_fault c a x (Val v) first) (λ e. next v refl)
goes_on f x y r h a s c (Wrong p) g first next =
    h.shows a s c (IsWrong p) (Wrong p) (own_fault c a x (Wrong p) first) (λ e. absurd (cc))
goes_on f x y r h a s c (Big p) g first next =
    h.shows a s c (IsBig p) (Big p) (own_fault c a x (Big p) first) (λ e. absurd (cc))

-- an operator whose own cells are its row, behind the faults of its operands, shows what it gives of their outcomes
pub operator_shown : (b : Build) (f : Cnf) (o : Op) (xs : List Cells) (own r : Cells) → Grows b.formula f →
    IsRow b o (λ a. cell_values b.arena a xs) own → IsStrict f xs own r → (a : List Bool) → Satisfies a f → (p : Place)
    (os : List Outcome) → AllShow b.arena a xs os → Shows b.arena a r (strict os (table (Some b.arena.width) p o))
operator_shown b f o xs own r grows row h a s p os all =
    h.shows a s b.arena os (table (Some b.arena.width) p o) all (λ e. row.shows a (Satisfies-older b.formula f a grows s) p)
