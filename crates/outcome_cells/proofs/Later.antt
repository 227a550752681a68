-- Cells as a build grows: they stay there, of their sorts, and say the same.
use Rattle.std.proofs.Common.{◌≡◌, ◌<◌, Bool, All, List, [], ◌∷◌, length, refl, sym, ◌∙◌, subst, arith}
use Rattle.std.specs.Prelude.{Some}
use Rattle.std.proofs.lemmas.List.Elements.{All-cons, All-nil}
use Rattle.sat_formula.specs.Formula.{Satisfies}
use Rattle.tla_values.specs.declared.value.Value.{Value}
use Rattle.tla_meaning.specs.declared.op.Op.{Op}
use Rattle.tla_meaning.specs.declared.outcome.Outcome.{Outcome}
use Rattle.tla_meaning.specs.declared.place.Place.{Place}
use Rattle.tla_meaning.specs.Operators.{table}
use Rattle.cell_arena.specs.declared.build.Build.{Build}
use Rattle.cell_arena.specs.Decode.{decode}
use Rattle.cell_arena.specs.Growth.{Grows, Keeps}
use Rattle.cell_arena.proofs.Growing.{Satisfies-before, decode-before}
use Rattle.cell_merge.specs.Sorts.{OfSort, Sort}
use Rattle.cell_merge.proofs.Edges.{sort-there}
use Rattle.cell_merge.proofs.SortLaws.{OfSort-later}
use Rattle.outcome_cells.specs.declared.cells.Cells.{Cells}
use Rattle.outcome_cells.specs.Rows.{IsRow, ShowsAt}
use Rattle.outcome_cells.specs.Shows.{AllCells, AllShow, AreCells, FaultsBelow, Shows, cell_values, faults_of}

pub width-later : (b c : Build) → Grows b c → c.arena.width ≡ b.arena.width
unfolding Keeps
width-later b c g = g.keeps.width

pub AreCells-later : (b c : Build) (s : Sort) (x : Cells) → Grows b c → AreCells b s x → AreCells c s x
AreCells-later b c s x g h = record {
  sort = OfSort-later b c s x.cell h.sort g;
  wrong = let p = h.wrong in let q = g.formula.vars in omega arith;
  big = let p = h.big in let q = g.formula.vars in omega arith;
}

pub AreCells-below : (b : Build) (s : Sort) (x : Cells) → AreCells b s x → FaultsBelow b.formula.vars (faults_of x)
AreCells-below b s x h = record { wrong = h.wrong; big = h.big }

pub AllCells-below : (b : Build) (ss : List Sort) (xs : List Cells) → AllCells b ss xs →
    All (λ x. FaultsBelow b.formula.vars (faults_of x)) xs
AllCells-below b [] [] h = All-nil (λ x. FaultsBelow b.formula.vars (faults_of x))
AllCells-below b [] (x ∷ xs) h = absurd h
AllCells-below b (s ∷ ss) [] h = absurd h
AllCells-below b (s ∷ ss) (x ∷ xs) h =
    All-cons (λ x. FaultsBelow b.formula.vars (faults_of x)) x xs (AreCells-below b s x h.0) (AllCells-below b ss xs h.1)

-- other literals beside the same cell
pub AreCells-behind : (b c : Build) (s : Sort) (x r : Cells) → Grows b c → AreCells b s x → r.cell ≡ x.cell →
    FaultsBelow c.formula.vars (faults_of r) → AreCells c s r
AreCells-behind b c s x r g h e below = record {
  sort = subst (λ id. OfSort c.arena.kinds s id) (sym e) (OfSort-later b c s x.cell h.sort g);
  wrong = below.wrong;
  big = below.big;
}

pub cells-there : (b : Build) (s : Sort) (x : Cells) → AreCells b s x → x.cell.index < length b.arena.kinds
cells-there b s x h = sort-there b.arena.kinds s x.cell h.sort

pub Shows-later : (b c : Build) (a : List Bool) (x : Cells) (o : Outcome) → Grows b c →
    x.cell.index < length b.arena.kinds →
    Shows b.arena a x o → Shows c.arena a x o
Shows-later b c a x o g lt h = record {
  shown = record {
    wrong = h.shown.wrong;
    big = h.shown.big;
    value = λ v e. decode-before b c a x.cell g lt ∙ h.shown.value v e;
  };
}

pub AllCells-later : (b c : Build) (ss : List Sort) (xs : List Cells) → Grows b c → AllCells b ss xs → AllCells c ss xs
AllCells-later b c [] [] g h = h
AllCells-later b c [] (x ∷ xs) g h = h
AllCells-later b c (s ∷ ss) [] g h = h
AllCells-later b c (s ∷ ss) (x ∷ xs) g h = (AreCells-later b c s x g h.0, AllCells-later b c ss xs g h.1)

-- and so have several the same values
pub cell_values-later : (b c : Build) (a : List Bool) (ss : List Sort) (xs : List Cells) → Grows b c →
    AllCells b ss xs → cell_values c.arena a xs ≡ cell_values b.arena a xs
cell_values-later b c a [] [] g h = refl
cell_values-later b c a [] (x ∷ xs) g h = absurd h
cell_values-later b c a (s ∷ ss) [] g h = absurd h
cell_values-later b c a (s ∷ ss) (x ∷ xs) g h =
    let first : decode c.arena a x.cell ≡ decode b.arena a x.cell = decode-before b c a x.cell g (cells-there b s x h.0) in
    rw (first, cell_values-later b c a ss xs g h.1) refl

pub AllShow-later : (b c : Build) (a : List Bool) (ss : List Sort) (xs : List Cells) (os : List Outcome) → Grows b c →
    AllCells b ss xs →
    AllShow b.arena a xs os → AllShow c.arena a xs os
AllShow-later b c a ss [] [] g k h = h
AllShow-later b c a ss [] (o ∷ os) g k h = h
AllShow-later b c a ss (x ∷ xs) [] g k h = h
AllShow-later b c a [] (x ∷ xs) (o ∷ os) g k h = absurd k
AllShow-later b c a (s ∷ ss) (x ∷ xs) (o ∷ os) g k h =
    (Shows-later b c a x o g (cells-there b s x k.0) h.0, AllShow-later b c a ss xs os g k.1 h.1)

pub ShowsAt-later : (b c : Build) (x : Cells) (outcome : List Bool → Place → Outcome) → Grows b c →
    x.cell.index < length b.arena.kinds → ShowsAt b x outcome → ShowsAt c x outcome
ShowsAt-later b c x outcome g lt h = record {
  shows = λ a s p. Shows-later b c a x (outcome a p) g lt (h.shows a (Satisfies-before b c a g s) p);
}

-- what cells show, said in another way
pub ShowsAt-same : (b : Build) (x : Cells) (o q : List Bool → Place → Outcome) → ShowsAt b x o →
    ((a : List Bool) → Satisfies a b.formula → (p : Place) → o a p ≡ q a p) → ShowsAt b x q
ShowsAt-same b x o q h e = record {
  shows = λ a s p. subst (Shows b.arena a x) (e a s p) (h.shows a s p);
}

pub IsRow-later : (b c : Build) (o : Op) (vs : List Bool → List Value) (x : Cells) → Grows b c →
    x.cell.index < length b.arena.kinds →
    IsRow b o vs x → IsRow c o vs x
IsRow-later b c o vs x g lt h =
    subst (λ w. ShowsAt c x (λ a p. table (Some w) p o (vs a))) (sym (width-later b c g)) (ShowsAt-later b c x _ g lt h)
