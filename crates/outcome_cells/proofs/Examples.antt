-- What small cells show, by computing.
use Rattle.std.proofs.Common.{◌≡◌, ℕ, Bool, true, false, not, List, [], ◌∷◌, Some, refl, sym, ◌∙◌, ap}
use Rattle.sat_formula.specs.declared.lit.Lit.{Lit}
use Rattle.sat_formula.specs.Formula.{Satisfies}
use Rattle.sat_formula.specs.Lit.{lit_value}
use Rattle.sat_formula.proofs.GateClauses.{lit_value-negation}
use Rattle.tla_values.specs.declared.value.Value.{Value}
use Rattle.tla_values.specs.declared.value.Value.TheVariants as value
use Rattle.tla_meaning.specs.declared.op.Op.TheVariants as op
use Rattle.tla_meaning.specs.declared.outcome.Outcome.{Outcome}
use Rattle.tla_meaning.specs.declared.outcome.Outcome.TheVariants.{Val, Wrong, Big}
use Rattle.tla_meaning.specs.declared.outcome.Fault.TheVariants.{IsBig, IsWrong}
use Rattle.tla_meaning.specs.declared.place.Place.{Place}
use Rattle.tla_meaning.specs.Operators.{table, yes_no}
use Rattle.tla_meaning.specs.Outcomes.{join_faults}
use Rattle.cell_arena.specs.declared.build.Build.{Build}
use Rattle.cell_arena.specs.declared.kinds.CellId.{CellId}
use Rattle.cell_arena.specs.declared.kinds.CellKind.TheVariants.{Bit}
use Rattle.cell_arena.specs.Cells.{Cells as Arena}
use Rattle.cell_arena.specs.Decode.{decode, decode_all}
use Rattle.outcome_cells.specs.declared.cells.Cells.{Cells}
use Rattle.outcome_cells.specs.Rows.{IsRow}
use Rattle.outcome_cells.specs.Shows.{AllShow, Shows, ShowsFault}
use Rattle.outcome_cells.specs.Turns.{ShowBranches, ShowInTurn}

abbrev top : Lit
top = record { var = 0; neg = false }

abbrev bottom : Lit
bottom = record { var = 0; neg = true }

abbrev free : Lit
free = record { var = 1; neg = false }

abbrev cell : ℕ → CellId
cell i = record { index = i }

-- TRUE, FALSE and a truth value that is free
abbrev bits : Arena
bits = record { texts = []; width = 4; kinds = Bit top ∷ Bit bottom ∷ Bit free ∷ []; vars = 2 }

-- variable 0 is true, variable 1 is false
abbrev a : List Bool
a = true ∷ false ∷ []

decoded-true : decode bits a (cell 0) ≡ value.Bool true
unfolding decode decode_all
decoded-true = refl

decoded-free : decode bits a (cell 2) ≡ value.Bool false
unfolding decode decode_all
decoded-free = refl

-- a cell without a fault
abbrev sure : CellId → Cells
sure id = record { cell = id; wrong = bottom; big = bottom }

val_one : (v w : Value) → Val v ≡ Val w → v ≡ w
val_one v w e = cc

-- it shows its value
shows-true : Shows bits a (sure (cell 0)) (yes_no true)
shows-true = record { shown = record { wrong = refl; big = refl; value = λ x e. decoded-true ∙ val_one (value.Bool true) x e } }

-- and no fault
shows-no-fault : (p : Place) → Shows bits a (sure (cell 0)) (Wrong p) → ⊥
shows-no-fault p h = let e : false ≡ true = h.shown.wrong in cc

-- with its first literal true it is Wrong at any place, whatever the cell is
shows-wrong : (p : Place) (id : CellId) → Shows bits a (record { cell = id; wrong = top; big = bottom }) (Wrong p)
shows-wrong p id = record { shown = record { wrong = refl; big = refl; value = λ x e. absurd (cc) } }

-- and with both true it is nothing
shows-nothing : (o : Outcome) (id : CellId) → Shows bits a (record { cell = id; wrong = top; big = top }) o → ⊥
shows-nothing (Val v) id h = let e : true ≡ false = h.shown.wrong in cc
shows-nothing (Wrong p) id h = let e : true ≡ false = h.shown.big in cc
shows-nothing (Big p) id h = let e : true ≡ false = h.shown.wrong in cc

-- each of two operands has its own
shows-two : (p : Place) (id : CellId) →
    AllShow bits a (sure (cell 0) ∷ record { cell = id; wrong = bottom; big = top } ∷ []) (yes_no true ∷ Big p ∷ [])
shows-two p id = (shows-true, (record { shown = record { wrong = refl; big = refl; value = λ x e. absurd (cc) } }, tt))

-- behind an operand that is no TRUE, a conjunction asks nothing of the next
in-turn : (o : Outcome) (x : Cells) → ShowInTurn true bits a (sure (cell 2) ∷ x ∷ []) (yes_no false ∷ o ∷ [])
in-turn o x = (
  record { shown = record { wrong = refl; big = refl; value = λ y e. decoded-free ∙ val_one (value.Bool false) y e } },
  λ e. absurd (no_true e),
)
  where
    no_true : yes_no false ≡ yes_no true → ⊥
    no_true e = absurd (not_so (val_one (value.Bool false) (value.Bool true) e))
      where
        not_so : value.Bool false ≡ value.Bool true → ⊥
        not_so e = cc

-- an IF asks nothing of the branch that its guard does not take
branches : (p : Place) (x : Cells) →
    ShowBranches bits a (sure (cell 0)) (sure (cell 2)) x (yes_no true) (yes_no false) (Big p)
branches p x = record {
  guard_shown = shows-true;
  first = λ e. record { shown = record { wrong = refl; big = refl; value = λ y e. decoded-free ∙ val_one (value.Bool false) y e } };
  second = λ e. absurd (not_so (val_one (value.Bool true) (value.Bool false) e));
}
  where
    not_so : value.Bool true ≡ value.Bool false → ⊥
    not_so e = cc

-- TRUE, FALSE, a truth value that is free and its negation
abbrev more : Arena
more = record { texts = []; width = 4; kinds = Bit top ∷ Bit bottom ∷ Bit free ∷ Bit (record { var = 1; neg = true }) ∷ []; vars = 2 }

decoded-third : (v : List Bool) → decode more v (cell 2) ≡ value.Bool (lit_value free v)
unfolding decode decode_all
decoded-third v = refl

decoded-fourth : (v : List Bool) → decode more v (cell 3) ≡ value.Bool (lit_value (record { var = 1; neg = true }) v)
unfolding decode decode_all
decoded-fourth v = refl

-- the last cell is the row of a negation, at whichever place it stands
row : (b : Build) → b.arena ≡ more → ((v : List Bool) → Satisfies v b.formula → lit_value top v ≡ true) →
    IsRow b op.Not (λ v. decode b.arena v (cell 2) ∷ []) (sure (cell 3))
row b e forced = record { shows = λ v s p. rw e (shown v p (forced v s)) }
  where
    shown : (v : List Bool) (p : Place) → lit_value top v ≡ true →
        Shows more v (sure (cell 3)) (table (Some 4) p op.Not (decode more v (cell 2) ∷ []))
    shown v p t = rw (decoded-third v, value.outs-Bool) (record {
      shown = record {
        wrong = lit_value-negation top v ∙ ap not t;
        big = lit_value-negation top v ∙ ap not t;
        value = λ x i. decoded-fourth v ∙ ap value.Bool (lit_value-negation free v) ∙ val_one _ x i;
      };
    })

-- and the cell of the value itself is not
not-row : (b : Build) → b.arena ≡ more → Satisfies (true ∷ true ∷ []) b.formula → Place →
    IsRow b op.Not (λ v. decode b.arena v (cell 2) ∷ []) (sure (cell 2)) → ⊥
not-row b e s p h = refute (rw e at h.shows (true ∷ true ∷ []) s p)
  where
    not_so : value.Bool true ≡ value.Bool false → ⊥
    not_so i = cc

    refute : Shows more (true ∷ true ∷ []) (sure (cell 2)) (table (Some 4) p op.Not (decode more (true ∷ true ∷ []) (cell 2) ∷ [])) → ⊥
    refute k =
        let r : Shows more (true ∷ true ∷ []) (sure (cell 2)) (yes_no false) =
        rw (decoded-third (true ∷ true ∷ []), value.outs-Bool) at k in
        not_so (sym (decoded-third (true ∷ true ∷ [])) ∙ r.shown.value (value.Bool false) refl)

-- Wrong comes before Big, on whichever side it stands
wrong-first : (p q : Place) → ShowsFault a (record { wrong = top; big = bottom }) (join_faults (IsBig p) (IsWrong q))
wrong-first p q = record { shown = record { wrong = refl; big = refl } }

not-big-first : (p q : Place) →
    ShowsFault a (record { wrong = bottom; big = top }) (join_faults (IsBig p) (IsWrong q)) → ⊥
not-big-first p q h = let e : false ≡ true = h.shown.wrong in cc
