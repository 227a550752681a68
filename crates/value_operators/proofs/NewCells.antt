-- What new cells show.
use Rattle.std.proofs.Common.{◌≡◌, ℕ, ◌<◌, Bool, true, false, List, map, refl, sym, ◌∙◌, ap, subst, Option, Some, None, not}
use Rattle.std.specs.Prelude.{if◌then◌else◌}
use Rattle.sat_formula.specs.declared.lit.Lit.{Lit}
use Rattle.sat_formula.specs.Lit.{lit_value}
use Rattle.sat_formula.specs.Formula.{Satisfies, Grows as FormulaGrows}
use Rattle.word_blaster.specs.Word.{word_value}
use Rattle.tla_values.specs.Integers.{fits_width}
use Rattle.tla_values.specs.declared.value.Value.{Value}
use Rattle.tla_values.specs.declared.value.Value.TheVariants as value
use Rattle.tla_meaning.specs.declared.op.Op.{Op}
use Rattle.tla_meaning.specs.declared.outcome.Outcome.{Outcome}
use Rattle.tla_meaning.specs.declared.outcome.Outcome.TheVariants.{Val, Wrong, Big}
use Rattle.tla_meaning.specs.declared.place.Place.{Place}
use Rattle.tla_meaning.specs.Operators.{table, or_wrong}
use Rattle.cell_arena.specs.declared.build.Build.{Build}
use Rattle.cell_arena.specs.declared.kinds.CellId.{CellId}
use Rattle.cell_arena.specs.Decode.{decode}
use Rattle.cell_arena.specs.Growth.{Decodes, Grows}
use Rattle.cell_arena.proofs.Growing.{Grows-formula, Grows-trans}
use Rattle.cell_merge.specs.Partial.{Tells, Yields}
use Rattle.cell_merge.specs.Sorts.{number as number_sort}
use Rattle.cell_merge.proofs.Edges.{sort-there}
use Rattle.set_rewriter.specs.Counts.{Counts, size}
use Rattle.outcome_cells.specs.declared.cells.Cells.{Cells}
use Rattle.outcome_cells.specs.Rows.{ShowsAt, or_big}
use Rattle.outcome_cells.proofs.Later.{ShowsAt-same, width-later}
use Rattle.value_operators.specs.Operands.{HasRow}
use Rattle.value_operators.specs.inner.Words.{number_unless}

-- a value that was made
pub sure-same : (b : Build) (id : CellId) (r : Cells) (v : List Bool → Value) (g : List Bool → Place → Outcome) →
    Decodes b id v → ShowsAt b r (λ a _. Val (decode b.arena a id)) →
    ((a : List Bool) (p : Place) → Val (v a) ≡ g a p) → ShowsAt b r g
sure-same b id r v g d h e = ShowsAt-same b r _ g h (λ a s p. ap (λ (x : Value). Val x) (d.value a s) ∙ e a p)

-- the row, under the width of the build as it was
pub row-by : (old new : Build) (o : Op) (xs : List CellId) (r : Cells) (f : List Bool → Place → Outcome) →
    Grows old new → ShowsAt new r f → ((a : List Bool) → Satisfies a new.formula → (p : Place) →
    f a p ≡ table (Some old.arena.width) p o (map (decode old.arena a) xs)) → HasRow old new o xs r
row-by old new o xs r f g h e =
    let row : ℕ → List Bool → Place → Outcome = λ w a p. table (Some w) p o (map (decode old.arena a) xs) in
    subst (λ (w : ℕ). ShowsAt new r (row w)) (sym (width-later old new g))
    (ShowsAt-same new r f (row old.arena.width) h e)

-- the formula grew first
pub grows-on : (b c d : Build) → FormulaGrows b.formula c.formula → c.arena ≡ b.arena → Grows c d → Grows b d
grows-on b c d f e g = Grows-trans b c d (Grows-formula b c f e) g

-- ---- a number, and a fault where the literal is true

abbrev number-at : List Lit → List Bool → Value
number-at word a = value.Int (word_value word a)

abbrev pub number_where : Lit → List Lit → List Bool → Option Value
number_where l word a = if lit_value l a then None else Some (number-at word a)

tells-number : (out : Bool) (v w : Value) → v ≡ w → Tells out v (if out then None else Some w)
tells-number true v w e = refl
tells-number false v w e = (refl, e)

pub yields-number : (b : Build) (id : CellId) (l : Lit) (word : List Lit) → l.var < b.formula.vars →
    Decodes b id (λ a. value.Int (word_value word a)) → Yields b (id, l) (number_where l word)
yields-number b id l word lt d = record {
  there = d.there;
  below = lt;
  tells = λ a s. tells-number (lit_value l a) (decode b.arena a id) (number-at word a) (d.value a s);
}

-- by what is made of a value that is there, and of none
either-fault : (f : Option Value → Outcome) (t : Bool) (v : Value) → f (Some v) ≡ Val v →
    f (if t then None else Some v) ≡ (if t then f None else Val v)
either-fault f true v e = refl
either-fault f false v e = e

pub big-number : (p : Place) (l : Lit) (word : List Lit) (a : List Bool) →
    or_big p (number_where l word a) ≡ number_unless l (Big p) word a
big-number p l word a = either-fault (or_big p) (lit_value l a) (number-at word a) refl

pub wrong-number : (p : Place) (l : Lit) (word : List Lit) (a : List Bool) →
    or_wrong p (number_where l word a) ≡ number_unless l (Wrong p) word a
wrong-number p l word a = either-fault (or_wrong p) (lit_value l a) (number-at word a) refl

-- ---- how many members there are

abbrev pub counted : Build → CellId → List Bool → Option Value
counted b set a = if fits_width b.arena.width (size b.arena a set) then Some (value.Int (size b.arena a set)) else None

tells-count : (fits out : Bool) (v w : Value) → out ≡ not fits → (out ≡ false → v ≡ w) →
    Tells out v (if fits then Some w else None)
tells-count true out v w e h = (e, h e)
tells-count false out v w e h = e

pub count-yields : (old new : Build) (set id : CellId) (l : Lit) → Counts old new set (id, l) →
    Yields new (id, l) (counted old set)
count-yields old new set id l h = record {
  there = sort-there new.arena.kinds number_sort id h.sort;
  below = h.outside.below;
  tells = λ a s. tells-count _ (lit_value l a) (decode new.arena a id) _ (h.outside.value a s) (h.value a s);
}
