-- From what `old_at` answers to what `update` asks, and an item with its number as an operand.
use Rattle.std.proofs.Common.{◌≡◌, ℕ, Bool, true, false, List, [], ◌∷◌, Some, None, pos, refl, ap, ap₂, ◌∙◌, sym, subst}
use Rattle.std.specs.Prelude.{if◌then◌else◌}
use Rattle.sat_formula.specs.declared.lit.Lit.{Lit}
use Rattle.sat_formula.specs.Lit.{lit_value}
use Rattle.sat_formula.specs.Formula.{Satisfies}
use Rattle.tla_values.specs.Integers.{fits_width}
use Rattle.tla_values.specs.declared.value.Value.{Value, out-Value}
use Rattle.tla_values.specs.declared.value.Value.TheVariants as value
use Rattle.tla_meaning.specs.declared.op.Op.TheVariants as op
use Rattle.tla_meaning.specs.declared.outcome.Outcome.{Outcome}
use Rattle.tla_meaning.specs.declared.outcome.Outcome.TheVariants.{Val, Wrong, Big}
use Rattle.tla_meaning.specs.declared.place.Place.{Place}
use Rattle.tla_meaning.specs.Meaning.{At, Outside, step_into}
use Rattle.tla_meaning.specs.Numbers.{number as number_outcome}
use Rattle.tla_meaning.specs.Operators.{table}
use Rattle.tla_meaning.specs.Outcomes.{strict, with_value}
use Rattle.cell_arena.specs.declared.build.Build.{Build}
use Rattle.cell_arena.specs.declared.kinds.CellId.{CellId}
use Rattle.cell_arena.specs.Decode.{decode}
use Rattle.cell_arena.specs.Growth.{Grows}
use Rattle.cell_arena.proofs.Growing.{Satisfies-before, decode-before}
use Rattle.cell_merge.specs.Sorts.{Sort, OfSort, number, function_of, sequence_of, record_of, tuple_of}
use Rattle.cell_merge.proofs.Edges.{sort-there}
use Rattle.cell_merge.proofs.SortLaws.{OfSort-later}
use Rattle.outcome_cells.specs.declared.cells.Cells.{Cells}
use Rattle.outcome_cells.specs.Shown.{Shown}
use Rattle.outcome_cells.specs.Shows.{Shows}
use Rattle.function_operators.specs.declared.index.Index.{Index}
use Rattle.function_operators.specs.declared.index.Index.TheVariants as index
use Rattle.function_operators.specs.Operands.{item_outcome}
use Rattle.function_operators.specs.Parts.{HasPart, index_value}
use Rattle.function_operators.specs.Updates.{IsOld, ShowsChange, is_outside, reach}

-- ---- the old value as the build grows

index-later : (b c : Build) (a : List Bool) (i : Index) (whole part : Sort) → Grows b c →
    HasPart b.arena.kinds i whole part →
    index_value c.arena a i ≡ index_value b.arena a i
index-later b c a (index.Cell x) (function_of s t) part g h = decode-before b c a x g (sort-there b.arena.kinds s x h.0)
index-later b c a (index.Cell x) (sequence_of t) part g h = decode-before b c a x g h.0.0
index-later b c a (index.Cell x) whole part g h = absurd h
index-later b c a (index.Number i) whole part g h = refl
index-later b c a (index.Name x) whole part g h = refl

pub part-later : (b c : Build) (i : Index) (whole part : Sort) → Grows b c → HasPart b.arena.kinds i whole part →
    HasPart c.arena.kinds i whole part
part-later b c (index.Cell x) (function_of s t) part g h = (OfSort-later b c s x h.0 g, h.1)
part-later b c (index.Cell x) (sequence_of t) part g h = (OfSort-later b c number x h.0 g, h.1)
part-later b c (index.Number i) (tuple_of n s) part g h = h
part-later b c (index.Name x) (record_of names s) part g h = h
part-later b c (index.Cell x) whole part g h = absurd h
part-later b c (index.Number i) whole part g h = absurd h
part-later b c (index.Name x) whole part g h = absurd h

pub reach-later : (b c : Build) (a : List Bool) (f : CellId) (i : Index) (whole part : Sort) → Grows b c →
    OfSort b.arena.kinds whole f →
    HasPart b.arena.kinds i whole part → reach c.arena a f i ≡ reach b.arena a f i
reach-later b c a f i whole part g h at =
    ap₂ (λ (u v : Value). step_into (out-Value u) v) (decode-before b c a f g (sort-there b.arena.kinds whole f h))
    (index-later b c a i whole part g at)

outside_where : (l : Bool) (v : Value) → is_outside (if l then Outside else At v) ≡ l
outside_where true v = refl
outside_where false v = refl

value_where : (l : Bool) (v u : Value) → (if l then Outside else At v) ≡ At u → v ≡ u
value_where true v u e = absurd (cc)
value_where false v u e = cc

-- where something stands at the index, what is put there need show the right side at the value of the cell of `old_at`
module _ (b d c : Build) (f : CellId) (i : Index) (whole part : Sort) (h : OfSort b.arena.kinds whole f)
    (at : HasPart b.arena.kinds i whole part)
    (before : Grows b d) (later : Grows d c) (both : Grows b c) (a : List Bool) (s : Satisfies a c.formula) where
  pub change_shown : (r : CellId × Lit) (x : Cells) (right : Value → Outcome) → IsOld b d f i (Some r) →
      (lit_value r.1 a ≡ false → Shows c.arena a x (right (decode d.arena a r.0))) →
      ShowsChange c.arena a f i (Some (r.1, x)) right
  change_shown r x right old new =
      let now : reach c.arena a f i ≡ (if lit_value r.1 a then Outside else At (decode d.arena a r.0)) =
      reach-later b c a f i whole part both h at ∙ old.reaches a (Satisfies-before d c a later s) in
      record {
        outside = sym (ap is_outside now ∙ outside_where (lit_value r.1 a) (decode d.arena a r.0));
        shows = λ v e. by (lit_value r.1 a) refl v (sym now ∙ e);
      }
    where
      by : (l : Bool) → lit_value r.1 a ≡ l → (v : Value) →
          (if lit_value r.1 a then Outside else At (decode d.arena a r.0)) ≡ At v →
          Shows c.arena a x (right v)
      by true is v e = absurd (let k : Outside ≡ At v =
          sym (ap (λ (t : Bool). if t then Outside else At (decode d.arena a r.0)) is) ∙ e in cc)
      by false is v e = subst (λ (u : Value). Shows c.arena a x (right u))
          (value_where (lit_value r.1 a) (decode d.arena a r.0) v e) (new is)

  pub no_change_shown : (right : Value → Outcome) → IsOld b d f i None → ShowsChange c.arena a f i None right
  no_change_shown right old = record {
    outside = sym (ap is_outside (reach-later b c a f i whole part both h at
        ∙ old.reaches a (Satisfies-before d c a later s)));
    shows = tt;
  }

-- ---- an item's number is an operand: its row behind the tuple alone shows the join of both

pub item_strict : (w : ℕ) (p : Place) (i : ℕ) (o : Outcome) (row : List Value → Outcome) (wr bg : Bool) (v : Value) →
    ((t : Value) → row (t ∷ []) ≡ item_outcome w p t i) → Shown wr bg v (strict (o ∷ []) row) →
    Shown wr bg v (strict (o ∷ number_outcome (Some w) p (pos i) ∷ []) (table (Some w) p op.Apply))
item_strict w p i o row wr bg v e h = by o (fits_width w (pos i)) h e
  where
    by : (o : Outcome) (b : Bool) → Shown wr bg v (strict (o ∷ []) row) →
        ((t : Value) → row (t ∷ []) ≡ with_value (if b then Val (value.Int (pos i)) else Big p)
        (λ n. table (Some w) p op.Apply (t ∷ n ∷ []))) →
        Shown wr bg v (strict (o ∷ (if b then Val (value.Int (pos i)) else Big p) ∷ []) (table (Some w) p op.Apply))
    by (Val t) true h e = subst (Shown wr bg v) (e t) h
    by (Val t) false h e = subst (Shown wr bg v) (e t) h
    by (Wrong q) true h e = h
    by (Wrong q) false h e = h
    by (Big q) true h e = h
    by (Big q) false h e = record { wrong = h.wrong; big = h.big; value = λ x k. absurd (cc) }
