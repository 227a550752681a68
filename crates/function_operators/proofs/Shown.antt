-- Cells that show an equal outcome, and the rows of cells of known sorts.
use Rattle.std.proofs.Common.{◌≡◌, ℕ, Bool, true, false, List, [], ◌∷◌, map, Some, pos, ap, ◌∙◌, sym, subst}
use Rattle.std.specs.Prelude.{if◌then◌else◌}
use Rattle.sat_formula.specs.Formula.{Satisfies}
use Rattle.tla_values.specs.Integers.{fits_width}
use Rattle.tla_values.specs.declared.value.Value.{Value}
use Rattle.tla_values.specs.declared.value.Value.TheVariants as value
use Rattle.tla_meaning.specs.declared.op.Op.{Op}
use Rattle.tla_meaning.specs.declared.op.Op.TheVariants as op
use Rattle.tla_meaning.specs.declared.outcome.Outcome.{Outcome}
use Rattle.tla_meaning.specs.declared.outcome.Outcome.TheVariants.{Val, Big}
use Rattle.tla_meaning.specs.declared.place.Place.{Place}
use Rattle.tla_meaning.specs.Operators.{table, or_wrong}
use Rattle.tla_meaning.specs.Outcomes.{with_value}
use Rattle.cell_arena.specs.declared.build.Build.{Build}
use Rattle.cell_arena.specs.declared.kinds.CellId.{CellId}
use Rattle.cell_arena.specs.Decode.{decode}
use Rattle.cell_arena.specs.Growth.{Decodes, Grows}
use Rattle.function_rewriter.specs.Functions.{IsField, IsItem, HasItem, HasField}
use Rattle.outcome_cells.specs.declared.cells.Cells.{Cells}
use Rattle.outcome_cells.specs.Rows.{ShowsAt}
use Rattle.outcome_cells.specs.Shows.{Shows}
use Rattle.outcome_cells.proofs.Later.{width-later}
use Rattle.function_operators.specs.Operands.{HasRow, HasItemRow}
use Rattle.function_operators.proofs.Rows.{row_apply, row_field}
use Rattle.function_operators.proofs.Values.{tuple_value, record_value}

-- the outcome that is shown may be written otherwise
pub same_shown : (b : Build) (x : Cells) (f g : List Bool → Place → Outcome) → ShowsAt b x f →
    ((a : List Bool) → Satisfies a b.formula → (p : Place) → g a p ≡ f a p) → ShowsAt b x g
same_shown b x f g h e = record { shows = λ a s p. subst (Shows b.arena a x) (sym (e a s p)) (h.shows a s p) }

abbrev pub values_in : Build → List Bool → List CellId → List Value
values_in b a xs = map (decode b.arena a) xs

-- a row at the older width
pub row_shown : (b c : Build) (o : Op) (xs : List CellId) (x : Cells) (f : List Bool → Place → Outcome) → Grows b c →
    ShowsAt c x f →
    ((a : List Bool) → Satisfies a c.formula → (p : Place) →
    table (Some b.arena.width) p o (values_in b a xs) ≡ f a p) →
    HasRow b c o xs x
row_shown b c o xs x f grows h e =
    same_shown c x f _ h (λ a s p. ap (λ (w : ℕ). table (Some w) p o (values_in b a xs)) (width-later b c grows)
    ∙ e a s p)

-- ---- a value that is sure

pub value_shown : (b c : Build) (o : Op) (xs : List CellId) (x : Cells) (id : CellId) (v : List Bool → Value) →
    Grows b c → Decodes c id v →
    ShowsAt c x (λ a _. Val (decode c.arena a id)) →
    ((a : List Bool) (p : Place) → table (Some b.arena.width) p o (values_in b a xs) ≡ Val (v a)) → HasRow b c o xs x
value_shown b c o xs x id v grows made h e =
    row_shown b c o xs x _ grows h (λ a s p. e a p ∙ ap Val (sym (made.value a s)))

-- ---- parts of tuples and records

-- an item whose number fits
pub item_shown : (b : Build) (t id : CellId) (i : ℕ) (x : Cells) → HasItem b.arena.kinds t i → IsItem b t i id →
    fits_width b.arena.width (pos i) ≡ true → ShowsAt b x (λ a _. Val (decode b.arena a id)) → HasItemRow b t i x
item_shown b t id i x has is fits h =
    same_shown b x _ _ h (λ a s p.
    ap (λ (f : Bool). with_value (if f then Val (value.Int (pos i)) else Big p)
    (λ n. table (Some b.arena.width) p op.Apply (decode b.arena a t ∷ n ∷ []))) fits
    ∙ (row_apply (Some b.arena.width) p (decode b.arena a t) (value.Int (pos i))
    (tuple_value b.arena a t has.count has.sorts b.built has.is).mapping
    ∙ ap (or_wrong p) (is.gives a)))

-- and one whose number does not
pub item_big : (b : Build) (t : CellId) (i : ℕ) (x : Cells) → fits_width b.arena.width (pos i) ≡ false →
    ShowsAt b x (λ a p. Big p) →
    HasItemRow b t i x
item_big b t i x fits h =
    same_shown b x _ _ h (λ a s p.
    ap (λ (f : Bool). with_value (if f then Val (value.Int (pos i)) else Big p)
    (λ n. table (Some b.arena.width) p op.Apply (decode b.arena a t ∷ n ∷ []))) fits)

pub field_shown : (b : Build) (r id : CellId) (name : List ℕ) (x : Cells) → HasField b.arena.kinds r name →
    IsField b r name id →
    ShowsAt b x (λ a _. Val (decode b.arena a id)) → HasRow b b (op.Field name) (r ∷ []) x
field_shown b r id name x has is h =
    same_shown b x _ _ h (λ a s p.
    row_field (Some b.arena.width) p (decode b.arena a r) name
    (record_value b.arena a r has.names has.sorts b.built has.is)
    ∙ ap (or_wrong p) (is.gives a))
