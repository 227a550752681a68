-- Types all of whose parts are of some kind.
use Rattle.std.specs.Prelude.{ℕ, List, Option}
use Rattle.snowcat_rows.specs.Types.{Term, Slot, Head, var, con, app, fields, none, some}

-- what is asked of a variable, of a form and of what ends a record
module _ (V : ℕ → Type 0) (H : Head → Type 0) (E : Option ℕ → Type 0) where
  abbrev mutual
    pub Throughout : Term → Type 0
    Throughout (var v) = V v
    Throughout (con h) = H h
    Throughout (app a b) = Throughout a × Throughout b
    Throughout (fields f k) = ((name : List ℕ) → ThroughoutSlot (f name)) × E k

    pub ThroughoutSlot : Slot → Type 0
    ThroughoutSlot none = Unit {0}
    ThroughoutSlot (some t) = Throughout t
