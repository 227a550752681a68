-- Values of cells that are known.
use Rattle.std.specs.Prelude.{◌≡◌, ℕ, ◌+◌, ◌<◌, List, [], ◌∷◌, length, max, Some}
use Rattle.std.specs.BTreeMap.{BTreeMap, get}
use Rattle.std.specs.Ordering.{nat_cmp}
use Rattle.tla_values.specs.declared.value.Value.{Value}
use Rattle.cell_arena.specs.declared.kinds.CellId.{CellId}
use Rattle.cell_arena.specs.Decode.{decode}
use Rattle.trace_decoder.specs.declared.decoder.Decoder.{Decoder}

abbrev pub IsThere : Decoder → CellId → Type 0
IsThere d id = id.index < length d.build.now.arena.kinds

-- the value of a cell under the decoder's assignment
abbrev pub value_of : Decoder → CellId → Value
value_of d id = decode d.build.now.arena d.assignment.now id

-- what is known of a cell is its value
abbrev pub AreKnown : Decoder → BTreeMap ℕ Value → Type 0
AreKnown d known =
    (id : CellId) (v : Value) → get nat_cmp known id.index ≡ Some v → v ≡ value_of d id

-- above each of the numbers
abbrev pub above : List ℕ → ℕ
above [] = 0
above (n ∷ ns) = max (n + 1) (above ns)
