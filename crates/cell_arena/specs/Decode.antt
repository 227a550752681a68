-- The value of each cell under an assignment (Konnov, Kukovec and Tran, "TLA+ Model Checking Made
-- Symbolic", OOPSLA 2019, section 4).
use Rattle.std.specs.Prelude.{ℕ, Bool, false, List, [], ◌∷◌, ◌++◌, map, filter, take, slice_index_or, ℤ, pos, negsuc}
use Rattle.std.specs.List.{fold}
use Rattle.sat_formula.specs.declared.lit.Lit.{Lit}
use Rattle.sat_formula.specs.Lit.{lit_value}
use Rattle.word_blaster.specs.Word.{word_value}
use Rattle.tla_values.specs.declared.value.Value.{Value}
use Rattle.tla_values.specs.declared.value.Value.TheVariants as value
use Rattle.tla_values.specs.Sets.{set_of, function_of}
use Rattle.tla_values.specs.Sequences.{sequence}
use Rattle.cell_arena.specs.Cells.{Cells}
use Rattle.cell_arena.specs.declared.kinds.CellId.{CellId}
use Rattle.cell_arena.specs.declared.kinds.CellKind.{CellKind}
use Rattle.cell_arena.specs.declared.kinds.CellKind.TheVariants.{Bit, Word, Text, Set, Fun, Rec, Tup, Seq}

-- the values of the edges whose literal is true
abbrev pub present : List Bool → (CellId → Value) → List (Lit × CellId) → List Value
present a of es = map (λ e. of e.1) (filter (λ e. lit_value e.0 a) es)

-- the arguments and results of the edges whose literal is true
abbrev pub present_pairs : List Bool → (CellId → Value) → List (Lit × CellId × CellId) → List (Value × Value)
present_pairs a of es = map (λ e. (of e.1, of e.2)) (filter (λ e. lit_value e.0 a) es)

-- the fields of a record with their values
abbrev pub field_pairs : (CellId → Value) → List (List ℕ × CellId) → List (Value × Value)
field_pairs of fs = map (λ f. (value.Text f.0, of f.1)) fs

-- the text with a code; outside of the texts the empty one
abbrev pub text_at : List (List ℕ) → ℤ → List ℕ
text_at ts (pos n) = slice_index_or ts n []
text_at ts (negsuc n) = []

-- the first places of a sequence
abbrev pub first_places : ℤ → List Value → List Value
first_places (pos n) vs = take n vs
first_places (negsuc n) vs = []

-- the value of a kind over these texts, given the values of the cells that it refers to
abbrev pub kind_value : List (List ℕ) → List Bool → (CellId → Value) → CellKind → Value
kind_value ts a of (Bit l) = value.Bool (lit_value l a)
kind_value ts a of (Word w) = value.Int (word_value w a)
kind_value ts a of (Text w) = value.Text (text_at ts (word_value w a))
kind_value ts a of (Set es) = value.Set (set_of (present a of es))
kind_value ts a of (Fun es) = value.Fun (function_of (present_pairs a of es))
kind_value ts a of (Rec fs) = value.Fun (function_of (field_pairs of fs))
kind_value ts a of (Tup ps) = sequence (map of ps)
kind_value ts a of (Seq w ps) = sequence (first_places (word_value w a) (map of ps))

abbrev pub value_at : List Value → CellId → Value
value_at vs id = slice_index_or vs id.index (value.Bool false)

-- the values of all cells, oldest first
unfoldable pub decode_all : List (List ℕ) → List CellKind → List Bool → List Value
decode_all ts ks a = fold (λ vs k. vs ++ kind_value ts a (value_at vs) k ∷ []) [] ks

-- the value of a cell under an assignment
unfoldable pub decode : Cells → List Bool → CellId → Value
decode c a id = value_at (decode_all c.texts c.kinds a) id
