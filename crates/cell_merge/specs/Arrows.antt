-- Functions by their pairs and arrows, and the length of a sequence.
use Rattle.std.specs.Prelude.{ℕ, List, [], All, map}
use Rattle.sat_formula.specs.declared.lit.Lit.{Lit}
use Rattle.sat_formula.specs.Lit.{IsBelow}
use Rattle.tla_values.specs.Order.{Layer}
use Rattle.tla_values.specs.declared.value.Value.{Value, out-Value}
use Rattle.tla_values.specs.declared.value.Value.TheOpen as layer
use Rattle.cell_arena.specs.declared.kinds.CellId.{CellId}
use Rattle.cell_arena.specs.declared.kinds.CellKind.{CellKind}
use Rattle.cell_arena.specs.declared.kinds.CellKind.TheVariants.{Fun, Seq}
use Rattle.cell_merge.specs.Sorts.{Sort, OfSort}

abbrev pub pairs_here : Layer Value → List (Value × Value)
pairs_here (layer.Bool b) = []
pairs_here (layer.Int n) = []
pairs_here (layer.Text t) = []
pairs_here (layer.Set xs) = []
pairs_here (layer.Fun ps) = ps

-- the pairs of a function; of any other value none
unfoldable pub pairs_of : Value → List (Value × Value)
pairs_of v = pairs_here (out-Value v)

-- the arrows of a function, from an argument to a result; of any other kind none
abbrev pub arrows_of : CellKind → List (Lit × CellId × CellId)
arrows_of (Fun es) = es
arrows_of k = []

-- the edges to their arguments
abbrev pub argument_edges : List (Lit × CellId × CellId) → List (Lit × CellId)
argument_edges es = map (λ e. (e.0, e.1)) es

-- each arrow leads from a cell of the one sort to one of the other
abbrev pub LeadFrom : List CellKind → Sort → Sort → List (Lit × CellId × CellId) → Type 0
LeadFrom ks s t es = All (λ e. OfSort ks s e.1 × OfSort ks t e.2) es

-- each arrow has one of the first n variables
abbrev pub ArrowsNamed : ℕ → List (Lit × CellId × CellId) → Type 0
ArrowsNamed n es = All (λ e. IsBelow n e.0) es

-- the word of a sequence's length; of any other kind none
abbrev pub length_word : CellKind → List Lit
length_word (Seq w ps) = w
length_word k = []
