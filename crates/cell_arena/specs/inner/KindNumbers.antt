-- A number for each kind, by which equal kinds are found.
use Rattle.std.specs.Prelude.{ℕ, ◌+◌, ◌*◌, ◌%◌, Bool, List, fold, if◌then◌else◌}
use Rattle.sat_formula.specs.declared.lit.Lit.{Lit}
use Rattle.cell_arena.specs.declared.kinds.CellId.{CellId}
use Rattle.cell_arena.specs.declared.kinds.CellKind.{CellKind}
use Rattle.cell_arena.specs.declared.kinds.CellKind.TheVariants.{Bit, Word, Text, Set, Fun, Rec, Tup, Seq}

-- one number of 32 bits of two
unfoldable pub mixed : ℕ → ℕ → ℕ
mixed h x = (h % 4294967296 * 2654435761 + x % 4294967296) % 4294967296

abbrev pub sign : Bool → ℕ
sign b = if b then 1 else 0

abbrev pub mixed_lit : ℕ → Lit → ℕ
mixed_lit h l = mixed (mixed h l.var) (sign l.neg)

abbrev pub lits_number : ℕ → List Lit → ℕ
lits_number h ls = fold mixed_lit h ls

abbrev pub text_number : ℕ → List ℕ → ℕ
text_number h bytes = fold mixed h bytes

abbrev pub ids_number : ℕ → List CellId → ℕ
ids_number h ids = fold (λ n id. mixed n id.index) h ids

abbrev pub edges_number : ℕ → List (Lit × CellId) → ℕ
edges_number h es = fold (λ n e. mixed (mixed_lit n e.0) e.1.index) h es

abbrev pub arrows_number : ℕ → List (Lit × CellId × CellId) → ℕ
arrows_number h es = fold (λ n e. mixed (mixed (mixed_lit n e.0) e.1.index) e.2.index) h es

abbrev pub fields_number : ℕ → List (List ℕ × CellId) → ℕ
fields_number h fs = fold (λ n f. mixed (text_number n f.0) f.1.index) h fs

unfoldable pub kind_number : CellKind → ℕ
kind_number (Bit l) = mixed_lit 1 l
kind_number (Word w) = lits_number 2 w
kind_number (Text w) = lits_number 3 w
kind_number (Set es) = edges_number 4 es
kind_number (Fun es) = arrows_number 5 es
kind_number (Rec fs) = fields_number 6 fs
kind_number (Tup ps) = ids_number 7 ps
kind_number (Seq w ps) = ids_number (lits_number 8 w) ps
