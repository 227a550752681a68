-- The steps in which two sets are made into one.
use Rattle.std.specs.Prelude.{◌≡◌, ℕ, ◌<◌, Bool, false, ◌&&◌, ◌||◌, List, All}
use Rattle.sat_formula.specs.declared.lit.Lit.{Lit}
use Rattle.sat_formula.specs.declared.cnf.Cnf.{Cnf}
use Rattle.sat_formula.specs.Lit.{lit_value, IsBelow}
use Rattle.sat_formula.specs.Formula.{Satisfies}
use Rattle.tla_values.specs.declared.value.Value.{Value}
use Rattle.cell_arena.specs.declared.kinds.CellId.{CellId}
use Rattle.cell_arena.specs.declared.kinds.CellKind.{CellKind}
use Rattle.cell_arena.specs.Cells.{Cells}
use Rattle.cell_arena.specs.Decode.{decode}
use Rattle.cell_merge.specs.declared.merging.Join.{Join}
use Rattle.cell_merge.specs.Sorts.{Sort, OfSort}
use Rattle.cell_merge.specs.Edges.{any_edge, LeadTo, AreNamed, joined}

-- each edge leads to one of the first n cells
abbrev pub AreThere : ℕ → List (Lit × CellId) → Type 0
AreThere n es = All (λ e. e.1.index < n) es

-- of the first edges, those that lead to a cell with the value of this one, as one literal, and the
-- others
pub record Parted (c : Cells) (f : Cnf) (cell : CellId) (front es : List (Lit × CellId)) (l : Lit) (others : List (Lit × CellId)) : Type 0 where
  pub below : IsBelow f.vars l
  pub named : AreNamed f.vars others
  pub sorts : (s : Sort) → LeadTo c.kinds s es → LeadTo c.kinds s others
  pub members : (a : List Bool) → Satisfies a f → (p : Value → Bool) →
      any_edge a (decode c a) p front ≡ ((lit_value l a && p (decode c a cell)) || any_edge a (decode c a) p others)

-- one edge more, whose literal is joined of two
pub record Joins (ks : List CellKind) (f : Cnf) (join : Join) (l m : Lit) (cell : CellId) (old new : List (Lit × CellId)) : Type 0 where
  pub named : AreNamed f.vars new
  pub sorts : (s : Sort) → LeadTo ks s old → OfSort ks s cell → LeadTo ks s new
  pub members : (a : List Bool) → Satisfies a f → (of : CellId → Value) (p : Value → Bool) →
      any_edge a of p new ≡ (any_edge a of p old || (joined join a (lit_value l a) (lit_value m a) && p (of cell)))

-- the first edges of one set are joined with what is gone of the other
pub record Joining (c : Cells) (f : Cnf) (join : Join) (front es fs out rest : List (Lit × CellId)) : Type 0 where
  pub named : AreNamed f.vars out
  pub rest_named : AreNamed f.vars rest
  pub sorts : (s : Sort) → LeadTo c.kinds s es → LeadTo c.kinds s fs → LeadTo c.kinds s out
  pub rest_sorts : (s : Sort) → LeadTo c.kinds s fs → LeadTo c.kinds s rest
  pub members : (a : List Bool) → Satisfies a f → (p : Value → Bool) →
      (any_edge a (decode c a) p out || joined join a false (any_edge a (decode c a) p rest)) ≡ joined join a (any_edge a (decode c a) p front) (any_edge a (decode c a) p fs)
