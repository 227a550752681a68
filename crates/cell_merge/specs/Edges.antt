-- The members of sets by their edges, and two sets made into one.
use Rattle.std.specs.Prelude.{◌≡◌, ℕ, ◌<◌, Bool, true, ◌&&◌, ◌||◌, List, [], All, length, slice_index_or, if◌then◌else◌}
use Rattle.std.specs.List.{list_any}
use Rattle.sat_formula.specs.declared.lit.Lit.{Lit}
use Rattle.sat_formula.specs.declared.cnf.Cnf.{Cnf}
use Rattle.sat_formula.specs.Lit.{lit_value, IsBelow}
use Rattle.sat_formula.specs.Formula.{Satisfies}
use Rattle.tla_values.specs.declared.value.Value.{Value}
use Rattle.cell_arena.specs.declared.kinds.CellId.{CellId}
use Rattle.cell_arena.specs.declared.kinds.CellKind.{CellKind}
use Rattle.cell_arena.specs.declared.kinds.CellKind.TheVariants.{Set}
use Rattle.cell_arena.specs.Cells.{Cells}
use Rattle.cell_arena.specs.Decode.{decode}
use Rattle.cell_merge.specs.declared.merging.Join.{Join}
use Rattle.cell_merge.specs.declared.merging.Join.TheVariants.{Either, Chosen}
use Rattle.cell_merge.specs.Sorts.{Sort, OfSort}

-- the edges of a set; of any other kind none
abbrev pub edges_of : CellKind → List (Lit × CellId)
edges_of (Set es) = es
edges_of k = []

-- whether the value of an edge that is there passes the test
abbrev pub any_edge : List Bool → (CellId → Value) → (Value → Bool) → List (Lit × CellId) → Bool
any_edge a of p es = list_any (λ e. lit_value e.0 a && p (of e.1)) es

-- each edge leads to a cell of the sort
abbrev pub LeadTo : List CellKind → Sort → List (Lit × CellId) → Type 0
LeadTo ks s es = All (λ e. OfSort ks s e.1) es

-- each edge has one of the first n variables
abbrev pub AreNamed : ℕ → List (Lit × CellId) → Type 0
AreNamed n es = All (λ e. IsBelow n e.0) es

-- edges of one sort over the first n variables
pub record OneSort (ks : List CellKind) (n : ℕ) (es : List (Lit × CellId)) : Type 0 where
  pub sort : Sort
  pub cells : LeadTo ks sort es
  pub named : AreNamed n es

-- edges of sets of one sort, over the formula's variables
pub record TwoSets (ks : List CellKind) (n : ℕ) (es fs : List (Lit × CellId)) : Type 0 where
  pub sort : Sort
  pub left : LeadTo ks sort es
  pub right : LeadTo ks sort fs
  pub left_named : AreNamed n es
  pub right_named : AreNamed n fs

-- of two answers either, or the chosen one
abbrev pub joined : Join → List Bool → Bool → Bool → Bool
joined Either a p q = p || q
joined (Chosen l) a p q = if lit_value l a then p else q

-- the literal of a choice is one of the first n variables
abbrev pub JoinBelow : ℕ → Join → Type 0
JoinBelow n Either = Unit {0}
JoinBelow n (Chosen l) = IsBelow n l

-- under each satisfying assignment the edges have the members of both sets, or of the chosen one
pub record Merges (c : Cells) (f : Cnf) (join : Join) (es fs out : List (Lit × CellId)) : Type 0 where
  pub named : AreNamed f.vars out
  pub sorts : (s : Sort) → LeadTo c.kinds s es → LeadTo c.kinds s fs → LeadTo c.kinds s out
  pub members : (a : List Bool) → Satisfies a f → (p : Value → Bool) →
      any_edge a (decode c a) p out ≡ joined join a (any_edge a (decode c a) p es) (any_edge a (decode c a) p fs)

-- under each satisfying assignment the edges have the members of the first ones
pub record JoinsAll (c : Cells) (f : Cnf) (es front out : List (Lit × CellId)) : Type 0 where
  pub named : AreNamed f.vars out
  pub sorts : (s : Sort) → LeadTo c.kinds s es → LeadTo c.kinds s out
  pub members : (a : List Bool) → Satisfies a f → (p : Value → Bool) → any_edge a (decode c a) p out ≡ any_edge a (decode c a) p front

-- for each of the first n edges a literal, which where the edge is there is the test of its value
pub record TestsEach (c : Cells) (f : Cnf) (es : List (Lit × CellId)) (n : ℕ) (test : List Bool → Value → Bool) (ls : List Lit) : Type 0 where
  pub named : All (IsBelow f.vars) ls
  pub count : length ls ≡ n
  pub values : (a : List Bool) → Satisfies a f → (i : ℕ) → i < n → (e : Lit × CellId) (l : Lit) → lit_value (slice_index_or es i e).0 a ≡ true →
      lit_value (slice_index_or ls i l) a ≡ test a (decode c a (slice_index_or es i e).1)

-- cells of one sort, as many as there are edges
pub record AreImages (ks : List CellKind) (es : List (Lit × CellId)) (images : List CellId) : Type 0 where
  pub count : length images ≡ length es
  pub sort : Sort
  pub cells : All (OfSort ks sort) images

-- at each edge that is there the other cell is the image of the value
unfoldable pub MapsBy : List Bool → (CellId → Value) → List (Lit × CellId) → List CellId → (Value → Value) → Type 0
MapsBy a of es xs g =
    (i : ℕ) (e : Lit × CellId) (x : CellId) → i < length es → lit_value (slice_index_or es i e).0 a ≡ true → of (slice_index_or xs i x) ≡ g (of (slice_index_or es i e).1)
