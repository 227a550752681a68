-- The steps of loops over edges.
use Rattle.std.specs.Prelude.{◌≡◌, ℕ, ◌<◌, Bool, true, ◌&&◌, ◌||◌, List, [], ◌∷◌, ◌++◌, map, filter, take, All, length, slice_index_or, ℤ, pos, neg_ℤ, ◌≤ℤ◌, ◌^◌, if◌then◌else◌}
use Rattle.std.specs.List.{list_any}
use Rattle.sat_formula.specs.declared.lit.Lit.{Lit}
use Rattle.sat_formula.specs.declared.cnf.Cnf.{Cnf}
use Rattle.sat_formula.specs.Lit.{lit_value, IsBelow}
use Rattle.sat_formula.specs.Formula.{Satisfies, HasValue}
use Rattle.tla_values.specs.declared.value.Value.{Value}
use Rattle.tla_values.specs.Sets.{member, elements, set_of}
use Rattle.cell_arena.specs.declared.kinds.CellId.{CellId}
use Rattle.cell_arena.specs.declared.kinds.CellKind.{CellKind}
use Rattle.cell_arena.specs.Cells.{Cells}
use Rattle.word_blaster.specs.Word.{WordBelow, values, number as bit_number}
use Rattle.cell_arena.specs.Decode.{decode, present}
use Rattle.cell_arena.specs.Growth.{Decodes}
use Rattle.cell_arena.specs.declared.build.Build.{Build}
use Rattle.cell_merge.specs.Sorts.{Sort, OfSort, number, set_of as set_sort}
use Rattle.cell_merge.specs.Edges.{any_edge, LeadTo, AreNamed, OneSort}
use Rattle.set_rewriter.specs.Edges.{kept}
use Rattle.set_rewriter.specs.Ranges.{from_on, lies}
use Rattle.set_rewriter.specs.Subsets.{all_subsets}
use Rattle.tla_values.specs.declared.value.Value.TheVariants as value

-- the value, where it is there
abbrev pub one : Bool → Value → List Value
one t v = if t then v ∷ [] else []

-- of the first edges those that are kept
pub record KeepsEdges (f : Cnf) (es front : List (Lit × CellId)) (keep : List Lit) (out : List (Lit × CellId)) : Type 0 where
  pub named : AreNamed f.vars out
  pub sorts : (ks : List CellKind) (s : Sort) → LeadTo ks s es → LeadTo ks s out
  pub members : (a : List Bool) → Satisfies a f → (of : CellId → Value) (p : Value → Bool) →
      any_edge a of p out ≡ list_any p (kept a of front keep)

-- a set of some sort
pub record IsSetIn (ks : List CellKind) (id : CellId) : Type 0 where
  pub sort : Sort
  pub is : OfSort ks (set_sort sort) id

-- edges to sets of one sort over the first n variables
pub record AreSets (ks : List CellKind) (n : ℕ) (es : List (Lit × CellId)) : Type 0 where
  pub sort : Sort
  pub cells : LeadTo ks (set_sort sort) es
  pub named : AreNamed n es

-- more edges, each there only where the literal is true
pub record Guards (f : Cnf) (l : Lit) (es front old new : List (Lit × CellId)) : Type 0 where
  pub named : AreNamed f.vars new
  pub sorts : (ks : List CellKind) (s : Sort) → LeadTo ks s old → LeadTo ks s es → LeadTo ks s new
  pub members : (a : List Bool) → Satisfies a f → (of : CellId → Value) (p : Value → Bool) →
      any_edge a of p new ≡ (any_edge a of p old || (lit_value l a && any_edge a of p front))

-- more edges, for the members of a set where the literal is true
pub record GuardsSet (c : Cells) (f : Cnf) (l : Lit) (set : CellId) (old new : List (Lit × CellId)) : Type 0 where
  pub named : AreNamed f.vars new
  pub sorts : (s : Sort) → LeadTo c.kinds s old → OfSort c.kinds (set_sort s) set → LeadTo c.kinds s new
  pub members : (a : List Bool) → Satisfies a f → (p : Value → Bool) →
      any_edge a (decode c a) p new ≡ (any_edge a (decode c a) p old || (lit_value l a && list_any p (elements (decode c a set))))

-- the edges of the first sets, each there only where its set is
pub record Inside (c : Cells) (f : Cnf) (es front out : List (Lit × CellId)) : Type 0 where
  pub named : AreNamed f.vars out
  pub sorts : (s : Sort) → LeadTo c.kinds (set_sort s) es → LeadTo c.kinds s out
  pub members : (a : List Bool) → Satisfies a f → (p : Value → Bool) →
      any_edge a (decode c a) p out ≡ any_edge a (decode c a) (λ v. list_any p (elements v)) front

-- each assignment that satisfies the old formula may give the new variables any values
unfoldable pub AreFree : Cnf → Cnf → List Lit → Type 0
AreFree old new bits =
    (a : List Bool) → length a ≡ old.vars → Satisfies a old → (values : List Bool) → length values ≡ length bits →
    (length (a ++ values) ≡ new.vars) × (Satisfies (a ++ values) new × (map (λ l. lit_value l (a ++ values)) bits ≡ values))

-- as many new variables
pub record FreeBits (old new : Cnf) (n : ℕ) (bits : List Lit) : Type 0 where
  pub named : All (IsBelow new.vars) bits
  pub count : length bits ≡ n
  pub free : AreFree old new bits

-- a number as a cell, and whether it lies from x to y
pub record IsCandidate (old new : Build) (x y : CellId) (n : ℤ) (r : Lit × CellId) : Type 0 where
  pub sort : OfSort new.arena.kinds number r.1
  pub cell : Decodes new r.1 (λ a. value.Int n)
  pub literal : HasValue new.formula r.0 (λ a. lies (decode old.arena a x) (decode old.arena a y) (value.Int n))

-- the first n numbers from low on, each there where it lies from x to y
pub record Candidates (old new : Build) (x y : CellId) (low : ℤ) (n : ℕ) (edges : List (Lit × CellId)) : Type 0 where
  pub cells : LeadTo new.arena.kinds number edges
  pub named : AreNamed new.formula.vars edges
  pub members : (a : List Bool) → Satisfies a new.formula → (p : Value → Bool) →
      any_edge a (decode new.arena a) p edges ≡ list_any p (filter (lies (decode old.arena a x) (decode old.arena a y)) (from_on low n))

-- within 64 bits and a sign
pub record IsSmall (n : ℤ) : Type 0 where
  pub from : neg_ℤ (pos (2 ^ 64)) ≤ℤ n
  pub to : n ≤ℤ pos (2 ^ 64)

-- a cell and edges of its sort
pub record CellAndEdges (ks : List CellKind) (n : ℕ) (cell : CellId) (es : List (Lit × CellId)) : Type 0 where
  pub sort : Sort
  pub is : OfSort ks sort cell
  pub cells : LeadTo ks sort es
  pub named : AreNamed n es

-- the bits are the number of members of the edges
pub record CountsEdges (c : Cells) (f : Cnf) (es : List (Lit × CellId)) (bits : List Lit) : Type 0 where
  pub below : WordBelow f.vars bits
  pub value : (a : List Bool) → Satisfies a f → bit_number (values bits a) ≡ length (set_of (present a (decode c a) es))

-- a set whose members are just the sets of those members that pass some test
pub record IsSetOfSubsets (v : Value) (members : List Value) : Type 0 where
  pub each : (w : Value) → member w (elements v) ≡ true → (test : Value → Bool) × (w ≡ value.Set (filter test members))
  pub all : (test : Value → Bool) → member (value.Set (filter test members)) (elements v) ≡ true

-- a set of some of the items
pub record IsSome (v : Value) (items : List Value) : Type 0 where
  pub some : List Value
  pub is : v ≡ value.Set (set_of some)
  pub within : (w : Value) → member w some ≡ true → member w items ≡ true

-- one of the cells is the set of the items that pass the test
pub record HasPart (c : Cells) (a : List Bool) (cells : List CellId) (items : List Value) (test : Value → Bool) : Type 0 where
  pub index : ℕ
  pub within : index < length cells
  pub is : (d : CellId) → decode c a (slice_index_or cells index d) ≡ value.Set (set_of (filter test items))

-- the cells are the subsets of the first i edges
pub record SubsetCells (old new : Build) (es : List (Lit × CellId)) (i : ℕ) (cells : List CellId) : Type 0 where
  pub sorts : (s : Sort) → LeadTo old.arena.kinds s es → All (OfSort new.arena.kinds (set_sort s)) cells
  pub each : (a : List Bool) → Satisfies a new.formula → (k : ℕ) (d : CellId) → k < length cells →
      IsSome (decode new.arena a (slice_index_or cells k d)) (present a (decode old.arena a) (take i es))
  pub all : (a : List Bool) → Satisfies a new.formula → (test : Value → Bool) →
      HasPart new.arena a cells (present a (decode old.arena a) (take i es)) test

-- the set with one more edge
pub record WithEdge (old new : Build) (e : Lit × CellId) (cell id : CellId) : Type 0 where
  pub sort : (s : Sort) → OfSort old.arena.kinds (set_sort s) cell → OfSort old.arena.kinds s e.1 → OfSort new.arena.kinds (set_sort s) id
  pub value : (a : List Bool) → Satisfies a new.formula → (items : List Value) → decode old.arena a cell ≡ value.Set (set_of items) →
      decode new.arena a id ≡ value.Set (set_of (items ++ one (lit_value e.0 a) (decode old.arena a e.1)))

-- each of the first n sets with one more edge
pub record WithEach (old new : Build) (e : Lit × CellId) (cells : List CellId) (n : ℕ) (out : List CellId) : Type 0 where
  pub count : length out ≡ n
  pub sorts : (s : Sort) → All (OfSort old.arena.kinds (set_sort s)) cells → OfSort old.arena.kinds s e.1 → All (OfSort new.arena.kinds (set_sort s)) out
  pub values : (a : List Bool) → Satisfies a new.formula → (k : ℕ) (d : CellId) → k < n → (items : List Value) → decode old.arena a (slice_index_or cells k d) ≡ value.Set (set_of items) →
      decode new.arena a (slice_index_or out k d) ≡ value.Set (set_of (items ++ one (lit_value e.0 a) (decode old.arena a e.1)))

-- sets of one sort, and an edge to a cell of it
pub record SetsAndEdge (b : Build) (cells : List CellId) (e : Lit × CellId) : Type 0 where
  pub sort : Sort
  pub sets : All (OfSort b.arena.kinds (set_sort sort)) cells
  pub cell : OfSort b.arena.kinds sort e.1
  pub below : e.0.var < b.formula.vars

-- edges of one sort over the build
pub record EdgesOfSort (b : Build) (es : List (Lit × CellId)) : Type 0 where
  pub edges : OneSort b.arena.kinds b.formula.vars es

-- the cell is the set of all subsets of the edges
pub record PowersetOf (old new : Build) (es : List (Lit × CellId)) (id : CellId) : Type 0 where
  pub value : Decodes new id (λ a. all_subsets (set_of (present a (decode old.arena a) es)))
  pub sort : (s : Sort) → LeadTo old.arena.kinds s es → OfSort new.arena.kinds (set_sort (set_sort s)) id
