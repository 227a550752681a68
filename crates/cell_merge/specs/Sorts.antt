-- The sorts of cells.
use Rattle.std.specs.Prelude.{◌≡◌, ℕ, ◌<◌, ◌≤◌, List, All, length, map, slice_index_or}
use Rattle.sat_formula.specs.declared.cnf.Cnf.{Cnf}
use Rattle.cell_arena.specs.declared.kinds.CellId.{CellId}
use Rattle.cell_arena.specs.declared.kinds.CellKind.{CellKind}
use Rattle.cell_arena.specs.declared.kinds.CellKind.TheVariants.{Bit, Word, Text, Set, Fun, Rec, Tup, Seq}
use Rattle.cell_arena.specs.Cells.{Cells, WellBuilt, InRange, kind_at}

-- a truth value, a number, a text, a set of a sort, a function from one sort to another, a sequence of
-- a sort, a record of named parts in an order, or a tuple of so many parts; the sort of a part is told by
-- its place
pub data Sort : Type 0 where
  truth : Sort
  number : Sort
  name : Sort
  set_of : Sort → Sort
  function_of : Sort → Sort → Sort
  sequence_of : Sort → Sort
  record_of : List (List ℕ) → (ℕ → Sort) → Sort
  tuple_of : ℕ → (ℕ → Sort) → Sort

abbrev pub IsBit : CellKind → Type 0
IsBit (Bit l) = Unit {0}
IsBit k = ⊥

abbrev pub IsWord : CellKind → Type 0
IsWord (Word w) = Unit {0}
IsWord k = ⊥

abbrev pub IsText : CellKind → Type 0
IsText (Text w) = Unit {0}
IsText k = ⊥

-- a set whose edges lead to such cells
abbrev pub IsSet : (CellId → Type 0) → CellKind → Type 0
IsSet P (Set es) = All (λ e. P e.1) es
IsSet P k = ⊥

-- a function whose edges lead from such arguments to such results
abbrev pub IsFunction : (CellId → Type 0) → (CellId → Type 0) → CellKind → Type 0
IsFunction P Q (Fun es) = All (λ e. P e.1 × Q e.2) es
IsFunction P Q k = ⊥

-- a sequence of such places
abbrev pub IsSequence : (CellId → Type 0) → CellKind → Type 0
IsSequence P (Seq w ps) = All P ps
IsSequence P k = ⊥

-- so many parts, each with what is asked at its place
abbrev pub ArePlaced : ℕ → (ℕ → CellId → Type 0) → List CellId → Type 0
ArePlaced n P ps = (length ps ≡ n) × ((i : ℕ) (d : CellId) → i < n → P i (slice_index_or ps i d))

-- a record of these names in this order
abbrev pub IsRecord : List (List ℕ) → (ℕ → CellId → Type 0) → CellKind → Type 0
IsRecord names P (Rec fs) = (map (λ f. f.0) fs ≡ names) × ArePlaced (length names) P (map (λ f. f.1) fs)
IsRecord names P k = ⊥

abbrev pub IsTuple : ℕ → (ℕ → CellId → Type 0) → CellKind → Type 0
IsTuple n P (Tup ps) = ArePlaced n P ps
IsTuple n P k = ⊥

-- the cell is there and of the sort, and so are those that it holds, each of the sort of its role
abbrev pub OfSort : List CellKind → Sort → CellId → Type 0
OfSort ks truth id = (id.index < length ks) × IsBit (kind_at ks id)
OfSort ks number id = (id.index < length ks) × IsWord (kind_at ks id)
OfSort ks name id = (id.index < length ks) × IsText (kind_at ks id)
OfSort ks (set_of s) id = (id.index < length ks) × IsSet (OfSort ks s) (kind_at ks id)
OfSort ks (function_of s t) id = (id.index < length ks) × IsFunction (OfSort ks s) (OfSort ks t) (kind_at ks id)
OfSort ks (sequence_of s) id = (id.index < length ks) × IsSequence (OfSort ks s) (kind_at ks id)
OfSort ks (record_of names s) id = (id.index < length ks) × IsRecord names (λ i. OfSort ks (s i)) (kind_at ks id)
OfSort ks (tuple_of n s) id = (id.index < length ks) × IsTuple n (λ i. OfSort ks (s i)) (kind_at ks id)

-- the two cells have one sort
pub record OneType (ks : List CellKind) (x y : CellId) : Type 0 where
  pub sort : Sort
  pub left : OfSort ks sort x
  pub right : OfSort ks sort y

-- the two sets have one sort
pub record SetsOfOneType (ks : List CellKind) (x y : CellId) : Type 0 where
  pub sort : Sort
  pub left : OfSort ks (set_of sort) x
  pub right : OfSort ks (set_of sort) y

-- the two functions have one sort
pub record FunctionsOfOneType (ks : List CellKind) (x y : CellId) : Type 0 where
  pub from : Sort
  pub to : Sort
  pub left : OfSort ks (function_of from to) x
  pub right : OfSort ks (function_of from to) y

-- the two sequences have one sort
pub record SequencesOfOneType (ks : List CellKind) (x y : CellId) : Type 0 where
  pub sort : Sort
  pub left : OfSort ks (sequence_of sort) x
  pub right : OfSort ks (sequence_of sort) y

-- the cell has the sort of the set's members
pub record MemberType (ks : List CellKind) (x set : CellId) : Type 0 where
  pub sort : Sort
  pub left : OfSort ks sort x
  pub right : OfSort ks (set_of sort) set

-- an arena that was built over a formula
pub record IsOver (c : Cells) (f : Cnf) : Type 0 where
  pub fits : c.vars ≤ f.vars
  pub built : WellBuilt c
  pub ranges : InRange c f
