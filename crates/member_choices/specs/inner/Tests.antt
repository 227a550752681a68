-- Literals and edges that go by a test of the choices that are there.
use Rattle.std.specs.Prelude.{◌≡◌, ℕ, ◌<◌, Bool, true, false, not, ◌&&◌, List, [], ◌∷◌, All, length, map}
use Rattle.std.specs.Prelude.{slice_index_or, if◌then◌else◌}
use Rattle.std.specs.List.{list_any}
use Rattle.sat_formula.specs.declared.lit.Lit.{Lit}
use Rattle.sat_formula.specs.declared.cnf.Cnf.{Cnf}
use Rattle.sat_formula.specs.Lit.{lit_value, IsBelow}
use Rattle.sat_formula.specs.Formula.{Satisfies}
use Rattle.tla_values.specs.declared.value.Value.{Value}
use Rattle.tla_values.specs.declared.value.Value.TheVariants as value
use Rattle.tla_meaning.specs.Meaning.{argument}
use Rattle.tla_meaning.specs.Shapes.{sequence, the_set}
use Rattle.tla_meaning.specs.Outcomes.{joined}
use Rattle.tla_meaning.specs.declared.outcome.Outcome.{Outcome}
use Rattle.cell_arena.specs.declared.build.Build.{Build}
use Rattle.cell_arena.specs.declared.kinds.CellId.{CellId}
use Rattle.cell_arena.specs.declared.kinds.CellKind.{CellKind}
use Rattle.cell_arena.specs.Cells.{Cells as Arena}
use Rattle.cell_arena.specs.Decode.{decode}
use Rattle.cell_merge.specs.Edges.{AreNamed, LeadTo, any_edge}
use Rattle.cell_merge.specs.Sorts.{Sort, OfSort, set_of}
use Rattle.outcome_cells.specs.declared.cells.Cells.{Cells}
use Rattle.outcome_cells.specs.declared.cells.Faults.{Faults}
use Rattle.outcome_cells.specs.Shows.{FaultsBelow, ShowsFault, cell_values, faults_of}
use Rattle.typed_cells.specs.KindSorts.{OfSorts, tuple_sort}
use Rattle.member_choices.specs.declared.choice.Choice.{Choice}
use Rattle.member_choices.specs.Binders.{argument_sort}
use Rattle.member_choices.specs.Choices.{AreChoices, BodiesShow, ChoicesBelow, ChoicesOf, ChoicesOfSome, any_choice}

-- at each choice that is there the literal is the test of its values
unfoldable pub TestsChoices : List Bool → (CellId → Value) → List Choice → List Lit → (List Value → Bool) → Type 0
TestsChoices a of cs ls t =
    (i : ℕ) (d : Choice) (l : Lit) → i < length cs → lit_value (slice_index_or cs i d).there a ≡ true →
    lit_value (slice_index_or ls i l) a ≡ t (map of (slice_index_or cs i d).cells)

-- at each choice that is there the other cell has this value
unfoldable pub HaveValues : Arena → List Bool → List Choice → List CellId → (List Value → Value) → Type 0
HaveValues c a cs ids h =
    (i : ℕ) (d : Choice) (x : CellId) → i < length cs → lit_value (slice_index_or cs i d).there a ≡ true →
    decode c a (slice_index_or ids i x) ≡ h (map (decode c a) (slice_index_or cs i d).cells)

-- the cells of bodies alone
abbrev pub cells_of : List Cells → List CellId
cells_of xs = map (λ x. x.cell) xs

-- a body of the sort for each choice, over the first n variables
pub record AreOver (ks : List CellKind) (n : ℕ) (s : Sort) (cs : List Choice) (bodies : List Cells) : Type 0 where
  pub below : ChoicesBelow n cs
  pub count : length bodies ≡ length cs
  pub named : All (λ x. FaultsBelow n (faults_of x)) bodies
  pub cells : All (λ x. OfSort ks s x.cell) bodies

-- literals of which one is true where some of the first choices is there and passes the test
pub record Guards (f : Cnf) (cs front : List Choice) (ls out : List Lit) : Type 0 where
  pub named : All (IsBelow f.vars) out
  pub any : (a : List Bool) → Satisfies a f → (of : CellId → Value) (t : List Value → Bool) →
      TestsChoices a of cs ls t →
      list_any (λ l. lit_value l a) out ≡ any_choice a of t front

-- whether some choice is there and passes the test
pub record IsAny (f : Cnf) (cs : List Choice) (ls : List Lit) (r : Lit) : Type 0 where
  pub below : IsBelow f.vars r
  pub value : (a : List Bool) → Satisfies a f → (of : CellId → Value) (t : List Value → Bool) →
      TestsChoices a of cs ls t →
      lit_value r a ≡ any_choice a of t cs

-- the faults of the bodies at all choices that are there, as one
pub record JoinsBodies (f : Cnf) (cs : List Choice) (bodies : List Cells) (r : Faults) : Type 0 where
  pub below : FaultsBelow f.vars r
  pub shows : (a : List Bool) → Satisfies a f → (c : Arena) (vss : List (List Value)) (body : List Value → Outcome) →
      AreChoices a (decode c a) cs vss → BodiesShow c a cs bodies body → ShowsFault a r (joined (map body vss))

-- the literals are those of the truth values, or of the opposite ones
pub record AreTurned (c : Arena) (bodies : List Cells) (wanted : Bool) (ls : List Lit) : Type 0 where
  pub named : All (IsBelow c.vars) ls
  pub count : length ls ≡ length bodies
  pub values : (a : List Bool) → cell_values c a bodies ≡
      map (λ l. value.Bool (if wanted then lit_value l a else not (lit_value l a))) ls

-- whether some body is the truth value that is wanted, and the faults of all
pub record FindsBody (c : Arena) (f : Cnf) (cs : List Choice) (bodies : List Cells) (wanted : Bool)
    (r : Lit × Faults) : Type 0 where
  pub joins : JoinsBodies f cs bodies r.1
  pub below : IsBelow f.vars r.0
  pub value : (a : List Bool) → Satisfies a f → (t : List Value → Bool) →
      HaveValues c a cs (cells_of bodies) (λ vs. value.Bool (t vs)) →
      lit_value r.0 a ≡ any_choice a (decode c a) (λ vs. if wanted then t vs else not (t vs)) cs

-- whether there is a first value, and it passes
abbrev pub first_passes : (Value → Bool) → List Value → Bool
first_passes p [] = false
first_passes p (v ∷ vs) = p v

-- edges to the first cells of some choices, each there where its choice is there and passes the test
pub record KeepsChoices (f : Cnf) (cs front : List Choice) (ls : List Lit) (out : List (Lit × CellId)) : Type 0 where
  pub named : AreNamed f.vars out
  pub sorts : (ks : List CellKind) (s : Sort) → ChoicesOf ks (s ∷ []) cs → LeadTo ks s out
  pub members : (a : List Bool) → Satisfies a f → (of : CellId → Value) (t : List Value → Bool) →
      TestsChoices a of cs ls t →
      (p : Value → Bool) → any_edge a of p out ≡ any_choice a of (λ vs. t vs && first_passes p vs) front

-- those of all choices where the body is true, and the faults of the bodies
pub record KeepsMembers (c : Arena) (f : Cnf) (cs : List Choice) (bodies : List Cells) (r : List (Lit × CellId))
    (g : Faults) : Type 0 where
  pub joins : JoinsBodies f cs bodies g
  pub named : AreNamed f.vars r
  pub sorts : (s : Sort) → ChoicesOf c.kinds (s ∷ []) cs → LeadTo c.kinds s r
  pub members : (a : List Bool) → Satisfies a f → (t : List Value → Bool) →
      HaveValues c a cs (cells_of bodies) (λ vs. value.Bool (t vs)) → (p : Value → Bool) →
      any_edge a (decode c a) p r ≡ any_choice a (decode c a) (λ vs. t vs && first_passes p vs) cs

-- an edge to each cell, there where its choice is
abbrev pub choice_edges : List Choice → List CellId → List (Lit × CellId)
choice_edges [] ids = []
choice_edges (c ∷ cs) [] = []
choice_edges (c ∷ cs) (id ∷ ids) = (c.there, id) ∷ choice_edges cs ids

-- cells of one sort, as many as choices
pub record AreImagesOf (ks : List CellKind) (n : ℕ) (cs : List Choice) (ids : List CellId) : Type 0 where
  pub below : ChoicesBelow n cs
  pub count : length ids ≡ length cs
  pub sort : Sort
  pub cells : All (OfSort ks sort) ids

-- an arrow for each choice, from the one cell to the other
abbrev pub choice_arrows : List Choice → List CellId → List CellId → List (Lit × CellId × CellId)
choice_arrows [] xs ys = []
choice_arrows (c ∷ cs) [] ys = []
choice_arrows (c ∷ cs) (x ∷ xs) [] = []
choice_arrows (c ∷ cs) (x ∷ xs) (y ∷ ys) = (c.there, x, y) ∷ choice_arrows cs xs ys

-- ---- one cell for each choice

-- the value of a choice's cells: a tuple, or of a single one itself where that is asked
abbrev pub whole_value : Bool → List Value → Value
whole_value alone vs = if alone then argument vs else sequence vs

abbrev pub whole_sort : Bool → List Sort → Sort
whole_sort alone ss = if alone then argument_sort ss else tuple_sort ss

-- cells of some sorts
pub record AreThere (ks : List CellKind) (xs : List CellId) : Type 0 where
  pub sorts : List Sort
  pub are : OfSorts ks sorts xs

-- one cell that is made of several
pub record IsWhole (old new : Build) (make : List Value → Value) (made : List Sort → Sort) (xs : List CellId)
    (id : CellId) : Type 0 where
  pub there : id.index < length new.arena.kinds
  pub sort : (ss : List Sort) → OfSorts old.arena.kinds ss xs → OfSort new.arena.kinds (made ss) id
  pub value : (a : List Bool) → Satisfies a new.formula → decode new.arena a id ≡ make (map (decode old.arena a) xs)

-- one for each of the first n choices
pub record AreWholes (old new : Build) (make : List Value → Value) (made : List Sort → Sort) (cs : List Choice) (n : ℕ)
    (ids : List CellId) : Type 0 where
  pub count : length ids ≡ n
  pub sorts : (ss : List Sort) → ChoicesOf old.arena.kinds ss cs → All (OfSort new.arena.kinds (made ss)) ids
  pub values : (a : List Bool) → Satisfies a new.formula → (i : ℕ) (d : Choice) (x : CellId) → i < n →
      decode new.arena a (slice_index_or ids i x) ≡ make (map (decode old.arena a) (slice_index_or cs i d).cells)

-- the cell is the set of the cells, each there where its choice is, and has the sort of sets of theirs
pub record CollectsCells (old new : Build) (cs : List Choice) (ids : List CellId) (id : CellId) : Type 0 where
  pub value : (a : List Bool) → Satisfies a new.formula → (vss : List (List Value)) (h : List Value → Value) →
      AreChoices a (decode old.arena a) cs vss → HaveValues old.arena a cs ids h →
      decode new.arena a id ≡ the_set (map h vss)
  pub sort : (s : Sort) → All (OfSort old.arena.kinds s) ids → OfSort new.arena.kinds (set_of s) id

-- the cell is the set of what is made of the values of the choices that are there, of a sort that theirs tell
pub record MakesOfChoices (old new : Build) (make : List Value → Value) (made : List Sort → Sort) (cs : List Choice)
    (id : CellId) : Type 0 where
  pub value : (a : List Bool) → Satisfies a new.formula → (vss : List (List Value)) →
      AreChoices a (decode old.arena a) cs vss →
      decode new.arena a id ≡ the_set (map make vss)
  pub sort : (ss : List Sort) → ChoicesOf old.arena.kinds ss cs → OfSort new.arena.kinds (set_of (made ss)) id

-- choices over the build
pub record ChoicesOver (b : Build) (cs : List Choice) : Type 0 where
  pub below : ChoicesBelow b.formula.vars cs
  pub some : ChoicesOfSome b.arena.kinds cs

-- choices over the build of n cells each
pub record ChoicesOfCount (b : Build) (n : ℕ) (cs : List Choice) : Type 0 where
  pub below : ChoicesBelow b.formula.vars cs
  pub sorts : List Sort
  pub count : length sorts ≡ n
  pub are : ChoicesOf b.arena.kinds sorts cs
