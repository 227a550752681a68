-- Steps over the arrows of functions.
use Rattle.std.specs.Prelude.{◌≡◌, ℕ, ◌<◌, Bool, true, ◌&&◌, List, [], ◌∷◌, ◌++◌, All, length, take, drop, slice_index_or, Option, Some, None, if◌then◌else◌}
use Rattle.sat_formula.specs.declared.lit.Lit.{Lit}
use Rattle.sat_formula.specs.declared.cnf.Cnf.{Cnf}
use Rattle.sat_formula.specs.Lit.{lit_value, IsBelow}
use Rattle.sat_formula.specs.Formula.{Satisfies}
use Rattle.tla_values.specs.Order.{same_value}
use Rattle.tla_values.specs.Sets.{apply, arguments, member}
use Rattle.tla_values.specs.declared.value.Value.{Value}
use Rattle.tla_values.specs.declared.value.Value.TheVariants as value
use Rattle.cell_arena.specs.declared.build.Build.{Build}
use Rattle.cell_arena.specs.declared.kinds.CellId.{CellId}
use Rattle.cell_arena.specs.declared.kinds.CellKind.{CellKind}
use Rattle.cell_arena.specs.Cells.{Cells, kind_at}
use Rattle.cell_arena.specs.Decode.{decode, present_pairs}
use Rattle.cell_arena.specs.Growth.{Decodes}
use Rattle.cell_merge.specs.Sorts.{Sort, OfSort, set_of as set_sort, function_of as function_sort}
use Rattle.cell_merge.specs.Arrows.{arrows_of, LeadFrom, ArrowsNamed}
use Rattle.function_rewriter.specs.Functions.{pairs_of}

-- under each satisfying assignment some arrow that is there has the value of the cell as its argument
unfoldable pub Hides : Cnf → List (Lit × CellId × CellId) → CellId → Type 0
Hides f es cell = (a : List Bool) → Satisfies a f → (of : CellId → Value) → member (of cell) (arguments (present_pairs a of es)) ≡ true

-- the arrows of one function, and of the first ones of another those that are not hidden
pub record JoinsArrows (f : Cnf) (es front fs out : List (Lit × CellId × CellId)) : Type 0 where
  pub named : (n : ℕ) → ArrowsNamed n es → ArrowsNamed n fs → ArrowsNamed n out
  pub sorts : (ks : List CellKind) (s t : Sort) → LeadFrom ks s t es → LeadFrom ks s t fs → LeadFrom ks s t out
  pub gives : (a : List Bool) → Satisfies a f → (of : CellId → Value) (v : Value) →
      apply (present_pairs a of out) v ≡ apply (present_pairs a of es ++ present_pairs a of front) v

-- arrows of a function and a cell of the sort of their arguments
pub record ArrowsAndArgument (ks : List CellKind) (n : ℕ) (es : List (Lit × CellId × CellId)) (x : CellId) : Type 0 where
  pub from : Sort
  pub to : Sort
  pub arrows : LeadFrom ks from to es
  pub named : ArrowsNamed n es
  pub argument : OfSort ks from x

-- where the arrow is there, the literal says whether its argument has the value of the cell
pub record IsMatch (c : Cells) (f : Cnf) (e : Lit × CellId × CellId) (x : CellId) (l : Lit) : Type 0 where
  pub below : l.var < f.vars
  pub value : (a : List Bool) → Satisfies a f → lit_value e.0 a ≡ true → lit_value l a ≡ same_value (decode c a x) (decode c a e.1)

-- for each of the first n arrows a literal, which where the arrow is there says whether its argument
-- has the value of the cell
pub record Matches (c : Cells) (f : Cnf) (es : List (Lit × CellId × CellId)) (x : CellId) (n : ℕ) (ls : List Lit) : Type 0 where
  pub named : All (IsBelow f.vars) ls
  pub count : length ls ≡ n
  pub values : (a : List Bool) → Satisfies a f → (i : ℕ) → i < n → (e : Lit × CellId × CellId) (l : Lit) → lit_value (slice_index_or es i e).0 a ≡ true →
      lit_value (slice_index_or ls i l) a ≡ same_value (decode c a x) (decode c a (slice_index_or es i e).1)

-- for each of the first n arrows a literal, which says whether the arrow is there and its other literal
-- is true
pub record AndsEach (f : Cnf) (es : List (Lit × CellId × CellId)) (tests : List Lit) (n : ℕ) (ls : List Lit) : Type 0 where
  pub named : All (IsBelow f.vars) ls
  pub count : length ls ≡ n
  pub values : (a : List Bool) → Satisfies a f → (i : ℕ) → i < n → (e : Lit × CellId × CellId) (l m : Lit) →
      lit_value (slice_index_or ls i l) a ≡ (lit_value (slice_index_or es i e).0 a && lit_value (slice_index_or tests i m) a)

-- for each of the first n arrows a literal, which says whether the arrow is there and its argument has
-- the value of the cell
pub record Hits (c : Cells) (f : Cnf) (es : List (Lit × CellId × CellId)) (x : CellId) (n : ℕ) (ls : List Lit) : Type 0 where
  pub named : All (IsBelow f.vars) ls
  pub count : length ls ≡ n
  pub values : (a : List Bool) → Satisfies a f → (i : ℕ) → i < n → (e : Lit × CellId × CellId) (l : Lit) →
      lit_value (slice_index_or ls i l) a ≡ (lit_value (slice_index_or es i e).0 a && same_value (decode c a x) (decode c a (slice_index_or es i e).1))

-- a set of some sort
pub record IsSetIn (ks : List CellKind) (set : CellId) : Type 0 where
  pub sort : Sort
  pub is : OfSort ks (set_sort sort) set

-- a function of some sorts
pub record IsFunctionIn (ks : List CellKind) (f : CellId) : Type 0 where
  pub from : Sort
  pub to : Sort
  pub is : OfSort ks (function_sort from to) f

-- a function and a cell of the sort of its results
pub record FunctionAndResult (ks : List CellKind) (f v : CellId) : Type 0 where
  pub from : Sort
  pub to : Sort
  pub function : OfSort ks (function_sort from to) f
  pub result : OfSort ks to v

-- the result of the first arrow whose other literal is true
abbrev pub first_hit : List Bool → (CellId → Value) → List (Lit × CellId × CellId) → List Lit → Option Value
first_hit a of [] ls = None
first_hit a of (e ∷ es) [] = None
first_hit a of (e ∷ es) (l ∷ ls) = if lit_value l a then Some (of e.2) else first_hit a of es ls

-- from a place on the cell has the result of the first arrow whose other literal is true
pub record ChoosesFirst (old new : Build) (f : CellId) (hits : List Lit) (place : ℕ) (id : CellId) : Type 0 where
  pub sort : (s t : Sort) → OfSort old.arena.kinds (function_sort s t) f → OfSort new.arena.kinds t id
  pub gives : (a : List Bool) → Satisfies a new.formula → (w : Value) →
      first_hit a (decode old.arena a) (drop place (arrows_of (kind_at old.arena.kinds f))) (drop place hits) ≡ Some w → decode new.arena a id ≡ w

-- the pairs of the arrows that are there, with another result where the other literal is true
abbrev pub tested_pairs : List Bool → (CellId → Value) → List (Lit × CellId × CellId) → List Lit → Value → List (Value × Value)
tested_pairs a of [] ls w = []
tested_pairs a of (e ∷ es) [] w = []
tested_pairs a of (e ∷ es) (l ∷ ls) w =
    (if lit_value e.0 a then (of e.1, if lit_value l a then w else of e.2) ∷ [] else []) ++ tested_pairs a of es ls w

-- the first n arrows, with another result where the other literal is true
pub record Updates (old new : Build) (f : CellId) (tests : List Lit) (v : CellId) (n : ℕ) (out : List (Lit × CellId × CellId)) : Type 0 where
  pub named : ArrowsNamed new.formula.vars out
  pub sorts : (s t : Sort) → OfSort old.arena.kinds (function_sort s t) f → OfSort old.arena.kinds t v → LeadFrom new.arena.kinds s t out
  pub pairs : (a : List Bool) → Satisfies a new.formula → present_pairs a (decode new.arena a) out ≡
      tested_pairs a (decode old.arena a) (take n (arrows_of (kind_at old.arena.kinds f))) (take n tests) (decode old.arena a v)

-- the set of the arguments
pub record IsArguments (old new : Build) (f id : CellId) : Type 0 where
  pub value : Decodes new id (λ a. value.Set (arguments (pairs_of (decode old.arena a f))))
  pub sort : (s t : Sort) → OfSort old.arena.kinds (function_sort s t) f → OfSort new.arena.kinds (set_sort s) id
