-- Functions by their arrows, from arguments to results (Specifying Systems, section 16.1.7).
use Rattle.std.specs.Prelude.{ℕ, Bool, IsTrue, List, [], ◌∷◌, All, map, pos}
use Rattle.sat_formula.specs.declared.lit.Lit.{Lit}
use Rattle.tla_values.specs.Integers.{fits_width}
use Rattle.tla_values.specs.Sets.{apply, arguments, member}
use Rattle.tla_values.specs.declared.value.Value.{Value}
use Rattle.tla_values.specs.declared.value.Value.TheVariants as value
use Rattle.cell_arena.specs.declared.build.Build.{Build}
use Rattle.cell_arena.specs.declared.kinds.CellId.{CellId}
use Rattle.cell_arena.specs.declared.kinds.CellKind.{CellKind}
use Rattle.cell_arena.specs.Decode.{decode}
use Rattle.cell_arena.specs.Growth.{Decodes}
use Rattle.cell_merge.specs.Sorts.{Sort, OfSort, number, name, set_of as set_sort, function_of as function_sort, record_of, tuple_of}
use Rattle.function_rewriter.specs.Functions.{pairs_of}
pub use Rattle.cell_merge.specs.Partial.{Tells, Yields}

-- the members of a set with a result each
abbrev pub with_results : List (Lit × CellId) → List CellId → List (Lit × CellId × CellId)
with_results [] rs = []
with_results (e ∷ es) [] = []
with_results (e ∷ es) (r ∷ rs) = (e.0, e.1, r) ∷ with_results es rs

-- the cell is the function of these pairs, and goes from s to t wherever that is given
pub record MakesFunction (b : Build) (id : CellId) (pairs : List Bool → List (Value × Value)) (given : Sort → Sort → Type 0) : Type 0 where
  pub value : Decodes b id (λ a. value.Fun (pairs a))
  pub sort : (s t : Sort) → given s t → OfSort b.arena.kinds (function_sort s t) id

-- a function and a cell of the sort of its arguments
pub record TakesArgument (ks : List CellKind) (f x : CellId) : Type 0 where
  pub from : Sort
  pub to : Sort
  pub function : OfSort ks (function_sort from to) f
  pub argument : OfSort ks from x

-- a function, a cell of the sort of its arguments and one of the sort of its results
pub record TakesPair (ks : List CellKind) (f x v : CellId) : Type 0 where
  pub from : Sort
  pub to : Sort
  pub function : OfSort ks (function_sort from to) f
  pub argument : OfSort ks from x
  pub result : OfSort ks to v

-- the cell has what the function gives at the argument, and the literal says that this is outside of
-- the domain; and it has each sort that the results have
pub record Applies (old new : Build) (f x : CellId) (r : CellId × Lit) : Type 0 where
  pub yields : Yields new r (λ a. apply (pairs_of (decode old.arena a f)) (decode old.arena a x))
  pub sort : (s t : Sort) → OfSort old.arena.kinds (function_sort s t) f → OfSort new.arena.kinds t r.0

-- a function; a record whose names are texts of the build; or a tuple the number of whose parts fits the
-- width
pub data HasDomain (b : Build) (f : CellId) : Type 0 where
  of_function : (s t : Sort) → OfSort b.arena.kinds (function_sort s t) f → HasDomain b f
  of_record : (names : List (List ℕ)) (s : ℕ → Sort) → OfSort b.arena.kinds (record_of names s) f → All (λ n. IsTrue (member (value.Text n) (map (λ t. value.Text t) b.arena.texts))) names → HasDomain b f
  of_tuple : (n : ℕ) (s : ℕ → Sort) → OfSort b.arena.kinds (tuple_of n s) f → IsTrue (fits_width b.arena.width (pos n)) → HasDomain b f

-- the sort of the domain of a function, a record or a tuple
abbrev pub domain_sort : Sort → Sort
domain_sort (function_sort s t) = set_sort s
domain_sort (record_of names s) = set_sort name
domain_sort (tuple_of n s) = set_sort number
domain_sort s = s

-- the cell is the set of the arguments
pub record IsDomain (old new : Build) (f id : CellId) : Type 0 where
  pub value : Decodes new id (λ a. value.Set (arguments (pairs_of (decode old.arena a f))))
  pub sort : (s : Sort) → OfSort old.arena.kinds s f → OfSort new.arena.kinds (domain_sort s) id
