-- Choices of members of several sets, and bodies at them (Specifying Systems, sections 16.1.3, 16.1.6 and 16.1.7, for
-- what binds names; Konnov, Kukovec and Tran, "TLA+ Model Checking Made Symbolic", OOPSLA 2019, section 5, for bodies
-- at the edges of a set).
use Rattle.std.specs.Prelude.{◌≡◌, ℕ, ◌<◌, Bool, true, ◌&&◌, List, [], ◌∷◌, All, map, length, slice_index_or}
use Rattle.std.specs.List.{list_any}
use Rattle.sat_formula.specs.declared.cnf.Cnf.{Cnf}
use Rattle.sat_formula.specs.Lit.{lit_value, IsBelow}
use Rattle.sat_formula.specs.Formula.{Satisfies}
use Rattle.tla_values.specs.Sets.{elements}
use Rattle.tla_values.specs.declared.value.Value.{Value}
use Rattle.tla_meaning.specs.declared.outcome.Outcome.{Outcome}
use Rattle.tla_meaning.specs.Shapes.{choices}
use Rattle.cell_arena.specs.declared.build.Build.{Build}
use Rattle.cell_arena.specs.declared.kinds.CellId.{CellId}
use Rattle.cell_arena.specs.declared.kinds.CellKind.{CellKind}
use Rattle.cell_arena.specs.Cells.{Cells as Arena}
use Rattle.cell_arena.specs.Decode.{decode}
use Rattle.cell_merge.specs.Sorts.{Sort, set_of}
use Rattle.outcome_cells.specs.declared.cells.Cells.{Cells}
use Rattle.outcome_cells.specs.Shows.{AreCells, Shows}
use Rattle.typed_cells.specs.KindSorts.{OfSorts}
use Rattle.member_choices.specs.declared.choice.Choice.{Choice}

-- whether the values of a choice that is there pass the test
abbrev pub any_choice : List Bool → (CellId → Value) → (List Value → Bool) → List Choice → Bool
any_choice a of p cs = list_any (λ c. lit_value c.there a && p (map of c.cells)) cs

-- the choices that are there are those of one member from each set, in any order and any number of times
abbrev pub AreChoices : List Bool → (CellId → Value) → List Choice → List (List Value) → Type 0
AreChoices a of cs vss = (p : List Value → Bool) → any_choice a of p cs ≡ list_any p vss

-- each choice has one of the first n variables
abbrev pub ChoicesBelow : ℕ → List Choice → Type 0
ChoicesBelow n cs = All (λ c. IsBelow n c.there) cs

-- each choice is of cells of these sorts
abbrev pub ChoicesOf : List CellKind → List Sort → List Choice → Type 0
ChoicesOf ks ss cs = All (λ c. OfSorts ks ss c.cells) cs

-- choices of one cell, all of one sort
pub record ChoicesOfOne (ks : List CellKind) (cs : List Choice) : Type 0 where
  pub sort : Sort
  pub are : ChoicesOf ks (sort ∷ []) cs

-- choices of one number of cells, those at each place of one sort
pub record ChoicesOfSome (ks : List CellKind) (cs : List Choice) : Type 0 where
  pub sorts : List Sort
  pub are : ChoicesOf ks sorts cs

-- under each satisfying assignment the choices are those of the members of the sets, whose sorts they have
pub record ListsChoices (c : Arena) (f : Cnf) (sets : List CellId) (cs : List Choice) : Type 0 where
  pub below : ChoicesBelow f.vars cs
  pub sorts : (ss : List Sort) → OfSorts c.kinds (map set_of ss) sets → ChoicesOf c.kinds ss cs
  pub members : (a : List Bool) → Satisfies a f →
      AreChoices a (decode c a) cs (choices (map (λ s. elements (decode c a s)) sets))

-- at each choice that is there the cells show what the body gives of its values; nothing is said at one that is not
pub record BodiesShow (c : Arena) (a : List Bool) (cs : List Choice) (bodies : List Cells)
    (body : List Value → Outcome) : Type 0 where
  pub at : (i : ℕ) (d : Choice) (x : Cells) → i < length cs → lit_value (slice_index_or cs i d).there a ≡ true →
      Shows c a (slice_index_or bodies i x) (body (map (decode c a) (slice_index_or cs i d).cells))

-- a body of the sort for each choice, over the build's formula
pub record AreBodies (b : Build) (s : Sort) (cs : List Choice) (bodies : List Cells) : Type 0 where
  pub below : ChoicesBelow b.formula.vars cs
  pub count : length bodies ≡ length cs
  pub cells : All (AreCells b s) bodies

-- bodies of one sort
pub record BodiesOfOne (b : Build) (cs : List Choice) (bodies : List Cells) : Type 0 where
  pub sort : Sort
  pub are : AreBodies b sort cs bodies
