-- Functions by free choices, an argument at a time.
use Rattle.std.specs.Prelude.{◌≡◌, ◌<◌, Bool, true, false, List, ◌++◌, All, map, length}
use Rattle.std.specs.List.{list_all}
use Rattle.sat_formula.specs.declared.lit.Lit.{Lit}
use Rattle.sat_formula.specs.Lit.{lit_value, IsBelow}
use Rattle.sat_formula.specs.Formula.{Satisfies}
use Rattle.tla_values.specs.Sets.{arguments, elements, member, set_of}
use Rattle.tla_values.specs.declared.value.Value.{Value}
use Rattle.cell_arena.specs.declared.build.Build.{Build}
use Rattle.cell_arena.specs.declared.kinds.CellId.{CellId}
use Rattle.cell_arena.specs.Decode.{decode, present, present_pairs}
use Rattle.cell_arena.specs.Growth.{Decodes}
use Rattle.cell_merge.specs.Arrows.{LeadFrom, ArrowsNamed}
use Rattle.cell_merge.specs.Edges.{LeadTo}
use Rattle.cell_merge.specs.Picks.{Reaches}
use Rattle.cell_merge.specs.Sorts.{Sort, OfSort, set_of as set_sort, function_of as function_sort}
use Rattle.function_rewriter.specs.FunctionSets.{all_functions}

-- the new cell is the same set
pub record IsSameSet (old new : Build) (set id : CellId) : Type 0 where
  pub value : Decodes new id (λ a. decode old.arena a set)
  pub sort : (s : Sort) → OfSort old.arena.kinds (set_sort s) set → OfSort new.arena.kinds (set_sort s) id

-- the assignment goes on to one that satisfies the formula, where the literal is true
pub record Continues (b : Build) (a : List Bool) (l : Lit) : Type 0 where
  pub more : List Bool
  pub long : length (a ++ more) ≡ b.formula.vars
  pub satisfies : Satisfies (a ++ more) b.formula
  pub literal : lit_value l (a ++ more) ≡ true

-- as a pick from the set where the first literal is true; where it is false nothing is asked
pub record PicksWhere (old new : Build) (l : Lit) (set : CellId) (r : CellId × Lit) : Type 0 where
  pub below : r.1.var < new.formula.vars
  pub sort : (s : Sort) → OfSort old.arena.kinds (set_sort s) set → OfSort new.arena.kinds s r.0
  pub sound : (a : List Bool) → Satisfies a new.formula → lit_value r.1 a ≡ true → lit_value l a ≡ true →
      member (decode new.arena a r.0) (elements (decode old.arena a set)) ≡ true
  pub complete : (a : List Bool) → length a ≡ old.formula.vars → Satisfies a old.formula → (v : Value) →
      member v (elements (decode old.arena a set)) ≡ true → Reaches new a r.1 r.0 v
  pub idle : (a : List Bool) → length a ≡ old.formula.vars → Satisfies a old.formula → lit_value l a ≡ false → Continues new a r.1

abbrev pub results : List (Value × Value) → List Value
results ps = map (λ p. p.1) ps

-- the assignment goes on to one that satisfies the formula, where the literals are true and the arrows
-- that are there are these pairs
pub record HasPicked (b : Build) (a : List Bool) (out : List (Lit × CellId × CellId)) (tests : List Lit) (pairs : List (Value × Value)) : Type 0 where
  pub more : List Bool
  pub long : length (a ++ more) ≡ b.formula.vars
  pub satisfies : Satisfies (a ++ more) b.formula
  pub passes : list_all (λ l. lit_value l (a ++ more)) tests ≡ true
  pub pairs_are : present_pairs (a ++ more) (decode b.arena (a ++ more)) out ≡ pairs

-- an arrow for each of the edges: where the literals are true, these lead from the members of the edges
-- to members of the set, and under some longer assignment by each rule
pub record PicksArrows (old new : Build) (es : List (Lit × CellId)) (set : CellId) (out : List (Lit × CellId × CellId)) (tests : List Lit) : Type 0 where
  pub named : ArrowsNamed new.formula.vars out
  pub below : All (IsBelow new.formula.vars) tests
  pub sorts : (s t : Sort) → LeadTo old.arena.kinds s es → OfSort old.arena.kinds (set_sort t) set → LeadFrom new.arena.kinds s t out
  pub from : (a : List Bool) → Satisfies a new.formula → list_all (λ l. lit_value l a) tests ≡ true →
      arguments (present_pairs a (decode new.arena a) out) ≡ present a (decode old.arena a) es
  pub to : (a : List Bool) → Satisfies a new.formula → list_all (λ l. lit_value l a) tests ≡ true → (v : Value) →
      member v (results (present_pairs a (decode new.arena a) out)) ≡ true → member v (elements (decode old.arena a set)) ≡ true
  pub complete : (a : List Bool) → length a ≡ old.formula.vars → Satisfies a old.formula → (g : Value → Value) →
      ((v : Value) → member v (present a (decode old.arena a) es) ≡ true → member (g v) (elements (decode old.arena a set)) ≡ true) →
      HasPicked new a out tests (map (λ v. (v, g v)) (present a (decode old.arena a) es))

-- as a pick of a function from the members of the edges to the set
pub record PicksOver (old new : Build) (es : List (Lit × CellId)) (set : CellId) (r : CellId × Lit) : Type 0 where
  pub below : r.1.var < new.formula.vars
  pub sort : (s t : Sort) → LeadTo old.arena.kinds s es → OfSort old.arena.kinds (set_sort t) set → OfSort new.arena.kinds (function_sort s t) r.0
  pub sound : (a : List Bool) → Satisfies a new.formula → lit_value r.1 a ≡ true →
      member (decode new.arena a r.0) (elements (all_functions (set_of (present a (decode old.arena a) es)) (elements (decode old.arena a set)))) ≡ true
  pub complete : (a : List Bool) → length a ≡ old.formula.vars → Satisfies a old.formula → (v : Value) →
      member v (elements (all_functions (set_of (present a (decode old.arena a) es)) (elements (decode old.arena a set)))) ≡ true → Reaches new a r.1 r.0 v
