-- Subsets (Specifying Systems, section 16.1.6).
use Rattle.std.specs.Prelude.{◌≡◌, ◌<◌, Bool, true, List, [], ◌∷◌, ◌++◌, map, length}
use Rattle.sat_formula.specs.Formula.{Satisfies}
use Rattle.tla_values.specs.declared.value.Value.{Value}
use Rattle.tla_values.specs.declared.value.Value.TheVariants as value
use Rattle.tla_values.specs.Sets.{elements, member, set_of}
use Rattle.cell_arena.specs.declared.build.Build.{Build}
use Rattle.cell_arena.specs.declared.kinds.CellId.{CellId}
use Rattle.cell_arena.specs.Decode.{decode}
use Rattle.cell_arena.specs.Growth.{Decodes}
use Rattle.cell_merge.specs.Sorts.{Sort, OfSort, set_of as set_sort}

-- the lists that leave out some items
abbrev pub sublists : List Value → List (List Value)
sublists [] = [] ∷ []
sublists (x ∷ xs) = sublists xs ++ map (λ ys. x ∷ ys) (sublists xs)

-- the set of all subsets of the set with these members, as SUBSET
abbrev pub all_subsets : List Value → Value
all_subsets xs = value.Set (set_of (map (λ ys. value.Set ys) (sublists xs)))

-- the assignment goes on to one that satisfies the formula, where the cell has the value
pub record ReachesValue (b : Build) (a : List Bool) (id : CellId) (v : Value) : Type 0 where
  pub more : List Bool
  pub long : length (a ++ more) ≡ b.formula.vars
  pub satisfies : Satisfies (a ++ more) b.formula
  pub decodes : decode b.arena (a ++ more) id ≡ v

-- under each satisfying assignment the cell is one of all subsets of the set, and under some longer
-- assignment it is each
pub record PicksSubset (old new : Build) (set id : CellId) : Type 0 where
  pub there : id.index < length new.arena.kinds
  pub sort : (s : Sort) → OfSort old.arena.kinds (set_sort s) set → OfSort new.arena.kinds (set_sort s) id
  pub sound : (a : List Bool) → Satisfies a new.formula → member (decode new.arena a id) (elements (all_subsets (elements (decode old.arena a set)))) ≡ true
  pub complete : (a : List Bool) → length a ≡ old.formula.vars → Satisfies a old.formula → (v : Value) →
      member v (elements (all_subsets (elements (decode old.arena a set)))) ≡ true → ReachesValue new a id v

-- under each satisfying assignment the cell is the set of all subsets
pub record IsPowerset (old new : Build) (set id : CellId) : Type 0 where
  pub value : Decodes new id (λ a. all_subsets (elements (decode old.arena a set)))
  pub sort : (s : Sort) → OfSort old.arena.kinds (set_sort s) set → OfSort new.arena.kinds (set_sort (set_sort s)) id
