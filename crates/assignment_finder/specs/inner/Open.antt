-- The names that are open: an action may assign them, and a path has not yet.
use Rattle.std.specs.Prelude.{◌≡◌, ℕ, Bool, true, false, not, ◌&&◌, IsTrue, List, length, get_or, nat_lt, Option, Some, None}
use Rattle.kernel_trees.specs.ActionNames.{marks}
use Rattle.kernel_trees.specs.Paths.{Marks}
use Rattle.kernel_trees.specs.Assignments.{open_names}
use Rattle.assignment_finder.specs.declared.open_names.OpenNames.{OpenNames}

abbrev pub open_by : OpenNames → Marks
open_by o i primed = marks o.marked i primed && not (get_or o.assigned.items i false)

-- those of these marks behind the names of `before`
pub record IsOpen (m : Marks) (before : List ℕ) (o : OpenNames) : Type 0 where
  pub marked : marks o.marked ≡ m
  pub room : length o.assigned.items ≡ o.marked.declared
  pub are : open_by o ≡ open_names m before

-- the action may assign the name
abbrev pub MayAssign : Marks → ℕ → Type 0
MayAssign m i = (primed : Bool) × (m i primed ≡ true)

-- the first name that is open, where names are primed
abbrev pub IsFirstOpen : Marks → Option ℕ → Type 0
IsFirstOpen m None = (i : ℕ) → m i true ≡ false
IsFirstOpen m (Some i) = (m i true ≡ true) × ((j : ℕ) → IsTrue (nat_lt j i) → m j true ≡ false)
