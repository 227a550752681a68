-- What a walk over kernel trees finds: shapes whose numbers are kept, and the first of the numbers past their limits.
use Rattle.std.specs.Prelude.{ℕ, ◌≡◌, Bool, List, ◌++◌, map, take, length, Option, option_map, option_and_then, slice_get, if◌then◌else◌}
use Rattle.kernel_trees.specs.Trees.{number_name, names_of}
use Rattle.kernel_shapes.specs.declared.bounds.Shape.{Shape as Code}
use Rattle.kernel_shapes.specs.Codes.{mean}
use Rattle.kernel_shapes.specs.Counts.{Count, either_rank, first_rank}
use Rattle.kernel_shapes.specs.Shape.{Shape}
use Rattle.kernel_shapes.specs.Sized.{Extent, Position, Sized, Sizing, bind_shapes, bound_shapes, counts_of, shapes_of, walked, as_form, assigned_from, picked_from}
use Rattle.shape_bounds.specs.declared.names.Names.{Names}
use Rattle.shape_bounds.specs.declared.names.Site.{Site}
use Rattle.shape_bounds.specs.declared.names.Site.TheVariants as site
use Rattle.shape_bounds.specs.Excesses.{rank_of}
use Rattle.shape_bounds.specs.Kept.{capped}

abbrev pub stands : Site → Position
stands site.Walked = walked
stands site.Form = as_form
stands site.Assigned = assigned_from
stands site.Picked = picked_from

-- ---- the shapes of names

abbrev pub bound_name : ℕ × Code → List ℕ × Shape
bound_name b = (number_name b.0, mean b.1)

abbrev pub kept_name : List ℕ × Shape → List ℕ × Shape
kept_name b = (b.0, capped b.1)

abbrev pub read_at : Option (Option Code) → Option Shape
read_at o = option_and_then (λ (c : Option Code). option_map mean c) o

-- of a declared name
abbrev pub named_at : Names → ℕ → Bool → Option Shape
named_at s i primed = read_at (slice_get (if primed then s.next.items else s.state.items) i)

-- the names have these shapes, up to numbers past the greatest that is kept
pub record Reads (s : Names) (g : Extent) : Type 0 where
  pub now : map (option_map capped) g.now ≡ map (option_map mean) s.state.items
  pub next : map (option_map capped) g.next ≡ map (option_map mean) s.next.items
  pub bound : map kept_name g.bound ≡ map bound_name s.bound.items

-- ---- what is found

-- all but what was found stays
pub record SameNames (old new : Names) : Type 0 where
  pub width : new.width ≡ old.width
  pub state : new.state ≡ old.state
  pub next : new.next ≡ old.next
  pub bound : new.bound.items ≡ old.bound.items

-- what comes first of what was found by then and of these numbers
abbrev pub Finds : Names → Names → List Count → Type 0
Finds old new cs = option_map rank_of new.first ≡ either_rank (option_map rank_of old.first) (first_rank cs)

pub record IsCounted (old new : Names) (cs : List Count) : Type 0 where
  pub same : SameNames old new
  pub finds : Finds old new cs

-- a tree in a position is looked at
pub record Sizes (old new : Names) (z : Sizing) (q : Position) (r : Code) : Type 0 where
  pub same : SameNames old new
  pub shape : (g : Extent) → Reads old g → capped (z g).shape ≡ mean r
  pub finds : (g : Extent) → Reads old g → Finds old new ((z g).counts q)

abbrev pub all_at : List Sizing → Extent → List Sized
all_at zs g = map (λ z. z g) zs

-- trees in a position are looked at
pub record SizesEach (old new : Names) (zs : List Sizing) (q : Position) (rs : List Code) : Type 0 where
  pub same : SameNames old new
  pub shapes : (g : Extent) → Reads old g → map capped (shapes_of (all_at zs g)) ≡ map mean rs
  pub finds : (g : Extent) → Reads old g → Finds old new (counts_of q (all_at zs g))

-- further numbers have shapes
pub record IsBound (old new : Names) (xs : List ℕ) (as' : List Shape) : Type 0 where
  pub width : new.width ≡ old.width
  pub state : new.state ≡ old.state
  pub next : new.next ≡ old.next
  pub first : new.first ≡ old.first
  pub bound : map bound_name new.bound.items ≡ map bound_name old.bound.items ++ bound_shapes (names_of xs) as'
  pub front : take (length old.bound.items) new.bound.items ≡ old.bound.items

-- a tree that is walked where further numbers have these shapes
pub record SizesUnder (old new : Names) (z : Sizing) (xs : List ℕ) (as' : List Shape) (r : Code) : Type 0 where
  pub same : SameNames old new
  pub shape : (g : Extent) (bs : List Shape) → Reads old g → map capped bs ≡ as' → capped (z (bind_shapes (names_of xs) bs g)).shape ≡ mean r
  pub finds : (g : Extent) (bs : List Shape) → Reads old g → map capped bs ≡ as' → Finds old new ((z (bind_shapes (names_of xs) bs g)).counts walked)
