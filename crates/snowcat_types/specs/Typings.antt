-- What a typing is (begin here), and where there is none. Source: the Apalache manual, "Type System 1.2"; an
-- overloaded node takes the choice that the types around it decide, and a default only where nothing is decided.
use Rattle.std.specs.Prelude.{ℕ, ◌≡◌, ◌<◌, ◌≤◌, ◌⊎◌, true, false, List, [], ◌∷◌, ◌++◌, map, Some, if◌then◌else◌, bytes_eq}
use Rattle.tla_meaning.specs.declared.place.Place.{Place}
use Rattle.tla_meaning.specs.Outcomes.{before}
use Rattle.snowcat_rows.specs.Types.{Term, Slot, none, some, fields}
use Rattle.snowcat_rows.specs.Substitutions.{Sub, apply, then_sub, Fronts, Sorted}
use Rattle.snowcat_rows.specs.Chains.{Binding, sub_of, row_var, Absent}
use Rattle.snowcat_rows.specs.Sorting.{AllSorted}
use Rattle.snowcat_rows.specs.Views.{IsIssued}
use Rattle.snowcat_rows.specs.Unifying.{Unmade}
use Rattle.snowcat_types.specs.declared.waiting.Wait.{Wait}
use Rattle.snowcat_rows.specs.Closing.{closing}
use Rattle.snowcat_types.specs.declared.kinds.Kind.{Kind}
use Rattle.snowcat_types.specs.declared.kinds.Kind.TheVariants.{NotFormed}
use Rattle.snowcat_types.specs.Requirements.{kind, Requirement, Equal, ItemOf, FieldOf, Never, item_at, MeetAll}
use Rattle.snowcat_types.specs.Waiting.{place_of, deciding, choice, default_kind, default_type}
use Rattle.snowcat_types.specs.Systems.{Entry, Asks, Waits, System, all_asked, all_waits}

-- of each waiting node
abbrev pub Each : (Wait → Type 0) → List Wait → Type 0
Each P [] = Unit {0}
Each P (w ∷ ws) = P w × Each P ws

-- s meets the requirements, and what meets them is, on the unknown types below n, s with something put in the
-- place of the variables that are left
pub record Principal (n : ℕ) (rs : List Requirement) (s : Sub) : Type 0 where
  pub meets : MeetAll s rs
  pub general : (u : Sub) → MeetAll u rs → (r : Sub) × ((v : ℕ) → v < n → u.type_of v ≡ apply r (s.type_of v))

abbrev pub decision : Sub → Wait → Kind
decision s w = kind (apply s (deciding w))

-- in all types that meet the requirements the deciding type is formed so: the most general ones decide this choice
abbrev pub Decides : List Requirement → Wait → Kind → Type 0
Decides rs w k = (k ≡ NotFormed → ⊥) × ((s : Sub) → MeetAll s rs → decision s w ≡ k)

abbrev pub DecidesNothing : List Requirement → Wait → Type 0
DecidesNothing rs w = (k : Kind) → Decides rs w k → ⊥

-- of the waiting nodes none has a lesser place, and none with the same place is visited earlier
pub record IsFirst (earlier : List Wait) (w : Wait) (later : List Wait) : Type 0 where
  pub before_earlier : Each (λ u. before (place_of w) (place_of u) ≡ true) earlier
  pub not_behind : Each (λ u. before (place_of u) (place_of w) ≡ false) later

-- where some requirements stand and some nodes wait at the beginning, these requirements are reached, these
-- nodes still wait, and these took their default, in this order
pub data Reached (asked : List Requirement) (waits : List Wait) :
    List Requirement → List Wait → List Wait → Type 0 where
  at_start : Reached asked waits asked waits []
  decided : (rs : List Requirement) (earlier later ds : List Wait) (w : Wait) (k : Kind)
      → Reached asked waits rs (earlier ++ w ∷ later) ds → Decides rs w k
      → Reached asked waits (rs ++ choice w k) (earlier ++ later) ds
  by_default : (rs : List Requirement) (earlier later ds : List Wait) (w : Wait)
      → Reached asked waits rs (earlier ++ w ∷ later) ds
      → Each (DecidesNothing rs) (earlier ++ w ∷ later) → IsFirst earlier w later
      → Reached asked waits (rs ++ choice w (default_kind w)) (earlier ++ later) (ds ++ w ∷ [])

-- a type for each name and for each node of each part, where these nodes took their default; a type variable
-- that is left is Int, and a row variable that is left is the empty row
pub record IsTyping (system : System) (names : List Term) (parts : List (List Term)) (defaults : List Wait) :
    Type 0 where
  pub all : List Requirement
  pub reached : Reached (all_asked system) (all_waits system) all [] defaults
  pub last : Sub
  pub principal : Principal system.count all last
  pub names_are : names ≡ map (apply (then_sub closing last)) system.names
  pub parts_are : parts ≡ map (map (apply (then_sub closing last))) system.parts

-- ---- where there is none

-- some choice is met: the default, or another one where the node is not listed
abbrev pub Fulfils : Sub → List Wait → Wait → Type 0
Fulfils s listed w =
    MeetAll s (choice w (default_kind w)) ⊎ ((k : Kind) × MeetAll s (choice w k) × Each (λ u. u ≡ w → ⊥) listed)

-- no types meet what is asked with some choice for each node, and with their default for those that are listed
abbrev pub NoTyping : System → List Wait → Type 0
NoTyping system listed = (s : Sub) → MeetAll s (all_asked system) → Each (Fulfils s listed) (all_waits system) → ⊥

-- ---- why there is none

-- these entries were visited: what was asked, with the choices of the nodes that were decided when they were
-- visited; the others wait
pub data Visited (declared : List Requirement) : List Entry → List Requirement → List Wait → Type 0 where
  nothing_yet : Visited declared [] declared []
  a_row : (es : List Entry) (p : Place) (rs done : List Requirement) (ws : List Wait)
      → Visited declared es done ws → Visited declared (es ++ Asks p rs ∷ []) (done ++ rs) ws
  chosen : (es : List Entry) (w : Wait) (k : Kind) (done : List Requirement) (ws : List Wait)
      → Visited declared es done ws → Decides done w k → Visited declared (es ++ Waits w ∷ []) (done ++ choice w k) ws
  waits_on : (es : List Entry) (w : Wait) (done : List Requirement) (ws : List Wait)
      → Visited declared es done ws → DecidesNothing done w → Visited declared (es ++ Waits w ∷ []) done (ws ++ w ∷ [])

-- so far all was met, this node asks for that next, and these nodes took their default
pub data Next (system : System) : List Requirement → Entry → Requirement → List Wait → Type 0 where
  in_row : (front back : List Entry) (p : Place) (first rest done : List Requirement) (q : Requirement) (ws : List Wait)
      → system.entries ≡ front ++ Asks p (first ++ q ∷ rest) ∷ back → Visited system.declared front done ws
      → Next system (done ++ first) (Asks p (first ++ q ∷ rest)) q []
  at_visit : (front back : List Entry) (w : Wait) (k : Kind) (first rest done : List Requirement) (q : Requirement)
      (ws : List Wait)
      → system.entries ≡ front ++ Waits w ∷ back → Visited system.declared front done ws → Decides done w k
      → choice w k ≡ first ++ q ∷ rest → Next system (done ++ first) (Waits w) q []
  afterwards : (w : Wait) (k : Kind) (first rest done rs : List Requirement) (q : Requirement)
      (ws earlier later ds : List Wait)
      → Visited system.declared system.entries done ws → Reached done ws rs (earlier ++ w ∷ later) ds → Decides rs w k
      → choice w k ≡ first ++ q ∷ rest → Next system (rs ++ first) (Waits w) q ds
  by_its_default : (w : Wait) (first rest done rs : List Requirement) (q : Requirement)
      (ws earlier later ds : List Wait)
      → Visited system.declared system.entries done ws → Reached done ws rs (earlier ++ w ∷ later) ds
      → Each (DecidesNothing rs) (earlier ++ w ∷ later) → IsFirst earlier w later
      → choice w (default_kind w) ≡ first ++ q ∷ rest → Next system (rs ++ first) (Waits w) q (ds ++ w ∷ [])

-- ---- the two types that cannot be made equal

-- a record with that field, open for others
abbrev pub with_field : List ℕ → Term → ℕ → Term
with_field name u m = fields (λ x. if bytes_eq name x then some u else none) (Some m)

-- a row variable beyond n of which nothing is known
abbrev pub IsNew : ℕ → List Binding → ℕ → Type 0
IsNew n last m = (n ≤ m) × Absent (row_var m) last

-- the two types that a requirement of a row makes equal, the row's first, where n is the number of unknown types
-- and these bindings give what was done before
abbrev pub RowSides : ℕ → List Binding → Requirement → Term → Term → Type 0
RowSides n last (Equal x y) a b = (a ≡ x) × (b ≡ y)
RowSides n last (FieldOf t name u) a b = (m : ℕ) × IsNew n last m × (a ≡ with_field name u m) × (b ≡ t)
RowSides n last q a b = ⊥

-- the item, where there is one; else the type that decides and what it is by default
abbrev pub ItemSides : Wait → Term → Slot → Term → Term → Type 0
ItemSides w u none a b = (a ≡ deciding w) × (b ≡ default_type w)
ItemSides w u (some c) a b = (a ≡ c) × (b ≡ u)

-- those of a choice, the part of the type that decides first; where no choice fits, that type and what it is by
-- default
abbrev pub ChoiceSides : ℕ → List Binding → Wait → Requirement → Term → Term → Type 0
ChoiceSides n last w (Equal x y) a b = (a ≡ x) × (b ≡ y)
ChoiceSides n last w (FieldOf t name u) a b = (m : ℕ) × IsNew n last m × (a ≡ t) × (b ≡ with_field name u m)
ChoiceSides n last w (ItemOf t i u) a b = ItemSides w u (item_at (apply (sub_of last) t) i) a b
ChoiceSides n last w Never a b = (a ≡ deciding w) × (b ≡ default_type w)
ChoiceSides n last w q a b = ⊥

abbrev pub Sides : ℕ → List Binding → Entry → Requirement → Term → Term → Type 0
Sides n last (Asks p rs) q a b = RowSides n last q a b
Sides n last (Waits w) q a b = ChoiceSides n last w q a b

abbrev pub entry_place : Entry → Place
entry_place (Asks p rs) = p
entry_place (Waits w) = place_of w

-- the nodes at the places took their default, in this order; then the node at p is the first to ask for what
-- cannot be met: it makes two types equal, and x and y stand at one place of these where they cannot be equal;
-- so nothing meets what is asked with these defaults
pub record IsClash (system : System) (p : Place) (x y : Term) (places : List Place) : Type 0 where
  pub done : List Requirement
  pub entry : Entry
  pub asks : Requirement
  pub listed : List Wait
  pub next : Next system done entry asks listed
  pub at_node : p ≡ entry_place entry
  pub places_are : places ≡ map place_of listed
  pub none : NoTyping system listed
  -- what was done before was met, in the most general way
  pub last : List Binding
  pub principal : Principal system.count done (sub_of last)
  pub a : Term
  pub b : Term
  pub sides : Sides system.count last entry asks a b
  -- so many variables there are; these bindings hold no variable that was bound before, and the names before rows are these
  pub issued : ℕ
  pub more : system.count ≤ issued
  pub is_issued : IsIssued issued last
  pub fronts : Fronts
  pub sorted : AllSorted fronts last × (Sorted fronts a × Sorted fronts b)
  pub unmade : Unmade issued fronts last a b x y
