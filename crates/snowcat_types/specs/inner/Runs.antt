-- A run of the solver: which entries were visited, which nodes wait, and what is solved.
use Rattle.std.specs.Prelude.{ℕ, ◌≡◌, true, List, [], ◌∷◌, ◌++◌, map, MatchResult, Result, Ok, Err}
use Rattle.tla_meaning.specs.declared.place.Place.{Place}
use Rattle.snowcat_rows.specs.declared.substitution.Subst.{Subst}
use Rattle.snowcat_rows.specs.declared.substitution.UnifyFault.{UnifyFault}
use Rattle.snowcat_rows.specs.declared.substitution.UnifyFault.TheVariants.{Clash as Apart}
use Rattle.snowcat_rows.specs.declared.types.Typed.{Typed}
use Rattle.snowcat_rows.specs.FieldNames.{names_differ}
use Rattle.snowcat_rows.specs.Types.{mean}
use Rattle.snowcat_rows.specs.Substitutions.{Sub, Fronts, apply, then_sub}
use Rattle.snowcat_rows.specs.Closing.{closing}
use Rattle.snowcat_rows.specs.Views.{stands_for}
use Rattle.snowcat_types.specs.declared.faults.TypeFault.{TypeFault}
use Rattle.snowcat_types.specs.declared.faults.TypeFault.TheVariants.{NotAnnotated, BadAnnotation, Clash, Memory}
use Rattle.snowcat_types.specs.declared.kinds.Kind.TheVariants.{NotFormed}
use Rattle.snowcat_types.specs.declared.waiting.Wait.{Wait}
use Rattle.snowcat_types.specs.Requirements.{Requirement, MeetAll}
use Rattle.snowcat_types.specs.Waiting.{place_of}
use Rattle.snowcat_types.specs.Systems.{Entry, Asks, Waits, System}
use Rattle.snowcat_types.specs.Typings.{Each, Visited, Reached, IsTyping, IsClash, decision}
use Rattle.snowcat_types.specs.inner.Solved.{AllInside, AreOf, IsSolved, WaitInside}

-- ---- what is asked is of the unknown types of the system

abbrev pub EntryFits : ℕ → Fronts → Entry → Type 0
EntryFits n l (Asks p rs) = AreOf n l rs
EntryFits n l (Waits w) = WaitInside n w

abbrev pub EntriesFit : ℕ → Fronts → List Entry → Type 0
EntriesFit n l [] = Unit {0}
EntriesFit n l (e ∷ es) = EntryFits n l e × EntriesFit n l es

-- and what is asked of the declared names can be met
pub record IsFitting (system : System) : Type 0 where
  pub fronts : Fronts
  pub declared : AreOf system.count fronts system.declared
  pub entries : EntriesFit system.count fronts system.entries
  pub possible : (s : Sub) × MeetAll s system.declared

-- ---- where a run is

-- these entries were visited, these nodes wait, and s solves what was asked and chosen
pub record HasVisited (system : System) (front : List Entry) (ws : List Wait) (s : Subst) : Type 0 where
  pub fitting : IsFitting system
  pub done : List Requirement
  pub visited : Visited system.declared front done ws
  pub are : AreOf system.count fitting.fronts done
  pub solved : IsSolved system.count fitting.fronts done s
  pub inside : Each (WaitInside system.count) ws

-- all entries were visited, these nodes still wait, those at the places took their default, and s solves what was asked
-- and chosen
pub record HasReached (system : System) (ws : List Wait) (places : List Place) (s : Subst) : Type 0 where
  pub fitting : IsFitting system
  pub first : List Requirement
  pub waited_first : List Wait
  pub visited : Visited system.declared system.entries first waited_first
  pub rs : List Requirement
  pub listed : List Wait
  pub reached : Reached first waited_first rs ws listed
  pub places_are : places ≡ map place_of listed
  pub are : AreOf system.count fitting.fronts rs
  pub solved : IsSolved system.count fitting.fronts rs s
  pub inside : Each (WaitInside system.count) ws

-- nothing is known of the types that decide
abbrev pub NoneDecided : Subst → List Wait → Type 0
NoneDecided s ws = Each (λ w. decision (stands_for s) w ≡ NotFormed) ws

-- ---- how a run ends

-- what s gives, where variables that are left are closed, is a typing
abbrev pub IsTypedBy : System → Subst → Type 0
IsTypedBy system s =
    (ds : List Wait)
    × IsTyping system (map (apply (then_sub closing (stands_for s))) system.names)
    (map (map (apply (then_sub closing (stands_for s)))) system.parts) ds

-- two types at the place cannot be made equal, in each record of which the names of the fields differ
abbrev pub IsFault : System → TypeFault → Type 0
IsFault system (Clash p x y places) = IsClash system p (mean x) (mean y) places × ((names_differ x ≡ true) × (names_differ y ≡ true))
IsFault system (Memory e) = Unit {0}
IsFault system (NotAnnotated x p) = ⊥
IsFault system (BadAnnotation p) = ⊥

-- a typing of what the system asks, or a fault
abbrev pub IsOutcome : System → Result Typed TypeFault → Type 0
IsOutcome system (Ok t) = (ds : List Wait) × IsTyping system (map mean t.names) (map (map mean) t.parts) ds
IsOutcome system (Err e) = IsFault system e

-- the fault is of the place, where the nodes at the places took their default
abbrev pub IsPlaced : UnifyFault → Place → List Place → TypeFault → Type 0
IsPlaced fault p places (Clash q x y others) = (fault ≡ Apart x y) × ((q ≡ p) × (others ≡ places))
IsPlaced fault p places (Memory e) = Unit {0}
IsPlaced fault p places (NotAnnotated x q) = ⊥
IsPlaced fault p places (BadAnnotation q) = ⊥

-- ---- steps

abbrev pub EntryInside : ℕ → Entry → Type 0
EntryInside n (Asks p rs) = AllInside n rs
EntryInside n (Waits w) = WaitInside n w

-- from where a run is, the entry is visited besides
abbrev pub IsVisit : Entry → List Wait → Subst → List Wait → Subst → Result (Unit {0}) TypeFault → Type 0
IsVisit entry ws s us t r = (system : System) (front back : List Entry) → system.entries ≡ front ++ entry ∷ back → HasVisited system front ws s
    → MatchResult r (λ _. HasVisited system (front ++ entry ∷ []) us t) (λ e. IsFault system e)
