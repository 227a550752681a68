-- Nodes that wait once all entries are visited: when they are looked at, and which of them goes on next.
use Rattle.std.specs.Prelude.{ℕ, zero, suc, ◌≡◌, ◌⊎◌, ◌<◌, ◌≤◌, Bool, true, false, List, [], ◌∷◌, ◌++◌, length, Option, Some, None, if◌then◌else◌, slice_index_or, slice_set, take}
use Rattle.std.specs.List.{All, AllWithin, Contains}
use Rattle.std.specs.List.Sorted.{IsSortedBy}
use Rattle.std.specs.Ordering.{is_lt, nat_cmp, ordering_then}
use Rattle.tla_meaning.specs.Outcomes.{before}
use Rattle.snowcat_rows.specs.declared.substitution.Subst.{Subst}
use Rattle.snowcat_rows.specs.Types.{Term, var}
use Rattle.snowcat_rows.specs.Substitutions.{Sub, apply}
use Rattle.snowcat_rows.specs.Chains.{Binding, sub_of}
use Rattle.snowcat_rows.specs.Views.{kept_by, stands_for}
use Rattle.snowcat_types.specs.declared.awaiting.Awaiting.{Awaiting}
use Rattle.snowcat_types.specs.declared.kinds.Kind.{Kind}
use Rattle.snowcat_types.specs.declared.kinds.Kind.TheVariants.{NotFormed}
use Rattle.snowcat_types.specs.declared.ordering.Turn.{Turn}
use Rattle.snowcat_types.specs.declared.ordering.Turns.{Turns}
use Rattle.snowcat_types.specs.declared.waiting.Wait.{Wait}
use Rattle.snowcat_types.specs.declared.watching.Watching.{Watching}
use Rattle.snowcat_types.specs.Requirements.{kind}
use Rattle.snowcat_types.specs.Systems.{System}
use Rattle.snowcat_types.specs.Typings.{decision}
use Rattle.snowcat_types.specs.Waiting.{deciding, default_kind, place_of}
use Rattle.snowcat_types.specs.inner.Runs.{HasReached, NoneDecided}

-- ---- which nodes wait

-- the nodes whose marks stand, in their order
abbrev pub left : List Bool → List Wait → List Wait
left [] ws = []
left (m ∷ ms) [] = []
left (m ∷ ms) (w ∷ ws) = if m then w ∷ left ms ws else left ms ws

-- the i-th is w, and its mark stands
abbrev pub Stands : List Bool → List Wait → ℕ → Wait → Type 0
Stands [] ws i w = ⊥
Stands (m ∷ ms) [] i w = ⊥
Stands (m ∷ ms) (x ∷ ws) zero w = (m ≡ true) × (w ≡ x)
Stands (m ∷ ms) (x ∷ ws) (suc i) w = Stands ms ws i w

-- ---- when they are looked at

-- the variable to which the type leads; none where it is formed
abbrev pub IsLead : Sub → Term → Option ℕ → Type 0
IsLead s t (Some v) = apply s t ≡ var v
IsLead s t None = kind (apply s t) ≡ NotFormed → ⊥

-- it stands on the list of the variable to which its type leads
pub record IsListed (bs : List Binding) (g : Watching) (i : ℕ) (t : Term) : Type 0 where
  pub variable : ℕ
  pub leads : apply (sub_of bs) t ≡ var variable
  pub on : Contains (slice_index_or g.lists.items variable []) i

-- the node of that number, whose choice t decides under these bindings, is to be looked at, or will be where more is
-- known of t
abbrev pub IsHeld : List Binding → Watching → ℕ → Term → Type 0
IsHeld bs g i t = Contains g.agenda.items i ⊎ IsListed bs g i t

-- whatever was held under the first bindings is held under the others
pub record Holds (bs : List Binding) (old : Watching) (cs : List Binding) (new : Watching) : Type 0 where
  pub held : (i : ℕ) (t : Term) → IsHeld bs old i t → IsHeld cs new i t

-- all numbers from low on that are below n are there
pub record HasFrom (low n : ℕ) (xs : List ℕ) : Type 0 where
  pub has : (i : ℕ) → low ≤ i → i < n → Contains xs i

-- the lists of all variables are as they were
pub record AreAlike (old new : List (List ℕ)) : Type 0 where
  pub alike : (v : ℕ) → slice_index_or new v [] ≡ slice_index_or old v []

-- only that of one variable may have changed
pub record AreOthers (v : ℕ) (old new : List (List ℕ)) : Type 0 where
  pub others : (u : ℕ) → (u ≡ v → ⊥) → slice_index_or new u [] ≡ slice_index_or old u []

-- a number is taken off the agenda, unless there is none
abbrev pub IsTaken : Watching → Option ℕ → Watching → Type 0
IsTaken old (Some i) new = (old.agenda.items ≡ new.agenda.items ++ i ∷ []) × (new.lists.items ≡ old.lists.items)
IsTaken old None new = (old.agenda.items ≡ []) × (new.agenda.items ≡ []) × (new.lists.items ≡ old.lists.items)

-- the variable's list has a number more
pub record IsWatched (old : Watching) (v i : ℕ) (new : Watching) : Type 0 where
  pub agenda : new.agenda.items ≡ old.agenda.items
  pub own : slice_index_or new.lists.items v [] ≡ slice_index_or old.lists.items v [] ++ i ∷ []
  pub others : AreOthers v old.lists.items new.lists.items

-- the variable's list went to the agenda
pub record IsReleased (old : Watching) (v : ℕ) (new : Watching) : Type 0 where
  pub agenda : new.agenda.items ≡ old.agenda.items ++ slice_index_or old.lists.items v []
  pub others : AreOthers v old.lists.items new.lists.items

-- ---- whose turn it is

abbrev pub turn_of : ℕ → Wait → Turn
turn_of i w = record { file = (place_of w).file; line = (place_of w).line; col = (place_of w).col; node = i }

abbrev pub sooner : Turn → Turn → Bool
sooner t u =
    is_lt (ordering_then (nat_cmp t.file u.file) (ordering_then (nat_cmp t.line u.line)
    (ordering_then (nat_cmp t.col u.col) (nat_cmp t.node u.node))))

-- the i-th is w
abbrev pub At : List Wait → ℕ → Wait → Type 0
At [] i w = ⊥
At (x ∷ ws) zero w = w ≡ x
At (x ∷ ws) (suc i) w = At ws i w

-- the turn is that of its node
pub record IsTurn (ws : List Wait) (t : Turn) : Type 0 where
  pub wait : Wait
  pub at : At ws t.node wait
  pub is : t ≡ turn_of t.node wait

-- the turns of the first n nodes
pub record AreTurns (ws : List Wait) (n : ℕ) (ts : List Turn) : Type 0 where
  pub all : (i : ℕ) (w : Wait) → i < n → At ws i w → Contains ts (turn_of i w)
  pub each : All (IsTurn ws) ts

-- those of all nodes, in their order
pub record AreOrdered (ws : List Wait) (ts : List Turn) : Type 0 where
  pub turns : AreTurns ws (length ws) ts
  pub sorted : IsSortedBy sooner ts

-- those that are passed have no mark
pub record ArePassed (ms : List Bool) (ts : List Turn) (passed : ℕ) : Type 0 where
  pub unmarked : AllWithin (λ t. slice_index_or ms t.node false ≡ false) ts 0 passed

-- it is the turn of the node of that number
pub record IsTheirs (ms : List Bool) (ts : List Turn) (passed i : ℕ) : Type 0 where
  pub marked : slice_index_or ms i false ≡ true
  pub below : passed < length ts
  pub turn : Turn
  pub at : turn ≡ slice_index_or ts passed turn
  pub node : turn.node ≡ i

-- only those without a mark were passed
pub record IsMovedOn (ms : List Bool) (old new : Turns) : Type 0 where
  pub same : new.all ≡ old.all
  pub passed : ArePassed ms new.all.items new.passed

-- a node whose turn it is has its mark; or all are passed
abbrev pub IsNow : List Bool → Turns → Option ℕ → Type 0
IsNow ms ts (Some i) = IsTheirs ms ts.all.items ts.passed i
IsNow ms ts None = length ts.all.items ≤ ts.passed

-- of the nodes that wait none has a lesser place, and none with the same place is visited earlier
pub record IsLeast (ms : List Bool) (ws : List Wait) (i : ℕ) (w : Wait) : Type 0 where
  pub before_earlier : (j : ℕ) (u : Wait) → Stands ms ws j u → j < i → before (place_of w) (place_of u) ≡ true
  pub not_behind : (j : ℕ) (u : Wait) → Stands ms ws j u → i < j → before (place_of u) (place_of w) ≡ false

-- ---- all of this

pub record Awaits (bs : List Binding) (ws : List Wait) (ms : List Bool) (g : Watching) (ts : Turns) : Type 0 where
  pub size : length ms ≡ length ws
  -- each node that waits is held
  pub held : (i : ℕ) (w : Wait) → Stands ms ws i w → IsHeld bs g i (deciding w)
  pub ordered : AreOrdered ws ts.all.items
  pub passed : ArePassed ms ts.all.items ts.passed

abbrev pub IsAwaiting : List Binding → List Wait → Awaiting → Type 0
IsAwaiting bs ws a = Awaits bs ws a.marks.items a.watching a.turns

-- all wait, and none took its default, whatever is bound
pub record IsBegun (ws : List Wait) (a : Awaiting) : Type 0 where
  pub all : left a.marks.items ws ≡ ws
  pub awaiting : (bs : List Binding) → IsAwaiting bs ws a
  pub none : a.defaults.items ≡ []

-- ---- steps

-- the node of that number waits no more
pub record IsOff (ws : List Wait) (old : Awaiting) (i : ℕ) (w : Wait) (new : Awaiting) : Type 0 where
  pub stands : Stands old.marks.items ws i w
  pub marks : new.marks.items ≡ slice_set old.marks.items i false

pub record IsDecidedNext (s : Subst) (ws : List Wait) (old : Awaiting) (i : ℕ) (new : Awaiting) : Type 0 where
  pub wait : Wait
  pub off : IsOff ws old i wait new
  pub decided : decision (stands_for s) wait ≡ NotFormed → ⊥
  pub awaiting : IsAwaiting (kept_by s) ws new
  pub same : new.defaults.items ≡ old.defaults.items

pub record IsNoneDecided (s : Subst) (ws : List Wait) (old new : Awaiting) : Type 0 where
  pub none : NoneDecided s (left new.marks.items ws)
  pub awaiting : IsAwaiting (kept_by s) ws new
  pub marks : new.marks.items ≡ old.marks.items
  pub same : new.defaults.items ≡ old.defaults.items

-- a node that is decided waits no more; or none is
abbrev pub IsFound : Subst → List Wait → Awaiting → Option ℕ → Awaiting → Type 0
IsFound s ws old (Some i) new = IsDecidedNext s ws old i new
IsFound s ws old None new = IsNoneDecided s ws old new

-- why its choice is of that kind: it is decided so; or none is, and it is the first
pub data Why (s : Subst) (ws : List Wait) (old : Awaiting) (i : ℕ) (w : Wait) (k : Kind) (new : Awaiting) : Type 0 where
  by_types : k ≡ decision (stands_for s) w → (k ≡ NotFormed → ⊥) → new.defaults.items ≡ old.defaults.items
      → Why s ws old i w k new
  first : k ≡ default_kind w → NoneDecided s (left old.marks.items ws) → IsLeast old.marks.items ws i w
      → new.defaults.items ≡ old.defaults.items ++ place_of w ∷ [] → Why s ws old i w k new

pub record IsChosen (s : Subst) (ws : List Wait) (old : Awaiting) (i : ℕ) (k : Kind) (new : Awaiting) : Type 0 where
  pub wait : Wait
  pub off : IsOff ws old i wait new
  pub why : Why s ws old i wait k new
  pub awaiting : IsAwaiting (kept_by s) ws new

-- nothing waits
pub record IsDone (s : Subst) (ws : List Wait) (old new : Awaiting) : Type 0 where
  pub none : left new.marks.items ws ≡ []
  pub awaiting : IsAwaiting (kept_by s) ws new
  pub marks : new.marks.items ≡ old.marks.items
  pub same : new.defaults.items ≡ old.defaults.items

-- a node that goes on, with the kind of its choice; or nothing waits
abbrev pub IsNext : Subst → List Wait → Awaiting → Option (ℕ × Kind) → Awaiting → Type 0
IsNext s ws old (Some x) new = IsChosen s ws old x.0 x.1 new
IsNext s ws old None new = IsDone s ws old new

-- what was held under the bindings before the i-th is held now
pub record IsCaughtUp (s : Subst) (i : ℕ) (old new : Awaiting) : Type 0 where
  pub holds : Holds (take i (kept_by s)) old.watching (kept_by s) new.watching
  pub marks : new.marks.items ≡ old.marks.items
  pub turns : new.turns ≡ old.turns
  pub same : new.defaults.items ≡ old.defaults.items

-- a run where these nodes waited behind the visits
pub record IsRunning (system : System) (ws : List Wait) (a : Awaiting) (s : Subst) : Type 0 where
  pub reached : HasReached system (left a.marks.items ws) a.defaults.items s
  pub awaiting : IsAwaiting (kept_by s) ws a

-- fewer nodes wait; or none does
abbrev pub IsLess : List Wait → Awaiting → Bool → Awaiting → Type 0
IsLess ws old true new = length (left new.marks.items ws) < length (left old.marks.items ws)
IsLess ws old false new = left new.marks.items ws ≡ []

-- a step of a run
pub record IsStep (system : System) (ws : List Wait) (old : Awaiting) (more : Bool) (new : Awaiting) (s : Subst) : Type 0 where
  pub running : IsRunning system ws new s
  pub less : IsLess ws old more new
