-- A node that waits takes its choice, or its default.
use Rattle.std.proofs.Common.{◌≡◌, List, [], ◌∷◌, ◌++◌, refl, ap, sym, ◌∙◌, subst, map}
use Rattle.std.proofs.lemmas.List.{map-append}
use Rattle.tla_meaning.specs.declared.place.Place.{Place}
use Rattle.snowcat_rows.specs.declared.substitution.Subst.{Subst}
use Rattle.snowcat_rows.specs.Types.{Term}
use Rattle.snowcat_rows.specs.Views.{issued_of, stands_for}
use Rattle.snowcat_types.specs.declared.kinds.Kind.{Kind}
use Rattle.snowcat_types.specs.declared.kinds.Kind.TheVariants.{NotFormed}
use Rattle.snowcat_types.specs.declared.waiting.Wait.{Wait}
use Rattle.snowcat_types.specs.Waiting.{choice, default_kind, place_of}
use Rattle.snowcat_types.specs.Systems.{Entry, Asks, Waits, System, all_asked, all_waits}
use Rattle.snowcat_types.specs.Typings.{Each, Decides, DecidesNothing, IsFirst, IsClash, Next, NoTyping, Principal, at_start, decided, by_default, afterwards, by_its_default, decision}
use Rattle.snowcat_types.specs.inner.Solved.{Fails, IsSolved, WaitInside}
use Rattle.snowcat_types.specs.inner.Runs.{EntryInside, HasReached, HasVisited, IsTypedBy, NoneDecided}
use Rattle.snowcat_types.proofs.Choices.{all_at}
use Rattle.snowcat_types.proofs.Clashes.{decide_by, default_by, going_on, going_visited}
use Rattle.snowcat_types.proofs.Fitted.{all_inside_more, are_append, choice_are, is_unknown, wait_inside_more}
use Rattle.snowcat_types.proofs.Joining.{Going}
use Rattle.snowcat_types.proofs.Running.{decides_known, decides_nothing, is_typing, no_typing}
use Rattle.snowcat_types.proofs.Visiting.{clash_of, first_of_them, fits, principal_of}

-- all entries were visited
pub all_visited : (system : System) (ws : List Wait) (s : Subst) → HasVisited system system.entries ws s → HasReached system ws [] s
all_visited system ws s v = record {
  fitting = v.fitting;
  first = v.done;
  waited_first = ws;
  visited = v.visited;
  rs = v.done;
  listed = [];
  reached = at_start;
  places_are = refl;
  are = v.are;
  solved = v.solved;
  inside = v.inside;
}

module _ (system : System) (earlier later : List Wait) (w : Wait) (places : List Place) (s : Subst)
    (r : HasReached system (earlier ++ w ∷ later) places s) where
  inside_of_it : WaitInside system.count w
  inside_of_it = (all_at (WaitInside system.count) earlier later w r.inside).0

  principal : Principal system.count r.rs (stands_for s)
  principal = principal_of system.count r.fitting.fronts r.rs s r.are r.solved

  going : Going (all_asked system) (all_waits system) r.rs (earlier ++ w ∷ later) r.listed
  going = going_on (all_asked system) r.first (all_waits system) r.waited_first
      (going_visited system.declared system.entries r.first r.waited_first r.visited) r.rs (earlier ++ w ∷ later) r.listed r.reached

  decides : (decision (stands_for s) w ≡ NotFormed → ⊥) → Decides r.rs w (decision (stands_for s) w)
  decides n = decides_known system.count r.rs (stands_for s) w principal (is_unknown system.count w inside_of_it) n

  pub choice_reached : (t : Subst) → (decision (stands_for s) w ≡ NotFormed → ⊥)
      → IsSolved system.count r.fitting.fronts (r.rs ++ choice w (decision (stands_for s) w)) t → HasReached system (earlier ++ later) places t
  choice_reached t n g = record {
    fitting = r.fitting;
    first = r.first;
    waited_first = r.waited_first;
    visited = r.visited;
    rs = r.rs ++ choice w (decision (stands_for s) w);
    listed = r.listed;
    reached = decided r.rs earlier later r.listed w (decision (stands_for s) w) r.reached (decides n);
    places_are = r.places_are;
    are = are_append system.count r.fitting.fronts r.rs (choice w (decision (stands_for s) w)) r.are
        (choice_are system.count r.fitting.fronts w (decision (stands_for s) w) inside_of_it);
    solved = g;
    inside = (all_at (WaitInside system.count) earlier later w r.inside).1;
  }

  pub choice_refused : (x y : Term) → (decision (stands_for s) w ≡ NotFormed → ⊥)
      → Fails system.count r.rs (Waits w) (choice w (decision (stands_for s) w)) x y → IsClash system (place_of w) x y places
  choice_refused x y n f =
      let k : Kind = decision (stands_for s) w in
      let next : Next system (r.rs ++ f.first) (Waits w) f.asks r.listed =
      afterwards w k f.first f.rest r.first r.rs f.asks r.waited_first earlier later r.listed r.visited r.reached (decides n) f.split in
      let none : NoTyping system r.listed = no_typing system (r.rs ++ choice w k) (earlier ++ later) r.listed
      (decide_by (all_asked system) r.rs (all_waits system) earlier later r.listed w k going (decides n))
      (λ u h. f.refuses.none u (first_of_them u r.rs f.first f.rest (choice w k) f.asks f.split h)) in
      let P : List Place → Type 0 = λ z. IsClash system (place_of w) x y z in
      subst P (sym r.places_are) (clash_of system r.rs (choice w k) (Waits w) x y r.listed (place_of w) refl f next none)

  -- ---- by default

  none_decided : (us : List Wait) → NoneDecided s us → Each (DecidesNothing r.rs) us
  none_decided [] h = tt
  none_decided (u ∷ us) h = (decides_nothing system.count r.rs (stands_for s) u principal h.0, none_decided us h.1)

  pub default_reached : (t : Subst) → NoneDecided s (earlier ++ w ∷ later) → IsFirst earlier w later
      → IsSolved system.count r.fitting.fronts (r.rs ++ choice w (default_kind w)) t → HasReached system (earlier ++ later) (places ++ place_of w ∷ []) t
  default_reached t n i g = record {
    fitting = r.fitting;
    first = r.first;
    waited_first = r.waited_first;
    visited = r.visited;
    rs = r.rs ++ choice w (default_kind w);
    listed = r.listed ++ w ∷ [];
    reached = by_default r.rs earlier later r.listed w r.reached (none_decided (earlier ++ w ∷ later) n) i;
    places_are = ap (λ z. z ++ place_of w ∷ []) r.places_are ∙ sym (map-append place_of r.listed (w ∷ []));
    are = are_append system.count r.fitting.fronts r.rs (choice w (default_kind w)) r.are
        (choice_are system.count r.fitting.fronts w (default_kind w) inside_of_it);
    solved = g;
    inside = (all_at (WaitInside system.count) earlier later w r.inside).1;
  }

  pub default_refused : (x y : Term) → NoneDecided s (earlier ++ w ∷ later) → IsFirst earlier w later
      → Fails system.count r.rs (Waits w) (choice w (default_kind w)) x y → IsClash system (place_of w) x y (places ++ place_of w ∷ [])
  default_refused x y n i f =
      let d : Each (DecidesNothing r.rs) (earlier ++ w ∷ later) = none_decided (earlier ++ w ∷ later) n in
      let next : Next system (r.rs ++ f.first) (Waits w) f.asks (r.listed ++ w ∷ []) =
      by_its_default w f.first f.rest r.first r.rs f.asks r.waited_first earlier later r.listed r.visited r.reached d i f.split in
      let none : NoTyping system (r.listed ++ w ∷ []) = no_typing system (r.rs ++ choice w (default_kind w)) (earlier ++ later) (r.listed ++ w ∷ [])
      (default_by (all_asked system) r.rs (all_waits system) earlier later r.listed w going d i)
      (λ u h. f.refuses.none u (first_of_them u r.rs f.first f.rest (choice w (default_kind w)) f.asks f.split h)) in
      let P : List Place → Type 0 = λ z. IsClash system (place_of w) x y z in
      let e : map place_of (r.listed ++ w ∷ []) ≡ places ++ place_of w ∷ [] =
      map-append place_of r.listed (w ∷ []) ∙ ap (λ z. z ++ place_of w ∷ []) (sym r.places_are) in
      subst P e (clash_of system r.rs (choice w (default_kind w)) (Waits w) x y (r.listed ++ w ∷ []) (place_of w) refl f next none)

-- ---- nothing waits any more

pub typed_by : (system : System) (places : List Place) (s : Subst) → HasReached system [] places s → IsTypedBy system s
typed_by system places s r = (
  r.listed,
  is_typing system r.rs r.listed (stands_for s)
      (going_on (all_asked system) r.first (all_waits system) r.waited_first
      (going_visited system.declared system.entries r.first r.waited_first r.visited) r.rs [] r.listed r.reached)
      (principal_of system.count r.fitting.fronts r.rs s r.are r.solved),
)

-- ---- the unknown types are issued

pub wait_issued : (system : System) (earlier later : List Wait) (w : Wait) (places : List Place) (s : Subst)
    → HasReached system (earlier ++ w ∷ later) places s → WaitInside (issued_of s) w
wait_issued system earlier later w places s r =
    wait_inside_more system.count (issued_of s) w r.solved.solved.more (all_at (WaitInside system.count) earlier later w r.inside).0

pub entry_issued : (system : System) (front back : List Entry) (e : Entry) (ws : List Wait) (s : Subst) → system.entries ≡ front ++ e ∷ back
    → HasVisited system front ws s → EntryInside (issued_of s) e
entry_issued system front back (Asks p rs) ws s is v =
    all_inside_more system.count (issued_of s) rs v.solved.solved.more (fits system front back ws s v (Asks p rs) is).inside
entry_issued system front back (Waits w) ws s is v =
    wait_inside_more system.count (issued_of s) w v.solved.solved.more (fits system front back ws s v (Waits w) is)
