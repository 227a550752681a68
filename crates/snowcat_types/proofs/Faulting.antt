-- What is answered of a run's step.
use Rattle.std.proofs.Common.{◌≡◌, ℕ, List, [], ◌∷◌, ◌++◌, sym, ◌∙◌, subst}
use Rattle.std.specs.Prelude.{Result, Ok, Err}
use Rattle.tla_meaning.specs.declared.place.Place.{Place}
use Rattle.snowcat_rows.specs.declared.substitution.Subst.{Subst}
use Rattle.snowcat_rows.specs.declared.substitution.UnifyFault.{UnifyFault}
use Rattle.snowcat_rows.specs.declared.substitution.UnifyFault.TheVariants.{Clash as Apart}
use Rattle.snowcat_rows.specs.declared.types.Ty.{Ty}
use Rattle.snowcat_rows.specs.Types.{mean}
use Rattle.snowcat_rows.specs.Unifying.{HasNames}
use Rattle.snowcat_rows.specs.Views.{stands_for}
use Rattle.snowcat_types.specs.declared.faults.TypeFault.{TypeFault}
use Rattle.snowcat_types.specs.declared.faults.TypeFault.TheVariants.{NotAnnotated, BadAnnotation, Clash, Memory}
use Rattle.snowcat_types.specs.declared.kinds.Kind.{Kind}
use Rattle.snowcat_types.specs.declared.kinds.Kind.TheVariants.{NotFormed}
use Rattle.snowcat_types.specs.declared.waiting.Wait.{Wait}
use Rattle.snowcat_types.specs.Requirements.{Requirement}
use Rattle.snowcat_types.specs.Waiting.{choice, default_kind, place_of}
use Rattle.snowcat_types.specs.Systems.{Entry, Asks, Waits, System}
use Rattle.snowcat_types.specs.Typings.{IsClash, IsFirst, decision}
use Rattle.snowcat_types.specs.inner.Solved.{Fails, IsTried, WaitInside}
use Rattle.snowcat_types.specs.inner.Runs.{EntryFits, HasReached, HasVisited, IsFault, IsPlaced, NoneDecided}
use Rattle.snowcat_types.proofs.Reaching.{choice_reached, choice_refused, default_reached, default_refused}
use Rattle.snowcat_types.proofs.Choices.{all_at}
use Rattle.snowcat_types.proofs.Visiting.{choice_visited, fits, row_clash, row_visited, visit_clash}

-- a fault with its place is a clash, where the two types that it has are one
fault_is : (system : System) (fault : UnifyFault) (p : Place) (places : List Place) (e : TypeFault) → IsPlaced fault p places e → HasNames fault
    → ((x y : Ty) → fault ≡ Apart x y → IsClash system p (mean x) (mean y) places) → IsFault system e
fault_is system fault p places (Clash q x y others) h names clash =
    let P : Place → Type 0 = λ z. IsClash system z (mean x) (mean y) others in
    let Q : List Place → Type 0 = λ z. IsClash system p (mean x) (mean y) z in
    let N : UnifyFault → Type 0 = λ z. HasNames z in
    (subst P (sym h.1.0) (subst Q (sym h.1.1) (clash x y h.0)), subst N h.0 names)
fault_is system fault p places (Memory a) h names clash = tt
fault_is system fault p places (NotAnnotated x q) h names clash = absurd h
fault_is system fault p places (BadAnnotation q) h names clash = absurd h

-- what was tried, where it failed
pub failed : (n : ℕ) (l : _) (rs : List Requirement) (entry : Entry) (qs : List Requirement) (t : Subst) (fault : UnifyFault) (x y : Ty)
    → fault ≡ Apart x y → IsTried n l rs entry qs t (Err fault) → Fails n rs entry qs (mean x) (mean y)
failed n l rs entry qs t fault x y e h =
    let P : UnifyFault → Type 0 = λ z. IsTried n l rs entry qs t (Err z) in
    subst P e h

-- with the place as it is answered
pub placed_at : (fault : UnifyFault) (p q : Place) (places : List Place) (e : TypeFault) → p ≡ q → IsPlaced fault p places e → IsPlaced fault q places e
placed_at fault p q places e is h = let P : Place → Type 0 = λ z. IsPlaced fault z places e in subst P is h

module _ (system : System) (front back : List Entry) (ws : List Wait) (s t : Subst) (v : HasVisited system front ws s) where
  abbrev Tried : Entry → List Requirement → Result (Unit {0}) UnifyFault → Type 0
  Tried e qs r = EntryFits system.count v.fitting.fronts e → IsTried system.count v.fitting.fronts v.done e qs t r

  pub row_met : (p : Place) (rs : List Requirement) → system.entries ≡ front ++ Asks p rs ∷ back → Tried (Asks p rs) rs (Ok tt)
      → HasVisited system (front ++ Asks p rs ∷ []) ws t
  row_met p rs is h = row_visited system front back ws s v p rs t is (h (fits system front back ws s v (Asks p rs) is))

  pub row_failed : (p : Place) (rs : List Requirement) (fault : UnifyFault) (e : TypeFault) → system.entries ≡ front ++ Asks p rs ∷ back
      → Tried (Asks p rs) rs (Err fault) → HasNames fault → IsPlaced fault p [] e → IsFault system e
  row_failed p rs fault e is h names placed =
      fault_is system fault p [] e placed names
      (λ x y q. row_clash system front back ws s v (mean x) (mean y) p rs is
      (failed system.count v.fitting.fronts v.done (Asks p rs) rs t fault x y q (h (fits system front back ws s v (Asks p rs) is))))

  pub choice_met : (w : Wait) (k : Kind) → system.entries ≡ front ++ Waits w ∷ back → k ≡ decision (stands_for s) w → (k ≡ NotFormed → ⊥)
      → Tried (Waits w) (choice w k) (Ok tt) → HasVisited system (front ++ Waits w ∷ []) ws t
  choice_met w k is e n h =
      let P : Kind → Type 0 = λ z. IsTried system.count v.fitting.fronts v.done (Waits w) (choice w z) t (Ok tt) in
      choice_visited system front back ws s v w t is (λ q. n (e ∙ q)) (subst P e (h (fits system front back ws s v (Waits w) is)))

  pub choice_failed : (w : Wait) (k : Kind) (fault : UnifyFault) (e : TypeFault) → system.entries ≡ front ++ Waits w ∷ back
      → k ≡ decision (stands_for s) w → (k ≡ NotFormed → ⊥) → Tried (Waits w) (choice w k) (Err fault)
      → HasNames fault → IsPlaced fault (place_of w) [] e → IsFault system e
  choice_failed w k fault e is d n h names placed =
      let P : Kind → Type 0 = λ z. IsTried system.count v.fitting.fronts v.done (Waits w) (choice w z) t (Err fault) in
      fault_is system fault (place_of w) [] e placed names
      (λ x y q. visit_clash system front back ws s v (mean x) (mean y) w is (λ z. n (d ∙ z))
      (failed system.count v.fitting.fronts v.done (Waits w) (choice w (decision (stands_for s) w)) t fault x y q
      (subst P d (h (fits system front back ws s v (Waits w) is)))))

module _ (system : System) (earlier later : List Wait) (w : Wait) (places : List Place) (s t : Subst)
    (r : HasReached system (earlier ++ w ∷ later) places s) where
  abbrev TriedLater : Kind → Result (Unit {0}) UnifyFault → Type 0
  TriedLater k z = WaitInside system.count w → IsTried system.count r.fitting.fronts r.rs (Waits w) (choice w k) t z

  inside_here : WaitInside system.count w
  inside_here = (all_at (WaitInside system.count) earlier later w r.inside).0

  pub decided_met : (k : Kind) → k ≡ decision (stands_for s) w → (k ≡ NotFormed → ⊥) → TriedLater k (Ok tt) → HasReached system (earlier ++ later) places t
  decided_met k e n h =
      let P : Kind → Type 0 = λ z. IsTried system.count r.fitting.fronts r.rs (Waits w) (choice w z) t (Ok tt) in
      choice_reached system earlier later w places s r t (λ q. n (e ∙ q)) (subst P e (h inside_here))

  pub decided_failed : (k : Kind) (fault : UnifyFault) (e : TypeFault) → k ≡ decision (stands_for s) w → (k ≡ NotFormed → ⊥)
      → TriedLater k (Err fault) → HasNames fault → IsPlaced fault (place_of w) places e → IsFault system e
  decided_failed k fault e d n h names placed =
      let P : Kind → Type 0 = λ z. IsTried system.count r.fitting.fronts r.rs (Waits w) (choice w z) t (Err fault) in
      fault_is system fault (place_of w) places e placed names
      (λ x y q. choice_refused system earlier later w places s r (mean x) (mean y) (λ z. n (d ∙ z))
      (failed system.count r.fitting.fronts r.rs (Waits w) (choice w (decision (stands_for s) w)) t fault x y q (subst P d (h inside_here))))

  pub default_met : NoneDecided s (earlier ++ w ∷ later) → IsFirst earlier w later → TriedLater (default_kind w) (Ok tt)
      → HasReached system (earlier ++ later) (places ++ place_of w ∷ []) t
  default_met n i h = default_reached system earlier later w places s r t n i (h inside_here)

  pub default_failed : (fault : UnifyFault) (e : TypeFault) → NoneDecided s (earlier ++ w ∷ later) → IsFirst earlier w later
      → TriedLater (default_kind w) (Err fault) → HasNames fault → IsPlaced fault (place_of w) (places ++ place_of w ∷ []) e → IsFault system e
  default_failed fault e n i h names placed =
      fault_is system fault (place_of w) (places ++ place_of w ∷ []) e placed names
      (λ x y q. default_refused system earlier later w places s r (mean x) (mean y) n i
      (failed system.count r.fitting.fronts r.rs (Waits w) (choice w (default_kind w)) t fault x y q (h inside_here)))
