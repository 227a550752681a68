-- An entry more is visited.
use Rattle.std.proofs.Common.{◌≡◌, ℕ, List, [], ◌∷◌, ◌++◌, refl, ap, sym, ◌∙◌, subst, append_assoc, map}
use Rattle.tla_meaning.specs.declared.place.Place.{Place}
use Rattle.snowcat_rows.specs.declared.substitution.Subst.{Subst}
use Rattle.snowcat_rows.specs.Types.{Term}
use Rattle.snowcat_rows.specs.Substitutions.{Sub, Fronts}
use Rattle.snowcat_rows.specs.Views.{issued_of, stands_for}
use Rattle.snowcat_types.specs.declared.kinds.Kind.{Kind}
use Rattle.snowcat_types.specs.declared.kinds.Kind.TheVariants.{NotFormed}
use Rattle.snowcat_types.specs.declared.waiting.Wait.{Wait}
use Rattle.snowcat_types.specs.Requirements.{Requirement, MeetAll}
use Rattle.snowcat_types.specs.Waiting.{choice, place_of}
use Rattle.snowcat_types.specs.Systems.{Entry, Asks, Waits, System, asked, waited, all_asked, all_waits}
use Rattle.snowcat_types.specs.Typings.{Each, Decides, IsClash, Next, NoTyping, Principal, Visited, a_row, chosen, waits_on, in_row, at_visit, decision, entry_place}
use Rattle.snowcat_types.specs.inner.Solved.{AreOf, Fails, IsSolved, WaitInside}
use Rattle.snowcat_types.specs.inner.Runs.{EntriesFit, EntryFits, HasVisited}
use Rattle.snowcat_types.proofs.Choices.{meet_append, meet_left, meet_right}
use Rattle.snowcat_types.proofs.Clashes.{decide_by, going_visited}
use Rattle.snowcat_types.proofs.Fitted.{are_append, choice_are, entry_fits, is_unknown}
use Rattle.snowcat_types.proofs.Joining.{Going}
use Rattle.snowcat_types.proofs.Nodes.{asked-append, waited-append}
use Rattle.snowcat_types.proofs.Running.{decides_known, decides_nothing, most_general, no_typing, visit_step}

-- what is solved is so in the most general way
pub principal_of : (n : ℕ) (l : Fronts) (rs : List Requirement) (s : Subst) → AreOf n l rs → IsSolved n l rs s → Principal n rs (stands_for s)
principal_of n l rs s h g = most_general n (issued_of s) l g.fronts rs (stands_for s) h.sorted g.solved

each_snoc : (P : Wait → Type 0) (ws : List Wait) (w : Wait) → Each P ws → P w → Each P (ws ++ w ∷ [])
each_snoc P [] w h k = (k, tt)
each_snoc P (u ∷ ws) w h k = (h.0, each_snoc P ws w h.1 k)

-- ---- the entry is met

module _ (system : System) (front back : List Entry) (ws : List Wait) (s : Subst) (v : HasVisited system front ws s) where
  pub fits : (e : Entry) → system.entries ≡ front ++ e ∷ back → EntryFits system.count v.fitting.fronts e
  fits e is = let P : List Entry → Type 0 = λ z. EntriesFit system.count v.fitting.fronts z in
      entry_fits system.count v.fitting.fronts front back e (subst P is v.fitting.entries)

  pub row_visited : (p : Place) (rs : List Requirement) (t : Subst) → system.entries ≡ front ++ Asks p rs ∷ back
      → IsSolved system.count v.fitting.fronts (v.done ++ rs) t → HasVisited system (front ++ Asks p rs ∷ []) ws t
  row_visited p rs t is g = record {
    fitting = v.fitting;
    done = v.done ++ rs;
    visited = a_row front p rs v.done ws v.visited;
    are = are_append system.count v.fitting.fronts v.done rs v.are (fits (Asks p rs) is);
    solved = g;
    inside = v.inside;
  }

  decided_by : (w : Wait) → system.entries ≡ front ++ Waits w ∷ back → (decision (stands_for s) w ≡ NotFormed → ⊥)
      → Decides v.done w (decision (stands_for s) w)
  decided_by w is n =
      decides_known system.count v.done (stands_for s) w (principal_of system.count v.fitting.fronts v.done s v.are v.solved)
      (is_unknown system.count w (fits (Waits w) is)) n

  pub choice_visited : (w : Wait) (t : Subst) → system.entries ≡ front ++ Waits w ∷ back → (decision (stands_for s) w ≡ NotFormed → ⊥)
      → IsSolved system.count v.fitting.fronts (v.done ++ choice w (decision (stands_for s) w)) t → HasVisited system (front ++ Waits w ∷ []) ws t
  choice_visited w t is n g = record {
    fitting = v.fitting;
    done = v.done ++ choice w (decision (stands_for s) w);
    visited = chosen front w (decision (stands_for s) w) v.done ws v.visited (decided_by w is n);
    are = are_append system.count v.fitting.fronts v.done (choice w (decision (stands_for s) w)) v.are
        (choice_are system.count v.fitting.fronts w (decision (stands_for s) w) (fits (Waits w) is));
    solved = g;
    inside = v.inside;
  }

  pub wait_visited : (w : Wait) → system.entries ≡ front ++ Waits w ∷ back → decision (stands_for s) w ≡ NotFormed
      → HasVisited system (front ++ Waits w ∷ []) (ws ++ w ∷ []) s
  wait_visited w is e = record {
    fitting = v.fitting;
    done = v.done;
    visited = waits_on front w v.done ws v.visited
        (decides_nothing system.count v.done (stands_for s) w (principal_of system.count v.fitting.fronts v.done s v.are v.solved) e);
    are = v.are;
    solved = v.solved;
    inside = each_snoc (WaitInside system.count) ws w v.inside (fits (Waits w) is);
  }

-- ---- the entry is refused

-- what was asked before it and the first of what it asks
pub first_of_them : (u : Sub) (rs first rest qs : List Requirement) (q : Requirement) → qs ≡ first ++ q ∷ rest
    → MeetAll u (rs ++ qs) → MeetAll u ((rs ++ first) ++ q ∷ [])
first_of_them u rs first rest qs q e h =
    let P : List Requirement → Type 0 = λ z. MeetAll u z in
    let k : MeetAll u (first ++ q ∷ rest) = subst P e (meet_right u rs qs h) in
    let t : MeetAll u (q ∷ rest) = meet_right u first (q ∷ rest) k in
    meet_append u (rs ++ first) (q ∷ []) (meet_append u rs first (meet_left u rs qs h) (meet_left u first (q ∷ rest) k)) (t.0, tt)

module _ (system : System) (rs qs : List Requirement) (e : Entry) (x y : Term) (ds : List Wait) where
  pub clash_of : (p : Place) → p ≡ entry_place e → (f : Fails system.count rs e qs x y) → Next system (rs ++ f.first) e f.asks ds → NoTyping system ds
      → IsClash system p x y (map place_of ds)
  clash_of p at f next none = record {
    done = rs ++ f.first;
    entry = e;
    asks = f.asks;
    listed = ds;
    next = next;
    at_node = at;
    places_are = refl;
    none = none;
    last = f.last;
    principal = f.refuses.principal;
    a = f.a;
    b = f.b;
    sides = f.sides;
    issued = f.refuses.issued;
    more = f.refuses.more;
    is_issued = f.refuses.is_issued;
    fronts = f.refuses.fronts;
    sorted = f.refuses.sorted;
    unmade = f.refuses.unmade;
  }

-- what is visited behind the first entries, all of it
going_behind : (system : System) (front back : List Entry) (done : List Requirement) (ws : List Wait) → system.entries ≡ front ++ back
    → Visited system.declared front done ws → Going (all_asked system) (all_waits system) (done ++ asked back) (ws ++ waited back) []
going_behind system front back done ws is v =
    let g = visit_step (system.declared ++ asked front) (asked back) done (waited front) (waited back) ws (going_visited system.declared front done ws v) in
    let P : List Requirement → Type 0 = λ z. Going z (waited front ++ waited back) (done ++ asked back) (ws ++ waited back) [] in
    let Q : List Wait → Type 0 = λ z. Going (system.declared ++ asked system.entries) z (done ++ asked back) (ws ++ waited back) [] in
    let all : (system.declared ++ asked front) ++ asked back ≡ system.declared ++ asked system.entries =
    append_assoc system.declared (asked front) (asked back) ∙ ap (λ z. system.declared ++ z) (sym (asked-append front back) ∙ ap asked (sym is)) in
    subst Q (sym (waited-append front back) ∙ ap waited (sym is)) (subst P all g)

module _ (system : System) (front back : List Entry) (ws : List Wait) (s : Subst) (v : HasVisited system front ws s) (x y : Term) where
  pub row_clash : (p : Place) (rs : List Requirement) → system.entries ≡ front ++ Asks p rs ∷ back → Fails system.count v.done (Asks p rs) rs x y
      → IsClash system p x y []
  row_clash p rs is f =
      let P : List Requirement → Type 0 = λ z. system.entries ≡ front ++ Asks p z ∷ back in
      let N : List Requirement → Type 0 = λ z. Next system (v.done ++ f.first) (Asks p z) f.asks [] in
      let next : Next system (v.done ++ f.first) (Asks p rs) f.asks [] =
      subst N (sym f.split) (in_row front back p f.first f.rest v.done f.asks ws (subst P f.split is) v.visited) in
      let none : NoTyping system [] = no_typing system (v.done ++ (rs ++ asked back)) (ws ++ waited back) []
      (going_behind system front (Asks p rs ∷ back) v.done ws is v.visited)
      (λ u h. f.refuses.none u (first_of_them u v.done f.first f.rest rs f.asks f.split
      (meet_append u v.done rs (meet_left u v.done (rs ++ asked back) h) (meet_left u rs (asked back) (meet_right u v.done (rs ++ asked back) h))))) in
      clash_of system v.done rs (Asks p rs) x y [] p refl f next none

  pub choice_clash : (w : Wait) (k : Kind) → system.entries ≡ front ++ Waits w ∷ back → Decides v.done w k
      → Fails system.count v.done (Waits w) (choice w k) x y → IsClash system (place_of w) x y []
  choice_clash w k is d f =
      let next : Next system (v.done ++ f.first) (Waits w) f.asks [] =
      at_visit front back w k f.first f.rest v.done f.asks ws is v.visited d f.split in
      let going : Going (all_asked system) (all_waits system) (v.done ++ asked back) (ws ++ w ∷ waited back) [] =
      going_behind system front (Waits w ∷ back) v.done ws is v.visited in
      let none : NoTyping system [] = no_typing system ((v.done ++ asked back) ++ choice w k) (ws ++ waited back) []
      (decide_by (all_asked system) (v.done ++ asked back) (all_waits system) ws (waited back) [] w k going (later_decides v.done (asked back) w k d))
      (λ u h. f.refuses.none u (first_of_them u v.done f.first f.rest (choice w k) f.asks f.split
      (meet_append u v.done (choice w k) (meet_left u v.done (asked back) (meet_left u (v.done ++ asked back) (choice w k) h))
      (meet_right u (v.done ++ asked back) (choice w k) h)))) in
      clash_of system v.done (choice w k) (Waits w) x y [] (place_of w) refl f next none
    where
      later_decides : (rs qs : List Requirement) (w : Wait) (k : Kind) → Decides rs w k → Decides (rs ++ qs) w k
      later_decides rs qs w k d = (d.0, λ u h. d.1 u (meet_left u rs qs h))

  pub visit_clash : (w : Wait) → system.entries ≡ front ++ Waits w ∷ back → (decision (stands_for s) w ≡ NotFormed → ⊥)
      → Fails system.count v.done (Waits w) (choice w (decision (stands_for s) w)) x y → IsClash system (place_of w) x y []
  visit_clash w is n f = choice_clash w (decision (stands_for s) w) is (decided_by system front back ws s v w is n) f
