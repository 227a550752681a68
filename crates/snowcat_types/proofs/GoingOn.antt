-- The node that goes on takes its choice, and the run ends where nothing waits.
use Rattle.std.proofs.Common.{◌≡◌, ℕ, ◌++◌, List, [], ◌∷◌, Bool, true, false, inl, inr, ◌<◌, Option, Some, arith, length, map, ap, sym, ◌∙◌, subst, take}
use Rattle.std.specs.Prelude.{Result, Ok, Err, get_or}
use Rattle.std.proofs.lemmas.List.{length-map, take_at}
use Rattle.tla_meaning.specs.declared.place.Place.{Place}
use Rattle.tla_meaning.specs.Outcomes.{before}
use Rattle.snowcat_rows.specs.declared.substitution.Subst.{Subst}
use Rattle.snowcat_rows.specs.declared.substitution.UnifyFault.{UnifyFault}
use Rattle.snowcat_rows.specs.Chains.{Binding}
use Rattle.snowcat_rows.specs.Codes.{Begins}
use Rattle.snowcat_rows.specs.Unifying.{HasNames}
use Rattle.snowcat_rows.specs.Views.{issued_of, kept_by, stands_for}
use Rattle.snowcat_types.specs.declared.awaiting.Awaiting.{Awaiting}
use Rattle.snowcat_types.specs.declared.faults.TypeFault.{TypeFault}
use Rattle.snowcat_types.specs.declared.kinds.Kind.{Kind}
use Rattle.snowcat_types.specs.declared.waiting.Wait.{Wait}
use Rattle.snowcat_types.specs.Waiting.{choice, default_kind, place_of}
use Rattle.snowcat_types.specs.Systems.{System}
use Rattle.snowcat_types.specs.Typings.{IsFirst}
use Rattle.snowcat_types.specs.inner.Awaited.{At, Awaits, IsBegun, IsCaughtUp, IsChosen, IsLeast, IsLess, IsNext, IsRunning, IsStep, Why, left}
use Rattle.snowcat_types.specs.inner.Awaited.Why.{by_types, first}
use Rattle.snowcat_types.specs.inner.Runs.{HasReached, IsFault, IsPlaced, IsTypedBy, NoneDecided}
use Rattle.snowcat_types.specs.inner.Solved.{IsDue, IsFurther, Tries, WaitInside}
use Rattle.snowcat_types.proofs.Faulting.{decided_failed, decided_met, default_failed, default_met, placed_at}
use Rattle.snowcat_types.proofs.Leaving.{ahead, at_below, at_read, at_same, each_ahead, each_past, fewer_left, left_off, left_split, past, stands_at}
use Rattle.snowcat_types.proofs.Nexts.{catches}
use Rattle.snowcat_types.proofs.Reaching.{typed_by, wait_issued}

pub begun : (system : System) (ws : List Wait) (a : Awaiting) (s : Subst) → HasReached system ws [] s → IsBegun ws a → IsRunning system ws a s
begun system ws a s r b = record {
  reached =
      let P : List Wait → Type 0 = λ z. HasReached system z a.defaults.items s in
      let Q : List Place → Type 0 = λ z. HasReached system ws z s in
      subst P (sym b.all) (subst Q (sym b.none) r);
  awaiting = b.awaiting (kept_by s);
}

pub ended : (system : System) (ws : List Wait) (a : Awaiting) (s : Subst) → IsRunning system ws a s → left a.marks.items ws ≡ [] → IsTypedBy system s
ended system ws a s r e = let P : List Wait → Type 0 = λ z. HasReached system z a.defaults.items s in
    typed_by system a.defaults.items s (subst P e r.reached)

module _ (system : System) (ws : List Wait) (s : Subst) (old new : Awaiting) (i : ℕ) (k : Kind) (c : IsChosen s ws old i k new)
    (w : Wait) (is : w ≡ c.wait) (r : HasReached system (left old.marks.items ws) old.defaults.items s) where
  abbrev here : List Wait
  here = ahead old.marks.items ws i ++ c.wait ∷ past old.marks.items ws i

  split_reached : HasReached system here old.defaults.items s
  split_reached = let P : List Wait → Type 0 = λ z. HasReached system z old.defaults.items s in
      subst P (left_split old.marks.items ws i c.wait c.off.stands) r

  split_none : NoneDecided s (left old.marks.items ws) → NoneDecided s here
  split_none n = let P : List Wait → Type 0 = λ z. NoneDecided s z in subst P (left_split old.marks.items ws i c.wait c.off.stands) n

  is_first : IsLeast old.marks.items ws i c.wait → IsFirst (ahead old.marks.items ws i) c.wait (past old.marks.items ws i)
  is_first l = record {
    before_earlier = each_ahead (λ u. before (place_of c.wait) (place_of u) ≡ true) old.marks.items ws i l.before_earlier;
    not_behind = each_past (λ u. before (place_of u) (place_of c.wait) ≡ false) old.marks.items ws i l.not_behind;
  }

  now_left : left new.marks.items ws ≡ ahead old.marks.items ws i ++ past old.marks.items ws i
  now_left = ap (λ z. left z ws) c.off.marks ∙ left_off old.marks.items ws i c.wait c.off.stands

  tried_at : (t : Subst) (z : Result (Unit {0}) UnifyFault) → Tries w (choice w k) s t z → Tries c.wait (choice c.wait k) s t z
  tried_at t z h = let P : Wait → Type 0 = λ v. Tries v (choice v k) s t z in subst P is h

  tried_default : (t : Subst) (z : Result (Unit {0}) UnifyFault) → k ≡ default_kind c.wait → Tries w (choice w k) s t z
      → Tries c.wait (choice c.wait (default_kind c.wait)) s t z
  tried_default t z e h = let P : Kind → Type 0 = λ v. Tries c.wait (choice c.wait v) s t z in subst P e (tried_at t z h)

  its_inside : WaitInside (issued_of s) w
  its_inside = let P : Wait → Type 0 = λ z. WaitInside (issued_of s) z in
      subst P (sym is) (wait_issued system (ahead old.marks.items ws i) (past old.marks.items ws i) c.wait old.defaults.items s split_reached)

  its_due : IsDue (stands_for s) w k
  its_due = let P : Wait → Type 0 = λ z. IsDue (stands_for s) z k in
      subst P (sym is) (elim c.why [ by_types e n same ↦ inl (sym e, n) | first e n l more ↦ inr e ])

  reached_on : (t : Subst) → Tries w (choice w k) s t (Ok tt) → Why s ws old i c.wait k new
      → HasReached system (ahead old.marks.items ws i ++ past old.marks.items ws i) new.defaults.items t
  reached_on t h (by_types e n same) =
      let Q : List Place → Type 0 = λ z. HasReached system (ahead old.marks.items ws i ++ past old.marks.items ws i) z t in
      subst Q (sym same)
      (decided_met system (ahead old.marks.items ws i) (past old.marks.items ws i) c.wait old.defaults.items s t split_reached k e n
      (tried_at t (Ok tt) h system.count split_reached.fitting.fronts split_reached.rs split_reached.solved split_reached.are))
  reached_on t h (first e n l more) =
      let Q : List Place → Type 0 = λ z. HasReached system (ahead old.marks.items ws i ++ past old.marks.items ws i) z t in
      subst Q (sym more)
      (default_met system (ahead old.marks.items ws i) (past old.marks.items ws i) c.wait old.defaults.items s t split_reached (split_none n) (is_first l)
      (tried_default t (Ok tt) e h system.count split_reached.fitting.fronts split_reached.rs split_reached.solved split_reached.are))

  its_on : (t : Subst) (a : Awaiting) → Tries w (choice w k) s t (Ok tt) → Begins (kept_by s) (kept_by t)
      → (m : ℕ) → m ≡ length (kept_by s) → IsCaughtUp t m new a → IsRunning system ws a t
  its_on t a h b m e u = record {
    reached =
        let P : List Wait → Type 0 = λ z. HasReached system z a.defaults.items t in
        let Q : List Place → Type 0 = λ z. HasReached system (ahead old.marks.items ws i ++ past old.marks.items ws i) z t in
        subst P (sym (ap (λ z. left z ws) u.marks ∙ now_left)) (subst Q (sym u.same) (reached_on t h c.why));
    awaiting =
        let f : take m (kept_by t) ≡ kept_by s = ap (take m) b.1 ∙ take_at (kept_by s) b.0 m (sym e) in
        let P : List Binding → Type 0 = λ z. Awaits z ws new.marks.items new.watching new.turns in
        let g : Awaits (kept_by t) ws new.marks.items a.watching new.turns =
        catches (take m (kept_by t)) ws new.marks.items new.watching new.turns (subst P (sym f) c.awaiting) (kept_by t) a.watching u.holds in
        let R : List Bool → Type 0 = λ z. Awaits (kept_by t) ws z a.watching new.turns in
        let S : _ → Type 0 = λ z. Awaits (kept_by t) ws a.marks.items a.watching z in
        subst S (sym u.turns) (subst R (sym u.marks) g);
  }

  refused_why : (t : Subst) (fault : UnifyFault) (e : TypeFault) → Tries w (choice w k) s t (Err fault) → HasNames fault
      → IsPlaced fault (place_of c.wait) new.defaults.items e → Why s ws old i c.wait k new → IsFault system e
  refused_why t fault e h names placed (by_types q n same) =
      let P : List Place → Type 0 = λ z. IsPlaced fault (place_of c.wait) z e in
      decided_failed system (ahead old.marks.items ws i) (past old.marks.items ws i) c.wait old.defaults.items s t split_reached k fault e q n
      (tried_at t (Err fault) h system.count split_reached.fitting.fronts split_reached.rs split_reached.solved split_reached.are) names
      (subst P same placed)
  refused_why t fault e h names placed (first q n l more) =
      let P : List Place → Type 0 = λ z. IsPlaced fault (place_of c.wait) z e in
      default_failed system (ahead old.marks.items ws i) (past old.marks.items ws i) c.wait old.defaults.items s t split_reached fault e (split_none n)
      (is_first l)
      (tried_default t (Err fault) q h system.count split_reached.fitting.fronts split_reached.rs split_reached.solved split_reached.are) names
      (subst P more placed)

  its_refused : (t : Subst) (fault : UnifyFault) (e : TypeFault) (p : Place) (ps : List Place) → Tries w (choice w k) s t (Err fault) → HasNames fault
      → p ≡ place_of w → ps ≡ new.defaults.items → IsPlaced fault p ps e → IsFault system e
  its_refused t fault e p ps h names at same placed =
      let P : List Place → Type 0 = λ z. IsPlaced fault (place_of c.wait) z e in
      refused_why t fault e h names (subst P same (placed_at fault p (place_of c.wait) ps e (at ∙ ap place_of is) placed)) c.why

-- ---- what is found of the nodes that are lent

module _ {X : Type 0} (f : X → Wait) (xs : List X) (s : Subst) (old new : Awaiting) (o : Option (ℕ × Kind)) (i : ℕ) (k : Kind)
    (some : o ≡ Some (i, k)) (next : IsNext s (map f xs) old o new) where
  chosen : IsChosen s (map f xs) old i k new
  chosen = let P : Option (ℕ × Kind) → Type 0 = λ z. IsNext s (map f xs) old z new in subst P some next

  at_chosen : At (map f xs) i chosen.wait
  at_chosen = stands_at old.marks.items (map f xs) i chosen.wait chosen.off.stands

  pub chosen_below : i < length xs
  chosen_below =
      let lt : i < length (map f xs) = at_below (map f xs) i chosen.wait at_chosen in
      let e : length (map f xs) ≡ length xs = length-map xs f in omega (arith, lt, e)

  module _ (x : X) (is : x ≡ get_or xs i x) (system : System) (r : HasReached system (left old.marks.items (map f xs)) old.defaults.items s) where
    same : f x ≡ chosen.wait
    same = at_same (map f xs) i (f x) chosen.wait (at_read f xs i x chosen_below is) at_chosen

    pub chosen_inside : WaitInside (issued_of s) (f x)
    chosen_inside = its_inside system (map f xs) s old new i k chosen (f x) same r

    pub chosen_due : IsDue (stands_for s) (f x) k
    chosen_due = its_due system (map f xs) s old new i k chosen (f x) same r

    pub chosen_on : (t : Subst) (a : Awaiting) → Tries (f x) (choice (f x) k) s t (Ok tt) → IsFurther s t → (m : ℕ) → m ≡ length (kept_by s)
        → IsCaughtUp t m new a → IsStep system (map f xs) old true a t
    chosen_on t a h b m e u = record {
      running = its_on system (map f xs) s old new i k chosen (f x) same r t a h b.begins m e u;
      less = fewer_left old.marks.items a.marks.items (map f xs) i chosen.wait chosen.off.stands (u.marks ∙ chosen.off.marks);
    }

    pub chosen_refused : (t : Subst) (fault : UnifyFault) (e : TypeFault) (p : Place) (ps : List Place) → Tries (f x) (choice (f x) k) s t (Err fault)
        → HasNames fault → p ≡ place_of (f x) → ps ≡ new.defaults.items → IsPlaced fault p ps e → IsFault system e
    chosen_refused t fault e p ps h names at all placed = its_refused system (map f xs) s old new i k chosen (f x) same r t fault e p ps h names at all placed

pub less_none : (ws : List Wait) (old new : Awaiting) (more : Bool) → more ≡ false → IsLess ws old more new → left new.marks.items ws ≡ []
less_none ws old new more e h = let P : Bool → Type 0 = λ z. IsLess ws old z new in subst P e h
