-- Which node goes on next.
use Rattle.std.proofs.Common.{◌≡◌, ℕ, ◌<◌, inl, inr, ◌⊎◌, Bool, true, false, List, [], ◌∷◌, ◌++◌, Some, None, Option, length, map, replicate, refl, ap, sym, ◌∙◌, subst, arith}
use Rattle.std.specs.Prelude.{get_or, set}
use Rattle.std.proofs.lemmas.Bool.{cases_eq}
use Rattle.std.proofs.lemmas.List.{length-map, length-replicate, length-set}
use Rattle.snowcat_rows.specs.declared.substitution.Subst.{Subst}
use Rattle.snowcat_rows.specs.Types.{var}
use Rattle.snowcat_rows.specs.Substitutions.{apply}
use Rattle.snowcat_rows.specs.Chains.{Binding, sub_of}
use Rattle.snowcat_rows.specs.Views.{kept_by, stands_for}
use Rattle.snowcat_types.specs.declared.awaiting.Awaiting.{Awaiting}
use Rattle.snowcat_types.specs.declared.kinds.Kind.{Kind}
use Rattle.snowcat_types.specs.declared.kinds.Kind.TheVariants.{NotFormed}
use Rattle.snowcat_types.specs.declared.ordering.Turn.{Turn}
use Rattle.snowcat_types.specs.declared.ordering.Turns.{Turns}
use Rattle.snowcat_types.specs.declared.waiting.Wait.{Wait}
use Rattle.snowcat_types.specs.declared.watching.Watching.{Watching}
use Rattle.snowcat_types.specs.Requirements.{kind}
use Rattle.snowcat_types.specs.Typings.{decision}
use Rattle.snowcat_types.specs.Waiting.{deciding, default_kind, place_of}
use Rattle.snowcat_types.specs.inner.Awaited.{AreOrdered, ArePassed, At, Awaits, HasFrom, Holds, IsChosen, IsDecidedNext, IsDone, IsFound, IsHeld, IsLeast, IsNoneDecided, IsNow, IsTaken, IsWatched, Stands, left}
use Rattle.snowcat_types.specs.inner.Awaited.Why.{by_types, first}
use Rattle.snowcat_types.specs.inner.Runs.{NoneDecided}
use Rattle.snowcat_types.proofs.Leaving.{all_left, at_below, at_read, at_same, each_left, marked_stands, none_left, stands_at, stands_marked, stands_off}
use Rattle.snowcat_types.proofs.Turning.{least, none_waits, passed_none, passed_off}
use Rattle.snowcat_types.proofs.Watched.{taken_none, taken_other, taken_same, watched_it, watched_other}

-- at first
pub awaits_first : (bs : List Binding) (ws : List Wait) (ms : List Bool) (g : Watching) (ts : Turns) → ms ≡ replicate (length ws) true → HasFrom 0 (length ws) g.agenda.items
    → AreOrdered ws ts.all.items → ts.passed ≡ 0 → Awaits bs ws ms g ts
awaits_first bs ws ms g ts e h o p = record {
  size = ap length e ∙ length-replicate (length ws) true;
  held = λ i w s. inl (h.has i (omega arith) (at_below ws i w (stands_at ms ws i w s)));
  ordered = o;
  passed = let P : ℕ → Type 0 = λ z. ArePassed ms ts.all.items z in subst P (sym p) (passed_none ms ts.all.items);
}

module _ (bs : List Binding) (ws : List Wait) (ms : List Bool) (g : Watching) (ts : Turns) (a : Awaits bs ws ms g ts) where
  -- a node is taken off the agenda that waits no more
  pub drops : (i : ℕ) (h : Watching) → IsTaken g (Some i) h → get_or ms i false ≡ false → Awaits bs ws ms h ts
  drops i h t e = record {
    size = a.size;
    held = λ j w s. taken_other bs g h i j (deciding w) t
        (λ q. absurd (let m : get_or ms j false ≡ true = stands_marked ms ws j w s in let n : get_or ms j false ≡ false = ap (λ z. get_or ms z false) q ∙ e in cc))
        (a.held j w s);
    ordered = a.ordered;
    passed = a.passed;
  }

  -- one that is watched
  pub watches : (i v : ℕ) (w : Wait) (h k : Watching) → IsTaken g (Some i) h → At ws i w
      → apply (sub_of bs) (deciding w) ≡ var v → IsWatched h v i k → Awaits bs ws ms k ts
  watches i v w h k t at e x = record {
    size = a.size;
    held = λ j u s. one j u s (cases_eq j i);
    ordered = a.ordered;
    passed = a.passed;
  }
    where
      one : (j : ℕ) (u : Wait) → Stands ms ws j u → (j ≡ i) ⊎ (j ≡ i → ⊥) → IsHeld bs k j (deciding u)
      one j u s (inl q) =
          let P : ℕ → Type 0 = λ z. At ws z u in
          let same : w ≡ u = at_same ws i w u at (subst P q (stands_at ms ws j u s)) in
          let Q : ℕ → Type 0 = λ z. IsHeld bs k z (deciding u) in
          let R : Wait → Type 0 = λ z. IsHeld bs k i (deciding z) in
          subst Q (sym q) (subst R same (watched_it bs h k v i x (deciding w) e))
      one j u s (inr n) = watched_other bs h k v i x j (deciding u) (taken_other bs g h i j (deciding u) t n (a.held j u s))

  -- one that waits no more from now on
  pub takes : (i : ℕ) (h : Watching) (ns : List Bool) → IsTaken g (Some i) h → ns ≡ set ms i false → Awaits bs ws ns h ts
  takes i h ns t e = let P : List Bool → Type 0 = λ z. Awaits bs ws z h ts in
      subst P (sym e) (record {
        size = length-set ms i false ∙ a.size;
        held = λ j w s. let k = stands_off ms ws i j w s in taken_other bs g h i j (deciding w) t k.1 (a.held j w k.0);
        ordered = a.ordered;
        passed = passed_off ms (set ms i false) ts.all.items ts.passed i refl a.passed;
      })

  -- nothing is taken
  pub stays : (h : Watching) → IsTaken g None h → Awaits bs ws ms h ts
  stays h t = record {
    size = a.size;
    held = λ j w s. taken_same bs g h j (deciding w) t (a.held j w s);
    ordered = a.ordered;
    passed = a.passed;
  }

  -- the node that takes its default waits no more
  pub offs : (i : ℕ) (us : Turns) (ns : List Bool) → us.all ≡ ts.all → ArePassed ms us.all.items us.passed → ns ≡ set ms i false → Awaits bs ws ns g us
  offs i us ns e p q = record {
    size = ap length q ∙ length-set ms i false ∙ a.size;
    held = λ j w s. let P : List Bool → Type 0 = λ z. Stands z ws j w in a.held j w (stands_off ms ws i j w (subst P q s)).0;
    ordered = (let P : List Turn → Type 0 = λ z. AreOrdered ws z in subst P (sym (ap (λ z. z.items) e)) a.ordered);
    passed = passed_off ms ns us.all.items us.passed i q p;
  }

  pub passes : (us : Turns) → us.all ≡ ts.all → ArePassed ms us.all.items us.passed → Awaits bs ws ms g us
  passes us e p = record {
    size = a.size;
    held = a.held;
    ordered = (let P : List Turn → Type 0 = λ z. AreOrdered ws z in subst P (sym (ap (λ z. z.items) e)) a.ordered);
    passed = p;
  }

  pub catches : (cs : List Binding) (h : Watching) → Holds bs g cs h → Awaits cs ws ms h ts
  catches cs h k = record {
    size = a.size;
    held = λ j w s. k.held j (deciding w) (a.held j w s);
    ordered = a.ordered;
    passed = a.passed;
  }

-- nothing is known of any where the agenda is empty
pub none_known : (s : Subst) (ws : List Wait) (ms : List Bool) (g : Watching) (ts : Turns) → Awaits (kept_by s) ws ms g ts → g.agenda.items ≡ [] → NoneDecided s (left ms ws)
none_known s ws ms g ts a e = each_left (λ w. decision (stands_for s) w ≡ NotFormed) ms ws
    (λ i w h. ap kind (taken_none (kept_by s) g i (deciding w) e (a.held i w h)).leads)

-- ---- what is found

module _ {X : Type 0} (f : X → Wait) (xs : List X) (ms : List Bool) (e : ms ≡ replicate (length xs) true) where
  as_all : ms ≡ replicate (length (map f xs)) true
  as_all = e ∙ ap (λ z. replicate z true) (sym (length-map xs f))

  pub first_all : left ms (map f xs) ≡ map f xs
  first_all = ap (λ z. left z (map f xs)) as_all ∙ all_left (map f xs)

  pub first_awaits : (g : Watching) (ts : Turns) → HasFrom 0 (length xs) g.agenda.items → AreOrdered (map f xs) ts.all.items → ts.passed ≡ 0
      → (bs : List Binding) → Awaits bs (map f xs) ms g ts
  first_awaits g ts h o p bs =
      let P : ℕ → Type 0 = λ z. HasFrom 0 z g.agenda.items in
      awaits_first bs (map f xs) ms g ts as_all (subst P (sym (length-map xs f)) h) o p

module _ {X : Type 0} (f : X → Wait) (xs : List X) (s : Subst) (old new : Awaiting) (o : Option ℕ) (i : ℕ) (some : o ≡ Some i)
    (found : IsFound s (map f xs) old o new) where
  it : IsDecidedNext s (map f xs) old i new
  it = let P : Option ℕ → Type 0 = λ z. IsFound s (map f xs) old z new in subst P some found

  at_it : At (map f xs) i it.wait
  at_it = stands_at old.marks.items (map f xs) i it.wait it.off.stands

  pub found_below : i < length xs
  found_below =
      let lt : i < length (map f xs) = at_below (map f xs) i it.wait at_it in
      let e : length (map f xs) ≡ length xs = length-map xs f in omega (arith, lt, e)

  pub found_decided : (x : X) (k : Kind) → x ≡ get_or xs i x → k ≡ decision (stands_for s) (f x) → IsChosen s (map f xs) old i k new
  found_decided x k is e =
      let same : f x ≡ it.wait = at_same (map f xs) i (f x) it.wait (at_read f xs i x found_below is) at_it in
      let kind_is : k ≡ decision (stands_for s) it.wait = e ∙ ap (decision (stands_for s)) same in
      record { wait = it.wait; off = it.off; why = by_types kind_is (λ q. it.decided (sym kind_is ∙ q)) it.same; awaiting = it.awaiting }

pub found_none : (s : Subst) (ws : List Wait) (old new : Awaiting) (o : Option ℕ) → o ≡ None → IsFound s ws old o new → IsNoneDecided s ws old new
found_none s ws old new o e h = let P : Option ℕ → Type 0 = λ z. IsFound s ws old z new in subst P e h

module _ (s : Subst) (ws : List Wait) (old mid new : Awaiting) (n : IsNoneDecided s ws old mid) (passed : ArePassed mid.marks.items new.turns.all.items new.turns.passed)
    (turns : new.turns.all ≡ mid.turns.all) (watching : new.watching ≡ mid.watching) where
  ordered : AreOrdered ws new.turns.all.items
  ordered = let P : List Turn → Type 0 = λ z. AreOrdered ws z in subst P (sym (ap (λ z. z.items) turns)) n.awaiting.ordered

  watched_now : (ns : List Bool) → Awaits (kept_by s) ws ns mid.watching new.turns → Awaits (kept_by s) ws ns new.watching new.turns
  watched_now ns h = let P : Watching → Type 0 = λ z. Awaits (kept_by s) ws ns z new.turns in subst P (sym watching) h

  pub chosen_first : (i : ℕ) (w : Wait) (k : Kind) → At ws i w → IsNow mid.marks.items new.turns (Some i) → new.marks.items ≡ set mid.marks.items i false
      → new.defaults.items ≡ mid.defaults.items ++ place_of w ∷ [] → k ≡ default_kind w → IsChosen s ws old i k new
  chosen_first i w k at here off more e =
      let stands : Stands mid.marks.items ws i w = marked_stands mid.marks.items ws i w here.marked at in
      let P : List Bool → Type 0 = λ z. Stands z ws i w in
      let Q : List Bool → Type 0 = λ z. NoneDecided s (left z ws) in
      let R : List Bool → Type 0 = λ z. IsLeast z ws i w in
      record {
        wait = w;
        off = record { stands = subst P n.marks stands; marks = off ∙ ap (λ z. set z i false) n.marks };
        why =
            first e (subst Q n.marks n.none)
            (subst R n.marks (least mid.marks.items ws new.turns.all.items new.turns.passed ordered passed i w stands here))
            (more ∙ ap (λ z. z ++ place_of w ∷ []) n.same);
        awaiting = watched_now new.marks.items
            (offs (kept_by s) ws mid.marks.items mid.watching mid.turns n.awaiting i new.turns new.marks.items turns passed off);
      }

  pub done_now : IsNow mid.marks.items new.turns None → new.marks.items ≡ mid.marks.items → new.defaults.items ≡ mid.defaults.items → IsDone s ws old new
  done_now all marks same =
      let P : List Bool → Type 0 = λ z. Awaits (kept_by s) ws z new.watching new.turns in
      record {
        none = ap (λ z. left z ws) marks ∙ none_left mid.marks.items ws (none_waits mid.marks.items ws new.turns.all.items new.turns.passed ordered passed all);
        awaiting = subst P (sym marks)
            (watched_now mid.marks.items (passes (kept_by s) ws mid.marks.items mid.watching mid.turns n.awaiting new.turns turns passed));
        marks = marks ∙ n.marks;
        same = same ∙ n.same;
      }
