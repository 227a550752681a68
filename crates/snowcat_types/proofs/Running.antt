-- The steps of a run, its end, and what a clash says.
use Rattle.std.proofs.Common.{◌≡◌, ℕ, ◌<◌, ◌≤◌, Bool, true, false, if◌then◌else◌, List, [], ◌∷◌, ◌++◌, refl, ap, sym, ◌∙◌, subst, arith, append_assoc, map, Some, None}
use Rattle.snowcat_rows.specs.Types.{Term, Slot, var, con, app, fields, none, some}
use Rattle.snowcat_rows.specs.Substitutions.{Sub, apply, apply_slot, or_else, then_sub, Fits, Fronts, Sorted, SortedSlot, Present, Apart}
use Rattle.snowcat_rows.specs.Sorting.{Within}
use Rattle.snowcat_rows.proofs.General.{apply_agree}
use Rattle.snowcat_types.specs.declared.waiting.Wait.{Wait}
use Rattle.snowcat_types.specs.declared.kinds.Kind.{Kind}
use Rattle.snowcat_types.specs.declared.kinds.Kind.TheVariants.{NotFormed}
use Rattle.snowcat_types.specs.Requirements.{kind, Requirement, Equal, ItemOf, FieldOf, IsFormed, Never, item_at, field_at, Meets, MeetAll}
use Rattle.snowcat_types.specs.Waiting.{deciding, choice, default_kind}
use Rattle.snowcat_types.specs.Systems.{System, all_asked, all_waits, asked}
use Rattle.snowcat_types.specs.Typings.{Each, Principal, decision, Decides, DecidesNothing, IsFirst, Reached, at_start, decided, by_default, IsTyping, NoTyping}
use Rattle.snowcat_rows.specs.Closing.{closing}
use Rattle.snowcat_types.proofs.Choices.{meet_left, meet_right, meet_append, none_reached}
use Rattle.snowcat_types.proofs.Joining.{Going, IsUnknown, kind_kept}
use Rattle.snowcat_types.specs.inner.Solved.{AllInside, AllSortedIn, Solved, SortedIn}

-- ---- rows without the names that stand before their variables: they say the same of all types

abbrev pub cut_slot : Bool → Slot → Slot
cut_slot b x = if b then none else x

abbrev pub cut : Fronts → Sub → Sub
cut l u = record { type_of = u.type_of; row_of = λ r. record { at = λ x. cut_slot (l r x) ((u.row_of r).at x); tail = (u.row_of r).tail } }

cut_front : (x y z : Slot) (b : Bool) → Present x b → z ≡ x → or_else z (cut_slot b y) ≡ or_else x y
cut_front none y z true p e = absurd (p refl)
cut_front none y z false p e = ap (λ w. or_else w y) e
cut_front (some t) y z b p e = ap (λ w. or_else w (cut_slot b y)) e

present_kept : (u : Sub) (x : Slot) (b : Bool) → Present x b → Present (apply_slot u x) b
present_kept u none b p = p
present_kept u (some t) b p = p

mutual
  pub cut_same : (l : Fronts) (u : Sub) (t : Term) → Sorted l t → apply (cut l u) t ≡ apply u t
  cut_same l u (var v) h = refl
  cut_same l u (con c) h = refl
  cut_same l u (app a b) h = λ i. app (cut_same l u a h.0 i) (cut_same l u b h.1 i)
  cut_same l u (fields f None) h = λ i. fields (λ x. or_else (cut_slot_same l u (f x) (h.0 x) i) none) None
  cut_same l u (fields f (Some r)) h =
      λ i. fields (λ x. cut_front (apply_slot u (f x)) ((u.row_of r).at x) (apply_slot (cut l u) (f x)) (l r x) (present_kept u (f x) (l r x) (h.1 r refl x)) (cut_slot_same l u (f x) (h.0 x)) i) (u.row_of r).tail

  cut_slot_same : (l : Fronts) (u : Sub) (x : Slot) → SortedSlot l x → apply_slot (cut l u) x ≡ apply_slot u x
  cut_slot_same l u none h = refl
  cut_slot_same l u (some t) h = ap some (cut_same l u t h)

pub cut_fits : (n : ℕ) (l : Fronts) (u : Sub) → Fits n l (cut l u)
cut_fits n l u r lt x e = ap (λ b. cut_slot b ((u.row_of r).at x)) e

pub cut_meets : (l : Fronts) (u : Sub) (q : Requirement) → SortedIn l q → Meets u q → Meets (cut l u) q
cut_meets l u (Equal a b) h e = cut_same l u a h.0 ∙ e ∙ sym (cut_same l u b h.1)
cut_meets l u (ItemOf t i b) h e = ap (λ z. item_at z i) (cut_same l u t h.0) ∙ e ∙ ap some (sym (cut_same l u b h.1))
cut_meets l u (FieldOf t x b) h e = ap (λ z. field_at z x) (cut_same l u t h.0) ∙ e ∙ ap some (sym (cut_same l u b h.1))
cut_meets l u (IsFormed k t) h e = ap kind (cut_same l u t h) ∙ e
cut_meets l u Never h e = e

pub cut_solves : (l : Fronts) (u : Sub) (qs : List Requirement) → AllSortedIn l qs → MeetAll u qs → MeetAll (cut l u) qs
cut_solves l u [] h e = tt
cut_solves l u (q ∷ qs) h e = (cut_meets l u q h.0 e.0, cut_solves l u qs h.1 e.1)

-- so what unification gives is most general among all
pub most_general : (n m : ℕ) (l k : Fronts) (rs : List Requirement) (s : Sub) → AllSortedIn l rs → Solved n m l k rs s → Principal n rs s
most_general n m l k rs s h g = record {
  meets = g.solves;
  general = λ u e.
      let to = g.general (cut l u) (cut_fits n l u) (cut_solves l u rs h e) in
      (to.extends.rest, λ v lt. to.agree.types v lt ∙ to.extends.types v (wider v lt g.more));
}
  where
    wider : (v : ℕ) → v < n → n ≤ m → v < m
    wider v lt le = omega arith

-- ---- decisions

pub decides_known : (n : ℕ) (rs : List Requirement) (s : Sub) (w : Wait) → Principal n rs s → IsUnknown n (deciding w) →
    (decision s w ≡ NotFormed → ⊥) → Decides rs w (decision s w)
decides_known n rs s w g (v, lt, e) h = (
  h,
  λ u k.
      let r = g.general u k in
      ap (λ t. kind (apply u t)) e ∙ ap kind (r.1 v lt) ∙ ap (λ t. kind (apply r.0 (apply s t))) (sym e) ∙ kind_kept r.0 (apply s (deciding w)) h,
)

pub decides_nothing : (n : ℕ) (rs : List Requirement) (s : Sub) (w : Wait) → Principal n rs s → decision s w ≡ NotFormed → DecidesNothing rs w
decides_nothing n rs s w g e k d = d.0 (sym (d.1 s g.meets) ∙ e)

pub decides_else : (rs qs : List Requirement) (w : Wait) (k : Kind) → ((u : Sub) → MeetAll u qs → MeetAll u rs) → Decides rs w k → Decides qs w k
decides_else rs qs w k f d = (d.0, λ u h. d.1 u (f u h))

pub nothing_else : (rs qs : List Requirement) (ws : List Wait) → ((u : Sub) → MeetAll u qs → MeetAll u rs) → Each (DecidesNothing qs) ws → Each (DecidesNothing rs) ws
nothing_else rs qs [] f d = tt
nothing_else rs qs (w ∷ ws) f d = (λ k e. d.0 k (decides_else rs qs w k f e), nothing_else rs qs ws f d.1)

nothing_known : (n : ℕ) (rs : List Requirement) (s : Sub) (ws : List Wait) → Principal n rs s → Each (λ w. decision s w ≡ NotFormed) ws → Each (DecidesNothing rs) ws
nothing_known n rs s [] g h = tt
nothing_known n rs s (w ∷ ws) g h = (decides_nothing n rs s w g h.0, nothing_known n rs s ws g h.1)

-- ---- the steps

pub going_none : (asked : List Requirement) (waits : List Wait) → Going asked waits asked waits []
going_none asked waits = record { rs = asked; reached = at_start; to_done = λ u h. h; from_done = λ u h. h }

-- both sides go on by the same requirements
pub both_more : (rs done qs : List Requirement) → ((u : Sub) → MeetAll u rs → MeetAll u done) → (u : Sub) → MeetAll u (rs ++ qs) → MeetAll u (done ++ qs)
both_more rs done qs f u h = meet_append u done qs (f u (meet_left u rs qs h)) (meet_right u rs qs h)

pub decide_step : (n : ℕ) (asked done : List Requirement) (waits earlier later ds : List Wait) (w : Wait) (s : Sub) →
    Going asked waits done (earlier ++ w ∷ later) ds → Principal n done s → IsUnknown n (deciding w) → (decision s w ≡ NotFormed → ⊥) →
    Going asked waits (done ++ choice w (decision s w)) (earlier ++ later) ds
decide_step n asked done waits earlier later ds w s g m v h = record {
  rs = g.rs ++ choice w (decision s w);
  reached = decided g.rs earlier later ds w (decision s w) g.reached (decides_else done g.rs w (decision s w) g.to_done (decides_known n done s w m v h));
  to_done = both_more g.rs done (choice w (decision s w)) g.to_done;
  from_done = both_more done g.rs (choice w (decision s w)) g.from_done;
}

pub default_step : (n : ℕ) (asked done : List Requirement) (waits earlier later ds : List Wait) (w : Wait) (s : Sub) →
    Going asked waits done (earlier ++ w ∷ later) ds → Principal n done s → Each (λ u. decision s u ≡ NotFormed) (earlier ++ w ∷ later) →
    IsFirst earlier w later → Going asked waits (done ++ choice w (default_kind w)) (earlier ++ later) (ds ++ w ∷ [])
default_step n asked done waits earlier later ds w s g m h i = record {
  rs = g.rs ++ choice w (default_kind w);
  reached = by_default g.rs earlier later ds w g.reached (nothing_else g.rs done (earlier ++ w ∷ later) g.from_done (nothing_known n done s (earlier ++ w ∷ later) m h)) i;
  to_done = both_more g.rs done (choice w (default_kind w)) g.to_done;
  from_done = both_more done g.rs (choice w (default_kind w)) g.from_done;
}

-- ---- a visit: more is asked, and more nodes wait, before the first default

record Later (asked more : List Requirement) (waits : List Wait) (rs : List Requirement) (ws : List Wait) : Type 0 where
  pub qs : List Requirement
  pub reached : Reached (asked ++ more) waits qs ws []
  pub from_both : (u : Sub) → MeetAll u rs → MeetAll u more → MeetAll u qs
  pub to_first : (u : Sub) → MeetAll u qs → MeetAll u rs
  pub to_second : (u : Sub) → MeetAll u qs → MeetAll u more

not_snoc : (ds : List Wait) (w : Wait) → ds ++ w ∷ [] ≡ [] → ⊥
not_snoc [] w e = absurd (cc)
not_snoc (d ∷ ds) w e = absurd (cc)

visited : (asked more : List Requirement) (waits new : List Wait) (rs : List Requirement) (ws ds : List Wait) → Reached asked waits rs ws ds → ds ≡ [] →
    Later asked more (waits ++ new) rs (ws ++ new)
visited asked more waits new rs ws ds at_start e = record {
  qs = asked ++ more;
  reached = at_start;
  from_both = λ u h k. meet_append u asked more h k;
  to_first = λ u h. meet_left u asked more h;
  to_second = λ u h. meet_right u asked more h;
}
visited asked more waits new rs ws ds (decided ps earlier later es w k r d) e =
    let one : Later asked more (waits ++ new) ps ((earlier ++ w ∷ later) ++ new) = visited asked more waits new ps (earlier ++ w ∷ later) es r e in
    let P : List Wait → Type 0 = λ z. Reached (asked ++ more) (waits ++ new) one.qs z [] in
    let Q : List Wait → Type 0 = λ z. Reached (asked ++ more) (waits ++ new) (one.qs ++ choice w k) z [] in
    record {
      qs = one.qs ++ choice w k;
      reached = subst Q (sym (append_assoc earlier later new))
          (decided one.qs earlier (later ++ new) [] w k (subst P (append_assoc earlier (w ∷ later) new) one.reached) (decides_else ps one.qs w k one.to_first d));
      from_both = λ u h m. meet_append u one.qs (choice w k) (one.from_both u (meet_left u ps (choice w k) h) m) (meet_right u ps (choice w k) h);
      to_first = λ u h. meet_append u ps (choice w k) (one.to_first u (meet_left u one.qs (choice w k) h)) (meet_right u one.qs (choice w k) h);
      to_second = λ u h. one.to_second u (meet_left u one.qs (choice w k) h);
    }
visited asked more waits new rs ws ds (by_default ps earlier later es w r n i) e = absurd (not_snoc es w e)

pub visit_step : (asked more done : List Requirement) (waits new ws : List Wait) → Going asked waits done ws [] →
    Going (asked ++ more) (waits ++ new) (done ++ more) (ws ++ new) []
visit_step asked more done waits new ws g =
    let l : Later asked more (waits ++ new) g.rs (ws ++ new) = visited asked more waits new g.rs ws [] g.reached refl in
    record {
      rs = l.qs;
      reached = l.reached;
      to_done = λ u h. meet_append u done more (g.to_done u (l.to_first u h)) (l.to_second u h);
      from_done = λ u h. l.from_both u (g.from_done u (meet_left u done more h)) (meet_right u done more h);
    }

-- ---- the end

pub is_typing : (system : System) (done : List Requirement) (ds : List Wait) (s : Sub) → Going (all_asked system) (all_waits system) done [] ds →
    Principal system.count done s →
    IsTyping system (map (apply (then_sub closing s)) system.names) (map (map (apply (then_sub closing s))) system.parts) ds
is_typing system done ds s g m = record {
  all = g.rs;
  reached = g.reached;
  last = s;
  principal = record { meets = g.from_done s m.meets; general = λ u h. m.general u (g.to_done u h) };
  names_are = refl;
  parts_are = refl;
}

-- ---- a clash

pub no_typing : (system : System) (done : List Requirement) (ws ds : List Wait) → Going (all_asked system) (all_waits system) done ws ds →
    ((u : Sub) → MeetAll u done → ⊥) → NoTyping system ds
no_typing system done ws ds g n = none_reached system g.rs ws ds g.reached (λ u h. n u (g.to_done u h))

-- two types that unification finds apart are equal in no solution
pub never_same : (n m : ℕ) (l k : Fronts) (rs : List Requirement) (s : Sub) (a b : Term) → AllInside n rs → AllSortedIn l rs → Within n a → Within n b →
    Sorted l a → Sorted l b → Solved n m l k rs s → Apart m k s a b → (u : Sub) → MeetAll u (rs ++ Equal a b ∷ []) → ⊥
never_same n m l k rs s a b wr sr wa wb sa sb g apart u h =
    let c = cut l u in
    let to = g.general c (cut_fits n l u) (cut_solves l u rs sr (meet_left u rs (Equal a b ∷ []) h)) in
    let e = (meet_right u rs (Equal a b ∷ []) h).0 in
    apart to.to to.fits to.extends (sym (apply_agree n c to.to a to.agree wa) ∙ cut_same l u a sa ∙ e ∙ sym (cut_same l u b sb) ∙ apply_agree n c to.to b to.agree wb)
