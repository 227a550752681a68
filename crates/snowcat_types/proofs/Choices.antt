-- Choices that were made are forced, and a typing makes one for each node.
use Rattle.std.proofs.Common.{◌≡◌, ℕ, zero, suc, ◌⊎◌, inl, inr, List, [], ◌∷◌, ◌++◌, refl, ap, sym, ◌∙◌, subst, pos}
use Rattle.std.proofs.lemmas.Bool.Decides.{eqb_tells}
use Rattle.snowcat_rows.specs.Types.{Term, var, con, app, fields, some, TupHead}
use Rattle.snowcat_rows.specs.Substitutions.{Sub, apply}
use Rattle.snowcat_types.specs.declared.waiting.Wait.TheVariants as wait
use Rattle.snowcat_types.specs.declared.waiting.Wait.{Wait}
use Rattle.snowcat_types.specs.declared.waiting.Index.TheVariants.{Number, Word}
use Rattle.snowcat_types.specs.declared.kinds.Kind.{Kind}
use Rattle.snowcat_types.specs.declared.kinds.Kind.TheVariants.{NotFormed, Function, Sequence, Tuple as TupleKind, Record as RecordKind, Other}
use Rattle.snowcat_types.specs.Requirements.{kind, Requirement, item_at, field_at, MeetAll}
use Rattle.snowcat_types.specs.Waiting.{choice, default_kind}
use Rattle.snowcat_types.specs.Systems.{System, all_asked, all_waits, asked}
use Rattle.snowcat_types.specs.Typings.{Each, decision, Reached, at_start, decided, by_default, IsTyping, Fulfils, NoTyping}

pub meet_left : (s : Sub) (rs qs : List Requirement) → MeetAll s (rs ++ qs) → MeetAll s rs
meet_left s [] qs h = tt
meet_left s (r ∷ rs) qs h = (h.0, meet_left s rs qs h.1)

pub meet_right : (s : Sub) (rs qs : List Requirement) → MeetAll s (rs ++ qs) → MeetAll s qs
meet_right s [] qs h = h
meet_right s (r ∷ rs) qs h = meet_right s rs qs h.1

pub meet_append : (s : Sub) (rs qs : List Requirement) → MeetAll s rs → MeetAll s qs → MeetAll s (rs ++ qs)
meet_append s [] qs h k = k
meet_append s (r ∷ rs) qs h k = (h.0, meet_append s rs qs h.1 k)

-- ---- a choice tells how the deciding type is formed

item_kind : (t : Term) (n : ℕ) (u : Term) → item_at t n ≡ some u → kind t ≡ TupleKind
item_kind (app (con TupHead) r) n u e = refl
item_kind t n u e = absurd (cc)

field_kind : (t : Term) (x : List ℕ) (u : Term) → field_at t x ≡ some u → kind t ≡ RecordKind
field_kind (fields f k) x u e = refl
field_kind t x u e = absurd (cc)

pub choice_kind : (s : Sub) (w : Wait) (k : Kind) → MeetAll s (choice w k) → decision s w ≡ k
choice_kind s (wait.Apply p f i t x) Function h = ap kind h.0
choice_kind s (wait.Apply p f i t x) Sequence h = ap kind h.0
choice_kind s (wait.Apply p f i t (Number (pos n))) TupleKind h = item_kind (apply s (var f)) n (apply s (var t)) h.0
choice_kind s (wait.Apply p f i t (Word x)) RecordKind h = field_kind (apply s (var f)) x (apply s (var t)) h.0
choice_kind s (wait.Domain p f t x y) Function h = ap kind h.0
choice_kind s (wait.Domain p f t x y) Sequence h = h.0
choice_kind s (wait.Domain p f t x y) TupleKind h = h.0
choice_kind s (wait.Domain p f t x y) RecordKind h = h.0
choice_kind s (wait.Tuple p t x i n) TupleKind h = ap kind h.0
choice_kind s (wait.Tuple p t x i n) Sequence h = ap kind h.0
choice_kind s w k h = absurd h.0

-- ---- kinds are told apart

code_of : Kind → ℕ
code_of NotFormed = 0
code_of Function = 1
code_of Sequence = 2
code_of TupleKind = 3
code_of RecordKind = 4
code_of Other = 5

kind_at : ℕ → Kind
kind_at zero = NotFormed
kind_at (suc zero) = Function
kind_at (suc (suc zero)) = Sequence
kind_at (suc (suc (suc zero))) = TupleKind
kind_at (suc (suc (suc (suc zero)))) = RecordKind
kind_at n = Other

at_code : (k : Kind) → kind_at (code_of k) ≡ k
unfolding kind_at code_of
at_code NotFormed = refl
at_code Function = refl
at_code Sequence = refl
at_code TupleKind = refl
at_code RecordKind = refl
at_code Other = refl

pub same_or_not : (a b : Kind) → (a ≡ b) ⊎ (a ≡ b → ⊥)
same_or_not a b =
    elim (eqb_tells (code_of a) (code_of b)) [
      | inl h ↦ inl (sym (at_code a) ∙ ap kind_at h.1 ∙ at_code b)
      | inr h ↦ inr (λ e. h.1 (ap code_of e))
    ]

-- ---- lists of waiting nodes

pub all_at : (P : Wait → Type 0) (xs ys : List Wait) (w : Wait) → Each P (xs ++ w ∷ ys) → P w × Each P (xs ++ ys)
all_at P [] ys w h = h
all_at P (x ∷ xs) ys w h = let k = all_at P xs ys w h.1 in (k.0, (h.0, k.1))

pub all_put : (P : Wait → Type 0) (xs ys : List Wait) (w : Wait) → P w → Each P (xs ++ ys) → Each P (xs ++ w ∷ ys)
all_put P [] ys w p h = (p, h)
all_put P (x ∷ xs) ys w p h = (h.0, all_put P xs ys w p h.1)

pub all_left : (P : Wait → Type 0) (xs ys : List Wait) → Each P (xs ++ ys) → Each P xs
all_left P [] ys h = tt
all_left P (x ∷ xs) ys h = (h.0, all_left P xs ys h.1)

pub all_right : (P : Wait → Type 0) (xs ys : List Wait) → Each P (xs ++ ys) → Each P ys
all_right P [] ys h = h
all_right P (x ∷ xs) ys h = all_right P xs ys h.1

abbrev pub Listed : List Wait → Wait → Type 0
Listed [] w = ⊥
Listed (u ∷ us) w = (u ≡ w) ⊎ Listed us w

not_listed : (us : List Wait) (w : Wait) → Each (λ u. u ≡ w → ⊥) us → Listed us w → ⊥
not_listed [] w h l = l
not_listed (u ∷ us) w h (inl e) = h.0 e
not_listed (u ∷ us) w h (inr l) = not_listed us w h.1 l

-- ---- what is reached holds in all types that meet what is asked, with the defaults of the listed nodes

a_choice : (s : Sub) (listed : List Wait) (w : Wait) (k : Kind) → decision s w ≡ k → Fulfils s listed w → MeetAll s (choice w k)
a_choice s listed w k e (inl h) =
    let P : Kind → Type 0 = λ j. MeetAll s (choice w j) in subst P (sym (choice_kind s w (default_kind w) h) ∙ e) h
a_choice s listed w k e (inr (j, h, n)) =
    let P : Kind → Type 0 = λ j. MeetAll s (choice w j) in subst P (sym (choice_kind s w j h) ∙ e) h

a_default : (s : Sub) (listed : List Wait) (w : Wait) → Listed listed w → Fulfils s listed w → MeetAll s (choice w (default_kind w))
a_default s listed w l (inl h) = h
a_default s listed w l (inr (j, h, n)) = absurd (not_listed listed w n l)

module _ (s : Sub) (listed : List Wait) (asked : List Requirement) (waits : List Wait) (ha : MeetAll s asked) (hw : Each (Fulfils s listed) waits) where
  pub forced : (rs : List Requirement) (ws ds : List Wait) → Reached asked waits rs ws ds → Each (Listed listed) ds → MeetAll s rs × Each (Fulfils s listed) ws
  forced rs ws ds at_start l = (ha, hw)
  forced rs ws ds (decided qs earlier later es w k r d) l =
      let h : MeetAll s qs × Each (Fulfils s listed) (earlier ++ w ∷ later) = forced qs (earlier ++ w ∷ later) es r l in
      let f : Fulfils s listed w × Each (Fulfils s listed) (earlier ++ later) = all_at (Fulfils s listed) earlier later w h.1 in
      (meet_append s qs (choice w k) h.0 (a_choice s listed w k (d.1 s h.0) f.0), f.1)
  forced rs ws ds (by_default qs earlier later es w r n i) l =
      let h : MeetAll s qs × Each (Fulfils s listed) (earlier ++ w ∷ later) = forced qs (earlier ++ w ∷ later) es r (all_left (Listed listed) es (w ∷ []) l) in
      let f : Fulfils s listed w × Each (Fulfils s listed) (earlier ++ later) = all_at (Fulfils s listed) earlier later w h.1 in
      (meet_append s qs (choice w (default_kind w)) h.0 (a_default s listed w (all_right (Listed listed) es (w ∷ []) l).0 f.0), f.1)

-- where what is reached has no solution, there is no typing with these defaults
listed_all : (us vs : List Wait) → ((w : Wait) → Listed us w → Listed vs w) → Each (Listed vs) us
listed_all [] vs f = tt
listed_all (u ∷ us) vs f = (f u (inl refl), listed_all us vs (λ w l. f w (inr l)))

pub none_reached : (system : System) (rs : List Requirement) (ws ds : List Wait) → Reached (all_asked system) (all_waits system) rs ws ds →
    ((s : Sub) → MeetAll s rs → ⊥) → NoTyping system ds
none_reached system rs ws ds r n s ha hw = n s (forced s ds (all_asked system) (all_waits system) ha hw rs ws ds r (listed_all ds ds (λ w l. l))).0

-- ---- a typing makes a choice for each node

abbrev pub HasChoice : Sub → Wait → Type 0
HasChoice s w = (k : Kind) × MeetAll s (choice w k)

pub choices_made : (s : Sub) (asked : List Requirement) (waits : List Wait) (rs : List Requirement) (ws ds : List Wait) →
    Reached asked waits rs ws ds → MeetAll s rs → Each (HasChoice s) ws → MeetAll s asked × Each (HasChoice s) waits
choices_made s asked waits rs ws ds at_start h c = (h, c)
choices_made s asked waits rs ws ds (decided qs earlier later es w k r d) h c =
    choices_made s asked waits qs (earlier ++ w ∷ later) es r (meet_left s qs (choice w k) h)
    (all_put (HasChoice s) earlier later w (k, meet_right s qs (choice w k) h) c)
choices_made s asked waits rs ws ds (by_default qs earlier later es w r n i) h c =
    choices_made s asked waits qs (earlier ++ w ∷ later) es r (meet_left s qs (choice w (default_kind w)) h)
    (all_put (HasChoice s) earlier later w (default_kind w, meet_right s qs (choice w (default_kind w)) h) c)

pub defaults_made : (s : Sub) (asked : List Requirement) (waits : List Wait) (rs : List Requirement) (ws ds : List Wait) →
    Reached asked waits rs ws ds → MeetAll s rs → Each (λ w. MeetAll s (choice w (default_kind w))) ds
defaults_made s asked waits rs ws ds at_start h = tt
defaults_made s asked waits rs ws ds (decided qs earlier later es w k r d) h =
    defaults_made s asked waits qs (earlier ++ w ∷ later) es r (meet_left s qs (choice w k) h)
defaults_made s asked waits rs ws ds (by_default qs earlier later es w r n i) h =
    snoc es (defaults_made s asked waits qs (earlier ++ w ∷ later) es r (meet_left s qs (choice w (default_kind w)) h))
  where
    snoc : (us : List Wait) → Each (λ u. MeetAll s (choice u (default_kind u))) us → Each (λ u. MeetAll s (choice u (default_kind u))) (us ++ w ∷ [])
    snoc [] a = (meet_right s qs (choice w (default_kind w)) h, tt)
    snoc (u ∷ us) a = (a.0, snoc us a.1)

fulfils_all : (s : Sub) (listed ws : List Wait) → Each (λ w. MeetAll s (choice w (default_kind w))) listed → Each (HasChoice s) ws → Each (Fulfils s listed) ws
fulfils_all s listed [] d c = tt
fulfils_all s listed (w ∷ ws) d (c, cs) = (one (same_or_not c.0 (default_kind w)), fulfils_all s listed ws d cs)
  where
    apart : (us : List Wait) → Each (λ u. MeetAll s (choice u (default_kind u))) us → (c.0 ≡ default_kind w → ⊥) → Each (λ u. u ≡ w → ⊥) us
    apart [] a n = tt
    apart (u ∷ us) a n = (
      λ e. n (sym (choice_kind s w c.0 c.1) ∙ (let P : Wait → Type 0 = λ x. decision s x ≡ default_kind x in subst P e (choice_kind s u (default_kind u) a.0))),
      apart us a.1 n,
    )

    one : (c.0 ≡ default_kind w) ⊎ (c.0 ≡ default_kind w → ⊥) → Fulfils s listed w
    one (inl e) = inl (let P : Kind → Type 0 = λ j. MeetAll s (choice w j) in subst P e c.1)
    one (inr n) = inr (c.0, c.1, apart listed d n)

-- so where there is no typing with defaults, each typing has another choice for one of them
pub typing_or_none : (system : System) (names : List Term) (parts : List (List Term)) (ds : List Wait) → (t : IsTyping system names parts ds) → (listed : List Wait) →
    Each (λ w. MeetAll t.last (choice w (default_kind w))) listed → NoTyping system listed → ⊥
typing_or_none system names parts ds t listed d no_typing =
    let c = choices_made t.last (all_asked system) (all_waits system) t.all [] ds t.reached t.principal.meets tt in
    no_typing t.last c.0 (fulfils_all t.last listed (all_waits system) d c.1)

-- of the nodes that took their default in it
pub typing_has_defaults : (system : System) (names : List Term) (parts : List (List Term)) (ds : List Wait) → IsTyping system names parts ds → NoTyping system ds → ⊥
typing_has_defaults system names parts ds t =
    typing_or_none system names parts ds t ds (defaults_made t.last (all_asked system) (all_waits system) t.all [] ds t.reached t.principal.meets)
