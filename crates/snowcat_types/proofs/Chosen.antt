-- What a choice asks is met besides, or what decides clashes with its default.
use Rattle.std.proofs.Common.{◌≡◌, ℕ, zero, suc, ◌+◌, ◌<◌, inl, inr, Bool, true, ◌&&◌, List, [], ◌∷◌, ◌++◌, map, refl, ap, sym, ◌∙◌, subst, arith, pos, negsuc}
use Rattle.std.specs.Prelude.{Result, Ok, Err}
use Rattle.std.specs.List.{list_all}
use Rattle.snowcat_rows.specs.declared.substitution.Subst.{Subst}
use Rattle.snowcat_rows.specs.declared.substitution.UnifyFault.{UnifyFault}
use Rattle.snowcat_rows.specs.declared.substitution.UnifyFault.TheVariants.{Clash, Memory}
use Rattle.snowcat_rows.specs.declared.types.Ty.{Ty, Tup, out-Ty, roll-Ty, out-roll-Ty, roll-out-Ty}
use Rattle.snowcat_rows.specs.declared.types.Ty.TheVariants.{outs-Tup}
use Rattle.snowcat_rows.specs.declared.types.Ty.TheOpen as layer
use Rattle.snowcat_rows.specs.declared.types.Ty.TheFolds.{ind-Ty, map-Ty}
use Rattle.snowcat_rows.specs.FieldNames.{names_differ, differ_layer}
use Rattle.snowcat_rows.specs.Types.{Term, app, con, fields, mean, mean_layer, row, var}
use Rattle.snowcat_rows.specs.Substitutions.{Fronts, Sorted, Sub, apply}
use Rattle.snowcat_rows.specs.Sorting.{Within}
use Rattle.snowcat_rows.specs.Views.{issued_of, kept_by, stands_for}
use Rattle.snowcat_rows.proofs.Means.{mean_out}
use Rattle.snowcat_rows.proofs.Naming.{differ_out}
use Rattle.snowcat_types.specs.declared.gathered.Requirement.{Requirement as BuiltRequirement}
use Rattle.snowcat_types.specs.declared.gathered.Requirement.TheVariants as built
use Rattle.snowcat_types.specs.declared.waiting.Index.TheVariants.{Number, Word, NoLiteral}
use Rattle.snowcat_types.specs.declared.kinds.Kind.{Kind}
use Rattle.snowcat_types.specs.declared.kinds.Kind.TheVariants.{NotFormed, Tuple as TupleKind, Other}
use Rattle.snowcat_types.specs.declared.waiting.Wait.{Wait}
use Rattle.snowcat_types.specs.declared.waiting.Wait.TheVariants as wait
use Rattle.snowcat_types.specs.Requirements.{kind, Requirement, Equal, IsFormed, Never, MeetAll}
use Rattle.snowcat_types.specs.Systems.{Entry, Asks, Waits}
use Rattle.snowcat_types.specs.Typings.{decision}
use Rattle.snowcat_types.specs.TypeForms.{tuple_type}
use Rattle.snowcat_types.specs.Waiting.{choice, deciding, default_kind, default_type, items_from}
use Rattle.snowcat_types.specs.inner.Gathered.{AllNamedIn, requirements_of}
use Rattle.snowcat_types.specs.inner.Solved.{AllInside, AllSortedIn, AllSuit, AreEquations, AreOf, Excludes, IsDue, IsElse, IsMet, IsSolved, NeverMet, OfUnknowns, Tries, WaitInside}
use Rattle.snowcat_types.proofs.Asked.{are_append, front_tried, one_tried}
use Rattle.snowcat_types.proofs.Choices.{meet_left, meet_right}
use Rattle.snowcat_types.proofs.FieldMet.{of_var}
use Rattle.snowcat_types.proofs.Joining.{formed_more, kind_kept}
use Rattle.snowcat_types.proofs.Running.{most_general}

-- ---- types of unknown types, without records

pub unknowns_within : (n : ℕ) (t : Term) → OfUnknowns n t → Within n t
unknowns_within n (var v) h = of_var n v h
unknowns_within n (con c) h = λ v o. absurd o
unknowns_within n (app a b) h = λ v o. elim o [ inl k ↦ unknowns_within n a h.0 v k | inr k ↦ unknowns_within n b h.1 v k ]
unknowns_within n (fields f k) h = absurd h

unknowns_sorted : (n : ℕ) (l : Fronts) (t : Term) → OfUnknowns n t → Sorted l t
unknowns_sorted n l (var v) h = tt
unknowns_sorted n l (con c) h = tt
unknowns_sorted n l (app a b) h = (unknowns_sorted n l a h.0, unknowns_sorted n l b h.1)
unknowns_sorted n l (fields f k) h = absurd h

-- their records have no two fields of one name
abbrev Claim : Ty → Type 0
Claim t = (n : ℕ) → OfUnknowns n (mean t) → names_differ t ≡ true

abbrev Such : Type 0
Such = (t : Ty) × Claim t

abbrev plain : Such → Ty
plain e = e.0

both : (a b : Bool) → a ≡ true → b ≡ true → (a && b) ≡ true
both a b e h = rw e h

all_named : (n : ℕ) (ts : List Such) → OfUnknowns n (row (map mean (map plain ts))) → list_all (λ b. b) (map names_differ (map plain ts)) ≡ true
all_named n [] h = refl
all_named n (t ∷ ts) h = both (names_differ t.0) (list_all (λ b. b) (map names_differ (map plain ts))) (t.1 n h.0) (all_named n ts h.1)

named_at : (n : ℕ) (y : layer.Ty-F Such) → OfUnknowns n (mean_layer (map-Ty Ty Term mean (map-Ty Such Ty plain y))) →
    differ_layer (map-Ty Ty Bool names_differ (map-Ty Such Ty plain y)) ≡ true
named_at n layer.Bool h = refl
named_at n layer.Int h = refl
named_at n layer.Str h = refl
named_at n (layer.Named x) h = refl
named_at n (layer.Var v) h = refl
named_at n (layer.Set a) h = a.1 n h.1
named_at n (layer.Seq a) h = a.1 n h.1
named_at n (layer.Fun a b) h = both (names_differ a.0) (names_differ b.0) (a.1 n h.1.0) (b.1 n h.1.1)
named_at n (layer.Tup ts) h = all_named n ts h.1
named_at n (layer.Rec fs k) h = absurd h
named_at n (layer.Oper ts b) h = both (list_all (λ c. c) (map names_differ (map plain ts))) (names_differ b.0) (all_named n ts h.1.0) (b.1 n h.1.1)

all_claims : (t : Ty) → Claim t
all_claims = ind-Ty Claim (λ x y is. λ n h.
    let o : out-Ty (roll-Ty x) ≡ map-Ty Such Ty plain y = out-roll-Ty x ∙ sym is in
    let there : mean (roll-Ty x) ≡ mean_layer (map-Ty Ty Term mean (map-Ty Such Ty plain y)) = mean_out (roll-Ty x) ∙ ap (λ z. mean_layer (map-Ty Ty Term mean z)) o in
    let names : names_differ (roll-Ty x) ≡ differ_layer (map-Ty Ty Bool names_differ (map-Ty Such Ty plain y)) =
    differ_out (roll-Ty x) ∙ ap (λ z. differ_layer (map-Ty Ty Bool names_differ z)) o in
    let P : Term → Type 0 = λ z. OfUnknowns n z in
    names ∙ named_at n y (subst P there h))

pub unknowns_named : (n : ℕ) (t : Ty) → OfUnknowns n (mean t) → names_differ t ≡ true
unknowns_named n t h = all_claims t n h

-- ---- equations

pub equations_inside : (n : ℕ) (qs : List Requirement) → AreEquations n qs → AllInside n qs
equations_inside n [] h = tt
equations_inside n (Equal a b ∷ qs) h = (((unknowns_within n a h.0.0, unknowns_within n b h.0.1), tt), equations_inside n qs h.1)
equations_inside n (q ∷ qs) h = absurd h

equations_sorted : (n : ℕ) (l : Fronts) (qs : List Requirement) → AreEquations n qs → AllSortedIn l qs
equations_sorted n l [] h = tt
equations_sorted n l (Equal a b ∷ qs) h = ((unknowns_sorted n l a h.0.0, unknowns_sorted n l b h.0.1), equations_sorted n l qs h.1)
equations_sorted n l (q ∷ qs) h = absurd h

pub equations_are : (n : ℕ) (l : Fronts) (qs : List Requirement) → AreEquations n qs → AreOf n l qs
equations_are n l qs h = record { inside = equations_inside n qs h; sorted = equations_sorted n l qs h }

pub equations_suit : (n : ℕ) (e : Entry) (qs : List Requirement) → AreEquations n qs → AllSuit e qs
equations_suit n e [] h = tt
equations_suit n (Asks p rs) (Equal a b ∷ qs) h = (tt, equations_suit n (Asks p rs) qs h.1)
equations_suit n (Waits w) (Equal a b ∷ qs) h = (tt, equations_suit n (Waits w) qs h.1)
equations_suit n e (q ∷ qs) h = absurd h

pub equations_named : (n : ℕ) (bs : List BuiltRequirement) → AreEquations n (requirements_of bs) → AllNamedIn bs
equations_named n [] h = tt
equations_named n (built.Equal a b ∷ bs) h = ((unknowns_named n a h.0.0, unknowns_named n b h.0.1), equations_named n bs h.1)
equations_named n (built.FieldOf t f u ∷ bs) h = absurd h

-- ---- no choice fits

items_below : (n i m : ℕ) → ((j : ℕ) → j < m → i + j < n) → OfUnknowns n (row (items_from i m))
items_below n i zero h = tt
items_below n i (suc m) h = (
  (let e = h 0 (omega arith) in omega (arith, e)),
  items_below n (i + 1) m (λ j lt. let e = h (suc j) (omega (arith, lt)) in omega (arith, e)),
)

pub tuple_below : (n i m : ℕ) → ((j : ℕ) → j < m → i + j < n) → OfUnknowns n (tuple_type (items_from i m))
tuple_below n i m h = (tt, items_below n i m h)

pub decider_below : (n : ℕ) (w : Wait) → WaitInside n w → OfUnknowns n (deciding w)
decider_below n (wait.Apply p f i t x) h = h.0
decider_below n (wait.Domain p f t x y) h = h.0
decider_below n (wait.Tuple p t x i m) h = h.0

pub default_below : (n : ℕ) (w : Wait) → WaitInside n w → OfUnknowns n (default_type w)
default_below n (wait.Apply p f i t x) h = (tt, (h.1.0, h.1.1))
default_below n (wait.Domain p f t x y) h = (tt, (h.1.1.0, h.1.1.1))
default_below n (wait.Tuple p t x i m) h = tuple_below n i m h.1.1

pub default_formed : (u : Sub) (w : Wait) → kind (apply u (default_type w)) ≡ default_kind w
default_formed u (wait.Apply p f i t x) = refl
default_formed u (wait.Domain p f t x y) = refl
default_formed u (wait.Tuple p t x i m) = refl

module _ (n : ℕ) (l : Fronts) (rs : List Requirement) (s : Subst) (w : Wait) (h : IsSolved n l rs s) (f : AreOf n l rs) (i : WaitInside n w) where
  -- in each solution something is put into what decides
  pub decider_in : (u : Sub) → MeetAll u rs → (r : Sub) × (apply u (deciding w) ≡ apply r (apply (stands_for s) (deciding w)))
  decider_in u m =
      let g = (most_general n (issued_of s) l h.fronts rs (stands_for s) f.sorted h.solved).general u m in
      (g.0, of_decider w i g.0 g.1)
    where
      of_decider : (w : Wait) → WaitInside n w → (r : Sub) → ((v : ℕ) → v < n → u.type_of v ≡ apply r ((stands_for s).type_of v)) → apply u (deciding w) ≡ apply r (apply (stands_for s) (deciding w))
      of_decider (wait.Apply p f i t x) j r g = g f j.0
      of_decider (wait.Domain p f t x y) j r g = g f j.0
      of_decider (wait.Tuple p t x i m) j r g = g t j.0

  not_default : IsElse (stands_for s) w → NeverMet rs (Equal (deciding w) (default_type w))
  not_default e u m =
      let d = decider_in u (meet_left u rs (Equal (deciding w) (default_type w) ∷ []) m) in
      e.1 (sym (kind_kept d.0 (apply (stands_for s) (deciding w)) e.0) ∙ ap kind (sym d.1) ∙ ap kind (meet_right u rs (Equal (deciding w) (default_type w) ∷ []) m).0 ∙ default_formed u w)

  excluded : IsElse (stands_for s) w → (t : Subst) (r : Result (Unit {0}) UnifyFault) → IsMet n l rs (Equal (deciding w) (default_type w)) (kept_by s) (deciding w) (default_type w) t r →
      (q : Requirement) → NeverMet rs q → IsMet n l rs q (kept_by s) (deciding w) (default_type w) t r
  excluded e t (Ok u) m q never = absurd (not_default e (stands_for t) m.solved.solves)
  excluded e t (Err (Clash x y)) m q never = record {
    principal = m.principal;
    none = never;
    issued = m.issued;
    more = m.more;
    is_issued = m.is_issued;
    fronts = m.fronts;
    sorted = m.sorted;
    unmade = m.unmade;
  }
  excluded e t (Err (Memory x)) m q never = tt

-- where what decides cannot be its default, the two clash
pub refused_by : (w : Wait) (s t : Subst) (r : Result (Unit {0}) UnifyFault) (a b : Term) → a ≡ deciding w → b ≡ default_type w → IsElse (stands_for s) w →
    ((n : ℕ) (l : Fronts) (rs : List Requirement) → IsSolved n l rs s → AreOf n l rs → AreOf n l (Equal a b ∷ []) → IsMet n l rs (Equal a b) (kept_by s) a b t r) →
    Excludes w s t r
refused_by w s t r a b p q e met n l rs o h f i never =
    let P : Term → Type 0 = λ z. AreOf n l (Equal z b ∷ []) → IsMet n l rs (Equal z b) (kept_by s) z b t r in
    let Q : Term → Type 0 = λ z. AreOf n l (Equal (deciding w) z ∷ []) → IsMet n l rs (Equal (deciding w) z) (kept_by s) (deciding w) z t r in
    excluded n l rs s w h f i e t r (subst Q q (subst P p (met n l rs h f)) (equations_are n l (Equal (deciding w) (default_type w) ∷ []) ((decider_below n w i, default_below n w i), tt))) o never

pub never_tried : (w : Wait) (s t : Subst) (r : Result (Unit {0}) UnifyFault) → Excludes w s t r → Tries w (Never ∷ []) s t r
never_tried w s t r out n l rs h f i =
    one_tried n l rs (Waits w) Never (kept_by s) (deciding w) (default_type w) t r (refl, refl) (out n l rs Never h f i (λ u m. (meet_right u rs (Never ∷ []) m).0))

pub refused_within : (n : ℕ) (w : Wait) (a b : Ty) → mean a ≡ deciding w → mean b ≡ default_type w → WaitInside n w → Within n (mean a) × Within n (mean b)
refused_within n w a b p q i =
    let P : Term → Type 0 = λ z. Within n z in
    (subst P (sym p) (unknowns_within n (deciding w) (decider_below n w i)), subst P (sym q) (unknowns_within n (default_type w) (default_below n w i)))

pub refused_named : (n : ℕ) (w : Wait) (a b : Ty) → mean a ≡ deciding w → mean b ≡ default_type w → WaitInside n w → (names_differ a ≡ true) × (names_differ b ≡ true)
refused_named n w a b p q i =
    let P : Term → Type 0 = λ z. OfUnknowns n z in
    (unknowns_named n a (subst P (sym p) (decider_below n w i)), unknowns_named n b (subst P (sym q) (default_below n w i)))

pub never_chosen : {w v : Wait} (k : Kind) (s t : Subst) (r : Result (Unit {0}) UnifyFault) → w ≡ v → choice v k ≡ Never ∷ [] → Excludes w s t r → Tries w (choice w k) s t r
never_chosen {w = w} k s t r e h out =
    let P : List Requirement → Type 0 = λ z. Tries w z s t r in subst P (sym (ap (λ z. choice z k) e ∙ h)) (never_tried w s t r out)

pub other_never : (w : Wait) → choice w Other ≡ Never ∷ []
other_never (wait.Apply p f i t (Number (pos n))) = refl
other_never (wait.Apply p f i t (Number (negsuc n))) = refl
other_never (wait.Apply p f i t (Word x)) = refl
other_never (wait.Apply p f i t NoLiteral) = refl
other_never (wait.Domain p f t x y) = refl
other_never (wait.Tuple p t x i m) = refl

-- ---- which choice is due

pub else_due : (s : Sub) (w : Wait) (k : Kind) → (k ≡ default_kind w → ⊥) → IsDue s w k → IsElse s w
else_due s w k n (inl h) = (λ e. h.1 (sym h.0 ∙ e), λ e. n (sym h.0 ∙ e))
else_due s w k n (inr e) = absurd (n e)

pub known_due : (s : Sub) (w : Wait) (k : Kind) → (k ≡ default_kind w → ⊥) → IsDue s w k → decision s w ≡ k
known_due s w k n (inl h) = h.0
known_due s w k n (inr e) = absurd (n e)

-- ---- what is known asks nothing

pub formed_tried : (w : Wait) (k : Kind) (qs : List Requirement) (s t : Subst) (r : Result (Unit {0}) UnifyFault) → decision (stands_for s) w ≡ k → (k ≡ NotFormed → ⊥) →
    Tries w qs s t r → Tries w (IsFormed k (deciding w) ∷ qs) s t r
formed_tried w k qs s t r e f tries n l rs h g i =
    front_tried n l rs (IsFormed k (deciding w) ∷ []) (Waits w) qs t r
    (tries n l (rs ++ IsFormed k (deciding w) ∷ []) (record { fronts = h.fronts; same = h.same; solved = formed_more n (issued_of s) l h.fronts rs (stands_for s) k (deciding w) h.solved e; sorted = h.sorted })
    (are_append n l rs (IsFormed k (deciding w) ∷ []) g (record { inside = ((unknowns_within n (deciding w) (decider_below n w i), f), tt); sorted = (unknowns_sorted n l (deciding w) (decider_below n w i), tt) })) i)

-- ---- a type that is formed as a tuple is one

tuple_from : (o : layer.Ty-F Ty) (t : Ty) → roll-Ty o ≡ t → kind (mean_layer (map-Ty Ty Term mean o)) ≡ TupleKind → (ts : List Ty) × (t ≡ Tup ts)
tuple_from (layer.Tup ts) t e h = (ts, sym e ∙ ap roll-Ty (sym (outs-Tup ts)) ∙ roll-out-Ty (Tup ts))
tuple_from layer.Bool t e h = absurd (cc)
tuple_from layer.Int t e h = absurd (cc)
tuple_from layer.Str t e h = absurd (cc)
tuple_from (layer.Named x) t e h = absurd (cc)
tuple_from (layer.Var v) t e h = absurd (cc)
tuple_from (layer.Set a) t e h = absurd (cc)
tuple_from (layer.Seq a) t e h = absurd (cc)
tuple_from (layer.Fun a b) t e h = absurd (cc)
tuple_from (layer.Rec fs k) t e h = absurd (cc)
tuple_from (layer.Oper ts b) t e h = absurd (cc)

pub tuple_formed : (t : Ty) → kind (mean t) ≡ TupleKind → (ts : List Ty) × (t ≡ Tup ts)
tuple_formed t h = tuple_from (out-Ty t) t (roll-out-Ty t) (ap kind (sym (mean_out t)) ∙ h)
