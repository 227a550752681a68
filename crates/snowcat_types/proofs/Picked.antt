-- An item of a tuple that is known, and one that is not there.
use Rattle.std.proofs.Common.{◌≡◌, ℕ, zero, suc, ◌<◌, ◌≤◌, List, [], ◌∷◌, length, get_or, map, refl, ap, sym, ◌∙◌, subst, arith, Option, ℤ, pos, negsuc, nat_abs, ◌-◌, ◌<ℤ◌, ◌≤ℤ◌, true}
use Rattle.std.specs.declared.alloc.AllocError.{AllocError}
use Rattle.std.specs.Prelude.{IfOk, Result}
use Rattle.std.specs.List.{list_all}
use Rattle.std.proofs.lemmas.Int.{ints}
use Rattle.std.proofs.lemmas.List.{length-map}
use Rattle.snowcat_rows.specs.FieldNames.{names_differ}
use Rattle.snowcat_rows.proofs.Naming.{all_at}
use Rattle.snowcat_rows.specs.declared.substitution.Subst.{Subst}
use Rattle.snowcat_rows.specs.declared.substitution.UnifyFault.{UnifyFault}
use Rattle.snowcat_rows.specs.declared.types.Ty.{Ty}
use Rattle.snowcat_rows.specs.Types.{Term, Slot, app, mean, none, row, some, var}
use Rattle.snowcat_rows.specs.Substitutions.{Fronts, Sub, apply}
use Rattle.snowcat_rows.specs.Views.{issued_of, kept_by, stands_for}
use Rattle.tla_meaning.specs.declared.place.Place.{Place}
use Rattle.snowcat_types.specs.declared.kinds.Kind.TheVariants.{Tuple as TupleKind}
use Rattle.snowcat_types.specs.declared.waiting.Index.{Index}
use Rattle.snowcat_types.specs.declared.waiting.Index.TheVariants.{Number}
use Rattle.snowcat_types.specs.declared.waiting.Wait.{Wait}
use Rattle.snowcat_types.specs.declared.waiting.Wait.TheVariants as wait
use Rattle.snowcat_types.specs.Requirements.{FieldOf, ItemOf, Requirement, item_at, item_of}
use Rattle.snowcat_types.specs.TypeForms.{tuple_type}
use Rattle.snowcat_types.specs.Typings.{ItemSides, with_field}
use Rattle.snowcat_types.specs.Systems.{Waits}
use Rattle.snowcat_types.specs.Waiting.{choice, deciding, default_type}
use Rattle.snowcat_types.specs.inner.Built.{means}
use Rattle.snowcat_types.specs.inner.Solved.{AreOf, Excludes, IsItem, IsMet, IsNowhere, IsSolved, IsThere, NeverMet, Tries, WaitInside}
use Rattle.snowcat_types.proofs.Asked.{one_tried}
use Rattle.snowcat_types.proofs.Choices.{meet_left, meet_right}
use Rattle.snowcat_types.proofs.Chosen.{decider_in, never_chosen}
use Rattle.snowcat_types.proofs.Tied.{is_chosen}
use Rattle.snowcat_types.proofs.Issued.{absent_new, keeps_issued}

-- ---- the items of a tuple that is known

item_there : (ts : List Ty) (i : ℕ) (d : Ty) → i < length ts → item_of (row (means ts)) (suc i) ≡ some (mean (get_or ts i d))
item_there [] i d lt = absurd (omega (arith, lt))
item_there (t ∷ ts) zero d lt = refl
item_there (t ∷ ts) (suc i) d lt = item_there ts i d (omega (arith, lt))

pub item_found : (ts : List Ty) (n : ℕ) (t u : Ty) → 0 < n → n ≤ length ts → t ≡ get_or ts (n - 1) t → u ≡ t → item_at (tuple_type (means ts)) n ≡ some (mean u)
item_found ts zero t u lt le e p = absurd (omega (arith, lt))
item_found ts (suc i) t u lt le e p =
    let k : suc i - 1 ≡ i = omega arith in
    item_there ts i t (omega (arith, le)) ∙ ap (λ z. some (mean z)) (sym (e ∙ ap (λ j. get_or ts j t) k) ∙ sym p)

-- at 0 and behind the last there is none
no_item : (ts : List Term) (n : ℕ) → (0 < n → length ts < n) → item_of (row ts) n ≡ none
no_item [] n h = refl
no_item (t ∷ ts) zero h = refl
no_item (t ∷ ts) (suc zero) h = let e = h (omega arith) in absurd (omega (arith, e))
no_item (t ∷ ts) (suc (suc n)) h = no_item ts (suc n) (λ lt. let e = h (omega arith) in omega (arith, e))

row_after : (r : Sub) (ts : List Term) → apply r (row ts) ≡ row (map (apply r) ts)
row_after r [] = refl
row_after r (t ∷ ts) = ap (λ z. app (apply r t) z) (row_after r ts)

length_after : (r : Sub) (ts : List Term) → length (map (apply r) ts) ≡ length ts
length_after r [] = refl
length_after r (t ∷ ts) = ap suc (length_after r ts)

pub item_absent : (ts : List Term) (n : ℕ) → (0 < n → length ts < n) → (item_at (tuple_type ts) n ≡ none) × ((r : Sub) → item_at (apply r (tuple_type ts)) n ≡ none)
item_absent ts n h = (
  no_item ts n h,
  λ r. ap (λ z. item_of z n) (row_after r ts) ∙ no_item (map (apply r) ts) n (λ lt. let e = h lt in let k = length_after r ts in omega (arith, e, k)),
)

pub low_nowhere : (ts : List Term) (i : ℤ) → i <ℤ pos 1 → IsNowhere (tuple_type ts) i
low_nowhere ts i h n e = item_absent ts n (λ lt. absurd (none_below (let P : ℤ → Type 0 = λ z. z <ℤ pos 1 in subst P e h) lt))
  where
    none_below : pos n <ℤ pos 1 → 0 < n → ⊥
    none_below k lt = omega (arith, ints, k, lt)

pub high_nowhere : (ts : List Ty) (i : ℤ) → pos (length ts) <ℤ i → IsNowhere (tuple_type (means ts)) i
high_nowhere ts i h n e = item_absent (means ts) n (λ lt. above (let P : ℤ → Type 0 = λ z. pos (length ts) <ℤ z in subst P e h))
  where
    above : pos (length ts) <ℤ pos n → length (means ts) < n
    above k = let m : length (means ts) ≡ length ts = length-map ts mean in omega (arith, ints, k, m)

at_pos : (ts : List Ty) (m : ℕ) (t u : Ty) → pos 1 ≤ℤ pos m → pos m ≤ℤ pos (length ts) → t ≡ get_or ts (m - 1) t → u ≡ t → list_all names_differ ts ≡ true →
    IsThere (tuple_type (means ts)) (pos m) (m, u)
at_pos ts m t u low high e p named =
    let one : 0 < m = omega (arith, ints, low) in
    let top : m ≤ length ts = omega (arith, ints, high) in
    record {
      place = refl;
      item = item_found ts m t u one top e p;
      named = ap names_differ p ∙ all_at names_differ ts (m - 1) t t (omega (arith, one, top)) e named;
    }

pub item_taken : (ts : List Ty) (i j : ℤ) (t u : Ty) → j ≡ i → pos 1 ≤ℤ i → i ≤ℤ pos (length ts) → t ≡ get_or ts (nat_abs j - 1) t → u ≡ t → list_all names_differ ts ≡ true →
    IsThere (tuple_type (means ts)) i (nat_abs j, u)
item_taken ts i (pos m) t u q low high e p named =
    let P : ℤ → Type 0 = λ z. pos 1 ≤ℤ z → z ≤ℤ pos (length ts) → IsThere (tuple_type (means ts)) z (m, u) in
    subst P q (λ a b. at_pos ts m t u a b e p named) low high
item_taken ts i (negsuc m) t u q low high e p named = absurd (none_there (let P : ℤ → Type 0 = λ z. pos 1 ≤ℤ z in subst P (sym q) low))
  where
    none_there : pos 1 ≤ℤ negsuc m → ⊥
    none_there k = omega (arith, ints, k)

-- under a substitution: the type that is resolved is a tuple
pub item_same : (a b : Term) (i j : ℤ) (r : Result (Option (ℕ × Ty)) AllocError) → a ≡ b → i ≡ j → IfOk r (λ o. IsItem a i o) → IfOk r (λ o. IsItem b j o)
item_same a b i j r e q h =
    let P : Term → Type 0 = λ z. IfOk r (λ o. IsItem z i o) in
    let Q : ℤ → Type 0 = λ z. IfOk r (λ o. IsItem b z o) in
    subst Q q (subst P e h)

-- ---- the choice

none_some : (x : Slot) (t : Term) → x ≡ none → x ≡ some t → ⊥
none_some x t e h = absurd (cc)

module _ (n : ℕ) (l : Fronts) (rs : List Requirement) (s : Subst) (whole part i : ℕ) (w : Wait) (p : deciding w ≡ var whole)
    (h : IsSolved n l rs s) (f : AreOf n l rs) (inside : WaitInside n w) where
  never_there : ((r : Sub) → item_at (apply r (apply (stands_for s) (var whole))) i ≡ none) → NeverMet rs (ItemOf (var whole) i (var part))
  never_there none_at u m =
      let d = decider_in n l rs s w h f inside u (meet_left u rs (ItemOf (var whole) i (var part) ∷ []) m) in
      let e : apply u (var whole) ≡ apply d.0 (apply (stands_for s) (var whole)) = ap (apply u) (sym p) ∙ d.1 ∙ ap (λ z. apply d.0 (apply (stands_for s) z)) p in
      none_some (item_at (apply u (var whole)) i) (apply u (var part)) (ap (λ z. item_at z i) e ∙ none_at d.0) (meet_right u rs (ItemOf (var whole) i (var part) ∷ []) m).0

pub picked : (w : Wait) (s t : Subst) (r : Result (Unit {0}) UnifyFault) (whole part i : ℕ) (c : Term) → ((n : ℕ) → WaitInside n w → (whole < n) × (part < n)) →
    item_at (apply (stands_for s) (var whole)) i ≡ some c →
    ((n : ℕ) (l : Fronts) (rs : List Requirement) → IsSolved n l rs s → AreOf n l rs → whole < n → part < n → IsMet n l rs (ItemOf (var whole) i (var part)) (kept_by s) c (var part) t r) →
    Tries w (ItemOf (var whole) i (var part) ∷ []) s t r
picked w s t r whole part i c below e met n l rs h f inside =
    let P : Slot → Type 0 = λ z. ItemSides w (var part) z c (var part) in
    one_tried n l rs (Waits w) (ItemOf (var whole) i (var part)) (kept_by s) c (var part) t r (subst P (sym e) (refl, refl)) (met n l rs h f (below n inside).0 (below n inside).1)

pub missed : (w : Wait) (s t : Subst) (r : Result (Unit {0}) UnifyFault) (whole part i : ℕ) → deciding w ≡ var whole →
    item_at (apply (stands_for s) (var whole)) i ≡ none → ((q : Sub) → item_at (apply q (apply (stands_for s) (var whole))) i ≡ none) →
    Excludes w s t r → Tries w (ItemOf (var whole) i (var part) ∷ []) s t r
missed w s t r whole part i p e none_at out n l rs h f inside =
    let P : Slot → Type 0 = λ z. ItemSides w (var part) z (deciding w) (default_type w) in
    one_tried n l rs (Waits w) (ItemOf (var whole) i (var part)) (kept_by s) (deciding w) (default_type w) t r (subst P (sym e) (refl, refl))
    (out n l rs (ItemOf (var whole) i (var part)) h f inside (never_there n l rs s whole part i w p h f inside none_at))

pub field_picked : (w : Wait) (s t : Subst) (r : Result (Unit {0}) UnifyFault) (whole part : ℕ) (name : List ℕ) → ((n : ℕ) → WaitInside n w → (whole < n) × (part < n)) →
    ((n : ℕ) (l : Fronts) (rs : List Requirement) → IsSolved n l rs s → AreOf n l rs → whole < n → part < n →
    IsMet n l rs (FieldOf (var whole) name (var part)) (kept_by s) (var whole) (with_field name (var part) (issued_of s)) t r) →
    Tries w (FieldOf (var whole) name (var part) ∷ []) s t r
field_picked w s t r whole part name below met n l rs h f inside =
    one_tried n l rs (Waits w) (FieldOf (var whole) name (var part)) (kept_by s) (var whole) (with_field name (var part) (issued_of s)) t r
    (issued_of s, (h.solved.more, absent_new (kept_by s) (issued_of s) (keeps_issued s).1), refl, refl) (met n l rs h f (below n inside).0 (below n inside).1)

-- ---- the choices of an application

pub apply_is : {w : Wait} {p : Place} {f i t : ℕ} {x y : Index} → w ≡ wait.Apply p f i t x → x ≡ y → w ≡ wait.Apply p f i t y
apply_is {p = p} {f = f} {i = i} {t = t} e h = e ∙ ap (λ z. wait.Apply p f i t z) h

pub apply_below : {w : Wait} {p : Place} {f i t : ℕ} {x : Index} → w ≡ wait.Apply p f i t x → (n : ℕ) → WaitInside n w → (f < n) × (t < n)
apply_below e n h = let P : Wait → Type 0 = λ z. WaitInside n z in let k = subst P e h in (k.0, k.1.1)

pub number_chosen : {w : Wait} {p : Place} {f i t : ℕ} {x : Index} {m j : ℤ} (n : ℕ) (s u : Subst) (r : Result (Unit {0}) UnifyFault) →
    w ≡ wait.Apply p f i t x → x ≡ Number m → j ≡ m → j ≡ pos n → Tries w (ItemOf (var f) n (var t) ∷ []) s u r → Tries w (choice w TupleKind) s u r
number_chosen {f = f} {t = t} n s u r e h q k tries =
    is_chosen TupleKind (ItemOf (var f) n (var t) ∷ []) s u r (apply_is e (h ∙ ap Number (sym q ∙ k))) refl tries

pub nowhere_chosen : {w : Wait} {p : Place} {f i t : ℕ} {x : Index} (m : ℤ) {j : ℤ} (s u : Subst) (r : Result (Unit {0}) UnifyFault) →
    w ≡ wait.Apply p f i t x → x ≡ Number m → j ≡ m → IsNowhere (apply (stands_for s) (var f)) j → Excludes w s u r → Tries w (choice w TupleKind) s u r
nowhere_chosen {w = w} {f = f} {t = t} (pos n) s u r e h q absent out =
    number_chosen n s u r e h q q (missed w s u r f t n (ap deciding e) (absent n q).0 (absent n q).1 out)
nowhere_chosen (negsuc n) s u r e h q absent out = never_chosen TupleKind s u r (apply_is e h) refl out
