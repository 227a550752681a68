-- Requirements in their order: one after the other is met besides, or the first that is refused is told.
use Rattle.std.proofs.Common.{◌≡◌, ℕ, zero, suc, ◌+◌, ◌≤◌, ◌<◌, List, [], ◌∷◌, ◌++◌, length, get_or, take, drop, refl, ap, sym, ◌∙◌, subst, arith, append_assoc}
use Rattle.std.specs.Prelude.{Result, Ok, Err}
use Rattle.std.proofs.lemmas.List.{append-nil, drop_more, map-append, take-append-drop, take_all, take_more}
use Rattle.tla_meaning.specs.declared.place.Place.{Place}
use Rattle.snowcat_rows.specs.declared.substitution.Subst.{Subst}
use Rattle.snowcat_rows.specs.declared.substitution.UnifyFault.{UnifyFault}
use Rattle.snowcat_rows.specs.declared.substitution.UnifyFault.TheVariants.{Clash, Memory}
use Rattle.snowcat_rows.specs.declared.types.Ty.{Ty}
use Rattle.snowcat_rows.specs.Types.{Term, var, mean}
use Rattle.snowcat_rows.specs.Substitutions.{Fronts}
use Rattle.snowcat_rows.specs.Chains.{Binding, type_var}
use Rattle.snowcat_rows.specs.Sorting.{Within}
use Rattle.snowcat_rows.specs.Views.{issued_of, kept_by}
use Rattle.snowcat_types.specs.declared.gathered.Requirement.{Requirement as BuiltRequirement}
use Rattle.snowcat_types.specs.declared.gathered.Requirement.TheVariants as built
use Rattle.snowcat_types.specs.Requirements.{Requirement, Equal, ItemOf, FieldOf, IsFormed, Never}
use Rattle.snowcat_types.specs.Systems.{Entry, Asks, Waits}
use Rattle.snowcat_types.specs.Typings.{Sides, with_field}
use Rattle.snowcat_types.specs.inner.Gathered.{AllNamedIn, RequirementNamed, requirement_of, requirements_of}
use Rattle.snowcat_types.specs.inner.Solved.{AllInside, AllSortedIn, AllSuit, AreOf, Inside, IsAsked, IsMet, IsSolved, IsTried, Refuses}
use Rattle.snowcat_types.proofs.Issued.{absent_new, keeps_issued}
use Rattle.snowcat_types.proofs.Joining.{within_more}

-- ---- parts of what is asked

inside_append : (n : ℕ) (rs qs : List Requirement) → AllInside n rs → AllInside n qs → AllInside n (rs ++ qs)
inside_append n [] qs h k = k
inside_append n (r ∷ rs) qs h k = (h.0, inside_append n rs qs h.1 k)

inside_front : (n : ℕ) (rs qs : List Requirement) → AllInside n (rs ++ qs) → AllInside n rs
inside_front n [] qs h = tt
inside_front n (r ∷ rs) qs h = (h.0, inside_front n rs qs h.1)

inside_rest : (n : ℕ) (rs qs : List Requirement) → AllInside n (rs ++ qs) → AllInside n qs
inside_rest n [] qs h = h
inside_rest n (r ∷ rs) qs h = inside_rest n rs qs h.1

sorted_append : (l : Fronts) (rs qs : List Requirement) → AllSortedIn l rs → AllSortedIn l qs → AllSortedIn l (rs ++ qs)
sorted_append l [] qs h k = k
sorted_append l (r ∷ rs) qs h k = (h.0, sorted_append l rs qs h.1 k)

sorted_front : (l : Fronts) (rs qs : List Requirement) → AllSortedIn l (rs ++ qs) → AllSortedIn l rs
sorted_front l [] qs h = tt
sorted_front l (r ∷ rs) qs h = (h.0, sorted_front l rs qs h.1)

sorted_rest : (l : Fronts) (rs qs : List Requirement) → AllSortedIn l (rs ++ qs) → AllSortedIn l qs
sorted_rest l [] qs h = h
sorted_rest l (r ∷ rs) qs h = sorted_rest l rs qs h.1

pub are_append : (n : ℕ) (l : Fronts) (rs qs : List Requirement) → AreOf n l rs → AreOf n l qs → AreOf n l (rs ++ qs)
are_append n l rs qs h k = record { inside = inside_append n rs qs h.inside k.inside; sorted = sorted_append l rs qs h.sorted k.sorted }

pub are_front : (n : ℕ) (l : Fronts) (rs qs : List Requirement) → AreOf n l (rs ++ qs) → AreOf n l rs
are_front n l rs qs h = record { inside = inside_front n rs qs h.inside; sorted = sorted_front l rs qs h.sorted }

pub are_rest : (n : ℕ) (l : Fronts) (rs qs : List Requirement) → AreOf n l (rs ++ qs) → AreOf n l qs
are_rest n l rs qs h = record { inside = inside_rest n rs qs h.inside; sorted = sorted_rest l rs qs h.sorted }

suit_front : (e : Entry) (rs qs : List Requirement) → AllSuit e (rs ++ qs) → AllSuit e rs
suit_front e [] qs h = tt
suit_front e (r ∷ rs) qs h = (h.0, suit_front e rs qs h.1)

suit_rest : (e : Entry) (rs qs : List Requirement) → AllSuit e (rs ++ qs) → AllSuit e qs
suit_rest e [] qs h = h
suit_rest e (r ∷ rs) qs h = suit_rest e rs qs h.1

one_more : (n m : ℕ) (q : Requirement) → n ≤ m → Inside n q → Inside m q
one_more n m (Equal a b) le h = (within_more n m a le h.0, within_more n m b le h.1)
one_more n m (ItemOf t i u) le h = (within_more n m t le h.0, within_more n m u le h.1)
one_more n m (FieldOf t x u) le h = (within_more n m t le h.0, within_more n m u le h.1)
one_more n m (IsFormed k t) le h = within_more n m t le h
one_more n m Never le h = tt

pub inside_more : (n m : ℕ) (qs : List Requirement) → n ≤ m → AllInside n qs → AllInside m qs
inside_more n m [] le h = tt
inside_more n m (q ∷ qs) le h = ((one_more n m q le h.0.0, h.0.1), inside_more n m qs le h.1)

-- ---- one requirement

refuses_at : (n : ℕ) (rs ps : List Requirement) (q : Requirement) (last : List Binding) (a b x y : Term) → rs ≡ ps → Refuses n rs q last a b x y → Refuses n ps q last a b x y
refuses_at n rs ps q last a b x y e h = let P : List Requirement → Type 0 = λ z. Refuses n z q last a b x y in subst P e h

-- what one call says of a requirement is what is said of a list of one
pub one_tried : (n : ℕ) (l : Fronts) (rs : List Requirement) (e : Entry) (q : Requirement) (last : List Binding) (a b : Term) (t : Subst) (r : Result (Unit {0}) UnifyFault)
    → Sides n last e q a b → IsMet n l rs q last a b t r → IsTried n l rs e (q ∷ []) t r
one_tried n l rs e q last a b t (Ok u) sides h = h
one_tried n l rs e q last a b t (Err (Clash x y)) sides h = record {
  first = [];
  asks = q;
  rest = [];
  split = refl;
  last = last;
  a = a;
  b = b;
  sides = sides;
  refuses = refuses_at n rs (rs ++ []) q last a b (mean x) (mean y) (sym (append-nil rs)) h;
}
one_tried n l rs e q last a b t (Err (Memory w)) sides h = tt

pub equal_tried : (n : ℕ) (l : Fronts) (rs : List Requirement) (e : Entry) (a b : Term) (last : List Binding) (t : Subst) (r : Result (Unit {0}) UnifyFault)
    → IsMet n l rs (Equal a b) last a b t r → IsTried n l rs e (Equal a b ∷ []) t r
equal_tried n l rs (Asks p qs) a b last t r h = one_tried n l rs (Asks p qs) (Equal a b) last a b t r (refl, refl) h
equal_tried n l rs (Waits w) a b last t r h = one_tried n l rs (Waits w) (Equal a b) last a b t r (refl, refl) h

pub field_tried : (n : ℕ) (l : Fronts) (rs : List Requirement) (e : Entry) (whole : ℕ) (name : List ℕ) (field : ℕ) (s t : Subst) (r : Result (Unit {0}) UnifyFault)
    → IsSolved n l rs s → AllSuit e (FieldOf (var whole) name (var field) ∷ [])
    → IsMet n l rs (FieldOf (var whole) name (var field)) (kept_by s) (with_field name (var field) (issued_of s)) (var whole) t r
    → IsTried n l rs e (FieldOf (var whole) name (var field) ∷ []) t r
field_tried n l rs (Asks p qs) whole name field s t r h suits m =
    one_tried n l rs (Asks p qs) (FieldOf (var whole) name (var field)) (kept_by s) (with_field name (var field) (issued_of s)) (var whole) t r
    (issued_of s, (h.solved.more, absent_new (kept_by s) (issued_of s) (keeps_issued s).1), refl, refl) m
field_tried n l rs (Waits w) whole name field s t r h suits m = absurd suits.0

-- ---- one after the other

-- the entry asked for a front before
pub front_tried : (n : ℕ) (l : Fronts) (rs front : List Requirement) (e : Entry) (qs : List Requirement) (t : Subst) (r : Result (Unit {0}) UnifyFault)
    → IsTried n l (rs ++ front) e qs t r → IsTried n l rs e (front ++ qs) t r
front_tried n l rs front e qs t (Ok u) h = let P : List Requirement → Type 0 = λ z. IsSolved n l z t in subst P (append_assoc rs front qs) h
front_tried n l rs front e qs t (Err (Clash x y)) h = record {
  first = front ++ h.first;
  asks = h.asks;
  rest = h.rest;
  split = ap (λ z. front ++ z) h.split ∙ sym (append_assoc front h.first (h.asks ∷ h.rest));
  last = h.last;
  a = h.a;
  b = h.b;
  sides = h.sides;
  refuses = refuses_at n ((rs ++ front) ++ h.first) (rs ++ (front ++ h.first)) h.asks h.last h.a h.b (mean x) (mean y) (append_assoc rs front h.first) h.refuses;
}
front_tried n l rs front e qs t (Err (Memory w)) h = tt

-- it would have asked for more
pub rest_tried : (n : ℕ) (l : Fronts) (rs : List Requirement) (e : Entry) (qs rest : List Requirement) (t : Subst) (w : UnifyFault)
    → IsTried n l rs e qs t (Err w) → IsTried n l rs e (qs ++ rest) t (Err w)
rest_tried n l rs e qs rest t (Clash x y) h = record {
  first = h.first;
  asks = h.asks;
  rest = h.rest ++ rest;
  split = ap (λ z. z ++ rest) h.split ∙ append_assoc h.first (h.asks ∷ h.rest) rest;
  last = h.last;
  a = h.a;
  b = h.b;
  sides = h.sides;
  refuses = h.refuses;
}
rest_tried n l rs e qs rest t (Memory w) h = tt

-- the next of several is refused
pub next_refused : (n : ℕ) (l : Fronts) (rs front : List Requirement) (e : Entry) (q : Requirement) (rest qs : List Requirement) (t : Subst) (w : UnifyFault)
    → qs ≡ front ++ q ∷ rest → IsTried n l (rs ++ front) e (q ∷ []) t (Err w) → IsTried n l rs e qs t (Err w)
next_refused n l rs front e q rest qs t w eq h =
    let P : List Requirement → Type 0 = λ z. IsTried n l rs e z t (Err w) in
    subst P (sym eq) (front_tried n l rs front e (q ∷ rest) t (Err w) (rest_tried n l (rs ++ front) e (q ∷ []) rest t w h))

-- ---- the loop over what is asked: so far all is met

abbrev pub IsReached : List Requirement → List Requirement → Subst → Subst → Type 0
IsReached qs front s t =
    (n : ℕ) (l : Fronts) (rs : List Requirement) (e : Entry) → IsSolved n l rs s → AreOf n l rs → AreOf n l qs → AllSuit e qs → IsSolved n l (rs ++ front) t

pub reached_none : (qs : List Requirement) (s : Subst) → IsReached qs [] s s
reached_none qs s n l rs e h f g suits = let P : List Requirement → Type 0 = λ z. IsSolved n l z s in subst P (sym (append-nil rs)) h

module _ (qs front : List Requirement) (q : Requirement) (rest : List Requirement) (s t u : Subst) (r : Result (Unit {0}) UnifyFault)
    (split : qs ≡ front ++ q ∷ rest) (reached : IsReached qs front s t) (next : IsAsked (q ∷ []) t u r) where
  one_asked : (n : ℕ) (l : Fronts) (rs : List Requirement) (e : Entry) → IsSolved n l rs s → AreOf n l rs → AreOf n l qs → AllSuit e qs → IsTried n l (rs ++ front) e (q ∷ []) u r
  one_asked n l rs e h f g suits =
      let P : List Requirement → Type 0 = λ z. AreOf n l z in
      let Q : List Requirement → Type 0 = λ z. AllSuit e z in
      let all = subst P split g in
      next n l (rs ++ front) e (reached n l rs e h f g suits) (are_append n l rs front f (are_front n l front (q ∷ rest) all))
      (are_front n l (q ∷ []) rest (are_rest n l front (q ∷ rest) all)) (suit_front e (q ∷ []) rest (suit_rest e front (q ∷ rest) (subst Q split suits)))

  pub next_met : (v : Unit {0}) → r ≡ Ok v → IsReached qs (front ++ q ∷ []) s u
  next_met v is n l rs e h f g suits =
      let P : Result (Unit {0}) UnifyFault → Type 0 = λ z. IsTried n l (rs ++ front) e (q ∷ []) u z in
      let Q : List Requirement → Type 0 = λ z. IsSolved n l z u in
      subst Q (append_assoc rs front (q ∷ [])) (subst P is (one_asked n l rs e h f g suits))

  pub next_failed : (w : UnifyFault) → r ≡ Err w → IsAsked qs s u (Err w)
  next_failed w is n l rs e h f g suits =
      let P : Result (Unit {0}) UnifyFault → Type 0 = λ z. IsTried n l (rs ++ front) e (q ∷ []) u z in
      next_refused n l rs front e q rest qs u w split (subst P is (one_asked n l rs e h f g suits))

-- ---- what is built

split_at : (bs : List BuiltRequirement) (i : ℕ) (b : BuiltRequirement) → i < length bs → b ≡ get_or bs i b →
    requirements_of bs ≡ requirements_of (take i bs) ++ requirement_of b ∷ requirements_of (drop (i + 1) bs)
split_at bs i b lt e =
    ap requirements_of (sym (take-append-drop i bs) ∙ ap (λ z. take i bs ++ z) (drop_more bs i b lt ∙ ap (λ z. z ∷ drop (i + 1) bs) (sym e)))
    ∙ map-append requirement_of (take i bs) (b ∷ drop (i + 1) bs)

more_taken : (bs : List BuiltRequirement) (i : ℕ) (b : BuiltRequirement) → i < length bs → b ≡ get_or bs i b →
    requirements_of (take (i + 1) bs) ≡ requirements_of (take i bs) ++ requirement_of b ∷ []
more_taken bs i b lt e = ap requirements_of (take_more bs i b lt ∙ ap (λ z. take i bs ++ z ∷ []) (sym e)) ∙ map-append requirement_of (take i bs) (b ∷ [])

pub named_at : (bs : List BuiltRequirement) (i : ℕ) (b : BuiltRequirement) → i < length bs → b ≡ get_or bs i b → AllNamedIn bs → RequirementNamed b
named_at [] i b lt e h = absurd (omega (arith, lt))
named_at (a ∷ bs) zero b lt e h = let P : BuiltRequirement → Type 0 = λ z. RequirementNamed z in subst P (sym e) h.0
named_at (a ∷ bs) (suc i) b lt e h = named_at bs i b (omega (arith, lt)) e h.1

pub inside_at : (n m : ℕ) (bs : List BuiltRequirement) (i : ℕ) (b : BuiltRequirement) → n ≤ m → i < length bs → b ≡ get_or bs i b → AllInside n (requirements_of bs) →
    AllInside m (requirement_of b ∷ [])
inside_at n m bs i b le lt e h =
    let P : List Requirement → Type 0 = λ z. AllInside n z in
    inside_more n m (requirement_of b ∷ []) le
    (inside_front n (requirement_of b ∷ []) (requirements_of (drop (i + 1) bs)) (inside_rest n (requirements_of (take i bs)) (requirement_of b ∷ requirements_of (drop (i + 1) bs)) (subst P (split_at bs i b lt e) h)))

module _ (bs : List BuiltRequirement) (i : ℕ) (b : BuiltRequirement) (lt : i < length bs) (e : b ≡ get_or bs i b) (s t u : Subst) (r : Result (Unit {0}) UnifyFault)
    (reached : IsReached (requirements_of bs) (requirements_of (take i bs)) s t) (next : IsAsked (requirement_of b ∷ []) t u r) where
  pub built_met : (v : Unit {0}) → r ≡ Ok v → IsReached (requirements_of bs) (requirements_of (take (i + 1) bs)) s u
  built_met v is =
      let P : List Requirement → Type 0 = λ z. IsReached (requirements_of bs) z s u in
      subst P (sym (more_taken bs i b lt e))
      (next_met (requirements_of bs) (requirements_of (take i bs)) (requirement_of b) (requirements_of (drop (i + 1) bs)) s t u r (split_at bs i b lt e) reached next v is)

  pub built_failed : (w : UnifyFault) → r ≡ Err w → IsAsked (requirements_of bs) s u (Err w)
  built_failed w is =
      next_failed (requirements_of bs) (requirements_of (take i bs)) (requirement_of b) (requirements_of (drop (i + 1) bs)) s t u r (split_at bs i b lt e) reached next w is

-- all is met
pub all_met : (bs : List BuiltRequirement) (i : ℕ) (s t : Subst) (v : Unit {0}) → length bs ≤ i → IsReached (requirements_of bs) (requirements_of (take i bs)) s t →
    IsAsked (requirements_of bs) s t (Ok v)
all_met bs i s t v le reached n l rs e h f g suits =
    let P : List BuiltRequirement → Type 0 = λ z. IsSolved n l (rs ++ requirements_of z) t in
    subst P (take_all i bs le) (reached n l rs e h f g suits)

-- a row asks as it is built
pub row_suits : (p : Place) (rs qs : List Requirement) → AllSuit (Asks p rs) qs
row_suits p rs [] = tt
row_suits p rs (q ∷ qs) = (tt, row_suits p rs qs)

-- ---- what a requirement is built of

pub equal_inside : (n : ℕ) (b : BuiltRequirement) (x y : Ty) → b ≡ built.Equal x y → AllInside n (requirement_of b ∷ []) → Within n (mean x) × Within n (mean y)
equal_inside n b x y e h = let P : BuiltRequirement → Type 0 = λ z. AllInside n (requirement_of z ∷ []) in (subst P e h).0.0

within_var : (n v : ℕ) → Within n (var v) → v < n
within_var n v h = h (type_var v) refl

pub field_inside : (n : ℕ) (b : BuiltRequirement) (whole : ℕ) (name : List ℕ) (field : ℕ) → b ≡ built.FieldOf whole name field → AllInside n (requirement_of b ∷ []) → (whole < n) × (field < n)
field_inside n b whole name field e h =
    let P : BuiltRequirement → Type 0 = λ z. AllInside n (requirement_of z ∷ []) in
    let k = (subst P e h).0.0 in
    (within_var n whole k.0, within_var n field k.1)

pub equal_asked : (b : BuiltRequirement) (x y : Ty) (s t : Subst) (r : Result (Unit {0}) UnifyFault) → b ≡ built.Equal x y →
    ((n : ℕ) (l : Fronts) (rs : List Requirement) → IsSolved n l rs s → AreOf n l rs → AreOf n l (Equal (mean x) (mean y) ∷ []) → IsMet n l rs (Equal (mean x) (mean y)) (kept_by s) (mean x) (mean y) t r) →
    IsAsked (requirement_of b ∷ []) s t r
equal_asked b x y s t r e met =
    let P : BuiltRequirement → Type 0 = λ z. IsAsked (requirement_of z ∷ []) s t r in
    subst P (sym e) (λ n l rs a h f g suits. equal_tried n l rs a (mean x) (mean y) (kept_by s) t r (met n l rs h f g))

pub field_asked : (b : BuiltRequirement) (whole : ℕ) (name : List ℕ) (field : ℕ) (s t : Subst) (r : Result (Unit {0}) UnifyFault) → b ≡ built.FieldOf whole name field →
    ((n : ℕ) (l : Fronts) (rs : List Requirement) → IsSolved n l rs s → AreOf n l rs → whole < n → field < n
    → IsMet n l rs (FieldOf (var whole) name (var field)) (kept_by s) (with_field name (var field) (issued_of s)) (var whole) t r) →
    IsAsked (requirement_of b ∷ []) s t r
field_asked b whole name field s t r e met =
    let P : BuiltRequirement → Type 0 = λ z. IsAsked (requirement_of z ∷ []) s t r in
    subst P (sym e) (λ n l rs a h f g suits.
    field_tried n l rs a whole name field s t r h suits (met n l rs h f (within_var n whole g.inside.0.0.0) (within_var n field g.inside.0.0.1)))
