-- The equations of choices: how they are built, and that their types are unknown ones of the node.
use Rattle.std.proofs.Common.{◌≡◌, ℕ, zero, suc, ◌+◌, ◌<◌, List, [], ◌∷◌, ◌++◌, refl, ap, sym, ◌∙◌, subst, arith}
use Rattle.std.specs.Prelude.{IfOk, Result, Ok, Err}
use Rattle.std.proofs.lemmas.List.{map-append}
use Rattle.snowcat_rows.specs.declared.substitution.Subst.{Subst}
use Rattle.snowcat_rows.specs.declared.substitution.UnifyFault.{UnifyFault}
use Rattle.snowcat_rows.specs.declared.types.Ty.{Ty}
use Rattle.snowcat_rows.specs.Types.{Term, mean, var}
use Rattle.snowcat_types.specs.declared.gathered.Requirement.{Requirement as BuiltRequirement}
use Rattle.snowcat_types.specs.declared.gathered.Requirement.TheVariants as built
use Rattle.snowcat_types.specs.Requirements.{Requirement, Equal, IsFormed}
use Rattle.snowcat_types.specs.Rows.{from_type}
use Rattle.tla_meaning.specs.declared.place.Place.{Place}
use Rattle.snowcat_types.specs.Systems.{Waits}
use Rattle.snowcat_types.specs.TypeForms.{seq_type, set_type, tuple_type}
use Rattle.snowcat_types.specs.declared.kinds.Kind.{Kind}
use Rattle.snowcat_types.specs.declared.kinds.Kind.TheVariants.{Function, NotFormed}
use Rattle.snowcat_types.specs.declared.waiting.Wait.TheVariants as wait
use Rattle.snowcat_types.specs.Waiting.{all_equal, choice, default_kind, deciding, items_from}
use Rattle.snowcat_types.specs.inner.Built.{means, unknown_from}
use Rattle.snowcat_types.specs.inner.Gathered.{requirement_of, requirements_of}
use Rattle.snowcat_types.specs.inner.Solved.{AreEquations, IsAsked, IsDue, OfUnknowns, Tries, WaitInside}
use Rattle.snowcat_types.specs.declared.waiting.Wait.{Wait}
use Rattle.snowcat_types.proofs.Chosen.{equations_are, equations_suit, formed_tried, known_due, tuple_below}
use Rattle.snowcat_rows.specs.Views.{stands_for}
use Rattle.snowcat_types.proofs.FormSteps.{from_next}

-- ---- how they are built

unknown_after : (first j m : ℕ) → from_type (unknown_from first) j m ≡ from_type var (first + j) m
unknown_after first j zero = refl
unknown_after first j (suc m) =
    let e : first + (j + 1) ≡ (first + j) + 1 = omega arith in
    ap (λ z. var (first + j) ∷ z) (unknown_after first (j + 1) m ∙ ap (λ z. from_type var z m) e)

pub tuple_is : (first m : ℕ) (ts : List Ty) (t : Ty) → mean t ≡ tuple_type (means ts) → means ts ≡ from_type (unknown_from first) 0 m → mean t ≡ tuple_type (items_from first m)
tuple_is first m ts t e h =
    let z : first + 0 ≡ first = omega arith in
    e ∙ ap tuple_type (h ∙ unknown_after first 0 m ∙ ap (λ y. from_type var y m) z)

-- one equation more
pub more_equal : (bs cs : List BuiltRequirement) (qs : List Requirement) (a b : Ty) (x y : Term) → cs ≡ bs ++ built.Equal a b ∷ [] → mean a ≡ x → mean b ≡ y →
    requirements_of bs ≡ qs → requirements_of cs ≡ qs ++ Equal x y ∷ []
more_equal bs cs qs a b x y e p q h =
    ap requirements_of e ∙ map-append requirement_of bs (built.Equal a b ∷ []) ∙ (λ j. h j ++ Equal (p j) (q j) ∷ [])

-- one more item
pub next_equal : (first i : ℕ) (a : Term) (bs cs : List BuiltRequirement) (q : Requirement) (x y : Ty) → cs ≡ bs ++ built.Equal x y ∷ [] → mean x ≡ a → mean y ≡ var (first + i) →
    requirements_of bs ≡ q ∷ all_equal a (items_from first i) → requirements_of cs ≡ q ∷ all_equal a (items_from first (i + 1))
next_equal first i a bs cs q x y e p r h =
    more_equal bs cs (q ∷ all_equal a (items_from first i)) x y a (var (first + i)) e p r h
    ∙ ap (λ z. q ∷ z) (sym (ap (all_equal a) (from_next var first i) ∙ map-append (Equal a) (items_from first i) (var (first + i) ∷ [])))

-- ---- they are met

pub tied : (bs : List BuiltRequirement) (s t : Subst) (r : Result (Unit {0}) UnifyFault) → IsAsked (requirements_of bs) s t r →
    (w : Wait) (qs : List Requirement) → requirements_of bs ≡ qs → ((n : ℕ) → WaitInside n w → AreEquations n qs) → Tries w qs s t r
tied bs s t r asked w qs e equations n l rs h f i =
    let P : List Requirement → Type 0 = λ z. IsAsked z s t r in
    subst P e asked n l rs (Waits w) h f (equations_are n l qs (equations n i)) (equations_suit n (Waits w) qs (equations n i))

-- what was built, if it was
pub built_below : {X E : Type 0} (of : X → List Requirement) (r : Result X E) (n : ℕ) (qs : List Requirement) → IfOk r (λ v. of v ≡ qs) → AreEquations n qs → IfOk r (λ v. AreEquations n (of v))
built_below of (Ok v) n qs e h = let P : List Requirement → Type 0 = λ z. AreEquations n z in subst P (sym e) h
built_below of (Err w) n qs e h = tt

pub items_equal : (n a i m : ℕ) → a < n → ((j : ℕ) → j < m → i + j < n) → AreEquations n (all_equal (var a) (items_from i m))
items_equal n a i zero lt h = tt
items_equal n a i (suc m) lt h = (
  (lt, (let e = h 0 (omega arith) in omega (arith, e))),
  items_equal n a (i + 1) m lt (λ j k. let e = h (suc j) (omega (arith, k)) in omega (arith, e)),
)

pub ok_of : {X E : Type 0} (P : X → Type 0) (r : Result X E) (v : X) → r ≡ Ok v → IfOk r P → P v
ok_of P r v e h = let Q : Result _ _ → Type 0 = λ z. IfOk z P in subst Q e h

pub same_below : (n : ℕ) (xs ys : List BuiltRequirement) → xs ≡ ys → AreEquations n (requirements_of ys) → AreEquations n (requirements_of xs)
same_below n xs ys e h = let P : List BuiltRequirement → Type 0 = λ z. AreEquations n (requirements_of z) in subst P (sym e) h

pub equal_both : (a b x y : Term) → a ≡ x → b ≡ y → ◌≡◌ {A = List Requirement} (Equal a b ∷ []) (Equal x y ∷ [])
equal_both a b x y p q = λ j. Equal (p j) (q j) ∷ []

-- ---- the equations of each node

pub domain_below : {w : Wait} {p : Place} {f t x y : ℕ} (i : Term) → w ≡ wait.Domain p f t x y → ((n : ℕ) → OfUnknowns n i) →
    (n : ℕ) → WaitInside n w → AreEquations n (Equal (set_type i) (var t) ∷ [])
domain_below i e h n g = let P : Wait → Type 0 = λ z. WaitInside n z in let k = subst P e g in (((tt, h n), k.1.0), tt)

pub sequence_below : {w : Wait} {p : Place} {t x i m : ℕ} → w ≡ wait.Tuple p t x i m → (n : ℕ) → WaitInside n w →
    AreEquations n (Equal (var t) (seq_type (var x)) ∷ all_equal (var x) (items_from i m))
sequence_below {x = x} {i = i} {m = m} e n g =
    let P : Wait → Type 0 = λ z. WaitInside n z in let k = subst P e g in ((k.0, (tt, k.1.0)), items_equal n x i m k.1.0 k.1.1)

pub items_below : {w : Wait} {p : Place} {t x i m : ℕ} → w ≡ wait.Tuple p t x i m → (n : ℕ) → WaitInside n w →
    AreEquations n (Equal (var t) (tuple_type (items_from i m)) ∷ [])
items_below {i = i} {m = m} e n g =
    let P : Wait → Type 0 = λ z. WaitInside n z in let k = subst P e g in ((k.0, tuple_below n i m k.1.1), tt)

-- ---- what is asked is the choice

pub is_chosen : {w v : Wait} (k : Kind) (qs : List Requirement) (s t : Subst) (r : Result (Unit {0}) UnifyFault) → w ≡ v → choice v k ≡ qs →
    Tries w qs s t r → Tries w (choice w k) s t r
is_chosen {w = w} k qs s t r e h tries = let P : List Requirement → Type 0 = λ z. Tries w z s t r in subst P (sym (ap (λ z. choice z k) e ∙ h)) tries

-- what is no function is known
pub domain_chosen : {w : Wait} {p : Place} {f t x y : ℕ} (k : Kind) (qs : List Requirement) (s u : Subst) (r : Result (Unit {0}) UnifyFault) → w ≡ wait.Domain p f t x y →
    choice (wait.Domain p f t x y) k ≡ IsFormed k (var f) ∷ qs → (k ≡ Function → ⊥) → (k ≡ NotFormed → ⊥) → IsDue (stands_for s) w k →
    Tries w qs s u r → Tries w (choice w k) s u r
domain_chosen {w = w} k qs s u r e h other formed due tries =
    is_chosen k (IsFormed k (deciding w) ∷ qs) s u r e (h ∙ ap (λ z. IsFormed k (deciding z) ∷ qs) (sym e))
    (formed_tried w k qs s u r (known_due (stands_for s) w k (λ q. other (q ∙ ap default_kind e)) due) formed tries)
