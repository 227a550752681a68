-- Children that fit: joins of operands, binders, branches and folds.
use Rattle.std.proofs.Common.{◌≡◌, ℕ, zero, suc, Bool, true, false, ◌&&◌, IsTrue, List, [], ◌∷◌, map, length, take, drop, refl, ap}
use Rattle.std.specs.List.{AllByRecursion}
use Rattle.tla_values.specs.Order.{Layer}
use Rattle.tla_values.specs.declared.value.Value.{Value, out-Value}
use Rattle.tla_values.specs.declared.value.Value.TheOpen as layer
use Rattle.tla_meaning.specs.declared.place.Place.{Place}
use Rattle.tla_meaning.specs.declared.job.State.{State}
use Rattle.tla_meaning.specs.declared.outcome.Fault.{Fault}
use Rattle.tla_meaning.specs.declared.outcome.Fault.TheVariants.{NoFault, IsWrong, IsBig}
use Rattle.tla_meaning.specs.declared.outcome.Outcome.{Outcome}
use Rattle.tla_meaning.specs.declared.outcome.Outcome.TheVariants.{Val, Wrong, Big}
use Rattle.tla_meaning.specs.Outcomes.{join_faults, joined, values, fault_or, strict}
use Rattle.tla_meaning.specs.Operators.{yes_no}
use Rattle.tla_meaning.specs.Scopes.{Denotation}
use Rattle.tla_meaning.specs.Meaning.{outcomes, child, choose, by_truth, conjoined, disjoined, implied, if_chosen, case_chosen}
use Rattle.tla_meaning.proofs.Views.{and_left, and_right}
use Rattle.kernel_shapes.specs.Shape.{Shape, Atom, Empty, join, join_all, alike, alike_all}
use Rattle.kernel_shapes.specs.Rows.{branches_of}
use Rattle.kernel_shapes.specs.Sized.{Sized, shapes_of, child_at, all_sound}
use Rattle.kernel_shapes.specs.Fits.{FitsLayer, Fits, FitAll}
use Rattle.kernel_shapes.proofs.FitLemmas.{IfVal, weaker, join_left}
use Rattle.kernel_shapes.proofs.JoinRight.{join_right}
use Rattle.kernel_shapes.proofs.Applied.{IsLiteral}
use Rattle.kernel_shapes.proofs.Operators.{fits_truth}

-- a value fits the shape, and is the literal, of what is computed
abbrev pub Meets : Sized → Value → Type 0
Meets a v = Fits a.shape v × IsLiteral a.literal v

abbrev pub Kid : State → State → Denotation → Sized → Type 0
Kid s t m a = IsTrue a.sound → IfVal (Meets a) (m.value s t)

abbrev pub KidsFit : State → State → List Denotation → List Sized → Type 0
KidsFit s t [] [] = Unit {0}
KidsFit s t (m ∷ ms) (a ∷ as') = Kid s t m a × KidsFit s t ms as'
KidsFit s t [] (a ∷ as') = ⊥
KidsFit s t (m ∷ ms) [] = ⊥

abbrev pub MeetAll : List Sized → List Value → Type 0
MeetAll [] [] = Unit {0}
MeetAll (a ∷ as') (v ∷ vs) = Meets a v × MeetAll as' vs
MeetAll [] (v ∷ vs) = ⊥
MeetAll (a ∷ as') [] = ⊥

pub all_fit : (as' : List Sized) (vs : List Value) → MeetAll as' vs → FitAll (shapes_of as') vs
all_fit [] [] h = tt
all_fit (a ∷ as') (v ∷ vs) h = (h.0.0, all_fit as' vs h.1)
all_fit [] (v ∷ vs) h = absurd h
all_fit (a ∷ as') [] h = absurd h

pub kid_fits : (s t : State) (p : Place) (n : ℕ) (ms : List Denotation) (as' : List Sized) → KidsFit s t ms as' → Kid s t (child p n ms) (child_at n as')
kid_fits s t p n [] [] h = λ e. tt
kid_fits s t p zero (m ∷ ms) (a ∷ as') h = h.0
kid_fits s t p (suc n) (m ∷ ms) (a ∷ as') h = kid_fits s t p n ms as' h.1
kid_fits s t p n [] (a ∷ as') h = absurd h
kid_fits s t p n (m ∷ ms) [] h = absurd h

pub take_fits : (s t : State) (n : ℕ) (ms : List Denotation) (as' : List Sized) → KidsFit s t ms as' → KidsFit s t (take n ms) (take n as')
take_fits s t zero ms as' h = tt
take_fits s t (suc n) [] [] h = tt
take_fits s t (suc n) (m ∷ ms) (a ∷ as') h = (h.0, take_fits s t n ms as' h.1)
take_fits s t (suc n) [] (a ∷ as') h = absurd h
take_fits s t (suc n) (m ∷ ms) [] h = absurd h

pub drop_fits : (s t : State) (n : ℕ) (ms : List Denotation) (as' : List Sized) → KidsFit s t ms as' → KidsFit s t (drop n ms) (drop n as')
drop_fits s t zero ms as' h = h
drop_fits s t (suc n) [] [] h = tt
drop_fits s t (suc n) (m ∷ ms) (a ∷ as') h = drop_fits s t n ms as' h.1
drop_fits s t (suc n) [] (a ∷ as') h = absurd h
drop_fits s t (suc n) (m ∷ ms) [] h = absurd h

-- ---- joins

wrong_first : (P : Value → Type 0) (p : Place) (g : Fault) (o : Outcome) → IfVal P (fault_or (join_faults (IsWrong p) g) o)
wrong_first P p NoFault o = tt
wrong_first P p (IsWrong q) o = tt
wrong_first P p (IsBig q) o = tt

big_first : (P : Value → Type 0) (p : Place) (g : Fault) (o : Outcome) → IfVal P (fault_or (join_faults (IsBig p) g) o)
big_first P p NoFault o = tt
big_first P p (IsWrong q) o = tt
big_first P p (IsBig q) o = tt

-- where operands join, their values fit
pub strict_meets : (P : Value → Type 0) (s t : State) (ms : List Denotation) (as' : List Sized) (f : List Value → Outcome) → KidsFit s t ms as' → IsTrue (all_sound as') →
    ((vs : List Value) → MeetAll as' vs → IfVal P (f vs)) → IfVal P (strict (outcomes ms s t) f)
strict_meets P s t [] [] f h e k = k [] tt
strict_meets P s t [] (a ∷ as') f h e k = absurd h
strict_meets P s t (m ∷ ms) [] f h e k = absurd h
strict_meets P s t (m ∷ ms) (a ∷ as') f h e k =
    by (m.value s t) (h.0 (and_left a.sound (all_sound as') e)) (λ v g. strict_meets P s t ms as' (λ vs. f (v ∷ vs)) h.1 (and_right a.sound (all_sound as') e) (λ vs l. k (v ∷ vs) (g, l)))
  where
    by : (o : Outcome) → IfVal (Meets a) o → ((v : Value) → Meets a v → IfVal P (strict (outcomes ms s t) (λ vs. f (v ∷ vs)))) → IfVal P (strict (o ∷ outcomes ms s t) f)
    by (Val v) g r = r v g
    by (Wrong p) g r = wrong_first P p (joined (outcomes ms s t)) (f (values (outcomes ms s t)))
    by (Big p) g r = big_first P p (joined (outcomes ms s t)) (f (values (outcomes ms s t)))

-- where the same is said of each operand
pub strict_each : (P Q : Value → Type 0) (body : List Value → Outcome) (cs : List (List Value)) (f : List Value → Outcome) → AllByRecursion (λ c. IfVal P (body c)) cs →
    ((vs : List Value) → length vs ≡ length cs → AllByRecursion P vs → IfVal Q (f vs)) → IfVal Q (strict (map body cs) f)
strict_each P Q body [] f h k = k [] refl tt
strict_each P Q body (c ∷ cs) f h k =
    by (body c) h.0 (λ v g. strict_each P Q body cs (λ vs. f (v ∷ vs)) h.1 (λ vs e l. k (v ∷ vs) (ap suc e) (g, l)))
  where
    by : (o : Outcome) → IfVal P o → ((v : Value) → P v → IfVal Q (strict (map body cs) (λ vs. f (v ∷ vs)))) → IfVal Q (strict (o ∷ map body cs) f)
    by (Val v) g r = r v g
    by (Wrong p) g r = wrong_first Q p (joined (map body cs)) (f (values (map body cs)))
    by (Big p) g r = big_first Q p (joined (map body cs)) (f (values (map body cs)))

pub strict_any : (P : Value → Type 0) (os : List Outcome) (f : List Value → Outcome) → ((vs : List Value) → IfVal P (f vs)) → IfVal P (strict os f)
strict_any P os f h = by (joined os)
  where
    by : (g : Fault) → IfVal P (fault_or g (f (values os)))
    by NoFault = h (values os)
    by (IsWrong p) = tt
    by (IsBig p) = tt

-- ---- truth values

abbrev pub IsTruth : Outcome → Type 0
IsTruth o = IfVal (Fits Atom) o

pub yes_fits : (b : Bool) → IsTruth (yes_no b)
yes_fits b = fits_truth b

pub choose_fits : (P : Value → Type 0) (p : Place) (o a b : Outcome) → IfVal P a → IfVal P b → IfVal P (choose p o a b)
choose_fits P p (Val v) a b h k = by (out-Value v)
  where
    by : (l : Layer Value) → IfVal P (by_truth p l a b)
    by (layer.Bool true) = h
    by (layer.Bool false) = k
    by (layer.Int n) = tt
    by (layer.Text n) = tt
    by (layer.Set n) = tt
    by (layer.Fun n) = tt
choose_fits P p (Wrong q) a b h k = tt
choose_fits P p (Big q) a b h k = tt

pub conjoined_fits : (p : Place) (os : List Outcome) → IsTruth (conjoined p os)
conjoined_fits p [] = yes_fits true
conjoined_fits p (o ∷ os) = choose_fits _ p o (conjoined p os) (yes_no false) (conjoined_fits p os) (yes_fits false)

pub disjoined_fits : (p : Place) (os : List Outcome) → IsTruth (disjoined p os)
disjoined_fits p [] = yes_fits false
disjoined_fits p (o ∷ os) = choose_fits _ p o (yes_no true) (disjoined p os) (yes_fits true) (disjoined_fits p os)

pub implied_fits : (p : Place) (os : List Outcome) → IsTruth (implied p os)
implied_fits p (a ∷ b ∷ []) = choose_fits _ p a _ _ (choose_fits _ p b _ _ (yes_fits true) (yes_fits false)) (yes_fits true)
implied_fits p os = tt

-- ---- IF and CASE

abbrev pub only : (Value → Type 0) → Outcome → Type 0
only P o = IfVal P o

to_shape : (a : Sized) (b : Shape) (o : Outcome) → ((x : Layer Value) → FitsLayer a.shape x → FitsLayer b x) → IfVal (Meets a) o → IfVal (Fits b) o
to_shape a b (Val v) f h = f (out-Value v) h.0
to_shape a b (Wrong p) f h = tt
to_shape a b (Big p) f h = tt

pub case_fits : (s t : State) (p : Place) (ms : List Denotation) (as' : List Sized) → KidsFit s t ms as' → IsTrue (all_sound as') →
    IsTrue (alike_all (branches_of (shapes_of as'))) → IfVal (Fits (join_all (branches_of (shapes_of as')))) (case_chosen p (outcomes ms s t))
case_fits s t p [] as' h e g = tt
case_fits s t p (m ∷ []) (a ∷ []) h e g = to_shape a (join a.shape Empty) (m.value s t) (join_left a.shape Empty) (h.0 (and_left a.sound true e))
case_fits s t p (m ∷ n ∷ ms) (a ∷ b ∷ as') h e g =
    let f = and_right a.sound (b.sound && all_sound as') e in
    let rest : Shape = join_all (branches_of (shapes_of as')) in
    let more : Bool = alike_all (branches_of (shapes_of as')) in
    choose_fits (Fits (join b.shape rest)) p (m.value s t) (n.value s t) (case_chosen p (outcomes ms s t))
    (to_shape b (join b.shape rest) (n.value s t) (join_left b.shape rest) (h.1.0 (and_left b.sound (all_sound as') f)))
    (weaker (Fits rest) (Fits (join b.shape rest)) (case_chosen p (outcomes ms s t)) (λ v k. join_right b.shape rest (out-Value v) (and_left (alike b.shape rest) more g) k)
    (case_fits s t p ms as' h.1.1 (and_right b.sound (all_sound as') f) (and_right (alike b.shape rest) more g)))
case_fits s t p (m ∷ []) [] h e g = absurd h
case_fits s t p (m ∷ []) (a ∷ b ∷ as') h e g = absurd h.1
case_fits s t p (m ∷ n ∷ ms) [] h e g = absurd h
case_fits s t p (m ∷ n ∷ ms) (a ∷ []) h e g = absurd h.1

-- an IF is a CASE of one arm and OTHER
pub if_fits : (s t : State) (p : Place) (ms : List Denotation) (as' : List Sized) → KidsFit s t ms as' → IsTrue (all_sound as') →
    IsTrue (alike_all (branches_of (shapes_of as'))) → IfVal (Fits (join_all (branches_of (shapes_of as')))) (if_chosen p (outcomes ms s t))
if_fits s t p (m ∷ n ∷ o ∷ []) as' h e g = case_fits s t p (m ∷ n ∷ o ∷ []) as' h e g
if_fits s t p [] as' h e g = tt
if_fits s t p (m ∷ []) as' h e g = tt
if_fits s t p (m ∷ n ∷ []) as' h e g = tt
if_fits s t p (m ∷ n ∷ o ∷ q ∷ ms) as' h e g = tt
