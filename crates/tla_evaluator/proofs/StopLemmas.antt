-- What stops an evaluation.
use Rattle.std.proofs.Common.{◌≡◌, ℕ, ◌++◌, append-nil, ap₂, option_and_then, if◌then◌else◌, ◌+◌, ◌<◌, ◌≤◌, Bool, true, false, List, [], ◌∷◌, map, drop, get_or, length, refl, ap, ◌∙◌, sym, subst, Result, Ok, Err, arith}
use Rattle.std.specs.Prelude.{IfOk}
use Rattle.tla_evaluator.proofs.Words.{All, Broken, Expr, Fault, Formed, IsBig, IsWrong, Made, NoFault, Normal, Outcome, Place, SetForm, Update, Value, all_set_forms, both_unit, choose, conjoined, disjoined, fault_of, fault_or, fault_or_form, first_updated, form_fault, form_faults, form_of_all, function_form, functions_from, implied, in_form, is_set_form, join_faults, joined, layer_of, made, map-append, out-Value, set_items, strict, updated, values, yes_no}
use Rattle.tla_meaning.specs.declared.outcome.Outcome.TheVariants as outcome
use Rattle.tla_evaluator.specs.declared.answers.Stop.{Stop}
use Rattle.tla_evaluator.specs.declared.answers.Stop.TheVariants.{Wrong, Big, Memory}
use Rattle.tla_evaluator.specs.inner.Gives.{Gives, GivesAll, GivesForm, GivesForms, Joins, both}
use Rattle.tla_evaluator.specs.inner.Nodes.{except_in, index_trees, junction, paths_in, updates_in}
use Rattle.tla_evaluator.specs.inner.Readings.{Reading, outcomes_in, value_in}
use Rattle.tla_evaluator.proofs.EvalSteps.{chosen, map_next}

pub gives_as : (r : Result Value Stop) {x y : Outcome} → x ≡ y → Gives x r → Gives y r
gives_as r e h = subst (λ o. Gives o r) e h

pub form_gives_as : (r : Result SetForm Stop) {x y : Formed} → x ≡ y → GivesForm x r → GivesForm y r
form_gives_as r e h = subst (λ o. GivesForm o r) e h

-- ---- guards

module _ {X : Type 0} (f : X → Outcome) (xs : List X) where
  pub junction_stops : (s : Stop) (d : Bool) (p : Place) (i : ℕ) (x : X) → i < length xs → x ≡ get_or xs i x →
      ((y z : Outcome) → Gives (choose p (f x) y z) (Err s)) → junction d p (map f (drop i xs)) ≡ junction d p (map f xs) → Gives (junction d p (map f xs)) (Err s)
  junction_stops s d p i x lt is h k =
      subst (λ o. Gives o (Err s)) (ap (junction d p) (sym (map_next f xs i x (f x) lt is refl)) ∙ k) (by d)
    where
      by : (d : Bool) → Gives (junction d p (f x ∷ map f (drop (i + 1) xs))) (Err s)
      by true = h (yes_no true) (disjoined p (map f (drop (i + 1) xs)))
      by false = h (conjoined p (map f (drop (i + 1) xs))) (yes_no false)

-- ---- what joins its operands

pub strict_goes : (vs : List Value) (os : List Outcome) (g : List Value → Outcome) → GivesAll (joined os) (values os) (Ok vs) → g vs ≡ strict os g
strict_goes vs os g h = ap g (sym h.1) ∙ ap (λ f. fault_or f (g (values os))) (sym h.0)

-- ---- two that are joined

-- the fault of an answer
abbrev pub StopsBy : Fault → Stop → Type 0
StopsBy f (Wrong p) = f ≡ IsWrong p
StopsBy f (Big p) = f ≡ IsBig p
StopsBy f (Memory e) = Unit {0}

abbrev pub GivesFault : {X : Type 0} → Fault → Result X Stop → Type 0
GivesFault f (Ok x) = f ≡ NoFault
GivesFault f (Err s) = StopsBy f s

pub joins_both : {X Y : Type 0} (a : Result X Stop) (b : Result Y Stop) (f g : Fault) → GivesFault f a → GivesFault g b → GivesFault (join_faults f g) (both a b)
joins_both (Ok x) (Ok y) f g h k = ap₂ join_faults h k
joins_both (Ok x) (Err (Wrong q)) f g h k = ap₂ join_faults h k
joins_both (Ok x) (Err (Big q)) f g h k = ap₂ join_faults h k
joins_both (Ok x) (Err (Memory e)) f g h k = tt
joins_both (Err (Wrong p)) (Ok y) f g h k = ap₂ join_faults h k
joins_both (Err (Wrong p)) (Err (Wrong q)) f g h k = ap₂ join_faults h k
joins_both (Err (Wrong p)) (Err (Big q)) f g h k = ap₂ join_faults h k
joins_both (Err (Wrong p)) (Err (Memory e)) f g h k = tt
joins_both (Err (Big p)) (Ok y) f g h k = ap₂ join_faults h k
joins_both (Err (Big p)) (Err (Wrong q)) f g h k = ap₂ join_faults h k
joins_both (Err (Big p)) (Err (Big q)) f g h k = ap₂ join_faults h k
joins_both (Err (Big p)) (Err (Memory e)) f g h k = tt
joins_both (Err (Memory e)) (Ok y) f g h k = tt
joins_both (Err (Memory e)) (Err t) f g h k = tt

pub both_parts : {X Y : Type 0} (a : Result X Stop) (b : Result Y Stop) (z : X × Y) → both a b ≡ Ok z → (a ≡ Ok z.0) × (b ≡ Ok z.1)
both_parts {X} {Y} (Ok x) (Ok y) z e =
    let pair : X × Y = (x, y) in
    let same : pair ≡ z = cc in (ap (λ u. Ok u.0) same, ap (λ u. Ok u.1) same)
both_parts (Ok x) (Err t) z e = absurd (cc)
both_parts (Err s) (Ok y) z e = absurd (cc)
both_parts (Err s) (Err t) z e = absurd (cc)

pub value_fault : (a : Result Value Stop) (o : Outcome) → Gives o a → GivesFault (fault_of o) a
value_fault (Ok v) o h = ap fault_of h
value_fault (Err (Wrong p)) o h = ap fault_of h
value_fault (Err (Big p)) o h = ap fault_of h
value_fault (Err (Memory e)) o h = tt

abbrev pub formed : List SetForm → List Formed
formed gs = map (λ g. Made g) gs

pub no_form_faults : (gs : List SetForm) → form_faults (formed gs) ≡ NoFault
no_form_faults [] = refl
no_form_faults (g ∷ gs) = no_form_faults gs

pub made_all : (gs : List SetForm) → made (formed gs) ≡ gs
made_all [] = refl
made_all (g ∷ gs) = ap (λ l. g ∷ l) (made_all gs)

pub forms_fault : (a : Result (List SetForm) Stop) (fs : List Formed) → GivesForms fs a → GivesFault (form_faults fs) a
forms_fault (Ok gs) fs h = ap form_faults h ∙ no_form_faults gs
forms_fault (Err (Wrong p)) fs h = h
forms_fault (Err (Big p)) fs h = h
forms_fault (Err (Memory e)) fs h = tt

pub form_fault_stops : (s : Stop) (f : Fault) (d : Formed) → StopsBy f s → GivesForm (fault_or_form f d) (Err s)
form_fault_stops (Wrong p) f d h = ap (λ g. fault_or_form g d) h
form_fault_stops (Big p) f d h = ap (λ g. fault_or_form g d) h
form_fault_stops (Memory e) f d h = tt

pub gives_all_as : {X : Type 0} (a : Result (List X) Stop) {f g : Fault} {xs ys : List X} → f ≡ g → xs ≡ ys → GivesAll f xs a → GivesAll g ys a
gives_all_as a {f = f} {ys = ys} e d h = subst (λ k. GivesAll k ys a) e (subst (λ zs. GivesAll f zs a) d h)

pub given_normal : (a : Result (List Value) Stop) (f : Fault) (xs : List Value) → GivesAll f xs a → All Normal xs → IfOk a (λ vs. All Normal vs)
given_normal (Ok vs) f xs h k = subst (λ l. All Normal l) h.1 k
given_normal (Err s) f xs h k = tt

-- ---- memberships

module _ (p : Place) (test : Value → SetForm → Outcome) (os : List Outcome) (d : Formed) where
  abbrev without : Fault → Outcome
  without f = elim f as (λ _. Outcome) [ NoFault ↦ outcome.Wrong p | IsWrong q ↦ outcome.Wrong q | IsBig q ↦ outcome.Big q ]

  pub membership_goes : (z : Value × SetForm) (a : Result Value Stop) (b : Result SetForm Stop) (o : Outcome) (f : Formed) → Gives o a → GivesForm f b → both a b ≡ Ok z →
      (if is_set_form z.1 then test z.0 z.1 else outcome.Wrong p) ≡ in_form p test (o ∷ os) (d ∷ f ∷ [])
  membership_goes z a b o f h k e =
      let parts = both_parts a b z e in
      let ho : o ≡ outcome.Val z.0 = subst (λ (r : Result Value Stop). Gives o r) parts.0 h in
      let hf : f ≡ Made z.1 = subst (λ (r : Result SetForm Stop). GivesForm f r) parts.1 k in
      sym (ap (λ q. in_form p test (q ∷ os) (d ∷ f ∷ [])) ho ∙ ap (λ g. in_form p test (outcome.Val z.0 ∷ os) (d ∷ g ∷ [])) hf)

-- ---- sets of functions

module _ (p : Place) (os : List Outcome) (d : Formed) (a : Result Value Stop) (b : Result (List SetForm) Stop) (o : Outcome) (fs : List Formed) (ha : Gives o a) (hb : GivesForms fs b) where
  pub functions_stop : (s : Stop) → both a b ≡ Err s → GivesForm (function_form p (o ∷ os) (d ∷ fs)) (Err s)
  functions_stop s e =
      form_fault_stops s (join_faults (fault_of o) (form_faults fs)) (functions_from p (option_and_then set_items (layer_of o)) fs)
      (subst (λ (z : Result (Value × List SetForm) Stop). GivesFault (join_faults (fault_of o) (form_faults fs)) z) e
      (joins_both a b (fault_of o) (form_faults fs) (value_fault a o ha) (forms_fault b fs hb)))

  pub functions_go : (z : Value × List SetForm) → both a b ≡ Ok z →
      functions_from p (set_items (out-Value z.0)) (map (λ g. Made g) z.1) ≡ function_form p (o ∷ os) (d ∷ fs)
  functions_go z e =
      let parts = both_parts a b z e in
      let ho : o ≡ outcome.Val z.0 = subst (λ (r : Result Value Stop). Gives o r) parts.0 ha in
      let hf : fs ≡ map (λ g. Made g) z.1 = subst (λ (r : Result (List SetForm) Stop). GivesForms fs r) parts.1 hb in
      sym (ap (λ q. function_form p (q ∷ os) (d ∷ fs)) ho ∙ ap (λ l. function_form p (outcome.Val z.0 ∷ os) (d ∷ l)) hf
      ∙ ap (λ f. fault_or_form f (functions_from p (set_items (out-Value z.0)) (map (λ g. Made g) z.1))) (no_form_faults z.1))

-- ---- forms that are each a set form

pub several_are : (p : Place) (make : List SetForm → SetForm) (gs : List SetForm) →
    form_of_all p make (map (λ g. Made g) gs) ≡ (if all_set_forms gs then Made (make gs) else Broken (IsWrong p))
several_are p make gs = ap₂ (λ f hs. fault_or_form f (if all_set_forms hs then Made (make hs) else Broken (IsWrong p))) (no_form_faults gs) (made_all gs)

-- ---- two operands

pub two_items : {X : Type 0} (xs : List X) (a b : X) → 2 ≤ length xs → length xs < 3 → a ≡ get_or xs 0 a → b ≡ get_or xs 1 b → xs ≡ a ∷ b ∷ []
two_items [] a b low high ia ib = absurd (omega (arith, low))
two_items (x ∷ []) a b low high ia ib = absurd (omega (arith, low))
two_items (x ∷ y ∷ []) a b low high ia ib = ap (λ z. z ∷ y ∷ []) (sym ia) ∙ ap (λ z. a ∷ z ∷ []) (sym ib)
two_items (x ∷ y ∷ z ∷ zs) a b low high ia ib = absurd (omega (arith, high))

module _ {X : Type 0} (f : X → Outcome) (p : Place) (xs : List X) (a b : X) (two : xs ≡ a ∷ b ∷ []) where
  abbrev conclusion : Outcome
  conclusion = choose p (f b) (yes_no true) (yes_no false)

  whole : implied p (map f xs) ≡ choose p (f a) conclusion (yes_no true)
  whole = ap (λ l. implied p (map f l)) two

  pub premise_stops : (s : Stop) → ((y z : Outcome) → Gives (choose p (f a) y z) (Err s)) → Gives (implied p (map f xs)) (Err s)
  premise_stops s h = subst (λ o. Gives o (Err s)) (sym whole) (h conclusion (yes_no true))

  pub premise_fails : (c : Bool) → f a ≡ yes_no c → c ≡ false → implied p (map f xs) ≡ yes_no true
  premise_fails true is h = absurd (cc)
  premise_fails false is h = whole ∙ ap (λ o. choose p o conclusion (yes_no true)) is ∙ chosen false p conclusion (yes_no true)

  pub premise_holds : (c : Bool) → f a ≡ yes_no c → c ≡ true → implied p (map f xs) ≡ conclusion
  premise_holds true is h = whole ∙ ap (λ o. choose p o conclusion (yes_no true)) is ∙ chosen true p conclusion (yes_no true)
  premise_holds false is h = absurd (cc)

  pub conclusion_stops : (s : Stop) (c : Bool) → f a ≡ yes_no c → c ≡ true → ((y z : Outcome) → Gives (choose p (f b) y z) (Err s)) →
      Gives (implied p (map f xs)) (Err s)
  conclusion_stops s c is h k = subst (λ o. Gives o (Err s)) (sym (premise_holds c is h)) (k (yes_no true) (yes_no false))

  pub conclusion_is : (c d : Bool) → f a ≡ yes_no c → c ≡ true → f b ≡ yes_no d → implied p (map f xs) ≡ yes_no d
  conclusion_is c d is h k = premise_holds c is h ∙ ap (λ o. choose p o (yes_no true) (yes_no false)) k ∙ by d
    where
      by : (d : Bool) → choose p (yes_no d) (yes_no true) (yes_no false) ≡ yes_no d
      by true = chosen true p (yes_no true) (yes_no false)
      by false = chosen false p (yes_no true) (yes_no false)

-- ---- EXCEPT

one_item : {X : Type 0} (xs : List X) (a : X) → 1 ≤ length xs → a ≡ get_or xs 0 a → xs ≡ a ∷ drop 1 xs
one_item [] a low is = absurd (omega (arith, low))
one_item (x ∷ xs) a low is = ap (λ z. z ∷ xs) (sym is)

module _ (r : Reading) (p : Place) (ns : List ℕ) (xs : List (List ℕ)) (es rest : List Expr) (e : Expr) (some : 1 ≤ length es) (is : e ≡ get_or es 0 e) (back : rest ≡ drop 1 es)
    (a : Result Value Stop) (b : Result (List (ℕ × List Value)) Stop) (ha : Gives (value_in r e) a) (hb : GivesAll (joined (outcomes_in r (index_trees ns rest))) (paths_in r ns rest) b) where
  abbrev fault : Fault
  fault = join_faults (fault_of (value_in r e)) (joined (outcomes_in r (index_trees ns rest)))

  all : strict (value_in r e ∷ outcomes_in r (index_trees ns rest)) (first_updated p (updates_in r p xs (paths_in r ns rest) rest)) ≡ except_in r p ns xs es
  all = ap (λ l. except_in r p ns xs (e ∷ l)) back ∙ ap (except_in r p ns xs) (sym (one_item es e some is))

  pub except_goes : (z : Value × List (ℕ × List Value)) → both a b ≡ Ok z →
      (value_in r e ≡ outcome.Val z.0) × (updated p (updates_in r p xs z.1 rest) z.0 ≡ except_in r p ns xs es)
  except_goes z k =
      let parts = both_parts a b z k in
      let value : value_in r e ≡ outcome.Val z.0 = subst (λ (q : Result Value Stop). Gives (value_in r e) q) parts.0 ha in
      let found : (joined (outcomes_in r (index_trees ns rest)) ≡ NoFault) × (paths_in r ns rest ≡ z.1) =
      subst (λ (q : Result (List (ℕ × List Value)) Stop). GivesAll (joined (outcomes_in r (index_trees ns rest))) (paths_in r ns rest) q) parts.1 hb in
      let us : List (ℕ × List Value) → List Update = λ ps. updates_in r p xs ps rest in (
        value,
        ap (λ ps. updated p (us ps) z.0) (sym found.1)
            ∙ sym (ap (λ o. strict (o ∷ outcomes_in r (index_trees ns rest)) (first_updated p (us (paths_in r ns rest)))) value
            ∙ ap (λ f. fault_or f (updated p (us (paths_in r ns rest)) z.0)) found.0)
            ∙ all,
      )

-- ---- one more

pub joins_value : (a : Result Value Stop) (o : Outcome) (f g : Fault) (xs ys : List Value) → Gives o a → Joins f xs a g ys →
    (g ≡ join_faults f (fault_of o)) × (ys ≡ xs ++ values (o ∷ []))
joins_value (Ok v) o f g xs ys h k = (k.0 ∙ sym (both_unit f) ∙ ap (λ q. join_faults f (fault_of q)) (sym h), k.1 ∙ ap (λ q. xs ++ values (q ∷ [])) (sym h))
joins_value (Err (Wrong p)) o f g xs ys h k = (k.0 ∙ ap (λ q. join_faults f (fault_of q)) (sym h), k.1 ∙ sym (append-nil xs) ∙ ap (λ q. xs ++ values (q ∷ [])) (sym h))
joins_value (Err (Big p)) o f g xs ys h k = (k.0 ∙ ap (λ q. join_faults f (fault_of q)) (sym h), k.1 ∙ sym (append-nil xs) ∙ ap (λ q. xs ++ values (q ∷ [])) (sym h))
joins_value (Err (Memory e)) o f g xs ys h k = absurd k

never_none : (f g : Fault) → (g ≡ NoFault → ⊥) → join_faults f g ≡ NoFault → ⊥
never_none NoFault g h e = h e
never_none (IsWrong q) NoFault h e = h refl
never_none (IsWrong q) (IsWrong r) h e = cc
never_none (IsWrong q) (IsBig r) h e = cc
never_none (IsBig q) NoFault h e = h refl
never_none (IsBig q) (IsWrong r) h e = cc
never_none (IsBig q) (IsBig r) h e = cc

-- without a fault every form so far was made
pub joins_form : (a : Result SetForm Stop) (d : Formed) (f g : Fault) (xs ys : List SetForm) → GivesForm d a → Joins f xs a g ys →
    (g ≡ join_faults f (form_fault d)) × (g ≡ NoFault → (f ≡ NoFault) × (formed ys ≡ formed xs ++ d ∷ []))
joins_form (Ok v) d f g xs ys h k = (
  k.0 ∙ sym (both_unit f) ∙ ap (λ q. join_faults f (form_fault q)) (sym h),
  λ none. (sym k.0 ∙ none, ap formed k.1 ∙ map-append (λ g. Made g) xs (v ∷ []) ∙ ap (λ q. formed xs ++ q ∷ []) (sym h)),
)
joins_form (Err (Wrong p)) d f g xs ys h k =
    (k.0 ∙ ap (λ q. join_faults f (form_fault q)) (sym h), λ none. absurd (never_none f (IsWrong p) (λ e. cc) (sym k.0 ∙ none)))
joins_form (Err (Big p)) d f g xs ys h k =
    (k.0 ∙ ap (λ q. join_faults f (form_fault q)) (sym h), λ none. absurd (never_none f (IsBig p) (λ e. cc) (sym k.0 ∙ none)))
joins_form (Err (Memory e)) d f g xs ys h k = absurd k
