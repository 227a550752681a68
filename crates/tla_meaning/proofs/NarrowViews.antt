-- Scopes and views under a width, beside those without one.
use Rattle.std.proofs.Common.{◌≡◌, ℕ, zero, suc, Bool, true, false, ◌||◌, List, [], ◌∷◌, ◌++◌, take, drop, map, zip, length, Option, Some, None, refl, ap, ap₂, if◌then◌else◌}
use Rattle.tla_values.specs.declared.value.Value.{Value}
use Rattle.tla_meaning.specs.declared.place.Place.{Place}
use Rattle.tla_meaning.specs.declared.job.State.{State}
use Rattle.tla_meaning.specs.declared.actions.Assignable.{Assignable}
use Rattle.tla_meaning.specs.Scopes.{Denotation, Scope, bind, bound_to, define, pass, find_last, or_else, same_text, absent, stands_for}
use Rattle.tla_meaning.specs.Meaning.{Meaning, View, outcomes, denotations, child, forms, Role, Named, Held, Lets, Plain_role, view, outer, inner, let_scope}
use Rattle.tla_meaning.specs.Actions.{effects, any_mentions}
use Rattle.tla_meaning.specs.Numbers.{Width}
use Rattle.tla_meaning.specs.Widths.{Narrow, BothWrong}
use Rattle.tla_meaning.proofs.Narrow.{AllNarrow, none_narrow, more_narrow}
use Rattle.tla_meaning.proofs.NarrowForms.{NarrowForm, WrongForms, AllForms, no_formed, more_formed}
use Rattle.tla_meaning.proofs.NarrowEffects.{NarrowEffect, AllEffects, no_effects, more_effects, wrong_effect}

-- ---- senses

pub record NarrowDenotation (w : Width) (a b : Denotation) : Type 0 where
  pub value : (s t : State) → Narrow w (a.value s t) (b.value s t)
  pub form : (s t : State) → NarrowForm w (a.form s t) (b.form s t)
  pub act : (m : Assignable) (s t : State) → NarrowEffect w (a.act m s t) (b.act m s t)
  pub unchanged : (s t : State) → Narrow w (a.unchanged s t) (b.unchanged s t)
  pub mentions : (m : Assignable) → a.mentions m ≡ b.mentions m

pub data AllDenotations (w : Width) : List Denotation → List Denotation → Type 0 where
  no_denotations : AllDenotations w [] []
  more_denotations : {a b : Denotation} {as' bs : List Denotation} → NarrowDenotation w a b → AllDenotations w as' bs → AllDenotations w (a ∷ as') (b ∷ bs)

pub absent_narrow : {w : Width} → (p : Place) → NarrowDenotation w (absent p) (absent p)
absent_narrow p = record {
  value = λ s t. BothWrong p p;
  form = λ s t. WrongForms p p;
  act = λ m s t. wrong_effect p p;
  unchanged = λ s t. BothWrong p p;
  mentions = λ m. refl;
}

pub child_narrow : {w : Width} → (p : Place) (n : ℕ) {as' bs : List Denotation} → AllDenotations w as' bs → NarrowDenotation w (child p n as') (child p n bs)
child_narrow p n no_denotations = absent_narrow p
child_narrow p zero (more_denotations r rs) = r
child_narrow p (suc n) (more_denotations r rs) = child_narrow p n rs

pub take_narrow : {w : Width} → (n : ℕ) {as' bs : List Denotation} → AllDenotations w as' bs → AllDenotations w (take n as') (take n bs)
take_narrow zero rs = no_denotations
take_narrow (suc n) no_denotations = no_denotations
take_narrow (suc n) (more_denotations r rs) = more_denotations r (take_narrow n rs)

pub drop_narrow : {w : Width} → (n : ℕ) {as' bs : List Denotation} → AllDenotations w as' bs → AllDenotations w (drop n as') (drop n bs)
drop_narrow zero rs = rs
drop_narrow (suc n) no_denotations = no_denotations
drop_narrow (suc n) (more_denotations r rs) = drop_narrow n rs

pub append_narrow : {w : Width} → {as' bs cs ds : List Denotation} → AllDenotations w as' bs → AllDenotations w cs ds → AllDenotations w (as' ++ cs) (bs ++ ds)
append_narrow no_denotations qs = qs
append_narrow (more_denotations r rs) qs = more_denotations r (append_narrow rs qs)

pub outcomes_narrow : {w : Width} → {as' bs : List Denotation} → AllDenotations w as' bs → (s t : State) → AllNarrow w (outcomes as' s t) (outcomes bs s t)
outcomes_narrow no_denotations s t = none_narrow
outcomes_narrow (more_denotations r rs) s t = more_narrow (r.value s t) (outcomes_narrow rs s t)

pub unchanged_narrow : {w : Width} → {as' bs : List Denotation} → AllDenotations w as' bs → (s t : State) →
    AllNarrow w (map (λ (a : Denotation). a.unchanged s t) as') (map (λ (a : Denotation). a.unchanged s t) bs)
unchanged_narrow no_denotations s t = none_narrow
unchanged_narrow (more_denotations r rs) s t = more_narrow (r.unchanged s t) (unchanged_narrow rs s t)

pub forms_narrow : {w : Width} → {as' bs : List Denotation} → AllDenotations w as' bs → (s t : State) → AllForms w (forms as' s t) (forms bs s t)
forms_narrow no_denotations s t = no_formed
forms_narrow (more_denotations r rs) s t = more_formed (r.form s t) (forms_narrow rs s t)

pub effects_narrow : {w : Width} → (m : Assignable) {as' bs : List Denotation} → AllDenotations w as' bs → (s t : State) → AllEffects w (effects m as' s t) (effects m bs s t)
effects_narrow m no_denotations s t = no_effects
effects_narrow m (more_denotations {a = a} {b = b} r rs) s t = more_effects (a.act m s t) (b.act m s t) (r.act m s t) (effects_narrow m rs s t)

pub any_same : {w : Width} → (m : Assignable) {as' bs : List Denotation} → AllDenotations w as' bs → any_mentions m as' ≡ any_mentions m bs
any_same m no_denotations = refl
any_same m (more_denotations r rs) = ap₂ (λ (x y : Bool). x || y) (r.mentions m) (any_same m rs)

-- ---- scopes

abbrev pub NarrowDef : Width → (List Denotation → Denotation) → (List Denotation → Denotation) → Type 0
NarrowDef w d e = (as' bs : List Denotation) → AllDenotations w as' bs → NarrowDenotation w (d as') (e bs)

pub data AllNamed (w : Width) : List (List ℕ × (List Denotation → Denotation)) → List (List ℕ × (List Denotation → Denotation)) → Type 0 where
  no_named : AllNamed w [] []
  more_named : (x : List ℕ) (d e : List Denotation → Denotation) {ds es : List (List ℕ × (List Denotation → Denotation))} → NarrowDef w d e → AllNamed w ds es →
      AllNamed w ((x, d) ∷ ds) ((x, e) ∷ es)

-- the same bound values, and the same names
pub record NarrowScope (w : Width) (a b : Scope) : Type 0 where
  pub bound : a.bound ≡ b.bound
  pub named : AllNamed w a.named b.named

pub data NarrowFound (w : Width) : Option (List Denotation → Denotation) → Option (List Denotation → Denotation) → Type 0 where
  NotFound : NarrowFound w None None
  Found : (d e : List Denotation → Denotation) → NarrowDef w d e → NarrowFound w (Some d) (Some e)

or_else_narrow : {w : Width} → {a b c d : Option (List Denotation → Denotation)} → NarrowFound w a b → NarrowFound w c d → NarrowFound w (or_else a c) (or_else b d)
or_else_narrow NotFound s = s
or_else_narrow (Found d e r) s = Found d e r

if_found : {w : Width} → (c : Bool) (d e : List Denotation → Denotation) → NarrowDef w d e → NarrowFound w (if c then Some d else None) (if c then Some e else None)
if_found true d e r = Found d e r
if_found false d e r = NotFound

find_narrow : {w : Width} → (x : List ℕ) {ds es : List (List ℕ × (List Denotation → Denotation))} → AllNamed w ds es → NarrowFound w (find_last x ds) (find_last x es)
find_narrow x no_named = NotFound
find_narrow x (more_named y d e r rs) = or_else_narrow (find_narrow x rs) (if_found (same_text x y) d e r)

named_append : {w : Width} → {as' bs cs ds : List (List ℕ × (List Denotation → Denotation))} → AllNamed w as' bs → AllNamed w cs ds → AllNamed w (as' ++ cs) (bs ++ ds)
named_append no_named qs = qs
named_append (more_named x d e r rs) qs = more_named x d e r (named_append rs qs)

named_zip : {w : Width} → (xs : List (List ℕ)) {as' bs : List Denotation} → AllDenotations w as' bs →
    AllNamed w (zip xs (map (λ a. λ (_ : List Denotation). a) as')) (zip xs (map (λ a. λ (_ : List Denotation). a) bs))
named_zip [] rs = no_named
named_zip (x ∷ xs) no_denotations = no_named
named_zip (x ∷ xs) (more_denotations {a = a} {b = b} r rs) = more_named x (λ _. a) (λ _. b) (λ as' bs h. r) (named_zip xs rs)

bind_narrow : {w : Width} → (xs : List (List ℕ)) (vs : List Value) {a b : Scope} → NarrowScope w a b → NarrowScope w (bind xs vs a) (bind xs vs b)
bind_narrow xs vs r = record { bound = ap (λ (es : List (List ℕ × Value)). es ++ bound_to xs vs) r.bound; named = r.named }

define_narrow : {w : Width} → (x : List ℕ) (d e : List Denotation → Denotation) {a b : Scope} → NarrowDef w d e → NarrowScope w a b → NarrowScope w (define x d a) (define x e b)
define_narrow x d e h r = record { bound = r.bound; named = named_append r.named (more_named x d e h no_named) }

pass_narrow : {w : Width} → (xs : List (List ℕ)) {as' bs : List Denotation} {a b : Scope} → AllDenotations w as' bs → NarrowScope w a b →
    NarrowScope w (pass xs as' a) (pass xs bs b)
pass_narrow xs h r = record { bound = r.bound; named = named_append r.named (named_zip xs h) }

stands_for_narrow : {w : Width} → (p : Place) {o q : Option (List Denotation → Denotation)} {as' bs : List Denotation} → NarrowFound w o q → AllDenotations w as' bs →
    NarrowDenotation w (stands_for p o as') (stands_for p q bs)
stands_for_narrow p NotFound h = absent_narrow p
stands_for_narrow p {as' = as'} {bs = bs} (Found d e r) h = r as' bs h

-- ---- views

abbrev pub NarrowMeaning : Width → Meaning → Meaning → Type 0
NarrowMeaning w k l = (a b : Scope) → NarrowScope w a b → NarrowDenotation w (k a) (l b)

pub data AllMeanings (w : Width) : List Meaning → List Meaning → Type 0 where
  no_meanings : AllMeanings w [] []
  more_meanings : (k l : Meaning) {ks ls : List Meaning} → NarrowMeaning w k l → AllMeanings w ks ls → AllMeanings w (k ∷ ks) (l ∷ ls)

pub data NarrowWhole (w : Width) : Option Denotation → Option Denotation → Type 0 where
  NoWhole : NarrowWhole w None None
  IsWhole : (a b : Denotation) → NarrowDenotation w a b → NarrowWhole w (Some a) (Some b)

pub record NarrowView (w : Width) (v u : View) : Type 0 where
  pub here : AllDenotations w v.here u.here
  pub under : (vs : List Value) → AllDenotations w (v.under vs) (u.under vs)
  pub held : v.held ≡ u.held
  pub whole : NarrowWhole w v.whole u.whole

denotations_narrow : {w : Width} → {ks ls : List Meaning} (a b : Scope) → AllMeanings w ks ls → NarrowScope w a b → AllDenotations w (denotations ks a) (denotations ls b)
denotations_narrow a b no_meanings r = no_denotations
denotations_narrow a b (more_meanings k l h hs) r = more_denotations (h a b r) (denotations_narrow a b hs r)

outer_narrow : {w : Width} → (p : Place) (ms : List Bool) {ks ls : List Meaning} (a b : Scope) → AllMeanings w ks ls → NarrowScope w a b →
    AllDenotations w (outer p ms ks a) (outer p ms ls b)
outer_narrow p ms a b no_meanings r = no_denotations
outer_narrow p [] a b (more_meanings k l h hs) r = more_denotations (h a b r) (outer_narrow p [] a b hs r)
outer_narrow p (true ∷ ms) a b (more_meanings k l h hs) r = more_denotations (absent_narrow p) (outer_narrow p ms a b hs r)
outer_narrow p (false ∷ ms) a b (more_meanings k l h hs) r = more_denotations (h a b r) (outer_narrow p ms a b hs r)

inner_narrow : {w : Width} → (p : Place) (ms : List Bool) {ks ls : List Meaning} (a b : Scope) → AllMeanings w ks ls → NarrowScope w a b →
    AllDenotations w (inner p ms ks a) (inner p ms ls b)
inner_narrow p ms a b no_meanings r = no_denotations
inner_narrow p [] a b (more_meanings k l h hs) r = more_denotations (absent_narrow p) (inner_narrow p [] a b hs r)
inner_narrow p (true ∷ ms) a b (more_meanings k l h hs) r = more_denotations (h a b r) (inner_narrow p ms a b hs r)
inner_narrow p (false ∷ ms) a b (more_meanings k l h hs) r = more_denotations (absent_narrow p) (inner_narrow p ms a b hs r)

let_narrow : {w : Width} → (ds : List (List ℕ × ℕ)) (xs : List (List ℕ)) {ks ls : List Meaning} (a b : Scope) → AllMeanings w ks ls → NarrowScope w a b →
    NarrowScope w (let_scope ds xs ks a) (let_scope ds xs ls b)
let_narrow (d ∷ ds) xs a b (more_meanings k l h hs) r =
    let da : List Denotation → Denotation = λ as'. k (pass (take d.1 xs) as' a) in
    let db : List Denotation → Denotation = λ as'. l (pass (take d.1 xs) as' b) in
    let_narrow ds (drop d.1 xs) (define d.0 da a) (define d.0 db b) hs
    (define_narrow d.0 da db (λ as' bs g. h (pass (take d.1 xs) as' a) (pass (take d.1 xs) bs b) (pass_narrow (take d.1 xs) g r)) r)
let_narrow ds xs a b hs r = r

pub view_narrow : {w : Width} → (p : Place) (o : Role) (xs : List (List ℕ)) {ks ls : List Meaning} (a b : Scope) → AllMeanings w ks ls → NarrowScope w a b →
    NarrowView w (view p o xs ks a) (view p o xs ls b)
view_narrow {w = w} p (Named x) xs {ks = ks} {ls = ls} a b hs r =
    let here : AllDenotations w (denotations ks a) (denotations ls b) = denotations_narrow a b hs r in
    record {
      here = here;
      under = λ vs. no_denotations;
      held = refl;
      whole = IsWhole (stands_for p (find_last x a.named) (denotations ks a)) (stands_for p (find_last x b.named) (denotations ls b))
          (stands_for_narrow p (find_narrow x r.named) here);
    }
view_narrow p (Held x) xs a b hs r = record {
  here = denotations_narrow a b hs r;
  under = λ vs. no_denotations;
  held = ap (λ (es : List (List ℕ × Value)). find_last x es) r.bound;
  whole = NoWhole;
}
view_narrow {w = w} p (Lets ds) xs {ks = ks} {ls = ls} a b hs r = record {
  here = denotations_narrow a b hs r;
  under = λ vs. no_denotations;
  held = refl;
  whole = IsWhole (child p (length ds) (denotations ks (let_scope ds xs ks a))) (child p (length ds) (denotations ls (let_scope ds xs ls b)))
      (child_narrow p (length ds) (denotations_narrow (let_scope ds xs ks a) (let_scope ds xs ls b) hs (let_narrow ds xs a b hs r)));
}
view_narrow p (Plain_role ms) xs a b hs r = record {
  here = outer_narrow p ms a b hs r;
  under = λ vs. inner_narrow p ms (bind xs vs a) (bind xs vs b) hs (bind_narrow xs vs r);
  held = refl;
  whole = NoWhole;
}
