-- A node depends on its scope and its children only through its view.
use Rattle.std.proofs.Common.{◌≡◌, ℕ, zero, suc, Bool, true, false, not, ◌&&◌, IsTrue, List, [], ◌∷◌, ◌++◌, take, drop, length, refl, ap, ap₂, subst, Some, None}
use Rattle.std.specs.List.{list_all}
use Rattle.tla_values.specs.declared.value.Value.{Value}
use Rattle.tla_meaning.specs.declared.op.Op.{Op}
use Rattle.tla_meaning.specs.declared.place.Place.{Place}
use Rattle.tla_meaning.specs.Numbers.{Width}
use Rattle.tla_meaning.specs.Scopes.{Scope, Denotation, absent, bind, define, pass, find_last, stands_for}
use Rattle.tla_meaning.specs.Meaning.{Meaning, denotations, child, Role, Named, Held, Lets, Plain_role, role, view, outer, inner, let_scope}
use Rattle.tla_meaning.specs.Actions.{node, denotation_of}
use Rattle.tla_meaning.specs.Substitution.{apart, lets_apart}

-- meanings that agree at related scopes
abbrev pub Agree : (Scope → Scope → Type 0) → Meaning → Meaning → Type 0
Agree R k l = (a b : Scope) → R a b → k a ≡ l b

abbrev pub AllAgree : (Scope → Scope → Type 0) → List Meaning → List Meaning → Type 0
AllAgree R [] [] = Unit {0}
AllAgree R [] (l ∷ ls) = ⊥
AllAgree R (k ∷ ks) [] = ⊥
AllAgree R (k ∷ ks) (l ∷ ls) = Agree R k l × AllAgree R ks ls

abbrev pub extend : List (List ℕ × (List Denotation → Denotation)) → Scope → Scope
extend es sc = record sc { named = sc.named ++ es }

-- a relation of scopes that survives new definitions outside of a set
pub record Survives (S : List ℕ → Bool) (R : Scope → Scope → Type 0) : Type 0 where
  pub passed : (xs : List (List ℕ)) (as' : List Denotation) (a b : Scope) → IsTrue (apart S xs) → R a b → R (pass xs as' a) (pass xs as' b)
  pub defined : (x : List ℕ) (d : List Denotation → Denotation) (a b : Scope) → IsTrue (not (S x)) → R a b → R (define x d a) (define x d b)

-- the same, where the children that stand under bound names agree by a second relation
abbrev pub Marked : (R Q : Scope → Scope → Type 0) → List Bool → List Meaning → List Meaning → Type 0
Marked R Q ms [] [] = Unit {0}
Marked R Q ms [] (l ∷ ls) = ⊥
Marked R Q ms (k ∷ ks) [] = ⊥
Marked R Q [] (k ∷ ks) (l ∷ ls) = Agree R k l × Marked R Q [] ks ls
Marked R Q (true ∷ ms) (k ∷ ks) (l ∷ ls) = Agree Q k l × Marked R Q ms ks ls
Marked R Q (false ∷ ms) (k ∷ ks) (l ∷ ls) = Agree R k l × Marked R Q ms ks ls

pub marked : (R : Scope → Scope → Type 0) (ms : List Bool) (ks ls : List Meaning) → AllAgree R ks ls → Marked R R ms ks ls
marked R ms [] [] h = tt
marked R ms [] (l ∷ ls) h = absurd h
marked R ms (k ∷ ks) [] h = absurd h
marked R [] (k ∷ ks) (l ∷ ls) h = (h.0, marked R [] ks ls h.1)
marked R (true ∷ ms) (k ∷ ks) (l ∷ ls) h = (h.0, marked R ms ks ls h.1)
marked R (false ∷ ms) (k ∷ ks) (l ∷ ls) h = (h.0, marked R ms ks ls h.1)

-- the same node but for the names: what it looks up, and its children under its bound names
pub data SameNames (S : List ℕ → Bool) (R Q : Scope → Scope → Type 0) (a b : Scope) (ks ls : List Meaning) : Role → Role → List (List ℕ) → List (List ℕ) → Type 0 where
  same-named : {x y : List ℕ} {xs ys : List (List ℕ)} → AllAgree R ks ls → find_last x a.named ≡ find_last y b.named → SameNames S R Q a b ks ls (Named x) (Named y) xs ys
  same-held : {x y : List ℕ} {xs ys : List (List ℕ)} → AllAgree R ks ls → find_last x a.bound ≡ find_last y b.bound → SameNames S R Q a b ks ls (Held x) (Held y) xs ys
  same-lets : {ds : List (List ℕ × ℕ)} {xs : List (List ℕ)} → AllAgree R ks ls → IsTrue (lets_apart S (Lets ds)) → IsTrue (apart S xs) → SameNames S R Q a b ks ls (Lets ds) (Lets ds) xs xs
  same-under : {ms : List Bool} {xs ys : List (List ℕ)} → Marked R Q ms ks ls → ((vs : List Value) → Q (bind xs vs a) (bind ys vs b)) → SameNames S R Q a b ks ls (Plain_role ms) (Plain_role ms) xs ys

pub false≢true : false ≡ true → ⊥
false≢true e = cc

pub and_left : (a b : Bool) → IsTrue (a && b) → IsTrue a
and_left true b h = refl
and_left false b h = h

pub and_right : (a b : Bool) → IsTrue (a && b) → IsTrue b
and_right true b h = h
and_right false b h = absurd (false≢true h)

pub and_both : (a b : Bool) → IsTrue a → IsTrue b → IsTrue (a && b)
and_both true b h k = k
and_both false b h k = absurd (false≢true h)

apart-take : (S : List ℕ → Bool) (n : ℕ) (xs : List (List ℕ)) → IsTrue (apart S xs) → IsTrue (apart S (take n xs))
apart-take S zero xs h = refl
apart-take S (suc n) [] h = refl
apart-take S (suc n) (x ∷ xs) h =
    and_both (not (S x)) (apart S (take n xs)) (and_left (not (S x)) (apart S xs) h) (apart-take S n xs (and_right (not (S x)) (apart S xs) h))

apart-drop : (S : List ℕ → Bool) (n : ℕ) (xs : List (List ℕ)) → IsTrue (apart S xs) → IsTrue (apart S (drop n xs))
apart-drop S zero xs h = h
apart-drop S (suc n) [] h = refl
apart-drop S (suc n) (x ∷ xs) h = apart-drop S n xs (and_right (not (S x)) (apart S xs) h)

pub denotations_same : (R : Scope → Scope → Type 0) (ks ls : List Meaning) (a b : Scope) →
    AllAgree R ks ls → R a b → denotations ks a ≡ denotations ls b
denotations_same R [] [] a b h r = refl
denotations_same R [] (l ∷ ls) a b h r = absurd h
denotations_same R (k ∷ ks) [] a b h r = absurd h
denotations_same R (k ∷ ks) (l ∷ ls) a b h r = ap₂ (λ (x : Denotation) (xs : List Denotation). x ∷ xs) (h.0 a b r) (denotations_same R ks ls a b h.1 r)

lets_same : (S : List ℕ → Bool) (R : Scope → Scope → Type 0) → Survives S R →
    (ds : List (List ℕ × ℕ)) (xs : List (List ℕ)) (ks ls : List Meaning) (a b : Scope) →
    IsTrue (list_all (λ d. not (S d.0)) ds) → IsTrue (apart S xs) → AllAgree R ks ls → R a b →
    R (let_scope ds xs ks a) (let_scope ds xs ls b)
lets_same S R c [] xs ks ls a b f g h r = r
lets_same S R c (d ∷ ds) xs [] [] a b f g h r = r
lets_same S R c (d ∷ ds) xs [] (l ∷ ls) a b f g h r = absurd h
lets_same S R c (d ∷ ds) xs (k ∷ ks) [] a b f g h r = absurd h
lets_same S R c (d ∷ ds) xs (k ∷ ks) (l ∷ ls) a b f g h r =
    let p : List (List ℕ) = take d.1 xs in
    let da : List Denotation → Denotation = λ as'. k (pass p as' a) in
    let db : List Denotation → Denotation = λ as'. l (pass p as' b) in
    let q : da ≡ db = λ i. λ as'. h.0 (pass p as' a) (pass p as' b) (c.passed p as' a b (apart-take S d.1 xs g) r) i in
    let new : R (define d.0 da a) (define d.0 db b) =
    subst (λ (e : List Denotation → Denotation). R (define d.0 da a) (define d.0 e b)) q
    (c.defined d.0 da a b (and_left (not (S d.0)) (list_all (λ d. not (S d.0)) ds) f) r) in
    lets_same S R c ds (drop d.1 xs) ks ls (define d.0 da a) (define d.0 db b)
    (and_right (not (S d.0)) (list_all (λ d. not (S d.0)) ds) f) (apart-drop S d.1 xs g) h.1 new

pub outer_same : (R Q : Scope → Scope → Type 0) (p : Place) (ms : List Bool) (ks ls : List Meaning) (a b : Scope) →
    Marked R Q ms ks ls → R a b → outer p ms ks a ≡ outer p ms ls b
outer_same R Q p ms [] [] a b h r = refl
outer_same R Q p ms [] (l ∷ ls) a b h r = absurd h
outer_same R Q p ms (k ∷ ks) [] a b h r = absurd h
outer_same R Q p [] (k ∷ ks) (l ∷ ls) a b h r = ap₂ (λ (x : Denotation) (xs : List Denotation). x ∷ xs) (h.0 a b r) (outer_same R Q p [] ks ls a b h.1 r)
outer_same R Q p (true ∷ ms) (k ∷ ks) (l ∷ ls) a b h r = ap (λ (xs : List Denotation). absent p ∷ xs) (outer_same R Q p ms ks ls a b h.1 r)
outer_same R Q p (false ∷ ms) (k ∷ ks) (l ∷ ls) a b h r = ap₂ (λ (x : Denotation) (xs : List Denotation). x ∷ xs) (h.0 a b r) (outer_same R Q p ms ks ls a b h.1 r)

pub inner_same : (R Q : Scope → Scope → Type 0) (p : Place) (ms : List Bool) (ks ls : List Meaning) (a b : Scope) →
    Marked R Q ms ks ls → Q a b → inner p ms ks a ≡ inner p ms ls b
inner_same R Q p ms [] [] a b h r = refl
inner_same R Q p ms [] (l ∷ ls) a b h r = absurd h
inner_same R Q p ms (k ∷ ks) [] a b h r = absurd h
inner_same R Q p [] (k ∷ ks) (l ∷ ls) a b h r = ap (λ (xs : List Denotation). absent p ∷ xs) (inner_same R Q p [] ks ls a b h.1 r)
inner_same R Q p (true ∷ ms) (k ∷ ks) (l ∷ ls) a b h r = ap₂ (λ (x : Denotation) (xs : List Denotation). x ∷ xs) (h.0 a b r) (inner_same R Q p ms ks ls a b h.1 r)
inner_same R Q p (false ∷ ms) (k ∷ ks) (l ∷ ls) a b h r = ap (λ (xs : List Denotation). absent p ∷ xs) (inner_same R Q p ms ks ls a b h.1 r)

pub view_same : (S : List ℕ → Bool) (R Q : Scope → Scope → Type 0) → Survives S R →
    (p : Place) (ks ls : List Meaning) (a b : Scope) → R a b →
    (o q : Role) (xs ys : List (List ℕ)) → SameNames S R Q a b ks ls o q xs ys →
    view p o xs ks a ≡ view p q ys ls b
view_same S R Q c p ks ls a b r _ _ _ _ (same-named h e) = λ i. record {
  here = denotations_same R ks ls a b h r i;
  under = λ vs. [];
  held = None;
  whole = Some (stands_for p (e i) (denotations_same R ks ls a b h r i));
}
view_same S R Q c p ks ls a b r _ _ _ _ (same-held h e) = λ i. record {
  here = denotations_same R ks ls a b h r i;
  under = λ vs. [];
  held = e i;
  whole = None;
}
view_same S R Q c p ks ls a b r _ _ _ _ (same-lets {ds = ds} {xs = xs} h f g) = λ i. record {
  here = denotations_same R ks ls a b h r i;
  under = λ vs. [];
  held = None;
  whole = Some (child p (length ds) (denotations_same R ks ls (let_scope ds xs ks a) (let_scope ds xs ls b) h (lets_same S R c ds xs ks ls a b f g h r) i));
}
view_same S R Q c p ks ls a b r _ _ _ _ (same-under {ms = ms} {xs = xs} {ys = ys} h u) = λ i. record {
  here = outer_same R Q p ms ks ls a b h r i;
  under = λ vs. inner_same R Q p ms ks ls (bind xs vs a) (bind ys vs b) h (u vs) i;
  held = None;
  whole = None;
}

-- a node means the same of children that agree, for every operator
pub node_same : (w : Width) (S : List ℕ → Bool) (R Q : Scope → Scope → Type 0) → Survives S R →
    (p : Place) (o : Op) (xs : List (List ℕ)) (ks ls : List Meaning) (a b : Scope) →
    R a b → SameNames S R Q a b ks ls (role o (length xs)) (role o (length xs)) xs xs →
    node w (record { place = p; op = o; args = ks; binds = xs }) a ≡ node w (record { place = p; op = o; args = ls; binds = xs }) b
node_same w S R Q c p o xs ks ls a b r n =
    ap (denotation_of w p o (length xs)) (view_same S R Q c p ks ls a b r (role o (length xs)) (role o (length xs)) xs xs n)
