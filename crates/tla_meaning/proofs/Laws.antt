-- The frame law and the law of substitution.
use Rattle.std.proofs.Common.{◌≡◌, ℕ, Bool, true, false, not, ◌&&◌, ◌||◌, IsTrue, List, [], ◌∷◌, ◌++◌, map, zip, length, refl, ap, ap₂, ◌∙◌, sym, subst, Option, Some, None, if◌then◌else◌}
use Rattle.std.specs.List.{list_all, list_any}
use Rattle.std.specs.declared.cmp.Ordering.{Ordering}
use Rattle.std.specs.declared.cmp.Ordering.TheVariants.{Less, Equal, Greater}
use Rattle.std.specs.Ordering.{is_eq}
use Rattle.tla_values.specs.declared.value.Value.{Value}
use Rattle.tla_values.specs.declared.value.Value.TheVariants as value
use Rattle.tla_values.specs.Order.{text_cmp}
use Rattle.tla_values.proofs.TotalLemmas.{texts_equal}
use Rattle.tla_meaning.specs.declared.expr.Expr.{Expr, roll-Expr}
use Rattle.tla_meaning.specs.declared.expr.Expr.TheOpen.{Expr-F}
use Rattle.tla_meaning.specs.declared.expr.Expr.TheFolds.{fold-roll-Expr, map-Expr, ind-Expr}
use Rattle.tla_meaning.specs.declared.op.Op.{Op}
use Rattle.tla_meaning.specs.declared.place.Place.{Place}
use Rattle.tla_meaning.specs.Numbers.{Width}
use Rattle.tla_meaning.specs.Scopes.{Scope, Denotation, bind, bound_to, find_last, or_else, same_text, stands_for}
use Rattle.tla_meaning.specs.Meaning.{Meaning, denotations, Role, Named, Held, Lets, Plain_role, role, view}
use Rattle.tla_meaning.specs.Actions.{meaning, node, denotation_of}
use Rattle.tla_meaning.specs.FreeNames.{SameOn, role_reads, marks, with_names, closed_all, closed_layer, closed}
use Rattle.tla_meaning.specs.Substitution.{Test, each, apart, lets_apart, binds_apart, Given, target, replaced, put, Within, give}
use Rattle.tla_meaning.proofs.MeaningLemmas.{meaning-roll}
use Rattle.tla_meaning.proofs.Views.{AllAgree, Marked, marked, Survives, SameNames, same-named, same-held, same-lets, same-under, and_left, and_right, false≢true, node_same}

-- ---- a test of each node

pub each-roll : (test : Test) (x : Expr-F Expr) →
    each test (roll-Expr x) ≡ (test x.op x.binds && list_all (λ b. b) (map (each test) x.args))
each-roll test x = fold-roll-Expr Bool (λ x. test x.op x.binds && list_all (λ b. b) x.args) x

-- ---- the induction: a meaning M that agrees at each layer agrees with the meaning of the language

abbrev pub Agrees : Width → (Scope → Scope → Type 0) → Test → (Expr → Meaning) → Expr → Type 0
Agrees w R test M e = IsTrue (each test e) → (a b : Scope) → R a b → M e a ≡ meaning w e b

children : (w : Width) (R : Scope → Scope → Type 0) (test : Test) (M : Expr → Meaning) (ys : List ((e : Expr) × Agrees w R test M e)) →
    IsTrue (list_all (λ b. b) (map (each test) (map (λ y. y.0) ys))) →
    AllAgree R (map M (map (λ y. y.0) ys)) (map (meaning w) (map (λ y. y.0) ys))
children w R test M [] h = tt
children w R test M (y ∷ ys) h =
    let one : Bool = each test y.0 in
    let rest : Bool = list_all (λ b. b) (map (each test) (map (λ y. y.0) ys)) in
    (y.1 (and_left one rest h), children w R test M ys (and_right one rest h))

abbrev pub LayerAgrees : Width → (Scope → Scope → Type 0) → Test → (Expr → Meaning) → Type 0
LayerAgrees w R test M =
    (x : Expr-F Expr) → IsTrue (test x.op x.binds) → AllAgree R (map M x.args) (map (meaning w) x.args) →
    (a b : Scope) → R a b → M (roll-Expr x) a ≡ node w (map-Expr Expr Meaning (meaning w) x) b

pub simulate : (w : Width) (R : Scope → Scope → Type 0) (test : Test) (M : Expr → Meaning) →
    LayerAgrees w R test M → (e : Expr) → Agrees w R test M e
simulate w R test M step = ind-Expr (Agrees w R test M) (λ x y is.
    subst (λ (z : Expr-F Expr). Agrees w R test M (roll-Expr z)) is (λ h a b r.
    let z : Expr-F Expr = map-Expr ((e : Expr) × Agrees w R test M e) Expr (λ e. e.0) y in
    let all : Bool = list_all (λ b. b) (map (each test) z.args) in
    let k : IsTrue (test z.op z.binds && all) = sym (each-roll test z) ∙ h in
    step z (and_left (test z.op z.binds) all k) (children w R test M y.args (and_right (test z.op z.binds) all k)) a b r
    ∙ sym (ap (λ (m : Meaning). m b) (meaning-roll w z))))

pub none≢some : {X : Type 0} {x : X} → None ≡ Some x → ⊥
none≢some e = cc

-- ---- look-ups

or_else-none : {X : Type 0} (o : Option X) → or_else o None ≡ o
or_else-none None = refl
or_else-none (Some x) = refl

or_else-assoc : {X : Type 0} (a b c : Option X) → or_else (or_else a b) c ≡ or_else a (or_else b c)
or_else-assoc None b c = refl
or_else-assoc (Some x) b c = refl

pub find-append : {X : Type 0} (x : List ℕ) (es fs : List (List ℕ × X)) →
    find_last x (es ++ fs) ≡ or_else (find_last x fs) (find_last x es)
find-append x [] fs = sym (or_else-none (find_last x fs))
find-append x (e ∷ es) fs =
    ap (λ o. or_else o (if same_text x e.0 then Some e.1 else None)) (find-append x es fs)
    ∙ or_else-assoc (find_last x fs) (find_last x es) (if same_text x e.0 then Some e.1 else None)

pub equal_of : (o : Ordering) → is_eq o ≡ true → o ≡ Equal
equal_of Less h = absurd (false≢true h)
equal_of Equal h = refl
equal_of Greater h = absurd (false≢true h)

not-false : (b : Bool) → IsTrue b → IsTrue (not b) → ⊥
not-false true h k = false≢true k
not-false false h k = false≢true h

apart-differ : (S : List ℕ → Bool) (x y : List ℕ) (b : Bool) → same_text x y ≡ b → IsTrue (S x) → IsTrue (not (S y)) → same_text x y ≡ false
apart-differ S x y false e h k = e
apart-differ S x y true e h k =
    absurd (not-false (S y) (subst (λ z. IsTrue (S z)) (texts_equal x y (equal_of (text_cmp x y) e)) h) k)

-- a name of the set is not found among names outside of it
pub missed : {Z : Type 0} (S : List ℕ → Bool) (x : List ℕ) (xs : List (List ℕ)) (zs : List Z) → IsTrue (apart S xs) → IsTrue (S x) →
    find_last x (zip xs zs) ≡ None
missed S x [] zs f h = refl
missed S x (y ∷ ys) [] f h = refl
missed S x (y ∷ ys) (z ∷ zs) f h =
    ap₂ (λ o (b : Bool). or_else o (if b then Some z else None))
    (missed S x ys zs (and_right (not (S y)) (apart S ys) f) h)
    (apart-differ S x y (same_text x y) refl h (and_left (not (S y)) (apart S ys) f))

pub missed-bound : (S : List ℕ → Bool) (x : List ℕ) (xs : List (List ℕ)) (vs : List Value) → IsTrue (apart S xs) → IsTrue (S x) →
    find_last x (bound_to xs vs) ≡ None
missed-bound S x [] vs f h = refl
missed-bound S x (y ∷ ys) [] f h =
    ap₂ (λ o (b : Bool). or_else o (if b then Some (value.Bool false) else None))
    (missed-bound S x ys [] (and_right (not (S y)) (apart S ys) f) h)
    (apart-differ S x y (same_text x y) refl h (and_left (not (S y)) (apart S ys) f))
missed-bound S x (y ∷ ys) (v ∷ vs) f h =
    ap₂ (λ o (b : Bool). or_else o (if b then Some v else None))
    (missed-bound S x ys vs (and_right (not (S y)) (apart S ys) f) h)
    (apart-differ S x y (same_text x y) refl h (and_left (not (S y)) (apart S ys) f))

pub missed-one : {Z : Type 0} (S : List ℕ → Bool) (x y : List ℕ) (z : Z) → IsTrue (not (S y)) → IsTrue (S x) →
    find_last x ((y, z) ∷ []) ≡ None
missed-one S x y z f h = ap (λ (b : Bool). or_else None (if b then Some z else None)) (apart-differ S x y (same_text x y) refl h f)

pub more : {X : Type 0} (x : List ℕ) (es fs gs : List (List ℕ × X)) → find_last x es ≡ find_last x fs →
    find_last x (es ++ gs) ≡ find_last x (fs ++ gs)
more x es fs gs e = find-append x es gs ∙ ap (or_else (find_last x gs)) e ∙ sym (find-append x fs gs)

pub unseen : {X : Type 0} (x : List ℕ) (es gs : List (List ℕ × X)) → find_last x gs ≡ None → find_last x (es ++ gs) ≡ find_last x es
unseen x es gs e = find-append x es gs ∙ ap (λ o. or_else o (find_last x es)) e

-- ---- the frame law

abbrev pub none : List ℕ → Bool
none x = false

pub apart-none : (xs : List (List ℕ)) → IsTrue (apart none xs)
apart-none [] = refl
apart-none (x ∷ xs) = apart-none xs

pub lets-none : (ds : List (List ℕ × ℕ)) → IsTrue (list_all (λ d. not (none d.0)) ds)
lets-none [] = refl
lets-none (d ∷ ds) = lets-none ds

same_on-survives : (N B : List ℕ → Bool) → Survives none (SameOn N B)
same_on-survives N B = record {
  passed = λ xs as' a b f r. (r.0, λ x h. more x a.named b.named (zip xs (map (λ a. λ _. a) as')) (r.1 x h));
  defined = λ y d a b f r. (r.0, λ x h. more x a.named b.named ((y, d) ∷ []) (r.1 x h));
}

pub or_right : (c d : Bool) → IsTrue (c || d) → c ≡ false → IsTrue d
or_right true d h e = absurd (false≢true (sym e))
or_right false d h e = h

overridden : {X : Type 0} (r : Option X) (c : Bool) (v : X) (o q : Option X) → (c ≡ false → or_else r o ≡ or_else r q) →
    or_else (or_else r (if c then Some v else None)) o ≡ or_else (or_else r (if c then Some v else None)) q
overridden (Some x) c v o q h = refl
overridden None true v o q h = refl
overridden None false v o q h = h refl

pub in_bound : (x : List ℕ) (xs : List (List ℕ)) (vs : List Value) (o q : Option Value) → IsTrue (list_any (same_text x) xs) →
    or_else (find_last x (bound_to xs vs)) o ≡ or_else (find_last x (bound_to xs vs)) q
in_bound x [] vs o q h = absurd (false≢true h)
in_bound x (y ∷ ys) [] o q h =
    overridden (find_last x (bound_to ys [])) (same_text x y) (value.Bool false) o q
    (λ e. in_bound x ys [] o q (or_right (same_text x y) (list_any (same_text x) ys) h e))
in_bound x (y ∷ ys) (v ∷ vs) o q h =
    overridden (find_last x (bound_to ys vs)) (same_text x y) v o q
    (λ e. in_bound x ys vs o q (or_right (same_text x y) (list_any (same_text x) ys) h e))

same_on-bind : (N B : List ℕ → Bool) (xs : List (List ℕ)) (vs : List Value) (a b : Scope) → SameOn N B a b →
    SameOn N (with_names xs B) (bind xs vs a) (bind xs vs b)
same_on-bind N B xs vs a b r = (λ x h. by_name x h (list_any (same_text x) xs) refl, r.1)
  where
    by_name : (x : List ℕ) → IsTrue (with_names xs B x) → (c : Bool) → list_any (same_text x) xs ≡ c →
        find_last x (a.bound ++ bound_to xs vs) ≡ find_last x (b.bound ++ bound_to xs vs)
    by_name x h true e =
        find-append x a.bound (bound_to xs vs) ∙ in_bound x xs vs (find_last x a.bound) (find_last x b.bound) e
        ∙ sym (find-append x b.bound (bound_to xs vs))
    by_name x h false e = more x a.bound b.bound (bound_to xs vs) (r.0 x (or_right (list_any (same_text x) xs) (B x) h e))

pub all_of : (R Q : Scope → Scope → Type 0) (ks ls : List Meaning) → Marked R Q [] ks ls → AllAgree R ks ls
all_of R Q [] [] h = tt
all_of R Q [] (l ∷ ls) h = h
all_of R Q (k ∷ ks) [] h = h
all_of R Q (k ∷ ks) (l ∷ ls) h = (h.0, all_of R Q ks ls h.1)

same_on-names : (N B : List ℕ → Bool) (o : Role) (xs : List (List ℕ)) (a b : Scope) (ks ls : List Meaning) → IsTrue (role_reads N B o) →
    Marked (SameOn N B) (SameOn N (with_names xs B)) (marks o) ks ls → SameOn N B a b →
    SameNames none (SameOn N B) (SameOn N (with_names xs B)) a b ks ls o o xs xs
same_on-names N B (Named x) xs a b ks ls h k r = same-named (all_of (SameOn N B) (SameOn N (with_names xs B)) ks ls k) (r.1 x h)
same_on-names N B (Held x) xs a b ks ls h k r = same-held (all_of (SameOn N B) (SameOn N (with_names xs B)) ks ls k) (r.0 x h)
same_on-names N B (Lets ds) xs a b ks ls h k r =
    same-lets (all_of (SameOn N B) (SameOn N (with_names xs B)) ks ls k) (lets-none ds) (apart-none xs)
same_on-names N B (Plain_role ms) xs a b ks ls h k r = same-under k (λ vs. same_on-bind N B xs vs a b r)

abbrev Framed : Width → (List ℕ → Bool) → Expr → Type 0
Framed w N e = (B : List ℕ → Bool) → IsTrue (closed N e B) → (a b : Scope) → SameOn N B a b → meaning w e a ≡ meaning w e b

framed-children : (w : Width) (N B : List ℕ → Bool) (ms : List Bool) (xs : List (List ℕ)) (ys : List ((e : Expr) × Framed w N e)) →
    IsTrue (closed_all ms xs (map (closed N) (map (λ y. y.0) ys)) B) →
    Marked (SameOn N B) (SameOn N (with_names xs B)) ms (map (meaning w) (map (λ y. y.0) ys)) (map (meaning w) (map (λ y. y.0) ys))
framed-children w N B ms xs [] h = tt
framed-children w N B [] xs (y ∷ ys) h =
    let c : Bool = closed N y.0 B in
    let d : Bool = closed_all [] xs (map (closed N) (map (λ y. y.0) ys)) B in
    (y.1 B (and_left c d h), framed-children w N B [] xs ys (and_right c d h))
framed-children w N B (true ∷ ms) xs (y ∷ ys) h =
    let c : Bool = closed N y.0 (with_names xs B) in
    let d : Bool = closed_all ms xs (map (closed N) (map (λ y. y.0) ys)) B in
    (y.1 (with_names xs B) (and_left c d h), framed-children w N B ms xs ys (and_right c d h))
framed-children w N B (false ∷ ms) xs (y ∷ ys) h =
    let c : Bool = closed N y.0 B in
    let d : Bool = closed_all ms xs (map (closed N) (map (λ y. y.0) ys)) B in
    (y.1 B (and_left c d h), framed-children w N B ms xs ys (and_right c d h))

-- a tree means the same in scopes that agree on its free names
pub frame : (w : Width) (N : List ℕ → Bool) (e : Expr) → Framed w N e
frame w N = ind-Expr (Framed w N) (λ x y is.
    subst (λ (z : Expr-F Expr). Framed w N (roll-Expr z)) is (λ B h a b r.
    let z : Expr-F Expr = map-Expr ((e : Expr) × Framed w N e) Expr (λ e. e.0) y in
    let o : Role = role z.op (length z.binds) in
    let c : Bool = role_reads N B o in
    let d : Bool = closed_all (marks o) z.binds (map (closed N) z.args) B in
    let k : IsTrue (c && d) = sym (ap (λ (f : (List ℕ → Bool) → Bool). f B) (fold-roll-Expr ((List ℕ → Bool) → Bool) (closed_layer N) z)) ∙ h in
    let ks : List Meaning = map (meaning w) z.args in
    ap (λ (m : Meaning). m a) (meaning-roll w z)
    ∙ node_same w none (SameOn N B) (SameOn N (with_names z.binds B)) (same_on-survives N B) z.place z.op z.binds ks ks a b r
    (same_on-names N B o z.binds a b ks ks (and_left c d k) (framed-children w N B (marks o) z.binds y.args (and_right c d k)) r)
    ∙ sym (ap (λ (m : Meaning). m b) (meaning-roll w z))))

-- ---- substitution

abbrev pub said : Width → Scope → Option Expr → Option (List Denotation → Denotation)
said w a None = None
said w a (Some e) = Some (λ _. meaning w e a)

-- the second scope is the first, where each name stands for what its tree means in the first
abbrev pub Stands : Width → Given → Scope → Scope → Type 0
Stands w σ a b =
    ((x : List ℕ) → find_last x a.bound ≡ find_last x b.bound)
    × ((x : List ℕ) → find_last x b.named ≡ or_else (said w a (find_last x σ)) (find_last x a.named))

said-same : (w : Width) (S : List ℕ → Bool) (a b : Scope) → SameOn S S a b → (o : Option Expr) →
    ((e : Expr) → o ≡ Some e → IsTrue (closed S e S)) → said w a o ≡ said w b o
said-same w S a b r None h = refl
said-same w S a b r (Some e) h = ap (λ (m : Denotation). Some (λ (as' : List Denotation). m)) (frame w S e S (h e refl) a b r)

named-more : (w : Width) (S : List ℕ → Bool) (σ : Given) → Within S σ → (a b : Scope) → Stands w σ a b →
    (es : List (List ℕ × (List Denotation → Denotation))) → ((x : List ℕ) → IsTrue (S x) → find_last x es ≡ None) →
    (x : List ℕ) (o : Option Expr) → find_last x σ ≡ o →
    find_last x (b.named ++ es) ≡ or_else (said w (record a { named = a.named ++ es }) o) (find_last x (a.named ++ es))
named-more w S σ c a b r es h x None e =
    more x b.named a.named es (r.1 x ∙ ap (λ o. or_else (said w a o) (find_last x a.named)) e)
named-more w S σ c a b r es h x (Some t) e =
    unseen x b.named es (h x (c.names x t e))
    ∙ r.1 x
    ∙ ap (λ o. or_else (said w a o) (find_last x a.named)) e
    ∙ ap (λ (m : Denotation). Some (λ (as' : List Denotation). m))
    (frame w S t S (c.trees x t e) a (record a { named = a.named ++ es }) (λ y k. refl, λ y k. sym (unseen y a.named es (h y k))))

stands-survives : (w : Width) (S : List ℕ → Bool) (σ : Given) → Within S σ → Survives S (Stands w σ)
stands-survives w S σ c = record {
  passed = λ xs as' a b f r.
      (r.0, λ x. named-more w S σ c a b r (zip xs (map (λ a. λ _. a) as')) (λ y k. missed S y xs (map (λ a. λ _. a) as') f k) x (find_last x σ) refl);
  defined = λ y d a b f r.
      (r.0, λ x. named-more w S σ c a b r ((y, d) ∷ []) (λ z k. missed-one S z y d f k) x (find_last x σ) refl);
}

pub meanings : (w : Width) (f : Expr → Expr) (es : List Expr) → map (λ e. meaning w (f e)) es ≡ map (meaning w) (map f es)
meanings w f [] = refl
meanings w f (e ∷ es) = ap (λ (ms : List Meaning). meaning w (f e) ∷ ms) (meanings w f es)

stands-bound : (w : Width) (S : List ℕ → Bool) (σ : Given) → Within S σ → (xs : List (List ℕ)) (vs : List Value) (a b : Scope) →
    IsTrue (apart S xs) → Stands w σ a b → Stands w σ (bind xs vs a) (bind xs vs b)
stands-bound w S σ c xs vs a b f r = (
  λ x. more x a.bound b.bound (bound_to xs vs) (r.0 x),
  λ x.
      r.1 x
      ∙ ap (λ o. or_else o (find_last x a.named))
      (said-same w S a (bind xs vs a) (λ y k. sym (unseen y a.bound (bound_to xs vs) (missed-bound S y xs vs f k)), λ y k. refl)
      (find_last x σ) (c.trees x)),
)

stands-read : (w : Width) (S : List ℕ → Bool) (σ : Given) → Within S σ → (o : Role) (xs : List (List ℕ)) (a b : Scope) (ks ls : List Meaning) →
    IsTrue (lets_apart S o) → IsTrue (apart S xs) → target σ o ≡ None → AllAgree (Stands w σ) ks ls → Stands w σ a b →
    SameNames S (Stands w σ) (Stands w σ) a b ks ls o o xs xs
stands-read w S σ c (Named x) xs a b ks ls f g h k r = same-named k (sym (r.1 x ∙ ap (λ o. or_else (said w a o) (find_last x a.named)) h))
stands-read w S σ c (Held x) xs a b ks ls f g h k r = same-held k (r.0 x)
stands-read w S σ c (Lets ds) xs a b ks ls f g h k r = same-lets k f g
stands-read w S σ c (Plain_role ms) xs a b ks ls f g h k r =
    same-under (marked (Stands w σ) ms ks ls k) (λ vs. stands-bound w S σ c xs vs a b g r)

-- a use that is replaced
use-put : (w : Width) (σ : Given) (p : Place) (o : Op) (xs : List (List ℕ)) (ks : List Meaning) (a b : Scope) (t : Expr) (r : Role) →
    target σ r ≡ Some t → Stands w σ a b → meaning w t a ≡ denotation_of w p o (length xs) (view p r xs ks b)
use-put w σ p o xs ks a b t (Named x) e r =
    ap (λ d. stands_for p d (denotations ks b)) (sym (r.1 x ∙ ap (λ o. or_else (said w a o) (find_last x a.named)) e))
use-put w σ p o xs ks a b t (Held x) e r = absurd (none≢some e)
use-put w σ p o xs ks a b t (Lets ds) e r = absurd (none≢some e)
use-put w σ p o xs ks a b t (Plain_role ms) e r = absurd (none≢some e)

layer-put : (w : Width) (S : List ℕ → Bool) (σ : Given) → Within S σ → (x : Expr-F Expr) →
    IsTrue (binds_apart S x.op x.binds) → AllAgree (Stands w σ) (map (λ e. meaning w (put σ e)) x.args) (map (meaning w) x.args) →
    (a b : Scope) → Stands w σ a b → (t : Option Expr) → target σ (role x.op (length x.binds)) ≡ t →
    meaning w (replaced t (map-Expr Expr Expr (put σ) x)) a ≡ node w (map-Expr Expr Meaning (meaning w) x) b
layer-put w S σ c x h k a b r None e =
    let o : Role = role x.op (length x.binds) in
    let ks : List Meaning = map (meaning w) (map (put σ) x.args) in
    let ls : List Meaning = map (meaning w) x.args in
    ap (λ (m : Meaning). m a) (meaning-roll w (map-Expr Expr Expr (put σ) x))
    ∙ node_same w S (Stands w σ) (Stands w σ) (stands-survives w S σ c) x.place x.op x.binds ks ls a b r
    (stands-read w S σ c o x.binds a b ks ls
    (and_left (lets_apart S o) (apart S x.binds) h) (and_right (lets_apart S o) (apart S x.binds) h) e
    (subst (λ (ms : List Meaning). AllAgree (Stands w σ) ms ls) (meanings w (put σ) x.args) k) r)
layer-put w S σ c x h k a b r (Some t) e = use-put w σ x.place x.op x.binds (map (meaning w) x.args) a b t (role x.op (length x.binds)) e r

-- the law of substitution
pub substitution : (w : Width) (S : List ℕ → Bool) (σ : Given) → Within S σ → (e : Expr) → IsTrue (each (binds_apart S) e) →
    (a b : Scope) → Stands w σ a b → meaning w (put σ e) a ≡ meaning w e b
substitution w S σ c = simulate w (Stands w σ) (binds_apart S) (λ e. meaning w (put σ e)) (λ x h k a b r.
    ap (λ e. meaning w e a) (fold-roll-Expr Expr (λ x. replaced (target σ (role x.op (length x.binds))) x) x)
    ∙ layer-put w S σ c x h k a b r (target σ (role x.op (length x.binds))) refl)

said-last : (w : Width) (sc : Scope) (x : List ℕ) (σ : Given) →
    find_last x (map (λ g. (g.0, λ (as' : List Denotation). meaning w g.1 sc)) σ) ≡ said w sc (find_last x σ)
said-last w sc x [] = refl
said-last w sc x (g ∷ σ) = ap (λ o. or_else o (if same_text x g.0 then Some (λ (as' : List Denotation). meaning w g.1 sc) else None)) (said-last w sc x σ)
    ∙ join_faults-said (find_last x σ) (same_text x g.0)
  where
    join_faults-said : (o : Option Expr) (c : Bool) →
        or_else (said w sc o) (if c then Some (λ (as' : List Denotation). meaning w g.1 sc) else None) ≡ said w sc (or_else o (if c then Some g.1 else None))
    join_faults-said (Some e) c = refl
    join_faults-said None true = refl
    join_faults-said None false = refl

stands-give : (w : Width) (σ : Given) (sc : Scope) → Stands w σ sc (give w σ sc)
stands-give w σ sc = (
  λ x. refl,
  λ x.
      find-append x sc.named (map (λ g. (g.0, λ _. meaning w g.1 sc)) σ) ∙ ap (λ o. or_else o (find_last x sc.named)) (said-last w sc x σ),
)

pub substituted : (w : Width) (S : List ℕ → Bool) (σ : Given) → Within S σ → (e : Expr) → IsTrue (each (binds_apart S) e) →
    (sc : Scope) → meaning w (put σ e) sc ≡ meaning w e (give w σ sc)
substituted w S σ c e h sc = substitution w S σ c e h sc (give w σ sc) (stands-give w σ sc)
