-- Right sides that go on along the path of an EXCEPT: a tree has none, nor has what is built of it.
use Rattle.std.proofs.Common.{◌≡◌, ◌<◌, ◌≤◌, ℕ, zero, suc, arith, get_or, length, Bool, true, false, not, ◌&&◌, ◌||◌, List, [], ◌∷◌, map, take, drop, refl, sym, ◌∙◌, ap, ap₂, subst}
use Rattle.std.specs.List.{list_all}
use Rattle.tla_meaning.specs.declared.expr.Expr.{Expr, out-Expr, roll-out-Expr}
use Rattle.tla_meaning.specs.declared.expr.Expr.TheOpen.{Expr-F}
use Rattle.tla_meaning.specs.declared.op.Op.{Op}
use Rattle.tla_meaning.specs.declared.op.Op.TheVariants as op
use Rattle.tla_meaning.specs.declared.place.Place.{Place}
use Rattle.tla_meaning.specs.Scopes.{same_text}
use Rattle.tla_meaning.specs.Symbols.{same_place}
use Rattle.tla_meaning.proofs.Views.{and_left, and_right, false≢true}
use Rattle.kernel_shapes.specs.Trees.{is_bound_name, is_except, begins_with_name, is_part}
use Rattle.kernel_reduction.specs.JobPaths.{below_notes, below_of}
use Rattle.kernel_reduction.specs.SizeLaws.{apart_at, begins_below, goes_on, is_apart}
use Rattle.kernel_reduction.proofs.Gists.{NoParts}
use Rattle.kernel_reduction.proofs.JobTrees.{below-roll, recur-roll}

abbrev pub AllApart : List Expr → Type 0
AllApart [] = Unit {0}
AllApart (e ∷ es) = (is_apart e ≡ true) × AllApart es

abbrev with_apart : List Expr → List (Expr × Bool)
with_apart es = map (λ e. (e, is_apart e)) es

apart_out : (e : Expr) → is_apart e ≡ apart_at (out-Expr e).place (out-Expr e).op (out-Expr e).binds (with_apart (out-Expr e).args)
apart_out e = ap is_apart (sym (roll-out-Expr e)) ∙ recur-roll (λ x. apart_at x.place x.op x.binds x.args) (out-Expr e)

all_apart : (es : List Expr) → list_all (λ (k : Expr × Bool). k.1) (with_apart es) ≡ true → AllApart es
all_apart [] h = tt
all_apart (e ∷ es) h =
    (and_left (is_apart e) (list_all (λ (k : Expr × Bool). k.1) (with_apart es)) h, all_apart es (and_right (is_apart e) (list_all (λ (k : Expr × Bool). k.1) (with_apart es)) h))

-- no child goes on
abbrev pub NoneGoOn : Place → List (List ℕ) → List Expr → Type 0
NoneGoOn p xs [] = Unit {0}
NoneGoOn p xs (e ∷ es) = (goes_on p xs e ≡ false) × NoneGoOn p xs es

none_go : (p : Place) (xs : List (List ℕ)) (es : List Expr) → list_all (λ (k : Expr × Bool). not (goes_on p xs k.0)) (with_apart es) ≡ true → NoneGoOn p xs es
none_go p xs [] h = tt
none_go p xs (e ∷ es) h =
    let rest : Bool = list_all (λ (k : Expr × Bool). not (goes_on p xs k.0)) (with_apart es) in
    (not_true (goes_on p xs e) (and_left (not (goes_on p xs e)) rest h), none_go p xs es (and_right (not (goes_on p xs e)) rest h))
  where
    not_true : (b : Bool) → not b ≡ true → b ≡ false
    not_true true h = absurd (false≢true h)
    not_true false h = refl

drop_apart : (es : List Expr) → drop 1 (with_apart es) ≡ with_apart (drop 1 es)
drop_apart [] = refl
drop_apart (e ∷ es) = refl

pub children_apart : (e : Expr) → is_apart e ≡ true → AllApart (out-Expr e).args
children_apart e h =
    let x : Expr-F Expr = out-Expr e in
    all_apart x.args (and_right (not (is_except x.op) || list_all (λ (k : Expr × Bool). not (goes_on x.place x.binds k.0)) (drop 1 (with_apart x.args))) (list_all (λ (k : Expr × Bool). k.1) (with_apart x.args)) (sym (apart_out e) ∙ h))

pub rights_apart : (e : Expr) → is_apart e ≡ true → is_except (out-Expr e).op ≡ true → NoneGoOn (out-Expr e).place (out-Expr e).binds (drop 1 (out-Expr e).args)
rights_apart e h q =
    let x : Expr-F Expr = out-Expr e in
    let all : Bool = list_all (λ (k : Expr × Bool). not (goes_on x.place x.binds k.0)) (drop 1 (with_apart x.args)) in
    let here : (not (is_except x.op) || all) ≡ true = and_left (not (is_except x.op) || all) (list_all (λ (k : Expr × Bool). k.1) (with_apart x.args)) (sym (apart_out e) ∙ h) in
    none_go x.place x.binds (drop 1 x.args)
    (subst (λ (l : List (Expr × Bool)). list_all (λ (k : Expr × Bool). not (goes_on x.place x.binds k.0)) l ≡ true) (drop_apart x.args)
    (sym (ap (λ (b : Bool). not b || all) q) ∙ here))

pub apart_take : (n : ℕ) (es : List Expr) → AllApart es → AllApart (take n es)
apart_take zero es h = tt
apart_take (suc n) [] h = tt
apart_take (suc n) (e ∷ es) h = (h.0, apart_take n es h.1)

pub apart_drop : (n : ℕ) (es : List Expr) → AllApart es → AllApart (drop n es)
apart_drop zero es h = h
apart_drop (suc n) [] h = tt
apart_drop (suc n) (e ∷ es) h = apart_drop n es h.1

pub none_take : (p : Place) (xs : List (List ℕ)) (n : ℕ) (es : List Expr) → NoneGoOn p xs es → NoneGoOn p xs (take n es)
none_take p xs zero es h = tt
none_take p xs (suc n) [] h = tt
none_take p xs (suc n) (e ∷ es) h = (h.0, none_take p xs n es h.1)

pub none_drop : (p : Place) (xs : List (List ℕ)) (n : ℕ) (es : List Expr) → NoneGoOn p xs es → NoneGoOn p xs (drop n es)
none_drop p xs zero es h = h
none_drop p xs (suc n) [] h = tt
none_drop p xs (suc n) (e ∷ es) h = none_drop p xs n es h.1

-- ---- a part goes on

below_at : (e : Expr) → below_notes e ≡ below_of (out-Expr e).op e (map below_notes (out-Expr e).args)
below_at e =
    ap below_notes (sym (roll-out-Expr e)) ∙ below-roll (out-Expr e) ∙ ap (λ (y : Expr). below_of (out-Expr e).op y (map below_notes (out-Expr e).args)) (roll-out-Expr e)

below_except : (e : Expr) → is_except (out-Expr e).op ≡ true → below_notes e ≡ e
below_except e h = below_at e ∙ by (out-Expr e).op h
  where
    by : (o : Op) → is_except o ≡ true → below_of o e (map below_notes (out-Expr e).args) ≡ e
    by (op.Except ns) h = refl
    by (op.Noted x) h = absurd (false≢true h)
    by o h = absurd (false≢true h)

below_bound : (x : List ℕ) (e : Expr) → is_bound_name x (out-Expr e).op ≡ true → below_notes e ≡ e
below_bound x e h = below_at e ∙ by (out-Expr e).op h
  where
    by : (o : Op) → is_bound_name x o ≡ true → below_of o e (map below_notes (out-Expr e).args) ≡ e
    by (op.Bound y) h = refl
    by (op.Noted x) h = absurd (false≢true h)
    by o h = absurd (false≢true h)

begins : (x : List ℕ) (es : List Expr) → begins_with_name x es ≡ true → begins_below x es ≡ true
begins x [] h = h
begins x (e ∷ es) h = ap (λ (y : Expr). is_bound_name x (out-Expr y).op) (below_bound x e h) ∙ h

part_goes : (p : Place) (xs : List (List ℕ)) (e : Expr) → is_part p xs e ≡ true → goes_on p xs e ≡ true
part_goes p [] e h = absurd (false≢true h)
part_goes p (x ∷ y ∷ xs) e h = absurd (false≢true h)
part_goes p (x ∷ []) e h =
    let o : Expr-F Expr = out-Expr e in
    let here : is_except o.op ≡ true = and_left (is_except o.op) (same_place p o.place && begins_with_name x o.args) h in
    let rest = and_right (is_except o.op) (same_place p o.place && begins_with_name x o.args) h in
    ap (λ (y : Expr). is_except (out-Expr y).op && (same_place p (out-Expr y).place && begins_below x (out-Expr y).args)) (below_except e here)
    ∙ both (is_except o.op) (same_place p o.place) (begins_below x o.args) here (and_left (same_place p o.place) (begins_with_name x o.args) rest) (begins x o.args (and_right (same_place p o.place) (begins_with_name x o.args) rest))
  where
    both : (a b c : Bool) → a ≡ true → b ≡ true → c ≡ true → (a && (b && c)) ≡ true
    both true true true h g k = refl
    both false b c h g k = h
    both true false c h g k = g
    both true true false h g k = k

no_part : (p : Place) (xs : List (List ℕ)) (e : Expr) → goes_on p xs e ≡ false → is_part p xs e ≡ false
no_part p xs e h = by (is_part p xs e) refl
  where
    by : (b : Bool) → is_part p xs e ≡ b → b ≡ false
    by true q = absurd (false≢true (sym h ∙ part_goes p xs e q))
    by false q = refl

pub no_parts : (p : Place) (xs : List (List ℕ)) (es : List Expr) → NoneGoOn p xs es → NoParts (map (λ e. is_part p xs e) es)
no_parts p xs [] h = tt
no_parts p xs (e ∷ es) h = (no_part p xs e h.0, no_parts p xs es h.1)

-- ---- node by node, as the code asks

all_firsts : (f : Expr → Bool) (es : List Expr) → list_all (λ (k : Expr × Bool). f k.0) (with_apart es) ≡ list_all f es
all_firsts f [] = refl
all_firsts f (e ∷ es) = ap (λ (b : Bool). f e && b) (all_firsts f es)

all_seconds : (es : List Expr) → list_all (λ (k : Expr × Bool). k.1) (with_apart es) ≡ list_all is_apart es
all_seconds [] = refl
all_seconds (e ∷ es) = ap (λ (b : Bool). is_apart e && b) (all_seconds es)

-- of a node without what stands below it
abbrev pub is_apart_here : Place → Op → List (List ℕ) → List Expr → Bool
is_apart_here p o xs es = not (is_except o) || list_all (λ e. not (goes_on p xs e)) (drop 1 es)

pub apart_step : (e : Expr) → is_apart e ≡ (is_apart_here (out-Expr e).place (out-Expr e).op (out-Expr e).binds (out-Expr e).args && list_all is_apart (out-Expr e).args)
apart_step e =
    let x : Expr-F Expr = out-Expr e in
    apart_out e
    ∙ ap₂ (λ (b c : Bool). (not (is_except x.op) || b) && c)
    (ap (list_all (λ (k : Expr × Bool). not (goes_on x.place x.binds k.0))) (drop_apart x.args) ∙ all_firsts (λ k. not (goes_on x.place x.binds k)) (drop 1 x.args))
    (all_seconds x.args)

-- of an EXCEPT that binds no name, or several
none_named : (p : Place) (es : List Expr) → list_all (λ e. not (goes_on p [] e)) es ≡ true
none_named p [] = refl
none_named p (e ∷ es) = none_named p es

many_named : (p : Place) (x y : List ℕ) (xs : List (List ℕ)) (es : List Expr) → list_all (λ e. not (goes_on p (x ∷ y ∷ xs) e)) es ≡ true
many_named p x y xs [] = refl
many_named p x y xs (e ∷ es) = many_named p x y xs es

abbrev pub name_at : List ℕ → Op → List Expr → Bool
name_at x (op.Noted n) (k ∷ ks) = is_bound_name x (out-Expr (below_notes k)).op
name_at x o es = is_bound_name x o

pub name_step : (x : List ℕ) (e : Expr) → is_bound_name x (out-Expr (below_notes e)).op ≡ name_at x (out-Expr e).op (out-Expr e).args
name_step x e = ap (λ (z : Expr). is_bound_name x (out-Expr z).op) (below_at e) ∙ by (out-Expr e).op (out-Expr e).args refl
  where
    by : (o : Op) (es : List Expr) → (out-Expr e).op ≡ o → is_bound_name x (out-Expr (below_of o e (map below_notes es))).op ≡ name_at x o es
    by (op.Noted n) (k ∷ ks) q = refl
    by (op.Noted n) [] q = ap (is_bound_name x) q
    by o es q = ap (is_bound_name x) q

abbrev pub goes_at : Place → List ℕ → Place → Op → List Expr → Bool
goes_at p x q (op.Noted n) (k ∷ ks) = goes_on p (x ∷ []) k
goes_at p x q (op.Except ns) es = same_place p q && begins_below x es
goes_at p x q o es = false

abbrev goes_here : Place → List ℕ → Expr → Bool
goes_here p x z = is_except (out-Expr z).op && (same_place p (out-Expr z).place && begins_below x (out-Expr z).args)

pub goes_step : (p : Place) (x : List ℕ) (e : Expr) → goes_on p (x ∷ []) e ≡ goes_at p x (out-Expr e).place (out-Expr e).op (out-Expr e).args
goes_step p x e = ap (goes_here p x) (below_at e) ∙ by (out-Expr e).op (out-Expr e).args refl refl
  where
    by : (o : Op) (es : List Expr) → (out-Expr e).op ≡ o → (out-Expr e).args ≡ es → goes_here p x (below_of o e (map below_notes es)) ≡ goes_at p x (out-Expr e).place o es
    by (op.Noted n) (k ∷ ks) q r = refl
    by (op.Noted n) [] q r = ap (λ (o : Op). is_except o && (same_place p (out-Expr e).place && begins_below x (out-Expr e).args)) q
    by (op.Except ns) es q r = ap₂ (λ (o : Op) (ks : List Expr). is_except o && (same_place p (out-Expr e).place && begins_below x ks)) q r
    by o es q r = ap (λ (o : Op). is_except o && (same_place p (out-Expr e).place && begins_below x (out-Expr e).args)) q

-- ---- by the arms of the code

front_child : (es : List Expr) (inner : Expr) → 1 ≤ length es → inner ≡ get_or es 0 inner → (ks : List Expr) × (es ≡ inner ∷ ks)
front_child [] inner l q = absurd (none l)
  where
    none : 1 ≤ 0 → ⊥
    none h = omega (arith, h)
front_child (e ∷ es) inner l q = (es, ap (λ (z : Expr). z ∷ es) (sym q))

no_child : (es : List Expr) → length es < 1 → es ≡ []
no_child [] l = refl
no_child (e ∷ es) l = absurd (some (length es) l)
  where
    some : (n : ℕ) → suc n < 1 → ⊥
    some n h = omega (arith, h)

pub name_noted : (x : List ℕ) (e inner : Expr) (n : List ℕ) (es : List Expr) → (out-Expr e).op ≡ op.Noted n → es ≡ (out-Expr e).args → 1 ≤ length es → inner ≡ get_or es 0 inner →
    is_bound_name x (out-Expr (below_notes inner)).op ≡ is_bound_name x (out-Expr (below_notes e)).op
name_noted x e inner n es q r l i =
    let f = front_child es inner l i in sym (name_step x e ∙ ap₂ (name_at x) q (sym r ∙ f.1))

pub name_bare : (x : List ℕ) (e : Expr) (n : List ℕ) (es : List Expr) → (out-Expr e).op ≡ op.Noted n → es ≡ (out-Expr e).args → length es < 1 →
    false ≡ is_bound_name x (out-Expr (below_notes e)).op
name_bare x e n es q r l = sym (name_step x e ∙ ap₂ (name_at x) q (sym r ∙ no_child es l))

pub name_there : (x y : List ℕ) (e : Expr) → (out-Expr e).op ≡ op.Bound y → same_text x y ≡ is_bound_name x (out-Expr (below_notes e)).op
name_there x y e q = sym (name_step x e ∙ ap (λ (o : Op). name_at x o (out-Expr e).args) q)

pub name_other : (x : List ℕ) (e : Expr) → ((n : List ℕ) → (out-Expr e).op ≡ op.Noted n → ⊥) → ((y : List ℕ) → (out-Expr e).op ≡ op.Bound y → ⊥) →
    false ≡ is_bound_name x (out-Expr (below_notes e)).op
name_other x e h g = sym (name_step x e ∙ by (out-Expr e).op h g)
  where
    by : (o : Op) → ((n : List ℕ) → o ≡ op.Noted n → ⊥) → ((y : List ℕ) → o ≡ op.Bound y → ⊥) → name_at x o (out-Expr e).args ≡ false
    by (op.Noted n) h g = absurd (h n refl)
    by (op.Bound y) h g = absurd (g y refl)
    by o h g = refl

pub goes_noted : (p : Place) (x : List ℕ) (e inner : Expr) (n : List ℕ) (es : List Expr) → (out-Expr e).op ≡ op.Noted n → es ≡ (out-Expr e).args → 1 ≤ length es → inner ≡ get_or es 0 inner →
    goes_on p (x ∷ []) inner ≡ goes_on p (x ∷ []) e
goes_noted p x e inner n es q r l i =
    let f = front_child es inner l i in sym (goes_step p x e ∙ ap₂ (goes_at p x (out-Expr e).place) q (sym r ∙ f.1))

pub goes_bare : (p : Place) (x : List ℕ) (e : Expr) (n : List ℕ) (es : List Expr) → (out-Expr e).op ≡ op.Noted n → es ≡ (out-Expr e).args → length es < 1 → false ≡ goes_on p (x ∷ []) e
goes_bare p x e n es q r l = sym (goes_step p x e ∙ ap₂ (goes_at p x (out-Expr e).place) q (sym r ∙ no_child es l))

pub goes_except : (p : Place) (x : List ℕ) (e : Expr) (ns : List ℕ) (b c : Bool) → (out-Expr e).op ≡ op.Except ns → b ≡ same_place p (out-Expr e).place → c ≡ begins_below x (out-Expr e).args →
    (b && c) ≡ goes_on p (x ∷ []) e
goes_except p x e ns b c q f g =
    ap₂ (λ (y z : Bool). y && z) f g ∙ sym (goes_step p x e ∙ ap (λ (o : Op). goes_at p x (out-Expr e).place o (out-Expr e).args) q)

pub goes_other : (p : Place) (x : List ℕ) (e : Expr) → ((n : List ℕ) → (out-Expr e).op ≡ op.Noted n → ⊥) → ((ns : List ℕ) → (out-Expr e).op ≡ op.Except ns → ⊥) → false ≡ goes_on p (x ∷ []) e
goes_other p x e h g = sym (goes_step p x e ∙ by (out-Expr e).op h g)
  where
    by : (o : Op) → ((n : List ℕ) → o ≡ op.Noted n → ⊥) → ((ns : List ℕ) → o ≡ op.Except ns → ⊥) → goes_at p x (out-Expr e).place o (out-Expr e).args ≡ false
    by (op.Noted n) h g = absurd (h n refl)
    by (op.Except ns) h g = absurd (g ns refl)
    by o h g = refl

any_or_true : (b c : Bool) → c ≡ true → true ≡ (b || c)
any_or_true true c h = refl
any_or_true false c h = sym h

pub none_bound : (e : Expr) (xs : List (List ℕ)) → xs ≡ (out-Expr e).binds → length xs < 1 → true ≡ is_apart_here (out-Expr e).place (out-Expr e).op (out-Expr e).binds (out-Expr e).args
none_bound e xs q l = subst (λ (ys : List (List ℕ)). true ≡ is_apart_here (out-Expr e).place (out-Expr e).op ys (out-Expr e).args) q (by xs l)
  where
    by : (xs : List (List ℕ)) → length xs < 1 → true ≡ is_apart_here (out-Expr e).place (out-Expr e).op xs (out-Expr e).args
    by [] l = any_or_true (not (is_except (out-Expr e).op)) _ (none_named (out-Expr e).place (drop 1 (out-Expr e).args))
    by (x ∷ xs) l = absurd (some (length xs) l)
      where
        some : (n : ℕ) → suc n < 1 → ⊥
        some n h = omega (arith, h)

pub many_bound : (e : Expr) (xs : List (List ℕ)) → xs ≡ (out-Expr e).binds → 2 ≤ length xs → true ≡ is_apart_here (out-Expr e).place (out-Expr e).op (out-Expr e).binds (out-Expr e).args
many_bound e xs q l = subst (λ (ys : List (List ℕ)). true ≡ is_apart_here (out-Expr e).place (out-Expr e).op ys (out-Expr e).args) q (by xs l)
  where
    by : (xs : List (List ℕ)) → 2 ≤ length xs → true ≡ is_apart_here (out-Expr e).place (out-Expr e).op xs (out-Expr e).args
    by [] l = absurd (few l)
      where
        few : 2 ≤ 0 → ⊥
        few h = omega (arith, h)
    by (x ∷ []) l = absurd (few l)
      where
        few : 2 ≤ 1 → ⊥
        few h = omega (arith, h)
    by (x ∷ y ∷ xs) l = any_or_true (not (is_except (out-Expr e).op)) _ (many_named (out-Expr e).place x y xs (drop 1 (out-Expr e).args))
