-- A tree that is written out means what the expression means.
use Rattle.std.proofs.Common.{◌≡◌, ℕ, zero, suc, ◌+◌, ◌*◌, ◌/◌, ◌%◌, Bool, true, false, not, ◌&&◌, ◌||◌, arith, IsTrue, List, [], ◌∷◌, ◌++◌, map, zip, take, drop, length, nat_lt, refl, ap, ap₂, ◌∙◌, sym, subst, Option, Some, None, if◌then◌else◌}
use Rattle.std.specs.List.{list_any}
use Rattle.std.specs.Ordering.{is_eq}
use Rattle.std.specs.Ordering.{nat_cmp, ordering_then}
use Rattle.std.proofs.lemmas.Bool.{ltb-true, lt-ltb}
use Rattle.std.proofs.Math.Nat.{div-add-mod}
use Rattle.std.proofs.lemmas.Cmp.{nat_cmp_total, tied_itself}
use Rattle.tla_values.specs.Order.{text_cmp}
use Rattle.tla_values.specs.declared.value.Value.{Value}
use Rattle.tla_values.specs.declared.value.Value.TheVariants as value
use Rattle.tla_values.proofs.TotalLemmas.{texts_equal}
use Rattle.tla_meaning.specs.declared.expr.Def.{Def}
use Rattle.tla_meaning.specs.declared.expr.Expr.{Expr, roll-Expr}
use Rattle.tla_meaning.specs.declared.expr.Expr.TheOpen.{Expr-F}
use Rattle.tla_meaning.specs.declared.expr.Expr.TheFolds.{fold-roll-Expr, map-Expr, ind-Expr}
use Rattle.tla_meaning.specs.declared.modules.Flat.{Flat}
use Rattle.tla_meaning.specs.declared.op.Op.{Op}
use Rattle.tla_meaning.specs.declared.op.Op.TheVariants as op
use Rattle.tla_meaning.specs.declared.place.Place.{Place}
use Rattle.tla_meaning.specs.Numbers.{Width}
use Rattle.tla_meaning.specs.Scopes.{Scope, Denotation, bind, bound_to, define, pass, find_last, or_else, absent, same_text, stands_for}
use Rattle.tla_meaning.specs.Folds.{with_lambdas}
use Rattle.tla_meaning.specs.Meaning.{Meaning, denotations, child, Role, Named, Held, Lets, Plain_role, role, View, view, let_scope}
use Rattle.tla_meaning.specs.Actions.{meaning, denotation_of}
use Rattle.tla_meaning.specs.Executions.{no_scope}
use Rattle.tla_meaning.specs.Definitions.{with_definitions, scope_of_module, defined_as}
use Rattle.tla_meaning.specs.Substitution.{apart}
use Rattle.tla_meaning.specs.Renamings.{OneToOne}
use Rattle.op_inliner.specs.Inlining.{Tree, Names, Writing, level_name, level_names, bind_names, define_name, pass_names, lost, called, new_name, rename_held, children, trees, tree_at, let_names, write, written, with_names, no_names, names_of_module, written_of}
use Rattle.tla_meaning.proofs.MeaningLemmas.{meaning-roll}
use Rattle.op_inliner.specs.Annotations.{body_of}
use Rattle.op_inliner.proofs.Notes.{body_means}
use Rattle.tla_meaning.proofs.Views.{Marked, outer_same, inner_same, false≢true}
use Rattle.tla_meaning.proofs.Laws.{find-append, unseen, missed-bound, in_bound, equal_of}
use Rattle.tla_meaning.proofs.Renaming.{bound-rename}

pub written-roll : (x : Expr-F Expr) → written (roll-Expr x) ≡ write (map-Expr Expr Writing written x) (role x.op (length x.binds))
unfolding written
written-roll x = fold-roll-Expr Writing (λ x. write x (role x.op (length x.binds))) x

-- ---- levels

-- the names that may be bound around a tree with n binders around it
abbrev pub below : ℕ → List ℕ → Bool
below n [] = true
below n (h ∷ []) = true
below n (h ∷ l ∷ x) = nat_lt (256 * h + l) n

lt_suc : (l n : ℕ) → IsTrue (nat_lt l n) → IsTrue (nat_lt l (suc n))
lt_suc l n h = let k = ltb-true l n h in lt-ltb l (suc n) (omega (arith, k))

lt_self_at : (n : ℕ) (b : Bool) → nat_lt n n ≡ b → IsTrue (not b)
lt_self_at n true e = let k = ltb-true n n e in absurd (omega (arith, k))
lt_self_at n false e = refl

lt_self : (n : ℕ) → IsTrue (not (nat_lt n n))
lt_self n = lt_self_at n (nat_lt n n) refl

-- names of one level are the same exactly where the names are
level_one_to_one : (n : ℕ) → OneToOne (level_name n)
level_one_to_one n x y =
    ap (λ o. is_eq (ordering_then o (ordering_then (nat_cmp (n % 256) (n % 256)) (text_cmp x y)))) (tied_itself nat_cmp_total (n / 256))
    ∙ ap (λ o. is_eq (ordering_then o (text_cmp x y))) (tied_itself nat_cmp_total (n % 256))

below_suc : (n : ℕ) (y : List ℕ) → IsTrue (below n y) → IsTrue (below (suc n) y)
below_suc n [] h = refl
below_suc n (h ∷ []) k = refl
below_suc n (h ∷ l ∷ x) k = lt_suc (256 * h + l) n k

and_both : (a b : Bool) → IsTrue a → IsTrue b → IsTrue (a && b)
and_both true b h k = k
and_both false b h k = absurd (false≢true h)

above : (n : ℕ) (xs : List (List ℕ)) → IsTrue (apart (below n) (level_names n xs))
above n [] = refl
above n (x ∷ xs) = and_both (not (nat_lt (256 * (n / 256) + n % 256) n)) (apart (below n) (level_names n xs)) (ap (λ k. not (nat_lt k n)) (div-add-mod n 256) ∙ lt_self n) (above n xs)

-- ---- a scope with more binders around

pub record Grows (n : ℕ) (a : Scope) (k : ℕ) (b : Scope) : Type 0 where
  pub levels : (y : List ℕ) → IsTrue (below n y) → IsTrue (below k y)
  pub bound : (y : List ℕ) → IsTrue (below n y) → find_last y b.bound ≡ find_last y a.bound
  pub named : (x : List ℕ) → find_last x b.named ≡ find_last x a.named

stays : (n : ℕ) (a : Scope) → Grows n a n a
stays n a = record { levels = λ y h. h; bound = λ y h. refl; named = λ x. refl }

grows_on : (n : ℕ) (a : Scope) (k : ℕ) (b : Scope) (l : ℕ) (c : Scope) → Grows n a k b → Grows k b l c → Grows n a l c
grows_on n a k b l c g h = record {
  levels = λ y e. h.levels y (g.levels y e);
  bound = λ y e. h.bound y (g.levels y e) ∙ g.bound y e;
  named = λ x. h.named x ∙ g.named x;
}

grows_bind : (n : ℕ) (xs : List (List ℕ)) (vs : List Value) (a : Scope) → Grows n a (suc n) (bind (level_names n xs) vs a)
grows_bind n xs vs a = record {
  levels = below_suc n;
  bound = λ y e. unseen y a.bound (bound_to (level_names n xs) vs) (missed-bound (below n) y (level_names n xs) vs (above n xs) e);
  named = λ x. refl;
}

-- ---- trees that mean something

-- a tree means this here, and with more binders around
abbrev pub Made : Width → ℕ → Scope → Tree → Denotation → Type 0
Made w n a t m = (k : ℕ) (b : Scope) → Grows n a k b → meaning w (t k) b ≡ m

abbrev pub AllMade : Width → ℕ → Scope → List Tree → List Denotation → Type 0
AllMade w n a [] [] = Unit {0}
AllMade w n a [] (m ∷ ms) = ⊥
AllMade w n a (t ∷ ts) [] = ⊥
AllMade w n a (t ∷ ts) (m ∷ ms) = Made w n a t m × AllMade w n a ts ms

-- of trees that mean something it makes one that means what is made of these
abbrev pub Does : Width → ℕ → Scope → (List Tree → Tree) → (List Denotation → Denotation) → Type 0
Does w n a f d = (k : ℕ) (b : Scope) → Grows n a k b → (ts : List Tree) (ms : List Denotation) → AllMade w k b ts ms → meaning w (f ts k) b ≡ d ms

abbrev pub AllDo : Width → ℕ → Scope → List (List ℕ × (List Tree → Tree)) → List (List ℕ × (List Denotation → Denotation)) → Type 0
AllDo w n a [] [] = Unit {0}
AllDo w n a [] (d ∷ ds) = ⊥
AllDo w n a (f ∷ fs) [] = ⊥
AllDo w n a (f ∷ fs) (d ∷ ds) = (f.0 ≡ d.0) × Does w n a f.1 d.1 × AllDo w n a fs ds

abbrev OneDoes : Width → ℕ → Scope → Option (List Tree → Tree) → Option (List Denotation → Denotation) → Type 0
OneDoes w n a None None = Unit {0}
OneDoes w n a None (Some d) = ⊥
OneDoes w n a (Some f) None = ⊥
OneDoes w n a (Some f) (Some d) = Does w n a f d

one_of : (w : Width) (n : ℕ) (a : Scope) (f : List Tree → Tree) (d : List Denotation → Denotation) (c : Bool) (o : Option (List Tree → Tree)) (q : Option (List Denotation → Denotation)) →
    OneDoes w n a o q → Does w n a f d → OneDoes w n a (or_else o (if c then Some f else None)) (or_else q (if c then Some d else None))
one_of w n a f d true None None h k = k
one_of w n a f d false None None h k = tt
one_of w n a f d c None (Some e) h k = absurd h
one_of w n a f d c (Some g) None h k = absurd h
one_of w n a f d c (Some g) (Some e) h k = h

found : (w : Width) (n : ℕ) (a : Scope) (z : List ℕ) (fs : List (List ℕ × (List Tree → Tree))) (ds : List (List ℕ × (List Denotation → Denotation))) →
    AllDo w n a fs ds → OneDoes w n a (find_last z fs) (find_last z ds)
found w n a z [] [] h = tt
found w n a z [] (d ∷ ds) h = absurd h
found w n a z (f ∷ fs) [] h = absurd h
found w n a z (f ∷ fs) (d ∷ ds) h =
    subst (λ (y : List ℕ). OneDoes w n a (or_else (find_last z fs) (if same_text z f.0 then Some f.1 else None)) (or_else (find_last z ds) (if same_text z y then Some d.1 else None))) h.0
    (one_of w n a f.1 d.1 (same_text z f.0) (find_last z fs) (find_last z ds) (found w n a z fs ds h.2) h.1)

all_do_on : (w : Width) (n : ℕ) (a : Scope) (k : ℕ) (b : Scope) → Grows n a k b →
    (fs : List (List ℕ × (List Tree → Tree))) (ds : List (List ℕ × (List Denotation → Denotation))) → AllDo w n a fs ds → AllDo w k b fs ds
all_do_on w n a k b g [] [] h = tt
all_do_on w n a k b g [] (d ∷ ds) h = absurd h
all_do_on w n a k b g (f ∷ fs) [] h = absurd h
all_do_on w n a k b g (f ∷ fs) (d ∷ ds) h =
    (h.0, λ l c e ts ms m. h.1 l c (grows_on n a k b l c g e) ts ms m, all_do_on w n a k b g fs ds h.2)

all_do_more : (w : Width) (n : ℕ) (a : Scope) (fs gs : List (List ℕ × (List Tree → Tree))) (ds es : List (List ℕ × (List Denotation → Denotation))) →
    AllDo w n a fs ds → AllDo w n a gs es → AllDo w n a (fs ++ gs) (ds ++ es)
all_do_more w n a [] gs [] es h k = k
all_do_more w n a [] gs (d ∷ ds) es h k = absurd h
all_do_more w n a (f ∷ fs) gs [] es h k = absurd h
all_do_more w n a (f ∷ fs) gs (d ∷ ds) es h k = (h.0, h.1, all_do_more w n a fs gs ds es h.2 k)

-- ---- names that stand in trees for what they stand for in a scope

pub record Reads (w : Width) (n : ℕ) (a : Scope) (ns : Names) (b : Scope) : Type 0 where
  pub levels : (x : List ℕ) → IsTrue (below n (new_name (find_last x ns.bound)))
  pub bound : (x : List ℕ) → find_last (new_name (find_last x ns.bound)) a.bound ≡ find_last x b.bound
  pub named : AllDo w n a ns.named b.named
  pub bare : (x : List ℕ) → find_last x a.named ≡ None

reads_on : (w : Width) (n : ℕ) (a : Scope) (k : ℕ) (c : Scope) (ns : Names) (b : Scope) → Grows n a k c → Reads w n a ns b → Reads w k c ns b
reads_on w n a k c ns b g r = record {
  levels = λ x. g.levels (new_name (find_last x ns.bound)) (r.levels x);
  bound = λ x. g.bound (new_name (find_last x ns.bound)) (r.levels x) ∙ r.bound x;
  named = all_do_on w n a k c g ns.named b.named r.named;
  bare = λ x. g.named x ∙ r.bare x;
}

reads_more : (w : Width) (n : ℕ) (a : Scope) (ns : Names) (b : Scope) → Reads w n a ns b →
    (fs : List (List ℕ × (List Tree → Tree))) (ds : List (List ℕ × (List Denotation → Denotation))) → AllDo w n a fs ds →
    Reads w n a (record ns { named = ns.named ++ fs }) (record b { named = b.named ++ ds })
reads_more w n a ns b r fs ds h = record {
  levels = r.levels;
  bound = r.bound;
  named = all_do_more w n a ns.named fs b.named ds r.named h;
  bare = r.bare;
}

reads_define : (w : Width) (n : ℕ) (a : Scope) (ns : Names) (b : Scope) → Reads w n a ns b → (x : List ℕ) (f : List Tree → Tree) (d : List Denotation → Denotation) →
    Does w n a f d → Reads w n a (define_name x f ns) (define x d b)
reads_define w n a ns b r x f d h = reads_more w n a ns b r ((x, f) ∷ []) ((x, d) ∷ []) (refl, h, tt)

passed : (w : Width) (n : ℕ) (a : Scope) (xs : List (List ℕ)) (ts : List Tree) (ms : List Denotation) → AllMade w n a ts ms →
    AllDo w n a (zip xs (map (λ t. λ _. t) ts)) (zip xs (map (λ m. λ _. m) ms))
passed w n a [] ts ms h = tt
passed w n a (x ∷ xs) [] [] h = tt
passed w n a (x ∷ xs) [] (m ∷ ms) h = absurd h
passed w n a (x ∷ xs) (t ∷ ts) [] h = absurd h
passed w n a (x ∷ xs) (t ∷ ts) (m ∷ ms) h = (refl, λ k b g us ls e. h.0 k b g, passed w n a xs ts ms h.1)

reads_pass : (w : Width) (n : ℕ) (a : Scope) (ns : Names) (b : Scope) → Reads w n a ns b → (xs : List (List ℕ)) (ts : List Tree) (ms : List Denotation) →
    AllMade w n a ts ms → Reads w n a (pass_names xs ts ns) (pass xs ms b)
reads_pass w n a ns b r xs ts ms h =
    reads_more w n a ns b r (zip xs (map (λ t. λ _. t) ts)) (zip xs (map (λ m. λ _. m) ms)) (passed w n a xs ts ms h)

-- a bound name gets the name of its level
level_found : (n : ℕ) (x y : List ℕ) (b c : Bool) → same_text x y ≡ b →
    or_else (if c then Some (level_name n x) else None) (if b then Some (level_name n y) else None) ≡ (if b || c then Some (level_name n x) else None)
level_found n x y true true e = refl
level_found n x y false true e = refl
level_found n x y true false e = ap (λ z. Some (level_name n z)) (sym (texts_equal x y (equal_of (text_cmp x y) e)))
level_found n x y false false e = refl

new_found : (n : ℕ) (x : List ℕ) (xs : List (List ℕ)) →
    find_last x (zip xs (level_names n xs)) ≡ (if list_any (same_text x) xs then Some (level_name n x) else None)
new_found n x [] = refl
new_found n x (y ∷ ys) =
    ap (λ o. or_else o (if same_text x y then Some (level_name n y) else None)) (new_found n x ys)
    ∙ level_found n x y (same_text x y) (list_any (same_text x) ys) refl

new_in : (n : ℕ) (x : List ℕ) (xs : List (List ℕ)) (ns : Names) → list_any (same_text x) xs ≡ true →
    new_name (find_last x (bind_names n xs ns).bound) ≡ level_name n x
new_in n x xs ns h =
    ap new_name (find-append x ns.bound (zip xs (level_names n xs)) ∙ ap (λ o. or_else o (find_last x ns.bound)) (new_found n x xs)
    ∙ ap (λ (b : Bool). or_else (if b then Some (level_name n x) else None) (find_last x ns.bound)) h)

new_out : (n : ℕ) (x : List ℕ) (xs : List (List ℕ)) (ns : Names) → list_any (same_text x) xs ≡ false →
    new_name (find_last x (bind_names n xs ns).bound) ≡ new_name (find_last x ns.bound)
new_out n x xs ns h =
    ap new_name (find-append x ns.bound (zip xs (level_names n xs)) ∙ ap (λ o. or_else o (find_last x ns.bound)) (new_found n x xs)
    ∙ ap (λ (b : Bool). or_else (if b then Some (level_name n x) else None) (find_last x ns.bound)) h)

pub or_no_left : (b c : Bool) → (b || c) ≡ false → b ≡ false
or_no_left true c h = h
or_no_left false c h = refl

pub or_no_right : (b c : Bool) → (b || c) ≡ false → c ≡ false
or_no_right true c h = absurd (false≢true (sym h))
or_no_right false c h = h

pub not_bound : (x : List ℕ) (xs : List (List ℕ)) (vs : List Value) → list_any (same_text x) xs ≡ false → find_last x (bound_to xs vs) ≡ None
not_bound x [] vs h = refl
not_bound x (y ∷ ys) [] h =
    ap₂ (λ o (b : Bool). or_else o (if b then Some (value.Bool false) else None))
    (not_bound x ys [] (or_no_right (same_text x y) (list_any (same_text x) ys) h)) (or_no_left (same_text x y) (list_any (same_text x) ys) h)
not_bound x (y ∷ ys) (v ∷ vs) h =
    ap₂ (λ o (b : Bool). or_else o (if b then Some v else None))
    (not_bound x ys vs (or_no_right (same_text x y) (list_any (same_text x) ys) h)) (or_no_left (same_text x y) (list_any (same_text x) ys) h)

reads_bind : (w : Width) (n : ℕ) (a : Scope) (ns : Names) (b : Scope) → Reads w n a ns b → (xs : List (List ℕ)) (vs : List Value) →
    Reads w (suc n) (bind (level_names n xs) vs a) (bind_names n xs ns) (bind xs vs b)
reads_bind w n a ns b r xs vs = record {
  levels = λ x. level_at x (list_any (same_text x) xs) refl;
  bound = λ x. bound_at x (list_any (same_text x) xs) refl;
  named = all_do_on w n a (suc n) (bind (level_names n xs) vs a) (grows_bind n xs vs a) ns.named b.named r.named;
  bare = r.bare;
}
  where
    level_at : (x : List ℕ) (c : Bool) → list_any (same_text x) xs ≡ c → IsTrue (below (suc n) (new_name (find_last x (bind_names n xs ns).bound)))
    level_at x true h = subst (λ y. IsTrue (below (suc n) y)) (sym (new_in n x xs ns h)) (ap (λ k. nat_lt k (suc n)) (div-add-mod n 256) ∙ lt-ltb n (suc n) (omega arith))
    level_at x false h =
        subst (λ y. IsTrue (below (suc n) y)) (sym (new_out n x xs ns h)) (below_suc n (new_name (find_last x ns.bound)) (r.levels x))

    bound_at : (x : List ℕ) (c : Bool) → list_any (same_text x) xs ≡ c →
        find_last (new_name (find_last x (bind_names n xs ns).bound)) (a.bound ++ bound_to (level_names n xs) vs) ≡ find_last x (b.bound ++ bound_to xs vs)
    bound_at x true h =
        ap (λ y. find_last y (a.bound ++ bound_to (level_names n xs) vs)) (new_in n x xs ns h)
        ∙ find-append (level_name n x) a.bound (bound_to (level_names n xs) vs)
        ∙ ap (λ o. or_else o (find_last (level_name n x) a.bound)) (bound-rename (level_name n) (level_one_to_one n) x xs vs)
        ∙ in_bound x xs vs (find_last (level_name n x) a.bound) (find_last x b.bound) h
        ∙ sym (find-append x b.bound (bound_to xs vs))
    bound_at x false h =
        ap (λ y. find_last y (a.bound ++ bound_to (level_names n xs) vs)) (new_out n x xs ns h)
        ∙ (grows_bind n xs vs a).bound (new_name (find_last x ns.bound)) (r.levels x)
        ∙ r.bound x
        ∙ sym (unseen x b.bound (bound_to xs vs) (not_bound x xs vs h))

-- ---- the induction

abbrev pub Keeps : Width → Expr → Type 0
Keeps w e = (n : ℕ) (a : Scope) (ns : Names) (b : Scope) → Reads w n a ns b → meaning w (written e ns n) a ≡ meaning w e b

abbrev Kept : Width → Type 0
Kept w = (e : Expr) × Keeps w e

abbrev whole : (w : Width) → List (Kept w) → List Expr
whole w ys = map (λ y. y.0) ys

lost_is : (w : Width) (p : Place) (a : Scope) → ((x : List ℕ) → find_last x a.named ≡ None) → meaning w (lost p) a ≡ absent p
lost_is w p a h =
    ap (λ (m : Meaning). m a) (meaning-roll w (record { place = p; op = op.Use []; args = []; binds = [] }))
    ∙ ap (λ o. stands_for p o []) (h [])

all_made : (w : Width) (n : ℕ) (a : Scope) (ns : Names) (b : Scope) → Reads w n a ns b → (ys : List (Kept w)) →
    AllMade w n a (trees (map written (whole w ys)) ns) (denotations (map (meaning w) (whole w ys)) b)
all_made w n a ns b r [] = tt
all_made w n a ns b r (y ∷ ys) = (λ k c g. y.1 k c ns b (reads_on w n a k c ns b g r), all_made w n a ns b r ys)

called_is : (w : Width) (n : ℕ) (a : Scope) (p : Place) → ((x : List ℕ) → find_last x a.named ≡ None) →
    (f : Option (List Tree → Tree)) (d : Option (List Denotation → Denotation)) → OneDoes w n a f d →
    (ts : List Tree) (ms : List Denotation) → AllMade w n a ts ms → meaning w (called p f ts n) a ≡ stands_for p d ms
called_is w n a p e None None h ts ms k = lost_is w p a e
called_is w n a p e None (Some d) h ts ms k = absurd h
called_is w n a p e (Some f) None h ts ms k = absurd h
called_is w n a p e (Some f) (Some d) h ts ms k = h n a (stays n a) ts ms k

tree_is : (w : Width) (n : ℕ) (a : Scope) (p : Place) → ((x : List ℕ) → find_last x a.named ≡ None) → (i : ℕ) →
    (ts : List Tree) (ms : List Denotation) → AllMade w n a ts ms → meaning w (tree_at p i ts n) a ≡ child p i ms
tree_is w n a p e i [] [] h = lost_is w p a e
tree_is w n a p e i [] (m ∷ ms) h = absurd h
tree_is w n a p e i (t ∷ ts) [] h = absurd h
tree_is w n a p e zero (t ∷ ts) (m ∷ ms) h = h.0 n a (stays n a)
tree_is w n a p e (suc i) (t ∷ ts) (m ∷ ms) h = tree_is w n a p e i ts ms h.1

reads_lets : (w : Width) (n : ℕ) (a : Scope) (ds : List (List ℕ × ℕ)) (xs : List (List ℕ)) (ys : List (Kept w)) (ns : Names) (b : Scope) → Reads w n a ns b →
    Reads w n a (let_names ds xs (map written (whole w ys)) ns) (let_scope ds xs (map (meaning w) (whole w ys)) b)
reads_lets w n a [] xs ys ns b r = r
reads_lets w n a (d ∷ ds) xs [] ns b r = r
reads_lets w n a (d ∷ ds) xs (y ∷ ys) ns b r =
    let ps : List (List ℕ) = take d.1 xs in
    let f : List Tree → Tree = λ ts. written y.0 (pass_names ps ts ns) in
    let m : List Denotation → Denotation = λ ms. meaning w y.0 (pass ps ms b) in
    reads_lets w n a ds (drop d.1 xs) ys (define_name d.0 f ns) (define d.0 m b)
    (reads_define w n a ns b r d.0 f m (λ k c g ts ms h.
    y.1 k c (pass_names ps ts ns) (pass ps ms b) (reads_pass w k c ns b (reads_on w n a k c ns b g r) ps ts ms h)))

marked_children : (w : Width) (n : ℕ) (ns us : Names) (ms : List Bool) (ys : List (Kept w)) →
    Marked (λ a b. Reads w n a ns b) (λ a b. Reads w (suc n) a us b) ms (map (meaning w) (children ms (map written (whole w ys)) ns us n)) (map (meaning w) (whole w ys))
marked_children w n ns us ms [] = tt
marked_children w n ns us [] (y ∷ ys) = (λ a b r. y.1 n a ns b r, marked_children w n ns us [] ys)
marked_children w n ns us (true ∷ ms) (y ∷ ys) = (λ a b r. y.1 (suc n) a us b r, marked_children w n ns us ms ys)
marked_children w n ns us (false ∷ ms) (y ∷ ys) = (λ a b r. y.1 n a ns b r, marked_children w n ns us ms ys)

senses_kept : (w : Width) (n : ℕ) (a : Scope) (ns : Names) (b : Scope) → Reads w n a ns b → (ys : List (Kept w)) →
    denotations (map (meaning w) (children [] (map written (whole w ys)) ns ns n)) a ≡ denotations (map (meaning w) (whole w ys)) b
senses_kept w n a ns b r [] = refl
senses_kept w n a ns b r (y ∷ ys) = ap₂ (λ (m : Denotation) (ms : List Denotation). m ∷ ms) (y.1 n a ns b r) (senses_kept w n a ns b r ys)

abbrev pub held_role : List ℕ → Role → Role
held_role y (Held x) = Held y
held_role y (Named x) = Named x
held_role y (Lets ds) = Lets ds
held_role y (Plain_role ms) = Plain_role ms

pub role_held : (y : List ℕ) (o : Op) (n : ℕ) → role (rename_held y o) n ≡ held_role y (role o n)
role_held y (op.Bound x) n = refl
role_held y o n = refl

pub sense_held : (w : Width) (p : Place) (y : List ℕ) (o : Op) (n : ℕ) (v : View) → denotation_of w p (rename_held y o) n v ≡ denotation_of w p o n v
sense_held w p y (op.Bound x) n v = refl
sense_held w p y o n v = refl

length_level : (n : ℕ) (xs : List (List ℕ)) → length (level_names n xs) ≡ length xs
length_level n [] = refl
length_level n (x ∷ xs) = ap suc (length_level n xs)

-- a node that is written out
node_kept : (w : Width) (p : Place) (o : Op) (xs : List (List ℕ)) (ys : List (Kept w)) (q : Role) → role o (length xs) ≡ q →
    (n : ℕ) (a : Scope) (ns : Names) (b : Scope) → Reads w n a ns b →
    meaning w (write (record { place = p; op = o; args = map written (whole w ys); binds = xs }) q ns n) a
    ≡ denotation_of w p o (length xs) (view p q xs (map (meaning w) (whole w ys)) b)
node_kept w p o xs ys (Named z) e n a ns b r =
    called_is w n a p r.bare (find_last z ns.named) (find_last z b.named) (found w n a z ns.named b.named r.named)
    (trees (map written (whole w ys)) ns) (denotations (map (meaning w) (whole w ys)) b) (all_made w n a ns b r ys)
node_kept w p o xs ys (Held z) e n a ns b r =
    let y : List ℕ = new_name (find_last z ns.bound) in
    let ks : List Meaning = map (meaning w) (children [] (map written (whole w ys)) ns ns n) in
    let ls : List Meaning = map (meaning w) (whole w ys) in
    ap (λ (m : Meaning). m a) (meaning-roll w (record { place = p; op = rename_held y o; args = children [] (map written (whole w ys)) ns ns n; binds = xs }))
    ∙ sense_held w p y o (length xs) (view p (role (rename_held y o) (length xs)) xs ks a)
    ∙ ap (λ (q : Role). denotation_of w p o (length xs) (view p q xs ks a)) (role_held y o (length xs) ∙ ap (held_role y) e)
    ∙ ap (denotation_of w p o (length xs)) (λ i. record {
      here = senses_kept w n a ns b r ys i;
      under = λ vs. [];
      held = r.bound z i;
      whole = None;
    })
node_kept w p o xs ys (Lets ds) e n a ns b r =
    let ms : Names = let_names ds xs (map written (whole w ys)) ns in
    let c : Scope = let_scope ds xs (map (meaning w) (whole w ys)) b in
    let s : Reads w n a ms c = reads_lets w n a ds xs ys ns b r in
    tree_is w n a p r.bare (length ds) (trees (map written (whole w ys)) ms) (denotations (map (meaning w) (whole w ys)) c) (all_made w n a ms c s ys)
node_kept w p o xs ys (Plain_role ms) e n a ns b r =
    let us : Names = bind_names n xs ns in
    let es : List Expr = children ms (map written (whole w ys)) ns us n in
    let ks : List Meaning = map (meaning w) es in
    let ls : List Meaning = map (meaning w) (whole w ys) in
    let zs : List (List ℕ) = level_names n xs in
    let R : Scope → Scope → Type 0 = λ a b. Reads w n a ns b in
    let Q : Scope → Scope → Type 0 = λ a b. Reads w (suc n) a us b in
    let h : Marked R Q ms ks ls = marked_children w n ns us ms ys in
    ap (λ (m : Meaning). m a) (meaning-roll w (record { place = p; op = o; args = es; binds = zs }))
    ∙ ap (λ (k : ℕ). denotation_of w p o k (view p (role o k) zs ks a)) (length_level n xs)
    ∙ ap (λ (q : Role). denotation_of w p o (length xs) (view p q zs ks a)) e
    ∙ ap (denotation_of w p o (length xs)) (λ i. record {
      here = outer_same R Q p ms ks ls a b h r i;
      under = λ vs. inner_same R Q p ms ks ls (bind zs vs a) (bind xs vs b) h (reads_bind w n a ns b r xs vs) i;
      held = None;
      whole = None;
    })

-- what is written out of an expression means what the expression means
pub keeps : (w : Width) (e : Expr) → Keeps w e
keeps w = ind-Expr (Keeps w) (λ x y is.
    subst (λ (z : Expr-F Expr). Keeps w (roll-Expr z)) is (λ n a ns b r.
    let z : Expr-F Expr = map-Expr (Kept w) Expr (λ e. e.0) y in
    ap (λ (k : Writing). meaning w (k ns n) a) (written-roll z)
    ∙ node_kept w z.place z.op z.binds y.args (role z.op (length z.binds)) refl n a ns b r
    ∙ sym (ap (λ (m : Meaning). m b) (meaning-roll w z))))

-- ---- the definitions of a flat module

reads_definitions : (w : Width) (n : ℕ) (a : Scope) (ds : List Def) (ns : Names) (b : Scope) → Reads w n a ns b →
    Reads w n a (with_names ds ns) (with_definitions w ds b)
reads_definitions w n a [] ns b r = r
reads_definitions w n a (d ∷ ds) ns b r =
    let f : List Tree → Tree = λ ts. written (body_of d) (pass_names d.params ts ns) in
    let m : List Denotation → Denotation = λ ms. meaning w (with_lambdas d.body) (pass d.params ms b) in
    reads_definitions w n a ds (define_name d.name f ns) (define d.name m b)
    (reads_define w n a ns b r d.name f m (λ k c g ts ms h.
    keeps w (body_of d) k c (pass_names d.params ts ns) (pass d.params ms b) (reads_pass w k c ns b (reads_on w n a k c ns b g r) d.params ts ms h)
    ∙ ap (λ (m : Meaning). m (pass d.params ms b)) (body_means w d)))

pub reads_module : (w : Width) (flat : Flat) → Reads w 0 no_scope (names_of_module flat) (scope_of_module w flat)
reads_module w flat = reads_definitions w 0 no_scope flat.defs no_names no_scope (record {
  levels = λ x. refl;
  bound = λ x. refl;
  named = tt;
  bare = λ x. refl;
})

-- the tree that a definition is written out as means what the definition stands for
pub written_means : (w : Width) (flat : Flat) (p : Place) (x : List ℕ) → meaning w (written_of flat p x) no_scope ≡ defined_as w flat p x
written_means w flat p x =
    let r : Reads w 0 no_scope (names_of_module flat) (scope_of_module w flat) = reads_module w flat in
    called_is w 0 no_scope p r.bare (find_last x (names_of_module flat).named) (find_last x (scope_of_module w flat).named)
    (found w 0 no_scope x (names_of_module flat).named (scope_of_module w flat).named r.named) [] [] tt
