-- Steps of walks over expressions and names.
use Rattle.std.proofs.Common.{arith, drop_of_length-le, subst, zero, filter, Bool, true, false, if◌then◌else◌, ◌≤◌, ◌⊎◌, ◌==◌, ◌&&◌, inl, inr, ◌≡◌, ◌∙◌, ◌+◌, ◌<◌, ℕ, suc, List, [], ◌∷◌, ◌++◌, map, take, drop, length, min, length-take, get_or, flat_map, refl, ap, sym, append_assoc, append-nil, Option}
use Rattle.std.proofs.Math.Seq.{drop-nil}
use Rattle.std.proofs.lemmas.Bool.{cases_lt}
use Rattle.std.proofs.lemmas.List.{length-map, take-append-le, take_more, drop_more, map-append}
use Rattle.std.proofs.lemmas.Grind.{flat_map-append}
use Rattle.std.proofs.lemmas.List.Elements.{filter-append}
use Rattle.tla_meaning.specs.declared.symbols.Misuse.TheVariants.{Twice}
use Rattle.tla_meaning.specs.Outcomes.{least}
use Rattle.tla_meaning.specs.declared.op.Op.{Op}
use Rattle.tla_meaning.specs.declared.op.Op.TheVariants as op
use Rattle.tla_meaning.specs.Meaning.{Plain_role, role}
use Rattle.tla_meaning.specs.Resolving.{Resolved, Resolver, body_scope, children, first_with, inner_marks, is_function, node_resolver, own_misuses, resolved_op, let_in, let_name, let_repeats, marked_in, resolver}
use Rattle.tla_meaning.specs.declared.place.Place.{Place}
use Rattle.tla_meaning.specs.declared.expr.Expr.{Expr, out-Expr, roll-Expr}
use Rattle.tla_meaning.specs.declared.expr.Expr.TheFolds.{fold_out-Expr}
use Rattle.tla_meaning.specs.declared.symbols.Entry.{Entry}
use Rattle.tla_meaning.specs.declared.symbols.Misuse.{Misuse}
use Rattle.tla_meaning.specs.Symbols.{all_repeated, first_of, later, bound, least_from, parameter, repeated, repeats}
use Rattle.flat_modules.specs.declared.resolving.Resolving.{Resolving}
use Rattle.flat_modules.specs.inner.Telling.{Declares, TellsLets, Told, Walks, own_count, own_scope}

pub least_append : (o : Option Misuse) (xs ys : List Misuse) → least_from o (xs ++ ys) ≡ least_from (least_from o xs) ys
least_append o [] ys = refl
least_append o (x ∷ xs) ys = least_append (first_of o x) xs ys

-- one new name more
pub repeated_more : (es fs : List Entry) (f : Entry) → all_repeated es (fs ++ f ∷ []) ≡ all_repeated es fs ++ repeated (es ++ fs) f
repeated_more es [] f = append-nil (repeated es f) ∙ ap (λ l. repeated l f) (sym (append-nil es))
repeated_more es (g ∷ fs) f =
    ap (λ l. repeated es g ++ l) (repeated_more (es ++ g ∷ []) fs f)
    ∙ ap (λ l. repeated es g ++ (all_repeated (es ++ g ∷ []) fs ++ repeated l f)) (append_assoc es (g ∷ []) fs)
    ∙ sym (append_assoc (repeated es g) (all_repeated (es ++ g ∷ []) fs) (repeated (es ++ g ∷ fs) f))

pub repeated_on : (o : Option Misuse) (es fs : List Entry) (f : Entry) →
    least_from o (all_repeated es (fs ++ f ∷ [])) ≡ least_from (least_from o (all_repeated es fs)) (repeated (es ++ fs) f)
repeated_on o es fs f = ap (least_from o) (repeated_more es fs f) ∙ least_append o (all_repeated es fs) (repeated (es ++ fs) f)

module _ {X Y : Type 0} (f : X → Y) (xs : List X) (i : ℕ) (x : X) (lt : i < length xs) (is : x ≡ get_or xs i x) where
  pub mapped_more : map f (take (i + 1) xs) ≡ map f (take i xs) ++ f x ∷ []
  mapped_more =
      ap (map f) (take_more xs i x lt) ∙ map-append f (take i xs) (get_or xs i x ∷ [])
      ∙ ap (λ y. map f (take i xs) ++ f y ∷ []) (sym is)

  pub mapped_rest : map f (drop i xs) ≡ f x ∷ map f (drop (i + 1) xs)
  mapped_rest = ap (map f) (drop_more xs i x lt) ∙ ap (λ y. f y ∷ map f (drop (i + 1) xs)) (sym is)

-- the marks from a place on
tail_suc : (ms : List Bool) (i : ℕ) →
    (drop i ms ≡ get_or ms i false ∷ drop (suc i) ms) ⊎ ((drop i ms ≡ []) × ((drop (suc i) ms ≡ []) × (get_or ms i false ≡ false)))
tail_suc [] i = inr (drop-nil i, (drop-nil (suc i), get_or-nil i))
  where
    get_or-nil : (i : ℕ) → get_or [] i false ≡ false
    get_or-nil zero = refl
    get_or-nil (suc i) = refl
tail_suc (m ∷ ms) zero = inl refl
tail_suc (m ∷ ms) (suc i) = tail_suc ms i

tail_of : (ms : List Bool) (i : ℕ) →
    (drop i ms ≡ get_or ms i false ∷ drop (i + 1) ms) ⊎ ((drop i ms ≡ []) × ((drop (i + 1) ms ≡ []) × (get_or ms i false ≡ false)))
tail_of ms i =
    let e : suc i ≡ i + 1 = omega arith in
    subst (λ j. (drop i ms ≡ get_or ms i false ∷ drop j ms) ⊎ ((drop i ms ≡ []) × ((drop j ms ≡ []) × (get_or ms i false ≡ false)))) e (tail_suc ms i)

-- nothing was walked
pub walks_none : (a : Resolving) (whole : List Resolved) → Walks a a [] whole whole
walks_none a whole = record { done = []; split = refl; told = refl; trees = refl }

-- one expression more
pub walks_next : {old mid new : Resolving} {made : List Expr} {whole rest more : List Resolved} {r : Resolved} {e : Expr} →
    Walks old mid made whole rest → rest ≡ r ∷ more → Told mid new r.misuses → e ≡ r.tree → Walks old new (made ++ e ∷ []) whole more
walks_next {old} {mid} {new} {made} {whole} {rest} {more} {r} {e} w is t tree = record {
  done = w.done ++ r ∷ [];
  split = w.split ∙ ap (λ l. w.done ++ l) is ∙ sym (append_assoc w.done (r ∷ []) more);
  told =
      t.told ∙ ap (λ o. least_from o r.misuses) w.told
      ∙ sym (least_append old.told (flat_map (λ r. r.misuses) w.done) r.misuses)
      ∙ ap (λ l. least_from old.told (flat_map (λ r. r.misuses) w.done ++ l)) (sym (append-nil r.misuses))
      ∙ ap (least_from old.told) (sym (flat_map-append (λ r. r.misuses) w.done (r ∷ [])));
  trees = ap (λ l. l ++ e ∷ []) w.trees ∙ ap (λ y. map (λ r. r.tree) w.done ++ y ∷ []) tree ∙ sym (map-append (λ r. r.tree) w.done (r ∷ []));
}

pub repeated_append : (es fs : List Entry) (f : Entry) → repeated (es ++ fs) f ≡ repeated es f ++ repeated fs f
repeated_append es fs f =
    ap (map (λ (e : Entry). Twice f.name (least e.place f.place) (later e.place f.place))) (filter-append (repeats f) es fs)
    ∙ map-append (λ (e : Entry). Twice f.name (least e.place f.place) (later e.place f.place)) (filter (repeats f) es) (filter (repeats f) fs)

-- one name in scope more
pub beside_next : (o : Option Misuse) (es : List Entry) (i : ℕ) (e f : Entry) → i < length es → e ≡ get_or es i e →
    least_from (least_from o (repeated (take i es) f)) (repeated (e ∷ []) f) ≡ least_from o (repeated (take (i + 1) es) f)
beside_next o es i e f lt is =
    sym (least_append o (repeated (take i es) f) (repeated (e ∷ []) f))
    ∙ ap (least_from o) (sym (repeated_append (take i es) (e ∷ []) f))
    ∙ ap (λ y. least_from o (repeated (take i es ++ y ∷ []) f)) is
    ∙ ap (λ l. least_from o (repeated l f)) (sym (take_more es i e lt))

-- one declared name more
pub declares_next : {X : Type 0} {mid new : Resolving} (s : List Entry) (o : Option Misuse) (f : X → Entry) (xs : List X) (i : ℕ) (x : X) (e : Entry) →
    i < length xs → x ≡ get_or xs i x → e ≡ f x → Declares mid new e →
    (mid.scope ≡ s ++ map f (take i xs)) × (mid.told ≡ least_from o (all_repeated s (map f (take i xs)))) →
    (new.scope ≡ s ++ map f (take (i + 1) xs)) × (new.told ≡ least_from o (all_repeated s (map f (take (i + 1) xs))))
declares_next {X} {mid} {new} s o f xs i x e lt is v d k = (
  d.scope ∙ ap (λ l. l ++ e ∷ []) k.0 ∙ append_assoc s (map f (take i xs)) (e ∷ [])
      ∙ ap (λ y. s ++ (map f (take i xs) ++ y ∷ [])) v ∙ ap (λ l. s ++ l) (sym (mapped_more f xs i x lt is)),
  d.told ∙ ap (λ l. least_from mid.told (repeated l e)) k.0
      ∙ ap (λ t. least_from t (repeated (s ++ map f (take i xs)) e)) k.1
      ∙ sym (repeated_on o s (map f (take i xs)) e)
      ∙ ap (λ y. least_from o (all_repeated s (map f (take i xs) ++ y ∷ []))) v
      ∙ ap (λ l. least_from o (all_repeated s l)) (sym (mapped_more f xs i x lt is)),
)

-- ---- walks over the children of a node

-- the definitions of a LET up to one more
pub lets_next : {old mid m1 m2 new : Resolving} {p : Place} {ds : List (List ℕ × ℕ)} {xs : List (List ℕ)} (more : List (List ℕ × ℕ)) (rest : List (List ℕ)) (i : ℕ) (d : List ℕ × ℕ) (e : Entry) →
    i < length more → d ≡ get_or more i d → TellsLets old mid p ds xs (drop i more) rest → e ≡ let_name p d →
    Told mid m1 (repeated mid.scope e) → Told m1 m2 (all_repeated m1.scope (map (parameter p) (take d.1 rest))) →
    new.scope ≡ m2.scope ++ e ∷ [] → new.told ≡ m2.told → TellsLets old new p ds xs (drop (i + 1) more) (drop d.1 rest)
lets_next {old} {mid} {m1} {m2} {new} {p} {ds} {xs} more rest i d e lt is w v a b s t =
    let names = map (parameter p) (take d.1 rest) in
    let mine = all_repeated mid.scope (let_name p d ∷ []) ++ all_repeated mid.scope names in
    let here = a.scope in
    record {
      done = w.done ++ mine;
      split =
          w.split ∙ ap (λ l. w.done ++ let_repeats p mid.scope l rest) (drop_more more i d lt ∙ ap (λ y. y ∷ drop (i + 1) more) (sym is))
          ∙ ap (λ l. w.done ++ (mine ++ let_repeats p l (drop (i + 1) more) (drop d.1 rest)))
          (sym (s ∙ ap (λ l. l ++ e ∷ []) (b.scope ∙ here) ∙ ap (λ y. mid.scope ++ y ∷ []) v))
          ∙ sym (append_assoc w.done mine (let_repeats p new.scope (drop (i + 1) more) (drop d.1 rest)));
      told =
          t ∙ b.told ∙ ap (λ l. least_from m1.told (all_repeated l names)) here ∙ ap (λ o. least_from o (all_repeated mid.scope names)) a.told
          ∙ sym (least_append mid.told (repeated mid.scope e) (all_repeated mid.scope names))
          ∙ ap (λ y. least_from mid.told (repeated mid.scope y ++ all_repeated mid.scope names)) v
          ∙ ap (λ l. least_from mid.told (l ++ all_repeated mid.scope names)) (sym (append-nil (repeated mid.scope (let_name p d))))
          ∙ ap (λ o. least_from o mine) w.told ∙ sym (least_append old.told w.done mine);
    }

pub lets_step : {old mid m1 m2 new : Resolving} {p : Place} {ds : List (List ℕ × ℕ)} {xs : List (List ℕ)} (more : List (List ℕ × ℕ)) (rest part left : List (List ℕ)) (i : ℕ) (d : List ℕ × ℕ) (e : Entry) →
    i < length more → d ≡ get_or more i d → part ≡ take d.1 rest → left ≡ drop d.1 rest → TellsLets old mid p ds xs (drop i more) rest → e ≡ let_name p d →
    Told mid m1 (repeated mid.scope e) → Told m1 m2 (all_repeated m1.scope (map (parameter p) part)) →
    new.scope ≡ m2.scope ++ e ∷ [] → new.told ≡ m2.told → TellsLets old new p ds xs (drop (i + 1) more) left
lets_step {old} {mid} {m1} {m2} {new} {p} {ds} {xs} more rest part left i d e lt is ps ls w v a b s t =
    subst (λ l. TellsLets old new p ds xs (drop (i + 1) more) l) (sym ls)
    (lets_next more rest i d e lt is w v a (subst (λ l. Told m1 m2 (all_repeated m1.scope (map (parameter p) l))) ps b) s t)

-- all were walked
pub walks_end : {old mid new : Resolving} {made : List Expr} {whole rest : List Resolved} (tail : List Expr) →
    Walks old mid made whole rest → Told mid new (flat_map (λ r. r.misuses) rest) → tail ≡ map (λ r. r.tree) rest →
    (new.told ≡ least_from old.told (flat_map (λ r. r.misuses) whole)) × (made ++ tail ≡ map (λ r. r.tree) whole)
walks_end {old} {mid} {new} {made} {whole} {rest} tail w t v = (
  t.told ∙ ap (λ o. least_from o (flat_map (λ r. r.misuses) rest)) w.told
      ∙ sym (least_append old.told (flat_map (λ r. r.misuses) w.done) (flat_map (λ r. r.misuses) rest))
      ∙ ap (least_from old.told) (sym (flat_map-append (λ r. r.misuses) w.done rest) ∙ ap (flat_map (λ r. r.misuses)) (sym w.split)),
  ap (λ l. l ++ tail) w.trees ∙ ap (λ l. map (λ r. r.tree) w.done ++ l) v
      ∙ sym (map-append (λ r. r.tree) w.done rest) ∙ ap (map (λ r. r.tree)) (sym w.split),
)

-- nothing is left
pub walks_whole : {old mid : Resolving} {made : List Expr} {whole rest : List Resolved} →
    Walks old mid made whole rest → rest ≡ [] → mid.scope ≡ old.scope → Told old mid (flat_map (λ r. r.misuses) whole) × (made ≡ map (λ r. r.tree) whole)
walks_whole {old} {mid} {made} {whole} {rest} w none s =
    let same : whole ≡ w.done = w.split ∙ ap (λ l. w.done ++ l) none ∙ append-nil w.done in (
      record { scope = s; told = w.told ∙ ap (λ l. least_from old.told (flat_map (λ r. r.misuses) l)) (sym same) },
      w.trees ∙ ap (map (λ r. r.tree)) (sym same),
    )

pub first_next : (n : ℕ) (es : List Entry) (trees : List Expr) (i : ℕ) (e : Expr) → i < length trees → e ≡ get_or trees i e →
    first_with n es (map resolver (drop i trees)) ≡ (resolver e).resolve n es ∷ first_with 0 es (map resolver (drop (i + 1) trees))
first_next n es trees i e lt is = ap (first_with n es) (mapped_rest resolver trees i e lt is)

pub marked_next : (es fs : List Entry) (ms : List Bool) (trees : List Expr) (i : ℕ) (e : Expr) → i < length trees → e ≡ get_or trees i e →
    marked_in es fs (drop i ms) (map resolver (drop i trees))
    ≡ (resolver e).resolve 0 (if get_or ms i false then es ++ fs else es) ∷ marked_in es fs (drop (i + 1) ms) (map resolver (drop (i + 1) trees))
marked_next es fs ms trees i e lt is =
    ap (marked_in es fs (drop i ms)) (mapped_rest resolver trees i e lt is) ∙ by_marks (drop i ms) (drop (i + 1) ms) (get_or ms i false) (tail_of ms i)
  where
    by_marks : (ns more : List Bool) (b : Bool) → (ns ≡ b ∷ more) ⊎ ((ns ≡ []) × ((more ≡ []) × (b ≡ false))) →
        marked_in es fs ns (resolver e ∷ map resolver (drop (i + 1) trees))
        ≡ (resolver e).resolve 0 (if b then es ++ fs else es) ∷ marked_in es fs more (map resolver (drop (i + 1) trees))
    by_marks ns more true (inl h) = ap (λ l. marked_in es fs l (resolver e ∷ map resolver (drop (i + 1) trees))) h
    by_marks ns more false (inl h) = ap (λ l. marked_in es fs l (resolver e ∷ map resolver (drop (i + 1) trees))) h
    by_marks ns more b (inr h) =
        ap (λ l. marked_in es fs l (resolver e ∷ map resolver (drop (i + 1) trees))) h.0
        ∙ ap (λ l. (resolver e).resolve 0 es ∷ marked_in es fs l (map resolver (drop (i + 1) trees))) (sym h.1.0)
        ∙ ap (λ c. (resolver e).resolve 0 (if c then es ++ fs else es) ∷ marked_in es fs more (map resolver (drop (i + 1) trees))) (sym h.1.1)

-- one definition of a LET more, and those behind them
pub let_next : (p : Place) (es : List Entry) (ds : List (List ℕ × ℕ)) (xs : List (List ℕ)) (trees : List Expr) (i : ℕ) (d : List ℕ × ℕ) (e : Expr) →
    i < length ds → d ≡ get_or ds i d → i < length trees → e ≡ get_or trees i e →
    let_in p es (drop i ds) xs (map resolver (drop i trees))
    ≡ (resolver e).resolve 0 (body_scope es p d.0 (take d.1 xs) d.1 (d.1 == 0 && (resolver e).function))
    ∷ let_in p (es ++ let_name p d ∷ []) (drop (i + 1) ds) (drop d.1 xs) (map resolver (drop (i + 1) trees))
let_next p es ds xs trees i d e ld id lt is =
    ap (λ l. let_in p es l xs (map resolver (drop i trees))) (drop_more ds i d ld ∙ ap (λ y. y ∷ drop (i + 1) ds) (sym id))
    ∙ ap (let_in p es (d ∷ drop (i + 1) ds) xs) (mapped_rest resolver trees i e lt is)

pub let_end : (p : Place) (es : List Entry) (ds : List (List ℕ × ℕ)) (xs : List (List ℕ)) (ks : List Resolver) → (length ds ≡ 0) ⊎ (length ks ≡ 0) →
    let_in p es ds xs ks ≡ first_with 0 es ks
let_end p es [] xs ks h = refl
let_end p es (d ∷ ds) xs [] h = refl
let_end p es (d ∷ ds) xs (k ∷ ks) (inl h) = absurd (omega (arith, h))
let_end p es (d ∷ ds) xs (k ∷ ks) (inr h) = absurd (omega (arith, h))

-- the children of all other operators, of which those that are marked see the bound names
pub default_children : (p : Place) (o : Op) (xs : List (List ℕ)) (ks : List Resolver) (es : List Entry) (ms : List Bool) →
    (o ≡ op.Fold → ⊥) → ((x : List ℕ) → o ≡ op.Use x → ⊥) → ((x : List ℕ) → o ≡ op.Param x → ⊥) → ((ds : List (List ℕ × ℕ)) → o ≡ op.Let ds → ⊥)
    → ((x : List ℕ) → o ≡ op.Bound x → ⊥)
    → ((bs : List Bool) → role o (length xs) ≡ Plain_role bs → ms ≡ inner_marks o xs (length ks) bs) →
    marked_in es (map (bound p) xs) ms ks ≡ children p o xs ks (role o (length xs)) es
default_children p op.Fold xs ks es ms f u q l b k = absurd (f refl)
default_children p (op.Use x) xs ks es ms f u q l b k = absurd (u x refl)
default_children p (op.Param x) xs ks es ms f u q l b k = absurd (q x refl)
default_children p (op.Let ds) xs ks es ms f u q l b k = absurd (l ds refl)
default_children p (op.Bound x) xs ks es ms f u q l b k = absurd (b x refl)
default_children p op.Exists xs ks es ms f u q l b k = ap (λ m. marked_in es (map (bound p) xs) m ks) (k _ refl)
default_children p o xs ks es ms f u q l b k = ap (λ m. marked_in es (map (bound p) xs) m ks) (k _ refl)

-- a scope that is longer by one name is cut to what it was
pub cut_more : {old mid m2 new : List Entry} {n : ℕ} (e : Entry) → n ≡ length old → take n mid ≡ old → m2 ≡ mid → new ≡ m2 ++ e ∷ [] → take n new ≡ old
cut_more {old} {mid} {m2} {new} {n} e is cut same more =
    ap (take n) (more ∙ ap (λ l. l ++ e ∷ []) same) ∙ take-append-le n mid (e ∷ []) (within n mid old cut is) ∙ cut
  where
    within : (n : ℕ) (mid old : List Entry) → take n mid ≡ old → n ≡ length old → n ≤ length mid
    within n mid old cut is = omega (arith, length-take n mid, ap length cut, is)

-- a node
pub resolved_node : (e : Expr) (n : ℕ) (es : List Entry) →
    (resolver e).resolve n es
    ≡ (node_resolver (out-Expr e).place (out-Expr e).op (out-Expr e).binds (map resolver (out-Expr e).args) (role (out-Expr e).op (length (out-Expr e).binds))).resolve n es
resolved_node e n es =
    ap (λ (k : Resolver). k.resolve n es) (fold_out-Expr Resolver (λ x. node_resolver x.place x.op x.binds x.args (role x.op (length x.binds))) e)

pub node_function : (e : Expr) → (resolver e).function ≡ is_function (out-Expr e).op
node_function e = ap (λ (k : Resolver). k.function) (fold_out-Expr Resolver (λ x. node_resolver x.place x.op x.binds x.args (role x.op (length x.binds))) e)

-- ---- the goals of the functions, over plain variables

pub tells_node : {old mid new : Resolving} (p : Place) (o : Op) (xs : List (List ℕ)) (trees : List Expr) (more : ℕ) (made : List Expr) (q : Op) →
    Told old mid (own_misuses p o xs (length trees + more) (role o (length xs)) old.scope) →
    q ≡ resolved_op o (role o (length xs)) mid.scope →
    Told mid new (flat_map (λ r. r.misuses) (children p o xs (map resolver trees) (role o (length xs)) mid.scope)) →
    made ≡ map (λ r. r.tree) (children p o xs (map resolver trees) (role o (length xs)) mid.scope) →
    Told old new ((node_resolver p o xs (map resolver trees) (role o (length xs))).resolve more old.scope).misuses
    × (roll-Expr (record { place = p; op = q; args = made; binds = xs }) ≡ ((node_resolver p o xs (map resolver trees) (role o (length xs))).resolve more old.scope).tree)
tells_node {old} {mid} {new} p o xs trees more made q a v b w =
    let r = role o (length xs) in
    let mine = own_misuses p o xs (length trees + more) r old.scope in
    let inside = children p o xs (map resolver trees) r in (
      record {
        scope = b.scope ∙ a.scope;
        told =
            b.told ∙ ap (λ l. least_from mid.told (flat_map (λ r. r.misuses) (inside l))) a.scope
            ∙ ap (λ t. least_from t (flat_map (λ r. r.misuses) (inside old.scope))) a.told
            ∙ sym (least_append old.told mine (flat_map (λ r. r.misuses) (inside old.scope)))
            ∙ ap (λ n. least_from old.told (own_misuses p o xs (n + more) r old.scope ++ flat_map (λ r. r.misuses) (inside old.scope))) (sym (length-map trees resolver));
      },
      ap (λ y. roll-Expr (record { place = p; op = y; args = made; binds = xs })) (v ∙ ap (resolved_op o r) a.scope)
          ∙ ap (λ l. roll-Expr (record { place = p; op = resolved_op o r old.scope; args = l; binds = xs })) (w ∙ ap (λ l. map (λ r. r.tree) (inside l)) a.scope),
    )

module _ {old mid new : Resolving} (args : List Expr) (i : ℕ) (e t : Expr) (made pushed : List Expr) (whole : List Resolved)
    (lt : i < length args) (is : e ≡ get_or args i e) (push : pushed ≡ made ++ t ∷ []) (s : mid.scope ≡ old.scope) where
  pub all_step : (beside : ℕ) →
      Walks old mid made whole (first_with beside old.scope (map resolver (drop i args))) →
      Told mid new ((resolver e).resolve beside mid.scope).misuses × (t ≡ ((resolver e).resolve beside mid.scope).tree) →
      (new.scope ≡ old.scope) × Walks old new pushed whole (first_with 0 old.scope (map resolver (drop (i + 1) args)))
  all_step beside w h =
      let k = subst (λ l. Told mid new ((resolver e).resolve beside l).misuses × (t ≡ ((resolver e).resolve beside l).tree)) s h in (
        k.0.scope ∙ s,
        subst (λ l. Walks old new l whole (first_with 0 old.scope (map resolver (drop (i + 1) args)))) (sym push)
            (walks_next w (first_next beside old.scope args i e lt is) k.0 k.1),
      )

  pub marked_step : (fs : List Entry) (ms : List Bool) →
      Walks old mid made whole (marked_in old.scope fs (drop i ms) (map resolver (drop i args))) →
      Told mid new ((resolver e).resolve 0 (if get_or ms i false then mid.scope ++ fs else mid.scope)).misuses
      × (t ≡ ((resolver e).resolve 0 (if get_or ms i false then mid.scope ++ fs else mid.scope)).tree) →
      (new.scope ≡ old.scope) × Walks old new pushed whole (marked_in old.scope fs (drop (i + 1) ms) (map resolver (drop (i + 1) args)))
  marked_step fs ms w h =
      let at : List Entry → List Entry = λ l. if get_or ms i false then l ++ fs else l in
      let k = subst (λ l. Told mid new ((resolver e).resolve 0 (at l)).misuses × (t ≡ ((resolver e).resolve 0 (at l)).tree)) s h in (
        k.0.scope ∙ s,
        subst (λ l. Walks old new l whole (marked_in old.scope fs (drop (i + 1) ms) (map resolver (drop (i + 1) args)))) (sym push)
            (walks_next w (marked_next old.scope fs ms args i e lt is) k.0 k.1),
      )

pub own_is_body : (es : List Entry) (p : Place) (x : List ℕ) (params : List (List ℕ)) (n : ℕ) (own : Bool) → own_scope es p x params (own_count n own) ≡ body_scope es p x params n own
own_is_body es p x params n true = refl
own_is_body es p x params n false = refl

-- one definition of a LET more
pub let_step : {old mid m2 new : Resolving} (args : List Expr) (i : ℕ) (e t : Expr) (made pushed : List Expr) (whole : List Resolved)
    (p : Place) (ds : List (List ℕ × ℕ)) (rest part left : List (List ℕ)) (d : List ℕ × ℕ) (f : Entry) (own : Option ℕ) →
    i < length args → e ≡ get_or args i e → i < length ds → d ≡ get_or ds i d → part ≡ take d.1 rest → left ≡ drop d.1 rest →
    own ≡ own_count d.1 (d.1 == 0 && is_function (out-Expr e).op) →
    pushed ≡ made ++ t ∷ [] → f ≡ let_name p d → new.scope ≡ m2.scope ++ f ∷ [] → new.told ≡ m2.told →
    Walks old mid made whole (let_in p mid.scope (drop i ds) rest (map resolver (drop i args))) →
    Told mid m2 ((resolver e).resolve 0 (own_scope mid.scope p d.0 part own)).misuses
    × (t ≡ ((resolver e).resolve 0 (own_scope mid.scope p d.0 part own)).tree) →
    Walks old new pushed whole (let_in p new.scope (drop (i + 1) ds) left (map resolver (drop (i + 1) args)))
let_step {old} {mid} {m2} {new} args i e t made pushed whole p ds rest part left d f own lt is ld id ps ls os push v s told w h =
    let told_in : List Entry → Type 0 = λ es. Told mid m2 ((resolver e).resolve 0 es).misuses × (t ≡ ((resolver e).resolve 0 es).tree) in
    let same_scope : own_scope mid.scope p d.0 part own ≡ body_scope mid.scope p d.0 (take d.1 rest) d.1 (d.1 == 0 && (resolver e).function) =
    ap (λ l. own_scope mid.scope p d.0 l own) ps ∙ ap (own_scope mid.scope p d.0 (take d.1 rest)) os
    ∙ own_is_body mid.scope p d.0 (take d.1 rest) d.1 (d.1 == 0 && is_function (out-Expr e).op)
    ∙ ap (λ b. body_scope mid.scope p d.0 (take d.1 rest) d.1 (d.1 == 0 && b)) (sym (node_function e)) in
    let k2 = subst told_in same_scope h in
    let w2 = walks_next w (let_next p mid.scope ds rest args i d e ld id lt is) k2.0 k2.1 in
    let same : mid.scope ++ let_name p d ∷ [] ≡ new.scope = ap (λ y. mid.scope ++ y ∷ []) (sym v) ∙ ap (λ l. l ++ f ∷ []) (sym k2.0.scope) ∙ sym s in
    let w3 = subst (λ l. Walks old m2 (made ++ t ∷ []) whole (let_in p l (drop (i + 1) ds) (drop d.1 rest) (map resolver (drop (i + 1) args)))) same w2 in
    let w4 = subst (λ l. Walks old m2 (made ++ t ∷ []) whole (let_in p new.scope (drop (i + 1) ds) l (map resolver (drop (i + 1) args)))) (sym ls) w3 in
    let w5 = subst (λ l. Walks old m2 l whole (let_in p new.scope (drop (i + 1) ds) left (map resolver (drop (i + 1) args)))) (sym push) w4 in
    record { done = w5.done; split = w5.split; told = told ∙ w5.told; trees = w5.trees }

-- all definitions of a LET, and what stands behind them
pub let_whole : {old mid m2 new : Resolving} (args : List Expr) (i : ℕ) (made tail pushed : List Expr) (whole : List Resolved)
    (p : Place) (ds : List (List ℕ × ℕ)) (rest : List (List ℕ)) →
    (length (drop i ds) ≡ 0) ⊎ (length (map resolver (drop i args)) ≡ 0) → pushed ≡ made ++ tail → new.scope ≡ old.scope → new.told ≡ m2.told →
    Walks old mid made whole (let_in p mid.scope (drop i ds) rest (map resolver (drop i args))) →
    Told mid m2 (flat_map (λ r. r.misuses) (first_with 0 mid.scope (map resolver (drop i args))))
    × (tail ≡ map (λ r. r.tree) (first_with 0 mid.scope (map resolver (drop i args)))) →
    Told old new (flat_map (λ r. r.misuses) whole) × (pushed ≡ map (λ r. r.tree) whole)
let_whole {old} {mid} {m2} {new} args i made tail pushed whole p ds rest none push s told w h =
    let e = let_end p mid.scope (drop i ds) rest (map resolver (drop i args)) none in
    let w2 = subst (λ l. Walks old mid made whole l) e w in
    let k = walks_end {new = m2} tail w2 h.0 h.1 in (
      record { scope = s; told = told ∙ k.0 },
      push ∙ k.1,
    )

-- at the end of the definitions of a LET
pub none_left : (ds : List (List ℕ × ℕ)) (trees : List Expr) (i n : ℕ) → n ≡ min (length ds) (length trees) → n ≤ i →
    (length (drop i ds) ≡ 0) ⊎ (length (map resolver (drop i trees)) ≡ 0)
none_left ds trees i n is le = by (cases_lt (length ds) (length trees))
  where
    by : (length ds < length trees) ⊎ (length trees ≤ length ds) → (length (drop i ds) ≡ 0) ⊎ (length (map resolver (drop i trees)) ≡ 0)
    by (inl h) = let e : length ds ≤ i = omega (arith, h, is, le) in inl (ap length (drop_of_length-le ds e))
    by (inr h) = let e : length trees ≤ i = omega (arith, h, is, le) in inr (ap (λ l. length (map resolver l)) (drop_of_length-le trees e))
