-- Values are normal, for every tree.
use Rattle.std.proofs.Common.{◌≡◌, ℕ, Bool, true, false, List, [], ◌∷◌, take, drop, map, zip, length, Option, Some, None, sym, subst, if◌then◌else◌}
use Rattle.std.specs.List.{All, AllByRecursion}
use Rattle.std.proofs.lemmas.List.Elements.{recursion_from_All}
use Rattle.tla_values.specs.Sets.{Normal}
use Rattle.tla_values.specs.declared.value.Value.{Value}
use Rattle.tla_meaning.specs.declared.expr.Expr.{Expr, roll-Expr}
use Rattle.tla_meaning.specs.declared.expr.Expr.TheOpen.{Expr-F}
use Rattle.tla_meaning.specs.declared.expr.Expr.TheFolds.{fold-Expr, fold-roll-Expr, map-Expr, ind-Expr}
use Rattle.tla_meaning.specs.declared.job.Env.{Env}
use Rattle.tla_meaning.specs.declared.job.State.{State}
use Rattle.tla_meaning.specs.declared.outcome.Outcome.TheVariants.{Val}
use Rattle.tla_meaning.specs.declared.place.Place.{Place}
use Rattle.tla_meaning.specs.Numbers.{Width}
use Rattle.tla_meaning.specs.Scopes.{Denotation, Scope, bind, bound_to, define, pass, find_last, or_else, same_text, stands_for}
use Rattle.tla_meaning.specs.Meaning.{Meaning, denotations, Role, Named, Held, Lets, Plain_role, role, view, outer, inner, let_scope}
use Rattle.tla_meaning.specs.Actions.{node, val, meaning}
use Rattle.tla_meaning.specs.Executions.{scope_of}
use Rattle.tla_meaning.proofs.NormalShapes.{Normals, IfSomes, truth_normal, all_plus}
use Rattle.tla_meaning.specs.Outcomes.{IsNormalOutcome}
use Rattle.tla_meaning.proofs.NormalNodes.{NormalDenotation, NormalDenotations, NormalView, absent_normal, child_normal, denotation_normal}

-- ---- scopes

abbrev pub NormalDef : (List Denotation → Denotation) → Type 0
NormalDef d = (as' : List Denotation) → NormalDenotations as' → NormalDenotation (d as')

abbrev pub Entries : {X : Type 0} → (X → Type 0) → List (List ℕ × X) → Type 0
Entries P es = AllByRecursion (λ e. P e.1) es

pub record NormalScope (a : Scope) : Type 0 where
  pub bound : Entries Normal a.bound
  pub named : Entries NormalDef a.named

else_normal : {X : Type 0} (P : X → Type 0) (o q : Option X) → IfSomes P o → IfSomes P q → IfSomes P (or_else o q)
else_normal P None q h k = k
else_normal P (Some x) q h k = h

test_normal : {X : Type 0} (P : X → Type 0) (b : Bool) (x : X) → P x → IfSomes P (if b then Some x else None)
test_normal P true x h = h
test_normal P false x h = tt

find_normal : {X : Type 0} (P : X → Type 0) (x : List ℕ) (es : List (List ℕ × X)) → Entries P es → IfSomes P (find_last x es)
find_normal P x [] h = tt
find_normal P x (e ∷ es) h = else_normal P (find_last x es) _ (find_normal P x es h.1) (test_normal P (same_text x e.0) e.1 h.0)

bound_normal : (xs : List (List ℕ)) (vs : List Value) → Normals vs → Entries Normal (bound_to xs vs)
bound_normal [] vs h = tt
bound_normal (x ∷ xs) [] h = (truth_normal false, bound_normal xs [] h)
bound_normal (x ∷ xs) (v ∷ vs) h = (h.0, bound_normal xs vs h.1)

passed_normal : (xs : List (List ℕ)) (as' : List Denotation) → NormalDenotations as' → Entries NormalDef (zip xs (map (λ a. λ (_ : List Denotation). a) as'))
passed_normal [] as' h = tt
passed_normal (x ∷ xs) [] h = tt
passed_normal (x ∷ xs) (a ∷ as') h = ((λ bs k. h.0), passed_normal xs as' h.1)

bind_normal : (xs : List (List ℕ)) (vs : List Value) (a : Scope) → Normals vs → NormalScope a → NormalScope (bind xs vs a)
bind_normal xs vs a h r = record { bound = all_plus (λ e. Normal e.1) a.bound (bound_to xs vs) r.bound (bound_normal xs vs h); named = r.named }

define_normal : (x : List ℕ) (d : List Denotation → Denotation) (a : Scope) → NormalDef d → NormalScope a → NormalScope (define x d a)
define_normal x d a h r = record { bound = r.bound; named = all_plus (λ e. NormalDef e.1) a.named ((x, d) ∷ []) r.named (h, tt) }

pass_normal : (xs : List (List ℕ)) (as' : List Denotation) (a : Scope) → NormalDenotations as' → NormalScope a → NormalScope (pass xs as' a)
pass_normal xs as' a h r = record { bound = r.bound; named = all_plus (λ e. NormalDef e.1) a.named _ r.named (passed_normal xs as' h) }

stands_normal : (p : Place) (o : Option (List Denotation → Denotation)) (as' : List Denotation) → IfSomes NormalDef o → NormalDenotations as' → NormalDenotation (stands_for p o as')
stands_normal p None as' h k = absent_normal p
stands_normal p (Some d) as' h k = h as' k

-- ---- views

abbrev pub NormalMeaning : Meaning → Type 0
NormalMeaning k = (a : Scope) → NormalScope a → NormalDenotation (k a)

abbrev pub NormalMeanings : List Meaning → Type 0
NormalMeanings ks = AllByRecursion NormalMeaning ks

denotations_normal : (ks : List Meaning) (a : Scope) → NormalMeanings ks → NormalScope a → NormalDenotations (denotations ks a)
denotations_normal [] a h r = tt
denotations_normal (k ∷ ks) a h r = (h.0 a r, denotations_normal ks a h.1 r)

outer_normal : (p : Place) (ms : List Bool) (ks : List Meaning) (a : Scope) → NormalMeanings ks → NormalScope a → NormalDenotations (outer p ms ks a)
outer_normal p ms [] a h r = tt
outer_normal p [] (k ∷ ks) a h r = (h.0 a r, outer_normal p [] ks a h.1 r)
outer_normal p (true ∷ ms) (k ∷ ks) a h r = (absent_normal p, outer_normal p ms ks a h.1 r)
outer_normal p (false ∷ ms) (k ∷ ks) a h r = (h.0 a r, outer_normal p ms ks a h.1 r)

inner_normal : (p : Place) (ms : List Bool) (ks : List Meaning) (a : Scope) → NormalMeanings ks → NormalScope a → NormalDenotations (inner p ms ks a)
inner_normal p ms [] a h r = tt
inner_normal p [] (k ∷ ks) a h r = (absent_normal p, inner_normal p [] ks a h.1 r)
inner_normal p (true ∷ ms) (k ∷ ks) a h r = (h.0 a r, inner_normal p ms ks a h.1 r)
inner_normal p (false ∷ ms) (k ∷ ks) a h r = (absent_normal p, inner_normal p ms ks a h.1 r)

let_normal : (ds : List (List ℕ × ℕ)) (xs : List (List ℕ)) (ks : List Meaning) (a : Scope) → NormalMeanings ks → NormalScope a →
    NormalScope (let_scope ds xs ks a)
let_normal (d ∷ ds) xs (k ∷ ks) a h r =
    let new : List Denotation → Denotation = λ as'. k (pass (take d.1 xs) as' a) in
    let_normal ds (drop d.1 xs) ks (define d.0 new a) h.1
    (define_normal d.0 new a (λ as' g. h.0 (pass (take d.1 xs) as' a) (pass_normal (take d.1 xs) as' a g r)) r)
let_normal ds xs ks a h r = r

view_normal : (p : Place) (o : Role) (xs : List (List ℕ)) (ks : List Meaning) (a : Scope) → NormalMeanings ks → NormalScope a → NormalView (view p o xs ks a)
view_normal p (Named x) xs ks a h r = record {
  here = denotations_normal ks a h r;
  under = λ vs g. tt;
  held = tt;
  whole = stands_normal p (find_last x a.named) (denotations ks a) (find_normal NormalDef x a.named r.named) (denotations_normal ks a h r);
}
view_normal p (Held x) xs ks a h r = record {
  here = denotations_normal ks a h r;
  under = λ vs g. tt;
  held = find_normal Normal x a.bound r.bound;
  whole = tt;
}
view_normal p (Lets ds) xs ks a h r = record {
  here = denotations_normal ks a h r;
  under = λ vs g. tt;
  held = tt;
  whole = child_normal p (length ds) (denotations ks (let_scope ds xs ks a)) (denotations_normal ks (let_scope ds xs ks a) h (let_normal ds xs ks a h r));
}
view_normal p (Plain_role ms) xs ks a h r = record {
  here = outer_normal p ms ks a h r;
  under = λ vs g. inner_normal p ms ks (bind xs vs a) h (bind_normal xs vs a g r);
  held = tt;
  whole = tt;
}

-- ---- trees

-- one layer, by its children
pub node_normal : (w : Width) (x : Expr-F Meaning) → NormalMeanings x.args → NormalMeaning (node w x)
node_normal w x h a r =
    let o : Role = role x.op (length x.binds) in
    denotation_normal w x.place x.op (length x.binds) (view x.place o x.binds x.args a) (view_normal x.place o x.binds x.args a h r)

-- a fold is normal where each layer is, by its children
pub fold_normal : (f : Expr-F Meaning → Meaning) → ((x : Expr-F Meaning) → NormalMeanings x.args → NormalMeaning (f x)) → (e : Expr) →
    NormalMeaning (fold-Expr Meaning f e)
fold_normal f r = ind-Expr IsNormal (λ x y is.
    subst (λ (z : Expr-F Expr). IsNormal (roll-Expr z)) is
    (let z : Expr-F Expr = map-Expr ((e : Expr) × IsNormal e) Expr (λ e. e.0) y in
    subst NormalMeaning (sym (fold-roll-Expr Meaning f z)) (r (map-Expr Expr Meaning (fold-Expr Meaning f) z) (children y.args))))
  where
    IsNormal : Expr → Type 0
    IsNormal e = NormalMeaning (fold-Expr Meaning f e)

    children : (ys : List ((e : Expr) × IsNormal e)) → NormalMeanings (map (fold-Expr Meaning f) (map (λ y. y.0) ys))
    children [] = tt
    children (y ∷ ys) = (y.1, children ys)

pub meaning_normal : (w : Width) (e : Expr) → NormalMeaning (meaning w e)
unfolding meaning
meaning_normal w e = fold_normal (node w) (node_normal w) e

pub scope_normal : (env : Env) → All (λ b. Normal b.1) env.vals → NormalScope (scope_of env)
scope_normal env b = record { bound = recursion_from_All (λ b. Normal b.1) env.vals b; named = tt }

pub val_normal : (w : Width) (e : Expr) (env : Env) (s t : State) (v : Value) → All (λ b. Normal b.1) env.vals →
    All Normal s.vals → All Normal t.vals → val w e (scope_of env) s t ≡ Val v → Normal v
val_normal w e env s t v b g h is =
    subst IsNormalOutcome is
    ((meaning_normal w e (scope_of env) (scope_normal env b)).value s t (recursion_from_All Normal s.vals g) (recursion_from_All Normal t.vals h))
