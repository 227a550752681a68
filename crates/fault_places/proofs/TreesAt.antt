-- A tree gives faults at the places of its nodes.
use Rattle.std.proofs.Common.{◌≡◌, ℕ, Bool, true, false, ◌&&◌, IsTrue, List, [], ◌∷◌, take, drop, map, zip, length, Option, Some, None, sym, subst, ◌∙◌, ltb-true, if◌then◌else◌}
use Rattle.std.specs.Prelude.{◌<◌, nat_lt}
use Rattle.std.specs.List.{AllByRecursion, list_all}
use Rattle.tla_meaning.specs.declared.expr.Expr.{Expr, roll-Expr}
use Rattle.tla_meaning.specs.declared.expr.Expr.TheOpen.{Expr-F}
use Rattle.tla_meaning.specs.declared.expr.Expr.TheFolds.{fold-roll-Expr, map-Expr, ind-Expr}
use Rattle.tla_meaning.specs.declared.place.Place.{Place}
use Rattle.tla_meaning.specs.Numbers.{Width}
use Rattle.tla_meaning.specs.Scopes.{Denotation, Scope, bind, define, pass, find_last, or_else, same_text, stands_for}
use Rattle.tla_meaning.specs.Meaning.{Meaning, denotations, Role, Named, Held, Lets, Plain_role, role, view, outer, inner, let_scope}
use Rattle.tla_meaning.specs.Actions.{node, meaning}
use Rattle.tla_meaning.proofs.MeaningLemmas.{meaning-roll}
use Rattle.tla_meaning.proofs.Views.{and_left, and_right}
use Rattle.fault_places.specs.Places.{places_below}
use Rattle.fault_places.proofs.NodesAt.{DenotationAt, DenotationsAt, ViewAt, absent_at, child_at, denotation_at, joined_lists}

-- ---- scopes: bound names stand for values, which have no places

-- what a name stands for gives faults at such places where its arguments do
abbrev pub DefinitionAt : (Place → Type 0) → (List Denotation → Denotation) → Type 0
DefinitionAt P d = (as' : List Denotation) → DenotationsAt P as' → DenotationAt P (d as')

abbrev pub NamesAt : (Place → Type 0) → List (List ℕ × (List Denotation → Denotation)) → Type 0
NamesAt P es = AllByRecursion (λ e. DefinitionAt P e.1) es

abbrev pub ScopeAt : (Place → Type 0) → Scope → Type 0
ScopeAt P a = NamesAt P a.named

abbrev FoundAt : (Place → Type 0) → Option (List Denotation → Denotation) → Type 0
FoundAt P None = Unit {0}
FoundAt P (Some d) = DefinitionAt P d

abbrev pub MeaningAt : (Place → Type 0) → Meaning → Type 0
MeaningAt P k = (a : Scope) → ScopeAt P a → DenotationAt P (k a)

abbrev pub MeaningsAt : (Place → Type 0) → List Meaning → Type 0
MeaningsAt P ks = AllByRecursion (MeaningAt P) ks

module _ (P : Place → Type 0) where
  else_at : (o q : Option (List Denotation → Denotation)) → FoundAt P o → FoundAt P q → FoundAt P (or_else o q)
  else_at None q h k = k
  else_at (Some d) q h k = h

  test_at : (b : Bool) (d : List Denotation → Denotation) → DefinitionAt P d → FoundAt P (if b then Some d else None)
  test_at true d h = h
  test_at false d h = tt

  find_at : (x : List ℕ) (es : List (List ℕ × (List Denotation → Denotation))) → NamesAt P es →
      FoundAt P (find_last x es)
  find_at x [] h = tt
  find_at x (e ∷ es) h =
      else_at (find_last x es) (if same_text x e.0 then Some e.1 else None) (find_at x es h.1)
      (test_at (same_text x e.0) e.1 h.0)

  passed_at : (xs : List (List ℕ)) (as' : List Denotation) → DenotationsAt P as' →
      NamesAt P (zip xs (map (λ a. λ (_ : List Denotation). a) as'))
  passed_at [] as' h = tt
  passed_at (x ∷ xs) [] h = tt
  passed_at (x ∷ xs) (a ∷ as') h = ((λ bs k. h.0), passed_at xs as' h.1)

  define_at : (x : List ℕ) (d : List Denotation → Denotation) (a : Scope) → DefinitionAt P d → ScopeAt P a →
      ScopeAt P (define x d a)
  define_at x d a h r = joined_lists (λ e. DefinitionAt P e.1) a.named ((x, d) ∷ []) r (h, tt)

  pass_at : (xs : List (List ℕ)) (as' : List Denotation) (a : Scope) → DenotationsAt P as' → ScopeAt P a →
      ScopeAt P (pass xs as' a)
  pass_at xs as' a h r = joined_lists (λ e. DefinitionAt P e.1) a.named _ r (passed_at xs as' h)

  denotations_at : (ks : List Meaning) (a : Scope) → MeaningsAt P ks → ScopeAt P a → DenotationsAt P (denotations ks a)
  denotations_at [] a h r = tt
  denotations_at (k ∷ ks) a h r = (h.0 a r, denotations_at ks a h.1 r)

  let_at : (ds : List (List ℕ × ℕ)) (xs : List (List ℕ)) (ks : List Meaning) (a : Scope) → MeaningsAt P ks →
      ScopeAt P a →
      ScopeAt P (let_scope ds xs ks a)
  let_at (d ∷ ds) xs (k ∷ ks) a h r =
      let new : List Denotation → Denotation = λ as'. k (pass (take d.1 xs) as' a) in
      let_at ds (drop d.1 xs) ks (define d.0 new a) h.1
      (define_at d.0 new a (λ as' g. h.0 (pass (take d.1 xs) as' a) (pass_at (take d.1 xs) as' a g r)) r)
  let_at ds xs ks a h r = r

-- ---- views

module _ (P : Place → Type 0) (p : Place) (here : P p) where
  stands_at : (o : Option (List Denotation → Denotation)) (as' : List Denotation) → FoundAt P o →
      DenotationsAt P as' → DenotationAt P (stands_for p o as')
  stands_at None as' h k = absent_at P p here
  stands_at (Some d) as' h k = h as' k

  outer_at : (ms : List Bool) (ks : List Meaning) (a : Scope) → MeaningsAt P ks → ScopeAt P a →
      DenotationsAt P (outer p ms ks a)
  outer_at ms [] a h r = tt
  outer_at [] (k ∷ ks) a h r = (h.0 a r, outer_at [] ks a h.1 r)
  outer_at (true ∷ ms) (k ∷ ks) a h r = (absent_at P p here, outer_at ms ks a h.1 r)
  outer_at (false ∷ ms) (k ∷ ks) a h r = (h.0 a r, outer_at ms ks a h.1 r)

  inner_at : (ms : List Bool) (ks : List Meaning) (a : Scope) → MeaningsAt P ks → ScopeAt P a →
      DenotationsAt P (inner p ms ks a)
  inner_at ms [] a h r = tt
  inner_at [] (k ∷ ks) a h r = (absent_at P p here, inner_at [] ks a h.1 r)
  inner_at (true ∷ ms) (k ∷ ks) a h r = (h.0 a r, inner_at ms ks a h.1 r)
  inner_at (false ∷ ms) (k ∷ ks) a h r = (absent_at P p here, inner_at ms ks a h.1 r)

  view_at : (o : Role) (xs : List (List ℕ)) (ks : List Meaning) (a : Scope) → MeaningsAt P ks → ScopeAt P a →
      ViewAt P (view p o xs ks a)
  view_at (Named x) xs ks a h r = record {
    here = denotations_at P ks a h r;
    under = λ vs. tt;
    whole = stands_at (find_last x a.named) (denotations ks a) (find_at P x a.named r) (denotations_at P ks a h r);
  }
  view_at (Held x) xs ks a h r = record { here = denotations_at P ks a h r; under = λ vs. tt; whole = tt }
  view_at (Lets ds) xs ks a h r = record {
    here = denotations_at P ks a h r;
    under = λ vs. tt;
    whole = child_at P p here (length ds) (denotations ks (let_scope ds xs ks a))
        (denotations_at P ks (let_scope ds xs ks a) h (let_at P ds xs ks a h r));
  }
  view_at (Plain_role ms) xs ks a h r = record {
    here = outer_at ms ks a h r;
    under = λ vs. inner_at ms ks (bind xs vs a) h r;
    whole = tt;
  }

-- ---- trees

module _ (P : Place → Type 0) where
  -- one layer, by its children
  node_at : (w : Width) (x : Expr-F Meaning) → P x.place → MeaningsAt P x.args → MeaningAt P (node w x)
  node_at w x here h a r =
      let o : Role = role x.op (length x.binds) in
      denotation_at P w x.place here x.op (length x.binds) (view x.place o x.binds x.args a)
      (view_at P x.place here o x.binds x.args a h r)

-- the file of a place is one of the first n
abbrev pub Below : ℕ → Place → Type 0
Below n p = p.file < n

pub places-roll : (n : ℕ) (x : Expr-F Expr) →
    places_below n (roll-Expr x) ≡ nat_lt x.place.file n && list_all (λ b. b) (map (places_below n) x.args)
places-roll n x = fold-roll-Expr Bool (λ y. nat_lt y.place.file n && list_all (λ b. b) y.args) x

abbrev Told : ℕ → Width → Expr → Type 0
Told n w e = IsTrue (places_below n e) → MeaningAt (Below n) (meaning w e)

children_at : (n : ℕ) (w : Width) (ys : List ((e : Expr) × Told n w e)) →
    IsTrue (list_all (λ b. b) (map (places_below n) (map (λ y. y.0) ys))) →
    MeaningsAt (Below n) (map (meaning w) (map (λ y. y.0) ys))
children_at n w [] h = tt
children_at n w (y ∷ ys) h =
    let rest : Bool = list_all (λ b. b) (map (places_below n) (map (λ y. y.0) ys)) in
    (y.1 (and_left (places_below n y.0) rest h), children_at n w ys (and_right (places_below n y.0) rest h))

pub meaning_at : (n : ℕ) (w : Width) (e : Expr) → Told n w e
meaning_at n w = ind-Expr (Told n w) (λ x y is.
    subst (λ (z : Expr-F Expr). Told n w (roll-Expr z)) is (λ h.
    let z : Expr-F Expr = map-Expr ((e : Expr) × Told n w e) Expr (λ e. e.0) y in
    let own : Bool = nat_lt z.place.file n in
    let rest : Bool = list_all (λ b. b) (map (places_below n) z.args) in
    let both : IsTrue (own && rest) = sym (places-roll n z) ∙ h in
    subst (λ (m : Meaning). MeaningAt (Below n) m) (sym (meaning-roll w z))
    (node_at (Below n) w (map-Expr Expr Meaning (meaning w) z) (ltb-true z.place.file n (and_left own rest both))
    (children_at n w y.args (and_right own rest both)))))
