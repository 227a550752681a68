-- Induction on trees, and what is found of a node and of its children.
use Rattle.std.proofs.Common.{Bool, true, false, ◌&&◌, IsTrue, length, ◌≡◌, ℕ, List, [], ◌∷◌, ◌++◌, map, refl, ap, sym, ◌∙◌, subst}
use Rattle.tla_meaning.specs.declared.expr.Expr.{Expr, roll-Expr}
use Rattle.tla_meaning.specs.declared.expr.Expr.TheOpen.{Expr-F}
use Rattle.tla_meaning.specs.declared.expr.Expr.TheFolds.{fold-roll-Expr, ind-Expr}
use Rattle.tla_meaning.specs.declared.op.Op.{Op}
use Rattle.tla_meaning.specs.declared.place.Place.{Place}
use Rattle.tla_meaning.specs.FreeNames.{closed_all, marks, with_names}
use Rattle.tla_meaning.specs.Meaning.{role}
use Rattle.tla_meaning.proofs.Views.{and_left, and_right}
use Rattle.snowcat_types.specs.Answers.{is_typable_op, typable_layer, is_typable_tree}
use Rattle.snowcat_types.specs.declared.waiting.Wait.{Wait}
use Rattle.snowcat_types.specs.Rows.{Context}
use Rattle.snowcat_types.specs.Requirements.{Requirement}
use Rattle.snowcat_types.specs.Systems.{Entry, Asks, Waits, visit, visit_node, all_wait, asked, waited}
use Rattle.snowcat_types.proofs.Visits.{visit-at}

abbrev pub node : Place → Op → List (List ℕ) → List Expr → Expr
node p o xs es = roll-Expr (record { place = p; op = o; args = es; binds = xs })

pub by_nodes : (P : Expr → Type 0) →
    ((p : Place) (o : Op) (xs : List (List ℕ)) (ys : List ((e : Expr) × P e)) → P (node p o xs (map (λ y. y.0) ys))) → (e : Expr) → P e
by_nodes P f = ind-Expr P (λ x y is. subst (λ (z : Expr-F Expr). P (roll-Expr z)) is (f y.place y.op y.binds y.args))

pub visit-node : (p : Place) (o : Op) (xs : List (List ℕ)) (es : List Expr) (v : ℕ) (c : Context) →
    visit (node p o xs es) v c ≡ visit_node (record { place = p; op = o; args = map visit es; binds = xs }) v c
visit-node p o xs es v c = visit-at (record { place = p; op = o; args = es; binds = xs }) v c

-- ---- lists of entries

pub waited-append : (es fs : List Entry) → waited (es ++ fs) ≡ waited es ++ waited fs
waited-append [] fs = refl
waited-append (Asks p rs ∷ es) fs = waited-append es fs
waited-append (Waits w ∷ es) fs = ap (λ z. w ∷ z) (waited-append es fs)

pub waited-all : (ws : List Wait) → waited (all_wait ws) ≡ ws
waited-all [] = refl
waited-all (w ∷ ws) = ap (λ z. w ∷ z) (waited-all ws)

append_assoc : (xs ys zs : List Requirement) → (xs ++ ys) ++ zs ≡ xs ++ (ys ++ zs)
append_assoc [] ys zs = refl
append_assoc (x ∷ xs) ys zs = ap (λ z. x ∷ z) (append_assoc xs ys zs)

pub asked-append : (es fs : List Entry) → asked (es ++ fs) ≡ asked es ++ asked fs
asked-append [] fs = refl
asked-append (Asks p rs ∷ es) fs = ap (λ z. rs ++ z) (asked-append es fs) ∙ sym (append_assoc rs (asked es) (asked fs))
asked-append (Waits w ∷ es) fs = asked-append es fs

pub asked-all : (ws : List Wait) → asked (all_wait ws) ≡ []
asked-all [] = refl
asked-all (w ∷ ws) = asked-all ws

-- ---- trees that may be typed

pub typable-node : (n : ℕ) (p : Place) (o : Op) (xs : List (List ℕ)) (es : List Expr) (B : List ℕ → Bool) →
    is_typable_tree n (node p o xs es) B ≡ (is_typable_op n o B && closed_all (marks (role o (length xs))) xs (map (is_typable_tree n) es) B)
typable-node n p o xs es B =
    ap (λ (f : (List ℕ → Bool) → Bool). f B)
    (fold-roll-Expr ((List ℕ → Bool) → Bool) (typable_layer n) (record { place = p; op = o; args = es; binds = xs }))

-- the first child may be typed where some names are bound, and so may the others
pub record FirstAndRest (k : (List ℕ → Bool) → Bool) (ks : List ((List ℕ → Bool) → Bool)) (xs : List (List ℕ)) (B : List ℕ → Bool) : Type 0 where
  pub names : List ℕ → Bool
  pub first : IsTrue (k names)
  pub others : List Bool
  pub rest : IsTrue (closed_all others xs ks B)

pub first_and_rest : (ms : List Bool) (xs : List (List ℕ)) (k : (List ℕ → Bool) → Bool) (ks : List ((List ℕ → Bool) → Bool)) (B : List ℕ → Bool) →
    IsTrue (closed_all ms xs (k ∷ ks) B) → FirstAndRest k ks xs B
first_and_rest [] xs k ks B h = record {
  names = B;
  first = and_left (k B) (closed_all [] xs ks B) h;
  others = [];
  rest = and_right (k B) (closed_all [] xs ks B) h;
}
first_and_rest (true ∷ ms) xs k ks B h = record {
  names = with_names xs B;
  first = and_left (k (with_names xs B)) (closed_all ms xs ks B) h;
  others = ms;
  rest = and_right (k (with_names xs B)) (closed_all ms xs ks B) h;
}
first_and_rest (false ∷ ms) xs k ks B h = record {
  names = B;
  first = and_left (k B) (closed_all ms xs ks B) h;
  others = ms;
  rest = and_right (k B) (closed_all ms xs ks B) h;
}
