-- A tree with bounds stands for the expression for which the tree does, so it has its outcomes, with their places.
use Rattle.std.proofs.Common.{◌≡◌, ℕ, Bool, true, false, List, [], ◌∷◌, map, flat_map, take, length, refl, sym, ◌∙◌, ap, ap₂}
use Rattle.tla_meaning.specs.declared.expr.Expr.{Expr, roll-Expr}
use Rattle.tla_meaning.specs.declared.job.State.{State}
use Rattle.tla_meaning.specs.declared.place.Place.{Place}
use Rattle.tla_meaning.specs.Actions.{meaning, val}
use Rattle.tla_meaning.specs.Meaning.{role}
use Rattle.tla_meaning.specs.Numbers.{Width}
use Rattle.tla_meaning.specs.Scopes.{Scope}
use Rattle.snowcat_rows.specs.declared.types.Ty.{Ty}
use Rattle.kernel_trees.specs.declared.kernel.Ker.{Ker, roll-Ker}
use Rattle.kernel_trees.specs.declared.kernel.Ker.TheOpen.{Ker-F}
use Rattle.kernel_trees.specs.declared.kernel.KerOp.{KerOp}
use Rattle.kernel_trees.specs.declared.kernel.KerOp.TheVariants as ker
use Rattle.kernel_trees.specs.Trees.{as_expr, names_of, op_of, operands}
use Rattle.kernel_trees.proofs.Trees.{Each, as_expr-roll, by_nodes, recur-roll}
use Rattle.kernel_shapes.specs.Kernel.{ker_shape}
use Rattle.kernel_shapes.specs.Shape.{Shape, join_all}
use Rattle.kernel_shapes.specs.Sized.{Extent}
use Rattle.kernel_shapes.specs.Trees.{marks_of}
use Rattle.tree_bounds.specs.Bounded.{Bounding, bounded_each, bounded_node, extents_under, with_bounds, with_ends}
use Rattle.tree_bounds.specs.Laws.{SameForm, SameOutcome}

-- trees, each with its bounding
abbrev pub with_bounding : ℕ → List Ker → List (Ker × Bounding)
with_bounding w ks = map (λ k. (k, with_bounds w k)) ks

pub bounds-roll : (w : ℕ) (x : Ker-F Ker) (gs : List Extent) →
    with_bounds w (roll-Ker x) gs
    ≡ bounded_node w (record { place = x.place; ty = x.ty; op = x.op; args = with_bounding w x.args; binds = x.binds })
    gs
bounds-roll w x gs = ap (λ (f : Bounding). f gs) (recur-roll (bounded_node w) x)

-- a node with other children
abbrev pub changed : Ker-F Ker → List Ker → Ker-F Ker
changed x ks = record { place = x.place; ty = x.ty; op = x.op; args = ks; binds = x.binds }

-- its bounds are not among a range's operands
first_two : (p : Place) (a : Shape) (ks : List Ker) →
    take 2 (map as_expr (with_ends ker.Range p a ks)) ≡ take 2 (map as_expr ks)
first_two p a [] = refl
first_two p a (x ∷ []) = refl
first_two p a (x ∷ y ∷ ks) = refl

same_operands : (o : KerOp) (p : Place) (a : Shape) (ks : List Ker) →
    operands o p (map as_expr (with_ends o p a ks)) ≡ operands o p (map as_expr ks)
same_operands ker.Range p a ks = first_two p a ks
same_operands o p a ks = refl

-- ---- what comes of each child

module _ {X : Type 0} (n : ℕ) (f : Ker → X) where
  abbrev pub Stays : Ker → Type 0
  Stays k = (gs : List Extent) → f (with_bounds n k gs) ≡ f k

  and_all : {x y : X} {xs ys : List X} → x ≡ y → xs ≡ ys → x ∷ xs ≡ y ∷ ys
  and_all e h = ap₂ (λ (x : X) (xs : List X). x ∷ xs) e h

  pub each_stays : (ms : List Bool) (gs hs : List Extent) (ks : List Ker) → Each Stays ks →
      map f (bounded_each ms gs hs (with_bounding n ks)) ≡ map f ks
  each_stays ms gs hs [] h = refl
  each_stays [] gs hs (k ∷ ks) h = and_all (h.0 gs) (each_stays [] gs hs ks h.1)
  each_stays (true ∷ ms) gs hs (k ∷ ks) h = and_all (h.0 hs) (each_stays ms gs hs ks h.1)
  each_stays (false ∷ ms) gs hs (k ∷ ks) h = and_all (h.0 gs) (each_stays ms gs hs ks h.1)

-- ---- expressions

abbrev expr_with : Ker-F Ker → List Expr → Expr
expr_with x es = roll-Expr (record { place = x.place; op = op_of x.op; args = es; binds = names_of x.binds })

abbrev expr_at : Ker-F Ker → List Expr → Expr
expr_at x es = expr_with x (operands x.op x.place es)

of_node : (x : Ker-F Ker) (a : Shape) (ks : List Ker) → map as_expr ks ≡ map as_expr x.args →
    as_expr (roll-Ker (changed x (with_ends x.op x.place a ks))) ≡ as_expr (roll-Ker x)
of_node x a ks h =
    as_expr-roll (changed x (with_ends x.op x.place a ks))
    ∙ ap (expr_with x) (same_operands x.op x.place a ks)
    ∙ ap (expr_at x) h
    ∙ sym (as_expr-roll x)

pub same_expressions : (w : ℕ) (k : Ker) → Stays w as_expr k
same_expressions w = by_nodes (Stays w as_expr) (λ x h gs.
    ap as_expr (bounds-roll w x gs) ∙ of_node x _ _ (each_stays w as_expr _ gs _ x.args h))

-- ---- a node

abbrev pub node : Place → Ty → KerOp → List ℕ → List Ker → Ker-F Ker
node p a o xs ks = record { place = p; ty = a; op = o; args = ks; binds = xs }

-- its children with bounds
abbrev pub bounded_args : ℕ → Ker-F Ker → List Extent → List Ker
bounded_args w x gs =
    with_ends x.op x.place (join_all (map (λ g. ker_shape w (roll-Ker x) g) gs))
    (bounded_each (marks_of (role (op_of x.op) (length x.binds))) gs (flat_map (extents_under w x.op x.binds x.args) gs)
    (with_bounding w x.args))

first_of : (w : ℕ) (ks : List Ker) → map (λ (k : Ker × Bounding). k.0) (with_bounding w ks) ≡ ks
first_of w [] = refl
first_of w (k ∷ ks) = ap (λ (js : List Ker). k ∷ js) (first_of w ks)

pub bounds_node : (w : ℕ) (x : Ker-F Ker) (gs : List Extent) →
    with_bounds w (roll-Ker x) gs ≡ roll-Ker (changed x (bounded_args w x gs))
bounds_node w x gs =
    bounds-roll w x gs
    ∙ ap (λ ks. roll-Ker (changed x (with_ends x.op x.place
    (join_all (map (λ g. ker_shape w (roll-Ker (changed x ks)) g) gs))
    (bounded_each (marks_of (role (op_of x.op) (length x.binds))) gs (flat_map (extents_under w x.op x.binds ks) gs)
    (with_bounding w x.args))))) (first_of w x.args)

-- ---- outcomes and forms

pub same_outcomes : (n : ℕ) (k : Ker) (gs : List Extent) (w : Width) (sc : Scope) (s t : State) →
    SameOutcome n k gs w sc s t
same_outcomes n k gs w sc s t = ap (λ e. val w e sc s t) (same_expressions n k gs)

pub same_forms : (n : ℕ) (k : Ker) (gs : List Extent) (w : Width) (sc : Scope) (s t : State) → SameForm n k gs w sc s t
same_forms n k gs w sc s t = ap (λ e. (meaning w e sc).form s t) (same_expressions n k gs)
