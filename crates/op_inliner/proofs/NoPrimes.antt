-- In the expanded tree stands no operator that stands for other trees.
use Rattle.std.proofs.Common.{◌≡◌, ℕ, zero, suc, ◌==◌, Bool, true, false, ◌&&◌, arith, IsTrue, List, [], ◌∷◌, map, length, refl, ap, ◌∙◌, sym, subst, if◌then◌else◌}
use Rattle.std.specs.List.{list_all}
use Rattle.std.proofs.lemmas.Bool.{eqb-true}
use Rattle.tla_meaning.specs.declared.expr.Expr.{Expr, roll-Expr}
use Rattle.tla_meaning.specs.declared.expr.Expr.TheOpen.{Expr-F}
use Rattle.tla_meaning.specs.declared.expr.Expr.TheFolds.{map-Expr, ind-Expr}
use Rattle.tla_meaning.specs.declared.modules.Flat.{Flat}
use Rattle.tla_meaning.specs.declared.op.Op.{Op}
use Rattle.tla_meaning.specs.declared.op.Op.TheVariants as op
use Rattle.tla_meaning.specs.declared.place.Place.{Place}
use Rattle.op_inliner.specs.Expanded.{is_expanded, is_expanded_op}
use Rattle.op_inliner.specs.Expansion.{finish, is_constant}
use Rattle.op_inliner.specs.Inlining.{rename_held}
use Rattle.op_inliner.specs.Primes.{Turned, equation, inner_node, kept_of, kept_trees, name_at, tree_of, turned, turned_trees, variable_at}
use Rattle.op_inliner.specs.declared.parts.PartKind.{PartKind}
use Rattle.op_inliner.specs.declared.parts.PartKind.TheVariants.{Constants, Start, Step, Inv}
use Rattle.tla_meaning.specs.Substitution.{Test, each}
use Rattle.tla_meaning.proofs.Laws.{each-roll}
use Rattle.op_inliner.proofs.NoNames.{tidy, tidy_op, tidy-roll}
use Rattle.op_inliner.proofs.Backs.{each_back}
use Rattle.op_inliner.proofs.Rolls.{turned-roll}
use Rattle.tla_meaning.proofs.Views.{and_left, and_right, and_both, false≢true}

-- ---- primes and UNCHANGED

abbrev pub expanded_only : Test
expanded_only o xs = is_expanded_op o

rolled : (p : Place) (o : Op) (es : List Expr) (xs : List (List ℕ)) → IsTrue (is_expanded_op o) → IsTrue (list_all (λ b. b) (map (each expanded_only) es)) →
    IsTrue (each expanded_only (roll-Expr (record { place = p; op = o; args = es; binds = xs })))
rolled p o es xs h k =
    each-roll expanded_only (record { place = p; op = o; args = es; binds = xs })
    ∙ and_both (is_expanded_op o) (list_all (λ b. b) (map (each expanded_only) es)) h k

two : (e f : Expr) → IsTrue (each expanded_only e) → IsTrue (each expanded_only f) → IsTrue (list_all (λ b. b) (map (each expanded_only) (e ∷ f ∷ [])))
two e f h k = and_both (each expanded_only e) (each expanded_only f && true) h (and_both (each expanded_only f) true k refl)

one : (e : Expr) → IsTrue (each expanded_only e) → IsTrue (list_all (λ b. b) (map (each expanded_only) (e ∷ [])))
one e h = and_both (each expanded_only e) true h refl

variable_expanded : (part : PartKind) (i n : ℕ) → IsTrue (is_expanded_op (variable_at part i n))
variable_expanded Constants i zero = refl
variable_expanded Constants i (suc n) = refl
variable_expanded Start i zero = refl
variable_expanded Start i (suc n) = refl
variable_expanded Inv i zero = refl
variable_expanded Inv i (suc n) = refl
variable_expanded Step i zero = refl
variable_expanded Step i (suc zero) = refl
variable_expanded Step i (suc (suc n)) = refl

name_expanded : (part : PartKind) (i n : ℕ) (b k : Bool) → IsTrue (is_expanded_op (if k then op.Name i false else variable_at part i (if b then suc n else n)))
name_expanded part i n b true = refl
name_expanded part i n true false = variable_expanded part i (suc n)
name_expanded part i n false false = variable_expanded part i n

not_one : (n : ℕ) → IsTrue (suc (suc n) == 1) → ⊥
not_one n h = let k = eqb-true (suc (suc n)) 1 h in absurd (omega (arith, k))

not_two : (n : ℕ) → IsTrue (suc (suc (suc n)) == 2) → ⊥
not_two n h = let k = eqb-true (suc (suc (suc n))) 2 h in absurd (omega (arith, k))

module _ (part : PartKind) (c : ℕ → Bool) where
  pub record Turns (e : Expr) : Type 0 where
    pub tree : IsTrue (tidy e) → (n : ℕ) → IsTrue (each expanded_only ((turned part c e).tree n))
    pub kept : IsTrue (tidy e) → (q : Place) (n : ℕ) → IsTrue (each expanded_only ((turned part c e).kept q n))

  abbrev Turn : Type 0
  Turn = (e : Expr) × Turns e

  abbrev turn_exprs : List Turn → List Expr
  turn_exprs ys = map (λ y. y.0) ys

  abbrev made : List Turn → List Turned
  made ys = map (turned part c) (turn_exprs ys)

  trees_turn : (ys : List Turn) → IsTrue (list_all (λ b. b) (map tidy (turn_exprs ys))) → (n : ℕ) →
      IsTrue (list_all (λ b. b) (map (each expanded_only) (turned_trees (made ys) n)))
  trees_turn [] h n = refl
  trees_turn (y ∷ ys) h n =
      let all : Bool = list_all (λ b. b) (map tidy (turn_exprs ys)) in
      and_both (each expanded_only ((turned part c y.0).tree n)) (list_all (λ b. b) (map (each expanded_only) (turned_trees (made ys) n)))
      (y.1.tree (and_left (tidy y.0) all h) n) (trees_turn ys (and_right (tidy y.0) all h) n)

  kept_turn : (ys : List Turn) → IsTrue (list_all (λ b. b) (map tidy (turn_exprs ys))) → (q : Place) (n : ℕ) →
      IsTrue (list_all (λ b. b) (map (each expanded_only) (kept_trees (made ys) q n)))
  kept_turn [] h q n = refl
  kept_turn (y ∷ ys) h q n =
      let all : Bool = list_all (λ b. b) (map tidy (turn_exprs ys)) in
      and_both (each expanded_only ((turned part c y.0).kept q n)) (list_all (λ b. b) (map (each expanded_only) (kept_trees (made ys) q n)))
      (y.1.kept (and_left (tidy y.0) all h) q n) (kept_turn ys (and_right (tidy y.0) all h) q n)

  tree_turn : (p : Place) (o : Op) (xs : List (List ℕ)) (ys : List Turn) → IsTrue (tidy_op o (length (turn_exprs ys))) →
      IsTrue (list_all (λ b. b) (map tidy (turn_exprs ys))) → (n : ℕ) → IsTrue (each expanded_only (tree_of part c p o xs (made ys) n))
  tree_turn p op.Prime xs [] h k n = absurd (false≢true h)
  tree_turn p op.Prime xs (y ∷ []) h k n = y.1.tree (and_left (tidy y.0) true k) (suc n)
  tree_turn p op.Prime xs (y ∷ z ∷ ys) h k n = absurd (not_one (length (turn_exprs ys)) h)
  tree_turn p op.Unchanged xs [] h k n = absurd (false≢true h)
  tree_turn p op.Unchanged xs (y ∷ []) h k n = y.1.kept (and_left (tidy y.0) true k) p n
  tree_turn p op.Unchanged xs (y ∷ z ∷ ys) h k n = absurd (not_one (length (turn_exprs ys)) h)
  tree_turn p op.Boxed xs [] h k n = absurd (false≢true h)
  tree_turn p op.Boxed xs (y ∷ []) h k n = absurd (false≢true h)
  tree_turn p op.Boxed xs (y ∷ z ∷ []) h k n =
      rolled p op.Or ((turned part c y.0).tree n ∷ (turned part c z.0).kept p n ∷ []) [] refl
      (two ((turned part c y.0).tree n) ((turned part c z.0).kept p n) (y.1.tree (and_left (tidy y.0) (tidy z.0 && true) k) n)
      (z.1.kept (and_left (tidy z.0) true (and_right (tidy y.0) (tidy z.0 && true) k)) p n))
  tree_turn p op.Boxed xs (y ∷ z ∷ v ∷ ys) h k n = absurd (not_two (length (turn_exprs ys)) h)
  tree_turn p op.Angled xs [] h k n = absurd (false≢true h)
  tree_turn p op.Angled xs (y ∷ []) h k n = absurd (false≢true h)
  tree_turn p op.Angled xs (y ∷ z ∷ []) h k n =
      let f : Expr = (turned part c z.0).kept p n in
      rolled p op.And ((turned part c y.0).tree n ∷ inner_node p op.Not (f ∷ []) ∷ []) [] refl
      (two ((turned part c y.0).tree n) (inner_node p op.Not (f ∷ [])) (y.1.tree (and_left (tidy y.0) (tidy z.0 && true) k) n)
      (rolled p op.Not (f ∷ []) [] refl (one f (z.1.kept (and_left (tidy z.0) true (and_right (tidy y.0) (tidy z.0 && true) k)) p n))))
  tree_turn p op.Angled xs (y ∷ z ∷ v ∷ ys) h k n = absurd (not_two (length (turn_exprs ys)) h)
  tree_turn p (op.Name i b) xs ys h k n =
      rolled p (name_at part c i b n) (turned_trees (made ys) n) xs (name_expanded part i n b (c i)) (trees_turn ys k n)
  tree_turn p (op.Use x) xs ys h k n = absurd (false≢true h)
  tree_turn p (op.Param x) xs ys h k n = absurd (false≢true h)
  tree_turn p (op.Let ds) xs ys h k n = absurd (false≢true h)
  tree_turn p o xs ys h k n = rolled p o (turned_trees (made ys) n) xs refl (trees_turn ys k n)

  equation_turn : (p : Place) (o : Op) (xs : List (List ℕ)) (ys : List Turn) → IsTrue (tidy_op o (length (turn_exprs ys))) →
      IsTrue (list_all (λ b. b) (map tidy (turn_exprs ys))) → (q : Place) (n : ℕ) → IsTrue (each expanded_only (equation part c p o xs (made ys) q n))
  equation_turn p o xs ys h k q n =
      let e : Expr = tree_of part c p o xs (made ys) (suc n) in
      let f : Expr = tree_of part c p o xs (made ys) n in
      rolled q op.Eq (e ∷ f ∷ []) [] refl (two e f (tree_turn p o xs ys h k (suc n)) (tree_turn p o xs ys h k n))

  kept_node_turn : (p : Place) (o : Op) (xs : List (List ℕ)) (ys : List Turn) → IsTrue (tidy_op o (length (turn_exprs ys))) →
      IsTrue (list_all (λ b. b) (map tidy (turn_exprs ys))) → (q : Place) (n : ℕ) → IsTrue (each expanded_only (kept_of part c p o xs (made ys) q n))
  kept_node_turn p op.Tuple xs ys h k q n = rolled q op.And (kept_trees (made ys) q n) [] refl (kept_turn ys k q n)
  kept_node_turn p (op.Noted x) xs [] h k q n = absurd (false≢true h)
  kept_node_turn p (op.Noted x) xs (y ∷ []) h k q n = noted_turn (turned part c y.0).is_tuple
    where
      noted_turn : (b : Bool) → IsTrue (each expanded_only (if b then (turned part c y.0).kept q n else equation part c p (op.Noted x) xs (turned part c y.0 ∷ []) q n))
      noted_turn true = y.1.kept (and_left (tidy y.0) true k) q n
      noted_turn false = equation_turn p (op.Noted x) xs (y ∷ []) h k q n
  kept_node_turn p (op.Noted x) xs (y ∷ z ∷ ys) h k q n = absurd (not_one (length (turn_exprs ys)) h)
  kept_node_turn p op.Prime xs [] h k q n = absurd (false≢true h)
  kept_node_turn p op.Prime xs (y ∷ []) h k q n = y.1.kept (and_left (tidy y.0) true k) q (suc n)
  kept_node_turn p op.Prime xs (y ∷ z ∷ ys) h k q n = absurd (not_one (length (turn_exprs ys)) h)
  kept_node_turn p o xs ys h k q n = equation_turn p o xs ys h k q n

  turns : (e : Expr) → Turns e
  turns = ind-Expr Turns (λ x y is.
      subst (λ (z : Expr-F Expr). Turns (roll-Expr z)) is (
      let z : Expr-F Expr = map-Expr Turn Expr (λ e. e.0) y in
      let a : Bool = tidy_op z.op (length z.args) in
      let b : Bool = list_all (λ b. b) (map tidy z.args) in
      record {
        tree = λ h n.
            let k : IsTrue (a && b) = sym (tidy-roll z) ∙ h in
            ap (λ (t : Turned). each expanded_only (t.tree n)) (turned-roll part c z) ∙ tree_turn z.place z.op z.binds y.args (and_left a b k) (and_right a b k) n;
        kept = λ h q n.
            let k : IsTrue (a && b) = sym (tidy-roll z) ∙ h in
            ap (λ (t : Turned). each expanded_only (t.kept q n)) (turned-roll part c z) ∙ kept_node_turn z.place z.op z.binds y.args (and_left a b k) (and_right a b k) q n;
      }))

held_expanded : (y : List ℕ) (o : Op) → is_expanded_op (rename_held y o) ≡ is_expanded_op o
held_expanded y (op.Bound x) = refl
held_expanded y o = refl

pub finish_expanded : (part : PartKind) (flat : Flat) (e : Expr) → IsTrue (tidy e) → IsTrue (is_expanded (finish part flat e))
finish_expanded part flat e h =
    each_back expanded_only (λ y o xs ys. held_expanded y o) ((turned part (is_constant flat) e).tree 0) (λ x. x) [] ∙ (turns part (is_constant flat) e).tree h 0
