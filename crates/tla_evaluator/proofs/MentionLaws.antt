-- The meaning of an expanded tree tells whether it holds a name that counts.
use Rattle.std.proofs.Common.{◌≡◌, ℕ, Bool, true, false, ◌||◌, List, [], ◌∷◌, ◌++◌, map, length, replicate, refl, ap, ap₂, ◌∙◌, sym, subst}
use Rattle.tla_evaluator.proofs.Words.{Assignable, Expr, Expr-F, Meaning, Op, Place, Value, Width, any_mentions, bind, bound_to, denotations, except_marks, fold-roll-Expr, ind-Expr, inner, list_any, map-Expr, outer, roll-Expr}
use Rattle.tla_meaning.specs.declared.op.Op.TheVariants as op
use Rattle.tla_evaluator.specs.inner.Mentions.{mentioned_at, mentions}
use Rattle.tla_evaluator.specs.Trees.{expanded_meaning, expanded_node, scope_at}

-- ---- the meaning says the same

assoc : (a b c : Bool) → ((a || b) || c) ≡ (a || (b || c))
assoc true b c = refl
assoc false b c = refl

shift : (a b c : Bool) → (b || (a || c)) ≡ (a || (b || c))
shift true true c = refl
shift true false c = refl
shift false b c = refl

none_after : (b : Bool) → (b || false) ≡ b
none_after true = refl
none_after false = refl

abbrev Holding : Width → Assignable → Expr → Type 0
Holding w m e = (vars : List (List ℕ × Value)) → (expanded_meaning w e (scope_at vars)).mentions m ≡ mentions m e

module _ (w : Width) (m : Assignable) where
  abbrev Held_trees : Type 0
  Held_trees = List ((e : Expr) × Holding w m e)

  abbrev trees : Held_trees → List Expr
  trees ys = map (λ y. y.0) ys

  abbrev results : Held_trees → Bool
  results ys = list_any (λ k. k) (map (mentions m) (trees ys))

  senses_hold : (ys : Held_trees) (vars : List (List ℕ × Value)) →
      any_mentions m (denotations (map (expanded_meaning w) (trees ys)) (scope_at vars)) ≡ results ys
  senses_hold [] vars = refl
  senses_hold (y ∷ ys) vars = ap₂ ◌||◌ (y.1 vars) (senses_hold ys vars)

  either_hold : (p : Place) (ms : List Bool) (ys : Held_trees) (vars more : List (List ℕ × Value)) →
      (any_mentions m (outer p ms (map (expanded_meaning w) (trees ys)) (scope_at vars))
      || any_mentions m (inner p ms (map (expanded_meaning w) (trees ys)) (scope_at more)))
      ≡ results ys
  either_hold p ms [] vars more = refl
  either_hold p [] (y ∷ ys) vars more =
      assoc _ (any_mentions m (outer p [] (map (expanded_meaning w) (trees ys)) (scope_at vars))) _
      ∙ ap₂ ◌||◌ (y.1 vars) (either_hold p [] ys vars more)
  either_hold p (true ∷ ms) (y ∷ ys) vars more =
      shift ((expanded_meaning w y.0 (scope_at more)).mentions m) (any_mentions m (outer p ms (map (expanded_meaning w) (trees ys)) (scope_at vars))) _
      ∙ ap₂ ◌||◌ (y.1 more) (either_hold p ms ys vars more)
  either_hold p (false ∷ ms) (y ∷ ys) vars more =
      assoc _ (any_mentions m (outer p ms (map (expanded_meaning w) (trees ys)) (scope_at vars))) _
      ∙ ap₂ ◌||◌ (y.1 vars) (either_hold p ms ys vars more)

  abbrev layer : Op → Place → List (List ℕ) → Held_trees → List (List ℕ × Value) → Type 0
  layer o p xs ys vars =
      (expanded_node w (record { place = p; op = o; args = map (expanded_meaning w) (trees ys); binds = xs }) (scope_at vars)).mentions m
      ≡ mentioned_at m o (map (mentions m) (trees ys))

  plain_holds : (p : Place) (ms : List Bool) (xs : List (List ℕ)) (ys : Held_trees) (vars : List (List ℕ × Value)) →
      (any_mentions m (outer p ms (map (expanded_meaning w) (trees ys)) (scope_at vars))
      || any_mentions m (inner p ms (map (expanded_meaning w) (trees ys)) (bind xs [] (scope_at vars))))
      ≡ results ys
  plain_holds p ms xs ys vars = either_hold p ms ys vars (vars ++ bound_to xs [])

  abbrev under_last : ℕ → List Bool
  under_last n = replicate n false ++ true ∷ []

  layer_holds : (o : Op) (p : Place) (xs : List (List ℕ)) (ys : Held_trees) (vars : List (List ℕ × Value)) → layer o p xs ys vars
  layer_holds (op.Name i primed) p xs ys vars = refl
  layer_holds (op.Use x) p xs ys vars = refl
  layer_holds (op.Param x) p xs ys vars = refl
  layer_holds (op.Let ds) p xs ys vars = refl
  layer_holds op.Prime p xs ys vars = refl
  layer_holds op.Unchanged p xs ys vars = refl
  layer_holds op.Boxed p xs ys vars = refl
  layer_holds op.Angled p xs ys vars = refl
  layer_holds (op.Bound x) p xs ys vars =
      none_after (any_mentions m (denotations (map (expanded_meaning w) (trees ys)) (scope_at vars))) ∙ senses_hold ys vars
  layer_holds op.Exists p xs ys vars = plain_holds p (under_last (length xs)) xs ys vars
  layer_holds op.Forall p xs ys vars = plain_holds p (under_last (length xs)) xs ys vars
  layer_holds op.Filter p xs ys vars = plain_holds p (under_last (length xs)) xs ys vars
  layer_holds op.MapTo p xs ys vars = plain_holds p (under_last (length xs)) xs ys vars
  layer_holds op.Lambda p xs ys vars = plain_holds p (under_last (length xs)) xs ys vars
  layer_holds op.Fold p xs ys vars = plain_holds p (true ∷ []) xs ys vars
  layer_holds (op.Except ns) p xs ys vars = plain_holds p (false ∷ except_marks ns) xs ys vars
  layer_holds o p xs ys vars = plain_holds p [] xs ys vars

-- the meaning of a tree says the same, whatever its bound names stand for
pub holds_as : (w : Width) (m : Assignable) (e : Expr) (vars : List (List ℕ × Value)) → (expanded_meaning w e (scope_at vars)).mentions m ≡ mentions m e
unfolding expanded_meaning
holds_as w m = ind-Expr (Holding w m) (λ x y is.
    subst (λ (z : Expr-F Expr). Holding w m (roll-Expr z)) is (λ vars.
    let z : Expr-F Expr = map-Expr ((e : Expr) × Holding w m e) Expr (λ e. e.0) y in
    ap (λ (k : Meaning). (k (scope_at vars)).mentions m) (fold-roll-Expr Meaning (expanded_node w) z)
    ∙ layer_holds w m z.op z.place z.binds y.args vars
    ∙ sym (fold-roll-Expr Bool (λ x. mentioned_at m x.op x.args) z)))
