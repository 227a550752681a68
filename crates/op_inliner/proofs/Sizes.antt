-- How many nodes a tree has whose primes stand at the variables.
use Rattle.std.proofs.Common.{◌≡◌, ℕ, suc, ◌+◌, ◌*◌, Bool, true, false, arith, List, [], ◌∷◌, map, refl, ap, ap₂, ◌∙◌, sym, subst, if◌then◌else◌}
use Rattle.tla_meaning.specs.declared.expr.Expr.{Expr, roll-Expr}
use Rattle.tla_meaning.specs.declared.expr.Expr.TheOpen.{Expr-F}
use Rattle.tla_meaning.specs.declared.expr.Expr.TheFolds.{fold-Expr, fold-roll-Expr, map-Expr, ind-Expr}
use Rattle.tla_meaning.specs.declared.op.Op.{Op}
use Rattle.tla_meaning.specs.declared.op.Op.TheVariants as op
use Rattle.tla_meaning.specs.declared.place.Place.{Place}
use Rattle.op_inliner.specs.declared.parts.PartKind.{PartKind}
use Rattle.op_inliner.specs.Answers.{size, sum}
use Rattle.op_inliner.specs.inner.Counting.{Count, kept_count, node_count, sum_kept, sum_trees, tree_count}
use Rattle.op_inliner.specs.Primes.{Turned, equation, inner_node, kept_of, kept_trees, name_at, stays, tree_of, tuple_of, turned, turned_trees}
use Rattle.op_inliner.proofs.Rolls.{turned-roll}

pub size-roll : (x : Expr-F Expr) → size (roll-Expr x) ≡ suc (sum (map size x.args))
unfolding size
size-roll x = fold-roll-Expr ℕ (λ x. suc (sum x.args)) x

rolled : (p : Place) (o : Op) (es : List Expr) (xs : List (List ℕ)) →
    size (roll-Expr (record { place = p; op = o; args = es; binds = xs })) ≡ suc (sum (map size es))
rolled p o es xs = size-roll (record { place = p; op = o; args = es; binds = xs })

-- ---- trees without definitions

unfoldable pub tree_counts : Expr → Count
tree_counts = fold-Expr Count (λ x. node_count x.op x.args)

pub counts-roll : (x : Expr-F Expr) → tree_counts (roll-Expr x) ≡ node_count x.op (map tree_counts x.args)
unfolding tree_counts
counts-roll x = fold-roll-Expr Count (λ x. node_count x.op x.args) x

-- UNCHANGED of a tuple and of anything else
abbrev pub Plain : Bool → Count → Type 0
Plain true c = c.plain ≡ 0
Plain false c = (c.plain ≡ 1) × (c.kept ≡ suc (2 * c.tree))

module _ (part : PartKind) (c : ℕ → Bool) where
  pub record Sized (e : Expr) : Type 0 where
    pub tree : (n : ℕ) → size ((turned part c e).tree n) ≡ (tree_counts e).tree
    pub kept : (q : Place) (n : ℕ) → size ((turned part c e).kept q n) ≡ (tree_counts e).kept
    pub plain : Plain (turned part c e).is_tuple (tree_counts e)

  abbrev Child : Type 0
  Child = (e : Expr) × Sized e

  abbrev exprs : List Child → List Expr
  exprs ys = map (λ y. y.0) ys

  abbrev made : List Child → List Turned
  made ys = map (turned part c) (exprs ys)

  abbrev cs_of : List Child → List Count
  cs_of ys = map tree_counts (exprs ys)

  trees_sized : (ys : List Child) (n : ℕ) → sum (map size (turned_trees (made ys) n)) ≡ sum_trees (cs_of ys)
  trees_sized [] n = refl
  trees_sized (y ∷ ys) n = ap₂ (λ a b. a + b) (y.1.tree n) (trees_sized ys n)

  kept_sized : (ys : List Child) (q : Place) (n : ℕ) → sum (map size (kept_trees (made ys) q n)) ≡ sum_kept (cs_of ys)
  kept_sized [] q n = refl
  kept_sized (y ∷ ys) q n = ap₂ (λ a b. a + b) (y.1.kept q n) (kept_sized ys q n)

  plain_sized : (p : Place) (o : Op) (xs : List (List ℕ)) (ys : List Child) (n : ℕ) →
      size (roll-Expr (record { place = p; op = o; args = turned_trees (made ys) n; binds = xs })) ≡ suc (sum_trees (cs_of ys))
  plain_sized p o xs ys n = rolled p o (turned_trees (made ys) n) xs ∙ ap suc (trees_sized ys n)

  tree_sized : (p : Place) (o : Op) (xs : List (List ℕ)) (ys : List Child) (n : ℕ) →
      size (tree_of part c p o xs (made ys) n) ≡ tree_count o (cs_of ys)
  tree_sized p op.Prime xs [] n = plain_sized p op.Prime xs [] n
  tree_sized p op.Prime xs (y ∷ []) n = y.1.tree (suc n)
  tree_sized p op.Prime xs (y ∷ z ∷ ys) n = plain_sized p op.Prime xs (y ∷ z ∷ ys) n
  tree_sized p op.Unchanged xs [] n = plain_sized p op.Unchanged xs [] n
  tree_sized p op.Unchanged xs (y ∷ []) n = y.1.kept p n
  tree_sized p op.Unchanged xs (y ∷ z ∷ ys) n = plain_sized p op.Unchanged xs (y ∷ z ∷ ys) n
  tree_sized p op.Boxed xs [] n = plain_sized p op.Boxed xs [] n
  tree_sized p op.Boxed xs (y ∷ []) n = plain_sized p op.Boxed xs (y ∷ []) n
  tree_sized p op.Boxed xs (y ∷ z ∷ []) n =
      let a = y.1.tree n in
      let b = z.1.kept p n in
      rolled p op.Or ((turned part c y.0).tree n ∷ (turned part c z.0).kept p n ∷ []) [] ∙ omega (arith, a, b)
  tree_sized p op.Boxed xs (y ∷ z ∷ v ∷ ys) n = plain_sized p op.Boxed xs (y ∷ z ∷ v ∷ ys) n
  tree_sized p op.Angled xs [] n = plain_sized p op.Angled xs [] n
  tree_sized p op.Angled xs (y ∷ []) n = plain_sized p op.Angled xs (y ∷ []) n
  tree_sized p op.Angled xs (y ∷ z ∷ []) n =
      let f : Expr = (turned part c z.0).kept p n in
      let a = y.1.tree n in
      let b = z.1.kept p n in
      let d = rolled p op.Not (f ∷ []) [] in
      rolled p op.And ((turned part c y.0).tree n ∷ inner_node p op.Not (f ∷ []) ∷ []) [] ∙ omega (arith, a, b, d)
  tree_sized p op.Angled xs (y ∷ z ∷ v ∷ ys) n = plain_sized p op.Angled xs (y ∷ z ∷ v ∷ ys) n
  tree_sized p (op.Name i b) xs ys n = plain_sized p (name_at part c i b n) xs ys n
  tree_sized p o xs ys n = plain_sized p o xs ys n

  stays_sized : (q : Place) → size (stays q) ≡ 1
  stays_sized q = rolled q op.Unchanged [] []

  equation_sized : (p : Place) (o : Op) (xs : List (List ℕ)) (ys : List Child) (q : Place) (n : ℕ) →
      size (equation part c p o xs (made ys) q n) ≡ suc (2 * tree_count o (cs_of ys))
  equation_sized p o xs ys q n =
      let a = tree_sized p o xs ys (suc n) in
      let b = tree_sized p o xs ys n in
      rolled q op.Eq (tree_of part c p o xs (made ys) (suc n) ∷ tree_of part c p o xs (made ys) n ∷ []) [] ∙ omega (arith, a, b)

  noted_sized : (p : Place) (x : List ℕ) (xs : List (List ℕ)) (y : Child) (q : Place) (n : ℕ) (b : Bool) → Plain b (tree_counts y.0) →
      size (if b then (turned part c y.0).kept q n else equation part c p (op.Noted x) xs (turned part c y.0 ∷ []) q n)
      ≡ (tree_counts y.0).kept + 2 * (tree_counts y.0).plain
  noted_sized p x xs y q n true h = let k = y.1.kept q n in omega (arith, h, k)
  noted_sized p x xs y q n false h =
      let k = equation_sized p (op.Noted x) xs (y ∷ []) q n in
      let a = h.0 in
      let b = h.1 in
      omega (arith, k, a, b)

  kept_node_sized : (p : Place) (o : Op) (xs : List (List ℕ)) (ys : List Child) (q : Place) (n : ℕ) →
      size (kept_of part c p o xs (made ys) q n) ≡ kept_count o (cs_of ys)
  kept_node_sized p op.Tuple xs ys q n = rolled q op.And (kept_trees (made ys) q n) [] ∙ ap suc (kept_sized ys q n)
  kept_node_sized p (op.Noted x) xs [] q n = stays_sized q
  kept_node_sized p (op.Noted x) xs (y ∷ []) q n = noted_sized p x xs y q n (turned part c y.0).is_tuple y.1.plain
  kept_node_sized p (op.Noted x) xs (y ∷ z ∷ ys) q n = stays_sized q
  kept_node_sized p op.Prime xs [] q n = stays_sized q
  kept_node_sized p op.Prime xs (y ∷ []) q n = y.1.kept q (suc n)
  kept_node_sized p op.Prime xs (y ∷ z ∷ ys) q n = stays_sized q
  kept_node_sized p o xs ys q n = equation_sized p o xs ys q n

  node_plain : (o : Op) (ys : List Child) → Plain (tuple_of o (made ys)) (node_count o (cs_of ys))
  node_plain op.Tuple ys = refl
  node_plain (op.Noted x) [] = refl
  node_plain (op.Noted x) (y ∷ []) = noted_plain (turned part c y.0).is_tuple y.1.plain
    where
      noted_plain : (b : Bool) → Plain b (tree_counts y.0) → Plain b (node_count (op.Noted x) (tree_counts y.0 ∷ []))
      noted_plain true h = h
      noted_plain false h = (h.0, let a = h.0 in let b = h.1 in omega (arith, a, b))
  node_plain (op.Noted x) (y ∷ z ∷ ys) = refl
  node_plain op.Prime [] = refl
  node_plain op.Prime (y ∷ []) = prime_plain (turned part c y.0).is_tuple y.1.plain
    where
      prime_plain : (b : Bool) → Plain b (tree_counts y.0) → Plain b (node_count op.Prime (tree_counts y.0 ∷ []))
      prime_plain true h = h
      prime_plain false h = h
  node_plain op.Prime (y ∷ z ∷ ys) = refl
  node_plain o ys = (refl, refl)

  pub sized : (e : Expr) → Sized e
  sized = ind-Expr Sized (λ x y is.
      subst (λ (z : Expr-F Expr). Sized (roll-Expr z)) is (
      let z : Expr-F Expr = map-Expr Child Expr (λ e. e.0) y in
      let i = turned-roll part c z in
      let j = counts-roll z in
      record {
        tree = λ n. ap (λ (t : Turned). size (t.tree n)) i ∙ tree_sized z.place z.op z.binds y.args n ∙ sym (ap (λ (k : Count). k.tree) j);
        kept = λ q n. ap (λ (t : Turned). size (t.kept q n)) i ∙ kept_node_sized z.place z.op z.binds y.args q n ∙ sym (ap (λ (k : Count). k.kept) j);
        plain = subst (λ (k : Count). Plain (turned part c (roll-Expr z)).is_tuple k) (sym j)
            (subst (λ (t : Turned). Plain t.is_tuple (node_count z.op (map tree_counts z.args))) (sym i) (node_plain z.op y.args));
      }))
