-- A tree that is expanded as one of constants holds no declared name but constants: a variable would be a refused form.
use Rattle.std.proofs.Common.{◌≡◌, ℕ, zero, suc, Bool, true, false, not, ◌&&◌, ◌||◌, IsTrue, List, [], ◌∷◌, filter, length, map, nat_lt, refl, ap, ◌∙◌, sym, subst, if◌then◌else◌}
use Rattle.std.specs.List.{list_all, list_any}
use Rattle.tla_meaning.specs.declared.expr.Decl.{Decl}
use Rattle.tla_meaning.specs.declared.expr.Expr.{Expr, roll-Expr}
use Rattle.tla_meaning.specs.declared.expr.Expr.TheOpen.{Expr-F}
use Rattle.tla_meaning.specs.declared.expr.Expr.TheFolds.{map-Expr, ind-Expr}
use Rattle.tla_meaning.specs.declared.modules.Flat.{Flat}
use Rattle.tla_meaning.specs.declared.op.Op.{Op}
use Rattle.tla_meaning.specs.declared.op.Op.TheVariants as op
use Rattle.tla_meaning.specs.declared.place.Place.{Place}
use Rattle.tla_meaning.specs.Substitution.{Test, each}
use Rattle.tla_meaning.proofs.Laws.{each-roll}
use Rattle.tla_meaning.proofs.Views.{and_left, and_right, and_both}
use Rattle.op_inliner.specs.Expansion.{finish, is_constant}
use Rattle.op_inliner.specs.Inlining.{rename_held}
use Rattle.op_inliner.specs.Primes.{Turned, equation, inner_node, kept_of, kept_trees, name_at, tree_of, turned, turned_trees, variable_at}
use Rattle.op_inliner.specs.declared.parts.PartKind.TheVariants.{Constants}
use Rattle.op_inliner.proofs.Backs.{each_back}
use Rattle.op_inliner.proofs.Rolls.{turned-roll}
use Rattle.kernel_reduction.specs.JobPaths.{has_name, has_name_at, outside}
use Rattle.kernel_reduction.proofs.JobTrees.{Each, by_nodes, has_name-roll}

-- a declared name passes, and so does everything else
abbrev pub only : (ℕ → Bool) → Test
only c (op.Name i primed) xs = c i
only c o xs = true

module _ (c : ℕ → Bool) where
  abbrev Clear : Expr → Type 0
  Clear e = IsTrue (each (only c) e)

  abbrev AllClear : List Expr → Type 0
  AllClear es = IsTrue (list_all (λ b. b) (map (each (only c)) es))

  rolled : (p : Place) (o : Op) (es : List Expr) (xs : List (List ℕ)) → IsTrue (only c o xs) → AllClear es →
      Clear (roll-Expr (record { place = p; op = o; args = es; binds = xs }))
  rolled p o es xs h k =
      each-roll (only c) (record { place = p; op = o; args = es; binds = xs })
      ∙ and_both (only c o xs) (list_all (λ b. b) (map (each (only c)) es)) h k

  one : (e : Expr) → Clear e → AllClear (e ∷ [])
  one e h = and_both (each (only c) e) true h refl

  two : (e f : Expr) → Clear e → Clear f → AllClear (e ∷ f ∷ [])
  two e f h k = and_both (each (only c) e) (each (only c) f && true) h (one f k)

  variable_clear : (i n : ℕ) (xs : List (List ℕ)) → IsTrue (only c (variable_at Constants i n) xs)
  variable_clear i zero xs = refl
  variable_clear i (suc n) xs = refl

  name_clear : (i n : ℕ) (xs : List (List ℕ)) (k : Bool) → c i ≡ k →
      IsTrue (only c (if k then op.Name i false else variable_at Constants i n) xs)
  name_clear i n xs true q = q
  name_clear i n xs false q = variable_clear i n xs

  -- ---- primes and UNCHANGED

  pub record Turns (e : Expr) : Type 0 where
    pub tree : (n : ℕ) → Clear ((turned Constants c e).tree n)
    pub kept : (q : Place) (n : ℕ) → Clear ((turned Constants c e).kept q n)

  abbrev Turn : Type 0
  Turn = (e : Expr) × Turns e

  abbrev made : List Turn → List Turned
  made ys = map (turned Constants c) (map (λ y. y.0) ys)

  trees_turn : (ys : List Turn) (n : ℕ) → AllClear (turned_trees (made ys) n)
  trees_turn [] n = refl
  trees_turn (y ∷ ys) n =
      and_both (each (only c) ((turned Constants c y.0).tree n))
      (list_all (λ b. b) (map (each (only c)) (turned_trees (made ys) n)))
      (y.1.tree n) (trees_turn ys n)

  kept_turn : (ys : List Turn) (q : Place) (n : ℕ) → AllClear (kept_trees (made ys) q n)
  kept_turn [] q n = refl
  kept_turn (y ∷ ys) q n =
      and_both (each (only c) ((turned Constants c y.0).kept q n))
      (list_all (λ b. b) (map (each (only c)) (kept_trees (made ys) q n)))
      (y.1.kept q n) (kept_turn ys q n)

  other_turn : (p : Place) (o : Op) (xs : List (List ℕ)) (ys : List Turn) (n : ℕ) → IsTrue (only c o xs) →
      Clear (roll-Expr (record { place = p; op = o; args = turned_trees (made ys) n; binds = xs }))
  other_turn p o xs ys n h = rolled p o (turned_trees (made ys) n) xs h (trees_turn ys n)

  tree_turn : (p : Place) (o : Op) (xs : List (List ℕ)) (ys : List Turn) (n : ℕ) →
      Clear (tree_of Constants c p o xs (made ys) n)
  tree_turn p op.Prime xs (y ∷ []) n = y.1.tree (suc n)
  tree_turn p op.Unchanged xs (y ∷ []) n = y.1.kept p n
  tree_turn p op.Boxed xs (y ∷ z ∷ []) n =
      rolled p op.Or ((turned Constants c y.0).tree n ∷ (turned Constants c z.0).kept p n ∷ []) [] refl
      (two ((turned Constants c y.0).tree n) ((turned Constants c z.0).kept p n) (y.1.tree n) (z.1.kept p n))
  tree_turn p op.Angled xs (y ∷ z ∷ []) n =
      let f : Expr = (turned Constants c z.0).kept p n in
      rolled p op.And ((turned Constants c y.0).tree n ∷ inner_node p op.Not (f ∷ []) ∷ []) [] refl
      (two ((turned Constants c y.0).tree n) (inner_node p op.Not (f ∷ [])) (y.1.tree n)
      (rolled p op.Not (f ∷ []) [] refl (one f (z.1.kept p n))))
  tree_turn p (op.Name i b) xs ys n =
      rolled p (name_at Constants c i b n) (turned_trees (made ys) n) xs
      (name_clear i (if b then suc n else n) xs (c i) refl) (trees_turn ys n)
  tree_turn p o xs ys n = other_turn p o xs ys n refl

  equation_turn : (p : Place) (o : Op) (xs : List (List ℕ)) (ys : List Turn) (q : Place) (n : ℕ) →
      Clear (equation Constants c p o xs (made ys) q n)
  equation_turn p o xs ys q n =
      let e : Expr = tree_of Constants c p o xs (made ys) (suc n) in
      let f : Expr = tree_of Constants c p o xs (made ys) n in
      rolled q op.Eq (e ∷ f ∷ []) [] refl (two e f (tree_turn p o xs ys (suc n)) (tree_turn p o xs ys n))

  stays_turn : (q : Place) → Clear (inner_node q op.Unchanged [])
  stays_turn q = rolled q op.Unchanged [] [] refl refl

  kept_node_turn : (p : Place) (o : Op) (xs : List (List ℕ)) (ys : List Turn) (q : Place) (n : ℕ) →
      Clear (kept_of Constants c p o xs (made ys) q n)
  kept_node_turn p op.Tuple xs ys q n = rolled q op.And (kept_trees (made ys) q n) [] refl (kept_turn ys q n)
  kept_node_turn p (op.Noted x) xs [] q n = stays_turn q
  kept_node_turn p (op.Noted x) xs (y ∷ []) q n = noted_turn (turned Constants c y.0).is_tuple
    where
      noted_turn : (b : Bool) →
          Clear (if b then (turned Constants c y.0).kept q n
          else equation Constants c p (op.Noted x) xs (turned Constants c y.0 ∷ []) q n)
      noted_turn true = y.1.kept q n
      noted_turn false = equation_turn p (op.Noted x) xs (y ∷ []) q n
  kept_node_turn p (op.Noted x) xs (y ∷ z ∷ ys) q n = stays_turn q
  kept_node_turn p op.Prime xs [] q n = stays_turn q
  kept_node_turn p op.Prime xs (y ∷ []) q n = y.1.kept q (suc n)
  kept_node_turn p op.Prime xs (y ∷ z ∷ ys) q n = stays_turn q
  kept_node_turn p o xs ys q n = equation_turn p o xs ys q n

  turns : (e : Expr) → Turns e
  turns = ind-Expr Turns (λ x y is.
      subst (λ (z : Expr-F Expr). Turns (roll-Expr z)) is (
      let z : Expr-F Expr = map-Expr Turn Expr (λ e. e.0) y in
      record {
        tree = λ n. ap (λ (t : Turned). each (only c) (t.tree n)) (turned-roll Constants c z)
            ∙ tree_turn z.place z.op z.binds y.args n;
        kept = λ q n. ap (λ (t : Turned). each (only c) (t.kept q n)) (turned-roll Constants c z)
            ∙ kept_node_turn z.place z.op z.binds y.args q n;
      }))

held_same : (c : ℕ → Bool) (y : List ℕ) (o : Op) (xs ys : List (List ℕ)) → only c (rename_held y o) ys ≡ only c o xs
held_same c y (op.Bound x) xs ys = refl
held_same c y (op.Name i primed) xs ys = refl
held_same c y o xs ys = refl

finish_clear : (flat : Flat) (e : Expr) → IsTrue (each (only (is_constant flat)) (finish Constants flat e))
finish_clear flat e =
    each_back (only (is_constant flat)) (held_same (is_constant flat)) ((turned Constants (is_constant flat) e).tree 0)
    (λ x. x) []
    ∙ (turns (is_constant flat) e).tree 0

-- ---- by numbers

module _ (n : ℕ) where
  abbrev Inside : Expr → Type 0
  Inside e = IsTrue (each (only (λ i. nat_lt i n)) e) → has_name (outside n) e ≡ false

  all_inside : (es : List Expr) → Each Inside es → IsTrue (list_all (λ b. b) (map (each (only (λ i. nat_lt i n))) es)) →
      list_any (λ b. b) (map (has_name (outside n)) es) ≡ false
  all_inside [] f h = refl
  all_inside (e ∷ es) f h =
      let a : Bool = each (only (λ i. nat_lt i n)) e in
      let b : Bool = list_all (λ b. b) (map (each (only (λ i. nat_lt i n))) es) in
      λ z. f.0 (and_left a b h) z || all_inside es f.1 (and_right a b h) z

  node_inside : (p : Place) (o : Op) (xs : List (List ℕ)) (bs : List Bool) → IsTrue (only (λ i. nat_lt i n) o xs) →
      list_any (λ b. b) bs ≡ false →
      has_name_at (outside n) p o bs ≡ false
  node_inside p (op.Name i primed) xs bs h g = ap not h
  node_inside p o xs bs h g = g

  inside : (e : Expr) → Inside e
  inside = by_nodes Inside (λ x f h.
      let a : Bool = only (λ i. nat_lt i n) x.op x.binds in
      let b : Bool = list_all (λ b. b) (map (each (only (λ i. nat_lt i n))) x.args) in
      let k : IsTrue (a && b) = sym (each-roll (only (λ i. nat_lt i n)) x) ∙ h in
      has_name-roll (outside n) x
      ∙ node_inside x.place x.op x.binds (map (has_name (outside n)) x.args) (and_left a b k)
      (all_inside x.args f (and_right a b k)))

-- the number of the module's constants
abbrev pub constant_names : Flat → ℕ
constant_names flat = length (filter (λ (d : Decl). d.constant) flat.decls)

-- THE TREE
pub constants_inside : (flat : Flat) (e : Expr) →
    has_name (outside (constant_names flat)) (finish Constants flat e) ≡ false
constants_inside flat e = inside (constant_names flat) (finish Constants flat e) (finish_clear flat e)
