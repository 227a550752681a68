-- Steps of asking whether a tree can be typed.
use Rattle.std.proofs.Common.{◌≡◌, ℕ, zero, suc, ◌+◌, ◌<◌, Bool, true, false, ◌&&◌, ◌||◌, if◌then◌else◌, List, [], ◌∷◌, ◌++◌, drop, get_or, length, map, refl, ap, ◌∙◌, sym, arith}
use Rattle.std.specs.List.{list_any}
use Rattle.std.proofs.lemmas.List.{drop_all, drop_more}
use Rattle.tla_meaning.specs.declared.expr.Expr.{Expr, out-Expr, roll-out-Expr}
use Rattle.tla_meaning.specs.FreeNames.{closed_all, marks, with_names}
use Rattle.tla_meaning.specs.Meaning.{role}
use Rattle.tla_meaning.specs.Scopes.{same_text}
use Rattle.snowcat_types.specs.Answers.{is_typable_op, is_typable_tree}
use Rattle.snowcat_types.specs.inner.Bound.{among, names_in}
use Rattle.snowcat_types.proofs.Nodes.{typable-node}

-- ---- more bound names

or_swap : (a b : Bool) → (a || b) ≡ (b || a)
or_swap true true = refl
or_swap true false = refl
or_swap false true = refl
or_swap false false = refl

any_append : (p : List ℕ → Bool) (xs ys : List (List ℕ)) → list_any p (xs ++ ys) ≡ (list_any p xs || list_any p ys)
any_append p [] ys = refl
any_append p (x ∷ xs) ys = ap (λ b. p x || b) (any_append p xs ys) ∙ joined (p x) (list_any p xs) (list_any p ys)
  where
    joined : (a b c : Bool) → (a || (b || c)) ≡ ((a || b) || c)
    joined true b c = refl
    joined false b c = refl

pub among-append : (xs ys : List (List ℕ)) → among (xs ++ ys) ≡ with_names ys (among xs)
among-append xs ys = λ i. λ x. (any_append (same_text x) xs ys ∙ or_swap (list_any (same_text x) xs) (list_any (same_text x) ys)) i

-- ---- the children, one by one

abbrev first_names : List (List ℕ) → List Bool → List (List ℕ)
first_names xs [] = []
first_names xs (m ∷ ms) = if m then xs else []

abbrev rest_marks : List Bool → List Bool
rest_marks [] = []
rest_marks (m ∷ ms) = ms

one_child : (ms : List Bool) (xs : List (List ℕ)) (k : (List ℕ → Bool) → Bool) (ks : List ((List ℕ → Bool) → Bool)) (B : List ℕ → Bool) →
    closed_all ms xs (k ∷ ks) B ≡ (k (with_names (first_names xs ms) B) && closed_all (rest_marks ms) xs ks B)
one_child [] xs k ks B = refl
one_child (true ∷ ms) xs k ks B = refl
one_child (false ∷ ms) xs k ks B = refl

names_first : (xs : List (List ℕ)) (ms : List Bool) (i : ℕ) → names_in xs ms i ≡ first_names xs (drop i ms)
names_first xs [] zero = refl
names_first xs [] (suc i) = refl
names_first xs (m ∷ ms) zero = refl
names_first xs (m ∷ ms) (suc i) = names_first xs ms i

rest_drop : (ms : List Bool) (i : ℕ) → rest_marks (drop i ms) ≡ drop (suc i) ms
rest_drop [] zero = refl
rest_drop [] (suc i) = refl
rest_drop (m ∷ ms) zero = refl
rest_drop (m ∷ ms) (suc i) = rest_drop ms i

module _ (n : ℕ) (ms : List Bool) (xs : List (List ℕ)) (es : List Expr) (B : List ℕ → Bool) where
  abbrev pub left_from : ℕ → Bool
  left_from i = closed_all (drop i ms) xs (map (is_typable_tree n) (drop i es)) B

  pub next_child : (i : ℕ) (e : Expr) → i < length es → e ≡ get_or es i e →
      left_from i ≡ (is_typable_tree n e (with_names (names_in xs ms i) B) && left_from (i + 1))
  next_child i e lt q =
      let up : suc i ≡ i + 1 = omega arith in
      ap (λ fs. closed_all (drop i ms) xs (map (is_typable_tree n) fs) B) (drop_more es i e lt ∙ ap (λ z. z ∷ drop (i + 1) es) (sym q))
      ∙ one_child (drop i ms) xs (is_typable_tree n e) (map (is_typable_tree n) (drop (i + 1) es)) B
      ∙ ap (λ ys. is_typable_tree n e (with_names ys B) && closed_all (rest_marks (drop i ms)) xs (map (is_typable_tree n) (drop (i + 1) es)) B) (sym (names_first xs ms i))
      ∙ ap (λ z. is_typable_tree n e (with_names (names_in xs ms i) B) && closed_all z xs (map (is_typable_tree n) (drop (i + 1) es)) B)
      (rest_drop ms i ∙ ap (λ z. drop z ms) up)

  pub all_children : (i : ℕ) → length es < i + 1 → left_from i ≡ true
  all_children i le = ap (λ fs. closed_all (drop i ms) xs (map (is_typable_tree n) fs) B) (drop_all i es (omega (arith, le))) ∙ nothing (drop i ms)
    where
      nothing : (ms : List Bool) → closed_all ms xs [] B ≡ true
      nothing [] = refl
      nothing (true ∷ ms) = refl
      nothing (false ∷ ms) = refl

pub tree_is : (n : ℕ) (e : Expr) (B : List ℕ → Bool) →
    is_typable_tree n e B ≡ (is_typable_op n (out-Expr e).op B
    && closed_all (marks (role (out-Expr e).op (length (out-Expr e).binds))) (out-Expr e).binds (map (is_typable_tree n) (out-Expr e).args) B)
tree_is n e B =
    ap (λ z. is_typable_tree n z B) (sym (roll-out-Expr e))
    ∙ typable-node n (out-Expr e).place (out-Expr e).op (out-Expr e).binds (out-Expr e).args B

-- ---- the answers

module _ (n : ℕ) (e : Expr) (bound : List (List ℕ)) (ms : List Bool) (xs : List (List ℕ)) (es : List Expr) where
  pub whole_is : xs ≡ (out-Expr e).binds → es ≡ (out-Expr e).args → ms ≡ marks (role (out-Expr e).op (length xs)) →
      is_typable_op n (out-Expr e).op (among bound) ≡ true → is_typable_tree n e (among bound) ≡ left_from n ms xs es (among bound) 0
  whole_is h k q o =
      tree_is n e (among bound)
      ∙ ap (λ b. b && closed_all (marks (role (out-Expr e).op (length (out-Expr e).binds))) (out-Expr e).binds (map (is_typable_tree n) (out-Expr e).args) (among bound)) o
      ∙ ap (λ z. closed_all (marks (role (out-Expr e).op (length z))) z (map (is_typable_tree n) (out-Expr e).args) (among bound)) (sym h)
      ∙ ap (λ z. closed_all (marks (role (out-Expr e).op (length xs))) xs (map (is_typable_tree n) z) (among bound)) (sym k)
      ∙ ap (λ z. closed_all z xs (map (is_typable_tree n) es) (among bound)) (sym q)

  pub child_is : (i : ℕ) (d : Expr) (there now : List (List ℕ)) (b : Bool) → i < length es → d ≡ get_or es i d → there ≡ names_in xs ms i → now ≡ bound →
      b ≡ is_typable_tree n d (with_names there (among now)) →
      left_from n ms xs es (among bound) i ≡ (b && left_from n ms xs es (among bound) (i + 1))
  child_is i d there now b lt q h k f =
      next_child n ms xs es (among bound) i d lt q
      ∙ ap (λ z. is_typable_tree n d (with_names z (among bound)) && left_from n ms xs es (among bound) (i + 1)) (sym h)
      ∙ ap (λ z. is_typable_tree n d (with_names there (among z)) && left_from n ms xs es (among bound) (i + 1)) (sym k)
      ∙ ap (λ z. z && left_from n ms xs es (among bound) (i + 1)) (sym f)
