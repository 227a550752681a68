-- What is built under some numbers is built under others, too, where each name has the same number and what is new among
-- the first is new among the others: so under fewer numbers of a name, of which the last one counts.
use Rattle.std.proofs.Common.{◌≡◌, ℕ, Bool, true, false, not, ◌&&◌, List, [], ◌∷◌, ◌++◌, refl, sym, ◌∙◌, ap, Option}
use Rattle.std.specs.Prelude.{nat_eq}
use Rattle.std.specs.List.{list_any}
use Rattle.tla_meaning.specs.declared.actions.Assignable.{Assignable}
use Rattle.tla_meaning.specs.declared.expr.Expr.{Expr}
use Rattle.tla_meaning.specs.declared.op.Op.{Op}
use Rattle.tla_meaning.specs.declared.place.Place.{Place}
use Rattle.tla_meaning.specs.Scopes.{find_last, or_else}
use Rattle.tla_meaning.proofs.Laws.{find-append}
use Rattle.tla_meaning.proofs.Views.{and_left, and_right, and_both}
use Rattle.kernel_trees.specs.declared.kernel.Ker.{Ker}
use Rattle.kernel_reduction.specs.Reduction.{Numbering, fresh, are_fresh, numbered, all_fresh}
use Rattle.kernel_reduction.specs.Rows.{Let, Level, Change, level_numbers}
use Rattle.kernel_reduction.specs.Builds as rows
use Rattle.kernel_reduction.specs.Builds.{is_let, is_except_let, Builds, BuildsEach, BuildsArms, BuildsPath, BuildsChanges, BuildsNode}
use Rattle.kernel_reduction.proofs.KindTies.{fresh_front}

pub record Shadows (σ τ : Numbering) : Type 0 where
  pub same : (z : List ℕ) → find_last z σ ≡ find_last z τ
  pub new : (n : ℕ) → fresh n σ ≡ true → fresh n τ ≡ true

not_same : (b : Bool) → b ≡ false → not b ≡ true
not_same b h = ap not h

pub fresh_back : (m : ℕ) (ρ : Numbering) (x : List ℕ) (n : ℕ) → fresh m ρ ≡ true → nat_eq n m ≡ false →
    fresh m (ρ ++ (x, n) ∷ []) ≡ true
fresh_back m [] x n h d = and_both (not (nat_eq n m)) true (not_same (nat_eq n m) d) refl
fresh_back m (e ∷ ρ) x n h d =
    and_both (not (nat_eq e.1 m)) (fresh m (ρ ++ (x, n) ∷ [])) (and_left (not (nat_eq e.1 m)) (fresh m ρ) h)
    (fresh_back m ρ x n (and_right (not (nat_eq e.1 m)) (fresh m ρ) h) d)

pub shadow_one : (σ τ : Numbering) (x : List ℕ) (n : ℕ) → Shadows σ τ → Shadows (σ ++ (x, n) ∷ []) (τ ++ (x, n) ∷ [])
shadow_one σ τ x n h = record {
  same = λ z.
      find-append z σ ((x, n) ∷ []) ∙ ap (or_else (find_last z ((x, n) ∷ []))) (h.same z)
      ∙ sym (find-append z τ ((x, n) ∷ []));
  new = λ m q. let f = fresh_front m σ x n q in fresh_back m τ x n (h.new m f.0) f.1;
}

pub shadow_all : (xs : List (List ℕ)) (ns : List ℕ) (σ τ : Numbering) → Shadows σ τ →
    Shadows (numbered xs ns σ) (numbered xs ns τ)
shadow_all [] ns σ τ h = h
shadow_all (x ∷ xs) [] σ τ h = h
shadow_all (x ∷ xs) (n ∷ ns) σ τ h = shadow_all xs ns (σ ++ (x, n) ∷ []) (τ ++ (x, n) ∷ []) (shadow_one σ τ x n h)

pub shadow_new : (xs : List (List ℕ)) (ns : List ℕ) (σ τ : Numbering) → Shadows σ τ → all_fresh xs ns σ ≡ true →
    all_fresh xs ns τ ≡ true
shadow_new [] [] σ τ h f = f
shadow_new [] (n ∷ ns) σ τ h f = f
shadow_new (x ∷ xs) [] σ τ h f = f
shadow_new (x ∷ xs) (n ∷ ns) σ τ h f =
    let σ' : Numbering = σ ++ (x, n) ∷ [] in
    let τ' : Numbering = τ ++ (x, n) ∷ [] in
    and_both (fresh n τ) (all_fresh xs ns τ') (h.new n (and_left (fresh n σ) (all_fresh xs ns σ') f))
    (shadow_new xs ns σ' τ' (shadow_one σ τ x n h) (and_right (fresh n σ) (all_fresh xs ns σ') f))

pub shadow_fresh : (ns : List ℕ) (σ τ : Numbering) → Shadows σ τ → are_fresh ns σ ≡ true → are_fresh ns τ ≡ true
shadow_fresh [] σ τ h f = f
shadow_fresh (n ∷ ns) σ τ h f =
    and_both (fresh n τ) (are_fresh ns τ) (h.new n (and_left (fresh n σ) (are_fresh ns σ) f))
    (shadow_fresh ns σ τ h (and_right (fresh n σ) (are_fresh ns σ) f))

pub shadow_let : (l : Let) (ns : List ℕ) (σ τ : Numbering) → Shadows σ τ → is_except_let l ns σ ≡ true →
    is_except_let l ns τ ≡ true
shadow_let l ns σ τ h f =
    let ms : List ℕ = l.unread ∷ l.named ∷ ns in
    let apart : Bool = not (list_any (nat_eq l.named) ns) in
    let g = and_left (is_let l && are_fresh ms σ) apart f in
    and_both (is_let l && are_fresh ms τ) apart
    (and_both (is_let l) (are_fresh ms τ) (and_left (is_let l) (are_fresh ms σ) g)
    (shadow_fresh ms σ τ h (and_right (is_let l) (are_fresh ms σ) g)))
    (and_right (is_let l && are_fresh ms σ) apart f)

mutual
  pub shadowed : {i : Option Assignable} {σ : Numbering} {e : Expr} {k : Ker} → Builds i σ e k → (τ : Numbering) →
      Shadows σ τ → Builds i τ e k
  shadowed (rows.at_node i σ e k d) τ h = rows.at_node i τ e k (node_shadowed d τ h)

  each_shadowed : {i : Option Assignable} {σ : Numbering} {es : List Expr} {ks : List Ker} → BuildsEach i σ es ks →
      (τ : Numbering) → Shadows σ τ → BuildsEach i τ es ks
  each_shadowed (rows.none_left i σ) τ h = rows.none_left i τ
  each_shadowed (rows.one_more i σ e k es ks d ds) τ h =
      rows.one_more i τ e k es ks (shadowed d τ h) (each_shadowed ds τ h)

  arms_shadowed : {m : Assignable} {σ : Numbering} {es : List Expr} {xs : List (Ker × Ker)} {o : Option Ker} →
      BuildsArms m σ es xs o → (τ : Numbering) → Shadows σ τ → BuildsArms m τ es xs o
  arms_shadowed (rows.no_arms m σ) τ h = rows.no_arms m τ
  arms_shadowed (rows.other_arm m σ e k d) τ h = rows.other_arm m τ e k (shadowed d τ h)
  arms_shadowed (rows.one_arm m σ c e g k es xs o d1 d2 d3) τ h =
      rows.one_arm m τ c e g k es xs o (shadowed d1 τ h) (shadowed d2 τ h) (arms_shadowed d3 τ h)

  path_shadowed : {σ : Numbering} {x : List ℕ} {n : ℕ} {es : List Expr} {ls : List Level} {k : Ker} →
      BuildsPath σ x n es ls k → (τ : Numbering) → Shadows σ τ → BuildsPath τ x n es ls k
  path_shadowed (rows.last_level σ x e f l k d1 d2) τ h =
      rows.last_level τ x e f l k (shadowed d1 τ h)
      (shadowed d2 (numbered (x ∷ []) (l.number ∷ []) τ) (shadow_one σ τ x l.number h))
  path_shadowed (rows.one_level σ x n e es l m ls k d1 d2) τ h =
      rows.one_level τ x n e es l m ls k (shadowed d1 τ h) (path_shadowed d2 τ h)

  changes_shadowed : {σ : Numbering} {x : List ℕ} {ns : List ℕ} {es : List Expr} {us : List Change} →
      BuildsChanges σ x ns es us → (τ : Numbering) → Shadows σ τ → BuildsChanges τ x ns es us
  changes_shadowed (rows.no_changes σ x) τ h = rows.no_changes τ x
  changes_shadowed (rows.one_change σ x n ns es u us d1 d2) τ h =
      rows.one_change τ x n ns es u us (path_shadowed d1 τ h) (changes_shadowed d2 τ h)

  node_shadowed : {i : Option Assignable} {σ : Numbering} {p : Place} {o : Op} {es : List Expr} {xs : List (List ℕ)}
      {k : Ker} → BuildsNode i σ p o es xs k → (τ : Numbering) → Shadows σ τ → BuildsNode i τ p o es xs k
  node_shadowed (rows.boolean σ p b xs a) τ h = rows.boolean τ p b xs a
  node_shadowed (rows.integer σ p i xs a) τ h = rows.integer τ p i xs a
  node_shadowed (rows.text σ p s xs a) τ h = rows.text τ p s xs a
  node_shadowed (rows.declared σ p i primed es xs a) τ h = rows.declared τ p i primed es xs a
  node_shadowed (rows.bound_name σ p x n xs a f) τ h = rows.bound_name τ p x n xs a (sym (h.same x) ∙ f)
  node_shadowed (rows.same σ p o ko es xs a ks e i d) τ h = rows.same τ p o ko es xs a ks e i (each_shadowed d τ h)
  node_shadowed (rows.range σ p es xs a k l d) τ h = rows.range τ p es xs a k l (each_shadowed d τ h)
  node_shadowed (rows.binder σ p o ko es xs a ks bs ns e i f d1 d2) τ h =
      rows.binder τ p o ko es xs a ks bs ns e i (shadow_new xs ns σ τ h f) (each_shadowed d1 τ h)
      (each_shadowed d2 (numbered xs ns τ) (shadow_all xs ns σ τ h))
  node_shadowed (rows.fold σ p es xs a bs ks ns f d1 d2) τ h =
      rows.fold τ p es xs a bs ks ns (shadow_new xs ns σ τ h f)
      (each_shadowed d1 (numbered xs ns τ) (shadow_all xs ns σ τ h)) (each_shadowed d2 τ h)
  node_shadowed (rows.noted i σ p x es xs k d) τ h = rows.noted i τ p x es xs k (each_shadowed d τ h)
  node_shadowed (rows.assign σ p es xs a ks d) τ h = rows.assign τ p es xs a ks (each_shadowed d τ h)
  node_shadowed (rows.implies σ p es xs a k l d) τ h = rows.implies τ p es xs a k l (each_shadowed d τ h)
  node_shadowed (rows.unequal σ p es xs a ks d) τ h = rows.unequal τ p es xs a ks (each_shadowed d τ h)
  node_shadowed (rows.no_member σ p es xs a ks d) τ h = rows.no_member τ p es xs a ks (each_shadowed d τ h)
  node_shadowed (rows.greater σ p es xs a k l d) τ h = rows.greater τ p es xs a k l (each_shadowed d τ h)
  node_shadowed (rows.at_most σ p es xs a k l d) τ h = rows.at_most τ p es xs a k l (each_shadowed d τ h)
  node_shadowed (rows.at_least σ p es xs a ks d) τ h = rows.at_least τ p es xs a ks (each_shadowed d τ h)
  node_shadowed (rows.negative σ p es xs a ks d) τ h = rows.negative τ p es xs a ks (each_shadowed d τ h)
  node_shadowed (rows.finite σ p es xs a k n d) τ h = rows.finite τ p es xs a k n (each_shadowed d τ h)
  node_shadowed (rows.truth_values σ p xs a b) τ h = rows.truth_values τ p xs a b
  node_shadowed (rows.equivalent σ p es xs l t k m f d) τ h =
      rows.equivalent τ p es xs l t k m f (each_shadowed d τ h)
  node_shadowed (rows.one_pair σ p es xs l t s z k m f g d) τ h =
      rows.one_pair τ p es xs l t s z k m f g (each_shadowed d τ h)
  node_shadowed (rows.power σ p es xs l b k m n f g e d) τ h =
      rows.power τ p es xs l b k m n f g e (each_shadowed d τ h)
  node_shadowed (rows.high_power σ p es xs l t b k m n f g e d) τ h =
      rows.high_power τ p es xs l t b k m n f g e (each_shadowed d τ h)
  node_shadowed (rows.field σ p es xs a k m x f d) τ h = rows.field τ p es xs a k m x f (each_shadowed d τ h)
  node_shadowed (rows.low_item σ p es xs a k m n f g d) τ h =
      rows.low_item τ p es xs a k m n f g (each_shadowed d τ h)
  node_shadowed (rows.high_item σ p es xs l t k m n f g e d) τ h =
      rows.high_item τ p es xs l t k m n f g e (each_shadowed d τ h)
  node_shadowed (rows.except σ p cs e es x a f u us g i d1 d2) τ h =
      rows.except τ p cs e es x a f u us g (shadow_fresh (level_numbers (u ∷ us)) σ τ h i) (shadowed d1 τ h)
      (changes_shadowed d2 τ h)
  node_shadowed (rows.except_let σ p cs e es x l t f us g i d1 d2) τ h =
      rows.except_let τ p cs e es x l t f us (shadow_let l (level_numbers us) σ τ h g) i (shadowed d1 τ h)
      (changes_shadowed d2 τ h)
  node_shadowed (rows.cases σ p other es xs a ks f d) τ h = rows.cases τ p other es xs a ks f (each_shadowed d τ h)
  node_shadowed (rows.as_value m σ p o es xs k f d) τ h = rows.as_value m τ p o es xs k f (node_shadowed d τ h)
  node_shadowed (rows.conjunction m σ p es xs a ks d) τ h =
      rows.conjunction m τ p es xs a ks (each_shadowed d τ h)
  node_shadowed (rows.disjunction m σ p es xs a ks d) τ h =
      rows.disjunction m τ p es xs a ks (each_shadowed d τ h)
  node_shadowed (rows.choice m σ p es xs a ks bs ns f d1 d2) τ h =
      rows.choice m τ p es xs a ks bs ns (shadow_new xs ns σ τ h f) (each_shadowed d1 τ h)
      (each_shadowed d2 (numbered xs ns τ) (shadow_all xs ns σ τ h))
  node_shadowed (rows.branches m σ p c es xs a b g k l f d1 d2) τ h =
      rows.branches m τ p c es xs a b g k l f (shadowed d1 τ h) (each_shadowed d2 τ h)
  node_shadowed (rows.split_cases m σ p other es xs a ys o f d) τ h =
      rows.split_cases m τ p other es xs a ys o f (arms_shadowed d τ h)
