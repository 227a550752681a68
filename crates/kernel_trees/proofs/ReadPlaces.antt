-- A tree holds a marked name exactly where it reads one at some place.
use Rattle.std.proofs.Common.{◌≡◌, ◌⊎◌, inl, inr, ◌↔◌, ℕ, Bool, true, false, ◌&&◌, ◌||◌, List, [], ◌∷◌, map, take, refl, sym, ◌∙◌}
use Rattle.std.specs.Prelude.{nat_eq}
use Rattle.std.specs.List.{list_any}
use Rattle.std.specs.Ordering.{is_eq}
use Rattle.tla_meaning.specs.declared.place.Place.{Place}
use Rattle.tla_meaning.specs.Outcomes.{place_cmp, place_parts}
use Rattle.tla_meaning.proofs.Views.{and_left, and_both, false≢true}
use Rattle.kernel_trees.specs.declared.kernel.Ker.{Ker}
use Rattle.kernel_trees.specs.declared.kernel.KerOp.{KerOp}
use Rattle.kernel_trees.specs.declared.kernel.KerOp.TheVariants as ker
use Rattle.kernel_trees.specs.Paths.{Marks, mentions, mentions_at}
use Rattle.kernel_trees.specs.Assignments.{reads_here, reads_at}
use Rattle.kernel_trees.proofs.Trees.{Each, by_nodes, mentions-roll}
use Rattle.kernel_trees.proofs.Steps.{same_text_same}
use Rattle.kernel_trees.proofs.Reading.{reads-roll, nat_same}

or_cases : (a b : Bool) → (a || b) ≡ true → (a ≡ true) ⊎ (b ≡ true)
or_cases true b e = inl refl
or_cases false b e = inr e

or_left : (a b : Bool) → a ≡ true → (a || b) ≡ true
or_left true b e = refl
or_left false b e = absurd (false≢true e)

or_right : (a b : Bool) → b ≡ true → (a || b) ≡ true
or_right true b e = refl
or_right false b e = e

module _ (m : Marks) where
  abbrev pub Somewhere : Ker → Type 0
  Somewhere k = (i : ℕ) × (p : Place) × (reads_at m k i p ≡ true)

  abbrev pub Told : Ker → Type 0
  Told k = (mentions m k ≡ true → Somewhere k) × ((i : ℕ) (p : Place) → reads_at m k i p ≡ true → mentions m k ≡ true)

  abbrev Any : List Ker → Type 0
  Any ks = (i : ℕ) × (p : Place) × (list_any (λ b. b) (map (λ k. reads_at m k i p) ks) ≡ true)

  any_to : (ks : List Ker) → Each Told ks → list_any (λ b. b) (map (mentions m) ks) ≡ true → Any ks
  any_to [] h e = absurd (false≢true e)
  any_to (k ∷ ks) h e = by (or_cases (mentions m k) (list_any (λ b. b) (map (mentions m) ks)) e) (any_to ks h.1)
    where
      by : (mentions m k ≡ true) ⊎ (list_any (λ b. b) (map (mentions m) ks) ≡ true) → (list_any (λ b. b) (map (mentions m) ks) ≡ true → Any ks) → Any (k ∷ ks)
      by (inl f) g = let z = h.0.0 f in (z.0, z.1, or_left (reads_at m k z.0 z.1) (list_any (λ b. b) (map (λ k. reads_at m k z.0 z.1) ks)) z.2)
      by (inr f) g = let z = g f in (z.0, z.1, or_right (reads_at m k z.0 z.1) (list_any (λ b. b) (map (λ k. reads_at m k z.0 z.1) ks)) z.2)

  any_from : (i : ℕ) (p : Place) (ks : List Ker) → Each Told ks → list_any (λ b. b) (map (λ k. reads_at m k i p) ks) ≡ true →
      list_any (λ b. b) (map (mentions m) ks) ≡ true
  any_from i p [] h e = absurd (false≢true e)
  any_from i p (k ∷ ks) h e = by (or_cases (reads_at m k i p) (list_any (λ b. b) (map (λ k. reads_at m k i p) ks)) e) (any_from i p ks h.1)
    where
      by : (reads_at m k i p ≡ true) ⊎ (list_any (λ b. b) (map (λ k. reads_at m k i p) ks) ≡ true) →
          (list_any (λ b. b) (map (λ k. reads_at m k i p) ks) ≡ true → list_any (λ b. b) (map (mentions m) ks) ≡ true) →
          (mentions m k || list_any (λ b. b) (map (mentions m) ks)) ≡ true
      by (inl f) g = or_left (mentions m k) (list_any (λ b. b) (map (mentions m) ks)) (h.0.1 i p f)
      by (inr f) g = or_right (mentions m k) (list_any (λ b. b) (map (mentions m) ks)) (g f)

  two_to : (ks : List Ker) → Each Told ks → list_any (λ b. b) (take 2 (map (mentions m) ks)) ≡ true →
      (i : ℕ) × (p : Place) × (list_any (λ b. b) (take 2 (map (λ k. reads_at m k i p) ks)) ≡ true)
  two_to [] h e = absurd (false≢true e)
  two_to (a ∷ []) h e = any_to (a ∷ []) h e
  two_to (a ∷ b ∷ ks) h e = any_to (a ∷ b ∷ []) (h.0, (h.1.0, tt)) e

  two_from : (i : ℕ) (p : Place) (ks : List Ker) → Each Told ks → list_any (λ b. b) (take 2 (map (λ k. reads_at m k i p) ks)) ≡ true →
      list_any (λ b. b) (take 2 (map (mentions m) ks)) ≡ true
  two_from i p [] h e = absurd (false≢true e)
  two_from i p (a ∷ []) h e = any_from i p (a ∷ []) h e
  two_from i p (a ∷ b ∷ ks) h e = any_from i p (a ∷ b ∷ []) (h.0, (h.1.0, tt)) e

  node_to : (q : Place) (o : KerOp) (ks : List Ker) → Each Told ks → mentions_at m o (map (mentions m) ks) ≡ true →
      (i : ℕ) × (p : Place) × (reads_here m i p q o (map (λ k. reads_at m k i p) ks) ≡ true)
  node_to q (ker.Name j primed) ks h e =
      (j, q, and_both (m j primed && nat_eq j j) (is_eq (place_cmp q q)) (and_both (m j primed) (nat_eq j j) e (nat_same j)) (same_text_same (place_parts q)))
  node_to q (ker.Const v) ks h e = absurd (false≢true e)
  node_to q ker.NoCase ks h e = absurd (false≢true e)
  node_to q ker.Range ks h e = two_to ks h e
  node_to q o ks h e = any_to ks h e

  node_from : (q : Place) (o : KerOp) (ks : List Ker) (i : ℕ) (p : Place) → Each Told ks → reads_here m i p q o (map (λ k. reads_at m k i p) ks) ≡ true →
      mentions_at m o (map (mentions m) ks) ≡ true
  node_from q (ker.Name j primed) ks i p h e =
      and_left (m j primed) (nat_eq i j) (and_left (m j primed && nat_eq i j) (is_eq (place_cmp p q)) e)
  node_from q (ker.Const v) ks i p h e = absurd (false≢true e)
  node_from q ker.NoCase ks i p h e = absurd (false≢true e)
  node_from q ker.Range ks i p h e = two_from i p ks h e
  node_from q o ks i p h e = any_from i p ks h e

  told : (k : Ker) → Told k
  told = by_nodes Told (λ x h. (
    λ e. let z = node_to x.place x.op x.args h (sym (mentions-roll m x) ∙ e) in (z.0, z.1, reads-roll m x z.0 z.1 ∙ z.2),
    λ i p e. mentions-roll m x ∙ node_from x.place x.op x.args i p h (sym (reads-roll m x i p) ∙ e),
  ))

  pub read_places : (k : Ker) → (mentions m k ≡ true) ↔ Somewhere k
  read_places k = ((told k).0, λ z. (told k).1 z.0 z.1 z.2)
