-- A tree that holds a marked name holds one by wider marks, and a path that reads none of wider marks too late reads none.
use Rattle.std.proofs.Common.{◌≡◌, ◌⊎◌, inl, inr, ℕ, Bool, true, false, not, ◌&&◌, ◌||◌, List, [], ◌∷◌, map, take, refl, sym, ◌∙◌}
use Rattle.std.specs.Prelude.{nat_eq}
use Rattle.std.specs.List.{list_all, list_any}
use Rattle.kernel_trees.specs.declared.kernel.Ker.{Ker}
use Rattle.kernel_trees.specs.declared.kernel.KerOp.{KerOp}
use Rattle.kernel_trees.specs.declared.kernel.KerOp.TheVariants as ker
use Rattle.kernel_trees.specs.declared.path.AssignedStep.{AssignedStep}
use Rattle.kernel_trees.specs.declared.path.AssignedStep.TheVariants as mark
use Rattle.kernel_trees.specs.Assignments.{is_in, open_names, reads_late}
use Rattle.kernel_trees.specs.Paths.{Marks, mentions, mentions_at, sets}
use Rattle.kernel_trees.proofs.Trees.{Each, by_nodes, mentions-roll}

false_true : false ≡ true → ⊥
false_true e = cc

or_cases : (a b : Bool) → (a || b) ≡ true → (a ≡ true) ⊎ (b ≡ true)
or_cases true b e = inl refl
or_cases false b e = inr e

or_left : (a b : Bool) → a ≡ true → (a || b) ≡ true
or_left true b e = refl
or_left false b e = absurd (false_true e)

or_right : (a b : Bool) → b ≡ true → (a || b) ≡ true
or_right true b e = refl
or_right false b e = e

module _ (m n : Marks) (wider : (i : ℕ) (p : Bool) → m i p ≡ true → n i p ≡ true) where
  abbrev More : Ker → Type 0
  More k = mentions m k ≡ true → mentions n k ≡ true

  any_more : (ks : List Ker) → Each More ks → list_any (λ b. b) (map (mentions m) ks) ≡ true → list_any (λ b. b) (map (mentions n) ks) ≡ true
  any_more [] h e = absurd (false_true e)
  any_more (k ∷ ks) h e = by (or_cases (mentions m k) (list_any (λ b. b) (map (mentions m) ks)) e) (any_more ks h.1)
    where
      by : (mentions m k ≡ true) ⊎ (list_any (λ b. b) (map (mentions m) ks) ≡ true) →
          (list_any (λ b. b) (map (mentions m) ks) ≡ true → list_any (λ b. b) (map (mentions n) ks) ≡ true) →
          (mentions n k || list_any (λ b. b) (map (mentions n) ks)) ≡ true
      by (inl f) g = or_left (mentions n k) (list_any (λ b. b) (map (mentions n) ks)) (h.0 f)
      by (inr f) g = or_right (mentions n k) (list_any (λ b. b) (map (mentions n) ks)) (g f)

  two_more : (ks : List Ker) → Each More ks → list_any (λ b. b) (take 2 (map (mentions m) ks)) ≡ true →
      list_any (λ b. b) (take 2 (map (mentions n) ks)) ≡ true
  two_more [] h e = absurd (false_true e)
  two_more (a ∷ []) h e = any_more (a ∷ []) h e
  two_more (a ∷ b ∷ ks) h e = any_more (a ∷ b ∷ []) (h.0, (h.1.0, tt)) e

  node_more : (o : KerOp) (ks : List Ker) → Each More ks → mentions_at m o (map (mentions m) ks) ≡ true →
      mentions_at n o (map (mentions n) ks) ≡ true
  node_more (ker.Name j primed) ks h e = wider j primed e
  node_more (ker.Const v) ks h e = absurd (false_true e)
  node_more ker.NoCase ks h e = absurd (false_true e)
  node_more ker.Range ks h e = two_more ks h e
  node_more o ks h e = any_more ks h e

  pub mentions_wider : (k : Ker) → mentions m k ≡ true → mentions n k ≡ true
  mentions_wider = by_nodes More (λ x h e. mentions-roll n x ∙ node_more x.op x.args h (sym (mentions-roll m x) ∙ e))

  not_wider : (k : Ker) → not (mentions n k) ≡ true → not (mentions m k) ≡ true
  not_wider k e = by (mentions m k) (mentions n k) (mentions_wider k) e
    where
      by : (p q : Bool) → (p ≡ true → q ≡ true) → not q ≡ true → not p ≡ true
      by false q h e = refl
      by true true h e = absurd (false_true e)
      by true false h e = absurd (false_true (h refl))

  pub sets_wider : (ks : List Ker) → list_all (λ k. not (mentions n k)) ks ≡ true → list_all (λ k. not (mentions m k)) ks ≡ true
  sets_wider [] e = refl
  sets_wider (k ∷ ks) e = by (not (mentions n k)) (list_all (λ k. not (mentions n k)) ks) e (not_wider k) (sets_wider ks)
    where
      by : (p q : Bool) → (p && q) ≡ true → (p ≡ true → not (mentions m k) ≡ true) → (q ≡ true → list_all (λ k. not (mentions m k)) ks ≡ true) →
          (not (mentions m k) && list_all (λ k. not (mentions m k)) ks) ≡ true
      by true true e f g = both (not (mentions m k)) (list_all (λ k. not (mentions m k)) ks) (f refl) (g refl)
        where
          both : (p q : Bool) → p ≡ true → q ≡ true → (p && q) ≡ true
          both true true e f = refl
          both true false e f = absurd (false_true f)
          both false q e f = absurd (false_true e)
      by true false e f g = absurd (false_true e)
      by false q e f g = absurd (false_true e)

-- ---- paths

and_both : (p q : Bool) → p ≡ true → q ≡ true → (p && q) ≡ true
and_both true q e h = h
and_both false q e h = absurd (false_true e)

pub and_first : (p q : Bool) → (p && q) ≡ true → p ≡ true
and_first true q e = refl
and_first false q e = absurd (false_true e)

pub and_second : (p q : Bool) → (p && q) ≡ true → q ≡ true
and_second true q e = e
and_second false q e = absurd (false_true e)

-- open names stay fewer as both assign one more
open_more : (m n : Marks) (bs cs : List ℕ) (j : ℕ) → ((i : ℕ) (p : Bool) → open_names m bs i p ≡ true → open_names n cs i p ≡ true) →
    (i : ℕ) (p : Bool) → open_names m (j ∷ bs) i p ≡ true → open_names n (j ∷ cs) i p ≡ true
open_more m n bs cs j h i p e = by (nat_eq i j) (m i p) (is_in bs i) (n i p) (is_in cs i) (h i p) e
  where
    by : (q a b c d : Bool) → ((a && not b) ≡ true → (c && not d) ≡ true) → (a && not (q || b)) ≡ true → (c && not (q || d)) ≡ true
    by true true b c d h e = absurd (false_true e)
    by true false b c d h e = absurd (false_true e)
    by false a b c d h e = h e

pub late_wider : (m n : Marks) (bs cs : List ℕ) (zs : List AssignedStep) →
    ((i : ℕ) (p : Bool) → open_names m bs i p ≡ true → open_names n cs i p ≡ true) →
    reads_late n cs zs ≡ true → reads_late m bs zs ≡ true
late_wider m n bs cs [] h e = refl
late_wider m n bs cs (mark.Guard k b ∷ zs) h e =
    and_both (not (mentions (open_names m bs) k)) (reads_late m bs zs)
    (not_wider (open_names m bs) (open_names n cs) h k (and_first (not (mentions (open_names n cs) k)) (reads_late n cs zs) e))
    (late_wider m n bs cs zs h (and_second (not (mentions (open_names n cs) k)) (reads_late n cs zs) e))
late_wider m n bs cs (mark.Pick ps ∷ zs) h e =
    and_both (list_all (λ k. not (mentions (open_names m bs) k)) (sets ps)) (reads_late m bs zs)
    (sets_wider (open_names m bs) (open_names n cs) h (sets ps)
    (and_first (list_all (λ k. not (mentions (open_names n cs) k)) (sets ps)) (reads_late n cs zs) e))
    (late_wider m n bs cs zs h (and_second (list_all (λ k. not (mentions (open_names n cs) k)) (sets ps)) (reads_late n cs zs) e))
late_wider m n bs cs (mark.Equals j k ∷ zs) h e =
    and_both (not (mentions (open_names m bs) k)) (reads_late m (j ∷ bs) zs)
    (not_wider (open_names m bs) (open_names n cs) h k (and_first (not (mentions (open_names n cs) k)) (reads_late n (j ∷ cs) zs) e))
    (late_wider m n (j ∷ bs) (j ∷ cs) zs (open_more m n bs cs j h) (and_second (not (mentions (open_names n cs) k)) (reads_late n (j ∷ cs) zs) e))
late_wider m n bs cs (mark.Among j k ∷ zs) h e =
    and_both (not (mentions (open_names m bs) k)) (reads_late m (j ∷ bs) zs)
    (not_wider (open_names m bs) (open_names n cs) h k (and_first (not (mentions (open_names n cs) k)) (reads_late n (j ∷ cs) zs) e))
    (late_wider m n (j ∷ bs) (j ∷ cs) zs (open_more m n bs cs j h) (and_second (not (mentions (open_names n cs) k)) (reads_late n (j ∷ cs) zs) e))
