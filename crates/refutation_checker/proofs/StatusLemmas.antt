use Rattle.std.proofs.Common.{◌≡◌, ℕ, ◌⊎◌, inl, inr, Bool, true, false, not, List, [], ◌∷◌, ◌++◌, drop, take, Option, Some, None, refl, sym, ◌∙◌, ap, eqb, eq-eqb, ◌&&◌}
use Rattle.std.specs.Bool.{beq}
use Rattle.std.proofs.lemmas.Bool.{eqb-true}
use Rattle.refutation_checker.proofs.TrailLemmas.{Lit-same}
use Rattle.std.specs.Prelude.{Contains}
use Rattle.std.proofs.lemmas.List.{take-append-drop}
use Rattle.std.proofs.lemmas.List.Elements.{All-push, All-weaker, All-contains, Contains-append_left, Contains-push}
use Rattle.sat_formula.specs.declared.lit.Lit.{Lit}
use Rattle.refutation_checker.specs.Follows.{negation, IsFalse, IsUnit}
use Rattle.refutation_checker.specs.Marks.{TellsValue}

-- what is known of a clause's front: all false, or one literal that isn't
abbrev pub Found : List Lit → List Lit → Option Lit → Type 0
Found trail front None = IsFalse trail front
Found trail front (Some u) = IsUnit trail front u

pub IsUnit-first : (trail front : List Lit) (l : Lit) → IsFalse trail front → TellsValue trail l None → IsUnit trail (front ++ l ∷ []) l
IsUnit-first trail front l h t = record {
  member = Contains-push front l;
  not_true = t.0;
  not_false = t.1;
  others = All-push (λ m. (m ≡ l) ⊎ Contains trail (negation m)) front l
      (All-weaker (λ m. Contains trail (negation m)) (λ m. (m ≡ l) ⊎ Contains trail (negation m)) (λ m p. inr p) front h) (inl refl);
}

pub IsUnit-more : (trail front : List Lit) (u l : Lit) → IsUnit trail front u → (l ≡ u) ⊎ Contains trail (negation l) → IsUnit trail (front ++ l ∷ []) u
IsUnit-more trail front u l h p = record {
  member = Contains-append_left front (l ∷ []) u h.member;
  not_true = h.not_true;
  not_false = h.not_false;
  others = All-push (λ m. (m ≡ u) ⊎ Contains trail (negation m)) front l h.others p;
}

-- one more literal that is false
pub Found-false : (trail front : List Lit) (found : Option Lit) (l : Lit) → Found trail front found → Contains trail (negation l) → Found trail (front ++ l ∷ []) found
Found-false trail front None l h p = All-push (λ m. Contains trail (negation m)) front l h p
Found-false trail front (Some u) l h p = IsUnit-more trail front u l h (inr p)

-- a true literal settles the clause
pub Other-true : (trail clause : List Lit) (l : Lit) → Contains clause l → Contains trail l → (Contains trail (negation l) → ⊥)
    → (IsFalse trail clause → ⊥) × ((u : Lit) → IsUnit trail clause u → ⊥)
Other-true trail clause l has t nf = (
  λ f. nf (All-contains (λ m. Contains trail (negation m)) clause l f has),
  λ u h. elim (All-contains (λ m. (m ≡ u) ⊎ Contains trail (negation m)) clause l h.others has) [
    | inl e ↦ h.not_true (rw e at t)
    | inr f ↦ nf f
  ],
)

-- and so do two that are neither true nor false
pub Other-two : (trail clause : List Lit) (u l : Lit) → Contains clause u → Contains clause l → (Contains trail (negation u) → ⊥) → (Contains trail (negation l) → ⊥) → (u ≡ l → ⊥)
    → (IsFalse trail clause → ⊥) × ((w : Lit) → IsUnit trail clause w → ⊥)
Other-two trail clause u l hu hl nu nl apart = (
  λ f. nl (All-contains (λ m. Contains trail (negation m)) clause l f hl),
  λ w h. elim (All-contains (λ m. (m ≡ w) ⊎ Contains trail (negation m)) clause u h.others hu) [
    | inr f ↦ nu f
    | inl e ↦ elim (All-contains (λ m. (m ≡ w) ⊎ Contains trail (negation m)) clause l h.others hl) [
      | inr f ↦ nl f
      | inl e' ↦ apart (e ∙ sym e')
    ]
  ],
)

pub Contains-take : (xs : List Lit) (n : ℕ) (x : Lit) → Contains (take n xs) x → Contains xs x
Contains-take xs n x h = rw (← take-append-drop n xs) (Contains-append_left (take n xs) (drop n xs) x h)

pub TellsValue-true_lem : (trail : List Lit) (l : Lit) (b : Bool) → TellsValue trail l (Some b) → b ≡ true → Contains trail l × (Contains trail (negation l) → ⊥)
TellsValue-true_lem trail l true t e = t
TellsValue-true_lem trail l false t e = cc

pub TellsValue-false_lem : (trail : List Lit) (l : Lit) (b : Bool) → TellsValue trail l (Some b) → b ≡ false → (Contains trail l → ⊥) × Contains trail (negation l)
TellsValue-false_lem trail l true t e = cc
TellsValue-false_lem trail l false t e = t

beq_same : (a : Bool) → beq a a ≡ true
beq_same true = refl
beq_same false = refl

-- what the `!=` of two literals says
pub differ_lem : (u l : Lit) → true ≡ not (eqb u.var l.var && beq u.neg l.neg) → u ≡ l → ⊥
differ_lem u l h e =
    let p : eqb u.var l.var ≡ true = eq-eqb u.var l.var (ap (λ (x : Lit). x.var) e) in
    let q : beq u.neg l.neg ≡ true = rw (ap (λ (x : Lit). x.neg) e) (beq_same l.neg) in
    let r : true ≡ not (true && true) = rw (p, q) at h in
    cc

beq_true : (a b : Bool) → beq a b ≡ true → a ≡ b
beq_true true true e = refl
beq_true true false e = cc
beq_true false true e = cc
beq_true false false e = refl

not_same : (a b : Bool) → false ≡ not (a && b) → (a ≡ true) × (b ≡ true)
not_same true true e = (refl, refl)
not_same true false e = cc
not_same false b e = cc

pub same_lem : (u l : Lit) → false ≡ not (eqb u.var l.var && beq u.neg l.neg) → l ≡ u
same_lem u l h =
    let p = not_same _ _ h in
    sym (Lit-same u l (eqb-true u.var l.var p.0) (beq_true u.neg l.neg p.1))
