use Rattle.std.proofs.Common.{◌≡◌, ℕ, ◌+◌, ◌≤◌, ◌↔◌, inl, inr, Bool, true, false, List, [], ◌∷◌, ◌++◌, length, take, map, IsTrue, refl, sym, ◌∙◌, arith, length-append}
use Rattle.std.specs.Prelude.{if◌then◌else◌}
use Rattle.std.proofs.lemmas.Bool.{false≢true, cases_lt}
use Rattle.std.proofs.lemmas.List.{take_all, take-append-le, get_or_append_left, get_or_push, length_push, length-map}
use Rattle.sat_formula.specs.declared.lit.Lit.{Lit}
use Rattle.refutation_checker.specs.declared.log.Step.{Step}
use Rattle.refutation_checker.specs.declared.answers.Check.{Check}
use Rattle.refutation_checker.specs.declared.answers.Check.TheVariants.{Yes, Open}
use Rattle.refutation_checker.specs.Follows.{negation, Propagates, HasNoOpposites, known, Follows, EachFollows}

pub length-known : (formula : List (List Lit)) (steps : List Step) → length (known formula steps) ≡ length formula + length steps
length-known formula steps = omega (arith, length-append formula (map (λ (s : Step). s.lits) steps), length-map steps (λ (s : Step). s.lits))

pub Follows-decided : (clauses : List (List Lit)) (s : Step) (T lits : List Lit) (hints : List ℕ) (b : Bool) → s.id ≡ length clauses + 1
    → T ≡ map negation lits → HasNoOpposites lits → lits ≡ s.lits → hints ≡ s.hints → (IsTrue b ↔ Propagates clauses T hints) → IsTrue b ↔ Follows clauses s
Follows-decided clauses s T lits hints b next made apart l h d = (
  λ t. record {
    next = next;
    apart = rw l at apart;
    works = rw (made, l, h) at (d.0 t);
  },
  λ f. d.1 (rw (made, l, h) f.works),
)

pub Follows-opposed : (clauses : List (List Lit)) (s : Step) (lits : List Lit) → (HasNoOpposites lits → ⊥) → lits ≡ s.lits → IsTrue false ↔ Follows clauses s
Follows-opposed clauses s lits opposed l = (λ t. absurd (false≢true t), λ f. absurd (opposed (rw l f.apart)))

pub verdict_yes : (b : Bool) (r : Check) → r ≡ (if b then Yes else Open) → r ≡ Yes → b ≡ true
verdict_yes true r e said = refl
verdict_yes false r e said = let f : Open ≡ Yes = sym e ∙ said in cc

-- a log grows by a step that follows
pub EachFollows-push : (formula : List (List Lit)) (steps : List Step) (s : Step) → EachFollows formula steps → Follows (known formula steps) s → EachFollows formula (steps ++ s ∷ [])
EachFollows-push formula steps s each f = λ k lt d.
    let size = length_push steps s in
    let le : k ≤ length steps = omega arith in
    let before : take k (steps ++ s ∷ []) ≡ take k steps = take-append-le k steps (s ∷ []) le in
    elim (cases_lt k (length steps)) [
      | inl older ↦ rw (before, get_or_append_left steps (s ∷ []) d k older) (each k older d)
      | inr ge ↦
          (let last : length steps ≡ k = omega arith in
          rw (before, take_all k steps ge, get_or_push steps s d k last) f)
    ]
