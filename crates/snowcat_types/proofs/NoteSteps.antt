-- The steps of looking for the annotation of a note.
use Rattle.std.proofs.Common.{◌≡◌, ◌≤◌, ◌<◌, ◌-◌, ℕ, zero, suc, ◌+◌, List, [], ◌∷◌, ◌++◌, length, take, drop, Option, Some, None, arith, refl, ap, ◌∙◌, sym, subst}
use Rattle.std.proofs.lemmas.List.{drop_all, take_rest}
use Rattle.tla_meaning.specs.Scopes.{or_else}
use Rattle.snowcat_types.specs.Annotated.{annotation_at, annotation_of, behind_text}

pub record Matching (beginning text : List ℕ) (i : ℕ) : Type 0 where
  pub first : i ≤ length beginning
  pub second : i ≤ length text
  pub left : behind_text (drop i beginning) (drop i text) ≡ behind_text beginning text

pub too_short : (beginning text : List ℕ) (i : ℕ) → Matching beginning text i → i < length beginning → length text ≤ i →
    behind_text beginning text ≡ None
too_short beginning text i m h k = sym m.left ∙ ap (behind_text (drop i beginning)) (drop_all i text k) ∙ nothing beginning i h
  where
    nothing : (bs : List ℕ) (i : ℕ) → i < length bs → behind_text (drop i bs) [] ≡ None
    nothing [] i h = absurd (omega (arith, h))
    nothing (b ∷ bs) zero h = refl
    nothing (b ∷ bs) (suc i) h = nothing bs i (omega (arith, h))

-- what stands behind a front of the text
abbrev pub behind_front : List ℕ → Option (List ℕ) → Option (List ℕ)
behind_front xs None = None
behind_front xs (Some t) = Some (xs ++ t)

-- ---- looking for the annotation

annotation_step : (note : List ℕ) (i : ℕ) → i < length note →
    annotation_of (drop i note) ≡ or_else (annotation_at (drop i note)) (annotation_of (drop (suc i) note))
unfolding annotation_of
annotation_step [] i h = absurd (omega (arith, h))
annotation_step (b ∷ note) zero h = refl
annotation_step (b ∷ note) (suc i) h = annotation_step note i (omega (arith, h))

pub annotation_found : (note t : List ℕ) (i : ℕ) → i < length note → annotation_of (drop i note) ≡ annotation_of note →
    annotation_at (take (length note - i) (drop i note)) ≡ Some t → annotation_of note ≡ Some t
annotation_found note t i h k e =
    sym k ∙ annotation_step note i h ∙ ap (λ o. or_else o (annotation_of (drop (suc i) note))) (ap annotation_at (sym (take_rest note i)) ∙ e)

annotation_missed : (note : List ℕ) (i : ℕ) → i < length note → annotation_of (drop i note) ≡ annotation_of note →
    annotation_at (take (length note - i) (drop i note)) ≡ None → annotation_of (drop (suc i) note) ≡ annotation_of note
annotation_missed note i h k e =
    sym (ap (λ o. or_else o (annotation_of (drop (suc i) note))) (ap annotation_at (sym (take_rest note i)) ∙ e)) ∙ sym (annotation_step note i h) ∙ k

pub annotation_next : (note : List ℕ) (i : ℕ) → i < length note → annotation_of (drop i note) ≡ annotation_of note →
    annotation_at (take (length note - i) (drop i note)) ≡ None → annotation_of (drop (i + 1) note) ≡ annotation_of note
annotation_next note i h k e =
    let up : suc i ≡ i + 1 = omega arith in subst (λ j. annotation_of (drop j note) ≡ annotation_of note) up (annotation_missed note i h k e)

annotation_nowhere : annotation_of [] ≡ None
unfolding annotation_of
annotation_nowhere = refl

pub annotation_none : (note : List ℕ) (i : ℕ) → length note ≤ i → annotation_of (drop i note) ≡ annotation_of note → annotation_of note ≡ None
annotation_none note i h k = sym k ∙ ap annotation_of (drop_all i note h) ∙ annotation_nowhere
