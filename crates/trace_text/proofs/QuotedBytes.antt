-- Texts read back byte by byte.
use Rattle.std.proofs.Common.{◌≡◌, ℕ, List, [], ◌∷◌, ◌++◌, flat_map, length, refl, ap, ◌∙◌, sym, append_assoc, arith, length-append}
use Rattle.std.proofs.lemmas.List.{append-nil}
use Rattle.tla_values.specs.Show.{escaped}
use Rattle.tla_values.specs.inner.Escapes.{decode}
use Rattle.tla_values.proofs.TextLaw.{decoded, no_quote, tail_is}

-- what is left of the text t, which stood in front of r, where these bytes of it are read
pub record Left (done rest t r : List ℕ) : Type 0 where
  pub left : List ℕ
  pub is : t ≡ done ++ left
  pub text : rest ≡ flat_map escaped left ++ 34 ∷ r

pub left_all : (bytes t r : List ℕ) → bytes ≡ flat_map escaped t ++ 34 ∷ r → Left [] bytes t r
left_all bytes t r e = record { left = t; is = refl; text = e }

pub left_more : (done rest t r more : List ℕ) (b : ℕ) → Left done rest t r → ((q : List ℕ) → rest ≡ 34 ∷ q → ⊥) → decode rest ≡ (b, more) →
    Left (done ++ b ∷ []) more t r
left_more done rest t r more b l goes_on read = by_left l.left l.is l.text
  where
    by_left : (u : List ℕ) → t ≡ done ++ u → rest ≡ flat_map escaped u ++ 34 ∷ r → Left (done ++ b ∷ []) more t r
    by_left [] is e = absurd (goes_on r e)
    by_left (c ∷ u) is e =
        let behind : List ℕ = flat_map escaped u ++ 34 ∷ r in
        let same = sym read ∙ ap decode (e ∙ append_assoc (escaped c) (flat_map escaped u) (34 ∷ r)) ∙ decoded c behind in
        let byte : b ≡ c = ap (λ (p : ℕ × List ℕ). p.0) same in
        record {
          left = u;
          is = is ∙ ap (λ x. done ++ x ∷ u) (sym byte) ∙ sym (append_assoc done (b ∷ []) u);
          text = ap (λ (p : ℕ × List ℕ). p.1) same;
        }

-- at the closing quote nothing is left
pub left_none : (done rest t r more : List ℕ) → Left done rest t r → rest ≡ 34 ∷ more → (done ≡ t) × (more ≡ r)
left_none done rest t r more l closed = by_left l.left l.is l.text
  where
    by_left : (u : List ℕ) → t ≡ done ++ u → rest ≡ flat_map escaped u ++ 34 ∷ r → (done ≡ t) × (more ≡ r)
    by_left [] is e = (sym (is ∙ append-nil done), tail_is 34 34 more r (sym closed ∙ e))
    by_left (c ∷ u) is e =
        absurd (no_quote c (flat_map escaped u ++ 34 ∷ r) more (sym (e ∙ append_assoc (escaped c) (flat_map escaped u) (34 ∷ r)) ∙ closed))

-- before the closing quote there is a byte
pub left_wrong : (done rest t r : List ℕ) → Left done rest t r → rest ≡ [] → ⊥
left_wrong done rest t r l empty =
    let same : length (flat_map escaped l.left ++ 34 ∷ r) ≡ 0 = ap length (sym l.text ∙ empty) in
    omega (arith, same, length-append (flat_map escaped l.left) (34 ∷ r))
