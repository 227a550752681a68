-- Bytes added one piece behind another.
use Rattle.std.proofs.Common.{◌≡◌, ℕ, List, ◌++◌, append_assoc, ap, sym, ◌∙◌, codes}
use Rattle.tla_meaning.specs.declared.place.Place.{Place}
use Rattle.trace_text.specs.declared.verdict.Fault.{Fault}
use Rattle.trace_text.specs.declared.verdict.Fault.TheVariants.{InvWrong}
use Rattle.trace_text.specs.Reports.{fault_text, place_text}

pub two_pieces : (old a b x y : List ℕ) → a ≡ old ++ x → b ≡ a ++ y → b ≡ old ++ (x ++ y)
two_pieces old a b x y e f = f ∙ ap (λ z. z ++ y) e ∙ append_assoc old x y

pub three_pieces : (old a b c x y z : List ℕ) → a ≡ old ++ x → b ≡ a ++ y → c ≡ b ++ z → c ≡ old ++ (x ++ (y ++ z))
three_pieces old a b c x y z e f g = g ∙ ap (λ w. w ++ z) (two_pieces old a b x y e f) ∙ append_assoc old (x ++ y) z ∙ ap (λ w. old ++ w) (append_assoc x y z)

wrong_text : (files : List (List ℕ)) (name : List ℕ) (p : Place) →
    fault_text files (InvWrong name p) ≡ codes "invariant " ++ (name ++ (codes " is outside an operator's domain at " ++ place_text files p))
wrong_text files name p = simp (append_assoc)

-- the line of an invariant outside an operator's domain
pub wrong_line : (files : List (List ℕ)) (fault : Fault) (name : List ℕ) (p : Place) (old a b c : List ℕ) → fault ≡ InvWrong name p →
    a ≡ old ++ codes "invariant " → b ≡ a ++ name → c ≡ b ++ (codes " is outside an operator's domain at " ++ (place_text files p ++ codes "\n")) →
    c ≡ old ++ (fault_text files fault ++ codes "\n")
wrong_line files fault name p old a b c is e f g =
    let parts : codes "invariant " ++ (name ++ (codes " is outside an operator's domain at " ++ (place_text files p ++ codes "\n")))
    ≡ (codes "invariant " ++ (name ++ (codes " is outside an operator's domain at " ++ place_text files p))) ++ codes "\n" = simp (append_assoc) in
    three_pieces old a b c (codes "invariant ") name (codes " is outside an operator's domain at " ++ (place_text files p ++ codes "\n")) e f g
    ∙ ap (λ w. old ++ w) parts ∙ sym (ap (λ x. old ++ (x ++ codes "\n")) (ap (fault_text files) is ∙ wrong_text files name p))
