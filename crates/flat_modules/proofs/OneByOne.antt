-- Lists that are made one by one.
use Rattle.std.proofs.Common.{◌≡◌, ◌∙◌, ℕ, suc, List, [], ◌∷◌, ◌++◌, take, ap, append_assoc, sym}

-- one more of these
pub and_one : {X : Type 0} (whole start mid new : List X) (n : ℕ) (x : X) → take (suc n) whole ≡ take n whole ++ x ∷ [] →
    mid ≡ start ++ take n whole → new ≡ mid ++ x ∷ [] → new ≡ start ++ take (suc n) whole
and_one whole start mid new n x more m is =
    is ∙ ap (λ l. l ++ x ∷ []) m ∙ append_assoc start (take n whole) (x ∷ []) ∙ ap (λ l. start ++ l) (sym more)
