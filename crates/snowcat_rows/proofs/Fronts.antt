-- Whether bytes begin so, by std's words.
use Rattle.std.proofs.Common.{◌≡◌, ℕ, List, [], ◌∷◌, refl, ap}
use Rattle.std.specs.Prelude.{nat_eq, ◌&&◌}
use Rattle.std.specs.List.{starts_with}
use Rattle.snowcat_rows.specs.inner.Machine.{is_front}

pub starts_front : (w p : List ℕ) → starts_with nat_eq p w ≡ is_front w p
starts_front [] p = refl
starts_front (x ∷ w) [] = refl
starts_front (x ∷ w) (y ∷ p) = ap (λ z. nat_eq x y && z) (starts_front w p)
