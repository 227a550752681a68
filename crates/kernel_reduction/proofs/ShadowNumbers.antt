-- Numberings of which the same can be said, one behind another, and of many numbers of a name the last.
use Rattle.std.proofs.Common.{ℕ, List, [], ◌∷◌, ◌++◌, ◌∙◌}
use Rattle.kernel_reduction.specs.Reduction.{Numbering}
use Rattle.kernel_reduction.proofs.PathNumbers.{under, shadows}
use Rattle.kernel_reduction.proofs.Shadowed.{Shadows, shadow_one}

pub shadow_through : (ρ σ τ : Numbering) → Shadows ρ σ → Shadows σ τ → Shadows ρ τ
shadow_through ρ σ τ a b = record { same = λ z. a.same z ∙ b.same z; new = λ n q. b.new n (a.new n q) }

-- of many numbers of a name the last one counts, also under others
pub shadow_last : (x ns : List ℕ) (m : ℕ) (σ τ : Numbering) → Shadows σ τ →
    Shadows (under x (ns ++ m ∷ []) σ) (τ ++ (x, m) ∷ [])
shadow_last x ns m σ τ h =
    shadow_through (under x (ns ++ m ∷ []) σ) (σ ++ (x, m) ∷ []) (τ ++ (x, m) ∷ []) (shadows x ns m σ)
    (shadow_one σ τ x m h)
