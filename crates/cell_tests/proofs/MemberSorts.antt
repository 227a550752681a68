-- The kinds of members.
use Rattle.std.proofs.Common.{◌≡◌, ℕ, zero, suc, List, All, refl, subst, sym, arith}
use Rattle.std.proofs.lemmas.List.Elements.{All-weaker}
use Rattle.cell_arena.specs.declared.build.Build.{Build}
use Rattle.cell_arena.specs.declared.kinds.CellId.{CellId}
use Rattle.cell_arena.specs.declared.kinds.CellKind.{CellKind}
use Rattle.cell_arena.specs.Growth.{Grows}
use Rattle.cell_merge.specs.Sorts.{Sort, OfSort, OneType, SetsOfOneType, truth, name, number, set_of}
use Rattle.cell_merge.proofs.SortLaws.{OfSort-later}
use Rattle.cell_tests.specs.Kinds.{sort_of}

pub of-truth : (ks : List CellKind) (kind : ℕ) (id : CellId) → kind ≡ 0 → OfSort ks truth id → OfSort ks (sort_of kind) id
of-truth ks kind id e h = subst (λ (n : ℕ). OfSort ks (sort_of n) id) (sym e) h

pub of-name : (ks : List CellKind) (kind : ℕ) (id : CellId) → kind ≡ 1 → OfSort ks name id → OfSort ks (sort_of kind) id
of-name ks kind id e h = subst (λ (n : ℕ). OfSort ks (sort_of n) id) (sym e) h

pub of-number : (ks : List CellKind) (kind : ℕ) (id : CellId) → (kind ≡ 0 → ⊥) → (kind ≡ 1 → ⊥) → OfSort ks number id → OfSort ks (sort_of kind) id
of-number ks zero id p q h = absurd (p refl)
of-number ks (suc zero) id p q h = absurd (q refl)
of-number ks (suc (suc n)) id p q h = h

pub sorts-later : (b c : Build) (s : Sort) (xs : List CellId) → All (OfSort b.arena.kinds s) xs → Grows b c → All (OfSort c.arena.kinds s) xs
sorts-later b c s xs h g = All-weaker (OfSort b.arena.kinds s) (OfSort c.arena.kinds s) (λ id p. OfSort-later b c s id p g) xs h

pub as-type : (ks : List CellKind) (x y : CellId) → SetsOfOneType ks x y → OneType ks x y
as-type ks x y t = record { sort = set_of t.sort; left = t.left; right = t.right }
