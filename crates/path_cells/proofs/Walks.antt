-- Lists of the walk in code.
use Rattle.std.proofs.Common.{◌≡◌, ℕ, ◌+◌, ◌<◌, ◌≤◌, List, [], ◌∷◌, ◌++◌, map, take, zip, length, get_or, sym, ◌∙◌, ap, ap₂, arith}
use Rattle.std.proofs.lemmas.List.{length-map}
use Rattle.cell_arena.specs.declared.kinds.CellId.{CellId}
use Rattle.kernel_trees.specs.declared.kernel.Ker.{Ker}
use Rattle.expr_rewriter.proofs.Steps.{zip_push}
use Rattle.path_cells.proofs.Chosen.{get_map, take_past}

abbrev numbers_of : List (ℕ × Ker) → List ℕ
numbers_of ps = map (λ (p : ℕ × Ker). p.0) ps

pub bound_turn : (all start : List (ℕ × CellId)) (ps : List (ℕ × Ker)) (ids : List CellId) (i : ℕ) (p : ℕ × Ker) (id d : CellId) →
    all ≡ start ++ zip (take i (numbers_of ps)) (take i ids) → length ps ≡ length ids → i < length ps → p ≡ get_or ps i p → id ≡ get_or ids i d →
    all ++ (p.0, id) ∷ [] ≡ start ++ zip (take (i + 1) (numbers_of ps)) (take (i + 1) ids)
bound_turn all start ps ids i p id d e n lt is at =
    let m = length-map ps (λ (p : ℕ × Ker). p.0) in
    let q : p.0 ≡ get_or (numbers_of ps) i p.0 = ap (λ (p : ℕ × Ker). p.0) is ∙ sym (get_map (λ (p : ℕ × Ker). p.0) ps i p) in
    ap₂ (λ (k : ℕ) (y : CellId). all ++ (k, y) ∷ []) q at
    ∙ zip_push all start (numbers_of ps) ids i p.0 d e (m ∙ n) (omega arith)

pub bound_all : (all start : List (ℕ × CellId)) (ps : List (ℕ × Ker)) (ids : List CellId) (i : ℕ) →
    all ≡ start ++ zip (take i (numbers_of ps)) (take i ids) → length ps ≡ length ids → length ps ≤ i → all ≡ start ++ zip (numbers_of ps) ids
bound_all all start ps ids i e n lt =
    let m = length-map ps (λ (p : ℕ × Ker). p.0) in
    e ∙ ap₂ (λ (ns : List ℕ) (ds : List CellId). start ++ zip ns ds) (take_past (numbers_of ps) i (omega arith)) (take_past ids i (omega arith))
