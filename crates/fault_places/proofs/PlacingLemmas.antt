-- One node of the walk: its place is tested, and then its children.
use Rattle.std.proofs.Common.{◌≡◌, ℕ, ◌<◌, Bool, ◌&&◌, List, map, ap, sym, ◌∙◌, lt-ltb}
use Rattle.std.specs.Prelude.{nat_lt}
use Rattle.std.specs.List.{list_all}
use Rattle.std.proofs.lemmas.List.Folds.{list_all-map}
use Rattle.tla_meaning.specs.declared.expr.Expr.{Expr, out-Expr}
use Rattle.tla_meaning.specs.declared.expr.Expr.TheFolds.{fold_out-Expr}
use Rattle.fault_places.specs.Places.{places_below}

pub below_then : (n : ℕ) (e : Expr) (es : List Expr) → es ≡ (out-Expr e).args → (out-Expr e).place.file < n →
    list_all (places_below n) es ≡ places_below n e
below_then n e es same h =
    ap (list_all (places_below n)) same
    ∙ sym (fold_out-Expr Bool (λ x. nat_lt x.place.file n && list_all (λ b. b) x.args) e
    ∙ ap (λ b. b && list_all (λ b. b) (map (places_below n) (out-Expr e).args)) (lt-ltb (out-Expr e).place.file n h)
    ∙ list_all-map (λ b. b) (places_below n) (out-Expr e).args)
