use Rattle.std.proofs.Common.{◌≡◌, ◌∷◌, [], not, drop}
use Rattle.std.specs.List.{list_all}
use Rattle.kernel_reduction.specs.SizeLaws.{goes_on}
use Rattle.kera_reducer.proofs.separating.none_goes_on.Given as goal

abbrev pub invariant-loop-e : goal.invariant-loop-e
invariant-loop-e l =
    list_all (λ e. not (goes_on l.place (l.name ∷ []) e)) l.es ≡ list_all (λ e. not (goes_on l.place (l.name ∷ []) e)) (drop l.e-index l.es)
