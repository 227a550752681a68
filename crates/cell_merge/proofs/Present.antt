-- The values of the edges that are there, one edge at a time.
use Rattle.std.proofs.Common.{◌≡◌, ℕ, ◌+◌, ◌<◌, Bool, true, false, cond, List, [], ◌∷◌, ◌++◌, map, length, take, get_or, refl, ap, ◌∙◌}
use Rattle.std.specs.Prelude.{filter, if◌then◌else◌}
use Rattle.std.proofs.lemmas.List.{take_more, map-append}
use Rattle.std.proofs.lemmas.List.Elements.{filter-append}
use Rattle.sat_formula.specs.declared.lit.Lit.{Lit}
use Rattle.sat_formula.specs.Lit.{lit_value}
use Rattle.tla_values.specs.declared.value.Value.{Value}
use Rattle.cell_arena.specs.declared.kinds.CellId.{CellId}
use Rattle.cell_arena.specs.Decode.{present}

abbrev pub one : Bool → Value → List Value
one t v = if t then v ∷ [] else []

module _ (a : List Bool) (of : CellId → Value) where
  pub present-append : (es fs : List (Lit × CellId)) → present a of (es ++ fs) ≡ present a of es ++ present a of fs
  present-append es fs =
      ap (map (λ (e : Lit × CellId). of e.1)) (filter-append (λ e. lit_value e.0 a) es fs)
      ∙ map-append (λ e. of e.1) (filter (λ e. lit_value e.0 a) es) (filter (λ e. lit_value e.0 a) fs)

  pub present-one : (e : Lit × CellId) → present a of (e ∷ []) ≡ one (lit_value e.0 a) (of e.1)
  present-one e = split (lit_value e.0 a)
    where
      split : (t : Bool) → map (λ (e : Lit × CellId). of e.1) (cond t (e ∷ []) []) ≡ one t (of e.1)
      split true = refl
      split false = refl

  pub present-more : (es : List (Lit × CellId)) (i : ℕ) (d : Lit × CellId) → i < length es
      → present a of (take (i + 1) es) ≡ present a of (take i es) ++ one (lit_value (get_or es i d).0 a) (of (get_or es i d).1)
  present-more es i d lt =
      ap (present a of) (take_more es i d lt) ∙ present-append (take i es) (get_or es i d ∷ [])
      ∙ ap (λ (vs : List Value). present a of (take i es) ++ vs) (present-one (get_or es i d))
