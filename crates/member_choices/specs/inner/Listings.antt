-- The choices of members of several sets, one set more in front at a time.
use Rattle.std.specs.Prelude.{◌≡◌, Bool, ◌&&◌, ◌||◌, List, ◌∷◌}
use Rattle.std.specs.List.{list_any}
use Rattle.sat_formula.specs.declared.lit.Lit.{Lit}
use Rattle.sat_formula.specs.declared.cnf.Cnf.{Cnf}
use Rattle.sat_formula.specs.Lit.{lit_value}
use Rattle.sat_formula.specs.Formula.{Satisfies}
use Rattle.tla_values.specs.Sets.{elements}
use Rattle.tla_values.specs.declared.value.Value.{Value}
use Rattle.cell_arena.specs.declared.kinds.CellId.{CellId}
use Rattle.cell_arena.specs.declared.kinds.CellKind.{CellKind}
use Rattle.cell_arena.specs.Cells.{Cells as Arena}
use Rattle.cell_arena.specs.Decode.{decode}
use Rattle.cell_merge.specs.Edges.{LeadTo, any_edge}
use Rattle.cell_merge.specs.Sorts.{Sort, OfSort, set_of}
use Rattle.member_choices.specs.declared.choice.Choice.{Choice}
use Rattle.member_choices.specs.Choices.{ChoicesBelow, ChoicesOf, any_choice}

-- a set of some sort
pub record IsSetIn (ks : List CellKind) (id : CellId) : Type 0 where
  pub sort : Sort
  pub is : OfSort ks (set_of sort) id

-- more choices: some of the choices with the edge's cell in front, each there only where the edge is
pub record AddsFront (f : Cnf) (edge : Lit × CellId) (some choices old new : List Choice) : Type 0 where
  pub below : ChoicesBelow f.vars new
  pub sorts : (ks : List CellKind) (s : Sort) (ss : List Sort) → OfSort ks s edge.1 → ChoicesOf ks ss choices →
      ChoicesOf ks (s ∷ ss) old → ChoicesOf ks (s ∷ ss) new
  pub any : (a : List Bool) → Satisfies a f → (of : CellId → Value) (p : List Value → Bool) →
      any_choice a of p new ≡
      (any_choice a of p old || (lit_value edge.0 a && any_choice a of (λ vs. p (of edge.1 ∷ vs)) some))

-- each of the choices with the cell of one of some edges in front
pub record AddsEdges (f : Cnf) (edges some : List (Lit × CellId)) (choices out : List Choice) : Type 0 where
  pub below : ChoicesBelow f.vars out
  pub sorts : (ks : List CellKind) (s : Sort) (ss : List Sort) → LeadTo ks s edges → ChoicesOf ks ss choices →
      ChoicesOf ks (s ∷ ss) out
  pub any : (a : List Bool) → Satisfies a f → (of : CellId → Value) (p : List Value → Bool) →
      any_choice a of p out ≡ any_edge a of (λ v. any_choice a of (λ vs. p (v ∷ vs)) choices) some

-- each of the choices with a member of the set in front
pub record AddsSet (c : Arena) (f : Cnf) (set : CellId) (choices out : List Choice) : Type 0 where
  pub below : ChoicesBelow f.vars out
  pub sorts : (s : Sort) (ss : List Sort) → OfSort c.kinds (set_of s) set → ChoicesOf c.kinds ss choices →
      ChoicesOf c.kinds (s ∷ ss) out
  pub any : (a : List Bool) → Satisfies a f → (p : List Value → Bool) →
      any_choice a (decode c a) p out ≡
      list_any (λ v. any_choice a (decode c a) (λ vs. p (v ∷ vs)) choices) (elements (decode c a set))
