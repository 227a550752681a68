-- All functions from the members of some edges to those of others, as lists of arrows.
use Rattle.std.specs.Prelude.{◌≡◌, ℕ, Bool, not, ◌&&◌, ◌||◌, List, ◌∷◌, ◌++◌, All, take, if◌then◌else◌}
use Rattle.std.specs.List.{list_any, zip}
use Rattle.sat_formula.specs.declared.lit.Lit.{Lit}
use Rattle.sat_formula.specs.declared.cnf.Cnf.{Cnf}
use Rattle.sat_formula.specs.Lit.{lit_value, IsBelow}
use Rattle.sat_formula.specs.Formula.{Satisfies}
use Rattle.tla_values.specs.Order.{same_value}
use Rattle.tla_values.specs.Sets.{elements, function_of, member}
use Rattle.tla_values.specs.declared.value.Value.{Value}
use Rattle.tla_values.specs.declared.value.Value.TheVariants as value
use Rattle.cell_arena.specs.declared.build.Build.{Build}
use Rattle.cell_arena.specs.declared.kinds.CellId.{CellId}
use Rattle.cell_arena.specs.declared.kinds.CellKind.{CellKind}
use Rattle.cell_arena.specs.Cells.{Cells}
use Rattle.cell_arena.specs.Decode.{decode, present, present_pairs}
use Rattle.cell_merge.specs.Arrows.{LeadFrom, ArrowsNamed}
use Rattle.cell_merge.specs.Edges.{LeadTo, AreNamed, any_edge}
use Rattle.cell_merge.specs.Sorts.{Sort, OfSort, set_of as set_sort, function_of as function_sort}
use Rattle.function_rewriter.specs.FunctionSets.{all_functions, each_to}

-- a choice is a list of arrows with a literal; whether some choice that is there passes the test
abbrev pub any_choice : List Bool → (List (Lit × CellId × CellId) → Bool) → List (Lit × List (Lit × CellId × CellId)) → Bool
any_choice a p cs = list_any (λ c. lit_value c.0 a && p c.1) cs

-- choices over the first n variables
abbrev pub AreChoices : ℕ → List (Lit × List (Lit × CellId × CellId)) → Type 0
AreChoices n cs = All (λ c. IsBelow n c.0 × ArrowsNamed n c.1) cs

-- choices whose arrows lead from the one sort to the other
abbrev pub ChoicesLead : List CellKind → Sort → Sort → List (Lit × List (Lit × CellId × CellId)) → Type 0
ChoicesLead ks s t cs = All (λ c. LeadFrom ks s t c.1) cs

-- more choices: some of the choices, each with arrows in front and where the literal is true
pub record AddsFront (f : Cnf) (there : Lit) (front : List (Lit × CellId × CellId)) (some choices old new : List (Lit × List (Lit × CellId × CellId))) : Type 0 where
  pub named : AreChoices f.vars new
  pub sorts : (ks : List CellKind) (s t : Sort) → LeadFrom ks s t front → ChoicesLead ks s t choices → ChoicesLead ks s t old → ChoicesLead ks s t new
  pub any : (a : List Bool) → Satisfies a f → (p : List (Lit × CellId × CellId) → Bool) →
      any_choice a p new ≡ (any_choice a p old || (lit_value there a && any_choice a (λ es. p (front ++ es)) some))

-- more choices: each of the choices with an arrow from the edge to the member in front, where the edge
-- is not there or the member is
pub record AddsMember (f : Cnf) (edge m : Lit × CellId) (choices old new : List (Lit × List (Lit × CellId × CellId))) : Type 0 where
  pub named : AreChoices f.vars new
  pub sorts : (ks : List CellKind) (s t : Sort) → OfSort ks s edge.1 → OfSort ks t m.1 → ChoicesLead ks s t choices → ChoicesLead ks s t old → ChoicesLead ks s t new
  pub any : (a : List Bool) → Satisfies a f → (p : List (Lit × CellId × CellId) → Bool) →
      any_choice a p new ≡ (any_choice a p old || ((not (lit_value edge.0 a) || lit_value m.0 a) && any_choice a (λ es. p ((edge.0, edge.1, m.1) ∷ es)) choices))

-- each of the choices with an arrow from the edge to each of some members
pub record AddsEach (f : Cnf) (edge : Lit × CellId) (some members : List (Lit × CellId)) (choices out : List (Lit × List (Lit × CellId × CellId))) : Type 0 where
  pub named : AreChoices f.vars out
  pub sorts : (ks : List CellKind) (s t : Sort) → OfSort ks s edge.1 → LeadTo ks t members → ChoicesLead ks s t choices → ChoicesLead ks s t out
  pub any : (a : List Bool) → Satisfies a f → (p : List (Lit × CellId × CellId) → Bool) →
      any_choice a p out ≡ list_any (λ m. (not (lit_value edge.0 a) || lit_value m.0 a) && any_choice a (λ es. p ((edge.0, edge.1, m.1) ∷ es)) choices) some

-- where the edge is there, each of the choices with a pair from it to each member in front; else the
-- choices as they are
pub record Extends (f : Cnf) (edge : Lit × CellId) (members : List (Lit × CellId)) (choices out : List (Lit × List (Lit × CellId × CellId))) : Type 0 where
  pub named : AreChoices f.vars out
  pub sorts : (ks : List CellKind) (s t : Sort) → OfSort ks s edge.1 → LeadTo ks t members → ChoicesLead ks s t choices → ChoicesLead ks s t out
  pub any : (a : List Bool) → Satisfies a f → (of : CellId → Value) (q : List (Value × Value) → Bool) →
      any_choice a (λ es. q (present_pairs a of es)) out ≡
      (if lit_value edge.0 a then list_any (λ v. any_choice a (λ es. q ((of edge.1, v) ∷ present_pairs a of es)) choices) (present a of members)
      else any_choice a (λ es. q (present_pairs a of es)) choices)

-- the choices that are there are all ways to give each member of the edges one of the others
pub record IsListing (f : Cnf) (es whole members : List (Lit × CellId)) (cs : List (Lit × List (Lit × CellId × CellId))) : Type 0 where
  pub named : AreChoices f.vars cs
  pub sorts : (ks : List CellKind) (s t : Sort) → LeadTo ks s whole → LeadTo ks t members → ChoicesLead ks s t cs
  pub each : (a : List Bool) → Satisfies a f → (of : CellId → Value) (q : List (Value × Value) → Bool) →
      any_choice a (λ arrows. q (present_pairs a of arrows)) cs ≡ list_any (λ ys. q (zip (present a of es) ys)) (each_to (present a of es) (present a of members))

-- the functions of the choices that are there are all from the one set to the other
pub record ListsFunctions (c : Cells) (f : Cnf) (from to : CellId) (cs : List (Lit × List (Lit × CellId × CellId))) : Type 0 where
  pub named : AreChoices f.vars cs
  pub sorts : (s t : Sort) → OfSort c.kinds (set_sort s) from → OfSort c.kinds (set_sort t) to → ChoicesLead c.kinds s t cs
  pub each : (a : List Bool) → Satisfies a f → (w : Value) →
      any_choice a (λ es. same_value w (value.Fun (function_of (present_pairs a (decode c a) es)))) cs ≡
      member w (elements (all_functions (elements (decode c a from)) (elements (decode c a to))))

-- choices over the build, whose arrows lead between cells that are there
pub record ChoicesFit (b : Build) (cs : List (Lit × List (Lit × CellId × CellId))) : Type 0 where
  pub named : AreChoices b.formula.vars cs
  pub from : Sort
  pub to : Sort
  pub lead : ChoicesLead b.arena.kinds from to cs

-- the first n choices as edges to functions
pub record FunctionEdges (old new : Build) (cs : List (Lit × List (Lit × CellId × CellId))) (n : ℕ) (edges : List (Lit × CellId)) : Type 0 where
  pub named : AreNamed new.formula.vars edges
  pub sorts : (s t : Sort) → ChoicesLead old.arena.kinds s t cs → LeadTo new.arena.kinds (function_sort s t) edges
  pub members : (a : List Bool) → Satisfies a new.formula → (p : Value → Bool) →
      any_edge a (decode new.arena a) p edges ≡ any_choice a (λ es. p (value.Fun (function_of (present_pairs a (decode old.arena a) es)))) (take n cs)
