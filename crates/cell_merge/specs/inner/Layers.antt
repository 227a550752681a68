-- Lists of edges that are made shorter by free choices.
use Rattle.std.specs.Prelude.{◌≡◌, ℕ, ◌<◌, Bool, true, false, List, ◌++◌, length, take, drop, if◌then◌else◌}
use Rattle.sat_formula.specs.declared.lit.Lit.{Lit}
use Rattle.sat_formula.specs.Lit.{lit_value}
use Rattle.sat_formula.specs.Formula.{Satisfies}
use Rattle.tla_values.specs.declared.value.Value.{Value}
use Rattle.cell_arena.specs.declared.build.Build.{Build}
use Rattle.cell_arena.specs.declared.kinds.CellId.{CellId}
use Rattle.cell_arena.specs.Decode.{decode}
use Rattle.cell_merge.specs.Sorts.{Sort}
use Rattle.cell_merge.specs.Choices.{Chooses}
use Rattle.cell_merge.specs.Edges.{any_edge, LeadTo, AreNamed}

-- edges of a sort over the build's variables
pub record AreEdges (b : Build) (es : List (Lit × CellId)) : Type 0 where
  pub sort : Sort
  pub cells : LeadTo b.arena.kinds sort es
  pub named : AreNamed b.formula.vars es

-- one edge of two
pub record ChoosesEdge (old new : Build) (l : Lit) (x y r : Lit × CellId) : Type 0 where
  pub below : r.0.var < new.formula.vars
  pub cell : Chooses old new l x.1 y.1 r.1
  pub literal : (a : List Bool) → Satisfies a new.formula → lit_value r.0 a ≡ (if lit_value l a then lit_value x.0 a else lit_value y.0 a)

-- of the first i edges each is chosen, or the one that stands `half` places behind
pub record ChoosesEach (old new : Build) (l : Lit) (es : List (Lit × CellId)) (half i : ℕ) (out : List (Lit × CellId)) : Type 0 where
  pub named : AreNamed new.formula.vars out
  pub count : length out ≡ i
  pub sorts : (s : Sort) → LeadTo old.arena.kinds s es → LeadTo new.arena.kinds s out
  pub sound : (a : List Bool) → Satisfies a new.formula → (p : Value → Bool) →
      any_edge a (decode new.arena a) p out ≡ true → any_edge a (decode old.arena a) p es ≡ true
  pub first : (a : List Bool) → Satisfies a new.formula → lit_value l a ≡ true → (p : Value → Bool) →
      any_edge a (decode old.arena a) p (take i es) ≡ true → any_edge a (decode new.arena a) p out ≡ true
  pub second : (a : List Bool) → Satisfies a new.formula → lit_value l a ≡ false → (p : Value → Bool) →
      any_edge a (decode old.arena a) p (take i (drop half es)) ≡ true → any_edge a (decode new.arena a) p out ≡ true

-- the assignment goes on to one that satisfies the formula and passes the test
pub record GoesOn (b : Build) (a : List Bool) (test : List Bool → Bool) : Type 0 where
  pub more : List Bool
  pub long : length (a ++ more) ≡ b.formula.vars
  pub satisfies : Satisfies (a ++ more) b.formula
  pub passes : test (a ++ more) ≡ true

-- the values of the new edges are values of the old ones, each of which is one under some longer
-- assignment
pub record Narrows (old new : Build) (es out : List (Lit × CellId)) : Type 0 where
  pub named : AreNamed new.formula.vars out
  pub sorts : (s : Sort) → LeadTo old.arena.kinds s es → LeadTo new.arena.kinds s out
  pub sound : (a : List Bool) → Satisfies a new.formula → (p : Value → Bool) →
      any_edge a (decode new.arena a) p out ≡ true → any_edge a (decode old.arena a) p es ≡ true
  pub complete : (a : List Bool) → length a ≡ old.formula.vars → Satisfies a old.formula → (p : Value → Bool) →
      any_edge a (decode old.arena a) p es ≡ true → GoesOn new a (λ c. any_edge c (decode new.arena c) p out)
