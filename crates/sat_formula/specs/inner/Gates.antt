-- The gates that a formula keeps, so that equal ones are made once.
use Rattle.std.specs.Prelude.{Bool, ◌&&◌, if◌then◌else◌, List, IfSome}
use Rattle.std.specs.HashMap.{HashMap, get}
use Rattle.std.specs.List.{list_all}
use Rattle.sat_formula.specs.declared.cnf.Cnf.{Cnf}
use Rattle.sat_formula.specs.declared.lit.Lit.{Lit}
use Rattle.sat_formula.specs.declared.gate.Gate.{Gate}
use Rattle.sat_formula.specs.declared.gate.Gate.TheVariants.{And, AndAll, Mux}
use Rattle.sat_formula.specs.contracts.gate.GatePartialEq.TheImpl as gate_eq
use Rattle.sat_formula.specs.Lit.{lit_value}
use Rattle.sat_formula.specs.Formula.{WellFormed, HasValue}

-- the value of a gate
abbrev pub gate_value : Gate → List Bool → Bool
gate_value (And x y) a = lit_value x a && lit_value y a
gate_value (AndAll lits) a = list_all (λ x. lit_value x a) lits.items
gate_value (Mux c y z) a = if lit_value c a then lit_value y a else lit_value z a

-- whether two gates are asked for the same
abbrev pub same_gate : Gate → Gate → Bool
same_gate = (gate_eq.ghosts).eq

-- each literal that is kept has the value of its gate
unfoldable pub AreGates : {S : Type 0} → Cnf → HashMap Gate Lit S → Type 0
AreGates f kept = (g : Gate) → IfSome (get same_gate kept g) (λ l. HasValue f l (gate_value g))

-- a formula with the gates that it keeps
pub record IsKept {S : Type 0} (f : Cnf) (kept : HashMap Gate Lit S) : Type 0 where
  pub well_formed : WellFormed f
  pub gates : AreGates f kept
