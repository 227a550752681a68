-- Trees in the place of names.
use Rattle.std.specs.Prelude.{◌≡◌, ℕ, Bool, true, not, ◌&&◌, IsTrue, List, ◌++◌, map, length, Option, Some, None}
use Rattle.std.specs.List.{list_all}
use Rattle.tla_meaning.specs.declared.op.Op.{Op}
use Rattle.tla_meaning.specs.declared.expr.Expr.{Expr, roll-Expr}
use Rattle.tla_meaning.specs.declared.expr.Expr.TheOpen.{Expr-F}
use Rattle.tla_meaning.specs.declared.expr.Expr.TheFolds.{fold-Expr}
use Rattle.tla_meaning.specs.Numbers.{Width}
use Rattle.tla_meaning.specs.Scopes.{Scope, find_last}
use Rattle.tla_meaning.specs.Meaning.{Role, Named, Held, Lets, Plain_role, role}
use Rattle.tla_meaning.specs.Actions.{meaning}
use Rattle.tla_meaning.specs.FreeNames.{closed}

-- ---- a test of each node

-- of an operator and the names that stand at its node
abbrev pub Test : Type 0
Test = Op → List (List ℕ) → Bool

abbrev pub each : Test → Expr → Bool
each test = fold-Expr Bool (λ x. test x.op x.binds && list_all (λ b. b) x.args)

-- ---- no name of a set is captured

-- no name of the set is among these
abbrev pub apart : (List ℕ → Bool) → List (List ℕ) → Bool
apart S xs = list_all (λ x. not (S x)) xs

-- a LET defines no name of the set
abbrev pub lets_apart : (List ℕ → Bool) → Role → Bool
lets_apart S (Lets ds) = list_all (λ d. not (S d.0)) ds
lets_apart S (Named x) = true
lets_apart S (Held x) = true
lets_apart S (Plain_role ms) = true

-- a node binds and defines no name of a set
abbrev pub binds_apart : (List ℕ → Bool) → Test
binds_apart S o xs = lets_apart S (role o (length xs)) && apart S xs

-- ---- substitution

-- names, each with its tree; of two with the same name the last one counts
abbrev pub Given : Type 0
Given = List (List ℕ × Expr)

-- the tree for a node, where it is a use of a name that is given one; bound names are left alone
abbrev pub target : Given → Role → Option Expr
target σ (Named x) = find_last x σ
target σ (Held x) = None
target σ (Lets ds) = None
target σ (Plain_role ms) = None

abbrev pub replaced : Option Expr → Expr-F Expr → Expr
replaced None x = roll-Expr x
replaced (Some e) x = e

-- the tree with the tree of each name at its uses
abbrev pub put : Given → Expr → Expr
put σ = fold-Expr Expr (λ x. replaced (target σ (role x.op (length x.binds))) x)

-- the names replaced and the free names of their trees lie in a set
pub record Within (S : List ℕ → Bool) (σ : Given) : Type 0 where
  pub names : (x : List ℕ) (e : Expr) → find_last x σ ≡ Some e → IsTrue (S x)
  pub trees : (x : List ℕ) (e : Expr) → find_last x σ ≡ Some e → IsTrue (closed S e S)

-- the scope in which each name stands for what its tree means
abbrev pub give : Width → Given → Scope → Scope
give w σ sc = record sc { named = sc.named ++ map (λ g. (g.0, λ _. meaning w g.1 sc)) σ }
