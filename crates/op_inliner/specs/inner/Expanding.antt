-- What is kept of a module while its definitions are expanded.
use Rattle.std.specs.Prelude.{◌≡◌, ℕ, Bool, IsTrue, List, [], filter, length, not, if◌then◌else◌}
use Rattle.tla_meaning.specs.declared.expr.Decl.{Decl}
use Rattle.tla_meaning.specs.declared.expr.Expr.{Expr}
use Rattle.op_inliner.specs.declared.expanding.Module.{Module}
use Rattle.op_inliner.specs.declared.parts.PartKind.{PartKind}
use Rattle.tla_meaning.specs.declared.op.Op.TheVariants as op
use Rattle.op_inliner.specs.Expansion.{at_first, finish}
use Rattle.op_inliner.specs.Inlining.{names_of_module, written}
use Rattle.op_inliner.specs.Known.{are_known}
use Rattle.op_inliner.specs.inner.Bodies.{bodies_of}
use Rattle.op_inliner.specs.inner.Sums.{definitions_sums, scope_of}

-- a module with what its definitions stand for, what they count and the number of its constants
pub record IsReady (m : Module) : Type 0 where
  pub known : IsTrue (are_known m.flat.now)
  pub bodies : m.bodies.now ≡ bodies_of m.flat.now.defs
  pub counts : scope_of m.counts.now ≡ definitions_sums m.flat.now.defs []
  pub constants : m.constants ≡ length (filter (λ (d : Decl). d.constant) m.flat.now.decls)

-- what an expression of the module becomes
abbrev pub finished : Module → PartKind → Expr → Expr
finished m kind e = finish kind m.flat.now (written e (names_of_module m.flat.now) 0)

-- the use of a name, where no module wrote it
abbrev pub use_of : List ℕ → Expr
use_of x = at_first (op.Use x) []

-- the constants, or the variables
abbrev pub kind_of : Bool → List Decl → List Decl
kind_of b ds = if b then filter (λ d. d.constant) ds else filter (λ d. not d.constant) ds
