-- The names of a module and of a job, as their numbers count them.
use Rattle.std.specs.Prelude.{◌≡◌, not, List, ◌++◌, filter}
use Rattle.tla_meaning.specs.declared.expr.Decl.{Decl}
use Rattle.tla_meaning.specs.declared.job.Job.{Job}
use Rattle.tla_meaning.specs.declared.modules.Flat.{Flat}

-- constants first, then variables, each kind in order of declaration
abbrev pub in_state_order : List Decl → List Decl
in_state_order ds = filter (λ d. d.constant) ds ++ filter (λ d. not d.constant) ds

-- what the number of a declared name in the trees of a flat module counts
abbrev pub names_of : Flat → List Decl
names_of flat = in_state_order flat.decls

-- the names of a job stand so
pub record IsJob (job : Job) : Type 0 where
  pub names : job.names ≡ in_state_order job.names
