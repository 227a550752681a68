use Rattle.std.proofs.Common.{◌≡◌, true}
use Rattle.snowcat_rows.specs.Types.{mean}
use Rattle.snowcat_rows.specs.Chains.{solved}
use Rattle.snowcat_rows.specs.inner.Measures.{open_count}
use Rattle.snowcat_rows.specs.inner.Naming.{are_named}
use Rattle.snowcat_rows.specs.inner.Stores.{IsFurther, IsNamed, bound_in}
use Rattle.snowcat_rows.proofs.Searching.{Searching}
use Rattle.snowcat_rows.proofs.substitution.Store.solve.Given as goal

abbrev pub invariant-search : goal.invariant-search
invariant-search l =
    Searching l.initial.self.issued l.self.issued (bound_in l.initial.self) (bound_in l.self) (mean l.a) (mean l.b)
    × IsFurther l.initial.self l.self
    × (mean l.left ≡ solved (bound_in l.self) (mean l.a))
    × (mean l.right ≡ solved (bound_in l.self) (mean l.b))
    × (are_named l.left l.right ≡ true)
    × IsNamed l.self

abbrev pub decreases-search : goal.decreases-search
decreases-search l = open_count l.initial.self.issued l.self.issued (bound_in l.self)
