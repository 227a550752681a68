use Rattle.std.proofs.Common.{ap, sym, ◌∙◌, refl}
use Rattle.snowcat_rows.specs.Types.{mean}
use Rattle.snowcat_rows.specs.Chains.{solved}
use Rattle.snowcat_rows.specs.Codes.{bindings_of}
use Rattle.snowcat_rows.specs.inner.Stores.{bound_in}
use Rattle.snowcat_rows.proofs.Steps.{begins_same}
use Rattle.snowcat_rows.proofs.Searching.{at_first, differ_at, round, unmade, begins_more}
use Rattle.snowcat_rows.proofs.Stores.{found}
use Rattle.snowcat_rows.specs.FieldNames.{names_differ}
use Rattle.snowcat_rows.specs.inner.Naming.{all_bound_named, round_named}
use Rattle.snowcat_rows.proofs.Distinct.{both, named_parts}
use Rattle.snowcat_rows.proofs.substitution.Store.solve.Goals as goal

pub search-init : goal.search-init
search-init c = (
  at_first c.args.self.now.issued (bound_in c.args.self.now) (mean c.args.a.now) (mean c.args.b.now) c.requires.sound.0 c.requires.sound.1.0,
  (begins_same c.args.self.now.bindings.items, refl),
  c.in_ok-left.ensures.mean ∙ ap (λ l. solved (bindings_of l) (mean c.args.a.now)) c.as_slice.ensures.value,
  c.in_ok-right.ensures.mean ∙ ap (λ l. solved (bindings_of l) (mean c.args.b.now)) c.as_slice-2.ensures.value,
  both (names_differ c.in_ok-left.left) (names_differ c.in_ok-right.right)
      (c.in_ok-left.ensures.named (ap all_bound_named c.as_slice.ensures.value ∙ c.requires.sound.1.1.1) (named_parts c.args.a.now c.args.b.now c.requires.named).0)
      (c.in_ok-right.ensures.named (ap all_bound_named c.as_slice-2.ensures.value ∙ c.requires.sound.1.1.1) (named_parts c.args.a.now c.args.b.now c.requires.named).1),
  c.requires.sound.1.1.1,
)

pub returns-in-Ok-Equal-clause-solved : goal.returns-in-Ok-Equal-clause-solved
returns-in-Ok-Equal-clause-solved c =
    let h = rw c.in-Ok-Equal.field-0-is at c.in-Ok-Equal.ensures.ok in
    found c.args.self.now c.search.self c.run_round.new.self (mean c.args.a.now) (mean c.args.b.now) c.search.invariant.0 c.requires.within c.requires.sound.0
    (sym c.search.invariant.2 ∙ h.0 ∙ c.search.invariant.3) h.1.0 h.1.1
    (c.in-Ok-Equal.ensures.named c.search.invariant.5 c.search.invariant.4).1

pub returns-in-Ok-Differs-clause-solved : goal.returns-in-Ok-Differs-clause-solved
returns-in-Ok-Differs-clause-solved c =
    let h = rw c.in-Ok-Differs.field-0-is at c.in-Ok-Differs.ensures.ok in
    unmade c.args.self.now.issued c.search.self.issued (bound_in c.args.self.now) (bound_in c.search.self) (mean c.args.a.now) (mean c.args.b.now) c.search.invariant.0
    c.requires.within.0 c.requires.within.1 c.requires.sound.0 _ _ (differ_at _ _ _ _ _ _ c.search.invariant.2 c.search.invariant.3 h.0) h.1

pub search-smaller : goal.search-smaller
search-smaller c =
    let h = rw c.in-Ok-More.field-0-is at c.in-Ok-More.ensures.ok in
    (round _ _ _ _ _ _ c.search.invariant.0 c.requires.within.0 c.requires.within.1 _ _ c.search.invariant.2 c.search.invariant.3 _ _ _ _ h).fewer

pub search-preserved : goal.search-preserved
search-preserved c =
    let h = rw c.in-Ok-More.field-0-is at c.in-Ok-More.ensures.ok in
    let f = round _ _ _ _ _ _ c.search.invariant.0 c.requires.within.0 c.requires.within.1 _ _ c.search.invariant.2 c.search.invariant.3 _ _ _ _ h in (
      f.searching,
      (begins_more _ _ _ c.search.invariant.1.0 c.run_round.ensures.further.0, c.run_round.ensures.further.1 ∙ c.search.invariant.1.1),
      f.left,
      f.right,
      ap round_named (sym c.in-Ok-More.field-0-is) ∙ (c.in-Ok-More.ensures.named c.search.invariant.5 c.search.invariant.4).0,
      (c.in-Ok-More.ensures.named c.search.invariant.5 c.search.invariant.4).1,
    )
