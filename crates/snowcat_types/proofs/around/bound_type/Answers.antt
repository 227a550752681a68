use Rattle.std.proofs.Common.{◌≡◌, ◌∙◌, ◌+◌, ◌-◌, ◌<◌, ap, arith, length, sym, take}
use Rattle.tla_meaning.specs.Scopes.{find_last, same_text}
use Rattle.snowcat_rows.specs.FieldNames.{names_differ}
use Rattle.snowcat_rows.specs.Types.{mean}
use Rattle.snowcat_rows.proofs.Naming.{differ-Bool}
use Rattle.snowcat_types.proofs.NamedSteps.{scope_at_named}
use Rattle.snowcat_types.specs.TypeForms.{bool_type}
use Rattle.snowcat_types.specs.Rows.{or_type}
use Rattle.snowcat_types.specs.inner.Built.{scope_of}
use Rattle.snowcat_types.proofs.FormSteps.{entry_at, chosen_if, other_if}
use Rattle.snowcat_types.proofs.around.bound_type.Goals as goal

pub returns-then-same_name-clause-mean : goal.returns-then-same_name-clause-mean
returns-then-same_name-clause-mean c =
    let up : c.loop-i.i ≡ (c.loop-i.i - 1) + 1 = let h = c.loop-i-test.true in omega (arith, h) in
    let lt : c.loop-i.i - 1 < length c.args.bound.now = let h = c.loop-i.invariant.within in let k = c.loop-i-test.true in omega (arith, h, k) in
    ap mean c.in_ok-of.ensures
    ∙ sym (ap (λ z. or_type z bool_type)
    (sym c.loop-i.invariant.same
    ∙ entry_at c.args.name.now c.args.bound.now (c.loop-i.i - 1) c.loop-i.i c.index-bound-i.result up lt c.index-bound-i.is
    ∙ chosen_if (same_text c.args.name.now c.index-bound-i.result.0) (mean c.index-bound-i.result.1)
    (find_last c.args.name.now (scope_of (take (c.loop-i.i - 1) c.args.bound.now))) (sym c.if-same_name.ensures)))

pub loop-i-preserved : goal.loop-i-preserved
loop-i-preserved c =
    let up : c.loop-i.i ≡ (c.loop-i.i - 1) + 1 = let h = c.loop-i-test.true in omega (arith, h) in
    let lt : c.loop-i.i - 1 < length c.args.bound.now = let h = c.loop-i.invariant.within in let k = c.loop-i-test.true in omega (arith, h, k) in
    record {
      within = let h = c.loop-i.invariant.within in omega (arith, h);
      same =
          sym (entry_at c.args.name.now c.args.bound.now (c.loop-i.i - 1) c.loop-i.i c.index-bound-i.result up lt c.index-bound-i.is
          ∙ other_if (same_text c.args.name.now c.index-bound-i.result.0) (mean c.index-bound-i.result.1)
          (find_last c.args.name.now (scope_of (take (c.loop-i.i - 1) c.args.bound.now))) (sym c.if-same_name.ensures))
          ∙ c.loop-i.invariant.same;
    }

pub returns-then-same_name-clause-named : goal.returns-then-same_name-clause-named
returns-then-same_name-clause-named c = λ h.
    let lt : c.loop-i.i - 1 < length c.args.bound.now = let h = c.loop-i.invariant.within in let k = c.loop-i-test.true in omega (arith, h, k) in
    ap names_differ c.in_ok-of.ensures ∙ scope_at_named c.args.bound.now (c.loop-i.i - 1) c.index-bound-i.result lt c.index-bound-i.is h

pub returns-clause-named : goal.returns-clause-named
returns-clause-named c = λ h. differ-Bool
