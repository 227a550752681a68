use Rattle.std.proofs.Common.{ap, ◌∙◌, sym}
use Rattle.snowcat_rows.specs.Types.{mean}
use Rattle.snowcat_rows.specs.inner.Rounds.{never}
use Rattle.snowcat_rows.specs.Codes.{has, bindings_of}
use Rattle.snowcat_rows.proofs.Means.{mean-Var}
use Rattle.snowcat_rows.proofs.Distinct.{rec_parts}
use Rattle.snowcat_rows.proofs.Roots.{not_var, not_rec}
use Rattle.snowcat_rows.proofs.Steps.{type_right, rec_is, for_records, begins_same}
use Rattle.snowcat_rows.proofs.bindings.advance.Goals as goal

pub advance_rows-requires : goal.advance_rows-requires
advance_rows-requires c =
    let ex = rec_is c.args.x.now c.in-Rec.fs c.as_slice.result.now c.in-Rec.k c.in-Rec.is c.as_slice.ensures in
    let ey = rec_is c.args.y.now c.in-Rec-y.gs c.as_slice-in-Rec-y.result.now c.in-Rec-y.j c.in-Rec-y.is c.as_slice-in-Rec-y.ensures in
    record {
      common = c.requires.at_once.records (has c.as_slice.result.now) (has c.as_slice-in-Rec-y.result.now) c.in-Rec.k c.in-Rec-y.j ex ey;
      unequal = λ e. c.requires.at_once.unequal (ex ∙ e ∙ sym ey);
    }

pub bind_later-requires : goal.bind_later-requires
bind_later-requires c = record { first = ap mean c.in-Var.is ∙ mean-Var c.in-Var.v; unequal = c.requires.at_once.unequal }

pub returns-in_ok-bound-in-Var-y : goal.returns-in_ok-bound-in-Var-y
returns-in_ok-bound-in-Var-y c = record {
  prefix = c.bind_type.ensures.prefix;
  ok = type_right (mean c.args.x.now) (mean c.args.y.now) c.in-Var-y.w c.args.issued.now (bindings_of c.args.bindings.now.items) _ c.requires.at_once.unequal (ap mean c.in-Var-y.is ∙ mean-Var c.in-Var-y.w)
      c.in_ok-bound-in-Var-y.bound c.in_ok-bound-in-Var-y.ensures.ok;
  named = λ a h k. c.in_ok-bound-in-Var-y.ensures.named a h;
}

pub returns-in_ok-bound-in-Rec-y : goal.returns-in_ok-bound-in-Rec-y
returns-in_ok-bound-in-Rec-y c =
    let ex = rec_is c.args.x.now c.in-Rec.fs c.as_slice.result.now c.in-Rec.k c.in-Rec.is c.as_slice.ensures in
    let ey = rec_is c.args.y.now c.in-Rec-y.gs c.as_slice-in-Rec-y.result.now c.in-Rec-y.j c.in-Rec-y.is c.as_slice-in-Rec-y.ensures in
    record {
      prefix = c.advance_rows.ensures.prefix;
      ok = for_records (mean c.args.x.now) (mean c.args.y.now) _ _ c.args.issued.now _ (bindings_of c.args.bindings.now.items) _ c.in_ok-bound-in-Rec-y.bound ex ey c.in_ok-bound-in-Rec-y.ensures.ok;
      named = λ a h k.
          c.in_ok-bound-in-Rec-y.ensures.named a (rec_parts c.args.x.now c.in-Rec.fs c.as_slice.result.now c.in-Rec.k c.in-Rec.is c.as_slice.ensures h)
          (rec_parts c.args.y.now c.in-Rec-y.gs c.as_slice-in-Rec-y.result.now c.in-Rec-y.j c.in-Rec-y.is c.as_slice-in-Rec-y.ensures k);
    }

pub returns-in_default-y-2 : goal.returns-in_default-y-2
returns-in_default-y-2 c = record {
  prefix = begins_same c.args.bindings.now.items;
  ok = never (c.requires.apart (not_var c.args.x.now c.in_default.not-Var) (not_var c.args.y.now c.in_default-y.not-Var) (λ p q. not_rec c.args.y.now c.in_default-y-2.not-Rec q));
  named = λ a h k. a;
}

pub returns-in_default-x : goal.returns-in_default-x
returns-in_default-x c = record {
  prefix = begins_same c.args.bindings.now.items;
  ok = never (c.requires.apart (not_var c.args.x.now c.in_default.not-Var) (not_var c.args.y.now c.in_default-y.not-Var) (λ p q. not_rec c.args.x.now c.in_default-x.not-Rec p));
  named = λ a h k. a;
}
