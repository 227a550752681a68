use Rattle.std.proofs.Common.{◌∷◌, [], refl}
use Rattle.snowcat_rows.specs.Types.{var}
use Rattle.snowcat_rows.specs.Views.{issued_of}
use Rattle.snowcat_types.specs.declared.kinds.Kind.TheVariants.{Sequence}
use Rattle.snowcat_types.specs.Requirements.{Equal}
use Rattle.snowcat_types.specs.TypeForms.{seq_type, set_type, int_type}
use Rattle.snowcat_types.specs.Waiting.{all_equal, items_from}
use Rattle.snowcat_types.specs.inner.Gathered.{requirements_of}
use Rattle.snowcat_types.proofs.Tied.{built_below, domain_below, domain_chosen, is_chosen, sequence_below}
use Rattle.snowcat_types.proofs.choosing.choose_sequence.Goals as goal

pub tie-requires-in-Domain : goal.tie-requires-in-Domain
tie-requires-in-Domain c = record {
  within =
      built_below (λ v. requirements_of v.items) c.number_domain.result (issued_of c.args.subst.now) _ c.number_domain.ensures
      (domain_below int_type c.in-Domain.is (λ n. tt) (issued_of c.args.subst.now) c.requires.within);
}

pub returns-in-Domain-clause-tried : goal.returns-in-Domain-clause-tried
returns-in-Domain-clause-tried c =
    let asked = Equal (set_type int_type) (var c.in-Domain.domain) ∷ [] in
    domain_chosen Sequence asked c.args.subst.now c.tie-in-Domain.new.subst c.tie-in-Domain.result c.in-Domain.is refl (λ e. absurd (cc)) (λ e. absurd (cc)) c.requires.due
    (c.tie-in-Domain.ensures.tied c.args.wait.now asked c.number_domain.ensures (domain_below int_type c.in-Domain.is (λ n. tt)))

pub tie-requires-in-Tuple : goal.tie-requires-in-Tuple
tie-requires-in-Tuple c = record {
  within =
      built_below (λ v. requirements_of v.items) c.sequence_tied.result (issued_of c.args.subst.now) _ c.sequence_tied.ensures
      (sequence_below c.in-Tuple.is (issued_of c.args.subst.now) c.requires.within);
}

pub returns-in-Tuple-clause-tried : goal.returns-in-Tuple-clause-tried
returns-in-Tuple-clause-tried c =
    let asked = Equal (var c.in-Tuple.whole) (seq_type (var c.in-Tuple.item)) ∷ all_equal (var c.in-Tuple.item) (items_from c.in-Tuple.first c.in-Tuple.count) in
    is_chosen Sequence asked c.args.subst.now c.tie-in-Tuple.new.subst c.tie-in-Tuple.result c.in-Tuple.is refl
    (c.tie-in-Tuple.ensures.tied c.args.wait.now asked c.sequence_tied.ensures (sequence_below c.in-Tuple.is))
