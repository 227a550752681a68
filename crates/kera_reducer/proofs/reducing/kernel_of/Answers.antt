use Rattle.std.proofs.Common.{rules, ◌≡◌, ◌∙◌, ℕ, List, Some, [], ap, drop, map, subst}
use Rattle.tla_meaning.specs.declared.expr.Decl.{Decl}
use Rattle.tla_meaning.specs.declared.expr.Expr.{Expr}
use Rattle.snowcat_types.specs.Systems.{parts_of}
use Rattle.kernel_trees.specs.declared.action_kind.ActionKind.TheVariants as action
use Rattle.kernel_trees.specs.declared.system.KerJob.{KerJob}
use Rattle.kernel_trees.specs.ActionNames.{assignable_in, constants}
use Rattle.kernel_trees.specs.Systems.{parts}
use Rattle.kernel_reduction.specs.BuildsTyped.{BuildsTyped}
use Rattle.kernel_reduction.specs.SoundLaws.{AllBuilt, positions}
use Rattle.kera_reducer.specs.inner.Parts.{ArePartsBuilt}
use Rattle.kera_reducer.proofs.PartsMade.{all_in_position, four_first, rest_whole}
use Rattle.kera_reducer.proofs.reducing.kernel_of.Goals as goal

pub returns : goal.returns
returns c =
    let job = c.args.job.now in
    let all = c.as_slice.result.now in
    let a = c.of_cinit-item.result in
    let b = c.of_assume-item.result in
    let d = c.of_init-item.result in
    let e = c.of_next-item.result in
    let names = c.as_slice-names.ensures in
    let four = four_first all a b d e c.in-len4-up.len_at_least c.of_cinit-item.is c.of_assume-item.is c.of_init-item.is
    c.of_next-item.is ∙ c.as_slice.ensures in
    let in_cinit = c.marks_of-in_cinit.ensures.assignable ∙ ap (λ ns. assignable_in action.Constants (constants ns)) names in
    let in_init = c.marks_of-in_init.ensures.assignable ∙ ap (λ ns. assignable_in action.Start (constants ns)) names in
    let in_next = c.marks_of-in_next.ensures.assignable ∙ ap (λ ns. assignable_in action.Step (constants ns)) names in
    let kernel : KerJob = record {
      names = c.in_ok-types.types;
      fixed = c.in_ok-fixed.fixed;
      texts = c.in_ok-texts.texts;
      cinit = c.in_ok-cinit.cinit;
      assume = c.in_ok-assume.assume;
      init = c.in_ok-init.init;
      next = c.in_ok-next.next;
      invs = c.in_ok-invs.invs;
    } in
    let types : c.in_ok-types.types ≡ c.args.typed.now.names = search rules in
    let fixed : c.in_ok-fixed.fixed ≡ map (λ (n : Decl). n.constant) job.names = search rules in
    let invs : ArePartsBuilt (map (λ (v : List ℕ × Expr). v.1) job.invs) (drop 4 all) c.in_ok-invs.invs =
    subst (λ z. ArePartsBuilt (map (λ v. v.1) z) (drop 4 all) c.in_ok-invs.invs) c.as_slice-tested.ensures
    (subst (λ z. ArePartsBuilt (map (λ v. v.1) c.as_slice-tested.result.now) z c.in_ok-invs.invs) (rest_whole 4 all)
    c.in_ok-invs.ensures) in
    record {
      names = types;
      fixed = fixed;
      texts = c.in_ok-texts.ensures;
      parts = subst (λ z. AllBuilt (positions job) (parts_of job) z (parts kernel)) four
          (all_in_position job a b d e (drop 4 all) kernel
          (subst (λ z. BuildsTyped (Some z) [] job.cinit a c.in_ok-cinit.cinit []) in_cinit c.in_ok-cinit.ensures)
          c.in_ok-assume.ensures
          (subst (λ z. BuildsTyped (Some z) [] job.init d c.in_ok-init.init []) in_init c.in_ok-init.ensures)
          (subst (λ z. BuildsTyped (Some z) [] job.next e c.in_ok-next.next []) in_next c.in_ok-next.ensures)
          invs);
      well_formed = search rules;
    }
