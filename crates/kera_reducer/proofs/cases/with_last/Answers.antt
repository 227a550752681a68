use Rattle.std.proofs.Common.{rules, ◌≡◌, ◌∙◌, ◌++◌, ◌∷◌, []}
use Rattle.snowcat_rows.specs.declared.types.Ty.TheVariants as ty
use Rattle.kernel_reduction.specs.Rows.{case_branches}
use Rattle.kera_reducer.proofs.CaseArms.{last_arm}
use Rattle.kera_reducer.proofs.cases.with_last.Goals as goal

pub returns : goal.returns
returns c =
    let p = c.args.made.now.place in
    let found = c.in_ok-front.field-0 in
    let pushed : c.push.new.self.items ≡ found.branches.items ++ c.in_ok-last.last ∷ [] = search rules in
    let last : case_branches p ty.Bool found.front.items [] c.args.other ≡ c.in_ok-last.last ∷ [] = search rules in
    pushed
    ∙ last_arm p found.branches.items found.front.items c.in_ok-last.last c.args.arms.items c.args.other
    (c.in_ok-front.ensures [] c.args.other) last
