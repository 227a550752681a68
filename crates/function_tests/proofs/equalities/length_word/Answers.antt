use Rattle.std.proofs.Common.{◌≡◌, rules, pos}
use mir.Val.{to_z, of_z}
use mir.Syntax.{w128}
use Rattle.std.proofs.lemmas.Int.{to_z-of_z}
use Rattle.function_tests.proofs.Shaped.{exact-count}
use Rattle.function_tests.proofs.equalities.length_word.Goals as goal

pub returns-clause-value : goal.returns-clause-value
returns-clause-value c =
    let e : to_z w128 (of_z w128 (pos c.args.count)) ≡ pos c.args.count = search (rules, to_z-of_z) in
    exact-count _ _ _ _ c.args.count c.in_ok-word.ensures.exact e c.requires
