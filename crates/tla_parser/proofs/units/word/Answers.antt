use Rattle.std.proofs.Common.{◌≡◌, ◌∙◌, ap, subst, rules, IfOk, List, ℕ, Option}
use Rattle.tla_parser.specs.Trees.{name_of}
use Rattle.tla_parser.specs.Modules.{word_token}
use Rattle.tla_parser.proofs.units.word.Goals as goal

pub returns : goal.returns
returns c =
    let k : c.in_ok-kind.kind ≡ c.args.token.kind = search (rules, c.in_ok-kind.ensures) in
    subst (λ (n : Option (List ℕ)). IfOk c.word_token.result (λ u. u ≡ word_token n c.args.token c.args.read)) (c.name_of.ensures ∙ ap name_of k) c.word_token.ensures
