use Rattle.std.proofs.Common.{sym, ◌∙◌}
use Rattle.std.specs.Prelude.{◌==◌}
use Rattle.tla_lexer.proofs.Fronts.{StartsIn-some}
use Rattle.tla_lexer.proofs.Backslashes.{symbolic_parenthesis, short_parenthesis}
use Rattle.tla_lexer.proofs.longest.parenthesis.Goals as goal

pub symbol-requires : goal.symbol-requires
symbol-requires c =
    let bytes = c.args.bytes.now in
    record {
      some = StartsIn-some (λ b. b == 40) bytes c.requires;
      symbolic = symbolic_parenthesis bytes c.requires (sym c.begins_with_pair.ensures ∙ c.if-begins_with_pair.false);
      short = short_parenthesis bytes c.requires;
    }
