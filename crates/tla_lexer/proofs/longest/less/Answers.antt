use Rattle.std.proofs.Common.{subst}
use Rattle.std.specs.Prelude.{◌==◌}
use Rattle.std.proofs.lemmas.List.{take_rest}
use Rattle.tla_lexer.specs.Pieces.{HasNoStep, IsStepLength}
use Rattle.tla_lexer.proofs.Fronts.{StartsIn-some}
use Rattle.tla_lexer.proofs.Steps.{step_piece_found, symbolic_less, short_less}
use Rattle.tla_lexer.proofs.longest.less.Goals as goal

pub symbol-requires : goal.symbol-requires
symbol-requires c =
    let bytes = c.args.bytes.now in
    record {
      some = StartsIn-some (λ b. b == 60) bytes c.requires;
      symbolic = symbolic_less bytes c.requires (subst HasNoStep (take_rest bytes 1) c.in-None.ensures.none);
      short = short_less bytes c.requires;
    }

pub returns-in-Some : goal.returns-in-Some
returns-in-Some c =
    step_piece_found c.args.bytes.now _ c.requires (subst (λ t. IsStepLength t c.in-Some.length) (take_rest c.args.bytes.now 1) c.in-Some.ensures.found)
