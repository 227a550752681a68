use Rattle.std.proofs.Common.{◌∙◌, sym, ap, subst, drop, arith}
use Rattle.std.specs.Prelude.{◌==◌}
use Rattle.std.proofs.lemmas.List.{take_rest}
use Rattle.tla_values.specs.Names.{is_letter}
use Rattle.tla_lexer.specs.Classes.{BeginsWith}
use Rattle.tla_lexer.specs.Pieces.{begins_octal}
use Rattle.tla_lexer.proofs.Fronts.{StartsIn-some}
use Rattle.tla_lexer.proofs.Backslashes.{symbolic_backslash, short_backslash}
use Rattle.tla_lexer.proofs.WordsBehind.{word_found, octal_found, no_octal}
use Rattle.tla_lexer.proofs.longest.backslash.Goals as goal

pub symbol-requires : goal.symbol-requires
symbol-requires c =
    let bytes = c.args.bytes.now in
    let run : BeginsWith is_letter (drop 1 bytes) 0 =
    subst (λ t. BeginsWith is_letter t 0) (take_rest bytes 1)
    (subst (BeginsWith is_letter _) c.if-letters-eq0.true c.run_length-letters.ensures) in
    record {
      some = StartsIn-some (λ b. b == 92) bytes c.requires;
      symbolic = symbolic_backslash bytes c.requires (sym c.begins_with_pair.ensures ∙ c.if-begins_with_pair.false) run;
      short = short_backslash bytes c.requires run;
    }

pub returns-then-begins_octal : goal.returns-then-begins_octal
returns-then-begins_octal c =
    octal_found c.args.bytes.now c.requires (ap begins_octal (sym (take_rest c.args.bytes.now 1)) ∙ sym c.begins_octal.ensures ∙ c.if-begins_octal.true)

pub returns : goal.returns
returns c =
    let bytes = c.args.bytes.now in
    let run : BeginsWith is_letter (drop 1 bytes) c.run_length-letters.result = subst (λ t. BeginsWith is_letter t c.run_length-letters.result) (take_rest bytes 1) c.run_length-letters.ensures in
    let none = no_octal (drop 1 bytes) (ap begins_octal (sym (take_rest bytes 1)) ∙ sym c.begins_octal.ensures ∙ c.if-begins_octal.false) in
    word_found bytes _ _ c.requires run (omega arith) none c.in_ok-piece.ensures
