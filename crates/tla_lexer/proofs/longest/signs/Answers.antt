use Rattle.std.proofs.Common.{◌<◌, ◌∙◌, ap, arith, subst}
use Rattle.tla_lexer.specs.declared.pieces.Piece.TheVariants.{Lexeme}
use Rattle.tla_lexer.specs.Classes.{is_in, BeginsWith}
use Rattle.tla_lexer.proofs.Fronts.{StartsIn-some, some_run}
use Rattle.tla_lexer.proofs.Signs.{sign_facts, many_signs, few_signs}
use Rattle.tla_lexer.proofs.longest.signs.Goals as goal
use Rattle.tla_lexer.proofs.longest.signs.Goals.{then-length-ge4, else-length-ge4+in_ok-piece}

pub symbol-requires : goal.symbol-requires
symbol-requires c =
    let sign = is_in c.args.sign in
    let bytes = c.args.bytes.now in
    let facts = sign_facts c.args.sign bytes c.requires.sign c.requires.starts in
    record {
      some = StartsIn-some sign bytes c.requires.starts;
      symbolic = facts.alone (subst (BeginsWith sign bytes) c.if-length-eq1.true c.run_length-length.ensures);
      short = facts.short;
    }

pub returns : goal.returns
returns c =
    let facts = sign_facts c.args.sign c.args.bytes.now c.requires.sign c.requires.starts in
    let some = some_run (is_in c.args.sign) c.args.bytes.now _ c.requires.starts c.run_length-length.ensures in
    let more : 1 < c.run_length-length.result = omega arith in
    facts.more _ _ c.run_length-length.ensures more
    (elim c.if-length-ge4.branch [
      | then-length-ge4 w ↦ w.piece-is ∙ ap Lexeme w.run_token.ensures ∙ many_signs _ _ _ w.if-length-ge4.true
      | else-length-ge4+in_ok-piece w ↦ w.piece-is ∙ few_signs _ _ _ _ w.if-length-ge4.false w.in_ok-piece.ensures
    ])
