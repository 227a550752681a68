use Rattle.std.proofs.Common.{subst, sym, ap, ◌∙◌, drop}
use Rattle.std.proofs.lemmas.List.{take_rest}
use Rattle.tla_lexer.specs.inner.Texts.{StandsFor}
use Rattle.tla_lexer.proofs.TextLemmas.{InText, in_text_start, in_text_on, text_found, text_fails}
use Rattle.tla_lexer.proofs.texts.longest_text.Goals as goal

pub units-init : goal.units-init
units-init c = rw c.new-text.ensures.items (in_text_start _)

pub units-preserved : goal.units-preserved
units-preserved c =
    rw c.in_ok-push-in-Stands.ensures.items
    (in_text_on _ _ _ _ _ c.units.invariant (subst (λ t. StandsFor t c.in-Stands.byte c.in-Stands.length) (take_rest _ c.units.at) c.in-Stands.ensures))

pub returns-in-Closes : goal.returns-in-Closes
returns-in-Closes c =
    let bytes = c.args.bytes.now in
    let behind = c.in-Closes.ensures in
    rw c.from_vec.ensures
    (text_found bytes _ behind.0 _ c.requires (subst (λ t. InText t c.units.text.items c.units.at) (take_rest bytes 1) c.units.invariant)
    (ap (drop c.units.at) (sym (take_rest bytes 1)) ∙ sym (take_rest _ c.units.at) ∙ behind.1))

pub returns-in-Fails : goal.returns-in-Fails
returns-in-Fails c =
    let bytes = c.args.bytes.now in
    text_fails bytes _ _ c.requires (subst (λ t. InText t c.units.text.items c.units.at) (take_rest bytes 1) c.units.invariant)
    (λ front behind e. c.in-Fails.ensures front behind (take_rest _ c.units.at ∙ ap (drop c.units.at) (take_rest bytes 1) ∙ e))
