use Rattle.std.proofs.Common.{List, length, ◌<◌, ◌≡◌, ◌∙◌, ap, sym, subst, arith, reverse, Some}
use Rattle.tla_lexer.specs.declared.token.Token.{Token as Tok}
use Rattle.tla_parser.specs.Grammar.{AreSpelled, SpelledWithin}
use Rattle.tla_parser.specs.Written.{Parts}
use Rattle.tla_parser.proofs.Answered.{end_so, named_once, named_twice, reached}
use Rattle.tla_parser.specs.declared.open.Open.{Open}
use Rattle.tla_parser.specs.inner.Refusals.{IsEnd, IsReading, IsStanding}
use Rattle.tla_parser.specs.inner.Standings.{standing}
use Rattle.tla_parser.specs.inner.Recognition.{outcome_mode}
use Rattle.tla_parser.proofs.Top.{noted_so, one_spelling, reached_deep, reached_module, reached_none, reached_repeats, reached_within, refusal_so}
use Rattle.tla_parser.proofs.parsing.parse.Goals as goal

pub returns-in-None-clause-fault : goal.returns-in-None-clause-fault
returns-in-None-clause-fault c =
    let i0 : IsReading c.as_slice-source.result.now c.in_ok-mode.mode c.read_all.new.reading = c.in_ok-mode.ensures c.in_ok-reading.ensures in
    let e0 : IsEnd c.as_slice-source.result.now c.what_stands-end.result = end_so c.as_slice-source.result.now c.in_ok-mode.mode c.read_all.new.reading c.what_stands-end.result i0 (c.what_stands-end.ensures ∙ ap (λ (xs : List Open). standing c.in_ok-mode.mode (reverse xs)) c.as_slice.ensures.value) in
    let s : IsStanding c.in_ok-refusal-in-None.field-0 c.args.tokens.now = subst (IsStanding c.in_ok-refusal-in-None.field-0) c.as_slice-source.ensures
    (c.in_ok-refusal-in-None.ensures (subst (λ (ts : List Tok). 0 < length ts) (sym c.as_slice-source.ensures) c.requires) e0 i0.kept) in
    let i : IsReading c.args.tokens.now c.in_ok-mode.mode c.read_all.new.reading = subst (λ (ts : List Tok). IsReading ts c.in_ok-mode.mode c.read_all.new.reading) c.as_slice-source.ensures i0 in
    refusal_so c.in_ok-refusal-in-None.field-0 c.args.tokens.now s
    (reached_none c.args.tokens.now (reached c.args.tokens.now c.in_ok-mode.mode c.read_all.new.reading i) (sym c.outcome.ensures ∙ c.in-None.is))

pub returns-then-not-fields-clause-fault : goal.returns-then-not-fields-clause-fault
returns-then-not-fields-clause-fault c =
    let i0 : IsReading c.as_slice-source.result.now c.in_ok-mode.mode c.read_all.new.reading = c.in_ok-mode.ensures c.in_ok-reading.ensures in
    let e0 : IsEnd c.as_slice-source.result.now c.what_stands-end.result = end_so c.as_slice-source.result.now c.in_ok-mode.mode c.read_all.new.reading c.what_stands-end.result i0 (c.what_stands-end.ensures ∙ ap (λ (xs : List Open). standing c.in_ok-mode.mode (reverse xs)) c.as_slice.ensures.value) in
    let s : IsStanding c.in_ok-refusal-in-Some.field-0 c.args.tokens.now = subst (IsStanding c.in_ok-refusal-in-Some.field-0) c.as_slice-source.ensures
    (c.in_ok-refusal-in-Some.ensures (subst (λ (ts : List Tok). 0 < length ts) (sym c.as_slice-source.ensures) c.requires) e0 i0.kept) in
    let i : IsReading c.args.tokens.now c.in_ok-mode.mode c.read_all.new.reading = subst (λ (ts : List Tok). IsReading ts c.in_ok-mode.mode c.read_all.new.reading) c.as_slice-source.ensures i0 in
    let h : outcome_mode c.in_ok-mode.mode (reverse c.read_all.new.reading.recognizer.stack.items) ≡ Some c.in-Some.levels = sym c.outcome.ensures ∙ c.in-Some.is in
    refusal_so c.in_ok-refusal-in-Some.field-0 c.args.tokens.now s
    (reached_repeats c.args.tokens.now (reached c.args.tokens.now c.in_ok-mode.mode c.read_all.new.reading i) c.in-Some.levels h (named_twice c.args.tokens.now c.in_ok-mode.mode c.read_all.new.reading i c.in-Some.levels h c.if-not-fields.true))

pub returns-then-levels-gt-LEVELS-clause-fault : goal.returns-then-levels-gt-LEVELS-clause-fault
returns-then-levels-gt-LEVELS-clause-fault c =
    let i : IsReading c.args.tokens.now c.in_ok-mode.mode c.read_all.new.reading = subst (λ (ts : List Tok). IsReading ts c.in_ok-mode.mode c.read_all.new.reading) c.as_slice-source.ensures (c.in_ok-mode.ensures c.in_ok-reading.ensures) in
    let e : IsEnd c.args.tokens.now c.what_stands-end.result = end_so c.args.tokens.now c.in_ok-mode.mode c.read_all.new.reading c.what_stands-end.result i (c.what_stands-end.ensures ∙ ap (λ (xs : List Open). standing c.in_ok-mode.mode (reverse xs)) c.as_slice.ensures.value) in
    let h : outcome_mode c.in_ok-mode.mode (reverse c.read_all.new.reading.recognizer.stack.items) ≡ Some c.in-Some.levels = sym c.outcome.ensures ∙ c.in-Some.is in
    let d : AreSpelled c.args.tokens.now × (SpelledWithin 400 c.args.tokens.now → ⊥) = reached_deep c.args.tokens.now (reached c.args.tokens.now c.in_ok-mode.mode c.read_all.new.reading i) c.in-Some.levels h (named_once c.args.tokens.now c.in_ok-mode.mode c.read_all.new.reading i c.in-Some.levels h c.if-not-fields.false) (omega (arith, c.if-levels-gt-LEVELS.true)) in
    (d.0, d.1, c.deep.ensures c.args.tokens.now c.requires e i.kept)

pub returns-clause-spells : goal.returns-clause-spells
returns-clause-spells c =
    let i : IsReading c.args.tokens.now c.in_ok-mode.mode c.read_all.new.reading = subst (λ (ts : List Tok). IsReading ts c.in_ok-mode.mode c.read_all.new.reading) c.as_slice-source.ensures (c.in_ok-mode.ensures c.in_ok-reading.ensures) in
    let h : outcome_mode c.in_ok-mode.mode (reverse c.read_all.new.reading.recognizer.stack.items) ≡ Some c.in-Some.levels = sym c.outcome.ensures ∙ c.in-Some.is in
    reached_module c.args.tokens.now (reached c.args.tokens.now c.in_ok-mode.mode c.read_all.new.reading i) c.in-Some.levels c.noted.result h (named_once c.args.tokens.now c.in_ok-mode.mode c.read_all.new.reading i c.in-Some.levels h c.if-not-fields.false)
    (λ (ps : Parts) q. noted_so c.args.tokens.now c.as_slice-source.result.now c.noted.result c.in_ok-tree-in-Some.tree c.in_ok-aliases-in-Some.aliases ps c.noted.ensures c.in_ok-aliases-in-Some.ensures c.as_slice-source.ensures (c.in_ok-tree-in-Some.ensures ps q))

pub returns-clause-one : goal.returns-clause-one
returns-clause-one c = λ m s.
    let i : IsReading c.args.tokens.now c.in_ok-mode.mode c.read_all.new.reading = subst (λ (ts : List Tok). IsReading ts c.in_ok-mode.mode c.read_all.new.reading) c.as_slice-source.ensures (c.in_ok-mode.ensures c.in_ok-reading.ensures) in
    let h : outcome_mode c.in_ok-mode.mode (reverse c.read_all.new.reading.recognizer.stack.items) ≡ Some c.in-Some.levels = sym c.outcome.ensures ∙ c.in-Some.is in
    one_spelling c.args.tokens.now c.noted.result m
    (reached_module c.args.tokens.now (reached c.args.tokens.now c.in_ok-mode.mode c.read_all.new.reading i) c.in-Some.levels c.noted.result h (named_once c.args.tokens.now c.in_ok-mode.mode c.read_all.new.reading i c.in-Some.levels h c.if-not-fields.false)
    (λ (ps : Parts) q. noted_so c.args.tokens.now c.as_slice-source.result.now c.noted.result c.in_ok-tree-in-Some.tree c.in_ok-aliases-in-Some.aliases ps c.noted.ensures c.in_ok-aliases-in-Some.ensures c.as_slice-source.ensures (c.in_ok-tree-in-Some.ensures ps q)))
    s

pub returns-clause-levels : goal.returns-clause-levels
returns-clause-levels c =
    let i : IsReading c.args.tokens.now c.in_ok-mode.mode c.read_all.new.reading = subst (λ (ts : List Tok). IsReading ts c.in_ok-mode.mode c.read_all.new.reading) c.as_slice-source.ensures (c.in_ok-mode.ensures c.in_ok-reading.ensures) in
    let h : outcome_mode c.in_ok-mode.mode (reverse c.read_all.new.reading.recognizer.stack.items) ≡ Some c.in-Some.levels = sym c.outcome.ensures ∙ c.in-Some.is in
    reached_within c.args.tokens.now (reached c.args.tokens.now c.in_ok-mode.mode c.read_all.new.reading i) c.in-Some.levels h (named_once c.args.tokens.now c.in_ok-mode.mode c.read_all.new.reading i c.in-Some.levels h c.if-not-fields.false) (omega (arith, c.if-levels-gt-LEVELS.false))
