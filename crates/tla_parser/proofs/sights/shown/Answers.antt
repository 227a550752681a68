use Rattle.std.proofs.Common.{ℕ, true, false, length, take, Option, IfNone, IfSome, ap, sym, subst, ◌≡◌, ◌<◌, ◌+◌, ◌∙◌}
use Rattle.tla_parser.proofs.Sighted.{cut, found, found_none, one_longer}
use Rattle.tla_parser.specs.inner.Sights.{goes}
use Rattle.tla_parser.proofs.sights.shown.Goals as goal

pub returns-in_default : goal.returns-in_default
returns-in_default c = found_none c.args.tokens.now (subst (λ (o : Option ℕ). IfNone o (goes c.args.tokens.now ≡ true)) c.in_default.is c.in_ok-i.ensures.whole)

pub returns : goal.returns
returns c =
    let q : (c.in-Some.i < length c.args.tokens.now) × (goes (take c.in-Some.i c.args.tokens.now) ≡ true) × (goes (take (c.in-Some.i + 1) c.args.tokens.now) ≡ false) =
    subst (λ (o : Option ℕ). IfSome o (λ i. (i < length c.args.tokens.now) × (goes (take i c.args.tokens.now) ≡ true) × (goes (take (i + 1) c.args.tokens.now) ≡ false))) c.in-Some.is c.in_ok-i.ensures.stuck in
    found c.args.tokens.now _ c.index-tokens-i.result _ c.in_ok-form.form (cut c.args.tokens.now c.in-Some.i c.index-tokens-i.result q.0 c.index-tokens-i.is) q.1
    (ap goes (sym (one_longer c.args.tokens.now c.in-Some.i c.index-tokens-i.result q.0 c.index-tokens-i.is)) ∙ q.2)
    c.in_ok-form.ensures
