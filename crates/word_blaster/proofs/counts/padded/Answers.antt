use Rattle.std.proofs.Common.{◌<◌, List, not, ap, ap₂, subst, sym, ◌∙◌, ◌++◌}
use Rattle.sat_formula.specs.declared.lit.Lit.{Lit}
use Rattle.word_blaster.proofs.Words.{turned-value}
use Rattle.word_blaster.proofs.CountLemmas.{padded_is}
use Rattle.word_blaster.proofs.counts.padded.Goals as goal

pub returns : goal.returns
returns c =
    padded_is c.args.f.now c.args.x.now _ c.args.n _ c.negated.result (subst (λ (l : Lit). l.var < c.args.f.now.vars) (sym c.negated.ensures) c.top.ensures.below)
    (λ a s. turned-value c.top.result c.negated.result a c.negated.ensures ∙ ap not (c.top.ensures.forced a s)) c.saturating_sub.ensures
    (c.in_ok-append.ensures.items ∙ ap₂ (λ (v w : List Lit). v ++ w) c.in_ok-bits.ensures.items c.in_ok-zeros.ensures)
