use Rattle.std.proofs.Common.{◌≡◌, ◌∙◌, ap}
use Rattle.tla_evaluator.proofs.Words.{Text, same_value, text_cmp}
use Rattle.std.specs.Ordering.{is_eq}
use Rattle.tla_evaluator.proofs.FormLemmas.{text_same, text_other, same_back}
use Rattle.tla_evaluator.proofs.forms.is_text_of.Goals as goal

here : (c : goal.After-is_eq) → c.is_eq.result ≡ same_value c.args.v.now (Text c.args.name.now)
here c =
    c.is_eq.ensures ∙ ap is_eq (c.cmp.ensures ∙ ap (λ a. text_cmp a c.bytes-in-Text.result.now) c.bytes.ensures ∙ ap (text_cmp c.in-Text.text) c.bytes-in-Text.ensures)
    ∙ text_same c.args.v.now c.args.name.now c.in-Text.text c.in-Text.is

pub returns-in-Text : goal.returns-in-Text
returns-in-Text c = record { left = here c; right = here c ∙ same_back c.args.v.now (Text c.args.name.now) }

pub returns-in_default : goal.returns-in_default
returns-in_default c = record {
  left = text_other c.args.v.now c.args.name.now c.in_default.not-Text;
  right = text_other c.args.v.now c.args.name.now c.in_default.not-Text ∙ same_back c.args.v.now (Text c.args.name.now);
}
