-- What is known where all tokens of a module were read.
use Rattle.std.proofs.Common.{ℕ, true, false, List, Some, reverse, sym, ap, ◌≡◌, ◌∙◌}
use Rattle.tla_lexer.specs.declared.token.Token.{Token}
use Rattle.tla_parser.proofs.Kept.{stood_standing, whole_once}
use Rattle.tla_parser.proofs.Top.{Reached, reached_whole}
use Rattle.tla_parser.specs.declared.open.Mode.{Mode}
use Rattle.tla_parser.specs.declared.parsing.Reading.{Reading}
use Rattle.tla_parser.specs.declared.places.Standing.{Standing}
use Rattle.tla_parser.specs.inner.Recognition.{advances, code_read, finished, levels_read, module_start, outcome_mode}
use Rattle.tla_parser.specs.inner.Refusals.{IsEnd, IsReading}
use Rattle.tla_parser.specs.inner.Repeats.{once_codes}
use Rattle.tla_parser.specs.inner.Standings.{standing, standing_of}

pub end_so : (ts : List Token) (mode : Mode) (r : Reading) (end : Standing) → IsReading ts mode r → end ≡ standing mode (reverse r.recognizer.stack.items) → IsEnd ts end
end_so ts mode r end i e = e ∙ stood_standing mode r.recognizer ∙ ap standing_of i.status_so

abbrev pub reached : (ts : List Token) (mode : Mode) (r : Reading) → IsReading ts mode r → Reached ts
reached ts mode r i = record {
  mode = mode;
  stack = reverse r.recognizer.stack.items;
  code = r.recognizer.code.items;
  margin = r.recognizer.margin;
  so = i.status_so;
}

-- whether a whole module names a field twice
reached_once : (ts : List Token) (mode : Mode) (r : Reading) (i : IsReading ts mode r) (n : ℕ) → outcome_mode mode (reverse r.recognizer.stack.items) ≡ Some n → once_codes r.recognizer.code.items ≡ r.fields.once
reached_once ts mode r i n h =
    let o : (finished (advances module_start ts) ≡ true) × (levels_read (advances module_start ts) ≡ n) × (code_read (advances module_start ts) ≡ r.recognizer.code.items) = reached_whole ts (reached ts mode r i) n h in
    ap once_codes (sym o.2) ∙ sym (whole_once ts mode r i o.0)

pub named_once : (ts : List Token) (mode : Mode) (r : Reading) (i : IsReading ts mode r) (n : ℕ) → outcome_mode mode (reverse r.recognizer.stack.items) ≡ Some n → r.fields.once ≡ true → once_codes r.recognizer.code.items ≡ true
named_once ts mode r i n h b = reached_once ts mode r i n h ∙ b

pub named_twice : (ts : List Token) (mode : Mode) (r : Reading) (i : IsReading ts mode r) (n : ℕ) → outcome_mode mode (reverse r.recognizer.stack.items) ≡ Some n → r.fields.once ≡ false → once_codes r.recognizer.code.items ≡ false
named_twice ts mode r i n h b = reached_once ts mode r i n h ∙ b
