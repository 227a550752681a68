-- Reading on, in the place of a token.
use Rattle.std.proofs.Common.{Bool, not, ℕ, suc, List, length, take, get_or, arith, sym, ap, ◌≡◌, ◌<◌, ◌+◌, ◌∷◌, ◌++◌, ◌∙◌, []}
use Rattle.std.proofs.Math.Seq.{take-suc}
use Rattle.tla_lexer.specs.declared.token.Token.{Token}
use Rattle.tla_parser.proofs.Faults.{advances_append, read_next}
use Rattle.tla_parser.specs.inner.Recognition.{Status, advance, advances, module_start}
use Rattle.tla_parser.specs.inner.Sights.{goes}
use Rattle.tla_parser.specs.inner.Standings.{standing_of}

pub goes_behind : (front ahead : List Token) (begun between behind : Status) (b : Bool) →
    begun ≡ module_start → between ≡ advances begun front → behind ≡ advances between ahead →
    b ≡ (standing_of behind).stuck → not b ≡ goes (front ++ ahead)
goes_behind front ahead begun between behind b e f g h =
    ap (λ x. not x)
    (h ∙ ap (λ (st : Status). (standing_of st).stuck)
    (g ∙ ap (λ (st : Status). advances st ahead) (f ∙ ap (λ (st : Status). advances st front) e)
    ∙ sym (advances_append module_start front ahead)))

pub one_more : (ts : List Token) (i : ℕ) (t : Token) (before behind : Status) → i < length ts → t ≡ get_or ts i t →
    before ≡ advances module_start (take i ts) → behind ≡ advance t before →
    behind ≡ advances module_start (take (i + 1) ts)
one_more ts i t before behind l e f g =
    let n : i + 1 ≡ suc i = omega arith in
    g ∙ ap (advance t) f ∙ sym (read_next (take i ts) t)
    ∙ ap (advances module_start) (ap (λ (u : Token). take i ts ++ (u ∷ [])) e ∙ sym (take-suc ts i t l) ∙ ap (λ k. take k ts) (sym n))
