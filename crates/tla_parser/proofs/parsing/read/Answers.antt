use Rattle.std.proofs.Common.{List, drop, length, reverse, ap, arith, refl, ◌≡◌, ◌∙◌}
use Rattle.tla_parser.specs.declared.open.Code.{Code}
use Rattle.tla_parser.specs.declared.open.Open.{Open}
use Rattle.tla_parser.specs.declared.parsing.Reading.{Reading}
use Rattle.tla_parser.specs.inner.Repeats.{walk_of, walked}
use Rattle.tla_parser.specs.inner.Standings.{standing}
use Rattle.tla_parser.proofs.Kept.{IsFollowed, once_followed, reading_next, step_read}
use Rattle.tla_parser.proofs.parsing.read.Goals as goal

pub returns : goal.returns
returns c = λ ts i.
    let n : c.len-count.result ≡ length c.args.reading.now.recognizer.code.items = omega (arith, c.len-count.ensures) in
    let r : Reading = record { recognizer = c.step.new.self; places = c.read.new.self; fields = c.walk.new.self } in
    let f : IsFollowed c.args.token.now c.args.mode c.in_ok-next.next c.args.reading.now r c.len-count.result = record {
      state_so = c.in_ok-next.ensures;
      count_so = n;
      fields_so = c.in_ok-walk.ensures ∙ ap (λ (xs : List Code). walked (drop c.len-count.result xs) (walk_of c.args.reading.now.fields)) c.as_slice-3.ensures.value;
    } in
    reading_next ts c.args.token.now c.args.mode c.in_ok-next.next c.args.reading.now r c.len-count.result f i
    (c.read.ensures ts
    (step_read ts c.args.token.now c.args.mode c.in_ok-next.next c.args.reading.now.recognizer c.step.new.self c.what_stands-before.result c.what_stands-behind.result _ i.status_so c.in_ok-next.ensures
    (c.what_stands-before.ensures ∙ ap (λ (xs : List Open). standing c.args.mode (reverse xs)) c.as_slice.ensures.value)
    (c.what_stands-behind.ensures ∙ ap (λ (xs : List Open). standing c.in_ok-next.next (reverse xs)) c.as_slice-2.ensures.value)
    refl)
    (once_followed ts c.args.token.now c.args.mode c.in_ok-next.next c.args.reading.now r c.len-count.result c.what_stands-behind.result f i
    (c.what_stands-behind.ensures ∙ ap (λ (xs : List Open). standing c.in_ok-next.next (reverse xs)) c.as_slice-2.ensures.value))
    i.kept)
