use Rattle.std.proofs.Common.{arith, ◌∙◌, ◌++◌, ◌∷◌, [], ap}
use Rattle.tla_modules.proofs.Readings.{given_at}
use Rattle.tla_modules.proofs.reading.read_next.Goals as goal

pub returns-in-Ok-clause-read : goal.returns-in-Ok-clause-read
returns-in-Ok-clause-read g c = (
  c.in-Ok.source,
  c.push_reserved.ensures.items ∙ ap (λ l. l ++ (c.args.name, c.in-Ok.source) ∷ []) c.in_ok-reserve.ensures.items,
  given_at c.in-Ok.ensures.read.0 (omega (arith, c.args.modules.now.ok.0, c.in_ok-reserve.ensures.len)) c.in_ok-file.ensures,
  c.in-Ok.ensures.read.1,
)
