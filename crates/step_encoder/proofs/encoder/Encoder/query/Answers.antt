use Rattle.std.proofs.Common.{◌∙◌, ap}
use Rattle.step_encoder.specs.Encoders.{literal_of}
use Rattle.encoder_laws.specs.declared.level.LevelCells.{LevelCells}
use Rattle.step_encoder.proofs.Encoding.{asks_at, read_at}
use Rattle.step_encoder.proofs.encoder.Encoder.query.Goals as goal

pub returns : goal.returns
returns c = λ x e. (
  c.literal.ensures
      ∙ ap (λ (y : LevelCells). literal_of y c.args.q)
      (read_at c.args.self.now.levels c.as_slice.result.now c.args.level c.index-as_slice-level.result x
      c.as_slice.ensures c.index-as_slice-level.is e),
  asks_at c.args.self.now c.args.level x c.args.q c.requires.encoder e c.requires.asked,
)
