-- An encoder with one level more.
use Rattle.std.specs.Prelude.{◌≡◌, List, [], ◌∷◌, ◌++◌}
use Rattle.kernel_shapes.specs.declared.bounds.Shape.{Shape as Code}
use Rattle.encoder_laws.specs.declared.level.LevelCells.{LevelCells}
use Rattle.step_encoder.specs.declared.encoder.Encoder.{Encoder}

pub record HasMore (old new : Encoder) (x : LevelCells) (codes : List Code) : Type 0 where
  pub levels : new.levels ≡ old.levels ++ x ∷ []
  pub shapes : new.shapes ≡ codes
  pub system : new.system ≡ old.system
  pub build : new.build ≡ old.build
