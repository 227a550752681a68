use Rattle.tla_values.proofs.TextsApart.{one_text}
use Rattle.tla_values.proofs.printing.texts_are_read_one_way.Goals as goal

pub returns : goal.returns
returns c = λ v u r q g h s t e. one_text v u r q g h s t e
