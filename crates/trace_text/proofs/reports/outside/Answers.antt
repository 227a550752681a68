use Rattle.trace_text.proofs.Behind.{three_pieces}
use Rattle.trace_text.proofs.reports.outside.Goals as goal

pub returns : goal.returns
returns c = three_pieces _ _ _ _ _ _ _ c.in_ok-append.ensures c.in_ok-show_place.ensures c.in_ok-append-2.ensures
