use Rattle.std.proofs.Common.{append_assoc}
use Rattle.front_end.proofs.LineLemmas.{as_told}
use Rattle.front_end.proofs.type_lines.add_type_fault.Goals as goal

pub returns-in_ok-add_placed-in-Clash : goal.returns-in_ok-add_placed-in-Clash
returns-in_ok-add_placed-in-Clash c =
    as_told _ _ _ _ c.add_defaults.ensures
    (simp (
      c.in-Clash.is,
      c.as_slice.ensures,
      c.in_ok-add_placed-in-Clash.ensures,
      c.in_ok-add_types-in-Clash.ensures,
      c.in_ok-add_words-in-Clash.ensures,
      append_assoc,
    ))
