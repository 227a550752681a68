use Rattle.std.proofs.Common.{append_assoc}
use Rattle.front_end.proofs.LineLemmas.{as_told}
use Rattle.front_end.proofs.module_lines.add_parse_fault.Goals as goal

pub returns-in_ok-add_between-in-NotSupported : goal.returns-in_ok-add_between-in-NotSupported
returns-in_ok-add_between-in-NotSupported c =
    as_told _ _ _ _ c.show_place.ensures
    (simp (
      c.in-NotSupported.is,
      c.in_ok-add_between-in-NotSupported.ensures,
      c.as_bytes-form.ensures.value,
      c.syntax_text.ensures,
      append_assoc,
    ))
