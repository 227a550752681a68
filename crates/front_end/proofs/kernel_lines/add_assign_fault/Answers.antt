use Rattle.std.proofs.Common.{append_assoc}
use Rattle.front_end.proofs.LineLemmas.{as_told}
use Rattle.front_end.proofs.kernel_lines.add_assign_fault.Goals as goal

pub returns-in_ok-add_between-in-Unassigned : goal.returns-in_ok-add_between-in-Unassigned
returns-in_ok-add_between-in-Unassigned c =
    as_told _ _ _ _ c.show_place.ensures
    (simp (c.in-Unassigned.is, c.in_ok-add_between-in-Unassigned.ensures, c.declared_name-name.ensures, append_assoc))

pub returns-in_ok-add_between-in-ReadEarly : goal.returns-in_ok-add_between-in-ReadEarly
returns-in_ok-add_between-in-ReadEarly c =
    as_told _ _ _ _ c.show_place-in-ReadEarly.ensures
    (simp (
      c.in-ReadEarly.is,
      c.in_ok-add_between-in-ReadEarly.ensures,
      c.declared_name-name-in-ReadEarly.ensures,
      append_assoc,
    ))
