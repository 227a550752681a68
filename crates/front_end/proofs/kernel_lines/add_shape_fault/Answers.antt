use Rattle.std.proofs.Common.{append_assoc}
use Rattle.front_end.proofs.LineLemmas.{as_told}
use Rattle.front_end.proofs.kernel_lines.add_shape_fault.Goals as goal

pub returns-in_ok-words-in-TooLarge : goal.returns-in_ok-words-in-TooLarge
returns-in_ok-words-in-TooLarge c =
    as_told _ _ _ _ c.add_placed.ensures
    (simp (c.in-TooLarge.is, c.as_bytes.ensures.value, c.in_ok-words-in-TooLarge.ensures.ok, append_assoc))

pub returns-in_ok-words-in-TooLong : goal.returns-in_ok-words-in-TooLong
returns-in_ok-words-in-TooLong c =
    as_told _ _ _ _ c.add_placed-in-TooLong.ensures
    (simp (c.in-TooLong.is, c.as_bytes-in-TooLong.ensures.value, c.in_ok-words-in-TooLong.ensures.ok, append_assoc))
