use Rattle.std.proofs.Common.{append_assoc}
use Rattle.front_end.proofs.LineLemmas.{as_told}
use Rattle.front_end.proofs.module_lines.add_module_fault.Goals as goal

pub returns-in-Missing : goal.returns-in-Missing
returns-in-Missing c = as_told _ _ _ _ c.add_between.ensures (simp (c.in-Missing.is, c.bytes.ensures, append_assoc))

pub returns-in_ok-add_between-in-NameDiffers : goal.returns-in_ok-add_between-in-NameDiffers
returns-in_ok-add_between-in-NameDiffers c =
    as_told _ _ _ _ c.add_words.ensures
    (simp (
      c.in-NameDiffers.is,
      c.in_ok-add_between-in-NameDiffers.ensures,
      c.bytes-in-NameDiffers.ensures,
      c.bytes-found.ensures,
      append_assoc,
    ))

pub returns-in_ok-add_words-in-Cycle : goal.returns-in_ok-add_words-in-Cycle
returns-in_ok-add_words-in-Cycle c =
    as_told _ _ _ _ c.add_names.ensures
    (simp (c.in-Cycle.is, c.in_ok-add_words-in-Cycle.ensures, c.as_slice.ensures, append_assoc))

pub returns-in_ok-add_between-in-Unknown : goal.returns-in_ok-add_between-in-Unknown
returns-in_ok-add_between-in-Unknown c =
    as_told _ _ _ _ c.show_place.ensures
    (simp (c.in-Unknown.is, c.in_ok-add_between-in-Unknown.ensures, c.bytes-in-Unknown.ensures, append_assoc))

pub returns-in_ok-show_place-in-Twice : goal.returns-in_ok-show_place-in-Twice
returns-in_ok-show_place-in-Twice c =
    as_told _ _ _ _ c.add_placed.ensures
    (simp (
      c.in-Twice.is,
      c.in_ok-show_place-in-Twice.ensures,
      c.in_ok-add_between-in-Twice.ensures,
      c.bytes-in-Twice.ensures,
      append_assoc,
    ))

pub returns-in_ok-words-in-Arity : goal.returns-in_ok-words-in-Arity
returns-in_ok-words-in-Arity c =
    as_told _ _ _ _ c.add_placed-in-Arity.ensures
    (simp (c.in-Arity.is, c.as_bytes.ensures.value, c.in_ok-words-in-Arity.ensures.ok, append_assoc))
