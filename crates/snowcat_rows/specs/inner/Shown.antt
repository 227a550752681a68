-- Variables as they are shown, and their numbers where the text is read.
use Rattle.std.specs.Prelude.{ℕ, List}
use Rattle.snowcat_rows.specs.declared.marks.Seen.{Seen}
use Rattle.snowcat_rows.specs.declared.marks.Seen.TheVariants as seen
use Rattle.snowcat_rows.specs.Letters.{variable_text}
use Rattle.snowcat_rows.specs.Types.{Term}
use Rattle.snowcat_rows.specs.Readings.{number}
use Rattle.snowcat_rows.specs.Renamings.{renamed}

abbrev pub shown_type : ℕ → Seen
shown_type n = seen.Type (variable_text n)

abbrev pub shown_row : ℕ → Seen
shown_row n = seen.Row (variable_text n)

-- each variable has its number among those that were seen
abbrev pub by_numbers : List Seen → Term → Term
by_numbers ns t = renamed (λ n. number (shown_type n) ns) (λ n. number (shown_row n) ns) t
