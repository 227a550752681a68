-- How many ways have ended and how many go on, each number cut at the greatest that is told.
use Rattle.std.specs.Prelude.{ℕ, ◌+◌, ◌*◌, Bool, true, false, List, [], ◌∷◌, min, not}
use Rattle.kernel_trees.specs.Paths.{Step}
use Rattle.kernel_trees.specs.Ways.{Way}
use Rattle.transition_splitter.specs.declared.counts.Tally.{Tally}
use Rattle.transition_splitter.specs.Splitting.{greatest_number}
use Rattle.transition_splitter.specs.inner.Routes.{has_way_ended}

abbrev pub cut : ℕ → ℕ
cut n = min n greatest_number

abbrev pub one_if : Bool → ℕ
one_if true = 1
one_if false = 0

abbrev pub number_where : (Way Step → Bool) → List (Way Step) → ℕ
number_where p [] = 0
number_where p (y ∷ ys) = one_if (p y) + number_where p ys

abbrev pub goes_on : Way Step → Bool
goes_on y = not (has_way_ended y)

abbrev pub tally : List (Way Step) → Tally
tally ys = record { ended = cut (number_where has_way_ended ys); running = cut (number_where goes_on ys) }

-- of all that one of these has
abbrev pub both : Tally → Tally → Tally
both a b = record { ended = cut (a.ended + b.ended); running = cut (a.running + b.running) }

-- of the second behind each that goes on
abbrev pub behind : Tally → Tally → Tally
behind a b = record { ended = cut (a.ended + cut (a.running * b.ended)); running = cut (a.running * b.running) }

abbrev pub number_of : Tally → ℕ
number_of a = cut (a.ended + a.running)
