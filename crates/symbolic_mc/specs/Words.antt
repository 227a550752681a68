-- The words of a command.
use Rattle.std.specs.Prelude.{ℕ, ◌&&◌, nat_lt, nat_le, List, [], ◌∷◌, length, String, string_bytes, codes, Option, Some, None, option_map, if◌then◌else◌}
use Rattle.std.specs.declared.alloc.Global.{Global}
use Rattle.std.specs.Char.{is_ascii_digit}
use Rattle.std.specs.List.{list_all}
use Rattle.std.specs.Str.{bytes_eq}
use Rattle.std.specs.Str.Parse.{digits_value}

-- one or more decimal digits, of a number from the least to the greatest
abbrev pub number_of : ℕ → ℕ → List ℕ → Option ℕ
number_of least greatest digits =
    if list_all is_ascii_digit digits && nat_lt 0 (length digits)
    && nat_le least (digits_value 10 digits) && nat_le (digits_value 10 digits) greatest
    then Some (digits_value 10 digits)
    else None

-- at most 1000 steps
abbrev pub length_of : List ℕ → Option ℕ
length_of digits = number_of 0 1000 digits

-- from 1 to a thousand million conflicts
abbrev pub conflicts_of : List ℕ → Option ℕ
conflicts_of digits = number_of 1 1000000000 digits

-- a file, the greatest number of steps, and how many conflicts may be spent, where that is said
abbrev pub Request : Type 0
Request = List ℕ × ℕ × Option ℕ

abbrev pub request : List ℕ → Option ℕ → Option (Option ℕ) → Option Request
request file None conflicts = None
request file (Some longest) None = None
request file (Some longest) (Some budget) = Some (file, longest, budget)

-- `check FILE LENGTH` and `check FILE LENGTH CONFLICTS`
abbrev pub request_of : List (String Global) → Option Request
request_of (command ∷ file ∷ longest ∷ []) =
    if bytes_eq (string_bytes command) (codes "check")
    then request (string_bytes file) (length_of (string_bytes longest)) (Some None)
    else None
request_of (command ∷ file ∷ longest ∷ conflicts ∷ []) =
    if bytes_eq (string_bytes command) (codes "check")
    then request (string_bytes file) (length_of (string_bytes longest)) (option_map Some (conflicts_of (string_bytes conflicts)))
    else None
request_of words = None

-- `recheck CERT`: the file of the certificate
abbrev pub recheck_of : List (String Global) → Option (List ℕ)
recheck_of (command ∷ cert ∷ []) = if bytes_eq (string_bytes command) (codes "recheck") then Some (string_bytes cert) else None
recheck_of words = None

-- what the words ask for: a check, or that a certificate is checked again
abbrev pub Command : Type 0
Command = Option Request × Option (List ℕ)

abbrev pub command_of : List (String Global) → Command
command_of words = (request_of words, recheck_of words)
