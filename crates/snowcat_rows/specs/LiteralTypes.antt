-- The type that the spelling of a text literal gives it. Source: the Apalache manual, "Uninterpreted types": a literal
-- such as "1_OF_NODE" is of the type NODE.
use Rattle.std.specs.Prelude.{ℕ, Bool, false, ◌&&◌, ◌||◌, nat_le, ◌==◌, List, [], ◌∷◌, ◌++◌, Option, Some, None, if◌then◌else◌}
use Rattle.std.specs.List.{list_all}
use Rattle.snowcat_rows.specs.Types.{Term, con, StrHead, NamedHead}

abbrev pub is_capital : ℕ → Bool
is_capital c = nat_le 65 c && nat_le c 90

abbrev pub is_digit : ℕ → Bool
is_digit c = nat_le 48 c && nat_le c 57

abbrev pub is_small : ℕ → Bool
is_small c = nat_le 97 c && nat_le c 122

-- a letter, a digit or _
abbrev pub in_word : ℕ → Bool
in_word c = is_capital c || is_small c || is_digit c || c == 95

abbrev pub is_word : List ℕ → Bool
is_word [] = false
is_word (c ∷ cs) = list_all in_word (c ∷ cs)

abbrev pub in_type_name : ℕ → Bool
in_type_name c = is_capital c || is_digit c || c == 95

-- a capital letter with capital letters, digits and _
abbrev pub is_type_name : List ℕ → Bool
is_type_name [] = false
is_type_name (c ∷ cs) = is_capital c && list_all in_type_name cs

-- the text begins with _OF_
abbrev pub begins_of : List ℕ → Bool
begins_of (a ∷ b ∷ c ∷ d ∷ xs) = a == 95 && b == 79 && c == 70 && d == 95
begins_of xs = false

abbrev pub behind_of : List ℕ → List ℕ
behind_of (a ∷ b ∷ c ∷ d ∷ xs) = xs
behind_of xs = []

-- what stands before and behind the last _OF_
abbrev pub last_of : List ℕ → List ℕ → Option (List ℕ × List ℕ) → Option (List ℕ × List ℕ)
last_of before [] found = found
last_of before (c ∷ cs) found =
    last_of (before ++ c ∷ []) cs (if begins_of (c ∷ cs) then Some (before, behind_of (c ∷ cs)) else found)

abbrev pub type_of_parts : Option (List ℕ × List ℕ) → Term
type_of_parts None = con StrHead
type_of_parts (Some p) = if is_word p.0 && is_type_name p.1 then con (NamedHead p.1) else con StrHead

-- a word before the last _OF_ and an uninterpreted type's name behind it give this type, every other text gives Str
abbrev pub literal_type : List ℕ → Term
literal_type text = type_of_parts (last_of [] text None)
