-- Kinds of bytes, and the longest run of one kind. Source: Specifying Systems, chapter 15, module TLAPlusGrammar.
use Rattle.std.specs.Prelude.{◌≡◌, ℕ, ◌≤◌, Bool, true, false, ◌&&◌, ◌||◌, List, [], ◌∷◌, length, take, drop, ◌==◌, nat_le}
use Rattle.std.specs.List.{list_all}
use Rattle.tla_values.specs.Names.{is_letter, is_name_byte}
use Rattle.tla_lexer.specs.declared.classes.Class.{Class}
use Rattle.tla_lexer.specs.declared.classes.Class.TheVariants.{WordByte, Letter, Digit, Dash, EqualSign, Blank}

-- 0 to 9
abbrev pub is_digit : ℕ → Bool
is_digit b = nat_le 48 b && nat_le b 57

abbrev pub is_line_feed : ℕ → Bool
is_line_feed b = b == 10

-- space, tab, line feed, form feed, carriage return
abbrev pub is_blank : ℕ → Bool
is_blank b = b == 32 || b == 9 || b == 10 || b == 12 || b == 13

abbrev pub is_dash : ℕ → Bool
is_dash b = b == 45

abbrev pub is_equal_sign : ℕ → Bool
is_equal_sign b = b == 61

abbrev pub is_in : Class → ℕ → Bool
is_in WordByte b = is_name_byte b
is_in Letter b = is_letter b
is_in Digit b = is_digit b
is_in Dash b = is_dash b
is_in EqualSign b = is_equal_sign b
is_in Blank b = is_blank b

-- the text's first byte passes the test
abbrev pub StartsIn : (ℕ → Bool) → List ℕ → Type 0
StartsIn p [] = ⊥
StartsIn p (b ∷ text) = p b ≡ true

-- the text is at its end, or its first byte fails the test
abbrev pub StopsAt : (ℕ → Bool) → List ℕ → Type 0
StopsAt p [] = Unit {0}
StopsAt p (b ∷ text) = p b ≡ false

-- the text begins with n bytes that pass the test, and no more
pub record BeginsWith (p : ℕ → Bool) (text : List ℕ) (n : ℕ) : Type 0 where
  pub within : n ≤ length text
  pub pass : list_all p (take n text) ≡ true
  pub stops : StopsAt p (drop n text)
