-- The values between brackets.
use Rattle.std.specs.Prelude.{◌≡◌, ℕ, ◌+◌, pos, Bool, true, if◌then◌else◌, ⊤, List, [], ◌∷◌, ◌++◌, map, flat_map, codes}
use Rattle.std.specs.List.{list_all}
use Rattle.tla_values.specs.Names.{is_name_byte}
use Rattle.tla_values.specs.Order.{Layer}
use Rattle.tla_values.specs.Show.{text_of}
use Rattle.tla_values.specs.declared.value.Value.{Value, Int, Text, Set, Fun, out-Value}
use Rattle.tla_values.specs.declared.value.Value.TheOpen as layer
use Rattle.trace_text.specs.declared.brackets.Bracket.{Bracket}
use Rattle.trace_text.specs.declared.brackets.Bracket.TheVariants.{Brace, Angle, Square, Round}
use Rattle.trace_text.specs.inner.Reading.{Fits}

abbrev pub truth_text : Bool → List ℕ
truth_text b = if b then codes "TRUE" else codes "FALSE"

abbrev pub opening : Bracket → List ℕ
opening Brace = codes "{"
opening Angle = codes "<<"
opening Square = codes "["
opening Round = codes "("

abbrev pub separator : Bracket → List ℕ
separator Brace = codes ", "
separator Angle = codes ", "
separator Square = codes ", "
separator Round = codes " @@ "

abbrev pub closing : Bracket → List ℕ
closing Brace = codes "}"
closing Angle = codes ">>"
closing Square = codes "]"
closing Round = codes ")"

abbrev pub bytes_here : Layer Value → List ℕ
bytes_here (layer.Text t) = t
bytes_here x = []

-- the bytes of a text
abbrev pub bytes_of : Value → List ℕ
bytes_of v = bytes_here (out-Value v)

abbrev pub PlainHere : Layer Value → Type 0
PlainHere (layer.Bool b) = ⊤
PlainHere (layer.Int n) = ⊤
PlainHere (layer.Text t) = ⊤
PlainHere (layer.Set xs) = ⊥
PlainHere (layer.Fun ps) = ⊥

-- neither a set nor a function
abbrev pub IsPlain : Value → Type 0
IsPlain v = PlainHere (out-Value v)

-- a piece is an argument with a value: of a set's member and a tuple's item the argument is not written
abbrev pub argument_text : Bracket → Value → List ℕ
argument_text Brace a = []
argument_text Angle a = []
argument_text Square a = bytes_of a ++ codes " |-> "
argument_text Round a = text_of a ++ codes " :> "

abbrev pub piece_text : Bracket → Value × Value → List ℕ
piece_text k p = argument_text k p.0 ++ text_of p.1

-- the pieces behind the first, the closing, and what stands behind it
abbrev pub tail_text : Bracket → List (Value × Value) → List ℕ → List ℕ
tail_text k ps rest = flat_map (λ p. separator k ++ piece_text k p) ps ++ (closing k ++ rest)

-- all pieces, the closing, and what stands behind it
abbrev pub pieces_text : Bracket → List (Value × Value) → List ℕ → List ℕ
pieces_text k [] rest = closing k ++ rest
pieces_text k (p ∷ ps) rest = piece_text k p ++ tail_text k ps rest

-- the argument of the piece at this place
abbrev pub IsArgument : Bracket → ℕ → Value → Type 0
IsArgument Brace i a = a ≡ Int (pos (i + 1))
IsArgument Angle i a = a ≡ Int (pos (i + 1))
IsArgument Square i a = (a ≡ Text (bytes_of a)) × (list_all is_name_byte (bytes_of a) ≡ true)
IsArgument Round i a = Fits a

abbrev pub IsPiece : Bracket → ℕ → Value × Value → Type 0
IsPiece k i p = IsArgument k i p.0 × Fits p.1

-- the pieces from this place on
abbrev pub ArePieces : Bracket → ℕ → List (Value × Value) → Type 0
ArePieces k i [] = ⊤
ArePieces k i (p ∷ ps) = IsPiece k i p × ArePieces k (i + 1) ps

-- the value of the pieces
abbrev pub made : Bracket → List (Value × Value) → Value
made Brace ps = Set (map (λ p. p.1) ps)
made Angle ps = Fun ps
made Square ps = Fun ps
made Round ps = Fun ps
