-- What is kept of the tokens that were read, for a refusal.
use Rattle.std.specs.Prelude.{Bool, true, false, List, Option, Some, None, ◌≡◌, ◌⊎◌, ◌∷◌, ◌++◌, []}
use Rattle.tla_lexer.specs.declared.token.Token.{Token}
use Rattle.tla_meaning.specs.declared.place.Place.{Place}
use Rattle.tla_parser.specs.Beginnings.{Begins, FaultAt, IsFirst, LastAt, Nowhere, Whole, last_of}
use Rattle.tla_parser.specs.Grammar.{AreSpelled, SpelledWithin}
use Rattle.tla_parser.specs.Refused.{NoneStands, Stands, WholeBefore}
use Rattle.tla_parser.specs.Rules.{IsWritten}
use Rattle.tla_parser.specs.declared.fault.ParseFault.{ParseFault}
use Rattle.tla_parser.specs.declared.fault.ParseFault.TheVariants.{BadGrammar, TooDeep, NotSupported, Memory}
use Rattle.tla_parser.specs.declared.moves.Seen.{Seen}
use Rattle.tla_parser.specs.declared.places.Places.{Places}
use Rattle.tla_parser.specs.declared.places.Standing.{Standing}
use Rattle.tla_parser.specs.inner.Derivations.{look}
use Rattle.tla_parser.specs.declared.parsing.Reading.{Reading}
use Rattle.tla_parser.specs.declared.open.Mode.{Mode}
use Rattle.tla_parser.specs.inner.Recognition.{advances, code_read, module_start, stood}
use Rattle.tla_parser.specs.inner.Repeats.{AreFields, once_codes}
use Rattle.tla_parser.specs.inner.Standings.{heading, standing_of}

-- the place of the last token
abbrev pub IsLast : Option Token → Place → Type 0
IsLast None p = Unit {0}
IsLast (Some u) p = p ≡ u.place

-- Where the last unit began; the last place of the header where none did.
abbrev pub HasStart : (List Token → Type 0) → List Token → Option Place → Bool → Type 0
HasStart P ts None begun = (ts ≡ []) × (begun ≡ false)
HasStart P ts (Some place) true = LastAt (Begins P) place ts
HasStart P ts (Some place) false =
    Nowhere (Begins P) ts × (LastAt (Whole P) place ts ⊎ (Nowhere (Whole P) ts × IsFirst place ts))

-- the place where it is new, or where there was none
abbrev pub renewed : Bool → Place → Option Place → Option Place
renewed true p o = Some p
renewed false p None = Some p
renewed false p (Some q) = Some q

-- the last token, or where the unit began
abbrev pub faulty : Bool → Place → Option Place → Place
faulty true last o = last
faulty false last (Some p) = p
faulty false last None = last

-- t was read behind the tokens
pub record IsStep (ts : List Token) (t : Token) (before behind : Standing) (seen : Seen) (place : Place) : Type 0 where
  pub before_so : before ≡ standing_of (advances module_start ts)
  pub behind_so : behind ≡ standing_of (advances module_start (ts ++ (t ∷ [])))
  pub seen_so : seen ≡ look t
  pub place_so : place ≡ t.place

-- whether no field is named twice behind t, unless reading sticks
abbrev pub IsOnce : List Token → Token → Standing → Bool → Type 0
IsOnce ts t behind b = behind.stuck ≡ false → b ≡ once_codes (code_read (advances module_start (ts ++ (t ∷ []))))

-- a unit begins there behind one that is not whole, since it names a field twice
pub record IsBroken (ts : List Token) : Type 0 where
  pub front : List Token
  pub token : Token
  pub rest : List Token
  pub tokens_so : ts ≡ front ++ (token ∷ rest)
  pub begins : Begins IsWritten front token
  pub broken : Begins AreSpelled front token → ⊥

-- no unit was read
pub record IsHeading (ts : List Token) : Type 0 where
  pub heading_so : heading (advances module_start ts) ≡ true
  pub once_so : once_codes (code_read (advances module_start ts)) ≡ true

-- the tokens were read
pub record HasRead (ts : List Token) (p : Places) : Type 0 where
  pub last_so : IsLast (last_of ts) p.last
  pub start_so : HasStart AreSpelled ts p.start p.begun
  pub within_so : HasStart (SpelledWithin 400) ts p.within p.begun
  pub heading_so : p.begun ≡ false → IsHeading ts
  pub whole_so : p.whole ≡ true → WholeBefore ts
  pub broken_so : p.whole ≡ false → IsBroken ts

-- a form stands there, or none does and the grammar is at fault
abbrev pub IsStanding : ParseFault → List Token → Type 0
IsStanding (NotSupported place form) ts = Stands form place ts
IsStanding (BadGrammar place) ts = FaultAt AreSpelled place ts × NoneStands ts
IsStanding (TooDeep place) ts = ⊥
IsStanding (Memory e) ts = ⊥

-- the standing behind all tokens
abbrev pub IsEnd : List Token → Standing → Type 0
IsEnd ts s = s ≡ standing_of (advances module_start ts)

-- the tokens were read, and this is open
pub record IsReading (ts : List Token) (mode : Mode) (r : Reading) : Type 0 where
  pub status_so : stood mode r.recognizer ≡ advances module_start ts
  pub kept : HasRead ts r.places
  pub fields_so : AreFields (stood mode r.recognizer) r.fields
