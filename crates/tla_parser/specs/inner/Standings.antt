-- What stands before and behind a token of a module, and whether a unit begins with it.
use Rattle.std.specs.Prelude.{Bool, true, false, not, List, Option, Some, None, ◌∷◌, ◌&&◌, ◌==◌, []}
use Rattle.tla_parser.specs.Beginnings.{begins_unit}
use Rattle.tla_parser.specs.Operators.{same_sign}
use Rattle.tla_parser.specs.declared.moves.Mark.{Mark}
use Rattle.tla_parser.specs.declared.moves.Mark.TheVariants.{AtTop, BehindExtended, BehindHeader, BetweenUnits, DeclaredName, ExtendedName, Finished, InAssumption, InBody, InStatement, InstanceName, LocalUnit, ModuleHead, ModuleName, ModuleNamed, RecursiveName, UnitHead}
use Rattle.tla_parser.specs.declared.moves.Next.{Next}
use Rattle.tla_parser.specs.declared.moves.Next.TheVariants.{Fail, Last, Reads, Shut, Wants}
use Rattle.tla_parser.specs.declared.open.Mode.{Mode}
use Rattle.tla_parser.specs.declared.open.Mode.TheVariants.{Have, Read, Stuck, Want}
use Rattle.tla_parser.specs.declared.open.Open.{Open}
use Rattle.tla_parser.specs.declared.open.Open.TheVariants.{Before, Between, Within}
use Rattle.tla_parser.specs.declared.places.Standing.{Standing}
use Rattle.tla_parser.specs.declared.signs.Sign.{Sign}
use Rattle.tla_parser.specs.declared.signs.Sign.TheVariants.{AssumeWord, ConstantWord, Dashes, InstanceWord, LocalWord, RecursiveWord, Stray, TheoremWord, VariableWord, Word}
use Rattle.tla_parser.specs.inner.Recognition.{Status, lost, running}

-- no form is read
abbrev pub nowhere_stood : Bool → Standing
nowhere_stood stuck = record { next = Fail; alone = false; levels = 0; stuck = stuck }

abbrev pub innermost : List Open → Standing
innermost [] = nowhere_stood false
innermost (Before p ∷ s) = nowhere_stood false
innermost (Between a o ∷ s) = nowhere_stood false
innermost (Within f ∷ []) = record { next = f.next; alone = true; levels = f.levels; stuck = false }
innermost (Within f ∷ g ∷ s) = record { next = f.next; alone = false; levels = f.levels; stuck = false }

abbrev pub top_standing : Option Open → Bool → Standing
top_standing None alone = nowhere_stood false
top_standing (Some (Before p)) alone = nowhere_stood false
top_standing (Some (Between a o)) alone = nowhere_stood false
top_standing (Some (Within f)) alone = record { next = f.next; alone = alone; levels = f.levels; stuck = false }

-- the innermost form, where no operand of it was just read
abbrev pub standing : Mode → List Open → Standing
standing Read s = innermost s
standing Want s = innermost s
standing (Have w) s = nowhere_stood false
standing Stuck s = nowhere_stood true

abbrev pub standing_of : Status → Standing
standing_of lost = nowhere_stood true
standing_of (running mode s c m) = standing mode s

-- the sign that a unit begins with where it leads to the mark; CONSTANT leads where VARIABLE does
unfoldable pub led_by : Mark → Sign
led_by UnitHead = Word
led_by DeclaredName = VariableWord
led_by InstanceName = InstanceWord
led_by RecursiveName = RecursiveWord
led_by LocalUnit = LocalWord
led_by BetweenUnits = Dashes
led_by _ = Stray

-- the same where an operand is to come
unfoldable pub wanted_by : Mark → Sign
wanted_by InAssumption = AssumeWord
wanted_by InStatement = TheoremWord
wanted_by _ = Stray

unfoldable pub declaring : Sign → Sign
declaring ConstantWord = VariableWord
declaring s = s

abbrev pub leads : Sign → Next → Bool
leads s (Reads m) = same_sign (declaring s) (led_by m)
leads s (Wants m) = same_sign s (wanted_by m)
leads s (Last m) = false
leads s (Shut c) = false
leads s Fail = false

-- a unit that began goes on there with a sign that could begin one
unfoldable pub in_unit : Mark → Bool
in_unit LocalUnit = true
in_unit InBody = true
in_unit _ = false

abbrev pub unit_goes_on : Next → Bool
unit_goes_on (Reads m) = in_unit m
unit_goes_on (Wants m) = in_unit m
unit_goes_on (Last m) = false
unit_goes_on (Shut c) = false
unit_goes_on Fail = false

-- a unit begins with the token between the two
abbrev pub starts : Sign → Standing → Standing → Bool
starts s before behind =
    begins_unit s && (leads s behind.next && (behind.alone && not (before.alone && unit_goes_on before.next)))

-- the header stands there, and no unit
unfoldable pub ends_header : Mark → Bool
ends_header BehindHeader = true
ends_header BehindExtended = true
ends_header _ = false

abbrev pub next_ends_header : Next → Bool
next_ends_header (Reads m) = ends_header m
next_ends_header (Wants m) = false
next_ends_header (Last m) = false
next_ends_header (Shut c) = false
next_ends_header Fail = false

abbrev pub behind_header : Standing → Bool
behind_header s = s.alone && next_ends_header s.next

-- before any unit
unfoldable pub in_header : Mark → Bool
in_header AtTop = true
in_header ModuleHead = true
in_header ModuleName = true
in_header ModuleNamed = true
in_header BehindHeader = true
in_header ExtendedName = true
in_header BehindExtended = true
in_header Finished = true
in_header _ = false

abbrev pub next_in_header : Next → Bool
next_in_header (Reads m) = in_header m
next_in_header (Wants m) = false
next_in_header (Last m) = false
next_in_header (Shut c) = false
next_in_header Fail = false

abbrev pub header_open : List Open → Bool
header_open [] = false
header_open (Before p ∷ s) = false
header_open (Between a o ∷ s) = false
header_open (Within f ∷ []) = next_in_header f.next && ((f.levels == 0) && (f.outer == 0))
header_open (Within f ∷ g ∷ s) = false

-- no unit was read
abbrev pub heading : Status → Bool
heading lost = true
heading (running Read s c m) = header_open s
heading (running Want s c m) = false
heading (running (Have w) s c m) = false
heading (running Stuck s c m) = false
