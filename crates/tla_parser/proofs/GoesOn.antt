-- Reading is not stuck exactly where some module goes on with the tokens.
use Rattle.std.proofs.Common.{Bool, true, false, not, List, refl, ap, ◌≡◌, ◌∷◌, ◌++◌, ◌∙◌, []}
use Rattle.tla_lexer.specs.declared.token.Token.{Token as Tok}
use Rattle.tla_parser.proofs.Faults.{advances_append, read, written_tells}
use Rattle.tla_parser.proofs.Growing.{never_stuck}
use Rattle.tla_parser.proofs.Laws.{clash, negated}
use Rattle.tla_parser.proofs.Tracking.{Tells}
use Rattle.tla_parser.specs.Refused.{Goes}
use Rattle.tla_parser.specs.declared.open.Mode.TheVariants.{Have, Read, Stuck, Want}
use Rattle.tla_parser.specs.inner.Moves.{in_units}
use Rattle.tla_parser.specs.inner.Recognition.{Status, advances, finished, lost, module_start, running}
use Rattle.tla_parser.specs.inner.Standings.{innermost, standing_of}
use Rattle.tla_parser.proofs.Nesting.{Nested, advances_nested, takes_operand}
use Rattle.tla_parser.proofs.Finishing.{CanEnd, alive_ends}

-- ---- where nothing goes on

pub stuck_ends : (st : Status) → (standing_of st).stuck ≡ true → (more : List Tok) → finished (advances st more) ≡ false
stuck_ends lost h [] = refl
stuck_ends lost h (t ∷ more) = stuck_ends lost h more
stuck_ends (running Stuck s c m) h [] = refl
stuck_ends (running Stuck s c m) h (t ∷ more) = stuck_ends lost refl more
stuck_ends (running (Have w) s c m) h more = absurd (cc)
stuck_ends (running Want s c m) h more = absurd (clash (innermost s).stuck h (never_stuck s))
stuck_ends (running Read s c m) h more = absurd (clash (innermost s).stuck h (never_stuck s))

-- ---- the whole

module_nested : Nested module_start
unfolding in_units takes_operand
module_nested = refl

pub read_nested : (ts : List Tok) → Nested (read ts)
read_nested ts = advances_nested ts module_start module_nested

-- reading is not stuck just where some module goes on with the tokens
pub goes_tells : (ts : List Tok) → Tells (not (standing_of (read ts)).stuck) (Goes ts)
goes_tells ts = record {
  yes = λ e. let r : CanEnd (read ts) = alive_ends (read ts) (read_nested ts) (negated (standing_of (read ts)).stuck e) in
      (r.0, (written_tells (ts ++ r.0)).yes (ap finished (advances_append module_start ts r.0) ∙ r.1));
  no = λ e w.
      (written_tells (ts ++ w.0)).no (ap finished (advances_append module_start ts w.0) ∙ stuck_ends (read ts) (affirmed (standing_of (read ts)).stuck e) w.0) w.1;
}
  where
    affirmed : (x : Bool) → not x ≡ false → x ≡ true
    affirmed true h = refl
    affirmed false h = absurd (cc)
