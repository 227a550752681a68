-- The parts of a module lead where its template leads.
use Rattle.std.proofs.Common.{◌↔◌, Bool, true, false, ◌≡◌, List, [], ◌∷◌, ◌++◌, refl, sym, ap, subst, ◌∙◌}
use Rattle.tla_lexer.specs.declared.token.Token.{Token as Tok}
use Rattle.tla_parser.proofs.FormLaw.{Regular}
use Rattle.tla_parser.proofs.Laws.{clash, stays_in}
use Rattle.tla_parser.proofs.ModuleRows.{heading_ends, heading_left, operand_ends, wanting_left, module_left, through, units_heads, units_insteads, units_quiet, units_rows, wanting_ends}
use Rattle.tla_parser.proofs.Origins.{ahead_stays}
use Rattle.tla_parser.proofs.Templates.{behind_part, can_end, can_matches, matches_can, matches_part, part_matches}
use Rattle.tla_parser.specs.Forms.{Form, FormPart, Matches, a_token, an_operand, module_form}
use Rattle.tla_parser.specs.Signs.{sign}
use Rattle.tla_parser.specs.Written.{Parts, class, elements, exp, from, of_module, start, tok, top}
use Rattle.tla_parser.specs.declared.moves.Class.{Class}
use Rattle.tla_parser.specs.declared.moves.Mark.{Mark}
use Rattle.tla_parser.specs.declared.moves.Mark.TheVariants.{AtTop, Bullets, Finished}
use Rattle.tla_parser.specs.declared.moves.Next.{Next}
use Rattle.tla_parser.specs.declared.moves.Next.TheVariants.{Fail, Last, Reads, Shut, Wants}
use Rattle.tla_parser.specs.declared.moves.Seen.{Seen}
use Rattle.tla_parser.specs.inner.Derivations.{ahead, delta, given, look, resumed}
use Rattle.tla_parser.specs.inner.Moves.{found, goes_on, in_units, is_finished, moved, rows}

units_goes : (m : Mark) (k : Class) (u : Seen) → in_units m ≡ true → goes_on m k u ≡ found u.sign (rows m k)
unfolding goes_on in_units
units_goes (Bullets s n) k u h = cc
units_goes _ k u h = refl

unit_token : (n : Next) (t : Tok) → stays_in true n ≡ true → behind_part (a_token (sign t)) (module_left n) ≡ module_left (delta (resumed n) t)
unfolding delta moved
unit_token (Reads m) t h = units_heads m (sign t) h
unit_token (Wants m) t h = units_insteads m (sign t) h
unit_token (Last m) t h = refl
unit_token (Shut c) t h = refl
unit_token Fail t h = refl

unit_operand : (n : Next) (k : Class) (t : Tok) → stays_in true n ≡ true → behind_part (a_token (sign t)) (behind_part (an_operand k) (module_left n)) ≡ module_left (delta (given n k) t)
unfolding delta moved
unit_operand (Reads m) k t h = ap (behind_part (a_token (sign t))) (units_quiet m k)
unit_operand (Wants m) k t h = units_rows m (sign t) k h ∙ ap module_left (sym (units_goes m k (look t) h))
unit_operand (Last m) k t h = cc
unit_operand (Shut c) k t h = refl
unit_operand Fail k t h = refl

abbrev module_behind : Parts → Form
module_behind start = module_form
module_behind top = module_form
module_behind (from w) = behind_part (an_operand (class w)) module_form
module_behind (tok ps t) = module_left (ahead (tok ps t))
module_behind (exp ps w) = behind_part (an_operand (class w)) (module_left (ahead ps))

stays_units : (ps : Parts) → of_module ps ≡ true → stays_in true (ahead ps) ≡ true
stays_units ps h = subst (λ (b : Bool). stays_in b (ahead ps) ≡ true) h (ahead_stays ps)

at_top : module_left (Reads AtTop) ≡ module_form
unfolding heading_left
at_top = refl

token_module : (ps : Parts) (t : Tok) → of_module ps ≡ true → Regular ps → behind_part (a_token (sign t)) (module_behind ps) ≡ module_left (ahead (tok ps t))
token_module start t f p = cc
token_module top t f p = ap (behind_part (a_token (sign t))) (sym at_top) ∙ unit_token (Reads AtTop) t (stays_units top refl)
token_module (from w) t f p = cc
token_module (tok ps u) t f p = unit_token (ahead (tok ps u)) t (stays_units (tok ps u) f)
token_module (exp start w) t f p = absurd (cc)
token_module (exp top w) t f p = absurd (cc)
token_module (exp (from v) w) t f p = absurd (cc)
token_module (exp (tok ps u) w) t f p = unit_operand (ahead (tok ps u)) (class w) t (stays_units (tok ps u) f)
token_module (exp (exp ps v) w) t f p = absurd (cc)

through_next : (xs : List FormPart) (x : FormPart) (f : Form) → through (xs ++ (x ∷ [])) f ≡ behind_part x (through xs f)
through_next [] x f = refl
through_next (y ∷ xs) x f = through_next xs x (behind_part y f)

module_law : (ps : Parts) → of_module ps ≡ true → Regular ps → through (elements ps) module_form ≡ module_behind ps
module_law start f p = cc
module_law top f p = refl
module_law (from w) f p = cc
module_law (tok ps t) f p =
    through_next (elements ps) (a_token (sign t)) module_form ∙ ap (behind_part (a_token (sign t))) (module_law ps f p.0) ∙ token_module ps t f p.0
module_law (exp start w) f p = absurd (cc)
module_law (exp top w) f p = absurd (cc)
module_law (exp (from v) w) f p = absurd (cc)
module_law (exp (exp ps v) w) f p = absurd (cc)
module_law (exp (tok ps t) w) f p =
    through_next (elements (tok ps t)) (an_operand (class w)) module_form ∙ ap (behind_part (an_operand (class w))) (module_law (tok ps t) f p.1)

through_matches : (xs : List FormPart) (f : Form) → Matches (through xs f) [] → Matches f xs
through_matches [] f h = h
through_matches (x ∷ xs) f h = part_matches x f xs (through_matches xs (behind_part x f) h)

matches_through : (xs : List FormPart) (f : Form) → Matches f xs → Matches (through xs f) []
matches_through [] f h = h
matches_through (x ∷ xs) f h = matches_through xs (behind_part x f) (matches_part x f xs h)

finished_mark : (m : Mark) → is_finished m ≡ true → m ≡ Finished
unfolding is_finished
finished_mark Finished h = refl
finished_mark _ h = cc

left_finished : (n : Next) → can_end (module_left n) ≡ true → n ≡ Reads Finished
left_finished (Reads m) h = ap (λ (x : Mark). Reads x) (finished_mark m (sym (heading_ends m) ∙ h))
left_finished (Wants m) h = let q : can_end (wanting_left m) ≡ false = wanting_ends m in cc
left_finished (Last m) h = cc
left_finished (Shut c) h = cc
left_finished Fail h = cc

finished_left : can_end (module_left (Reads Finished)) ≡ true
unfolding is_finished
finished_left = heading_ends Finished

operand_not : (n : Next) (k : Class) → stays_in true n ≡ true → can_end (behind_part (an_operand k) (module_left n)) ≡ false
operand_not (Reads m) k h = ap can_end (units_quiet m k)
operand_not (Wants m) k h = operand_ends m k
operand_not (Last m) k h = cc
operand_not (Shut c) k h = refl
operand_not Fail k h = refl

behind_ends : (ps : Parts) → of_module ps ≡ true → Regular ps → can_end (module_behind ps) ≡ true → ahead ps ≡ Reads Finished
behind_ends start f p h = cc
behind_ends top f p h = left_finished (Reads AtTop) (ap can_end at_top ∙ h)
behind_ends (from w) f p h = cc
behind_ends (tok ps t) f p h = left_finished (ahead (tok ps t)) h
behind_ends (exp start w) f p h = absurd (cc)
behind_ends (exp top w) f p h = absurd (cc)
behind_ends (exp (from v) w) f p h = absurd (cc)
behind_ends (exp (exp ps v) w) f p h = absurd (cc)
behind_ends (exp (tok ps t) w) f p h =
    absurd (clash (can_end (behind_part (an_operand (class w)) (module_left (ahead (tok ps t))))) h
    (operand_not (ahead (tok ps t)) (class w) (stays_units (tok ps t) f)))

ends_behind : (ps : Parts) → ahead ps ≡ Reads Finished → can_end (module_behind ps) ≡ true
ends_behind start h = absurd (cc)
ends_behind top h = absurd (cc)
ends_behind (from w) h = absurd (cc)
ends_behind (tok ps t) h = ap (λ (n : Next). can_end (module_left n)) h ∙ finished_left
ends_behind (exp ps w) h = absurd (cc)

-- The table says that a module is whole just where its parts are written as the template has them.
pub module_whole : (ps : Parts) → of_module ps ≡ true → Regular ps → Matches module_form (elements ps) ↔ (ahead ps ≡ Reads Finished)
module_whole ps f p =
    let e : through (elements ps) module_form ≡ module_behind ps = module_law ps f p in (
      (λ h. behind_ends ps f p (matches_can (module_behind ps) (subst (λ (r : Form). Matches r []) e (matches_through (elements ps) module_form h)))),
      (λ g. through_matches (elements ps) module_form (subst (λ (r : Form). Matches r []) (sym e) (can_matches (module_behind ps) (ends_behind ps g)))),
    )
