-- The rules by which expressions and modules are written. Source: Specifying Systems, sections 15.1 and 15.2.
use Rattle.tla_lexer.specs.declared.token.Token.{Token as Tok}
use Rattle.std.specs.Prelude.{ℕ, suc, Bool, true, false, cond, List, ◌≡◌, ◌+◌, ◌<◌, ◌≤◌, ◌⊎◌, ◌∷◌, ◌++◌}
use Rattle.tla_parser.specs.Forms.{FormPart, Matches, Spelled, a_token, module_form, templates}
use Rattle.tla_parser.specs.Operators.{after, hi, is_bullet, is_prefix, lo, prefix_hi, prefix_lo, same}
use Rattle.tla_parser.specs.Signs.{column, sign}
use Rattle.tla_parser.specs.Written.{From, Parts, Written, bin, closed, elements, exp, from, of_module, pre, start, tailed, tok, tokens, tokens_of, top}
use Rattle.tla_parser.specs.declared.moves.Construct.{Construct}
use Rattle.tla_parser.specs.declared.signs.Role.TheVariants.{InfixRole, PostfixRole}

-- ---- columns

abbrev pub begins_form : Parts → Bool
begins_form start = true
begins_form top = false
begins_form (from w) = false
begins_form (tok ps t) = false
begins_form (exp ps w) = false

-- right of the bullets of a list, and 0 in other forms
abbrev pub edge : Parts → ℕ
edge start = 0
edge top = 0
edge (from w) = 0
edge (tok ps t) = cond (begins_form ps) (cond (is_bullet (sign t)) (column t + 1) 0) (edge ps)
edge (exp ps w) = edge ps

-- each bullet of a list stands in the column of the first
abbrev pub InColumn : Parts → Tok → Type 0
InColumn ps t = (edge ps ≡ 0) ⊎ (edge ps ≡ column t + 1)

-- ---- the right edge

-- some form has the parts and then t
abbrev pub GoesOn : Parts → Tok → Type 0
GoesOn ps t =
    InColumn ps t
    × (c : Construct) × (rest : List FormPart) × Spelled templates c (elements ps ++ (a_token (sign t) ∷ rest))

-- the operator t behind w can be no part of w
abbrev pub Ends : Written → Tok → Type 0
Ends (closed c ps) t = Unit {0}
Ends (tailed c ps w) t = (column t < edge ps) × (GoesOn (exp ps w) t → ⊥)
Ends (pre p w) t = (hi (sign t) < prefix_lo (sign p)) × Ends w t
Ends (bin a o b) t = ((hi (sign t) < lo (sign o)) ⊎ (same (sign o) (sign t) ≡ true)) × Ends b t

-- the token t of a form behind w goes on with no form in w
abbrev pub Leaves : Written → Tok → Type 0
Leaves (closed c ps) t = Unit {0}
Leaves (tailed c ps w) t = (GoesOn (exp ps w) t → ⊥) × ((column t < edge ps) ⊎ Leaves w t)
Leaves (pre p w) t = Leaves w t
Leaves (bin a o b) t = Leaves b t

-- ---- the left edge

-- Each infix operator on the left edge, before any prefix operator, has a range from n on.
abbrev mutual
  pub Above : ℕ → Written → Type 0
  Above n (closed c ps) = AboveParts n ps
  Above n (tailed c ps w) = AboveParts n ps
  Above n (pre p w) = Unit {0}
  Above n (bin a o b) = (n ≤ lo (sign o)) × Above n a

  pub AboveParts : ℕ → Parts → Type 0
  AboveParts n start = Unit {0}
  AboveParts n top = Unit {0}
  AboveParts n (from w) = Above n w
  AboveParts n (tok ps t) = AboveParts n ps
  AboveParts n (exp ps w) = AboveParts n ps

-- ---- the whole

-- the parts end in a token
abbrev pub ends_in_token : Parts → Bool
ends_in_token start = false
ends_in_token top = false
ends_in_token (from w) = false
ends_in_token (tok ps t) = true
ends_in_token (exp ps w) = false

-- t may stand behind the parts
abbrev pub Fine : Parts → Tok → Type 0
Fine start t = Unit {0}
Fine top t = Unit {0}
Fine (from w) t = (after (sign t) ≡ PostfixRole) × Ends w t
Fine (tok ps u) t = Unit {0}
Fine (exp ps w) t = (column t < edge ps) ⊎ Leaves w t

-- the parts are a whole form, of this construct
pub record IsForm (c : Construct) (ps : Parts) : Type 0 where
  pub begins : of_module ps ≡ false
  pub spelled : Spelled templates c (elements ps)

abbrev mutual
  pub Good : Written → Type 0
  Good (closed c ps) = IsForm c ps × (ends_in_token ps ≡ true) × GoodParts ps
  Good (tailed c ps w) = IsForm c (exp ps w) × (ends_in_token ps ≡ true) × GoodParts ps × Good w × From (edge ps) (tokens w)
  Good (pre p w) = (is_prefix (sign p) ≡ true) × Good w × Above (suc (prefix_hi (sign p))) w
  Good (bin a t b) = Good a × (after (sign t) ≡ InfixRole) × Ends a t × Good b × Above (suc (hi (sign t))) b

  -- operands of a form stand behind tokens of it
  pub GoodParts : Parts → Type 0
  GoodParts start = Unit {0}
  GoodParts top = Unit {0}
  GoodParts (from w) = Good w
  GoodParts (tok ps t) = GoodParts ps × InColumn ps t × Fine ps t
  GoodParts (exp ps w) = (ends_in_token ps ≡ true) × GoodParts ps × Good w × From (edge ps) (tokens w)

-- the parts are a whole module
pub record IsModule (ps : Parts) : Type 0 where
  pub good : GoodParts ps
  pub begins : of_module ps ≡ true
  pub form : Matches module_form (elements ps)

-- The tokens are those of a module that is written by the rules, whatever its fields.
pub record IsWritten (ts : List Tok) : Type 0 where
  pub written : Parts
  pub by_rules : IsModule written
  pub tokens_so : tokens_of written ≡ ts
