-- Which tree each form stands for. Source: Specifying Systems, chapter 16 (what the operators mean) and section 15.1.
use Rattle.std.specs.Prelude.{fold, codes}
use Rattle.std.proofs.Math.ListN.{replicate}
use Rattle.tla_lexer.specs.declared.token.Token.{Token}
use Rattle.tla_lexer.specs.declared.token.TokenKind.{TokenKind}
use Rattle.tla_lexer.specs.declared.token.TokenKind.TheVariants.{Dashes as DashRun, End, Number as Digits, Name, Reserved, Quoted, ProofStep, Symbol}
use Rattle.tla_meaning.specs.declared.expr.Expr.{Expr, out-Expr, roll-Expr}
use Rattle.tla_meaning.specs.declared.expr.Expr.TheOpen.{Expr-F}
use Rattle.tla_meaning.specs.declared.op.Op.{Op}
use Rattle.tla_meaning.specs.declared.op.Op.TheVariants as op
use Rattle.tla_meaning.specs.declared.op.Form.TheVariants.{Choose, Enabled, Power, Temporal, Unbounded}
use Rattle.tla_meaning.specs.declared.place.Place.{Place}
use Rattle.tla_parser.specs.declared.items.Item.{Item}
use Rattle.tla_parser.specs.declared.items.Item.TheVariants.{Piece, Tree}
use Rattle.tla_parser.specs.declared.items.Digest.{Digest}
use Rattle.tla_parser.specs.declared.items.Updates.{Updates}
use Rattle.tla_parser.specs.declared.items.Locals.{Locals}
use Rattle.tla_parser.specs.declared.items.Head.{Head}
use Rattle.std.specs.Prelude.{ℕ, pos, int_le, ◌&&◌, Bool, true, false, cond, max, List, Option, Some, None, length, reverse, ◌+◌, ◌∷◌, ◌++◌, []}
use Rattle.tla_parser.specs.Signs.{sign}
use Rattle.tla_parser.specs.declared.moves.Construct.{Construct}
use Rattle.tla_parser.specs.declared.moves.Construct.TheVariants.{Application, Booleans, Call, Cases, CasesOther, Choice, Conditional, Enumeration, Exception, Fairness, FalseLiteral, FieldAccess, Filter, FoldCall, FoldUse, Function, FunctionSet, Instanced, Junction, Local, Mapping, NameUse, NumberLiteral, OldValue, Parenthesis, Primed, Quantifier, RecordSet, RecordValue, SquareAction, Strings, TextLiteral, TrueLiteral, TupleValue}
use Rattle.tla_parser.specs.declared.signs.Sign.{Sign}
use Rattle.tla_parser.specs.declared.signs.Sign.TheVariants.{AngleSub, Assigns, AtLeast, AtMost, BracketSub, Circle, Colon, Dash, Diamond, Difference, Differs, DomainWord, Dot, Dots, DoubleArrow, Element, EnabledWord, Equals, Equivalence, ExistsSign, FairWord, ForallSign, Greater, InWord, Included, Intersection, LeadsTo, LeftAngle, LeftBracket, LeftParen, Less, LetWord, NotElement, Overrides, Pairs, Percent, Plus, Quotient, RightBracket, Square, Star, Stray, SubsetWord, Tilde, Times, UnchangedWord, UnionSign, UnionWord, Vee, Wedge}

abbrev pub node : Place → Op → List (List ℕ) → List Expr → Expr
node p o names es = roll-Expr (record { place = p; op = o; args = es; binds = names })

abbrev pub leaf : Place → Op → Expr
leaf p o = node p o [] []

-- ---- operators

-- what an infix operator is in a tree
unfoldable pub infix_op : Sign → Op
infix_op Wedge = op.And
infix_op Vee = op.Or
infix_op DoubleArrow = op.Implies
infix_op Equivalence = op.Iff
infix_op LeadsTo = op.Outside Temporal
infix_op Equals = op.Eq
infix_op Differs = op.Ne
infix_op Less = op.Lt
infix_op Greater = op.Gt
infix_op AtMost = op.Le
infix_op AtLeast = op.Ge
infix_op Element = op.In
infix_op NotElement = op.NotIn
infix_op Included = op.SubsetEq
infix_op Assigns = op.Assign
infix_op Overrides = op.Merge
infix_op Pairs = op.Single
infix_op UnionSign = op.Cup
infix_op Intersection = op.Cap
infix_op Difference = op.Minus
infix_op Dots = op.Range
infix_op Plus = op.Add
infix_op Percent = op.Mod
infix_op Times = op.Product
infix_op Dash = op.Sub
infix_op Star = op.Mul
infix_op Quotient = op.Div
infix_op Circle = op.Concat
infix_op _ = op.Pow

unfoldable pub prefix_op : Sign → Op
prefix_op Tilde = op.Not
prefix_op UnchangedWord = op.Unchanged
prefix_op EnabledWord = op.Outside Enabled
prefix_op Square = op.Outside Temporal
prefix_op Diamond = op.Outside Temporal
prefix_op SubsetWord = op.Powerset
prefix_op UnionWord = op.BigUnion
prefix_op DomainWord = op.Domain
prefix_op _ = op.Neg

abbrev pub prefix_node : Token → Expr → Expr
prefix_node t e = node t.place (prefix_op (sign t)) [] (e ∷ [])

-- one more operand at the end of a chain
abbrev pub grown : Expr-F Expr → Expr → Expr
grown x e = roll-Expr (record x { args = x.args ++ (e ∷ []) })

-- a number from 1 to 127
abbrev pub is_exponent : Op → Bool
is_exponent (op.Int n) = int_le (pos 1) n && int_le n (pos 127)
is_exponent o = false

-- a power with another exponent is a form that is only refused
abbrev pub raised : Op → Bool → Op
raised op.Pow false = op.Outside Power
raised o exponent = o

abbrev pub infix_node : Bool → Token → Expr → Expr → Expr
infix_node joined t a b =
    cond joined (grown (out-Expr a) b)
    (node t.place (raised (infix_op (sign t)) (is_exponent (out-Expr b).op)) [] (a ∷ b ∷ []))

-- ---- what a form has

abbrev pub nowhere : Place
nowhere = record { file = 0; line = 0; col = 0 }

unfoldable pub empty_digest : Bool → Digest
empty_digest h = record { first = Stray; place = nowhere; names = []; name_place = nowhere; operands = []; pending = 0; bounded = false; subscript = Stray; subscript_place = nowhere; opens_subscript = false; heads = h }

unfoldable pub is_stray : Sign → Bool
is_stray Stray = true
is_stray _ = false

unfoldable pub is_element : Sign → Bool
is_element Element = true
is_element _ = false

unfoldable pub is_colon : Sign → Bool
is_colon Colon = true
is_colon _ = false

unfoldable pub before_subscript : Sign → Bool
before_subscript BracketSub = true
before_subscript AngleSub = true
before_subscript FairWord = true
before_subscript _ = false

-- the name that a token is
abbrev pub name_of : TokenKind → Option (List ℕ)
name_of (Name t) = Some t
name_of (Reserved t) = None
name_of (Quoted t) = None
name_of (Symbol t) = None
name_of (Digits n) = None
name_of DashRun = None
name_of End = None
name_of ProofStep = None

abbrev pub with_name : Option (List ℕ) → Digest → Digest
with_name None d = d
with_name (Some x) d = record d { names = d.names ++ (x ∷ []); pending = d.pending + 1 }

-- the name that stands at the place
abbrev pub with_named : Option (List ℕ) → Place → Digest → Digest
with_named None p d = d
with_named (Some x) p d = with_name (Some x) (record d { name_place = p })

abbrev pub with_subscript : Sign → Place → Digest → Digest
with_subscript s p d =
    cond d.opens_subscript (record d { subscript = s; subscript_place = p; opens_subscript = before_subscript s })
    (record d { opens_subscript = before_subscript s })

abbrev pub with_first : Sign → Place → Digest → Digest
with_first s p d = cond (is_stray d.first) (record d { first = s; place = p }) d

-- names before `:` have no set
abbrev pub with_colon : Sign → Digest → Digest
with_colon s d = cond (is_colon s) (record d { pending = 0 }) d

abbrev pub with_bound : Sign → Digest → Digest
with_bound s d = cond (is_element s) (record d { bounded = true }) d

-- an operand, which stands once for each name whose set it is
abbrev pub with_operand : Expr → Digest → Digest
with_operand e d = record d { operands = d.operands ++ replicate (max d.pending 1) e; pending = 0 }

-- the name that is a use
abbrev pub used_name : Op → Option (List ℕ)
used_name (op.Use x) = Some x
used_name _ = None

-- x \in S, of which x is bound
abbrev pub with_member : Option (List ℕ) → Expr → Digest → Digest
with_member None e d = d
with_member (Some x) e d = with_operand e (with_name (Some x) d)

-- the operands are given from the last on
abbrev pub with_members : List Expr → Digest → Digest
with_members [] d = d
with_members (e ∷ []) d = d
with_members (e ∷ n ∷ es) d = with_member (used_name (out-Expr n).op) e d

-- the first operand of a form that binds it
abbrev pub with_head : Op → List Expr → Digest → Digest
with_head (op.Use x) es d = with_name (Some x) d
with_head op.In es d = with_members (reverse es) d
with_head _ es d = d

abbrev pub with_tree : Expr → Digest → Digest
with_tree e d = cond d.heads (with_head (out-Expr e).op (out-Expr e).args (record d { heads = false })) (with_operand e d)

abbrev pub taken_in : Digest → Item → Digest
taken_in d (Piece t) =
    with_named (name_of t.kind) t.place (with_colon (sign t) (with_bound (sign t) (with_subscript (sign t) t.place (with_first (sign t) t.place d))))
taken_in d (Tree e) = with_tree e d

abbrev pub digest : Bool → List Item → Digest
digest h its = fold taken_in (empty_digest h) its

-- ---- forms

unfoldable pub is_leaf : Construct → Bool
is_leaf NumberLiteral = true
is_leaf TextLiteral = true
is_leaf NameUse = true
is_leaf FoldUse = true
is_leaf _ = false

abbrev pub leaf_op : TokenKind → Op
leaf_op (Digits n) = op.Int n
leaf_op (Quoted t) = op.Str t
leaf_op (Name t) = op.Use t
leaf_op (Reserved t) = op.Tuple
leaf_op (Symbol t) = op.Tuple
leaf_op DashRun = op.Tuple
leaf_op End = op.Tuple
leaf_op ProofStep = op.Tuple

abbrev pub leaf_tree : List Item → Expr
leaf_tree [] = leaf nowhere op.Tuple
leaf_tree (Piece t ∷ is) = leaf t.place (leaf_op t.kind)
leaf_tree (Tree e ∷ is) = leaf nowhere op.Tuple

-- the first operand is bound by the form
unfoldable pub binds_head : Construct → Bool
binds_head Filter = true
binds_head Function = true
binds_head RecordValue = true
binds_head RecordSet = true
binds_head _ = false

unfoldable pub junction_op : Sign → Op
junction_op Wedge = op.And
junction_op _ = op.Or

abbrev pub first_name : List (List ℕ) → List ℕ
first_name [] = []
first_name (x ∷ xs) = x

-- forms whose tree has their operands as they are written
unfoldable pub is_plain : Construct → Bool
is_plain TrueLiteral = true
is_plain FalseLiteral = true
is_plain Booleans = true
is_plain Strings = true
is_plain OldValue = true
is_plain Enumeration = true
is_plain FunctionSet = true
is_plain TupleValue = true
is_plain Conditional = true
is_plain Cases = true
is_plain CasesOther = true
is_plain Primed = true
is_plain Junction = true
is_plain RecordValue = true
is_plain RecordSet = true
is_plain FieldAccess = true
is_plain _ = false

unfoldable pub plain_op : Construct → Sign → List (List ℕ) → Op
plain_op TrueLiteral s names = op.Bool true
plain_op FalseLiteral s names = op.Bool false
plain_op Booleans s names = op.BooleanSet
plain_op Strings s names = op.StringSet
plain_op OldValue s names = op.Bound (codes "@")
plain_op Enumeration s names = op.SetEnum
plain_op FunctionSet s names = op.FunSet
plain_op TupleValue s names = op.Tuple
plain_op Conditional s names = op.If
plain_op Cases s names = op.Case false
plain_op CasesOther s names = op.Case true
plain_op Primed s names = op.Prime
plain_op Junction s names = junction_op s
plain_op RecordValue s names = op.Record names
plain_op RecordSet s names = op.RecSet names
plain_op FieldAccess s names = op.Field (first_name names)
plain_op _ s names = op.Tuple

unfoldable pub quantifier_op : Sign → Bool → Op
quantifier_op ForallSign true = op.Forall
quantifier_op ExistsSign true = op.Exists
quantifier_op _ _ = op.Outside Unbounded

unfoldable pub binder_op : Construct → Sign → Bool → Option Op
binder_op Filter s b = Some op.Filter
binder_op Function s b = Some op.Lambda
binder_op Mapping s b = Some op.MapTo
binder_op Choice s b = Some (op.Outside Choose)
binder_op Quantifier s b = Some (quantifier_op s b)
binder_op _ s b = None

-- the first at the end
abbrev pub rotated : List Expr → List Expr
rotated [] = []
rotated (e ∷ es) = es ++ (e ∷ [])

-- the sets come first, and then the body, which a mapping has at its front
unfoldable pub binder_args : Construct → List Expr → List Expr
binder_args Mapping es = rotated es
binder_args _ es = es

-- several indexes are a tuple
abbrev pub index_of : Place → List Expr → Expr
index_of p [] = node p op.Tuple [] []
index_of p (e ∷ []) = e
index_of p (e ∷ d ∷ es) = node p op.Tuple [] (e ∷ d ∷ es)

abbrev pub first_tree : Place → List Expr → Expr
first_tree p [] = leaf p op.Tuple
first_tree p (e ∷ es) = e

-- v of [A]_v
unfoldable pub subscript_tree : Sign → Place → List (List ℕ) → List Expr → Expr
subscript_tree LeftAngle p names es = node p op.Tuple [] es
subscript_tree LeftParen p names es = first_tree p es
subscript_tree _ p names es = leaf p (op.Use (first_name names))

unfoldable pub action_op : Sign → Op
action_op LeftBracket = op.Boxed
action_op _ = op.Angled

abbrev pub instance_name : Op → List (List ℕ) → List ℕ
instance_name (op.Use i) names = i ++ (codes "!" ++ first_name names)
instance_name _ names = []

-- the operator of a fold is a name, or has two parameters
abbrev pub fold_tree : Place → Place → List (List ℕ) → List Expr → Expr
fold_tree p q [] es = node p op.Fold [] es
fold_tree p q (x ∷ []) es = node p op.Fold [] (leaf q (op.Use x) ∷ es)
fold_tree p q (x ∷ y ∷ xs) es = node p op.Fold (x ∷ y ∷ xs) es

-- the operands are split at the first
unfoldable pub led_tree : Construct → Digest → Expr → List Expr → Expr
led_tree Parenthesis d e es = e
led_tree Call d e es = roll-Expr (record (out-Expr e) { args = es })
led_tree FoldCall d e es = fold_tree (out-Expr e).place d.name_place d.names es
led_tree Application d e es = node d.place op.Apply [] (e ∷ index_of d.place es ∷ [])
led_tree Instanced d e es = leaf (out-Expr e).place (op.Use (instance_name (out-Expr e).op d.names))
led_tree SquareAction d e es = node d.place (action_op d.first) [] (e ∷ subscript_tree d.subscript d.subscript_place d.names es ∷ [])
led_tree _ d e es = e

-- the action of a fairness formula stands last
abbrev pub fair_tree : Digest → List Expr → Expr
fair_tree d [] = leaf d.place op.Tuple
fair_tree d (a ∷ es) =
    node d.place (op.Outside Temporal) [] (subscript_tree d.subscript d.subscript_place d.names (reverse es) ∷ a ∷ [])

abbrev pub led : Construct → Digest → List Expr → Expr
led c d [] = leaf d.place op.Tuple
led c d (e ∷ es) = led_tree c (record d { operands = [] }) e es

unfoldable pub is_fairness : Construct → Bool
is_fairness Fairness = true
is_fairness _ = false

abbrev pub other_tree : Construct → Digest → Expr
other_tree c d = cond (is_fairness c) (fair_tree d (reverse d.operands)) (led c d d.operands)

abbrev pub binder_tree : Construct → Option Op → Digest → Expr
binder_tree c (Some o) d = node d.place o d.names (binder_args c d.operands)
binder_tree c None d = other_tree c d

abbrev pub digested : Construct → Digest → Expr
digested c d =
    cond (is_plain c) (node d.place (plain_op c d.first d.names) [] d.operands) (binder_tree c (binder_op c d.first d.bounded) d)

-- ---- EXCEPT

unfoldable pub no_updates : Updates
no_updates = record { place = nowhere; begun = false; operands = []; counts = []; steps = 0; inside = false; index = []; index_place = nowhere }

abbrev pub opened_index : Place → Updates → Updates
opened_index p u = cond u.begun (record u { inside = true; index = []; index_place = p }) (record u { place = p })

abbrev pub closed_index : Updates → Updates
closed_index u =
    cond u.inside (record u { operands = u.operands ++ (index_of u.index_place u.index ∷ []); steps = u.steps + 1; inside = false; index = [] }) u

abbrev pub named_index : Option (List ℕ) → Updates → Updates
named_index None u = u
named_index (Some x) u = record u { operands = u.operands ++ (leaf u.index_place (op.Str x) ∷ []); steps = u.steps + 1 }

unfoldable pub update_token : Sign → Token → Updates → Updates
update_token LeftBracket t u = opened_index t.place u
update_token RightBracket t u = closed_index u
update_token Dot t u = record u { index_place = t.place }
update_token _ t u = named_index (name_of t.kind) u

abbrev pub update_value : Expr → Updates → Updates
update_value e u =
    cond u.begun (record u { operands = u.operands ++ (e ∷ []); counts = u.counts ++ (u.steps ∷ []); steps = 0 })
    (record u { operands = u.operands ++ (e ∷ []); begun = true })

abbrev pub update_tree : Expr → Updates → Updates
update_tree e u = cond u.inside (record u { index = u.index ++ (e ∷ []) }) (update_value e u)

abbrev pub updated : Updates → Item → Updates
updated u (Piece t) = update_token (sign t) t u
updated u (Tree e) = update_tree e u

abbrev pub update_node : Updates → Expr
update_node u = node u.place (op.Except u.counts) (codes "@" ∷ []) u.operands

abbrev pub except_tree : List Item → Expr
except_tree its = update_node (fold updated no_updates its)

-- ---- what stands before `==`

unfoldable pub no_head : Head
no_head = record { named = false; name = []; place = nowhere; note = []; names = []; function = false; function_place = nowhere; inside = false; sets = []; pending = 0 }

abbrev pub head_name : Option (List ℕ) → Token → Head → Head
head_name None t h = h
head_name (Some x) t h =
    cond h.named (record h { names = h.names ++ (x ∷ []); pending = h.pending + 1 })
    (record h { named = true; name = x; place = t.place; note = t.notes })

unfoldable pub head_token : Sign → Token → Head → Head
head_token LeftBracket t h = record h { function = true; function_place = t.place; inside = true }
head_token RightBracket t h = record h { inside = false }
head_token _ t h = head_name (name_of t.kind) t h

abbrev pub head_set : Expr → Head → Head
head_set e h = record h { sets = h.sets ++ replicate (max h.pending 1) e; pending = 0 }

-- `f[x \in S] == e` is `f == [x \in S |-> e]`
abbrev pub head_body : Head → Expr → Expr
head_body h e = cond h.function (node h.function_place op.Lambda h.names (h.sets ++ (e ∷ []))) e

abbrev pub head_params : Head → List (List ℕ)
head_params h = cond h.function [] h.names

-- ---- LET

unfoldable pub no_locals : Locals
no_locals = record { place = nowhere; lets = []; binds = []; bodies = []; head = no_head; last = false }

abbrev pub local_head : Sign → Token → Locals → Locals
local_head s t l = record l { head = head_token s t l.head }

unfoldable pub local_token : Sign → Token → Locals → Locals
local_token LetWord t l = record l { place = t.place }
local_token InWord t l = record l { last = true }
local_token s t l = local_head s t l

abbrev pub local_body : Expr → Locals → Locals
local_body e l =
    record l { lets = l.lets ++ ((l.head.name, length (head_params l.head)) ∷ []); binds = l.binds ++ head_params l.head; bodies = l.bodies ++ (head_body l.head e ∷ []); head = no_head }

abbrev pub local_tree : Expr → Locals → Locals
local_tree e l =
    cond l.last (record l { bodies = l.bodies ++ (e ∷ []) })
    (cond l.head.inside (record l { head = head_set e l.head }) (local_body e l))

abbrev pub localized : Locals → Item → Locals
localized l (Piece t) = local_token (sign t) t l
localized l (Tree e) = local_tree e l

abbrev pub local_node : Locals → Expr
local_node l = node l.place (op.Let l.lets) l.binds l.bodies

abbrev pub let_tree : List Item → Expr
let_tree its = local_node (fold localized no_locals its)

-- ---- the tree of a form

unfoldable pub is_exception : Construct → Bool
is_exception Exception = true
is_exception _ = false

unfoldable pub is_local : Construct → Bool
is_local Local = true
is_local _ = false

abbrev pub build : Construct → List Item → Expr
build c its =
    cond (is_leaf c) (leaf_tree its)
    (cond (is_exception c) (except_tree its)
    (cond (is_local c) (let_tree its) (digested c (digest (binds_head c) its))))
