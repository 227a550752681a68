-- Flat modules of small examples, by computing. Trees are as the parser makes them: each name but @ is a Use.
use Rattle.std.proofs.Common.{length, ◌≡◌, ℕ, true, false, List, [], ◌∷◌, ◌++◌, map, codes, pos, refl, ap, Option, Some, None}
use Rattle.tla_meaning.specs.declared.expr.Def.{Def}
use Rattle.tla_meaning.specs.declared.expr.Expr.{Expr, out-Expr, roll-Expr, out-roll-Expr}
use Rattle.tla_meaning.specs.declared.expr.Expr.TheOpen.{Expr-F}
use Rattle.tla_meaning.specs.declared.expr.Expr.TheFolds.{fold-roll-Expr}
use Rattle.tla_meaning.specs.declared.modules.Flat.{Flat}
use Rattle.tla_meaning.specs.declared.modules.Module.{Module}
use Rattle.tla_meaning.specs.declared.modules.Unit as modules
use Rattle.tla_meaning.specs.declared.modules.Unit.TheVariants as unit
use Rattle.tla_meaning.specs.declared.op.Form.TheVariants as form
use Rattle.tla_meaning.specs.declared.op.Op.{Op}
use Rattle.tla_meaning.specs.declared.op.Op.TheVariants as op
use Rattle.tla_meaning.specs.declared.place.Place.{Place}
use Rattle.tla_meaning.specs.Meaning.{role}
use Rattle.tla_meaning.specs.Flattening.{Assumes, Modules, flat_of, misuse_of, with_items}
use Rattle.tla_meaning.specs.Resolving.{Resolver, announced, node_resolver, resolved_in, resolver}
use Rattle.tla_meaning.specs.Symbols.{inner_name, number_bytes, place_bytes}
use Rattle.tla_meaning.specs.StandardModules.{apalache}
use Rattle.tla_meaning.specs.declared.symbols.Entry.{Entry}
use Rattle.tla_meaning.specs.declared.symbols.Misuse.TheVariants.{Arity, Twice, Unknown}
use Rattle.tla_meaning.specs.ReadingOrder.{Cycle, Next, Whole, course}

-- ---- trees

pub resolve-at : (x : Expr-F Expr) (n : ℕ) (es : List Entry) →
    (resolver (roll-Expr x)).resolve n es
    ≡ (node_resolver x.place x.op x.binds (map resolver x.args) (role x.op (length x.binds))).resolve n es
resolve-at x n es = ap (λ (k : Resolver). k.resolve n es)
    (fold-roll-Expr Resolver (λ x. node_resolver x.place x.op x.binds x.args (role x.op (length x.binds))) x)

pub function-at : (x : Expr-F Expr) →
    (resolver (roll-Expr x)).function ≡ (node_resolver x.place x.op x.binds (map resolver x.args) (role x.op (length x.binds))).function
function-at x = ap (λ (k : Resolver). k.function)
    (fold-roll-Expr Resolver (λ x. node_resolver x.place x.op x.binds x.args (role x.op (length x.binds))) x)

abbrev at : ℕ → ℕ → ℕ → Place
at f l c = record { file = f; line = l; col = c }

abbrev node : Place → Op → List (List ℕ) → List Expr → Expr
node p o xs es = roll-Expr (record { place = p; op = o; args = es; binds = xs })

abbrev leaf : Place → Op → Expr
leaf p o = node p o [] []

abbrev name : Place → List ℕ → Expr
name p x = leaf p (op.Use x)

abbrev call : Place → List ℕ → List Expr → Expr
call p x es = node p (op.Use x) [] es

-- ---- modules

abbrev variable : Place → List ℕ → modules.Unit
variable p x = unit.Declare (record { name = x; place = p; constant = false; note = [] } ∷ [])

abbrev constant : Place → List ℕ → modules.Unit
constant p x = unit.Declare (record { name = x; place = p; constant = true; note = [] } ∷ [])

abbrev define : Place → List ℕ → List (List ℕ) → Expr → modules.Unit
define p x ps e = unit.Define (record { name = x; place = p; params = ps; note = []; body = e }) false

abbrev define_local : Place → List ℕ → List (List ℕ) → Expr → modules.Unit
define_local p x ps e = unit.Define (record { name = x; place = p; params = ps; note = []; body = e }) true

abbrev instantiate : Place → Option (List ℕ) → List ℕ → List (List ℕ × Expr) → modules.Unit
instantiate p i m cs = unit.Instance i m cs false p

abbrev module_of : List ℕ → List (List ℕ) → List modules.Unit → List ℕ × Module
module_of x ms us = (x, record { name = x; extends = ms; units = us; aliases = [] })

abbrev flat : Modules → Flat
flat ms = flat_of (λ x. x ++ codes ".tla") ms (codes "Row")

abbrev def_names : Flat → List (List ℕ)
def_names f = map (λ (d : Def). d.name) f.defs

-- ---- Inc: CONSTANT c, Add(n) == n + c. Row: VARIABLE x, I == INSTANCE Inc WITH c <- 2, Next == x' = I!Add(x)

abbrev inc : List ℕ × Module
inc = module_of (codes "Inc") (codes "Integers" ∷ []) (
    constant (at 1 5 3) (codes "c")
    ∷ define (at 1 6 1) (codes "Add") (codes "n" ∷ []) (node (at 1 6 13) op.Add [] (name (at 1 6 11) (codes "n") ∷ name (at 1 6 15) (codes "c") ∷ []))
    ∷ [])

abbrev row : List ℕ × Module
row = module_of (codes "Row") (codes "Integers" ∷ []) (
    variable (at 0 5 3) (codes "x")
    ∷ instantiate (at 0 6 1) (Some (codes "I")) (codes "Inc") ((codes "c", leaf (at 0 6 29) (op.Int (pos 2))) ∷ [])
    ∷ define (at 0 8 1) (codes "Next") [] (node (at 0 8 12) op.Eq [] (
    node (at 0 8 10) op.Prime [] (name (at 0 8 9) (codes "x") ∷ [])
    ∷ call (at 0 8 14) (codes "I!Add") (name (at 0 8 20) (codes "x") ∷ []) ∷ []))
    ∷ [])

abbrev both : Modules
both = row ∷ inc ∷ []

abbrev with_two : List ℕ
with_two = codes "I!Inc" ++ place_bytes (at 0 6 1) ++ 0 ∷ codes "c"

files_there : (flat both).files ≡ codes "Row.tla" ∷ codes "Inc.tla" ∷ []
files_there = refl

names_there : def_names (flat both) ≡ with_two ∷ codes "I!Add" ∷ codes "Next" ∷ []
unfolding number_bytes
names_there = refl

bodies_there : map (λ (d : Def). d.body) (flat both).defs ≡
    leaf (at 0 6 29) (op.Int (pos 2))
    ∷ node (at 1 6 13) op.Add [] (leaf (at 1 6 11) (op.Param (codes "n")) ∷ leaf (at 1 6 15) (op.Use (with_two)) ∷ [])
    ∷ node (at 0 8 12) op.Eq [] (
    node (at 0 8 10) op.Prime [] (leaf (at 0 8 9) (op.Name 0 false) ∷ [])
    ∷ call (at 0 8 14) (codes "I!Add") (leaf (at 0 8 20) (op.Name 0 false) ∷ []) ∷ [])
    ∷ []
unfolding number_bytes
bodies_there = simp (out-roll-Expr, resolve-at)

nothing_wrong : misuse_of both ≡ None
nothing_wrong = simp (out-roll-Expr, resolve-at)

-- ---- names in one module

abbrev one : List modules.Unit → Modules
one us = module_of (codes "Row") [] us ∷ []

abbrev extending : List ℕ → List modules.Unit → Modules
extending m us = module_of (codes "Row") (m ∷ []) us ∷ []

abbrev assumed_places : Modules → List Place
assumed_places ms = map (λ e. (out-Expr e).place) (flat ms).assumes

abbrev yes : Place → Expr
yes p = leaf p (op.Bool true)

abbrev bodies : Modules → List Expr
bodies ms = map (λ (d : Def). d.body) (flat ms).defs

-- F == G before G == TRUE
unknown_later : misuse_of (one (define (at 0 2 1) (codes "F") [] (name (at 0 2 6) (codes "G")) ∷ define (at 0 3 1) (codes "G") [] (yes (at 0 3 6)) ∷ []))
    ≡ Some (Unknown (codes "G") (at 0 2 6))
unknown_later = simp (out-roll-Expr, resolve-at)

-- F(a) == a, G == F
too_few : misuse_of (one (define (at 0 2 1) (codes "F") (codes "a" ∷ []) (name (at 0 2 9) (codes "a")) ∷ define (at 0 3 1) (codes "G") [] (name (at 0 3 6) (codes "F")) ∷ []))
    ≡ Some (Arity (at 0 3 6) 0 1)
too_few = simp (out-roll-Expr, resolve-at)

-- F == TRUE, F == TRUE
twice_defined : misuse_of (one (define (at 0 2 1) (codes "F") [] (yes (at 0 2 6)) ∷ define (at 0 3 1) (codes "F") [] (yes (at 0 3 6)) ∷ []))
    ≡ Some (Twice (codes "F") (at 0 2 1) (at 0 3 1))
unfolding number_bytes
twice_defined = simp (out-roll-Expr, resolve-at)

-- F == TRUE, G == \E F \in BOOLEAN: TRUE
bound_again : misuse_of (one (
    define (at 0 2 1) (codes "F") [] (yes (at 0 2 6))
    ∷ define (at 0 3 1) (codes "G") [] (node (at 0 3 6) op.Exists (codes "F" ∷ []) (leaf (at 0 3 15) op.BooleanSet ∷ yes (at 0 3 24) ∷ [])) ∷ []))
    ≡ Some (Twice (codes "F") (at 0 2 1) (at 0 3 6))
bound_again = simp (out-roll-Expr, resolve-at)

-- G == \E x, x \in BOOLEAN: x
bound_twice : misuse_of (one (define (at 0 3 1) (codes "G") [] (node (at 0 3 6) op.Exists (codes "x" ∷ codes "x" ∷ [])
    (leaf (at 0 3 18) op.BooleanSet ∷ leaf (at 0 3 18) op.BooleanSet ∷ name (at 0 3 27) (codes "x") ∷ [])) ∷ []))
    ≡ Some (Twice (codes "x") (at 0 3 6) (at 0 3 6))
bound_twice = simp (out-roll-Expr, resolve-at)

-- F(a) == \A y \in a: CHOOSE z \in a: z = y
abbrev chosen : (Place → List ℕ → Expr) → (Place → List ℕ → Expr) → Expr
chosen set bound =
    node (at 0 2 9) op.Forall (codes "y" ∷ []) (
    set (at 0 2 16) (codes "a")
    ∷ node (at 0 2 19) (op.Outside form.Choose) (codes "z" ∷ []) (
    set (at 0 2 32) (codes "a")
    ∷ node (at 0 2 37) op.Eq [] (bound (at 0 2 35) (codes "z") ∷ bound (at 0 2 39) (codes "y") ∷ []) ∷ []) ∷ [])

names_inside : bodies (one (define (at 0 2 1) (codes "F") (codes "a" ∷ []) (chosen name name) ∷ []))
    ≡ chosen (λ p x. leaf p (op.Param x)) (λ p x. leaf p (op.Bound x)) ∷ []
names_inside = simp (out-roll-Expr, resolve-at)

none_wrong_inside : misuse_of (one (define (at 0 2 1) (codes "F") (codes "a" ∷ []) (chosen name name) ∷ [])) ≡ None
none_wrong_inside = simp (out-roll-Expr, resolve-at)

-- f[x \in BOOLEAN] == f, a function inside its own definition
abbrev looping : Expr → Expr
looping e = node (at 0 2 3) op.Lambda (codes "x" ∷ []) (leaf (at 0 2 8) op.BooleanSet ∷ e ∷ [])

recursive_function : bodies (one (define (at 0 2 1) (codes "f") [] (looping (name (at 0 2 20) (codes "f"))) ∷ []))
    ≡ looping (leaf (at 0 2 20) (op.Outside form.Recursive)) ∷ []
recursive_function = simp (out-roll-Expr, resolve-at)

-- F == F
no_function : misuse_of (one (define (at 0 2 1) (codes "F") [] (name (at 0 2 6) (codes "F")) ∷ [])) ≡ Some (Unknown (codes "F") (at 0 2 6))
no_function = simp (out-roll-Expr, resolve-at)

-- LET g[x \in BOOLEAN] == g IN g
abbrev let_function : Op → Op → Expr
let_function inside outside = node (at 0 2 6) (op.Let ((codes "g", 0) ∷ [])) [] (
    node (at 0 2 11) op.Lambda (codes "x" ∷ []) (leaf (at 0 2 18) op.BooleanSet ∷ leaf (at 0 2 30) inside ∷ [])
    ∷ leaf (at 0 2 35) outside ∷ [])

recursive_in_let : bodies (one (define (at 0 2 1) (codes "F") [] (let_function (op.Use (codes "g")) (op.Use (codes "g"))) ∷ []))
    ≡ let_function (op.Outside form.Recursive) (op.Use (codes "g")) ∷ []
recursive_in_let = simp (out-roll-Expr, resolve-at, function-at)

-- RECURSIVE F(_), F(a) == F(a), RECURSIVE F(_), G == F(TRUE)
abbrev announced_twice : Modules
announced_twice = one (
    unit.Recursive ((codes "F", 1) ∷ [])
    ∷ define (at 0 3 1) (codes "F") (codes "a" ∷ []) (call (at 0 3 9) (codes "F") (name (at 0 3 11) (codes "a") ∷ []))
    ∷ unit.Recursive ((codes "F", 1) ∷ [])
    ∷ define (at 0 5 1) (codes "G") [] (call (at 0 5 6) (codes "F") (yes (at 0 5 8) ∷ []))
    ∷ [])

recursive_inside : bodies announced_twice ≡
    node (at 0 3 9) (op.Outside form.Recursive) [] (leaf (at 0 3 11) (op.Param (codes "a")) ∷ [])
    ∷ call (at 0 5 6) (codes "F") (yes (at 0 5 8) ∷ []) ∷ []
unfolding number_bytes
recursive_inside = simp (out-roll-Expr, resolve-at)

-- RECURSIVE F(_), F(a, b) == F(a)
wrong_number_inside : misuse_of (one (
    unit.Recursive ((codes "F", 1) ∷ [])
    ∷ define (at 0 3 1) (codes "F") (codes "a" ∷ codes "b" ∷ []) (call (at 0 3 12) (codes "F") (name (at 0 3 14) (codes "a") ∷ []))
    ∷ [])) ≡ Some (Arity (at 0 3 12) 1 2)
unfolding number_bytes
wrong_number_inside = simp (out-roll-Expr, resolve-at)

none_wrong_recursive : misuse_of announced_twice ≡ None
unfolding number_bytes
none_wrong_recursive = simp (out-roll-Expr, resolve-at)

-- F(a) == LET G(b) == a IN G(a)
abbrev local_operator : (List ℕ → Op) → Expr
local_operator o = node (at 0 2 9) (op.Let ((codes "G", 1) ∷ [])) (codes "b" ∷ []) (
    leaf (at 0 2 21) (o (codes "a")) ∷ node (at 0 2 26) (op.Use (codes "G")) [] (leaf (at 0 2 28) (o (codes "a")) ∷ []) ∷ [])

in_let : bodies (one (define (at 0 2 1) (codes "F") (codes "a" ∷ []) (local_operator (λ x. op.Use x)) ∷ [])) ≡ local_operator (λ x. op.Param x) ∷ []
in_let = simp (out-roll-Expr, resolve-at)

-- F(a) == LET G(a) == a IN G(a): the parameter a is declared twice
let_repeats : misuse_of (one (define (at 0 2 1) (codes "F") (codes "a" ∷ []) (node (at 0 2 9) (op.Let ((codes "G", 1) ∷ [])) (codes "a" ∷ []) (
    name (at 0 2 21) (codes "a") ∷ call (at 0 2 26) (codes "G") (name (at 0 2 28) (codes "a") ∷ []) ∷ [])) ∷ []))
    ≡ Some (Twice (codes "a") (at 0 2 1) (at 0 2 9))
let_repeats = simp (out-roll-Expr, resolve-at)

-- @ stands in the right side of an EXCEPT alone
old_value : misuse_of (one (define (at 0 2 1) (codes "F") (codes "a" ∷ []) (node (at 0 2 9) (op.Except (1 ∷ [])) (codes "@" ∷ [])
    (name (at 0 2 10) (codes "a") ∷ yes (at 0 2 21) ∷ leaf (at 0 2 26) (op.Bound (codes "@")) ∷ [])) ∷ []))
    ≡ None
old_value = simp (out-roll-Expr, resolve-at)

old_value_outside : misuse_of (one (define (at 0 2 1) (codes "F") (codes "a" ∷ []) (node (at 0 2 9) (op.Except (1 ∷ [])) (codes "@" ∷ [])
    (name (at 0 2 10) (codes "a") ∷ leaf (at 0 2 21) (op.Bound (codes "@")) ∷ yes (at 0 2 26) ∷ [])) ∷ []))
    ≡ Some (Unknown (codes "@") (at 0 2 21))
old_value_outside = simp (out-roll-Expr, resolve-at)

-- F(a, b) == a, G == ApaFoldSeqLeft(F, TRUE, TRUE)
abbrev fold_by_name : Expr
fold_by_name = node (at 0 3 9) op.Fold [] (name (at 0 3 24) (codes "F") ∷ yes (at 0 3 27) ∷ yes (at 0 3 33) ∷ [])

abbrev folding : List modules.Unit
folding =
    define (at 0 2 1) (codes "F") (codes "a" ∷ codes "b" ∷ []) (name (at 0 2 12) (codes "a"))
    ∷ define (at 0 3 1) (codes "G") [] fold_by_name
    ∷ []

folds : (resolved_in (apalache ++ inner_name (at 0 2 1) (codes "F") 2 (op.Use (codes "F")) ∷ []) fold_by_name).misuses ≡ []
folds = simp (resolve-at)

no_fold : misuse_of (one folding) ≡ Some (Unknown (codes "ApaFoldSeqLeft") (at 0 3 9))
no_fold = simp (out-roll-Expr, resolve-at)

-- EXTENDS Naturals, Nat == TRUE
standard_again : misuse_of (extending (codes "Naturals") (define (at 0 3 1) (codes "Nat") [] (yes (at 0 3 8)) ∷ []))
    ≡ Some (Twice (codes "Nat") (at 0 1 1) (at 0 3 1))
standard_again = simp (out-roll-Expr, resolve-at)

-- Nat comes by Naturals and by Integers, and is one
one_standard : misuse_of (module_of (codes "Row") (codes "Naturals" ∷ codes "Integers" ∷ []) (define (at 0 3 1) (codes "F") [] (name (at 0 3 6) (codes "Nat")) ∷ []) ∷ []) ≡ None
one_standard = simp (out-roll-Expr, resolve-at)

-- ---- several modules

-- Util: LOCAL H == TRUE, F == H
abbrev util : List ℕ × Module
util = module_of (codes "Util") [] (
    define_local (at 1 2 1) (codes "H") [] (yes (at 1 2 12))
    ∷ define (at 1 3 1) (codes "F") [] (name (at 1 3 6) (codes "H"))
    ∷ [])

-- Row extends Util and defines H for itself
abbrev with_local : Modules
with_local = module_of (codes "Row") (codes "Util" ∷ []) (
    define (at 0 3 1) (codes "H") [] (name (at 0 3 6) (codes "F")) ∷ []) ∷ util ∷ []

abbrev hidden_H : List ℕ
hidden_H = codes "Util" ++ 0 ∷ codes "H"

local_names : def_names (flat with_local) ≡ hidden_H ∷ codes "F" ∷ codes "H" ∷ []
local_names = refl

local_bodies : bodies with_local ≡ yes (at 1 2 12) ∷ name (at 1 3 6) (hidden_H) ∷ name (at 0 3 6) (codes "F") ∷ []
local_bodies = simp (out-roll-Expr, resolve-at)

none_wrong_local : misuse_of with_local ≡ None
none_wrong_local = simp (out-roll-Expr, resolve-at)

-- Row extends Util and uses H
hidden_name : misuse_of (module_of (codes "Row") (codes "Util" ∷ []) (define (at 0 3 1) (codes "G") [] (name (at 0 3 6) (codes "H")) ∷ []) ∷ util ∷ [])
    ≡ Some (Unknown (codes "H") (at 0 3 6))
hidden_name = simp (out-roll-Expr, resolve-at)

-- M extends Util: CONSTANT c, ASSUME c. Row extends Util, and instantiates M: F is one, and M's assumption is not assumed
abbrev assuming : List ℕ × Module
assuming = module_of (codes "M") (codes "Util" ∷ []) (constant (at 2 3 1) (codes "c") ∷ unit.Assume (name (at 2 4 8) (codes "c")) ∷ [])

abbrev two_ways : Modules
two_ways = module_of (codes "Row") (codes "Util" ∷ []) (
    unit.Assume (name (at 0 3 8) (codes "F"))
    ∷ instantiate (at 0 4 1) None (codes "M") ((codes "c", yes (at 0 4 24)) ∷ []) ∷ []) ∷ util ∷ assuming ∷ []

none_wrong_two_ways : misuse_of two_ways ≡ None
unfolding number_bytes
none_wrong_two_ways = simp (out-roll-Expr, resolve-at)

assumed_there : assumed_places two_ways ≡ at 0 3 8 ∷ []
unfolding number_bytes
assumed_there = simp (out-roll-Expr, resolve-at)

-- where EXTENDS brings M in on two ways
abbrev diamond : Modules
diamond = module_of (codes "Row") (codes "A" ∷ codes "B" ∷ []) []
    ∷ module_of (codes "A") (codes "M" ∷ []) [] ∷ util ∷ assuming ∷ module_of (codes "B") (codes "M" ∷ []) [] ∷ []

-- an assumption that comes on two ways is one
assumed_once : (a b : Expr) → (out-Expr a).place ≡ at 2 4 8 → (out-Expr b).place ≡ at 2 5 8 → with_items (Assumes a ∷ []) (Assumes b ∷ Assumes a ∷ []) ≡ Assumes a ∷ Assumes b ∷ []
assumed_once a b p q = simp (p, q)

none_wrong_diamond : misuse_of diamond ≡ None
unfolding number_bytes
none_wrong_diamond = simp (out-roll-Expr, resolve-at)

-- N: CONSTANT d, x == d
abbrev inner : List ℕ × Module
inner = module_of (codes "N") [] (constant (at 3 2 1) (codes "d") ∷ define (at 3 3 1) (codes "x") [] (name (at 3 3 6) (codes "d")) ∷ [])

-- M: CONSTANT c, INSTANCE N WITH d <- c
abbrev middle : List ℕ × Module
middle = module_of (codes "M") [] (constant (at 2 2 1) (codes "c") ∷ instantiate (at 2 3 1) None (codes "N") ((codes "d", name (at 2 3 24) (codes "c")) ∷ []) ∷ [])

abbrev outer_with : List ℕ → ℕ → Expr → List ℕ × Module
outer_with m f e = module_of m [] (instantiate (at f 2 1) None (codes "M") ((codes "c", e) ∷ []) ∷ [])

-- Row extends A and B, which instantiate M with two expressions: x is declared twice
twice_within : misuse_of (
    module_of (codes "Row") (codes "A" ∷ codes "B" ∷ []) [] ∷ outer_with (codes "A") 1 (yes (at 1 2 24)) ∷ middle ∷ inner
    ∷ outer_with (codes "B") 4 (yes (at 4 2 24)) ∷ [])
    ≡ Some (Twice (codes "x") (at 3 3 1) (at 3 3 1))
unfolding number_bytes
twice_within = simp (out-roll-Expr, resolve-at)

-- A instantiates M; Row extends A and, on a second way, B which extends A: x is one
abbrev once_within : Modules
once_within = module_of (codes "Row") (codes "A" ∷ codes "B" ∷ []) [] ∷ outer_with (codes "A") 1 (yes (at 1 2 6)) ∷ middle ∷ inner
    ∷ module_of (codes "B") (codes "A" ∷ []) [] ∷ []

none_wrong_within : misuse_of once_within ≡ None
unfolding number_bytes
none_wrong_within = simp (out-roll-Expr, resolve-at)

abbrev with_c : List ℕ
with_c = codes "M" ++ (place_bytes (at 1 2 1) ++ 0 ∷ codes "c")

abbrev with_d : List ℕ
with_d = codes "N" ++ (place_bytes (at 1 2 1) ++ place_bytes (at 2 3 1) ++ 0 ∷ codes "d")

names_within : def_names (flat once_within) ≡ with_c ∷ with_d ∷ codes "x" ∷ []
unfolding number_bytes
names_within = refl

bodies_within : bodies once_within ≡ yes (at 1 2 6) ∷ leaf (at 2 3 24) (op.Use with_c) ∷ leaf (at 3 3 6) (op.Use with_d) ∷ []
unfolding number_bytes
bodies_within = simp (out-roll-Expr, resolve-at)

-- ---- what INSTANCE asks

-- Row: INSTANCE N WITH e <- TRUE
abbrev instance_of_inner : List (List ℕ × Expr) → List modules.Unit → Modules
instance_of_inner cs us = module_of (codes "Row") [] (us ++ instantiate (at 0 3 1) (Some (codes "I")) (codes "N") cs ∷ []) ∷ inner ∷ []

no_such_name : misuse_of (instance_of_inner ((codes "e", yes (at 0 3 24)) ∷ []) (constant (at 0 2 1) (codes "d") ∷ [])) ≡ Some (Unknown (codes "e") (at 0 3 1))
no_such_name = simp (out-roll-Expr, resolve-at)

no_symbol : misuse_of (instance_of_inner [] []) ≡ Some (Unknown (codes "d") (at 0 3 1))
no_symbol = simp (out-roll-Expr, resolve-at)

same_symbol : misuse_of (instance_of_inner [] (define (at 0 2 1) (codes "d") [] (yes (at 0 2 6)) ∷ [])) ≡ None
same_symbol = simp (out-roll-Expr, resolve-at)

symbol_with_parameter : misuse_of (instance_of_inner [] (define (at 0 2 1) (codes "d") (codes "a" ∷ []) (yes (at 0 2 9)) ∷ [])) ≡ Some (Arity (at 0 3 1) 0 1)
symbol_with_parameter = simp (out-roll-Expr, resolve-at)

-- I == TRUE, and then I is the name of an instance
instance_again : misuse_of (instance_of_inner ((codes "d", yes (at 0 3 24)) ∷ []) (define (at 0 2 1) (codes "I") [] (yes (at 0 2 6)) ∷ []))
    ≡ Some (Twice (codes "I") (at 0 2 1) (at 0 3 1))
unfolding number_bytes
instance_again = simp (out-roll-Expr, resolve-at)

-- I == INSTANCE N WITH d <- TRUE twice: the name I is told, not what it brings in
instance_twice : misuse_of (instance_of_inner ((codes "d", yes (at 0 3 24)) ∷ []) (instantiate (at 0 2 1) (Some (codes "I")) (codes "N") ((codes "d", yes (at 0 2 24)) ∷ []) ∷ []))
    ≡ Some (Twice (codes "I") (at 0 2 1) (at 0 3 1))
unfolding number_bytes
instance_twice = simp (out-roll-Expr, resolve-at)

-- N twice, unnamed, with the same name of its own: x is one
same_twice : misuse_of (module_of (codes "Row") [] (constant (at 0 2 1) (codes "d") ∷ instantiate (at 0 3 1) None (codes "N") [] ∷ instantiate (at 0 4 1) None (codes "N") [] ∷ []) ∷ inner ∷ [])
    ≡ None
unfolding number_bytes
same_twice = simp (out-roll-Expr, resolve-at)

-- N: J == INSTANCE Naturals, twice; Row: I == INSTANCE N: it is N's name that is told
nested_twice : misuse_of (
    module_of (codes "Row") [] (instantiate (at 0 2 1) (Some (codes "I")) (codes "N") [] ∷ [])
    ∷ module_of (codes "N") [] (instantiate (at 1 2 1) (Some (codes "J")) (codes "Naturals") [] ∷ instantiate (at 1 3 1) (Some (codes "J")) (codes "Naturals") [] ∷ []) ∷ [])
    ≡ Some (Twice (codes "J") (at 1 2 1) (at 1 3 1))
unfolding number_bytes
nested_twice = refl

-- VARIABLE x, VARIABLE y, G == \E y, x \in BOOLEAN: TRUE: of two names at one place the first in the text
first_of_two : misuse_of (one (variable (at 0 2 1) (codes "x") ∷ variable (at 0 3 1) (codes "y") ∷ define (at 0 4 1) (codes "G") [] (
    node (at 0 4 6) op.Exists (codes "y" ∷ codes "x" ∷ []) (leaf (at 0 4 18) op.BooleanSet ∷ leaf (at 0 4 18) op.BooleanSet ∷ yes (at 0 4 27) ∷ [])) ∷ []))
    ≡ Some (Twice (codes "y") (at 0 3 1) (at 0 4 6))
unfolding number_bytes
first_of_two = simp (out-roll-Expr, resolve-at)

-- RECURSIVE F(_), G == LET F == F(TRUE) IN F: what the LET defines is none of its own announcement
let_of_announced : (resolved_in (announced (at 0 1 1) (codes "F") 1 ∷ []) (node (at 0 2 6) (op.Let ((codes "F", 0) ∷ [])) [] (
    call (at 0 2 15) (codes "F") (yes (at 0 2 17) ∷ []) ∷ name (at 0 2 26) (codes "F") ∷ []))).misuses ≡ []
let_of_announced = simp (resolve-at, function-at)

-- ---- the order of reading

abbrev mentioning : List ℕ → List (List ℕ) → List ℕ × Module
mentioning x ms = module_of x ms []

-- Row extends A and C, A extends B, B extends C
abbrev chain : Modules
chain = mentioning (codes "Row") (codes "A" ∷ codes "C" ∷ []) ∷ mentioning (codes "A") (codes "B" ∷ codes "Naturals" ∷ []) ∷ mentioning (codes "B") (codes "C" ∷ []) ∷ []

next_is_C : course chain (codes "Row") ≡ Next (codes "C") (codes "Row" ∷ codes "A" ∷ codes "B" ∷ [])
next_is_C = refl

whole : course (chain ++ mentioning (codes "C") [] ∷ []) (codes "Row") ≡ Whole (codes "Row" ∷ codes "A" ∷ codes "B" ∷ codes "C" ∷ [])
whole = refl

cycle : course (chain ++ mentioning (codes "C") (codes "A" ∷ []) ∷ []) (codes "Row") ≡ Cycle (codes "A" ∷ codes "B" ∷ codes "C" ∷ codes "A" ∷ [])
cycle = refl

itself_alone : course (mentioning (codes "Row") (codes "Row" ∷ []) ∷ []) (codes "Row") ≡ Cycle (codes "Row" ∷ codes "Row" ∷ [])
itself_alone = refl
