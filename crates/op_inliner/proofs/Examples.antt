-- Expanded trees of small examples.
use Rattle.std.proofs.Common.{◌≡◌, ℕ, suc, Bool, true, false, List, [], ◌∷◌, map, length, nat_lt, codes, pos, arith, refl, ap, ◌∙◌, Some, None}
use Rattle.std.specs.Fmt.{decimal}
use Rattle.std.proofs.lemmas.Fmt.{decimal_digit}
use Rattle.tla_meaning.specs.declared.expr.Def.{Def}
use Rattle.tla_meaning.specs.declared.expr.Expr.{Expr, roll-Expr, out-roll-Expr}
use Rattle.tla_meaning.specs.declared.expr.Expr.TheOpen.{Expr-F}
use Rattle.tla_meaning.specs.declared.expr.Expr.TheFolds.{map-Expr}
use Rattle.tla_meaning.specs.declared.modules.Flat.{Flat}
use Rattle.tla_meaning.specs.declared.op.Form.TheVariants as form
use Rattle.tla_meaning.specs.declared.op.Op.{Op}
use Rattle.tla_meaning.specs.declared.op.Op.TheVariants as op
use Rattle.tla_meaning.specs.declared.place.Place.{Place}
use Rattle.tla_meaning.specs.Folds.{with_lambdas}
use Rattle.op_inliner.specs.Annotations.{annotation_of, body_noted, body_of, noted}
use Rattle.op_inliner.specs.Answers.{Gives, Refuses, checked, depth, expand_answer, greatest, size, sum}
use Rattle.op_inliner.specs.declared.parts.InlineFault.TheVariants.{NoOperator, Reached}
use Rattle.op_inliner.specs.Expansion.{expansion, finish, first_place}
use Rattle.op_inliner.proofs.Answered.{forms-roll}
use Rattle.op_inliner.proofs.CheckSteps.{depth-roll}
use Rattle.op_inliner.proofs.Sizes.{size-roll}
use Rattle.op_inliner.specs.Inlining.{Names, Writing, called, define_name, no_names, pass_names, with_names, write, written, written_of}
use Rattle.tla_meaning.specs.Meaning.{role}
use Rattle.tla_meaning.specs.Scopes.{find_last}
use Rattle.op_inliner.specs.NamesBack.{Open, open_node, opened, with_names_back}
use Rattle.op_inliner.specs.Primes.{Turned, tree_of, tuple_of, kept_of, turned}
use Rattle.op_inliner.specs.declared.parts.PartKind.{PartKind}
use Rattle.op_inliner.specs.declared.parts.PartKind.TheVariants.{Constants, Inv, Start, Step}
use Rattle.tla_meaning.specs.Renamings.{Renaming}
use Rattle.tla_meaning.proofs.MeaningLemmas.{with_lambdas-roll}
use Rattle.op_inliner.proofs.Notes.{parameters-roll}
use Rattle.op_inliner.proofs.Inlined.{written-roll}
use Rattle.op_inliner.proofs.GivenBack.{opened-roll}
use Rattle.op_inliner.proofs.Rolls.{turned-roll}

abbrev pub at : ℕ → Place
at n = record { file = 0; line = 1; col = n }

abbrev pub tree : ℕ → Op → List (List ℕ) → List Expr → Expr
tree n o xs es = roll-Expr (record { place = at n; op = o; args = es; binds = xs })

abbrev define : List ℕ → List (List ℕ) → Expr → Def
define x ps e = record { name = x; place = at 1; params = ps; note = []; body = e }

abbrev flat : List Def → Flat
flat ds = record { files = []; decls = record { name = codes "v"; place = at 1; constant = false; note = [] } ∷ []; defs = ds; assumes = []; aliases = [] }

no_note : annotation_of [] ≡ None
unfolding annotation_of
no_note = refl

written-at : (x : Expr-F Expr) (ns : Names) (n : ℕ) → written (roll-Expr x) ns n ≡ write (map-Expr Expr Writing written x) (role x.op (length x.binds)) ns n
written-at x ns n = ap (λ (k : Writing). k ns n) (written-roll x)

back-at : (x : Expr-F Expr) (f : Renaming) (u : List (List ℕ)) →
    (opened (roll-Expr x)).back f u ≡ (open_node (map-Expr Expr Open opened x) (role x.op (length x.binds))).back f u
back-at x f u = ap (λ (k : Open). k.back f u) (opened-roll x)

binds-at : (x : Expr-F Expr) → (opened (roll-Expr x)).binds ≡ (open_node (map-Expr Expr Open opened x) (role x.op (length x.binds))).binds
binds-at x = ap (λ (k : Open). k.binds) (opened-roll x)

reads-at : (x : Expr-F Expr) → (opened (roll-Expr x)).reads ≡ (open_node (map-Expr Expr Open opened x) (role x.op (length x.binds))).reads
reads-at x = ap (λ (k : Open). k.reads) (opened-roll x)

-- Op(a) == \E x \in a: x = a, and Inv == \E x \in {}: Op(x)
abbrev op_body : Expr
op_body = tree 3 op.Exists (codes "x" ∷ []) (tree 4 (op.Param (codes "a")) [] [] ∷ tree 5 op.Eq [] (tree 6 (op.Bound (codes "x")) [] [] ∷ tree 7 (op.Param (codes "a")) [] [] ∷ []) ∷ [])

abbrev captures : Expr
captures = tree 10 op.Exists (codes "x" ∷ []) (tree 11 op.SetEnum [] [] ∷ tree 12 (op.Use (codes "Op")) [] (tree 13 (op.Bound (codes "x")) [] [] ∷ []) ∷ [])

abbrev two : Flat
two = flat (define (codes "Op") (codes "a" ∷ []) op_body ∷ define (codes "Inv") [] captures ∷ [])

-- with the names of its levels
levels : written_of two (at 0) (codes "Inv") ≡
    tree 10 op.Exists ((0 ∷ 0 ∷ codes "x") ∷ []) (tree 11 op.SetEnum [] []
    ∷ tree 3 op.Exists ((0 ∷ 1 ∷ codes "x") ∷ []) (tree 13 (op.Bound (0 ∷ 0 ∷ codes "x")) [] []
    ∷ tree 5 op.Eq [] (tree 6 (op.Bound (0 ∷ 1 ∷ codes "x")) [] [] ∷ tree 13 (op.Bound (0 ∷ 0 ∷ codes "x")) [] [] ∷ []) ∷ []) ∷ [])
levels = simp (no_note, with_lambdas-roll, written-at)

-- the inner x is renamed, since the argument is the outer one
given_back : with_names_back (written_of two (at 0) (codes "Inv")) ≡
    tree 10 op.Exists (codes "x" ∷ []) (tree 11 op.SetEnum [] []
    ∷ tree 3 op.Exists (codes "x'" ∷ []) (tree 13 (op.Bound (codes "x")) [] []
    ∷ tree 5 op.Eq [] (tree 6 (op.Bound (codes "x'")) [] [] ∷ tree 13 (op.Bound (codes "x")) [] [] ∷ []) ∷ []) ∷ [])
given_back = ap with_names_back levels ∙ simp (back-at, reads-at, binds-at)

-- Up(a) == [v EXCEPT ![1] = [@ EXCEPT ![2] = a]] and Inv == [v EXCEPT ![1] = Up(@)]: the Excepts of Up, in which the
-- argument would be read as their own @, get a name, and no other
abbrev at_sign : List ℕ
at_sign = codes "@"

abbrev nested : Expr
nested = tree 1 (op.Except (1 ∷ [])) (at_sign ∷ []) (tree 2 (op.Name 0 false) [] [] ∷ tree 3 (op.Int (pos 1)) [] []
    ∷ tree 4 (op.Except (1 ∷ [])) (at_sign ∷ []) (tree 5 (op.Bound at_sign) [] [] ∷ tree 6 (op.Int (pos 2)) [] [] ∷ tree 7 (op.Bound at_sign) [] [] ∷ []) ∷ [])

excepts_stay : with_names_back (written_of (flat (define (codes "Inv") [] nested ∷ [])) (at 0) (codes "Inv")) ≡ nested
excepts_stay = ap with_names_back first ∙ simp (back-at, reads-at, binds-at)
  where
    first : written_of (flat (define (codes "Inv") [] nested ∷ [])) (at 0) (codes "Inv") ≡
        tree 1 (op.Except (1 ∷ [])) ((0 ∷ 0 ∷ at_sign) ∷ []) (tree 2 (op.Name 0 false) [] [] ∷ tree 3 (op.Int (pos 1)) [] []
        ∷ tree 4 (op.Except (1 ∷ [])) ((0 ∷ 1 ∷ at_sign) ∷ []) (tree 5 (op.Bound (0 ∷ 0 ∷ at_sign)) [] [] ∷ tree 6 (op.Int (pos 2)) [] [] ∷ tree 7 (op.Bound (0 ∷ 1 ∷ at_sign)) [] [] ∷ []) ∷ [])
    first = simp (no_note, with_lambdas-roll, written-at)

abbrev brought : Expr
brought = tree 4 (op.Except (1 ∷ [])) (at_sign ∷ []) (tree 5 (op.Name 0 false) [] [] ∷ tree 6 (op.Int (pos 2)) [] [] ∷ tree 7 (op.Param (codes "a")) [] [] ∷ [])

abbrev bringing : Expr
bringing = tree 1 (op.Except (1 ∷ [])) (at_sign ∷ []) (tree 2 (op.Name 0 false) [] [] ∷ tree 3 (op.Int (pos 1)) [] []
    ∷ tree 8 (op.Use (codes "Up")) [] (tree 9 (op.Bound at_sign) [] [] ∷ []) ∷ [])

an_except_is_named : with_names_back (written_of (flat (define (codes "Up") (codes "a" ∷ []) brought ∷ define (codes "Inv") [] bringing ∷ [])) (at 0) (codes "Inv")) ≡
    tree 1 (op.Except (1 ∷ [])) (at_sign ∷ []) (tree 2 (op.Name 0 false) [] [] ∷ tree 3 (op.Int (pos 1)) [] []
    ∷ tree 4 (op.Except (1 ∷ [])) (codes "@'" ∷ []) (tree 5 (op.Name 0 false) [] [] ∷ tree 6 (op.Int (pos 2)) [] [] ∷ tree 9 (op.Bound at_sign) [] [] ∷ []) ∷ [])
an_except_is_named = ap with_names_back first ∙ simp (back-at, reads-at, binds-at)
  where
    first : written_of (flat (define (codes "Up") (codes "a" ∷ []) brought ∷ define (codes "Inv") [] bringing ∷ [])) (at 0) (codes "Inv") ≡
        tree 1 (op.Except (1 ∷ [])) ((0 ∷ 0 ∷ at_sign) ∷ []) (tree 2 (op.Name 0 false) [] [] ∷ tree 3 (op.Int (pos 1)) [] []
        ∷ tree 4 (op.Except (1 ∷ [])) ((0 ∷ 1 ∷ at_sign) ∷ []) (tree 5 (op.Name 0 false) [] [] ∷ tree 6 (op.Int (pos 2)) [] [] ∷ tree 9 (op.Bound (0 ∷ 0 ∷ at_sign)) [] [] ∷ []) ∷ [])
    first = simp (no_note, with_lambdas-roll, written-at)

-- UNCHANGED <<v, w>> at place 1: v' = v /\ w' = w, the names at their own places
abbrev pair : Expr
pair = tree 1 op.Unchanged [] (tree 11 op.Tuple [] (tree 13 (op.Name 0 false) [] [] ∷ tree 16 (op.Name 1 false) [] [] ∷ []) ∷ [])

turned-at : (part : PartKind) (c : ℕ → Bool) (x : Expr-F Expr) (n : ℕ) → (turned part c (roll-Expr x)).tree n ≡ tree_of part c x.place x.op x.binds (map (turned part c) x.args) n
turned-at part c x n = ap (λ (t : Turned). t.tree n) (turned-roll part c x)

kept-at : (part : PartKind) (c : ℕ → Bool) (x : Expr-F Expr) (q : Place) (n : ℕ) → (turned part c (roll-Expr x)).kept q n ≡ kept_of part c x.place x.op x.binds (map (turned part c) x.args) q n
kept-at part c x q n = ap (λ (t : Turned). t.kept q n) (turned-roll part c x)

tuple-at : (part : PartKind) (c : ℕ → Bool) (x : Expr-F Expr) → (turned part c (roll-Expr x)).is_tuple ≡ tuple_of x.op (map (turned part c) x.args)
tuple-at part c x = ap (λ (t : Turned). t.is_tuple) (turned-roll part c x)

pair_turned : (turned Step (λ i. false) pair).tree 0 ≡
    tree 1 op.And [] (tree 1 op.Eq [] (tree 13 (op.Name 0 true) [] [] ∷ tree 13 (op.Name 0 false) [] [] ∷ [])
    ∷ tree 1 op.Eq [] (tree 16 (op.Name 1 true) [] [] ∷ tree 16 (op.Name 1 false) [] [] ∷ []) ∷ [])
pair_turned = simp (turned-at, kept-at)

-- ApaFoldSeqLeft(Plus, 0, v) with Plus(p, q) == p + q
abbrev plus : Expr
plus = tree 1 op.Add [] (tree 2 (op.Param (codes "p")) [] [] ∷ tree 3 (op.Param (codes "q")) [] [] ∷ [])

abbrev folding : Expr
folding = tree 4 op.Fold [] (tree 5 (op.Use (codes "Plus")) [] [] ∷ tree 6 (op.Int (pos 0)) [] [] ∷ tree 7 (op.Name 0 false) [] [] ∷ [])

fold_written : written_of (flat (define (codes "Plus") (codes "p" ∷ codes "q" ∷ []) plus ∷ define (codes "Inv") [] folding ∷ [])) (at 0) (codes "Inv") ≡
    tree 4 op.Fold ((0 ∷ 0 ∷ codes "a") ∷ (0 ∷ 0 ∷ codes "b") ∷ []) (
    tree 1 op.Add [] (tree 5 (op.Bound (0 ∷ 0 ∷ codes "a")) [] [] ∷ tree 5 (op.Bound (0 ∷ 0 ∷ codes "b")) [] [] ∷ [])
    ∷ tree 6 (op.Int (pos 0)) [] [] ∷ tree 7 (op.Name 0 false) [] [] ∷ [])
fold_written = simp (no_note, with_lambdas-roll, out-roll-Expr, written-at)

-- Up(a) == [v EXCEPT ![1] = [v EXCEPT ![2] = a]] and Inv == [v EXCEPT ![1] = Up(@)]: both Excepts of Up get a name, and
-- neither the other's
abbrev twice : Expr
twice = tree 4 (op.Except (1 ∷ [])) (at_sign ∷ []) (tree 5 (op.Name 0 false) [] [] ∷ tree 6 (op.Int (pos 1)) [] []
    ∷ tree 7 (op.Except (1 ∷ [])) (at_sign ∷ []) (tree 8 (op.Name 0 false) [] [] ∷ tree 9 (op.Int (pos 2)) [] [] ∷ tree 10 (op.Param (codes "a")) [] [] ∷ []) ∷ [])

abbrev twice_written : Expr
twice_written = tree 1 (op.Except (1 ∷ [])) ((0 ∷ 0 ∷ at_sign) ∷ []) (tree 2 (op.Name 0 false) [] [] ∷ tree 3 (op.Int (pos 1)) [] []
    ∷ tree 4 (op.Except (1 ∷ [])) ((0 ∷ 1 ∷ at_sign) ∷ []) (tree 5 (op.Name 0 false) [] [] ∷ tree 6 (op.Int (pos 1)) [] []
    ∷ tree 7 (op.Except (1 ∷ [])) ((0 ∷ 2 ∷ at_sign) ∷ []) (tree 8 (op.Name 0 false) [] [] ∷ tree 9 (op.Int (pos 2)) [] [] ∷ tree 9 (op.Bound (0 ∷ 0 ∷ at_sign)) [] [] ∷ []) ∷ []) ∷ [])

nested_names : with_names_back (written_of (flat (define (codes "Up") (codes "a" ∷ []) twice ∷ define (codes "Inv") [] bringing ∷ [])) (at 0) (codes "Inv")) ≡
    tree 1 (op.Except (1 ∷ [])) (at_sign ∷ []) (tree 2 (op.Name 0 false) [] [] ∷ tree 3 (op.Int (pos 1)) [] []
    ∷ tree 4 (op.Except (1 ∷ [])) (codes "@'" ∷ []) (tree 5 (op.Name 0 false) [] [] ∷ tree 6 (op.Int (pos 1)) [] []
    ∷ tree 7 (op.Except (1 ∷ [])) (codes "@''" ∷ []) (tree 8 (op.Name 0 false) [] [] ∷ tree 9 (op.Int (pos 2)) [] [] ∷ tree 9 (op.Bound at_sign) [] [] ∷ []) ∷ []) ∷ [])
nested_names = ap with_names_back first ∙ simp (back-at, reads-at, binds-at)
  where
    first : written_of (flat (define (codes "Up") (codes "a" ∷ []) twice ∷ define (codes "Inv") [] bringing ∷ [])) (at 0) (codes "Inv") ≡ twice_written
    first = simp (no_note, with_lambdas-roll, written-at)

-- ---- annotations

abbrev annotate : List ℕ → Def → Def
annotate t d = record d { note = t; place = at 20 }

given_note : annotation_of (codes "sum @type: (Int, Int) => Int; @type: Bool;") ≡ Some (codes " (Int, Int) => Int")
unfolding annotation_of
given_note = refl

no_type : annotation_of (codes "@type: Int @type: Bool") ≡ None
unfolding annotation_of
no_type = refl

-- Plus(p, q) == p + q with an annotation, and Inv == Plus(1, v): the result and each argument carry it
abbrev adds : Expr
adds = tree 4 (op.Use (codes "Plus")) [] (tree 5 (op.Int (pos 1)) [] [] ∷ tree 6 (op.Name 0 false) [] [] ∷ [])

zero_shown : decimal 0 ≡ codes "0"
zero_shown = decimal_digit 0 (omega arith)

one_shown : decimal 1 ≡ codes "1"
one_shown = decimal_digit 1 (omega arith)

two_shown : decimal 2 ≡ codes "2"
two_shown = decimal_digit 2 (omega arith)

abbrev annotated_plus : Def
annotated_plus = annotate (codes "sum @type: (Int, Int) => Int; @type: Bool;") (define (codes "Plus") (codes "p" ∷ codes "q" ∷ []) plus)

plus_body : body_of annotated_plus ≡
    noted (at 20) (codes "0  (Int, Int) => Int") (tree 1 op.Add []
    (noted (at 20) (codes "1  (Int, Int) => Int") (tree 2 (op.Param (codes "p")) [] [])
    ∷ noted (at 20) (codes "2  (Int, Int) => Int") (tree 3 (op.Param (codes "q")) [] []) ∷ []))
plus_body = ap (λ o. body_noted o annotated_plus (with_lambdas plus)) given_note ∙ simp (with_lambdas-roll, parameters-roll, zero_shown, one_shown, two_shown)

plus_noted : written_of (flat (annotated_plus ∷ define (codes "Inv") [] adds ∷ [])) (at 0) (codes "Inv") ≡
    noted (at 20) (codes "0  (Int, Int) => Int") (tree 1 op.Add []
    (noted (at 20) (codes "1  (Int, Int) => Int") (tree 5 (op.Int (pos 1)) [] []) ∷ noted (at 20) (codes "2  (Int, Int) => Int") (tree 6 (op.Name 0 false) [] []) ∷ []))
plus_noted =
    ap (λ (body : Expr). called (at 0) (find_last (codes "Inv") (with_names (define (codes "Inv") [] adds ∷ [])
    (define_name (codes "Plus") (λ ts. written body (pass_names (codes "p" ∷ codes "q" ∷ []) ts no_names)) no_names)).named) [] 0) plus_body
    ∙ simp (no_note, with_lambdas-roll, written-at)

-- UNCHANGED of an annotated variable is an equation of annotated ones, and of an annotated tuple the conjunction over its items
abbrev note : List ℕ
note = codes "0 Int"

variable_kept : (turned Step (λ i. false) (tree 1 op.Unchanged [] (noted (at 20) note (tree 3 (op.Name 0 false) [] []) ∷ []))).tree 0 ≡
    tree 1 op.Eq [] (noted (at 20) note (tree 3 (op.Name 0 true) [] []) ∷ noted (at 20) note (tree 3 (op.Name 0 false) [] []) ∷ [])
variable_kept = simp (turned-at, kept-at, tuple-at)

tuple_kept : (turned Step (λ i. false) (tree 1 op.Unchanged [] (noted (at 20) note (tree 2 op.Tuple [] (tree 3 (op.Name 0 false) [] [] ∷ [])) ∷ []))).tree 0 ≡
    tree 1 op.And [] (tree 1 op.Eq [] (tree 3 (op.Name 0 true) [] [] ∷ tree 3 (op.Name 0 false) [] [] ∷ []) ∷ [])
tuple_kept = simp (turned-at, kept-at, tuple-at)

-- ---- primes

-- a prime over a variable that no part allows stands at the variable's own token; over a constant it changes nothing
abbrev primed_sum : Expr
primed_sum = tree 9 op.Prime [] (tree 4 op.Add [] (tree 3 (op.Name 0 false) [] [] ∷ tree 5 (op.Name 1 false) [] [] ∷ []) ∷ [])

abbrev first_is_constant : ℕ → Bool
first_is_constant i = nat_lt i 1

in_a_step : (turned Step first_is_constant primed_sum).tree 0 ≡ tree 4 op.Add [] (tree 3 (op.Name 0 false) [] [] ∷ tree 5 (op.Name 1 true) [] [] ∷ [])
in_a_step = simp (turned-at)

in_a_start : (turned Start first_is_constant primed_sum).tree 0 ≡ tree 4 op.Add [] (tree 3 (op.Name 0 false) [] [] ∷ tree 5 (op.Outside form.Prime) [] [] ∷ [])
in_a_start = simp (turned-at)

twice_primed : (turned Step first_is_constant (tree 10 op.Prime [] (primed_sum ∷ []))).tree 0 ≡
    tree 4 op.Add [] (tree 3 (op.Name 0 false) [] [] ∷ tree 5 (op.Outside form.DoublePrime) [] [] ∷ [])
twice_primed = simp (turned-at)

of_constants : (turned Constants first_is_constant (tree 4 op.Add [] (tree 3 (op.Name 0 false) [] [] ∷ tree 5 (op.Name 1 false) [] [] ∷ []))).tree 0 ≡
    tree 4 op.Add [] (tree 3 (op.Name 0 false) [] [] ∷ tree 5 (op.Outside form.Variable) [] [] ∷ [])
of_constants = simp (turned-at)

-- ---- answers

size-at : (x : Expr-F Expr) → size (roll-Expr x) ≡ suc (sum (map size x.args))
size-at x = size-roll x

depth-at : (x : Expr-F Expr) → depth (roll-Expr x) ≡ suc (greatest (map depth x.args))
depth-at x = depth-roll x

-- a name that nothing defines, and one with parameters
no_operator : expand_answer (flat (define (codes "Plus") (codes "p" ∷ codes "q" ∷ []) plus ∷ [])) (codes "Inv") Inv ≡ Refuses (NoOperator (codes "Inv"))
no_operator = refl

with_parameters : expand_answer (flat (define (codes "Plus") (codes "p" ∷ codes "q" ∷ []) plus ∷ [])) (codes "Plus") Inv ≡ Refuses (NoOperator (codes "Plus"))
with_parameters = refl

-- a prime in an invariant
abbrev primed_v : Flat
primed_v = flat (define (codes "Inv") [] (tree 9 op.Prime [] (tree 3 (op.Name 0 false) [] [] ∷ [])) ∷ [])

primed_written : written_of primed_v first_place (codes "Inv") ≡ tree 9 op.Prime [] (tree 3 (op.Name 0 false) [] [] ∷ [])
primed_written = simp (no_note, with_lambdas-roll, written-at)

prime_left : expansion Inv primed_v (codes "Inv") ≡ tree 3 (op.Outside form.Prime) [] []
prime_left = ap (finish Inv primed_v) primed_written ∙ simp (turned-at, back-at)

reached : expand_answer primed_v (codes "Inv") Inv ≡ Refuses (Reached form.Prime (at 3))
reached = ap (checked (codes "Inv")) prime_left ∙ simp (size-at, depth-at, forms-roll)

-- the same operator in Next is a primed variable
primed_left : expansion Step primed_v (codes "Inv") ≡ tree 3 (op.Name 0 true) [] []
primed_left = ap (finish Step primed_v) primed_written ∙ simp (turned-at, back-at)

step_given : expand_answer primed_v (codes "Inv") Step ≡ Gives (tree 3 (op.Name 0 true) [] [])
step_given = ap (checked (codes "Inv")) primed_left ∙ simp (size-at, depth-at, forms-roll)

-- what an argument brings that is not read is not there: Const(a) == 1, and Inv == Const(v')
abbrev unread : Flat
unread = flat (define (codes "Const") (codes "a" ∷ []) (tree 2 (op.Int (pos 1)) [] [])
    ∷ define (codes "Inv") [] (tree 5 (op.Use (codes "Const")) [] (tree 7 op.Prime [] (tree 6 (op.Name 0 false) [] [] ∷ []) ∷ [])) ∷ [])

unread_argument : written_of unread first_place (codes "Inv") ≡ tree 2 (op.Int (pos 1)) [] []
unread_argument = simp (no_note, with_lambdas-roll, written-at)
