-- Infinite sets and text literals in small trees, by computing.
use Rattle.std.proofs.Common.{◌≡◌, ℕ, true, false, List, [], ◌∷◌, codes, pos, refl}
use Rattle.tla_meaning.specs.declared.expr.Expr.{Expr, roll-Expr}
use Rattle.tla_meaning.specs.declared.op.Op.{Op}
use Rattle.tla_meaning.specs.declared.op.Op.TheVariants as op
use Rattle.tla_meaning.specs.declared.place.Place.{Place}
use Rattle.kernel_reduction.specs.Infinite.{infinite_in}
use Rattle.kernel_reduction.specs.Literals.{literals_in, each_once}
use Rattle.kernel_reduction.proofs.Places.{places-roll}
use Rattle.kernel_reduction.proofs.Once.{literals-roll}

abbrev at : ℕ → Place
at n = record { file = 0; line = 1; col = n }

abbrev tree : ℕ → Op → List Expr → Expr
tree n o es = roll-Expr (record { place = at n; op = o; args = es; binds = [] })

abbrev leaf : ℕ → Op → Expr
leaf n o = tree n o []

abbrev one : ℕ → Expr
one n = leaf n (op.Int (pos 1))

abbrev yes : ℕ → Expr
yes n = leaf n (op.Bool true)

abbrev over : ℕ → Op → List ℕ → Expr → Expr → Expr
over n o x s e = roll-Expr (record { place = at n; op = o; args = s ∷ e ∷ []; binds = x ∷ [] })

abbrev naturals_from : ℕ → ℕ → Expr
naturals_from n m = tree n op.FunSet (tree n op.SetEnum (one n ∷ []) ∷ leaf m op.NatSet ∷ [])

-- `1 \in Int`, `1 \notin Int`, `{1} \subseteq Int`: what is asked for its members is a form
in_int : infinite_in (tree 3 op.In (one 1 ∷ leaf 7 op.IntSet ∷ [])) false ≡ []
in_int = simp places-roll

outside_int : infinite_in (tree 3 op.NotIn (one 1 ∷ leaf 10 op.IntSet ∷ [])) false ≡ []
outside_int = simp places-roll

below_int : infinite_in (tree 5 op.SubsetEq (tree 1 op.SetEnum (one 2 ∷ []) ∷ leaf 16 op.IntSet ∷ [])) false ≡ []
below_int = simp places-roll

-- `Int \in {Int}`: neither the other side nor an item is
int_in_int : infinite_in (tree 5 op.In (leaf 1 op.IntSet ∷ tree 9 op.SetEnum (leaf 10 op.IntSet ∷ []) ∷ [])) false ≡ at 1 ∷ at 10 ∷ []
int_in_int = simp places-roll

-- `Int = Int`
int_is_int : infinite_in (tree 5 op.Eq (leaf 1 op.IntSet ∷ leaf 7 op.IntSet ∷ [])) false ≡ at 1 ∷ at 7 ∷ []
int_is_int = simp places-roll

-- `1 \in [{1} -> Nat] => TRUE`
functions_into : infinite_in (tree 20 op.Implies (tree 3 op.In (one 1 ∷ naturals_from 8 15 ∷ []) ∷ yes 23 ∷ [])) false ≡ []
functions_into = simp places-roll

-- `1 \in [Nat -> {1}]`: the domain is none
functions_from : infinite_in (tree 3 op.In (one 1 ∷ tree 7 op.FunSet (leaf 8 op.NatSet ∷ tree 15 op.SetEnum (one 16 ∷ []) ∷ []) ∷ [])) false ≡ at 8 ∷ []
functions_from = simp places-roll

-- `\E f \in [{1} -> Nat] : TRUE`: a domain that is walked is none
walked : infinite_in (over 1 op.Exists (codes "f") (naturals_from 9 16) (yes 23)) false ≡ at 16 ∷ []
walked = simp places-roll

-- `1 \in SUBSET Seq(STRING)`, `1 \in [a : {1} \X Int]`
deeper : infinite_in (tree 3 op.In (one 1 ∷ tree 7 op.Powerset (tree 14 op.SeqSet (leaf 18 op.StringSet ∷ []) ∷ []) ∷ [])) false ≡ []
deeper = simp places-roll

records : infinite_in (tree 3 op.In (one 1
    ∷ tree 7 (op.RecSet (codes "a" ∷ [])) (tree 16 op.Product (tree 12 op.SetEnum (one 13 ∷ []) ∷ leaf 19 op.IntSet ∷ []) ∷ []) ∷ [])) false ≡ []
records = simp places-roll

-- `Seq(Int) = SUBSET Int`: the operand of Seq is a form, and that of SUBSET only where SUBSET is in one
sequences : infinite_in (tree 10 op.Eq (tree 1 op.SeqSet (leaf 5 op.IntSet ∷ []) ∷ tree 12 op.Powerset (leaf 19 op.IntSet ∷ []) ∷ [])) false ≡ at 1 ∷ at 19 ∷ []
sequences = simp places-roll

-- `1 \in {} \cup Nat`, `1 \in IF TRUE THEN Nat ELSE {}`: no form has a union or an IF
union : infinite_in (tree 3 op.In (one 1 ∷ tree 10 op.Cup (leaf 7 op.SetEnum ∷ leaf 15 op.NatSet ∷ []) ∷ [])) false ≡ at 15 ∷ []
union = simp places-roll

choice : infinite_in (tree 3 op.In (one 1 ∷ tree 7 op.If (yes 10 ∷ leaf 20 op.NatSet ∷ leaf 29 op.SetEnum ∷ []) ∷ [])) false ≡ at 20 ∷ []
choice = simp places-roll

-- an annotation passes on where it stands
annotated : infinite_in (tree 3 op.In (one 1 ∷ tree 7 (op.Noted (codes "a")) (leaf 7 op.IntSet ∷ []) ∷ [])) false ≡ []
annotated = simp places-roll

annotated_alone : infinite_in (tree 7 (op.Noted (codes "a")) (leaf 7 op.IntSet ∷ [])) false ≡ at 7 ∷ []
annotated_alone = simp places-roll

-- ---- text literals

abbrev word : ℕ → List ℕ → Expr
word n x = leaf n (op.Str x)

-- `{"b", "a"} = {"a", "c"}`
literals : literals_in (tree 12 op.Eq (tree 1 op.SetEnum (word 2 (codes "b") ∷ word 7 (codes "a") ∷ [])
    ∷ tree 14 op.SetEnum (word 15 (codes "a") ∷ word 20 (codes "c") ∷ []) ∷ []))
    ≡ codes "b" ∷ codes "a" ∷ codes "a" ∷ codes "c" ∷ []
literals = simp literals-roll

once : each_once (codes "b" ∷ codes "a" ∷ codes "a" ∷ codes "b" ∷ codes "c" ∷ []) ≡ codes "b" ∷ codes "a" ∷ codes "c" ∷ []
once = refl

-- an index `.a` is a literal, the name of a field is none
fields : literals_in (tree 1 (op.Except (1 ∷ [])) (tree 2 (op.Record (codes "a" ∷ [])) (one 9 ∷ []) ∷ word 20 (codes "b") ∷ one 24 ∷ []))
    ≡ codes "b" ∷ []
fields = simp literals-roll
