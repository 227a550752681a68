-- What is answered of an operator of a flat module, and of a whole job.
use Rattle.std.specs.Prelude.{◌≡◌, ℕ, suc, Result, Ok, Err, ◌+◌, true, List, [], ◌∷◌, ◌++◌, codes, Option, Some, None, nat_lt, if◌then◌else◌}
use Rattle.tla_meaning.specs.declared.expr.Expr.{Expr}
use Rattle.tla_meaning.specs.declared.expr.Expr.TheFolds.{fold-Expr}
use Rattle.tla_meaning.specs.declared.job.Job.{Job}
use Rattle.tla_meaning.specs.declared.modules.Flat.{Flat}
use Rattle.tla_meaning.specs.declared.op.Form.{Form}
use Rattle.tla_meaning.specs.declared.op.Op.{Op}
use Rattle.tla_meaning.specs.declared.op.Op.TheVariants as op
use Rattle.tla_meaning.specs.declared.place.Place.{Place}
use Rattle.tla_meaning.specs.Jobs.{names_of}
use Rattle.tla_meaning.specs.Scopes.{find_last}
use Rattle.op_inliner.specs.declared.parts.InlineFault.{InlineFault}
use Rattle.op_inliner.specs.declared.parts.InlineFault.TheVariants.{Memory, NoOperator, TooLarge, TooDeep, Reached}
use Rattle.op_inliner.specs.declared.parts.PartKind.{PartKind}
use Rattle.op_inliner.specs.declared.parts.PartKind.TheVariants.{Constants, Start, Step, Inv}
use Rattle.op_inliner.specs.Expansion.{assumptions_expanded, at_first, expansion}
use Rattle.op_inliner.specs.Known.{arities_of, wants}
use Rattle.op_inliner.specs.Places.{joined}

-- ---- the size of a tree, and the forms in it

abbrev pub sum : List ℕ → ℕ
sum [] = 0
sum (n ∷ ns) = n + sum ns

abbrev pub greatest : List ℕ → ℕ
greatest [] = 0
greatest (n ∷ ns) = if nat_lt (greatest ns) n then n else greatest ns

-- the number of nodes
unfoldable pub size : Expr → ℕ
size = fold-Expr ℕ (λ x. suc (sum x.args))

-- the number of levels: a leaf is one
unfoldable pub depth : Expr → ℕ
depth = fold-Expr ℕ (λ x. suc (greatest x.args))

abbrev pub own_form : Op → Place → List (Form × Place)
own_form (op.Outside f) p = (f, p) ∷ []
own_form o p = []

-- the forms in a tree with their places, a node before its children
unfoldable pub forms : Expr → List (Form × Place)
forms = fold-Expr (List (Form × Place)) (λ x. own_form x.op x.place ++ joined x.args)

-- the first of them
abbrev pub first_form : List (Form × Place) → Option (Form × Place)
first_form [] = None
first_form (f ∷ fs) = Some f

-- a number that stands for every greater one
abbrev pub up_to : ℕ → ℕ → ℕ
up_to limit n = if nat_lt limit n then limit else n

-- ---- one operator

pub data Answer (X : Type 0) : Type 0 where
  Gives : X → Answer X
  Refuses : InlineFault → Answer X

-- what a call says of an answer: it, or that memory ran out
abbrev pub IsAnswered : {X : Type 0} → Answer X → Result X InlineFault → Type 0
IsAnswered a (Ok x) = a ≡ Gives x
IsAnswered a (Err (Memory e)) = Unit {0}
IsAnswered a (Err (NoOperator x)) = a ≡ Refuses (NoOperator x)
IsAnswered a (Err (TooLarge x n)) = a ≡ Refuses (TooLarge x n)
IsAnswered a (Err (TooDeep x)) = a ≡ Refuses (TooDeep x)
IsAnswered a (Err (Reached f p)) = a ≡ Refuses (Reached f p)

abbrev pub without_forms : Expr → List (Form × Place) → Answer Expr
without_forms e [] = Gives e
without_forms e (f ∷ fs) = Refuses (Reached f.0 f.1)

-- a tree of at most 1,000,000 nodes and 400 levels that reaches no form
abbrev pub checked : List ℕ → Expr → Answer Expr
checked x e =
    if nat_lt 1000000 (size e) then Refuses (TooLarge x (up_to 1000000000000 (size e)))
    else (if nat_lt 400 (depth e) then Refuses (TooDeep x) else without_forms e (forms e))

-- what is answered of a name in a part
abbrev pub expand_answer : Flat → List ℕ → PartKind → Answer Expr
expand_answer flat x part =
    if wants 0 (find_last x (arities_of flat.defs [])) then checked x (expansion part flat x) else Refuses (NoOperator x)

-- ---- jobs

abbrev pub then_with : {X : Type 0} → {Y : Type 0} → Answer X → (X → Answer Y) → Answer Y
then_with (Gives x) f = f x
then_with (Refuses r) f = Refuses r

abbrev pub cinit_answer : Flat → Option (List ℕ) → Answer Expr
cinit_answer flat None = Gives (at_first (op.Bool true) [])
cinit_answer flat (Some x) = expand_answer flat x Constants

-- the assumptions count as one operator of this name
abbrev pub assume_answer : Flat → Answer Expr
assume_answer flat = checked (codes "ASSUME") (assumptions_expanded flat)

abbrev pub invs_answer : Flat → List (List ℕ) → Answer (List (List ℕ × Expr))
invs_answer flat [] = Gives []
invs_answer flat (x ∷ xs) =
    then_with (expand_answer flat x Inv) (λ e. then_with (invs_answer flat xs) (λ es. Gives ((x, e) ∷ es)))

-- CInit, the assumptions, Init, Next and the invariants, in this order
abbrev pub job_answer : Flat → List ℕ → List ℕ → Option (List ℕ) → List (List ℕ) → Answer Job
job_answer flat init next cinit invs =
    then_with (cinit_answer flat cinit) (λ c.
    then_with (assume_answer flat) (λ a.
    then_with (expand_answer flat init Start) (λ i.
    then_with (expand_answer flat next Step) (λ n.
    then_with (invs_answer flat invs) (λ vs.
    Gives (record { files = flat.files; names = names_of flat; aliases = flat.aliases; cinit = c; assume = a; init = i; next = n; invs = vs }))))))
