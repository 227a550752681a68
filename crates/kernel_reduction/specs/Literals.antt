-- The text literals of a job. Source: Specifying Systems, section 16.1.10, on strings.
use Rattle.std.specs.Prelude.{◌++◌, ℕ, not, List, [], ◌∷◌, filter, flat_map}
use Rattle.tla_meaning.specs.declared.expr.Expr.{Expr}
use Rattle.tla_meaning.specs.declared.expr.Expr.TheFolds.{fold-Expr}
use Rattle.tla_meaning.specs.declared.job.Job.{Job}
use Rattle.tla_meaning.specs.declared.op.Op.{Op}
use Rattle.tla_meaning.specs.declared.op.Op.TheVariants as op
use Rattle.tla_meaning.specs.Scopes.{same_text}
use Rattle.snowcat_types.specs.Systems.{parts_of}

abbrev pub literal_here : Op → List (List ℕ)
literal_here (op.Str text) = text ∷ []
literal_here o = []

-- of a tree, a node before its children
unfoldable pub literals_in : Expr → List (List ℕ)
literals_in = fold-Expr (List (List ℕ)) (λ x. literal_here x.op ++ flat_map (λ texts. texts) x.args)

-- each once, in order of first occurrence
abbrev pub each_once : List (List ℕ) → List (List ℕ)
each_once [] = []
each_once (x ∷ xs) = x ∷ filter (λ y. not (same_text x y)) (each_once xs)

abbrev pub all_literals : Job → List (List ℕ)
all_literals job = flat_map literals_in (parts_of job)

-- the different text literals of a job's trees
abbrev pub literals_of : Job → List (List ℕ)
literals_of job = each_once (all_literals job)
