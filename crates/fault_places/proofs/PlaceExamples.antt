-- Trees in several files, by computing.
use Rattle.std.proofs.Common.{◌≡◌, ℕ, true, false, List, [], ◌∷◌, pos}
use Rattle.tla_meaning.specs.declared.expr.Expr.{Expr, roll-Expr}
use Rattle.tla_meaning.specs.declared.job.Job.{Job}
use Rattle.tla_meaning.specs.declared.op.Op.TheVariants as op
use Rattle.tla_meaning.specs.declared.place.Place.{Place}
use Rattle.fault_places.specs.Places.{job_places_below, places_below}
use Rattle.fault_places.proofs.TreesAt.{places-roll}

abbrev at : ℕ → Place
at n = record { file = n; line = 1; col = 1 }

abbrev leaf : ℕ → Expr
leaf n = roll-Expr (record { place = at n; op = op.Int (pos n); args = []; binds = [] })

abbrev tree : ℕ → List Expr → Expr
tree n es = roll-Expr (record { place = at n; op = op.Add; args = es; binds = [] })

-- a node of file 2 below nodes of files 0 and 1
abbrev deep : Expr
deep = tree 0 (leaf 1 ∷ tree 1 (leaf 0 ∷ leaf 2 ∷ []) ∷ [])

three_files : places_below 3 deep ≡ true
three_files = simp (places-roll)

two_files : places_below 2 deep ≡ false
two_files = simp (places-roll)

-- where there is no file, no place is in one
no_file : places_below 0 (leaf 0) ≡ false
no_file = simp (places-roll)

-- a job whose second invariant has a node of file 2
abbrev job : Job
job = record {
  files = [];
  names = [];
  aliases = [];
  cinit = leaf 0;
  assume = leaf 0;
  init = leaf 1;
  next = leaf 1;
  invs = ([], leaf 0) ∷ ([], deep) ∷ [];
}

job_in_three : job_places_below 3 job ≡ true
job_in_three = simp (places-roll)

job_in_two : job_places_below 2 job ≡ false
job_in_two = simp (places-roll)
