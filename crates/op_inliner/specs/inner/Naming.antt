-- Names given back, with pairs of names and their new ones in the place of a renaming.
use Rattle.std.specs.Prelude.{ℕ, Bool, true, false, List, [], ◌∷◌, ◌++◌, map, zip, length, nat_lt, if◌then◌else◌}
use Rattle.tla_meaning.specs.declared.expr.Expr.{Expr, out-Expr}
use Rattle.tla_meaning.specs.declared.op.Op.{Op}
use Rattle.tla_meaning.specs.declared.op.Op.TheVariants as op
use Rattle.tla_meaning.specs.Renamings.{Renaming}
use Rattle.tla_meaning.specs.Scopes.{find_last}
use Rattle.op_inliner.specs.declared.naming.Binder.{Binder}
use Rattle.op_inliner.specs.NamesBack.{Open, backs, either_name, inner_reads, new_names, opened, outer_reads, own_names}

abbrev pub Pairs : Type 0
Pairs = List (List ℕ × List ℕ)

abbrev pub renaming : Pairs → Renaming
renaming ps z = either_name (find_last z ps) z

-- the new names
abbrev pub news : Pairs → List (List ℕ)
news ps = map (λ (p : List ℕ × List ℕ). p.1) ps

-- the length of the longest of these names, and no less than this one
abbrev pub longest_from : ℕ → List (List ℕ) → ℕ
longest_from n [] = n
longest_from n (y ∷ ys) = if nat_lt (longest_from n ys) (length y) then length y else longest_from n ys

-- the names that the children read that are marked, or the others
abbrev pub reads_of : Bool → List Bool → List Open → List (List ℕ)
reads_of b ms ks = if b then inner_reads ms ks else outer_reads ms ks

abbrev pub binds_names : Op → Bool
binds_names (op.Use x) = false
binds_names (op.Param x) = false
binds_names (op.Let ds) = false
binds_names (op.Bound x) = false
binds_names o = true

abbrev pub back_op : Renaming → Op → Op
back_op f (op.Bound x) = op.Bound (f x)
back_op f o = o

abbrev pub back_binds : Expr → List Bool → Pairs → List (List ℕ)
back_binds e ms ps =
    if binds_names (out-Expr e).op then new_names ms (out-Expr e).binds (map opened (out-Expr e).args) (renaming ps) (news ps)
    else (out-Expr e).binds

-- the children, where the binder's names have their new ones in those that are marked
abbrev pub backs_at : Binder → List Expr → Pairs → List Expr
backs_at b es ps =
    let qs : Pairs = ps ++ zip b.names.now b.new_names.now in
    backs b.marks.now (map opened es) (renaming ps) (news ps) (renaming qs) (news qs)

abbrev pub child_back : Bool → Expr → Binder → Pairs → Expr
child_back b e d ps =
    let qs : Pairs = ps ++ zip d.names.now d.new_names.now in
    if b then (opened e).back (renaming qs) (news qs) else (opened e).back (renaming ps) (news ps)

-- the name that a node reads, and those that it binds
abbrev pub own_read : Op → List (List ℕ)
own_read (op.Bound z) = z ∷ []
own_read o = []

abbrev pub own_binds : Expr → List (List ℕ)
own_binds e = if binds_names (out-Expr e).op then own_names (out-Expr e).binds else []
