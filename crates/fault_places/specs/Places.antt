-- In which files the places of trees and of faults are. A job's files are numbered from 0, the root.
use Rattle.std.specs.Prelude.{ℕ, ◌<◌, Bool, ◌&&◌, nat_lt}
use Rattle.std.specs.List.{list_all}
use Rattle.tla_meaning.specs.declared.expr.Expr.{Expr}
use Rattle.tla_meaning.specs.declared.expr.Expr.TheFolds.{fold-Expr}
use Rattle.tla_meaning.specs.declared.job.Job.{Job}
use Rattle.tla_meaning.specs.declared.outcome.Outcome.{Outcome}
use Rattle.tla_meaning.specs.declared.outcome.Outcome.TheVariants.{Val, Wrong, Big}

-- each node of a tree has its place in one of the first n files
abbrev pub places_below : ℕ → Expr → Bool
places_below n = fold-Expr Bool (λ x. nat_lt x.place.file n && list_all (λ b. b) x.args)

-- so do the nodes of all trees of a job, and its declared names
abbrev pub job_places_below : ℕ → Job → Bool
job_places_below n job =
    places_below n job.cinit
    && places_below n job.assume
    && places_below n job.init
    && places_below n job.next
    && list_all (λ e. places_below n e.1) job.invs
    && list_all (λ d. nat_lt d.place.file n) job.names

-- a fault has its place in one of the first n files
abbrev pub IsPlaced : ℕ → Outcome → Type 0
IsPlaced n (Val v) = Unit {0}
IsPlaced n (Wrong p) = p.file < n
IsPlaced n (Big p) = p.file < n
