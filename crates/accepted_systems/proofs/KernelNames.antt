-- A kernel tree that is built of a tree without names past the constants reads no variable.
use Rattle.std.proofs.Common.{◌≡◌, ℕ, suc, ◌≤◌, Bool, true, false, not, cond, ◌&&◌, List, [], ◌∷◌, filter, length, nat_lt, nat_le, refl, sym, ◌∙◌, subst, arith, Option}
use Rattle.tla_meaning.specs.declared.actions.Assignable.{Assignable}
use Rattle.tla_meaning.specs.declared.actions.Assignable.TheVariants as assignable
use Rattle.tla_meaning.specs.declared.expr.Decl.{Decl}
use Rattle.tla_meaning.specs.declared.expr.Expr.{Expr}
use Rattle.tla_meaning.specs.Actions.{counts}
use Rattle.tla_meaning.proofs.Views.{false≢true}
use Rattle.kernel_trees.specs.declared.action_kind.ActionKind.TheVariants.{Constants}
use Rattle.kernel_trees.specs.declared.kernel.Ker.{Ker}
use Rattle.kernel_trees.specs.ActionNames.{constants, marks_of}
use Rattle.kernel_trees.specs.Paths.{Marks}
use Rattle.kernel_reduction.specs.Builds.{Builds}
use Rattle.kernel_reduction.specs.JobPaths.{has_name, outside}
use Rattle.kernel_reduction.specs.Reduction.{Numbering}
use Rattle.kernel_reduction.proofs.KernelNames.{mentions_has}
use Rattle.kernel_reduction.proofs.NamesKept.{names_kept}
use Rattle.accepted_systems.proofs.ReadLate.{HasNone, unmarked}

-- the names past the first n
abbrev pub past : ℕ → Marks
past n i primed = not (nat_lt i n)

pub none_past : (n : ℕ) (i : Option Assignable) (ρ : Numbering) (e : Expr) (k : Ker) → Builds i ρ e k →
    has_name (outside n) e ≡ false → HasNone (past n) k
none_past n i ρ e k b h = mentions_has (past n) k ∙ sym (names_kept (outside n) b) ∙ h

-- ---- these are the variables

past_is : (n i : ℕ) → not (nat_lt i n) ≡ nat_le n i
past_is n i = by (nat_lt i n) refl
  where
    by : (b : Bool) → nat_lt i n ≡ b → not b ≡ nat_le n i
    by true e = grind (arith, e)
    by false e = grind (arith, e)

pub no_variable : (n : ℕ) (k : Ker) → HasNone (past n) k → HasNone (counts (assignable.Variables n)) k
no_variable n k h = subst (λ (m : Marks). HasNone m k) (λ z. λ i primed. past_is n i z) h

-- ---- and what CInit may not assign

fewer : (ds : List Decl) → constants ds ≤ length ds
fewer [] = omega (arith)
fewer (d ∷ ds) = by d.constant (fewer ds)
  where
    by : (b : Bool) → constants ds ≤ length ds →
        length (cond b (d ∷ filter (λ (d : Decl). d.constant) ds) (filter (λ (d : Decl). d.constant) ds)) ≤ suc
        (length ds)
    by true h = omega (arith, h)
    by false h = omega (arith, h)

unmarked_is : (ds : List Decl) (i : ℕ) → not (nat_lt i (constants ds)) ≡ not
    (nat_lt i (length ds) && nat_lt i (constants ds))
unmarked_is ds i = by (nat_lt i (constants ds)) (nat_lt i (length ds)) refl refl
  where
    by : (a b : Bool) → nat_lt i (constants ds) ≡ a → nat_lt i (length ds) ≡ b → not a ≡ not (b && a)
    by true true e f = refl
    by true false e f = let le = fewer ds in absurd (false≢true (sym f ∙ above (constants ds) (length ds) le e))
      where
        above : (m n : ℕ) → m ≤ n → nat_lt i m ≡ true → nat_lt i n ≡ true
        above m n le e = grind (arith, le, e)
    by false true e f = refl
    by false false e f = refl

pub only_constants : (ds : List Decl) (k : Ker) → HasNone (past (constants ds)) k →
    HasNone (unmarked (marks_of Constants ds)) k
only_constants ds k h = subst (λ (m : Marks). HasNone m k) (λ z. λ i primed. unmarked_is ds i z) h
