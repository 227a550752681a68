-- What one call of unification makes of what is solved.
use Rattle.std.proofs.Common.{◌≡◌, ℕ, ◌≤◌, ◌∙◌, List, [], ◌∷◌, ◌++◌, arith}
use Rattle.std.specs.Prelude.{OnOk, MatchResult, Result, Ok, Err}
use Rattle.snowcat_rows.specs.declared.substitution.Subst.{Subst}
use Rattle.snowcat_rows.specs.declared.substitution.UnifyFault.{UnifyFault}
use Rattle.snowcat_rows.specs.declared.substitution.UnifyFault.TheVariants.{Clash, Memory}
use Rattle.snowcat_rows.specs.Types.{Term}
use Rattle.snowcat_rows.specs.Substitutions.{Fronts, Sorted}
use Rattle.snowcat_rows.specs.Chains.{row_var}
use Rattle.snowcat_rows.specs.Sorting.{AllSorted, Within}
use Rattle.snowcat_rows.specs.Unifying.{IsMade, IsRefused, Same, Unmade}
use Rattle.snowcat_rows.specs.Views.{issued_of, kept_by, stands_for}
use Rattle.snowcat_rows.proofs.General.{sorted_agree}
use Rattle.snowcat_types.specs.Requirements.{Requirement, Equal}
use Rattle.snowcat_types.specs.inner.Solved.{AreOf, IsMet, IsSolved, Refuses}
use Rattle.snowcat_types.proofs.Issued.{keeps_issued}
use Rattle.snowcat_types.proofs.Joining.{same_more}
use Rattle.snowcat_types.proofs.Running.{most_general, never_same}

-- with names before further variables a type of the first n is as before
pub still_sorted : (n : ℕ) (l k : Fronts) (a : Term) → Same n l k → Within n a → Sorted l a → Sorted k a
still_sorted n l k a e w h = sorted_agree l k a (λ v o x. e v (w (row_var v) o) x) h

module _ (n : ℕ) (l : Fronts) (rs : List Requirement) (s : Subst) (a b : Term) (h : IsSolved n l rs s) (f : AreOf n l rs)
    (g : AreOf n l (Equal a b ∷ [])) where
  first_sorted : Sorted h.fronts a
  first_sorted = still_sorted n l h.fronts a h.same g.inside.0.0.0 g.sorted.0.0

  second_sorted : Sorted h.fronts b
  second_sorted = still_sorted n l h.fronts b h.same g.inside.0.0.1 g.sorted.0.1

  equal_met : (t : Subst) → issued_of s ≤ issued_of t → IsMade (issued_of s) (issued_of t) (kept_by s) (kept_by t) a b
      → IsSolved n l (rs ++ Equal a b ∷ []) t
  equal_met t le made =
      let m = made h.fronts h.sorted first_sorted second_sorted in
      record {
        fronts = m.fronts;
        same = λ v lt x. m.same v (let more = h.solved.more in omega (arith, lt, more)) x ∙ h.same v lt x;
        solved = same_more n (issued_of s) (issued_of t) l h.fronts m.fronts rs (stands_for s) (stands_for t) a b le f.inside g.inside.0.0.0 g.inside.0.0.1 h.solved m.unified;
        sorted = m.sorted;
      }

  equal_refused : (x y : Term) → ((k : Fronts) → AllSorted k (kept_by s) → Sorted k a → Sorted k b → Unmade (issued_of s) k (kept_by s) a b x y)
      → Refuses n rs (Equal a b) (kept_by s) a b x y
  equal_refused x y refused =
      let u = refused h.fronts h.sorted first_sorted second_sorted in
      record {
        principal = most_general n (issued_of s) l h.fronts rs (stands_for s) f.sorted h.solved;
        none = never_same n (issued_of s) l h.fronts rs (stands_for s) a b f.inside f.sorted g.inside.0.0.0 g.inside.0.0.1 g.sorted.0.0 g.sorted.0.1 h.solved u.apart;
        issued = issued_of s;
        more = h.solved.more;
        is_issued = keeps_issued s;
        fronts = h.fronts;
        sorted = (h.sorted, (first_sorted, second_sorted));
        unmade = u;
      }

  pub equal_told : (t : Subst) (r : Result (Unit {0}) UnifyFault) → issued_of s ≤ issued_of t
      → OnOk r (IsMade (issued_of s) (issued_of t) (kept_by s) (kept_by t) a b)
      → MatchResult r (λ z. Unit {0}) (λ e. (issued_of t ≡ issued_of s) × (kept_by t ≡ kept_by s) × IsRefused e (issued_of s) (kept_by s) a b)
      → IsMet n l rs (Equal a b) (kept_by s) a b t r
  equal_told t (Ok u) le made refused = equal_met t le made
  equal_told t (Err (Clash x y)) le made refused = equal_refused _ _ refused.2
  equal_told t (Err (Memory e)) le made refused = tt
