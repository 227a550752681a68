-- What is answered, by the number of paths.
use Rattle.std.proofs.Common.{◌≡◌, ℕ, ◌≤◌, ◌<◌, min, List, map, length, sym, ◌∙◌, ap, ap₂, arith}
use Rattle.std.proofs.lemmas.List.{length-map}
use Rattle.tla_meaning.specs.declared.expr.Decl.{Decl}
use Rattle.kernel_trees.specs.declared.kernel.Ker.{Ker}
use Rattle.kernel_trees.specs.declared.path.KerPath.{KerPath}
use Rattle.kernel_trees.specs.Paths.{Marks, marks_below, path_of, paths, ways}
use Rattle.kernel_trees.specs.declared.action_kind.ActionKind.{ActionKind}
use Rattle.kernel_trees.specs.declared.action_kind.AssignableNames.{AssignableNames}
use Rattle.kernel_trees.specs.ActionNames.{assignable_in, constants, marks, marks_of}
use Rattle.transition_splitter.specs.declared.counts.Tally.{Tally}
use Rattle.transition_splitter.specs.Splitting.{greatest_number, most_paths}
use Rattle.transition_splitter.specs.inner.Counts.{cut, number_of, tally}
use Rattle.transition_splitter.proofs.Tallying.{tally_total}

-- the marks by which paths are counted and made
pub same_marks : (m : AssignableNames) (kind : ActionKind) (as' names : List Decl) → as' ≡ names → m.declared ≡ length as' →
    m.assignable ≡ assignable_in kind (constants as') → marks m ≡ marks_of kind names
same_marks m kind as' names e h i =
    ap₂ marks_below h i ∙ ap (λ (names : List Decl). marks_of kind names) e

-- `before` are the marks by which the paths were counted and made
module _ (before m : Marks) (k : Ker) (t : Tally) (n : ℕ) (same : before ≡ m) (counted : t ≡ tally (ways before k))
    (told : n ≡ number_of t) where
  pub number_is : n ≡ min (length (paths m k)) greatest_number
  number_is =
      told
      ∙ ap number_of counted
      ∙ tally_total (ways before k)
      ∙ ap cut (sym (length-map (ways before k) (path_of k)))
      ∙ ap (λ (m : Marks). cut (length (paths m k))) same

  pub refused : most_paths < n → (n ≡ min (length (paths m k)) greatest_number) × (most_paths < length (paths m k))
  refused h = (number_is, let e = number_is in omega (arith, e, h))

  pub answered : (ps : List KerPath) → n ≤ most_paths → ps ≡ map (path_of k) (ways before k) →
      (ps ≡ paths m k) × (length ps ≤ most_paths)
  answered ps h e =
      let whole : ps ≡ paths m k = e ∙ ap (λ (m : Marks). paths m k) same in
      let l : length ps ≡ length (paths m k) = ap length whole in
      let i = number_is in
      (whole, omega (arith, h, l, i))
