-- No operand of a conjunction reads a number that a path of an earlier one chooses.
use Rattle.std.specs.Prelude.{ℕ, Bool, true, false, not, ◌&&◌, List, [], ◌∷◌, ◌++◌, map}
use Rattle.std.specs.List.{list_all}
use Rattle.tla_meaning.specs.FreeNames.{closed, with_names}
use Rattle.kernel_trees.specs.declared.kernel.Ker.{Ker}
use Rattle.kernel_trees.specs.declared.kernel.KerOp.{KerOp}
use Rattle.kernel_trees.specs.declared.kernel.KerOp.TheVariants as ker
use Rattle.kernel_trees.specs.Trees.{recur, names_of, as_expr}
use Rattle.kernel_trees.specs.Ways.{Way}
use Rattle.kernel_trees.specs.Paths.{Marks, Step, Holds, Branch, Choice, numbers, Parted, ways}

abbrev pub chosen_at : Step → List ℕ
chosen_at (Holds k) = []
chosen_at (Branch p k b) = []
chosen_at (Choice p ps) = numbers ps

abbrev pub chosen : List Step → List ℕ
chosen [] = []
chosen (x ∷ xs) = chosen_at x ++ chosen xs

-- all bound names but these
abbrev pub but : List ℕ → List ℕ → Bool
but xs x = not (with_names (names_of xs) (λ y. false) x)

abbrev pub no_names : List ℕ → Bool
no_names x = false

-- no tree reads a number that a path chooses
abbrev pub unread : List Ker → Way Step → Bool
unread ks y = list_all (λ k. closed no_names (as_expr k) (but (chosen y.steps))) ks

abbrev pub separate_all : List Parted → Bool
separate_all [] = true
separate_all (k ∷ ks) = list_all (unread (map (λ k. k.0) ks)) k.1 && separate_all ks

abbrev pub separate_at : Marks → KerOp → List ℕ → List Parted → List Bool → Bool
separate_at m ker.And xs ks bs = separate_all ks && list_all (λ b. b) bs
separate_at m ker.Or xs ks bs = list_all (λ b. b) bs
separate_at m ker.If xs ks bs = list_all (λ b. b) bs
separate_at m ker.Some xs ks bs = list_all (λ b. b) bs
separate_at m o xs ks bs = true

abbrev pub separate : Marks → Ker → Bool
separate m = recur (λ x. separate_at m x.op x.binds (map (λ k. (k.0, ways m k.0)) x.args) (map (λ k. k.1) x.args))
