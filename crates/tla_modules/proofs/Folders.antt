-- The folders of files.
use Rattle.std.proofs.Common.{◌≤◌, ℕ, Bool, true, false, List, [], ◌∷◌, length, arith}
use Rattle.std.specs.List.{list_any}
use Rattle.std.specs.Prelude.{if◌then◌else◌}
use Rattle.tla_values.specs.FileNames.{is_slash, without_folder}

one_less : (b : Bool) (x : ℕ) (xs ys : List ℕ) → length ys ≤ length xs → length (if b then ys else x ∷ xs) ≤ length (x ∷ xs)
one_less true x xs ys h = omega arith
one_less false x xs ys h = omega arith

pub shorter : (file : List ℕ) → length (without_folder file) ≤ length file
shorter [] = omega arith
shorter (b ∷ bs) = one_less (list_any is_slash (b ∷ bs)) b bs (without_folder bs) (shorter bs)
