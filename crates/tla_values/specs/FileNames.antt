-- The names of files and of the modules that they are to hold.
use Rattle.std.specs.Prelude.{ℕ, Bool, List, [], ◌∷◌, codes, bytes_eq, nat_eq, if◌then◌else◌}
use Rattle.std.specs.List.{list_any}

abbrev pub is_slash : ℕ → Bool
is_slash b = nat_eq b 47

-- the name of a file without its folder
abbrev pub without_folder : List ℕ → List ℕ
without_folder [] = []
without_folder (b ∷ bs) = if list_any is_slash (b ∷ bs) then without_folder bs else b ∷ bs

-- what stands before `.tla` at the end
abbrev pub without_ending : List ℕ → List ℕ
without_ending [] = []
without_ending (b ∷ bs) = if bytes_eq (b ∷ bs) (codes ".tla") then [] else b ∷ without_ending bs

-- the module of a file: its name without its folder and `.tla`
abbrev pub module_name : List ℕ → List ℕ
module_name file = without_ending (without_folder file)
