-- The flat module of modules that were all read.
use Rattle.std.proofs.Common.{◌≡◌, ◌∙◌, List, ℕ, Option, Some, None, refl, ap, sym}
use Rattle.tla_meaning.specs.declared.modules.Flat.{Flat}
use Rattle.tla_meaning.specs.declared.symbols.Misuse.{Misuse}
use Rattle.tla_meaning.specs.Flattening.{Modules, flat_of, misuse_of}
use Rattle.tla_modules.specs.Sources.{file_of, files_of}
use Rattle.tla_values.specs.FileNames.{module_name}

no_some : {X : Type 0} (o : Option X) → ((x : X) → o ≡ Some x → ⊥) → o ≡ None
no_some None f = refl
no_some (Some x) f = absurd (f x refl)

abbrev with_files : List (List ℕ) → Modules → List ℕ → Flat
with_files files ms n = record (flat_of (λ x. x) ms n) { files = files }

pub is_flat : {o : Option Misuse} {f : Flat} {files : List (List ℕ)} (ms : Modules) {n : List ℕ} (root : List ℕ) → ((m : Misuse) → o ≡ Some m → ⊥) → o ≡ misuse_of ms →
    f ≡ record (flat_of (λ x. x) ms n) { files = files } → files ≡ files_of root ms → n ≡ module_name root →
    (misuse_of ms ≡ None) × (f ≡ flat_of (file_of root) ms (module_name root))
is_flat {o} {f} {files} ms {n} root none told flat names name =
    (sym told ∙ no_some o none, flat ∙ ap (λ l. with_files l ms n) names ∙ ap (with_files (files_of root ms) ms) name)
