-- Types that a text says, and what is read where they are shown. Source: the Apalache manual, "Type System 1.2".
use Rattle.std.specs.Prelude.{ℕ, ◌≡◌, ◌^◌, true, List, [], Some}
use Rattle.snowcat_rows.specs.declared.types.Ty.{Ty}
use Rattle.snowcat_rows.specs.Types.{Term, mean}
use Rattle.snowcat_rows.specs.Sorting.{Within}
use Rattle.snowcat_rows.specs.FieldNames.{names_differ}
use Rattle.snowcat_rows.specs.TypeTexts.{Syntax, IsTypeText}
use Rattle.snowcat_rows.specs.Texts.{type_text}
use Rattle.snowcat_rows.specs.Spellings.{spelling}
use Rattle.snowcat_rows.specs.Readings.{IsReadAs}
use Rattle.snowcat_rows.specs.Renamings.{Variants}

-- in each record the names of the fields differ, and the numbers of the variables have 32 bits
pub record IsRegular (t : Ty) : Type 0 where
  pub names : names_differ t ≡ true
  pub numbers : Within (2 ^ 32) (mean t)

-- some text, with some aliases, says the type, but for the numbers of its variables
pub record IsSaid (t : Term) : Type 0 where
  pub aliases : List (List ℕ × List ℕ)
  pub text : List ℕ
  pub read_as : Term
  pub is_read : IsReadAs aliases text read_as
  pub is_variant : Variants t read_as

-- the type is spelled, and what is shown is a text of this spelling
abbrev pub IsSpelled : Ty → Type 0
IsSpelled t = (s : Syntax) × (spelling t ≡ Some s) × IsTypeText (type_text t) s

-- what is shown says the type again, without aliases, but for the numbers of its variables
abbrev pub IsReadBack : Ty → Type 0
IsReadBack t = (u : Term) × IsReadAs [] (type_text t) u × Variants (mean t) u
