-- Types whose variables are numbered as they occur, so that they are shown by a, b, c and so on. Source: the Apalache manual,
-- "Type System 1.2" (type variables and row variables).
use Rattle.std.specs.Prelude.{ℕ, suc, ◌≡◌, ◌==◌, ◌++◌, Bool, false, List, [], ◌∷◌, Option, None, Some, if◌then◌else◌, option_map}
use Rattle.std.specs.List.{flat_map}
use Rattle.snowcat_rows.specs.declared.types.Ty.{Ty, roll-Ty}
use Rattle.snowcat_rows.specs.declared.types.Ty.TheOpen as layer
use Rattle.snowcat_rows.specs.declared.types.Ty.TheFolds.{fold-Ty}
use Rattle.snowcat_rows.specs.declared.occurrences.Unknown.{Unknown}
use Rattle.snowcat_rows.specs.declared.occurrences.Unknown.TheVariants as unknown
use Rattle.snowcat_rows.specs.Types.{mean}
use Rattle.snowcat_rows.specs.Renamings.{renamed}

-- ---- the variables of a type, as often as they stand in it, in their order

abbrev pub row_variable : Option ℕ → List Unknown
row_variable None = []
row_variable (Some r) = unknown.Row r ∷ []

abbrev pub occurring_layer : layer.Ty-F (List Unknown) → List Unknown
occurring_layer (layer.Var n) = unknown.Type n ∷ []
occurring_layer (layer.Set a) = a
occurring_layer (layer.Seq a) = a
occurring_layer (layer.Fun a b) = a ++ b
occurring_layer (layer.Tup ts) = flat_map (λ t. t) ts
occurring_layer (layer.Rec fs k) = flat_map (λ f. f.1) fs ++ row_variable k
occurring_layer (layer.Oper ts b) = flat_map (λ t. t) ts ++ b
occurring_layer x = []

unfoldable pub occurring : Ty → List Unknown
occurring = fold-Ty (List Unknown) occurring_layer

-- ---- their numbers

abbrev pub same_variable : Unknown → Unknown → Bool
same_variable (unknown.Type v) (unknown.Type w) = v == w
same_variable (unknown.Row v) (unknown.Row w) = v == w
same_variable x y = false

abbrev pub without : Unknown → List Unknown → List Unknown
without v [] = []
without v (w ∷ ws) = if same_variable v w then without v ws else w ∷ without v ws

-- each where it stands first
abbrev pub each_once : List Unknown → List Unknown
each_once [] = []
each_once (v ∷ vs) = v ∷ without v (each_once vs)

abbrev pub place : Unknown → List Unknown → ℕ
place v [] = 0
place v (w ∷ ws) = if same_variable w v then 0 else suc (place v ws)

-- ---- the type with the place of each variable for its number

abbrev pub numbered_layer : List Unknown → layer.Ty-F Ty → layer.Ty-F Ty
numbered_layer vs (layer.Var n) = layer.Var (place (unknown.Type n) vs)
numbered_layer vs (layer.Rec fs k) = layer.Rec fs (option_map (λ r. place (unknown.Row r) vs) k)
numbered_layer vs x = x

unfoldable pub numbered : List Unknown → Ty → Ty
numbered vs = fold-Ty Ty (λ x. roll-Ty (numbered_layer vs x))

-- two types whose variables are numbered together, in the order in which they occur in the first and then in the second
abbrev pub numbered_together : Ty → Ty → Ty × Ty
numbered_together a b = let vs = each_once (occurring a ++ occurring b) in (numbered vs a, numbered vs b)

-- two types differ from two others in the numbers of their variables alone, a variable being the same in both
abbrev pub RenamedTogether : Ty × Ty → Ty × Ty → Type 0
RenamedTogether p q =
    (types rows : ℕ → ℕ) × (mean q.0 ≡ renamed types rows (mean p.0)) × (mean q.1 ≡ renamed types rows (mean p.1))
