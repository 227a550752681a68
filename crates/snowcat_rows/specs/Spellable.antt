-- Which types can be written. Source: the Apalache manual, "Type System 1.2".
use Rattle.std.specs.Prelude.{ℕ, ◌≡◌, IsTrue, List}
use Rattle.snowcat_rows.specs.LiteralTypes.{is_type_name}
use Rattle.snowcat_rows.specs.Types.{Term, Slot, var, con, app, fields, none, some, BoolHead, IntHead, StrHead, NamedHead, SetHead, SeqHead, FunHead, TupHead, OperHead, EndHead}
use Rattle.snowcat_rows.specs.Substitutions.{Fronts, Sorted}
use Rattle.snowcat_rows.specs.TypeTexts.{is_name}

-- the names of uninterpreted types and of fields are such names, and every tuple and every record has a part
abbrev mutual
  pub HasText : Term → Type 0
  HasText (var v) = Unit {0}
  HasText (con BoolHead) = Unit {0}
  HasText (con IntHead) = Unit {0}
  HasText (con StrHead) = Unit {0}
  HasText (con (NamedHead x)) = IsTrue (is_type_name x)
  HasText (app (con SetHead) a) = HasText a
  HasText (app (con SeqHead) a) = HasText a
  HasText (app (con FunHead) (app a b)) = HasText a × HasText b
  HasText (app (con TupHead) (app a r)) = HasText a × HaveTexts r
  HasText (app (con OperHead) (app r t)) = HaveTexts r × HasText t
  HasText (fields f k) = ((n : List ℕ) → FieldHasText n (f n)) × ((n : List ℕ) × (t : Term) × (f n ≡ some t))
  HasText t = ⊥

  pub HaveTexts : Term → Type 0
  HaveTexts (app a r) = HasText a × HaveTexts r
  HaveTexts (con EndHead) = Unit {0}
  HaveTexts t = ⊥

  pub FieldHasText : List ℕ → Slot → Type 0
  FieldHasText n none = Unit {0}
  FieldHasText n (some t) = IsTrue (is_name n) × HasText t

-- and each row variable stands after one list of names
pub record Spellable (t : Term) : Type 0 where
  pub text : HasText t
  pub fronts : (l : Fronts) × Sorted l t
