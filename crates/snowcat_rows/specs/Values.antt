-- Which values are of a type, and which of these lie within bounds.
use Rattle.std.specs.Prelude.{ℕ, ◌≡◌, ◌≤◌, Bool, IsTrue, List, [], ◌∷◌, length, Option, Some, None, ℤ, int_le}
use Rattle.std.specs.Prelude.{All, Contains}
use Rattle.tla_values.specs.Sets.{apply}
use Rattle.tla_values.specs.declared.value.Value.{Value}
use Rattle.tla_values.specs.declared.value.Value.TheVariants as value
use Rattle.tla_values.specs.Sequences.{sequence}
use Rattle.snowcat_rows.specs.Types.{Term, Slot, con, app, fields, none, some, BoolHead, IntHead, StrHead, NamedHead, SetHead, SeqHead, FunHead, TupHead, EndHead}
use Rattle.snowcat_rows.specs.LiteralTypes.{literal_type}

-- which numbers and which texts of a type there are, and how many members, arguments or places
pub record Limits : Type 1 where
  pub number : ℤ → Type 0
  pub text : Term → List ℕ → Type 0
  pub size : ℕ → Type 0

abbrev pub Pairs : Type 0
Pairs = List (Value × Value)

abbrev mutual
  pub OfType : Limits → Term → Value → Type 0
  OfType l (con BoolHead) v = (b : Bool) × (v ≡ value.Bool b)
  OfType l (con IntHead) v = (i : ℤ) × (v ≡ value.Int i) × l.number i
  OfType l (con StrHead) v = (s : List ℕ) × (v ≡ value.Text s) × l.text (con StrHead) s
  OfType l (con (NamedHead x)) v = (s : List ℕ) × (v ≡ value.Text s) × l.text (con (NamedHead x)) s
  OfType l (app (con SetHead) a) v = (xs : List Value) × (v ≡ value.Set xs) × All (OfType l a) xs × l.size (length xs)
  -- a function on 1 to n
  OfType l (app (con SeqHead) a) v = (xs : List Value) × (v ≡ sequence xs) × All (OfType l a) xs × l.size (length xs)
  OfType l (app (con FunHead) (app a b)) v =
      (ps : Pairs) × (v ≡ value.Fun ps) × All (λ p. OfType l a p.0) ps × All (λ p. OfType l b p.1) ps × l.size (length ps)
  -- a function on the numbers of its items
  OfType l (app (con TupHead) r) v = (xs : List Value) × (v ≡ sequence xs) × OfItems l r xs
  -- a function on the texts of its fields
  OfType l (fields f None) v =
      (ps : Pairs) × (v ≡ value.Fun ps) × All (λ p. (s : List ℕ) × (p.0 ≡ value.Text s)) ps
      × ((x : List ℕ) → OfField l (f x) (apply ps (value.Text x)))
  OfType l t v = ⊥

  pub OfItems : Limits → Term → List Value → Type 0
  OfItems l (app t r) (x ∷ xs) = OfType l t x × OfItems l r xs
  OfItems l (con EndHead) [] = Unit {0}
  OfItems l t xs = ⊥

  pub OfField : Limits → Slot → Option Value → Type 0
  OfField l none o = o ≡ None
  OfField l (some t) o = (x : Value) × (o ≡ Some x) × OfType l t x

abbrev pub unlimited : Limits
unlimited = record { number = λ i. Unit {0}; text = λ t s. Unit {0}; size = λ n. Unit {0} }

-- v is a value of the type
abbrev pub HasType : Value → Term → Type 0
HasType v t = OfType unlimited t v

-- numbers from low to high, the texts of that type among the literals, and at most size members, arguments or places
abbrev pub bounded : List (List ℕ) → ℤ → ℤ → ℕ → Limits
bounded literals low high size = record {
  number = λ i. IsTrue (int_le low i) × IsTrue (int_le i high);
  text = λ t s. Contains literals s × (literal_type s ≡ t);
  size = λ n. n ≤ size;
}

-- v is a value of the type within the bounds
abbrev pub InBounds : List (List ℕ) → ℤ → ℤ → ℕ → Value → Term → Type 0
InBounds literals low high size v t = OfType (bounded literals low high size) t v
