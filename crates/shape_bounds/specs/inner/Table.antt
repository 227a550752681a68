-- What literals, fields and rows of the code mean.
use Rattle.kernel_shapes.specs.Rows.{Literal, no_literal, number, text, Row, row_shape, put_field}
use Rattle.std.specs.Prelude.{ℕ, ◌≡◌, ◌≤◌, length, List, ◌∷◌, ◌++◌, take, drop, map}
use Rattle.kernel_shapes.specs.declared.bounds.Shape.{Shape as Field}
use Rattle.kernel_shapes.specs.Codes.{mean}
use Rattle.kernel_shapes.specs.Shape.{Shape}
use Rattle.shape_bounds.specs.Kept.{kept_row}
use Rattle.shape_bounds.specs.declared.parts.Literal.{Literal as Code}
use Rattle.shape_bounds.specs.declared.parts.Literal.TheVariants as code

-- the literal that one of the code is
abbrev pub literal : Code → Literal
literal code.None = no_literal
literal (code.Number n) = number n
literal (code.Text x) = text x.now

-- the shape that a row gives, where the numbers that it makes are kept
abbrev pub row_kept : ℕ → Row → Literal → List Shape → Shape
row_kept w r l as' = kept_row r (row_shape w r l as')

-- what fields of the code mean
abbrev pub fields_of : List (List ℕ × Field) → List (List ℕ × Shape)
fields_of fs = map (λ f. (f.0, mean f.1)) fs

-- a field is put at this place
pub record IsPlace (x : List ℕ) (fs : List (List ℕ × Field)) (n : ℕ) : Type 0 where
  pub within : n ≤ length fs
  pub put : (a : Shape) → put_field x a (fields_of fs) ≡ take n (fields_of fs) ++ (x, a) ∷ drop n (fields_of fs)
