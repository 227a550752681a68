-- What a request must be.
use Rattle.std.specs.Prelude.{◌≡◌, ◌≤◌, ℕ, IfSome, true}
use Rattle.std.specs.Str.{IsUtf8}
use Rattle.front_end.specs.declared.request.Request.{Request}
use Rattle.kernel_shapes.specs.declared.bounds.Bounds.{Bounds}
use Rattle.tla_values.specs.Integers.{fits_width}

-- both ends are integers of the width
pub record IsInside (width : ℕ) (b : Bounds) : Type 0 where
  pub low : fits_width width b.low ≡ true
  pub high : fits_width width b.high ≡ true

-- its names are texts, as the words of a command are; the width is from 4 to 64, the length at most 1,000, and bounds lie
-- inside the width
pub record IsRequest (r : Request) : Type 0 where
  pub root : IsUtf8 r.root
  pub init : IsUtf8 r.init
  pub next : IsUtf8 r.next
  pub cinit : IfSome r.cinit IsUtf8
  pub wide : 4 ≤ r.width
  pub narrow : r.width ≤ 64
  pub short : r.length ≤ 1000
  pub bounds : IfSome r.bounds (IsInside r.width)
