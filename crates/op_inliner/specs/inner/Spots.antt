-- What a place in a definition becomes, and where its root stands.
use Rattle.std.specs.Prelude.{◌≡◌, ◌≤◌, ◌⊎◌, ℕ, suc, Bool, true, false, IsTrue, List, [], ◌∷◌, Option, Some, None, length}
use Rattle.tla_meaning.specs.declared.expr.Expr.{Expr, out-Expr}
use Rattle.tla_meaning.specs.declared.op.Op.{Op}
use Rattle.tla_meaning.specs.declared.op.Op.TheVariants as op
use Rattle.tla_meaning.specs.declared.place.Place.{Place}
use Rattle.op_inliner.specs.declared.frames.Frame.{Frame}
use Rattle.op_inliner.specs.declared.parts.PartKind.{PartKind}
use Rattle.op_inliner.specs.declared.spots.Spot.{Spot}
use Rattle.op_inliner.specs.Inlining.{written}
use Rattle.op_inliner.specs.Primes.{Turned, turned}
use Rattle.op_inliner.specs.inner.Frames.{Grown, names_at}

-- what an expression becomes under a number of primes, and under UNCHANGED too
pub record Sight : Type 0 where
  pub tree : Expr
  pub kept : Place → Expr
  pub is_tuple : Bool

abbrev pub seen_under : ℕ → Turned → Sight
seen_under n k = record { tree = k.tree n; kept = λ q. k.kept q n; is_tuple = k.is_tuple }

abbrev pub sight : List Frame → Spot → PartKind → (ℕ → Bool) → Sight
sight fs s part c = seen_under s.primes (turned part c (written s.e.now (names_at fs s.scope) s.level))

-- an operator that stands for another tree
abbrev pub stands_aside : Op → List Expr → Bool
stands_aside (op.Use x) es = true
stands_aside (op.Param x) es = true
stands_aside (op.Let ds) es = true
stands_aside op.Prime (e ∷ []) = true
stands_aside o es = false

abbrev pub is_noted : Op → List Expr → Bool
is_noted (op.Noted x) (e ∷ []) = true
is_noted o es = false

abbrev pub aside : Spot → Bool
aside s = stands_aside (out-Expr s.e.now).op (out-Expr s.e.now).args

-- a spot with more frames, in a scope that is there
pub record Reaches (old new : List Frame) (s r : Spot) : Type 0 where
  pub grown : Grown old new
  pub within : r.scope ≤ length new
  pub level : r.level ≡ s.level

-- one that becomes the same
pub record Leads (old new : List Frame) (s r : Spot) : Type 0 where
  pub reaches : Reaches old new s r
  pub same : sight new r ≡ sight old s

-- and is a node of the tree
pub record IsRoot (old new : List Frame) (s r : Spot) : Type 0 where
  pub leads : Leads old new s r
  pub stays : aside r ≡ false

-- the use of a name
abbrev pub is_use : Op → List ℕ → Type 0
is_use o x = (o ≡ op.Use x) ⊎ (o ≡ op.Param x)

-- the operand of a prime
pub record IsOperand (s : Spot) (e : Expr) (r : Spot) : Type 0 where
  pub tree : r.e.now ≡ e
  pub scope : r.scope ≡ s.scope
  pub level : r.level ≡ s.level
  pub primes : r.primes ≡ suc s.primes

-- a step on the way there
abbrev pub Steps : List Frame → List Frame → Spot → Option Spot → Type 0
Steps old new s (Some r) = Leads old new s r
Steps old new s None = Grown old new × (aside s ≡ false)

-- a node below some of the notes around one, that is a tuple where the first is one, and is then kept as it is
pub record UnderNotes (old new : List Frame) (s r : Spot) : Type 0 where
  pub reaches : Reaches old new s r
  pub stays : aside r ≡ false
  pub tuple : (part : PartKind) (c : ℕ → Bool) → (sight new r part c).is_tuple ≡ (sight old s part c).is_tuple
  pub kept : (part : PartKind) (c : ℕ → Bool) → IsTrue (sight old s part c).is_tuple → (sight new r part c).kept ≡ (sight old s part c).kept

-- below all of them
pub record IsBelow (old new : List Frame) (s r : Spot) : Type 0 where
  pub under : UnderNotes old new s r
  pub plain : is_noted (out-Expr r.e.now).op (out-Expr r.e.now).args ≡ false
