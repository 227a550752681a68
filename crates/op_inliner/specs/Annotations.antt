-- The type annotation of a definition, at its result and at its arguments (Apalache manual, "Type System 1.2").
use Rattle.std.specs.Prelude.{ℕ, suc, ◌==◌, cond, List, [], ◌∷◌, ◌++◌, codes, Option, Some, None}
use Rattle.std.specs.Fmt.{decimal}
use Rattle.std.specs.List.{position}
use Rattle.std.specs.Str.{bytes_eq}
use Rattle.tla_meaning.specs.declared.expr.Def.{Def}
use Rattle.tla_meaning.specs.declared.expr.Expr.{Expr, roll-Expr}
use Rattle.tla_meaning.specs.declared.expr.Expr.TheFolds.{fold-Expr}
use Rattle.tla_meaning.specs.declared.op.Op.{Op}
use Rattle.tla_meaning.specs.declared.op.Op.TheVariants as op
use Rattle.tla_meaning.specs.declared.place.Place.{Place}
use Rattle.tla_meaning.specs.Folds.{with_lambdas}
use Rattle.tla_meaning.specs.Scopes.{or_else}

-- ---- the annotation that a note gives: T of the first `@type: T;`, as it is written

-- what stands behind this beginning
abbrev pub behind : List ℕ → List ℕ → Option (List ℕ)
behind [] text = Some text
behind (b ∷ bs) [] = None
behind (b ∷ bs) (c ∷ text) = cond (b == c) (behind bs text) None

abbrev pub longer_by : ℕ → Option (List ℕ) → Option (List ℕ)
longer_by b None = None
longer_by b (Some t) = Some (b ∷ t)

-- the bytes up to the first `;`, where no `@` stands before it
abbrev pub type_at : List ℕ → Option (List ℕ)
type_at [] = None
type_at (b ∷ text) = cond (b == 59) (Some []) (cond (b == 64) None (longer_by b (type_at text)))

abbrev pub type_behind : Option (List ℕ) → Option (List ℕ)
type_behind None = None
type_behind (Some text) = type_at text

abbrev pub annotation_at : List ℕ → Option (List ℕ)
annotation_at text = type_behind (behind (codes "@type:") text)

unfoldable pub annotation_of : List ℕ → Option (List ℕ)
annotation_of [] = None
annotation_of (b ∷ note) = or_else (annotation_at (b ∷ note)) (annotation_of note)

-- ---- a definition's body with its annotation

-- the text of a note: 0 for the result, or the argument's number from 1, and the annotation
abbrev pub numbered : ℕ → List ℕ → List ℕ
numbered i t = decimal i ++ 32 ∷ t

abbrev pub noted : Place → List ℕ → Expr → Expr
noted p t e = roll-Expr (record { place = p; op = op.Noted t; args = e ∷ []; binds = [] })

-- the number from 0 of the parameter that is used
abbrev pub parameter : List (List ℕ) → Op → Option ℕ
parameter params (op.Use x) = position (bytes_eq x) params
parameter params (op.Param x) = position (bytes_eq x) params
parameter params o = None

abbrev pub noted_use : Place → List ℕ → Option ℕ → Expr → Expr
noted_use p t None e = e
noted_use p t (Some i) e = noted p (numbered (suc i) t) e

-- each use of a parameter with the annotation
unfoldable pub parameters_noted : Place → List (List ℕ) → List ℕ → Expr → Expr
parameters_noted p params t = fold-Expr Expr (λ x. noted_use p t (parameter params x.op) (roll-Expr x))

abbrev pub body_noted : Option (List ℕ) → Def → Expr → Expr
body_noted None d e = e
body_noted (Some t) d e = noted d.place (numbered 0 t) (parameters_noted d.place d.params t e)

-- what each use of a definition stands for
abbrev pub body_of : Def → Expr
body_of d = body_noted (annotation_of d.note) d (with_lambdas d.body)
