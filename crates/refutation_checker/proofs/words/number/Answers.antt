use Rattle.std.proofs.Common.{◌≡◌, ◌<◌, length, get_or, arith, sym}
use Rattle.std.proofs.lemmas.Bool.{eqb-true}
use Rattle.refutation_checker.proofs.Numbers.{spelled, some_from_test, none_empty, none_long, none_zero, none_digits, none_large}
use Rattle.refutation_checker.proofs.words.number.Goals as goal
use Rattle.refutation_checker.proofs.words.number.Goals.{then-is_empty-via-then-is_empty, then-is_empty-via-else-is_empty+then-word-gt19, else-word-eq48-via-then-word-eq48+else-word-gt1, else-word-eq48-via-else-word-eq48}

pub returns-then-is_empty : goal.returns-then-is_empty
returns-then-is_empty c = elim c.then-is_empty.branch [
  | then-is_empty-via-then-is_empty w ↦ none_empty c.args.word.now c.args.limit c.requires (eqb-true _ 0 (sym w.if-is_empty.ensures))
  | then-is_empty-via-else-is_empty+then-word-gt19 w ↦ none_long c.args.word.now c.args.limit c.requires w.if-word-gt19.true
]

pub returns-then-word-gt1 : goal.returns-then-word-gt1
returns-then-word-gt1 c = none_zero c.args.word.now c.args.limit c.requires c.if-word-eq48.true c.if-word-gt1.true

pub returns-in-Some : goal.returns-in-Some
returns-in-Some c =
    let some : 0 < length c.args.word.now = some_from_test _ (sym c.if-is_empty.ensures) in
    let first : get_or c.args.word.now 0 0 ≡ 48 → length c.args.word.now ≡ 1 =
    λ e. elim c.else-word-eq48.branch [
      | else-word-eq48-via-then-word-eq48+else-word-gt1 w ↦ omega (arith, w.if-word-gt1.false, some)
      | else-word-eq48-via-else-word-eq48 w ↦ absurd (w.if-word-eq48.false e)
    ] in
    (c.if-n-limit.true, spelled c.args.word.now c.in-Some.n c.in-Some.ensures.0 c.in-Some.ensures.1 some first (omega (arith, c.requires)))

pub returns-in_default : goal.returns-in_default
returns-in_default c = none_large c.args.word.now c.args.limit c.in-Some.n c.requires c.in-Some.ensures.1 c.if-n-limit.false

pub returns-in_default-2 : goal.returns-in_default-2
returns-in_default-2 c = none_digits c.args.word.now c.args.limit c.requires c.in_default.ensures
