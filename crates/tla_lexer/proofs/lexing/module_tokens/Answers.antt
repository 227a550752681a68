use Rattle.std.proofs.Common.{◌≡◌, ◌+◌, ◌-◌, ◌++◌, not, map, ◌∙◌, ap, subst, take, drop, length, arith}
use Rattle.std.proofs.lemmas.List.{take_rest, length-drop, length-take-le}
use Rattle.std.proofs.lemmas.Result.{err_from_is_err_and}
use Rattle.tla_lexer.specs.Pieces.{IsFound}
use Rattle.tla_lexer.specs.Runs.{notes_behind, token_of}
use Rattle.tla_lexer.proofs.PlaceLemmas.{column_some, column_few, line_on, column_on, place_is}
use Rattle.tla_lexer.proofs.RunLemmas.{reached_on, ended_run, whole_run, refused}
use Rattle.tla_lexer.proofs.lexing.module_tokens.Goals as goal
use Rattle.tla_lexer.proofs.lexing.module_tokens.Goals.{In_ok-piece}

-- the longest piece here
here : (c : In_ok-piece) → IsFound (drop c.loop-at.at c.args.bytes.now) c.in_ok-piece.field-0.piece c.in_ok-piece.field-0.length
here c = subst (λ t. IsFound t c.in_ok-piece.field-0.piece c.in_ok-piece.field-0.length) (take_rest c.args.bytes.now c.loop-at.at) c.in_ok-piece.ensures

-- its bytes
same_bytes : (c : In_ok-piece) → take (c.loop-at.at + c.in_ok-piece.field-0.length - c.loop-at.at) (drop c.loop-at.at c.args.bytes.now) ≡ take c.in_ok-piece.field-0.length (drop c.loop-at.at c.args.bytes.now)
same_bytes c = ap (λ n. take n (drop c.loop-at.at c.args.bytes.now)) (let e : c.loop-at.at + c.in_ok-piece.field-0.length - c.loop-at.at ≡ c.in_ok-piece.field-0.length = omega arith in e)

pub behind-position-requires-in-loop-at-clause-some : goal.behind-position-requires-in-loop-at-clause-some
behind-position-requires-in-loop-at-clause-some c = column_some c.args.bytes.now c.loop-at.at _ c.loop-at.invariant.column

pub behind-position-requires-in-loop-at-clause-columns : goal.behind-position-requires-in-loop-at-clause-columns
behind-position-requires-in-loop-at-clause-columns c =
    let at = goal.at.behind-position-requires-in-loop-at-clause-columns c in
    let is = here at.In_ok-piece in
    omega (
      arith,
      column_few c.args.bytes.now c.loop-at.at _ c.loop-at.invariant.within c.loop-at.invariant.column,
      is.within,
      length-drop c.loop-at.at c.args.bytes.now,
      ap length (same_bytes at.In_ok-piece),
      length-take-le c.in_ok-piece.field-0.length (drop c.loop-at.at c.args.bytes.now) is.within,
    )

pub loop-at-preserved : goal.loop-at-preserved
loop-at-preserved c =
    let i = c.loop-at.invariant in
    let bytes = c.args.bytes.now in
    let at = goal.at.loop-at-preserved c in
    let is = here at.In_ok-piece in
    let same = same_bytes at.In_ok-piece in
    let taken = c.in_ok-take_in.ensures in
    let place = place_is c.args.file _ _ (take c.loop-at.at bytes) c.in_file-place.result c.in_file-place.ensures i.line i.column in
    record {
      within = omega (arith, is.within, length-drop c.loop-at.at bytes);
      reached =
          reached_on c.args.file bytes c.args.start c.loop-at.at _ _ i.reached _ _ _ _ i.within is (taken.goes_on ∙ ap not c.if-not-branch.false)
          (taken.tokens ∙ ap (λ p. c.loop-at.tokens.items ++ token_of p (map (λ s. s.now) c.loop-at.notes.items) c.in_ok-piece.field-0.piece) place)
          (taken.notes ∙ ap (notes_behind (map (λ s. s.now) c.loop-at.notes.items) c.in_ok-piece.field-0.piece) same);
      line = line_on bytes _ c.loop-at.at _ _ _ _ i.within is same i.line c.behind-position-in-loop-at.ensures.line;
      column = column_on bytes _ c.loop-at.at _ _ _ _ i.within is same i.column c.behind-position-in-loop-at.ensures.column;
    }

pub returns-clause-run : goal.returns-clause-run
returns-clause-run c =
    rw c.from_vec-2.ensures (whole_run c.args.file c.args.bytes.now c.args.start c.loop-at.at _ _ c.loop-at.invariant.reached c.requires.found c.loop-at-test.false)

pub returns-then-not-branch-clause-run : goal.returns-then-not-branch-clause-run
returns-then-not-branch-clause-run c =
    let i = c.loop-at.invariant in
    let bytes = c.args.bytes.now in
    let is = here (goal.at.returns-then-not-branch-clause-run c).In_ok-piece in
    let taken = c.in_ok-take_in.ensures in
    let place = place_is c.args.file _ _ (take c.loop-at.at bytes) c.in_file-place.result c.in_file-place.ensures i.line i.column in
    rw c.from_vec.ensures
    (ended_run c.args.file bytes c.args.start c.loop-at.at _ _ i.reached _ _ _ c.requires.found is (taken.goes_on ∙ ap not c.if-not-branch.true) taken.sound
    (taken.tokens ∙ ap (λ p. c.loop-at.tokens.items ++ token_of p (map (λ s. s.now) c.loop-at.notes.items) c.in_ok-piece.field-0.piece) place))

pub returns-in_err-take_in-clause-fault : goal.returns-in_err-take_in-clause-fault
returns-in_err-take_in-clause-fault c =
    let i = c.loop-at.invariant in
    let bytes = c.args.bytes.now in
    let is = here (goal.at.returns-in_err-take_in-clause-fault c).In_ok-piece in
    let place = place_is c.args.file _ _ (take c.loop-at.at bytes) c.in_file-place.result c.in_file-place.ensures i.line i.column in
    let p = err_from_is_err_and c.from_residual-in_err-take_in.result c.from_residual-in_err-take_in.ensures.1 in
    rw (p.1, p.2) (refused c.args.file bytes c.args.start c.loop-at.at _ _ i.reached _ _ _ _ c.requires.found is place c.in_err-take_in.ensures.fault)
