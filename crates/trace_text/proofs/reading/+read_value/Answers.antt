use Rattle.std.proofs.Common.{◌++◌, ap, sym, ◌∙◌, subst, arith, length, length-append}
use Rattle.std.proofs.lemmas.Result.{err_from_is_err_and}
use Rattle.tla_values.specs.declared.value.Value.{Fun}
use Rattle.trace_text.specs.inner.Pieces.{IsPiece, made, tail_text}
use Rattle.trace_text.specs.inner.Reading.{Fits}
use Rattle.trace_text.proofs.Pieces.{Left, after, left_first, left_last, left_next, left_none, left_open, made_fits, opened_value, plain_value, tail_ends}
use Rattle.trace_text.proofs.ValueForms.{fits_more, fits_none}
use Rattle.trace_text.proofs.reading.+read_value.Goals as goal

-- ---- pieces

pub read_pieces-returns-in-Some-clause-reads : goal.read_pieces-returns-in-Some-clause-reads
read_pieces-returns-in-Some-clause-reads t c = λ ps r fit e.
    let none = left_none c.args.bracket c.args.bytes.now ps r c.in-Some.rest.now (c.in-Some.ensures ∙ ap (λ x. x ++ c.in-Some.rest.now) c.closing.ensures) fit e in
    (c.new-pieces.ensures ∙ none.0, none.1)

pub read_pieces-returns-in-Some-clause-fits : goal.read_pieces-returns-in-Some-clause-fits
read_pieces-returns-in-Some-clause-fits t c = subst (λ ps. Fits (Fun ps)) (sym c.new-pieces.ensures) fits_none

pub read_pieces-pieces-init : goal.read_pieces-pieces-init
read_pieces-pieces-init t c = record {
  reads = λ ps r fit e. subst (λ done. Left c.args.bracket done c.args.bytes.now ps r) (sym c.new-pieces.ensures)
      (left_first c.args.bracket c.args.bytes.now ps r (λ q closed. c.in_default.ensures q (closed ∙ ap (λ x. x ++ q) (sym c.closing.ensures))) fit e);
  fits = subst (λ ps. Fits (Fun ps)) (sym c.new-pieces.ensures) fits_none;
  shorter = omega arith;
}

pub read_pieces-returns-in_err-piece-clause-reads :
    goal.read_pieces-returns-in_err-piece-clause-reads
read_pieces-returns-in_err-piece-clause-reads t c = λ ps r fit e.
    let l = c.pieces.invariant.reads ps r fit e in
    let p = err_from_is_err_and c.from_residual.result c.from_residual.ensures.1 in
    rw (p.1, p.2) (c.in_err-piece.ensures.reads l.piece (tail_text c.args.bracket l.later r) (subst (λ i. IsPiece c.args.bracket i l.piece) (sym c.len.ensures) l.fits)
    (tail_ends c.args.bracket l.later r) l.text)

pub read_pieces-pieces-preserved : goal.read_pieces-pieces-preserved
read_pieces-pieces-preserved t c = record {
  reads = λ ps r fit e.
      let l = c.pieces.invariant.reads ps r fit e in
      let read = c.in_ok-piece.ensures.reads l.piece (tail_text c.args.bracket l.later r) (subst (λ i. IsPiece c.args.bracket i l.piece) (sym c.len.ensures) l.fits)
      (tail_ends c.args.bracket l.later r) l.text in
      let a = after c.args.bracket c.pieces.pieces c.pieces.rest.now ps r l c.in_ok-piece.piece c.in_ok-piece.more.now read in
      subst (λ done. Left c.args.bracket done c.in-Some-behind.next.now ps r) (sym c.in_ok-push.ensures.added)
      (left_next c.args.bracket c.pieces.pieces c.in_ok-piece.piece c.in_ok-piece.more.now ps r a c.in-Some-behind.next.now
      (c.in-Some-behind.ensures ∙ ap (λ x. x ++ c.in-Some-behind.next.now) c.separator.ensures));
  fits = subst (λ ps. Fits (Fun ps)) (sym c.in_ok-push.ensures.added)
      (fits_more c.pieces.pieces c.in_ok-piece.piece c.pieces.invariant.fits c.in_ok-piece.ensures.fits.0 c.in_ok-piece.ensures.fits.1);
  shorter = omega (arith, ap length c.in-Some-behind.ensures, length-append c.separator.result.now c.in-Some-behind.next.now, c.in_ok-piece.ensures.shorter, c.pieces.invariant.shorter);
}

pub read_pieces-returns-in-Some-behind-2-clause-reads :
    goal.read_pieces-returns-in-Some-behind-2-clause-reads
read_pieces-returns-in-Some-behind-2-clause-reads t c = λ ps r fit e.
    let l = c.pieces.invariant.reads ps r fit e in
    let read = c.in_ok-piece.ensures.reads l.piece (tail_text c.args.bracket l.later r) (subst (λ i. IsPiece c.args.bracket i l.piece) (sym c.len.ensures) l.fits)
    (tail_ends c.args.bracket l.later r) l.text in
    let a = after c.args.bracket c.pieces.pieces c.pieces.rest.now ps r l c.in_ok-piece.piece c.in_ok-piece.more.now read in
    let last = left_last c.args.bracket c.pieces.pieces c.in_ok-piece.piece c.in_ok-piece.more.now ps r a c.in-Some-behind-2.end.now
    (c.in-Some-behind-2.ensures ∙ ap (λ x. x ++ c.in-Some-behind-2.end.now) c.closing-2.ensures) in
    (c.in_ok-push.ensures.added ∙ last.0, last.1)

pub read_pieces-returns-in-Some-behind-2-clause-fits :
    goal.read_pieces-returns-in-Some-behind-2-clause-fits
read_pieces-returns-in-Some-behind-2-clause-fits t c =
    subst (λ ps. Fits (Fun ps)) (sym c.in_ok-push.ensures.added)
    (fits_more c.pieces.pieces c.in_ok-piece.piece c.pieces.invariant.fits c.in_ok-piece.ensures.fits.0 c.in_ok-piece.ensures.fits.1)

pub read_pieces-returns-clause-reads : goal.read_pieces-returns-clause-reads
read_pieces-returns-clause-reads t c = λ ps r fit e.
    let l = c.pieces.invariant.reads ps r fit e in
    let read = c.in_ok-piece.ensures.reads l.piece (tail_text c.args.bracket l.later r) (subst (λ i. IsPiece c.args.bracket i l.piece) (sym c.len.ensures) l.fits)
    (tail_ends c.args.bracket l.later r) l.text in
    let a = after c.args.bracket c.pieces.pieces c.pieces.rest.now ps r l c.in_ok-piece.piece c.in_ok-piece.more.now read in
    left_open c.args.bracket c.pieces.pieces c.in_ok-piece.piece c.in_ok-piece.more.now ps r a
    (λ q separated. c.in-None.ensures q (separated ∙ ap (λ x. x ++ q) (sym c.separator.ensures)))
    (λ q closed. c.in-None-behind.ensures q (closed ∙ ap (λ x. x ++ q) (sym c.closing-2.ensures)))

-- ---- values

pub read_value-returns-in_err-pieces-in-Some-clause-reads :
    goal.read_value-returns-in_err-pieces-in-Some-clause-reads
read_value-returns-in_err-pieces-in-Some-clause-reads t c = λ v r fits ends e.
    let o = opened_value c.args.bytes.now c.in-Some.bracket c.in-Some.inner.now v r c.in-Some.ensures fits e in
    let p = err_from_is_err_and c.from_residual.result c.from_residual.ensures.1 in
    rw (p.1, p.2) (c.in_err-pieces-in-Some.ensures.reads o.pieces r o.fit o.text)

pub read_value-returns-in_ok-value-in-Some-clause-reads :
    goal.read_value-returns-in_ok-value-in-Some-clause-reads
read_value-returns-in_ok-value-in-Some-clause-reads t c = λ v r fits ends e.
    let o = opened_value c.args.bytes.now c.in-Some.bracket c.in-Some.inner.now v r c.in-Some.ensures fits e in
    let same = c.in_ok-pieces-in-Some.ensures.reads o.pieces r o.fit o.text in
    (c.in_ok-value-in-Some.ensures ∙ ap (made c.in-Some.bracket) same.0 ∙ o.made_of, same.1)

pub read_value-returns-in_ok-value-in-Some-clause-fits :
    goal.read_value-returns-in_ok-value-in-Some-clause-fits
read_value-returns-in_ok-value-in-Some-clause-fits t c =
    subst Fits (sym c.in_ok-value-in-Some.ensures) (made_fits c.in-Some.bracket c.in_ok-pieces-in-Some.pieces c.in_ok-pieces-in-Some.ensures.fits)

pub read_value-returns-in-None-clause-reads : goal.read_value-returns-in-None-clause-reads
read_value-returns-in-None-clause-reads t c = λ v r fits ends e.
    c.read_plain.ensures.reads v r fits (plain_value c.args.bytes.now v r c.in-None.ensures fits e) ends e
