use Rattle.std.proofs.Common.{◌≡◌, ℕ, ◌+◌, ◌-◌, List, ◌++◌, length, take, drop, sym, ap, subst, ◌∙◌, arith, length-drop}
use Rattle.std.proofs.Math.Seq.{take-add}
use Rattle.std.proofs.lemmas.List.{take_rest}
use Rattle.std.proofs.KnownBytes.{Appends-trans}
use Rattle.std.specs.Io.KnownBytes.{Appends}
use Rattle.tool_outside.proofs.host_sink.write_piece.Goals as goal

-- what a write took of the rest comes after what was taken before
taken : (piece : List ℕ) (at count : ℕ) → take at piece ++ take count (take (length piece - at) (drop at piece)) ≡ take (at + count) piece
taken piece at count = ap (λ (rest : List ℕ). take at piece ++ take count rest) (take_rest piece at) ∙ sym (take-add at count piece)

pub pieces-preserved : goal.pieces-preserved
pieces-preserved g c =
    let piece = c.args.piece.now in
    let before = c.pieces.invariant in
    let count = c.in_ok-count.count in
    record {
      within = omega (arith, before.within, ap (λ (rest : List ℕ). length rest) (take_rest piece c.pieces.at), length-drop c.pieces.at piece, c.in_ok-count.ensures.bound);
      written = subst (Appends _ _) (taken piece c.pieces.at count) (Appends-trans _ _ _ _ _ before.written c.in_ok-count.ensures.bytes);
    }
