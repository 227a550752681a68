use Rattle.std.proofs.Common.{◌∙◌}
use Rattle.typed_cells.proofs.DefaultCells.{empty-function, empty-sequence, empty-set, no-edges, of-bool, of-fun}
use Rattle.typed_cells.proofs.DefaultCells.{of-int, of-seq, of-set, of-text}
use Rattle.typed_cells.proofs.DefaultValues.{default-bool, default-fun, default-int, default-seq, default-set}
use Rattle.typed_cells.proofs.DefaultValues.{default-text, function-of-none, sequence-of-none, set-of-none}
use Rattle.typed_cells.proofs.DefaultValues.{text-of-none, zero-cell}
use Rattle.typed_cells.proofs.defaults.plain_cell.Goals as goal

pub set_of_edges-requires : goal.set_of_edges-requires
set_of_edges-requires c = no-edges _ _ _ c.new.ensures.items

pub returns-in_ok-id-in-Bool-clause-cell : goal.returns-in_ok-id-in-Bool-clause-cell
returns-in_ok-id-in-Bool-clause-cell c = of-bool _ _ _ c.in-Bool.is c.in_ok-id-in-Bool.ensures.cell.sort

pub returns-in_ok-id-in-Int-clause-cell : goal.returns-in_ok-id-in-Int-clause-cell
returns-in_ok-id-in-Int-clause-cell c = of-int _ _ _ c.in-Int.is c.in_ok-id-in-Int.ensures.cell.sort

pub returns-in_ok-id-in-Set-clause-cell : goal.returns-in_ok-id-in-Set-clause-cell
returns-in_ok-id-in-Set-clause-cell c =
    of-set _ _ _ c.in-Set.field-0 c.in-Set.is
    (empty-set c.args.b.now _ _ _ c.new.ensures.items c.in_ok-id-in-Set.ensures.set)

pub returns-in_ok-id-in-Seq-clause-cell : goal.returns-in_ok-id-in-Seq-clause-cell
returns-in_ok-id-in-Seq-clause-cell c =
    of-seq _ _ _ c.in-Seq.field-0 c.in-Seq.is
    (empty-sequence c.args.b.now.arena.kinds _ _ _ c.new-in-Seq.ensures.items c.in_ok-id-in-Seq.ensures.sort)

pub returns-in_ok-id-in-Fun-clause-cell : goal.returns-in_ok-id-in-Fun-clause-cell
returns-in_ok-id-in-Fun-clause-cell c =
    of-fun _ _ _ c.in-Fun.field-0 c.in-Fun.field-1 c.in-Fun.is
    (empty-function c.args.b.now _ _ _ c.new-in-Fun.ensures c.in_ok-id-in-Fun.ensures.cell c.in_ok-id-in-Fun.ensures.grows)

pub returns-in_ok-id-in-Str-clause-cell : goal.returns-in_ok-id-in-Str-clause-cell
returns-in_ok-id-in-Str-clause-cell c = of-text _ _ _ c.in-Str.is c.in_ok-id-in-Str.ensures.cell.sort

pub returns-in_ok-id-in-Bool-clause-value : goal.returns-in_ok-id-in-Bool-clause-value
returns-in_ok-id-in-Bool-clause-value c = default-bool _ _ _ c.in-Bool.is c.in_ok-id-in-Bool.ensures.cell.cell

pub returns-in_ok-id-in-Int-clause-value : goal.returns-in_ok-id-in-Int-clause-value
returns-in_ok-id-in-Int-clause-value c = default-int _ _ _ c.in-Int.is (zero-cell _ _ c.in_ok-id-in-Int.ensures.cell)

pub returns-in_ok-id-in-Str-clause-value : goal.returns-in_ok-id-in-Str-clause-value
returns-in_ok-id-in-Str-clause-value c =
    default-text _ _ _ c.in-Str.is
    (text-of-none _ _ _ (c.from_vec.ensures ∙ c.new-in-Str.ensures.items) c.in_ok-id-in-Str.ensures.cell.cell)

pub returns-in_ok-id-in-Set-clause-value : goal.returns-in_ok-id-in-Set-clause-value
returns-in_ok-id-in-Set-clause-value c =
    default-set _ _ _ c.in-Set.field-0 c.in-Set.is
    (set-of-none _ _ _ _ c.new.ensures.items c.in_ok-id-in-Set.ensures.set)

pub returns-in_ok-id-in-Seq-clause-value : goal.returns-in_ok-id-in-Seq-clause-value
returns-in_ok-id-in-Seq-clause-value c =
    default-seq _ _ _ c.in-Seq.field-0 c.in-Seq.is
    (sequence-of-none c.args.b.now _ _ _ c.new-in-Seq.ensures.items c.in_ok-id-in-Seq.ensures.value)

pub returns-in_ok-id-in-Fun-clause-value : goal.returns-in_ok-id-in-Fun-clause-value
returns-in_ok-id-in-Fun-clause-value c =
    default-fun _ _ _ c.in-Fun.field-0 c.in-Fun.field-1 c.in-Fun.is
    (function-of-none c.args.b.now _ _ _ c.new-in-Fun.ensures c.in_ok-id-in-Fun.ensures.value)
