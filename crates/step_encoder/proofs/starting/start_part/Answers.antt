use Rattle.std.proofs.Common.{refl}
use Rattle.level_laws.specs.Branches.{Held}
use Rattle.cell_arena.proofs.Growing.{Grows-trans}
use Rattle.step_encoder.proofs.AskedTrees.{can_ask_assumption}
use Rattle.step_encoder.proofs.MadeParts.{along_as, cells_as, constants_stay, either_as, ends_later, kinds_as}
use Rattle.step_encoder.proofs.MadeParts.{start_goes, whole_as}
use Rattle.step_encoder.proofs.starting.start_part.Goals as goal

pub condition_of-requires : goal.condition_of-requires
condition_of-requires g c = can_ask_assumption c.args.b.now c.args.system.now c.args.constants.now c.args.way.now
    c.requires.0

pub along-requires : goal.along-requires
along-requires g c =
    start_goes c.args.b.now c.both.new.b c.args.system.now c.args.constants.now c.args.way.now
    c.args.b.now.arena.width g.names c.as_slice.result.now c.requires.0
    (record { same = refl; narrow = c.args.b.now.built.narrow }) (Grows-trans _ _ _ c.in_ok-truth.ensures.grows
    c.in_ok-known.ensures.grows) c.requires.1 c.as_slice.ensures

pub choose_cells-requires : goal.choose_cells-requires
choose_cells-requires g c = (
  ends_later c.both.new.b c.along.new.b c.in_ok-known.known c.in_ok-part.ensures.grows
      (λ k. (c.in_ok-known.ensures.ends k).below) Held,
  (
    cells_as c.along.new.b g.names _ _ c.as_slice-cells.ensures c.in_ok-part.ensures.whole.cells,
    constants_stay c.args.b.now c.along.new.b c.args.system.now c.args.constants.now c.args.way.now g.names _
        c.requires.0 (Grows-trans _ _ _ (Grows-trans _ _ _ c.in_ok-truth.ensures.grows c.in_ok-known.ensures.grows)
        c.in_ok-part.ensures.grows) c.requires.1 c.as_slice-others.ensures,
  ),
)

pub returns-in_err-next-clause-grows : goal.returns-in_err-next-clause-grows
returns-in_err-next-clause-grows g c =
    Grows-trans _ _ _ (Grows-trans _ _ _ c.in_ok-truth.ensures.grows c.in_ok-known.ensures.grows)
    (Grows-trans _ _ _ c.in_ok-part.ensures.grows c.choose_cells.ensures.grows)

pub returns-in_err-ends-clause-grows : goal.returns-in_err-ends-clause-grows
returns-in_err-ends-clause-grows g c =
    Grows-trans _ _ _ (Grows-trans _ _ _ c.in_ok-truth.ensures.grows c.in_ok-known.ensures.grows)
    (Grows-trans _ _ _ (Grows-trans _ _ _ c.in_ok-part.ensures.grows c.in_ok-next.ensures.grows)
    c.both-2.ensures.grows)

pub returns-clause-grows : goal.returns-clause-grows
returns-clause-grows g c =
    Grows-trans _ _ _ (Grows-trans _ _ _ c.in_ok-truth.ensures.grows c.in_ok-known.ensures.grows)
    (Grows-trans _ _ _ (Grows-trans _ _ _ c.in_ok-part.ensures.grows c.in_ok-next.ensures.grows)
    c.in_ok-ends.ensures.grows)

pub returns-clause-part : goal.returns-clause-part
returns-clause-part g c = record {
  formed = c.formed.ensures;
  assumed = c.condition_of.new.b;
  truth = c.in_ok-truth.truth;
  before = c.in_ok-truth.ensures.grows;
  condition = c.in_ok-truth.ensures.condition;
  from = c.both.new.b;
  formed_from = c.formed-2.ensures;
  known = c.in_ok-known.known;
  onto = c.in_ok-known.ensures.grows;
  behind = c.in_ok-known.ensures.ends;
  to = c.along.new.b;
  formed_to = c.formed-3.ensures;
  part = c.in_ok-part.part;
  along = along_as _ _ _ _ _ _ c.as_slice.ensures c.in_ok-part.ensures.along;
  grows = c.in_ok-part.ensures.grows;
  whole = whole_as _ _ _ _ c.requires.1 c.in_ok-part.ensures.whole;
  chosen = c.choose_cells.new.b;
  formed_chosen = c.formed-4.ensures;
  cells = c.in_ok-next.next;
  choosing = c.in_ok-next.ensures.grows;
  choice = either_as c.choose_cells.new.b c.in_ok-known.known.holds _ _ _ _ _ c.as_slice-cells.ensures
      c.as_slice-others.ensures c.in_ok-next.ensures.either;
  kinds = kinds_as c.choose_cells.new.b _ _ _ c.requires.1 c.in_ok-next.ensures.kinds;
  after = c.in_ok-ends.ensures.grows;
  ends = c.in_ok-ends.ensures.ends;
  next = refl;
}
