use Rattle.std.proofs.Common.{◌<◌, ◌^◌, arith, sym}
use Rattle.word_blaster.proofs.Unsigned.{has_more, room}
use mathlib.Core.Bool.{false≢true}
use Rattle.word_blaster.proofs.naturals.has_room.Goals as goal

pub returns-then-bits-ge64 : goal.returns-then-bits-ge64
returns-then-bits-ge64 c = record {
  some = λ t. let small : c.args.n < 2 ^ 64 = omega arith in room c.args.n c.args.bits small (omega arith);
  none = λ f. absurd (false≢true (sym f));
}

pub returns-clause-none : goal.returns-clause-none
returns-clause-none c = λ f. has_more c.args.n (2 ^ c.args.bits) f
