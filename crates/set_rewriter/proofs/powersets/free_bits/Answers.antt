use Rattle.std.proofs.Common.{ap}
use Rattle.sat_formula.specs.declared.cnf.Cnf.{Cnf}
use Rattle.sat_formula.proofs.Extension.{Grows-refl, Grows-trans}
use Rattle.set_rewriter.proofs.Freedom.{bits-none, bits-more}
use Rattle.set_rewriter.proofs.powersets.free_bits.Goals as goal

pub loop-i-init : goal.loop-i-init
loop-i-init c = record {
  grows = Grows-refl c.args.formula.now;
  bits = rw c.new-bits.ensures.items (bits-none c.args.formula.now);
}

pub loop-i-preserved : goal.loop-i-preserved
loop-i-preserved c =
    let i = c.loop-i.invariant in
    let r = c.in_ok-bit.ensures in
    record {
      grows = Grows-trans _ _ _ i.grows r.grows;
      bits = bits-more _ _ _ _ _ _ _ i.bits r.free r.lit (ap (λ (f : Cnf). f.vars) r.longer) c.in_ok-push.ensures.items;
    }
