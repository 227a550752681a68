use Rattle.std.proofs.Common.{refl, subst, List}
use Rattle.tla_meaning.specs.Scopes.{find_last}
use Rattle.op_inliner.specs.declared.frames.Frame.{Frame}
use Rattle.op_inliner.specs.inner.Frames.{IsFound, names_at}
use Rattle.op_inliner.proofs.SpotLemmas.{used_leads}
use Rattle.op_inliner.proofs.spots.used.Goals as goal

pub returns : goal.returns
returns c =
    used_leads c.args.frames.now.items c.pass.new.frames.items c.args.spot _ c.args.name.now c.in-Some.found _ c.requires.named
    (subst (λ (fs : List Frame). IsFound fs (find_last c.args.name.now (names_at fs c.args.spot.scope).named) c.in-Some.found) c.as_slice.ensures.value c.in-Some.ensures.some)
    c.as_slice-args.ensures c.in_ok-scope.ensures refl refl refl
