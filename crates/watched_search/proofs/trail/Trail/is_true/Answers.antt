use Rattle.std.proofs.Common.{◌≡◌, ◌<◌, ◌↔◌, true, false, length, subst, arith}
use Rattle.std.specs.Prelude.{Contains}
use Rattle.std.proofs.lemmas.List.{get_or_read}
use Rattle.watched_search.specs.Trail.{TrailView, lits_of}
use Rattle.watched_search.proofs.CodeLemmas.{code-below}
use Rattle.watched_search.proofs.trail.Trail.is_true.Goals as goal

pub returns : goal.returns
returns c =
    let room = length c.self.inside.values.items in
    let below : c.args.l.var < room = rw (← c.self.view_is) at c.requires in
    let h = c.self.invariant.4 in
    let sized = h.sized in
    let within = code-below c.args.l room below in
    let at = c.code_of.ensures in
    let read = get_or_read c.self.inside.truths.items c.code_of.result c.index.result.now (omega arith) c.index.ensures false in
    let told : (c.index.result.now ≡ true) ↔ Contains (lits_of c.self.inside.entries.items) c.args.l = rw (read, c.code_of.ensures) (h.told c.args.l below) in
    subst (λ (t : TrailView). (c.index.result.now ≡ true) ↔ Contains (lits_of t.entries) c.args.l) c.self.view_is told
