use Rattle.std.proofs.Common.{◌≡◌, ◌<◌, ◌↔◌, true, false, length, subst, arith}
use Rattle.std.specs.Prelude.{Contains}
use Rattle.std.proofs.lemmas.List.{get_or_read}
use Rattle.refutation_checker.specs.Follows.{negation}
use Rattle.watched_search.specs.Trail.{TrailView, lits_of}
use Rattle.watched_search.specs.Codes.{literal}
use Rattle.watched_search.proofs.CodeLemmas.{code-below}
use Rattle.watched_search.proofs.SpanLemmas.{code-negation}
use Rattle.watched_search.proofs.trail.Trail.is_false.Goals as goal

pub index-requires : goal.index-requires
index-requires c =
    let room = length c.self.inside.values.items in
    let turned = negation (literal c.args.code) in
    let below : turned.var < room = rw (← c.self.view_is) at c.requires in
    let sized = c.self.invariant.4.sized in
    let within = code-below turned room below in
    let at = code-negation c.args.code in
    omega arith

pub returns : goal.returns
returns c =
    let room = length c.self.inside.values.items in
    let turned = negation (literal c.args.code) in
    let below : turned.var < room = rw (← c.self.view_is) at c.requires in
    let h = c.self.invariant.4 in
    let sized = h.sized in
    let within = code-below turned room below in
    let at = code-negation c.args.code in
    let read = get_or_read c.self.inside.truths.items _ c.index.result.now (omega arith) c.index.ensures false in
    let told : (c.index.result.now ≡ true) ↔ Contains (lits_of c.self.inside.entries.items) turned = rw (read, ← at) (h.told turned below) in
    subst (λ (t : TrailView). (c.index.result.now ≡ true) ↔ Contains (lits_of t.entries) turned) c.self.view_is told
