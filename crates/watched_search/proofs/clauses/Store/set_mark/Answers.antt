use Rattle.std.proofs.Common.{◌<◌, length, ap, arith}
use Rattle.std.proofs.Math.Seq.{map-set_same}
use Rattle.std.proofs.lemmas.List.{get_or_read, length-map}
use Rattle.watched_search.specs.inner.Spans.{literals_in}
use Rattle.watched_search.proofs.clauses.Store.set_mark.Goals as goal

pub returns : goal.returns
returns c =
    let codes = c.self.inside.codes.items in
    let spans = c.self.inside.spans.items in
    let old = c.index-span.result.now in
    let long = length-map spans (λ x. literals_in codes x) in
    let below = rw (← c.self.view_is) at c.requires in
    let lt : c.args.c < length spans = omega arith in
    rw (← c.self.view_is) (map-set_same (λ x. literals_in codes x) spans c.args.c (record { start = old.start; end = old.end; mark = c.args.k }) old
    (ap (λ x. literals_in codes x) (get_or_read spans c.args.c old lt c.index-span.ensures old)))
