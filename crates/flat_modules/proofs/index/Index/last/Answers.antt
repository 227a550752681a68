use Rattle.std.proofs.Common.{◌≡◌, ◌<◌, ◌%◌, ◌∙◌, ap, arith, get_or, length}
use Rattle.flat_modules.specs.inner.Places.{place_of}
use Rattle.flat_modules.proofs.Places.{head_begins}
use Rattle.flat_modules.proofs.index.Index.last.Goals as goal

pub seek-requires-clause-begins : goal.seek-requires-clause-begins
seek-requires-clause-begins c =
    let chains = c.self.inside.chains in
    let size : c.len.result ≡ length chains.heads.items = omega (arith, chains.heads.ok.0) in
    let some : 0 < length chains.heads.items = grind (arith, chains.heads.ok.0) in
    let at = c.index-head.ensures ∙ ap (λ n. get_or chains.heads.items (c.args.key % n) c.index-head.result.now) size in
    (head_begins c.self.inside.keys.items chains.heads.items chains.links.items c.self.invariant c.args.key c.index-head.result.now some at c.deref.ensures.value).0

pub returns : goal.returns
returns c =
    let chains = c.self.inside.chains in
    let size : c.len.result ≡ length chains.heads.items = omega (arith, chains.heads.ok.0) in
    let some : 0 < length chains.heads.items = grind (arith, chains.heads.ok.0) in
    let at = c.index-head.ensures ∙ ap (λ n. get_or chains.heads.items (c.args.key % n) c.index-head.result.now) size in
    c.seek.ensures
    ∙ (head_begins c.self.inside.keys.items chains.heads.items chains.links.items c.self.invariant c.args.key c.index-head.result.now some at c.deref.ensures.value).1
    ∙ ap (place_of c.args.key) c.self.view_is
