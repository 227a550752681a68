use Rattle.std.proofs.Common.{arith, ◌≡◌, ◌∙◌, ◌+◌, ◌-◌, ◌<◌, ap, length, sym}
use Rattle.tla_meaning.specs.declared.symbols.Entry.{Entry}
use Rattle.tla_meaning.specs.Symbols.{entry_of}
use Rattle.tla_meaning.proofs.NameSearch.{find_last-hit, find_last-miss}
use Rattle.flat_modules.specs.inner.Places.{key_of, place_of}
use Rattle.flat_modules.proofs.Places.{begins_at, find_at, goes_on, read_as}
use Rattle.flat_modules.proofs.Scopes.{name_key}
use Rattle.flat_modules.proofs.scope.Scope.find.Goals as goal

pub loop-place-init : goal.loop-place-init
loop-place-init c =
    begins_at name_key (entry_of c.args.name.now) (key_of c.args.name.now) (find_at c.args.name.now) c.self.inside.entries.items
    (c.last-place.ensures ∙ ap (λ k. place_of k c.self.inside.index) c.key_of.ensures) c.self.invariant.names

pub returns-then-is_name : goal.returns-then-is_name
returns-then-is_name c =
    let j = c.loop-place.place - 1 in
    let up : c.loop-place.place ≡ j + 1 = omega arith in
    let lt : j < length c.self.inside.entries.items = omega (arith, c.loop-place.invariant.within) in
    let is = read_as c.self.inside.entries.items j c.get-entry.ensures c.index.ensures in
    sym (find_last-hit c.args.name.now (λ (e : Entry). (e.name, e)) c.self.inside.entries.items j c.loop-place.place c.get-entry.result.now up lt is (sym c.if-is_name.ensures))
    ∙ c.loop-place.invariant.same ∙ ap (entry_of c.args.name.now) c.self.view_is

pub loop-place-smaller : goal.loop-place-smaller
loop-place-smaller c =
    let j = c.loop-place.place - 1 in
    let up : c.loop-place.place ≡ j + 1 = omega arith in
    let lt : j < length c.self.inside.entries.items = omega (arith, c.loop-place.invariant.within) in
    let is = read_as c.self.inside.entries.items j c.get-entry.ensures c.index.ensures in
    let miss = find_last-miss c.args.name.now (λ (e : Entry). (e.name, e)) c.self.inside.entries.items j c.loop-place.place c.get-entry.result.now up lt is (sym c.if-is_name.ensures) in
    (goes_on name_key (entry_of c.args.name.now) (key_of c.args.name.now) (find_at c.args.name.now) c.self.inside.entries.items c.loop-place.place c.before-place.result c.loop-place-test.true
    c.loop-place.invariant (sym miss ∙ c.loop-place.invariant.same) c.before-place.ensures c.self.invariant.names).1

pub loop-place-preserved : goal.loop-place-preserved
loop-place-preserved c =
    let j = c.loop-place.place - 1 in
    let up : c.loop-place.place ≡ j + 1 = omega arith in
    let lt : j < length c.self.inside.entries.items = omega (arith, c.loop-place.invariant.within) in
    let is = read_as c.self.inside.entries.items j c.get-entry.ensures c.index.ensures in
    let miss = find_last-miss c.args.name.now (λ (e : Entry). (e.name, e)) c.self.inside.entries.items j c.loop-place.place c.get-entry.result.now up lt is (sym c.if-is_name.ensures) in
    (goes_on name_key (entry_of c.args.name.now) (key_of c.args.name.now) (find_at c.args.name.now) c.self.inside.entries.items c.loop-place.place c.before-place.result c.loop-place-test.true
    c.loop-place.invariant (sym miss ∙ c.loop-place.invariant.same) c.before-place.ensures c.self.invariant.names).0
