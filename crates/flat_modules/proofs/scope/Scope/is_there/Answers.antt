use Rattle.std.proofs.Common.{◌∙◌, ◌-◌, ap, sym}
use Rattle.std.specs.List.{list_any}
use Rattle.tla_meaning.specs.Symbols.{serves}
use Rattle.flat_modules.specs.inner.Places.{key_of, place_of}
use Rattle.flat_modules.proofs.Places.{any_begins, any_found, any_next, read_as}
use Rattle.flat_modules.proofs.Scopes.{name_key, served}
use Rattle.flat_modules.proofs.scope.Scope.is_there.Goals as goal

pub loop-place-init : goal.loop-place-init
loop-place-init c =
    let new = c.args.new.now in
    any_begins name_key (key_of new.name) (serves new) (served new) c.self.inside.entries.items
    (c.last-place.ensures ∙ ap (λ k. place_of k c.self.inside.index) c.key.ensures) c.self.invariant.names

pub returns-then-serves : goal.returns-then-serves
returns-then-serves c =
    let new = c.args.new.now in
    any_found name_key (key_of new.name) (serves new) (served new) c.self.inside.entries.items c.loop-place.place c.get.result.now c.loop-place-test.true c.loop-place.invariant
    (read_as c.self.inside.entries.items (c.loop-place.place - 1) c.get.ensures c.index.ensures) (ap (λ n. serves n c.get.result.now) (sym c.get-in-loop-place.ensures) ∙ sym c.if-serves.ensures)
    ∙ ap (list_any (serves new)) c.self.view_is

pub loop-place-smaller : goal.loop-place-smaller
loop-place-smaller c =
    let new = c.args.new.now in
    (any_next name_key (key_of new.name) (serves new) (served new) c.self.inside.entries.items c.loop-place.place c.before-place.result c.get.result.now c.loop-place-test.true c.loop-place.invariant
    (read_as c.self.inside.entries.items (c.loop-place.place - 1) c.get.ensures c.index.ensures) (ap (λ n. serves n c.get.result.now) (sym c.get-in-loop-place.ensures) ∙ sym c.if-serves.ensures) c.before-place.ensures c.self.invariant.names).1

pub loop-place-preserved : goal.loop-place-preserved
loop-place-preserved c =
    let new = c.args.new.now in
    (any_next name_key (key_of new.name) (serves new) (served new) c.self.inside.entries.items c.loop-place.place c.before-place.result c.get.result.now c.loop-place-test.true c.loop-place.invariant
    (read_as c.self.inside.entries.items (c.loop-place.place - 1) c.get.ensures c.index.ensures) (ap (λ n. serves n c.get.result.now) (sym c.get-in-loop-place.ensures) ∙ sym c.if-serves.ensures) c.before-place.ensures c.self.invariant.names).0
