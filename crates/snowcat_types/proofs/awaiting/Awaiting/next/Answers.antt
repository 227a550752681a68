use Rattle.std.proofs.Common.{◌<◌, ◌++◌, ◌∷◌, ◌∙◌, Bool, List, [], Some, ap, length, map, refl, rules, subst}
use Rattle.snowcat_types.specs.inner.Awaited.{ArePassed, IsNoneDecided, IsNow}
use Rattle.snowcat_types.proofs.Leaving.{at_read, marked_within}
use Rattle.snowcat_types.proofs.Nexts.{chosen_first, done_now, found_below, found_decided, found_none}
use Rattle.snowcat_types.proofs.awaiting.Awaiting.next.Goals as goal

pub offset_bounds-waits-node : goal.offset_bounds-waits-node
offset_bounds-waits-node c =
    let lt : c.in-Some.node < length c.args.waits.now =
    found_below (λ w. w.now) c.args.waits.now c.args.subst.now c.args.self.now c.next_decided.new.self c.in_ok-node.field-0 c.in-Some.node
    c.in-Some.is c.in_ok-node.ensures in
    search rules

pub bounds-waits-node : goal.bounds-waits-node
bounds-waits-node c =
    found_below (λ w. w.now) c.args.waits.now c.args.subst.now c.args.self.now c.next_decided.new.self c.in_ok-node.field-0 c.in-Some.node
    c.in-Some.is c.in_ok-node.ensures

pub returns-in-Some : goal.returns-in-Some
returns-in-Some c =
    found_decided (λ w. w.now) c.args.waits.now c.args.subst.now c.args.self.now c.next_decided.new.self c.in_ok-node.field-0 c.in-Some.node
    c.in-Some.is c.in_ok-node.ensures c.index-waits-node.result c.kind_of.result c.index-waits-node.is c.kind_of.ensures

pub returns-in_ok-push-in-Some-first : goal.returns-in_ok-push-in-Some-first
returns-in_ok-push-in-Some-first c =
    let none : IsNoneDecided c.args.subst.now (map (λ w. w.now) c.args.waits.now) c.args.self.now c.next_decided.new.self =
    found_none c.args.subst.now (map (λ w. w.now) c.args.waits.now) c.args.self.now c.next_decided.new.self c.in_ok-node.field-0
    c.in_default.is c.in_ok-node.ensures in
    let P : List Bool → Type 0 = λ z. ArePassed z c.first.new.self.all.items c.first.new.self.passed in
    let Q : List Bool → Type 0 = λ z. IsNow z c.first.new.self (Some c.in-Some-first.node) in
    let now : IsNow c.next_decided.new.self.marks.items c.first.new.self (Some c.in-Some-first.node) =
    subst Q c.as_slice.ensures.value c.in-Some-first.ensures.now in
    chosen_first c.args.subst.now (map (λ w. w.now) c.args.waits.now) c.args.self.now c.next_decided.new.self _ none
    (subst P c.as_slice.ensures.value c.in-Some-first.ensures.moved.passed) c.in-Some-first.ensures.moved.same refl c.in-Some-first.node
    c.index-waits-node-in-Some-first.result.now c.default_kind.result
    (at_read (λ w. w.now) c.args.waits.now c.in-Some-first.node c.index-waits-node-in-Some-first.result
    (marked_within (λ w. w.now) c.args.waits.now c.next_decided.new.self.marks.items c.in-Some-first.node none.awaiting.size now.marked)
    c.index-waits-node-in-Some-first.is)
    now refl (c.in_ok-push-in-Some-first.ensures.items ∙ ap (λ z. c.next_decided.new.self.defaults.items ++ z ∷ []) c.place_of.ensures)
    c.default_kind.ensures

pub returns-in-None : goal.returns-in-None
returns-in-None c =
    let none : IsNoneDecided c.args.subst.now (map (λ w. w.now) c.args.waits.now) c.args.self.now c.next_decided.new.self =
    found_none c.args.subst.now (map (λ w. w.now) c.args.waits.now) c.args.self.now c.next_decided.new.self c.in_ok-node.field-0
    c.in_default.is c.in_ok-node.ensures in
    let P : List Bool → Type 0 = λ z. ArePassed z c.first.new.self.all.items c.first.new.self.passed in
    done_now c.args.subst.now (map (λ w. w.now) c.args.waits.now) c.args.self.now c.next_decided.new.self _ none
    (subst P c.as_slice.ensures.value c.in-None.ensures.moved.passed) c.in-None.ensures.moved.same refl c.in-None.ensures.now refl refl
