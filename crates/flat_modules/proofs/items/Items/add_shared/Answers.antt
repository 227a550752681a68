use Rattle.std.proofs.Common.{ap, map, ◌++◌, ◌∷◌, [], ◌∙◌, sym}
use Rattle.std.specs.List.{list_any}
use Rattle.tla_meaning.specs.Flattening.{same_item}
use Rattle.flat_modules.specs.inner.Items.{item_of}
use Rattle.flat_modules.proofs.ItemLemmas.{item_new, item_there}
use Rattle.flat_modules.proofs.items.Items.add_shared.Goals as goal

pub returns-then-is_there : goal.returns-then-is_there
returns-then-is_there c =
    item_there c.args.self.now c.args.item
    (ap (λ i. list_any (λ other. same_item (item_of i) (item_of other)) c.args.self.now) (sym c.get.ensures) ∙ sym c.if-is_there.ensures)

pub returns : goal.returns
returns c =
    ap (map item_of) (c.push_reserved.ensures.items ∙ ap (λ l. l ++ c.args.item ∷ []) (c.in_ok-reserve.ensures.items ∙ c.self.view_is))
    ∙ item_new c.args.self.now c.args.item
    (ap (λ i. list_any (λ other. same_item (item_of i) (item_of other)) c.args.self.now) (sym c.get.ensures) ∙ sym c.if-is_there.ensures)
