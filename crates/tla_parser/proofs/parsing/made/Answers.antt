use Rattle.std.proofs.Common.{◌≡◌, ◌∙◌, ap, sym, subst, IfOk, List, Some, reverse}
use Rattle.tla_parser.specs.declared.items.Item.{Item}
use Rattle.tla_parser.specs.Modules.{module_tree}
use Rattle.tla_parser.specs.inner.Building.{made}
use Rattle.tla_parser.proofs.Top.{items_made}
use Rattle.tla_parser.proofs.parsing.made.Goals as goal

pub returns : goal.returns
returns c = λ ps e.
    subst (λ (xs : List Item). IfOk c.module_tree.result (λ m. m ≡ module_tree xs))
    (items_made ps c.args.codes.items c.in_ok-_whole._whole c.run.new.self.items.items e
    (ap (λ (ys : List Item). made c.args.codes.items (Some (reverse ys))) (sym c.new.ensures.items) ∙ c.in_ok-_whole.ensures))
    c.module_tree.ensures
