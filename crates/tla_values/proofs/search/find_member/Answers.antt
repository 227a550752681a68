use Rattle.std.specs.List.{HoldsAt}
use Rattle.std.specs.List.Sorted.{IsPartitionPoint}
use Rattle.std.specs.declared.cmp.Ordering.TheVariants.{Less, Equal, Greater}
use Rattle.std.proofs.Common.{◌≡◌, rules, subst, sym, IsTrue}
use Rattle.std.proofs.lemmas.Fn.{always_returns_same}
use Rattle.tla_values.specs.Order.{value_cmp}
use Rattle.tla_values.specs.Sets.{increasing}
use Rattle.tla_values.proofs.Rising.{rising_searchable, map_itself, place_from}
use Rattle.tla_values.proofs.search.find_member.Goals as goal

pub returns-clause-place : goal.returns-clause-place
returns-clause-place c =
    let up = rising_searchable (λ x. x) c.args.members.now (subst (λ l. IsTrue (increasing l)) (sym (map_itself _)) c.requires) c.args.v.now in
    let found = c.binary_search_by.ensures.position (λ y. value_cmp y c.args.v.now) (always_returns_same _ _ _ (λ a r f h. search rules)) in
    place_from c.binary_search_by.result (HoldsAt (λ y. value_cmp y c.args.v.now ≡ Equal) c.args.members.now)
    (IsPartitionPoint (λ y. value_cmp y c.args.v.now ≡ Less) (λ y. value_cmp y c.args.v.now ≡ Greater) c.args.members.now) up found
