use Rattle.std.proofs.Common.{◌≡◌, ◌∙◌, List, [], ◌∷◌, ◌++◌, Some, None, refl, ap, sym, append_assoc}
use Rattle.std.specs.Prelude.{slice_get}
use Rattle.std.proofs.lemmas.List.{append-nil}
use Rattle.watch_chains.specs.declared.link.Link.{Link}
use Rattle.watch_chains.specs.Watches.{list_at}
use Rattle.base_tests.proofs.chains.contents.Goals as goal

-- what is left begins with the link that was read, and is empty where there was none
begins_with : (rest : List Link) (l : Link) → slice_get rest 0 ≡ Some l → (more : List Link) × (rest ≡ l ∷ more)
begins_with [] l e = absurd (cc)
begins_with (x ∷ more) l e = (more, ap (λ (y : Link). y ∷ more) (same x l e))
  where
    same : (x y : Link) → Some x ≡ Some y → x ≡ y
    same x y e = cc

none_left : (rest : List Link) → slice_get rest 0 ≡ None → rest ≡ []
none_left [] e = refl
none_left (x ∷ rest) e = absurd (cc)

pub links-preserved : goal.links-preserved
links-preserved c =
    let rest = c.links.invariant.0 in
    let read = begins_with rest c.in-Some.l (sym c.links.invariant.2 ∙ c.in-Some.is) in
    let is : list_at c.args.chains.now.lists c.args.code ≡ c.links.links.items ++ c.in-Some.l ∷ read.0 = c.links.invariant.1 ∙ ap (λ (xs : List Link). c.links.links.items ++ xs) read.1 in (
      read.0,
      is ∙ sym (append_assoc c.links.links.items (c.in-Some.l ∷ []) read.0) ∙ ap (λ (xs : List Link). xs ++ read.0) (sym c.in_ok-push.ensures.items),
      c.next_of-at.ensures c.links.links.items read.0 is,
    )

pub returns : goal.returns
returns c =
    let none = none_left c.links.invariant.0 (sym c.links.invariant.2 ∙ c.in_default.is) in
    sym (c.links.invariant.1 ∙ ap (λ (xs : List Link). c.links.links.items ++ xs) none ∙ append-nil c.links.links.items)
