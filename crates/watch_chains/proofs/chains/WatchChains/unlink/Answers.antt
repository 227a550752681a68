use Rattle.std.proofs.Common.{◌≡◌, ◌∙◌, ℕ, ◌/◌, ◌<◌, List, ◌∷◌, length, set, Option, Some, None, ap, subst, refl, length-set}
use Rattle.std.specs.Prelude.{Contains}
use Rattle.watch_chains.specs.declared.link.Link.{Link}
use Rattle.watch_chains.specs.Watches.{Watches, list_at, TakesOut}
use Rattle.watch_chains.specs.Chains.{place_of, lists_of}
use Rattle.watch_chains.proofs.Paths.{Contains-middle}
use Rattle.watch_chains.proofs.Tables.{same_watches, place_in_list, leads_to_first, leads_behind, Unlinked, unlinked_first, unlinked_behind}
use Rattle.watch_chains.proofs.chains.WatchChains.unlink.Goals as goal

pub take_first-requires-clause-first : goal.take_first-requires-clause-first
take_first-requires-clause-first c =
    let F : List (Option Link) = c.self.inside.firsts in
    let N : List (Option Link) = c.self.inside.nexts in
    let code : c.args.code < length (lists_of F N) = rw (← c.self.view_is) at c.requires.code in
    let followed = rw (c.in-None.is, ← c.self.view_is) at c.requires.followed in
    leads_to_first F N (lists_of F N) c.args.code followed.0 followed.1 c.self.invariant code followed.2

pub invariant_of-self : goal.invariant_of-self
invariant_of-self c =
    let F : List (Option Link) = c.self.inside.firsts in
    let N : List (Option Link) = c.self.inside.nexts in
    let code : c.args.code < length (lists_of F N) = rw (← c.self.view_is) at c.requires.code in
    let followed = rw (c.in-None.is, ← c.self.view_is) at c.requires.followed in
    let out : Unlinked c.take_first.new.firsts N (lists_of F N) c.args.code None c.take_first.result =
    rw c.take_first.ensures.firsts (unlinked_first F N (lists_of F N) c.args.code c.take_first.result followed.0 followed.1 c.self.invariant code followed.2 c.take_first.ensures.taken) in
    out.made

pub returns-in-None : goal.returns-in-None
returns-in-None c =
    let F : List (Option Link) = c.self.inside.firsts in
    let N : List (Option Link) = c.self.inside.nexts in
    let code : c.args.code < length (lists_of F N) = rw (← c.self.view_is) at c.requires.code in
    let followed = rw (c.in-None.is, ← c.self.view_is) at c.requires.followed in
    let F' : List (Option Link) = c.take_first.new.firsts in
    let out : Unlinked F' N (lists_of F N) c.args.code None c.take_first.result =
    rw c.take_first.ensures.firsts (unlinked_first F N (lists_of F N) c.args.code c.take_first.result followed.0 followed.1 c.self.invariant code followed.2 c.take_first.ensures.taken) in
    record {
      taken = rw c.in-None.is (subst (λ (t : Watches). TakesOut (list_at t.lists c.args.code) (list_at (lists_of F' N) c.args.code) None c.take_first.result) c.self.view_is out.taken);
      absent = out.absent;
      rest = same_watches _ _ _ _ refl out.rest
          ∙ ap (λ (t : Watches). let w : Watches = record { room = t.room; lists = set t.lists c.args.code (list_at (lists_of F' N) c.args.code) } in w) c.self.view_is;
    }

pub take_behind-requires : goal.take_behind-requires
take_behind-requires c =
    let F : List (Option Link) = c.self.inside.firsts in
    let N : List (Option Link) = c.self.inside.nexts in
    let code : c.args.code < length (lists_of F N) = rw (← c.self.view_is) at c.requires.code in
    let followed = rw (c.in-Some.is, ← c.self.view_is) at c.requires.followed in
    let has : Contains (list_at (lists_of F N) c.args.code) c.in-Some.before = rw followed.3 (Contains-middle followed.0 c.in-Some.before (followed.1 ∷ followed.2)) in
    record {
      before = place_in_list F N (lists_of F N) c.args.code c.in-Some.before c.self.invariant code has;
      next = leads_behind F N (lists_of F N) c.args.code followed.0 c.in-Some.before followed.1 followed.2 c.self.invariant code followed.3;
    }

pub invariant_of-self-in-Some : goal.invariant_of-self-in-Some
invariant_of-self-in-Some c =
    let F : List (Option Link) = c.self.inside.firsts in
    let N : List (Option Link) = c.self.inside.nexts in
    let code : c.args.code < length (lists_of F N) = rw (← c.self.view_is) at c.requires.code in
    let followed = rw (c.in-Some.is, ← c.self.view_is) at c.requires.followed in
    let out : Unlinked F c.take_behind.new.nexts (lists_of F N) c.args.code (Some c.in-Some.before) c.take_behind.result =
    rw c.take_behind.ensures.nexts (unlinked_behind F N (lists_of F N) c.args.code followed.0 c.in-Some.before c.take_behind.result followed.1 followed.2 c.self.invariant code followed.3 c.take_behind.ensures.taken) in
    out.made

pub returns-in-Some : goal.returns-in-Some
returns-in-Some c =
    let F : List (Option Link) = c.self.inside.firsts in
    let N : List (Option Link) = c.self.inside.nexts in
    let code : c.args.code < length (lists_of F N) = rw (← c.self.view_is) at c.requires.code in
    let followed = rw (c.in-Some.is, ← c.self.view_is) at c.requires.followed in
    let N' : List (Option Link) = c.take_behind.new.nexts in
    let out : Unlinked F N' (lists_of F N) c.args.code (Some c.in-Some.before) c.take_behind.result =
    rw c.take_behind.ensures.nexts (unlinked_behind F N (lists_of F N) c.args.code followed.0 c.in-Some.before c.take_behind.result followed.1 followed.2 c.self.invariant code followed.3 c.take_behind.ensures.taken) in
    let same : length N' ≡ length N = ap length c.take_behind.ensures.nexts ∙ length-set N (place_of c.in-Some.before) _ in
    record {
      taken = rw c.in-Some.is (subst (λ (t : Watches). TakesOut (list_at t.lists c.args.code) (list_at (lists_of F N') c.args.code) (Some c.in-Some.before) c.take_behind.result) c.self.view_is out.taken);
      absent = out.absent;
      rest = same_watches _ _ _ _ (ap (λ (n : ℕ). n / 2) same) out.rest
          ∙ ap (λ (t : Watches). let w : Watches = record { room = t.room; lists = set t.lists c.args.code (list_at (lists_of F N') c.args.code) } in w) c.self.view_is;
    }
