use Rattle.std.proofs.Common.{◌≡◌, ◌∙◌, ap, sym, subst, IfOk, List, Option, ℕ}
use Rattle.tla_parser.proofs.Members.{members_end}
use Rattle.tla_parser.specs.Trees.{with_member}
use Rattle.tla_parser.specs.declared.items.Digest.{Digest}
use Rattle.tla_parser.proofs.digests.with_members.Goals as goal

-- src/digests.rt:208:1
pub returns : goal.returns
returns c =
    subst (λ (x : Digest). IfOk c.with_member.result (λ d. d ≡ x))
    (ap (λ (o : Option (List ℕ)). with_member o c.in-Some.set c.args.digest) c.used_name.ensures
    ∙ sym (members_end c.args.args c.pop.new.self.items c.pop-2.new.self.items c.in-Some.set c.in-Some-pop.name c.args.digest (sym c.into_vec-args.ensures ∙ c.in-Some.ensures.items) c.in-Some-pop.ensures.items))
    c.with_member.ensures
