-- `x \in S` as it stands in a list of operands, given from the last on.
use Rattle.std.proofs.Common.{◌≡◌, List, [], ◌∷◌, ◌++◌, reverse, refl}
use Rattle.std.proofs.lemmas.List.{reverse-append}
use Rattle.tla_meaning.specs.declared.expr.Expr.{Expr, out-Expr}
use Rattle.tla_parser.specs.Trees.{used_name, with_member, with_members}
use Rattle.tla_parser.specs.declared.items.Digest.{Digest}

pub members_end : (es ys xs : List Expr) (e n : Expr) (d : Digest) → es ≡ ys ++ (e ∷ []) → ys ≡ xs ++ (n ∷ []) → with_members (reverse es) d ≡ with_member (used_name (out-Expr n).op) e d
members_end es ys xs e n d p q = rw (p, q, reverse-append (xs ++ (n ∷ [])) (e ∷ []), reverse-append xs (n ∷ [])) refl
