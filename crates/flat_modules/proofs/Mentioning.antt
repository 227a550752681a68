-- The modules that units mention, one by one.
use Rattle.std.proofs.Common.{◌≡◌, ◌∙◌, ◌+◌, ◌<◌, ℕ, List, [], ◌∷◌, ◌++◌, filter, take, length, get_or, refl, ap, sym, append_assoc}
use Rattle.std.proofs.lemmas.List.{take_more}
use Rattle.std.proofs.lemmas.List.Elements.{filter-append}
use Rattle.tla_meaning.specs.declared.modules.Unit as modules
use Rattle.tla_meaning.specs.declared.modules.Unit.TheVariants as unit
use Rattle.tla_meaning.specs.Flattening.{mentioned_by}
use Rattle.flat_modules.specs.inner.Mentions.{is_file}

mentioned_more : (us : List modules.Unit) (u : modules.Unit) → mentioned_by (us ++ u ∷ []) ≡ mentioned_by us ++ mentioned_by (u ∷ [])
mentioned_more [] u = refl
mentioned_more (unit.Declare ds ∷ us) u = mentioned_more us u
mentioned_more (unit.Assume e ∷ us) u = mentioned_more us u
mentioned_more (unit.Theorem e ∷ us) u = mentioned_more us u
mentioned_more (unit.Define d local ∷ us) u = mentioned_more us u
mentioned_more (unit.Instance i m cs local p ∷ us) u = ap (λ l. m ∷ l) (mentioned_more us u)
mentioned_more (unit.Recursive xs ∷ us) u = mentioned_more us u

pub mentioned_next : (start : List (List ℕ)) (us : List modules.Unit) (i : ℕ) (u : modules.Unit) {mid new : List (List ℕ)} → i < length us → u ≡ get_or us i u →
    mid ≡ start ++ filter is_file (mentioned_by (take i us)) → new ≡ mid ++ filter is_file (mentioned_by (u ∷ [])) →
    new ≡ start ++ filter is_file (mentioned_by (take (i + 1) us))
mentioned_next start us i u lt is m n =
    let before = mentioned_by (take i us) in
    let one = mentioned_by (u ∷ []) in
    n ∙ ap (λ l. l ++ filter is_file one) m ∙ append_assoc start (filter is_file before) (filter is_file one)
    ∙ ap (λ l. start ++ l) (sym (filter-append is_file before one))
    ∙ ap (λ l. start ++ filter is_file l) (sym (mentioned_more (take i us) u))
    ∙ ap (λ l. start ++ filter is_file (mentioned_by l)) (sym (take_more us i u lt ∙ ap (λ y. take i us ++ y ∷ []) (sym is)))
