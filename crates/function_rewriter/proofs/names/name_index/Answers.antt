use Rattle.std.proofs.Common.{◌∙◌}
use Rattle.function_rewriter.proofs.KnownValues.{place-in, name-found, name-among, index-there}
use Rattle.function_rewriter.proofs.names.name_index.Goals as goal

pub bounds-list-place : goal.bounds-list-place
bounds-list-place c = place-in c.args.b.now.arena c.args.r c.args.place _ c.in-Rec.fields _ _ c.kind.ensures.same c.in-Rec.is c.as_slice-list.ensures (c.as_slice-texts.ensures ∙ c.texts.ensures) c.requires.within

pub returns-in_default-index_of : goal.returns-in_default-index_of
returns-in_default-index_of c =
    let never : ⊥ = index-there _ _ (λ i e. c.in_default-index_of.not-Some i e) c.index_of.ensures.none
    (name-among c.args.b.now.arena c.args.r c.args.place _ c.in-Rec.fields _ _ c.kind.ensures.same c.in-Rec.is c.as_slice-list.ensures (c.as_slice-texts.ensures ∙ c.texts.ensures) c.requires.within
    c.index-list-place.result c.requires.names) in
    absurd never

pub returns : goal.returns
returns c =
    let found = c.in-Some.ensures.found in
    name-found c.args.b.now.arena c.args.r c.args.place _ c.in-Rec.fields _ _ c.kind.ensures.same c.in-Rec.is c.as_slice-list.ensures (c.as_slice-texts.ensures ∙ c.texts.ensures) c.requires.within
    c.index-list-place.result _ found.0 found.1
