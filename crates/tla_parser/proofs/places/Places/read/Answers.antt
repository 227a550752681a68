use Rattle.std.proofs.Common.{Bool, nat_le, cond, refl, sym, ap, subst, ◌&&◌, ◌||◌, ◌∙◌}
use Rattle.tla_parser.proofs.Kept.{kept, renewed_as}
use Rattle.tla_parser.specs.declared.moves.Seen.{Seen}
use Rattle.tla_parser.specs.inner.Refusals.{IsStep}
use Rattle.tla_parser.proofs.places.Places.read.Goals as goal

pub returns : goal.returns
returns c = λ ts s o h.
    let k : IsStep ts c.args.token.now c.args.before c.args.behind c.look-seen.result c.args.token.now.place = subst (λ (x : Seen). IsStep ts c.args.token.now c.args.before c.args.behind x c.args.token.now.place) (sym c.look-seen.ensures) s in
    kept ts c.args.token.now c.args.self.now _ c.args.before c.args.behind c.look-seen.result c.args.token.now.place c.args.once k o h
    (record {
      start_so = c.renewed-self.ensures ∙ renewed_as _ _ _ _ _ _ (c.begins_whole-begins.ensures ∙ ap (λ (b : Bool). b && c.args.once) c.starts-starts.ensures) c.is_header-header.ensures;
      within_so = c.renewed-self-2.ensures ∙ renewed_as _ _ _ _ _ _ (c.is_within.ensures ∙ ap (λ (b : Bool). b && nat_le c.args.behind.levels 400) (c.begins_whole-begins.ensures ∙ ap (λ (b : Bool). b && c.args.once) c.starts-starts.ensures)) c.is_header-header.ensures;
      begun_so = c.has_begun-self.ensures ∙ ap (λ (b : Bool). c.args.self.now.begun || b) (c.begins_whole-begins.ensures ∙ ap (λ (b : Bool). b && c.args.once) c.starts-starts.ensures);
      whole_so = c.is_whole-self.ensures ∙ ap (λ (b : Bool). cond b c.args.once c.args.self.now.whole) c.starts-starts.ensures;
      last_so = refl;
    })
