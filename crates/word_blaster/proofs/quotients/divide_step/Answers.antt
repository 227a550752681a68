use Rattle.std.proofs.Common.{◌≡◌, ◌<◌, ℕ, ◌+◌, ◌*◌, ◌^◌, Bool, not, length, List, [], ◌∷◌, ◌++◌, take, map, ap, arith, sym, ◌∙◌, subst}
use Rattle.std.specs.Prelude.{if◌then◌else◌}
use Rattle.sat_formula.specs.Lit.{lit_value}
use Rattle.sat_formula.specs.declared.lit.Lit.{Lit}
use Rattle.sat_formula.proofs.Extension.{Satisfies-older}
use Rattle.word_blaster.specs.Word.{bit, number, values, WordBelow}
use Rattle.word_blaster.proofs.Words.{WordBelow-not, WordBelow-push, WordBelow-append, WordBelow-later, WordBelow-nil, WordBelow-take, values-not, values-length}
use Rattle.std.proofs.lemmas.List.{take-map, length-take-le, length-map}
use Rattle.word_blaster.proofs.Divisions.{divide_step_is}
use Rattle.word_blaster.proofs.quotients.divide_step.Goals as goal

-- the bit below the rest is a word
shifted_below : (n : ℕ) (lowest : Lit) (rest : List Lit) → lowest.var < n → WordBelow n rest → WordBelow n (lowest ∷ rest)
shifted_below n lowest rest l r = WordBelow-append n (lowest ∷ []) rest (WordBelow-push n [] lowest (WordBelow-nil n) l) r

pub ripple-requires-clause-words : goal.ripple-requires-clause-words
ripple-requires-clause-words c =
    let shifted : c.as_slice.result.now ≡ c.args.lowest ∷ c.args.rest.now =
    c.as_slice.ensures.value ∙ c.in_ok-extend_from_slice.ensures.items ∙ ap (λ (w : List Lit). w ++ c.args.rest.now) c.in_ok-shifted.ensures.items in
    let turned = c.as_slice-2.ensures.value ∙ c.in_ok-turned.ensures in
    record {
      left = subst (λ (w : List Lit). WordBelow c.args.f.now.vars w) (sym shifted) (shifted_below _ _ _ c.requires.lowest_below c.requires.rest_below);
      right = subst (λ (w : List Lit). WordBelow c.args.f.now.vars w) (sym turned) (WordBelow-not _ c.args.y.now c.requires.y_below);
      same = omega (arith, ap length shifted, ap length turned, length-map {B = Lit} c.args.y.now (λ (l : Lit). record { var = l.var; neg = not l.neg }), c.requires.same);
    }

pub choose-requires-clause-words : goal.choose-requires-clause-words
choose-requires-clause-words c =
    let shifted : c.as_slice.result.now ≡ c.args.lowest ∷ c.args.rest.now =
    c.as_slice.ensures.value ∙ c.in_ok-extend_from_slice.ensures.items ∙ ap (λ (w : List Lit). w ++ c.args.rest.now) c.in_ok-shifted.ensures.items in
    let old : c.as_slice-old.result.now ≡ c.args.lowest ∷ c.args.rest.now =
    c.as_slice-old.ensures.value ∙ c.in_ok-extend_from_slice.ensures.items ∙ ap (λ (w : List Lit). w ++ c.args.rest.now) c.in_ok-shifted.ensures.items in
    let high = c.as_slice-high.ensures.value in
    let size = length c.args.rest.now in
    record {
      left = WordBelow-take _ _ _ (subst (λ (w : List Lit). WordBelow c.ripple.new.f.vars w) (sym high) c.in_ok-difference.ensures.word.below);
      right = WordBelow-take _ _ _ (subst (λ (w : List Lit). WordBelow c.ripple.new.f.vars w) (sym old)
          (WordBelow-later _ _ _ (shifted_below _ _ _ c.requires.lowest_below c.requires.rest_below) c.in_ok-difference.ensures.grows.vars));
      same = length-take-le size _ (omega (arith, ap length high, c.in_ok-difference.ensures.word.width, ap length shifted)) ∙ sym (length-take-le size _ (omega (arith, ap length old)));
    }

pub returns-clause-value : goal.returns-clause-value
returns-clause-value c = λ a s2.
    let s1 = Satisfies-older _ _ a c.in_ok-chosen.ensures.grows s2 in
    let s0 = Satisfies-older _ _ a c.in_ok-difference.ensures.grows s1 in
    let y = c.args.y.now in
    let rest = c.args.rest.now in
    let k = length rest in
    let b = lit_value c.args.lowest a in
    let shifted : c.extend_from_slice.new.self.items ≡ c.args.lowest ∷ rest = c.in_ok-extend_from_slice.ensures.items ∙ ap (λ (w : List Lit). w ++ rest) c.in_ok-shifted.ensures.items in
    let t : c.as_slice.result.now ≡ c.args.lowest ∷ rest = c.as_slice.ensures.value ∙ shifted in
    let o : c.as_slice-old.result.now ≡ c.args.lowest ∷ rest = c.as_slice-old.ensures.value ∙ shifted in
    let n : values c.as_slice-2.result.now a ≡ map not (values y a) = ap (λ (w : List Lit). values w a) (c.as_slice-2.ensures.value ∙ c.in_ok-turned.ensures) ∙ values-not y a in
    let one : bit (lit_value c.top-one.result a) ≡ 1 = ap bit (c.top-one.ensures.forced a s0) in
    let diff = c.in_ok-difference.difference.items in
    let q = lit_value c.in_ok-difference.enough a in
    let tl : length c.as_slice.result.now ≡ k + 1 = omega (arith, ap length t) in
    let tn : number (values c.as_slice.result.now a) ≡ number (b ∷ values rest a) = ap (λ (w : List Lit). number (values w a)) t in
    let nn : number (values c.as_slice-2.result.now a) ≡ number (map not (values y a)) = ap number n in
    let p : bit q * 2 ^ length c.as_slice.result.now ≡ bit q * 2 ^ (k + 1) = ap (λ (i : ℕ). bit q * 2 ^ i) tl in
    let e : number (values diff a) + bit q * 2 ^ (k + 1) ≡ number (b ∷ values rest a) + number (map not (values y a)) + 1 =
    omega (arith, c.in_ok-difference.ensures.value a s1, tn, nn, one, p) in
    let high : values (take k c.as_slice-high.result.now) a ≡ take k (values diff a) =
    ap (λ (w : List Lit). values (take k w) a) c.as_slice-high.ensures.value ∙ sym (take-map (λ l. lit_value l a) k diff) in
    let old : values (take k c.as_slice-old.result.now) a ≡ take k (b ∷ values rest a) =
    ap (λ (w : List Lit). values (take k w) a) o ∙ sym (take-map (λ l. lit_value l a) k (c.args.lowest ∷ rest)) in
    let f : values c.in_ok-chosen.chosen.items a ≡ (if q then take k (values diff a) else take k (b ∷ values rest a)) =
    c.in_ok-chosen.ensures.value a s2
    ∙ ap (λ (v : List Bool). if q then v else values (take k c.as_slice-old.result.now) a) high
    ∙ ap (λ (v : List Bool). if q then take k (values diff a) else v) old in
    divide_step_is q b (values y a) (values rest a) (values diff a) (values c.in_ok-chosen.chosen.items a) k
    (values-length y a ∙ sym c.requires.same) (values-length diff a ∙ c.in_ok-difference.ensures.word.width ∙ tl) e f
