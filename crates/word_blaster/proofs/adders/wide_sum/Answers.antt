use Rattle.std.proofs.Common.{◌≡◌, ℕ, ◌+◌, ◌-◌, ◌*◌, ◌^◌, ◌<◌, Bool, false, length, List, [], ◌∷◌, ◌++◌, ap, arith, sym, ◌∙◌, get_or, subst}
use Rattle.sat_formula.specs.Lit.{lit_value, differ}
use Rattle.sat_formula.specs.declared.lit.Lit.{Lit}
use Rattle.sat_formula.proofs.Extension.{Satisfies-older}
use Rattle.word_blaster.specs.Word.{bit, number, taken, sign, values}
use Rattle.word_blaster.proofs.Words.{WordBelow-get, sign-values, values-push, values-length}
use Rattle.word_blaster.proofs.Bits.{bit-le}
use Rattle.word_blaster.proofs.Signs.{wide_taken}
use Rattle.word_blaster.proofs.adders.wide_sum.Goals as goal

pub xor-requires-clause-x_below : goal.xor-requires-clause-x_below
xor-requires-clause-x_below c = WordBelow-get c.args.f.now.vars _ c.args.x.now _ _ c.requires.words.left (omega arith) c.in_ok-sum.ensures.grows.vars

pub xor-requires-clause-y_below : goal.xor-requires-clause-y_below
xor-requires-clause-y_below c = WordBelow-get c.args.f.now.vars _ c.args.y.now _ _ c.requires.words.right (omega arith) c.in_ok-sum.ensures.grows.vars

pub returns-clause-value : goal.returns-clause-value
returns-clause-value c = λ a s3.
    let s2 = Satisfies-older _ _ a c.in_ok-top.ensures.grows s3 in
    let s1 = Satisfies-older _ _ a c.in_ok-half.ensures.grows s2 in
    let d : Lit = record { var = 0; neg = false } in
    let x = c.args.x.now in
    let y = c.args.y.now in
    let xs = values x a in
    let ys = values y a in
    let n = length x - 1 in
    let out = values c.in_ok-sum.sum.items a in
    let carry = lit_value c.in_ok-sum.carry a in
    let u = bit (lit_value c.args.carry_in a) in
    let same : length xs ≡ length ys = values-length x a ∙ c.requires.words.same ∙ sym (values-length y a) in
    let some : 0 < length xs = omega (arith, values-length x a) in
    let len : length out ≡ length xs = values-length _ a ∙ c.in_ok-sum.ensures.word.width ∙ sym (values-length x a) in
    let v : number out + bit carry * 2 ^ length xs ≡ number xs + number ys + u =
    ap (λ (k : ℕ). number out + bit carry * 2 ^ k) (values-length x a) ∙ c.in_ok-sum.ensures.value a s1 in
    let w = wide_taken xs ys out carry u some same len (bit-le (lit_value c.args.carry_in a)) v in
    let p : sign xs ≡ lit_value (get_or x n d) a = sign-values x d a (omega arith) in
    let q : sign ys ≡ lit_value (get_or y n d) a = sign-values y d a (omega arith) ∙ ap (λ (k : ℕ). lit_value (get_or y (k - 1) d) a) (sym c.requires.words.same) in
    let t : differ (differ (sign xs) (sign ys)) carry ≡ lit_value c.in_ok-top.top a =
    rw (p, q) (sym (c.in_ok-top.ensures.value.value a s3 ∙ ap (λ (b : Bool). differ b carry) (c.in_ok-half.ensures.value.value a s2))) in
    let r : out ++ differ (differ (sign xs) (sign ys)) carry ∷ [] ≡ values c.push.new.self.items a =
    ap (λ (b : Bool). out ++ b ∷ []) t ∙ sym (ap (λ (v : List Lit). values v a) c.in_ok-push.ensures.items ∙ values-push c.in_ok-sum.sum.items c.in_ok-top.top a) in
    subst (λ (o : List Bool). number o + taken xs + taken ys ≡ number xs + number ys + u + taken o) r w
