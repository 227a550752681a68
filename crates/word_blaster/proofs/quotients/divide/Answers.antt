use Rattle.std.proofs.Common.{◌≡◌, ℕ, ◌+◌, ◌-◌, ◌<◌, false, length, List, [], ◌∷◌, drop, ap, arith, sym, ◌∙◌, get_or, subst}
use Rattle.std.proofs.lemmas.List.{drop_more, drop_all, length-drop}
use Rattle.sat_formula.specs.Lit.{lit_value}
use Rattle.sat_formula.specs.declared.lit.Lit.{Lit}
use Rattle.sat_formula.proofs.Extension.{Satisfies-older, Grows-trans, Grows-refl}
use Rattle.word_blaster.specs.Word.{values, WordBelow}
use Rattle.word_blaster.specs.inner.Division.{IsDivided, IsDivideStep}
use Rattle.word_blaster.proofs.Words.{WordBelow-get, WordBelow-later, WordBelow-cons, WordBelow-nil, values-length}
use Rattle.word_blaster.proofs.Divisions.{divided_sign, divided_more}
use Rattle.word_blaster.proofs.quotients.divide.Goals as goal

pub first_rest-requires-clause-l_below : goal.first_rest-requires-clause-l_below
first_rest-requires-clause-l_below c = WordBelow-get c.args.f.now.vars _ c.args.x.now _ _ c.requires.words.left (omega arith) (omega arith)

pub divide_step-requires-clause-lowest_below : goal.divide_step-requires-clause-lowest_below
divide_step-requires-clause-lowest_below c = WordBelow-get c.args.f.now.vars _ c.args.x.now _ _ c.requires.words.left (omega arith) (omega (arith, c.loop-k.invariant.grows.vars, c.in_ok-rest.ensures.grows.vars))

minus-zero : (n : ℕ) → n - 0 ≡ n
minus-zero n = omega arith

next_place : (n k : ℕ) → k < n → n - (k + 1) ≡ n - 1 - k
next_place n k h = omega arith

last_place : (n k : ℕ) → k < n → n - 1 - k + 1 ≡ n - k
last_place n k h = omega arith

pub loop-k-init : goal.loop-k-init
loop-k-init c =
    let d : Lit = record { var = 0; neg = false } in
    let x = c.args.x.now in
    let last = length x - 1 in
    let sign = get_or x last d in
    let one : drop (last - 0) x ≡ sign ∷ [] =
    ap (λ (k : ℕ). drop k x) (minus-zero last) ∙ drop_more x last d (omega arith) ∙ ap (λ (w : List Lit). sign ∷ w) (drop_all (last + 1) x (omega arith)) in
    record {
      grows = Grows-refl _;
      quotient_below = subst (λ (w : List Lit). WordBelow c.first_rest.new.f.vars w) (sym c.in_ok-quotient.ensures.items)
          (WordBelow-cons _ sign [] (WordBelow-get c.args.f.now.vars _ x last d c.requires.words.left (omega arith) c.in_ok-rest.ensures.grows.vars) (WordBelow-nil _));
      rest_below = c.in_ok-rest.ensures.below;
      quotient_len = ap length c.in_ok-quotient.ensures.items;
      rest_len = c.in_ok-rest.ensures.len ∙ sym c.requires.words.same;
      value = λ a s.
          let e = divided_sign (lit_value sign a) (values c.args.y.now a) (values c.in_ok-rest.rest.items a) (c.in_ok-rest.ensures.value a s) in
          let f = subst (λ (w : List Lit). IsDivided (values c.args.y.now a) (values w a) (lit_value sign a ∷ []) (values c.in_ok-rest.rest.items a)) (sym one) e in
          subst (λ (w : List Lit). IsDivided (values c.args.y.now a) (values (drop (last - 0) x) a) (values w a) (values c.in_ok-rest.rest.items a)) (sym c.in_ok-quotient.ensures.items) f;
    }

pub loop-k-preserved : goal.loop-k-preserved
loop-k-preserved c =
    let d : Lit = record { var = 0; neg = false } in
    let x = c.args.x.now in
    let y = c.args.y.now in
    let k = c.loop-k.k in
    let last = length x - 1 in
    let b = c.in_ok-bit.bit in
    let low = get_or x (last - 1 - k) d in
    let quotient : c.insert.new.self.items ≡ b ∷ c.loop-k.quotient.items = c.in_ok-insert.ensures.items in
    let more : drop (last - (k + 1)) x ≡ low ∷ drop (last - k) x =
    ap (λ (i : ℕ). drop i x) (next_place last k (omega arith)) ∙ drop_more x (last - 1 - k) d (omega arith) ∙ ap (λ (i : ℕ). low ∷ drop i x) (last_place last k (omega arith)) in
    record {
      grows = Grows-trans _ _ _ c.loop-k.invariant.grows c.in_ok-bit.ensures.grows;
      quotient_below = subst (λ (w : List Lit). WordBelow c.divide_step.new.f.vars w) (sym quotient)
          (WordBelow-cons _ b _ c.in_ok-bit.ensures.bit_below (WordBelow-later _ _ _ c.loop-k.invariant.quotient_below c.in_ok-bit.ensures.grows.vars));
      rest_below = c.in_ok-bit.ensures.word.below;
      quotient_len = ap length quotient ∙ omega (arith, c.loop-k.invariant.quotient_len);
      rest_len = omega (arith, c.in_ok-bit.ensures.word.width, ap length c.as_slice.ensures.value, c.loop-k.invariant.rest_len);
      value = λ a s1.
          let s0 = Satisfies-older _ _ a c.in_ok-bit.ensures.grows s1 in
          let old = c.loop-k.invariant.value a s0 in
          let step = subst (λ (w : List Lit). IsDivideStep (lit_value low a) (values y a) (values w a) (lit_value b a) (values c.in_ok-bit.left.items a)) c.as_slice.ensures.value (c.in_ok-bit.ensures.value a s1) in
          let new = divided_more (lit_value low a) (lit_value b a) (values y a) (values (drop (last - k) x) a) (values c.loop-k.quotient.items a) (values c.loop-k.rest.items a) (values c.in_ok-bit.left.items a)
          (omega (arith, values-length (drop (last - k) x) a, length-drop (last - k) x)) (omega (arith, values-length c.loop-k.quotient.items a, c.loop-k.invariant.quotient_len)) old step in
          let f = subst (λ (w : List Lit). IsDivided (values y a) (values w a) (lit_value b a ∷ values c.loop-k.quotient.items a) (values c.in_ok-bit.left.items a)) (sym more) new in
          subst (λ (w : List Lit). IsDivided (values y a) (values (drop (last - (k + 1)) x) a) (values w a) (values c.in_ok-bit.left.items a)) (sym quotient) f;
    }
