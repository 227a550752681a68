use Rattle.std.proofs.Common.{◌≡◌, Bool, false, not, List, [], ◌∷◌, ◌++◌, ap, arith, ◌∙◌, subst}
use Rattle.sat_formula.specs.Lit.{lit_value}
use Rattle.sat_formula.specs.declared.lit.Lit.{Lit}
use Rattle.sat_formula.proofs.Extension.{Satisfies-older}
use Rattle.word_blaster.specs.Word.{signed, values}
use Rattle.word_blaster.specs.inner.Division.{IsDivided}
use Rattle.word_blaster.proofs.Words.{values-length, values-push, turned-value}
use Rattle.word_blaster.proofs.Divisions.{positive_is, divided_quotient, divided_remainder}
use Rattle.std.proofs.Common.{suc, sym}
use Rattle.std.specs.Prelude.{ℤ, pos}
use Rattle.word_blaster.specs.Word.{word_value}
use Rattle.word_blaster.specs.Quotient.{IsDivision, floor_quotient}
use Rattle.word_blaster.proofs.FloorLaw.{positive_suc, floor_division}
use Rattle.word_blaster.proofs.quotients.div_rem_floor.Goals as goal

pub returns-clause-quotient : goal.returns-clause-quotient
returns-clause-quotient c = λ a s n e.
    let y = c.args.y.now in
    let q = c.in_ok-quotient.quotient.items in
    let left = values c.in_ok-quotient.rest.items a in
    let p = positive_is (values y a) n (omega (arith, values-length y a, c.requires.words.same, c.requires.some)) e in
    let d = subst (λ (w : List Lit). IsDivided (values y a) (values w a) (values q a) left) c.lits.ensures
    (subst (λ (w : List Lit). IsDivided (values w a) (values c.lits.result.now a) (values q a) left) c.lits-2.ensures (c.in_ok-quotient.ensures.value a s)) in
    ap (λ (w : List Lit). signed (values w a)) c.from_vec.ensures ∙ divided_quotient (values y a) (values c.args.x.now a) (values q a) left n d p.0 p.1

pub returns-clause-rest : goal.returns-clause-rest
returns-clause-rest c = λ a s1 n e.
    let s0 = Satisfies-older _ _ a c.in_ok-quotient.ensures.grows s1 in
    let y = c.args.y.now in
    let q = c.in_ok-quotient.quotient.items in
    let rest = c.in_ok-quotient.rest.items in
    let zero = c.negated-zero.result in
    let p = positive_is (values y a) n (omega (arith, values-length y a, c.requires.words.same, c.requires.some)) e in
    let d = subst (λ (w : List Lit). IsDivided (values y a) (values w a) (values q a) (values rest a)) c.lits.ensures
    (subst (λ (w : List Lit). IsDivided (values w a) (values c.lits.result.now a) (values q a) (values rest a)) c.lits-2.ensures (c.in_ok-quotient.ensures.value a s1)) in
    let b : lit_value zero a ≡ false = turned-value c.top.result zero a c.negated-zero.ensures ∙ ap not (c.top.ensures.forced a s0) in
    ap (λ (w : List Lit). signed (values w a)) (c.from_vec-2.ensures ∙ c.in_ok-push.ensures.items)
    ∙ ap signed (values-push rest zero a)
    ∙ ap (λ (t : Bool). signed (values rest a ++ t ∷ [])) b
    ∙ divided_remainder (values y a) (values c.args.x.now a) (values q a) (values rest a) n d p.0 p.1

pub returns-clause-division : goal.returns-clause-division
returns-clause-division c = λ a s above.
    let y = c.args.y.now in
    let p = positive_suc (word_value y a) above in
    let q = returns-clause-quotient c a s p.0 p.1 in
    let r = returns-clause-rest c a s p.0 p.1 in
    subst (λ (z : ℤ). IsDivision (word_value c.args.x.now a) z (word_value c.from_vec.result a) (word_value c.from_vec-2.result a)) (sym p.1)
    (subst (λ (z : ℤ). IsDivision (word_value c.args.x.now a) (pos (suc p.0)) z (word_value c.from_vec-2.result a)) (sym q)
    (subst (λ (z : ℤ). IsDivision (word_value c.args.x.now a) (pos (suc p.0)) (floor_quotient (word_value c.args.x.now a) (suc p.0)) z) (sym r)
    (floor_division (word_value c.args.x.now a) p.0)))
