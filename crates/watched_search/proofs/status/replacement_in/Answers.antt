use Rattle.std.proofs.Common.{◌≡◌, ℕ, ◌<◌, ◌⊎◌, inl, inr, length, get_or, sym, ap, subst, ◌∙◌, arith}
use Rattle.std.specs.Prelude.{Contains, map}
use Rattle.std.proofs.lemmas.Bool.{cases_lt}
use Rattle.std.proofs.lemmas.List.{length-map}
use Rattle.sat_formula.specs.declared.lit.Lit.{Lit}
use Rattle.sat_formula.specs.Lit.{top_lit}
use Rattle.refutation_checker.specs.Follows.{negation}
use Rattle.refutation_checker.proofs.StatusLemmas.{same_lem}
use Rattle.watched_search.specs.Trail.{lits_of}
use Rattle.watched_search.specs.Searching.{lit_at}
use Rattle.watched_search.specs.Codes.{literal}
use Rattle.watched_search.proofs.SpanLemmas.{literal-code, literal_at}
use Rattle.watched_search.proofs.status.replacement_in.Goals as goal
use Rattle.watched_search.proofs.status.replacement_in.Goals.{then-not-is_false+else-ne, else-not-is_false}

pub is_false-requires : goal.is_false-requires
is_false-requires c =
    let lt : c.loop-k.k < length c.args.codes.now = (let within = c.requires.within in let test = c.loop-k-test.true in omega arith) in
    let long = length-map c.args.codes.now (λ n. literal n) in
    rw (literal_at c.args.codes.now c.loop-k.k 0 lt) at (c.requires.below c.loop-k.k top_lit (omega arith))

pub loop-k-preserved : goal.loop-k-preserved
loop-k-preserved c =
    let T = lits_of c.args.trail.now.entries in
    let lits = map (λ n. literal n) c.args.codes.now in
    let it = literal (get_or c.args.codes.now c.loop-k.k 0) in
    let lt : c.loop-k.k < length c.args.codes.now = (let within = c.requires.within in let test = c.loop-k-test.true in omega arith) in
    let at : it ≡ lit_at lits c.loop-k.k = sym (literal_at c.args.codes.now c.loop-k.k 0 lt) in
    let settled : (it ≡ c.args.other) ⊎ Contains T (negation it) = elim c.if-not-is_false.branch [
      | then-not-is_false+else-ne w ↦ inl (ap (λ (n : ℕ). literal n) (sym w.literal_of.ensures) ∙ literal-code w.literal_of.result ∙ sym (same_lem w.literal_of.result c.args.other w.if-ne.ensures))
      | else-not-is_false w ↦ inr (c.is_false.ensures.0 w.if-not-is_false.false)
    ] in
    λ n from below. elim (cases_lt n c.loop-k.k) [
      | inl before ↦ c.loop-k.invariant n from before
      | inr ge ↦
          (let same : c.loop-k.k ≡ n = omega arith in
          subst (λ (k : ℕ). (lit_at lits k ≡ c.args.other) ⊎ Contains T (negation (lit_at lits k))) same
          (subst (λ (l : Lit). (l ≡ c.args.other) ⊎ Contains T (negation l)) at settled))
    ]
