-- Where the readers of lines stop.
use Rattle.std.proofs.Common.{◌≡◌, ℕ, ◌+◌, ◌<◌, List, [], ◌∷◌, ◌++◌, length, map, refl, sym, subst, ◌∙◌, ap, arith, append_assoc}
use Rattle.refutation_checker.specs.inner.Reading.{Lacks, SpellsNone}
use Rattle.std.specs.Prelude.{All}
use Rattle.std.proofs.lemmas.Grind.{flat_map-append}
use Rattle.std.proofs.lemmas.List.{length-append, map_push}
use Rattle.sat_formula.specs.declared.lit.Lit.{Lit}
use Rattle.sat_formula.specs.Lit.{IsBelow}
use Rattle.refutation_checker.specs.declared.log.Step.{Step}
use Rattle.refutation_checker.specs.declared.faults.CertFault.{CertFault}
use Rattle.refutation_checker.specs.declared.faults.CertFault.TheVariants.{BadLine, Memory}
use Rattle.refutation_checker.specs.Certificate.{text_of_lines, clause_text, step_text, end_text, IsStep, EndsRightly}
use Rattle.refutation_checker.specs.Faults.{AtLine}
use Rattle.refutation_checker.specs.Place.{Place}
use Rattle.refutation_checker.specs.inner.Sections.{BeginsWithNo, IsLineOf, Takes, Reaches, StopsAtOnce, StopsInClauses, StopsInSteps}
use Rattle.refutation_checker.proofs.Splits.{cut_same, cut_none}

-- without a line feed there is no line
pub no_line : (IsKind : List ℕ → Type 0) (bytes : List ℕ) → Lacks 10 bytes → BeginsWithNo IsKind bytes
no_line IsKind bytes lacks line more l e k = cut_none 10 line bytes more lacks e

-- the first line is of no such kind
pub not_this : (IsKind : List ℕ → Type 0) (bytes line rest : List ℕ) → bytes ≡ line ++ 10 ∷ rest → Lacks 10 line → (IsKind line → ⊥) → BeginsWithNo IsKind bytes
not_this IsKind bytes line rest cut lacks none l more ll e k =
    none (subst IsKind (cut_same 10 l line more rest ll lacks (sym e ∙ cut)).0 k)

pub none_spelled : {X : Type 0} (spelling : X → List ℕ) (fits : X → Type 0) (line : List ℕ) → SpellsNone spelling fits line → IsLineOf spelling fits line → ⊥
none_spelled spelling fits line none k = none k.0 k.1.0 k.1.1

pub AtLine-weaker : (e : CertFault) (P Q : ℕ → Type 0) → ((n : ℕ) → P n → Q n) → AtLine e P → AtLine e Q
AtLine-weaker (BadLine n) P Q f p = f n p
AtLine-weaker (Memory m) P Q f p = tt

pub text-append : (xs ys : List (List ℕ)) → text_of_lines (xs ++ ys) ≡ text_of_lines xs ++ text_of_lines ys
text-append xs ys = flat_map-append (λ l. l ++ 10 ∷ []) xs ys

pub takes_none : (a : Place) → Takes a a []
takes_none a = record { rest = refl; taken = omega arith }

pub takes_more : (a b c : Place) (xs ys : List (List ℕ)) → Takes a b xs → Takes b c ys → Takes a c (xs ++ ys)
takes_more a b c xs ys p q = record {
  rest = p.rest ∙ ap (λ t. text_of_lines xs ++ t) q.rest ∙ sym (append_assoc (text_of_lines xs) (text_of_lines ys) c.rest) ∙ ap (λ t. t ++ c.rest) (sym (text-append xs ys));
  taken = omega (arith, p.taken, q.taken, length-append xs ys);
}

pub takes_push : {X : Type 0} (f : X → List ℕ) (a b c : Place) (xs : List X) (x : X) → Takes a b (map f xs) → Takes b c (f x ∷ []) → Takes a c (map f (xs ++ x ∷ []))
takes_push f a b c xs x p q = rw map_push (takes_more a b c (map f xs) (f x ∷ []) p q)

-- one line, as it was cut
pub takes_line : (a b : Place) (line : List ℕ) → a.rest ≡ line ++ 10 ∷ b.rest → b.taken ≡ a.taken + 1 → Takes a b (line ∷ [])
takes_line a b line cut taken = record { rest = cut ∙ sym (simp append_assoc refl); taken = omega (arith, taken) }

pub reaches : (a b : Place) (xs : List (List ℕ)) (n : ℕ) → Takes a b xs → n ≡ b.taken + 1 → Reaches a xs b.rest n
reaches a b xs n p e = record { rest = p.rest; number = omega (arith, p.taken, e) }

pub clauses_stop : (vars count : ℕ) (a b : Place) (cs : List (List Lit)) → All (All (IsBelow vars)) cs → Takes a b (map clause_text cs) → length cs < count → (n : ℕ) → StopsAtOnce (IsLineOf clause_text (All (IsBelow vars))) b n → StopsInClauses vars count a n
clauses_stop vars count a b cs fit taken few n stop = record {
  clauses = cs;
  bytes = b.rest;
  reached = reaches a b (map clause_text cs) n taken stop.0;
  fit = fit;
  few = few;
  no_clause = stop.1;
}

pub steps_stop : (vars : ℕ) (a b : Place) (ss : List Step) → All (IsStep vars) ss → Takes a b (map step_text ss) → (n : ℕ) → n ≡ b.taken + 1 → BeginsWithNo (IsLineOf step_text (IsStep vars)) b.rest → BeginsWithNo (IsLineOf end_text (λ o. EndsRightly o ss)) b.rest → StopsInSteps vars a n
steps_stop vars a b ss fit taken n at no_step no_end = record {
  steps = ss;
  bytes = b.rest;
  reached = reaches a b (map step_text ss) n taken at;
  fit = fit;
  no_step = no_step;
  no_end = no_end;
}

pub takes_push_line : {X : Type 0} (f : X → List ℕ) (a b c : Place) (xs : List X) (x : X) (line : List ℕ) → Takes a b (map f xs) → b.rest ≡ line ++ 10 ∷ c.rest → c.taken ≡ b.taken + 1 → line ≡ f x → Takes a c (map f (xs ++ x ∷ []))
takes_push_line f a b c xs x line p cut taken is = takes_push f a b c xs x p (takes_line b c (f x) (cut ∙ ap (λ t. t ++ 10 ∷ c.rest) is) taken)
