-- The table that tells of each literal whether it is true.
use Rattle.std.proofs.Common.{◌≡◌, ℕ, ◌*◌, ◌<◌, inl, inr, Bool, true, false, Option, Some, None, List, [], ◌∷◌, ◌++◌, length, set, get_or, replicate, refl, sym, ◌∙◌, ap, subst, arith, length-set, cond, not}
use Rattle.std.specs.Prelude.{Contains, is_none}
use Rattle.std.proofs.lemmas.Bool.{cases_eq}
use Rattle.std.proofs.lemmas.List.{get_or-set_same, get_or-set_other, get_or-replicate, get_or_append_left, get_or_push, length-replicate, length_push}
use Rattle.std.proofs.lemmas.List.Folds.{sum_by-replicate}
use Rattle.std.proofs.lemmas.List.Elements.{All-contains, Contains-append_left, Contains-push, Contains-push_cases}
use Rattle.sat_formula.specs.declared.lit.Lit.{Lit}
use Rattle.sat_formula.specs.Lit.{IsBelow}
use Rattle.refutation_checker.proofs.TrailLemmas.{Contains-nil}
use Rattle.watched_search.specs.declared.entry.Entry.{Entry}
use Rattle.watched_search.specs.Codes.{code}
use Rattle.watched_search.specs.Trail.{lits_of, DistinctVars}
use Rattle.watched_search.specs.inner.Tables.{Marked, Tabled, Truths}
use Rattle.watched_search.proofs.CodeLemmas.{code-same, code-below}
use Rattle.watched_search.proofs.TrailLemmas.{entry_of, lits-append}

pub not_true : (A : Type 0) → false ≡ true → A
not_true A e = cc

pub Truths-none : (room : ℕ) → Truths room (replicate (2 * room) false) []
Truths-none room = record {
  sized = length-replicate (2 * room) false;
  told = λ l lt. (λ is. not_true (Contains [] l) (sym (get_or-replicate (2 * room) (code l) false false (code-below l room lt)) ∙ is), λ has. absurd (Contains-nil l has));
}

-- a literal becomes true
pub Truths-push : (room : ℕ) (truths : List Bool) (lits : List Lit) (l : Lit) → Truths room truths lits → l.var < room → Truths room (set truths (code l) true) (lits ++ l ∷ [])
Truths-push room truths lits l h lt =
    let cl = code-below l room lt in
    let sized = h.sized in
    record {
      sized = length-set truths (code l) true ∙ h.sized;
      told = λ m lm. elim (cases_eq (code m) (code l)) [
        | inl here ↦
            (let it : l ≡ m = sym (code-same m l here) in (
              λ is. subst (λ (x : Lit). Contains (lits ++ l ∷ []) x) it (Contains-push lits l),
              λ has. ap (λ (n : ℕ). get_or (set truths (code l) true) n false) here ∙ get_or-set_same truths (code l) true false (omega arith),
            ))
        | inr apart ↦
            (let there = get_or-set_other truths (code l) (code m) true false apart in (
              λ is. Contains-append_left lits (l ∷ []) m ((h.told m lm).0 (sym there ∙ is)),
              λ has. there ∙ elim (Contains-push_cases lits l m has) [
                | inl was ↦ (h.told m lm).1 was
                | inr same ↦ absurd (apart (ap code (sym same)))
              ],
            ))
      ];
    }

-- the last one is taken back
pub Truths-pop : (room : ℕ) (truths : List Bool) (lits : List Lit) (l : Lit) → Truths room truths (lits ++ l ∷ []) → l.var < room → (Contains lits l → ⊥) → Truths room (set truths (code l) false) lits
Truths-pop room truths lits l h lt gone =
    let cl = code-below l room lt in
    let sized = h.sized in
    record {
      sized = length-set truths (code l) false ∙ h.sized;
      told = λ m lm. elim (cases_eq (code m) (code l)) [
        | inl here ↦
            (let it : m ≡ l = code-same m l here in
            let at : get_or (set truths (code l) false) (code m) false ≡ false = ap (λ (n : ℕ). get_or (set truths (code l) false) n false) here ∙ get_or-set_same truths (code l) false false (omega arith) in (
              λ is. not_true (Contains lits m) (sym at ∙ is),
              λ has. absurd (gone (subst (λ (x : Lit). Contains lits x) it has)),
            ))
        | inr apart ↦
            (let there = get_or-set_other truths (code l) (code m) false false apart in (
              λ is. elim (Contains-push_cases lits l m ((h.told m lm).0 (sym there ∙ is))) [
                | inl was ↦ was
                | inr same ↦ absurd (apart (ap code (sym same)))
              ],
              λ has. there ∙ (h.told m lm).1 (Contains-append_left lits (l ∷ []) m has),
            ))
      ];
    }

-- no earlier entry has the literal of the last
pub last_apart : (es : List Entry) (e : Entry) → DistinctVars (es ++ e ∷ []) → Contains (lits_of es) e.lit → ⊥
last_apart es e distinct has =
    let i = entry_of es e.lit e has in
    let size = length_push es e in
    let lt = i.1 in
    let differ = distinct i.0 (length es) e lt (omega arith) in
    (rw (get_or_append_left es (e ∷ []) e i.0 lt, get_or_push es e e (length es) refl) at differ) (ap (λ (x : Lit). x.var) i.2)

pub last_below : (marks : List (Option Bool)) (es : List Entry) (e : Entry) → Marked marks (es ++ e ∷ []) → e.lit.var < length marks
last_below marks es e h = All-contains (IsBelow (length marks)) (lits_of (es ++ e ∷ [])) e.lit h.agree.within (rw (lits-append es (e ∷ [])) (Contains-push (lits_of es) e.lit))

pub truths_popped : (marks : List (Option Bool)) (truths : List Bool) (es : List Entry) (e : Entry) → Marked marks (es ++ e ∷ []) → Truths (length marks) truths (lits_of (es ++ e ∷ []))
    → Truths (length (set marks e.lit.var None)) (set truths (code e.lit) false) (lits_of es)
truths_popped marks truths es e h t =
    rw (length-set marks e.lit.var None) (Truths-pop (length marks) truths (lits_of es) e.lit (rw (lits-append es (e ∷ [])) at t) (last_below marks es e h) (last_apart es e h.distinct))

pub last_code : (marks : List (Option Bool)) (truths : List Bool) (es : List Entry) (e : Entry) → Marked marks (es ++ e ∷ []) → Truths (length marks) truths (lits_of (es ++ e ∷ [])) → code e.lit < length truths
last_code marks truths es e h t =
    let lt = code-below e.lit (length marks) (last_below marks es e h) in
    let sized = t.sized in
    omega arith

none_marked : (b : Bool) → None ≡ Some b → ⊥
none_marked b e = cc

-- the tables before anything is true
pub Tabled-none : (room : ℕ) → Tabled (replicate room None) (replicate room 0) []
Tabled-none room =
    let size : length (replicate {A = Option Bool} room None) ≡ room = length-replicate {A = Option Bool} room None in
    let places : length (replicate {A = ℕ} room 0) ≡ room = length-replicate {A = ℕ} room 0 in
    record {
      marked = record {
        agree = record {
          agree = λ l lt. (
            λ is. absurd (none_marked (not l.neg) (sym (get_or-replicate {A = Option Bool} room l.var None None (omega arith)) ∙ is)),
            λ has. absurd (Contains-nil l has),
          );
          within = λ k d lt. absurd (omega arith);
        };
        distinct = λ i j d ij jl. absurd (omega arith);
        counted = let s = sum_by-replicate (λ (m : Option Bool). cond (is_none m) 1 0) room None in omega arith;
      };
      placed = λ k lt d. absurd (omega arith);
      sized = omega arith;
    }
