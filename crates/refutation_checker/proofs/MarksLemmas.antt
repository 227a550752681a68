use Rattle.std.proofs.Common.{◌≡◌, ℕ, ◌<◌, Bool, true, false, List, [], length, set, replicate, Option, None, get_or, refl, sym, ◌∙◌, inl, inr, arith, length-set}
use Rattle.std.specs.Prelude.{nat_lt, if◌then◌else◌}
use Rattle.std.specs.declared.cmp.Ordering.{Ordering}
use Rattle.std.specs.Ordering.{nat_cmp, is_eq}
use Rattle.std.specs.declared.cmp.Ordering.TheVariants.{Less, Equal, Greater}
use Rattle.std.specs.Map.{lookup}
use Rattle.std.proofs.lemmas.Bool.{lt-ltb, ltb-true, cases_lt}
use Rattle.std.proofs.lemmas.List.{length-replicate, get_or-set_same, get_or-set_other, get_or-replicate}
use Rattle.std.proofs.lemmas.Map.Lookups.{exact_unsigned}
use Rattle.refutation_checker.specs.Marks.{mark_of, Updates}

-- whether a pair of the map is that of v
abbrev pub at : ℕ → ℕ → Bool
at v w = is_eq (nat_cmp v w)

choose_yes : {A : Type 0} (b : Bool) (x y : A) → b ≡ true → (if b then x else y) ≡ x
choose_yes true x y e = refl
choose_yes false x y e = cc

choose_no : {A : Type 0} (b : Bool) (x y : A) → (b ≡ true → ⊥) → (if b then x else y) ≡ y
choose_no true x y ne = absurd (ne refl)
choose_no false x y ne = refl

pub mark_near : (near : List (Option Bool)) (far : List (ℕ × Bool)) (v : ℕ) → v < length near → mark_of (record { near = near; far = far }) v ≡ get_or near v None
unfolding mark_of
mark_near near far v lt = choose_yes (nat_lt v (length near)) (get_or near v None) (lookup (at v) far) (lt-ltb v (length near) lt)

pub mark_far : (near : List (Option Bool)) (far : List (ℕ × Bool)) (v : ℕ) → (v < length near → ⊥) → mark_of (record { near = near; far = far }) v ≡ lookup (at v) far
unfolding mark_of
mark_far near far v ge = choose_no (nat_lt v (length near)) (get_or near v None) (lookup (at v) far) (λ e. ge (ltb-true v (length near) e))

pub mark_none : (near : List (Option Bool)) (far : List (ℕ × Bool)) (n : ℕ) → near ≡ replicate n None → far ≡ [] → (v : ℕ) → mark_of (record { near = near; far = far }) v ≡ None
mark_none near far n e f v = rw (e, f) (elim (cases_lt v n) [
  | inl lt ↦ mark_near (replicate n None) [] v (rw length-replicate lt) ∙ get_or-replicate n v None None lt
  | inr ge ↦ mark_far (replicate n None) [] v (rw length-replicate (λ lt. absurd (omega arith)))
])

is_eq_not : (o : Ordering) → (o ≡ Equal → ⊥) → is_eq o ≡ false
is_eq_not Less ne = refl
is_eq_not Equal ne = absurd (ne refl)
is_eq_not Greater ne = refl

apart_at : (v w : ℕ) → (w ≡ v → ⊥) → at v w ≡ false
apart_at v w ne = is_eq_not (nat_cmp v w) (λ e. ne (sym (exact_unsigned v w e)))

pub Updates-near : (near : List (Option Bool)) (far : List (ℕ × Bool)) (v : ℕ) (value : Option Bool) → v < length near
    → Updates (record { near = near; far = far }) v value (record { near = set near v value; far = far })
Updates-near near far v value lt = record {
  here = mark_near (set near v value) far v (rw length-set lt) ∙ get_or-set_same near v value None lt;
  others = λ w ne. elim (cases_lt w (length near)) [
    | inl below ↦ mark_near (set near v value) far w (rw length-set below) ∙ (get_or-set_other near v w value None ne ∙ sym (mark_near near far w below))
    | inr ge ↦ mark_far (set near v value) far w (rw length-set (λ lt. absurd (omega arith))) ∙ sym (mark_far near far w (λ lt. absurd (omega arith)))
  ];
}

pub Updates-far : (near : List (Option Bool)) (far new : List (ℕ × Bool)) (v : ℕ) (value : Option Bool) → (v < length near → ⊥)
    → lookup (at v) new ≡ value → ((w : ℕ) → at v w ≡ false → lookup (at w) new ≡ lookup (at w) far)
    → Updates (record { near = near; far = far }) v value (record { near = near; far = new })
Updates-far near far new v value ge here others = record {
  here = mark_far near new v ge ∙ here;
  others = λ w ne. elim (cases_lt w (length near)) [
    | inl below ↦ mark_near near new w below ∙ sym (mark_near near far w below)
    | inr far_too ↦
        (let not_near : w < length near → ⊥ = λ lt. absurd (omega arith) in
        mark_far near new w not_near ∙ (others w (apart_at v w ne) ∙ sym (mark_far near far w not_near)))
  ];
}
