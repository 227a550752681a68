-- Runs of bytes, and beginnings.
use Rattle.std.proofs.Common.{ℕ, zero, suc, Bool, true, cond, List, Option, Some, None, IfSome, IfNone, take, drop, length, get_or, ◌≡◌, ◌≤◌, ◌<◌, ◌+◌, ◌-◌, ◌∷◌, ◌++◌, ◌==◌, [], refl, sym, ap, arith, append_assoc, eqb-true, eq-eqb, inl, inr, ◌∙◌}
use Rattle.std.specs.List.{list_all}
use Rattle.std.specs.Prelude.{MatchOption}
use Rattle.std.proofs.Math.Seq.{drop-cons}
use Rattle.std.proofs.lemmas.List.{take_rest}
use Rattle.tla_lexer.specs.Classes.{BeginsWith, StopsAt}
use Rattle.tla_parser.proofs.Basics.{and_both, either, not_true}
use Rattle.tla_parser.specs.Aliases.{Alias, alias_at, aliases_in, behind, ended, equal_to, first_of, front, in_type, name_in, past, type_in}
use Rattle.tla_lexer.specs.Classes.{is_blank}
use Rattle.tla_values.specs.Names.{is_name_byte}
use Rattle.std.specs.Prelude.{codes}

run_past : (p : ℕ → Bool) (text : List ℕ) (n : ℕ) → n ≤ length text → list_all p (take n text) ≡ true → StopsAt p (drop n text) → (front p text ≡ take n text) × (past p text ≡ drop n text)
run_past p [] zero h a s = (refl, refl)
run_past p [] (suc n) h a s = (refl, refl)
run_past p (b ∷ text) zero h a s = (rw s refl, rw s refl)
run_past p (b ∷ text) (suc n) h a s =
    let k : (p b ≡ true) × (list_all p (take n text) ≡ true) = and_both (p b) (list_all p (take n text)) a in
    let r : (front p text ≡ take n text) × (past p text ≡ drop n text) = run_past p text n (omega arith) k.1 s in
    (rw k.0 (ap (λ (xs : List ℕ). b ∷ xs) r.0), rw k.0 r.1)

pub front_is : (p : ℕ → Bool) (text : List ℕ) (n : ℕ) → BeginsWith p text n → front p text ≡ take n text
front_is p text n h = (run_past p text n h.within h.pass h.stops).0

pub past_is : (p : ℕ → Bool) (text : List ℕ) (n : ℕ) → BeginsWith p text n → past p text ≡ drop n text
past_is p text n h = (run_past p text n h.within h.pass h.stops).1

drop_all : (text : List ℕ) (n : ℕ) → length text ≤ n → drop n text ≡ []
drop_all [] zero h = refl
drop_all [] (suc n) h = refl
drop_all (b ∷ text) zero h = absurd (omega arith)
drop_all (b ∷ text) (suc n) h = drop_all text n (omega arith)

type_cut : (name text : List ℕ) (n : ℕ) → BeginsWith in_type text n → type_in name text ≡ ended name (take n text) (drop n text)
type_cut name text n h = rw (front_is in_type text n h, past_is in_type text n h) refl

pub type_read : (name text : List ℕ) (n d : ℕ) → BeginsWith in_type text n → n < length text → type_in name text ≡ cond (get_or text n d == 59) (Some (name, take n text)) None
type_read name text n d h l = type_cut name text n h ∙ ap (ended name (take n text)) (drop-cons text n d l)

pub type_none : (name text : List ℕ) (n : ℕ) → BeginsWith in_type text n → length text ≤ n → type_in name text ≡ None
type_none name text n h l = type_cut name text n h ∙ ap (ended name (take n text)) (drop_all text n l)

pub name_none : (text : List ℕ) → BeginsWith is_name_byte text 0 → name_in text ≡ None
name_none text h = rw (front_is is_name_byte text 0 h) refl

pub name_read : (text : List ℕ) (n : ℕ) (o : Option (List ℕ)) → BeginsWith is_name_byte text n → behind (codes "=") (past is_blank (drop n text)) ≡ o → name_in text ≡ equal_to (take n text) o
name_read text n o h e = rw (front_is is_name_byte text n h, past_is is_name_byte text n h, e) refl

pub equal_some : (name text : List ℕ) → 0 < length name → equal_to name (Some text) ≡ type_in name text
equal_some [] text h = absurd (omega arith)
equal_some (b ∷ name) text h = refl

pub equal_none : (name : List ℕ) → equal_to name None ≡ None
equal_none [] = refl
equal_none (b ∷ name) = refl

begins : (p text : List ℕ) → behind p (p ++ text) ≡ Some text
begins [] text = refl
begins (b ∷ p) text = rw (same b) (begins p text)
  where
    same : (x : ℕ) → (x == x) ≡ true
    same x = eq-eqb x x refl

pub behind_some : (p s rest : List ℕ) → s ≡ p ++ rest → behind p s ≡ Some rest
behind_some p s rest e = ap (behind p) e ∙ begins p rest

pub behind_none : (p s : List ℕ) → ((rest : List ℕ) → s ≡ p ++ rest → ⊥) → behind p s ≡ None
behind_none [] s h = absurd (h s refl)
behind_none (b ∷ p) [] h = refl
behind_none (b ∷ p) (c ∷ s) h =
    elim (either (b == c)) [
      | inl e ↦ rw e (behind_none p s (λ rest q. h rest (rw (eqb-true b c e) (ap (λ (xs : List ℕ). c ∷ xs) q))))
      | inr e ↦ rw e refl
    ]

pub aliases_next : (text : List ℕ) (i d : ℕ) → i < length text → aliases_in (drop i text) ≡ first_of (alias_at (drop i text)) (aliases_in (drop (suc i) text))
aliases_next text i d l = rw (drop-cons text i d l) refl

pub first_then : (xs others : List Alias) (o : Option Alias) → (xs ++ first_of o []) ++ others ≡ xs ++ first_of o others
first_then xs others None = append_nil xs others
  where
    append_nil : (ys zs : List Alias) → (ys ++ []) ++ zs ≡ ys ++ zs
    append_nil ys zs = append_assoc ys [] zs
first_then xs others (Some a) = append_assoc xs (a ∷ []) others

pub none_then : {X : Type 0} (r : Option X) {P Q : Type 0} → IfNone r P → (P → Q) → IfNone r Q
none_then None h f = f h
none_then (Some x) h f = tt

pub pair_is : (a b x y : List ℕ) → a ≡ x → b ≡ y → ◌≡◌ {A = Option Alias} (Some (a, b)) (Some (x, y))
pair_is a b x y e h = rw (e, h) refl

pub type_some : (name text x y : List ℕ) (n : ℕ) → BeginsWith in_type text n → n < length text → get_or text n 0 ≡ 59 → x ≡ name → y ≡ take n text → ◌≡◌ {A = Option Alias} (Some (x, y)) (type_in name text)
type_some name text x y n h l e q r =
    pair_is x y name (take n text) q r ∙ sym (type_read name text n 0 h l ∙ rw (eq-eqb (get_or text n 0) 59 e) refl)

pub type_other : (name text : List ℕ) (n : ℕ) → BeginsWith in_type text n → n < length text → (get_or text n 0 ≡ 59 → ⊥) → ◌≡◌ {A = Option Alias} None (type_in name text)
type_other name text n h l e = sym (type_read name text n 0 h l ∙ rw (not_true (get_or text n 0 == 59) (λ q. e (eqb-true (get_or text n 0) 59 q))) refl)

pub name_found : (text rest behind_blanks : List ℕ) (n : ℕ) → BeginsWith is_name_byte text n → (n ≡ 0 → ⊥) → behind_blanks ≡ past is_blank (take (length text - n) (drop n text)) → behind (codes "=") behind_blanks ≡ Some rest → name_in text ≡ type_in (take n text) rest
name_found text rest bs n h z e q =
    name_read text n (Some rest) h (ap (λ (xs : List ℕ). behind (codes "=") (past is_blank xs)) (sym (take_rest text n)) ∙ ap (behind (codes "=")) (sym e) ∙ q)
    ∙ equal_some (take n text) rest (long text n h.within z)
  where
    long : (xs : List ℕ) (k : ℕ) → k ≤ length xs → (k ≡ 0 → ⊥) → 0 < length (take k xs)
    long xs zero w y = absurd (y refl)
    long [] (suc k) w y = absurd (omega arith)
    long (x ∷ xs) (suc k) w y = omega arith

pub name_missing : (text behind_blanks : List ℕ) (n : ℕ) → BeginsWith is_name_byte text n → behind_blanks ≡ past is_blank (take (length text - n) (drop n text)) → behind (codes "=") behind_blanks ≡ None → ◌≡◌ {A = Option Alias} None (name_in text)
name_missing text bs n h e q =
    sym (name_read text n None h (ap (λ (xs : List ℕ). behind (codes "=") (past is_blank xs)) (sym (take_rest text n)) ∙ ap (behind (codes "=")) (sym e) ∙ q) ∙ equal_none (take n text))

pub scanned : (found more start : List Alias) (text : List ℕ) (i : ℕ) → i < length text → found ++ aliases_in (drop i text) ≡ start ++ aliases_in text → more ≡ found ++ first_of (alias_at (take (length text - i) (drop i text))) [] → more ++ aliases_in (drop (i + 1) text) ≡ start ++ aliases_in text
scanned found more start text i l v e =
    let k : i + 1 ≡ suc i = omega arith in
    ap (λ (j : ℕ). more ++ aliases_in (drop j text)) k
    ∙ ap (λ (xs : List Alias). xs ++ aliases_in (drop (suc i) text)) (e ∙ ap (λ (ys : List ℕ). found ++ first_of (alias_at ys) []) (take_rest text i))
    ∙ first_then found (aliases_in (drop (suc i) text)) (alias_at (drop i text))
    ∙ ap (λ (xs : List Alias). found ++ xs) (sym (aliases_next text i 0 l))
    ∙ v

pub cases_some : {X : Type 0} (r : Option X) (P : Type 0) (Q : X → Type 0) → MatchOption r P Q → IfSome r Q
cases_some None P Q h = tt
cases_some (Some x) P Q h = h

pub cases_none : {X : Type 0} (r : Option X) (P : Type 0) (Q : X → Type 0) → MatchOption r P Q → IfNone r P
cases_none None P Q h = h
cases_none (Some x) P Q h = tt
