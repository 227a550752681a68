-- Where a part of a sequence begins and how long it is.
use Rattle.std.proofs.Common.{◌≡◌, ℕ, zero, suc, ◌-◌, ◌<◌, ◌≤◌, Bool, true, false, not, ◌&&◌, List, [], length, take, drop, ℤ, pos, negsuc, refl, ap, ◌∙◌, sym, arith, ◌⊎◌, inl, inr, Some, None}
use Rattle.std.specs.Prelude.{◌==◌, nat_lt, nat_le, int_lt, if◌then◌else◌}
use Rattle.std.proofs.Math.Dec.{eqb-suc-zero}
use Rattle.std.proofs.lemmas.Bool.{cases_lt, lt-ltb, le-ltb, ltb-false, ltb-true}
use Rattle.std.proofs.lemmas.Bool.Decides.{eqb_tells, leb_tells}
use Rattle.tla_values.specs.declared.value.Value.{Value}
use Rattle.word_blaster.specs.Word.{magnitude}
use Rattle.sequence_rewriter.specs.Sequences.{part_of}
use Rattle.sequence_rewriter.specs.inner.Cuts.{IsCutOf, is_fine}

pos-one : (m n : ℕ) → pos m ≡ pos n → m ≡ n
pos-one m n e = ap magnitude e

lt-leb : (a b : ℕ) → a < b → nat_le b a ≡ false
lt-leb a b lt = elim (leb_tells b a) [ inl h ↦ absurd (let l = h.1 in omega arith) | inr h ↦ h.0 ]

le-leb : (a b : ℕ) → a ≤ b → nat_le a b ≡ true
le-leb a b le = elim (leb_tells a b) [ inl h ↦ h.0 | inr h ↦ absurd (let l = h.1 in grind arith) ]

-- past the last number there is nothing
part-empty : (xs : List Value) (m n : ℤ) → int_lt n m ≡ true → part_of xs m n ≡ Some []
part-empty xs (pos zero) (pos n) h = absurd (let e = ltb-true n 0 h in omega arith)
part-empty xs (pos zero) (negsuc n) h = refl
part-empty xs (pos (suc m)) (pos n) h = ap (λ b. if b then (if nat_le n (length xs) then Some (take (n - m) (drop m xs)) else None) else Some []) (lt-leb n (suc m) (ltb-true n (suc m) h))
part-empty xs (pos (suc m)) (negsuc n) h = refl
part-empty xs (negsuc m) (pos n) h = absurd (cc)
part-empty xs (negsuc m) (negsuc n) h = ap (λ b. if b then None else Some []) (lt-leb m n (ltb-true m n h))

-- and before the first one something is missing
part-before : (xs : List Value) (n : ℤ) → int_lt n (pos 0) ≡ false → part_of xs (pos 0) n ≡ None
part-before xs (pos n) h = ap (λ b. if b then None else Some []) (le-leb 0 n (omega arith))
part-before xs (negsuc n) h = absurd (cc)

part-negative : (xs : List Value) (m : ℕ) (n : ℤ) → int_lt n (negsuc m) ≡ false → part_of xs (negsuc m) n ≡ None
part-negative xs m (pos n) h = refl
part-negative xs m (negsuc n) h = ap (λ b. if b then None else Some []) (le-leb n m (ltb-false m n h))

both-true : (p q : Bool) → (p && q) ≡ true → (p ≡ true) × (q ≡ true)
both-true true true e = (refl, refl)
both-true true false e = absurd (cc)
both-true false q e = absurd (cc)

equal-true : (m n : ℕ) → (m == n) ≡ true → m ≡ n
equal-true m n e = elim (eqb_tells m n) [ inl h ↦ h.1 | inr h ↦ absurd (let q : false ≡ true = sym h.0 ∙ e in cc) ]

missing : (xs : List Value) (zm zn : ℤ) (vm vn : Bool) (nm nn : ℕ) → part_of xs zm zn ≡ None → (vm && (not (nm == 0) && (vn && not (nat_lt (length xs) nn)))) ≡ false
    → IsCutOf xs zm zn (not false && not (is_fine false vm vn nm nn (length xs))) (if is_fine false vm vn nm nn (length xs) then nn - (nm - 1) else 0) (nm - 1)
missing xs zm zn vm vn nm nn none off = rw off (record { part = inl (refl, none); within = inl refl })

-- what is found of two numbers tells the part
pub cut-tells : (xs : List Value) (zm zn : ℤ) (empty vm vn : Bool) (nm nn : ℕ) → empty ≡ int_lt zn zm → (vm ≡ true → zm ≡ pos nm) → (vn ≡ true → zn ≡ pos nn)
    → ((p : ℕ) → 1 ≤ p → p ≤ length xs → zm ≡ pos p → (vm && (nm == p)) ≡ true) → ((p : ℕ) → 1 ≤ p → p ≤ length xs → zn ≡ pos p → (vn && (nn == p)) ≡ true)
    → IsCutOf xs zm zn (not empty && not (is_fine empty vm vn nm nn (length xs))) (if is_fine empty vm vn nm nn (length xs) then nn - (nm - 1) else 0) (nm - 1)
cut-tells xs zm zn true vm vn nm nn e xm xn tm tn = record { part = inr (refl, part-empty xs zm zn (sym e)); within = inl refl }
cut-tells xs (pos zero) zn false vm vn nm nn e xm xn tm tn = missing xs (pos zero) zn vm vn nm nn (part-before xs zn (sym e)) (off vm refl)
  where
    off : (v : Bool) → vm ≡ v → (vm && (not (nm == 0) && (vn && not (nat_lt (length xs) nn)))) ≡ false
    off false q = ap (λ b. b && (not (nm == 0) && (vn && not (nat_lt (length xs) nn)))) q
    off true q = ap (λ b. b && (not (nm == 0) && (vn && not (nat_lt (length xs) nn)))) q ∙ ap (λ (k : ℕ). not (k == 0) && (vn && not (nat_lt (length xs) nn))) (sym (pos-one zero nm (xm q)))
cut-tells xs (negsuc m) zn false vm vn nm nn e xm xn tm tn = missing xs (negsuc m) zn vm vn nm nn (part-negative xs m zn (sym e)) (off vm refl)
  where
    off : (v : Bool) → vm ≡ v → (vm && (not (nm == 0) && (vn && not (nat_lt (length xs) nn)))) ≡ false
    off false q = ap (λ b. b && (not (nm == 0) && (vn && not (nat_lt (length xs) nn)))) q
    off true q = absurd (let r : negsuc m ≡ pos nm = xm q in cc)
cut-tells xs (pos (suc m)) (negsuc n) false vm vn nm nn e xm xn tm tn = absurd (cc)
cut-tells xs (pos (suc m)) (pos n) false vm vn nm nn e xm xn tm tn = go (cases_lt (length xs) n)
  where
    le : suc m ≤ n
    le = ltb-false n (suc m) (sym e)

    go : (length xs < n) ⊎ (n ≤ length xs) → IsCutOf xs (pos (suc m)) (pos n) (not false && not (is_fine false vm vn nm nn (length xs))) (if is_fine false vm vn nm nn (length xs) then nn - (nm - 1) else 0) (nm - 1)
    go (inl far) = missing xs (pos (suc m)) (pos n) vm vn nm nn
        (ap (λ b. if b then (if nat_le n (length xs) then Some (take (n - m) (drop m xs)) else None) else Some []) (le-leb (suc m) n le)
        ∙ ap (λ b. if b then Some (take (n - m) (drop m xs)) else None) (lt-leb (length xs) n far)) (off vn refl vm (not (nm == 0)))
      where
        off : (v : Bool) → vn ≡ v → (p q : Bool) → (p && (q && (vn && not (nat_lt (length xs) nn)))) ≡ false
        off false h p q = ap (λ b. p && (q && (b && not (nat_lt (length xs) nn)))) h ∙ none p q
          where
            none : (p q : Bool) → (p && (q && false)) ≡ false
            none true true = refl
            none true false = refl
            none false q = refl
        off true h p q = ap (λ b. p && (q && (b && not (nat_lt (length xs) nn)))) h ∙ ap (λ (k : ℕ). p && (q && not (nat_lt (length xs) k))) (sym (pos-one n nn (xn h))) ∙ ap (λ b. p && (q && not b)) (lt-ltb (length xs) n far) ∙ none p q
          where
            none : (p q : Bool) → (p && (q && false)) ≡ false
            none true true = refl
            none true false = refl
            none false q = refl
    go (inr near) =
        let l = le in
        let hm = both-true vm (nm == suc m) (tm (suc m) (omega arith) (omega arith) refl) in
        let hn = both-true vn (nn == n) (tn n (omega arith) near refl) in
        let em : nm ≡ suc m = equal-true nm (suc m) hm.1 in
        let en : nn ≡ n = equal-true nn n hn.1 in
        let fine : is_fine false vm vn nm nn (length xs) ≡ true = ap (λ b. b && (not (nm == 0) && (vn && not (nat_lt (length xs) nn)))) hm.0 ∙ ap (λ b. not (nm == 0) && (b && not (nat_lt (length xs) nn))) hn.0
        ∙ ap (λ (k : ℕ). not (k == 0) && not (nat_lt (length xs) nn)) em ∙ ap (λ b. not b && not (nat_lt (length xs) nn)) (eqb-suc-zero m) ∙ ap (λ (k : ℕ). not (nat_lt (length xs) k)) en ∙ ap not (le-ltb (length xs) n near) in
        let k : nn - (nm - 1) ≡ n - m = omega arith in
        let t : nm - 1 ≡ m = omega arith in
        let is : part_of xs (pos (suc m)) (pos n) ≡ Some (take (n - m) (drop m xs)) =
        ap (λ b. if b then (if nat_le n (length xs) then Some (take (n - m) (drop m xs)) else None) else Some []) (le-leb (suc m) n le) ∙ ap (λ b. if b then Some (take (n - m) (drop m xs)) else None) (le-leb n (length xs) near) in
        rw fine (record {
          part = inr (refl, is ∙ ap (λ (j : ℕ). Some (take j (drop m xs))) (sym k) ∙ ap (λ (j : ℕ). Some (take (nn - (nm - 1)) (drop j xs))) (sym t));
          within = inr (omega arith);
        })

-- where the ends fit, the first is not behind the place after the last
pub fine-order : (zm zn : ℤ) (empty vm vn : Bool) (nm nn len : ℕ) → empty ≡ int_lt zn zm → (vm ≡ true → zm ≡ pos nm) → (vn ≡ true → zn ≡ pos nn) → is_fine empty vm vn nm nn len ≡ true → nm - 1 ≤ nn
fine-order zm zn true vm vn nm nn len e xm xn h = absurd (cc)
fine-order zm zn false false vn nm nn len e xm xn h = absurd (cc)
fine-order zm zn false true vn nm nn len e xm xn h =
    let on = both-true vn (not (nat_lt len nn)) (both-true (not (nm == 0)) (vn && not (nat_lt len nn)) h).1 in
    let below : int_lt (pos nn) (pos nm) ≡ false = ap (λ (z : ℤ). int_lt z (pos nm)) (sym (xn on.0)) ∙ ap (int_lt zn) (sym (xm refl)) ∙ sym e in
    let le = ltb-false nn nm below in
    omega arith

-- the same of other names
pub cut-named : (xs : List Value) (zm zn : ℤ) (wrong other : Bool) (count n shift m : ℕ) → wrong ≡ other → count ≡ n → shift ≡ m → IsCutOf xs zm zn other n m → IsCutOf xs zm zn wrong count shift
cut-named xs zm zn wrong other count n shift m e d f h = rw (e, d, f) h
