-- The last `_OF_` of a text, and what a text literal's type is by it.
use Rattle.std.proofs.Common.{Bool, true, false, ◌≡◌, ◌&&◌, ℕ, zero, suc, ◌+◌, ◌-◌, ◌<◌, ◌≤◌, List, [], ◌∷◌, length, take, drop, drop-cons, get_or, refl, ap, sym, ◌∙◌, Option, Some, None, arith}
use Rattle.std.specs.Prelude.{if◌then◌else◌}
use Rattle.std.proofs.Math.Seq.{take-suc}
use Rattle.std.proofs.lemmas.List.{length-drop}
use Rattle.snowcat_rows.specs.declared.types.Ty.{Named, Str}
use Rattle.snowcat_rows.specs.Types.{mean, con, NamedHead, StrHead}
use Rattle.snowcat_rows.specs.LiteralTypes.{begins_of, behind_of, is_type_name, is_word, last_of, type_of_parts}
use Rattle.snowcat_rows.proofs.Means.{mean-Named, mean-Str}

-- what stands before and behind a place of `_OF_`
abbrev pub parts_at : List ℕ → ℕ → List ℕ × List ℕ
parts_at text i = (take i text, drop (i + 4) text)

behind_begins : (bytes : List ℕ) → begins_of bytes ≡ true → behind_of bytes ≡ drop 4 bytes
behind_begins (a ∷ b ∷ c ∷ d ∷ xs) e = refl
behind_begins [] e = absurd (cc)
behind_begins (a ∷ []) e = absurd (cc)
behind_begins (a ∷ b ∷ []) e = absurd (cc)
behind_begins (a ∷ b ∷ c ∷ []) e = absurd (cc)

drop_more : (i : ℕ) (bytes : List ℕ) → drop 4 (drop i bytes) ≡ drop (i + 4) bytes
drop_more zero bytes = refl
drop_more (suc i) [] = let e : suc (i + 4) ≡ suc i + 4 = omega arith in ap (λ z. drop z []) e
drop_more (suc i) (b ∷ bytes) = let e : suc (i + 4) ≡ suc i + 4 = omega arith in drop_more i bytes ∙ ap (λ z. drop z (b ∷ bytes)) e

whole_begins : (bytes : List ℕ) → begins_of bytes ≡ true → 4 ≤ length bytes
whole_begins (a ∷ b ∷ c ∷ d ∷ xs) e = omega arith
whole_begins [] e = absurd (cc)
whole_begins (a ∷ []) e = absurd (cc)
whole_begins (a ∷ b ∷ []) e = absurd (cc)
whole_begins (a ∷ b ∷ c ∷ []) e = absurd (cc)

pub is_whole : (text bytes : List ℕ) (i : ℕ) → bytes ≡ drop i text → begins_of bytes ≡ true → i < length text → i + 4 ≤ length text
is_whole text bytes i e b lt =
    let h = whole_begins bytes b in
    let g : length bytes ≡ length text - i = ap length e ∙ length-drop i text in omega (arith, h, g, lt)

-- it begins at this place, or it does not
pub found_here : (text bytes : List ℕ) (i : ℕ) (o : Option (List ℕ × List ℕ)) → bytes ≡ drop i text → begins_of bytes ≡ true →
    Some (parts_at text i) ≡ (if begins_of (drop i text) then Some (take i text, behind_of (drop i text)) else o)
found_here text bytes i o e b =
    let c : begins_of (drop i text) ≡ true = ap begins_of (sym e) ∙ b in
    sym (ap (λ z. if z then Some (take i text, behind_of (drop i text)) else o) c ∙ ap (λ z. Some (take i text, z)) (behind_begins (drop i text) c ∙ drop_more i text))

pub found_before : (text bytes : List ℕ) (i : ℕ) (o : Option (List ℕ × List ℕ)) → bytes ≡ drop i text → begins_of bytes ≡ false →
    o ≡ (if begins_of (drop i text) then Some (take i text, behind_of (drop i text)) else o)
found_before text bytes i o e b =
    sym (ap (λ z. if z then Some (take i text, behind_of (drop i text)) else o) (ap begins_of (sym e) ∙ b))

-- one byte more was looked at
pub one_byte : (text : List ℕ) (i j : ℕ) (o p : Option (List ℕ × List ℕ)) → i < length text → j ≡ suc i →
    p ≡ (if begins_of (drop i text) then Some (take i text, behind_of (drop i text)) else o) →
    last_of (take i text) (drop i text) o ≡ last_of (take j text) (drop j text) p
one_byte text i j o p lt q e =
    let byte = get_or text i 0 in
    ap (λ l. last_of (take i text) l o) (drop-cons text i 0 lt)
    ∙ ap (λ l. last_of l (drop (suc i) text) (if begins_of (byte ∷ drop (suc i) text) then Some (take i text, behind_of (byte ∷ drop (suc i) text)) else o)) (sym (take-suc text i 0 lt))
    ∙ ap (λ l. last_of (take (suc i) text) (drop (suc i) text) (if begins_of l then Some (take i text, behind_of l) else o)) (sym (drop-cons text i 0 lt))
    ∙ ap (λ q. last_of (take (suc i) text) (drop (suc i) text) q) (sym e)
    ∙ ap (λ z. last_of (take z text) (drop z text) p) (sym q)

pub no_last : (text : List ℕ) → last_of [] text None ≡ None → mean Str ≡ type_of_parts (last_of [] text None)
no_last text e = mean-Str ∙ ap type_of_parts (sym e)

pub named_is : (word name v : List ℕ) → v ≡ name → is_word word ≡ true → is_type_name name ≡ true → mean (Named v) ≡ type_of_parts (Some (word, name))
named_is word name v e f g = mean-Named v ∙ ap (λ z. con (NamedHead z)) e ∙ sym (rw f (rw g refl))

pub no_word : (word name : List ℕ) → is_word word ≡ false → mean Str ≡ type_of_parts (Some (word, name))
no_word word name e = mean-Str ∙ sym (rw e refl)

pub no_name : (word name : List ℕ) → is_type_name name ≡ false → mean Str ≡ type_of_parts (Some (word, name))
no_name word name e = mean-Str ∙ sym (ap (λ z. if is_word word && z then con (NamedHead name) else con StrHead) e ∙ either (is_word word))
  where
    either : (b : Bool) → (if b && false then con (NamedHead name) else con StrHead) ≡ con StrHead
    either true = refl
    either false = refl
