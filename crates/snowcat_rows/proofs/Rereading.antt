-- What is shown of a type that some text says is read back, but for the numbers of its variables.
use Rattle.std.proofs.Common.{◌≡◌, ◌<◌, ◌^◌, length, arith, ℕ, zero, suc, inl, inr, List, [], ◌∷◌, refl, ap, sym, ◌∙◌, subst, Some, None}
use Rattle.std.proofs.lemmas.Bool.{cases_Bool}
use Rattle.snowcat_rows.specs.declared.marks.Seen.{Seen}
use Rattle.snowcat_rows.specs.declared.marks.Seen.TheVariants as seen
use Rattle.snowcat_rows.specs.declared.types.Ty.{Ty}
use Rattle.snowcat_rows.specs.Types.{Term, Slot, var, con, app, fields, none, some, mean}
use Rattle.snowcat_rows.specs.Readings.{Known, Knows, number, same_seen, read, IsReadAs, IsReadBy}
use Rattle.snowcat_rows.specs.Renamings.{renamed, renamed_slot, Variants}
use Rattle.snowcat_rows.specs.inner.Shown.{shown_type, shown_row, by_numbers}
use Rattle.snowcat_rows.specs.Said.{IsRegular, IsSaid, IsSpelled, IsReadBack}
use Rattle.snowcat_rows.specs.Sorting.{Within}
use Rattle.snowcat_rows.specs.Spellable.{Spellable}
use Rattle.snowcat_rows.specs.Texts.{type_text}
use Rattle.snowcat_rows.specs.inner.Below.{Below, BelowSlot}
use Rattle.snowcat_rows.specs.inner.Fronted.{Front, Fronted, FrontedSlot}
use Rattle.snowcat_rows.proofs.Belows.{below_within, within_below}
use Rattle.snowcat_rows.proofs.SpellingLaw.{spelled}
use Rattle.snowcat_rows.proofs.ReadBack.{read_back, read_terms, same_is}
use Rattle.snowcat_rows.proofs.Sayings.{said_text, said_sorted, said_fronted, known_said}
use Rattle.snowcat_rows.proofs.Spellable.{has_spelling, number_in, shown_number}

-- ---- from its number to the variable

abbrev seen_at : List Seen → ℕ → Seen
seen_at [] i = seen.Own
seen_at (v ∷ vs) zero = v
seen_at (v ∷ vs) (suc i) = seen_at vs i

seen_there : (w : Seen) (vs : List Seen) → number w vs < length vs → seen_at vs (number w vs) ≡ w
seen_there w [] h = absurd (omega (arith, h))
seen_there w (v ∷ vs) h = elim (cases_Bool (same_seen v w)) [
  | inl e ↦
      let m : number w (v ∷ vs) ≡ 0 = rw e refl in
      ap (λ z. seen_at (v ∷ vs) z) m ∙ same_is v w e
  | inr e ↦
      let m : number w (v ∷ vs) ≡ suc (number w vs) = rw e refl in
      ap (λ z. seen_at (v ∷ vs) z) m ∙ seen_there w vs (omega (arith, h, m))
]

abbrev number_of : Seen → ℕ
number_of (seen.Type x) = number_in x
number_of (seen.Row x) = number_in x
number_of seen.Own = 0

abbrev back : List Seen → ℕ → ℕ
back ns i = number_of (seen_at ns i)

type_back : (ns : List Seen) (n : ℕ) → number (shown_type n) ns < length ns → n < 2 ^ 32 → back ns (number (shown_type n) ns) ≡ n
type_back ns n h k = ap number_of (seen_there (shown_type n) ns h) ∙ shown_number n k

row_back : (ns : List Seen) (n : ℕ) → number (shown_row n) ns < length ns → n < 2 ^ 32 → back ns (number (shown_row n) ns) ≡ n
row_back ns n h k = ap number_of (seen_there (shown_row n) ns h) ∙ shown_number n k

mutual
  and_back : (ns : List Seen) (ps : List Front) → length ps ≡ length ns → (t : Term) → Fronted ps (by_numbers ns t) → Below (2 ^ 32) t →
      t ≡ renamed (back ns) (back ns) (by_numbers ns t)
  and_back ns ps e (var v) h b = ap (λ z. var z) (sym (type_back ns v (omega (arith, h, e)) b))
  and_back ns ps e (con c) h b = refl
  and_back ns ps e (app x y) h b = λ i. app (and_back ns ps e x h.0 b.0 i) (and_back ns ps e y h.1 b.1 i)
  and_back ns ps e (fields f None) h b = λ i. fields (λ n. slot_back ns ps e (f n) (h.0 n) (b.0 n) i) None
  and_back ns ps e (fields f (Some r)) h b =
      let k = row_back ns r (omega (arith, (h.1 (number (shown_row r) ns) refl).0, e)) b.1 in
      λ i. fields (λ n. slot_back ns ps e (f n) (h.0 n) (b.0 n) i) (Some (sym k i))

  slot_back : (ns : List Seen) (ps : List Front) → length ps ≡ length ns → (s : Slot) →
      FrontedSlot ps (renamed_slot (λ n. number (shown_type n) ns) (λ n. number (shown_row n) ns) s) → BelowSlot (2 ^ 32) s →
      s ≡ renamed_slot (back ns) (back ns) (renamed_slot (λ n. number (shown_type n) ns) (λ n. number (shown_row n) ns) s)
  slot_back ns ps e none h b = refl
  slot_back ns ps e (some t) h b = ap (λ z. some z) (and_back ns ps e t h b)

-- ---- the same numbers

mutual
  unrenamed : (t : Term) → t ≡ renamed (λ n. n) (λ n. n) t
  unrenamed (var v) = refl
  unrenamed (con c) = refl
  unrenamed (app a b) = λ i. app (unrenamed a i) (unrenamed b i)
  unrenamed (fields f None) = λ i. fields (λ n. unrenamed_slot (f n) i) None
  unrenamed (fields f (Some r)) = λ i. fields (λ n. unrenamed_slot (f n) i) (Some r)

  unrenamed_slot : (s : Slot) → s ≡ renamed_slot (λ n. n) (λ n. n) s
  unrenamed_slot none = refl
  unrenamed_slot (some t) = ap (λ z. some z) (unrenamed t)

-- ---- the laws

pub read_said : (aliases : List (List ℕ × List ℕ)) (text : List ℕ) (t : Term) → IsReadAs aliases text t → IsSaid t
read_said aliases text t h =
    record { aliases = aliases; text = text; read_as = t; is_read = h; is_variant = (((λ n. n), (λ n. n), unrenamed t), ((λ n. n), (λ n. n), unrenamed t)) }

spelled_is : (t : Ty) → IsRegular t → Spellable (mean t) → IsSpelled t
spelled_is t r p =
    let h = has_spelling t p.text (within_below (2 ^ 32) (mean t) r.numbers) r.names p.fronts.0 p.fronts.1 in
    (h.0, h.1, spelled t h.0 h.1 h.2 h.3.0 h.3.1)

pub said_spellable : (t : Term) → IsSaid t → Spellable t
said_spellable t s =
    let f = s.is_variant.0.0 in
    let g = s.is_variant.0.1 in
    record {
      text = said_text s.aliases s.text s.read_as t f g s.is_read s.is_variant.0.2;
      fronts = said_sorted s.aliases s.text s.read_as t f g s.is_read s.is_variant.0.2;
    }

-- what is shown is read as the type, but for the numbers of its variables
shown_variant : (t : Ty) → IsRegular t → (h : IsSpelled t) → Variants (mean t) (by_numbers (read [] h.0 []).1 (mean t))
shown_variant t r h =
    let ns = (read [] h.0 []).1 in
    let p = said_fronted (type_text t) h.0 h.2 in
    let P : Term → Type 0 = λ z. Fronted p.0 z in
    let k : Fronted p.0 (by_numbers ns (mean t)) = subst P (read_terms t h.0 h.1) p.2 in (
      ((λ n. number (shown_type n) ns), (λ n. number (shown_row n) ns), refl),
      (back ns, back ns, and_back ns p.0 p.1 (mean t) k (within_below (2 ^ 32) (mean t) r.numbers)),
    )

pub spellable_said : (t : Ty) → IsRegular t → Spellable (mean t) → IsSaid (mean t)
spellable_said t r p =
    let h = spelled_is t r p in
    record {
      aliases = [];
      text = type_text t;
      read_as = by_numbers (read [] h.0 []).1 (mean t);
      is_read = read_back t h.0 h.1 h.2;
      is_variant = shown_variant t r h;
    }

pub spelled_again : (t : Ty) → IsRegular t → IsSaid (mean t) → IsSpelled t
spelled_again t r s = spelled_is t r (said_spellable (mean t) s)

pub read_again : (t : Ty) → IsRegular t → IsSaid (mean t) → IsReadBack t
read_again t r s =
    let h = spelled_again t r s in
    (by_numbers (read [] h.0 []).1 (mean t), read_back t h.0 h.1 h.2, shown_variant t r h)

-- ---- the numbers of a type that was read

mutual
  fronted_below : (ps : List Front) (t : Term) → Fronted ps t → Below (length ps) t
  fronted_below ps (var v) h = h
  fronted_below ps (con c) h = tt
  fronted_below ps (app a b) h = (fronted_below ps a h.0, fronted_below ps b h.1)
  fronted_below ps (fields f None) h = (λ n. slot_below ps (f n) (h.0 n), tt)
  fronted_below ps (fields f (Some r)) h = (λ n. slot_below ps (f n) (h.0 n), (h.1 r refl).0)

  slot_below : (ps : List Front) (s : Slot) → FrontedSlot ps s → BelowSlot (length ps) s
  slot_below ps none h = tt
  slot_below ps (some t) h = fronted_below ps t h

-- as many variables as the text has, at most
pub whole_within : (aliases : List (List ℕ × List ℕ)) (text : List ℕ) (k : Known) (t : Term) (n : ℕ) → Knows [] aliases k → IsReadBy k text t n → n < 2 ^ 32 → Within (2 ^ 32) t
whole_within aliases text k t n h w small =
    let g = known_said aliases k h text w.0 w.1 in
    let P : Term → Type 0 = λ z. Within (2 ^ 32) z in
    subst P (sym w.3) (λ v o. let b = below_within (length g.0) (read k w.0 []).0 (fronted_below g.0 (read k w.0 []).0 g.2) v o in omega (arith, b, g.1, w.4, small))
