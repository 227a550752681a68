-- A certificate that is written piece by piece.
use Rattle.std.proofs.Common.{◌≡◌, inl, inr, ℕ, ◌+◌, ◌<◌, ◌≤◌, min, length, List, [], ◌∷◌, ◌++◌, take, drop, get_or, Option, Some, sym, ◌∙◌, ap, subst, arith, append_assoc}
use Rattle.std.specs.Prelude.{flat_map}
use Rattle.std.proofs.Math.Seq.{take-append_seam, take-append-add}
use Rattle.std.proofs.lemmas.Grind.{flat_map-append}
use Rattle.std.proofs.lemmas.List.{append-nil, take_min, take-append-le, take-append-drop, take_all, take_more, drop_more}
use Rattle.refutation_checker.specs.declared.section.Section.{Section}
use Rattle.refutation_checker.specs.Certificate.{certificate_text, first_line, section_text, text_of_lines}
use Rattle.tool_outside.specs.Causes.{IsCut}
use Rattle.tool_outside.specs.Outside.{Folder, bytes_or_none, Changes, AddsPrefix}
use Rattle.tool_outside.proofs.Prefixes.{changes_as, changes_then}

-- ---- a file

-- the file holds these bytes now
abbrev pub HoldsNow : List ℕ → Option (List ℕ) → Option (List ℕ) → Type 0
HoldsNow bytes before now = now ≡ Some bytes

saved_more : (a b c : Option Folder) (name front piece : List ℕ) → Changes a b name (HoldsNow front)
    → Changes b c name (λ before now. now ≡ Some (bytes_or_none before ++ piece)) → Changes a c name (HoldsNow (front ++ piece))
saved_more a b c name front piece first second = changes_then a b c name _ _ _ first second (λ x y z was is.
    is ∙ ap (λ (o : Option (List ℕ)). Some (bytes_or_none o ++ piece)) was)

pub cut_behind : (a b : Option Folder) (name front rest all : List ℕ) → all ≡ front ++ rest → Changes a b name (HoldsNow front) → Changes a b name (IsCut all)
cut_behind a b name front rest all whole change = changes_as a b name _ _ change (λ x y now.
    inr (length front, now ∙ ap (λ (l : List ℕ). Some l) (sym (ap (take (length front)) whole ∙ take-append_seam front rest))))

-- a prefix of the piece, behind what was there
part_of : (front piece rest all : List ℕ) (count : ℕ) → all ≡ front ++ (piece ++ rest) → (n : ℕ) × (front ++ take count piece ≡ take n all)
part_of front piece rest all count whole =
    let some = min count (length piece) in
    let short : some ≤ length piece = omega arith in (
      length front + some,
      ap (λ (l : List ℕ). front ++ l) (sym (take_min count piece) ∙ sym (take-append-le some piece rest short))
          ∙ sym (take-append-add front (piece ++ rest) some) ∙ ap (take (length front + some)) (sym whole),
    )

cut_within : (a b c : Option Folder) (name front piece rest all : List ℕ) → all ≡ front ++ (piece ++ rest) → Changes a b name (HoldsNow front)
    → Changes b c name (AddsPrefix piece) → Changes a c name (IsCut all)
cut_within a b c name front piece rest all whole first second = changes_then a b c name _ _ _ first second (λ x y z was is.
    elim is [
      | inl same ↦ inr (length front, same ∙ was ∙ ap (λ (l : List ℕ). Some l) (sym (ap (take (length front)) whole ∙ take-append_seam front (piece ++ rest))))
      | inr added ↦
          let to = part_of front piece rest all added.0 whole in
          inr (to.0, added.1 ∙ ap (λ (o : Option (List ℕ)). Some (bytes_or_none o ++ take added.0 piece)) was ∙ ap (λ (l : List ℕ). Some l) to.1)
    ])

-- the same of a piece that is equal to the one which is written
pub saved_next : (a b c : Option Folder) (name front seen piece all : List ℕ) → seen ≡ piece → all ≡ front ++ piece → Changes a b name (HoldsNow front)
    → Changes b c name (λ before now. now ≡ Some (bytes_or_none before ++ seen)) → Changes a c name (HoldsNow all)
saved_next a b c name front seen piece all same whole first second =
    subst (λ (l : List ℕ). Changes a c name (HoldsNow l)) (ap (λ (l : List ℕ). front ++ l) same ∙ sym whole) (saved_more a b c name front seen first second)

pub cut_next : (a b c : Option Folder) (name front seen piece rest all : List ℕ) → seen ≡ piece → all ≡ front ++ (piece ++ rest) → Changes a b name (HoldsNow front)
    → Changes b c name (AddsPrefix seen) → Changes a c name (IsCut all)
cut_next a b c name front seen piece rest all same whole first second =
    cut_within a b c name front seen rest all (whole ∙ ap (λ (l : List ℕ). front ++ (l ++ rest)) (sym same)) first second

-- ---- a certificate

-- what is written before the section with this number
abbrev pub front_text : List Section → ℕ → List ℕ
front_text sections i = text_of_lines (first_line ∷ []) ++ flat_map section_text (take i sections)

pub front_rest : (sections : List Section) (i : ℕ) → certificate_text sections ≡ front_text sections i ++ flat_map section_text (drop i sections)
front_rest sections i =
    ap (λ (xs : List Section). text_of_lines (first_line ∷ []) ++ flat_map section_text xs) (sym (take-append-drop i sections))
    ∙ ap (λ (l : List ℕ). text_of_lines (first_line ∷ []) ++ l) (flat_map-append section_text (take i sections) (drop i sections))
    ∙ sym (append_assoc (text_of_lines (first_line ∷ [])) (flat_map section_text (take i sections)) (flat_map section_text (drop i sections)))

pub front_first : (sections : List Section) → front_text sections 0 ≡ [] ++ text_of_lines (first_line ∷ [])
front_first sections = append-nil (text_of_lines (first_line ∷ []))

pub all_written : (sections : List Section) (i : ℕ) → length sections ≤ i → front_text sections i ≡ certificate_text sections
all_written sections i le = ap (λ (xs : List Section). text_of_lines (first_line ∷ []) ++ flat_map section_text xs) (take_all i sections le)

one_piece : (f : Section → List ℕ) (s : Section) → flat_map f (s ∷ []) ≡ f s
one_piece f s = append-nil (f s)

pub front_next : (sections : List Section) (i : ℕ) (d : Section) → i < length sections
    → certificate_text sections ≡ front_text sections i ++ (section_text (get_or sections i d) ++ flat_map section_text (drop (i + 1) sections))
front_next sections i d lt =
    front_rest sections i
    ∙ ap (λ (xs : List Section). front_text sections i ++ flat_map section_text xs) (drop_more sections i d lt)
    ∙ ap (λ (l : List ℕ). front_text sections i ++ l) (flat_map-append section_text (get_or sections i d ∷ []) (drop (i + 1) sections)
    ∙ ap (λ (l : List ℕ). l ++ flat_map section_text (drop (i + 1) sections)) (one_piece section_text (get_or sections i d)))

pub front_more : (sections : List Section) (i : ℕ) (d : Section) → i < length sections → front_text sections (i + 1) ≡ front_text sections i ++ section_text (get_or sections i d)
front_more sections i d lt =
    ap (λ (xs : List Section). text_of_lines (first_line ∷ []) ++ flat_map section_text xs) (take_more sections i d lt)
    ∙ ap (λ (l : List ℕ). text_of_lines (first_line ∷ []) ++ l) (flat_map-append section_text (take i sections) (get_or sections i d ∷ [])
    ∙ ap (λ (l : List ℕ). flat_map section_text (take i sections) ++ l) (one_piece section_text (get_or sections i d)))
    ∙ sym (append_assoc (text_of_lines (first_line ∷ [])) (flat_map section_text (take i sections)) (section_text (get_or sections i d)))
