use Rattle.std.proofs.Common.{◌≡◌, ℕ, ◌+◌, ◌-◌, ◌*◌, ◌/◌, ◌%◌, ◌<◌, ◌≤◌, inl, inr, Bool, true, false, not, Option, None, set, append_assoc, List, [], ◌∷◌, ◌++◌, length, map, take, drop, get_or, All, refl, ◌∙◌, ap, arith, length-drop}
use Rattle.std.specs.Prelude.{nat_eq, if◌then◌else◌, bit_and, bit_xor}
use Rattle.std.specs.Int.Bits.{xor_add_and}
use Rattle.std.proofs.lemmas.Bool.{eq-eqb}
use Rattle.std.proofs.lemmas.Bool.Decides.{eqb_tells}
use Rattle.std.proofs.lemmas.Nat.{and_mask}
use Rattle.std.proofs.Math.Seq.{drop-append_seam}
use Rattle.refutation_checker.specs.Follows.{negation}
use Rattle.refutation_checker.proofs.TrailLemmas.{Lit-same}
use Rattle.std.proofs.lemmas.List.{length-map, get_or-map, take_all, take-append-le, drop-append-le, map-append, map-set}
use Rattle.std.proofs.lemmas.List.Elements.{All-head, All-tail}
use Rattle.sat_formula.specs.declared.lit.Lit.{Lit}
use Rattle.watched_search.specs.declared.clauses.Span.{Span}
use Rattle.sat_formula.specs.Lit.{top_lit}
use Rattle.watched_search.specs.Codes.{code, literal}
use Rattle.watched_search.specs.Searching.{lit_at}
use Rattle.watched_search.specs.inner.Spans.{literals_in, IsWithin, watching, watching_in}

-- codes and literals

one_of : (b : Bool) (v : ℕ) → (let n = 2 * v + (if b then 1 else 0) in (n / 2 ≡ v) × (nat_eq (n % 2) 1 ≡ b))
one_of true v = (omega arith, eq-eqb _ _ (omega arith))
one_of false v = (omega arith, elim (eqb_tells ((2 * v + 0) % 2) 1) [ inl p ↦ absurd (let bad = p.1 in omega arith) | inr p ↦ p.0 ])

pub literal-code : (l : Lit) → literal (code l) ≡ l
literal-code l = let p = one_of l.neg l.var in Lit-same (literal (code l)) l p.0 p.1

rest_of : (r : ℕ) → r < 2 → (if nat_eq r 1 then 1 else 0) ≡ r
rest_of r lt = elim (eqb_tells r 1) [
  | inl p ↦ rw p.0 (let at = p.1 in omega arith)
  | inr p ↦ rw p.0 (let at = p.1 in omega arith)
]

pub code-literal : (n : ℕ) → code (literal n) ≡ n
code-literal n = let r = rest_of (n % 2) (omega arith) in omega arith

rest_not : (r : ℕ) → r < 2 → (if not (nat_eq r 1) then 1 else 0) + r ≡ 1
rest_not r lt = elim (eqb_tells r 1) [
  | inl p ↦ rw p.0 (let at = p.1 in omega arith)
  | inr p ↦ rw p.0 (let at = p.1 in omega arith)
]

-- a literal's code and its negation's differ in the last bit
pub code-negation : (n : ℕ) → code (negation (literal n)) ≡ bit_xor n 1
code-negation n =
    let both = xor_add_and n 1 in
    let last : bit_and n 1 ≡ n % 2 = and_mask n 1 in
    let r = rest_not (n % 2) (omega arith) in
    omega arith

pub literal_at : (codes : List ℕ) (k d : ℕ) → k < length codes → lit_at (map (λ n. literal n) codes) k ≡ literal (get_or codes k d)
literal_at codes k d lt = get_or-map (λ n. literal n) codes k d top_lit lt

literals_of-codes : (c : List Lit) → map (λ n. literal n) (map code c) ≡ c
literals_of-codes [] = refl
literals_of-codes (l ∷ c) = ap (λ (x : Lit). x ∷ map (λ n. literal n) (map code c)) (literal-code l) ∙ ap (λ (xs : List Lit). l ∷ xs) (literals_of-codes c)

-- parts of a list that grows

same_part : (codes more : List ℕ) (s : Span) → IsWithin (length codes) s → literals_in (codes ++ more) s ≡ literals_in codes s
same_part codes more s h =
    let le : s.start ≤ s.end = h.0 in
    let within : s.end ≤ length codes = h.1 in
    let cut = length-drop s.start codes in
    ap (λ (xs : List ℕ). map (λ n. literal n) (take (s.end - s.start) xs)) (drop-append-le s.start codes more (omega arith))
    ∙ ap (λ (xs : List ℕ). map (λ n. literal n) xs) (take-append-le (s.end - s.start) (drop s.start codes) more (omega arith))

same_parts : (codes more : List ℕ) (spans : List Span) → All (IsWithin (length codes)) spans
    → map (λ x. literals_in (codes ++ more) x) spans ≡ map (λ x. literals_in codes x) spans
same_parts codes more [] h = refl
same_parts codes more (s ∷ spans) h =
    ap (λ (c : List Lit). c ∷ map (λ x. literals_in (codes ++ more) x) spans) (same_part codes more s (All-head (IsWithin (length codes)) s spans h))
    ∙ ap (λ (cs : List (List Lit)). literals_in codes s ∷ cs) (same_parts codes more spans (All-tail (IsWithin (length codes)) s spans h))

last_part : (codes : List ℕ) (c : List Lit) (s : Span) → s.start ≡ length codes → s.end ≡ length codes + length c → literals_in (codes ++ map code c) s ≡ c
last_part codes c s from to =
    let size : s.end - s.start ≡ length c = omega arith in
    let long = length-map c code in
    ap (λ (n : ℕ). map (λ n. literal n) (take (s.end - s.start) (drop n (codes ++ map code c)))) from
    ∙ ap (λ (xs : List ℕ). map (λ n. literal n) (take (s.end - s.start) xs)) (drop-append_seam codes (map code c))
    ∙ ap (λ (xs : List ℕ). map (λ n. literal n) xs) (take_all (s.end - s.start) (map code c) (omega arith))
    ∙ literals_of-codes c

-- one more clause
pub clauses-push : (codes : List ℕ) (spans : List Span) (c : List Lit) (s : Span) → All (IsWithin (length codes)) spans → s.start ≡ length codes → s.end ≡ length codes + length c
    → map (λ x. literals_in (codes ++ map code c) x) (spans ++ s ∷ []) ≡ map (λ x. literals_in codes x) spans ++ c ∷ []
clauses-push codes spans c s h from to =
    map-append (λ x. literals_in (codes ++ map code c) x) spans (s ∷ [])
    ∙ ap (λ (cs : List (List Lit)). cs ++ literals_in (codes ++ map code c) s ∷ []) (same_parts codes (map code c) spans h)
    ∙ ap (λ (x : List Lit). map (λ x. literals_in codes x) spans ++ x ∷ []) (last_part codes c s from to)

-- numbers of what watches

pub watching-set : (numbers : List ℕ) (i n : ℕ) (o : Option Lit) → watching n ≡ o → watching_in (set numbers i n) ≡ set (watching_in numbers) i o
watching-set numbers i n o e = map-set (λ n. watching n) numbers i n ∙ ap (λ (x : Option Lit). set (watching_in numbers) i x) e

pub watching-push : (numbers : List ℕ) (m n : ℕ) (a b : Option Lit) → watching m ≡ a → watching n ≡ b → watching_in ((numbers ++ m ∷ []) ++ n ∷ []) ≡ watching_in numbers ++ a ∷ b ∷ []
watching-push numbers m n a b ea eb =
    map-append (λ n. watching n) (numbers ++ m ∷ []) (n ∷ [])
    ∙ ap (λ (xs : List (Option Lit)). xs ++ watching n ∷ []) (map-append (λ n. watching n) numbers (m ∷ []))
    ∙ append_assoc (watching_in numbers) (watching m ∷ []) (watching n ∷ [])
    ∙ ap (λ (x : Option Lit). watching_in numbers ++ x ∷ watching n ∷ []) ea
    ∙ ap (λ (x : Option Lit). watching_in numbers ++ a ∷ x ∷ []) eb

pub watching-at : (numbers : List ℕ) (i d : ℕ) → i < length numbers → get_or (watching_in numbers) i None ≡ watching (get_or numbers i d)
watching-at numbers i d lt = get_or-map (λ n. watching n) numbers i d None lt
