-- The table of links after each change.
use Rattle.std.proofs.Common.{◌≡◌, ◌≢◌, ℕ, zero, suc, ◌/◌, ◌%◌, ◌<◌, ◌≤◌, inl, inr, List, [], ◌∷◌, ◌++◌, length, set, map, get_or, replicate, Option, Some, None, refl, sym, ◌∙◌, ap, subst, arith, length-set}
use Rattle.std.specs.Prelude.{Contains, slice_get}
use Rattle.std.proofs.lemmas.Bool.{cases_eq}
use Rattle.std.proofs.lemmas.Bool.Decides.{eqb_tells}
use Rattle.std.proofs.lemmas.List.Elements.{Contains-append_right}
use Rattle.std.proofs.lemmas.List.{get_or-set_same, get_or-set_other, get_or_default, get_or-map, length-map, same_lists, get_or-replicate, length-replicate, set-get_or, map-set}
use Rattle.watch_chains.specs.declared.link.Link.{Link}
use Rattle.watch_chains.specs.Watches.{list_at, IsSlot, IsAbsent, Apart, IsWatchTable, TakesOut, Watches}
use Rattle.watch_chains.specs.Chains.{walk, Path, place_of, follow, LeadsOn, lists_of, Chained, linked, links_in, IsPacked}
use Rattle.watch_chains.proofs.Paths.{Contains-nil, Contains-head, Contains-tail, Contains-cases, Contains-cut, Contains-middle, Path-same, Path-link, Path-cut, Path-first, Path-next, Path-taken, Path-once, Path-split, Path-length, walk-path}

-- a slot has its own place in the table
pub place_below : (size : ℕ) (l : Link) → IsSlot (size / 2) l → place_of l < size
place_below size l slot = let c = slot.clause in let s = slot.slot in omega arith

pub same_place : (room : ℕ) (a b : Link) → IsSlot room a → IsSlot room b → place_of a ≡ place_of b → a ≡ b
same_place room a b sa sb e =
    let la = sa.slot in
    let lb = sb.slot in
    let clause : a.clause ≡ b.clause = omega arith in
    let slot : a.slot ≡ b.slot = omega arith in
    let with_clause : ℕ → Link = λ n. record { clause = n; slot = a.slot } in
    let with_slot : ℕ → Link = λ n. record { clause = b.clause; slot = n } in
    ap with_clause clause ∙ ap with_slot slot

-- the views of chained fields
pub lists-are : (firsts nexts : List (Option Link)) (lists : List (List Link)) → Chained firsts nexts lists → lists_of firsts nexts ≡ lists
lists-are firsts nexts lists h =
    let start : Option Link → List Link = λ at. walk (follow nexts) (length nexts) at in
    let size : length (map start firsts) ≡ length firsts = length-map firsts start in
    same_lists (lists_of firsts nexts) lists (size ∙ sym h.size)
    (λ code d lt.
    let within : code < length firsts = rw size at lt in
    let there : code < length lists = rw (sym h.size) at within in
    let p = h.paths code there in
    get_or-map start firsts code None d within
    ∙ walk-path (follow nexts) (length nexts) (get_or firsts code None) (list_at lists code) p
    (Path-length (follow nexts) (get_or firsts code None) (list_at lists code) (λ l. place_of l) (length nexts) (record { clause = 0; slot = 0 }) p
    (λ l has. place_below (length nexts) l (h.slots code l there has))
    (λ a b ha hb e. same_place (length nexts / 2) a b (h.slots code a there ha) (h.slots code b there hb) e))
    ∙ get_or_default lists code [] d there)

pub view_of : (firsts nexts : List (Option Link)) (lists : List (List Link)) → Chained firsts nexts lists → Chained firsts nexts (lists_of firsts nexts)
view_of firsts nexts lists h = subst (λ (ls : List (List Link)). Chained firsts nexts ls) (sym (lists-are firsts nexts lists h)) h

-- what is read after a write
follow-set_same : (nexts : List (Option Link)) (l : Link) (to : Option Link) → place_of l < length nexts → follow (set nexts (place_of l) to) l ≡ to
follow-set_same nexts l to within = get_or-set_same nexts (place_of l) to None within

follow-set_other : (nexts : List (Option Link)) (room : ℕ) (l x : Link) (to : Option Link) → IsSlot room l → IsSlot room x → x ≢ l → follow (set nexts (place_of l) to) x ≡ follow nexts x
follow-set_other nexts room l x to sl sx apart = get_or-set_other nexts (place_of l) (place_of x) to None (λ e. apart (same_place room x l sx sl e))

-- one list changes, and a write to the table that the other lists do not read
pub Chained-set : (firsts nexts more : List (Option Link)) (lists : List (List Link)) (code : ℕ) (first : Option Link) (list : List Link) → Chained firsts nexts lists → code < length lists
    → length more ≡ length nexts
    → Path (follow more) first list
    → ((l : Link) → Contains list l → IsSlot (length nexts / 2) l)
    → ((other : ℕ) → other < length lists → other ≢ code → Path (follow more) (get_or firsts other None) (list_at lists other))
    → ((l : Link) (other : ℕ) → Contains list l → other < length lists → Contains (list_at lists other) l → other ≡ code)
    → Chained (set firsts code first) more (set lists code list)
Chained-set firsts nexts more lists code first list h lt same path slot others own =
    let count : length (set lists code list) ≡ length lists = length-set lists code list in
    let within : code < length firsts = rw h.size at lt in
    let here : list_at (set lists code list) code ≡ list = get_or-set_same lists code list [] lt in
    record {
      size = count ∙ h.size ∙ sym (length-set firsts code first);
      paths = λ c inside. elim (cases_eq c code) [
        | inl e ↦ rw (e, get_or-set_same firsts code first None within, here) path
        | inr ne ↦
            (let old : c < length lists = rw count at inside in
            rw (get_or-set_other firsts code c first None ne, get_or-set_other lists code c list [] ne) (others c old ne))
      ];
      slots = λ c l inside has. elim (cases_eq c code) [
        | inl e ↦ rw same (slot l (rw here at (rw e at has)))
        | inr ne ↦
            (let old : c < length lists = rw count at inside in
            rw same (h.slots c l old (rw (get_or-set_other lists code c list [] ne) at has)))
      ];
      apart = λ c d l wc wd hc hd.
          let oc : c < length lists = rw count at wc in
          let od : d < length lists = rw count at wd in
          elim (cases_eq c code) [
            | inl ec ↦ elim (cases_eq d code) [
              | inl ed ↦ ec ∙ sym ed
              | inr nd ↦ ec ∙ sym (own l d (rw here at (rw ec at hc)) od (rw (get_or-set_other lists code d list [] nd) at hd))
            ]
            | inr nc ↦ elim (cases_eq d code) [
              | inl ed ↦ own l c (rw here at (rw ed at hd)) oc (rw (get_or-set_other lists code c list [] nc) at hc) ∙ sym ed
              | inr nd ↦ h.apart c d l oc od (rw (get_or-set_other lists code c list [] nc) at hc) (rw (get_or-set_other lists code d list [] nd) at hd)
            ]
          ];
    }

-- a link that stands in no other list than that of `code` is written, and the other lists stay paths
other_paths : (firsts nexts : List (Option Link)) (lists : List (List Link)) (code : ℕ) (l : Link) (to : Option Link) → Chained firsts nexts lists → IsSlot (length nexts / 2) l
    → ((other : ℕ) → other < length lists → other ≢ code → Contains (list_at lists other) l → ⊥)
    → (other : ℕ) → other < length lists → other ≢ code → Path (follow (set nexts (place_of l) to)) (get_or firsts other None) (list_at lists other)
other_paths firsts nexts lists code l to h slot absent other lt ne =
    Path-same (follow nexts) (follow (set nexts (place_of l) to)) (get_or firsts other None) (list_at lists other)
    (λ x has. follow-set_other nexts (length nexts / 2) l x to slot (h.slots other x lt has)
    (λ e. absent other lt ne (subst (λ (z : Link). Contains (list_at lists other) z) e has)))
    (h.paths other lt)

-- l is put to the front
pub Chained-link : (firsts nexts : List (Option Link)) (lists : List (List Link)) (code : ℕ) (l : Link) → Chained firsts nexts lists → code < length lists → IsSlot (length nexts / 2) l → IsAbsent lists l
    → Chained (set firsts code (Some l)) (set nexts (place_of l) (get_or firsts code None)) (set lists code (l ∷ list_at lists code))
Chained-link firsts nexts lists code l h lt slot absent =
    let to : Option Link = get_or firsts code None in
    let list : List Link = list_at lists code in
    let more : List (Option Link) = set nexts (place_of l) to in
    Chained-set firsts nexts more lists code (Some l) (l ∷ list) h lt (length-set nexts (place_of l) to)
    (Path-link (follow nexts) (follow more) to l list (absent code lt) (follow-set_same nexts l to (place_below (length nexts) l slot))
    (λ x has ne. follow-set_other nexts (length nexts / 2) l x to slot (h.slots code x lt has) ne) (h.paths code lt))
    (λ x has. elim (Contains-cases l list x has) [
      | inl e ↦ subst (λ (z : Link). IsSlot (length nexts / 2) z) e slot
      | inr more ↦ h.slots code x lt more
    ])
    (other_paths firsts nexts lists code l to h slot (λ other inside ne has. absent other inside has))
    (λ x other has inside old. elim (Contains-cases l list x has) [
      | inl e ↦ absurd (absent other inside (subst (λ (z : Link). Contains (list_at lists other) z) (sym e) old))
      | inr more ↦ h.apart other code x inside lt old more
    ])

-- the first is taken out
pub Chained-take_first : (firsts nexts : List (Option Link)) (lists : List (List Link)) (code : ℕ) (l : Link) (rest : List Link) → Chained firsts nexts lists → code < length lists → list_at lists code ≡ l ∷ rest
    → Chained (set firsts code (follow nexts l)) nexts (set lists code rest)
Chained-take_first firsts nexts lists code l rest h lt is =
    let p : Path (follow nexts) (get_or firsts code None) (l ∷ rest) = rw is at (h.paths code lt) in
    let member : (x : Link) → Contains rest x → Contains (list_at lists code) x = λ x has. rw is (Contains-tail l rest x has) in
    Chained-set firsts nexts nexts lists code (follow nexts l) rest h lt refl p.2
    (λ x has. h.slots code x lt (member x has))
    (λ other inside ne. h.paths other inside)
    (λ x other has inside old. h.apart other code x inside lt old (member x has))

-- the one behind b is taken out
pub Chained-take_behind : (firsts nexts : List (Option Link)) (lists : List (List Link)) (code : ℕ) (front : List Link) (b l : Link) (rest : List Link) → Chained firsts nexts lists → code < length lists
    → list_at lists code ≡ front ++ b ∷ l ∷ rest
    → Chained firsts (set nexts (place_of b) (follow nexts l)) (set lists code (front ++ b ∷ rest))
Chained-take_behind firsts nexts lists code front b l rest h lt is =
    let to : Option Link = follow nexts l in
    let more : List (Option Link) = set nexts (place_of b) to in
    let has_b : Contains (list_at lists code) b = rw is (Contains-middle front b (l ∷ rest)) in
    let slot_b = h.slots code b lt has_b in
    let p : Path (follow nexts) (get_or firsts code None) (front ++ b ∷ l ∷ rest) = rw is at (h.paths code lt) in
    let member : (x : Link) → Contains (front ++ b ∷ rest) x → Contains (list_at lists code) x = λ x has. rw is (Contains-cut front b l rest x has) in
    subst (λ (fs : List (Option Link)). Chained fs more (set lists code (front ++ b ∷ rest))) (set-get_or firsts code None)
    (Chained-set firsts nexts more lists code (get_or firsts code None) (front ++ b ∷ rest) h lt (length-set nexts (place_of b) to)
    (Path-cut (follow nexts) (follow more) (get_or firsts code None) front b l rest (follow-set_same nexts b to (place_below (length nexts) b slot_b))
    (λ x has ne. follow-set_other nexts (length nexts / 2) b x to slot_b (h.slots code x lt (member x has)) ne) p)
    (λ x has. h.slots code x lt (member x has))
    (other_paths firsts nexts lists code b to h slot_b (λ other inside ne has. ne (h.apart other code b inside lt has has_b)))
    (λ x other has inside old. h.apart other code x inside lt old (member x has)))

-- what the links tell
pub first_told : (firsts nexts : List (Option Link)) (lists : List (List Link)) (code : ℕ) → Chained firsts nexts lists → code < length lists → get_or firsts code None ≡ slice_get (list_at lists code) 0
first_told firsts nexts lists code h lt = Path-first (follow nexts) (get_or firsts code None) (list_at lists code) (h.paths code lt)

pub next_told : (firsts nexts : List (Option Link)) (lists : List (List Link)) (code : ℕ) (front : List Link) (l : Link) (rest : List Link) → Chained firsts nexts lists → code < length lists
    → list_at lists code ≡ front ++ l ∷ rest → follow nexts l ≡ slice_get rest 0
next_told firsts nexts lists code front l rest h lt is = Path-next (follow nexts) (get_or firsts code None) front l rest (rw is at (h.paths code lt))

pub place_in_list : (firsts nexts : List (Option Link)) (lists : List (List Link)) (code : ℕ) (l : Link) → Chained firsts nexts lists → code < length lists → Contains (list_at lists code) l → place_of l < length nexts
place_in_list firsts nexts lists code l h lt has = place_below (length nexts) l (h.slots code l lt has)

pub leads_to_first : (firsts nexts : List (Option Link)) (lists : List (List Link)) (code : ℕ) (l : Link) (rest : List Link) → Chained firsts nexts lists → code < length lists
    → list_at lists code ≡ l ∷ rest → LeadsOn nexts (get_or firsts code None)
leads_to_first firsts nexts lists code l rest h lt is = (
  l,
  first_told firsts nexts lists code h lt ∙ ap (λ (list : List Link). slice_get list 0) is,
  place_in_list firsts nexts lists code l h lt (rw is (Contains-head l rest)),
)

pub leads_behind : (firsts nexts : List (Option Link)) (lists : List (List Link)) (code : ℕ) (front : List Link) (b l : Link) (rest : List Link) → Chained firsts nexts lists → code < length lists
    → list_at lists code ≡ front ++ b ∷ l ∷ rest → LeadsOn nexts (follow nexts b)
leads_behind firsts nexts lists code front b l rest h lt is = (
  l,
  next_told firsts nexts lists code front b (l ∷ rest) h lt is,
  place_in_list firsts nexts lists code l h lt (rw is (Contains-append_right front (b ∷ l ∷ rest) l (Contains-tail b (l ∷ rest) l (Contains-head l rest)))),
)

pub table_of : (firsts nexts : List (Option Link)) (lists : List (List Link)) → Chained firsts nexts lists → IsWatchTable (length nexts / 2) lists
table_of firsts nexts lists h = record {
  slots = h.slots;
  once = λ code lt i j d below within. Path-once (follow nexts) (get_or firsts code None) (list_at lists code) (h.paths code lt) i j d below within;
  apart = h.apart;
}

-- a link that was taken out of its only list is in none
absent_after : (lists : List (List Link)) (code : ℕ) (l : Link) (list : List Link) → Apart lists → code < length lists → Contains (list_at lists code) l → (Contains list l → ⊥) → IsAbsent (set lists code list) l
absent_after lists code l list apart lt was gone c within has =
    let inside : c < length lists = rw (length-set lists code list) at within in
    elim (cases_eq c code) [
      | inl e ↦ gone (rw (get_or-set_same lists code list [] lt) at (rw e at has))
      | inr ne ↦ ne (apart c code l inside lt (rw (get_or-set_other lists code c list [] ne) at has) was)
    ]

pub first_absent : (firsts nexts : List (Option Link)) (lists : List (List Link)) (code : ℕ) (l : Link) (rest : List Link) → Chained firsts nexts lists → code < length lists → list_at lists code ≡ l ∷ rest
    → IsAbsent (set lists code rest) l
first_absent firsts nexts lists code l rest h lt is =
    let p : Path (follow nexts) (get_or firsts code None) (l ∷ rest) = rw is at (h.paths code lt) in
    absent_after lists code l rest h.apart lt (rw is (Contains-head l rest)) p.1

pub behind_absent : (firsts nexts : List (Option Link)) (lists : List (List Link)) (code : ℕ) (front : List Link) (b l : Link) (rest : List Link) → Chained firsts nexts lists → code < length lists
    → list_at lists code ≡ front ++ b ∷ l ∷ rest → IsAbsent (set lists code (front ++ b ∷ rest)) l
behind_absent firsts nexts lists code front b l rest h lt is =
    let p : Path (follow nexts) (get_or firsts code None) (front ++ b ∷ l ∷ rest) = rw is at (h.paths code lt) in
    absent_after lists code l (front ++ b ∷ rest) h.apart lt
    (rw is (Contains-append_right front (b ∷ l ∷ rest) l (Contains-tail b (l ∷ rest) l (Contains-head l rest))))
    (Path-taken (follow nexts) (get_or firsts code None) front b l rest p)

-- a longer table keeps the lists
pub Chained-more : (firsts nexts more : List (Option Link)) (lists : List (List Link)) → length nexts ≤ length more → ((k : ℕ) → k < length nexts → get_or more k None ≡ get_or nexts k None)
    → Chained firsts nexts lists → Chained firsts more lists
Chained-more firsts nexts more lists le same h = record {
  size = h.size;
  paths = λ code lt. Path-same (follow nexts) (follow more) (get_or firsts code None) (list_at lists code)
      (λ l has. same (place_of l) (place_in_list firsts nexts lists code l h lt has)) (h.paths code lt);
  slots = λ code l lt has. let s = h.slots code l lt has in let c = s.clause in record { clause = omega arith; slot = s.slot };
  apart = h.apart;
}

pub Chained-new : (codes : ℕ) → Chained (replicate codes None) [] (replicate codes [])
Chained-new codes =
    let size : length (replicate {A = List Link} codes []) ≡ codes = length-replicate codes [] in
    let empty : (code : ℕ) → code < length (replicate {A = List Link} codes []) → list_at (replicate codes []) code ≡ [] =
    λ code lt. get_or-replicate {A = List Link} codes code [] [] (rw size at lt) in
    record {
      size = size ∙ sym (length-replicate codes None);
      paths = λ code lt. rw (empty code lt) (get_or-replicate {A = Option Link} codes code None None (rw size at lt));
      slots = λ code l lt has. absurd (Contains-nil l (rw (empty code lt) at has));
      apart = λ code other l lt within has old. absurd (Contains-nil l (rw (empty code lt) at has));
    }

pub same_watches : (n m : ℕ) (a b : List (List Link)) → n ≡ m → a ≡ b → (let before : Watches = record { room = n; lists = a } in let after : Watches = record { room = m; lists = b } in before ≡ after)
same_watches n m a b room lists =
    let with_lists : List (List Link) → Watches = λ ls. record { room = n; lists = ls } in
    let with_room : ℕ → Watches = λ k. record { room = k; lists = b } in
    ap with_lists lists ∙ ap with_room room

-- r was taken out of the list of a code
pub record Unlinked (firsts nexts : List (Option Link)) (old : List (List Link)) (code : ℕ) (before : Option Link) (r : Link) : Type 0 where
  pub made : Chained firsts nexts (lists_of firsts nexts)
  pub taken : TakesOut (list_at old code) (list_at (lists_of firsts nexts) code) before r
  pub absent : IsAbsent (lists_of firsts nexts) r
  pub rest : lists_of firsts nexts ≡ set old code (list_at (lists_of firsts nexts) code)

unlinked : (firsts nexts : List (Option Link)) (old : List (List Link)) (code : ℕ) (before : Option Link) (r : Link) (list : List Link) → code < length old → Chained firsts nexts (set old code list)
    → TakesOut (list_at old code) list before r → IsAbsent (set old code list) r → Unlinked firsts nexts old code before r
unlinked firsts nexts old code before r list lt h taken absent =
    let now : lists_of firsts nexts ≡ set old code list = lists-are firsts nexts (set old code list) h in
    let here : list_at (lists_of firsts nexts) code ≡ list = ap (λ (ls : List (List Link)). list_at ls code) now ∙ get_or-set_same old code list [] lt in
    record {
      made = view_of firsts nexts (set old code list) h;
      taken = subst (λ (xs : List Link). TakesOut (list_at old code) xs before r) (sym here) taken;
      absent = subst (λ (ls : List (List Link)). IsAbsent ls r) (sym now) absent;
      rest = now ∙ ap (λ (xs : List Link). set old code xs) (sym here);
    }

some_is : (r l : Link) (at : Option Link) → at ≡ Some r → at ≡ Some l → l ≡ r
some_is r l at a b = cc

pub unlinked_first : (firsts nexts : List (Option Link)) (lists : List (List Link)) (code : ℕ) (r l : Link) (rest : List Link) → Chained firsts nexts lists → code < length lists → list_at lists code ≡ l ∷ rest
    → get_or firsts code None ≡ Some r → Unlinked (set firsts code (follow nexts r)) nexts lists code None r
unlinked_first firsts nexts lists code r l rest h lt is at =
    let same : l ≡ r = some_is r l (get_or firsts code None) at (first_told firsts nexts lists code h lt ∙ ap (λ (list : List Link). slice_get list 0) is) in
    let is' : list_at lists code ≡ r ∷ rest = is ∙ ap (λ (x : Link). x ∷ rest) same in
    unlinked (set firsts code (follow nexts r)) nexts lists code None r rest lt
    (Chained-take_first firsts nexts lists code r rest h lt is') is' (first_absent firsts nexts lists code r rest h lt is')

pub unlinked_behind : (firsts nexts : List (Option Link)) (lists : List (List Link)) (code : ℕ) (front : List Link) (b r l : Link) (rest : List Link) → Chained firsts nexts lists → code < length lists
    → list_at lists code ≡ front ++ b ∷ l ∷ rest → follow nexts b ≡ Some r → Unlinked firsts (set nexts (place_of b) (follow nexts r)) lists code (Some b) r
unlinked_behind firsts nexts lists code front b r l rest h lt is at =
    let same : l ≡ r = some_is r l (follow nexts b) at (next_told firsts nexts lists code front b (l ∷ rest) h lt is) in
    let is' : list_at lists code ≡ front ++ b ∷ r ∷ rest = is ∙ ap (λ (x : Link). front ++ b ∷ x ∷ rest) same in
    let p : Path (follow nexts) (get_or firsts code None) (front ++ b ∷ r ∷ rest) = rw is' at (h.paths code lt) in
    unlinked firsts (set nexts (place_of b) (follow nexts r)) lists code (Some b) r (front ++ b ∷ rest) lt
    (Chained-take_behind firsts nexts lists code front b r rest h lt is')
    (λ ahead behind next split.
    let both : (front ≡ ahead) × (r ∷ rest ≡ next ∷ behind) = Path-split (follow nexts) (get_or firsts code None) front ahead b (r ∷ rest) (next ∷ behind) (sym is' ∙ split) p in
    (head_same r next rest behind both.1, ap (λ (xs : List Link). xs ++ b ∷ rest) both.0 ∙ ap (λ (xs : List Link). ahead ++ b ∷ xs) (tail_same r next rest behind both.1)))
    (behind_absent firsts nexts lists code front b r rest h lt is')
  where
    head_same : (x y : Link) (xs ys : List Link) → x ∷ xs ≡ y ∷ ys → x ≡ y
    head_same x y xs ys e = cc

    tail_same : (x y : Link) (xs ys : List Link) → x ∷ xs ≡ y ∷ ys → xs ≡ ys
    tail_same x y xs ys e = cc

-- numbers and links

same_link : (c s : ℕ) (l : Link) → c ≡ l.clause → s ≡ l.slot → (let made : Link = record { clause = c; slot = s } in made ≡ l)
same_link c s l ec es =
    let with_clause : ℕ → Link = λ n. record { clause = n; slot = s } in
    let with_slot : ℕ → Link = λ n. record { clause = l.clause; slot = n } in
    ap with_clause ec ∙ ap with_slot es

pub linked-place : (l : Link) → l.slot < 2 → place_of l < 4294967295 → linked (place_of l) ≡ Some l
linked-place l slot lt = elim (eqb_tells (place_of l) 4294967295) [
  | inl p ↦ let is = p.1 in absurd (omega arith)
  | inr p ↦ rw p.0 (ap (λ (x : Link). Some x) (same_link (place_of l / 2) (place_of l % 2) l (omega arith) (omega arith)))
]

pub linked_packed : (n : ℕ) → n < 4294967296 → IsPacked (linked n)
linked_packed n lt = elim (eqb_tells n 4294967295) [
  | inl p ↦ rw p.0 tt
  | inr p ↦ rw p.0 (let ne = p.1 in (omega arith, omega arith))
]

pub links-set : (numbers : List ℕ) (i n : ℕ) (o : Option Link) → linked n ≡ o → links_in (set numbers i n) ≡ set (links_in numbers) i o
links-set numbers i n o e = map-set (λ n. linked n) numbers i n ∙ ap (λ (x : Option Link). set (links_in numbers) i x) e

pub links-at : (numbers : List ℕ) (i d : ℕ) → i < length numbers → get_or (links_in numbers) i None ≡ linked (get_or numbers i d)
links-at numbers i d lt = get_or-map (λ n. linked n) numbers i d None lt

pub no_links : (n : ℕ) → links_in (replicate n 4294967295) ≡ replicate n None
no_links zero = refl
no_links (suc n) = ap (λ (ls : List (Option Link)). None ∷ ls) (no_links n)
