use Rattle.std.proofs.Common.{◌≡◌, ◌≢◌, ℕ, ◌+◌, ◌<◌, ◌≤◌, inl, inr, List, [], ◌∷◌, ◌++◌, length, get_or, All, Option, Some, None, refl, sym, ◌∙◌, ap, subst, arith, length-set, append_assoc}
use Rattle.std.specs.Prelude.{Contains}
use Rattle.std.proofs.lemmas.Bool.{cases_lt}
use Rattle.std.proofs.lemmas.List.{get_or-set_other, get_or_append_left, get_or_push, length_push, length-append, get_or_past}
use Rattle.std.proofs.lemmas.List.Elements.{All-push, Contains-get_or}
use Rattle.sat_formula.specs.declared.lit.Lit.{Lit}
use Rattle.sat_formula.specs.Lit.{IsBelow}
use Rattle.watch_chains.specs.declared.link.Link.{Link}
use Rattle.watch_chains.specs.Chains.{place_of}
use Rattle.watch_chains.specs.Watches.{list_at, IsSlot}
use Rattle.watched_search.specs.declared.entry.Entry.{Entry}
use Rattle.watched_search.specs.Codes.{code}
use Rattle.watched_search.specs.Searching.{clause_at}
use Rattle.watched_search.specs.Watching.{HasTwo, WatchesTwo, IsWatched}
use Rattle.watched_search.specs.inner.Keeping.{Watched, slot_of, watch_at, IsPairOf, IsPaired}
use Rattle.watched_search.proofs.CodeLemmas.{code-same, code-below, below-code}
use Rattle.watched_search.proofs.PairLemmas.{slot_cases, place-same, linked_at, linked-cases, linked-later, linked-here, linked-once, IsPairOf-same, watch-place, some_same, none_not_some}

-- no list has a clause that is not there yet
pub fresh_apart : (w : Watched) (l : Lit) → IsPaired w → l.var < w.vars → All (λ m. m.clause ≢ length w.clauses) (list_at w.chains (code l))
fresh_apart w l h below = λ j d within e.
    let m = get_or (list_at w.chains (code l)) j d in
    let lt = (h.stands m l below (Contains-get_or (list_at w.chains (code l)) j d within)).0.clause in
    omega arith

-- what watches once two slots were added at the end

old_watch : (slots : List (Option Lit)) (a b : Option Lit) (k : Link) → place_of k < length slots → watch_at (slots ++ a ∷ b ∷ []) k ≡ watch_at slots k
old_watch slots a b k lt = get_or_append_left slots (a ∷ b ∷ []) None (place_of k) lt

two_pushed : (slots : List (Option Lit)) (a b : Option Lit) → slots ++ a ∷ b ∷ [] ≡ (slots ++ a ∷ []) ++ b ∷ []
two_pushed slots a b = sym (append_assoc slots (a ∷ []) (b ∷ []))

first_watch : (slots : List (Option Lit)) (a b : Option Lit) (k : Link) → place_of k ≡ length slots → watch_at (slots ++ a ∷ b ∷ []) k ≡ a
first_watch slots a b k e =
    let size = length_push slots a in
    ap (λ (xs : List (Option Lit)). get_or xs (place_of k) None) (two_pushed slots a b)
    ∙ get_or_append_left (slots ++ a ∷ []) (b ∷ []) None (place_of k) (omega arith)
    ∙ get_or_push slots a None (place_of k) (sym e)

second_watch : (slots : List (Option Lit)) (a b : Option Lit) (k : Link) → place_of k ≡ length slots + 1 → watch_at (slots ++ a ∷ b ∷ []) k ≡ b
second_watch slots a b k e =
    let size = length_push slots a in
    ap (λ (xs : List (Option Lit)). get_or xs (place_of k) None) (two_pushed slots a b)
    ∙ get_or_push (slots ++ a ∷ []) b None (place_of k) (omega arith)

more_slots : (slots : List (Option Lit)) (a b : Option Lit) → length (slots ++ a ∷ b ∷ []) ≡ length slots + 2
more_slots slots a b = length-append slots (a ∷ b ∷ [])

-- the pairs with one clause more
added_pairs : (w : Watched) (c : List Lit) (a b : Option Lit) → IsPaired w → IsPairOf c a b → (n : ℕ) → n < length (w.clauses ++ c ∷ [])
    → IsPairOf (clause_at (w.clauses ++ c ∷ []) n) (watch_at (w.slots ++ a ∷ b ∷ []) (slot_of n 0)) (watch_at (w.slots ++ a ∷ b ∷ []) (slot_of n 1))
added_pairs w c a b h pair n lt =
    let size = length_push w.clauses c in
    let sized = h.slots in
    elim (cases_lt n (length w.clauses)) [
      | inl old ↦
          rw (get_or_append_left w.clauses (c ∷ []) [] n old) (IsPairOf-same (clause_at w.clauses n) (watch_at w.slots (slot_of n 0)) (watch_at w.slots (slot_of n 1))
          (watch_at (w.slots ++ a ∷ b ∷ []) (slot_of n 0)) (watch_at (w.slots ++ a ∷ b ∷ []) (slot_of n 1))
          (sym (old_watch w.slots a b (slot_of n 0) (omega arith))) (sym (old_watch w.slots a b (slot_of n 1) (omega arith))) (h.pairs n old))
      | inr ge ↦
          rw (get_or_push w.clauses c [] n (omega arith)) (IsPairOf-same c a b
          (watch_at (w.slots ++ a ∷ b ∷ []) (slot_of n 0)) (watch_at (w.slots ++ a ∷ b ∷ []) (slot_of n 1))
          (sym (first_watch w.slots a b (slot_of n 0) (omega arith))) (sym (second_watch w.slots a b (slot_of n 1) (omega arith))) pair)
    ]

-- a clause without two different literals is added
pub IsPaired-add_short : (w : Watched) (c : List Lit) → IsPaired w → All (IsBelow w.vars) c → (HasTwo c → ⊥)
    → IsPaired (record w { clauses = w.clauses ++ c ∷ []; slots = w.slots ++ None ∷ None ∷ [] })
IsPaired-add_short w c h below short =
    let size = length_push w.clauses c in
    let sized = h.slots in
    let more = more_slots w.slots None None in
    record {
      codes = h.codes;
      slots = omega arith;
      names = All-push (λ (x : List Lit). All (IsBelow w.vars) x) w.clauses c h.names below;
      pairs = added_pairs w c None None h short;
      stands = λ k l bl has.
          let p = h.stands k l bl has in
          let clause = p.0.clause in
          let slot = p.0.slot in
          (record { clause = omega arith; slot = slot }, old_watch w.slots None None k (omega arith) ∙ p.1);
      linked = λ k l s is.
          let clause = s.clause in
          let slot = s.slot in
          elim (cases_lt k.clause (length w.clauses)) [
            | inl old ↦ h.linked k l (record { clause = old; slot = slot }) (sym (old_watch w.slots None None k (omega arith)) ∙ is)
            | inr ge ↦ elim (slot_cases k.slot slot) [
              | inl z ↦ absurd (none_not_some l (sym is ∙ first_watch w.slots None None k (omega arith)))
              | inr o ↦ absurd (none_not_some l (sym is ∙ second_watch w.slots None None k (omega arith)))
            ]
          ];
      once = h.once;
    }

-- the chains after both slots of a clause were linked
abbrev pub added_chains : List (List Link) → ℕ → Lit → Lit → List (List Link)
added_chains chains n a b = linked_at (linked_at chains (code a) (slot_of n 0)) (code b) (slot_of n 1)

-- a clause that two of its literals watch is added
pub IsPaired-add_long : (w : Watched) (c : List Lit) (a b : Lit) → IsPaired w → All (IsBelow w.vars) c → a.var < w.vars → b.var < w.vars → IsPairOf c (Some a) (Some b)
    → IsPaired (record w { clauses = w.clauses ++ c ∷ []; slots = w.slots ++ Some a ∷ Some b ∷ []; chains = added_chains w.chains (length w.clauses) a b })
IsPaired-add_long w c a b h below ba bb pair =
    let n = length w.clauses in
    let size = length_push w.clauses c in
    let sized = h.slots in
    let codes = h.codes in
    let more = more_slots w.slots (Some a) (Some b) in
    let ca = code-below a w.vars ba in
    let cb = code-below b w.vars bb in
    let one = linked_at w.chains (code a) (slot_of n 0) in
    let long = length-set w.chains (code a) (list_at w.chains (code a) ++ slot_of n 0 ∷ []) in
    let la : code a < length w.chains = omega arith in
    let lb : code b < length one = omega arith in
    record {
      codes = length-set one (code b) (list_at one (code b) ++ slot_of n 1 ∷ []) ∙ long ∙ codes;
      slots = omega arith;
      names = All-push (λ (x : List Lit). All (IsBelow w.vars) x) w.clauses c h.names below;
      pairs = added_pairs w c (Some a) (Some b) h pair;
      stands = λ k l bl has. elim (linked-cases one (code b) (code l) (slot_of n 1) k lb has) [
        | inl e ↦
            (let it = e.1 in
            let same : l ≡ b = code-same l b e.0 in (
              subst (λ (m : Link). IsSlot (length (w.clauses ++ c ∷ [])) m) it (record { clause = omega arith; slot = omega arith }),
              watch-place (w.slots ++ Some a ∷ Some b ∷ []) k (slot_of n 1) (ap place_of (sym it)) ∙ second_watch w.slots (Some a) (Some b) (slot_of n 1) (omega arith) ∙ ap (λ (x : Lit). Some x) (sym same),
            ))
        | inr rest ↦ elim (linked-cases w.chains (code a) (code l) (slot_of n 0) k la rest) [
          | inl e ↦
              (let it = e.1 in
              let same : l ≡ a = code-same l a e.0 in (
                subst (λ (m : Link). IsSlot (length (w.clauses ++ c ∷ [])) m) it (record { clause = omega arith; slot = omega arith }),
                watch-place (w.slots ++ Some a ∷ Some b ∷ []) k (slot_of n 0) (ap place_of (sym it)) ∙ first_watch w.slots (Some a) (Some b) (slot_of n 0) (omega arith) ∙ ap (λ (x : Lit). Some x) (sym same),
              ))
          | inr old ↦
              (let p = h.stands k l bl old in
              let clause = p.0.clause in
              let slot = p.0.slot in
              (record { clause = omega arith; slot = slot }, old_watch w.slots (Some a) (Some b) k (omega arith) ∙ p.1))
        ]
      ];
      linked = λ k l s is.
          let clause = s.clause in
          let slot = s.slot in
          elim (cases_lt k.clause n) [
            | inl old ↦
                linked-later one (code b) (code l) (slot_of n 1) k lb (linked-later w.chains (code a) (code l) (slot_of n 0) k la
                (h.linked k l (record { clause = old; slot = slot }) (sym (old_watch w.slots (Some a) (Some b) k (omega arith)) ∙ is)))
            | inr ge ↦ elim (slot_cases k.slot slot) [
              | inl z ↦
                  (let it : slot_of n 0 ≡ k = place-same (slot_of n 0) k (omega arith) slot (omega arith) in
                  let same : a ≡ l = some_same a l (sym (first_watch w.slots (Some a) (Some b) k (omega arith)) ∙ is) in
                  subst (λ (m : Link). Contains (list_at (linked_at one (code b) (slot_of n 1)) (code l)) m) it
                  (subst (λ (x : Lit). Contains (list_at (linked_at one (code b) (slot_of n 1)) (code x)) (slot_of n 0)) same
                  (linked-later one (code b) (code a) (slot_of n 1) (slot_of n 0) lb (linked-here w.chains (code a) (slot_of n 0) la))))
              | inr o ↦
                  (let it : slot_of n 1 ≡ k = place-same (slot_of n 1) k (omega arith) slot (omega arith) in
                  let same : b ≡ l = some_same b l (sym (second_watch w.slots (Some a) (Some b) k (omega arith)) ∙ is) in
                  subst (λ (m : Link). Contains (list_at (linked_at one (code b) (slot_of n 1)) (code l)) m) it
                  (subst (λ (x : Lit). Contains (list_at (linked_at one (code b) (slot_of n 1)) (code x)) (slot_of n 1)) same
                  (linked-here one (code b) (slot_of n 1) lb)))
            ]
          ];
      once = λ l bl. linked-once one (code b) (code l) (slot_of n 1) lb (linked-once w.chains (code a) (code l) (slot_of n 0) la (h.once l bl) (fresh_apart w a h ba))
          (rw (get_or-set_other w.chains (code a) (code b) (list_at w.chains (code a) ++ slot_of n 0 ∷ []) [] (λ e. pair.2 (sym (code-same b a e)))) (fresh_apart w b h bb));
    }

-- a clause of two different literals is watched by two

none_at : (chains : List (List Link)) (z : ℕ) (k : Link) → length chains ≤ z → Contains (list_at chains z) k → ⊥
none_at chains z k le has = let bad : has.0 < 0 = rw (get_or_past chains z [] le) at has.1 in omega arith

two_of : (w : Watched) (c : ℕ) (a b : Option Lit) → IsPaired w → c < length w.clauses → watch_at w.slots (slot_of c 0) ≡ a → watch_at w.slots (slot_of c 1) ≡ b
    → IsPairOf (clause_at w.clauses c) a b → HasTwo (clause_at w.clauses c) → WatchesTwo w.chains (clause_at w.clauses c) c
two_of w c None None h lt ea eb pair two = absurd (pair two)
two_of w c None (Some b) h lt ea eb pair two = absurd pair
two_of w c (Some a) None h lt ea eb pair two = absurd pair
two_of w c (Some a) (Some b) h lt ea eb pair two = (
  a,
  b,
  pair.0,
  pair.1,
  pair.2,
  (slot_of c 0, refl, h.linked (slot_of c 0) a (record { clause = lt; slot = omega arith }) ea),
  (slot_of c 1, refl, h.linked (slot_of c 1) b (record { clause = lt; slot = omega arith }) eb),
  λ l st.
      let k = st.0 in
      let here : k.clause ≡ c = st.1 in
      let codes = h.codes in
      elim (cases_lt (code l) (length w.chains)) [
        | inr ge ↦ absurd (none_at w.chains (code l) k (omega arith) st.2)
        | inl within ↦
            (let p = h.stands k l (below-code l w.vars (omega arith)) st.2 in
            elim (slot_cases k.slot p.0.slot) [
              | inl z ↦ inl (some_same l a (sym p.1 ∙ watch-place w.slots k (slot_of c 0) (omega arith) ∙ ea))
              | inr o ↦ inr (some_same l b (sym p.1 ∙ watch-place w.slots k (slot_of c 1) (omega arith) ∙ eb))
            ])
      ],
)

pub watched_of : (w : Watched) (es : List Entry) → IsPaired w → IsWatched (record { vars = w.vars; clauses = w.clauses; entries = es; chains = w.chains })
watched_of w es h = record {
  two = λ c lt two. two_of w c (watch_at w.slots (slot_of c 0)) (watch_at w.slots (slot_of c 1)) h lt refl refl (h.pairs c lt) two;
}
