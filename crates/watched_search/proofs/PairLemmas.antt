use Rattle.std.proofs.Common.{◌≡◌, ◌≢◌, ℕ, ◌<◌, ◌⊎◌, inl, inr, List, [], ◌∷◌, ◌++◌, length, All, set, get_or, Option, Some, None, refl, sym, ◌∙◌, ap, subst, arith, length-set}
use Rattle.std.specs.Prelude.{Contains, AllPairs}
use Rattle.std.proofs.lemmas.Bool.{cases_eq, cases_lt}
use Rattle.std.proofs.lemmas.List.{get_or-set_same, get_or-set_other}
use Rattle.std.proofs.lemmas.List.Elements.{All-contains, Contains-append_left, Contains-get_or, Contains-push, Contains-push_cases}
use Rattle.std.proofs.lemmas.List.Quantifiers.{all_pairs_push}
use Rattle.sat_formula.specs.declared.lit.Lit.{Lit}
use Rattle.watch_chains.specs.declared.link.Link.{Link}
use Rattle.watch_chains.specs.Chains.{place_of}
use Rattle.watch_chains.specs.Watches.{list_at, IsSlot}
use Rattle.watched_search.specs.Codes.{code}
use Rattle.watched_search.specs.Searching.{clause_at}
use Rattle.watched_search.specs.inner.Keeping.{Watched, slot_of, other_of, watch_at, IsPairOf, IsPaired}
use Rattle.watched_search.proofs.CodeLemmas.{code-same, code-below}

pub some_same : (a b : Lit) → Some a ≡ Some b → a ≡ b
some_same a b e = cc

pub none_not_some : (l : Lit) → Some l ≡ None → ⊥
none_not_some l e = cc

-- slots and their places

Link-same : (k m : Link) → k.clause ≡ m.clause → k.slot ≡ m.slot → k ≡ m
Link-same k m c s =
    let p : k ≡ record { clause = m.clause; slot = k.slot } = ap (λ (n : ℕ). record { clause = n; slot = k.slot }) c in
    let q : record { clause = m.clause; slot = k.slot } ≡ m = ap (λ (n : ℕ). record { clause = m.clause; slot = n }) s in
    p ∙ q

pub place-same : (k m : Link) → k.slot < 2 → m.slot < 2 → place_of k ≡ place_of m → k ≡ m
place-same k m sk sm e = Link-same k m (omega arith) (omega arith)

pub slot_cases : (s : ℕ) → s < 2 → (s ≡ 0) ⊎ (s ≡ 1)
slot_cases s lt = elim (cases_lt s 1) [ inl z ↦ inl (omega arith) | inr o ↦ inr (omega arith) ]

-- the lists after a link was put to the end of one

abbrev pub linked_at : List (List Link) → ℕ → Link → List (List Link)
linked_at lists y k = set lists y (list_at lists y ++ k ∷ [])

pub linked-cases : (lists : List (List Link)) (y z : ℕ) (k m : Link) → y < length lists → Contains (list_at (linked_at lists y k) z) m
    → ((z ≡ y) × (k ≡ m)) ⊎ Contains (list_at lists z) m
linked-cases lists y z k m lt has = elim (cases_eq z y) [
  | inl here ↦
      (let at : list_at (linked_at lists y k) z ≡ list_at lists y ++ k ∷ [] = ap (λ (i : ℕ). list_at (linked_at lists y k) i) here ∙ get_or-set_same lists y (list_at lists y ++ k ∷ []) [] lt in
      elim (Contains-push_cases (list_at lists y) k m (rw at at has)) [
        | inl old ↦ inr (subst (λ (i : ℕ). Contains (list_at lists i) m) (sym here) old)
        | inr e ↦ inl (here, e)
      ])
  | inr apart ↦ inr (rw (get_or-set_other lists y z (list_at lists y ++ k ∷ []) [] apart) at has)
]

pub linked-later : (lists : List (List Link)) (y z : ℕ) (k m : Link) → y < length lists → Contains (list_at lists z) m → Contains (list_at (linked_at lists y k) z) m
linked-later lists y z k m lt has = elim (cases_eq z y) [
  | inl here ↦
      (let at : list_at (linked_at lists y k) z ≡ list_at lists y ++ k ∷ [] = ap (λ (i : ℕ). list_at (linked_at lists y k) i) here ∙ get_or-set_same lists y (list_at lists y ++ k ∷ []) [] lt in
      rw at (Contains-append_left (list_at lists y) (k ∷ []) m (subst (λ (i : ℕ). Contains (list_at lists i) m) here has)))
  | inr apart ↦ rw (get_or-set_other lists y z (list_at lists y ++ k ∷ []) [] apart) has
]

pub linked-here : (lists : List (List Link)) (y : ℕ) (k : Link) → y < length lists → Contains (list_at (linked_at lists y k) y) k
linked-here lists y k lt = rw (get_or-set_same lists y (list_at lists y ++ k ∷ []) [] lt) (Contains-push (list_at lists y) k)

-- no clause stands twice in one of these lists
abbrev pub Once : List Link → Type 0
Once list = AllPairs (λ a b. a.clause ≢ b.clause) list

pub linked-once : (lists : List (List Link)) (y z : ℕ) (k : Link) → y < length lists → Once (list_at lists z) → All (λ m. m.clause ≢ k.clause) (list_at lists y)
    → Once (list_at (linked_at lists y k) z)
linked-once lists y z k lt once apart = elim (cases_eq z y) [
  | inl here ↦
      (let at : list_at (linked_at lists y k) z ≡ list_at lists y ++ k ∷ [] = ap (λ (i : ℕ). list_at (linked_at lists y k) i) here ∙ get_or-set_same lists y (list_at lists y ++ k ∷ []) [] lt in
      rw at (all_pairs_push (λ a b. a.clause ≢ b.clause) (list_at lists y) k (subst (λ (i : ℕ). Once (list_at lists i)) here once) apart))
  | inr other ↦ rw (get_or-set_other lists y z (list_at lists y ++ k ∷ []) [] other) once
]

pub replaced-once : (lists : List (List Link)) (x z : ℕ) (list : List Link) → x < length lists → Once list → Once (list_at lists z) → Once (list_at (set lists x list) z)
replaced-once lists x z list lt left once = elim (cases_eq z x) [
  | inl here ↦
      (let at : list_at (set lists x list) z ≡ list = ap (λ (i : ℕ). list_at (set lists x list) i) here ∙ get_or-set_same lists x list [] lt in
      rw at left)
  | inr other ↦ rw (get_or-set_other lists x z list [] other) once
]

-- a list is replaced by one that lacks k alone
pub replaced-in : (lists : List (List Link)) (x z : ℕ) (list : List Link) (m : Link) → x < length lists → ((n : Link) → Contains list n → Contains (list_at lists x) n)
    → Contains (list_at (set lists x list) z) m → Contains (list_at lists z) m
replaced-in lists x z list m lt sub has = elim (cases_eq z x) [
  | inl here ↦
      (let at : list_at (set lists x list) z ≡ list = ap (λ (i : ℕ). list_at (set lists x list) i) here ∙ get_or-set_same lists x list [] lt in
      subst (λ (i : ℕ). Contains (list_at lists i) m) (sym here) (sub m (rw at at has)))
  | inr apart ↦ rw (get_or-set_other lists x z list [] apart) at has
]

pub in-replaced : (lists : List (List Link)) (x z : ℕ) (list : List Link) (k m : Link) → x < length lists → ((n : Link) → Contains (list_at lists x) n → (n ≡ k) ⊎ Contains list n)
    → Contains (list_at lists z) m → (m ≡ k) ⊎ Contains (list_at (set lists x list) z) m
in-replaced lists x z list k m lt rest has = elim (cases_eq z x) [
  | inl here ↦
      (let at : list_at (set lists x list) z ≡ list = ap (λ (i : ℕ). list_at (set lists x list) i) here ∙ get_or-set_same lists x list [] lt in
      elim (rest m (subst (λ (i : ℕ). Contains (list_at lists i) m) here has)) [
        | inl e ↦ inl e
        | inr left ↦ inr (rw at left)
      ])
  | inr apart ↦ inr (rw (get_or-set_other lists x z list [] apart) has)
]

-- pairs

pub IsPairOf-same : (c : List Lit) (a b a' b' : Option Lit) → a ≡ a' → b ≡ b' → IsPairOf c a b → IsPairOf c a' b'
IsPairOf-same c a b a' b' ea eb h = subst (λ (o : Option Lit). IsPairOf c a' o) eb (subst (λ (o : Option Lit). IsPairOf c o b) ea h)

pair_first : (c : List Lit) (l v : Lit) (b : Option Lit) → IsPairOf c (Some l) b → Contains c v → ((m : Lit) → b ≡ Some m → v ≢ m) → IsPairOf c (Some v) b
pair_first c l v None h has apart = absurd h
pair_first c l v (Some m) h has apart = (has, h.1, apart m refl)

pair_second : (c : List Lit) (l v : Lit) (a : Option Lit) → IsPairOf c a (Some l) → Contains c v → ((m : Lit) → a ≡ Some m → v ≢ m) → IsPairOf c a (Some v)
pair_second c l v None h has apart = absurd h
pair_second c l v (Some m) h has apart = (h.0, has, λ e. apart m refl (sym e))

-- the literal in a slot is of the clause, and so is another one in its other slot
second_of : (c : List Lit) (l : Lit) (b : Option Lit) → IsPairOf c (Some l) b → (m : Lit) × (b ≡ Some m) × Contains c l × Contains c m × (l ≢ m)
second_of c l None h = absurd h
second_of c l (Some m) h = (m, refl, h.0, h.1, h.2)

first_of_pair : (c : List Lit) (l : Lit) (a : Option Lit) → IsPairOf c a (Some l) → (m : Lit) × (a ≡ Some m) × Contains c l × Contains c m × (l ≢ m)
first_of_pair c l None h = absurd h
first_of_pair c l (Some m) h = (m, refl, h.1, h.0, λ e. h.2 (sym e))

pub watch-place : (slots : List (Option Lit)) (k m : Link) → place_of k ≡ place_of m → watch_at slots k ≡ watch_at slots m
watch-place slots k m e = ap (λ (i : ℕ). get_or slots i None) e

pub pair_of : (w : Watched) (k : Link) (l : Lit) → IsPaired w → IsSlot (length w.clauses) k → watch_at w.slots k ≡ Some l
    → (m : Lit) × (watch_at w.slots (other_of k) ≡ Some m) × Contains (clause_at w.clauses k.clause) l × Contains (clause_at w.clauses k.clause) m × (l ≢ m)
pair_of w k l h s at =
    let c = k.clause in
    let pair = h.pairs c s.clause in
    elim (slot_cases k.slot s.slot) [
      | inl z ↦
          (let here : watch_at w.slots (slot_of c 0) ≡ Some l = watch-place w.slots (slot_of c 0) k (omega arith) ∙ at in
          let there : watch_at w.slots (other_of k) ≡ watch_at w.slots (slot_of c 1) = watch-place w.slots (other_of k) (slot_of c 1) (omega arith) in
          let p = second_of (clause_at w.clauses c) l (watch_at w.slots (slot_of c 1)) (IsPairOf-same (clause_at w.clauses c) (watch_at w.slots (slot_of c 0)) (watch_at w.slots (slot_of c 1)) (Some l) (watch_at w.slots (slot_of c 1)) here refl pair) in
          (p.0, there ∙ p.1, p.2, p.3, p.4))
      | inr o ↦
          (let here : watch_at w.slots (slot_of c 1) ≡ Some l = watch-place w.slots (slot_of c 1) k (omega arith) ∙ at in
          let there : watch_at w.slots (other_of k) ≡ watch_at w.slots (slot_of c 0) = watch-place w.slots (other_of k) (slot_of c 0) (omega arith) in
          let p = first_of_pair (clause_at w.clauses c) l (watch_at w.slots (slot_of c 0)) (IsPairOf-same (clause_at w.clauses c) (watch_at w.slots (slot_of c 0)) (watch_at w.slots (slot_of c 1)) (watch_at w.slots (slot_of c 0)) (Some l) refl here pair) in
          (p.0, there ∙ p.1, p.2, p.3, p.4))
    ]

-- another literal of the clause watches in a slot

moved_pair : (w : Watched) (k : Link) (l v : Lit) → IsPaired w → IsSlot (length w.clauses) k → watch_at w.slots k ≡ Some l → Contains (clause_at w.clauses k.clause) v
    → ((m : Lit) → watch_at w.slots (other_of k) ≡ Some m → v ≢ m) → (c : ℕ) → c < length w.clauses
    → IsPairOf (clause_at w.clauses c) (watch_at (set w.slots (place_of k) (Some v)) (slot_of c 0)) (watch_at (set w.slots (place_of k) (Some v)) (slot_of c 1))
moved_pair w k l v h s at has apart c lt =
    let clauses = s.clause in
    let slot = s.slot in
    let sized = h.slots in
    let within : place_of k < length w.slots = omega arith in
    let new = set w.slots (place_of k) (Some v) in
    let same : watch_at new k ≡ Some v = get_or-set_same w.slots (place_of k) (Some v) None within in
    elim (cases_eq c k.clause) [
      | inr other ↦
          IsPairOf-same (clause_at w.clauses c) (watch_at w.slots (slot_of c 0)) (watch_at w.slots (slot_of c 1)) (watch_at new (slot_of c 0)) (watch_at new (slot_of c 1))
          (sym (get_or-set_other w.slots (place_of k) (place_of (slot_of c 0)) (Some v) None (λ e. other (omega arith))))
          (sym (get_or-set_other w.slots (place_of k) (place_of (slot_of c 1)) (Some v) None (λ e. other (omega arith))))
          (h.pairs c lt)
      | inl here ↦ elim (slot_cases k.slot slot) [
        | inl z ↦
            (let first : watch_at w.slots (slot_of c 0) ≡ Some l = watch-place w.slots (slot_of c 0) k (omega arith) ∙ at in
            let there : watch_at w.slots (slot_of c 1) ≡ watch_at w.slots (other_of k) = watch-place w.slots (slot_of c 1) (other_of k) (omega arith) in
            let old = IsPairOf-same (clause_at w.clauses c) (watch_at w.slots (slot_of c 0)) (watch_at w.slots (slot_of c 1)) (Some l) (watch_at w.slots (slot_of c 1)) first refl (h.pairs c lt) in
            IsPairOf-same (clause_at w.clauses c) (Some v) (watch_at w.slots (slot_of c 1)) (watch_at new (slot_of c 0)) (watch_at new (slot_of c 1))
            (sym (watch-place new (slot_of c 0) k (omega arith) ∙ same))
            (sym (get_or-set_other w.slots (place_of k) (place_of (slot_of c 1)) (Some v) None (λ e. omega arith)))
            (pair_first (clause_at w.clauses c) l v (watch_at w.slots (slot_of c 1)) old (subst (λ (n : ℕ). Contains (clause_at w.clauses n) v) (sym here) has) (λ m e. apart m (sym there ∙ e))))
        | inr o ↦
            (let second : watch_at w.slots (slot_of c 1) ≡ Some l = watch-place w.slots (slot_of c 1) k (omega arith) ∙ at in
            let there : watch_at w.slots (slot_of c 0) ≡ watch_at w.slots (other_of k) = watch-place w.slots (slot_of c 0) (other_of k) (omega arith) in
            let old = IsPairOf-same (clause_at w.clauses c) (watch_at w.slots (slot_of c 0)) (watch_at w.slots (slot_of c 1)) (watch_at w.slots (slot_of c 0)) (Some l) refl second (h.pairs c lt) in
            IsPairOf-same (clause_at w.clauses c) (watch_at w.slots (slot_of c 0)) (Some v) (watch_at new (slot_of c 0)) (watch_at new (slot_of c 1))
            (sym (get_or-set_other w.slots (place_of k) (place_of (slot_of c 0)) (Some v) None (λ e. omega arith)))
            (sym (watch-place new (slot_of c 1) k (omega arith) ∙ same))
            (pair_second (clause_at w.clauses c) l v (watch_at w.slots (slot_of c 0)) old (subst (λ (n : ℕ). Contains (clause_at w.clauses n) v) (sym here) has) (λ m e. apart m (sym there ∙ e))))
      ]
    ]

-- the chains after a link went from one to another
abbrev pub moved_chains : List (List Link) → Lit → List Link → Lit → Link → List (List Link)
moved_chains chains l list v k = linked_at (set chains (code l) list) (code v) k

-- a literal that watches in neither slot of a clause does not have it in its list
pub clause_apart : (w : Watched) (k m : Link) (l v : Lit) → IsPaired w → v.var < w.vars → IsSlot (length w.clauses) k → watch_at w.slots k ≡ Some l → v ≢ l
    → ((u : Lit) → watch_at w.slots (other_of k) ≡ Some u → v ≢ u) → Contains (list_at w.chains (code v)) m → m.clause ≢ k.clause
clause_apart w k m l v h bv s at other apart has e =
    let p = h.stands m v bv has in
    let ns = p.0 in
    let slot = s.slot in
    let slot' = ns.slot in
    elim (cases_eq m.slot k.slot) [
      | inl same ↦
          (let it : m ≡ k = place-same m k slot' slot (omega arith) in
          other (some_same v l (sym p.1 ∙ ap (λ (n : Link). watch_at w.slots n) it ∙ at)))
      | inr differs ↦ apart v (watch-place w.slots (other_of k) m (omega arith) ∙ p.1) refl
    ]

pub IsPaired-move : (w : Watched) (k : Link) (l v : Lit) (list : List Link) → IsPaired w → l.var < w.vars → v.var < w.vars → IsSlot (length w.clauses) k
    → watch_at w.slots k ≡ Some l → Contains (clause_at w.clauses k.clause) v → v ≢ l → ((m : Lit) → watch_at w.slots (other_of k) ≡ Some m → v ≢ m)
    → Once list → All (λ m. m.clause ≢ k.clause) list → ((n : Link) → Contains list n → Contains (list_at w.chains (code l)) n)
    → ((n : Link) → Contains (list_at w.chains (code l)) n → (n ≡ k) ⊎ Contains list n)
    → IsPaired (record w { slots = set w.slots (place_of k) (Some v); chains = moved_chains w.chains l list v k })
IsPaired-move w k l v list h bl bv s at has differs apart once gone sub rest =
    let clause = s.clause in
    let slot = s.slot in
    let sized = h.slots in
    let codes = h.codes in
    let cl = code-below l w.vars bl in
    let cv = code-below v w.vars bv in
    let lt : code l < length w.chains = omega arith in
    let one = set w.chains (code l) list in
    let long : length one ≡ length w.chains = length-set w.chains (code l) list in
    let into : code v < length one = omega arith in
    let within : place_of k < length w.slots = omega arith in
    record {
      codes = length-set one (code v) (list_at one (code v) ++ k ∷ []) ∙ long ∙ codes;
      slots = length-set w.slots (place_of k) (Some v) ∙ sized;
      names = h.names;
      pairs = moved_pair w k l v h s at has apart;
      stands = λ m u bu in'. elim (linked-cases one (code v) (code u) k m into in') [
        | inl here ↦
            (let same : u ≡ v = code-same u v here.0 in
            let it : k ≡ m = here.1 in (
              subst (λ (n : Link). IsSlot (length w.clauses) n) it s,
              watch-place (set w.slots (place_of k) (Some v)) m k (ap place_of (sym it)) ∙ get_or-set_same w.slots (place_of k) (Some v) None within ∙ ap (λ (x : Lit). Some x) (sym same),
            ))
        | inr old ↦
            (let was = h.stands m u bu (replaced-in w.chains (code l) (code u) list m lt sub old) in
            let ns = was.0 in
            let apart' : place_of m ≡ place_of k → ⊥ = λ e.
            let it : m ≡ k = place-same m k ns.slot slot e in
            let same : u ≡ l = some_same u l (sym was.1 ∙ ap (λ (n : Link). watch_at w.slots n) it ∙ at) in
            let in' : Contains list m = rw (get_or-set_same w.chains (code l) list [] lt) at (subst (λ (x : Lit). Contains (list_at one (code x)) m) same old) in
            All-contains (λ n. n.clause ≢ k.clause) list m gone in' (ap (λ (n : Link). n.clause) it) in
            (was.0, get_or-set_other w.slots (place_of k) (place_of m) (Some v) None apart' ∙ was.1))
      ];
      linked = λ m u ms is. elim (cases_eq (place_of m) (place_of k)) [
        | inl here ↦
            (let it : m ≡ k = place-same m k ms.slot slot here in
            let same : v ≡ u = some_same v u (sym (watch-place (set w.slots (place_of k) (Some v)) m k here ∙ get_or-set_same w.slots (place_of k) (Some v) None within) ∙ is) in
            subst (λ (n : Link). Contains (list_at (linked_at one (code v) k) (code u)) n) (sym it)
            (subst (λ (x : Lit). Contains (list_at (linked_at one (code v) k) (code x)) k) same (linked-here one (code v) k into)))
        | inr other ↦
            (let old = h.linked m u ms (sym (get_or-set_other w.slots (place_of k) (place_of m) (Some v) None other) ∙ is) in
            elim (in-replaced w.chains (code l) (code u) list k m lt rest old) [
              | inl it ↦ absurd (other (ap place_of it))
              | inr left ↦ linked-later one (code v) (code u) k m into left
            ])
      ];
      once = λ u bu. linked-once one (code v) (code u) k into (replaced-once w.chains (code l) (code u) list lt once (h.once u bu))
          (rw (get_or-set_other w.chains (code l) (code v) list [] (λ e. differs (code-same v l e)))
          (λ j d within. clause_apart w k (get_or (list_at w.chains (code v)) j d) l v h bv s at differs apart (Contains-get_or (list_at w.chains (code v)) j d within)));
    }
