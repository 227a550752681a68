use Rattle.std.proofs.Common.{◌≡◌, ◌≢◌, ℕ, ◌+◌, ◌<◌, ◌↔◌, ◌⊎◌, inl, inr, Bool, true, false, not, List, [], ◌∷◌, ◌++◌, length, set, take, Option, Some, None, get_or, refl, sym, ◌∙◌, ap, subst, arith, length-set, cond}
use Rattle.std.specs.Prelude.{Contains, count_by, is_none}
use Rattle.std.proofs.lemmas.Bool.{cases_eq, cases_lt}
use Rattle.std.proofs.lemmas.List.{get_or_default, get_or-set_same, get_or-set_other, get_or_append_left, get_or_push, length_push, length-map, get_or-map, get_or-take, length-take, take-append-le, map-append}
use Rattle.std.proofs.lemmas.List.Quantifiers.{all_pairs_push}
use Rattle.std.proofs.lemmas.List.Sums.{sum_by-set}
use Rattle.std.proofs.lemmas.List.Elements.{All-push, All-contains, Contains-get_or, Contains-append_left, Contains-push, Contains-push_cases}
use Rattle.sat_formula.specs.declared.lit.Lit.{Lit}
use Rattle.sat_formula.specs.Lit.{IsBelow}
use Rattle.refutation_checker.specs.Marks.{TellsValue}
use Rattle.refutation_checker.specs.Follows.{negation}
use Rattle.refutation_checker.proofs.TrailLemmas.{Lit-same, told, not_not}
use Rattle.watched_search.specs.declared.entry.Entry.{Entry}
use Rattle.watched_search.specs.Trail.{lits_of, IsFree, IsPlaceOf}
use Rattle.watched_search.specs.inner.Tables.{Marks, Marked, Placed, Tabled}

pub lits-append : (xs ys : List Entry) → lits_of (xs ++ ys) ≡ lits_of xs ++ lits_of ys
lits-append xs ys = map-append (λ (e : Entry). e.lit) xs ys

some≢none : (b : Bool) (A : Type 0) → None ≡ Some b → A
some≢none b A e = cc

pub not_itself : (b : Bool) → b ≡ not b → ⊥
not_itself true e = cc
not_itself false e = cc

-- the mark of a literal's variable tells its value
tells : (m : Option Bool) (lits : List Lit) (v : ℕ) (n : Bool)
    → ((m ≡ Some (not n)) ↔ Contains lits (record { var = v; neg = n }))
    → ((m ≡ Some (not (not n))) ↔ Contains lits (record { var = v; neg = not n }))
    → TellsValue lits (record { var = v; neg = n }) (told m n)
tells None lits v n p q = (λ h. some≢none (not n) ⊥ (p.1 h), λ h. some≢none (not (not n)) ⊥ (q.1 h))
tells (Some true) lits v true p q = (λ h. let e : Some true ≡ Some false = p.1 h in cc, q.0 refl)
tells (Some true) lits v false p q = (p.0 refl, λ h. let e : Some true ≡ Some false = q.1 h in cc)
tells (Some false) lits v true p q = (p.0 refl, λ h. let e : Some false ≡ Some true = q.1 h in cc)
tells (Some false) lits v false p q = (λ h. let e : Some false ≡ Some true = p.1 h in cc, q.0 refl)

pub TellsValue-read : (marks : List (Option Bool)) (lits : List Lit) (l : Lit) (m : Option Bool) → Marks marks lits → l.var < length marks
    → get_or marks l.var None ≡ m → TellsValue lits l (told m l.neg)
TellsValue-read marks lits l m h lt e = subst (λ (o : Option Bool). TellsValue lits l (told o l.neg)) e (tells (get_or marks l.var None) lits l.var l.neg (h.agree l lt) (h.agree (negation l) lt))

flip : (a b : Bool) → (a ≡ b → ⊥) → a ≡ not b
flip true true h = absurd (h refl)
flip true false h = refl
flip false true h = refl
flip false false h = absurd (h refl)

not_same : (a b : Bool) → not a ≡ not b → a ≡ b
not_same true true e = refl
not_same true false e = cc
not_same false true e = cc
not_same false false e = refl

cases_bool_eq : (a b : Bool) → (a ≡ b) ⊎ (a ≡ b → ⊥)
cases_bool_eq true true = inl refl
cases_bool_eq true false = inr (λ e. cc)
cases_bool_eq false true = inr (λ e. cc)
cases_bool_eq false false = inl refl

some_same : (a b : Bool) → Some a ≡ Some b → a ≡ b
some_same a b e = cc

pub Marks-push : (marks : List (Option Bool)) (lits : List Lit) (l : Lit) → Marks marks lits → l.var < length marks
    → (Contains lits (negation l) → ⊥) → Marks (set marks l.var (Some (not l.neg))) (lits ++ l ∷ [])
Marks-push marks lits l h lt free = record {
  within = rw (length-set marks l.var (Some (not l.neg))) (All-push (IsBelow (length marks)) lits l h.within lt);
  agree = λ m lm.
      let old : m.var < length marks = rw (length-set marks l.var (Some (not l.neg))) at lm in
      elim (cases_eq m.var l.var) [
        | inl v ↦
            (let here : get_or (set marks l.var (Some (not l.neg))) m.var None ≡ Some (not l.neg) = rw v (get_or-set_same marks l.var (Some (not l.neg)) None lt) in
            elim (cases_bool_eq m.neg l.neg) [
              | inl e ↦ (λ _. rw (Lit-same m l v e) (Contains-push lits l), λ _. here ∙ ap (λ (b : Bool). Some (not b)) (sym e))
              | inr ne ↦ (
                λ is. absurd (ne (sym (not_same _ _ (some_same _ _ (sym here ∙ is))))),
                λ has. elim (Contains-push_cases lits l m has) [
                  | inl was ↦ absurd (free (rw (sym (Lit-same m (negation l) v (flip m.neg l.neg ne))) was))
                  | inr same ↦ absurd (ne (ap (λ (x : Lit). x.neg) (sym same)))
                ],
              )
            ])
        | inr apart ↦
            (let there : get_or (set marks l.var (Some (not l.neg))) m.var None ≡ get_or marks m.var None = get_or-set_other marks l.var m.var (Some (not l.neg)) None apart in (
              λ is. Contains-append_left lits (l ∷ []) m ((h.agree m old).0 (sym there ∙ is)),
              λ has. there ∙ elim (Contains-push_cases lits l m has) [
                | inl was ↦ (h.agree m old).1 was
                | inr same ↦ absurd (apart (ap (λ (x : Lit). x.var) (sym same)))
              ],
            ))
      ];
}

-- a literal of the list is an entry's
pub entry_of : (es : List Entry) (l : Lit) (d : Entry) → Contains (lits_of es) l → (k : ℕ) × (k < length es) × ((get_or es k d).lit ≡ l)
entry_of es l d h =
    let lt : h.0 < length es = rw (length-map es (λ (e : Entry). e.lit)) at h.1 in
    (h.0, lt, sym (get_or-map (λ (e : Entry). e.lit) es h.0 d l lt) ∙ h.2)

pub lit_of-entry : (es : List Entry) (k : ℕ) (d : Entry) → k < length es → Contains (lits_of es) (get_or es k d).lit
lit_of-entry es k d lt =
    rw (← get_or-map (λ (e : Entry). e.lit) es k d d.lit lt) (Contains-get_or (lits_of es) k d.lit (rw (length-map es (λ (e : Entry). e.lit)) lt))

same_or_opposite_at : (m l : Lit) → m.var ≡ l.var → (a b : Bool) → m.neg ≡ a → l.neg ≡ b → (m ≡ l) ⊎ (m ≡ negation l)
same_or_opposite_at m l v true true e f = inl (Lit-same m l v (e ∙ sym f))
same_or_opposite_at m l v false false e f = inl (Lit-same m l v (e ∙ sym f))
same_or_opposite_at m l v true false e f = inr (Lit-same m (negation l) v (e ∙ ap not (sym f)))
same_or_opposite_at m l v false true e f = inr (Lit-same m (negation l) v (e ∙ ap not (sym f)))

pub same_or_opposite : (m l : Lit) → m.var ≡ l.var → (m ≡ l) ⊎ (m ≡ negation l)
same_or_opposite m l v = same_or_opposite_at m l v m.neg l.neg refl refl

-- no literal of a free variable is true
pub free_apart : (T : List Lit) (l m : Lit) → IsFree T l → Contains T m → m.var ≢ l.var
free_apart T l m free has = λ v. elim (same_or_opposite m l v) [
  | inl e ↦ free.0 (rw e at has)
  | inr e ↦ free.1 (rw e at has)
]

unmarked : (m : Option Bool) (n : Bool) → (m ≡ Some (not n) → ⊥) → (m ≡ Some (not (not n)) → ⊥) → m ≡ None
unmarked None n p q = refl
unmarked (Some true) true p q = absurd (q refl)
unmarked (Some true) false p q = absurd (p refl)
unmarked (Some false) true p q = absurd (p refl)
unmarked (Some false) false p q = absurd (q refl)

pub mark_none : (marks : List (Option Bool)) (T : List Lit) (l : Lit) → Marks marks T → l.var < length marks → IsFree T l → get_or marks l.var None ≡ None
mark_none marks T l h lt free = unmarked _ l.neg (λ e. free.0 ((h.agree l lt).0 e)) (λ e. free.1 ((h.agree (negation l) lt).0 e))

-- how many marks are free
count_after : (marks : List (Option Bool)) (v : ℕ) (b : Bool) → v < length marks → get_or marks v None ≡ None
    → count_by (λ m. is_none m) (set marks v (Some b)) + 1 ≡ count_by (λ m. is_none m) marks
count_after marks v b lt e =
    let s = sum_by-set (λ (m : Option Bool). cond (is_none m) 1 0) marks v (Some b) None lt in
    let t : count_by (λ m. is_none m) (set marks v (Some b)) + 1 ≡ count_by (λ m. is_none m) marks + 0 = rw e at s in
    omega arith

pub Marked-room : (marks : List (Option Bool)) (es : List Entry) (l : Lit) → Marked marks es → l.var < length marks → IsFree (lits_of es) l → length es < length marks
Marked-room marks es l h lt free =
    let c = count_after marks l.var true lt (mark_none marks (lits_of es) l h.agree lt free) in
    let d = h.counted in
    omega arith

pub Marked-push : (marks : List (Option Bool)) (es : List Entry) (e : Entry) → Marked marks es → e.lit.var < length marks → IsFree (lits_of es) e.lit
    → Marked (set marks e.lit.var (Some (not e.lit.neg))) (es ++ e ∷ [])
Marked-push marks es e h lt free = record {
  agree = rw (lits-append es (e ∷ [])) (Marks-push marks (lits_of es) e.lit h.agree lt free.1);
  distinct = all_pairs_push (λ a b. a.lit.var ≢ b.lit.var) es e h.distinct (λ k d at. free_apart (lits_of es) e.lit (get_or es k d).lit free (lit_of-entry es k d at));
  counted =
      let c = count_after marks e.lit.var (not e.lit.neg) lt (mark_none marks (lits_of es) e.lit h.agree lt free) in
      let d = h.counted in
      let size = length_push es e in
      let same = length-set marks e.lit.var (Some (not e.lit.neg)) in
      omega arith;
}

none_not_some : (b : Bool) → None ≡ Some b → ⊥
none_not_some b e = cc

count_before : (marks : List (Option Bool)) (v : ℕ) (b : Bool) → v < length marks → get_or marks v None ≡ Some b
    → count_by (λ m. is_none m) (set marks v None) ≡ count_by (λ m. is_none m) marks + 1
count_before marks v b lt e =
    let s = sum_by-set (λ (m : Option Bool). cond (is_none m) 1 0) marks v None None lt in
    let t : count_by (λ m. is_none m) (set marks v None) + 0 ≡ count_by (λ m. is_none m) marks + 1 = rw e at s in
    omega arith

pub Marked-pop : (marks : List (Option Bool)) (es : List Entry) (e : Entry) → Marked marks (es ++ e ∷ []) → Marked (set marks e.lit.var None) es
Marked-pop marks es e h =
    let agree : Marks marks (lits_of es ++ e.lit ∷ []) = rw (lits-append es (e ∷ [])) at h.agree in
    let lt : e.lit.var < length marks = All-contains (IsBelow (length marks)) (lits_of es ++ e.lit ∷ []) e.lit agree.within (Contains-push (lits_of es) e.lit) in
    let size = length_push es e in
    let same = length-set marks e.lit.var None in
    record {
      agree = record {
        within = λ k d at.
            let at' : k < length (lits_of es ++ e.lit ∷ []) = let s = length_push (lits_of es) e.lit in omega arith in
            let old = agree.within k d at' in
            rw (same) (rw (get_or_append_left (lits_of es) (e.lit ∷ []) d k at) at old);
        agree = λ m lm.
            let old : m.var < length marks = rw same at lm in
            elim (cases_eq m.var e.lit.var) [
              | inl v ↦
                  (let here : get_or (set marks e.lit.var None) m.var None ≡ None = rw v (get_or-set_same marks e.lit.var None None lt) in (
                    λ is. absurd (none_not_some (not m.neg) (sym here ∙ is)),
                    λ has.
                        let i = entry_of es m e has in
                        let below : i.0 < length (es ++ e ∷ []) = omega arith in
                        let differ = h.distinct i.0 (length es) e i.1 (omega arith) in
                        absurd ((rw (get_or_append_left es (e ∷ []) e i.0 i.1, get_or_push es e e (length es) refl, i.2) at differ) v),
                  ))
              | inr apart ↦
                  (let there : get_or (set marks e.lit.var None) m.var None ≡ get_or marks m.var None = get_or-set_other marks e.lit.var m.var None None apart in (
                    λ is. elim (Contains-push_cases (lits_of es) e.lit m ((agree.agree m old).0 (sym there ∙ is))) [
                      | inl was ↦ was
                      | inr it ↦ absurd (apart (ap (λ (x : Lit). x.var) (sym it)))
                    ],
                    λ has. there ∙ (agree.agree m old).1 (Contains-append_left (lits_of es) (e.lit ∷ []) m has),
                  ))
            ];
      };
      distinct = λ i j d lt' at.
          let j' : j < length (es ++ e ∷ []) = omega arith in
          rw (get_or_append_left es (e ∷ []) d i (omega arith), get_or_append_left es (e ∷ []) d j at) at (h.distinct i j d lt' j');
      counted =
          let c = count_before marks e.lit.var (not e.lit.neg) lt ((agree.agree e.lit lt).1 (Contains-push (lits_of es) e.lit)) in
          let d = h.counted in
          omega arith;
    }

pub take-pop : (keep : ℕ) (es : List Entry) (e : Entry) → keep < length (es ++ e ∷ []) → take keep es ≡ take keep (es ++ e ∷ [])
take-pop keep es e lt = let s = length_push es e in sym (take-append-le keep es (e ∷ []) (omega arith))

-- what is read where no entry stands
abbrev pub no_entry : Entry
no_entry = record { lit = record { var = 0; neg = false }; reason = None }

-- the places of a trail with one entry more
pub Placed-push : (marks : List (Option Bool)) (places : List ℕ) (es : List Entry) (e : Entry) → Tabled marks places es → e.lit.var < length marks → IsFree (lits_of es) e.lit
    → Placed (set places e.lit.var (length es)) (es ++ e ∷ [])
Placed-push marks places es e h lt free = λ k below d.
    let size = length_push es e in
    let sized : length places ≡ length marks = h.sized in
    elim (cases_lt k (length es)) [
      | inl older ↦
          (let apart : (get_or es k d).lit.var ≢ e.lit.var = free_apart (lits_of es) e.lit (get_or es k d).lit free (lit_of-entry es k d older) in
          rw (get_or_append_left es (e ∷ []) d k older) (get_or-set_other places e.lit.var (get_or es k d).lit.var (length es) 0 apart ∙ h.placed k older d))
      | inr ge ↦
          (let last : length es ≡ k = omega arith in
          rw (get_or_push es e d k last) (get_or-set_same places e.lit.var (length es) 0 (omega arith) ∙ last))
    ]

-- the first entries keep their places
pub Placed-take : (places : List ℕ) (es : List Entry) (keep : ℕ) → Placed places es → Placed places (take keep es)
Placed-take places es keep h = λ k lt d.
    let size = length-take keep es in
    rw (get_or-take keep es k d (omega arith)) (h k (omega arith) d)

-- the place of a variable with a value
pub place_found : (marks : List (Option Bool)) (places : List ℕ) (es : List Entry) (v : ℕ) (b : Bool) → Tabled marks places es → v < length marks
    → get_or marks v None ≡ Some b → IsPlaceOf es v (Some (get_or places v 0))
place_found marks places es v b h lt e =
    let l : Lit = record { var = v; neg = not b } in
    let has : Contains (lits_of es) l = (h.marked.agree.agree l lt).0 (e ∙ ap (λ (x : Bool). Some x) (sym (not_not b))) in
    let i = entry_of es l no_entry has in
    let here : get_or places v 0 ≡ i.0 = rw i.2 at (h.placed i.0 i.1 no_entry) in
    rw here (i.1, λ d. ap (λ (e : Entry). e.lit.var) (get_or_default es i.0 d no_entry i.1) ∙ ap (λ (x : Lit). x.var) i.2)

-- and one without a value has no entry
pub place_none : (marks : List (Option Bool)) (T : List Entry) (v : ℕ) → Marks marks (lits_of T) → v < length marks → get_or marks v None ≡ None → IsPlaceOf T v None
place_none marks T v h lt e = λ k d at same.
    let m = (get_or T k d).lit in
    let told = (h.agree m (rw same lt)).1 (lit_of-entry T k d at) in
    none_not_some (not m.neg) (sym e ∙ ap (λ (x : ℕ). get_or marks x None) (sym same) ∙ told)
