-- Types that are numbered together are the same types up to the numbers of their variables.
use Rattle.std.proofs.Common.{◌≡◌, ◌<◌, arith, ℕ, zero, suc, false, inl, inr, List, [], ◌∷◌, ◌++◌, map, length, refl, ap, sym, ◌∙◌, subst, Option, Some, None}
use Rattle.std.specs.Prelude.{bytes_eq, option_map}
use Rattle.std.specs.List.{flat_map}
use Rattle.std.proofs.lemmas.Bool.{cases_Bool}
use Rattle.snowcat_rows.specs.declared.types.Ty.{Ty, roll-Ty, Bool as BoolType, Int, Str, Named, Var, Set, Seq, Fun, Tup, Rec, Oper}
use Rattle.snowcat_rows.specs.declared.types.Ty.TheVariants.{rolls-Bool, rolls-Int, rolls-Str, rolls-Named, rolls-Var, rolls-Set, rolls-Seq, rolls-Fun, rolls-Tup, rolls-Rec, rolls-Oper}
use Rattle.snowcat_rows.specs.declared.types.Ty.TheOpen as layer
use Rattle.snowcat_rows.specs.declared.types.Ty.TheFolds.{ind-Ty, map-Ty}
use Rattle.snowcat_rows.specs.declared.occurrences.Unknown.{Unknown}
use Rattle.snowcat_rows.specs.declared.occurrences.Unknown.TheVariants as unknown
use Rattle.snowcat_rows.specs.Types.{Head, var, con, app, fields, some, lookup, row, mean, BoolHead, IntHead, StrHead, NamedHead, SetHead, SeqHead, FunHead, TupHead, OperHead}
use Rattle.snowcat_rows.specs.Codes.{named}
use Rattle.snowcat_rows.specs.Renamings.{renamed, renamed_slot}
use Rattle.snowcat_rows.specs.Numbered.{occurring, numbered, each_once, without, place, row_variable, same_variable, numbered_together, RenamedTogether}
use Rattle.snowcat_rows.proofs.Means.{mean-Bool, mean-Int, mean-Str, mean-Named, mean-Var, mean-Set, mean-Seq, mean-Fun, mean-Tup, mean-Rec, mean-Oper}
use Rattle.snowcat_rows.proofs.NumberedForms.{occurring-Var, occurring-Set, occurring-Seq, occurring-Fun, occurring-Tup, occurring-Rec, occurring-Oper, numbered-Bool, numbered-Int, numbered-Str, numbered-Named, numbered-Var, numbered-Set, numbered-Seq, numbered-Fun, numbered-Tup, numbered-Rec, numbered-Oper}
use Rattle.snowcat_rows.proofs.MeetingSteps.{same_is, same_self}

-- ---- one type is the other with its variables renamed, form by form

abbrev Alike : (ℕ → ℕ) → (ℕ → ℕ) → Ty → Ty → Type 0
Alike f g t u = mean t ≡ renamed f g (mean u)

abbrev AllAlike : (ℕ → ℕ) → (ℕ → ℕ) → List Ty → List Ty → Type 0
AllAlike f g ts us = row (map mean ts) ≡ renamed f g (row (map mean us))

module _ (f g : ℕ → ℕ) where
  alike_con : (t u : Ty) (h : Head) → mean t ≡ con h → mean u ≡ con h → Alike f g t u
  alike_con t u h d e = d ∙ ap (renamed f g) (sym e)

  alike_var : (n m : ℕ) → n ≡ f m → Alike f g (Var n) (Var m)
  alike_var n m h = mean-Var n ∙ ap (λ z. var z) h ∙ ap (renamed f g) (sym (mean-Var m))

  alike_set : (a b : Ty) → Alike f g a b → Alike f g (Set a) (Set b)
  alike_set a b h = mean-Set a ∙ ap (λ z. app (con SetHead) z) h ∙ ap (renamed f g) (sym (mean-Set b))

  alike_seq : (a b : Ty) → Alike f g a b → Alike f g (Seq a) (Seq b)
  alike_seq a b h = mean-Seq a ∙ ap (λ z. app (con SeqHead) z) h ∙ ap (renamed f g) (sym (mean-Seq b))

  alike_fun : (a b c d : Ty) → Alike f g a b → Alike f g c d → Alike f g (Fun a c) (Fun b d)
  alike_fun a b c d h k = mean-Fun a c ∙ (λ i. app (con FunHead) (app (h i) (k i))) ∙ ap (renamed f g) (sym (mean-Fun b d))

  alike_tup : (ts us : List Ty) → AllAlike f g ts us → Alike f g (Tup ts) (Tup us)
  alike_tup ts us h = mean-Tup ts ∙ ap (λ z. app (con TupHead) z) h ∙ ap (renamed f g) (sym (mean-Tup us))

  alike_oper : (ts us : List Ty) (c d : Ty) → AllAlike f g ts us → Alike f g c d → Alike f g (Oper ts c) (Oper us d)
  alike_oper ts us c d h k = mean-Oper ts c ∙ (λ i. app (con OperHead) (app (h i) (k i))) ∙ ap (renamed f g) (sym (mean-Oper us d))

  alike_rec : (fs gs : List (List ℕ × Ty)) (k j : Option ℕ) → ((n : List ℕ) → lookup (named fs) n ≡ renamed_slot f g (lookup (named gs) n)) →
      k ≡ option_map g j → Alike f g (Rec fs k) (Rec gs j)
  alike_rec fs gs k j h e = mean-Rec fs k ∙ (λ i. fields (λ n. h n i) (e i)) ∙ ap (renamed f g) (sym (mean-Rec gs j))

-- ---- a variable and its place

abbrev IsKnown : List Unknown → Unknown → Type 0
IsKnown vs v = place v vs < length vs

abbrev AllKnown : List Unknown → List Unknown → Type 0
AllKnown vs [] = Unit {0}
AllKnown vs (x ∷ xs) = IsKnown vs x × AllKnown vs xs

known_parts : (vs xs ys : List Unknown) → AllKnown vs (xs ++ ys) → AllKnown vs xs × AllKnown vs ys
known_parts vs [] ys h = (tt, h)
known_parts vs (x ∷ xs) ys h = let k = known_parts vs xs ys h.1 in ((h.0, k.0), k.1)

abbrev variable_at : List Unknown → ℕ → Unknown
variable_at [] i = unknown.Type 0
variable_at (v ∷ vs) zero = v
variable_at (v ∷ vs) (suc i) = variable_at vs i

variable_there : (v : Unknown) (vs : List Unknown) → IsKnown vs v → variable_at vs (place v vs) ≡ v
variable_there v [] h = absurd (omega (arith, h))
variable_there v (w ∷ ws) h = elim (cases_Bool (same_variable w v)) [
  | inl e ↦
      let m : place v (w ∷ ws) ≡ 0 = rw e refl in
      ap (λ z. variable_at (w ∷ ws) z) m ∙ same_is w v e
  | inr e ↦
      let m : place v (w ∷ ws) ≡ suc (place v ws) = rw e refl in
      ap (λ z. variable_at (w ∷ ws) z) m ∙ variable_there v ws (omega (arith, h, m))
]

abbrev number_of : Unknown → ℕ
number_of (unknown.Type n) = n
number_of (unknown.Row n) = n

abbrev type_place : List Unknown → ℕ → ℕ
type_place vs n = place (unknown.Type n) vs

abbrev row_place : List Unknown → ℕ → ℕ
row_place vs n = place (unknown.Row n) vs

abbrev back : List Unknown → ℕ → ℕ
back vs i = number_of (variable_at vs i)

-- ---- what is claimed of a type

record Claim (t : Ty) : Type 0 where
  there : (vs : List Unknown) → Alike (type_place vs) (row_place vs) (numbered vs t) t
  again : (vs : List Unknown) → AllKnown vs (occurring t) → Alike (back vs) (back vs) t (numbered vs t)

abbrev Such : Type 0
Such = (t : Ty) × Claim t

abbrev plain : Such → Ty
plain e = e.0

abbrev Field : Type 0
Field = List ℕ × Such

abbrev plain_fields : List Field → List (List ℕ × Ty)
plain_fields fs = map (λ p. (p.0, plain p.1)) fs

abbrev fields_numbered : List Unknown → List (List ℕ × Ty) → List (List ℕ × Ty)
fields_numbered vs fs = map (λ f. (f.0, numbered vs f.1)) fs

all_there : (vs : List Unknown) (ts : List Such) → AllAlike (type_place vs) (row_place vs) (map (numbered vs) (map plain ts)) (map plain ts)
all_there vs [] = refl
all_there vs (t ∷ ts) = λ i. app (t.1.there vs i) (all_there vs ts i)

all_again : (vs : List Unknown) (ts : List Such) → AllKnown vs (flat_map occurring (map plain ts)) →
    AllAlike (back vs) (back vs) (map plain ts) (map (numbered vs) (map plain ts))
all_again vs [] k = refl
all_again vs (t ∷ ts) k =
    let p = known_parts vs (occurring t.0) (flat_map occurring (map plain ts)) k in
    let first = t.1.again vs p.0 in
    let others = all_again vs ts p.1 in
    λ i. app (first i) (others i)

slots_there : (vs : List Unknown) (fs : List Field) (n : List ℕ) →
    lookup (named (fields_numbered vs (plain_fields fs))) n ≡ renamed_slot (type_place vs) (row_place vs) (lookup (named (plain_fields fs)) n)
slots_there vs [] n = refl
slots_there vs (f ∷ fs) n = elim (cases_Bool (bytes_eq f.0 n)) [
  | inl h ↦ rw h (ap (λ z. some z) (f.1.1.there vs))
  | inr h ↦ rw h (slots_there vs fs n)
]

slots_again : (vs : List Unknown) (fs : List Field) → AllKnown vs (flat_map (λ f. occurring f.1) (plain_fields fs)) → (n : List ℕ) →
    lookup (named (plain_fields fs)) n ≡ renamed_slot (back vs) (back vs) (lookup (named (fields_numbered vs (plain_fields fs))) n)
slots_again vs [] k n = refl
slots_again vs (f ∷ fs) k n =
    let p = known_parts vs (occurring f.1.0) (flat_map (λ f. occurring f.1) (plain_fields fs)) k in
    elim (cases_Bool (bytes_eq f.0 n)) [
      | inl h ↦ rw h (ap (λ z. some z) (f.1.1.again vs p.0))
      | inr h ↦ rw h (slots_again vs fs p.1 n)
    ]

end_again : (vs : List Unknown) (k : Option ℕ) → AllKnown vs (row_variable k) → k ≡ option_map (back vs) (option_map (row_place vs) k)
end_again vs None h = refl
end_again vs (Some r) h = ap (λ z. Some z) (sym (ap number_of (variable_there (unknown.Row r) vs h.0)))

-- ---- the forms

constant_claim : (t : Ty) (h : Head) → mean t ≡ con h → ((vs : List Unknown) → numbered vs t ≡ t) → Claim t
constant_claim t h e n = record {
  there = λ vs. alike_con (type_place vs) (row_place vs) (numbered vs t) t h (ap mean (n vs) ∙ e) e;
  again = λ vs k. alike_con (back vs) (back vs) t (numbered vs t) h e (ap mean (n vs) ∙ e);
}

-- by what the numbered type is, and which variables occur
claim_by : (t : Ty) (other : List Unknown → Ty) (inside : List Unknown) → ((vs : List Unknown) → numbered vs t ≡ other vs) → occurring t ≡ inside →
    ((vs : List Unknown) → Alike (type_place vs) (row_place vs) (other vs) t) →
    ((vs : List Unknown) → AllKnown vs inside → Alike (back vs) (back vs) t (other vs)) → Claim t
claim_by t other inside n o a b = record {
  there = λ vs. ap mean (n vs) ∙ a vs;
  again = λ vs k. let P : List Unknown → Type 0 = λ z. AllKnown vs z in b vs (subst P o k) ∙ ap (λ z. renamed (back vs) (back vs) (mean z)) (sym (n vs));
}

-- what is claimed of the type of a layer
abbrev Rolled : layer.Ty-F Such → Type 0
Rolled y = Claim (roll-Ty (map-Ty Such Ty plain y))

claim_at : (y : layer.Ty-F Such) → Rolled y
claim_at layer.Bool = subst Claim (sym rolls-Bool) (constant_claim BoolType BoolHead mean-Bool numbered-Bool)
claim_at layer.Int = subst Claim (sym rolls-Int) (constant_claim Int IntHead mean-Int numbered-Int)
claim_at layer.Str = subst Claim (sym rolls-Str) (constant_claim Str StrHead mean-Str numbered-Str)
claim_at (layer.Named x) = subst Claim (sym (rolls-Named x)) (constant_claim (Named x) (NamedHead x) (mean-Named x) (λ vs. numbered-Named vs x))
claim_at (layer.Var n) =
    subst Claim (sym (rolls-Var n)) (claim_by (Var n) (λ vs. Var (place (unknown.Type n) vs)) (unknown.Type n ∷ []) (λ vs. numbered-Var vs n) (occurring-Var n)
    (λ vs. alike_var (type_place vs) (row_place vs) (type_place vs n) n refl)
    (λ vs k. alike_var (back vs) (back vs) n (type_place vs n) (sym (ap number_of (variable_there (unknown.Type n) vs k.0)))))
claim_at (layer.Set a) =
    subst Claim (sym (rolls-Set a.0)) (claim_by (Set a.0) (λ vs. Set (numbered vs a.0)) (occurring a.0) (λ vs. numbered-Set vs a.0) (occurring-Set a.0)
    (λ vs. alike_set (type_place vs) (row_place vs) (numbered vs a.0) a.0 (a.1.there vs))
    (λ vs k. alike_set (back vs) (back vs) a.0 (numbered vs a.0) (a.1.again vs k)))
claim_at (layer.Seq a) =
    subst Claim (sym (rolls-Seq a.0)) (claim_by (Seq a.0) (λ vs. Seq (numbered vs a.0)) (occurring a.0) (λ vs. numbered-Seq vs a.0) (occurring-Seq a.0)
    (λ vs. alike_seq (type_place vs) (row_place vs) (numbered vs a.0) a.0 (a.1.there vs))
    (λ vs k. alike_seq (back vs) (back vs) a.0 (numbered vs a.0) (a.1.again vs k)))
claim_at (layer.Fun a c) =
    subst Claim (sym (rolls-Fun a.0 c.0)) (claim_by (Fun a.0 c.0) (λ vs. Fun (numbered vs a.0) (numbered vs c.0)) (occurring a.0 ++ occurring c.0)
    (λ vs. numbered-Fun vs a.0 c.0) (occurring-Fun a.0 c.0)
    (λ vs. alike_fun (type_place vs) (row_place vs) (numbered vs a.0) a.0 (numbered vs c.0) c.0 (a.1.there vs) (c.1.there vs))
    (λ vs k. let p = known_parts vs (occurring a.0) (occurring c.0) k in
    alike_fun (back vs) (back vs) a.0 (numbered vs a.0) c.0 (numbered vs c.0) (a.1.again vs p.0) (c.1.again vs p.1)))
claim_at (layer.Tup ts) =
    let us = map plain ts in
    subst Claim (sym (rolls-Tup us)) (claim_by (Tup us) (λ vs. Tup (map (numbered vs) us)) (flat_map occurring us) (λ vs. numbered-Tup vs us) (occurring-Tup us)
    (λ vs. alike_tup (type_place vs) (row_place vs) (map (numbered vs) us) us (all_there vs ts))
    (λ vs k. alike_tup (back vs) (back vs) us (map (numbered vs) us) (all_again vs ts k)))
claim_at (layer.Rec fs j) =
    let gs = plain_fields fs in
    let inside = flat_map (λ f. occurring f.1) gs in
    subst Claim (sym (rolls-Rec gs j)) (claim_by (Rec gs j) (λ vs. Rec (fields_numbered vs gs) (option_map (row_place vs) j)) (inside ++ row_variable j)
    (λ vs. numbered-Rec vs gs j) (occurring-Rec gs j)
    (λ vs. alike_rec (type_place vs) (row_place vs) (fields_numbered vs gs) gs (option_map (row_place vs) j) j (slots_there vs fs) refl)
    (λ vs k. let p = known_parts vs inside (row_variable j) k in
    alike_rec (back vs) (back vs) gs (fields_numbered vs gs) j (option_map (row_place vs) j) (slots_again vs fs p.0) (end_again vs j p.1)))
claim_at (layer.Oper ts c) =
    let us = map plain ts in
    subst Claim (sym (rolls-Oper us c.0)) (claim_by (Oper us c.0) (λ vs. Oper (map (numbered vs) us) (numbered vs c.0)) (flat_map occurring us ++ occurring c.0)
    (λ vs. numbered-Oper vs us c.0) (occurring-Oper us c.0)
    (λ vs. alike_oper (type_place vs) (row_place vs) (map (numbered vs) us) us (numbered vs c.0) c.0 (all_there vs ts) (c.1.there vs))
    (λ vs k. let p = known_parts vs (flat_map occurring us) (occurring c.0) k in
    alike_oper (back vs) (back vs) us (map (numbered vs) us) c.0 (numbered vs c.0) (all_again vs ts p.0) (c.1.again vs p.1)))

all_claims : (t : Ty) → Claim t
all_claims = ind-Ty Claim (λ x y is. subst Claim (ap roll-Ty is) (claim_at y))

-- ---- what occurs is known once it is listed

stays : (v x : Unknown) (ws : List Unknown) → same_variable v x ≡ false → IsKnown ws x → IsKnown (without v ws) x
stays v x [] h k = k
stays v x (w ∷ ws) h k = elim (cases_Bool (same_variable w x)) [
  | inl e ↦
      let f : same_variable v w ≡ false = ap (same_variable v) (same_is w x e) ∙ h in
      let m : without v (w ∷ ws) ≡ w ∷ without v ws = rw f refl in
      let p : place x (w ∷ without v ws) ≡ 0 = rw e refl in
      let P : List Unknown → Type 0 = λ z. IsKnown z x in
      let q : IsKnown (w ∷ without v ws) x = omega (arith, p) in
      subst P (sym m) q
  | inr e ↦
      let p : place x (w ∷ ws) ≡ suc (place x ws) = rw e refl in
      let i = stays v x ws h (omega (arith, p, k)) in
      elim (cases_Bool (same_variable v w)) [
        | inl f ↦
            let m : without v (w ∷ ws) ≡ without v ws = rw f refl in
            let P : List Unknown → Type 0 = λ z. IsKnown z x in
            subst P (sym m) i
        | inr f ↦
            let m : without v (w ∷ ws) ≡ w ∷ without v ws = rw f refl in
            let q : place x (w ∷ without v ws) ≡ suc (place x (without v ws)) = rw e refl in
            let P : List Unknown → Type 0 = λ z. IsKnown z x in
            let r : IsKnown (w ∷ without v ws) x = omega (arith, q, i) in
            subst P (sym m) r
      ]
]

kept : (v x : Unknown) (ws : List Unknown) → IsKnown ws x → IsKnown (v ∷ without v ws) x
kept v x ws k = elim (cases_Bool (same_variable v x)) [
  | inl e ↦ let p : place x (v ∷ without v ws) ≡ 0 = rw e refl in omega (arith, p)
  | inr e ↦
      let p : place x (v ∷ without v ws) ≡ suc (place x (without v ws)) = rw e refl in
      let i = stays v x ws e k in
      omega (arith, p, i)
]

all_kept : (v : Unknown) (ws xs : List Unknown) → AllKnown ws xs → AllKnown (v ∷ without v ws) xs
all_kept v ws [] h = tt
all_kept v ws (x ∷ xs) h = (kept v x ws h.0, all_kept v ws xs h.1)

once_known : (vs : List Unknown) → AllKnown (each_once vs) vs
once_known [] = tt
once_known (v ∷ vs) =
    let p : place v (v ∷ without v (each_once vs)) ≡ 0 = rw (same_self v) refl in
    (omega (arith, p), all_kept v (each_once vs) vs (once_known vs))

-- ---- the laws

pub numbered_there : (a b : Ty) → RenamedTogether (a, b) (numbered_together a b)
numbered_there a b =
    let vs = each_once (occurring a ++ occurring b) in
    (type_place vs, row_place vs, (all_claims a).there vs, (all_claims b).there vs)

pub numbered_again : (a b : Ty) → RenamedTogether (numbered_together a b) (a, b)
numbered_again a b =
    let all = occurring a ++ occurring b in
    let vs = each_once all in
    let p = known_parts vs (occurring a) (occurring b) (once_known all) in
    (back vs, back vs, (all_claims a).again vs p.0, (all_claims b).again vs p.1)
