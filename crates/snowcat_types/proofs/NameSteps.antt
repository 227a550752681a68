-- The steps of reading the annotations of declared names.
use Rattle.std.proofs.Common.{◌≡◌, ℕ, zero, suc, ◌+◌, ◌<◌, ◌≤◌, inl, inr, List, [], ◌∷◌, ◌++◌, length, get_or, take, drop, refl, ap, sym, ◌∙◌, subst, arith, Option, Some, None}
use Rattle.std.specs.Prelude.{All, is_some}
use Rattle.std.proofs.lemmas.List.{map-append, take_all}
use Rattle.std.proofs.lemmas.List.Elements.{All-more, Contains-append_left, Contains-push, Contains-push_cases}
use Rattle.tla_meaning.specs.declared.expr.Decl.{Decl}
use Rattle.tla_meaning.specs.declared.place.Place.{Place}
use Rattle.snowcat_rows.specs.declared.types.Ty.{Ty}
use Rattle.snowcat_rows.specs.Types.{Term, mean}
use Rattle.snowcat_types.specs.Annotated.{Aliases, annotation_of, AreNameTypes, IsAnnotated, IsNameType}
use Rattle.snowcat_types.specs.inner.Gathered.{DeclaredNamed, IsNamed}
use Rattle.snowcat_types.specs.inner.Telling.{AreNamesRead, IsBadName, IsNameRead, IsWithout, declared_of, earlier}
use Rattle.snowcat_types.proofs.Leasts.{least_new, least_same}

name_types_more : (al : Aliases) (ds : List Decl) (ts : List (Term × ℕ)) (d : Decl) (t : Term × ℕ) → AreNameTypes al ds ts → IsNameType al d t →
    AreNameTypes al (ds ++ d ∷ []) (ts ++ t ∷ [])
name_types_more al [] [] d t h g = (g, tt)
name_types_more al [] (u ∷ ts) d t h g = absurd h
name_types_more al (x ∷ ds) [] d t h g = absurd h
name_types_more al (x ∷ ds) (u ∷ ts) d t h g = (h.0, name_types_more al ds ts d t h.1 g)

named_more : (ts : List (Ty × ℕ)) (t : Ty × ℕ) → DeclaredNamed ts → IsNamed t.0 → DeclaredNamed (ts ++ t ∷ [])
named_more [] t h g = (g, tt)
named_more (u ∷ ts) t h g = (h.0, named_more ts t h.1 g)

bad_further : (al : Aliases) (ds : List Decl) (d : Decl) (p : Place) → IsBadName al ds p → IsBadName al (ds ++ d ∷ []) p
bad_further al ds d p (x, i, e, never) = (x, Contains-append_left ds (d ∷ []) x i, e, never)

some_no_none : {X : Type 0} → (x : X) → Some x ≡ None → ⊥
some_no_none x e = cc

pub no_names : (al : Aliases) → AreNamesRead al [] [] None
no_names al = record {
  types = λ e. tt;
  least = λ p (d, i, e, never). let lt = i.1 in omega (arith, lt);
  named = tt;
}

good_name : (al : Aliases) (ds : List Decl) (d : Decl) (ts us : List (Ty × ℕ)) (w v : Option Place) (t : Ty × ℕ) → AreNamesRead al ds ts w →
    IsNameType al d (mean t.0, t.1) → IsNamed t.0 → us ≡ ts ++ t ∷ [] → v ≡ w → AreNamesRead al (ds ++ d ∷ []) us v
good_name al ds d ts us w v t r h k e f =
    let P : Option Place → Type 0 = λ z. AreNamesRead al (ds ++ d ∷ []) us z in
    let Q : List (Ty × ℕ) → Type 0 = λ z. AreNamesRead al (ds ++ d ∷ []) z w in
    subst P (sym f) (subst Q (sym e) (record {
      types = λ n.
          let T : List (Term × ℕ) → Type 0 = λ z. AreNameTypes al (ds ++ d ∷ []) z in
          subst T (sym (map-append (λ x. (mean x.0, x.1)) ts (t ∷ []))) (name_types_more al ds (declared_of ts) d (mean t.0, t.1) (r.types n) h);
      least = least_same (IsBadName al ds) (IsBadName al (ds ++ d ∷ [])) w r.least (bad_further al ds d)
          (λ p (x, i, q, never). elim (Contains-push_cases ds d x i) [
            | inl j ↦ (x, j, q, never)
            | inr same ↦ absurd (let N : Decl → Type 0 = λ z. IsNameType al z (mean t.0, t.1) in never (mean t.0, t.1) (subst N same h))
          ]);
      named = named_more ts t r.named k;
    }))

bad_name : (al : Aliases) (ds : List Decl) (d : Decl) (ts us : List (Ty × ℕ)) (w v : Option Place) → AreNamesRead al ds ts w →
    ((t : Term × ℕ) → IsNameType al d t → ⊥) → us ≡ ts → v ≡ Some (earlier w d.place) → AreNamesRead al (ds ++ d ∷ []) us v
bad_name al ds d ts us w v r never e f =
    let P : Option Place → Type 0 = λ z. AreNamesRead al (ds ++ d ∷ []) us z in
    let Q : List (Ty × ℕ) → Type 0 = λ z. AreNamesRead al (ds ++ d ∷ []) z (Some (earlier w d.place)) in
    subst P (sym f) (subst Q (sym e) (record {
      types = λ n. absurd (some_no_none (earlier w d.place) n);
      least = least_new (IsBadName al ds) (IsBadName al (ds ++ d ∷ [])) w d.place r.least (d, Contains-push ds d, refl, never)
          (bad_further al ds d) (λ p (x, i, q, un). elim (Contains-push_cases ds d x i) [
            | inl j ↦ inl (x, j, q, un)
            | inr same ↦ inr (q ∙ ap (λ z. z.place) (sym same))
          ]);
      named = r.named;
    }))

pub read_good : (al : Aliases) (ds : List Decl) (d : Decl) (ts us : List (Ty × ℕ)) (w : Option Place) (o : Option (Ty × ℕ)) (t : Ty × ℕ) →
    AreNamesRead al ds ts w →
    IsNameRead al d o → o ≡ Some t → us ≡ ts ++ t ∷ [] → AreNamesRead al (ds ++ d ∷ []) us w
read_good al ds d ts us w o t r h is e =
    let k : IsNameRead al d (Some t) = subst (λ (z : Option (Ty × ℕ)). IsNameRead al d z) is h in
    good_name al ds d ts us w w t r k.0 k.1 e refl

pub read_bad : (al : Aliases) (ds : List Decl) (d : Decl) (ts : List (Ty × ℕ)) (w : Option Place) (o : Option (Ty × ℕ)) (p : Place) →
    AreNamesRead al ds ts w →
    IsNameRead al d o → o ≡ None → p ≡ earlier w d.place → AreNamesRead al (ds ++ d ∷ []) ts (Some p)
read_bad al ds d ts w o p r h is e =
    let k : IsNameRead al d None = subst (λ (z : Option (Ty × ℕ)). IsNameRead al d z) is h in
    bad_name al ds d ts ts w (Some p) r k refl (ap (λ z. Some z) e)

-- ---- the first name without an annotation

without_at : (ds : List Decl) (i : ℕ) (d : Decl) → i < length ds → d ≡ get_or ds i d → ds ≡ take i ds ++ d ∷ drop (suc i) ds
without_at [] i d lt e = absurd (omega (arith, lt))
without_at (x ∷ ds) zero d lt e = ap (λ z. z ∷ ds) (sym e)
without_at (x ∷ ds) (suc i) d lt e = ap (λ z. x ∷ z) (without_at ds i d (omega (arith, lt)) e)

module _ (ds : List Decl) (i : ℕ) where
  pub is_without : (d : Decl) (bytes : List ℕ) → i < length ds → d ≡ get_or ds i d → All IsAnnotated (take i ds) → bytes ≡ d.note →
      annotation_of bytes ≡ None → IsWithout ds d
  is_without d bytes lt e all b never = (take i ds, drop (suc i) ds, without_at ds i d lt e, all, ap annotation_of (sym b) ∙ never)

  pub annotated_more : (d : Decl) (bytes t : List ℕ) → i < length ds → d ≡ get_or ds i d → All IsAnnotated (take i ds) → bytes ≡ d.note →
      annotation_of bytes ≡ Some t → All IsAnnotated (take (i + 1) ds)
  annotated_more d bytes t lt e all b is =
      let there : IsAnnotated d = ap is_some (ap annotation_of (sym b) ∙ is) in
      All-more IsAnnotated ds i d lt all (subst IsAnnotated e there)

  pub annotated_all : length ds ≤ i → All IsAnnotated (take i ds) → All IsAnnotated ds
  annotated_all le all = let P : List Decl → Type 0 = λ z. All IsAnnotated z in subst P (take_all i ds le) all
