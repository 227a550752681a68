-- Where an annotation is missing, or is no type, there is no typing.
use Rattle.std.proofs.Common.{◌≡◌, ℕ, zero, suc, ◌<◌, inl, inr, List, [], ◌∷◌, ◌++◌, length, map, refl, sym, ◌∙◌, subst, arith, Some, None, slice_index_or}
use Rattle.std.specs.Prelude.{Contains}
use Rattle.std.proofs.lemmas.List.{length-map}
use Rattle.tla_meaning.specs.declared.expr.Decl.{Decl}
use Rattle.tla_meaning.specs.declared.job.Job.{Job}
use Rattle.tla_meaning.specs.declared.place.Place.{Place}
use Rattle.snowcat_rows.specs.Types.{Term}
use Rattle.snowcat_rows.specs.declared.types.Typed.{Typed}
use Rattle.snowcat_types.specs.Systems.{Annotations, parts_of}
use Rattle.snowcat_types.specs.Annotated.{Aliases, AreAnnotations, AreNameTypes, HasBadName, HasBadNote, IsBadAt, IsFirstWithout, IsLeastBad, IsNameType, all_notes}
use Rattle.snowcat_types.specs.Answers.{IsTypedAs}

some_is_no_none : {X : Type 0} → (x : X) → Some x ≡ None → ⊥
some_is_no_none x e = cc

-- the type of a name with others before it
name_behind : (aliases : Aliases) (front rest : List Decl) (d : Decl) (ts : List (Term × ℕ)) → AreNameTypes aliases (front ++ d ∷ rest) ts →
    (t : Term × ℕ) × IsNameType aliases d t
name_behind aliases [] rest d [] h = absurd h
name_behind aliases [] rest d (t ∷ ts) h = (t, h.0)
name_behind aliases (x ∷ front) rest d [] h = absurd h
name_behind aliases (x ∷ front) rest d (t ∷ ts) h = name_behind aliases front rest d ts h.1

name_at : (aliases : Aliases) (ds : List Decl) (ts : List (Term × ℕ)) (k : ℕ) (d : Decl) → AreNameTypes aliases ds ts → k < length ds →
    slice_index_or ds k d ≡ d → (t : Term × ℕ) × IsNameType aliases d t
name_at aliases [] ts k d h lt e = absurd (omega (arith, lt))
name_at aliases (x ∷ xs) [] k d h lt e = absurd h
name_at aliases (x ∷ xs) (t ∷ ts) zero d h lt e = let P : Decl → Type 0 = λ z. IsNameType aliases z t in (t, subst P e h.0)
name_at aliases (x ∷ xs) (t ∷ ts) (suc k) d h lt e = name_at aliases xs ts k d h.1 (omega (arith, lt)) e

-- of pairs one is there, so its first part is
first_at : {X : Type 0} → (xs : List (List ℕ × X)) (k : ℕ) (x : List ℕ × X) → slice_index_or (map (λ n. n.0) xs) k x.0 ≡ (slice_index_or xs k x).0
first_at [] k x = refl
first_at (y ∷ xs) zero x = refl
first_at (y ∷ xs) (suc k) x = first_at xs k x

pub first_stands : {X : Type 0} → (xs : List (List ℕ × X)) (x : List ℕ × X) → Contains xs x → Contains (map (λ n. n.0) xs) x.0
first_stands xs x (k, lt, e) =
    let n : length (map (λ n. n.0) xs) ≡ length xs = length-map xs (λ n. n.0) in
    (k, omega (arith, lt, n), first_at xs k x ∙ (λ i. (e i).0))

module _ (job : Job) (an : Annotations) (are : AreAnnotations job an) where
  no_missing : (x : List ℕ) (p : Place) → IsFirstWithout job x p → ⊥
  no_missing x p h =
      let P : List Decl → Type 0 = λ z. AreNameTypes job.aliases z an.declared in
      let t = name_behind job.aliases h.front h.rest h.decl an.declared (subst P h.names_are are.names) in
      some_is_no_none t.1.text (sym t.1.written ∙ h.none)

  no_bad_name : (p : Place) → HasBadName job p → ⊥
  no_bad_name p h =
      let t = name_at job.aliases job.names an.declared h.declared.0 h.decl are.names h.declared.1 h.declared.2 in h.bad t.0 t.1

  no_bad_note : (p : Place) → HasBadNote job p → ⊥
  no_bad_note p h = h.bad (an.noted h.text) (are.notes h.text (first_stands (all_notes (parts_of job)) (h.text, p) h.stands))

  no_bad : (p : Place) → IsBadAt job p → ⊥
  no_bad p (inl h) = no_bad_name p h
  no_bad p (inr h) = no_bad_note p h

pub missing_excludes : (job : Job) (t : Typed) (x : List ℕ) (p : Place) → IsTypedAs job t → IsFirstWithout job x p → ⊥
missing_excludes job t x p h g = no_missing job h.annotations h.are x p g

pub bad_excludes : (job : Job) (t : Typed) (p : Place) → IsTypedAs job t → IsLeastBad job p → ⊥
bad_excludes job t p h g = no_bad job h.annotations h.are p g.bad
