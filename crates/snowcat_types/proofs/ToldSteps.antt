-- What is told of a whole job.
use Rattle.std.proofs.Common.{◌≡◌, ℕ, Bool, true, false, inl, inr, List, [], ◌∷◌, refl, ap, sym, ◌∙◌, subst, arith, Option, Some, None}
use Rattle.std.specs.Prelude.{All, Contains, option_map, if◌then◌else◌}
use Rattle.std.proofs.lemmas.Bool.{cases_Bool}
use Rattle.std.proofs.lemmas.List.Elements.{All-contains}
use Rattle.std.proofs.lemmas.Map.Text.{is_eq-slice_cmp}
use Rattle.std.proofs.lemmas.Slice.Eq.{bytes_eq-Decides}
use Rattle.tla_meaning.specs.Scopes.{same_text}
use Rattle.tla_meaning.specs.declared.expr.Decl.{Decl}
use Rattle.tla_meaning.specs.declared.job.Job.{Job}
use Rattle.tla_meaning.specs.declared.place.Place.{Place}
use Rattle.snowcat_rows.specs.declared.types.Ty.{Ty}
use Rattle.snowcat_rows.specs.Types.{mean}
use Rattle.snowcat_rows.specs.Readings.{Known, Knows}
use Rattle.snowcat_types.specs.Systems.{parts_of}
use Rattle.snowcat_types.specs.Annotated.{Aliases, AreAnnotations, AreNameTypes, IsAnnotated, IsBadAt, IsLeastBad, Says, all_notes}
use Rattle.snowcat_types.specs.inner.Built.{note_of}
use Rattle.snowcat_types.specs.declared.hearing.Heard.{Heard}
use Rattle.snowcat_types.specs.declared.names.Names.{Names}
use Rattle.snowcat_types.specs.inner.Gathered.{annotations_of, DeclaredNamed, NotesNamed, ToldNamed}
use Rattle.snowcat_types.specs.inner.Telling.{AreHeard, AreNamesRead, Heeds, IsBad, IsBadName, declared_of, texts}
use Rattle.snowcat_types.proofs.HearingSteps.{stands_cases, stands_first, stands_later, entry_of}
use Rattle.snowcat_types.proofs.Leasts.{least_same}

same_is : (x y : List ℕ) → same_text x y ≡ true → x ≡ y
same_is x y e = (bytes_eq-Decides x y).0 (sym (is_eq-slice_cmp x y) ∙ e)

same_itself : (x y : List ℕ) → x ≡ y → same_text x y ≡ true
same_itself x y e = is_eq-slice_cmp x y ∙ (bytes_eq-Decides x y).1 e

-- ---- what the first note of a text binds

first_is : (n : List ℕ × Option Ty) (ns : List (List ℕ × Option Ty)) (x : List ℕ) (b : Bool) → same_text x n.0 ≡ b →
    note_of (n ∷ ns) x ≡ (if b then option_map mean n.1 else note_of ns x)
first_is n ns x b e = ap (λ z. if z then option_map mean n.1 else note_of ns x) e

note_says : (al : Aliases) (known : List (List ℕ × Option Ty)) (x : List ℕ) →
    ((n : List ℕ × Option Ty) → Contains known n → Says al n.0 (option_map mean n.1)) → Contains (texts known) x → Says al x (note_of known x)
note_says al [] x h (k, lt, e) = absurd (omega (arith, lt))
note_says al (n ∷ ns) x h i =
    elim (cases_Bool (same_text x n.0)) [
      | inl e ↦
          let P : List ℕ → Type 0 = λ z. Says al z (option_map mean n.1) in
          subst (Says al x) (sym (first_is n ns x true e)) (subst P (sym (same_is x n.0 e)) (h n (stands_first n ns)))
      | inr e ↦ subst (Says al x) (sym (first_is n ns x false e)) (note_says al ns x (λ m j. h m (stands_later n m ns j)) (later n ns x e i))
    ]
  where
    later : (n : List ℕ × Option Ty) (ns : List (List ℕ × Option Ty)) (x : List ℕ) → same_text x n.0 ≡ false →
        Contains (texts (n ∷ ns)) x → Contains (texts ns) x
    later n ns x e i =
        elim (stands_cases n.0 x (texts ns) i) [
          | inl same ↦ absurd (let f : true ≡ false = sym (same_itself x n.0 (sym same)) ∙ e in cc)
          | inr j ↦ j
        ]

note_unknown : (known : List (List ℕ × Option Ty)) (x : List ℕ) → (Contains (texts known) x → ⊥) → note_of known x ≡ None
note_unknown [] x never = refl
note_unknown (n ∷ ns) x never =
    elim (cases_Bool (same_text x n.0)) [
      | inl e ↦ absurd (let P : List ℕ → Type 0 = λ z. Contains (texts (n ∷ ns)) z in
          never (subst P (sym (same_is x n.0 e)) (stands_first n.0 (texts ns))))
      | inr e ↦ first_is n ns x false e ∙ note_unknown ns x (λ i. never (stands_later n.0 x (texts ns) i))
    ]

-- ---- the answers

module _ (job : Job) where
  no_bad_name : (known : List (List ℕ × Option Ty)) (q : Place) → AreHeard job.aliases job.names (all_notes (parts_of job)) known None →
      IsBadName job.aliases job.names q → ⊥
  no_bad_name known q h b = h.least q (inl b)

  name_types : (ts : List (Ty × ℕ)) (known : List (List ℕ × Option Ty)) (w : Option Place) → AreNamesRead job.aliases job.names ts w →
      AreHeard job.aliases job.names (all_notes (parts_of job)) known None → AreNameTypes job.aliases job.names (declared_of ts)
  name_types ts known None r h = r.types refl
  name_types ts known (Some q) r h = absurd (no_bad_name known q h r.least.0)

  told_is : (ts : List (Ty × ℕ)) (known : List (List ℕ × Option Ty)) (w : Option Place) → AreNamesRead job.aliases job.names ts w →
      AreHeard job.aliases job.names (all_notes (parts_of job)) known None →
      AreAnnotations job (record { declared = declared_of ts; noted = note_of known })
  told_is ts known w r h = record {
    names = name_types ts known w r h;
    notes = λ x i. note_says job.aliases known x (λ n j. (h.say n j).0) (h.met refl x i);
    others = λ x never. note_unknown known x (λ i.
        let n = entry_of known x i in
        let P : List ℕ → Type 0 = λ z. Contains (texts (all_notes (parts_of job))) z in
        never (subst P n.2 (h.say n.0 n.1).1));
  }

  is_bad : All IsAnnotated job.names → (p : Place) → IsBad job.aliases job.names (all_notes (parts_of job)) p → IsBadAt job p
  is_bad all p (inl (d, i, e, never)) =
      let annotated = All-contains IsAnnotated job.names d all i in
      inl (record { decl = d; declared = i; at_place = e; annotated = annotated; bad = never })
  is_bad all p (inr (x, i, never)) = inr (record { text = x; stands = i; bad = never })

  was_bad : (p : Place) → IsBadAt job p → IsBad job.aliases job.names (all_notes (parts_of job)) p
  was_bad p (inl h) = inl (h.decl, h.declared, h.at_place, h.bad)
  was_bad p (inr h) = inr (h.text, h.stands, h.bad)

  least_is : (known : List (List ℕ × Option Ty)) (q : Place) → All IsAnnotated job.names →
      AreHeard job.aliases job.names (all_notes (parts_of job)) known (Some q) → IsLeastBad job q
  least_is known q all h =
      let l = least_same (IsBad job.aliases job.names (all_notes (parts_of job))) (IsBadAt job) (Some q) h.least (is_bad all) was_bad in
      record { annotated = all; bad = l.0; least = l.1 }

module _ (job : Job) (ds : List Decl) (same : ds ≡ job.names) (k : Known) (knows : Knows [] job.aliases k) (names : Names) (heard : Heard)
    (read : (al : Aliases) → Knows [] al k → AreNamesRead al ds names.types.items names.worst)
    (heeds : Heeds k names.worst (all_notes (parts_of job)) heard) where
  names_read : AreNamesRead job.aliases job.names names.types.items names.worst
  names_read = let P : List Decl → Type 0 = λ z. AreNamesRead job.aliases z names.types.items names.worst in subst P same (read job.aliases knows)

  notes_heard : (v : Option Place) → heard.worst ≡ v → AreHeard job.aliases job.names (all_notes (parts_of job)) heard.known.items v
  notes_heard v e =
      let P : Option Place → Type 0 = λ z. AreHeard job.aliases job.names (all_notes (parts_of job)) heard.known.items z in
      subst P e (heeds job.aliases job.names knows names_read.least)

  pub bad_told : (p : Place) → All IsAnnotated job.names → heard.worst ≡ Some p → IsLeastBad job p
  bad_told p all e = least_is job heard.known.items p all (notes_heard (Some p) e)

  module _ (ts : List (Ty × ℕ)) (ns : List (List ℕ × Option Ty)) (are_types : ts ≡ names.types.items) (are_notes : ns ≡ heard.known.items) where
    pub all_told : heard.worst ≡ None → AreAnnotations job (annotations_of (record { declared = ts; notes = ns }))
    all_told e =
        let P : List (Ty × ℕ) → Type 0 = λ z. AreAnnotations job (record { declared = declared_of z; noted = note_of ns }) in
        let Q : List (List ℕ × Option Ty) → Type 0 =
        λ z. AreAnnotations job (record { declared = declared_of names.types.items; noted = note_of z }) in
        subst P (sym are_types)
        (subst Q (sym are_notes) (told_is job names.types.items heard.known.items names.worst names_read (notes_heard None e)))

    pub all_named : heard.worst ≡ None → ToldNamed (record { declared = ts; notes = ns })
    all_named e = record {
      declared = subst DeclaredNamed (sym are_types) names_read.named;
      notes = subst NotesNamed (sym are_notes) (notes_heard None e).named;
    }
