-- The marks of a type build what it says.
use Rattle.std.proofs.Common.{◌≡◌, ℕ, List, [], ◌∷◌, ◌++◌, refl, ap, sym, ◌∙◌, Option, Some, None, append_assoc}
use Rattle.std.proofs.lemmas.List.{append-nil}
use Rattle.snowcat_rows.specs.declared.marks.Mark.{Mark}
use Rattle.snowcat_rows.specs.declared.marks.Mark.TheVariants as mark
use Rattle.snowcat_rows.specs.declared.marks.Seen.{Seen}
use Rattle.snowcat_rows.specs.Types.{Term}
use Rattle.snowcat_rows.specs.TypeTexts.{Syntax, Syntaxes, Fields, bool, int, str, named, variable, alias, set, seq, function, tuple, record_of, constant, operator, parens, end, more, last, also, names_of}
use Rattle.snowcat_rows.specs.Readings.{Known, read, read_all, read_fields, unknown, unknown_all, unknown_fields, or_first}
use Rattle.snowcat_rows.specs.inner.Building.{Item, several, Site, site, push, built, built_all, unknown_mark, unknown_in}
use Rattle.snowcat_rows.specs.inner.Marks.{marked, more_marked, fields_marked}

pub built_more : (k : Known) (o : List Mark) (m : Mark) (s : Site) → built_all k (o ++ m ∷ []) s ≡ built k m (built_all k o s)
built_more k [] m s = refl
built_more k (n ∷ o) m s = built_more k o m (built k n s)

-- a mark behind others
then_mark : (k : Known) (o : List Mark) (m : Mark) (s t : Site) → built_all k o s ≡ t → built_all k (o ++ m ∷ []) s ≡ built k m t
then_mark k o m s t e = built_more k o m s ∙ ap (λ z. built k m z) e

mutual
  pub builds : (k : Known) (t : Syntax) (o : List Mark) (s u : Site) → built_all k o s ≡ u → built_all k (marked t o) s ≡ push (read k t u.seen) u.items
  builds k bool o s u e = then_mark k o mark.Bool s u e
  builds k int o s u e = then_mark k o mark.Int s u e
  builds k str o s u e = then_mark k o mark.Str s u e
  builds k (named x) o s u e = then_mark k o (mark.Named x) s u e
  builds k (variable x) o s u e = then_mark k o (mark.Var x) s u e
  builds k (alias x) o s u e = then_mark k o (mark.Alias x) s u e
  builds k (set t) o s u e = then_mark k (marked t o) mark.Set s _ (builds k t o s u e)
  builds k (seq t) o s u e = then_mark k (marked t o) mark.Seq s _ (builds k t o s u e)
  builds k (function t v) o s u e = then_mark k (marked v (marked t o)) mark.Function s _ (builds k v (marked t o) s _ (builds k t o s u e))
  builds k (tuple t ts) o s u e =
      let r = read k t u.seen in
      then_mark k (more_marked ts (marked t o ++ mark.One ∷ [])) mark.Tuple s _
      (more_builds k ts (marked t o ++ mark.One ∷ []) s (r.0 ∷ []) u.items r.1 (then_mark k (marked t o) mark.One s _ (builds k t o s u e)))
  builds k (record_of n t fs j) o s u e =
      let r = read k t u.seen in
      then_mark k (fields_marked fs (marked t o ++ mark.One ∷ [])) (mark.Record (n ∷ names_of fs) j) s _
      (fields_build k fs (marked t o ++ mark.One ∷ []) s (r.0 ∷ []) u.items r.1 (then_mark k (marked t o) mark.One s _ (builds k t o s u e)))
  builds k (constant t) o s u e =
      then_mark k (marked t (o ++ mark.Nothing ∷ [])) mark.Operator s _ (builds k t (o ++ mark.Nothing ∷ []) s _ (then_mark k o mark.Nothing s u e))
  builds k (operator t ts v) o s u e =
      let r = read k t u.seen in
      let p = more_marked ts (marked t o ++ mark.One ∷ []) in
      then_mark k (marked v p) mark.Operator s _ (builds k v p s _
      (more_builds k ts (marked t o ++ mark.One ∷ []) s (r.0 ∷ []) u.items r.1 (then_mark k (marked t o) mark.One s _ (builds k t o s u e))))
  builds k (parens t) o s u e = builds k t o s u e

  more_builds : (k : Known) (ts : Syntaxes) (o : List Mark) (s : Site) (xs : List Term) (is : List Item) (ns : List Seen) → built_all k o s ≡ site (several xs ∷ is) ns →
      built_all k (more_marked ts o) s ≡ site (several (xs ++ (read_all k ts ns).0) ∷ is) (read_all k ts ns).1
  more_builds k end o s xs is ns e = e ∙ ap (λ z. site (several z ∷ is) ns) (sym (append-nil xs))
  more_builds k (more t ts) o s xs is ns e =
      let r = read k t ns in
      more_builds k ts (marked t o ++ mark.Join ∷ []) s (xs ++ r.0 ∷ []) is r.1 (then_mark k (marked t o) mark.Join s _ (builds k t o s _ e))
      ∙ ap (λ z. site (several z ∷ is) (read_all k ts r.1).1) (append_assoc xs (r.0 ∷ []) (read_all k ts r.1).0)

  fields_build : (k : Known) (fs : Fields) (o : List Mark) (s : Site) (xs : List Term) (is : List Item) (ns : List Seen) → built_all k o s ≡ site (several xs ∷ is) ns →
      built_all k (fields_marked fs o) s ≡ site (several (xs ++ (read_fields k fs ns).0) ∷ is) (read_fields k fs ns).1
  fields_build k last o s xs is ns e = e ∙ ap (λ z. site (several z ∷ is) ns) (sym (append-nil xs))
  fields_build k (also n t fs) o s xs is ns e =
      let r = read k t ns in
      fields_build k fs (marked t o ++ mark.Join ∷ []) s (xs ++ r.0 ∷ []) is r.1 (then_mark k (marked t o) mark.Join s _ (builds k t o s _ e))
      ∙ ap (λ z. site (several z ∷ is) (read_fields k fs r.1).1) (append_assoc xs (r.0 ∷ []) (read_fields k fs r.1).0)

-- ---- aliases

or_none : (x : Option (List ℕ)) → or_first x None ≡ x
or_none None = refl
or_none (Some x) = refl

or_assoc : (x y z : Option (List ℕ)) → or_first (or_first x y) z ≡ or_first x (or_first y z)
or_assoc None y z = refl
or_assoc (Some x) y z = refl

pub unknown_more : (k : Known) (o : List Mark) (m : Mark) → unknown_in k (o ++ m ∷ []) ≡ or_first (unknown_in k o) (unknown_mark k m)
unknown_more k [] m = or_none (unknown_mark k m)
unknown_more k (n ∷ o) m = ap (λ z. or_first (unknown_mark k n) z) (unknown_more k o m) ∙ sym (or_assoc (unknown_mark k n) (unknown_in k o) (unknown_mark k m))

-- a mark that is no alias
plain_mark : (k : Known) (o : List Mark) (m : Mark) (x : Option (List ℕ)) → unknown_mark k m ≡ None → unknown_in k o ≡ x → unknown_in k (o ++ m ∷ []) ≡ x
plain_mark k o m x h e = unknown_more k o m ∙ ap (λ z. or_first (unknown_in k o) z) h ∙ or_none (unknown_in k o) ∙ e

list_unknowns : (k : Known) (t : Syntax) (ts : Syntaxes) (o : List Mark) → unknown_in k (marked t o) ≡ or_first (unknown_in k o) (unknown k t) →
    unknown_in k (more_marked ts (marked t o ++ mark.One ∷ [])) ≡ or_first (unknown_in k (marked t o ++ mark.One ∷ [])) (unknown_all k ts) →
    unknown_in k (more_marked ts (marked t o ++ mark.One ∷ [])) ≡ or_first (unknown_in k o) (or_first (unknown k t) (unknown_all k ts))
list_unknowns k t ts o h g =
    g ∙ ap (λ z. or_first z (unknown_all k ts)) (plain_mark k (marked t o) mark.One _ refl h) ∙ or_assoc (unknown_in k o) (unknown k t) (unknown_all k ts)

mutual
  pub unknowns : (k : Known) (t : Syntax) (o : List Mark) → unknown_in k (marked t o) ≡ or_first (unknown_in k o) (unknown k t)
  unknowns k bool o = unknown_more k o mark.Bool
  unknowns k int o = unknown_more k o mark.Int
  unknowns k str o = unknown_more k o mark.Str
  unknowns k (named x) o = unknown_more k o (mark.Named x)
  unknowns k (variable x) o = unknown_more k o (mark.Var x)
  unknowns k (alias x) o = unknown_more k o (mark.Alias x)
  unknowns k (set t) o = plain_mark k (marked t o) mark.Set _ refl (unknowns k t o)
  unknowns k (seq t) o = plain_mark k (marked t o) mark.Seq _ refl (unknowns k t o)
  unknowns k (function t v) o =
      plain_mark k (marked v (marked t o)) mark.Function _ refl
      (unknowns k v (marked t o) ∙ ap (λ z. or_first z (unknown k v)) (unknowns k t o) ∙ or_assoc (unknown_in k o) (unknown k t) (unknown k v))
  unknowns k (tuple t ts) o = plain_mark k (more_marked ts (marked t o ++ mark.One ∷ [])) mark.Tuple _ refl (list_unknowns k t ts o (unknowns k t o) (more_unknowns k ts (marked t o ++ mark.One ∷ [])))
  unknowns k (record_of n t fs j) o =
      plain_mark k (fields_marked fs (marked t o ++ mark.One ∷ [])) (mark.Record (n ∷ names_of fs) j) _ refl
      (fields_unknown k fs (marked t o ++ mark.One ∷ []) ∙ ap (λ z. or_first z (unknown_fields k fs)) (plain_mark k (marked t o) mark.One _ refl (unknowns k t o))
      ∙ or_assoc (unknown_in k o) (unknown k t) (unknown_fields k fs))
  unknowns k (constant t) o =
      plain_mark k (marked t (o ++ mark.Nothing ∷ [])) mark.Operator _ refl
      (unknowns k t (o ++ mark.Nothing ∷ []) ∙ ap (λ z. or_first z (unknown k t)) (plain_mark k o mark.Nothing _ refl refl))
  unknowns k (operator t ts v) o =
      let p = more_marked ts (marked t o ++ mark.One ∷ []) in
      plain_mark k (marked v p) mark.Operator _ refl
      (unknowns k v p ∙ ap (λ z. or_first z (unknown k v)) (list_unknowns k t ts o (unknowns k t o) (more_unknowns k ts (marked t o ++ mark.One ∷ []))) ∙ or_assoc (unknown_in k o) (or_first (unknown k t) (unknown_all k ts)) (unknown k v))
  unknowns k (parens t) o = unknowns k t o

  more_unknowns : (k : Known) (ts : Syntaxes) (o : List Mark) → unknown_in k (more_marked ts o) ≡ or_first (unknown_in k o) (unknown_all k ts)
  more_unknowns k end o = sym (or_none (unknown_in k o))
  more_unknowns k (more t ts) o =
      more_unknowns k ts (marked t o ++ mark.Join ∷ []) ∙ ap (λ z. or_first z (unknown_all k ts)) (plain_mark k (marked t o) mark.Join _ refl (unknowns k t o))
      ∙ or_assoc (unknown_in k o) (unknown k t) (unknown_all k ts)

  fields_unknown : (k : Known) (fs : Fields) (o : List Mark) → unknown_in k (fields_marked fs o) ≡ or_first (unknown_in k o) (unknown_fields k fs)
  fields_unknown k last o = sym (or_none (unknown_in k o))
  fields_unknown k (also n t fs) o =
      fields_unknown k fs (marked t o ++ mark.Join ∷ []) ∙ ap (λ z. or_first z (unknown_fields k fs)) (plain_mark k (marked t o) mark.Join _ refl (unknowns k t o))
      ∙ or_assoc (unknown_in k o) (unknown k t) (unknown_fields k fs)
