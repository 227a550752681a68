-- What is said of the children of a node that is built with types, and what follows of them.
use Rattle.std.proofs.Common.{◌≡◌, ℕ, zero, suc, ◌+◌, Bool, true, false, List, [], ◌∷◌, ◌++◌, map, zip, take, drop, length, refl, sym, ◌∙◌, ap, subst, Option, Some, None}
use Rattle.std.specs.Prelude.{nat_lt, replicate, slice_get}
use Rattle.std.proofs.lemmas.List.{append_assoc}
use Rattle.tla_meaning.specs.declared.actions.Assignable.{Assignable}
use Rattle.tla_meaning.specs.declared.expr.Expr.{Expr}
use Rattle.tla_meaning.specs.declared.op.Op.{Op}
use Rattle.tla_meaning.specs.declared.op.Op.TheVariants as op
use Rattle.tla_meaning.specs.declared.place.Place.{Place}
use Rattle.tla_meaning.proofs.Views.{and_left, and_right}
use Rattle.snowcat_rows.specs.Types.{Term, mean}
use Rattle.snowcat_rows.specs.Substitutions.{Sub}
use Rattle.snowcat_rows.specs.declared.types.Ty.{Ty}
use Rattle.snowcat_types.specs.TypeForms.{bool_type, int_type, seq_type}
use Rattle.snowcat_types.specs.Rows.{Scope, Operand, Context as TypeContext, with_bound, from_type, sets_of, typed_names, over, update_operands, plain as plain_operand}
use Rattle.snowcat_types.specs.Typings.{Each}
use Rattle.snowcat_types.specs.Waiting.{waiting_updates}
use Rattle.snowcat_types.specs.Judgement.{sight_of, HasChoice, joined_types, HasTypes, HaveTypes}
use Rattle.kernel_trees.specs.declared.kernel.Ker.{Ker}
use Rattle.kernel_trees.specs.declared.kernel.KerOp.TheVariants as ker
use Rattle.kernel_trees.specs.TypeKinds.{Kind, Number, Seq, kind_of, members}
use Rattle.kernel_trees.specs.Sound.{Context}
use Rattle.kernel_trees.proofs.SoundTrees.{Child}
use Rattle.kernel_reduction.specs.Reduction.{Numbering, numbered, all_fresh}
use Rattle.kernel_reduction.specs.Making.{AllLead}
use Rattle.kernel_reduction.specs.Rows.{tree, Change}
use Rattle.kernel_reduction.proofs.SoundExcepts.{ChangesOf}
use Rattle.kernel_reduction.proofs.SoundMade.{Is, fold_is}
use Rattle.kernel_reduction.proofs.KindsOf.{Of, AreOf, no_more, and_of, same_of, has_int, has_seq}
use Rattle.kernel_reduction.proofs.KindTies.{Ties, tie_all, tie_nil}
use Rattle.kernel_reduction.proofs.SameRows.{signature, types_of, sets_there}
use Rattle.kernel_reduction.proofs.SoundForms.{AllAt, anywhere}
use Rattle.kernel_reduction.proofs.BuiltParts.{Fine, AllFine, fine_take, fine_drop, Reads, is_none, all_plain, plain_map, front_of, none_of, parted, less, Met, types_at, as_many}
use Rattle.kernel_reduction.proofs.Lengths.{none_long, some_long, is_nothing, more_than, take_long, drop_long, sets_long, from_long, joined_long, fresh_long, are_long, types_long}
use Rattle.kernel_reduction.proofs.RowsDone.{Out}
use Rattle.kernel_reduction.proofs.ChoiceRows.{plus_none}

module _ (names : List Kind) where
  abbrev pub Knows : TypeContext → Type 0
  Knows g = (i : ℕ) → nat_lt i (length names) ≡ true → (a : Kind) × (slice_get names i ≡ Some a) × Of (g.declared i) a

  -- in an action position stand truth values
  abbrev pub InAction : Option Assignable → Term → Type 0
  InAction None x = Unit {0}
  InAction (Some m) x = x ≡ bool_type

  abbrev pub AllInAction : Option Assignable → List Operand → Type 0
  AllInAction i [] = Unit {0}
  AllInAction i (o ∷ os) = InAction i o.type × AllInAction i os

  pub as_values : (os : List Operand) → AllInAction None os
  as_values [] = tt
  as_values (o ∷ os) = (tt, as_values os)

  abbrev pub AllTie : Numbering → Scope → Context → List Operand → Type 0
  AllTie ρ bs c [] = Unit {0}
  AllTie ρ bs c (o ∷ os) = Ties ρ (bs ++ o.under) c × AllTie ρ bs c os

  pub plain_tie : (ρ : Numbering) (bs : Scope) (c : Context) (os : List Operand) → all_plain os ≡ true → Ties ρ bs c →
      AllTie ρ bs c os
  plain_tie ρ bs c [] h r = tt
  plain_tie ρ bs c (o ∷ os) h r = (
    subst (λ z. Ties ρ (bs ++ z) c) (sym (is_nothing o.under (and_left (is_none o.under) (all_plain os) h)))
        (tie_nil ρ bs c r),
    plain_tie ρ bs c os (and_right (is_none o.under) (all_plain os) h) r,
  )

  pub record Kids (c : Context) (f : ℕ → Bool) (n : ℕ) (os : List Operand) (ks : List Ker) (us : List Ty)
      (rest : List Term) : Type 0 where
    pub reads : Reads us rest
    pub kinds : List Kind
    pub are : AreOf (types_of os) kinds
    pub all : AllAt names f n c kinds ks

  -- what a binder's children give
  pub record Under (c : Context) (xs : List (List ℕ)) (ns : List ℕ) (s : ℕ → Term) (body : Term) (ks bs : List Ker)
      (vs : List Ty) (rest : List Term) : Type 0 where
    pub reads : Reads vs rest
    pub sets : List Kind
    pub inside : List Kind
    pub are : AreOf (from_type s 0 (length xs)) inside
    pub sets_are : members sets ≡ Some inside
    pub all : AllAt names (λ n. false) 0 c sets ks
    pub last : Ker
    pub one : bs ≡ last ∷ []
    pub kind : Kind
    pub of : Of body kind
    pub sound : Child names (c ++ zip ns inside) false kind last
    pub long : length ns ≡ length ks

  pub only_one : (c : Context) (f : ℕ → Bool) (x : Term) (as' : List Kind) (bs : List Ker) → AreOf (x ∷ []) as' →
      AllAt names f 0 c as' bs → (e : Ker) × (d : Kind) × (bs ≡ e ∷ []) × Of x d × Child names c (f 0) d e
  only_one c f x _ [] (and_of _ d _ _ h no_more) l = absurd l
  only_one c f x _ (e ∷ []) (and_of _ d _ _ h no_more) l = (e, d, refl, h, l.0)
  only_one c f x _ (e ∷ k ∷ ks) (and_of _ d _ _ h no_more) l = absurd l.1

  pub only_out : (c : Context) (f : ℕ → Bool) (x : Term) (as' : List Kind) (k : Ker) → AreOf (x ∷ []) as' →
      AllAt names f 0 c as' (k ∷ []) → Out names c (f 0) x k
  only_out c f x _ k (and_of _ d _ _ h no_more) l = (d, h, l.0)

  pub only_two : (c : Context) (n : ℕ) (x y : Term) (as' : List Kind) (k m : Ker) → AreOf (x ∷ y ∷ []) as' →
      AllAt names (λ n. false) n c as' (k ∷ m ∷ []) →
      (a : Kind) × (b : Kind) × Of x a × Of y b × Child names c false a k × Child names c false b m
  only_two c n x y _ k m (and_of _ a _ _ h (and_of _ b _ _ g no_more)) l = (a, b, h, g, l.0, l.1.0)

  pub none_reads : (g : TypeContext) (os : List Operand) (tss : List (List Term)) (ts : List Ty) (rest : List Term) →
      HaveTypes g [] os tss → Reads ts (joined_types tss ++ rest) → Reads ts rest
  none_reads g os tss ts rest h r = subst (λ z. Reads ts (joined_types z ++ rest)) (none_of g os tss h) r

  pub all_true : (m : Assignable) (n : ℕ) → AllInAction (Some m) (map plain_operand (replicate n bool_type))
  all_true m zero = tt
  all_true m (suc n) = (refl, all_true m n)

  pub fine_along : (f g : ℕ → Bool) → ((n : ℕ) → f n ≡ g n) → (n : ℕ) (es : List Expr) →
      AllFine (length names) f n es → AllFine (length names) g n es
  fine_along f g e n [] h = tt
  fine_along f g e n (x ∷ es) h =
      (subst (λ z. Fine (length names) z x) (e n) h.0, fine_along f g e (suc n) es h.1)

  pub number_out : (c : Context) (b : Bool) (x : Term) (k : Ker) → x ≡ int_type → Is names c Number k → Out names c b x k
  number_out c b x k e h = (Number, subst (λ z. Of z Number) (sym e) has_int, anywhere names c b Number k h)

  pub fold_done : (c : Context) (p : Place) (t : Ty) (e : Ker) (ks : List Ker) (ns : List ℕ) (a b : Kind)
      (x y : Term) (as' : List Kind) → kind_of t ≡ Some a → length ns ≡ 2 → Of x a → Of y b →
      AreOf (x ∷ seq_type y ∷ []) as' → AllAt names (λ n. false) 0 c as' ks →
      Child names (c ++ zip ns (a ∷ b ∷ [])) false a e → Is names c a (tree p t ker.FoldLeft (e ∷ ks) ns)
  fold_done c p t e ks [] a b x y as' q l h g r w k = absurd (none_long 1 l)
  fold_done c p t e ks (m ∷ []) a b x y as' q l h g r w k = absurd (none_long 0 (less 0 1 l))
  fold_done c p t e ks (m ∷ n ∷ i ∷ ns) a b x y as' q l h g r w k =
      absurd (some_long (length ns) (less (suc (length ns)) 0 (less (suc (suc (length ns))) 1 l)))
  fold_done c p t e [] (m ∷ n ∷ []) a b x y _ q l h g (and_of _ a1 _ _ h1 (and_of _ b1 _ _ g1 no_more)) w k = absurd w
  fold_done c p t e (f ∷ []) (m ∷ n ∷ []) a b x y _ q l h g (and_of _ a1 _ _ h1 (and_of _ b1 _ _ g1 no_more)) w k =
      absurd w.1
  fold_done c p t e (f ∷ s ∷ []) (m ∷ n ∷ []) a b x y _ q l h g (and_of _ a1 _ _ h1 (and_of _ b1 _ _ g1 no_more)) w k =
      fold_is names c p t e f s m n a b q k (subst (λ z. Child names c false z f) (same_of x a1 a h1 h) w.0)
      (subst (λ z. Child names c false z s) (same_of (seq_type y) b1 (Seq b) g1 (has_seq y b g)) w.1.0)
  fold_done c p t e (f ∷ s ∷ z ∷ ks) (m ∷ n ∷ []) a b x y _ q l h g (and_of _ a1 _ _ h1 (and_of _ b1 _ _ g1 no_more)) w k =
      absurd w.1.1

  pub all_long : (f : ℕ → Bool) (n : ℕ) (c : Context) (as' : List Kind) (ks : List Ker) → AllAt names f n c as' ks →
      length as' ≡ length ks
  all_long f n c [] [] h = refl
  all_long f n c [] (k ∷ ks) h = absurd h
  all_long f n c (a ∷ as') [] h = absurd h
  all_long f n c (a ∷ as') (k ∷ ks) h = ap suc (all_long f (suc n) c as' ks h.1)

  -- what is said of several
  abbrev pub EachSays : Option Assignable → Numbering → List Expr → List Ty → List Ker → List Ty → Type 0
  EachSays i ρ es ts ks us =
      (g : TypeContext) → Knows g → (c : Context) (f : ℕ → Bool) (n : ℕ) (os : List Operand) (tss : List (List Term))
      (rest : List Term) → AllFine (length names) f n es → AllTie ρ g.bound c os → AllInAction i os →
      length os ≡ length es → HaveTypes g es os tss → Reads ts (joined_types tss ++ rest) → Kids c f n os ks us rest

  -- children in which nothing is bound
  pub kids_sound : (i : Option Assignable) (ρ : Numbering) (es : List Expr) (ts : List Ty) (ks : List Ker) (us : List Ty) →
      EachSays i ρ es ts ks us →
      (g : TypeContext) → Knows g → (c : Context) → Ties ρ g.bound c → (p : Place) (o : Op) (xs : List (List ℕ)) (b : Bool)
      (x : Term) (tss : List (List Term)) (met : Met (length names) g p o es xs b x tss) (f : ℕ → Bool) →
      AllFine (length names) f 0 es →
      all_plain (signature g o xs (length es) (types_at met)).operands ≡ true →
      AllInAction i (signature g o xs (length es) (types_at met)).operands → (rest : List Term) →
      Reads ts (joined_types tss ++ rest) →
      Kids c f 0 (signature g o xs (length es) (types_at met)).operands ks us rest
  kids_sound i ρ es ts ks us d g kn c tie p o xs b x tss met f fine plain act rest reads =
      d g kn c f 0 (signature g o xs (length es) (types_at met)).operands tss rest fine
      (plain_tie ρ g.bound c (signature g o xs (length es) (types_at met)).operands plain tie) act
      (as_many (length names) g p o es xs b x tss met) met.have reads

  pub values_sound : (ρ : Numbering) (es : List Expr) (ts : List Ty) (ks : List Ker) (us : List Ty) →
      EachSays None ρ es ts ks us →
      (g : TypeContext) → Knows g → (c : Context) → Ties ρ g.bound c → (p : Place) (o : Op) (xs : List (List ℕ)) (b : Bool)
      (x : Term) (tss : List (List Term)) (met : Met (length names) g p o es xs b x tss) (f : ℕ → Bool) →
      AllFine (length names) f 0 es →
      all_plain (signature g o xs (length es) (types_at met)).operands ≡ true → (rest : List Term) →
      Reads ts (joined_types tss ++ rest) →
      Kids c f 0 (signature g o xs (length es) (types_at met)).operands ks us rest
  values_sound ρ es ts ks us d g kn c tie p o xs b x tss met f fine plain rest reads =
      kids_sound None ρ es ts ks us d g kn c tie p o xs b x tss met f fine plain
      (as_values (signature g o xs (length es) (types_at met)).operands) rest reads

  pub under_sound : (i : Option Assignable) (ρ : Numbering) (es : List Expr) (xs : List (List ℕ)) (ts : List Ty)
      (ks : List Ker) (us : List Ty) (bs : List Ker) (vs : List Ty) (ns : List ℕ) → all_fresh xs ns ρ ≡ true →
      EachSays None ρ (take (length xs) es) ts ks us →
      EachSays i (numbered xs ns ρ) (drop (length xs) es) us bs vs →
      (g : TypeContext) → Knows g → (c : Context) → Ties ρ g.bound c → (s : ℕ → Term) (body result : Term)
      (tss : List (List Term)) → HaveTypes g es (over xs s body result).operands tss →
      length (over xs s body result).operands ≡ length es → AllFine (length names) (λ n. false) 0 es → InAction i body →
      (rest : List Term) → Reads ts (joined_types tss ++ rest) → Under c xs ns s body ks bs vs rest
  under_sound i ρ es xs ts ks us bs vs ns fr d1 d2 g kn c tie s body result tss have l fine act rest reads =
      let fs : List Term = from_type s 0 (length xs) in
      let os : List Operand = map plain_operand (sets_of fs) in
      let o : Operand = record { type = body; under = typed_names xs fs } in
      let L : length os ≡ length xs = sets_long s 0 (length xs) in
      let many : more_than (length xs) 1 ≡ length es = ap (λ z. more_than z 1) (sym L) ∙ sym (joined_long os o) ∙ l in
      let w = parted g es os (o ∷ []) tss have in
      let reads' : Reads ts (joined_types w.before ++ (joined_types w.behind ++ rest)) =
      subst (Reads ts)
      (ap (λ z. z ++ rest) w.are ∙ append_assoc (joined_types w.before) (joined_types w.behind) rest) reads in
      let r =
      d1 g kn c (λ n. false) 0 os w.before
      (joined_types w.behind ++ rest) (fine_take (length names) (λ n. false) (length xs) 0 es fine)
      (plain_tie ρ g.bound c os (plain_map (sets_of fs)) tie) (as_values os)
      (L ∙ take_long (length xs) 1 es many) (subst (λ z. HaveTypes g (take z es) os w.before) L w.front) reads' in
      let m = sets_there fs r.kinds r.are in
      let ties = tie_all xs ns fs m.0 ρ g.bound c fr (sym (from_long s 0 (length xs))) m.1 tie in
      let q =
      d2 g kn (c ++ zip ns m.0) (λ n. false) 0 (o ∷ [])
      w.behind rest (fine_drop (length names) (length xs) 0 es fine) (ties, tt) (act, tt)
      (drop_long (length xs) 1 es many) (subst (λ z. HaveTypes g (drop z es) (o ∷ []) w.behind) L w.back) r.reads in
      let z = only_one (c ++ zip ns m.0) (λ n. false) body q.kinds bs q.are q.all in record {
        reads = q.reads;
        sets = r.kinds;
        inside = m.0;
        are = m.1;
        sets_are = m.2;
        all = r.all;
        last = z.0;
        one = z.2;
        kind = z.1;
        of = z.3;
        sound = z.4;
        long =
            fresh_long xs ns ρ fr ∙ sym L ∙ sym (types_long os) ∙ sym (are_long (types_of os) r.kinds r.are)
            ∙ all_long (λ n. false) 0 c r.kinds ks r.all;
      }

  -- ---- what an EXCEPT updates, and its paths

  -- what is said of one tree
  abbrev pub TreeSays : Option Assignable → Numbering → Expr → List Ty → Ker → List Ty → Type 0
  TreeSays i ρ e ts k us =
      (g : TypeContext) → Knows g → (c : Context) → Ties ρ g.bound c → (b : Bool) → Fine (length names) b e →
      (x : Term) (xs rest : List Term) → HasTypes g e (x ∷ xs) → InAction i x → Reads ts ((x ∷ xs) ++ rest) →
      Reads us rest × Out names c b x k

  -- of updates: each path leads from a value of kind a, whose type has the number v; i indexes stand before these
  abbrev pub ChangesSay :
      Numbering → List ℕ → List ℕ → List Expr → List Ty → List Change → List Ty → Type 0
  ChangesSay ρ x cs es ts ds us =
      (g : TypeContext) → Knows g → (c : Context) → Ties ρ g.bound c → (s : Sub) (v i : ℕ) (t : Ty) (a : Kind) →
      kind_of t ≡ Some a → Of (s.type_of v) a → AllLead t ds → (tss : List (List Term)) (rest : List Term) →
      HaveTypes g es (update_operands (x ∷ []) (λ k. s.type_of (v + k)) i cs) tss →
      Each (HasChoice s) (waiting_updates v i cs (map sight_of es)) → AllFine (length names) (λ n. false) 0 es →
      Reads ts (joined_types tss ++ rest) →
      Reads us rest × (jss : List (List Kind)) × ChangesOf names c a ds jss

  pub updates_sound : (ρ : Numbering) (p : Place) (t : Ty) (cs : List ℕ) (e : Expr) (es : List Expr) (x : List ℕ)
      (f : Ker) (ds : List Change) (ts us vs : List Ty) → TreeSays None ρ e ts f us → ChangesSay ρ x cs es us ds vs →
      (g : TypeContext) → Knows g → (c : Context) → Ties ρ g.bound c → (b : Bool) (tss : List (List Term)) →
      Met (length names) g p (op.Except cs) (e ∷ es) (x ∷ []) b (mean t) tss → (a : Kind) → kind_of t ≡ Some a →
      (rest : List Term) → AllLead t ds → Reads ts (joined_types tss ++ rest) →
      Reads vs rest × Is names c a f × (jss : List (List Kind)) × ChangesOf names c a ds jss
  updates_sound ρ p t cs e es x f ds ts us vs d1 d2 g kn c tie b tss met a q rest le reads =
      let y : Term = types_at met 0 in
      let w = front_of g e es (plain_operand y) (update_operands (x ∷ []) (types_at met) 0 cs) tss met.have in
      let reads' : Reads ts ((y ∷ w.types) ++ (joined_types w.others ++ rest)) =
      subst (Reads ts)
      (ap (λ z. joined_types z ++ rest) w.are ∙ append_assoc (y ∷ w.types) (joined_types w.others) rest) reads in
      let r =
      d1 (with_bound [] g) kn c (tie_nil ρ g.bound c tie) false met.fine.below.0 y w.types
      (joined_types w.others ++ rest) w.first tt reads' in
      let o : Of (met.sub.type_of met.from) a = (t, q, met.result ∙ ap met.sub.type_of (plus_none met.from)) in
      let s =
      d2 g kn c tie met.sub met.from 0 t a q o le w.others rest w.rest met.choice
      (fine_drop (length names) 1 0 (e ∷ es) met.fine.below) r.0 in
      (s.0, subst (λ z. Is names c z f) {x = r.1.0} (same_of y r.1.0 a r.1.1 (t, q, met.result)) r.1.2, s.1, s.2)
