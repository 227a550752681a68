-- The steps of a fold, one behind another, and the fold.
use Rattle.std.proofs.Common.{◌≡◌, ◌≢◌, ℕ, zero, suc, ◌+◌, List, [], ◌∷◌, ◌++◌, map, length, refl, sym, ◌∙◌, ap, ap₂, subst, arith}
use Rattle.kernel_trees.specs.declared.kernel.Ker.{Ker, out-Ker}
use Rattle.kernel_trees.specs.declared.kernel.KerOp.TheVariants as ker
use Rattle.kernel_shapes.specs.declared.bounds.Shape.{Shape as Code}
use Rattle.kernel_shapes.specs.Codes.{mean}
use Rattle.kernel_shapes.specs.Counts.{Count, count_at}
use Rattle.kernel_shapes.specs.Kernel.{ker_sized}
use Rattle.kernel_shapes.specs.Rows.{last_of, reached_by}
use Rattle.kernel_shapes.specs.Shape.{Shape, count, inside, join, join_all}
use Rattle.kernel_shapes.specs.Sized.{Extent, Position, Sized, Sizing, walked}
use Rattle.shape_bounds.specs.declared.names.Names.{Names}
use Rattle.shape_bounds.specs.Kept.{capped, greatest_kept, kept}
use Rattle.shape_bounds.specs.inner.Nodes.{counts_along}
use Rattle.shape_bounds.specs.inner.Steps.{SizesSteps, SizesTurns, body_at, values_along}
use Rattle.shape_bounds.specs.Sizes.{IsCounted, Reads, SameNames, Sizes, SizesUnder}
use Rattle.shape_bounds.proofs.Composing.{finds_more, finds_none, finds_same, reads_same, same_more, same_self}
use Rattle.shape_bounds.proofs.Ending.{grouped, mapped_end, nothing_more}
use Rattle.shape_bounds.proofs.Families.{at_width, node_sized}
use Rattle.shape_bounds.proofs.Keeping.{capped_inside, capped_join_all, kept_count}
use Rattle.shape_bounds.proofs.NamesRead.{rebuilt_whole}
use Rattle.shape_bounds.proofs.NodeShapes.{fold_counts, fold_shape}
use Rattle.shape_bounds.proofs.Rowed.{join_none, last_is}

-- ---- one step more

same_last : (f : Shape → Sized) (n : ℕ) (a b : Shape) → last_of (values_along f n b) ≡ last_of (a ∷ values_along f n b)
same_last f zero a b = refl
same_last f (suc n) a b = refl

values_more : (f : Shape → Sized) (n : ℕ) (a : Shape) → values_along f (suc n) a ≡ values_along f n a ++ (f (last_of (values_along f n a))).shape ∷ []
values_more f zero a = refl
values_more f (suc n) a =
    ap (λ (as' : List Shape). a ∷ as') (values_more f n (f a).shape)
    ∙ ap (λ (b : Shape). a ∷ (values_along f n (f a).shape ++ (f b).shape ∷ [])) (same_last f n a (f a).shape)

counts_more : (f : Shape → Sized) (n : ℕ) (a : Shape) → counts_along f (suc n) a ≡ counts_along f n a ++ (f (last_of (values_along f n a))).counts walked
counts_more f zero a = nothing_more ((f a).counts walked)
counts_more f (suc n) a =
    ap (λ (cs : List Count). (f a).counts walked ++ cs) (counts_more f n (f a).shape)
    ∙ grouped ((f a).counts walked) (counts_along f n (f a).shape) ((f (last_of (values_along f n (f a).shape))).counts walked)
    ∙ ap (λ (b : Shape). ((f a).counts walked ++ counts_along f n (f a).shape) ++ (f b).counts walked) (same_last f n a (f a).shape)

-- what the body reaches is the join of the values
reached_joined : (f : Shape → Sized) (n : ℕ) (a : Shape) → reached_by n (λ c. (f c).shape) a ≡ join_all (values_along f n a)
reached_joined f zero a = sym (join_none a)
reached_joined f (suc n) a = ap (join a) (reached_joined f n (f a).shape)

kept_last : (a : Shape) (as' : List Shape) → capped (last_of (a ∷ as')) ≡ last_of (map capped (a ∷ as'))
kept_last a [] = refl
kept_last a (b ∷ as') = kept_last b as'

last_kept : (f : Shape → Sized) (n : ℕ) (a : Shape) → capped (last_of (values_along f n a)) ≡ last_of (map capped (values_along f n a))
last_kept f zero a = kept_last a []
last_kept f (suc n) a = kept_last a (values_along f n (f a).shape)

-- ---- walks over the steps

module _ (z : Sizing) (xs : List ℕ) where
  pub turns_none : (s : Names) (item : Shape) (v : Code) → SizesTurns s s z xs 0 (mean v) item (v ∷ [])
  turns_none s item v = record {
    same = same_self s;
    values = λ g a b l e f. ap (λ (c : Shape). c ∷ []) e;
    finds = λ g a b l e f. finds_none s;
  }

  turns_more : (old mid new : Names) (n : ℕ) (start item : Shape) (vs ss rs : List Code) (v r : Code) → SizesTurns old mid z xs n start item (vs ++ v ∷ []) →
      map mean ss ≡ mean v ∷ item ∷ [] → SizesUnder mid new z xs (map mean ss) r → rs ≡ vs ++ v ∷ [] → SizesTurns old new z xs (suc n) start item (rs ++ r ∷ [])
  turns_more old mid new n start item vs ss rs v r h m u c = record {
    same = same_more old mid new h.same u.same;
    values = λ g a b l e f.
        let s : Shape → Sized = body_at z xs b g in
        ap (map capped) (values_more s n a) ∙ mapped_end capped (values_along s n a) (s (last_of (values_along s n a))).shape
        ∙ ap₂ (λ (as' : List Shape) (x : Shape). as' ++ x ∷ []) (h.values g a b l e f)
        (u.shape g (last_of (values_along s n a) ∷ b ∷ []) (reads_same old mid g h.same l) (at g a b l e f))
        ∙ sym (mapped_end mean rs r ∙ ap (λ (us : List Code). map mean us ++ mean r ∷ []) c);
    finds = λ g a b l e f.
        let s : Shape → Sized = body_at z xs b g in
        finds_same old new _ _ (sym (counts_more s n a))
        (finds_more old mid new (counts_along s n a) ((s (last_of (values_along s n a))).counts walked) (h.finds g a b l e f)
        (u.finds g (last_of (values_along s n a) ∷ b ∷ []) (reads_same old mid g h.same l) (at g a b l e f)));
  }
    where
      at : (g : Extent) (a b : Shape) → Reads old g → capped a ≡ start → capped b ≡ item →
          map capped (last_of (values_along (body_at z xs b g) n a) ∷ b ∷ []) ≡ map mean ss
      at g a b l e f =
          ap₂ (λ (x y : Shape). x ∷ y ∷ [])
          (last_kept (body_at z xs b g) n a ∙ ap last_of (h.values g a b l e f ∙ mapped_end mean vs v) ∙ last_is (map mean vs) (mean v)) f
          ∙ sym m

pub turns_next : (old mid new : Names) (k : Ker) (xs : List ℕ) (n : ℕ) (start item : Shape) (vs ss rs : List Code) (v r : Code) →
    SizesTurns old mid (ker_sized old.width k) xs n start item (vs ++ v ∷ []) → map mean ss ≡ mean v ∷ item ∷ [] →
    SizesUnder mid new (ker_sized mid.width k) xs (map mean ss) r → rs ≡ vs ++ v ∷ [] → SizesTurns old new (ker_sized old.width k) xs (n + 1) start item (rs ++ r ∷ [])
turns_next old mid new k xs n start item vs ss rs v r h m u c =
    let w : SizesUnder mid new (ker_sized old.width k) xs (map mean ss) r = subst (λ (d : ℕ). SizesUnder mid new (ker_sized d k) xs (map mean ss) r) h.same.width u in
    let one : suc n ≡ n + 1 = omega arith in
    subst (λ (i : ℕ). SizesTurns old new (ker_sized old.width k) xs i start item (rs ++ r ∷ [])) one
    (turns_more (ker_sized old.width k) xs old mid new n start item vs ss rs v r h m w c)

-- a number that is kept and is not the greatest is exact
exact_count : (a b : Shape) (n : ℕ) → capped a ≡ b → n ≡ kept (count b) → n ≢ greatest_kept → n ≡ count a
exact_count a b n e f h =
    let k : kept (count b) ≡ kept (count a) = ap (λ (c : Shape). kept (count c)) (sym e) ∙ kept_count a in
    omega (arith, f, k, h)

pub steps_whole : (old new : Names) (z : Sizing) (xs : List ℕ) (n : ℕ) (start list : Shape) (us rs : List Code) → SizesTurns old new z xs n start (inside list) us →
    n ≡ kept (count list) → n ≢ greatest_kept → rs ≡ us → SizesSteps old new z xs start list rs
steps_whole old new z xs n start list us rs h e d f = record {
  same = h.same;
  values = λ g a b l i j.
      ap (λ (m : ℕ). map capped (values_along (body_at z xs (inside b) g) m a)) (sym (exact_count b list n j e d))
      ∙ h.values g a (inside b) l i (capped_inside b ∙ ap inside j) ∙ ap (map mean) (sym f);
  finds = λ g a b l i j.
      finds_same old new _ _ (ap (λ (m : ℕ). counts_along (body_at z xs (inside b) g) m a) (exact_count b list n j e d))
      (h.finds g a (inside b) l i (capped_inside b ∙ ap inside j));
}

-- ---- the fold

module _ (w : ℕ) (k b a s : Ker) (m n : ℕ) (o : (out-Ker k).op ≡ ker.FoldLeft) (e : (out-Ker k).args ≡ b ∷ a ∷ s ∷ []) (x : (out-Ker k).binds ≡ m ∷ n ∷ []) where
  abbrev step_at : Extent → Shape → Sized
  step_at g = body_at (ker_sized w b) (m ∷ n ∷ []) (inside (ker_sized w s g).shape) g

  abbrev fold_values : Extent → List Shape
  fold_values g = values_along (step_at g) (count (ker_sized w s g).shape) (ker_sized w a g).shape

  abbrev fold_numbers : Extent → List Count
  fold_numbers g = counts_along (step_at g) (count (ker_sized w s g).shape) (ker_sized w a g).shape

  fold_is : (g : Extent) → (ker_sized w k g).shape ≡ join_all (fold_values g)
  fold_is g =
      ap (λ (j : Ker). (ker_sized w j g).shape) (rebuilt_whole k _ _ _ o e x)
      ∙ fold_shape w _ _ [] g b a s m n
      ∙ reached_joined (step_at g) (count (ker_sized w s g).shape) (ker_sized w a g).shape

  fold_counted : (g : Extent) (q : Position) → (ker_sized w k g).counts q
      ≡ count_at (out-Ker k).place (join_all (fold_values g)) ++ (((ker_sized w a g).counts walked ++ ((ker_sized w s g).counts walked ++ [])) ++ fold_numbers g)
  fold_counted g q =
      ap (λ (j : Ker). (ker_sized w j g).counts q) (rebuilt_whole k _ _ _ o e x)
      ∙ fold_counts w _ _ [] g b a s m n q
      ∙ ap (λ (c : Shape). count_at (out-Ker k).place c ++ (((ker_sized w a g).counts walked ++ ((ker_sized w s g).counts walked ++ [])) ++ fold_numbers g))
      (fold_shape w _ _ [] g b a s m n ∙ reached_joined (step_at g) (count (ker_sized w s g).shape) (ker_sized w a g).shape)

fold_sized : (old one two mid new : Names) (k b a s : Ker) (m n : ℕ) (x y r : Code) (rs : List Code) → (out-Ker k).op ≡ ker.FoldLeft →
    (out-Ker k).args ≡ b ∷ a ∷ s ∷ [] → (out-Ker k).binds ≡ m ∷ n ∷ [] → Sizes old one (ker_sized old.width a) walked x → Sizes one two (ker_sized one.width s) walked y →
    SizesSteps two mid (ker_sized two.width b) (m ∷ n ∷ []) (mean x) (mean y) rs → mean r ≡ join_all (map mean rs) →
    IsCounted mid new (count_at (out-Ker k).place (mean r)) → (q : Position) → Sizes old new (ker_sized old.width k) q r
fold_sized old one two mid new k b a s m n x y r rs o e u h i j f c q =
    let w : ℕ = old.width in
    let v : Sizes one two (ker_sized w s) walked y = at_width old one two s walked y h.same i in
    let both : SameNames old two = same_more old one two h.same v.same in
    let t : SizesSteps two mid (ker_sized w b) (m ∷ n ∷ []) (mean x) (mean y) rs =
    subst (λ (d : ℕ). SizesSteps two mid (ker_sized d b) (m ∷ n ∷ []) (mean x) (mean y) rs) both.width j in
    node_sized old mid new k r q (λ g. join_all (fold_values w k b a s m n o e u g))
    (λ g. ((ker_sized w a g).counts walked ++ ((ker_sized w s g).counts walked ++ [])) ++ fold_numbers w k b a s m n o e u g)
    (fold_is w k b a s m n o e u) (λ g. fold_counted w k b a s m n o e u g q) (same_more old two mid both t.same)
    (λ g l. capped_join_all (fold_values w k b a s m n o e u g)
    ∙ ap join_all (t.values g (ker_sized w a g).shape (ker_sized w s g).shape (reads_same old two g both l) (h.shape g l) (v.shape g (reads_same old one g h.same l)))
    ∙ sym f)
    (λ g l. finds_more old two mid ((ker_sized w a g).counts walked ++ ((ker_sized w s g).counts walked ++ [])) (fold_numbers w k b a s m n o e u g)
    (finds_more old one two ((ker_sized w a g).counts walked) ((ker_sized w s g).counts walked ++ []) (h.finds g l)
    (finds_more one two two ((ker_sized w s g).counts walked) [] (v.finds g (reads_same old one g h.same l)) (finds_none two)))
    (t.finds g (ker_sized w a g).shape (ker_sized w s g).shape (reads_same old two g both l) (h.shape g l) (v.shape g (reads_same old one g h.same l)))) c

pub fold_visited : (old one two mid new : Names) (k b a s : Ker) (xs : List ℕ) (x y r : Code) (rs ss : List Code) → (out-Ker k).op ≡ ker.FoldLeft →
    (out-Ker k).args ≡ b ∷ a ∷ s ∷ [] → xs ≡ (out-Ker k).binds → length xs ≡ 2 → Sizes old one (ker_sized old.width a) walked x → Sizes one two (ker_sized one.width s) walked y →
    SizesSteps two mid (ker_sized two.width b) xs (mean x) (mean y) rs → ss ≡ rs → mean r ≡ join_all (map mean ss) →
    IsCounted mid new (count_at (out-Ker k).place (mean r)) → (q : Position) → Sizes old new (ker_sized old.width k) q r
fold_visited old one two mid new k b a s [] x y r rs ss o e u l h i j p f c q = absurd (omega (arith, l))
fold_visited old one two mid new k b a s (m ∷ []) x y r rs ss o e u l h i j p f c q = absurd (omega (arith, l))
fold_visited old one two mid new k b a s (m ∷ n ∷ []) x y r rs ss o e u l h i j p f c q =
    fold_sized old one two mid new k b a s m n x y r rs o e (sym u) h i j (f ∙ ap (λ (us : List Code). join_all (map mean us)) p) c q
fold_visited old one two mid new k b a s (m ∷ n ∷ d ∷ xs) x y r rs ss o e u l h i j p f c q = absurd (omega (arith, l))
