-- Nodes of the kernel as the code takes them apart.
use denote.Param.Weighed.{most}
use Rattle.std.proofs.Common.{◌≡◌, ◌≤◌, ◌<◌, ℕ, zero, suc, ◌-◌, true, false, nat_eq, List, [], ◌∷◌, ◌++◌, map, take, length, get_or, IsTrue, refl, sym, ◌∙◌, ap, ap₂, subst, arith}
use Rattle.tla_meaning.proofs.Views.{false≢true}
use Rattle.kernel_trees.specs.declared.kernel.Ker.{Ker, out-Ker}
use Rattle.kernel_shapes.specs.declared.bounds.Shape.{Shape as Code, Empty as empty}
use Rattle.kernel_shapes.specs.Codes.{mean}
use Rattle.kernel_shapes.specs.Counts.{count_at}
use Rattle.kernel_trees.specs.TypeKinds.{kind_of}
use Rattle.kernel_shapes.specs.Kernel.{ker_sized, kind_or_truth}
use Rattle.kernel_shapes.specs.Trees.{tuple_row}
use Rattle.kernel_shapes.specs.Rows.{Literal, no_literal, insides}
use Rattle.kernel_shapes.specs.Sized.{Position, walked, as_form, operand}
use Rattle.shape_bounds.specs.declared.names.Names.{Names}
use Rattle.shape_bounds.specs.Kept.{IsWidth}
use Rattle.shape_bounds.specs.inner.Nodes.{binder_row, is_binder, is_endless, is_listed, is_product, second_of, walked_count}
use Rattle.shape_bounds.specs.inner.Plain.{row_of, is_plain}
use Rattle.shape_bounds.specs.Sizes.{IsCounted, Sizes, SizesEach, SizesUnder}
use Rattle.shape_bounds.specs.inner.Table.{row_kept}
use Rattle.shape_bounds.proofs.Families.{plain_sized, product_sized, endless_sized, binder_sized, listed_sized, front_and_last, front_length}

whole : (ks : List Ker) → take (length ks) ks ≡ ks
whole [] = refl
whole (k ∷ ks) = ap (λ (js : List Ker). k ∷ js) (whole ks)

module _ (old mid new : Names) (k : Ker) (args : List Ker) (rs ss : List Code) (r : Code) (i : IsWidth old.width) (e : args ≡ (out-Ker k).args) (f : ss ≡ rs) where
  pub plain_visited : (l : Literal) → IsTrue (is_plain (out-Ker k).op) → SizesEach old mid (map (ker_sized old.width) (take (length args) args)) walked rs →
      l ≡ second_of args → mean r ≡ row_kept mid.width (row_of (out-Ker k).op) l (map mean ss) →
      IsCounted mid new (count_at (out-Ker k).place (mean r)) → (q : Position) → Sizes old new (ker_sized old.width k) q r
  plain_visited l h s g m c q =
      plain_sized old mid new k rs r i h
      (subst (λ (ks : List Ker). SizesEach old mid (map (ker_sized old.width) ks) walked rs) (whole args ∙ e) s)
      (m ∙ ap₂ (λ (j : Literal) (us : List Code). row_kept mid.width (row_of (out-Ker k).op) j (map mean us)) (g ∙ ap second_of e) f) c q

  pub product_visited : (q u : Position) → is_product (out-Ker k).op ≡ true → u ≡ operand q → SizesEach old mid (map (ker_sized old.width) (take (length args) args)) u rs →
      mean r ≡ row_kept mid.width (row_of (out-Ker k).op) no_literal (map mean ss) →
      IsCounted mid new (walked_count q (out-Ker k).place (mean r)) → Sizes old new (ker_sized old.width k) q r
  product_visited q u h at s m c =
      product_sized old mid new k q u rs r i h at
      (subst (λ (ks : List Ker). SizesEach old mid (map (ker_sized old.width) ks) u rs) (whole args ∙ e) s)
      (m ∙ ap (λ (us : List Code). row_kept mid.width (row_of (out-Ker k).op) no_literal (map mean us)) f) c

pub endless_visited : (old new : Names) (k : Ker) (args : List Ker) (rs : List Code) → args ≡ (out-Ker k).args → is_endless (out-Ker k).op ≡ true →
    SizesEach old new (map (ker_sized old.width) (take (length args) args)) as_form rs → (q : Position) → Sizes old new (ker_sized old.width k) q empty
endless_visited old new k args rs e h s q = endless_sized old new k rs h (subst (λ (ks : List Ker). SizesEach old new (map (ker_sized old.width) ks) as_form rs) (whole args ∙ e) s) q

some_more : (ks : List Ker) (n : ℕ) → false ≡ nat_eq (length ks) 0 → length ks - 1 ≡ n → length ks ≡ suc n
some_more [] n h e = absurd (false≢true h)
some_more (k ∷ ks) n h e = omega (arith, e)

pub binder_visited : (old one mid new : Names) (k : Ker) (args : List Ker) (xs : List ℕ) (b : Ker) (rs ss ms ts us : List Code) (x r : Code) → IsWidth old.width →
    is_binder (out-Ker k).op ≡ true → args ≡ (out-Ker k).args → xs ≡ (out-Ker k).binds → false ≡ nat_eq (length args) 0 → length args - 1 ≡ length xs →
    b ≡ get_or args (length xs) b → SizesEach old one (map (ker_sized old.width) (take (length xs) args)) walked rs → ss ≡ rs →
    map mean ms ≡ insides (map mean ss) → ts ≡ ms → SizesUnder one mid (ker_sized one.width b) xs (map mean ts) x → us ≡ rs →
    ((w : ℕ) → mean r ≡ row_kept w (binder_row (out-Ker k).op (length us)) no_literal (map mean us ++ mean x ∷ [])) →
    IsCounted mid new (count_at (out-Ker k).place (mean r)) → (q : Position) → Sizes old new (ker_sized old.width k) q r
binder_visited old one mid new k args xs b rs ss ms ts us x r i h e f some less at s sr m tm u ur t c q =
    let n : length args ≡ suc (length xs) = some_more args (length xs) some less in
    binder_sized old one mid new k (take (length xs) args) b rs ms x r (length rs) i
    (sym e ∙ front_and_last args (length xs) b n at)
    (ap length (sym f) ∙ front_length args (length xs) n) h s
    (m ∙ ap (λ (vs : List Code). insides (map mean vs)) sr)
    (subst (λ (ys : List ℕ). SizesUnder one mid (ker_sized one.width b) ys (map mean ms) x) f
    (subst (λ (vs : List Code). SizesUnder one mid (ker_sized one.width b) xs (map mean vs) x) tm u))
    (λ w. t w ∙ ap (λ (vs : List Code). row_kept w (binder_row (out-Ker k).op (length vs)) no_literal (map mean vs ++ mean x ∷ [])) ur) c q

-- a part of a list is no deeper than the list
pub most-take : {X : Type 0} (f : X → ℕ) (n : ℕ) (xs : List X) → most f (take n xs) ≤ most f xs
most-take f zero xs = omega arith
most-take f (suc n) [] = omega arith
most-take f (suc n) (x ∷ xs) = omega (arith, most-take f n xs)

-- an item is no deeper than the list
pub most-item : {X : Type 0} (f : X → ℕ) (xs : List X) (n : ℕ) (x : X) → n < length xs → x ≡ get_or xs n x → f x ≤ most f xs
most-item f [] n x h e = absurd (omega (arith, h))
most-item f (y ∷ xs) zero x h e = let g : f x ≡ f y = ap f e in omega (arith, g)
most-item f (y ∷ xs) (suc n) x h e = let g = most-item f xs n x (omega (arith, h)) e in omega (arith, g)

pub listed_visited : (old mid new : Names) (k : Ker) (args : List Ker) (rs : List Code) (r : Code) → IsWidth old.width → args ≡ (out-Ker k).args → is_listed (out-Ker k).op ≡ true →
    SizesEach old mid (map (ker_sized old.width) (take (length args) args)) walked rs →
    ((w : ℕ) → mean r ≡ row_kept w (tuple_row (kind_or_truth (kind_of (out-Ker k).ty))) no_literal (map mean rs)) →
    IsCounted mid new (count_at (out-Ker k).place (mean r)) → (q : Position) → Sizes old new (ker_sized old.width k) q r
listed_visited old mid new k args rs r i e h s m c q =
    listed_sized old mid new k rs r i h (subst (λ (ks : List Ker). SizesEach old mid (map (ker_sized old.width) ks) walked rs) (whole args ∙ e) s) m c q
