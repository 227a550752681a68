-- What soundness says of an operator whose operands are all evaluated: its row of the table of types, and that the
-- cells of its operands have the sorts of that row.
use Rattle.std.proofs.Common.{◌≡◌, ℕ, suc, true, false, List, [], ◌∷◌, map, flat_map, take, refl, subst}
use Rattle.std.proofs.Common.{All, Some}
use Rattle.std.proofs.lemmas.List.Elements.{All-nil, All-tail}
use Rattle.tla_meaning.proofs.Views.{false≢true}
use Rattle.cell_arena.specs.declared.build.Build.{Build}
use Rattle.kernel_trees.specs.declared.kernel.Ker.{Ker, out-Ker}
use Rattle.kernel_trees.specs.declared.kernel.KerOp.{KerOp}
use Rattle.kernel_trees.specs.declared.kernel.KerOp.TheVariants as ker
use Rattle.kernel_trees.specs.TypeKinds.{Kind, Kinds, Number, Tup}
use Rattle.kernel_trees.specs.Sound.{Context, kind_at}
use Rattle.kernel_trees.proofs.SoundRows.{Row, row_range, row_item, BinderRow, row_some, row_every, row_filter, row_map}
use Rattle.kernel_trees.proofs.SoundRows.{row_function}
use Rattle.kernel_trees.proofs.SoundTrees.{Children, Node, node_name, node_bound, node_plain, node_bounded, node_binder}
use Rattle.kernel_trees.proofs.SoundTrees.{node_update, node_fold, sound_step}
use Rattle.outcome_cells.specs.declared.cells.Cells.{Cells}
use Rattle.outcome_cells.specs.Shows.{AllCells}
use Rattle.typed_cells.specs.KindSorts.{names_within, sort_of}
use Rattle.typed_cells.specs.Known.{IsTextAmong}
use Rattle.expr_rewriter.specs.Operating.{AreParts, CanOperate, is_operated, operands_at}
use Rattle.expr_rewriter.specs.Rewriting.{texts_in}
use Rattle.expr_rewriter.proofs.TextsIn.{child_texts_of, kind_texts}

-- a range has two ends, and an item one tuple
abbrev pub HasEnds : KerOp → List Ker → Type 0
HasEnds ker.Range [] = ⊥
HasEnds ker.Range (x ∷ []) = ⊥
HasEnds ker.Range (x ∷ y ∷ ks) = Unit {0}
HasEnds (ker.Item i) [] = ⊥
HasEnds (ker.Item i) (x ∷ []) = Unit {0}
HasEnds (ker.Item i) (x ∷ y ∷ ks) = ⊥
HasEnds o ks = Unit {0}

-- the kind of the node and of its operands, by a row of the table, and cells of the operands' sorts
pub record Opens (b : Build) (o : KerOp) (a : Kind) (ks : List Ker) (xs : List Cells) : Type 0 where
  pub kinds : List Kind
  pub row : Row o a kinds
  pub cells : AllCells b (map sort_of kinds) xs
  pub ends : HasEnds o ks
  pub names : All (IsTextAmong b.arena.texts) (flat_map names_within kinds)

module _ (b : Build) (names : List Kind) (c : Context) where
  cells_of : (o : KerOp) (n : ℕ) (ks : List Ker) (as' : List Kind) (xs : List Cells) →
      Children names o n c false ks as' →
      AreParts b ks xs → AllCells b (map sort_of as') xs
  cells_of o n [] [] [] ch h = tt
  cells_of o n [] [] (x ∷ xs) ch h = absurd h
  cells_of o n [] (a ∷ as') xs ch h = absurd ch
  cells_of o n (k ∷ ks) [] xs ch h = absurd ch
  cells_of o n (k ∷ ks) (a ∷ as') [] ch h = absurd h
  cells_of o n (k ∷ ks) (a ∷ as') (x ∷ xs) ch h = (h.0 a ch.0.0, cells_of o (suc n) ks as' xs ch.1 h.1)

  -- of a range two children are read, and there are two where there are no bounds
  two_read : (ks : List Ker) → Children names ker.Range 0 c false ks (Number ∷ Number ∷ []) → take 2 ks ≡ ks
  two_read [] ch = absurd ch
  two_read (x ∷ []) ch = absurd ch.1
  two_read (x ∷ y ∷ []) ch = refl
  two_read (x ∷ y ∷ z ∷ ks) ch = absurd ch.1.1

  all_read : (o : KerOp) (a : Kind) (ks : List Ker) (as' : List Kind) → Row o a as' →
      Children names o 0 c false ks as' →
      operands_at o ks ≡ ks
  all_read ker.Range _ ks _ row_range ch = two_read ks ch
  all_read o a ks as' row ch = refl

  two_ends : (ks : List Ker) → Children names ker.Range 0 c false ks (Number ∷ Number ∷ []) → HasEnds ker.Range ks
  two_ends [] ch = absurd ch
  two_ends (x ∷ []) ch = absurd ch.1
  two_ends (x ∷ y ∷ ks) ch = tt

  one_end : (i : ℕ) (ks : List Ker) (as' : Kinds) → Children names (ker.Item i) 0 c false ks (Tup as' ∷ []) →
      HasEnds (ker.Item i) ks
  one_end i [] as' ch = absurd ch
  one_end i (x ∷ []) as' ch = tt
  one_end i (x ∷ y ∷ ks) as' ch = absurd ch.1

  all_ends : (o : KerOp) (a : Kind) (ks : List Ker) (as' : List Kind) → Row o a as' →
      Children names o 0 c false ks as' → HasEnds o ks
  all_ends ker.Range _ ks _ row_range ch = two_ends ks ch
  all_ends (ker.Item i) _ ks _ (row_item _ a as' e) ch = one_end i ks as' ch
  all_ends o a ks as' row ch = tt

  no_binder : (o : KerOp) (a : Kind) (ms : List Kind) (e : Kind) → BinderRow o a ms e → is_operated o ≡ true → ⊥
  no_binder _ _ _ _ (row_some ms) h = false≢true h
  no_binder _ _ _ _ (row_every ms) h = false≢true h
  no_binder _ _ _ _ (row_filter a) h = false≢true h
  no_binder _ _ _ _ (row_map a ms) h = false≢true h
  no_binder _ _ _ _ (row_function ms e) h = false≢true h

  opens : (o : KerOp) (a : Kind) (bs : List ℕ) (ks : List Ker) (xs : List Cells) → Node names c false o a bs ks →
      is_operated o ≡ true → AreParts b (operands_at o ks) xs →
      All (IsTextAmong b.arena.texts) (flat_map (λ ts. ts) (map texts_in ks)) → Opens b o a ks xs
  opens _ _ _ _ xs (node_name i primed a bs e) h p t = absurd (false≢true h)
  opens _ _ _ _ xs (node_bound n a bs e) h p t = absurd (false≢true h)
  opens _ _ _ _ xs (node_plain o a bs ks as' row ch inf) h p t =
      record {
        kinds = as';
        row = row;
        cells = cells_of o 0 ks as' xs ch (subst (λ js. AreParts b js xs) (all_read o a ks as' row ch) p);
        ends = all_ends o a ks as' row ch;
        names = kind_texts (IsTextAmong b.arena.texts) names o 0 c ks as' ch t;
      }
  opens _ _ _ _ xs (node_bounded bs x y l u cx cy bl bu) h p t =
      record {
        kinds = Number ∷ Number ∷ [];
        row = row_range;
        cells = cells_of ker.Range 0 (x ∷ y ∷ []) (Number ∷ Number ∷ []) xs (cx, (cy, tt)) p;
        ends = tt;
        names = All-nil (IsTextAmong b.arena.texts);
      }
  opens _ _ _ _ xs (node_binder o a bs ks sets body ms e q n row s ch) h p t = absurd (no_binder o a ms e row h)
  opens _ _ _ _ xs (node_update a x f i e j d cf ci u ce) h p t = absurd (false≢true h)
  opens _ _ _ _ xs (node_fold a x y e f q d ce cf cq) h p t = absurd (false≢true h)

pub record Opened (b : Build) (k : Ker) (xs : List Cells) : Type 0 where
  pub kind : Kind
  pub is : kind_at k ≡ Some kind
  pub open_ : Opens b (out-Ker k).op kind (out-Ker k).args xs

pub opened : (b : Build) (k : Ker) (xs : List Cells) → CanOperate b k xs → Opened b k xs
opened b k xs h =
    let z = sound_step h.names k h.context false h.sound in
    record {
      kind = z.0;
      is = z.1;
      open_ = opens b h.names h.context (out-Ker k).op z.0 (out-Ker k).binds (out-Ker k).args xs z.2 h.operated h.parts
          (child_texts_of (IsTextAmong b.arena.texts) k (All-tail (IsTextAmong b.arena.texts) [] (texts_in k) h.texts));
    }
