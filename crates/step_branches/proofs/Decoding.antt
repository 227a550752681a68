-- What a cell decodes to depends on the variables of the formula alone.
use Rattle.std.proofs.Common.{◌≡◌, ℕ, Bool, cond, false, List, [], ◌∷◌, ◌++◌, map, All, get_or, refl, ◌∙◌, ap, subst}
use Rattle.std.specs.Prelude.{filter}
use Rattle.std.specs.List.{fold}
use Rattle.std.proofs.lemmas.List.{get_or_default}
use Rattle.std.proofs.lemmas.List.Elements.{All-head, All-tail}
use Rattle.sat_formula.specs.declared.lit.Lit.{Lit}
use Rattle.sat_formula.specs.Lit.{lit_value, IsBelow}
use Rattle.word_blaster.specs.Word.{word_value, signed, values, WordBelow}
use Rattle.tla_values.specs.declared.value.Value.{Value}
use Rattle.tla_values.specs.declared.value.Value.TheVariants as value
use Rattle.tla_values.specs.Sets.{set_of, function_of}
use Rattle.tla_values.specs.Sequences.{sequence}
use Rattle.cell_arena.specs.declared.build.Build.{Build}
use Rattle.cell_arena.specs.declared.kinds.CellId.{CellId}
use Rattle.cell_arena.specs.declared.kinds.CellKind.{CellKind}
use Rattle.cell_arena.specs.declared.kinds.CellKind.TheVariants.{Bit, Word, Text, Set, Fun, Rec, Tup, Seq}
use Rattle.cell_arena.specs.Cells.{Cells, NamesBelow}
use Rattle.cell_arena.specs.Decode.{first_places, text_at, kind_value, value_at, decode_all, decode}
use Rattle.cell_arena.proofs.Held.{NamesBelow-later}
use Rattle.level_laws.specs.Constraints.{Agree, Assignment, Reads}
use Rattle.level_laws.proofs.Formulas.{lit_reads}

-- two tests that agree on the items keep the same
filter_agree : {X : Type 0} (p q : X → Bool) (xs : List X) → All (λ x. p x ≡ q x) xs → filter p xs ≡ filter q xs
filter_agree p q [] h = refl
filter_agree p q (x ∷ xs) h =
    let here : p x ≡ q x = All-head (λ x. p x ≡ q x) x xs h in
    let rest = filter_agree p q xs (All-tail (λ x. p x ≡ q x) x xs h) in
    ap (λ b. cond b (x ∷ filter p xs) (filter p xs)) here ∙ ap (λ l. cond (q x) (x ∷ l) l) rest

module _ (n : ℕ) (a b : Assignment) (same : Agree n a b) where
  lit_same : (l : Lit) → IsBelow n l → lit_value l a ≡ lit_value l b
  lit_same l h = lit_reads n l h a b same

  values_same : (w : List Lit) → All (IsBelow n) w → values w a ≡ values w b
  values_same [] h = refl
  values_same (l ∷ w) h =
      let p = lit_same l (All-head (IsBelow n) l w h) in
      let q = values_same w (All-tail (IsBelow n) l w h) in
      ap (λ t. t ∷ values w a) p ∙ ap (λ ts. lit_value l b ∷ ts) q

  word_same : (w : List Lit) → WordBelow n w → word_value w a ≡ word_value w b
  unfolding WordBelow
  word_same w h = ap signed (values_same w h)

  kind_same : (ts : List (List ℕ)) (f : CellId → Value) (k : CellKind) → NamesBelow n k →
      kind_value ts a f k ≡ kind_value ts b f k
  kind_same ts f (Bit l) h = ap (λ v. value.Bool v) (lit_same l h)
  kind_same ts f (Word w) h = ap (λ v. value.Int v) (word_same w h)
  kind_same ts f (Text w) h = ap (λ v. value.Text (text_at ts v)) (word_same w h)
  kind_same ts f (Set es) h =
      ap (λ l. value.Set (set_of (map (λ e. f e.1) l)))
      (filter_agree (λ e. lit_value e.0 a) (λ e. lit_value e.0 b) es
      (λ i d lt. lit_same (get_or es i d).0 (h i d lt)))
  kind_same ts f (Fun es) h =
      ap (λ l. value.Fun (function_of (map (λ e. (f e.1, f e.2)) l)))
      (filter_agree (λ e. lit_value e.0 a) (λ e. lit_value e.0 b) es (λ i d lt. lit_same (get_or es i d).0 (h i d lt)))
  kind_same ts f (Rec fs) h = refl
  kind_same ts f (Tup ps) h = refl
  kind_same ts f (Seq w ps) h = ap (λ v. sequence (first_places v (map f ps))) (word_same w h)

  abbrev step : List (List ℕ) → Assignment → List Value → CellKind → List Value
  step ts c vs k = vs ++ kind_value ts c (value_at vs) k ∷ []

  fold_same : (ts : List (List ℕ)) (vs : List Value) (ks : List CellKind) → All (NamesBelow n) ks →
      fold (step ts a) vs ks ≡ fold (step ts b) vs ks
  fold_same ts vs [] h = refl
  fold_same ts vs (k ∷ ks) h =
      let p = kind_same ts (value_at vs) k (All-head (NamesBelow n) k ks h) in
      ap (λ v. fold (step ts a) (vs ++ v ∷ []) ks) p ∙ fold_same ts (step ts b vs k) ks (All-tail (NamesBelow n) k ks h)

  decode_same : (c : Cells) (id : CellId) → All (NamesBelow n) c.kinds → decode c a id ≡ decode c b id
  unfolding decode decode_all
  decode_same c id h = ap (λ vs. value_at vs id) (fold_same c.texts [] c.kinds h)

named : (b : Build) → All (NamesBelow b.formula.vars) b.arena.kinds
named b = λ i d lt.
    let first : CellKind = Bit (record { var = 0; neg = false }) in
    subst (NamesBelow b.formula.vars) (get_or_default b.arena.kinds i first d lt)
    (NamesBelow-later b.arena.vars b.formula.vars (get_or b.arena.kinds i first) b.fits
    (b.built.held (record { index = i }) lt).named)

pub decode_reads : (b : Build) (id : CellId) → Reads b.formula.vars (λ a. decode b.arena a id)
decode_reads b id x y same = decode_same b.formula.vars x y same b.arena id (named b)
