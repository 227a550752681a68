-- Sets of the members that pass, and of a body's values.
use Rattle.std.proofs.Common.{◌≡◌, ℕ, ◌+◌, ◌<◌, Bool, true, false, ◌&&◌, ◌||◌, List, [], ◌∷◌, ◌++◌, map, length}
use Rattle.std.proofs.Common.{take, get_or, All, refl, ap, ◌∙◌, sym, arith}
use Rattle.std.specs.List.{list_any}
use Rattle.std.proofs.lemmas.List.{get_or_default}
use Rattle.std.proofs.lemmas.List.Elements.{All-push}
use Rattle.sat_formula.specs.declared.lit.Lit.{Lit}
use Rattle.sat_formula.specs.declared.cnf.Cnf.{Cnf}
use Rattle.sat_formula.specs.Lit.{lit_value, IsBelow}
use Rattle.sat_formula.specs.Formula.{Satisfies, HasValue, Grows as FormulaGrows}
use Rattle.sat_formula.proofs.Extension.{Satisfies-older}
use Rattle.tla_values.specs.Order.{same_value}
use Rattle.tla_values.specs.Sets.{set_of}
use Rattle.tla_values.specs.declared.value.Value.{Value}
use Rattle.tla_meaning.specs.Meaning.{kept}
use Rattle.cell_arena.specs.declared.kinds.CellId.{CellId}
use Rattle.cell_arena.specs.declared.kinds.CellKind.{CellKind}
use Rattle.cell_arena.specs.Cells.{Cells as Arena}
use Rattle.cell_arena.specs.Decode.{decode, present}
use Rattle.cell_merge.specs.Edges.{any_edge}
use Rattle.cell_merge.specs.Sorts.{Sort, OfSort}
use Rattle.cell_merge.proofs.Chosen.{set_of-same}
use Rattle.cell_merge.proofs.Edges.{any-present}
use Rattle.cell_merge.proofs.Unions.{AreNamed-later, any-push as edge-push}
use Rattle.outcome_cells.specs.Bits.{AreBits}
use Rattle.outcome_cells.specs.declared.cells.Cells.{Cells}
use Rattle.outcome_cells.specs.declared.cells.Faults.{Faults}
use Rattle.typed_cells.specs.KindSorts.{OfSorts}
use Rattle.member_choices.specs.declared.choice.Choice.{Choice}
use Rattle.member_choices.specs.Choices.{ChoicesOfOne, any_choice}
use Rattle.member_choices.specs.inner.Tests.{JoinsBodies, KeepsChoices, KeepsMembers, TestsChoices, first_passes}
use Rattle.member_choices.proofs.Joined.{bits-test, joins-later, turned-same}
use Rattle.member_choices.proofs.Testing.{any-more}

-- the set of the edges that are there, by the tests that find one
pub set-found : (a : List Bool) (of : CellId → Value) (out : List (Lit × CellId)) (xs : List Value) →
    ((p : Value → Bool) → any_edge a of p out ≡ list_any p xs) → set_of (present a of out) ≡ set_of xs
set-found a of out xs h = set_of-same (present a of out) xs (λ v. any-present (same_value v) a of out
    ∙ h (same_value v))

-- what is kept passes a test where a choice passes both
pub kept-any : (t : List Value → Bool) (p : Value → Bool) (vss : List (List Value)) →
    list_any p (kept vss (map t vss)) ≡ list_any (λ vs. t vs && first_passes p vs) vss
kept-any t p [] = refl
kept-any t p ([] ∷ vss) = skip (t []) ∙ kept-any t p vss
    ∙ sym (off (t []) (list_any (λ vs. t vs && first_passes p vs) vss))
  where
    skip : (b : Bool) → list_any p (kept ([] ∷ vss) (b ∷ map t vss)) ≡ list_any p (kept vss (map t vss))
    skip true = refl
    skip false = refl

    off : (b r : Bool) → ((b && false) || r) ≡ r
    off true r = refl
    off false r = refl
kept-any t p ((v ∷ vs) ∷ vss) = split (t (v ∷ vs)) (kept-any t p vss)
  where
    split : (b : Bool) → list_any p (kept vss (map t vss)) ≡ list_any (λ vs. t vs && first_passes p vs) vss →
        list_any p (kept ((v ∷ vs) ∷ vss) (b ∷ map t vss)) ≡
        ((b && p v) || list_any (λ vs. t vs && first_passes p vs) vss)
    split true h = ap (λ x. p v || x) h
    split false h = h

-- ---- the loop over choices of one cell

-- the only cell of a choice of one
first-cell : (of : CellId → Value) (p : Value → Bool) (xs : List CellId) (d : CellId) → length xs ≡ 1 →
    first_passes p (map of xs) ≡ p (of (get_or xs 0 d))
first-cell of p [] d n = absurd (omega arith)
first-cell of p (x ∷ xs) d n = refl

first-sort : (ks : List CellKind) (s : Sort) (xs : List CellId) (d : CellId) → OfSorts ks (s ∷ []) xs →
    OfSort ks s (get_or xs 0 d)
first-sort ks s [] d h = absurd h
first-sort ks s (x ∷ xs) d h = h.0

module _ (f g : Cnf) (cs : List Choice) (ls : List Lit) (out : List (Lit × CellId)) (i : ℕ) (d : Choice) (e both : Lit)
    (x : CellId)
    (lt : i < length cs) (alone : All (λ (c : Choice). length c.cells ≡ 1) cs) (grows : FormulaGrows f g)
    (old : KeepsChoices f cs (take i cs) ls out)
    (gate : HasValue g both (λ a. lit_value (get_or cs i d).there a && lit_value (get_or ls i e) a)) where
  -- one choice more, with what the edge to its cell does
  step : (a : List Bool) → Satisfies a g → (of : CellId → Value) (t : List Value → Bool) → TestsChoices a of cs ls t →
      (p : Value → Bool) →
      (any_edge a of p out || (lit_value both a && p (of (get_or (get_or cs i d).cells 0 x)))) ≡
      any_choice a of (λ vs. t vs && first_passes p vs) (take (i + 1) cs)
  unfolding TestsChoices
  step a s of t h p =
      let cells : List CellId = (get_or cs i d).cells in
      ap (λ b. b || (lit_value both a && p (of (get_or cells 0 x))))
      (old.members a (Satisfies-older f g a grows s) of t h p)
      ∙ ap (λ b. any_choice a of (λ vs. t vs && first_passes p vs) (take i cs) || b)
      (ap (λ b. b && p (of (get_or cells 0 x))) (gate.value a s)
      ∙ ap (λ b. (lit_value (get_or cs i d).there a && lit_value (get_or ls i e) a) && b)
      (sym (first-cell of p cells x (alone i d lt)))
      ∙ here (lit_value (get_or cs i d).there a) (lit_value (get_or ls i e) a) (t (map of cells))
      (first_passes p (map of cells)) (h i d e lt))
      ∙ sym (any-more a of (λ vs. t vs && first_passes p vs) cs i d lt)
    where
      here : (l y z q : Bool) → (l ≡ true → y ≡ z) → ((l && y) && q) ≡ (l && (z && q))
      here true y z q k = ap (λ w. w && q) (k refl)
      here false y z q k = refl

  pub keeps-passed : ((a : List Bool) → Satisfies a g → lit_value both a ≡ false) →
      KeepsChoices g cs (take (i + 1) cs) ls out
  keeps-passed off = record {
    named = AreNamed-later f.vars g.vars out old.named grows.vars;
    sorts = old.sorts;
    members = λ a s of t h p.
        none (any_edge a of p out) (lit_value both a) (p (of (get_or (get_or cs i d).cells 0 x))) (off a s)
        ∙ step a s of t h p;
  }
    where
      none : (t q r : Bool) → q ≡ false → t ≡ (t || (q && r))
      none t q r e = grind arith

  pub keeps-push : (after : List (Lit × CellId)) (again : Choice) →
      after ≡ out ++ (both, get_or (get_or cs i again).cells 0 x) ∷ [] →
      KeepsChoices g cs (take (i + 1) cs) ls after
  keeps-push after again pushed_again =
      let pushed : after ≡ out ++ (both, get_or (get_or cs i d).cells 0 x) ∷ [] =
      pushed_again ∙ ap (λ (c : Choice). out ++ (both, get_or c.cells 0 x) ∷ []) (get_or_default cs i again d lt) in
      record {
        named = rw pushed (All-push (λ (e : Lit × CellId). IsBelow g.vars e.0) out
            (both, get_or (get_or cs i d).cells 0 x)
            (AreNamed-later f.vars g.vars out old.named grows.vars) gate.below);
        sorts = λ ks s h. rw pushed (All-push (λ (e : Lit × CellId). OfSort ks s e.1) out
            (both, get_or (get_or cs i d).cells 0 x)
            (old.sorts ks s h) (first-sort ks s (get_or cs i d).cells x (h i d lt)));
        members = λ a s of t h p.
            ap (any_edge a of p) pushed ∙ edge-push a of p out (both, get_or (get_or cs i d).cells 0 x)
            ∙ step a s of t h p;
      }

-- ---- the members at which the body is true

pub ones : (ks : List CellKind) (cs : List Choice) → ChoicesOfOne ks cs → All (λ (c : Choice). length c.cells ≡ 1) cs
ones ks cs h = λ i d lt. one (get_or cs i d).cells (h.are i d lt)
  where
    one : (xs : List CellId) → OfSorts ks (h.sort ∷ []) xs → length xs ≡ 1
    one [] k = absurd k
    one (x ∷ []) k = refl
    one (x ∷ y ∷ xs) k = absurd k.1

pub keeps-members : (c : Arena) (f g : Cnf) (cs : List Choice) (bodies : List Cells) (ls : List Lit)
    (out : List (Lit × CellId)) (r : Faults) →
    length bodies ≡ length cs → FormulaGrows f g → JoinsBodies f cs bodies r → AreBits c bodies ls →
    KeepsChoices g cs cs ls out →
    KeepsMembers c g cs bodies out r
keeps-members c f g cs bodies ls out r n grows joins bits keeps = record {
  joins = joins-later f g cs bodies r grows joins;
  named = keeps.named;
  sorts = λ s h. keeps.sorts c.kinds s h;
  members = λ a s t have p. keeps.members a s (decode c a) t
      (bits-test c a cs bodies true ls t n (turned-same c bodies ls bits) have) p;
}
