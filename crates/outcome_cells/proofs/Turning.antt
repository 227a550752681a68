-- Operands from the left: one more in front of a conjunction and of a disjunction.
use Rattle.std.proofs.Common.{◌≡◌, ℕ, ◌+◌, ◌<◌, Bool, true, false, not, ◌&&◌, ◌||◌, List, [], ◌∷◌, drop, length, map, get_or, refl, sym, ◌∙◌, ap, subst, arith}
use Rattle.std.specs.Prelude.{if◌then◌else◌}
use Rattle.std.proofs.lemmas.List.{drop_more}
use Rattle.sat_formula.specs.declared.cnf.Cnf.{Cnf}
use Rattle.sat_formula.specs.declared.lit.Lit.{Lit}
use Rattle.sat_formula.specs.Formula.{Grows, HasValue, Satisfies}
use Rattle.sat_formula.specs.Lit.{lit_value}
use Rattle.sat_formula.proofs.Extension.{Satisfies-older}
use Rattle.sat_formula.proofs.GateClauses.{lit_value-negation}
use Rattle.tla_values.specs.declared.value.Value.{Value}
use Rattle.tla_values.specs.declared.value.Value.TheVariants as value
use Rattle.tla_meaning.specs.declared.outcome.Outcome.{Outcome}
use Rattle.tla_meaning.specs.declared.place.Place.{Place}
use Rattle.tla_meaning.specs.Meaning.{conjoined, disjoined}
use Rattle.tla_meaning.specs.Operators.{yes_no}
use Rattle.cell_arena.specs.declared.build.Build.{Build}
use Rattle.cell_arena.specs.declared.kinds.CellId.{CellId}
use Rattle.cell_arena.specs.declared.kinds.CellKind.TheVariants.{Bit}
use Rattle.cell_arena.specs.Cells.{Cells as Arena}
use Rattle.cell_arena.specs.Growth.{Adds, Decodes, Grows as BuildGrows}
use Rattle.cell_arena.proofs.Growing.{Satisfies-before}
use Rattle.cell_merge.proofs.SortLaws.{sort-bit}
use Rattle.outcome_cells.specs.declared.cells.Cells.{Cells}
use Rattle.outcome_cells.specs.declared.cells.Faults.{Faults}
use Rattle.outcome_cells.specs.Bits.{AreBits}
use Rattle.outcome_cells.specs.Shown.{Shown}
use Rattle.outcome_cells.specs.Shows.{cell_values}
use Rattle.outcome_cells.specs.Turns.{ShowInTurn, TakesInTurn, junction}
use Rattle.outcome_cells.specs.inner.Turns.{ShowsTurns, TurnsTo, junction_value}
use Rattle.outcome_cells.proofs.Showing.{chosen, shown_as}
use Rattle.outcome_cells.proofs.Yielding.{sure_shown}

known_shown : (b : Bool) → Shown false false (value.Bool b) (yes_no b)
known_shown b = sure_shown (value.Bool b) (value.Bool b) refl

module _ (w b t w2 b2 u : Bool) (p : Place) (o : Outcome) (os : List Outcome) (first : Shown w b (value.Bool t) o) where
  -- the others are asked where the first is TRUE
  and_turn : (o ≡ yes_no true → Shown w2 b2 (value.Bool u) (conjoined p os)) →
      Shown (w || (not b && (t && w2))) (b || (not w && (t && b2))) (value.Bool (t && u)) (conjoined p (o ∷ os))
  and_turn rest =
      let s = chosen w b t w2 b2 false false (value.Bool u) (value.Bool false) p o (conjoined p os) (yes_no false) first
      (λ e i. rest (e ∙ ap yes_no i)) (λ e i. known_shown false) in
      shown_as _ _ _ _ _ _ (conjoined p (o ∷ os)) (ap (λ x. w || (not b && x)) (guarded t w2))
      (ap (λ x. b || (not w && x)) (guarded t b2)) (bit t) s
    where
      guarded : (t x : Bool) → (if t then x else false) ≡ (t && x)
      guarded true x = refl
      guarded false x = refl

      bit : (t : Bool) → (if t then value.Bool u else value.Bool false) ≡ value.Bool (t && u)
      bit true = refl
      bit false = refl

  -- and here where it is FALSE
  or_turn : (o ≡ yes_no false → Shown w2 b2 (value.Bool u) (disjoined p os)) →
      Shown (w || (not b && (not t && w2))) (b || (not w && (not t && b2))) (value.Bool (t || u)) (disjoined p (o ∷ os))
  or_turn rest =
      let s = chosen w b t false false w2 b2 (value.Bool true) (value.Bool u) p o (yes_no true) (disjoined p os) first
      (λ e i. known_shown true) (λ e i. rest (e ∙ ap yes_no i)) in
      shown_as _ _ _ _ _ _ (disjoined p (o ∷ os)) (ap (λ x. w || (not b && x)) (guarded t w2))
      (ap (λ x. b || (not w && x)) (guarded t b2)) (bit t) s
    where
      guarded : (t x : Bool) → (if t then false else x) ≡ (not t && x)
      guarded true x = refl
      guarded false x = refl

      bit : (t : Bool) → (if t then value.Bool true else value.Bool u) ≡ value.Bool (t || u)
      bit true = refl
      bit false = refl

-- the literal, or its negation where FALSE is wanted
abbrev pub wanted_literal : Bool → Lit → Lit
wanted_literal t l = if t then l else record { var = l.var; neg = not l.neg }

-- one operand in front
turn_shown : (t : Bool) (a : List Bool) (w b w2 b2 : Bool) (l : Lit) (ls : List Lit) (p : Place) (o : Outcome)
    (os : List Outcome) → Shown w b (value.Bool (lit_value l a)) o →
    (o ≡ yes_no t → Shown w2 b2 (value.Bool (junction_value t a ls)) (junction t p os)) →
    Shown (w || (not b && (lit_value (wanted_literal t l) a && w2))) (b || (not w && (lit_value (wanted_literal t l) a && b2)))
    (value.Bool (junction_value t a (l ∷ ls))) (junction t p (o ∷ os))
turn_shown true a w b w2 b2 l ls p o os first rest =
    and_turn w b (lit_value l a) w2 b2 (junction_value true a ls) p o os first rest
turn_shown false a w b w2 b2 l ls p o os first rest =
    rw (lit_value-negation l a) (or_turn w b (lit_value l a) w2 b2 (junction_value false a ls) p o os first rest)

-- of no operand
pub turns-none : (f : Cnf) (t : Bool) (bottom : Lit) → bottom.var < f.vars →
    ((a : List Bool) → Satisfies a f → lit_value bottom a ≡ false) →
    ShowsTurns f t [] [] (record { wrong = bottom; big = bottom })
turns-none f t bottom lt h = record {
  below = record { wrong = lt; big = lt };
  shows = λ a s c p os e turn. none a c p t os (h a s) turn;
}
  where
    none : (a : List Bool) (c : Arena) (p : Place) (t : Bool) (os : List Outcome) → lit_value bottom a ≡ false →
        ShowInTurn t c a [] os →
        Shown (lit_value bottom a) (lit_value bottom a) (value.Bool (junction_value t a [])) (junction t p os)
    none a c p t (o ∷ os) e turn = absurd turn
    none a c p true [] e turn = rw e (known_shown true)
    none a c p false [] e turn = rw e (known_shown false)

heads : (v w : Value) (vs ws : List Value) → v ∷ vs ≡ w ∷ ws → v ≡ w
heads v w vs ws e = cc

tails : (v w : Value) (vs ws : List Value) → v ∷ vs ≡ w ∷ ws → vs ≡ ws
tails v w vs ws e = cc

-- the literals of an operand before those of the others, where it goes on to these
abbrev pub front_wrong : Bool → Cells → Lit → Faults → List Bool → Bool
front_wrong t x l rest a =
    lit_value x.wrong a || (not (lit_value x.big a) && (lit_value (wanted_literal t l) a && lit_value rest.wrong a))

abbrev pub front_big : Bool → Cells → Lit → Faults → List Bool → Bool
front_big t x l rest a =
    lit_value x.big a || (not (lit_value x.wrong a) && (lit_value (wanted_literal t l) a && lit_value rest.big a))

-- of one more in front
pub turns-front : (f g : Cnf) (t : Bool) (x : Cells) (xs : List Cells) (l : Lit) (ls : List Lit) (rest r : Faults) →
    Grows f g → ShowsTurns f t xs ls rest → HasValue g r.wrong (front_wrong t x l rest) →
    HasValue g r.big (front_big t x l rest) → ShowsTurns g t (x ∷ xs) (l ∷ ls) r
turns-front f g t x xs l ls rest r grows h p q = record {
  below = record { wrong = p.below; big = q.below };
  shows = λ a s c at os e turn. front a (Satisfies-older f g a grows s) c at os e turn (p.value a s) (q.value a s);
}
  where
    front : (a : List Bool) → Satisfies a f → (c : Arena) (at : Place) (os : List Outcome)
        → cell_values c a (x ∷ xs) ≡ map (λ l. value.Bool (lit_value l a)) (l ∷ ls) → ShowInTurn t c a (x ∷ xs) os
        → lit_value r.wrong a ≡ front_wrong t x l rest a → lit_value r.big a ≡ front_big t x l rest a
        → Shown (lit_value r.wrong a) (lit_value r.big a) (value.Bool (junction_value t a (l ∷ ls))) (junction t at os)
    front a s c at [] e turn w b = absurd turn
    front a s c at (o ∷ os) e turn w b =
        let first : Shown (lit_value x.wrong a) (lit_value x.big a) (value.Bool (lit_value l a)) o =
        subst (λ v. Shown (lit_value x.wrong a) (lit_value x.big a) v o) (heads _ _ _ _ e) turn.0.shown in
        shown_as _ _ _ _ _ _ (junction t at (o ∷ os)) (sym w) (sym b) refl
        (turn_shown t a _ _ _ _ l ls at o os first (λ i. h.shows a s c at os (tails _ _ _ _ e) (turn.1 i)))

-- so the operands from the last one on, by one more
pub turns-step : (f g : Cnf) (t : Bool) (xs : List Cells) (ls : List Lit) (k : ℕ) (x : Cells) (l : Lit) (rest r : Faults)
    → Grows f g → k < length xs → k < length ls → ShowsTurns f t (drop (k + 1) xs) (drop (k + 1) ls) rest
    → HasValue g r.wrong (front_wrong t (get_or xs k x) (get_or ls k l) rest)
    → HasValue g r.big (front_big t (get_or xs k x) (get_or ls k l) rest) → ShowsTurns g t (drop k xs) (drop k ls) r
turns-step f g t xs ls k x l rest r grows lt le h p q =
    subst (λ ys. ShowsTurns g t ys (drop k ls) r) (sym (drop_more xs k x lt))
    (subst (λ ms. ShowsTurns g t (get_or xs k x ∷ drop (k + 1) xs) ms r) (sym (drop_more ls k l le))
    (turns-front f g t (get_or xs k x) (drop (k + 1) xs) (get_or ls k l) (drop (k + 1) ls) rest r grows h p q))

-- of all operands, with the literal of their values
pub turned : (c : Arena) (f g : Cnf) (t : Bool) (xs : List Cells) (ls : List Lit) (r : Faults) (bit : Lit) →
    Grows f g → AreBits c xs ls →
    ShowsTurns f t xs ls r → HasValue g bit (λ a. junction_value t a ls) → TurnsTo c g t xs r bit
turned c f g t xs ls r bit grows bits h v = record {
  faults = let p = h.below.wrong in let q = h.below.big in let n = grows.vars in record { wrong = omega arith; big = omega arith };
  below = v.below;
  shows = λ a s p os turn.
      shown_as _ _ _ _ _ _ (junction t p os) refl refl (ap (λ u. value.Bool u) (sym (v.value a s)))
      (h.shows a (Satisfies-older f g a grows s) c p os (bits.values a) turn);
}

-- with a cell of that literal
pub turn_taken : (old mid new : Build) (t : Bool) (xs : List Cells) (r : Faults) (bit : Lit) (id : CellId) →
    BuildGrows mid new →
    TurnsTo old.arena mid.formula t xs r bit → Adds mid new (Bit bit) id → Decodes new id (λ a. value.Bool (lit_value bit a)) →
    TakesInTurn old new t xs (record { cell = id; wrong = r.wrong; big = r.big })
turn_taken old mid new t xs r bit id grows h adds decodes = record {
  cells = let n = grows.formula.vars in let w = h.faults.wrong in let b = h.faults.big in
      record { sort = sort-bit mid new bit id adds; wrong = omega arith; big = omega arith };
  shows = λ a s p os turn.
      record {
        shown = shown_as _ _ _ _ _ _ (junction t p os) refl refl (sym (decodes.value a s))
            (h.shows a (Satisfies-before mid new a grows s) p os turn);
      };
}
