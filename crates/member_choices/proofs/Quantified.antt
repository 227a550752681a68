-- The two quantifiers, by the one literal that finds a body.
use Rattle.std.proofs.Common.{◌≡◌, Bool, true, false, not, List, map, ap, ◌∙◌, arith}
use Rattle.std.specs.Prelude.{if◌then◌else◌}
use Rattle.std.specs.List.{list_any, list_all}
use Rattle.sat_formula.specs.declared.lit.Lit.{Lit}
use Rattle.sat_formula.specs.Lit.{lit_value}
use Rattle.sat_formula.specs.Formula.{Satisfies}
use Rattle.tla_values.specs.declared.value.Value.{Value}
use Rattle.tla_values.specs.declared.value.Value.TheVariants as value
use Rattle.tla_meaning.specs.declared.op.Op.TheVariants as op
use Rattle.tla_meaning.specs.declared.outcome.Fault.TheVariants.{NoFault}
use Rattle.tla_meaning.specs.declared.outcome.Outcome.{Outcome}
use Rattle.tla_meaning.specs.Outcomes.{joined}
use Rattle.cell_arena.specs.declared.build.Build.{Build}
use Rattle.cell_arena.specs.declared.kinds.CellId.{CellId}
use Rattle.cell_arena.specs.declared.kinds.CellKind.TheVariants.{Bit}
use Rattle.cell_arena.specs.Decode.{decode}
use Rattle.cell_arena.specs.Growth.{Adds, Decodes, Grows}
use Rattle.cell_arena.proofs.Growing.{Satisfies-before}
use Rattle.cell_merge.specs.Sorts.{truth}
use Rattle.cell_merge.proofs.SortLaws.{sort-bit}
use Rattle.outcome_cells.specs.declared.cells.Cells.{Cells}
use Rattle.outcome_cells.specs.declared.cells.Faults.{Faults}
use Rattle.outcome_cells.specs.Shown.{ShownFault}
use Rattle.outcome_cells.specs.Shows.{AreCells}
use Rattle.outcome_cells.proofs.Joining.{val_of}
use Rattle.member_choices.specs.declared.choice.Choice.{Choice}
use Rattle.member_choices.specs.Binders.{Binds}
use Rattle.member_choices.specs.Choices.{AreBodies, AreChoices, BodiesShow}
use Rattle.member_choices.specs.inner.Tests.{AreOver, FindsBody}
use Rattle.member_choices.proofs.BinderRows.{every_shown, is_true, is_truth, some_shown}
use Rattle.member_choices.proofs.Joined.{all-truths, truths-had, values-shown}
use Rattle.member_choices.proofs.Testing.{not-any}

-- bodies over a build are bodies over its arena
pub are-over : (b : Build) (cs : List Choice) (bodies : List Cells) → AreBodies b truth cs bodies →
    AreOver b.arena.kinds b.formula.vars truth cs bodies
are-over b cs bodies h = record {
  below = h.below;
  count = h.count;
  named = λ i d lt. let p = h.cells i d lt in record { wrong = p.wrong; big = p.big };
  cells = λ i d lt. (h.cells i d lt).sort;
}

module _ (old mid new : Build) (cs : List Choice) (bodies : List Cells) (wanted : Bool) (l m : Lit) (faults : Faults)
    (id : CellId)
    (are : AreBodies old truth cs bodies) (same : mid.arena ≡ old.arena)
    (finds : FindsBody old.arena mid.formula cs bodies wanted (l, faults)) (grows : Grows mid new)
    (adds : Adds mid new (Bit m) id) (decodes : Decodes new id (λ a. value.Bool (lit_value m a))) where
  pub quantifier-cells : (r : Cells) → r.cell ≡ id → r.wrong ≡ faults.wrong → r.big ≡ faults.big → AreCells new truth r
  quantifier-cells r is_cell is_wrong is_big = let g = grows.formula.vars in let w = finds.joins.below.wrong in
      let b = finds.joins.below.big in record {
        sort = rw is_cell (sort-bit mid new m id adds);
        wrong = rw is_wrong (omega arith);
        big = rw is_big (omega arith);
      }

  -- the value of the literal, where no body has a fault
  found : (a : List Bool) → Satisfies a mid.formula → (vss : List (List Value)) (body : List Value → Outcome) →
      AreChoices a (decode old.arena a) cs vss → BodiesShow old.arena a cs bodies body →
      joined (map body vss) ≡ NoFault →
      lit_value l a ≡ list_any (λ vs. if wanted then is_true (val_of (body vs)) else not (is_true (val_of (body vs))))
      vss
  found a s vss body choices show calm =
      finds.value a s (λ vs. is_true (val_of (body vs)))
      (truths-had old.arena a cs bodies (λ vs. val_of (body vs)) old.built (are-over old cs bodies are).cells are.count
      (values-shown old.arena a cs bodies body vss are.count choices show calm))
      ∙ choices (λ vs. if wanted then is_true (val_of (body vs)) else not (is_true (val_of (body vs))))

  kinds : (a : List Bool) (vss : List (List Value)) (body : List Value → Outcome) →
      AreChoices a (decode old.arena a) cs vss → BodiesShow old.arena a cs bodies body →
      joined (map body vss) ≡ NoFault →
      list_all is_truth (map (λ vs. val_of (body vs)) vss) ≡ true
  kinds a vss body choices show calm =
      all-truths old.arena a cs bodies (λ vs. val_of (body vs)) old.built (are-over old cs bodies are).cells are.count
      (values-shown old.arena a cs bodies body vss are.count choices show calm) vss choices

  fault : (a : List Bool) → Satisfies a mid.formula → (vss : List (List Value)) (body : List Value → Outcome) →
      AreChoices a (decode old.arena a) cs vss → BodiesShow old.arena a cs bodies body →
      ShownFault (lit_value faults.wrong a) (lit_value faults.big a) (joined (map body vss))
  fault a s vss body choices show = (finds.joins.shows a s old.arena vss body choices show).shown

  pub some-binds : wanted ≡ true → m ≡ l → Binds old new op.Exists cs bodies
      (record { cell = id; wrong = faults.wrong; big = faults.big })
  some-binds is is_m = record {
    shows = λ a s p vss body choices show.
        let s0 = Satisfies-before mid new a grows s in
        record {
          shown = rw (decodes.value a s) (some_shown _ _ body vss (fault a s0 vss body choices show) p (lit_value m a)
              (λ e. kinds a vss body choices show e)
              (λ e. ap (λ x. lit_value x a) is_m ∙ found a s0 vss body choices show e
              ∙ ap (λ (t : Bool). list_any (λ vs. if t then is_true (val_of (body vs)) else not
              (is_true (val_of (body vs)))) vss) is));
        };
  }

  pub every-binds : wanted ≡ false → ((a : List Bool) → lit_value m a ≡ not (lit_value l a)) →
      Binds old new op.Forall cs bodies (record { cell = id; wrong = faults.wrong; big = faults.big })
  every-binds is turned = record {
    shows = λ a s p vss body choices show.
        let s0 = Satisfies-before mid new a grows s in
        record {
          shown = rw (decodes.value a s) (every_shown _ _ body vss (fault a s0 vss body choices show) p (lit_value m a)
              (λ e. kinds a vss body choices show e)
              (λ e. turned a ∙ ap not (found a s0 vss body choices show e
              ∙ ap (λ (t : Bool). list_any (λ vs. if t then is_true (val_of (body vs)) else not
              (is_true (val_of (body vs)))) vss) is)
              ∙ not-any (λ vs. is_true (val_of (body vs))) vss));
        };
  }
