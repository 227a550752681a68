-- Equal items have equal keys.
use Rattle.std.proofs.Common.{◌≡◌, ◌∙◌, ◌==◌, ◌+◌, ◌*◌, ◌⊎◌, ◌≢◌, ℕ, false, true, ap, sym, inl, inr}
use Rattle.std.proofs.lemmas.Bool.{and_parts, false≢true}
use Rattle.std.proofs.lemmas.Bool.Decides.{eqb_tells}
use Rattle.std.specs.Prelude.{◌&&◌}
use Rattle.tla_meaning.specs.declared.expr.Expr.{out-Expr}
use Rattle.tla_meaning.specs.declared.place.Place.{Place}
use Rattle.tla_meaning.specs.Flattening as flat
use Rattle.tla_meaning.specs.Symbols.{same_place}
use Rattle.flat_modules.specs.declared.items.Item.{Item}
use Rattle.flat_modules.specs.declared.items.Item.TheVariants.{Declares, Defines, Assumes}
use Rattle.flat_modules.specs.inner.Items.{item_of}
use Rattle.flat_modules.specs.inner.Places.{item_key, key_of, place_key}
use Rattle.flat_modules.proofs.Names.{same_is}

same_number : (a b : ℕ) → (a == b) ≡ true → a ≡ b
same_number a b h = step (eqb_tells a b)
  where
    step : (((a == b) ≡ true) × (a ≡ b)) ⊎ (((a == b) ≡ false) × (a ≢ b)) → a ≡ b
    step (inl e) = e.1
    step (inr e) = absurd (false≢true (sym e.0 ∙ h))

same_key : (p q : Place) → same_place p q ≡ true → place_key q ≡ place_key p
same_key p q h =
    let all = and_parts (p.file == q.file && p.line == q.line) (p.col == q.col) h in
    let two = and_parts (p.file == q.file) (p.line == q.line) all.0 in
    sym (ap (λ x. (x * 31 + p.line) * 31 + p.col) (same_number p.file q.file two.0)
    ∙ ap (λ x. (q.file * 31 + x) * 31 + p.col) (same_number p.line q.line two.1)
    ∙ ap (λ x. (q.file * 31 + q.line) * 31 + x) (same_number p.col q.col all.1))

pub same_item_key : (i j : Item) → flat.same_item (item_of i) (item_of j) ≡ true → item_key j ≡ item_key i
same_item_key (Declares d) (Declares e) h = ap key_of (sym (same_is d.name e.name h))
same_item_key (Declares d) (Defines e) h = absurd (false≢true h)
same_item_key (Declares d) (Assumes e) h = absurd (false≢true h)
same_item_key (Defines d) (Declares e) h = absurd (false≢true h)
same_item_key (Defines d) (Defines e) h = ap key_of (sym (same_is d.name e.name h))
same_item_key (Defines d) (Assumes e) h = absurd (false≢true h)
same_item_key (Assumes d) (Declares e) h = absurd (false≢true h)
same_item_key (Assumes d) (Defines e) h = absurd (false≢true h)
same_item_key (Assumes d) (Assumes e) h = same_key (out-Expr d).place (out-Expr e).place h
