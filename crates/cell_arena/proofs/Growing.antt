-- The laws of growth.
use Rattle.std.proofs.Common.{◌≡◌, ℕ, ◌<◌, ◌≤◌, Bool, true, false, ◌&&◌, IsTrue, List, [], ◌∷◌, ◌++◌, length, All, get_or, refl, sym, ◌∙◌, ap, subst, arith, append_assoc, Result, Ok, Err, OnOk, OnErr}
use Rattle.std.specs.List.{list_all}
use Rattle.std.proofs.lemmas.List.{append-nil, get_or_append_left, get_or_default, length_push}
use Rattle.std.proofs.lemmas.List.Folds.{list_all-append}
use Rattle.sat_formula.specs.declared.cnf.Cnf.{Cnf}
use Rattle.sat_formula.specs.Formula.{Satisfies, Grows as FormulaGrows}
use Rattle.sat_formula.proofs.Extension.{Satisfies-older, Grows-refl as formula-refl, Grows-trans as formula-trans}
use Rattle.tla_values.specs.declared.value.Value.{Value}
use Rattle.cell_arena.specs.declared.kinds.CellId.{CellId}
use Rattle.cell_arena.specs.declared.kinds.CellKind.{CellKind}
use Rattle.cell_arena.specs.declared.kinds.CellKind.TheVariants.{Bit}
use Rattle.cell_arena.specs.declared.build.Build.{Build}
use Rattle.cell_arena.specs.Cells.{Cells, IsHeld, NamesBelow, InRange, in_range, kind_at}
use Rattle.cell_arena.specs.Decode.{decode, kind_value}
use Rattle.cell_arena.specs.Growth.{Keeps, Grows, Decodes}
use Rattle.cell_arena.proofs.Held.{NamesBelow-later}
use Rattle.cell_arena.proofs.Assigned.{decode-append}
use Rattle.cell_arena.specs.inner.Places.{IsOfKind}
use Rattle.cell_arena.proofs.Decoding.{decode-kind, decode-older, decode-newest}

pub Keeps-refl : (c : Cells) → Keeps c c
unfolding Keeps
Keeps-refl c = record { kinds = ([], sym (append-nil c.kinds)); texts = refl; width = refl }

pub Keeps-trans : (c d e : Cells) → Keeps c d → Keeps d e → Keeps c e
unfolding Keeps
Keeps-trans c d e p q = record {
  kinds = (p.kinds.0 ++ q.kinds.0, q.kinds.1 ∙ rw p.kinds.1 (append_assoc c.kinds p.kinds.0 q.kinds.0));
  texts = q.texts ∙ p.texts;
  width = q.width ∙ p.width;
}

pub Keeps-push : (c d : Cells) (k : CellKind) → d.kinds ≡ c.kinds ++ k ∷ [] → d.texts ≡ c.texts → d.width ≡ c.width → Keeps c d
unfolding Keeps
Keeps-push c d k e t w = record { kinds = (k ∷ [], e); texts = t; width = w }

-- a longer formula alone
pub Grows-formula : (b c : Build) → FormulaGrows b.formula c.formula → c.arena ≡ b.arena → Grows b c
Grows-formula b c g e = record {
  formula = g;
  longer = rw e (omega arith);
  keeps = rw e (Keeps-refl b.arena);
}

pub Grows-refl : (b : Build) → Grows b b
Grows-refl b = Grows-formula b b (formula-refl b.formula) refl

pub Grows-trans : (b c d : Build) → Grows b c → Grows c d → Grows b d
Grows-trans b c d p q = record {
  formula = formula-trans b.formula c.formula d.formula p.formula q.formula;
  longer = let m = p.longer in let n = q.longer in omega arith;
  keeps = Keeps-trans b.arena c.arena d.arena p.keeps q.keeps;
}

-- what satisfies the new satisfies the old
pub Satisfies-before : (b c : Build) (a : List Bool) → Grows b c → Satisfies a c.formula → Satisfies a b.formula
Satisfies-before b c a g s = Satisfies-older b.formula c.formula a g.formula s

-- an older cell keeps its value
pub decode-before : (b c : Build) (a : List Bool) (id : CellId) → Grows b c → id.index < length b.arena.kinds → decode c.arena a id ≡ decode b.arena a id
unfolding Keeps
decode-before b c a id g lt = decode-older b.arena c.arena g.keeps.kinds.0 a id g.keeps.kinds.1 g.keeps.texts lt

-- and its kind
pub kind-before : (b c : Build) (id : CellId) → Grows b c → id.index < length b.arena.kinds → kind_at c.arena.kinds id ≡ kind_at b.arena.kinds id
unfolding Keeps
kind-before b c id g lt = ap (λ ks. kind_at ks id) g.keeps.kinds.1 ∙ get_or_append_left b.arena.kinds g.keeps.kinds.0 (Bit (record { var = 0; neg = false })) id.index lt

-- what a cell decodes to stays so
pub Decodes-later : (b c : Build) (id : CellId) (v : List Bool → Value) → Decodes b id v → Grows b c → Decodes c id v
Decodes-later b c id v d g = record {
  there = let p = d.there in let q = g.longer in omega arith;
  value = λ a s. decode-before b c a id g d.there ∙ d.value a (Satisfies-before b c a g s);
}

-- what a cell decodes to, said in another way
pub Decodes-same : (b : Build) (id : CellId) (p q : List Bool → Value) → Decodes b id p → ((a : List Bool) → Satisfies a b.formula → p a ≡ q a) → Decodes b id q
Decodes-same b id p q d e = record { there = d.there; value = λ a s. d.value a s ∙ e a s }

-- codes and lengths stay in range as the formula grows
pub InRange-later : (c : Cells) (f g : Cnf) → InRange c f → FormulaGrows f g → InRange c g
unfolding InRange
InRange-later c f g h e = λ a s. h a (Satisfies-older f g a e s)

both : (p q : Bool) → IsTrue p → IsTrue q → IsTrue (p && q)
both true q h k = k
both false q h k = absurd (cc)

-- and with one more cell in range
pub InRange-push : (c d : Cells) (f : Cnf) (k : CellKind) → d.kinds ≡ c.kinds ++ k ∷ [] → d.texts ≡ c.texts → InRange c f → ((a : List Bool) → Satisfies a f → IsTrue (in_range (length c.texts) a k)) → InRange d f
unfolding InRange
InRange-push c d f k e t h one = λ a s.
    let test : CellKind → Bool = in_range (length c.texts) a in
    let last : IsTrue (list_all test (k ∷ [])) = both (test k) true (one a s) refl in
    rw (e, t, list_all-append) (both (list_all test c.kinds) (list_all test (k ∷ [])) (h a s) last)

pub ruleset growing = (Grows-refl, Grows-trans, Satisfies-before, InRange-later)

pub InRange-none : (c : Cells) (f : Cnf) → c.kinds ≡ [] → InRange c f
unfolding InRange
InRange-none c f e = λ a s. rw e refl

-- what a push leaves, refused or not
module _ {A : Type 0} {E : Type 0} (c d : Cells) (k : CellKind) (vars : ℕ) where
  pub InRange-after : (r : Result A E) (f : Cnf) → OnOk r (d ≡ record { texts = c.texts; width = c.width; kinds = c.kinds ++ k ∷ []; vars = vars }) → OnErr r (d ≡ c)
      → InRange c f → ((a : List Bool) → Satisfies a f → IsTrue (in_range (length c.texts) a k)) → InRange d f
  InRange-after (Ok x) f ok err h one = InRange-push c d f k (ap (λ e. e.kinds) ok) (ap (λ e. e.texts) ok) h one
  InRange-after (Err x) f ok err h one = rw err h

  pub fits-after : (r : Result A E) → OnOk r (d ≡ record { texts = c.texts; width = c.width; kinds = c.kinds ++ k ∷ []; vars = vars }) → OnErr r (d ≡ c)
      → c.vars ≤ vars → d.vars ≤ vars
  fits-after (Ok x) ok err le = rw ok (omega arith)
  fits-after (Err x) ok err le = rw err le

-- one more cell over the same formula
pub Grows-push : (b c : Build) (k : CellKind) (vars : ℕ) → c.arena ≡ record { texts = b.arena.texts; width = b.arena.width; kinds = b.arena.kinds ++ k ∷ []; vars = vars } → c.formula ≡ b.formula → Grows b c
Grows-push b c k vars e f = record {
  formula = rw f (formula-refl b.formula);
  longer = rw e (let h = length_push b.arena.kinds k in omega arith);
  keeps = Keeps-push b.arena c.arena k (ap (λ x. x.kinds) e) (ap (λ x. x.texts) e) (ap (λ x. x.width) e);
}

pub Decodes-push : (b c : Build) (k : CellKind) (vars : ℕ) (id : CellId) → c.arena ≡ record { texts = b.arena.texts; width = b.arena.width; kinds = b.arena.kinds ++ k ∷ []; vars = vars }
    → id.index ≡ length b.arena.kinds → Decodes c id (λ a. kind_value b.arena.texts a (decode b.arena a) k)
Decodes-push b c k vars id e n = record {
  there = rw e (let h = length_push b.arena.kinds k in omega arith);
  value = λ a s. decode-newest b.arena c.arena k a id (ap (λ x. x.kinds) e) (ap (λ x. x.texts) e) n;
}

held-named : (n vars width : ℕ) (ks : List CellKind) → ((id : CellId) → id.index < length ks → IsHeld id.index vars width (kind_at ks id)) → vars ≤ n → All (NamesBelow n) ks
held-named n vars width ks held le = λ i d lt.
    let first : CellKind = Bit (record { var = 0; neg = false }) in
    subst (NamesBelow n) (get_or_default ks i first d lt) (NamesBelow-later vars n (get_or ks i first) le (held (record { index = i }) lt).named)

-- a cell keeps its value as the assignment grows
pub decode-assigned : (b : Build) (id : CellId) (a more : List Bool) → length a ≡ b.formula.vars → decode b.arena (a ++ more) id ≡ decode b.arena a id
decode-assigned b id a more n =
    let fits = b.fits in
    decode-append b.arena a more id (held-named (length a) b.arena.vars b.arena.width b.arena.kinds b.built.held (omega arith))

-- a cell of this kind has its value
pub Decodes-found : (b : Build) (k : CellKind) (id : CellId) → IsOfKind b.arena.kinds k id → Decodes b id (λ a. kind_value b.arena.texts a (decode b.arena a) k)
Decodes-found b k id is = record {
  there = is.there;
  value = λ a s. decode-kind b.arena a id b.built is.there ∙ ap (kind_value b.arena.texts a (decode b.arena a)) is.is;
}
