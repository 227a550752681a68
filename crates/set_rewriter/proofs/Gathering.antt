-- Edges from several sets, and images.
use Rattle.std.proofs.Common.{◌≡◌, ℕ, ◌+◌, ◌<◌, Bool, false, ◌&&◌, ◌||◌, List, [], ◌∷◌, ◌++◌, length, take, get_or, All, refl, ap, ◌∙◌, sym, arith}
use Rattle.std.specs.List.{list_any, flat_map}
use Rattle.std.proofs.lemmas.List.{take_more, length-take-le}
use Rattle.std.proofs.lemmas.List.Folds.{list_any-append}
use Rattle.std.proofs.lemmas.List.Elements.{All-nil, All-cons, All-head, All-tail, All-push}
use Rattle.sat_formula.specs.declared.lit.Lit.{Lit}
use Rattle.sat_formula.specs.declared.cnf.Cnf.{Cnf}
use Rattle.sat_formula.specs.Lit.{lit_value, IsBelow}
use Rattle.sat_formula.specs.Formula.{Satisfies, Grows as FormulaGrows, HasValue}
use Rattle.sat_formula.proofs.Extension.{Satisfies-older}
use Rattle.tla_values.specs.Sets.{set_of, elements}
use Rattle.tla_values.specs.declared.value.Value.{Value}
use Rattle.cell_arena.specs.declared.kinds.CellId.{CellId}
use Rattle.cell_arena.specs.declared.kinds.CellKind.{CellKind}
use Rattle.cell_arena.specs.declared.kinds.CellKind.TheVariants.{Set}
use Rattle.cell_arena.specs.Cells.{Cells}
use Rattle.cell_arena.specs.Decode.{decode, present, kind_value}
use Rattle.cell_merge.specs.Sorts.{Sort, OfSort, set_of as set_sort}
use Rattle.cell_merge.specs.Edges.{any_edge, LeadTo, AreNamed, JoinsAll}
use Rattle.cell_merge.proofs.Edges.{any-present, any-cell}
use Rattle.cell_merge.proofs.Unions.{AreNamed-later, any-push, any-more}
use Rattle.set_rewriter.specs.Edges.{image_edges}
use Rattle.set_rewriter.specs.inner.Steps.{Guards, GuardsSet, Inside}
use Rattle.set_rewriter.proofs.Made.{set-found}

abbrev Edge : Type 0
Edge = Lit × CellId

-- ---- images

images-push : (es : List Edge) (xs : List CellId) (e : Edge) (x : CellId) → length xs ≡ length es → image_edges (es ++ e ∷ []) (xs ++ x ∷ []) ≡ image_edges es xs ++ (e.0, x) ∷ []
images-push [] [] e x n = refl
images-push [] (y ∷ ys) e x n = absurd (omega arith)
images-push (d ∷ es) [] e x n = absurd (omega arith)
images-push (d ∷ es) (y ∷ ys) e x n = ap (λ (l : List Edge). (d.0, y) ∷ l) (images-push es ys e x (omega arith))

images-more : (es : List Edge) (xs : List CellId) (i : ℕ) (d : Edge) (x : CellId) → i < length es → i < length xs
    → image_edges (take (i + 1) es) (take (i + 1) xs) ≡ image_edges (take i es) (take i xs) ++ ((get_or es i d).0, get_or xs i x) ∷ []
images-more es xs i d x lt le =
    ap (λ (l : List Edge). image_edges l (take (i + 1) xs)) (take_more es i d lt) ∙ ap (image_edges (take i es ++ get_or es i d ∷ [])) (take_more xs i x le)
    ∙ images-push (take i es) (take i xs) (get_or es i d) (get_or xs i x) (length-take-le i xs (omega arith) ∙ sym (length-take-le i es (omega arith)))

pub images-pushed : (es : List Edge) (xs : List CellId) (i : ℕ) (d : Edge) (x : CellId) (out after : List Edge) → i < length es → i < length xs → out ≡ image_edges (take i es) (take i xs)
    → after ≡ out ++ ((get_or es i d).0, get_or xs i x) ∷ [] → after ≡ image_edges (take (i + 1) es) (take (i + 1) xs)
images-pushed es xs i d x out after lt le h pushed = pushed ∙ ap (λ (l : List Edge). l ++ ((get_or es i d).0, get_or xs i x) ∷ []) h ∙ sym (images-more es xs i d x lt le)

pub images-sort : (ks : List CellKind) (s : Sort) (es : List Edge) (xs : List CellId) → All (OfSort ks s) xs → LeadTo ks s (image_edges es xs)
images-sort ks s [] xs h = All-nil (λ (e : Edge). OfSort ks s e.1)
images-sort ks s (e ∷ es) [] h = All-nil (λ (e : Edge). OfSort ks s e.1)
images-sort ks s (e ∷ es) (x ∷ xs) h =
    All-cons (λ (e : Edge). OfSort ks s e.1) (e.0, x) (image_edges es xs) (All-head (OfSort ks s) x xs h) (images-sort ks s es xs (All-tail (OfSort ks s) x xs h))

pub images-named : (n : ℕ) (es : List Edge) (xs : List CellId) → AreNamed n es → AreNamed n (image_edges es xs)
images-named n [] xs h = All-nil (λ (e : Edge). IsBelow n e.0)
images-named n (e ∷ es) [] h = All-nil (λ (e : Edge). IsBelow n e.0)
images-named n (e ∷ es) (x ∷ xs) h =
    All-cons (λ (e : Edge). IsBelow n e.0) (e.0, x) (image_edges es xs) (All-head (λ (e : Edge). IsBelow n e.0) e es h) (images-named n es xs (All-tail (λ (e : Edge). IsBelow n e.0) e es h))

-- edges that are joined have the members of the first ones
pub joined-set : (c : Cells) (f : Cnf) (a : List Bool) (es out : List Edge) → JoinsAll c f es es out → Satisfies a f → set_of (present a (decode c a) out) ≡ set_of (present a (decode c a) es)
joined-set c f a es out j s = set-found a (decode c a) out (present a (decode c a) es) (λ p. j.members a s p ∙ sym (any-present p a (decode c a) es))

-- ---- one more edge that is guarded

guard-test : (o l x m q : Bool) → ((o || (l && x)) || ((l && m) && q)) ≡ (o || (l && (x || (m && q))))
guard-test o l x m q = grind arith

module _ (f g : Cnf) (l : Lit) (es : List Edge) (i : ℕ) (d : Edge) (both : Lit) (old out : List Edge) (lt : i < length es)
    (guards : Guards f l es (take i es) old out) (grows : FormulaGrows f g) (gate : HasValue g both (λ a. lit_value l a && lit_value (get_or es i d).0 a)) where
  abbrev here : List Bool → (CellId → Value) → (Value → Bool) → Bool
  here a of p = lit_value both a && p (of (get_or es i d).1)

  more : (a : List Bool) → Satisfies a g → (of : CellId → Value) (p : Value → Bool)
      → (any_edge a of p out || here a of p) ≡ (any_edge a of p old || (lit_value l a && any_edge a of p (take (i + 1) es)))
  more a s of p =
      ap (λ t. t || here a of p) (guards.members a (Satisfies-older f g a grows s) of p)
      ∙ ap (λ t. (any_edge a of p old || (lit_value l a && any_edge a of p (take i es))) || (t && p (of (get_or es i d).1))) (gate.value a s)
      ∙ guard-test (any_edge a of p old) (lit_value l a) (any_edge a of p (take i es)) (lit_value (get_or es i d).0 a) (p (of (get_or es i d).1))
      ∙ ap (λ t. any_edge a of p old || (lit_value l a && t)) (sym (any-more a of p es i d lt))

  pub guards-passed : ((a : List Bool) → Satisfies a g → lit_value both a ≡ false) → Guards g l es (take (i + 1) es) old out
  guards-passed off = record {
    named = AreNamed-later f.vars g.vars out guards.named grows.vars;
    sorts = guards.sorts;
    members = λ a s of p. none (any_edge a of p out) (lit_value both a) (p (of (get_or es i d).1)) (off a s) ∙ more a s of p;
  }
    where
      none : (t q r : Bool) → q ≡ false → t ≡ (t || (q && r))
      none t q r e = grind arith

  pub guards-push : (after : List Edge) → after ≡ out ++ (both, (get_or es i d).1) ∷ [] → Guards g l es (take (i + 1) es) old after
  guards-push after pushed = record {
    named = rw pushed (All-push (λ (e : Edge). IsBelow g.vars e.0) out (both, (get_or es i d).1) (AreNamed-later f.vars g.vars out guards.named grows.vars) gate.below);
    sorts = λ ks s h k. rw pushed (All-push (λ (e : Edge). OfSort ks s e.1) out (both, (get_or es i d).1) (guards.sorts ks s h k) (k i d lt));
    members = λ a s of p. ap (any_edge a of p) pushed ∙ any-push a of p out (both, (get_or es i d).1) ∙ more a s of p;
  }

-- ---- one more set

pub guarded-set : (c : Cells) (f : Cnf) (l : Lit) (set : CellId) (es old new : List Edge) → Guards f l es es old new → ((a : List Bool) → decode c a set ≡ kind_value c.texts a (decode c a) (Set es))
    → ((s : Sort) → OfSort c.kinds (set_sort s) set → LeadTo c.kinds s es) → GuardsSet c f l set old new
guarded-set c f l set es old new g is sorts = record {
  named = g.named;
  sorts = λ s h k. g.sorts c.kinds s h (sorts s k);
  members = λ a s p. g.members a s (decode c a) p ∙ ap (λ t. any_edge a (decode c a) p old || (lit_value l a && t)) (sym (any-cell p c a set es (is a)));
}

pub inside-more : (c : Cells) (f g : Cnf) (es : List Edge) (i : ℕ) (d : Edge) (out after : List Edge) → i < length es → Inside c f es (take i es) out → FormulaGrows f g
    → GuardsSet c g (get_or es i d).0 (get_or es i d).1 out after → Inside c g es (take (i + 1) es) after
inside-more c f g es i d out after lt h grows k = record {
  named = k.named;
  sorts = λ s p. k.sorts s (h.sorts s p) (p i d lt);
  members = λ a s p.
      let of : CellId → Value = decode c a in
      let e : Edge = get_or es i d in
      k.members a s p ∙ ap (λ t. t || (lit_value e.0 a && list_any p (elements (of e.1)))) (h.members a (Satisfies-older f g a grows s) p)
      ∙ sym (any-more a of (λ v. list_any p (elements v)) es i d lt);
}

pub inside-joined : (c : Cells) (f g : Cnf) (es all out : List Edge) → Inside c f es es all → JoinsAll c g all all out → FormulaGrows f g → Inside c g es es out
inside-joined c f g es all out h j grows = record {
  named = j.named;
  sorts = λ s p. j.sorts s (h.sorts s p);
  members = λ a s p. j.members a s p ∙ h.members a (Satisfies-older f g a grows s) p;
}

any-flat_map : (p : Value → Bool) (f : Value → List Value) (xs : List Value) → list_any p (flat_map f xs) ≡ list_any (λ x. list_any p (f x)) xs
any-flat_map p f [] = refl
any-flat_map p f (x ∷ xs) = list_any-append p (f x) (flat_map f xs) ∙ ap (λ t. list_any p (f x) || t) (any-flat_map p f xs)

pub inside-set : (c : Cells) (f : Cnf) (a : List Bool) (set : CellId) (es out : List Edge) → Inside c f es es out → Satisfies a f → decode c a set ≡ kind_value c.texts a (decode c a) (Set es)
    → set_of (present a (decode c a) out) ≡ set_of (flat_map elements (elements (decode c a set)))
inside-set c f a set es out h s is =
    set-found a (decode c a) out (flat_map elements (elements (decode c a set)))
    (λ p. h.members a s p ∙ sym (any-flat_map p elements (elements (decode c a set)) ∙ any-cell (λ v. list_any p (elements v)) c a set es is))
