-- Definitions expanded at their uses.
use Rattle.std.proofs.Common.{◌≡◌, ℕ, Bool, IsTrue, List, [], ◌∷◌, ◌++◌, map, zip, length, refl, ap, ◌∙◌, sym, subst, Option, Some, None}
use Rattle.tla_values.specs.declared.value.Value.{Value}
use Rattle.tla_meaning.specs.declared.expr.Expr.{Expr, roll-Expr}
use Rattle.tla_meaning.specs.declared.expr.Expr.TheOpen.{Expr-F}
use Rattle.tla_meaning.specs.declared.expr.Expr.TheFolds.{fold-Expr, fold-roll-Expr, map-Expr}
use Rattle.tla_meaning.specs.declared.op.Op.{Op}
use Rattle.tla_meaning.specs.declared.place.Place.{Place}
use Rattle.tla_meaning.specs.Numbers.{Width}
use Rattle.tla_meaning.specs.Scopes.{Scope, Denotation, bind, bound_to, pass, find_last, or_else, stands_for}
use Rattle.tla_meaning.specs.Meaning.{Meaning, denotations, Role, Named, Held, Lets, Plain_role, role, view}
use Rattle.tla_meaning.specs.Actions.{meaning, node, denotation_of}
use Rattle.tla_meaning.specs.FreeNames.{closed}
use Rattle.tla_meaning.specs.Substitution.{each, apart, lets_apart, binds_apart, put, Within}
use Rattle.tla_meaning.specs.Renamings.{Renaming, OneToOne, rename}
use Rattle.tla_meaning.proofs.MeaningLemmas.{meaning-roll}
use Rattle.tla_meaning.proofs.Views.{AllAgree, marked, Survives, SameNames, same-named, same-held, same-lets, same-under, node_same, denotations_same, and_left, and_right, false≢true}
use Rattle.tla_meaning.proofs.Laws.{simulate, more, unseen, missed, missed-one, none, meanings, frame, none≢some}
use Rattle.tla_meaning.proofs.Renaming.{inlined}
use Rattle.tla_meaning.proofs.Free.{renaming_free}

-- parameters and body
abbrev pub Meant : Type 0
Meant = List (List ℕ) × Expr

abbrev pub Defs : Type 0
Defs = List (List ℕ × Meant)

abbrev pub wanted : Defs → Role → Option Meant
wanted δ (Named x) = find_last x δ
wanted δ (Held x) = None
wanted δ (Lets ds) = None
wanted δ (Plain_role ms) = None

-- a use is the body, its bound names renamed apart from the arguments, with the arguments put in
abbrev pub call : (List Expr → Renaming) → Option Meant → Expr-F Expr → Expr
call fresh None x = roll-Expr x
call fresh (Some d) x = put (zip d.0 x.args) (rename (fresh x.args) d.1)

abbrev pub expand : (List Expr → Renaming) → Defs → Expr → Expr
expand fresh δ = fold-Expr Expr (λ x. call fresh (wanted δ (role x.op (length x.binds))) x)

abbrev pub spoken : Width → Scope → Option Meant → Option (List Denotation → Denotation)
spoken w a None = None
spoken w a (Some d) = Some (λ as'. meaning w d.1 (pass d.0 as' a))

-- the second scope is the first, with the definitions
abbrev pub Knows : Width → Defs → Scope → Scope → Type 0
Knows w δ a b =
    ((x : List ℕ) → find_last x a.bound ≡ find_last x b.bound)
    × ((x : List ℕ) → find_last x b.named ≡ or_else (spoken w a (find_last x δ)) (find_last x a.named))

-- names and free names lie in a set, bodies read no bound name of others, and arguments find room
pub record Sound (N : List ℕ → Bool) (fresh : List Expr → Renaming) (δ : Defs) : Type 1 where
  pub names : (x : List ℕ) (d : Meant) → find_last x δ ≡ Some d → IsTrue (N x)
  pub bodies : (x : List ℕ) (d : Meant) → find_last x δ ≡ Some d → IsTrue (closed N d.1 none)
  pub one : (es : List Expr) → OneToOne (fresh es)
  pub taken : List Expr → List ℕ → Bool
  pub args : (x : List ℕ) (d : Meant) → find_last x δ ≡ Some d → (es : List Expr) → Within (taken es) (zip d.0 es)
  pub room : (x : List ℕ) (d : Meant) → find_last x δ ≡ Some d → (es : List Expr) →
      IsTrue (each (binds_apart (taken es)) (rename (fresh es) d.1))

abbrev pub meant_by : Width → Meant → Scope → List Denotation → Denotation
meant_by w d a as' = meaning w d.1 (pass d.0 as' a)

body-same : (w : Width) (N : List ℕ → Bool) (d : Meant) (a b : Scope) → IsTrue (closed N d.1 none) →
    ((x : List ℕ) → IsTrue (N x) → find_last x a.named ≡ find_last x b.named) →
    meant_by w d a ≡ meant_by w d b
body-same w N d a b c h = λ i. λ as'.
    frame w N d.1 none c (pass d.0 as' a) (pass d.0 as' b)
    (λ x k. absurd (false≢true k), λ x k. more x a.named b.named (zip d.0 (map (λ m. λ _. m) as')) (h x k)) i

spoken-same : (w : Width) (N : List ℕ → Bool) (a b : Scope) → ((x : List ℕ) → IsTrue (N x) → find_last x a.named ≡ find_last x b.named) →
    (o : Option Meant) → ((d : Meant) → o ≡ Some d → IsTrue (closed N d.1 none)) → spoken w a o ≡ spoken w b o
spoken-same w N a b h None c = refl
spoken-same w N a b h (Some d) c = ap (λ (f : List Denotation → Denotation). Some f) (body-same w N d a b (c d refl) h)

knows-bound : (w : Width) (N : List ℕ → Bool) (fresh : List Expr → Renaming) (δ : Defs) → Sound N fresh δ →
    (xs : List (List ℕ)) (vs : List Value) (a b : Scope) → Knows w δ a b → Knows w δ (bind xs vs a) (bind xs vs b)
knows-bound w N fresh δ c xs vs a b r = (
  λ x. more x a.bound b.bound (bound_to xs vs) (r.0 x),
  λ x.
      r.1 x ∙ ap (λ o. or_else o (find_last x a.named)) (spoken-same w N a (bind xs vs a) (λ y k. refl) (find_last x δ) (c.bodies x)),
)

knows-more : (w : Width) (N : List ℕ → Bool) (fresh : List Expr → Renaming) (δ : Defs) → Sound N fresh δ → (a b : Scope) → Knows w δ a b →
    (es : List (List ℕ × (List Denotation → Denotation))) → ((x : List ℕ) → IsTrue (N x) → find_last x es ≡ None) →
    (x : List ℕ) (o : Option Meant) → find_last x δ ≡ o →
    find_last x (b.named ++ es) ≡ or_else (spoken w (record a { named = a.named ++ es }) o) (find_last x (a.named ++ es))
knows-more w N fresh δ c a b r es h x None e =
    more x b.named a.named es (r.1 x ∙ ap (λ o. or_else (spoken w a o) (find_last x a.named)) e)
knows-more w N fresh δ c a b r es h x (Some d) e =
    unseen x b.named es (h x (c.names x d e))
    ∙ r.1 x
    ∙ ap (λ o. or_else (spoken w a o) (find_last x a.named)) e
    ∙ ap (λ (f : List Denotation → Denotation). Some f)
    (body-same w N d a (record a { named = a.named ++ es }) (c.bodies x d e) (λ y k. sym (unseen y a.named es (h y k))))

knows-survives : (w : Width) (N : List ℕ → Bool) (fresh : List Expr → Renaming) (δ : Defs) → Sound N fresh δ → Survives N (Knows w δ)
knows-survives w N fresh δ c = record {
  passed = λ xs as' a b f r.
      (r.0, λ x. knows-more w N fresh δ c a b r (zip xs (map (λ a. λ _. a) as')) (λ y k. missed N y xs (map (λ a. λ _. a) as') f k) x (find_last x δ) refl);
  defined = λ y d a b f r.
      (r.0, λ x. knows-more w N fresh δ c a b r ((y, d) ∷ []) (λ z k. missed-one N z y d f k) x (find_last x δ) refl);
}

knows-read : (w : Width) (N : List ℕ → Bool) (fresh : List Expr → Renaming) (δ : Defs) → Sound N fresh δ → (o : Role) (xs : List (List ℕ)) (a b : Scope) (ks ls : List Meaning) →
    IsTrue (lets_apart N o) → IsTrue (apart N xs) → wanted δ o ≡ None → AllAgree (Knows w δ) ks ls → Knows w δ a b →
    SameNames N (Knows w δ) (Knows w δ) a b ks ls o o xs xs
knows-read w N fresh δ c (Named x) xs a b ks ls f g h k r = same-named k (sym (r.1 x ∙ ap (λ o. or_else (spoken w a o) (find_last x a.named)) h))
knows-read w N fresh δ c (Held x) xs a b ks ls f g h k r = same-held k (r.0 x)
knows-read w N fresh δ c (Lets ds) xs a b ks ls f g h k r = same-lets k f g
knows-read w N fresh δ c (Plain_role ms) xs a b ks ls f g h k r =
    same-under (marked (Knows w δ) ms ks ls k) (λ vs. knows-bound w N fresh δ c xs vs a b r)

denotations-at : (w : Width) (a : Scope) (es : List Expr) → map (λ e. meaning w e a) es ≡ denotations (map (meaning w) es) a
denotations-at w a [] = refl
denotations-at w a (e ∷ es) = ap (λ (ss : List Denotation). meaning w e a ∷ ss) (denotations-at w a es)

called : (w : Width) (N : List ℕ → Bool) (fresh : List Expr → Renaming) (δ : Defs) → Sound N fresh δ →
    (p : Place) (o : Op) (xs : List (List ℕ)) (es : List Expr) (ls : List Meaning) (a b : Scope) (d : Meant) (q : Role) →
    wanted δ q ≡ Some d → AllAgree (Knows w δ) (map (meaning w) es) ls → Knows w δ a b →
    meaning w (put (zip d.0 es) (rename (fresh es) d.1)) a ≡ denotation_of w p o (length xs) (view p q xs ls b)
called w N fresh δ c p o xs es ls a b d (Named x) e k r =
    inlined w (c.taken es) d.0 es (c.args x d e es) (rename (fresh es) d.1) (c.room x d e es) a
    ∙ renaming_free w (fresh es) (c.one es) N d.1 none (c.bodies x d e)
    (pass d.0 (map (λ e. meaning w e a) es) a) (pass d.0 (map (λ e. meaning w e a) es) a) (λ y h. absurd (false≢true h), λ y h. refl)
    ∙ ap (λ (ss : List Denotation). meaning w d.1 (pass d.0 ss a)) (denotations-at w a es ∙ denotations_same (Knows w δ) (map (meaning w) es) ls a b k r)
    ∙ ap (λ f. stands_for p f (denotations ls b)) (sym (r.1 x ∙ ap (λ o. or_else (spoken w a o) (find_last x a.named)) e))
called w N fresh δ c p o xs es ls a b d (Held x) e k r = absurd (none≢some e)
called w N fresh δ c p o xs es ls a b d (Lets ds) e k r = absurd (none≢some e)
called w N fresh δ c p o xs es ls a b d (Plain_role ms) e k r = absurd (none≢some e)

layer-expand : (w : Width) (N : List ℕ → Bool) (fresh : List Expr → Renaming) (δ : Defs) → Sound N fresh δ → (x : Expr-F Expr) →
    IsTrue (binds_apart N x.op x.binds) → AllAgree (Knows w δ) (map (meaning w) (map (expand fresh δ) x.args)) (map (meaning w) x.args) →
    (a b : Scope) → Knows w δ a b → (t : Option Meant) → wanted δ (role x.op (length x.binds)) ≡ t →
    meaning w (call fresh t (map-Expr Expr Expr (expand fresh δ) x)) a ≡ node w (map-Expr Expr Meaning (meaning w) x) b
layer-expand w N fresh δ c x h k a b r None e =
    let o : Role = role x.op (length x.binds) in
    let ks : List Meaning = map (meaning w) (map (expand fresh δ) x.args) in
    let ls : List Meaning = map (meaning w) x.args in
    ap (λ (m : Meaning). m a) (meaning-roll w (map-Expr Expr Expr (expand fresh δ) x))
    ∙ node_same w N (Knows w δ) (Knows w δ) (knows-survives w N fresh δ c) x.place x.op x.binds ks ls a b r
    (knows-read w N fresh δ c o x.binds a b ks ls
    (and_left (lets_apart N o) (apart N x.binds) h) (and_right (lets_apart N o) (apart N x.binds) h) e k r)
layer-expand w N fresh δ c x h k a b r (Some d) e =
    called w N fresh δ c x.place x.op x.binds (map (expand fresh δ) x.args) (map (meaning w) x.args) a b d (role x.op (length x.binds)) e k r

-- an expanded tree means what the tree means where the definitions are known
pub expanded : (w : Width) (N : List ℕ → Bool) (fresh : List Expr → Renaming) (δ : Defs) → Sound N fresh δ →
    (e : Expr) → IsTrue (each (binds_apart N) e) → (a b : Scope) → Knows w δ a b → meaning w (expand fresh δ e) a ≡ meaning w e b
expanded w N fresh δ c = simulate w (Knows w δ) (binds_apart N) (λ e. meaning w (expand fresh δ e)) (λ x h k a b r.
    ap (λ e. meaning w e a) (fold-roll-Expr Expr (λ x. call fresh (wanted δ (role x.op (length x.binds))) x) x)
    ∙ layer-expand w N fresh δ c x h
    (subst (λ (ms : List Meaning). AllAgree (Knows w δ) ms (map (meaning w) x.args)) (meanings w (expand fresh δ) x.args) k)
    a b r (wanted δ (role x.op (length x.binds))) refl)
