-- Bound names may be renamed; and a use of a definition means its body with the arguments put in.
use Rattle.std.proofs.Common.{◌≡◌, ℕ, suc, Bool, true, false, ◌&&◌, IsTrue, List, [], ◌∷◌, map, zip, length, refl, ap, ap₂, ◌∙◌, sym, subst, Option, Some, None, if◌then◌else◌}
use Rattle.std.specs.List.{list_all}
use Rattle.tla_values.specs.declared.value.Value.{Value}
use Rattle.tla_values.specs.declared.value.Value.TheVariants as value
use Rattle.tla_meaning.specs.declared.expr.Expr.{Expr, roll-Expr}
use Rattle.tla_meaning.specs.declared.expr.Expr.TheOpen.{Expr-F}
use Rattle.tla_meaning.specs.declared.expr.Expr.TheFolds.{fold-roll-Expr, map-Expr, ind-Expr}
use Rattle.tla_meaning.specs.declared.op.Op.{Op}
use Rattle.tla_meaning.specs.declared.op.Op.TheVariants as op
use Rattle.tla_meaning.specs.declared.place.Place.{Place}
use Rattle.tla_meaning.specs.Numbers.{Width}
use Rattle.tla_meaning.specs.Scopes.{Scope, Denotation, bound_to, pass, find_last, or_else, same_text}
use Rattle.tla_meaning.specs.Meaning.{Meaning, Role, Named, Held, Lets, Plain_role, role, View, view}
use Rattle.tla_meaning.specs.Actions.{meaning, denotation_of}
use Rattle.tla_meaning.specs.Substitution.{Test, each, binds_apart, put, Within}
use Rattle.tla_meaning.specs.Renamings.{Renaming, OneToOne, rename_op, rename_role, rename_binds, rename_layer, rename, Renames}
use Rattle.tla_meaning.proofs.MeaningLemmas.{meaning-roll}
use Rattle.tla_meaning.proofs.Views.{AllAgree, marked, Survives, SameNames, same-named, same-held, same-lets, same-under, view_same}
use Rattle.tla_meaning.proofs.Laws.{simulate, find-append, more, none, apart-none, lets-none, said, substitution, meanings}

-- ---- renaming of bound names

pub role-rename : (ρ : Renaming) (o : Op) (n : ℕ) → role (rename_op ρ o) n ≡ rename_role ρ (role o n)
role-rename ρ (op.Bound x) n = refl
role-rename ρ o n = refl

pub length-rename : (ρ : Renaming) (o : Role) (xs : List (List ℕ)) → length (rename_binds ρ o xs) ≡ length xs
length-rename ρ (Lets ds) xs = refl
length-rename ρ (Named x) xs = refl
length-rename ρ (Held x) xs = refl
length-rename ρ (Plain_role ms) xs = along xs
  where
    along : (xs : List (List ℕ)) → length (map ρ xs) ≡ length xs
    along [] = refl
    along (x ∷ xs) = ap suc (along xs)

-- the sense of a node does not depend on the name that it reads
pub denotation-rename : (w : Width) (p : Place) (ρ : Renaming) (o : Op) (n : ℕ) (v : View) → denotation_of w p (rename_op ρ o) n v ≡ denotation_of w p o n v
denotation-rename w p ρ (op.Bound x) n v = refl
denotation-rename w p ρ o n v = refl

renames-survives : (ρ : Renaming) → Survives none (Renames ρ)
renames-survives ρ = record {
  passed = λ xs as' a b f r. (r.0, λ x. more x a.named b.named (zip xs (map (λ a. λ _. a) as')) (r.1 x));
  defined = λ y d a b f r. (r.0, λ x. more x a.named b.named ((y, d) ∷ []) (r.1 x));
}

pub bound-rename : (ρ : Renaming) → OneToOne ρ → (x : List ℕ) (xs : List (List ℕ)) (vs : List Value) →
    find_last (ρ x) (bound_to (map ρ xs) vs) ≡ find_last x (bound_to xs vs)
bound-rename ρ c x [] vs = refl
bound-rename ρ c x (y ∷ ys) [] =
    ap₂ (λ o (b : Bool). or_else o (if b then Some (value.Bool false) else None)) (bound-rename ρ c x ys []) (c x y)
bound-rename ρ c x (y ∷ ys) (v ∷ vs) =
    ap₂ (λ o (b : Bool). or_else o (if b then Some v else None)) (bound-rename ρ c x ys vs) (c x y)

names-rename : (ρ : Renaming) → OneToOne ρ → (o : Role) (xs : List (List ℕ)) (a b : Scope) (ks ls : List Meaning) →
    AllAgree (Renames ρ) ks ls → Renames ρ a b →
    SameNames none (Renames ρ) (Renames ρ) a b ks ls (rename_role ρ o) o (rename_binds ρ o xs) xs
names-rename ρ c (Named x) xs a b ks ls k r = same-named k (r.1 x)
names-rename ρ c (Held x) xs a b ks ls k r = same-held k (r.0 x)
names-rename ρ c (Lets ds) xs a b ks ls k r = same-lets k (lets-none ds) (apart-none xs)
names-rename ρ c (Plain_role ms) xs a b ks ls k r = same-under (marked (Renames ρ) ms ks ls k) (λ vs. (
  λ x.
      find-append (ρ x) a.bound (bound_to (map ρ xs) vs)
      ∙ ap₂ or_else (bound-rename ρ c x xs vs) (r.0 x)
      ∙ sym (find-append x b.bound (bound_to xs vs)),
  r.1,
))

abbrev any : Test
any o xs = true

each-any : (e : Expr) → IsTrue (each any e)
each-any = ind-Expr (λ e. IsTrue (each any e)) (λ x y is.
    subst (λ (z : Expr-F Expr). IsTrue (each any (roll-Expr z))) is
    (fold-roll-Expr Bool (λ x. any x.op x.binds && list_all (λ b. b) x.args) (map-Expr ((e : Expr) × IsTrue (each any e)) Expr (λ e. e.0) y) ∙ all y.args))
  where
    all : (ys : List ((e : Expr) × IsTrue (each any e))) → IsTrue (list_all (λ b. b) (map (each any) (map (λ y. y.0) ys)))
    all [] = refl
    all (y ∷ ys) = ap₂ (λ a b. a && b) y.1 (all ys)

-- a tree with its bound names renamed means the same
pub renaming : (w : Width) (ρ : Renaming) → OneToOne ρ → (e : Expr) → (a b : Scope) → Renames ρ a b →
    meaning w (rename ρ e) a ≡ meaning w e b
renaming w ρ c e = simulate w (Renames ρ) any (λ e. meaning w (rename ρ e)) (λ x h k a b r.
    let z : Expr-F Expr = map-Expr Expr Expr (rename ρ) x in
    let o : Role = role x.op (length x.binds) in
    let xs : List (List ℕ) = rename_binds ρ o x.binds in
    let ks : List Meaning = map (meaning w) (map (rename ρ) x.args) in
    let ls : List Meaning = map (meaning w) x.args in
    ap (λ e. meaning w e a) (fold-roll-Expr Expr (λ x. roll-Expr (rename_layer ρ x)) x)
    ∙ ap (λ (m : Meaning). m a) (meaning-roll w (rename_layer ρ z))
    ∙ denotation-rename w x.place ρ x.op (length xs) (view x.place (role (rename_op ρ x.op) (length xs)) xs ks a)
    ∙ ap (λ n. denotation_of w x.place x.op n (view x.place (role (rename_op ρ x.op) n) xs ks a)) (length-rename ρ o x.binds)
    ∙ ap (λ (o : Role). denotation_of w x.place x.op (length x.binds) (view x.place o xs ks a)) (role-rename ρ x.op (length x.binds))
    ∙ ap (denotation_of w x.place x.op (length x.binds))
    (view_same none (Renames ρ) (Renames ρ) (renames-survives ρ) x.place ks ls a b r
    (rename_role ρ o) o xs x.binds (names-rename ρ c o x.binds a b ks ls
    (subst (λ (ms : List Meaning). AllAgree (Renames ρ) ms ls) (meanings w (rename ρ) x.args) k) r))) e (each-any e)

-- ---- a use of a definition

said-zip : (w : Width) (a : Scope) (x : List ℕ) (xs : List (List ℕ)) (es : List Expr) →
    find_last x (zip xs (map (λ (m : Denotation). λ (as' : List Denotation). m) (map (λ e. meaning w e a) es))) ≡ said w a (find_last x (zip xs es))
said-zip w a x [] es = refl
said-zip w a x (y ∷ ys) [] = refl
said-zip w a x (y ∷ ys) (e ∷ es) =
    ap (λ o. or_else o (if same_text x y then Some (λ (as' : List Denotation). meaning w e a) else None)) (said-zip w a x ys es)
    ∙ join_faults-said (find_last x (zip ys es)) (same_text x y)
  where
    join_faults-said : (o : Option Expr) (c : Bool) →
        or_else (said w a o) (if c then Some (λ (as' : List Denotation). meaning w e a) else None) ≡ said w a (or_else o (if c then Some e else None))
    join_faults-said (Some t) c = refl
    join_faults-said None true = refl
    join_faults-said None false = refl

-- a body at its arguments: the body with their trees put in
pub inlined : (w : Width) (S : List ℕ → Bool) (xs : List (List ℕ)) (es : List Expr) → Within S (zip xs es) →
    (body : Expr) → IsTrue (each (binds_apart S) body) → (sc : Scope) →
    meaning w (put (zip xs es) body) sc ≡ meaning w body (pass xs (map (λ e. meaning w e sc) es) sc)
inlined w S xs es c body h sc = substitution w S (zip xs es) c body h sc (pass xs (map (λ e. meaning w e sc) es) sc) (
  λ x. refl,
  λ x.
      find-append x sc.named (zip xs (map (λ a. λ _. a) (map (λ e. meaning w e sc) es)))
      ∙ ap (λ o. or_else o (find_last x sc.named)) (said-zip w sc x xs es),
)
