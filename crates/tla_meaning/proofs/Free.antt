-- The induction along free names, and renaming of bound names in a part of a scope.
use Rattle.std.proofs.Common.{◌≡◌, ℕ, Bool, true, false, ◌&&◌, IsTrue, List, [], ◌∷◌, map, zip, length, refl, ap, ◌∙◌, sym, subst}
use Rattle.std.specs.List.{list_any}
use Rattle.tla_values.specs.declared.value.Value.{Value}
use Rattle.tla_meaning.specs.declared.expr.Expr.{Expr, roll-Expr}
use Rattle.tla_meaning.specs.declared.expr.Expr.TheOpen.{Expr-F}
use Rattle.tla_meaning.specs.declared.expr.Expr.TheFolds.{fold-roll-Expr, map-Expr, ind-Expr}
use Rattle.tla_meaning.specs.Numbers.{Width}
use Rattle.tla_meaning.specs.Scopes.{Scope, bind, bound_to, find_last, or_else, same_text}
use Rattle.tla_meaning.specs.Meaning.{Meaning, Role, Named, Held, Lets, Plain_role, role, view}
use Rattle.tla_meaning.specs.Actions.{meaning, node, denotation_of}
use Rattle.tla_meaning.specs.FreeNames.{role_reads, marks, with_names, closed_all, closed_layer, closed}
use Rattle.tla_meaning.specs.Renamings.{Renaming, OneToOne, rename_op, rename_role, rename_binds, rename_layer, rename}
use Rattle.tla_meaning.proofs.MeaningLemmas.{meaning-roll}
use Rattle.tla_meaning.proofs.Views.{Marked, Survives, SameNames, same-named, same-held, same-lets, same-under, view_same, and_left, and_right}
use Rattle.tla_meaning.proofs.Laws.{find-append, more, none, apart-none, lets-none, meanings, or_right, in_bound, all_of}
use Rattle.tla_meaning.proofs.Renaming.{bound-rename, length-rename, role-rename, denotation-rename}

abbrev pub Family : Type 1
Family = (List ℕ → Bool) → Scope → Scope → Type 0

abbrev pub Freely : Width → (List ℕ → Bool) → Family → (Expr → Meaning) → Expr → Type 0
Freely w N F M e = (B : List ℕ → Bool) → IsTrue (closed N e B) → (a b : Scope) → F B a b → M e a ≡ meaning w e b

free-children : (w : Width) (N B : List ℕ → Bool) (F : Family) (M : Expr → Meaning) (ms : List Bool) (xs : List (List ℕ)) (ys : List ((e : Expr) × Freely w N F M e)) →
    IsTrue (closed_all ms xs (map (closed N) (map (λ y. y.0) ys)) B) →
    Marked (F B) (F (with_names xs B)) ms (map M (map (λ y. y.0) ys)) (map (meaning w) (map (λ y. y.0) ys))
free-children w N B F M ms xs [] h = tt
free-children w N B F M [] xs (y ∷ ys) h =
    let c : Bool = closed N y.0 B in
    let d : Bool = closed_all [] xs (map (closed N) (map (λ y. y.0) ys)) B in
    (y.1 B (and_left c d h), free-children w N B F M [] xs ys (and_right c d h))
free-children w N B F M (true ∷ ms) xs (y ∷ ys) h =
    let c : Bool = closed N y.0 (with_names xs B) in
    let d : Bool = closed_all ms xs (map (closed N) (map (λ y. y.0) ys)) B in
    (y.1 (with_names xs B) (and_left c d h), free-children w N B F M ms xs ys (and_right c d h))
free-children w N B F M (false ∷ ms) xs (y ∷ ys) h =
    let c : Bool = closed N y.0 B in
    let d : Bool = closed_all ms xs (map (closed N) (map (λ y. y.0) ys)) B in
    (y.1 B (and_left c d h), free-children w N B F M ms xs ys (and_right c d h))

abbrev pub FreeLayer : Width → (List ℕ → Bool) → Family → (Expr → Meaning) → Type 0
FreeLayer w N F M =
    (x : Expr-F Expr) (B : List ℕ → Bool) → IsTrue (role_reads N B (role x.op (length x.binds))) →
    Marked (F B) (F (with_names x.binds B)) (marks (role x.op (length x.binds))) (map M x.args) (map (meaning w) x.args) →
    (a b : Scope) → F B a b → M (roll-Expr x) a ≡ node w (map-Expr Expr Meaning (meaning w) x) b

pub simulate_free : (w : Width) (N : List ℕ → Bool) (F : Family) (M : Expr → Meaning) → FreeLayer w N F M → (e : Expr) → Freely w N F M e
simulate_free w N F M step = ind-Expr (Freely w N F M) (λ x y is.
    subst (λ (z : Expr-F Expr). Freely w N F M (roll-Expr z)) is (λ B h a b r.
    let z : Expr-F Expr = map-Expr ((e : Expr) × Freely w N F M e) Expr (λ e. e.0) y in
    let o : Role = role z.op (length z.binds) in
    let c : Bool = role_reads N B o in
    let d : Bool = closed_all (marks o) z.binds (map (closed N) z.args) B in
    let k : IsTrue (c && d) = sym (ap (λ (f : (List ℕ → Bool) → Bool). f B) (fold-roll-Expr ((List ℕ → Bool) → Bool) (closed_layer N) z)) ∙ h in
    step z B (and_left c d k) (free-children w N B F M (marks o) z.binds y.args (and_right c d k)) a b r
    ∙ sym (ap (λ (m : Meaning). m b) (meaning-roll w z))))

-- ---- renaming

abbrev pub RenamesOn : Renaming → (List ℕ → Bool) → Family
RenamesOn ρ N B a b =
    ((x : List ℕ) → IsTrue (B x) → find_last (ρ x) a.bound ≡ find_last x b.bound)
    × ((x : List ℕ) → IsTrue (N x) → find_last x a.named ≡ find_last x b.named)

renames_on-survives : (ρ : Renaming) (N B : List ℕ → Bool) → Survives none (RenamesOn ρ N B)
renames_on-survives ρ N B = record {
  passed = λ xs as' a b f r. (r.0, λ x h. more x a.named b.named (zip xs (map (λ a. λ _. a) as')) (r.1 x h));
  defined = λ y d a b f r. (r.0, λ x h. more x a.named b.named ((y, d) ∷ []) (r.1 x h));
}

renames_on-bind : (ρ : Renaming) → OneToOne ρ → (N B : List ℕ → Bool) (xs : List (List ℕ)) (vs : List Value) (a b : Scope) → RenamesOn ρ N B a b →
    RenamesOn ρ N (with_names xs B) (bind (map ρ xs) vs a) (bind xs vs b)
renames_on-bind ρ c N B xs vs a b r = (
  λ x h.
      find-append (ρ x) a.bound (bound_to (map ρ xs) vs)
      ∙ ap (λ o. or_else o (find_last (ρ x) a.bound)) (bound-rename ρ c x xs vs)
      ∙ by_name x h (list_any (same_text x) xs) refl
      ∙ sym (find-append x b.bound (bound_to xs vs)),
  r.1,
)
  where
    by_name : (x : List ℕ) → IsTrue (with_names xs B x) → (c : Bool) → list_any (same_text x) xs ≡ c →
        or_else (find_last x (bound_to xs vs)) (find_last (ρ x) a.bound) ≡ or_else (find_last x (bound_to xs vs)) (find_last x b.bound)
    by_name x h true e = in_bound x xs vs (find_last (ρ x) a.bound) (find_last x b.bound) e
    by_name x h false e = ap (or_else (find_last x (bound_to xs vs))) (r.0 x (or_right (list_any (same_text x) xs) (B x) h e))

names-renames_on : (ρ : Renaming) → OneToOne ρ → (N B : List ℕ → Bool) (o : Role) (xs : List (List ℕ)) (a b : Scope) (ks ls : List Meaning) →
    IsTrue (role_reads N B o) → Marked (RenamesOn ρ N B) (RenamesOn ρ N (with_names xs B)) (marks o) ks ls → RenamesOn ρ N B a b →
    SameNames none (RenamesOn ρ N B) (RenamesOn ρ N (with_names xs B)) a b ks ls (rename_role ρ o) o (rename_binds ρ o xs) xs
names-renames_on ρ c N B (Named x) xs a b ks ls h k r = same-named (all_of (RenamesOn ρ N B) (RenamesOn ρ N (with_names xs B)) ks ls k) (r.1 x h)
names-renames_on ρ c N B (Held x) xs a b ks ls h k r = same-held (all_of (RenamesOn ρ N B) (RenamesOn ρ N (with_names xs B)) ks ls k) (r.0 x h)
names-renames_on ρ c N B (Lets ds) xs a b ks ls h k r =
    same-lets (all_of (RenamesOn ρ N B) (RenamesOn ρ N (with_names xs B)) ks ls k) (lets-none ds) (apart-none xs)
names-renames_on ρ c N B (Plain_role ms) xs a b ks ls h k r = same-under k (λ vs. renames_on-bind ρ c N B xs vs a b r)

-- a tree with its bound names renamed, in scopes that agree on its free names
pub renaming_free : (w : Width) (ρ : Renaming) → OneToOne ρ → (N : List ℕ → Bool) (e : Expr) →
    Freely w N (RenamesOn ρ N) (λ e. meaning w (rename ρ e)) e
renaming_free w ρ c N = simulate_free w N (RenamesOn ρ N) (λ e. meaning w (rename ρ e)) (λ x B h k a b r.
    let z : Expr-F Expr = map-Expr Expr Expr (rename ρ) x in
    let o : Role = role x.op (length x.binds) in
    let xs : List (List ℕ) = rename_binds ρ o x.binds in
    let ks : List Meaning = map (meaning w) (map (rename ρ) x.args) in
    let ls : List Meaning = map (meaning w) x.args in
    ap (λ e. meaning w e a) (fold-roll-Expr Expr (λ x. roll-Expr (rename_layer ρ x)) x)
    ∙ ap (λ (m : Meaning). m a) (meaning-roll w (rename_layer ρ z))
    ∙ denotation-rename w x.place ρ x.op (length xs) (view x.place (role (rename_op ρ x.op) (length xs)) xs ks a)
    ∙ ap (λ n. denotation_of w x.place x.op n (view x.place (role (rename_op ρ x.op) n) xs ks a)) (length-rename ρ o x.binds)
    ∙ ap (λ (o : Role). denotation_of w x.place x.op (length x.binds) (view x.place o xs ks a)) (role-rename ρ x.op (length x.binds))
    ∙ ap (denotation_of w x.place x.op (length x.binds))
    (view_same none (RenamesOn ρ N B) (RenamesOn ρ N (with_names x.binds B)) (renames_on-survives ρ N B) x.place ks ls a b r
    (rename_role ρ o) o xs x.binds (names-renames_on ρ c N B o x.binds a b ks ls h
    (subst (λ (ms : List Meaning). Marked (RenamesOn ρ N B) (RenamesOn ρ N (with_names x.binds B)) (marks o) ms ls) (meanings w (rename ρ) x.args) k) r)))
