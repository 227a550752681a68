-- Steps of asking whether names are known.
use Rattle.std.proofs.Common.{◌≡◌, ◌≤◌, ◌<◌, inl, inr, ℕ, ◌+◌, Bool, true, false, ◌&&◌, List, [], ◌∷◌, ◌++◌, drop, get_or, length, map, take, Some, refl, ap, ap₂, ◌∙◌, sym}
use Rattle.std.proofs.lemmas.List.{drop_all, drop_more, length-map, take_more}
use Rattle.tla_meaning.specs.declared.expr.Expr.{Expr, out-Expr, roll-out-Expr}
use Rattle.tla_meaning.specs.declared.expr.Expr.TheFolds.{map-Expr}
use Rattle.tla_meaning.specs.declared.op.Op.{Op}
use Rattle.tla_meaning.specs.declared.op.Op.TheVariants as op
use Rattle.tla_meaning.specs.declared.place.Place.{Place}
use Rattle.tla_meaning.specs.Meaning.{role}
use Rattle.tla_meaning.specs.Scopes.{find_last, same_text}
use Rattle.op_inliner.specs.Known.{Arities, Uses, all_use, lets_use, node_uses, shaped, uses_known, wants}
use Rattle.op_inliner.specs.inner.Spots.{is_use}
use Rattle.op_inliner.proofs.FrameLemmas.{last_hit, last_miss}
use Rattle.op_inliner.proofs.Rolls.{uses-roll}

-- ---- looking a name up

pub entry_hit : (z : List ℕ) (es : Arities) (i j : ℕ) (e : List ℕ × ℕ) → j ≡ i + 1 → i < length es → e ≡ get_or es i e → same_text z e.0 ≡ true → find_last z (take j es) ≡ Some e.1
entry_hit z es i j e a h q s =
    ap (λ k. find_last z (take k es)) a ∙ ap (find_last z) (take_more es i e h ∙ ap (λ (o : List ℕ × ℕ). take i es ++ o ∷ []) (sym q)) ∙ last_hit z e.0 e.1 (take i es) s

pub entry_miss : (z : List ℕ) (es : Arities) (i j : ℕ) (e : List ℕ × ℕ) → j ≡ i + 1 → i < length es → e ≡ get_or es i e → same_text z e.0 ≡ false → find_last z (take j es) ≡ find_last z (take i es)
entry_miss z es i j e a h q s =
    ap (λ k. find_last z (take k es)) a ∙ ap (find_last z) (take_more es i e h ∙ ap (λ (o : List ℕ × ℕ). take i es ++ o ∷ []) (sym q)) ∙ last_miss z e.0 e.1 (take i es) s

-- ---- nodes

uses_node : (e : Expr) → uses_known e ≡ node_uses (map-Expr Expr Uses uses_known (out-Expr e)) (role (out-Expr e).op (length (out-Expr e).binds))
uses_node e = ap uses_known (sym (roll-out-Expr e)) ∙ uses-roll (out-Expr e)

pub use_known : (e : Expr) (z : List ℕ) (es : List Expr) (sc : Arities) → is_use (out-Expr e).op z → es ≡ (out-Expr e).args → wants (length es) (find_last z sc) ≡ true →
    all_use (map uses_known es) sc ≡ uses_known e sc
use_known e z es sc u a h =
    sym (ap (λ (k : Uses). k sc) (uses_node e)
    ∙ elim u [
      | inl h ↦ ap (λ (o : Op). node_uses (map-Expr Expr Uses uses_known (out-Expr e)) (role o (length (out-Expr e).binds)) sc) h
      | inr h ↦ ap (λ (o : Op). node_uses (map-Expr Expr Uses uses_known (out-Expr e)) (role o (length (out-Expr e).binds)) sc) h
    ]
    ∙ ap (λ (fs : List Expr). wants (length (map uses_known fs)) (find_last z sc) && all_use (map uses_known fs) sc) (sym a)
    ∙ ap (λ n. wants n (find_last z sc) && all_use (map uses_known es) sc) (length-map es uses_known)
    ∙ ap (λ (b : Bool). b && all_use (map uses_known es) sc) h)

abbrev no_name : Op → Type 0
no_name o = ((y : List ℕ) → o ≡ op.Use y → ⊥) × ((y : List ℕ) → o ≡ op.Param y → ⊥) × ((ds : List (List ℕ × ℕ)) → o ≡ op.Let ds → ⊥)

other_node : (p : Place) (o : Op) (es : List Expr) (xs : List (List ℕ)) (k : ℕ) (sc : Arities) → no_name o → shaped o (length es) ≡ true →
    node_uses (record { place = p; op = o; args = map uses_known es; binds = xs }) (role o k) sc ≡ all_use (map uses_known es) sc
other_node p (op.Use y) es xs k sc n h = absurd (n.0 y refl)
other_node p (op.Param y) es xs k sc n h = absurd (n.1 y refl)
other_node p (op.Let ds) es xs k sc n h = absurd (n.2 ds refl)
other_node p (op.Bound y) es xs k sc n h = refl
other_node p o es xs k sc n h = ap (λ (b : Bool). b && all_use (map uses_known es) sc) (ap (shaped o) (length-map es uses_known) ∙ h)

pub other_known : (e : Expr) (es : List Expr) (sc : Arities) → no_name (out-Expr e).op → es ≡ (out-Expr e).args → shaped (out-Expr e).op (length es) ≡ true →
    all_use (map uses_known es) sc ≡ uses_known e sc
other_known e es sc n a h =
    sym (ap (λ (k : Uses). k sc) (uses_node e)
    ∙ ap (λ (fs : List Expr). node_uses (record { place = (out-Expr e).place; op = (out-Expr e).op; args = map uses_known fs; binds = (out-Expr e).binds }) (role (out-Expr e).op (length (out-Expr e).binds)) sc) (sym a)
    ∙ other_node (out-Expr e).place (out-Expr e).op es (out-Expr e).binds (length (out-Expr e).binds) sc n h)

-- a LET with more definitions than bodies
lets_short : (ds : List (List ℕ × ℕ)) (d : List ℕ × ℕ) (xs : List (List ℕ)) (sc : Arities) → lets_use (d ∷ ds) xs [] sc ≡ false
lets_short ds d xs sc = refl

pub lets_fail : (ds : List (List ℕ × ℕ)) (d : List ℕ × ℕ) (xs : List (List ℕ)) (es : List Expr) (i : ℕ) (sc : Arities) (goal : Bool) → i < length ds → length es ≤ i →
    lets_use (drop i ds) xs (map uses_known (drop i es)) sc ≡ goal → false ≡ goal
lets_fail ds d xs es i sc goal h l e =
    sym (ap₂ (λ (cs : List (List ℕ × ℕ)) (fs : List Expr). lets_use cs xs (map uses_known fs) sc) (drop_more ds i d h) (drop_all i es l)) ∙ e
