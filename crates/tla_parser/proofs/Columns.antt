-- The column that the table keeps for a list of bullets is that of its first bullet.
use Rattle.std.proofs.Common.{ℕ, Bool, true, false, cond, ◌≡◌, ◌⊎◌, ◌+◌, inl, inr, ◌&&◌, ◌||◌, ◌==◌, refl, sym, ap, arith, eqb-true, ◌∙◌}
use Rattle.tla_lexer.specs.declared.token.Token.{Token as Tok}
use Rattle.tla_parser.proofs.Basics.{and_both, either, or_cases}
use Rattle.tla_parser.proofs.MarkKinds.{heads_kind, insteads_kind, is_bullets, kinded, kinded_move, plain_kind, postfixes_kind, rows_kind}
use Rattle.tla_parser.proofs.Laws.{delta-off, is_failed}
use Rattle.tla_parser.proofs.TableLaw.{is_lasting, is_wanting}
use Rattle.tla_parser.specs.Operators.{is_bullet, same_sign}
use Rattle.tla_parser.specs.Rules.{InColumn, edge}
use Rattle.tla_parser.specs.Signs.{column, sign}
use Rattle.tla_parser.specs.Written.{Parts, class, exp, from, start, tok, top}
use Rattle.tla_parser.specs.declared.moves.Class.{Class}
use Rattle.tla_parser.specs.declared.moves.Mark.{Mark}
use Rattle.tla_parser.specs.declared.moves.Mark.TheVariants.{AtTop, Bullets}
use Rattle.tla_parser.specs.declared.moves.Next.{Next}
use Rattle.tla_parser.specs.declared.moves.Next.TheVariants.{Fail, Last, Reads, Shut, Wants}
use Rattle.tla_parser.specs.declared.moves.Seen.{Seen}
use Rattle.tla_parser.specs.declared.signs.Sign.{Sign}
use Rattle.tla_parser.specs.declared.signs.Sign.TheVariants.{Number}
use Rattle.tla_parser.specs.inner.Derivations.{ahead, delta, given, inner, look, mark_column, point, resumed}
use Rattle.tla_parser.specs.inner.Moves.{found, goes_on, heads, in_units, insteads, moved, next_bullet, off, opens, postfixes, rows}
use Rattle.tla_parser.specs.inner.Recognition.{is_fail}

wants_level : (m : Mark) → (is_wanting m || in_units m) ≡ true → mark_column m ≡ 0
unfolding is_wanting in_units mark_column
wants_level (Bullets s n) h = cc
wants_level _ h = refl

lasts_level : (m : Mark) → is_lasting m ≡ true → mark_column m ≡ 0
unfolding is_lasting mark_column
lasts_level (Bullets s n) h = cc
lasts_level _ h = refl

pub plain_level : (n : Next) → plain_kind n ≡ true → inner n ≡ 0
plain_level (Reads m) h = refl
plain_level (Wants m) h = wants_level m h
plain_level (Last m) h = lasts_level m h
plain_level (Shut c) h = refl
plain_level Fail h = refl

opens_level : (u : Seen) (s : Sign) → inner (opens u s) ≡ cond (is_bullet s) (u.column + 1) 0
unfolding opens is_bullet mark_column
opens_level u Number = refl
opens_level u _ = refl

no_move : (t : Tok) → is_fail (delta off t) ≡ false → ⊥
no_move t h = let q : delta off t ≡ Fail = delta-off t in cc

plain_of : (x : Bool) → (x || false) ≡ true → x ≡ true
plain_of true h = refl
plain_of false h = h

resumed_level : (n : Next) (t : Tok) → kinded n ≡ true → is_fail (delta (resumed n) t) ≡ false → (inner n ≡ 0) × (inner (delta (resumed n) t) ≡ 0)
unfolding delta moved
resumed_level (Reads m) t k h = (refl, plain_level (found (sign t) (heads m)) (heads_kind m (sign t)))
resumed_level (Wants m) t k h =
    (wants_level m (plain_of (is_wanting m || in_units m) k), plain_level (found (sign t) (insteads m)) (insteads_kind m (sign t)))
resumed_level (Last m) t k h = absurd (no_move t h)
resumed_level (Shut c) t k h = absurd (no_move t h)
resumed_level Fail t k h = absurd (no_move t h)

-- behind an item of a list its next bullet stands in its column
bullet_level : (b : Sign) (n : ℕ) (t : Tok) → is_fail (next_bullet b n (look t)) ≡ false → (inner (next_bullet b n (look t)) ≡ n + 1) × (n + 1 ≡ column t + 1)
unfolding mark_column
bullet_level b n t h =
    elim (either (is_bullet b && (same_sign b (sign t) && (n == column t)))) [
      | inl e ↦ (let k : (same_sign b (sign t) && (n == column t)) ≡ true = (and_both (is_bullet b) (same_sign b (sign t) && (n == column t)) e).1 in
          let q : n ≡ column t = eqb-true n (column t) (and_both (same_sign b (sign t)) (n == column t) k).1 in
          (rw e (ap (λ (x : ℕ). x + 1) (sym q)), ap (λ (x : ℕ). x + 1) q))
      | inr e ↦ absurd (fails (rw e at h))
    ]
  where
    fails : true ≡ false → ⊥
    fails q = cc

goes_level : (m : Mark) (k : Class) (t : Tok) → is_bullets m ≡ true → is_fail (goes_on m k (look t)) ≡ false → (inner (goes_on m k (look t)) ≡ mark_column m) × (mark_column m ≡ column t + 1)
unfolding goes_on mark_column
goes_level (Bullets b n) k t i h = bullet_level b n t h
goes_level _ k t i h = cc

plain_goes : (m : Mark) (k : Class) (t : Tok) → mark_column m ≡ 0 → inner (goes_on m k (look t)) ≡ 0
unfolding goes_on mark_column
plain_goes (Bullets b n) k t h = absurd (above n h)
  where
    above : (x : ℕ) → x + 1 ≡ 0 → ⊥
    above x q = omega arith
plain_goes m k t h = plain_level (found (sign t) (rows m k)) (rows_kind m k (sign t))

given_level : (n : Next) (k : Class) (t : Tok) → kinded n ≡ true → is_fail (delta (given n k) t) ≡ false → (inner (delta (given n k) t) ≡ inner n) × ((inner n ≡ 0) ⊎ (inner n ≡ column t + 1))
unfolding delta moved
given_level (Wants m) k t w h =
    let z : mark_column m ≡ 0 = wants_level m (plain_of (is_wanting m || in_units m) w) in
    (plain_goes m k t z ∙ sym z, inl z)
given_level (Last m) k t w h =
    elim (or_cases (is_lasting m) (is_bullets m) w) [
      | inl i ↦ (let z : mark_column m ≡ 0 = lasts_level m i in (plain_goes m k t z ∙ sym z, inl z))
      | inr i ↦ (let g : (inner (goes_on m k (look t)) ≡ mark_column m) × (mark_column m ≡ column t + 1) = goes_level m k t i h in (g.0, inr g.1))
    ]
given_level (Reads m) k t w h = absurd (no_move t h)
given_level (Shut c) k t w h = absurd (no_move t h)
given_level Fail k t w h = absurd (no_move t h)

resumed_alive : (n : Next) (t : Tok) → is_fail (delta (resumed n) t) ≡ false → is_fail n ≡ false
resumed_alive (Reads m) t h = refl
resumed_alive (Wants m) t h = refl
resumed_alive (Last m) t h = refl
resumed_alive (Shut c) t h = refl
resumed_alive Fail t h = absurd (no_move t h)

given_alive : (n : Next) (k : Class) (t : Tok) → is_fail (delta (given n k) t) ≡ false → is_fail n ≡ false
given_alive (Reads m) k t h = refl
given_alive (Wants m) k t h = refl
given_alive (Last m) k t h = refl
given_alive (Shut c) k t h = refl
given_alive Fail k t h = absurd (no_move t h)

-- where the table goes on
pub columns : (ps : Parts) (t : Tok) → is_fail (ahead (tok ps t)) ≡ false → (inner (ahead (tok ps t)) ≡ edge (tok ps t)) × InColumn ps t
unfolding delta moved
columns start t h = (opens_level (look t) (sign t), inl refl)
columns top t h = (plain_level (found (sign t) (heads AtTop)) (heads_kind AtTop (sign t)), inl refl)
columns (from w) t h = (plain_level (found (sign t) (postfixes (class w))) (postfixes_kind (class w) (sign t)), inl refl)
columns (tok ps u) t h =
    let a : is_fail (ahead (tok ps u)) ≡ false = resumed_alive (ahead (tok ps u)) t h in
    let r : (inner (ahead (tok ps u)) ≡ 0) × (inner (ahead (tok (tok ps u) t)) ≡ 0) = resumed_level (ahead (tok ps u)) t (kinded_move (point ps) u) h in
    let e : edge (tok ps u) ≡ 0 = sym (columns ps u a).0 ∙ r.0 in
    (r.1 ∙ sym e, inl e)
columns (exp (tok ps u) w) t h =
    let a : is_fail (ahead (tok ps u)) ≡ false = given_alive (ahead (tok ps u)) (class w) t h in
    let e : inner (ahead (tok ps u)) ≡ edge (tok ps u) = (columns ps u a).0 in
    let r : (inner (ahead (tok (exp (tok ps u) w) t)) ≡ inner (ahead (tok ps u))) × ((inner (ahead (tok ps u)) ≡ 0) ⊎ (inner (ahead (tok ps u)) ≡ column t + 1)) = given_level (ahead (tok ps u)) (class w) t (kinded_move (point ps) u) h in
    (r.0 ∙ e, elim r.1 [ inl z ↦ inl (sym e ∙ z) | inr z ↦ inr (sym e ∙ z) ])
columns (exp start w) t h = absurd (no_move t h)
columns (exp top w) t h = absurd (no_move t h)
columns (exp (from v) w) t h = absurd (no_move t h)
columns (exp (exp ps v) w) t h = absurd (no_move t h)

-- where t stands by the bullets' column, the table looks at it from the column that it keeps
pub kept_column : (ps : Parts) (u t : Tok) → InColumn (tok ps u) t → (inner (ahead (tok ps u)) ≡ 0) ⊎ (inner (ahead (tok ps u)) ≡ column t + 1)
kept_column ps u t i =
    elim (either (is_fail (ahead (tok ps u)))) [
      | inl f ↦ inl (ap inner (is_failed (ahead (tok ps u)) f))
      | inr a ↦ (let e : inner (ahead (tok ps u)) ≡ edge (tok ps u) = (columns ps u a).0 in
          elim i [ inl z ↦ inl (e ∙ z) | inr z ↦ inr (e ∙ z) ])
    ]
