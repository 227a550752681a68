-- Nodes with marks: those whose marks stand, and one whose mark is taken away.
use Rattle.std.proofs.Common.{◌≡◌, ℕ, ◌+◌, ◌<◌, Bool, true, false, List, [], ◌∷◌, ◌++◌, length, map, replicate, suc, zero, refl, ap, sym, ◌∙◌, arith, take, drop}
use Rattle.std.specs.Prelude.{get_or, set}
use Rattle.std.proofs.lemmas.List.{length-append, length-map}
use Rattle.snowcat_types.specs.declared.waiting.Wait.{Wait}
use Rattle.snowcat_types.specs.Typings.{Each}
use Rattle.snowcat_types.specs.inner.Awaited.{At, Stands, left}

-- ---- the i-th

pub at_same : (ws : List Wait) (i : ℕ) (v w : Wait) → At ws i v → At ws i w → v ≡ w
at_same [] i v w h k = absurd h
at_same (x ∷ ws) zero v w h k = h ∙ sym k
at_same (x ∷ ws) (suc i) v w h k = at_same ws i v w h k

pub at_below : (ws : List Wait) (i : ℕ) (w : Wait) → At ws i w → i < length ws
at_below [] i w h = absurd h
at_below (x ∷ ws) zero w h = omega arith
at_below (x ∷ ws) (suc i) w h = let lt = at_below ws i w h in omega (arith, lt)

pub at_read : {X : Type 0} (f : X → Wait) (xs : List X) (i : ℕ) (x : X) → i < length xs → x ≡ get_or xs i x → At (map f xs) i (f x)
at_read f [] i x lt is = absurd (omega (arith, lt))
at_read f (y ∷ xs) zero x lt is = ap f is
at_read f (y ∷ xs) (suc i) x lt is = at_read f xs i x (omega (arith, lt)) is

pub stands_at : (ms : List Bool) (ws : List Wait) (i : ℕ) (w : Wait) → Stands ms ws i w → At ws i w
stands_at [] ws i w h = absurd h
stands_at (m ∷ ms) [] i w h = absurd h
stands_at (m ∷ ms) (x ∷ ws) zero w h = h.1
stands_at (m ∷ ms) (x ∷ ws) (suc i) w h = stands_at ms ws i w h

pub stands_marked : (ms : List Bool) (ws : List Wait) (i : ℕ) (w : Wait) → Stands ms ws i w → get_or ms i false ≡ true
stands_marked [] ws i w h = absurd h
stands_marked (m ∷ ms) [] i w h = absurd h
stands_marked (m ∷ ms) (x ∷ ws) zero w h = h.0
stands_marked (m ∷ ms) (x ∷ ws) (suc i) w h = stands_marked ms ws i w h

pub marked_stands : (ms : List Bool) (ws : List Wait) (i : ℕ) (w : Wait) → get_or ms i false ≡ true → At ws i w → Stands ms ws i w
marked_stands [] ws i w e h = absurd (cc)
marked_stands (m ∷ ms) [] i w e h = absurd h
marked_stands (m ∷ ms) (x ∷ ws) zero w e h = (e, h)
marked_stands (m ∷ ms) (x ∷ ws) (suc i) w e h = marked_stands ms ws i w e h

pub marked_below : (ms : List Bool) (i : ℕ) → get_or ms i false ≡ true → i < length ms
marked_below [] i e = absurd (cc)
marked_below (m ∷ ms) zero e = omega arith
marked_below (m ∷ ms) (suc i) e = let lt = marked_below ms i e in omega (arith, lt)

pub marked_within : {X : Type 0} (f : X → Wait) (xs : List X) (ms : List Bool) (i : ℕ) → length ms ≡ length (map f xs) → get_or ms i false ≡ true → i < length xs
marked_within f xs ms i e m =
    let lt : i < length ms = marked_below ms i m in let g : length (map f xs) ≡ length xs = length-map xs f in omega (arith, e, lt, g)

-- ---- all marks

pub all_left : (ws : List Wait) → left (replicate (length ws) true) ws ≡ ws
all_left [] = refl
all_left (w ∷ ws) = ap (λ z. w ∷ z) (all_left ws)

pub each_left : (P : Wait → Type 0) (ms : List Bool) (ws : List Wait) → ((i : ℕ) (w : Wait) → Stands ms ws i w → P w) → Each P (left ms ws)
each_left P [] ws f = tt
each_left P (m ∷ ms) [] f = tt
each_left P (true ∷ ms) (w ∷ ws) f = (f zero w (refl, refl), each_left P ms ws (λ i u h. f (suc i) u h))
each_left P (false ∷ ms) (w ∷ ws) f = each_left P ms ws (λ i u h. f (suc i) u h)

pub none_left : (ms : List Bool) (ws : List Wait) → ((i : ℕ) (w : Wait) → Stands ms ws i w → ⊥) → left ms ws ≡ []
none_left [] ws f = refl
none_left (m ∷ ms) [] f = refl
none_left (true ∷ ms) (w ∷ ws) f = absurd (f zero w (refl, refl))
none_left (false ∷ ms) (w ∷ ws) f = none_left ms ws (λ i u h. f (suc i) u h)

-- ---- a mark is taken away

pub unmarked_off : (ms : List Bool) (i k : ℕ) → get_or ms k false ≡ false → get_or (set ms i false) k false ≡ false
unmarked_off [] i k e = e
unmarked_off (m ∷ ms) zero zero e = refl
unmarked_off (m ∷ ms) zero (suc k) e = e
unmarked_off (m ∷ ms) (suc i) zero e = e
unmarked_off (m ∷ ms) (suc i) (suc k) e = unmarked_off ms i k e

pub stands_off : (ms : List Bool) (ws : List Wait) (i j : ℕ) (u : Wait) → Stands (set ms i false) ws j u → Stands ms ws j u × (j ≡ i → ⊥)
stands_off [] ws i j u h = absurd h
stands_off (m ∷ ms) [] zero j u h = absurd h
stands_off (m ∷ ms) [] (suc i) j u h = absurd h
stands_off (m ∷ ms) (x ∷ ws) zero zero u h = absurd (let e : false ≡ true = h.0 in cc)
stands_off (m ∷ ms) (x ∷ ws) zero (suc j) u h = (h, λ e. absurd (omega (arith, e)))
stands_off (m ∷ ms) (x ∷ ws) (suc i) zero u h = (h, λ e. absurd (omega (arith, e)))
stands_off (m ∷ ms) (x ∷ ws) (suc i) (suc j) u h = let k = stands_off ms ws i j u h in (k.0, λ e. k.1 (omega (arith, e)))

-- those before it, and those behind it
abbrev pub ahead : List Bool → List Wait → ℕ → List Wait
ahead ms ws i = left (take i ms) ws

abbrev pub past : List Bool → List Wait → ℕ → List Wait
past ms ws i = left (drop (suc i) ms) (drop (suc i) ws)

pub left_split : (ms : List Bool) (ws : List Wait) (i : ℕ) (w : Wait) → Stands ms ws i w → left ms ws ≡ ahead ms ws i ++ w ∷ past ms ws i
left_split [] ws i w h = absurd h
left_split (m ∷ ms) [] i w h = absurd h
left_split (true ∷ ms) (x ∷ ws) zero w h = ap (λ z. z ∷ left ms ws) (sym h.1)
left_split (false ∷ ms) (x ∷ ws) zero w h = absurd (let e : false ≡ true = h.0 in cc)
left_split (true ∷ ms) (x ∷ ws) (suc i) w h = ap (λ z. x ∷ z) (left_split ms ws i w h)
left_split (false ∷ ms) (x ∷ ws) (suc i) w h = left_split ms ws i w h

pub left_off : (ms : List Bool) (ws : List Wait) (i : ℕ) (w : Wait) → Stands ms ws i w → left (set ms i false) ws ≡ ahead ms ws i ++ past ms ws i
left_off [] ws i w h = absurd h
left_off (m ∷ ms) [] i w h = absurd h
left_off (m ∷ ms) (x ∷ ws) zero w h = refl
left_off (true ∷ ms) (x ∷ ws) (suc i) w h = ap (λ z. x ∷ z) (left_off ms ws i w h)
left_off (false ∷ ms) (x ∷ ws) (suc i) w h = left_off ms ws i w h

pub each_ahead : (P : Wait → Type 0) (ms : List Bool) (ws : List Wait) (i : ℕ) → ((j : ℕ) (u : Wait) → Stands ms ws j u → j < i → P u) → Each P (ahead ms ws i)
each_ahead P ms ws zero f = tt
each_ahead P [] ws (suc i) f = tt
each_ahead P (m ∷ ms) [] (suc i) f = tt
each_ahead P (true ∷ ms) (w ∷ ws) (suc i) f =
    (f zero w (refl, refl) (omega arith), each_ahead P ms ws i (λ j u h lt. f (suc j) u h (omega (arith, lt))))
each_ahead P (false ∷ ms) (w ∷ ws) (suc i) f = each_ahead P ms ws i (λ j u h lt. f (suc j) u h (omega (arith, lt)))

pub each_past : (P : Wait → Type 0) (ms : List Bool) (ws : List Wait) (i : ℕ) → ((j : ℕ) (u : Wait) → Stands ms ws j u → i < j → P u) → Each P (past ms ws i)
each_past P [] ws i f = tt
each_past P (m ∷ ms) [] zero f = each_left P ms [] (λ j u h. absurd (never ms j u h))
  where
    never : (ns : List Bool) (j : ℕ) (u : Wait) → Stands ns [] j u → ⊥
    never [] j u h = h
    never (n ∷ ns) j u h = h
each_past P (m ∷ ms) [] (suc i) f = each_past P ms [] i (λ j u h lt. absurd (never ms j u h))
  where
    never : (ns : List Bool) (j : ℕ) (u : Wait) → Stands ns [] j u → ⊥
    never [] j u h = h
    never (n ∷ ns) j u h = h
each_past P (m ∷ ms) (w ∷ ws) zero f = each_left P ms ws (λ j u h. f (suc j) u h (omega arith))
each_past P (m ∷ ms) (w ∷ ws) (suc i) f = each_past P ms ws i (λ j u h lt. f (suc j) u h (omega (arith, lt)))

pub fewer_left : (ms ns : List Bool) (ws : List Wait) (i : ℕ) (w : Wait) → Stands ms ws i w → ns ≡ set ms i false → length (left ns ws) < length (left ms ws)
fewer_left ms ns ws i w h e =
    let a : length (left ms ws) ≡ length (ahead ms ws i) + length (w ∷ past ms ws i) = ap length (left_split ms ws i w h) ∙ length-append (ahead ms ws i) (w ∷ past ms ws i) in
    let b : length (left ns ws) ≡ length (ahead ms ws i) + length (past ms ws i) =
    ap (λ z. length (left z ws)) e ∙ ap length (left_off ms ws i w h) ∙ length-append (ahead ms ws i) (past ms ws i) in
    omega (arith, a, b)
