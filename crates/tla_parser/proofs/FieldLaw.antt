-- The walk over what is read of a module tells whether a record names a field twice.
use Rattle.std.proofs.Common.{length-append, leb-true, leb-false, nat_le, ◌-◌, ◌<◌}
use Rattle.std.proofs.lemmas.List.{drop_all, drop_at, length-drop, length-reverse, reverse-append, reverse-reverse, take-append-drop, take_all, take_at}
use Rattle.tla_parser.proofs.Basics.{either}
use Rattle.std.proofs.Common.{inl, inr, ℕ, Bool, true, false, cond, List, Option, None, length, reverse, take, drop, refl, sym, ap, arith, append-nil, append_assoc, ◌≡◌, ◌+◌, ◌∷◌, ◌++◌, ◌&&◌, ◌∙◌, []}
use Rattle.tla_lexer.specs.declared.token.Token.{Token}
use Rattle.tla_parser.specs.Fields.{bare_name, distinct, fields, has_fields, last_name, names_once, once, once_in}
use Rattle.tla_parser.specs.Forms.{is_bare}
use Rattle.tla_parser.specs.Signs.{sign}
use Rattle.tla_parser.specs.Written.{Parts, Written, bin, class, class_of, closed, continues, exp, from, parts, pre, start, tailed, tok, top}
use Rattle.tla_parser.specs.declared.fields.Entry.{Entry}
use Rattle.tla_parser.specs.declared.moves.Construct.{Construct}
use Rattle.tla_parser.specs.declared.open.Code.{Code}
use Rattle.tla_parser.specs.declared.open.Code.TheVariants.{Close, Infix, Part, Prefix}
use Rattle.tla_parser.specs.inner.Derivations.{post, posts}
use Rattle.tla_parser.specs.inner.Repeats.{Walk, end_name, named_at, named_from, once_codes, operand_entry, shut_name, shut_once, token_entry, walk_start, walked, walked_one}

-- ---- one behind another

pub walked_append : (xs ys : List Code) (w : Walk) → walked (xs ++ ys) w ≡ walked ys (walked xs w)
walked_append [] ys w = refl
walked_append (x ∷ xs) ys w = walked_append xs ys (walked_one x w)

walked_then : (xs ys : List Code) (w v : Walk) → walked xs w ≡ v → walked (xs ++ ys) w ≡ walked ys v
walked_then xs ys w v h = walked_append xs ys w ∙ ap (walked ys) h

first_true : (a b : Bool) → (a && b) ≡ true → a ≡ true
first_true true b h = refl
first_true false b h = h

once_one : (x : Code) (w : Walk) → (walked_one x w).0 ≡ true → w.0 ≡ true
once_one (Part t) w h = h
once_one (Prefix t) w h = h
once_one (Infix t j) w h = h
once_one (Close c n) w h = first_true w.0 (shut_once c (reverse (take n w.1))) h

once_before : (xs : List Code) (w : Walk) → (walked xs w).0 ≡ true → w.0 ≡ true
once_before [] w h = h
once_before (x ∷ xs) w h = once_one x w (once_before xs (walked_one x w) h)

-- what no longer front repeats, no shorter one does
pub once_front : (xs ys : List Code) → once_codes (xs ++ ys) ≡ true → once_codes xs ≡ true
once_front xs ys h = once_before ys (walked xs walk_start) (ap (λ (w : Walk). w.0) (sym (walked_append xs ys walk_start)) ∙ h)

-- a token repeats nothing
pub once_part : (xs : List Code) (t : Token) → once_codes (xs ++ (Part t ∷ [])) ≡ once_codes xs
once_part xs t = ap (λ (w : Walk). w.0) (walked_append xs (Part t ∷ []) walk_start)

-- ---- the entries of parts

abbrev pub entries : Parts → List Entry
entries start = []
entries top = []
entries (from w) = operand_entry (bare_name w) ∷ []
entries (tok ps t) = entries ps ++ (token_entry t ∷ [])
entries (exp ps w) = entries ps ++ (operand_entry (bare_name w) ∷ [])

counted : (ps : Parts) → length (entries ps) ≡ parts ps
counted start = refl
counted top = refl
counted (from w) = refl
counted (tok ps t) = length-append (entries ps) (token_entry t ∷ []) ∙ ap (λ (n : ℕ). n + 1) (counted ps)
counted (exp ps w) = length-append (entries ps) (operand_entry (bare_name w) ∷ []) ∙ ap (λ (n : ℕ). n + 1) (counted ps)

named_more : (i : ℕ) (xs : List Entry) (e : Entry) → named_from i (xs ++ (e ∷ [])) ≡ named_from i xs ++ named_at (i + length xs) e
named_more i [] e = append-nil (named_at i e) ∙ ap (λ (n : ℕ). named_at n e) (omega arith)
named_more i (x ∷ xs) e =
    ap (λ (ns : List (List ℕ)). named_at i x ++ ns) (named_more (i + 1) xs e ∙ ap (λ (n : ℕ). named_from (i + 1) xs ++ named_at n e) (omega arith))
    ∙ sym (append_assoc (named_at i x) (named_from (i + 1) xs) (named_at (i + length (x ∷ xs)) e))

pub named_next : (xs : List Entry) (e : Entry) → named_from 0 (xs ++ (e ∷ [])) ≡ named_from 0 xs ++ named_at (length xs) e
named_next xs e = named_more 0 xs e ∙ ap (λ (n : ℕ). named_from 0 xs ++ named_at n e) (omega arith)

fields_named : (ps : Parts) → named_from 0 (entries ps) ≡ fields ps
fields_named start = refl
fields_named top = refl
fields_named (from w) = refl
fields_named (tok ps t) = named_next (entries ps) (token_entry t) ∙ ap (λ (ns : List (List ℕ)). ns ++ named_at 0 (token_entry t)) (fields_named ps)
fields_named (exp ps w) =
    named_next (entries ps) (operand_entry (bare_name w))
    ∙ ap (λ (ns : List (List ℕ)). ns ++ named_at (length (entries ps)) (operand_entry (bare_name w))) (fields_named ps)
    ∙ ap (λ (n : ℕ). fields ps ++ named_at n (operand_entry (bare_name w))) (counted ps)

end_so : (ps : Parts) → end_name (reverse (entries ps)) ≡ last_name ps
end_so start = refl
end_so top = refl
end_so (from w) = refl
end_so (tok ps t) = ap end_name (reverse-append (entries ps) (token_entry t ∷ []))
end_so (exp ps w) = ap end_name (reverse-append (entries ps) (operand_entry (bare_name w) ∷ []))

shut_once_so : (c : Construct) (ps : Parts) → shut_once c (reverse (reverse (entries ps))) ≡ names_once c ps
shut_once_so c ps = ap (λ (ns : List (List ℕ)). cond (has_fields c) (distinct ns) true) (ap (named_from 0) (reverse-reverse (entries ps)) ∙ fields_named ps)

-- ---- a whole form

shut_walked : (c : Construct) (n : ℕ) (b : Bool) (s : List Entry) (ps : Parts) → parts ps ≡ n → walked (Close c n ∷ []) (b, reverse (entries ps) ++ s) ≡ (b && names_once c ps, operand_entry (cond (is_bare (class_of c)) (last_name ps) None) ∷ s)
shut_walked c n b s ps h =
    let e : length (reverse (entries ps)) ≡ n = length-reverse (entries ps) ∙ counted ps ∙ h in
    rw (take_at (reverse (entries ps)) s n e, drop_at (reverse (entries ps)) s n e, shut_once_so c ps, end_so ps) refl

one_more : (ps : List Entry) (x : Entry) (s : List Entry) → x ∷ (reverse ps ++ s) ≡ reverse (ps ++ (x ∷ [])) ++ s
one_more xs x s = ap (λ (ys : List Entry). ys ++ s) (sym (reverse-append xs (x ∷ [])))

and_more : (a b c : Bool) → ((a && b) && c) ≡ (a && (b && c))
and_more true b c = refl
and_more false b c = refl

abbrev no_name : Option (List ℕ)
no_name = None

none_bare : (c : Bool) → cond c no_name no_name ≡ no_name
none_bare true = refl
none_bare false = refl

exp_walked : (ps : Parts) (w : Written) (b : Bool) (s : List Entry) → walked (posts ps) (b, s) ≡ (b && once_in ps, reverse (entries ps) ++ s) → walked (post w) (b && once_in ps, reverse (entries ps) ++ s) ≡ ((b && once_in ps) && once w, operand_entry (bare_name w) ∷ (reverse (entries ps) ++ s)) → walked (posts ps ++ post w) (b, s) ≡ (b && once_in (exp ps w), reverse (entries (exp ps w)) ++ s)
exp_walked ps w b s h k =
    walked_then (posts ps) (post w) (b, s) (b && once_in ps, reverse (entries ps) ++ s) h
    ∙ k
    ∙ ap (λ (r : List Entry). ((b && once_in ps) && once w, r)) (one_more (entries ps) (operand_entry (bare_name w)) s)
    ∙ ap (λ (x : Bool). (x, reverse (entries (exp ps w)) ++ s)) (and_more b (once_in ps) (once w))

mutual
  pub post_walked : (w : Written) (b : Bool) (s : List Entry) → walked (post w) (b, s) ≡ (b && once w, operand_entry (bare_name w) ∷ s)
  post_walked (closed c ps) b s =
      walked_then (posts ps) (Close c (parts ps) ∷ []) (b, s) (b && once_in ps, reverse (entries ps) ++ s) (posts_walked ps b s)
      ∙ shut_walked c (parts ps) (b && once_in ps) s ps refl
      ∙ ap (λ (x : Bool). (x, operand_entry (bare_name (closed c ps)) ∷ s)) (and_more b (once_in ps) (names_once c ps))
  post_walked (tailed c ps w) b s =
      walked_then (posts ps ++ post w) (Close c (parts ps + 1) ∷ []) (b, s) (b && once_in (exp ps w), reverse (entries (exp ps w)) ++ s)
      (exp_walked ps w b s (posts_walked ps b s) (post_walked w (b && once_in ps) (reverse (entries ps) ++ s)))
      ∙ shut_walked c (parts ps + 1) (b && once_in (exp ps w)) s (exp ps w) refl
      ∙ ap (λ (x : Bool). (x, operand_entry (cond (is_bare (class_of c)) no_name no_name) ∷ s)) (and_more b (once_in (exp ps w)) (names_once c (exp ps w)) ∙ ap (λ (x : Bool). b && x) (and_more (once_in ps) (once w) (names_once c (exp ps w))))
      ∙ ap (λ (x : Option (List ℕ)). (b && once (tailed c ps w), operand_entry x ∷ s)) (none_bare (is_bare (class_of c)))
  post_walked (pre p w) b s = walked_then (post w) (Prefix p ∷ []) (b, s) (b && once w, operand_entry (bare_name w) ∷ s) (post_walked w b s)
  post_walked (bin a t d) b s =
      walked_then (post a ++ post d) (Infix t (continues (class a) (sign t)) ∷ []) (b, s) ((b && once a) && once d, operand_entry (bare_name d) ∷ (operand_entry (bare_name a) ∷ s))
      (walked_then (post a) (post d) (b, s) (b && once a, operand_entry (bare_name a) ∷ s) (post_walked a b s) ∙ post_walked d (b && once a) (operand_entry (bare_name a) ∷ s))
      ∙ ap (λ (x : Bool). (x, operand_entry None ∷ s)) (and_more b (once a) (once d))

  pub posts_walked : (ps : Parts) (b : Bool) (s : List Entry) → walked (posts ps) (b, s) ≡ (b && once_in ps, reverse (entries ps) ++ s)
  posts_walked start b s = ap (λ (x : Bool). (x, s)) (and_true b)
    where
      and_true : (x : Bool) → x ≡ (x && true)
      and_true true = refl
      and_true false = refl
  posts_walked top b s = ap (λ (x : Bool). (x, s)) (and_true b)
    where
      and_true : (x : Bool) → x ≡ (x && true)
      and_true true = refl
      and_true false = refl
  posts_walked (from w) b s = post_walked w b s
  posts_walked (tok ps t) b s =
      walked_then (posts ps) (Part t ∷ []) (b, s) (b && once_in ps, reverse (entries ps) ++ s) (posts_walked ps b s)
      ∙ ap (λ (r : List Entry). (b && once_in ps, r)) (one_more (entries ps) (token_entry t) s)
  posts_walked (exp ps w) b s = exp_walked ps w b s (posts_walked ps b s) (post_walked w (b && once_in ps) (reverse (entries ps) ++ s))

-- what is read of a module names a field twice just where the module does
pub codes_once : (ps : Parts) (cs : List Code) → cs ≡ posts ps → once_codes cs ≡ once_in ps
codes_once ps cs e = ap once_codes e ∙ ap (λ (w : Walk). w.0) (posts_walked ps true [])

-- ---- the last parts of what stands open

-- they are taken off, whether there are as many or not
taken_off : (n k : ℕ) (xs parts rest : List Entry) → k ≡ length xs - n → parts ≡ drop k xs → rest ≡ take k xs → (take n (reverse xs) ≡ reverse parts) × (drop n (reverse xs) ≡ reverse rest)
taken_off n k xs parts rest e p r =
    let w : reverse xs ≡ reverse parts ++ reverse rest = ap reverse (sym (take-append-drop k xs)) ∙ reverse-append (take k xs) (drop k xs) ∙ ap (λ (ys : List Entry). reverse (drop k xs) ++ reverse ys) (sym r) ∙ ap (λ (ys : List Entry). reverse ys ++ reverse rest) (sym p) in
    elim (either (nat_le n (length xs))) [
      | inl h ↦ (let l : length (reverse parts) ≡ n = length-reverse parts ∙ ap length p ∙ length-drop k xs ∙ omega (arith, e, leb-true n (length xs) h) in
          (ap (take n) w ∙ take_at (reverse parts) (reverse rest) n l, ap (drop n) w ∙ drop_at (reverse parts) (reverse rest) n l))
      | inr h ↦ (let l : length xs < n = leb-false n (length xs) h in
          let z : k ≡ 0 = omega (arith, e, l) in
          let q : parts ≡ xs = p ∙ ap (λ (i : ℕ). drop i xs) z in
          let o : rest ≡ [] = r ∙ ap (λ (i : ℕ). take i xs) z in
          (take_all n (reverse xs) (omega (arith, length-reverse xs, l)) ∙ ap reverse (sym q), drop_all n (reverse xs) (omega (arith, length-reverse xs, l)) ∙ ap reverse (sym o)))
    ]

pub close_so : (c : Construct) (n k : ℕ) (xs parts rest new : List Entry) (b o : Bool) (x : Option (List ℕ)) → k ≡ length xs - n → parts ≡ drop k xs → rest ≡ take k xs → o ≡ (b && shut_once c parts) → x ≡ shut_name c (reverse parts) → new ≡ rest ++ (operand_entry x ∷ []) → (o, reverse new) ≡ walked_one (Close c n) (b, reverse xs)
close_so c n k xs parts rest new b o x e p r q i m =
    let t : (take n (reverse xs) ≡ reverse parts) × (drop n (reverse xs) ≡ reverse rest) = taken_off n k xs parts rest e p r in
    ap (λ (ys : List Entry). (o, reverse ys)) m
    ∙ ap (λ (ys : List Entry). (o, ys)) (reverse-append rest (operand_entry x ∷ []))
    ∙ rw (t.0, t.1, reverse-reverse parts, q, i) refl
