-- What is read of a derivation makes its tree.
use Rattle.std.proofs.Common.{take, drop, length-append}
use Rattle.std.proofs.lemmas.List.{length-reverse, reverse-append, reverse-reverse, take-append-drop, take-append-le, drop-append-le, length-drop}
use Rattle.tla_meaning.specs.declared.expr.Expr.{Expr}
use Rattle.tla_parser.specs.declared.items.Item.{Item}
use Rattle.tla_parser.specs.declared.items.Item.TheVariants.{Piece, Tree}
use Rattle.std.proofs.Common.{ℕ, List, Option, Some, length, reverse, refl, sym, ap, arith, le-leb, ◌≡◌, ◌+◌, ◌-◌, ◌≤◌, ◌∷◌, ◌++◌, ◌∙◌, []}
use Rattle.tla_parser.specs.Signs.{sign}
use Rattle.tla_parser.specs.Spelling.{items, tree}
use Rattle.tla_parser.specs.Trees.{build}
use Rattle.tla_parser.specs.declared.moves.Construct.{Construct}
use Rattle.tla_parser.specs.declared.open.Code.{Code}
use Rattle.tla_parser.specs.declared.open.Code.TheVariants.{Close, Infix, Part, Prefix}
use Rattle.tla_parser.specs.inner.Building.{made, made_on, shut_form}
use Rattle.tla_parser.specs.Written.{Parts, Written, bin, class, closed, continues, exp, from, parts, pre, start, tailed, tok, top}
use Rattle.tla_parser.specs.inner.Derivations.{post, posts}

made_append : (xs ys : List Code) (o : Option (List Item)) → made (xs ++ ys) o ≡ made ys (made xs o)
made_append [] ys o = refl
made_append (x ∷ xs) ys o = made_append xs ys (made_on x o)

take_all : (xs : List Item) → take (length xs) xs ≡ xs
take_all [] = refl
take_all (x ∷ xs) = ap (λ (ys : List Item). x ∷ ys) (take_all xs)

drop_all : (xs : List Item) → drop (length xs) xs ≡ []
drop_all [] = refl
drop_all (x ∷ xs) = drop_all xs

take_front : (xs ys : List Item) → take (length xs) (xs ++ ys) ≡ xs
take_front xs ys = take-append-le (length xs) xs ys (omega arith) ∙ take_all xs

drop_front : (xs ys : List Item) → drop (length xs) (xs ++ ys) ≡ ys
drop_front xs ys = drop-append-le (length xs) xs ys (omega arith) ∙ ap (λ (zs : List Item). zs ++ ys) (drop_all xs)

-- the last parts make a form
pub shut_split : (c : Construct) (n : ℕ) (s back : List Item) → length back ≡ n → shut_form c n (reverse back ++ s) ≡ Some (Tree (build c back) ∷ s)
shut_split c n s back h =
    let e : n ≡ length (reverse back) = sym (length-reverse back ∙ h) in
    rw (e, le-leb (length (reverse back)) (length (reverse back ++ s)) (rw length-append (omega arith)), take_front (reverse back) s, drop_front (reverse back) s, reverse-reverse back) refl

close_made : (c : Construct) (n : ℕ) (s back : List Item) → length back ≡ n → made (Close c n ∷ []) (Some (reverse back ++ s)) ≡ Some (Tree (build c back) ∷ s)
close_made c n s back h = shut_split c n s back h

made_then : (xs ys : List Code) (s r : List Item) → made xs (Some s) ≡ Some r → made (xs ++ ys) (Some s) ≡ made ys (Some r)
made_then xs ys s r h = made_append xs ys (Some s) ∙ ap (made ys) h

counted : (ps : Parts) → length (items ps) ≡ parts ps
counted start = refl
counted top = refl
counted (from w) = refl
counted (tok ps t) = length-append (items ps) (Piece t ∷ []) ∙ ap (λ (n : ℕ). n + 1) (counted ps)
counted (exp ps w) = length-append (items ps) (Tree (tree w) ∷ []) ∙ ap (λ (n : ℕ). n + 1) (counted ps)

one_more_made : (xs : List Item) (x : Item) (s : List Item) → x ∷ (reverse xs ++ s) ≡ reverse (xs ++ (x ∷ [])) ++ s
one_more_made xs x s = ap (λ (ys : List Item). ys ++ s) (sym (reverse-append xs (x ∷ [])))

mutual
  pub post_made : (w : Written) (s : List Item) → made (post w) (Some s) ≡ Some (Tree (tree w) ∷ s)
  post_made (closed c ps) s =
      made_then (posts ps) (Close c (parts ps) ∷ []) s (reverse (items ps) ++ s) (posts_made ps s)
      ∙ close_made c (parts ps) s (items ps) (counted ps)
  post_made (tailed c ps w) s =
      made_then (posts ps ++ post w) (Close c (parts ps + 1) ∷ []) s (Tree (tree w) ∷ (reverse (items ps) ++ s))
      (made_then (posts ps) (post w) s (reverse (items ps) ++ s) (posts_made ps s) ∙ post_made w (reverse (items ps) ++ s))
      ∙ ap (λ (r : List Item). made (Close c (parts ps + 1) ∷ []) (Some r)) (one_more_made (items ps) (Tree (tree w)) s)
      ∙ close_made c (parts ps + 1) s (items ps ++ (Tree (tree w) ∷ []))
      (length-append (items ps) (Tree (tree w) ∷ []) ∙ ap (λ (n : ℕ). n + 1) (counted ps))
  post_made (pre p w) s = made_then (post w) (Prefix p ∷ []) s (Tree (tree w) ∷ s) (post_made w s)
  post_made (bin a t b) s =
      made_then (post a ++ post b) (Infix t (continues (class a) (sign t)) ∷ []) s (Tree (tree b) ∷ (Tree (tree a) ∷ s))
      (made_then (post a) (post b) s (Tree (tree a) ∷ s) (post_made a s) ∙ post_made b (Tree (tree a) ∷ s))

  pub posts_made : (ps : Parts) (s : List Item) → made (posts ps) (Some s) ≡ Some (reverse (items ps) ++ s)
  posts_made start s = refl
  posts_made top s = refl
  posts_made (from w) s = post_made w s
  posts_made (tok ps t) s =
      made_then (posts ps) (Part t ∷ []) s (reverse (items ps) ++ s) (posts_made ps s)
      ∙ ap (λ (r : List Item). Some r) (one_more_made (items ps) (Piece t) s)
  posts_made (exp ps w) s =
      made_then (posts ps) (post w) s (reverse (items ps) ++ s) (posts_made ps s)
      ∙ post_made w (reverse (items ps) ++ s)
      ∙ ap (λ (r : List Item). Some r) (one_more_made (items ps) (Tree (tree w)) s)

pub made_next : (xs : List Code) (x : Code) (o : Option (List Item)) → made (xs ++ (x ∷ [])) o ≡ made_on x (made xs o)
made_next xs x o = made_append xs (x ∷ []) o

-- the parts at the end of a list make a form
pub shut_end : (c : Construct) (n : ℕ) (s : List Item) → n ≤ length s → shut_form c n (reverse s) ≡ Some (Tree (build c (drop (length s - n) s)) ∷ reverse (take (length s - n) s))
shut_end c n s h =
    ap (shut_form c n) (ap reverse (sym (take-append-drop (length s - n) s)) ∙ reverse-append (take (length s - n) s) (drop (length s - n) s))
    ∙ shut_split c n (reverse (take (length s - n) s)) (drop (length s - n) s) (length-drop (length s - n) s ∙ omega arith)

pub shut_made : (c : Construct) (n k : ℕ) (s new rest back : List Item) (e : Expr) → n ≤ length s → k ≡ length s - n → back ≡ drop k s → rest ≡ take k s → e ≡ build c back → new ≡ rest ++ (Tree e ∷ []) → shut_form c n (reverse s) ≡ Some (reverse new)
shut_made c n k s new rest back e h i b r q w =
    shut_end c n s h
    ∙ ap (λ (m : ℕ). Some (Tree (build c (drop m s)) ∷ reverse (take m s))) (sym i)
    ∙ rw (← b, ← r, ← q) (ap (λ (xs : List Item). Some xs) (sym (reverse-append rest (Tree e ∷ [])) ∙ ap reverse (sym w)))
