-- The layout in which types are shown is one of their texts.
use Rattle.std.proofs.Common.{◌≡◌, ℕ, Bool, true, false, ◌&&◌, List, [], ◌∷◌, ◌++◌, refl, ap, sym, ◌∙◌, subst, codes, Option, Some, None, append_assoc, IsTrue}
use Rattle.std.specs.List.{list_all}
use Rattle.std.proofs.lemmas.List.{append-nil}
use Rattle.snowcat_rows.specs.TypeTexts.{Syntax, Syntaxes, Fields, bool, int, str, named, variable, alias, set, seq, function, tuple, record_of, constant, operator, parens, end, more, last, also, pieces, more_pieces, field_pieces, row_pieces, Written, is_blank}
use Rattle.snowcat_rows.specs.inner.Layouts.{layout, more_layout, fields_layout, row_layout}

both_blank : (a b : List ℕ) → IsTrue (list_all is_blank a) → IsTrue (list_all is_blank b) → IsTrue (list_all is_blank (a ++ b))
both_blank [] b h k = k
both_blank (x ∷ a) b h k = here (is_blank x) (list_all is_blank a) (list_all is_blank (a ++ b)) h (both_blank a b)
  where
    here : (p q r : Bool) → IsTrue (p && q) → (IsTrue q → IsTrue (list_all is_blank b) → IsTrue r) → IsTrue (p && r)
    here true q r g f = f g k
    here false q r g f = g

-- blanks before
pub blank_written : (qs : List (List ℕ)) (a b : List ℕ) → IsTrue (list_all is_blank a) → Written qs b → Written qs (a ++ b)
blank_written [] a b h w = both_blank a b h w
blank_written (p ∷ ps) a b h (bl, rest, k, e, w) =
    (a ++ bl, rest, both_blank a bl h k, ap (λ z. a ++ z) (e ∙ append_assoc bl p rest) ∙ sym (append_assoc a bl (p ++ rest)) ∙ sym (append_assoc (a ++ bl) p rest), w)

pub written_append : (ps qs : List (List ℕ)) (a b : List ℕ) → Written ps a → Written qs b → Written (ps ++ qs) (a ++ b)
written_append [] qs a b h k = blank_written qs a b h k
written_append (p ∷ ps) qs a b (bl, rest, h, e, w) k = (bl, rest ++ b, h, ap (λ z. z ++ b) e ∙ append_assoc (bl ++ p) rest b, written_append ps qs rest b w k)

pub written_one : (p : List ℕ) → Written (p ∷ []) p
written_one p = ([], [], refl, sym (append-nil p), refl)

at_pieces : (ps qs : List (List ℕ)) (a : List ℕ) → ps ≡ qs → Written ps a → Written qs a
at_pieces ps qs a e w = let P : List (List ℕ) → Type 0 = λ z. Written z a in subst P e w

-- a piece, and what follows it
and_then : (p : List ℕ) (ps : List (List ℕ)) (a b : List ℕ) → Written (p ∷ []) a → Written ps b → Written (p ∷ ps) (a ++ b)
and_then p ps a b h k = written_append (p ∷ []) ps a b h k

arrow : Written (codes "->" ∷ []) (codes " -> ")
arrow = (codes " ", codes " ", refl, refl, refl)

comma : Written (codes "," ∷ []) (codes ", ")
comma = ([], codes " ", refl, refl, refl)

colon : Written (codes ":" ∷ []) (codes ": ")
colon = ([], codes " ", refl, refl, refl)

open_set : Written (codes "Set" ∷ codes "(" ∷ []) (codes "Set(")
open_set = ([], codes "(", refl, refl, ([], [], refl, refl, refl))

open_seq : Written (codes "Seq" ∷ codes "(" ∷ []) (codes "Seq(")
open_seq = ([], codes "(", refl, refl, ([], [], refl, refl, refl))

of_none : Written (codes "(" ∷ codes ")" ∷ codes "=>" ∷ []) (codes "() => ")
of_none = ([], codes ") => ", refl, refl, ([], codes " => ", refl, refl, (codes " ", codes " ", refl, refl, refl)))

result : Written (codes ")" ∷ codes "=>" ∷ []) (codes ") => ")
result = ([], codes " => ", refl, refl, (codes " ", codes " ", refl, refl, refl))

row_written : (k : Option (List ℕ)) → Written (row_pieces k) (row_layout k)
row_written None = refl
row_written (Some r) = and_then (codes ",") (r ∷ []) (codes ", ") r comma (written_one r)

mutual
  pub layout_written : (s : Syntax) → Written (pieces s) (layout s)
  layout_written bool = written_one (codes "Bool")
  layout_written int = written_one (codes "Int")
  layout_written str = written_one (codes "Str")
  layout_written (named x) = written_one x
  layout_written (variable x) = written_one x
  layout_written (alias x) = written_one (codes "$" ++ x)
  layout_written (set s) =
      written_append (codes "Set" ∷ codes "(" ∷ pieces s) (codes ")" ∷ []) (codes "Set(" ++ layout s) (codes ")")
      (written_append (codes "Set" ∷ codes "(" ∷ []) (pieces s) (codes "Set(") (layout s) open_set (layout_written s)) (written_one (codes ")"))
  layout_written (seq s) =
      written_append (codes "Seq" ∷ codes "(" ∷ pieces s) (codes ")" ∷ []) (codes "Seq(" ++ layout s) (codes ")")
      (written_append (codes "Seq" ∷ codes "(" ∷ []) (pieces s) (codes "Seq(") (layout s) open_seq (layout_written s)) (written_one (codes ")"))
  layout_written (function s t) =
      at_pieces _ _ _ (append_assoc (pieces s) (codes "->" ∷ []) (pieces t))
      (written_append (pieces s ++ codes "->" ∷ []) (pieces t) (layout s ++ codes " -> ") (layout t)
      (written_append (pieces s) (codes "->" ∷ []) (layout s) (codes " -> ") (layout_written s) arrow) (layout_written t))
  layout_written (tuple s ss) =
      written_append (codes "<<" ∷ pieces s ++ more_pieces ss) (codes ">>" ∷ []) (codes "<<" ++ layout s ++ more_layout ss) (codes ">>")
      (written_append (codes "<<" ∷ pieces s) (more_pieces ss) (codes "<<" ++ layout s) (more_layout ss)
      (and_then (codes "<<") (pieces s) (codes "<<") (layout s) (written_one (codes "<<")) (layout_written s)) (more_written ss)) (written_one (codes ">>"))
  layout_written (record_of n s fs k) =
      written_append (codes "{" ∷ n ∷ codes ":" ∷ pieces s ++ field_pieces fs ++ row_pieces k) (codes "}" ∷ [])
      (codes "{" ++ n ++ codes ": " ++ layout s ++ fields_layout fs ++ row_layout k) (codes "}")
      (written_append (codes "{" ∷ n ∷ codes ":" ∷ pieces s ++ field_pieces fs) (row_pieces k) (codes "{" ++ n ++ codes ": " ++ layout s ++ fields_layout fs) (row_layout k)
      (written_append (codes "{" ∷ n ∷ codes ":" ∷ pieces s) (field_pieces fs) (codes "{" ++ n ++ codes ": " ++ layout s) (fields_layout fs)
      (written_append (codes "{" ∷ n ∷ codes ":" ∷ []) (pieces s) (codes "{" ++ n ++ codes ": ") (layout s)
      (written_append (codes "{" ∷ n ∷ []) (codes ":" ∷ []) (codes "{" ++ n) (codes ": ")
      (and_then (codes "{") (n ∷ []) (codes "{") n (written_one (codes "{")) (written_one n)) colon)
      (layout_written s)) (fields_written fs)) (row_written k)) (written_one (codes "}"))
  layout_written (constant t) = written_append (codes "(" ∷ codes ")" ∷ codes "=>" ∷ []) (pieces t) (codes "() => ") (layout t) of_none (layout_written t)
  layout_written (operator s ss t) =
      at_pieces _ _ _ (append_assoc (codes "(" ∷ pieces s ++ more_pieces ss) (codes ")" ∷ codes "=>" ∷ []) (pieces t))
      (written_append ((codes "(" ∷ pieces s ++ more_pieces ss) ++ codes ")" ∷ codes "=>" ∷ []) (pieces t) (codes "(" ++ layout s ++ more_layout ss ++ codes ") => ") (layout t)
      (written_append (codes "(" ∷ pieces s ++ more_pieces ss) (codes ")" ∷ codes "=>" ∷ []) (codes "(" ++ layout s ++ more_layout ss) (codes ") => ")
      (written_append (codes "(" ∷ pieces s) (more_pieces ss) (codes "(" ++ layout s) (more_layout ss)
      (and_then (codes "(") (pieces s) (codes "(") (layout s) (written_one (codes "(")) (layout_written s)) (more_written ss)) result) (layout_written t))
  layout_written (parens s) =
      written_append (codes "(" ∷ pieces s) (codes ")" ∷ []) (codes "(" ++ layout s) (codes ")")
      (and_then (codes "(") (pieces s) (codes "(") (layout s) (written_one (codes "(")) (layout_written s)) (written_one (codes ")"))

  more_written : (ss : Syntaxes) → Written (more_pieces ss) (more_layout ss)
  more_written end = refl
  more_written (more s ss) =
      written_append (codes "," ∷ pieces s) (more_pieces ss) (codes ", " ++ layout s) (more_layout ss)
      (and_then (codes ",") (pieces s) (codes ", ") (layout s) comma (layout_written s)) (more_written ss)

  fields_written : (fs : Fields) → Written (field_pieces fs) (fields_layout fs)
  fields_written last = refl
  fields_written (also n s fs) =
      written_append (codes "," ∷ n ∷ codes ":" ∷ pieces s) (field_pieces fs) (codes ", " ++ n ++ codes ": " ++ layout s) (fields_layout fs)
      (written_append (codes "," ∷ n ∷ codes ":" ∷ []) (pieces s) (codes ", " ++ n ++ codes ": ") (layout s)
      (written_append (codes "," ∷ n ∷ []) (codes ":" ∷ []) (codes ", " ++ n) (codes ": ") (and_then (codes ",") (n ∷ []) (codes ", ") n comma (written_one n)) colon)
      (layout_written s)) (fields_written fs)
