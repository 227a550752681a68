-- What is written by the rules is what the table leads through, and the other way round.
use Rattle.std.proofs.Common.{ℕ, true, false, ◌≡◌, ◌<◌, inl, inr, List, Some, [], refl, sym, ap, subst}
use Rattle.tla_lexer.specs.declared.token.Token.{Token as Tok}
use Rattle.tla_parser.proofs.Basics.{either}
use Rattle.tla_parser.proofs.Columns.{columns}
use Rattle.tla_parser.proofs.Complete.{Alive, alive_exp, alive_last, alive_shut, alive_tok, module_again}
use Rattle.tla_parser.proofs.FormLaw.{Regular, goes_table, table_goes, tail_law, whole_law}
use Rattle.tla_parser.proofs.Laws.{clash, is_failed}
use Rattle.tla_parser.proofs.Machine.{parse_module}
use Rattle.tla_parser.proofs.ModuleLaw.{module_whole}
use Rattle.tla_parser.proofs.Origins.{last_parts, shut_parts}
use Rattle.tla_parser.proofs.Sound.{module_found, one_module}
use Rattle.tla_parser.specs.Rules.{Ends, Fine, GoesOn, Good, GoodParts, IsForm, IsModule, Leaves, edge, ends_in_token}
use Rattle.tla_parser.specs.Signs.{column}
use Rattle.tla_parser.specs.Written.{From, Parts, Written, bin, class, closed, exp, from, of_module, pre, start, tailed, tok, tokens, tokens_of, top}
use Rattle.tla_parser.specs.declared.moves.Construct.{Construct}
use Rattle.tla_parser.specs.declared.moves.Mark.TheVariants.{Finished}
use Rattle.tla_parser.specs.declared.moves.Next.TheVariants.{Fail, Reads}
use Rattle.tla_parser.specs.inner.Derivations.{IsTableModule, TableEnds, TableFine, TableGood, TableLeaves, TableParts, ahead, delta, form_of, given, inner, is_last, is_shut}
use Rattle.tla_parser.specs.inner.Recognition.{is_fail}

-- ---- shapes

pub regular : (ps : Parts) → GoodParts ps → Regular ps
regular start g = tt
regular top g = tt
regular (from w) g = tt
regular (tok ps t) g = (regular ps g.0, g.1)
regular (exp ps w) g = (g.0, regular ps g.1)

alive_token : (ps : Parts) (w : Written) → Alive (exp ps w) → ends_in_token ps ≡ true
alive_token (tok ps t) w h = refl
alive_token start w h = absurd (cc)
alive_token top w h = absurd (cc)
alive_token (from v) w h = absurd (cc)
alive_token (exp ps v) w h = absurd (cc)

pub alive_regular : (ps : Parts) → Alive ps → Regular ps
alive_regular start h = tt
alive_regular top h = tt
alive_regular (from w) h = tt
alive_regular (tok ps t) h = (alive_regular ps (alive_tok ps t h), (columns ps t h).1)
alive_regular (exp ps w) h = (alive_token ps w h, alive_regular ps (alive_exp ps w [] h).0)

-- the column of the bullets, where the table goes on
alive_edge : (ps : Parts) → ends_in_token ps ≡ true → Alive ps → inner (ahead ps) ≡ edge ps
alive_edge (tok ps t) i h = (columns ps t h).0
alive_edge start i h = cc
alive_edge top i h = cc
alive_edge (from w) i h = cc
alive_edge (exp ps w) i h = cc

last_token : (ps : Parts) → is_last (ahead ps) ≡ true → ends_in_token ps ≡ true
last_token (tok ps t) h = refl
last_token start h = cc
last_token top h = cc
last_token (from w) h = cc
last_token (exp ps w) h = cc

shut_token : (ps : Parts) → is_shut (ahead ps) ≡ true → ends_in_token ps ≡ true
shut_token (tok ps t) h = refl
shut_token start h = cc
shut_token top h = cc
shut_token (from w) h = cc
shut_token (exp ps w) h = cc

-- ---- whole forms

form_shut : (c : Construct) (ps : Parts) → Good (closed c ps) → (is_shut (ahead ps) ≡ true) × (form_of (ahead ps) ≡ c)
form_shut c ps g = (whole_law c ps g.0.begins g.1 (regular ps g.2)).0 g.0.spelled

form_last : (c : Construct) (ps : Parts) (w : Written) → Good (tailed c ps w) → (is_last (ahead ps) ≡ true) × (form_of (ahead ps) ≡ c)
form_last c ps w g = (tail_law c ps (class w) g.0.begins g.1 (regular ps g.2)).0 g.0.spelled

shut_form : (c : Construct) (ps : Parts) → is_shut (ahead ps) ≡ true → form_of (ahead ps) ≡ c → IsForm c ps
shut_form c ps h e =
    let f : of_module ps ≡ false = shut_parts ps h in
    record { begins = f; spelled = (whole_law c ps f (shut_token ps h) (alive_regular ps (alive_shut ps [] h).0)).1 (h, e) }

last_form : (c : Construct) (ps : Parts) (w : Written) → is_last (ahead ps) ≡ true → form_of (ahead ps) ≡ c → IsForm c (exp ps w)
last_form c ps w h e =
    let f : of_module ps ≡ false = last_parts ps h in
    record { begins = f; spelled = (tail_law c ps (class w) f (last_token ps h) (alive_regular ps (alive_last ps [] h).0)).1 (h, e) }

-- ---- where a form goes on behind its last operand

stops : (ps : Parts) (w : Written) (t : Tok) → of_module ps ≡ false → ends_in_token ps ≡ true → Regular ps → (GoesOn (exp ps w) t → ⊥) → delta (given (ahead ps) (class w)) t ≡ Fail
stops ps w t f i p n =
    elim (either (is_fail (ahead (tok (exp ps w) t)))) [
      | inl e ↦ is_failed (ahead (tok (exp ps w) t)) e
      | inr e ↦ absurd (n (table_goes (exp ps w) t f (i, p) e))
    ]

stopped : (ps : Parts) (w : Written) (t : Tok) → of_module ps ≡ false → ends_in_token ps ≡ true → Regular ps → delta (given (ahead ps) (class w)) t ≡ Fail → GoesOn (exp ps w) t → ⊥
stopped ps w t f i p e g = clash (is_fail (ahead (tok (exp ps w) t))) (ap is_fail e) (goes_table (exp ps w) t f (i, p) g)

-- ---- from the rules to the table

ends_table : (w : Written) (t : Tok) → Good w → Ends w t → TableEnds w t
ends_table (closed c ps) t g e = tt
ends_table (tailed c ps w) t g e =
    let a : Alive ps = (alive_last ps [] (form_last c ps w g).0).0 in
    (subst (λ (n : ℕ). column t < n) (sym (alive_edge ps g.1 a)) e.0, stops ps w t g.0.begins g.1 (regular ps g.2) e.1)
ends_table (pre p w) t g e = (e.0, ends_table w t g.1 e.1)
ends_table (bin a o b) t g e = (e.0, ends_table b t g.3 e.1)

leaves_table : (w : Written) (t : Tok) → Good w → Leaves w t → TableLeaves w t
leaves_table (closed c ps) t g l = tt
leaves_table (tailed c ps w) t g l =
    let a : Alive ps = (alive_last ps [] (form_last c ps w g).0).0 in (
      stops ps w t g.0.begins g.1 (regular ps g.2) l.0,
      elim l.1 [ inl e ↦ inl (subst (λ (n : ℕ). column t < n) (sym (alive_edge ps g.1 a)) e) | inr k ↦ inr (leaves_table w t g.3 k) ],
    )
leaves_table (pre p w) t g l = leaves_table w t g.1 l
leaves_table (bin a o b) t g l = leaves_table b t g.3 l

fine_table : (ps : Parts) (t : Tok) → GoodParts ps → Alive ps → Fine ps t → TableFine ps t
fine_table start t g a f = tt
fine_table top t g a f = tt
fine_table (from w) t g a f = (f.0, ends_table w t g f.1)
fine_table (tok ps u) t g a f = tt
fine_table (exp ps w) t g a f =
    let q : inner (ahead ps) ≡ edge ps = alive_edge ps g.0 (alive_exp ps w [] a).0 in
    elim f [ inl e ↦ inl (subst (λ (n : ℕ). column t < n) (sym q) e) | inr l ↦ inr (leaves_table w t g.2 l) ]

mutual
  pub to_table : (w : Written) → Good w → TableGood w
  to_table (closed c ps) g =
      let h : (is_shut (ahead ps) ≡ true) × (form_of (ahead ps) ≡ c) = form_shut c ps g in
      (h.0, h.1, parts_table ps g.2 (alive_shut ps [] h.0).0)
  to_table (tailed c ps w) g =
      let h : (is_last (ahead ps) ≡ true) × (form_of (ahead ps) ≡ c) = form_last c ps w g in
      let a : Alive ps = (alive_last ps [] h.0).0 in
      (h.0, h.1, parts_table ps g.2 a, to_table w g.3, subst (λ (n : ℕ). From n (tokens w)) (sym (alive_edge ps g.1 a)) g.4)
  to_table (pre p w) g = (g.0, to_table w g.1, g.2)
  to_table (bin a t b) g = (to_table a g.0, g.1, ends_table a t g.0 g.2, to_table b g.3, g.4)

  pub parts_table : (ps : Parts) → GoodParts ps → Alive ps → TableParts ps
  parts_table start g a = tt
  parts_table top g a = tt
  parts_table (from w) g a = to_table w g
  parts_table (tok ps t) g a = (parts_table ps g.0 (alive_tok ps t a), fine_table ps t g.0 (alive_tok ps t a) g.2)
  parts_table (exp ps w) g a =
      let b : Alive ps = (alive_exp ps w [] a).0 in
      (parts_table ps g.1 b, to_table w g.2, subst (λ (n : ℕ). From n (tokens w)) (sym (alive_edge ps g.0 b)) g.3)

-- ---- from the table to the rules

table_ends : (w : Written) (t : Tok) → TableGood w → TableEnds w t → Ends w t
table_ends (closed c ps) t g e = tt
table_ends (tailed c ps w) t g e =
    let a : Alive ps = (alive_last ps [] g.0).0 in
    (subst (λ (n : ℕ). column t < n) (alive_edge ps (last_token ps g.0) a) e.0, stopped ps w t (last_parts ps g.0) (last_token ps g.0) (alive_regular ps a) e.1)
table_ends (pre p w) t g e = (e.0, table_ends w t g.1 e.1)
table_ends (bin a o b) t g e = (e.0, table_ends b t g.3 e.1)

table_leaves : (w : Written) (t : Tok) → TableGood w → TableLeaves w t → Leaves w t
table_leaves (closed c ps) t g l = tt
table_leaves (tailed c ps w) t g l =
    let a : Alive ps = (alive_last ps [] g.0).0 in (
      stopped ps w t (last_parts ps g.0) (last_token ps g.0) (alive_regular ps a) l.0,
      elim l.1 [ inl e ↦ inl (subst (λ (n : ℕ). column t < n) (alive_edge ps (last_token ps g.0) a) e) | inr k ↦ inr (table_leaves w t g.3 k) ],
    )
table_leaves (pre p w) t g l = table_leaves w t g.1 l
table_leaves (bin a o b) t g l = table_leaves b t g.3 l

table_fine : (ps : Parts) (t : Tok) → TableParts ps → Alive ps → TableFine ps t → Fine ps t
table_fine start t g a f = tt
table_fine top t g a f = tt
table_fine (from w) t g a f = (f.0, table_ends w t g f.1)
table_fine (tok ps u) t g a f = tt
table_fine (exp ps w) t g a f =
    let q : inner (ahead ps) ≡ edge ps = alive_edge ps (alive_token ps w a) (alive_exp ps w [] a).0 in
    elim f [ inl e ↦ inl (subst (λ (n : ℕ). column t < n) q e) | inr l ↦ inr (table_leaves w t g.1 l) ]

mutual
  pub from_table : (w : Written) → TableGood w → Good w
  from_table (closed c ps) g =
      (shut_form c ps g.0 g.1, shut_token ps g.0, table_parts ps g.2 (alive_shut ps [] g.0).0)
  from_table (tailed c ps w) g =
      let a : Alive ps = (alive_last ps [] g.0).0 in (
        last_form c ps w g.0 g.1,
        last_token ps g.0,
        table_parts ps g.2 a,
        from_table w g.3,
        subst (λ (n : ℕ). From n (tokens w)) (alive_edge ps (last_token ps g.0) a) g.4,
      )
  from_table (pre p w) g = (g.0, from_table w g.1, g.2)
  from_table (bin a t b) g = (from_table a g.0, g.1, table_ends a t g.0 g.2, from_table b g.3, g.4)

  pub table_parts : (ps : Parts) → TableParts ps → Alive ps → GoodParts ps
  table_parts start g a = tt
  table_parts top g a = tt
  table_parts (from w) g a = from_table w g
  table_parts (tok ps t) g a =
      (table_parts ps g.0 (alive_tok ps t a), (columns ps t a).1, table_fine ps t g.0 (alive_tok ps t a) g.1)
  table_parts (exp ps w) g a =
      let b : Alive ps = (alive_exp ps w [] a).0 in
      (alive_token ps w a, table_parts ps g.0 b, from_table w g.1, subst (λ (n : ℕ). From n (tokens w)) (alive_edge ps (alive_token ps w a) b) g.2)

-- ---- modules

finished_alive : (ps : Parts) → ahead ps ≡ Reads Finished → Alive ps
finished_alive start h = tt
finished_alive top h = tt
finished_alive (from w) h = tt
finished_alive (tok ps t) h = ap is_fail h
finished_alive (exp ps w) h = absurd (cc)

pub module_table : (ps : Parts) → IsModule ps → IsTableModule ps
module_table ps i =
    let e : ahead ps ≡ Reads Finished = (module_whole ps i.begins (regular ps i.good)).0 i.form in
    record { good = parts_table ps i.good (finished_alive ps e); begins = i.begins; ends = e }

pub table_module : (ps : Parts) → IsTableModule ps → IsModule ps
table_module ps i =
    let a : Alive ps = finished_alive ps i.ends in
    record { good = table_parts ps i.good a; begins = i.begins; form = (module_whole ps i.begins (alive_regular ps a)).1 i.ends }

-- What the parser gives is a module that is written by the rules, with just the tokens.
pub module_written : (ts : List Tok) (ps : Parts) → parse_module ts ≡ Some ps → IsModule ps × (tokens_of ps ≡ ts)
module_written ts ps h = let r : IsTableModule ps × (tokens_of ps ≡ ts) = module_found ts ps h in (table_module ps r.0, r.1)

-- Each module that is written by the rules is what the parser gives on its tokens.
pub module_parsed : (ps : Parts) → IsModule ps → parse_module (tokens_of ps) ≡ Some ps
module_parsed ps i = module_again ps (module_table ps i)

-- The tokens fix the module's derivation.
pub one_written_module : (ps qs : Parts) → IsModule ps → IsModule qs → tokens_of ps ≡ tokens_of qs → ps ≡ qs
one_written_module ps qs i j e = one_module ps qs (module_table ps i) (module_table qs j) e
