-- The lines of a block, one after another.
use Rattle.std.proofs.Common.{◌≡◌, ℕ, suc, ◌+◌, ◌<◌, List, [], ◌∷◌, ◌++◌, All, length, take, drop, drop-cons, get_or, refl, ap, ◌∙◌, sym, subst, arith, append_assoc, codes, length-append}
use Rattle.std.specs.Prelude.{MatchOption, None, Option, Some}
use Rattle.std.proofs.lemmas.List.{append-nil, take-append-drop, take_all, take_more}
use Rattle.std.proofs.lemmas.List.Elements.{All-push}
use Rattle.tla_values.specs.Show.{text_of}
use Rattle.tla_values.specs.declared.value.Value.{Value}
use Rattle.tla_values.proofs.TextLaw.{cancel}
use Rattle.tla_values.proofs.TextsApart.{one_text}
use Rattle.tla_meaning.specs.declared.expr.Decl.{Decl}
use Rattle.tla_meaning.specs.declared.job.State.{State}
use Rattle.trace_text.specs.Blocks.{BeginsWith, IsBadLine, IsBlock, IsStateOf, IsValue}
use Rattle.trace_text.specs.Reports.{block_text, value_line}
use Rattle.trace_text.specs.declared.faults.Unread.{Unread}
use Rattle.trace_text.specs.declared.faults.Unread.TheVariants.{NoValue, Memory}
use Rattle.trace_text.specs.inner.LineParts.{HasNoLine, IsLine, line_front}
use Rattle.trace_text.specs.inner.Reading.{IsWant}

-- ---- one line

regroup : (front text end rest : List ℕ) → ((front ++ text) ++ end) ++ rest ≡ front ++ ((text ++ end) ++ rest)
regroup front text end rest = simp append_assoc

-- a line is what stands before the value, the value and a line feed
pub line_opened : (name : List ℕ) (v : Value) (rest : List ℕ) → value_line (name, v) ++ rest ≡ line_front name ++ ((text_of v ++ codes "\n") ++ rest)
unfolding value_line
line_opened name v rest = regroup (line_front name) (text_of v) (codes "\n") rest

-- the value of a line, where this stands behind its front
pub value_behind : (name bytes behind : List ℕ) (v : Value) (rest : List ℕ) → bytes ≡ line_front name ++ behind → IsLine name bytes v rest →
    behind ≡ (text_of v ++ codes "\n") ++ rest
value_behind name bytes behind v rest opened line = cancel (line_front name) _ _ (sym opened ∙ line.is ∙ line_opened name v rest)

pub text_behind : (name bytes behind : List ℕ) (v : Value) (rest : List ℕ) → bytes ≡ line_front name ++ behind → IsLine name bytes v rest →
    behind ≡ text_of v ++ (codes "\n" ++ rest)
text_behind name bytes behind v rest opened line =
    value_behind name bytes behind v rest opened line ∙ append_assoc (text_of v) (codes "\n") rest

pub line_made : (name bytes behind : List ℕ) (v : Value) (rest : List ℕ) → IsValue v → bytes ≡ line_front name ++ behind →
    behind ≡ (text_of v ++ codes "\n") ++ rest → IsLine name bytes v rest
line_made name bytes behind v rest value opened e = record {
  value = value;
  is = opened ∙ ap (λ x. line_front name ++ x) e ∙ sym (line_opened name v rest);
}

pub no_front : (name bytes : List ℕ) → ((rest : List ℕ) → bytes ≡ line_front name ++ rest → ⊥) → (v : Value) (rest : List ℕ) → IsLine name bytes v rest → ⊥
no_front name bytes none v rest line = none _ (line.is ∙ line_opened name v rest)

pub refused : (name bytes : List ℕ) (e : Unread) → ((v : Value) (rest : List ℕ) → IsLine name bytes v rest → IsWant e) → HasNoLine name bytes e
refused name bytes NoValue h = h
refused name bytes (Memory e) h = tt

-- the front of a line, in three parts
module _ (name bytes after_mark after_name : List ℕ) (mark : bytes ≡ codes "/\\ " ++ after_mark) (name_there : after_mark ≡ name ++ after_name) where
  front_is : (rest : List ℕ) → line_front name ++ rest ≡ codes "/\\ " ++ (name ++ (codes " = " ++ rest))
  front_is rest =
      append_assoc (codes "/\\ " ++ name) (codes " = ") rest ∙ append_assoc (codes "/\\ ") name (codes " = " ++ rest)

  pub front_there : (rest : List ℕ) → after_name ≡ codes " = " ++ rest → bytes ≡ line_front name ++ rest
  front_there rest e = mark ∙ ap (λ x. codes "/\\ " ++ x) (name_there ∙ ap (λ x. name ++ x) e) ∙ sym (front_is rest)

  pub front_not : ((rest : List ℕ) → after_name ≡ codes " = " ++ rest → ⊥) → (rest : List ℕ) → bytes ≡ line_front name ++ rest → ⊥
  front_not none rest e =
      none rest (cancel name _ _ (sym name_there ∙ cancel (codes "/\\ ") _ _ (sym mark ∙ e ∙ front_is rest)))

  pub front_cases : {X : Type 0} (f : X → List ℕ) (o : Option X) →
      MatchOption o ((rest : List ℕ) → after_name ≡ codes " = " ++ rest → ⊥) (λ x. after_name ≡ codes " = " ++ f x) →
      MatchOption o ((rest : List ℕ) → bytes ≡ line_front name ++ rest → ⊥) (λ x. bytes ≡ line_front name ++ f x)
  front_cases f None h = front_not h
  front_cases f (Some x) h = front_there (f x) h

-- a line has a byte at least
pub line_shorter : (name bytes : List ℕ) (v : Value) (rest : List ℕ) → IsLine name bytes v rest → length rest < length bytes
line_shorter name bytes v rest line =
    let whole : length bytes ≡ length (line_front name ++ ((text_of v ++ codes "\n") ++ rest)) = ap length (line.is ∙ line_opened name v rest) in
    omega (arith, whole, length-append (line_front name) ((text_of v ++ codes "\n") ++ rest), length-append (text_of v ++ codes "\n") rest, length-append (text_of v) (codes "\n"))

-- a line is told from what stands behind it
pub one_line : (name : List ℕ) (v w : Value) (r q : List ℕ) → IsValue v → IsValue w → value_line (name, v) ++ r ≡ value_line (name, w) ++ q →
    (v ≡ w) × (r ≡ q)
one_line name v w r q first second e =
    let texts = cancel (line_front name) _ _ (sym (line_opened name v r) ∙ e ∙ line_opened name w q) in
    let same = one_text v w (codes "\n" ++ r) (codes "\n" ++ q) first.fits second.fits refl refl
    (sym (append_assoc (text_of v) (codes "\n") r) ∙ texts ∙ append_assoc (text_of w) (codes "\n") q) in
    (same.0, cancel (codes "\n") r q same.1)

-- ---- all lines

abbrev pub lines : List Decl → List Value → List ℕ
lines ds vs = block_text ds (record { vals = vs })

pub lines_first : (d : Decl) (ds : List Decl) (v : Value) (vs : List Value) (r : List ℕ) →
    lines (d ∷ ds) (v ∷ vs) ++ r ≡ value_line (d.name, v) ++ (lines ds vs ++ r)
lines_first d ds v vs r = append_assoc (value_line (d.name, v)) (lines ds vs) r

abbrev pub Each : List Value → Type 0
Each vs = All IsValue vs

pub each_first : (v : Value) (vs : List Value) → Each (v ∷ vs) → IsValue v
each_first v vs h = let some : 0 < length (v ∷ vs) = omega arith in h 0 v some

pub each_rest : (v : Value) (vs : List Value) → Each (v ∷ vs) → Each vs
each_rest v vs h = λ k d lt. h (suc k) d (omega arith)

-- as many lines are told from what stands behind them
one_block : (ds : List Decl) (vs ws : List Value) (r q : List ℕ) → length vs ≡ length ds → length ws ≡ length ds → Each vs → Each ws →
    lines ds vs ++ r ≡ lines ds ws ++ q → (vs ≡ ws) × (r ≡ q)
one_block [] [] [] r q m n g h e = (refl, e)
one_block [] (v ∷ vs) ws r q m n g h e = absurd (omega arith)
one_block [] [] (w ∷ ws) r q m n g h e = absurd (omega arith)
one_block (d ∷ ds) [] ws r q m n g h e = absurd (omega arith)
one_block (d ∷ ds) (v ∷ vs) [] r q m n g h e = absurd (omega arith)
one_block (d ∷ ds) (v ∷ vs) (w ∷ ws) r q m n g h e =
    let first = one_line d.name v w _ _ (each_first v vs g) (each_first w ws h) (sym (lines_first d ds v vs r) ∙ e ∙ lines_first d ds w ws q) in
    let rest = one_block ds vs ws r q (omega arith) (omega arith) (each_rest v vs g) (each_rest w ws h) first.1 in
    (ap (λ x. x ∷ vs) first.0 ∙ ap (λ x. w ∷ x) rest.0, rest.1)

pub same_begin : (names : List Decl) (bytes : List ℕ) (s t : State) (r q : List ℕ) → BeginsWith names bytes s r → BeginsWith names bytes t q →
    (s.vals ≡ t.vals) × (r ≡ q)
same_begin names bytes s t r q a b =
    one_block names s.vals t.vals r q a.state.one_each b.state.one_each a.state.values b.state.values (sym a.is ∙ b.is)

pub block_begins : (names : List Decl) (bytes : List ℕ) (s : State) → IsBlock names bytes s → BeginsWith names bytes s []
block_begins names bytes s block = record { state = block.state; is = block.is ∙ sym (append-nil (block_text names s)) }

pub one_state : (names : List Decl) (s t : State) → IsStateOf names s → IsStateOf names t → block_text names s ≡ block_text names t → s ≡ t
one_state names s t a b e =
    let same = one_block names s.vals t.vals [] [] a.one_each b.one_each a.values b.values (ap (λ x. x ++ []) e) in
    let of : List Value → State = λ vs. record { vals = vs } in
    ap of same.0

-- ---- one line more

lines_push : (ds : List Decl) (vs : List Value) (d : Decl) (v : Value) → length vs ≡ length ds →
    lines (ds ++ d ∷ []) (vs ++ v ∷ []) ≡ lines ds vs ++ value_line (d.name, v)
lines_push [] [] d v e = append-nil (value_line (d.name, v))
lines_push [] (w ∷ vs) d v e = absurd (omega arith)
lines_push (c ∷ ds) [] d v e = absurd (omega arith)
lines_push (c ∷ ds) (w ∷ vs) d v e =
    ap (λ x. value_line (c.name, w) ++ x) (lines_push ds vs d v (omega arith))
    ∙ sym (append_assoc (value_line (c.name, w)) (lines ds vs) (value_line (d.name, v)))

pub begins_more : (names : List Decl) (bytes rest more : List ℕ) (i : ℕ) (vs ws : List Value) (d : Decl) (v : Value) → i < length names →
    BeginsWith (take i names) bytes (record { vals = vs }) rest → IsLine (get_or names i d).name rest v more → ws ≡ vs ++ v ∷ [] →
    BeginsWith (take (i + 1) names) bytes (record { vals = ws }) more
begins_more names bytes rest more i vs ws d v lt begins line e =
    subst (λ us. BeginsWith (take (i + 1) names) bytes (record { vals = us }) more) (sym e)
    (subst (λ ds. BeginsWith ds bytes (record { vals = vs ++ v ∷ [] }) more) (sym (take_more names i d lt)) pushed)
  where
    front : List Decl
    front = take i names

    last : Decl
    last = get_or names i d

    pushed : BeginsWith (front ++ last ∷ []) bytes (record { vals = vs ++ v ∷ [] }) more
    pushed = record {
      state = record {
        one_each = omega (arith, begins.state.one_each, length-append vs (v ∷ []), length-append front (last ∷ []));
        values = All-push IsValue vs v begins.state.values line.value;
      };
      is = begins.is ∙ ap (λ x. lines front vs ++ x) line.is ∙ sym (append_assoc (lines front vs) (value_line (last.name, v)) more)
          ∙ ap (λ x. x ++ more) (sym (lines_push front vs last v begins.state.one_each));
    }

-- what goes on has a line more
pub record Next (name rest : List ℕ) : Type 0 where
  pub value : Value
  pub more : List ℕ
  pub line : IsLine name rest value more

lines_on : (ds : List Decl) (last : Decl) (es : List Decl) (vs us : List Value) (rest r : List ℕ) → length vs ≡ length ds →
    length us ≡ length (ds ++ last ∷ es) → Each vs → Each us → lines ds vs ++ rest ≡ lines (ds ++ last ∷ es) us ++ r → Next last.name rest
lines_on [] last es [] [] rest r m n g h e = absurd (omega arith)
lines_on [] last es [] (u ∷ us) rest r m n g h e =
    record { value = u; more = lines es us ++ r; line = record { value = each_first u us h; is = e ∙ lines_first last es u us r } }
lines_on [] last es (v ∷ vs) us rest r m n g h e = absurd (omega arith)
lines_on (d ∷ ds) last es [] us rest r m n g h e = absurd (omega arith)
lines_on (d ∷ ds) last es (v ∷ vs) [] rest r m n g h e = absurd (omega arith)
lines_on (d ∷ ds) last es (v ∷ vs) (u ∷ us) rest r m n g h e =
    let first = one_line d.name v u _ _ (each_first v vs g) (each_first u us h) (sym (lines_first d ds v vs rest) ∙ e ∙ lines_first d (ds ++ last ∷ es) u us r) in
    lines_on ds last es vs us rest r (omega arith) (omega arith) (each_rest v vs g) (each_rest u us h) first.1

goes_on : (ds : List Decl) (last : Decl) (es names : List Decl) (bytes : List ℕ) (s t : State) (rest r : List ℕ) → names ≡ ds ++ last ∷ es →
    BeginsWith ds bytes s rest → BeginsWith names bytes t r → Next last.name rest
goes_on ds last es names bytes s t rest r split a b =
    let c : BeginsWith (ds ++ last ∷ es) bytes t r = subst (λ ns. BeginsWith ns bytes t r) split b in
    lines_on ds last es s.vals t.vals rest r a.state.one_each c.state.one_each a.state.values c.state.values (sym a.is ∙ c.is)

-- the first bad line
pub bad_line : (names : List Decl) (bytes rest : List ℕ) (i n : ℕ) (vs : List Value) (d : Decl) → i < length names → n ≡ i + 1 →
    BeginsWith (take i names) bytes (record { vals = vs }) rest →
    ((v : Value) (more : List ℕ) → IsLine (get_or names i d).name rest v more → ⊥) → IsBadLine names bytes n
bad_line names bytes rest i n vs d lt counted begins none = record {
  before = i;
  counted = counted;
  good = record { within = omega arith; values = record { vals = vs }; rest = rest; begins = begins };
  bad = λ has.
      let next = goes_on (take i names) (get_or names i d) [] (take n names) bytes (record { vals = vs }) has.values rest has.rest
      (ap (λ m. take m names) counted ∙ take_more names i d lt) begins has.begins in
      none next.value next.more next.line;
  no_block = λ s block.
      let next = goes_on (take i names) (get_or names i d) (drop (suc i) names) names bytes (record { vals = vs }) s rest []
      (sym (take-append-drop i names) ∙ ap (λ x. take i names ++ x) (drop-cons names i d lt)) begins (block_begins names bytes s block) in
      none next.value next.more next.line;
}

-- a line behind the last name's
pub line_left : (names : List Decl) (bytes rest : List ℕ) (n : ℕ) (vs : List Value) → n ≡ length names + 1 →
    BeginsWith names bytes (record { vals = vs }) rest → (rest ≡ [] → ⊥) → IsBadLine names bytes n
line_left names bytes rest n vs counted begins some = record {
  before = length names;
  counted = counted;
  good = record {
    within = omega arith;
    values = record { vals = vs };
    rest = rest;
    begins = subst (λ ds. BeginsWith ds bytes (record { vals = vs }) rest) (sym (take_all (length names) names (omega arith))) begins;
  };
  bad = λ has. omega (arith, has.within);
  no_block = λ s block. some (same_begin names bytes (record { vals = vs }) s rest [] begins (block_begins names bytes s block)).1;
}
