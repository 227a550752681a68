-- Before any unit the header is read, and an end may stand behind the whole of it alone.
use Rattle.std.proofs.Common.{nat_lt, ◌==◌}
use Rattle.std.proofs.Common.{ℕ, Bool, true, false, not, List, inl, inr, refl, sym, ap, subst, arith, eqb-true, ltb-true, ◌≡◌, ◌⊎◌, ◌<◌, ◌+◌, ◌∷◌, ◌++◌, ◌&&◌, ◌||◌, ◌∙◌, []}
use Rattle.tla_lexer.specs.declared.token.Token.{Token as Tok}
use Rattle.tla_parser.proofs.Basics.{and_both, either, not_true, or_cases}
use Rattle.tla_parser.proofs.FieldLaw.{once_part}
use Rattle.tla_parser.proofs.Laws.{clash, same_sign-is}
use Rattle.tla_parser.specs.Beginnings.{begins_unit, ended}
use Rattle.tla_parser.specs.Operators.{number_of, same_sign}
use Rattle.tla_parser.specs.Signs.{column, sign}
use Rattle.tla_parser.specs.declared.moves.Mark.{Mark}
use Rattle.tla_parser.specs.declared.moves.Mark.TheVariants.{AtTop, BehindExtended, BehindHeader, ExtendedName, Finished, ModuleHead, ModuleName, ModuleNamed}
use Rattle.tla_parser.specs.declared.moves.Next.{Next}
use Rattle.tla_parser.specs.declared.moves.Next.TheVariants.{Fail, Last, Reads, Shut, Wants}
use Rattle.tla_parser.specs.declared.open.Code.{Code}
use Rattle.tla_parser.specs.declared.open.Code.TheVariants.{Part}
use Rattle.tla_parser.specs.declared.open.Form.{Form}
use Rattle.tla_parser.specs.declared.open.Mode.TheVariants.{Have, Read, Stuck, Want}
use Rattle.tla_parser.specs.declared.open.Open.TheVariants.{Before, Between, Within}
use Rattle.tla_parser.specs.declared.signs.Sign.{Sign}
use Rattle.tla_parser.specs.declared.signs.Sign.TheVariants.{EndSign}
use Rattle.tla_parser.specs.inner.Derivations.{delta}
use Rattle.tla_parser.specs.inner.Moves.{Row, found, heads, listed_heads, local_heads, module_heads, moved, name_heads, recursive_heads, subscript_heads, unit_heads, unit_rows, update_heads}
use Rattle.tla_parser.specs.inner.Moves.{is_finished}
use Rattle.tla_parser.specs.inner.Recognition.{Status, advance, code_read, ended_module, entered, finished, form, is_fail, levels_read, lost, running}
use Rattle.tla_parser.specs.inner.Repeats.{once_codes}
use Rattle.tla_parser.specs.inner.Standings.{behind_header, declaring, ends_header, heading, in_header, in_unit, leads, led_by, next_in_header, standing_of, starts, wanted_by}

-- a header goes on, a unit begins, or neither
abbrev pub leads_on : Sign → Next → Bool
leads_on s n = next_in_header n || (begins_unit s && leads s n)

abbrev header_rows : List Row → Bool
header_rows [] = true
header_rows (r ∷ rs) = leads_on r.sign r.next && header_rows rs

header_found : (s : Sign) (rs : List Row) → header_rows rs ≡ true → (is_fail (found s rs) ≡ true) ⊎ (leads_on s (found s rs) ≡ true)
header_found s [] h = inl refl
header_found s (r ∷ rs) h =
    let k : (leads_on r.sign r.next ≡ true) × (header_rows rs ≡ true) = and_both (leads_on r.sign r.next) (header_rows rs) h in
    elim (either (same_sign s r.sign)) [
      | inl e ↦ rw e (inr (ap (λ (x : Sign). leads_on x r.next) (same_sign-is s r.sign e) ∙ k.0))
      | inr e ↦ rw e (header_found s rs k.1)
    ]

header_heads : (m : Mark) → in_header m ≡ true → header_rows (heads m) ≡ true
unfolding heads listed_heads update_heads subscript_heads local_heads module_heads unit_heads name_heads recursive_heads unit_rows in_header begins_unit led_by wanted_by declaring number_of
header_heads AtTop h = refl
header_heads ModuleHead h = refl
header_heads ModuleName h = refl
header_heads ModuleNamed h = refl
header_heads BehindHeader h = refl
header_heads ExtendedName h = refl
header_heads BehindExtended h = refl
header_heads Finished h = refl
header_heads _ h = absurd (cc)

header_ends : (m : Mark) → in_header m ≡ true → ends_header m ≡ ended_module (found EndSign (heads m))
unfolding heads listed_heads update_heads subscript_heads local_heads module_heads unit_heads name_heads recursive_heads unit_rows in_header ends_header is_finished number_of
header_ends AtTop h = refl
header_ends ModuleHead h = refl
header_ends ModuleName h = refl
header_ends ModuleNamed h = refl
header_ends BehindHeader h = refl
header_ends ExtendedName h = refl
header_ends BehindExtended h = refl
header_ends Finished h = refl
header_ends _ h = absurd (cc)

header_goes : (m : Mark) → in_header m ≡ true → in_unit m ≡ false
unfolding in_header in_unit
header_goes AtTop h = refl
header_goes ModuleHead h = refl
header_goes ModuleName h = refl
header_goes ModuleNamed h = refl
header_goes BehindHeader h = refl
header_goes ExtendedName h = refl
header_goes BehindExtended h = refl
header_goes Finished h = refl
header_goes _ h = absurd (cc)

-- ---- one token

zero_is : (n : ℕ) → (n == 0) ≡ true → n ≡ 0
zero_is n h = eqb-true n 0 h

entered_heading : (n : Next) (count : ℕ) (c : List Code) → (is_fail n ≡ true) ⊎ (next_in_header n ≡ true) → heading (entered n count 0 [] c 0) ≡ true
entered_heading (Reads k) count c (inl h) = cc
entered_heading (Reads k) count c (inr h) = rw h refl
entered_heading (Wants k) count c (inl h) = cc
entered_heading (Wants k) count c (inr h) = cc
entered_heading (Last k) count c (inl h) = cc
entered_heading (Last k) count c (inr h) = cc
entered_heading (Shut k) count c (inl h) = cc
entered_heading (Shut k) count c (inr h) = cc
entered_heading Fail count c h = refl

-- a unit that begins in the one form that is open
entered_starts : (n : Next) (s : Sign) (count : ℕ) (c : List Code) (m : Mark) → in_header m ≡ true → begins_unit s ≡ true → leads s n ≡ true → (begins_unit s && (leads s (standing_of (entered n count 0 [] c 0)).next && ((standing_of (entered n count 0 [] c 0)).alone && not (true && in_unit m)))) ≡ true
entered_starts (Reads k) s count c m h b l = rw (b, l, header_goes m h) refl
entered_starts (Wants k) s count c m h b l = rw (b, l, header_goes m h) refl
entered_starts (Last k) s count c m h b l = absurd (cc)
entered_starts (Shut k) s count c m h b l = absurd (cc)
entered_starts Fail s count c m h b l = absurd (cc)

pub never_less : (n : ℕ) → nat_lt n 0 ≡ false
never_less n = not_true (nat_lt n 0) (λ e. nothing (ltb-true n 0 e))
  where
    nothing : n < 0 → ⊥
    nothing h = omega arith

-- the header alone is open, at a mark
abbrev pub at_mark : Mark → ℕ → List Code → ℕ → Status
at_mark k count c m = running Read (form (Reads k) count 0 0 ∷ []) c m

advance_mark : (t : Tok) (k : Mark) (count : ℕ) (c : List Code) (m : ℕ) → advance t (at_mark k count c m) ≡ entered (found (sign t) (heads k)) (count + 1) 0 [] (c ++ (Part t ∷ [])) 0
unfolding delta moved
advance_mark t k count c m = rw (never_less (column t)) refl

-- a header goes on, is lost, or a unit begins
header_step : (t : Tok) (k : Mark) (count : ℕ) (c : List Code) (m : ℕ) → in_header k ≡ true → starts (sign t) (standing_of (at_mark k count c m)) (standing_of (advance t (at_mark k count c m))) ≡ false → heading (advance t (at_mark k count c m)) ≡ true
header_step t k count c m h n =
    let e : advance t (at_mark k count c m) ≡ entered (found (sign t) (heads k)) (count + 1) 0 [] (c ++ (Part t ∷ [])) 0 = advance_mark t k count c m in
    ap heading e ∙ by_next (found (sign t) (heads k)) (header_found (sign t) (heads k) (header_heads k h)) (ap (λ (st : Status). starts (sign t) (standing_of (at_mark k count c m)) (standing_of st)) (sym e) ∙ n)
  where
    by_next : (x : Next) → (is_fail x ≡ true) ⊎ (leads_on (sign t) x ≡ true) → starts (sign t) (standing_of (at_mark k count c m)) (standing_of (entered x (count + 1) 0 [] (c ++ (Part t ∷ [])) 0)) ≡ false → heading (entered x (count + 1) 0 [] (c ++ (Part t ∷ [])) 0) ≡ true
    by_next x (inl e) q = entered_heading x (count + 1) (c ++ (Part t ∷ [])) (inl e)
    by_next x (inr e) q = elim (or_cases (next_in_header x) (begins_unit (sign t) && leads (sign t) x) e) [
      | inl g ↦ entered_heading x (count + 1) (c ++ (Part t ∷ [])) (inr g)
      | inr g ↦ (let b : (begins_unit (sign t) ≡ true) × (leads (sign t) x ≡ true) = and_both (begins_unit (sign t)) (leads (sign t) x) g in
          absurd (clash (starts (sign t) (standing_of (at_mark k count c m)) (standing_of (entered x (count + 1) 0 [] (c ++ (Part t ∷ [])) 0))) (entered_starts x (sign t) (count + 1) (c ++ (Part t ∷ [])) k h b.0 b.1) q))
    ]

-- an end may stand where the whole header was read
header_end : (t : Tok) (k : Mark) (count : ℕ) (c : List Code) (m : ℕ) → in_header k ≡ true → ends_header k ≡ finished (advance (ended t) (at_mark k count c m))
unfolding sign
header_end t k count c m h =
    header_ends k h ∙ sym (ap finished (advance_mark (ended t) k count c m) ∙ by_next (found EndSign (heads k)))
  where
    by_next : (x : Next) → finished (entered x (count + 1) 0 [] (c ++ (Part (ended t) ∷ [])) 0) ≡ ended_module x
    by_next (Reads j) = refl
    by_next (Wants j) = refl
    by_next (Last j) = refl
    by_next (Shut j) = refl
    by_next Fail = refl

-- no levels were read
header_levels : (t : Tok) (k : Mark) (count : ℕ) (c : List Code) (m : ℕ) → levels_read (advance t (at_mark k count c m)) ≡ 0
header_levels t k count c m = ap levels_read (advance_mark t k count c m) ∙ by_next (found (sign t) (heads k))
  where
    by_next : (x : Next) → levels_read (entered x (count + 1) 0 [] (c ++ (Part t ∷ [])) 0) ≡ 0
    by_next (Reads j) = refl
    by_next (Wants j) = refl
    by_next (Last j) = refl
    by_next (Shut j) = refl
    by_next Fail = refl

-- no form is whole there, so no field is named
header_once : (t : Tok) (k : Mark) (count : ℕ) (c : List Code) (m : ℕ) → in_header k ≡ true → once_codes c ≡ true → once_codes (code_read (advance t (at_mark k count c m))) ≡ true
header_once t k count c m h o = ap (λ (st : Status). once_codes (code_read st)) (advance_mark t k count c m) ∙ by_next (found (sign t) (heads k)) (header_found (sign t) (heads k) (header_heads k h))
  where
    part_so : once_codes (c ++ (Part t ∷ [])) ≡ true
    part_so = once_part c t ∙ o

    by_next : (x : Next) → (is_fail x ≡ true) ⊎ (leads_on (sign t) x ≡ true) → once_codes (code_read (entered x (count + 1) 0 [] (c ++ (Part t ∷ [])) 0)) ≡ true
    by_next (Reads j) e = part_so
    by_next (Wants j) e = part_so
    by_next (Last j) e = part_so
    by_next (Shut j) (inl e) = absurd (cc)
    by_next (Shut j) (inr e) = absurd (clash (begins_unit (sign t) && false) e (never (begins_unit (sign t))))
      where
        never : (a : Bool) → (a && false) ≡ false
        never true = refl
        never false = refl
    by_next Fail e = refl

-- ---- in any state without a unit

-- the state is lost, or the header's
pub record AtMark (st : Status) : Type 0 where
  pub mark : Mark
  pub count : ℕ
  pub code : List Code
  pub margin : ℕ
  pub in_so : in_header mark ≡ true
  pub state_so : st ≡ at_mark mark count code margin

-- a form of these fields
abbrev as_form : Next → ℕ → ℕ → ℕ → Form
as_form n count lv o = record { next = n; count = count; levels = lv; outer = o }

made : (x y : Next) (count l o : ℕ) → x ≡ y → l ≡ 0 → o ≡ 0 → as_form x count l o ≡ as_form y count 0 0
made x y count l o a b d = cc

heading_state : (st : Status) → heading st ≡ true → (st ≡ lost) ⊎ AtMark st
heading_state lost h = inl refl
heading_state (running Want s c m) h = absurd (cc)
heading_state (running (Have w) s c m) h = absurd (cc)
heading_state (running Stuck s c m) h = absurd (cc)
heading_state (running Read [] c m) h = absurd (cc)
heading_state (running Read (Before p ∷ s) c m) h = absurd (cc)
heading_state (running Read (Between a o ∷ s) c m) h = absurd (cc)
heading_state (running Read (Within f ∷ g ∷ s) c m) h = absurd (cc)
heading_state (running Read (Within f ∷ []) c m) h =
    let k : (next_in_header f.next ≡ true) × (((f.levels == 0) && (f.outer == 0)) ≡ true) = and_both (next_in_header f.next) ((f.levels == 0) && (f.outer == 0)) h in
    let z : ((f.levels == 0) ≡ true) × ((f.outer == 0) ≡ true) = and_both (f.levels == 0) (f.outer == 0) k.1 in
    inr (by_next f.next k.0 refl (zero_is f.levels z.0) (zero_is f.outer z.1))
  where
    by_next : (x : Next) → next_in_header x ≡ true → f.next ≡ x → f.levels ≡ 0 → f.outer ≡ 0 → AtMark (running Read (Within f ∷ []) c m)
    by_next (Reads k) e q l o = record { mark = k; count = f.count; code = c; margin = m; in_so = e; state_so = ap (λ (g : Form). running Read (Within g ∷ []) c m) (same f (Reads k) q l o) }
      where
        same : (g : Form) (n : Next) → g.next ≡ n → g.levels ≡ 0 → g.outer ≡ 0 → g ≡ record { next = n; count = g.count; levels = 0; outer = 0 }
        same g n a b d = made g.next n g.count g.levels g.outer a b d
    by_next (Wants k) e q l o = absurd (cc)
    by_next (Last k) e q l o = absurd (cc)
    by_next (Shut k) e q l o = absurd (cc)
    by_next Fail e q l o = absurd (cc)

pub heading_goes : (t : Tok) (st : Status) → heading st ≡ true → starts (sign t) (standing_of st) (standing_of (advance t st)) ≡ false → heading (advance t st) ≡ true
heading_goes t st h n = elim (heading_state st h) [
  | inl e ↦ rw e refl
  | inr a ↦ subst (λ (x : Status). starts (sign t) (standing_of x) (standing_of (advance t x)) ≡ false → heading (advance t x) ≡ true) (sym a.state_so) (header_step t a.mark a.count a.code a.margin a.in_so) n
]

pub heading_ends : (t : Tok) (st : Status) → heading st ≡ true → behind_header (standing_of st) ≡ finished (advance (ended t) st)
heading_ends t st h = elim (heading_state st h) [
  | inl e ↦ rw e refl
  | inr a ↦ subst (λ (x : Status). behind_header (standing_of x) ≡ finished (advance (ended t) x)) (sym a.state_so) (header_end t a.mark a.count a.code a.margin a.in_so)
]

pub heading_levels : (t : Tok) (st : Status) → heading st ≡ true → levels_read (advance t st) ≡ 0
heading_levels t st h = elim (heading_state st h) [
  | inl e ↦ rw e refl
  | inr a ↦ subst (λ (x : Status). levels_read (advance t x) ≡ 0) (sym a.state_so) (header_levels t a.mark a.count a.code a.margin)
]

pub heading_once : (t : Tok) (st : Status) → heading st ≡ true → once_codes (code_read st) ≡ true → once_codes (code_read (advance t st)) ≡ true
heading_once t st h o = elim (heading_state st h) [
  | inl e ↦ rw e refl
  | inr a ↦ subst (λ (x : Status). once_codes (code_read x) ≡ true → once_codes (code_read (advance t x)) ≡ true) (sym a.state_so) (header_once t a.mark a.count a.code a.margin a.in_so) o
]
