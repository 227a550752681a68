-- The reading with a stack is the fold over derivations, seen by what it keeps.
use Rattle.std.proofs.Common.{nat_lt, nat_le}
use Rattle.std.proofs.Math.Dec.{ltb, leb}
use Rattle.tla_lexer.specs.declared.token.Token.{Token as Tok}
use Rattle.std.proofs.Common.{ℕ, Bool, true, false, cond, not, max, min, List, inl, inr, refl, sym, ap, arith, append_assoc, ◌≡◌, ◌+◌, ◌∷◌, ◌++◌, ◌&&◌, ◌||◌, ◌∙◌, []}
use Rattle.tla_parser.proofs.Basics.{and_both, either}
use Rattle.tla_parser.proofs.Laws.{delta-off, negated}
use Rattle.tla_parser.proofs.Machine.{Frame, State, accepts, act, at_bin, at_form, at_pre, behind, enter, floor, fresh, have, heading, margin, placed, pops, run, step, stuck, takes, want, wanted}
use Rattle.tla_parser.specs.Operators.{after, hi, is_prefix, lo, prefix_lo, same}
use Rattle.tla_parser.specs.Signs.{column, sign}
use Rattle.tla_parser.specs.declared.moves.Class.TheVariants.{Other}
use Rattle.tla_parser.specs.declared.moves.Construct.{Construct}
use Rattle.tla_parser.specs.declared.moves.Construct.TheVariants.{Instanced, Parenthesis}
use Rattle.tla_parser.specs.declared.moves.Mark.{Mark}
use Rattle.tla_parser.specs.declared.moves.Next.{Next}
use Rattle.tla_parser.specs.declared.moves.Next.TheVariants.{Fail, Last, Reads, Shut, Wants}
use Rattle.tla_parser.specs.declared.open.Code.{Code}
use Rattle.tla_parser.specs.declared.open.Code.TheVariants.{Close, Part, Prefix}
use Rattle.tla_parser.specs.declared.open.Mode.TheVariants.{Have, Read, Want}
use Rattle.tla_parser.specs.declared.open.Open.{Open}
use Rattle.tla_parser.specs.declared.open.Open.TheVariants.{Before, Between}
use Rattle.tla_parser.specs.declared.open.Operand.{Operand}
use Rattle.tla_parser.specs.declared.signs.Role.{Role}
use Rattle.tla_parser.specs.declared.signs.Role.TheVariants.{InfixRole, NoRole, PostfixRole}
use Rattle.tla_parser.specs.Written.{Parts, Written, bin, class, class_infix, continues, deepest, exp, form_levels, from, levels, parts, pre, start, tailed, tok, top}
use Rattle.tla_parser.specs.inner.Derivations.{ahead, delta, form_of, given, idle, is_last, post, posts, resumed}
use Rattle.tla_parser.specs.inner.Moves.{behind_op, off}
use Rattle.tla_parser.specs.inner.Recognition.{Status, acted, advance, advances, deeper, entered, folded, folded_code, following, form, form_deeper, freshly, is_fail, joined_levels, least, lost, operand, placing, read_at, running, wanting}

abbrev pub capped : ℕ → ℕ
capped n = min n 401

abbrev pub shown : Written → Operand
shown w = operand (class w) (capped (levels w))

abbrev pub image_form : Parts → List Frame → Open
image_form ps s = form (ahead ps) (parts ps) (capped (deepest ps)) (margin s)

abbrev pub images : List Frame → List Open
images [] = []
images (at_pre p ∷ s) = Before p ∷ images s
images (at_bin a t ∷ s) = Between (shown a) t ∷ images s
images (at_form ps ∷ s) = image_form ps s ∷ images s

abbrev pub codes_of : List Frame → List Code
codes_of [] = []
codes_of (at_pre p ∷ s) = codes_of s
codes_of (at_bin a t ∷ s) = codes_of s ++ post a
codes_of (at_form ps ∷ s) = codes_of s ++ posts ps

abbrev pub image : State → Status
image (want s) = running Want (images s) (codes_of s) (margin s)
image (have w s) = running (Have (shown w)) (images s) (codes_of s ++ post w) (margin s)
image (heading ps s) = running Read (image_form ps s ∷ images s) (codes_of s ++ posts ps) (margin s)
image stuck = lost

-- what is being headed comes behind a token
abbrev pub Headed : State → Type 0
Headed (heading ps s) = (m : Mark) × (ahead ps ≡ Reads m)
Headed (want s) = Unit {0}
Headed (have w s) = Unit {0}
Headed stuck = Unit {0}

form_capped : (f : Construct) (n : ℕ) → form_deeper f (capped n) ≡ capped (form_levels f n)
unfolding form_levels
form_capped Parenthesis n = refl
form_capped Instanced n = refl
form_capped _ n = omega arith

enter_image : (n : Next) (ps : Parts) (s : List Frame) → ahead ps ≡ n → image (enter n ps s) ≡ entered n (parts ps) (capped (deepest ps)) (images s) (codes_of s ++ posts ps) (margin s)
enter_image (Reads k) ps s e = rw e refl
enter_image (Wants k) ps s e = rw e refl
enter_image (Last k) ps s e = rw e refl
enter_image (Shut f) ps s e =
    rw (form_capped f (deepest ps), append_assoc (codes_of s) (posts ps) (Close f (parts ps) ∷ [])) refl
enter_image Fail ps s e = refl

same_ltb : (a b : ℕ) → ltb a b ≡ nat_lt a b
same_ltb a b = refl

same_leb : (a b : ℕ) → leb a b ≡ nat_le a b
same_leb a b = refl

image_cond : (b : Bool) (x y : State) → image (cond b x y) ≡ cond b (image x) (image y)
image_cond true x y = refl
image_cond false x y = refl

cond_same : {A : Type 0} (b : Bool) (x y u v : A) → x ≡ u → y ≡ v → cond b x y ≡ cond b u v
cond_same b x y u v h k = cc

fresh_image : (t : Tok) (s : List Frame) → image (fresh t s) ≡ freshly t (images s) (codes_of s) (margin s)
fresh_image t s =
    image_cond (ltb (column t) (margin s)) stuck _
    ∙ cond_same (ltb (column t) (margin s)) lost (image (cond (is_prefix (sign t)) (want (at_pre t ∷ s)) (enter (ahead (tok start t)) (tok start t) s))) lost _ refl
    (image_cond (is_prefix (sign t)) (want (at_pre t ∷ s)) (enter (ahead (tok start t)) (tok start t) s)
    ∙ cond_same (is_prefix (sign t)) (image (want (at_pre t ∷ s))) (image (enter (ahead (tok start t)) (tok start t) s)) _ _ refl
    (enter_image (ahead (tok start t)) (tok start t) s refl))

-- a token in the place of an operand is read from where the form is
idle_next : (n : Next) (t : Tok) → is_fail (delta (idle n) t) ≡ false → delta (idle n) t ≡ delta (resumed n) t
idle_next (Wants m) t h = refl
idle_next (Reads m) t h = absurd (none t (delta-off t) h)
  where
    none : (u : Tok) → delta off u ≡ Fail → is_fail (delta off u) ≡ false → ⊥
    none u q k = cc
idle_next (Last m) t h = refl
idle_next (Shut f) t h = refl
idle_next Fail t h = refl

no_token : (t : Tok) → is_fail (delta off t) ≡ false → ⊥
no_token t h = let q : delta off t ≡ Fail = delta-off t in cc

idle_ahead : (ps : Parts) (t : Tok) → is_fail (delta (idle (ahead ps)) t) ≡ false → delta (idle (ahead ps)) t ≡ ahead (tok ps t)
idle_ahead start t h = absurd (no_token t h)
idle_ahead top t h = absurd (no_token t h)
idle_ahead (from w) t h = absurd (no_token t h)
idle_ahead (exp ps w) t h = absurd (no_token t h)
idle_ahead (tok ps u) t h = idle_next (ahead (tok ps u)) t h

form_wanted : (t : Tok) (ps : Parts) (s : List Frame) → image (wanted t (at_form ps ∷ s)) ≡ wanting t (images (at_form ps ∷ s)) (codes_of (at_form ps ∷ s)) (margin (at_form ps ∷ s))
form_wanted t ps s =
    elim (either (takes ps t (margin s))) [
      | inl h ↦ (let e : delta (idle (ahead ps)) t ≡ ahead (tok ps t) = idle_ahead ps t (negated (is_fail (delta (idle (ahead ps)) t)) (and_both (leb (margin s) (column t)) (not (is_fail (delta (idle (ahead ps)) t))) h).1) in
          takes_it h ∙ enter_image (ahead (tok ps t)) (tok ps t) s refl
          ∙ ap (λ (n : Next). entered n (parts ps + 1) (capped (deepest ps)) (images s) (codes_of s ++ (posts ps ++ (Part t ∷ []))) (margin s)) (sym e)
          ∙ ap (λ (c : List Code). entered (delta (idle (ahead ps)) t) (parts ps + 1) (capped (deepest ps)) (images s) c (margin s)) (sym (append_assoc (codes_of s) (posts ps) (Part t ∷ [])))
          ∙ sym (takes_too h))
      | inr h ↦ leaves_it h ∙ fresh_image t (at_form ps ∷ s) ∙ sym (leaves_too h)
    ]
  where
    takes_it : takes ps t (margin s) ≡ true → image (wanted t (at_form ps ∷ s)) ≡ image (enter (ahead (tok ps t)) (tok ps t) s)
    takes_it h = rw h refl

    takes_too : takes ps t (margin s) ≡ true → wanting t (images (at_form ps ∷ s)) (codes_of (at_form ps ∷ s)) (margin (at_form ps ∷ s)) ≡ entered (delta (idle (ahead ps)) t) (parts ps + 1) (capped (deepest ps)) (images s) ((codes_of s ++ posts ps) ++ (Part t ∷ [])) (margin s)
    takes_too h = rw h refl

    leaves_it : takes ps t (margin s) ≡ false → image (wanted t (at_form ps ∷ s)) ≡ image (fresh t (at_form ps ∷ s))
    leaves_it h = rw h refl

    leaves_too : takes ps t (margin s) ≡ false → wanting t (images (at_form ps ∷ s)) (codes_of (at_form ps ∷ s)) (margin (at_form ps ∷ s)) ≡ freshly t (images (at_form ps ∷ s)) (codes_of (at_form ps ∷ s)) (margin (at_form ps ∷ s))
    leaves_too h = rw h refl

wanted_image : (t : Tok) (s : List Frame) → image (wanted t s) ≡ wanting t (images s) (codes_of s) (margin s)
wanted_image t [] = fresh_image t []
wanted_image t (at_pre p ∷ s) = fresh_image t (at_pre p ∷ s)
wanted_image t (at_bin a o ∷ s) = fresh_image t (at_bin a o ∷ s)
wanted_image t (at_form ps ∷ s) = form_wanted t ps s

head_ahead : (ps : Parts) (m : Mark) (t : Tok) → ahead ps ≡ Reads m → delta (read_at (ahead ps)) t ≡ ahead (tok ps t)
head_ahead start m t h = absurd (cc)
head_ahead (from w) m t h = absurd (cc)
head_ahead (exp ps w) m t h = absurd (cc)
head_ahead top m t h = refl
head_ahead (tok ps u) m t h = rw h refl

heading_image : (t : Tok) (ps : Parts) (s : List Frame) (m : Mark) → ahead ps ≡ Reads m → image (step t (heading ps s)) ≡ advance t (image (heading ps s))
heading_image t ps s m h =
    image_cond (ltb (column t) (margin s)) stuck (enter (ahead (tok ps t)) (tok ps t) s)
    ∙ cond_same (ltb (column t) (margin s)) lost (image (enter (ahead (tok ps t)) (tok ps t) s)) lost _ refl
    (enter_image (ahead (tok ps t)) (tok ps t) s refl
    ∙ ap (λ (n : Next). entered n (parts ps + 1) (capped (deepest ps)) (images s) (codes_of s ++ (posts ps ++ (Part t ∷ []))) (margin s)) (sym (head_ahead ps m t h))
    ∙ ap (λ (c : List Code). entered (delta (read_at (ahead ps)) t) (parts ps + 1) (capped (deepest ps)) (images s) c (margin s)) (sym (append_assoc (codes_of s) (posts ps) (Part t ∷ []))))

least_image : (s : List Frame) → least (images s) ≡ floor s
least_image [] = refl
least_image (at_pre p ∷ s) = omega arith
least_image (at_bin a o ∷ s) = omega arith
least_image (at_form ps ∷ s) = refl

act_image : (t : Tok) (a : Role) (w : Written) (s : List Frame) → image (act t a w s) ≡ acted t a (shown w) (images s) (codes_of s ++ post w) (margin s)
act_image t InfixRole w s =
    image_cond (leb (floor s) (lo (sign t))) (want (at_bin w t ∷ s)) stuck
    ∙ rw (least_image s) refl
act_image t PostfixRole w s =
    enter_image (ahead (tok (from w) t)) (tok (from w) t) s refl
    ∙ ap (λ (c : List Code). entered (delta (behind_op (class w)) t) 2 (capped (levels w)) (images s) c (margin s)) (sym (append_assoc (codes_of s) (post w) (Part t ∷ [])))
act_image t NoRole w s = refl

placed_image : (t : Tok) (w : Written) (s : List Frame) → image (placed t w s) ≡ placing t (shown w) (images s) (codes_of s ++ post w) (margin s)
placed_image t w s =
    image_cond (ltb (column t) (margin s)) stuck (act t (after (sign t)) w s)
    ∙ cond_same (ltb (column t) (margin s)) lost (image (act t (after (sign t)) w s)) lost _ refl (act_image t (after (sign t)) w s)

capped_deeper : (n : ℕ) → capped (n + 1) ≡ deeper (capped n)
capped_deeper n = omega arith

capped_max : (a b : ℕ) → capped (max a b + 1) ≡ deeper (max (capped a) (capped b))
capped_max a b = omega arith

capped_joined : (j : Bool) (a b : ℕ) → capped (cond j (max a (b + 1)) (max a b + 1)) ≡ joined_levels j (capped a) (capped b)
capped_joined true a b = omega arith
capped_joined false a b = omega arith

capped_deepest : (a b : ℕ) → capped (max a b) ≡ max (capped a) (capped b)
capped_deepest a b = omega arith

same_running : (w v : Operand) (s : List Open) (c d : List Code) (m : ℕ) (t : Tok) → w ≡ v → c ≡ d → following t w s c m ≡ following t v s d m
same_running w v s c d m t h k = cc

bin_codes : (c a b d : List Code) → c ++ ((a ++ b) ++ d) ≡ ((c ++ a) ++ b) ++ d
bin_codes c a b d = simp append_assoc

pre_folds : (t : Tok) (p : Tok) (w : Written) (s : List Frame) → following t (shown (pre p w)) (images s) (codes_of s ++ post (pre p w)) (margin s) ≡ following t (folded (Before p) (shown w)) (images s) ((codes_of s ++ post w) ++ (Prefix p ∷ [])) (margin s)
pre_folds t p w s =
    same_running (shown (pre p w)) (folded (Before p) (shown w)) (images s) (codes_of s ++ post (pre p w)) ((codes_of s ++ post w) ++ (Prefix p ∷ [])) (margin s) t
    (ap (operand Other) (capped_deeper (levels w))) (sym (append_assoc (codes_of s) (post w) (Prefix p ∷ [])))

bin_folds : (t : Tok) (a : Written) (o : Tok) (w : Written) (s : List Frame) → following t (shown (bin a o w)) (images s) (codes_of s ++ post (bin a o w)) (margin s) ≡ following t (folded (Between (shown a) o) (shown w)) (images s) (((codes_of s ++ post a) ++ post w) ++ (folded_code (Between (shown a) o) ∷ [])) (margin s)
bin_folds t a o w s =
    same_running (shown (bin a o w)) (folded (Between (shown a) o) (shown w)) (images s) (codes_of s ++ post (bin a o w)) (((codes_of s ++ post a) ++ post w) ++ (folded_code (Between (shown a) o) ∷ [])) (margin s) t
    (ap (operand (class_infix (class a) (sign o))) (capped_joined (continues (class a) (sign o)) (levels a) (levels w)))
    (bin_codes (codes_of s) (post a) (post w) (folded_code (Between (shown a) o) ∷ []))

form_folds : (t : Tok) (ps : Parts) (w : Written) (s : List Frame) → following t (shown (tailed (form_of (ahead ps)) ps w)) (images s) (codes_of s ++ post (tailed (form_of (ahead ps)) ps w)) (margin s) ≡ following t (folded (image_form ps s) (shown w)) (images s) (((codes_of s ++ posts ps) ++ post w) ++ (folded_code (image_form ps s) ∷ [])) (margin s)
form_folds t ps w s =
    same_running (shown (tailed (form_of (ahead ps)) ps w)) (folded (image_form ps s) (shown w)) (images s) (codes_of s ++ post (tailed (form_of (ahead ps)) ps w)) (((codes_of s ++ posts ps) ++ post w) ++ (folded_code (image_form ps s) ∷ [])) (margin s) t
    (ap (operand Other) (capped_max (deepest ps) (levels w)))
    (bin_codes (codes_of s) (posts ps) (post w) (folded_code (image_form ps s) ∷ []))

form_goes : (t : Tok) (ps : Parts) (w : Written) (s : List Frame) → image (enter (delta (given (ahead ps) (class w)) t) (tok (exp ps w) t) s) ≡ entered (delta (given (ahead ps) (class w)) t) (parts ps + 2) (max (capped (deepest ps)) (capped (levels w))) (images s) (((codes_of s ++ posts ps) ++ post w) ++ (Part t ∷ [])) (margin s)
form_goes t ps w s =
    enter_image (delta (given (ahead ps) (class w)) t) (tok (exp ps w) t) s refl
    ∙ same_entered (delta (given (ahead ps) (class w)) t) (parts ps + 1 + 1) (parts ps + 2) (capped (max (deepest ps) (levels w))) (max (capped (deepest ps)) (capped (levels w))) (images s)
    (codes_of s ++ ((posts ps ++ post w) ++ (Part t ∷ []))) (((codes_of s ++ posts ps) ++ post w) ++ (Part t ∷ [])) (margin s)
    (omega arith) (capped_deepest (deepest ps) (levels w)) (bin_codes (codes_of s) (posts ps) (post w) (Part t ∷ []))
  where
    same_entered : (n : Next) (i j x y : ℕ) (r : List Open) (c d : List Code) (m : ℕ) → i ≡ j → x ≡ y → c ≡ d → entered n i x r c m ≡ entered n j y r d m
    same_entered n i j x y r c d m h k q = cc

behind_image : (t : Tok) (w : Written) (s : List Frame) → image (behind t w s) ≡ following t (shown w) (images s) (codes_of s ++ post w) (margin s)
behind_image t w [] = placed_image t w []
behind_image t w (at_pre p ∷ s) =
    image_cond (pops t (margin s) (ltb (hi (sign t)) (prefix_lo (sign p)))) (behind t (pre p w) s) (placed t w (at_pre p ∷ s))
    ∙ cond_same (pops t (margin s) (ltb (hi (sign t)) (prefix_lo (sign p)))) (image (behind t (pre p w) s)) (image (placed t w (at_pre p ∷ s))) _ _
    (behind_image t (pre p w) s ∙ pre_folds t p w s)
    (placed_image t w (at_pre p ∷ s))
behind_image t w (at_bin a o ∷ s) =
    image_cond (pops t (margin s) (ltb (hi (sign t)) (lo (sign o)) || same (sign o) (sign t))) (behind t (bin a o w) s) (placed t w (at_bin a o ∷ s))
    ∙ cond_same (pops t (margin s) (ltb (hi (sign t)) (lo (sign o)) || same (sign o) (sign t))) (image (behind t (bin a o w) s)) (image (placed t w (at_bin a o ∷ s))) _ _
    (behind_image t (bin a o w) s ∙ bin_folds t a o w s)
    (placed_image t w (at_bin a o ∷ s))
behind_image t w (at_form ps ∷ s) =
    elim (either (accepts ps w t (margin s))) [
      | inl h ↦ goes_here h ∙ form_goes t ps w s ∙ sym (goes_there h)
      | inr h ↦ elim (either (is_last (ahead ps) && pops t (margin (at_form ps ∷ s)) false)) [
        | inl q ↦ folds_here h q ∙ behind_image t (tailed (form_of (ahead ps)) ps w) s ∙ form_folds t ps w s ∙ sym (folds_there h q)
        | inr q ↦ stays_here h q ∙ placed_image t w (at_form ps ∷ s) ∙ sym (stays_there h q)
      ]
    ]
  where
    goes_here : accepts ps w t (margin s) ≡ true → image (behind t w (at_form ps ∷ s)) ≡ image (enter (delta (given (ahead ps) (class w)) t) (tok (exp ps w) t) s)
    goes_here h = rw h refl

    goes_there : accepts ps w t (margin s) ≡ true → following t (shown w) (images (at_form ps ∷ s)) (codes_of (at_form ps ∷ s) ++ post w) (margin (at_form ps ∷ s)) ≡ entered (delta (given (ahead ps) (class w)) t) (parts ps + 2) (max (capped (deepest ps)) (capped (levels w))) (images s) (((codes_of s ++ posts ps) ++ post w) ++ (Part t ∷ [])) (margin s)
    goes_there h = rw h refl

    folds_here : accepts ps w t (margin s) ≡ false → (is_last (ahead ps) && pops t (margin (at_form ps ∷ s)) false) ≡ true → image (behind t w (at_form ps ∷ s)) ≡ image (behind t (tailed (form_of (ahead ps)) ps w) s)
    folds_here h q = rw (h, q) refl

    folds_there : accepts ps w t (margin s) ≡ false → (is_last (ahead ps) && pops t (margin (at_form ps ∷ s)) false) ≡ true → following t (shown w) (images (at_form ps ∷ s)) (codes_of (at_form ps ∷ s) ++ post w) (margin (at_form ps ∷ s)) ≡ following t (folded (image_form ps s) (shown w)) (images s) (((codes_of s ++ posts ps) ++ post w) ++ (folded_code (image_form ps s) ∷ [])) (margin s)
    folds_there h q = rw (h, q) refl

    stays_here : accepts ps w t (margin s) ≡ false → (is_last (ahead ps) && pops t (margin (at_form ps ∷ s)) false) ≡ false → image (behind t w (at_form ps ∷ s)) ≡ image (placed t w (at_form ps ∷ s))
    stays_here h q = rw (h, q) refl

    stays_there : accepts ps w t (margin s) ≡ false → (is_last (ahead ps) && pops t (margin (at_form ps ∷ s)) false) ≡ false → following t (shown w) (images (at_form ps ∷ s)) (codes_of (at_form ps ∷ s) ++ post w) (margin (at_form ps ∷ s)) ≡ placing t (shown w) (images (at_form ps ∷ s)) (codes_of (at_form ps ∷ s) ++ post w) (margin (at_form ps ∷ s))
    stays_there h q = rw (h, q) refl

pub image_step : (t : Tok) (st : State) → Headed st → image (step t st) ≡ advance t (image st)
image_step t (want s) h = wanted_image t s
image_step t (have w s) h = behind_image t w s
image_step t (heading ps s) h = heading_image t ps s h.0 h.1
image_step t stuck h = refl

headed_enter : (n : Next) (ps : Parts) (s : List Frame) → ahead ps ≡ n → Headed (enter n ps s)
headed_enter (Reads m) ps s e = (m, e)
headed_enter (Wants m) ps s e = tt
headed_enter (Last m) ps s e = tt
headed_enter (Shut f) ps s e = tt
headed_enter Fail ps s e = tt

headed_cond : (b : Bool) (x y : State) → Headed x → Headed y → Headed (cond b x y)
headed_cond true x y h k = h
headed_cond false x y h k = k

headed_fresh : (t : Tok) (s : List Frame) → Headed (fresh t s)
headed_fresh t s = headed_cond (ltb (column t) (margin s)) stuck _ tt (headed_cond (is_prefix (sign t)) (want (at_pre t ∷ s)) _ tt (headed_enter (ahead (tok start t)) (tok start t) s refl))

headed_wanted : (t : Tok) (s : List Frame) → Headed (wanted t s)
headed_wanted t [] = headed_fresh t []
headed_wanted t (at_pre p ∷ s) = headed_fresh t (at_pre p ∷ s)
headed_wanted t (at_bin a o ∷ s) = headed_fresh t (at_bin a o ∷ s)
headed_wanted t (at_form ps ∷ s) = headed_cond (takes ps t (margin s)) _ _ (headed_enter (ahead (tok ps t)) (tok ps t) s refl) (headed_fresh t (at_form ps ∷ s))

headed_act : (t : Tok) (a : Role) (w : Written) (s : List Frame) → Headed (act t a w s)
headed_act t InfixRole w s = headed_cond (leb (floor s) (lo (sign t))) (want (at_bin w t ∷ s)) stuck tt tt
headed_act t PostfixRole w s = headed_enter (ahead (tok (from w) t)) (tok (from w) t) s refl
headed_act t NoRole w s = tt

headed_placed : (t : Tok) (w : Written) (s : List Frame) → Headed (placed t w s)
headed_placed t w s = headed_cond (ltb (column t) (margin s)) stuck _ tt (headed_act t (after (sign t)) w s)

headed_behind : (t : Tok) (w : Written) (s : List Frame) → Headed (behind t w s)
headed_behind t w [] = headed_placed t w []
headed_behind t w (at_pre p ∷ s) = headed_cond (pops t (margin s) (ltb (hi (sign t)) (prefix_lo (sign p)))) _ _ (headed_behind t (pre p w) s) (headed_placed t w (at_pre p ∷ s))
headed_behind t w (at_bin a o ∷ s) = headed_cond (pops t (margin s) (ltb (hi (sign t)) (lo (sign o)) || same (sign o) (sign t))) _ _ (headed_behind t (bin a o w) s) (headed_placed t w (at_bin a o ∷ s))
headed_behind t w (at_form ps ∷ s) =
    headed_cond (accepts ps w t (margin s)) _ _ (headed_enter (delta (given (ahead ps) (class w)) t) (tok (exp ps w) t) s refl)
    (headed_cond (is_last (ahead ps) && pops t (margin (at_form ps ∷ s)) false) _ _ (headed_behind t (tailed (form_of (ahead ps)) ps w) s) (headed_placed t w (at_form ps ∷ s)))

pub headed_step : (t : Tok) (st : State) → Headed st → Headed (step t st)
headed_step t (want s) h = headed_wanted t s
headed_step t (have w s) h = headed_behind t w s
headed_step t (heading ps s) h = headed_cond (ltb (column t) (margin s)) stuck _ tt (headed_enter (ahead (tok ps t)) (tok ps t) s refl)
headed_step t stuck h = tt

pub image_run : (st : State) (ts : List Tok) → Headed st → image (run st ts) ≡ advances (image st) ts
image_run st [] h = refl
image_run st (t ∷ ts) h = image_run (step t st) ts (headed_step t st h) ∙ ap (λ (x : Status). advances x ts) (image_step t st h)
