-- Branches by assignments of exactly as many truth values as a formula has variables: so parts that follow one
-- another say what they
-- extend, and of the formulas between them nothing else is asked.
use Rattle.std.proofs.Common.{◌≡◌, ℕ, Bool, true, false, List, ◌++◌, length, sym, ◌∙◌, subst, arith, append_assoc}
use Rattle.std.proofs.lemmas.List.{get_or_append_left}
use Rattle.sat_formula.specs.declared.cnf.Cnf.{Cnf}
use Rattle.sat_formula.specs.Formula.{Extends, Grows as FormulaGrows, Satisfies, WellFormed}
use Rattle.sat_formula.proofs.Extension.{Satisfies-older}
use Rattle.path_walks.specs.Paths.{GoesOn}
use Rattle.level_laws.specs.Constraints.{Agree, Assignment, Extended, Reads, of_formula, under}
use Rattle.level_laws.specs.Branches.{Branch, BranchReading, Ending, Held, Transition}
use Rattle.level_laws.proofs.Formulas.{bits_agree, bits_length, extended_by, first_bits, formula_grown, satisfies_agree}
use Rattle.level_laws.proofs.Growing.{extended_under, grown_under, reads_back}

-- ---- an assignment that goes on

pub agree_front : (n : ℕ) (a more : Assignment) → length a ≡ n → Agree n a (a ++ more)
agree_front n a more e i lt = sym (get_or_append_left a more false i (omega (arith, e, lt)))

pub goes_again : (g h : Cnf) (a : Assignment) (P Q : Assignment → Type 0) → GoesOn g a P →
    ((b : Assignment) → length b ≡ g.vars → Satisfies b g → P b → GoesOn h b Q) → GoesOn h a Q
goes_again g h a P Q r go =
    let u = go (a ++ r.more) r.long r.satisfies r.holds in
    let e : (a ++ r.more) ++ u.more ≡ a ++ (r.more ++ u.more) = append_assoc a r.more u.more in
    record {
      more = r.more ++ u.more;
      long = subst (λ (l : List Bool). length l ≡ h.vars) e u.long;
      satisfies = subst (λ (l : List Bool). Satisfies l h) e u.satisfies;
      holds = subst Q e u.holds;
    }

-- a longer formula's own extension
pub grown_on : (f g : Cnf) (a : Assignment) (P : Assignment → Type 0) → FormulaGrows f g → length a ≡ f.vars →
    Satisfies a f →
    ((b : Assignment) → Agree f.vars a b → Satisfies b g → P b) → GoesOn g a P
unfolding Extends Satisfies
grown_on f g a P gr n s keep =
    let u = gr.extends.law a n s in
    record { more = u.0; long = u.1.0; satisfies = u.1.1; holds = keep (a ++ u.0) (agree_front f.vars a u.0 n) u.1.1 }

pub goes_more : (g h : Cnf) (a : Assignment) (P Q : Assignment → Type 0) → FormulaGrows g h → GoesOn g a P →
    ((b c : Assignment) → P b → Agree g.vars b c → Satisfies c h → Q c) → GoesOn h a Q
goes_more g h a P Q gr r keep =
    goes_again g h a P Q r (λ b n s p. grown_on g h b Q gr n s (λ c ag sc. keep b c p ag sc))

pub goes_as : (g : Cnf) (a : Assignment) (P Q : Assignment → Type 0) → GoesOn g a P → ((b : Assignment) → P b → Q b) →
    GoesOn g a Q
goes_as g a P Q r to = record {
  more = r.more;
  long = r.long;
  satisfies = r.satisfies;
  holds =
      to (a ++ r.more) r.holds;
}

-- ---- a branch

pub record Leads {E S : Type 0} (f g : Cnf) (on : Assignment → Bool) (now : Assignment → E) (P : Transition E S)
    (x : BranchReading S) : Type 0 where
  pub sound : (k : Ending) (a : Assignment) → Satisfies a g → on a ≡ true → x.ends k a ≡ true → P k (now a) (x.next a)
  pub reach : (a : Assignment) (t : S) → length a ≡ f.vars → Satisfies a f → on a ≡ true → P Held (now a) t →
      GoesOn g a (λ b. (x.ends Held b ≡ true) × (x.next b ≡ t))
  pub find : (k : Ending) (a : Assignment) (t : S) → length a ≡ f.vars → Satisfies a f → on a ≡ true → P k (now a) t →
      GoesOn g a (λ b. x.ends k b ≡ true)

module _ {E S : Type 0} (on : Assignment → Bool) (now : Assignment → E) where
  -- the transition may be said otherwise
  pub leads_same : (f g : Cnf) (P Q : Transition E S) (x : BranchReading S) →
      ((k : Ending) (e : E) (t : S) → P k e t → Q k e t) →
      ((k : Ending) (e : E) (t : S) → Q k e t → P k e t) → Leads f g on now P x → Leads f g on now Q x
  leads_same f g P Q x to from b = record {
    sound = λ k a s o e. to k (now a) (x.next a) (b.sound k a s o e);
    reach = λ a t n s o q. b.reach a t n s o (from Held (now a) t q);
    find = λ k a t n s o q. b.find k a t n s o (from k (now a) t q);
  }

  -- so may what is read
  pub leads_read : (f g : Cnf) (P : Transition E S) (x y : BranchReading S) →
      ((k : Ending) (a : Assignment) → x.ends k a ≡ y.ends k a) →
      ((a : Assignment) → x.next a ≡ y.next a) → Leads f g on now P x → Leads f g on now P y
  leads_read f g P x y ends next b = record {
    sound = λ k a s o e. subst (P k (now a)) (next a) (b.sound k a s o (ends k a ∙ e));
    reach = λ a t n s o p.
        goes_as g a (λ c. (x.ends Held c ≡ true) × (x.next c ≡ t)) (λ c. (y.ends Held c ≡ true) × (y.next c ≡ t))
        (b.reach a t n s o p)
        (λ c z. (sym (ends Held c) ∙ z.0, sym (next c) ∙ z.1));
    find = λ k a t n s o p.
        goes_as g a (λ c. x.ends k c ≡ true) (λ c. y.ends k c ≡ true) (b.find k a t n s o p)
        (λ c z. sym (ends k c) ∙ z);
  }

  -- a branch stays one when the formula grows
  pub leads_later : (f g h : Cnf) (P : Transition E S) (x : BranchReading S) → FormulaGrows g h →
      ((k : Ending) → Reads g.vars (x.ends k)) →
      Reads g.vars x.next → Leads f g on now P x → Leads f h on now P x
  leads_later f g h P x gr ends next b = record {
    sound = λ k a s o e. b.sound k a (Satisfies-older g h a gr s) o e;
    reach = λ a t n s o p.
        goes_more g h a (λ c. (x.ends Held c ≡ true) × (x.next c ≡ t)) (λ c. (x.ends Held c ≡ true) × (x.next c ≡ t))
        gr (b.reach a t n s o p)
        (λ c d u ag sd. (
          reads_back g.vars (x.ends Held) true c d (ends Held) ag u.0,
          reads_back g.vars x.next t c d
              next ag u.1,
        ));
    find = λ k a t n s o p.
        goes_more g h a (λ c. x.ends k c ≡ true) (λ c. x.ends k c ≡ true) gr (b.find k a t n s o p)
        (λ c d u ag sd. reads_back g.vars (x.ends k) true c d (ends k) ag u);
  }

  -- and is one over each formula before it that has the variables of what is read before
  pub leads_before : (f g h : Cnf) (P : Transition E S) (x : BranchReading S) → FormulaGrows f g → Reads f.vars on →
      Reads f.vars now →
      Leads g h on now P x → Leads f h on now P x
  leads_before f g h P x gr reads_on reads b = record {
    sound = b.sound;
    reach = λ a t n s o p.
        on_from a n s (λ c. (x.ends Held c ≡ true) × (x.next c ≡ t))
        (λ c m sc e ag. b.reach c t m sc (reads_back f.vars on true a c reads_on ag o)
        (subst (λ (z : E). P Held z t) e p));
    find = λ k a t n s o p.
        on_from a n s (λ c. x.ends k c ≡ true)
        (λ c m sc e ag. b.find k c t m sc (reads_back f.vars on true a c reads_on ag o)
        (subst (λ (z : E). P k z t) e p));
  }
    where
      on_from : (a : Assignment) → length a ≡ f.vars → Satisfies a f → (Q : Assignment → Type 0) →
          ((c : Assignment) → length c ≡ g.vars → Satisfies c g → now a ≡ now c → Agree f.vars a c → GoesOn h c Q) →
          GoesOn h a Q
      on_from a n s Q go =
          let there : Assignment → Type 0 = λ c. Agree f.vars a c in
          goes_again g h a there Q (grown_on f g a there gr n s (λ b ag sb. ag))
          (λ c m sc ag. go c m sc (reads a c ag) ag)

  -- where the first formula names its own variables alone, it is a branch of levels
  pub branch_of : (f g : Cnf) (P : Transition E S) (x : BranchReading S) → WellFormed f → FormulaGrows f g →
      Reads f.vars on → Reads f.vars now →
      ((k : Ending) → Reads g.vars (x.ends k)) → Reads g.vars x.next → Leads f g on now P x →
      Branch (under (of_formula f) on) (under (of_formula g) on) now P x
  branch_of f g P x wf gr reads_on reads ends next b = record {
    grown = grown_under (of_formula f) (of_formula g) on reads_on (formula_grown f g wf gr);
    ends_read = ends;
    next_reads = next;
    sound = λ k a s e. b.sound k a s.0 s.1 e;
    reach = λ a t s p.
        from_first a s.0 s.1 (λ c. (x.ends Held c ≡ true) × (x.next c ≡ t))
        (λ c n sc o e. b.reach c t n sc o (subst (λ (z : E). P Held z t) e p));
    find = λ k a t s p.
        from_first a s.0 s.1 (λ c. x.ends k c ≡ true)
        (λ c n sc o e. b.find k c t n sc o (subst (λ (z : E). P k z t) e p));
  }
    where
      from_first : (a : Assignment) → Satisfies a f → on a ≡ true → (Q : Assignment → Type 0) →
          ((c : Assignment) → length c ≡ f.vars → Satisfies c f → on c ≡ true → now a ≡ now c → GoesOn g c Q) →
          Extended (under (of_formula f) on) (under (of_formula g) on) a Q
      from_first a s o Q go =
          let c = first_bits f.vars a in
          let ag = bits_agree f.vars a in
          let r = go c (bits_length f.vars a) (satisfies_agree f a c wf ag s)
          (reads_back f.vars on true a c reads_on ag o) (reads a c ag) in
          extended_under (of_formula f) (of_formula g) on reads_on a Q o
          (extended_by f g a Q r.more r.satisfies r.holds)
