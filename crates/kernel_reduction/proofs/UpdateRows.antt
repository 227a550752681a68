-- What the choice of an index of an EXCEPT says: of which kind the part is to which it leads.
use Rattle.std.proofs.Common.{◌≡◌, ℕ, zero, suc, Bool, true, false, not, ◌&&◌, ◌||◌, List, [], ◌∷◌, map, refl, sym, ◌∙◌, ap, subst, Option, Some, None, pos, if◌then◌else◌}
use Rattle.std.specs.Ordering.{is_eq}
use Rattle.tla_values.specs.Order.{Layer, text_cmp}
use Rattle.tla_values.specs.declared.value.Value.{Value, out-Value}
use Rattle.tla_values.specs.declared.value.Value.TheOpen as vlayer
use Rattle.tla_meaning.specs.declared.place.Place.{Place}
use Rattle.tla_meaning.proofs.Laws.{none≢some}
use Rattle.tla_meaning.proofs.Views.{and_left, false≢true}
use Rattle.snowcat_rows.specs.declared.types.Ty.{Ty, out-Ty}
use Rattle.snowcat_rows.specs.declared.types.Ty.TheOpen as layer
use Rattle.snowcat_rows.specs.declared.types.Ty.TheFolds.{map-Ty}
use Rattle.snowcat_rows.specs.Substitutions.{Sub}
use Rattle.snowcat_types.specs.Requirements.{MeetAll}
use Rattle.snowcat_types.specs.Waiting.{choice}
use Rattle.snowcat_types.specs.declared.waiting.Index.{Index}
use Rattle.snowcat_types.specs.declared.waiting.Index.TheVariants as lit
use Rattle.snowcat_types.specs.declared.waiting.Wait.TheVariants as wait
use Rattle.snowcat_types.specs.declared.kinds.Kind.{Kind as Formed}
use Rattle.snowcat_types.specs.declared.kinds.Kind.TheVariants as formed
use Rattle.kernel_trees.specs.declared.kernel.Ker.{Ker, out-Ker}
use Rattle.kernel_trees.specs.declared.kernel.KerOp.{KerOp}
use Rattle.kernel_trees.specs.declared.kernel.KerOp.TheVariants as ker
use Rattle.kernel_trees.specs.TypeKinds.{Kind, Kinds, Fields, Number, Word, Seq, Fun, Tup, Rec, kinds, kind_of, kind_layer, item_kind, field_kind, all_there}
use Rattle.kernel_trees.specs.Sound.{Context, Part, is_literal, is_infinite, kinds_at, children, passes, row, literal_of, updated_kind, sound_at}
use Rattle.kernel_trees.proofs.SoundNodes.{with_asked, sound_out}
use Rattle.kernel_trees.proofs.TypeLaws.{kind_out}
use Rattle.kernel_reduction.specs.Making.{item_type, field_type, part_at, part_type}
use Rattle.kernel_reduction.specs.Rows.{op_at}
use Rattle.kernel_reduction.proofs.SoundMade.{Is, same_self}
use Rattle.kernel_reduction.proofs.FieldOrder.{found, fields_found}
use Rattle.kernel_reduction.proofs.KindsOf.{some_same, mapped, mapped_list, two, Written, no_field, a_field, record_parts, split_there, Of, IsWord, same_of, of_seq, of_fun, is_number}
use Rattle.kernel_reduction.proofs.ChoiceRows.{fun, seq, tup, rec, kind_form, form_at, item_found, field_found}
use Rattle.kernel_reduction.proofs.LiteralRoots.{Tells}

-- ---- by the choice: the kind of what is updated, where the index and what stands at it have these

pub data Chosen (x : Index) (a j d : Kind) : Type 0 where
  by_function : a ≡ Fun j d → Chosen x a j d
  by_sequence : a ≡ Seq d → j ≡ Number → Chosen x a j d
  by_item : (n : ℕ) (bs : Kinds) → x ≡ lit.Number (pos n) → a ≡ Tup bs → item_kind bs n ≡ Some d → Chosen x a j d
  by_field : (y : List ℕ) (fs : Fields) → x ≡ lit.Word y → a ≡ Rec fs → field_kind fs y ≡ Some d → Chosen x a j d

pub chosen : (s : Sub) (f i t : ℕ) (p : Place) (x : Index) (k : Formed) (a j : Kind) →
    MeetAll s (choice (wait.Apply p f i t x) k) → Of (s.type_of f) a → Of (s.type_of i) j →
    (d : Kind) × Of (s.type_of t) d × Chosen x a j d
chosen s f i t p x formed.Function a j m ha hj =
    let r = of_fun (s.type_of i) (s.type_of t) a (subst (λ z. Of z a) m.0 ha) in
    (r.1, r.4, by_function (r.2 ∙ ap (λ z. Fun z r.1) (same_of (s.type_of i) r.0 j r.3 hj)))
chosen s f i t p x formed.Sequence a j m ha hj =
    let r = of_seq (s.type_of t) a (subst (λ z. Of z a) m.0 ha) in
    (r.0, r.2, by_sequence r.1 (is_number j (subst (λ z. Of z j) (sym m.1.0) hj)))
chosen s f i t p (lit.Number (pos n)) formed.Tuple a j m ha hj =
    let r = item_found (s.type_of f) (s.type_of t) n a ha m.0 in
    (r.2.0, r.2.2, by_item n r.0 refl r.1 r.2.1)
chosen s f i t p (lit.Word y) formed.Record a j m ha hj =
    let r = field_found (s.type_of f) (s.type_of t) y a ha m.0 in
    (r.2.0, r.2.2, by_field y r.0 refl r.1 r.2.1)
chosen s f i t p x k a j m ha hj = absurd (m.0)

-- ---- the kind of a literal

abbrev pub LiteralKind : Layer Value → Kind → Type 0
LiteralKind (vlayer.Int i) a = a ≡ Number
LiteralKind (vlayer.Text x) a = IsWord a
LiteralKind v a = Unit {0}

of_literal : (v : Layer Value) (a : Kind) → is_literal a v ≡ true → LiteralKind v a
of_literal (vlayer.Int i) Number h = refl
of_literal (vlayer.Int i) a h = absurd (false≢true h)
of_literal (vlayer.Text x) (Word u) h = (u, refl)
of_literal (vlayer.Text x) a h = absurd (false≢true h)
of_literal v a h = tt

of_constant : (v : Value) (a : Kind) (o : Option (List Kind)) → passes (row (ker.Const v) a) o ≡ true →
    LiteralKind (out-Value v) a
of_constant v a None h = absurd (false≢true h)
of_constant v a (Some []) h = of_literal (out-Value v) a h
of_constant v a (Some (b ∷ bs)) h = absurd (false≢true h)

pub literal_kind : (names : List Kind) (c : Context) (j : Kind) (k : Ker) → Is names c j k →
    LiteralKind (literal_of (op_at k)) j
literal_kind names c j k h =
    let test : Kind → Bool = λ a. sound_at names (out-Ker k).op a (out-Ker k).binds ps c false in
    by (out-Ker k).op (sym (ap (passes test) h.0) ∙ sym (sound_out names k c false) ∙ h.1)
  where
    ps : List Part
    ps = with_asked names (out-Ker k).args

    by : (o : KerOp) → sound_at names o j (out-Ker k).binds ps c false ≡ true → LiteralKind (literal_of o) j
    by (ker.Const v) g =
        let i : Bool = not (is_infinite (ker.Const v)) || false in
        let p : Bool = passes (row (ker.Const v) j) (kinds_at ps) in
        of_constant v j (kinds_at ps) (and_left p i (and_left (p && i) (children (ker.Const v) 0 c false ps) g))
    by o g = tt

-- ---- by the type of what is updated

item_kind_of : (ts : List Ty) (as' : List Kind) (n : ℕ) (u : Ty) → all_there (map kind_of ts) ≡ Some as' →
    item_type ts n ≡ Some u → item_kind (kinds as') n ≡ kind_of u
item_kind_of ts as' zero u q h = absurd (none≢some h)
item_kind_of [] as' (suc n) u q h = absurd (none≢some h)
item_kind_of (t ∷ ts) as' (suc zero) u q h =
    let v = split_there (kind_of t) (map kind_of ts) as' q in
    ap (λ z. item_kind (kinds z) 1) v.2 ∙ sym v.3 ∙ ap kind_of (some_same h)
item_kind_of (t ∷ ts) as' (suc (suc n)) u q h =
    let v = split_there (kind_of t) (map kind_of ts) as' q in
    ap (λ z. item_kind (kinds z) (suc (suc n))) v.2 ∙ item_kind_of ts v.1 (suc n) u v.4 h

field_kind_of : (fs : List (List ℕ × Ty)) (ks : List (List ℕ × Kind)) → Written fs ks → (x : List ℕ) (u : Ty) →
    field_type fs x ≡ Some u → found ks x ≡ kind_of u
field_kind_of _ _ no_field x u h = absurd (none≢some h)
field_kind_of _ _ (a_field y t a fs ks q w) x u h = by (is_eq (text_cmp x y)) h (λ k. field_kind_of fs ks w x u k)
  where
    by : (d : Bool) → (if d then Some t else field_type fs x) ≡ Some u →
        (field_type fs x ≡ Some u → found ks x ≡ kind_of u) → (if d then Some a else found ks x) ≡ kind_of u
    by true k r = sym q ∙ ap kind_of (some_same k)
    by false k r = r k

fun_seq : fun ≡ seq → ⊥
fun_seq e = cc

fun_tup : fun ≡ tup → ⊥
fun_tup e = cc

fun_rec : fun ≡ rec → ⊥
fun_rec e = cc

seq_tup : seq ≡ tup → ⊥
seq_tup e = cc

seq_rec : seq ≡ rec → ⊥
seq_rec e = cc

tup_rec : tup ≡ rec → ⊥
tup_rec e = cc

fun_values : {a b c d : Kind} → Fun a b ≡ Fun c d → b ≡ d
fun_values e = cc

seq_items : {a b : Kind} → Seq a ≡ Seq b → a ≡ b
seq_items e = cc

tup_items : {a b : Kinds} → Tup a ≡ Tup b → a ≡ b
tup_items e = cc

rec_items : {a b : Fields} → Rec a ≡ Rec b → a ≡ b
rec_items e = cc

numbers_same : {m n : ℕ} → lit.Number (pos m) ≡ lit.Number (pos n) → m ≡ n
numbers_same e = cc

words_same : {x y : List ℕ} → lit.Word x ≡ lit.Word y → x ≡ y
words_same e = cc

-- an index leads to this kind, and the type of what stands there has it
abbrev Led : Kind → Kind → Layer Value → Ty → Kind → Type 0
Led a j v u d = (updated_kind a j v ≡ Some d) × (kind_of u ≡ Some d)

abbrev Layered : layer.Ty-F Ty → Option Kind
Layered w = kind_layer (map-Ty Ty (Option Kind) kind_of w)

led_at : (w : layer.Ty-F Ty) (v : Layer Value) (a j d : Kind) (x : Index) (u : Ty) → Layered w ≡ Some a →
    part_at w v ≡ Some u → Tells v x → LiteralKind v j → Chosen x a j d → Led a j v u d
led_at (layer.Fun A B) v a j d x u q h t l (by_function e) =
    let r = two (kind_of A) (kind_of B) a q in (
      ap (λ z. updated_kind z j v) e ∙ ap (λ b. if b then Some d else None) (same_self j),
      ap kind_of (sym (some_same h)) ∙ r.4 ∙ ap Some (fun_values (sym r.2 ∙ e)),
    )
led_at (layer.Fun A B) v a j d x u q h t l (by_sequence e n) =
    absurd (fun_seq (form_at (layer.Fun A B) a q ∙ ap kind_form e))
led_at (layer.Fun A B) v a j d x u q h t l (by_item n bs y e i) =
    absurd (fun_tup (form_at (layer.Fun A B) a q ∙ ap kind_form e))
led_at (layer.Fun A B) v a j d x u q h t l (by_field n fs y e i) =
    absurd (fun_rec (form_at (layer.Fun A B) a q ∙ ap kind_form e))
led_at (layer.Seq A) v a j d x u q h t l (by_function e) =
    absurd (fun_seq (sym (form_at (layer.Seq A) a q ∙ ap kind_form e)))
led_at (layer.Seq A) v a j d x u q h t l (by_sequence e n) =
    let r = mapped Seq (kind_of A) a q in (
      (λ i. updated_kind (e i) (n i) v),
      ap kind_of (sym (some_same h)) ∙ r.2 ∙ ap Some (seq_items (sym r.1 ∙ e)),
    )
led_at (layer.Seq A) v a j d x u q h t l (by_item n bs y e i) =
    absurd (seq_tup (form_at (layer.Seq A) a q ∙ ap kind_form e))
led_at (layer.Seq A) v a j d x u q h t l (by_field n fs y e i) =
    absurd (seq_rec (form_at (layer.Seq A) a q ∙ ap kind_form e))
led_at (layer.Tup ts) (vlayer.Int (pos n)) a j d x u q h t l (by_function e) =
    absurd (fun_tup (sym (form_at (layer.Tup ts) a q ∙ ap kind_form e)))
led_at (layer.Tup ts) (vlayer.Int (pos n)) a j d x u q h t l (by_sequence e m) =
    absurd (seq_tup (sym (form_at (layer.Tup ts) a q ∙ ap kind_form e)))
led_at (layer.Tup ts) (vlayer.Int (pos n)) a j d x u q h t l (by_item m bs y e i) =
    let r = mapped_list (λ xs. Tup (kinds xs)) (all_there (map kind_of ts)) a q in
    let w : m ≡ n = numbers_same (sym y ∙ t) in
    let o : item_kind bs n ≡ Some d = subst (λ z. item_kind bs z ≡ Some d) w i in (
      (λ k. updated_kind (e k) (l k) (vlayer.Int (pos n))) ∙ o,
      sym (item_kind_of ts r.0 n u r.2 h) ∙ ap (λ z. item_kind z n) (tup_items (sym r.1 ∙ e)) ∙ o,
    )
led_at (layer.Tup ts) (vlayer.Int (pos n)) a j d x u q h t l (by_field m fs y e i) =
    absurd (tup_rec (form_at (layer.Tup ts) a q ∙ ap kind_form e))
led_at (layer.Rec gs None) (vlayer.Text y) a j d x u q h t l (by_function e) =
    absurd (fun_rec (sym (form_at (layer.Rec gs None) a q ∙ ap kind_form e)))
led_at (layer.Rec gs None) (vlayer.Text y) a j d x u q h t l (by_sequence e m) =
    absurd (seq_rec (sym (form_at (layer.Rec gs None) a q ∙ ap kind_form e)))
led_at (layer.Rec gs None) (vlayer.Text y) a j d x u q h t l (by_item m bs z e i) =
    absurd (tup_rec (sym (form_at (layer.Rec gs None) a q ∙ ap kind_form e)))
led_at (layer.Rec gs None) (vlayer.Text y) a j d x u q h t l (by_field m fs z e i) =
    let r = record_parts gs a q in
    let w : m ≡ y = words_same (sym z ∙ t) in
    let o : field_kind fs y ≡ Some d = subst (λ v. field_kind fs v ≡ Some d) w i in (
      (λ k. updated_kind (e k) (l.1 k) (vlayer.Text y)) ∙ o,
      sym (field_kind_of gs r.0 r.2 y u h) ∙ sym ((fields_found r.0 r.3).1 y)
          ∙ ap (λ z. field_kind z y) (rec_items (sym r.1 ∙ e)) ∙ o,
    )
led_at (layer.Rec gs (Some r)) v a j d x u q h t l c = absurd (none≢some q)
led_at w v a j d x u q h t l c = absurd (none≢some h)

pub led : (A : Ty) (o : KerOp) (a j d : Kind) (x : Index) (u : Ty) → kind_of A ≡ Some a → part_type A o ≡ Some u →
    Tells (literal_of o) x → LiteralKind (literal_of o) j → Chosen x a j d →
    (updated_kind a j (literal_of o) ≡ Some d) × (kind_of u ≡ Some d)
led A o a j d x u q h t l c = led_at (out-Ty A) (literal_of o) a j d x u (sym (kind_out A) ∙ q) h t l c
