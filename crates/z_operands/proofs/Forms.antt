-- The steps over the operands of an instruction.
use Rattle.std.proofs.Common.{◌≡◌, ℕ, ◌+◌, ◌<◌, ◌≤◌, true, false, ◌&&◌, List, [], ◌∷◌, length, drop}
use Rattle.std.proofs.Common.{get_or, Some, None, refl, ap, ◌∙◌, arith}
use Rattle.std.proofs.lemmas.Grind.{common_steps}
use Rattle.std.proofs.lemmas.List.{drop_all}
use Rattle.z_instr.specs.declared.form.Slot.{Slot}
use Rattle.z_instr.specs.declared.instr.Fields.{Fields}
use Rattle.z_instr.proofs.Passing.{and_right}
use Rattle.z_operands.specs.Operands.{takes, has_form, with_slot, fields_from, ◌>>=◌}
use Rattle.z_operands.specs.declared.operand.Operand.{Operand}
use Rattle.z_fields.proofs.Loops.{drop_here}
use Rattle.std.proofs.Math.Bool.{and-false}

form_here : (ss : List Slot) (os : List Operand) (i : ℕ) (s : Slot) (o : Operand) → i < length ss →
    i < length os →
    has_form (drop i ss) (drop i os) ≡ (takes (get_or ss i s) (get_or os i o) && has_form (drop (i + 1) ss)
    (drop (i + 1) os))
form_here ss os i s o h k = ap (λ l. has_form l (drop i os)) (drop_here ss i s h)
    ∙ ap (λ l. has_form (get_or ss i s ∷ drop (i + 1) ss) l) (drop_here os i o k)

pub form_goes : (ss : List Slot) (os : List Operand) (i : ℕ) (s : Slot) (o : Operand) → i < length ss →
    i < length os →
    takes (get_or ss i s) (get_or os i o) ≡ true →
    has_form (drop i ss) (drop i os) ≡ has_form (drop (i + 1) ss) (drop (i + 1) os)
form_goes ss os i s o h k e = form_here ss os i s o h k
    ∙ ap (λ b. b && has_form (drop (i + 1) ss) (drop (i + 1) os)) e

pub form_fails : (ss : List Slot) (os : List Operand) (i : ℕ) (s : Slot) (o : Operand) → i < length ss →
    i < length os →
    takes (get_or ss i s) (get_or os i o) ≡ false → has_form (drop i ss) (drop i os) ≡ false
form_fails ss os i s o h k e = form_here ss os i s o h k
    ∙ ap (λ b. b && has_form (drop (i + 1) ss) (drop (i + 1) os)) e

pub form_ends : (ss : List Slot) (os : List Operand) (i : ℕ) → length ss ≤ i → length os ≤ i →
    has_form (drop i ss) (drop i os) ≡ true
form_ends ss os i h k = ap (λ l. has_form l (drop i os)) (drop_all i ss h)
    ∙ ap (has_form []) (drop_all i os k)

pub form_differs : (ss : List Slot) (os : List Operand) → (length ss ≡ length os → ⊥) → has_form ss os ≡ false
form_differs [] [] h = absurd (h refl)
form_differs [] (o ∷ os) h = refl
form_differs (s ∷ ss) [] h = refl
form_differs (s ∷ ss) (o ∷ os) h =
    ap (λ b. takes s o && b) (form_differs ss os (λ e. h (omega arith))) ∙ and-false (takes s o)

pub form_length : (ss : List Slot) (os : List Operand) → has_form ss os ≡ true → length ss ≡ length os
form_length [] [] e = refl
form_length [] (o ∷ os) e = cc
form_length (s ∷ ss) [] e = cc
form_length (s ∷ ss) (o ∷ os) e =
    let rest = form_length ss os (and_right (takes s o) (has_form ss os) e) in omega arith

pub ruleset form_steps = (form_goes, form_fails, form_ends, form_differs, common_steps)

fields_here : (here : ℕ) (ss : List Slot) (os : List Operand) (f : Fields) (i : ℕ) (s : Slot) (o : Operand) →
    i < length ss → i < length os →
    fields_from here (drop i ss) (drop i os) f ≡
    (with_slot here (get_or ss i s) (get_or os i o) f >>= fields_from here (drop (i + 1) ss)
    (drop (i + 1) os))
unfolding fields_from
fields_here here ss os f i s o h k =
    ap (λ l. fields_from here l (drop i os) f) (drop_here ss i s h)
    ∙ ap (λ l. fields_from here (get_or ss i s ∷ drop (i + 1) ss) l f) (drop_here os i o k)

pub fields_go : (here : ℕ) (ss : List Slot) (os : List Operand) (f g : Fields) (i : ℕ) (s : Slot)
    (o : Operand) → i < length ss → i < length os →
    with_slot here (get_or ss i s) (get_or os i o) f ≡ Some g →
    fields_from here (drop i ss) (drop i os) f ≡ fields_from here (drop (i + 1) ss) (drop (i + 1) os) g
fields_go here ss os f g i s o h k e = fields_here here ss os f i s o h k
    ∙ ap (λ r. r >>= fields_from here (drop (i + 1) ss) (drop (i + 1) os)) e

pub fields_fail : (here : ℕ) (ss : List Slot) (os : List Operand) (f : Fields) (i : ℕ) (s : Slot)
    (o : Operand) → i < length ss → i < length os →
    with_slot here (get_or ss i s) (get_or os i o) f ≡ None →
    fields_from here (drop i ss) (drop i os) f ≡ None
fields_fail here ss os f i s o h k e = fields_here here ss os f i s o h k
    ∙ ap (λ r. r >>= fields_from here (drop (i + 1) ss) (drop (i + 1) os)) e

pub fields_end : (here : ℕ) (ss : List Slot) (os : List Operand) (f : Fields) (i : ℕ) → length ss ≤ i →
    fields_from here (drop i ss) (drop i os) f ≡ Some f
unfolding fields_from
fields_end here ss os f i h = ap (λ l. fields_from here l (drop i os) f) (drop_all i ss h)

pub ruleset field_steps = (fields_go, fields_fail, fields_end, common_steps)
