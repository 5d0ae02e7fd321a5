use Rattle.std.proofs.Common.{◌*◌, length, sym, ap, subst, ◌∙◌, arith}
use Rattle.std.proofs.lemmas.Bool.{eqb-true}
use Rattle.z_instr.specs.Layouts.{layout_of, taken}
use Rattle.z_instr.specs.Made.{Has}
use Rattle.z_instr.specs.Reading.{AreBytes}
use Rattle.z_instr.specs.Table.{entry_at}
use Rattle.z_instr.proofs.Distinct.{one_row}
use Rattle.z_instr.proofs.Wholes.{length_at}
use Rattle.z_instr.proofs.Spelled.{reads_opcode, reads_spare}
use Rattle.z_decode.proofs.Unread.{found, allowed}
use Rattle.z_decode.proofs.Held.{are_small, fields_are, reads_again, same_fields, same_small}
use Rattle.z_decode.proofs.reading.decode.Goals as goal

pub returns-in_default-clause-none : goal.returns-in_default-clause-none
returns-in_default-clause-none c i r =
    c.in_default.ensures.none i.op.number i.op.known (reads_opcode c.args.bytes.now i r)

pub returns-then-numbers-ne0-clause-none : goal.returns-then-numbers-ne0-clause-none
returns-then-numbers-ne0-clause-none c i r =
    let op = c.in-Some.op in
    let text = c.args.bytes.now in
    let bytes : AreBytes text = λ k. omega (arith, c.type_inv.bytes k) in
    let layout = c.digits_of.ensures ∙ ap layout_of c.line.ensures.row in
    let row = one_row op.number i.op.number text op.known i.op.known bytes c.in-Some.ensures.found (reads_opcode text i r) in
    let none = c.numbers_in-numbers.ensures 11 ∙ ap (λ ds. taken ds text 11) layout
    ∙ ap (λ n. taken (layout_of (entry_at n)) text 11) row ∙ eqb-true _ _ (reads_spare text i r) in
    grind (arith, none, c.if-numbers-ne0.true)

pub numbers_in-numbers-requires-clause-length : goal.numbers_in-numbers-requires-clause-length
numbers_in-numbers-requires-clause-length c =
    let op = c.in-Some.op in
    ap length (c.digits_of.ensures ∙ ap layout_of c.line.ensures.row) ∙ length_at op.number op.known
    ∙ ap (λ n. 2 * n) (sym c.in-Some.ensures.length)

pub fields_from-requires : goal.fields_from-requires
fields_from-requires c =
    let op = c.in-Some.op in
    let text = c.args.bytes.now in
    let bytes : AreBytes text = λ k. omega (arith, c.type_inv.bytes k) in
    let layout = c.digits_of.ensures ∙ ap layout_of c.line.ensures.row in
    same_small (entry_at op.number) _ (taken (layout_of (entry_at op.number)) text)
    (λ r. c.numbers_in-numbers.ensures r ∙ ap (λ ds. taken ds text r) layout)
    (are_small op.number text op.known bytes)

pub returns-in-Some-new-clause-found : goal.returns-in-Some-new-clause-found
returns-in-Some-new-clause-found c =
    let op = c.in-Some.op in
    let text = c.args.bytes.now in
    let bytes : AreBytes text = λ k. omega (arith, c.type_inv.bytes k) in
    let layout = c.digits_of.ensures ∙ ap layout_of c.line.ensures.row in
    let fields = c.fields_from.ensures
    ∙ same_fields (entry_at op.number) _ (taken (layout_of (entry_at op.number)) text)
    (λ r. c.numbers_in-numbers.ensures r ∙ ap (λ ds. taken ds text r) layout)
    ∙ fields_are op.number text op.known bytes in
    let none = sym (c.numbers_in-numbers.ensures 11 ∙ ap (λ ds. taken ds text 11) layout) ∙ c.if-numbers-ne0.false in
    reads_again op text c.in-Some-new.instr bytes c.in-Some.ensures.found c.in-Some.ensures.length none
    (subst (λ f. Has op f c.in-Some-new.instr) fields c.in-Some-new.ensures.made)

pub returns-in-None-clause-none : goal.returns-in-None-clause-none
returns-in-None-clause-none c i r =
    let op = c.in-Some.op in
    let text = c.args.bytes.now in
    let bytes : AreBytes text = λ k. omega (arith, c.type_inv.bytes k) in
    let layout = c.digits_of.ensures ∙ ap layout_of c.line.ensures.row in
    let fields = c.fields_from.ensures
    ∙ same_fields (entry_at op.number) _ (taken (layout_of (entry_at op.number)) text)
    (λ r. c.numbers_in-numbers.ensures r ∙ ap (λ ds. taken ds text r) layout)
    ∙ fields_are op.number text op.known bytes in
    let f = found op c.fields_from.result text i bytes c.in-Some.ensures.found fields r in
    let there = c.in-None.ensures.allowed.1 (allowed op c.fields_from.result i f) in
    absurd (cc)
