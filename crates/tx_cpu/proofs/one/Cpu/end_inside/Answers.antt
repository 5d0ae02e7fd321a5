-- What an instruction inside a transaction leaves and tells.
use Rattle.std.proofs.Common.{◌≡◌, true, ap, sym, subst, ◌∙◌, take}
use Rattle.std.specs.Prelude.{nat_lt}
use Rattle.z_instr.specs.Layout.{form_length}
use Rattle.z_instr.specs.Table.{Entry}
use Rattle.z_effect.specs.After.{exception}
use Rattle.tx_control.specs.Codes.{fixed_point_overflow_code, fixed_point_divide_code}
use Rattle.tx_serial.specs.Fate.{cause_in}
use Rattle.tx_attempt.specs.declared.performing.Ended.{Ended}
use Rattle.tx_attempt.specs.Performed.{StoresFirst, IsKeptApart, first_size, outcome_from}
use Rattle.tx_attempt.proofs.Stored.{operands-first}
use Rattle.tx_cpu.specs.Parts.{Parts}
use Rattle.tx_cpu.specs.contracts.one.Cpu.{the_view}
use Rattle.tx_cpu.proofs.Inside.{stepped-is, exceeded-is, suppressed-is, aborting-is, next-known}
use Rattle.tx_cpu.proofs.one.Cpu.end_inside.Goals as goal

pub returns-in-Completed : goal.returns-in-Completed
returns-in-Completed c x o bytes prefix apart =
    let p = the_view c.self.inside in
    let i = c.args.instr.now in
    let need = c.args.need.now in
    let goes = c.requires.goes_on in
    let live : nat_lt 0 p.attempt.count ≡ true =
    ap (λ (q : Parts). nat_lt 0 q.attempt.count) c.self.view_is ∙ c.requires.live in
    let first : StoresFirst need = subst StoresFirst (sym goes.operands_are) (operands-first goes.instr goes.cpu) in
    let here = subst (λ (q : Parts). IsKeptApart o (first_size c.args.need.now) x q.image c.args.stored.now c.args.ended)
    (sym c.self.view_is) apart in
    rw (← c.self.view_is)
    (stepped-is (record p { image = x }) i need o p.image c.args.stored.now c.advance_plainly.new.self bytes live
    c.advance_plainly.ensures.live (c.is_sound.ensures.opens c.advance_plainly.ensures.live) first
    (ap (λ (e : Ended). outcome_from e p.image (take (first_size need) c.args.stored.now)) (sym c.in-Completed.is)
    ∙ here.value)
    (next-known (record p { image = x }) i need c.args.stored.now c.advance_plainly.new.self c.args.prefix (sym prefix)
    (λ y. c.advance_plainly.ensures.value i x y c.requires.plain prefix)))

pub returns-in-Exceeded : goal.returns-in-Exceeded
returns-in-Exceeded c x o bytes prefix apart =
    let p = the_view c.self.inside in
    let i = c.args.instr.now in
    let need = c.args.need.now in
    let goes = c.requires.goes_on in
    let live : nat_lt 0 p.attempt.count ≡ true =
    ap (λ (q : Parts). nat_lt 0 q.attempt.count) c.self.view_is ∙ c.requires.live in
    let first : StoresFirst need = subst StoresFirst (sym goes.operands_are) (operands-first goes.instr goes.cpu) in
    let length = c.length_in.ensures ∙ ap (λ (e : Entry). form_length e.form) c.line.ensures.row in
    let raised = c.exception-overflow.ensures ∙ ap (exception fixed_point_overflow_code) length in
    let here = subst (λ (q : Parts). IsKeptApart o (first_size c.args.need.now) x q.image c.args.stored.now c.args.ended)
    (sym c.self.view_is) apart in
    rw (← c.self.view_is)
    (exceeded-is (record p { image = x }) i need o p.image c.args.stored.now c.advance_plainly-in-Exceeded.new.self
    bytes c.cause_in.result live c.advance_plainly-in-Exceeded.ensures.live first
    (ap (λ (e : Ended). outcome_from e p.image (take (first_size need) c.args.stored.now)) (sym c.in-Exceeded.is)
    ∙ here.value)
    (next-known (record p { image = x }) i need c.args.stored.now c.advance_plainly-in-Exceeded.new.self c.args.prefix
    (sym prefix) (λ y. c.advance_plainly-in-Exceeded.ensures.value i x y c.requires.plain prefix))
    (c.cause_in.ensures ∙ (λ j. cause_in (c.nest.ensures j) (raised j))))

pub returns-in-Suppressed : goal.returns-in-Suppressed
returns-in-Suppressed c x o bytes prefix apart =
    let p = the_view c.self.inside in
    let live : nat_lt 0 p.attempt.count ≡ true =
    ap (λ (q : Parts). nat_lt 0 q.attempt.count) c.self.view_is ∙ c.requires.live in
    let length =
    c.length_in-in-Suppressed.ensures
    ∙ ap (λ (e : Entry). form_length e.form) c.line-in-Suppressed.ensures.row in
    let raised = c.exception-divide.ensures ∙ ap (exception fixed_point_divide_code) length in
    let here = subst (λ (q : Parts). IsKeptApart o (first_size c.args.need.now) x q.image c.args.stored.now c.args.ended)
    (sym c.self.view_is) apart in
    rw (← c.self.view_is)
    (suppressed-is (record p { image = x }) c.args.instr.now c.args.need.now o p.image p.image
    (take (first_size c.args.need.now) c.args.stored.now) bytes c.cause_in-in-Suppressed.result live
    (ap (λ (e : Ended). outcome_from e p.image (take (first_size c.args.need.now) c.args.stored.now))
    (sym c.in-Suppressed.is) ∙ here.value) here.image
    (c.cause_in-in-Suppressed.ensures ∙ (λ j. cause_in (c.nest-in-Suppressed.ensures j) (raised j))))

pub returns-in-Aborting : goal.returns-in-Aborting
returns-in-Aborting c x o bytes prefix apart =
    let p = the_view c.self.inside in
    let live : nat_lt 0 p.attempt.count ≡ true =
    ap (λ (q : Parts). nat_lt 0 q.attempt.count) c.self.view_is ∙ c.requires.live in
    let here = subst (λ (q : Parts). IsKeptApart o (first_size c.args.need.now) x q.image c.args.stored.now c.args.ended)
    (sym c.self.view_is) apart in
    rw (← c.self.view_is)
    (aborting-is (record p { image = x }) c.args.instr.now c.args.need.now o p.image p.image
    (take (first_size c.args.need.now) c.args.stored.now) bytes _ live
    (ap (λ (e : Ended). outcome_from e p.image (take (first_size c.args.need.now) c.args.stored.now))
    (sym c.in-Aborting.is) ∙ here.value) here.image)
