-- Each case may be executed, and what it leaves and tells is what the instruction does.
use Rattle.std.proofs.Common.{◌≡◌, true, false, sym, ap, subst, ◌∙◌}
use Rattle.std.specs.Prelude.{nat_lt}
use Rattle.tx_progress.proofs.Moving.{executed_is}
use Rattle.tx_progress.specs.Progress.{Progress}
use Rattle.tx_cpu.specs.Parts.{Parts, beside}
use Rattle.tx_attempt.specs.Tracked.{IsSound}
use Rattle.tx_cpu.proofs.Preparing.{may-go}
use Rattle.tx_progress.proofs.Parts.{not_live}
use Rattle.tx_cpu.proofs.one.Cpu.execute.Goals as goal

pub execute_begin-requires-clause-need : goal.execute_begin-requires-clause-need
execute_begin-requires-clause-need g c =
    (may-go c.args.self.now.attempt c.args.self.now.image c.args.instr.now c.args.need.now
    (subst (λ (p : Parts). IsSound p.attempt) c.self.view_is c.is_sound.ensures.sound)
    c.requires.prepared).operands_are

pub execute_begin-requires-clause-accessible : goal.execute_begin-requires-clause-accessible
execute_begin-requires-clause-accessible g c =
    (may-go c.args.self.now.attempt c.args.self.now.image c.args.instr.now c.args.need.now
    (subst (λ (p : Parts). IsSound p.attempt) c.self.view_is c.is_sound.ensures.sound)
    c.requires.prepared).accessible

pub execute_begin-requires-clause-place : goal.execute_begin-requires-clause-place
execute_begin-requires-clause-place g c =
    (may-go c.args.self.now.attempt c.args.self.now.image c.args.instr.now c.args.need.now
    (subst (λ (p : Parts). IsSound p.attempt) c.self.view_is c.is_sound.ensures.sound)
    c.requires.prepared).place

pub execute_begin-requires-clause-block : goal.execute_begin-requires-clause-block
execute_begin-requires-clause-block g c a named =
    let quiet : nat_lt 0 c.self.inside.attempt.count ≡ false = sym c.is_live.ensures ∙ c.if-is_live.false in
    let rests = c.is_sound.ensures.rests (not_live _ quiet) c.args.self.now.image in
    (may-go c.args.self.now.attempt c.args.self.now.image c.args.instr.now c.args.need.now
    (subst (λ (p : Parts). IsSound p.attempt) c.self.view_is c.is_sound.ensures.sound)
    c.requires.prepared).block
    (sym (ap (λ (p : Parts). p.attempt.nest) c.self.view_is) ∙ ap (λ (q : Progress). q.nest) rests) a named

pub returns-then-begins-clause-value : goal.returns-then-begins-clause-value
returns-then-begins-clause-value g c =
    let quiet : nat_lt 0 c.args.self.now.attempt.count ≡ false =
    sym (ap (λ (p : Parts). nat_lt 0 p.attempt.count) c.self.view_is) ∙ sym c.is_live.ensures
    ∙ c.if-is_live.false in
    c.execute_begin.ensures.value
    ∙ sym (executed_is c.args.instr.now c.args.need.now
    (beside c.args.self.now (g.V.Bytes.bytes c.args.base.now)) false true quiet
    (sym c.begins.ensures ∙ c.if-begins.true))

pub execute_outside-requires-clause-need : goal.execute_outside-requires-clause-need
execute_outside-requires-clause-need g c =
    (may-go c.args.self.now.attempt c.args.self.now.image c.args.instr.now c.args.need.now
    (subst (λ (p : Parts). IsSound p.attempt) c.self.view_is c.is_sound.ensures.sound)
    c.requires.prepared).operands_are

pub execute_outside-requires-clause-accessible : goal.execute_outside-requires-clause-accessible
execute_outside-requires-clause-accessible g c =
    (may-go c.args.self.now.attempt c.args.self.now.image c.args.instr.now c.args.need.now
    (subst (λ (p : Parts). IsSound p.attempt) c.self.view_is c.is_sound.ensures.sound)
    c.requires.prepared).accessible

pub returns-clause-value : goal.returns-clause-value
returns-clause-value g c =
    let quiet : nat_lt 0 c.args.self.now.attempt.count ≡ false =
    sym (ap (λ (p : Parts). nat_lt 0 p.attempt.count) c.self.view_is) ∙ sym c.is_live.ensures
    ∙ c.if-is_live.false in
    c.execute_outside.ensures.value
    ∙ sym (executed_is c.args.instr.now c.args.need.now
    (beside c.args.self.now (g.V.Bytes.bytes c.args.base.now)) false false quiet
    (sym c.begins.ensures ∙ c.if-begins.false))
