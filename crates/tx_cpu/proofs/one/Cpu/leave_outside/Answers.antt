-- What an instruction outside transactions leaves and tells.
use Rattle.std.proofs.Common.{◌≡◌, ap, sym, subst, ◌∙◌}
use Rattle.std.specs.Prelude.{nat_lt, false}
use Rattle.z_instr.specs.Layout.{form_length}
use Rattle.z_instr.specs.Table.{Entry}
use Rattle.tx_attempt.specs.Performed.{IsLeftOutside}
use Rattle.tx_cpu.specs.Parts.{Parts}
use Rattle.tx_cpu.specs.contracts.one.Cpu.{the_view}
use Rattle.tx_cpu.proofs.Completing.{outside-is}
use Rattle.tx_progress.proofs.Parts.{not_live}
use Rattle.tx_cpu.proofs.one.Cpu.leave_outside.Goals as goal

pub returns : goal.returns
returns c x o need before after left waits =
    let p = the_view c.self.inside in
    let live : nat_lt 0 p.attempt.count ≡ false =
    ap (λ (q : Parts). nat_lt 0 q.attempt.count) c.self.view_is ∙ c.requires.rests in
    let length = c.length_in-length.ensures ∙ ap (λ (e : Entry). form_length e.form) c.line.ensures.row in
    let there : IsLeftOutside need x p.image before after c.args.ended o =
    subst (λ (q : Parts). IsLeftOutside need x q.image before after c.args.ended o) (sym c.self.view_is) left in
    rw (← c.self.view_is)
    (outside-is (record p { image = x }) c.args.instr.now need o c.args.ended p.image _ _ before after _ c.args.turns
    c.length_in-length.result live (c.is_sound.ensures.rests (not_live _ live)) there length c.end_outside.ensures
    c.wait_outside.ensures waits c.told.ensures)
