-- What the outermost begin leaves and tells.
use Rattle.std.proofs.Common.{◌≡◌, List, ap, ◌∙◌, arith, get_or}
use Rattle.z_regs.specs.declared.ranges.Range.{Range}
use Rattle.tx_attempt.specs.Performed.{no_range}
use Rattle.std.specs.Prelude.{nat_lt, false, true, ◌||◌}
use Rattle.std.proofs.lemmas.Bool.{or_left}
use Rattle.z_instr.specs.Roles.{begins, is_end}
use Rattle.z_instr.specs.Table.{entry_at}
use Rattle.tx_progress.proofs.Rows.{role_done}
use Rattle.tx_progress.specs.Trial.{outcome_by}
use Rattle.tx_serial.proofs.FreeOperands.{begin_bare}
use Rattle.tx_attempt.specs.Tracked.{progress}
use Rattle.tx_cpu.specs.Parts.{Parts, local_of}
use Rattle.tx_attempt.specs.Storages.{storage_of}
use Rattle.tx_cpu.specs.contracts.one.Cpu.{the_view}
use Rattle.tx_cpu.proofs.Beginnings.{began-is}
use Rattle.tx_progress.proofs.Parts.{not_live}
use Rattle.tx_cpu.proofs.one.Cpu.execute_begin.Goals as goal

pub perform-requires-clause-room : goal.perform-requires-clause-room
perform-requires-clause-room g c =
    let none = c.requires.need
    ∙ begin_bare c.args.instr.now (local_of c.args.self.now).attempt.cpu c.requires.begins in
    let size : (get_or c.args.need.now 0 no_range).length ≡ 0 =
    ap (λ (rs : List Range). (get_or rs 0 no_range).length) none in
    omega (arith, size)

pub returns-clause-value : goal.returns-clause-value
returns-clause-value g c =
    let p = the_view c.self.inside in
    let i = c.args.instr.now in
    let need = c.args.need.now in
    let live : nat_lt 0 c.self.inside.attempt.count ≡ false =
    ap (λ (q : Parts). nat_lt 0 q.attempt.count) c.self.view_is ∙ c.requires.rests in
    let role : (begins (entry_at i.op.number) || is_end (entry_at i.op.number)) ≡ true =
    or_left (begins (entry_at i.op.number)) (is_end (entry_at i.op.number)) c.requires.begins in
    rw (← c.self.view_is, c.perform.ensures.same)
    (began-is p i need
    (outcome_by (storage_of (g.V.Bytes.bytes c.args.base.now)) i need (progress p.attempt p.image)) _ _ _
    (role_done i p.image _ _ role) live (c.is_sound.ensures.rests (not_live _ live))
    (c.requires.need ∙ begin_bare i (local_of c.args.self.now).attempt.cpu c.requires.begins)
    c.perform.ensures.image c.begin.ensures.value c.begin.ensures.count)
