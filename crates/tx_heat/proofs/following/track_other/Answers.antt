-- The attempt is over, or has completed as much.
use Rattle.std.proofs.Common.{◌≡◌, ◌≢◌, ℕ, true, sym, ap, ◌∙◌, arith}
use Rattle.std.specs.Prelude.{nat_lt}
use Rattle.std.proofs.lemmas.Bool.{lt-ltb}
use Rattle.tx_schedule.specs.Machine.{setting_of, state_of}
use Rattle.tx_heat.proofs.Passing.{unused_track, beside_track}
use Rattle.tx_heat.proofs.following.track_other.Goals as goal

positive : (n : ℕ) → n ≢ 0 → nat_lt 0 n ≡ true
positive n ne = lt-ltb 0 n (omega arith)

pub returns-then-completed-eq0 : goal.returns-then-completed-eq0
returns-then-completed-eq0 c = λ s asker asked ne passes track.
    unused_track (setting_of c.args.machine.now) (state_of c.args.machine.now) c.args.cpu c.clear.new.self
    c.clear.ensures (ap (nat_lt 0) (sym c.completed.ensures ∙ c.if-completed-eq0.true))

pub returns-else-completed-eq0 : goal.returns-else-completed-eq0
returns-else-completed-eq0 c = λ s asker asked ne passes track.
    beside_track (setting_of c.args.machine.now) s (state_of c.args.machine.now) asker c.args.cpu asked passes
    c.args.track.now track
    (passes.others ne (ap (nat_lt 0) (sym c.completed.ensures)
    ∙ positive c.completed.result c.if-completed-eq0.false))
