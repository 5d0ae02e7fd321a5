-- The byte is that of what is shown.
use Rattle.std.proofs.Common.{◌/◌, ◌%◌, ◌<◌, [], get_or, length, ap, ◌∙◌, arith}
use Rattle.tx_meaning.specs.Meaning.{meaning}
use Rattle.tx_meaning.specs.State.{flat_of}
use Rattle.std.specs.Prelude.{take}
use Rattle.tx_machine.specs.Machine.{setting_of}
use Rattle.step_changes.specs.Seen.{Sight}
use Rattle.tx_step.specs.Traces.{Traced, setting_in, state_at}
use Rattle.step_changes.proofs.Listed.{words_size, word_there, byte_in}
use Rattle.tx_step.proofs.trace.Trace.byte.Goals as goal

pub byte-requires-clause-size : goal.byte-requires-clause-size
byte-requires-clause-size c =
    let inside = c.self.inside in
    let s = meaning (setting_of inside.machine) (take inside.position inside.machine.events) in
    ap (λ (v : Sight). length v.words) c.self.invariant.shown
    ∙ words_size (flat_of (setting_of inside.machine) s).storage

pub returns : goal.returns
returns c =
    let inside = c.self.inside in
    let s = meaning (setting_of inside.machine) (take inside.position inside.machine.events) in
    let storage = (flat_of (setting_of inside.machine) s).storage in
    let a = c.args.address in
    let known = c.requires in
    let low : a / 8 < 131072 = omega arith in
    c.byte.ensures []
    ∙ ap (λ (v : Sight). get_or (get_or v.words (a / 8) []) (a % 8) 0) c.self.invariant.shown
    ∙ ap (λ word. get_or word (a % 8) 0) (word_there storage (a / 8) [] low)
    ∙ byte_in storage a 0
    ∙ ap (λ (t : Traced). (flat_of (setting_in t) (state_at t)).storage a) c.self.view_is
