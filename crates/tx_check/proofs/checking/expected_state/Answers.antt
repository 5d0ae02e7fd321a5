use Rattle.std.proofs.Common.{◌∙◌, ◌++◌, ap, length, drop}
use Rattle.tx_serial.specs.Flat.{bytes_of}
use Rattle.tx_flat.specs.Machine.{state_of}
use Rattle.tx_flat.proofs.Laid.{length-bytes}
use Rattle.report_form.specs.Text.{lines_of}
use Rattle.tx_check.specs.Sound.{joined}
use Rattle.tx_check.proofs.CpuLines.{written_as}
use Rattle.tx_check.proofs.Due.{due_text}
use Rattle.tx_check.proofs.checking.expected_state.Goals as goal

pub seen_cpus-requires-clause-ends : goal.seen_cpus-requires-clause-ends
seen_cpus-requires-clause-ends c = (c.requires.replayed.entries, c.requires.replayed.ended)

pub written-requires : goal.written-requires
written-requires c =
    ap length c.storage-storage.ensures ∙ length-bytes (state_of c.args.replayed.now.flat).storage

pub returns : goal.returns
returns c =
    let f = state_of c.args.replayed.now.flat in
    let r = c.requires.replayed in
    let cpus = c.in_ok-cpus.cpus.items in
    let lines = lines_of c.args.report.now in
    let behind = joined (drop c.args.sheet.count.line lines) in
    due_text c.args.image.now lines c.args.sheet r.entries f cpus _ c.requires.sheet r.replay
    c.in_ok-cpus.ensures.count (c.in_ok-cpus.ensures.told r.entries r.ended) c.in_ok-cpus.ensures.taken
    c.requires.places.history.line
    (ap (λ t. t ++ behind)
    (written_as c.in_ok-text.text.items _ cpus c.args.image.now.shows _ (bytes_of f.storage) c.in_ok-text.ensures
    c.as_slice.ensures.value c.storage-storage.ensures))
