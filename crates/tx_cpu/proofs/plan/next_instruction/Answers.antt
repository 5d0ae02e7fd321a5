-- The bytes of the instruction are those that the attempt sees.
use Rattle.std.proofs.Common.{◌≡◌, ℕ, List, take, ap, ◌∙◌, get_or}
use Rattle.z_regs.specs.Cpu.{cpu_of}
use Rattle.z_regs.specs.Prefix.{absolute_of}
use Rattle.z_instr.specs.Layout.{length_by}
use Rattle.z_instr.specs.Computing.{reading_of}
use Rattle.tx_serial.specs.Flat.{Storage, bytes_seen}
use Rattle.tx_serial.specs.Fate.{length_at}
use Rattle.tx_progress.specs.Progress.{seen_through}
use Rattle.tx_progress.specs.Trial.{at_hand}
use Rattle.tx_attempt.specs.Tracked.{progress}
use Rattle.tx_attempt.specs.Storages.{storage_of}
use Rattle.tx_cpu.proofs.Tests.{bytes_seen-taken}
use Rattle.tx_cpu.proofs.plan.next_instruction.Goals as goal

pub returns-clause-length : goal.returns-clause-length
returns-clause-length c =
    let i = c.args.image.now in
    let overlay = (progress c.args.attempt.now (cpu_of i)).overlay in
    c.length_of-length.ensures ∙ ap (λ (bs : List ℕ). length_by (get_or bs 0 0)) c.text_bytes-bytes.ensures
    ∙ ap (λ (bs : List ℕ). length_by (seen_through overlay (storage_of bs) (absolute_of i.prefix i.address)))
    c.bytes.ensures.value

pub returns-clause-reading : goal.returns-clause-reading
returns-clause-reading c =
    let i = c.args.image.now in
    let storage : Storage = storage_of c.args.program.now.storage in
    let q = progress c.args.attempt.now (cpu_of i) in
    let seen : Storage = seen_through q.overlay storage in
    let bytes = c.text_bytes-bytes.ensures
    ∙ ap (λ (bs : List ℕ). bytes_seen i.prefix (seen_through q.overlay (storage_of bs)) i.address 6)
    c.bytes.ensures.value in
    let count : c.length_of-length.result ≡ length_at (at_hand storage q) = c.length_of-length.ensures
    ∙ ap (λ (bs : List ℕ). length_by (get_or bs 0 0)) bytes in
    c.read.ensures
    ∙ ap reading_of (ap (take c.length_of-length.result) bytes
    ∙ ap (λ n. take n (bytes_seen i.prefix seen i.address 6)) count
    ∙ bytes_seen-taken i.prefix seen i.address (seen (absolute_of i.prefix i.address)))
