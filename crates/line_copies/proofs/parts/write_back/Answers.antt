use Rattle.std.proofs.Common.{◌≡◌, ◌+◌, ◌*◌, ◌≤◌, Some, length, sym, ap, subst, ◌∙◌, arith}
use Rattle.std.proofs.lemmas.Option.{same_Some}
use Rattle.z_regs.proofs.Writes.{length-written}
use Rattle.line_table.specs.Holders.{mode_in}
use Rattle.l1_data.specs.Sizes.{line_size}
use Rattle.l1_data.specs.Copies.{Copies}
use Rattle.line_copies.specs.Coherence.{line_in, IsCoherent}
use Rattle.line_copies.specs.Seen.{copied, seen_bytes}
use Rattle.line_copies.proofs.Change.{written_back_seen, written_back_coherent, line_whole}
use Rattle.line_copies.proofs.Shown.{copied_at}
use Rattle.line_copies.proofs.parts.write_back.Goals as goal

-- the copy is that of the CPU
pub returns-in-Some-Exclusive-clause-kept : goal.returns-in-Some-Exclusive-clause-kept
returns-in-Some-Exclusive-clause-kept c =
    let storage = c.args.storage.now in
    let copy = c.copy_of-copy.result.now in
    let has : copied c.args.copies.now c.args.cpu c.args.line ≡ Some copy =
    ap (λ (k : Copies). k c.args.line) (sym (copied_at c.args.copies.now c.args.cpu c.index-copies-cpu.result
    (omega (arith, c.requires.cpu, c.requires.kept.each)) c.index-copies-cpu.is)) ∙
    c.copy_of-copy.ensures.copy in
    let is = sym c.in-Some-Exclusive.ensures.value ∙ ap Some c.in-Some-Exclusive.field-0-is in
    let within : c.args.line * line_size + line_size ≤ length storage =
    omega (arith, c.requires.line, c.requires.kept.size) in
    let stored = c.lay.ensures in
    record {
      size = ap length stored ∙ length-written storage (c.args.line * line_size) copy
          (omega (arith, within, c.copy_of-copy.ensures.size)) ∙ c.requires.kept.size;
      each = c.requires.kept.each;
      coherent = subst (IsCoherent c.args.table.now.cpus (mode_in c.args.table.now) (copied
          c.args.copies.now))
          (sym stored)
          (written_back_coherent c.args.table.now.cpus (mode_in c.args.table.now) (copied c.args.copies.now)
          storage
          c.args.cpu c.args.line copy c.requires.kept.coherent c.requires.cpu is has
          c.copy_of-copy.ensures.size within);
    }

pub returns-in-Some-Exclusive-clause-bytes : goal.returns-in-Some-Exclusive-clause-bytes
returns-in-Some-Exclusive-clause-bytes c =
    let storage = c.args.storage.now in
    let copy = c.copy_of-copy.result.now in
    let has : copied c.args.copies.now c.args.cpu c.args.line ≡ Some copy =
    ap (λ (k : Copies). k c.args.line) (sym (copied_at c.args.copies.now c.args.cpu c.index-copies-cpu.result
    (omega (arith, c.requires.cpu, c.requires.kept.each)) c.index-copies-cpu.is)) ∙
    c.copy_of-copy.ensures.copy in
    let is = sym c.in-Some-Exclusive.ensures.value ∙ ap Some c.in-Some-Exclusive.field-0-is in
    ap (λ s. seen_bytes s c.args.table.now c.args.copies.now) c.lay.ensures
    ∙ written_back_seen c.args.table.now.cpus (mode_in c.args.table.now) (copied c.args.copies.now) storage
    c.args.cpu c.args.line copy c.requires.kept.coherent c.requires.cpu is has c.copy_of-copy.ensures.size
    (omega (arith, c.requires.line, c.requires.kept.size))

pub returns-in-Some-Exclusive-clause-clean : goal.returns-in-Some-Exclusive-clause-clean
returns-in-Some-Exclusive-clause-clean c =
    λ b holds.
    let storage = c.args.storage.now in
    let copy = c.copy_of-copy.result.now in
    let has : copied c.args.copies.now c.args.cpu c.args.line ≡ Some copy =
    ap (λ (k : Copies). k c.args.line) (sym (copied_at c.args.copies.now c.args.cpu c.index-copies-cpu.result
    (omega (arith, c.requires.cpu, c.requires.kept.each)) c.index-copies-cpu.is)) ∙
    c.copy_of-copy.ensures.copy in
    same_Some b copy (sym holds ∙ has)
    ∙ sym (ap (λ s. line_in s c.args.line) c.lay.ensures
    ∙ line_whole storage copy c.args.line (omega (arith, c.requires.line, c.requires.kept.size))
    c.copy_of-copy.ensures.size)
