use Rattle.std.proofs.Common.{◌∙◌, ap}
use Rattle.z_instr.specs.Layout.{form_length}
use Rattle.z_instr.specs.Table.{Entry}
use Rattle.z_regs.specs.Cpu.{cpu_of}
use Rattle.z_regs.specs.Prefix.{is_prefix}
use Rattle.z_regs.specs.Seen.{seen_by}
use Rattle.tx_footprint.specs.Places.{stores}
use Rattle.tx_serial.specs.Attempt.{at_rest}
use Rattle.tx_private.specs.Bytes.{function_of}
use Rattle.tx_private.proofs.Ended.{inside_by}
use Rattle.tx_flat.proofs.Near.{step_inside, step_lasting, near_step}
use Rattle.tx_flat.proofs.Stepping.{performed, performs}
use Rattle.tx_flat.proofs.outside.perform.Goals as goal

pub execute-completion-requires-clause-inside : goal.execute-completion-requires-clause-inside
execute-completion-requires-clause-inside c =
    let base = function_of c.args.storage.now in
    (inside_by base c.requires.passes.0 c.args.work.now (at_rest base (cpu_of c.args.slot.now.image))
    c.args.instr.now c.args.admitted.now.touches c.requires.shown c.args.slot.now.image.prefix_in
    c.requires.passes.1).1

pub keep_ranges-requires-clause-prefix_in : goal.keep_ranges-requires-clause-prefix_in
keep_ranges-requires-clause-prefix_in c = ap is_prefix c.requires.turned ∙ c.args.slot.now.image.prefix_in

pub keep_ranges-requires-clause-inside : goal.keep_ranges-requires-clause-inside
keep_ranges-requires-clause-inside c =
    step_inside c.requires.passes.0 c.args.storage.now (cpu_of c.args.slot.now.image) c.args.instr.now
    c.args.admitted.now.touches c.args.admitted.now.absolute c.args.slot.now.image.prefix_in c.requires.passes.1
    c.requires.places

pub keep_ranges-requires-clause-seen : goal.keep_ranges-requires-clause-seen
keep_ranges-requires-clause-seen c =
    near_step c.requires.passes.0 c.args.storage.now c.execute-completion.new.seen
    (cpu_of c.args.slot.now.image) (cpu_of c.execute-completion.new.image) c.args.work.now c.args.instr.now
    c.args.admitted.now.touches c.args.admitted.now.absolute c.execute-completion.result
    c.args.slot.now.image.prefix_in c.requires.turned c.requires.shown c.requires.passes.1 c.requires.places
    c.execute-completion.ensures.done

pub keep_ranges-requires-clause-lasting : goal.keep_ranges-requires-clause-lasting
keep_ranges-requires-clause-lasting c =
    step_lasting (stores c.args.admitted.now.absolute) c.args.storage.now (cpu_of c.args.slot.now.image)
    c.args.work.now c.args.slot.now.image.prefix_in c.requires.turned c.requires.shown

pub returns-clause-performed : goal.returns-clause-performed
returns-clause-performed c = λ f k text holds.
    let i = c.args.instr.now in
    let old = c.args.slot.now in
    let a = c.args.work.now in
    let base = function_of c.args.storage.now in
    let inside =
    (inside_by base c.requires.passes.0 a (at_rest base (cpu_of old.image)) i c.args.admitted.now.touches
    c.requires.shown old.image.prefix_in c.requires.passes.1).1 in
    performs i c.args.storage.now c.keep_ranges.new.storage old c.end.new.slot a.seen
    c.execute-completion.new.seen (cpu_of c.execute-completion.new.image) c.execute-completion.result
    (performed i c.args.storage.now c.keep_ranges.new.storage old c.end.new.slot a _ _ c.execute-completion.result
    c.length_in.result c.requires.size c.requires.shown inside c.execute-completion.ensures.done
    (c.keep_ranges.ensures.kept
    ∙ ap (λ p. seen_by p c.execute-completion.new.seen) c.requires.turned) (c.length_in.ensures ∙ ap (λ (e : Entry). form_length e.form) c.line.ensures.row)
    c.end.ensures)
    f k text holds
