-- Two blocks of bytes go as they are seen to; any other instruction by its plan.
use Rattle.std.proofs.Common.{◌≡◌, List, sym, ap, subst, ◌∙◌}
use Rattle.z_regs.specs.declared.ranges.Range.{Range}
use Rattle.tx_serial.specs.Fate.{Goes}
use Rattle.tx_progress.specs.Trial.{fate_by_progress}
use Rattle.tx_meaning.specs.Limits.{Setting}
use Rattle.tx_keeping.specs.Kept.{text_of}
use Rattle.tx_keeping.specs.Turn.{k_attempting}
use Rattle.tx_works.specs.Ready.{image_storage}
use Rattle.tx_works.specs.Works.{kept_by}
use Rattle.tx_works.proofs.Lined.{no_limits}
use Rattle.tx_works.proofs.works.Works.attempt.Goals as goal

pub go-requires-clause-prepared : goal.go-requires-clause-prepared
go-requires-clause-prepared c rest =
    let m : Setting = record { image = c.args.program.now; limits = no_limits } in
    let q = ((kept_by rest c.args.self.now).locals c.args.cpu).attempt in
    record {
      text = text_of m;
      storage = image_storage m;
      goes = subst (λ (need : List Range). fate_by_progress (text_of m) (image_storage m) q
          ≡ Goes c.in-Some.pair.instr.now need) (sym c.add_ranges.ensures) (c.in-Some.ensures rest no_limits);
    }

pub go-requires-clause-reach : goal.go-requires-clause-reach
go-requires-clause-reach c rest =
    (c.requires.turns rest no_limits).reach c.in-Some.pair.instr.now c.add_ranges.new.need
    (sym (c.requires.turns rest no_limits).text ∙ c.in-Some.ensures rest no_limits
    ∙ ap (Goes c.in-Some.pair.instr.now) (sym c.add_ranges.ensures))

pub go-requires-clause-holds : goal.go-requires-clause-holds
go-requires-clause-holds c rest =
    (c.requires.turns rest no_limits).goes c.in-Some.pair.instr.now c.add_ranges.new.need
    (sym (c.requires.turns rest no_limits).text ∙ c.in-Some.ensures rest no_limits
    ∙ ap (Goes c.in-Some.pair.instr.now) (sym c.add_ranges.ensures))

pub go-requires-clause-rested : goal.go-requires-clause-rested
go-requires-clause-rested c rest = (c.requires.turns rest no_limits).rested

pub returns-in-Some-clause-value : goal.returns-in-Some-clause-value
returns-in-Some-clause-value c rest limits =
    let m : Setting = record { image = c.args.program.now; limits = limits } in
    let k = kept_by rest c.args.self.now in
    c.go.ensures.value rest m c.requires.cpus
    ∙ ap (k_attempting m c.args.cpu k)
    (ap (Goes c.in-Some.pair.instr.now) c.add_ranges.ensures ∙ sym (c.in-Some.ensures rest limits)
    ∙ (c.requires.turns rest limits).text)
