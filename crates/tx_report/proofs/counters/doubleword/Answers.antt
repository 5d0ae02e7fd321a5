-- A byte more is read, and all eight are the number.
use Rattle.std.proofs.Common.{◌∙◌, ◌<◌, ◌≢◌, length, arith, get_or-set_other, get_or-set_same, below_more}
use Rattle.std.proofs.lemmas.List.{length-set}
use Rattle.z_regs.specs.Prefix.{storage_size}
use Rattle.tx_meaning.specs.State.{flat_of}
use Rattle.tx_machine.specs.Machine.{setting_of, state_of}
use Rattle.tx_report.proofs.Numbers.{number_read}
use Rattle.tx_report.proofs.counters.doubleword.Goals as goal

pub loop-i-preserved : goal.loop-i-preserved
loop-i-preserved c = record {
  size = length-set c.loop-i.bytes c.loop-i.i c.byte.result ∙ c.loop-i.invariant.size;
  read = below_more _ _
      (λ k h. let ne : k ≢ c.loop-i.i = omega arith in rw get_or-set_other (c.loop-i.invariant.read k h))
      (let within : c.loop-i.i < length c.loop-i.bytes = omega arith in rw get_or-set_same c.byte.ensures);
}

pub returns : goal.returns
returns c =
    let machine = c.args.machine.now in
    c.read_u64.ensures
    ∙ number_read storage_size 8 c.args.address (flat_of (setting_of machine) (state_of machine)).storage
    c.loop-i.bytes c.requires (λ k h. c.loop-i.invariant.read k (omega arith))
