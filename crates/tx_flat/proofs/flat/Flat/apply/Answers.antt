use Rattle.std.proofs.Common.{◌≡◌, ◌<◌, ◌≤◌, arith, length, set, subst, refl, None}
use Rattle.tx_serial.specs.Apply.{apply}
use Rattle.tx_flat.specs.Machine.{state_of, parts_of, Applies}
use Rattle.tx_flat.proofs.Machines.{absent, placed_there, done_there, sound_there}
use Rattle.tx_flat.proofs.flat.Flat.apply.Goals as goal

pub returns-then-cpu-len-clause-applied : goal.returns-then-cpu-len-clause-applied
returns-then-cpu-len-clause-applied c =
    let old = c.self.inside in
    let past : length old.slots.items ≤ c.cpu_of_entry-cpu.result = omega (
      arith,
      c.len.ensures,
      c.if-cpu-len.true,
    ) in (
      subst (λ m. apply (state_of m) c.args.entry ≡ None) c.self.view_is
          (absent old.storage old.guard old.slots.items c.args.entry c.cpu_of_entry-cpu.result
          c.cpu_of_entry-cpu.ensures past),
      refl,
    )

pub apply_to-requires-clause-size : goal.apply_to-requires-clause-size
apply_to-requires-clause-size c = c.is_whole.ensures

pub apply_to-requires-clause-placed : goal.apply_to-requires-clause-placed
apply_to-requires-clause-placed c =
    let old = c.self.inside in
    let inside : c.cpu_of_entry-cpu.result < length old.slots.items = omega (
      arith,
      c.len.ensures,
      c.if-cpu-len.false,
    ) in
    placed_there old.storage old.guard old.slots.items c.cpu_of_entry-cpu.result c.index_mut-slot.result.now inside
    c.index_mut-slot.ensures.value c.self.invariant.0

pub returns-clause-applied : goal.returns-clause-applied
returns-clause-applied c =
    let old = c.self.inside in
    let inside : c.cpu_of_entry-cpu.result < length old.slots.items = omega (
      arith,
      c.len.ensures,
      c.if-cpu-len.false,
    ) in
    let t = c.apply_to.new.storage in
    subst
    (λ m. Applies c.args.entry m
    (parts_of t old.guard (set old.slots.items c.cpu_of_entry-cpu.result c.apply_to.new.slot)) c.apply_to.result)
    c.self.view_is
    (done_there old.storage t old.guard old.slots.items c.cpu_of_entry-cpu.result c.index_mut-slot.result.now
    c.apply_to.new.slot c.args.entry c.apply_to.result inside c.index_mut-slot.ensures.value
    c.cpu_of_entry-cpu.ensures c.apply_to.ensures.applied)

pub invariant_of-self : goal.invariant_of-self
invariant_of-self c =
    let old = c.self.inside in
    let inside : c.cpu_of_entry-cpu.result < length old.slots.items = omega (
      arith,
      c.len.ensures,
      c.if-cpu-len.false,
    ) in (
      sound_there old.storage c.apply_to.new.storage old.guard old.slots.items c.cpu_of_entry-cpu.result
          c.index_mut-slot.result.now c.apply_to.new.slot c.args.entry c.apply_to.result inside
          c.index_mut-slot.ensures.value c.cpu_of_entry-cpu.ensures c.apply_to.ensures.applied c.self.invariant.0,
      c.apply_to.ensures.ready,
    )

pub apply_to-requires-clause-ready : goal.apply_to-requires-clause-ready
apply_to-requires-clause-ready c = c.self.invariant.1
