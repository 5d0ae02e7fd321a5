-- A part that is there is not put; the change that is noted is one more.
use Rattle.std.proofs.Common.{refl, sym}
use Rattle.step_changes.specs.declared.changes.Change.{Change}
use Rattle.step_changes.specs.declared.parts.Part.{Part}
use Rattle.step_changes.proofs.Parted.{stays_at, puts_at}
use Rattle.step_changes.proofs.cpus.note_part.Goals as goal

pub returns-then-has-clause-value : goal.returns-then-has-clause-value
returns-then-has-clause-value c = sym (c.has.ensures c.if-has.true)

pub returns-then-has-clause-adds : goal.returns-then-has-clause-adds
returns-then-has-clause-adds c =
    stays_at c.args.at c.args.changes.now.items c.args.changes.now.items c.args.sight.now c.args.sight.now refl refl

pub returns-clause-adds : goal.returns-clause-adds
returns-clause-adds c =
    let change : Change Part = record { at = c.args.at; old = c.part_before-old.result; new = c.args.new } in
    puts_at c.args.at c.args.changes.now.items c.push.new.self.items change c.args.sight.now c.put.new.self refl
    c.in_ok-push.ensures.items c.put.ensures c.part_before-old.ensures
