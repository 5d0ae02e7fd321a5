-- One word more is that of the machine, and its change is one more.
use Rattle.std.proofs.Common.{refl, arith}
use Rattle.std.proofs.lemmas.Grind.{common_steps}
use Rattle.std.specs.Prelude.{slice_set}
use Rattle.step_changes.proofs.Changed.{adds_nothing, adds_on}
use Rattle.step_changes.proofs.view.note_line.Goals as goal

pub returns-then-line-ge-LINES-clause-adds : goal.returns-then-line-ge-LINES-clause-adds
returns-then-line-ge-LINES-clause-adds g c =
    adds_nothing slice_set c.args.changes.now.items c.args.changes.now.items c.args.words.now c.args.words.now refl
    refl

pub loop-place-init : goal.loop-place-init
loop-place-init g c = record {
  there = λ w d low high. absurd (omega arith);
  others = λ w d same. same;
  adds =
      adds_nothing slice_set c.args.changes.now.items c.args.changes.now.items c.args.words.now c.args.words.now refl
      refl;
}

pub loop-place-preserved : goal.loop-place-preserved
loop-place-preserved g c = record {
  there = grind (arith, common_steps);
  others = grind (arith, common_steps);
  adds =
      adds_on slice_set c.args.changes.now.items c.loop-place.changes.items c.note_word.new.changes.items
      c.args.words.now c.loop-place.words c.note_word.new.table c.loop-place.invariant.adds
      c.in_ok-note_word.ensures.adds;
}
