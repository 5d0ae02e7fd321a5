-- Line by line every word is that of the machine.
use Rattle.std.proofs.Common.{◌≡◌, ◌/◌, ◌<◌, ◌∙◌, true, false, refl, sym, ap, arith, get_or, take, length}
use Rattle.std.proofs.lemmas.Bool.{or_cases, eqb-true}
use Rattle.std.proofs.lemmas.List.{take_all}
use Rattle.std.proofs.lemmas.List.Folds.{list_any_more}
use Rattle.std.specs.Prelude.{◌==◌, slice_set}
use borrow.Enum.Arm.{by_way}
use Rattle.step_changes.specs.Stored.{is_among}
use Rattle.step_changes.proofs.Changed.{adds_nothing, adds_on}
use Rattle.step_changes.proofs.Listed.{all_words}
use Rattle.step_changes.proofs.view.note_lines.Goals as goal

pub loop-line-init : goal.loop-line-init
loop-line-init g c = record {
  there = λ w d low is. absurd (let x : false ≡ true = is in cc);
  others = λ w d same. same;
  adds =
      adds_nothing slice_set c.args.changes.now.items c.args.changes.now.items c.args.words.now c.args.words.now refl
      refl;
}

pub loop-line-preserved : goal.loop-line-preserved
loop-line-preserved g c = record {
  there = λ w d low is.
      let lines = c.args.lines.now in
      let k = c.loop-line.line-index in
      let within : k < length lines = omega arith in
      let line = get_or lines k 0 in
      by_way (or_cases (is_among (take k lines) (w / 32)) (line == w / 32)
      (sym (list_any_more (λ l. l == w / 32) lines k 0 within) ∙ is))
      (λ before. c.in_ok-note_line.ensures.others w d (c.loop-line.invariant.there w d low before))
      (λ here. c.in_ok-note_line.ensures.there w d low (sym (eqb-true line (w / 32) here)));
  others = λ w d same. c.in_ok-note_line.ensures.others w d (c.loop-line.invariant.others w d same);
  adds =
      adds_on slice_set c.args.changes.now.items c.loop-line.changes.items c.note_line.new.changes.items
      c.args.words.now c.loop-line.words c.note_line.new.words c.loop-line.invariant.adds
      c.in_ok-note_line.ensures.adds;
}

pub returns-clause-value : goal.returns-clause-value
returns-clause-value g c =
    let lines = c.args.lines.now in
    all_words (g.S.Shows.shown c.args.machine.now).bytes c.loop-line.words (omega arith)
    (λ w d low. by_way (c.requires.others w d low)
    (λ among. c.loop-line.invariant.there w d low
    (ap (λ l. is_among l (w / 32)) (take_all c.loop-line.line-index lines (omega arith)) ∙ among))
    (λ same. c.loop-line.invariant.others w d same))
