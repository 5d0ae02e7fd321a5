-- One register more is that of the image, and at the end all are.
use Rattle.std.proofs.Common.{◌≡◌, length, get_or, refl, sym, ap, ◌∙◌, arith}
use Rattle.std.specs.Prelude.{slice_set}
use Rattle.std.proofs.lemmas.List.{ext_get_or, length-set}
use Rattle.step_changes.specs.Parts.{with_access}
use Rattle.step_changes.specs.Seen.{CpuSeen}
use Rattle.step_changes.proofs.Parted.{stays_at, goes_on_at, register_more}
use Rattle.step_changes.proofs.cpus.note_access.Goals as goal

pub returns-then-eq-clause-adds : goal.returns-then-eq-clause-adds
returns-then-eq-clause-adds c =
    stays_at c.args.at c.args.changes.now.items c.args.changes.now.items c.args.sight.now c.args.sight.now refl refl

pub loop-number-init : goal.loop-number-init
loop-number-init c = record {
  size = c.image.ensures.registers.1;
  same = refl;
  put = λ i low. absurd (omega arith);
  adds =
      stays_at c.args.at c.args.changes.now.items c.args.changes.now.items c.args.sight.now c.args.sight.now refl
      refl;
}

pub loop-number-preserved : goal.loop-number-preserved
loop-number-preserved c =
    let first = c.args.sight.now in
    let sight = c.loop-number.sight in
    let next = c.note_part.new.sight in
    let n = c.loop-number.number in
    let registers = c.args.image.now.access in
    let kept = c.loop-number.invariant in
    let put = slice_set sight.cpu.access n (get_or registers n 0) in
    let made : next ≡ with_access sight put = c.in_ok-note_part.ensures.value in
    let are : next.cpu.access ≡ put = ap (λ (x : CpuSeen). x.cpu.access) made in
    let size : length sight.cpu.access ≡ 16 = kept.size in
    record {
      size = ap length are ∙ length-set sight.cpu.access n (get_or registers n 0) ∙ size;
      same =
          made ∙ ap (λ (x : CpuSeen). with_access x put) kept.same ∙ ap (with_access first) (sym are);
      put =
          λ i low. ap (λ l. get_or l i 0) are
          ∙ register_more sight.cpu.access registers n (omega (arith, size)) kept.put i low;
      adds =
          goes_on_at c.args.at c.args.changes.now.items c.loop-number.changes.items c.note_part.new.changes.items
          first sight next kept.adds c.in_ok-note_part.ensures.adds;
    }

pub returns-clause-value : goal.returns-clause-value
returns-clause-value c =
    let sight = c.loop-number.sight in
    let registers = c.args.image.now.access in
    let kept = c.loop-number.invariant in
    let size : length sight.cpu.access ≡ 16 = kept.size in
    let all : length registers ≡ 16 = omega arith in
    kept.same
    ∙ ap (with_access c.args.sight.now)
    (ext_get_or 0 sight.cpu.access registers (size ∙ sym all) (λ i low. kept.put i (omega (arith, size))))
