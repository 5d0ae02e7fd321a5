use Rattle.std.proofs.Common.{◌≡◌, ◌≤◌, ◌+◌, ◌-◌, ◌*◌, ◌++◌, ◌∙◌, ap, arith, drop, length, rules, sym, take}
use Rattle.std.proofs.lemmas.List.{length-take}
use Rattle.z_assemble.specs.Whole.{places_from}
use Rattle.z_assemble.proofs.MarkedPlaces.{part_step, places_none}
use Rattle.z_assemble.proofs.places.places_of.Goals as goal

pub loop-part-init : goal.loop-part-init
loop-part-init c = record {
  same = c.new-places.ensures.items ∙ sym (places_none 0);
  inside = search rules;
}

pub loop-part-preserved : goal.loop-part-preserved
loop-part-preserved c =
    let marks = c.args.marks.now in
    let first = 4096 * c.loop-part.part in
    let size : first + 4096 - first ≡ 4096 = omega arith in
    let next : first + 4096 ≡ 4096 * (c.loop-part.part + 1) = omega arith in
    let end : first + 4096 ≤ length marks = omega (arith, c.requires, c.loop-part-test.true) in
    record {
      same =
          part_step marks first 4096 c.loop-part.places.items _ end c.loop-part.invariant.same
          (c.in_ok-add_places.ensures.is
          ∙ ap (λ j. c.loop-part.places.items ++ places_from first (take j (drop first marks))) size)
          ∙ ap (λ n. places_from 0 (take n marks)) next;
      inside =
          c.in_ok-add_places.ensures.inside (length marks)
          (omega (arith, end, size, length-take (first + 4096 - first) (drop first marks)))
          c.loop-part.invariant.inside;
    }
