use Rattle.std.proofs.Common.{◌≡◌, drop}
use Rattle.std.specs.List.{list_any}
use Rattle.z_reading.specs.Listing.{task_in}
use Rattle.z_setup.specs.Machine.{task_places_in}
use Rattle.z_setup.proofs.second.is_text_in.Given as goal

abbrev pub invariant-loop-kept : goal.invariant-loop-kept
invariant-loop-kept l = list_any (λ k. task_places_in l.area (task_in l.works.text.now k))
    (drop l.kept-index l.works.kept.items) ≡ list_any
    (λ k. task_places_in l.area (task_in l.works.text.now k)) l.works.kept.items
