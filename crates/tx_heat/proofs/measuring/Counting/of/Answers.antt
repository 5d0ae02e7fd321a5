-- Nothing is counted as yet.
use Rattle.std.proofs.Common.{◌∙◌, ap, subst, length, rules}
use Rattle.tx_journal.specs.Content.{Content}
use Rattle.tx_journal.specs.Image.{IsImage}
use Rattle.tx_meaning.specs.Meaning.{IsSetting}
use Rattle.tx_schedule.specs.Machine.{setting_of}
use Rattle.tx_heat.proofs.Measured.{watches_first}
use Rattle.tx_heat.proofs.measuring.Counting.of.Goals as goal

pub invariant_of-result : goal.invariant_of-result
invariant_of-result c =
    let machine = c.args.machine in
    let setting : IsSetting (setting_of machine) = record {
      image = subst IsImage c.image.ensures c.cpu_count.ensures.image;
      limits = search rules;
    } in
    watches_first machine c.in_ok-tracks.tracks.items c.in_ok-lines.lines.items setting c.requires
    (c.in_ok-tracks.ensures.tracks (setting_of machine))
    (c.in_ok-tracks.ensures.count ∙ c.cpu_count.ensures.count
    ∙ ap (λ (i : Content). length i.cpus) c.image.ensures)
    c.in_ok-lines.ensures
