-- The changes of the words and of the CPUs are those of the step.
use Rattle.std.proofs.Common.{List, length, sym, ap, ◌∙◌}
use Rattle.tx_journal.specs.declared.entries.Entry.{Entry}
use Rattle.step_changes.specs.Seen.{Sight, cpus_seen, words_of}
use Rattle.step_changes.specs.Steps.{back_by}
use Rattle.step_changes.specs.declared.view.Step.{Step}
use Rattle.step_changes.proofs.Stepping.{leads_forward, leads_back}
use Rattle.step_changes.proofs.view.View.follow.Goals as goal

pub returns : goal.returns
returns g c =
    let v = g.S.Shows.shown c.args.machine.now in
    let n = length c.journal.result.now in
    let step : Step = record {
      parts = c.in_ok-parts.parts;
      words = c.in_ok-words.words;
      before = c.self.inside.entries;
      after = n;
    } in
    let old = c.args.self.now in
    let middle = c.follow_words.new.self in
    let new = c.follow_cpus.new.self in
    let words = c.in_ok-words.ensures in
    let cpus = c.in_ok-parts.ensures in
    record {
      value =
          ap (λ (x : Sight). record x { entries = n }) (c.self-2.view_is ∙ cpus.value
          ∙ ap (λ (x : Sight). record x { cpus = cpus_seen v }) words.value)
          ∙ ap (λ (h : List Entry). record old {
            cpus = cpus_seen v;
            words = words_of v.bytes;
            entries = length h;
          }) c.journal.ensures;
      forward =
          leads_forward step old middle new (cpus_seen v) (words_of v.bytes) words.value cpus.value words.leads
          cpus.leads
          ∙ ap (λ (x : Sight). record x { entries = n }) (sym c.self-2.view_is);
      back =
          ap (λ (x : Sight). back_by step (record x { entries = n })) c.self-2.view_is
          ∙ leads_back step old middle new (cpus_seen v) (words_of v.bytes) words.value cpus.value words.leads
          cpus.leads (ap (λ (x : Sight). x.entries) c.self.view_is);
    }
