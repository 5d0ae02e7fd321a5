use Rattle.std.proofs.Common.{rules, ◌≡◌, map}
use Rattle.std.proofs.lemmas.Slice.Eq.{bytes_eq-Decides}
use Rattle.z_regs.specs.Cpu.{cpu_of}
use Rattle.tx_journal.proofs.Pictures.{decided}
use Rattle.tx_journal.proofs.image.Image.same.Goals as goal

pub returns : goal.returns
returns c =
    let storage : c.self.inside.storage.items ≡ c.other.inside.storage.items =
    search (rules, bytes_eq-Decides) in
    let starts : c.self.inside.starts.items ≡ c.other.inside.starts.items =
    search (rules, bytes_eq-Decides) in
    let cpus : map cpu_of c.self.inside.cpus.items ≡ map cpu_of c.other.inside.cpus.items = search rules in
    let shows : c.self.inside.shows.items ≡ c.other.inside.shows.items = search rules in
    let parms : c.self.inside.parms ≡ c.other.inside.parms = search rules in
    let scheduled : c.self.inside.scheduled ≡ c.other.inside.scheduled = search rules in
    let guard : c.self.inside.guard ≡ c.other.inside.guard = search rules in
    rw (← c.self.view_is, ← c.other.view_is)
    (decided _ _ c.are_same_events.result (λ schedule. record {
      storage = storage;
      guard = guard;
      starts = starts;
      cpus = cpus;
      shows = shows;
      schedule = schedule;
      scheduled = scheduled;
      parms = parms;
    }) (search rules))
