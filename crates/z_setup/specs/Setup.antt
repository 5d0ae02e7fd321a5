-- What the code holds while it reads lines again, as plain data.
use Rattle.std.specs.Prelude.{map}
use Rattle.z_regs.specs.Cpu.{cpu_of}
use Rattle.z_fields.specs.SmallEvent.{event_in}
use Rattle.z_text.specs.Labels.{value_in}
use Rattle.z_text.specs.declared.labels.Labels.{Labels}
use Rattle.z_reading.specs.Listing.{tasks_of}
use Rattle.z_setup.specs.Machine.{Machine, Known}
use Rattle.z_reading.specs.declared.works.Works.{Works}
use Rattle.z_setup.specs.declared.setup.Setup.{Setup}

abbrev pub machine_of : Setup → Machine
machine_of s = record {
  storage = s.storage.items;
  cpus = map cpu_of s.cpus.items;
  entered = s.entered;
  shows = s.shows.items;
  schedule = map event_in s.schedule.items;
  scheduled = s.scheduled;
  parms = s.parms;
}

abbrev pub known_of : Labels → Works → Known
known_of labels works = record { labels = value_in labels; tasks = tasks_of works }
