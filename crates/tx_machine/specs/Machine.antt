-- What a machine is seen as, and what it stands for.
use Rattle.std.specs.Prelude.{◌≡◌, ℕ, ◌<◌, ◌+◌, ◌*◌, Bool, false, List, [], length, replicate, Option, Some, None}
use Rattle.std.specs.Prelude.{count_by, refl}
use Rattle.std.specs.Coded.{Coded, code_by, coded×, coded_ℕ, coded_bool, coded_list, coded_option}
use Rattle.tx_journal.specs.contracts.events.Event as event
use Rattle.tx_meaning.specs.contracts.asking.Reject as reject
use Rattle.tx_journal.specs.Content.{Content, content_code}
use Rattle.tx_journal.specs.declared.entries.Entry.{Entry}
use Rattle.tx_journal.specs.declared.events.Event.{Event}
use Rattle.tx_journal.specs.declared.events.Event.TheVariants.{Turn, External}
use Rattle.tx_ladder.specs.Rungs.{fresh}
use Rattle.tx_serial.specs.History.{no_cpu}
use Rattle.tx_meaning.specs.declared.asking.Reject.{Reject}
use Rattle.tx_meaning.specs.Limits.{RunLimits, Setting}
use Rattle.tx_meaning.specs.Meaning.{IsSetting, AreEvents, meaning, is_external}
use Rattle.z_regs.specs.declared.image.RunState.{RunState}
use Rattle.z_regs.specs.declared.waiting.Waiting.{Waiting}
use Rattle.tx_serial.specs.Apply.{interruption_code}
use Rattle.tx_meaning.specs.State.{State, cpus_of}
use Rattle.tx_meaning.specs.Shown.{commits_of, aborts_of}
use Rattle.tx_meaning.specs.Turn.{Turned, happen}
use Rattle.tx_home.specs.Keeping.{keeping}
use Rattle.tx_meaning.specs.declared.counts.Counts.{Counts}
use Rattle.tx_home.specs.DeclaredSlot.Tally.{Tally}
use Rattle.tx_home.specs.Works.{Seat, Works, kept_by}

-- its image, its limits, the recorded events, the reject in the last event, where there was one, and for each CPU whether
-- its run is away
pub record Seen : Type 0 where
  pub image : Content
  pub limits : RunLimits
  pub events : List Event
  pub reject : Option Reject
  pub away : List Bool

abbrev pub setting_of : Seen → Setting
setting_of s = record { image = s.image; limits = s.limits }

-- the meaning of its events
abbrev pub state_of : Seen → State
state_of s = meaning (setting_of s) s.events

-- a code, by which the check tells values apart
abbrev limits_code : Coded RunLimits
limits_code =
    code_by (ℕ × (ℕ × ℕ)) (coded× coded_ℕ (coded× coded_ℕ coded_ℕ))
    (λ l. (l.turns, (l.tick, l.externals)))
    (λ p. record { turns = p.0; tick = p.1.0; externals = p.1.1 })
    (λ _. refl)

abbrev pub seen_code : Coded Seen
seen_code =
    code_by (Content × (RunLimits × (List Event × (Option Reject × List Bool))))
    (coded× content_code (coded× limits_code (coded× (coded_list event.the_row.coded)
    (coded× (coded_option reject.the_row.coded) (coded_list coded_bool)))))
    (λ s. (s.image, (s.limits, (s.events, (s.reject, s.away)))))
    (λ p. record { image = p.0; limits = p.1.0; events = p.1.1.0; reject = p.1.1.1.0; away = p.1.1.1.1 })
    (λ _. refl)

-- a machine from which nothing has happened, with no run away
abbrev pub opened : Content → RunLimits → Seen
opened image limits = record {
  image = image;
  limits = limits;
  events = [];
  reject = None;
  away = replicate (length image.cpus) false;
}

-- one event more, by which no run leaves or comes home
abbrev pub event_of : Seen → Event → Turned
event_of s e = happen (setting_of s) e (state_of s)

abbrev pub after : Seen → Event → Seen
after s e = record s { events = (event_of s e).state.events; reject = (event_of s e).reject }

-- ---- what is read of it

-- the code of an interruption that waits on a CPU in this state
abbrev pub code_awaited : RunState → Option Waiting → Option ℕ
code_awaited state None = None
code_awaited state (Some w) = Some (interruption_code state)

-- ---- counted in the history

-- what is counted of a CPU, by what is kept of it
abbrev pub counts_with : Tally → List Entry → ℕ → Counts
counts_with t history i = record {
  turns = t.turns;
  asked = t.asked;
  rejected = t.rejected;
  commits = count_by (commits_of i) history;
  aborts = count_by (aborts_of i) history;
}

-- what is counted of a CPU beside the history
abbrev pub tally_at : State → ℕ → Tally
tally_at s i = record {
  attempts = (s.numbers i).attempts;
  delay = (s.numbers i).delay;
  turns = (s.numbers i).turns;
  asked = (s.numbers i).asked;
  rejected = (s.numbers i).rejected;
}

-- ---- what is kept beside it

-- the seat behind the last CPU
abbrev pub nobody : Setting → Seat
nobody m = record {
  cpu = record {
    image = no_cpu;
    saved = no_cpu;
    attempt = record {
      nest = [];
      footprint = record { fetched = []; stored = []; blocks = [] };
      constraint = None;
      stores = record { blocks = []; bytes = []; marks = []; values = []; value_marks = [] };
      count = 0;
      resumes_at = 0;
    };
    pending = None;
    waiting = None;
  };
  ladder = fresh m.image.parms;
  tally = record { attempts = 0; delay = 0; turns = 0; asked = 0; rejected = 0 };
}

-- the most events that can be recorded
abbrev pub most_events : Setting → ℕ
most_events m = cpus_of m * m.limits.turns + m.limits.externals

-- so many external events may still come, behind an event before which there were so many
abbrev pub IsLeft : Event → ℕ → ℕ → Type 0
IsLeft (Turn i) before after = before ≡ after
IsLeft (External i) before after = before ≡ after + 1

-- what is kept is what the recorded events mean, and there is room for more than can be recorded; so many external
-- events may still come
pub record Stands (m : Setting) (w : Works) (remaining : ℕ) : Type 0 where
  pub setting : IsSetting m
  pub events : AreEvents m w.events
  pub kept : kept_by (nobody m) w ≡ keeping m w.events
  pub cpus : length w.slots ≡ cpus_of m
  pub externals : count_by is_external w.events + remaining ≡ m.limits.externals
  pub room : most_events m < w.room
  pub events_room : most_events m < w.events_room

-- besides, there is a place for the run of each CPU
pub record IsWhole (m : Setting) (w : Works) (remaining : ℕ) (away : List Bool) : Type 0 where
  pub stands : Stands m w remaining
  pub runs : length away ≡ cpus_of m
