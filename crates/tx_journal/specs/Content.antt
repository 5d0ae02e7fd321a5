-- What an image holds, as plain data.
use Rattle.std.specs.Prelude.{ℕ, Bool, List, Option, map, refl}
use Rattle.std.specs.FinSet.{FinSet}
use Rattle.std.specs.FinSet as set
use Rattle.std.specs.Ordering.{nat_cmp}
use Rattle.std.specs.Coded.{Coded, code_by, coded×, coded_ℕ, coded_bool, coded_list, coded_option}
use Rattle.z_regs.specs.Cpu.{Cpu, cpu_of}
use Rattle.z_regs.specs.declared.image.CpuImage.{CpuImage}
use Rattle.z_regs.specs.declared.image.RunState.{RunState}
use Rattle.z_regs.specs.contracts.image.RunState as state
use Rattle.tx_ladder.specs.Parameters.{Parameters, parameters}
use Rattle.tx_journal.specs.declared.events.Event.{Event}
use Rattle.tx_journal.specs.contracts.events.Event as event
use Rattle.tx_journal.specs.declared.image.Show.{Show}
use Rattle.tx_journal.specs.contracts.image.Show as show

pub record Content : Type 0 where
  pub storage : List ℕ
  pub guard : FinSet nat_cmp
  pub starts : List ℕ
  pub cpus : List Cpu
  pub shows : List Show
  pub schedule : List Event
  pub scheduled : Bool
  pub parms : Parameters

abbrev pub content : List ℕ → FinSet nat_cmp → List ℕ → List CpuImage → List Show → List Event → Bool
    → Parameters
    → Content
content storage guard starts cpus shows schedule scheduled parms = record {
  storage = storage;
  guard = guard;
  starts = starts;
  cpus = map cpu_of cpus;
  shows = shows;
  schedule = schedule;
  scheduled = scheduled;
  parms = parms;
}

-- ---- codes, by which the check tells values apart

abbrev cpu_code : Coded Cpu
cpu_code =
    code_by (List ℕ × (List ℕ × (ℕ × (ℕ × (ℕ × (RunState × Option ℕ))))))
    (coded× (coded_list coded_ℕ) (coded× (coded_list coded_ℕ) (coded× coded_ℕ (coded× coded_ℕ (coded× coded_ℕ
    (coded× state.the_row.coded (coded_option coded_ℕ)))))))
    (λ c. (c.general, (c.access, (c.address, (c.condition, (c.mask, (c.state, c.prefix)))))))
    (λ p. record {
      general = p.0;
      access = p.1.0;
      address = p.1.1.0;
      condition = p.1.1.1.0;
      mask = p.1.1.1.1.0;
      state = p.1.1.1.1.1.0;
      prefix = p.1.1.1.1.1.1;
    })
    (λ _. refl)

abbrev parameters_code : Coded Parameters
parameters_code =
    code_by (ℕ × (ℕ × (ℕ × (ℕ × (ℕ × ℕ)))))
    (coded× coded_ℕ (coded× coded_ℕ (coded× coded_ℕ (coded× coded_ℕ (coded× coded_ℕ coded_ℕ)))))
    (λ n. (n.reject, (n.firm, (n.late, (n.starve, (n.stop, n.delay))))))
    (λ p. parameters p.0 p.1.0 p.1.1.0 p.1.1.1.0 p.1.1.1.1.0 p.1.1.1.1.1)
    (λ _. refl)

abbrev pub content_code : Coded Content
content_code =
    code_by
    (List ℕ × (FinSet nat_cmp × (List ℕ × (List Cpu × (List Show × (List Event × (Bool × Parameters)))))))
    (coded× (coded_list coded_ℕ) (coded× (set.code coded_ℕ) (coded× (coded_list coded_ℕ)
    (coded× (coded_list cpu_code) (coded× (coded_list show.the_row.coded)
    (coded× (coded_list event.the_row.coded) (coded× coded_bool parameters_code)))))))
    (λ c. (c.storage, (c.guard, (c.starts, (c.cpus, (c.shows, (c.schedule, (c.scheduled, c.parms))))))))
    (λ p. record {
      storage = p.0;
      guard = p.1.0;
      starts = p.1.1.0;
      cpus = p.1.1.1.0;
      shows = p.1.1.1.1.0;
      schedule = p.1.1.1.1.1.0;
      scheduled = p.1.1.1.1.1.1.0;
      parms = p.1.1.1.1.1.1.1;
    })
    (λ _. refl)
