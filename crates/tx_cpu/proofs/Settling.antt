-- A CPU without an attempt.
use Rattle.std.proofs.Common.{◌≡◌, Option, None, ap}
use Rattle.std.specs.Prelude.{if◌then◌else◌, nat_lt}
use Rattle.z_regs.specs.Cpu.{Cpu}
use Rattle.z_regs.specs.declared.waiting.Waiting.{Waiting}
use Rattle.tx_serial.specs.Flat.{Pending}
use Rattle.tx_progress.specs.Local.{settled}
use Rattle.tx_progress.specs.Progress.{Progress, resting}
use Rattle.tx_attempt.specs.Tracked.{Tracked, progress}
use Rattle.tx_cpu.specs.Parts.{local_of}

-- what is kept where no attempt is left
pub local-rests : (image saved : Cpu) (t : Tracked) (pending : Option Pending) (waiting : Option Waiting)
    → ((c : Cpu) → progress t c ≡ resting c)
    → local_of (record { image = image; saved = saved; attempt = t; pending = pending; waiting = waiting })
    ≡ record { cpu = image; attempt = resting image; pending = pending; waiting = waiting }
local-rests image saved t pending waiting rests =
    let none : t.count ≡ 0 = ap (λ (q : Progress). q.count) (rests image) in
    λ i. record {
      cpu = if nat_lt 0 (none i) then saved else image;
      attempt = rests image i;
      pending = pending;
      waiting = waiting;
    }

pub settled-rests : (image saved : Cpu) (t : Tracked) → ((c : Cpu) → progress t c ≡ resting c)
    → local_of (record { image = image; saved = saved; attempt = t; pending = None; waiting = None })
    ≡ settled image
settled-rests image saved t rests = local-rests image saved t None None rests
