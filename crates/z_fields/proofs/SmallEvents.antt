-- The events of bytes.
use Rattle.std.proofs.Common.{◌≡◌, ℕ, ◌+◌, ◌-◌, ◌<◌, ◌≤◌, Bool, true, false, refl, sym, ap, ◌∙◌, arith, nat_lt}
use Rattle.std.specs.Prelude.{if◌then◌else◌}
use borrow.Author.Tests.{ltb-true, ltb-false}
use Rattle.tx_journal.specs.declared.events.Event.{Event}
use Rattle.tx_journal.specs.declared.events.Event.TheVariants.{Turn, External}
use Rattle.z_fields.specs.SmallEvent.{event_in}
use Rattle.z_fields.specs.declared.small_event.SmallEvent.{SmallEvent}

-- A byte below 16 is a turn.
pub turn_in : (e : SmallEvent) (cpu : ℕ) → e.code ≡ cpu → cpu < 16 → event_in e ≡ Turn cpu
unfolding event_in
turn_in e cpu is h = by_test (nat_lt e.code 16) refl
  where
    by_test : (b : Bool) → nat_lt e.code 16 ≡ b →
        (if nat_lt e.code 16 then Turn e.code else External (e.code - 16)) ≡ Turn cpu
    by_test true t = rw (t) (ap Turn is)
    by_test false t = let low : 16 ≤ e.code = ltb-false e.code 16 t in absurd (omega arith)

-- A byte from 16 on is an external interruption.
pub external_in : (e : SmallEvent) (cpu : ℕ) → e.code ≡ 16 + cpu → event_in e ≡ External cpu
unfolding event_in
external_in e cpu is = by_test (nat_lt e.code 16) refl
  where
    by_test : (b : Bool) → nat_lt e.code 16 ≡ b →
        (if nat_lt e.code 16 then Turn e.code else External (e.code - 16)) ≡ External cpu
    by_test true t = let high : e.code < 16 = ltb-true e.code 16 t in absurd (omega arith)
    by_test false t = let rest : e.code - 16 ≡ cpu = omega arith in rw (t) (ap External rest)
