-- Where a CPU stands on the retry ladder, and what moves it.
use Rattle.std.specs.Prelude.{ℕ, ◌+◌, ◌-◌, ◌^◌, ◌≤◌, min, Bool, false, ◌&&◌, ◌==◌, nat_le, nat_lt}
use Rattle.std.specs.Prelude.{if◌then◌else◌}
use Rattle.tx_ladder.specs.Parameters.{Parameters, IsAllowed, most_rejects}
use Rattle.tx_ladder.specs.declared.ladder.Next.{Next}
use Rattle.tx_ladder.specs.declared.ladder.Next.TheVariants.{Plain, Delay, Queue}

-- the numbers by which the CPU climbs, the conflict aborts of its constrained transaction, and of its live
-- attempt the kind, the rejects that it gave and its requests that were rejected
pub record Standing : Type 0 where
  pub parms : Parameters
  pub aborts : ℕ
  pub constrained : Bool
  pub rejects_given : ℕ
  pub requests_rejected : ℕ

-- the numbers are in their ranges, the conflict aborts stop where the CPU joins the queue, and the rejects
-- given at the greatest limit of all
pub record IsWithin (parms : Parameters) (conflicts given : ℕ) : Type 0 where
  pub allowed : IsAllowed parms
  pub few_conflicts : conflicts ≤ parms.stop
  pub few_given : given ≤ most_rejects

abbrev pub fresh : Parameters → Standing
fresh parms = record {
  parms = parms;
  aborts = 0;
  constrained = false;
  rejects_given = 0;
  requests_rejected = 0;
}

-- an attempt of this kind starts
abbrev pub begun : Bool → Standing → Standing
begun kind s = record s { constrained = kind; rejects_given = 0; requests_rejected = 0 }

-- whether the live attempt is late: constrained, after enough conflict aborts
abbrev pub is_late : Standing → Bool
is_late s = s.constrained && nat_le s.parms.late s.aborts

-- how many rejects the live attempt may give
abbrev pub reject_limit : Standing → ℕ
reject_limit s = if is_late s then s.parms.firm else s.parms.reject

-- whether it may give one more
abbrev pub may_reject : Standing → Bool
may_reject s = nat_lt s.rejects_given (reject_limit s)

-- one more reject given
abbrev pub rejecting : Standing → Standing
rejecting s = record s { rejects_given = s.rejects_given + 1 }

-- one more request rejected; the count stops at the last value of its 32 bits
abbrev pub rejected : Standing → Standing
rejected s = record s { requests_rejected = min (s.requests_rejected + 1) (2 ^ 32 - 1) }

-- whether the live attempt is starved by the last request of it that was rejected
abbrev pub is_starved : Standing → Bool
is_starved s = s.constrained && s.requests_rejected == s.parms.starve

-- how many turns a CPU waits after so many conflict aborts
abbrev pub delay_after : Parameters → ℕ → ℕ
delay_after parms aborts = min (2 ^ aborts) parms.delay

-- a conflict abort counts for constrained attempts alone
abbrev pub after_conflict : Standing → Standing
after_conflict s = record s { aborts = if s.constrained then s.aborts + 1 else s.aborts }

-- what comes after an attempt that a conflict aborted
abbrev pub next_rung : Standing → Next
next_rung s =
    if s.constrained
    then (if s.aborts + 1 == s.parms.stop then Queue else Delay (delay_after s.parms (s.aborts + 1)))
    else Plain

-- a constrained transaction has ended otherwise than by a conflict
abbrev pub descended : Standing → Standing
descended s = record s { aborts = 0 }
