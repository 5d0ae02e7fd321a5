-- The numbers of the retry ladder, as plain data.
use Rattle.std.specs.Prelude.{ℕ, ◌≤◌}
use Rattle.tx_ladder.specs.declared.parms.Choice.{Choice}

pub record Parameters : Type 0 where
  -- how many rejects an attempt may give, and a late one
  pub reject : ℕ
  pub firm : ℕ
  -- from how many conflict aborts on a constrained attempt is late
  pub late : ℕ
  -- at which rejected request a constrained attempt is aborted
  pub starve : ℕ
  -- at which conflict abort a CPU joins the stop queue
  pub stop : ℕ
  -- how many turns a CPU waits at most after a conflict abort
  pub delay : ℕ

-- these six numbers, in this order
abbrev pub parameters : (reject firm late starve stop delay : ℕ) → Parameters
parameters reject firm late starve stop delay =
    record { reject = reject; firm = firm; late = late; starve = starve; stop = stop; delay = delay }

-- the values that a number may have, and the usual one
abbrev pub choice : (least most usual : ℕ) → Choice
choice least most usual = record { least = least; most = most; usual = usual }

-- the greatest limit of rejects, for every attempt
abbrev pub most_rejects : ℕ
most_rejects = 1000

abbrev pub reject_choice : Choice
reject_choice = choice 0 1000 8

abbrev pub firm_choice : Choice
firm_choice = choice 0 1000 64

abbrev pub late_choice : Choice
late_choice = choice 1 16 4

abbrev pub starve_choice : Choice
starve_choice = choice 1 1000 64

abbrev pub stop_choice : Choice
stop_choice = choice 1 16 8

abbrev pub delay_choice : Choice
delay_choice = choice 0 32768 128

abbrev pub Allows : Choice → ℕ → Type 0
Allows choice n = (choice.least ≤ n) × (n ≤ choice.most)

-- each number is in its range
pub record IsAllowed (p : Parameters) : Type 0 where
  pub reject : Allows reject_choice p.reject
  pub firm : Allows firm_choice p.firm
  pub late : Allows late_choice p.late
  pub starve : Allows starve_choice p.starve
  pub stop : Allows stop_choice p.stop
  pub delay : Allows delay_choice p.delay

-- the numbers where a listing sets none
abbrev pub usual : Parameters
usual = record {
  reject = reject_choice.usual;
  firm = firm_choice.usual;
  late = late_choice.usual;
  starve = starve_choice.usual;
  stop = stop_choice.usual;
  delay = delay_choice.usual;
}
