-- What the holder of a line answers to a request for it.
use Rattle.std.specs.Prelude.{ℕ, Bool, true, false, ◌&&◌, ◌||◌, not, if◌then◌else◌}
use Rattle.tx_footprint.specs.Mode.{Mode}
use Rattle.tx_footprint.specs.Mode.TheVariants.{Shared, Exclusive}
use Rattle.tx_control.specs.declared.causes.Why.{Why}
use Rattle.tx_control.specs.declared.causes.Why.TheVariants.{FetchConflict, StoreConflict}
use Rattle.tx_ladder.specs.Rungs.{Standing, may_reject, rejecting}
use Rattle.interrogate.specs.declared.kinds.Answer.{Answer}
use Rattle.interrogate.specs.declared.kinds.Answer.TheVariants.{Yields, Rejects, Aborts}
use Rattle.interrogate.specs.declared.kinds.Asker.{Asker}

-- the lines that an attempt has fetched and those that it has stored
abbrev pub Lines : Type 0
Lines = ℕ → Bool

-- a request conflicts with a live attempt that has stored the line, and for an exclusive one also with an
-- attempt that
-- has fetched it
abbrev pub conflicts : Bool → Lines → Lines → ℕ → Mode → Bool
conflicts false fetched stored line mode = false
conflicts true fetched stored line Exclusive = fetched line || stored line
conflicts true fetched stored line Shared = stored line

-- a holder may reject as long as its ladder says so, but never the head of the stop queue, and no late
-- attempt unless its
-- own one is constrained too
abbrev pub may_hold_out : Standing → Asker → Bool
may_hold_out standing asker =
    may_reject standing && (not asker.head && not (asker.late && not standing.constrained))

-- the cause of an abort by a conflict
abbrev pub cause_at : Lines → ℕ → Why
cause_at stored line = if stored line then StoreConflict line else FetchConflict line

-- no conflict: it yields; else it rejects where it may, and where it may not its attempt is aborted
unfoldable pub reply : Bool → Lines → Lines → Standing → ℕ → Mode → Asker → Answer
reply live fetched stored standing line mode asker =
    if not (conflicts live fetched stored line mode) then Yields
    else (if may_hold_out standing asker then Rejects else Aborts (cause_at stored line))

-- a reject counts, no other answer does
abbrev pub after : Answer → Standing → Standing
after Yields standing = standing
after Rejects standing = rejecting standing
after (Aborts why) standing = standing
