-- The conflicts of a run. A CPU asks the holders of the lines that its turn needs; each request that a holder
-- rejects is a conflict, whether the asker is starved by it or not, and so is each abort of a holder's
-- attempt by
-- such a request, whose code is 9 or 10.
use Rattle.std.specs.Prelude.{ℕ, Bool, true, false, List, [], ◌∷◌, ◌++◌, length, drop, Option, Some, None}
use Rattle.std.specs.Prelude.{is_some}
use Rattle.std.specs.List.{flat_map}
use Rattle.tx_control.specs.declared.causes.Why.{Why}
use Rattle.tx_control.specs.declared.causes.Why.TheVariants.{External, Program, FetchConflict}
use Rattle.tx_control.specs.declared.causes.Why.TheVariants.{StoreConflict, FetchOverflow, StoreOverflow}
use Rattle.tx_control.specs.declared.causes.Why.TheVariants.{Restricted, Filtered, Depth, Starved, Tabort}
use Rattle.tx_journal.specs.Image.{cpu_of_event}
use Rattle.tx_journal.specs.declared.entries.Entry.{Entry}
use Rattle.tx_journal.specs.declared.entries.Entry.TheVariants.{Step, Commit, Abort, Tdb, Interrupt}
use Rattle.tx_journal.specs.declared.events.Event.{Event}
use Rattle.tx_meaning.specs.Limits.{Setting}
use Rattle.tx_meaning.specs.State.{State, beginning, attempt_of}
use Rattle.tx_meaning.specs.Turn.{happen}
use Rattle.tx_meaning.specs.declared.asking.Reject.{Reject}
use Rattle.tx_schedule.specs.Wanted.{wanted}
use Rattle.tx_heat.specs.Octowords.{are_apart}

-- The CPU that asks, the CPU that holds, and the line; whether the request was rejected, else the holder's
-- attempt
-- was aborted; and whether what is asked for and what the holder has touched lie apart in the line.
pub record Conflict : Type 0 where
  pub asker : ℕ
  pub holder : ℕ
  pub line : ℕ
  pub rejected : Bool
  pub apart : Bool

-- in an event that comes upon a state; the holder's octowords are those of its attempt in that state
abbrev pub conflict : Setting → State → Event → ℕ → ℕ → Bool → Conflict
conflict m s e holder line rejected =
    let asker = cpu_of_event e in
    record {
      asker = asker;
      holder = holder;
      line = line;
      rejected = rejected;
      apart = are_apart (wanted m s asker) (attempt_of m s holder).touched line;
    }

-- ---- aborts

-- the line of a cause that another CPU's request is: of the causes with code 9, a fetch conflict, and with
-- code 10,
-- a store conflict
abbrev pub line_of_cause : Why → Option ℕ
line_of_cause (FetchConflict line) = Some line
line_of_cause (StoreConflict line) = Some line
line_of_cause External = None
line_of_cause (Program e) = None
line_of_cause FetchOverflow = None
line_of_cause StoreOverflow = None
line_of_cause Restricted = None
line_of_cause (Filtered e) = None
line_of_cause Depth = None
line_of_cause Starved = None
line_of_cause (Tabort code) = None

-- the holder and the line of an abort that an entry tells of
abbrev pub abort_where : ℕ → Option ℕ → Option (ℕ × ℕ)
abort_where holder None = None
abort_where holder (Some line) = Some (holder, line)

abbrev pub abort_of : Entry → Option (ℕ × ℕ)
abort_of (Abort holder n why) = abort_where holder (line_of_cause why)
abort_of (Step i) = None
abort_of (Commit i n) = None
abort_of (Tdb i) = None
abort_of (Interrupt i) = None

-- an entry tells of such an abort
abbrev pub is_conflict_abort : Entry → Bool
is_conflict_abort entry = is_some (abort_of entry)

-- ---- rejects

abbrev pub reject_of : Option Reject → Option (ℕ × ℕ)
reject_of None = None
reject_of (Some r) = Some (r.by, r.line)

-- ---- either

abbrev pub conflict_where : Setting → State → Event → Bool → Option (ℕ × ℕ) → List Conflict
conflict_where m s e rejected None = []
conflict_where m s e rejected (Some at) = conflict m s e at.0 at.1 rejected ∷ []

abbrev pub aborts_by : Setting → State → Event → Entry → List Conflict
aborts_by m s e entry = conflict_where m s e false (abort_of entry)

abbrev pub rejects_by : Setting → State → Event → Option Reject → List Conflict
rejects_by m s e reject = conflict_where m s e true (reject_of reject)

-- ---- events

-- the entries that an event adds to the history
abbrev pub entries_in : State → State → List Entry
entries_in before after = drop (length before.history) after.history

-- the conflicts in an event, in order: a reject is the last question of a turn
unfoldable pub conflicts_in : Setting → State → Event → List Conflict
conflicts_in m s e =
    let t = happen m e s in
    flat_map (aborts_by m s e) (entries_in s t.state) ++ rejects_by m s e t.reject

unfoldable pub conflicts_from : Setting → List Event → State → List Conflict
conflicts_from m [] s = []
conflicts_from m (e ∷ rest) s = conflicts_in m s e ++ conflicts_from m rest (happen m e s).state

-- those of a run
abbrev pub conflicts : Setting → List Event → List Conflict
conflicts m events = conflicts_from m events beginning
