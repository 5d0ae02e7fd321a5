-- How a CPU asks the holders for the lines that it needs.
use Rattle.std.specs.Prelude.{ℕ, Bool, true, false, ◌&&◌, List, [], ◌∷◌, Option, Some, None}
use Rattle.tx_control.specs.declared.causes.Why.{Why}
use Rattle.tx_ladder.specs.Rungs.{is_late}
use Rattle.line_table.specs.declared.table.Mode.{Mode}
use Rattle.line_table.specs.declared.table.Mode.TheVariants.{Shared, Exclusive}
use Rattle.line_table.specs.Holders.{against}
use Rattle.interrogate.specs.declared.kinds.Answer.{Answer}
use Rattle.interrogate.specs.declared.kinds.Answer.TheVariants.{Yields, Rejects, Aborts}
use Rattle.interrogate.specs.declared.kinds.Asker.{Asker}
use Rattle.interrogate.specs.Replies as interrogate
use Rattle.tx_meaning.specs.Limits.{Setting}
use Rattle.tx_meaning.specs.declared.asking.Need.{Need}
use Rattle.tx_meaning.specs.declared.asking.Reject.{Reject}
use Rattle.tx_meaning.specs.State.{State, is_live, is_head, footprint_of, standing_of, cpus_of}
use Rattle.tx_meaning.specs.Changes.{asking, rejecting_one, rejected_once, yielding, granting, aborting}

-- the state after questions, and the reject that ended them, if one did
pub record Asked : Type 0 where
  pub state : State
  pub reject : Option Reject

-- ---- one holder

abbrev pub asker_of : Setting → State → ℕ → Asker
asker_of m s i = record { head = is_head s i; late = is_live s i && is_late (standing_of m s i) }

-- what a CPU answers to another CPU's request for a line
unfoldable pub reply : Setting → State → ℕ → ℕ → Mode → ℕ → Answer
reply m s j line mode i =
    let lines = footprint_of m s j in
    interrogate.reply (is_live s j) lines.fetched lines.stored (standing_of m s j) line mode (asker_of m s i)

-- the live attempt of a CPU is aborted for a cause
abbrev pub aborting_live : Setting → ℕ → Why → State → State
aborting_live m j why s = aborting j (standing_of m s j) (s.numbers j).completed why s

abbrev pub by_answer : Setting → ℕ → Need → ℕ → State → Answer → Asked
by_answer m i need j s Yields = record { state = yielding j need.line need.mode s; reject = None }
by_answer m i need j s Rejects = record {
  state = rejected_once i (is_live s i) (standing_of m s i) (rejecting_one j (standing_of m s j) s);
  reject = Some record { by = j; line = need.line };
}
by_answer m i need j s (Aborts why) =
    record { state = yielding j need.line need.mode (aborting_live m j why s); reject = None }

-- one question, from CPU i to CPU j
abbrev pub ask_one : Setting → ℕ → Need → ℕ → State → Asked
ask_one m i need j s = by_answer m i need j (asking i s) (reply m s j need.line need.mode i)

-- ---- one question after the other

-- what follows happens only where nothing was rejected
abbrev pub unless_rejected : Option Reject → State → (State → Asked) → Asked
unless_rejected None s next = next s
unless_rejected (Some reject) s next = record { state = s; reject = Some reject }

abbrev pub then_ask : Asked → (State → Asked) → Asked
then_ask a next = unless_rejected a.reject a.state next

abbrev pub all_given : State → Asked
all_given s = record { state = s; reject = None }

-- the holders of a line in turn, until one rejects
unfoldable pub ask_each : Setting → ℕ → Need → List ℕ → State → Asked
ask_each m i need [] s = all_given s
ask_each m i need (j ∷ rest) s = then_ask (ask_one m i need j s) (ask_each m i need rest)

-- ---- the lines of a turn

-- a line that is held in that mode, or exclusively, is there
abbrev pub is_there : Mode → Option Mode → Bool
is_there mode None = false
is_there mode (Some Exclusive) = true
is_there Shared (Some Shared) = true
is_there Exclusive (Some Shared) = false

-- when none stands against the request any more, the line is granted
abbrev pub take_line : Setting → ℕ → List Need → Need → State → Asked
take_line m i needs need s =
    all_given (record s { held = granting i (footprint_of m s i) needs need s.held })

abbrev pub get_unless : Bool → Setting → ℕ → List Need → Need → State → Asked
get_unless true m i needs need s = all_given s
get_unless false m i needs need s =
    then_ask (ask_each m i need (against (cpus_of m) s.held i need.line need.mode) s)
    (take_line m i needs need)

unfoldable pub get_line : Setting → ℕ → List Need → Need → State → Asked
get_line m i needs need s = get_unless (is_there need.mode (s.held i need.line)) m i needs need s

-- those lines in turn, until a request is rejected; needs has all that the turn needs
unfoldable pub get_each : Setting → ℕ → List Need → List Need → State → Asked
get_each m i needs [] s = all_given s
get_each m i needs (need ∷ rest) s = then_ask (get_line m i needs need s) (get_each m i needs rest)

-- all lines that a turn needs, in rising order
abbrev pub get_lines : Setting → ℕ → List Need → State → Asked
get_lines m i needs s = get_each m i needs needs s
