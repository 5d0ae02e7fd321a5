-- The moves of the machine that keeps: what each thing that happens makes of all that is kept.
use Rattle.std.specs.Prelude.{ℕ, if◌then◌else◌}
use Rattle.tx_control.specs.Nesting.{is_constrained}
use Rattle.tx_control.specs.declared.causes.Why.{Why}
use Rattle.tx_control.specs.declared.causes.Why.TheVariants.{External, Program, FetchConflict}
use Rattle.tx_control.specs.declared.causes.Why.TheVariants.{StoreConflict, FetchOverflow, StoreOverflow}
use Rattle.tx_control.specs.declared.causes.Why.TheVariants.{Restricted, Filtered, Depth, Starved, Tabort}
use Rattle.tx_ladder.specs.Rungs.{Standing, begun, rejecting, rejected, after_conflict, descended}
use Rattle.tx_journal.specs.declared.entries.Entry.TheVariants as entry
use Rattle.line_table.specs.declared.table.Mode.{Mode}
use Rattle.tx_progress.specs.Local.{Beside, aborted, block_stored, interruption_taken}
use Rattle.tx_meaning.specs.State.{is_live}
use Rattle.tx_meaning.specs.Changes.{asking, rejecting_one, rejected_once, yielding, aborting}
use Rattle.tx_meaning.specs.Changes.{starting, continuing, committing, with_entry}
use Rattle.tx_keeping.specs.Kept.{Kept, with_state, with_standing, beside, with_beside}

-- ---- questions and answers

abbrev pub k_asking : ℕ → Kept → Kept
k_asking i k = with_state (asking i k.state) k

-- the holder gives one more reject
abbrev pub k_rejecting : ℕ → Kept → Kept
k_rejecting j k =
    with_standing j (rejecting (k.standings j)) (with_state (rejecting_one j (k.standings j) k.state) k)

-- the request of a CPU was rejected
abbrev pub k_rejected : ℕ → Kept → Kept
k_rejected i k =
    let live = is_live k.state i in
    let standing = k.standings i in
    with_standing i (if live then rejected standing else standing)
    (with_state (rejected_once i live standing k.state) k)

abbrev pub k_yielding : ℕ → ℕ → Mode → Kept → Kept
k_yielding j line mode k = with_state (yielding j line mode k.state) k

-- ---- the end of an attempt

-- a conflict is counted, and a program interruption ends a constrained transaction
abbrev pub standing_after : Why → Standing → Standing
standing_after (FetchConflict line) standing = after_conflict standing
standing_after (StoreConflict line) standing = after_conflict standing
standing_after Starved standing = after_conflict standing
standing_after (Program e) standing = if standing.constrained then descended standing else standing
standing_after External standing = standing
standing_after FetchOverflow standing = standing
standing_after StoreOverflow standing = standing
standing_after Restricted standing = standing
standing_after (Filtered e) standing = standing
standing_after Depth standing = standing
standing_after (Tabort code) standing = standing

-- the attempt of a CPU is aborted for a cause; the address is that of the instruction that is told of
unfoldable pub k_aborting : ℕ → Why → ℕ → Kept → Kept
k_aborting i why at k =
    let standing = k.standings i in
    with_standing i (standing_after why standing)
    (with_beside i (aborted why at (beside k i))
    (with_state (aborting i standing (k.locals i).attempt.count why k.state) k))

-- it is begun, and left this of the CPU
abbrev pub k_starting : ℕ → Beside → Kept → Kept
k_starting i after k =
    with_standing i (begun (is_constrained after.local.attempt.nest) (k.standings i))
    (with_beside i after (with_state (starting i k.state) k))

abbrev pub k_continuing : ℕ → Beside → Kept → Kept
k_continuing i after k = with_beside i after (with_state (continuing i k.state) k)

-- it is committed, after so many instructions
abbrev pub k_committing : ℕ → ℕ → Beside → Kept → Kept
k_committing i n after k =
    let standing = k.standings i in
    with_standing i (if standing.constrained then descended standing else standing)
    (with_beside i after (with_state (committing i standing.constrained n k.state) k))

-- ---- outside transactions

abbrev pub k_stepping : ℕ → Beside → Kept → Kept
k_stepping i after k = with_beside i after (with_state (with_entry (entry.Step i) k.state) k)

abbrev pub k_storing : ℕ → Kept → Kept
k_storing i k = with_beside i (block_stored (beside k i)) (with_state (with_entry (entry.Tdb i) k.state) k)

abbrev pub k_taking : ℕ → Kept → Kept
k_taking i k =
    with_beside i (interruption_taken (beside k i)) (with_state (with_entry (entry.Interrupt i) k.state) k)
