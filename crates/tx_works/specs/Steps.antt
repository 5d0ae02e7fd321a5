-- The single steps of which the moves of the machine that keeps are made.
use Rattle.std.specs.Prelude.{ℕ, ◌+◌, Bool, if◌then◌else◌}
use Rattle.tx_control.specs.declared.causes.Why.{Why}
use Rattle.tx_control.specs.declared.causes.Why.TheVariants.{External, Program, FetchConflict}
use Rattle.tx_control.specs.declared.causes.Why.TheVariants.{StoreConflict, FetchOverflow, StoreOverflow}
use Rattle.tx_control.specs.declared.causes.Why.TheVariants.{Restricted, Filtered, Depth, Starved, Tabort}
use Rattle.tx_ladder.specs.Rungs.{begun, after_conflict, descended, next_rung}
use Rattle.tx_journal.specs.declared.entries.Entry.{Entry}
use Rattle.tx_progress.specs.Local.{Beside}
use Rattle.tx_meaning.specs.Changes.{with_numbers, with_entry, delaying, leaving, on_rung}
use Rattle.tx_meaning.specs.Changes.{counting_turn, waiting_turn}
use Rattle.tx_keeping.specs.Kept.{Kept, with_state, with_standing, with_beside}
use Rattle.tx_works.specs.declared.ending.Rung.{Rung}
use Rattle.tx_works.specs.declared.ending.Rung.TheVariants.{Climbs, Descends, Stays}

-- one CPU is left so, with storage; its number of completed instructions is that of its attempt
abbrev pub k_left : ℕ → Beside → Kept → Kept
k_left i after k =
    let n = k.state.numbers i in
    with_beside i after (with_state (with_numbers i (record n { completed = after.local.attempt.count })
    k.state) k)

abbrev pub k_written : Entry → Kept → Kept
k_written e k = with_state (with_entry e k.state) k

abbrev pub k_delayed : ℕ → ℕ → Kept → Kept
k_delayed i turns k = with_state (delaying i turns k.state) k

-- ---- the ladder and the stop queue

abbrev pub k_raised : ℕ → Kept → Kept
k_raised i k = with_standing i (after_conflict (k.standings i)) k

abbrev pub k_climbed : ℕ → Kept → Kept
k_climbed i k =
    let standing = k.standings i in
    with_standing i (after_conflict standing) (with_state (on_rung i (next_rung standing) k.state) k)

abbrev pub k_lowered : ℕ → Kept → Kept
k_lowered i k =
    let standing = k.standings i in
    with_standing i (if standing.constrained then descended standing else standing) k

-- the constrained transaction of a CPU is at its end
abbrev pub k_descended : ℕ → Kept → Kept
k_descended i k =
    let standing = k.standings i in
    with_standing i (if standing.constrained then descended standing else standing)
    (with_state (leaving i standing.constrained k.state) k)

abbrev pub rung_after : Why → Rung
rung_after (FetchConflict line) = Climbs
rung_after (StoreConflict line) = Climbs
rung_after Starved = Climbs
rung_after (Program e) = Descends
rung_after External = Stays
rung_after FetchOverflow = Stays
rung_after StoreOverflow = Stays
rung_after Restricted = Stays
rung_after (Filtered e) = Stays
rung_after Depth = Stays
rung_after (Tabort code) = Stays

abbrev pub k_on_rung : Rung → ℕ → Kept → Kept
k_on_rung Climbs i k = k_climbed i k
k_on_rung Descends i k = k_descended i k
k_on_rung Stays i k = k

-- ---- an attempt of this kind begins

abbrev pub k_begun : ℕ → Bool → Kept → Kept
k_begun i constrained k =
    let n = k.state.numbers i in
    with_standing i (begun constrained (k.standings i))
    (with_state (with_numbers i (record n { attempts = n.attempts + 1; given = 0; refused = 0 }) k.state) k)

-- ---- turns

abbrev pub k_counted : ℕ → Kept → Kept
k_counted i k = with_state (counting_turn i k.state) k

abbrev pub k_waited : ℕ → Kept → Kept
k_waited i k = with_state (waiting_turn i k.state) k
