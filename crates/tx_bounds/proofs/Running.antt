-- No instruction of a transaction, and so no run, leaves a CPU other than running.
use Rattle.std.proofs.Common.{◌≡◌, ℕ, ◌<◌, Bool, true, false, List, [], not}
use Rattle.std.proofs.Common.{refl, sym, ◌∷◌, Some, None}
use Rattle.std.specs.Prelude.{◌&&◌, ◌||◌}
use Rattle.std.proofs.lemmas.Bool.{true≢false}
use Rattle.z_regs.specs.declared.ranges.Range.{Range}
use Rattle.z_instr.specs.declared.instr.Instr.{Instr}
use Rattle.z_instr.specs.declared.table.TheConstants.{ROWS}
use Rattle.z_instr.specs.Roles.{begins}
use Rattle.z_instr.specs.Table.{Entry, entry_at, kind_at}
use Rattle.z_instr.proofs.TableFacts.{passes_row}
use Rattle.z_effect.specs.Facts.{is_service}
use Rattle.tx_control.specs.declared.begins.Begin.{Begin}
use Rattle.tx_control.specs.declared.causes.Why.{Why}
use Rattle.tx_control.specs.declared.causes.Why.TheVariants.{Restricted}
use Rattle.tx_serial.specs.Attempt.{Run}
use Rattle.tx_serial.specs.Fate.{Goes, Because, fate, aborts_where, is_restricted}
use Rattle.tx_serial.specs.Flat.{FlatState}
use Rattle.tx_serial.specs.Run.{run, may_follow}
use Rattle.tx_serial.proofs.Lasting.{run_lasts}
use Rattle.tx_serial.proofs.Passing.{passes}
use Rattle.tx_progress.proofs.Rows.{any_row}
use Rattle.tx_progress.proofs.Standing.{tests_find_nothing}
use Rattle.tx_keeping.proofs.Running.{Runs, Stays, keeps_running}
use Rattle.tx_serial.proofs.TextStays.{or_first}
use Rattle.z_instr.proofs.PlainImmediates.{not_second}

-- ---- instructions of transactions

abbrev is_plain_row : Entry → Bool
is_plain_row e = e.restricted || not (is_service e.kind)

plain_rows : (n : ℕ) → n < ROWS → is_plain_row (entry_at n) ≡ true
plain_rows n there = passes_row is_plain_row refl n there

abbrev is_plain_begin : Entry → Bool
is_plain_begin e = not (begins e && is_service e.kind)

plain_begins : (n : ℕ) → is_plain_begin (entry_at n) ≡ true
plain_begins = any_row is_plain_begin refl refl

or_not : (a b : Bool) → (a || not b) ≡ true → a ≡ false → b ≡ false
or_not true b h e = absurd (true≢false e)
or_not false true h e = absurd (true≢false (sym h))
or_not false false h e = refl

none_where : (b : Bool) (w : Why) → aborts_where b w ≡ None → b ≡ false
none_where true w h = let n : Some (Because w) ≡ None = h in absurd (cc)
none_where false w h = refl

-- inside a transaction what goes is no service call
no_service : (nest : List Begin) (i : Instr) → may_follow nest i ≡ true
    → is_restricted nest (entry_at i.op.number) ≡ false → is_service (kind_at i.op.number) ≡ false
unfolding kind_at
no_service [] i follows h =
    not_second (begins (entry_at i.op.number)) (is_service (entry_at i.op.number).kind)
    (plain_begins i.op.number) follows
no_service (b ∷ bs) i follows h =
    or_not (entry_at i.op.number).restricted (is_service (entry_at i.op.number).kind)
    (plain_rows i.op.number i.op.known) (or_first (entry_at i.op.number).restricted _ h)

pub goes_without_service : (text : List ℕ) (p : Run) (i : Instr) (ranges : List Range)
    → may_follow p.nest i ≡ true → fate text p ≡ Goes i ranges → is_service (kind_at i.op.number) ≡ false
goes_without_service text p i ranges follows h =
    no_service p.nest i follows
    (none_where (is_restricted p.nest (entry_at i.op.number)) Restricted
    (tests_find_nothing text p i (passes text p i ranges h).passed).restricted)

-- ---- runs

-- a CPU that runs is left running by any number of instructions
pub run_runs : (f : FlatState) (i k : ℕ) → Stays (f.cpus i) (run f i k).cpu
run_runs =
    run_lasts Runs (λ text p i ranges follows goes. keeps_running i p.cpu _ _
    (goes_without_service text p i ranges follows goes))
