-- The moves of the machine that keeps, made of single steps.
use Rattle.std.proofs.Common.{◌≡◌, ℕ, ◌+◌, Bool, refl, sym, ap, ◌∙◌}
use Rattle.std.specs.Prelude.{if◌then◌else◌}
use Rattle.tx_control.specs.Nesting.{is_constrained}
use Rattle.tx_control.specs.declared.causes.Why.{Why}
use Rattle.tx_control.specs.declared.causes.Why.TheVariants.{External, Program, FetchConflict}
use Rattle.tx_control.specs.declared.causes.Why.TheVariants.{StoreConflict, FetchOverflow, StoreOverflow}
use Rattle.tx_control.specs.declared.causes.Why.TheVariants.{Restricted, Filtered, Depth, Starved, Tabort}
use Rattle.tx_ladder.specs.Rungs.{begun, descended}
use Rattle.tx_journal.specs.declared.entries.Entry.{Entry}
use Rattle.tx_journal.specs.declared.entries.Entry.TheVariants as entry
use Rattle.tx_serial.specs.Flat.{at_put}
use Rattle.tx_serial.proofs.Entries.{at_put_same}
use Rattle.tx_progress.specs.Local.{Beside, aborted, block_stored, interruption_taken}
use Rattle.tx_progress.proofs.Parts.{put_twice}
use Rattle.tx_meaning.specs.State.{Numbers}
use Rattle.tx_meaning.specs.Changes.{aborting, with_numbers, committing}
use Rattle.tx_keeping.specs.Kept.{Kept, with_state, with_standing, with_beside, beside}
use Rattle.tx_keeping.specs.Moves.{k_aborting, k_starting, k_continuing, k_committing, k_stepping, k_storing}
use Rattle.tx_keeping.specs.Moves.{k_taking}
use Rattle.tx_works.specs.Steps.{k_left, k_written, k_on_rung, rung_after, k_descended, k_begun}
use Rattle.tx_works.proofs.Tables.{put_as_is}

-- ---- tables that stay

same_standing : (i : ℕ) (k : Kept) → with_standing i (k.standings i) k ≡ k
same_standing i k x = record k { standings = put_as_is k.standings i (k.standings i) refl x }

-- the numbers of a CPU change twice
numbers_again : (numbers : ℕ → Numbers) (i : ℕ) (n : Numbers) (f : Numbers → Numbers)
    → at_put (at_put numbers i n) i (f (at_put numbers i n i)) ≡ at_put numbers i (f n)
numbers_again numbers i n f =
    put_twice numbers i n (f (at_put numbers i n i))
    ∙ ap (λ v. at_put numbers i (f v)) (at_put_same numbers i n)

-- ---- an abort

stays : (i : ℕ) (why : Why) (at : ℕ) (k : Kept) → (e : Entry)
    → k_written e (with_standing i (k.standings i) (k_left i (aborted why at (beside k i)) k))
    ≡ k_written e (k_left i (aborted why at (beside k i)) k)
stays i why at k e = ap (k_written e) (same_standing i (k_left i (aborted why at (beside k i)) k))

pub aborting-made : (i : ℕ) (why : Why) (at : ℕ) (k : Kept)
    → k_aborting i why at k
    ≡ k_written (entry.Abort i (k.locals i).attempt.count why)
    (k_on_rung (rung_after why) i (k_left i (aborted why at (beside k i)) k))
unfolding k_aborting aborting aborted
aborting-made i (FetchConflict line) at k = refl
aborting-made i (StoreConflict line) at k = refl
aborting-made i Starved at k = refl
aborting-made i (Program e) at k = refl
aborting-made i External at k = stays i External at k (entry.Abort i (k.locals i).attempt.count External)
aborting-made i FetchOverflow at k =
    stays i FetchOverflow at k (entry.Abort i (k.locals i).attempt.count FetchOverflow)
aborting-made i StoreOverflow at k =
    stays i StoreOverflow at k (entry.Abort i (k.locals i).attempt.count StoreOverflow)
aborting-made i Restricted at k = stays i Restricted at k (entry.Abort i (k.locals i).attempt.count Restricted)
aborting-made i (Filtered e) at k =
    stays i (Filtered e) at k (entry.Abort i (k.locals i).attempt.count (Filtered e))
aborting-made i Depth at k = stays i Depth at k (entry.Abort i (k.locals i).attempt.count Depth)
aborting-made i (Tabort code) at k =
    stays i (Tabort code) at k (entry.Abort i (k.locals i).attempt.count (Tabort code))

-- ---- what a CPU is left as

-- as many completed instructions as before
pub left-as-is : (i : ℕ) (after : Beside) (k : Kept)
    → after.local.attempt.count ≡ (k.state.numbers i).completed → k_left i after k ≡ with_beside i after k
left-as-is i after k same =
    let n = k.state.numbers i in
    let numbers : at_put k.state.numbers i (record n { completed = after.local.attempt.count })
    ≡ k.state.numbers =
    put_as_is k.state.numbers i (record n { completed = after.local.attempt.count })
    (λ x. record n { completed = same x }) in
    λ x. with_beside i after (with_state (record k.state { numbers = numbers x }) k)

-- the number of completed instructions does not matter to what leaves it otherwise
left-again : (i : ℕ) (after next : Beside) (k : Kept)
    → k_left i next (k_left i after k) ≡ k_left i next (with_beside i after k)
left-again i after next k =
    let n = k.state.numbers i in
    let numbers =
    numbers_again k.state.numbers i (record n { completed = after.local.attempt.count })
    (λ (v : Numbers). record v { completed = next.local.attempt.count }) in
    λ x. with_beside i next (with_state (record k.state { numbers = numbers x }) (with_beside i after k))

pub aborting-left : (i : ℕ) (why : Why) (at : ℕ) (after : Beside) (k : Kept)
    → k_aborting i why at (k_left i after k) ≡ k_aborting i why at (with_beside i after k)
aborting-left i why at after k =
    let left = k_left i after k in
    let beside_it = with_beside i after k in
    aborting-made i why at left
    ∙ ap (λ (q : Kept). k_written (entry.Abort i (left.locals i).attempt.count why)
    (k_on_rung (rung_after why) i q)) (left-again i after (aborted why at (beside left i)) k)
    ∙ sym (aborting-made i why at beside_it)

-- ---- attempts begin, go on, and are committed

pub starting-made : (i : ℕ) (after : Beside) (constrained : Bool) (k : Kept)
    → after.local.attempt.count ≡ 1 → constrained ≡ is_constrained after.local.attempt.nest
    → k_starting i after k ≡ k_begun i constrained (k_left i after k)
starting-made i after constrained k one kind =
    let n = k.state.numbers i in
    let numbers : at_put k.state.numbers i
    (record n { completed = 1; attempts = n.attempts + 1; given = 0; refused = 0 })
    ≡ at_put (at_put k.state.numbers i (record n { completed = after.local.attempt.count })) i
    (let v = at_put k.state.numbers i (record n { completed = after.local.attempt.count }) i in
    record v { attempts = v.attempts + 1; given = 0; refused = 0 }) =
    sym (numbers_again k.state.numbers i (record n { completed = after.local.attempt.count })
    (λ (v : Numbers). record v { attempts = v.attempts + 1; given = 0; refused = 0 })
    ∙ (λ x. at_put k.state.numbers i
    (record n { completed = one x; attempts = n.attempts + 1; given = 0; refused = 0 }))) in
    λ x. with_standing i (begun (sym kind x) (k.standings i))
    (with_beside i after (with_state (record k.state { numbers = numbers x }) k))

pub continuing-made : (i : ℕ) (after : Beside) (k : Kept)
    → after.local.attempt.count ≡ (k.state.numbers i).completed + 1 → k_continuing i after k ≡ k_left i after k
continuing-made i after k more =
    let n = k.state.numbers i in
    λ x. with_beside i after (with_state (with_numbers i (record n { completed = sym more x }) k.state) k)

pub committing-made : (i n : ℕ) (after : Beside) (k : Kept) → after.local.attempt.count ≡ 0
    → k_committing i n after k ≡ k_written (entry.Commit i n) (k_descended i (k_left i after k))
committing-made i n after k none =
    let v = k.state.numbers i in
    let standing = k.standings i in
    λ x. with_standing i (if standing.constrained then descended standing else standing)
    (with_beside i after (with_state (record (committing i standing.constrained n k.state) {
      numbers = at_put k.state.numbers i (record v { completed = sym none x });
    }) k))

-- ---- outside transactions

pub stepping-made : (i : ℕ) (after : Beside) (k : Kept)
    → after.local.attempt.count ≡ (k.state.numbers i).completed
    → k_stepping i after k ≡ k_written (entry.Step i) (k_left i after k)
stepping-made i after k same = sym (ap (k_written (entry.Step i)) (left-as-is i after k same))

pub storing-made : (i : ℕ) (k : Kept)
    → (block_stored (beside k i)).local.attempt.count ≡ (k.state.numbers i).completed
    → k_storing i k ≡ k_written (entry.Tdb i) (k_left i (block_stored (beside k i)) k)
storing-made i k same =
    sym (ap (k_written (entry.Tdb i)) (left-as-is i (block_stored (beside k i)) k same))

pub taking-made : (i : ℕ) (k : Kept)
    → (interruption_taken (beside k i)).local.attempt.count ≡ (k.state.numbers i).completed
    → k_taking i k ≡ k_written (entry.Interrupt i) (k_left i (interruption_taken (beside k i)) k)
taking-made i k same =
    sym (ap (k_written (entry.Interrupt i)) (left-as-is i (interruption_taken (beside k i)) k same))
