-- Turns inside a transaction, for a CPU that goes on as another does: its attempt may have stored other bytes.
use Rattle.std.specs.Prelude.{◌≡◌, ℕ, zero, suc, Bool, true, false, ◌||◌, if◌then◌else◌, List, [], Option, Some, None}
use Rattle.z_regs.specs.declared.ranges.Range.{Range}
use Rattle.z_effect.specs.Outcome.{Outcome, Did, Overflowed, Divides, Aborts}
use Rattle.store_cache.specs.Overlay.{Overlay, Store, nothing}
use Rattle.tx_serial.specs.Fate.{Fate, Goes, Ends, Stops}
use Rattle.tx_serial.specs.Flat.{Storage}
use Rattle.tx_progress.specs.Progress.{Progress, seen_through, is_live, laying}
use Rattle.tx_progress.specs.Going.{goes_on_with}
use Rattle.tx_progress.specs.Trial.{fate_by_progress, outcome_by}
use Rattle.tx_progress.specs.Local.{Local, Beside}
use Rattle.tx_progress.specs.Doing.{stores_of}
use Rattle.tx_lending.specs.Away.{ran}
use Rattle.tx_lending.specs.Places.{stored_places, is_among}

-- ---- two CPUs

-- What an attempt looks at is the same of another: the CPU as its program sees it, the open begins, what it has
-- touched, what its constraints ask, and how much it has completed. What it has stored may be other, as what outlives
-- an abort, and what the CPU goes back to by one.
pub record GoesOnLike (q other : Progress) : Type 0 where
  pub cpu : other.cpu ≡ q.cpu
  pub nest : other.nest ≡ q.nest
  pub footprint : other.footprint ≡ q.footprint
  pub constraint : other.constraint ≡ q.constraint
  pub count : other.count ≡ q.count

-- at marked places two CPUs see the same, each through its stores over its storage
abbrev pub SeeAlike : (ℕ → Bool) → Overlay → Storage → Overlay → Storage → Type 0
SeeAlike marked overlay s other t =
    (a : ℕ) → marked a ≡ true → seen_through other t a ≡ seen_through overlay s a

-- ---- stores that wait

abbrev pub else_by : Option ℕ → Option ℕ → Option ℕ
else_by None old = old
else_by (Some byte) old = Some byte

-- later stores over earlier ones
abbrev pub upon : Overlay → Overlay → Overlay
upon later earlier a = else_by (later a) (earlier a)

-- what an instruction stores
abbrev pub made_by : Outcome → List Range → Progress → List Store
made_by (Did c bytes) ranges q = stores_of ranges bytes q
made_by (Overflowed c bytes) ranges q = stores_of ranges bytes q
made_by Divides ranges q = []
made_by (Aborts code) ranges q = []

abbrev pub fate_waits : Fate → Beside → List Store
fate_waits (Goes instr ranges) b =
    let q = b.local.attempt in
    if is_live q then made_by (outcome_by b.storage instr ranges q) ranges q else []
fate_waits (Ends why) b = []
fate_waits (Stops e) b = []

-- the stores of a turn that wait for the end of the transaction
abbrev pub turn_waits : List ℕ → Beside → List Store
turn_waits text b = fate_waits (fate_by_progress text b.storage b.local.attempt) b

-- those of so many turns
unfoldable pub waiting : List ℕ → ℕ → Beside → Overlay
waiting text zero b = nothing
waiting text (suc k) b = laying (waiting text k b) (turn_waits text (ran text k b))

-- where they are: at the places of stored operands
abbrev pub fate_waits_at : Fate → Progress → List ℕ
fate_waits_at (Goes instr ranges) q = if is_live q then stored_places ranges q else []
fate_waits_at (Ends why) q = []
fate_waits_at (Stops e) q = []

unfoldable pub waits_at : List ℕ → ℕ → Beside → ℕ → Bool
waits_at text zero b a = false
waits_at text (suc k) b a =
    let now = ran text k b in
    let places = fate_waits_at (fate_by_progress text now.storage now.local.attempt) now.local.attempt in
    waits_at text k b a || is_among places a

-- the marked bytes of a CPU's stores that wait, and no others
abbrev pub only_at : (ℕ → Bool) → Overlay → Overlay
only_at marked waits a = if marked a then waits a else None

-- ---- what is left

-- a CPU that has gone on as another has, with these stores that wait
abbrev pub gone_on : Local → Overlay → Local → Local
gone_on reached waits own = record own { attempt = goes_on_with waits reached.attempt own.attempt }

-- outside transactions, a CPU that has become what another has; what is left to do for it is its own
abbrev pub left_as : Local → Local → Local
left_as reached own = record own { cpu = reached.cpu; attempt = reached.attempt }
