-- The places in which a run that comes home can differ from its machine, in their order, and the first that does.
use Rattle.std.specs.Prelude.{◌≡◌, ℕ, ◌+◌, ◌^◌, ◌%◌, ◌↔◌, Bool, ◌&&◌, ◌||◌, IsTrue, is_none, nat_eq, nat_lt, nat_le}
use Rattle.std.specs.Prelude.{if◌then◌else◌, List, [], ◌∷◌, map, slice_index, Option, Some, None}
use Rattle.std.specs.List.{list_any, range_with_len}
use Rattle.line_table.specs.declared.table.Mode.{Mode}
use Rattle.line_table.specs.declared.table.Mode.TheVariants.{Shared, Exclusive}
use Rattle.z_regs.specs.Cpu.{Cpu}
use Rattle.tx_meaning.specs.Apply.{is_running}
use Rattle.tx_meaning.specs.Flat.{Storage}
use Rattle.tx_works.specs.Local.{Local}
use Rattle.tx_works.specs.Progress.{seen_through}
use Rattle.tx_works.specs.Parts.{local_of}
use Rattle.tx_works.specs.Same.{AreSameAttempts}
use Rattle.tx_works.specs.Own.{given, is_touched}
use Rattle.tx_works.specs.Marks.{Marks, mode_in}
use Rattle.tx_works.specs.Traces.{is_paged}
use Rattle.tx_meaning.specs.Limits.{RunLimits}
use Rattle.tx_meaning.specs.State.{Numbers}
use Rattle.tx_works.specs.Kept.{Kept}
use Rattle.tx_works.specs.RunLent.{Lent}
use Rattle.tx_home.specs.declared.place.Place.{Place}
use Rattle.tx_home.specs.declared.place.Place.TheVariants as place
use Rattle.tx_home.specs.declared.place.Unlike.{Unlike}

-- ---- a place, and the first of several

-- what is said of a place where the machine's value and the run's are not the same
abbrev pub at : Place → ℕ → ℕ → Option Unlike
at p kept given = if nat_eq kept given then None else Some (record { place = p; kept = kept; given = given })

-- the first that there is
abbrev pub first_some : List (Option Unlike) → Option Unlike
first_some [] = None
first_some (None ∷ rest) = first_some rest
first_some (Some unlike ∷ rest) = Some unlike

-- for the lowest number below an end
unfoldable pub first_below : ℕ → (ℕ → Option Unlike) → Option Unlike
first_below end f = first_some (map f (range_with_len 0 end))

-- ---- numbers

-- so many more turns are allowed, and none of them is a tick
abbrev pub fits : RunLimits → ℕ → ℕ → Bool
fits limits turns k =
    nat_le (turns + k) limits.turns && (nat_eq limits.tick 0 || nat_lt (turns % limits.tick + k) limits.tick)

-- the CPU runs, nothing is left to do for it, it does not wait, and it may have so many turns
abbrev pub may_go : RunLimits → ℕ → Local → Numbers → Bool
may_go limits k l n =
    is_running l.attempt.cpu.state
    && (is_none l.pending && (is_none l.waiting && (nat_eq n.delay 0 && fits limits n.turns k)))

-- the counted turns, out of reach where the turns of the run can't be made
abbrev pub turns_kept : Bool → RunLimits → ℕ → Local → Numbers → ℕ
turns_kept same limits k l n = if same && may_go limits k l n then n.turns else n.turns + 2 ^ 32

-- the number of the attempt that is live, or 0
abbrev pub attempt_of : Numbers → ℕ
attempt_of n = if nat_lt 0 n.completed then n.attempts else 0

-- the head of the stop queue, from 1 on, or 0
abbrev pub head_of : List ℕ → ℕ
head_of [] = 0
head_of (head ∷ rest) = head + 1

-- the attempt of the CPU has the begins, the footprint and the constraints from which the run has started, or not
abbrev pub in_numbers : Bool → RunLimits → Lent → List ℕ → Local → Numbers → Option Unlike
in_numbers same limits r queue l n = first_some (
    at place.Attempt (attempt_of n) r.attempt
    ∷ at place.Completed n.completed (local_of r.made.start).attempt.count
    ∷ at place.Turns (turns_kept same limits r.made.steps l n) r.turns
    ∷ at place.Head (head_of queue) 0
    ∷ [])

-- ---- registers

-- a prefix, or 0
abbrev pub prefix_value : Option ℕ → ℕ
prefix_value None = 0
prefix_value (Some prefix) = prefix

abbrev pub in_general : List ℕ → List ℕ → Option Unlike
in_general kept given = first_below 16 (λ n. at (place.General n) (slice_index kept n) (slice_index given n))

abbrev pub in_access : List ℕ → List ℕ → Option Unlike
in_access kept given = first_below 16 (λ n. at (place.Access n) (slice_index kept n) (slice_index given n))

abbrev pub in_status : Cpu → Cpu → Option Unlike
in_status kept given = first_some (
    at place.Address kept.address given.address
    ∷ at place.Condition kept.condition given.condition
    ∷ at place.Mask kept.mask given.mask
    ∷ at place.Prefix (prefix_value kept.prefix) (prefix_value given.prefix)
    ∷ [])

abbrev pub in_registers : Cpu → Cpu → Option Unlike
in_registers kept given = first_some (
    in_general kept.general given.general ∷ in_access kept.access given.access ∷ in_status kept given ∷ [])

-- ---- lines, pages and bytes

-- 1 for a line that is held shared, 2 for one that is held exclusively
abbrev pub mode_value : Option Mode → ℕ
mode_value None = 0
mode_value (Some Shared) = 1
mode_value (Some Exclusive) = 2

-- a line that the machine's CPU holds in a lesser mode than the run has needed
abbrev pub lacking : ℕ → Option Mode → Option Mode → Option Unlike
lacking line kept needed =
    if nat_lt (mode_value kept) (mode_value needed)
    then Some (record { place = place.Held line; kept = mode_value kept; given = mode_value needed })
    else None

abbrev pub in_lines : (ℕ → Option Mode) → Marks → Option Unlike
in_lines held needed = first_below 4096 (λ line. lacking line (held line) (mode_in needed line))

-- 1 for a text page
abbrev pub page_value : List ℕ → ℕ → ℕ
page_value text page = if list_any (nat_eq page) text then 1 else 0

-- a page on which the run has an instruction or a stored byte
abbrev pub at_page : List ℕ → Lent → ℕ → Option Unlike
at_page text r page =
    if is_paged r.made.traces page
    then at (place.Text page) (page_value text page) (page_value r.text page)
    else None

abbrev pub in_pages : List ℕ → Lent → Option Unlike
in_pages text r = first_below 256 (at_page text r)

-- a byte that the run has touched, as each CPU sees it: that of the machine now, that of the run before its first step
abbrev pub at_byte : Lent → Local → Storage → ℕ → Option Unlike
at_byte r l storage a =
    if is_touched r.made.own a
    then at (place.Byte a) (seen_through l.attempt.overlay storage a)
    (seen_through (local_of r.made.start).attempt.overlay (given r.made.own) a)
    else None

abbrev pub in_bytes : Lent → Local → Storage → Option Unlike
in_bytes r l storage = first_below 1048576 (at_byte r l storage)

abbrev pub in_storage : List ℕ → Lent → (ℕ → Option Mode) → Local → Storage → Option Unlike
in_storage text r held l storage =
    first_some (in_lines held r.made.needed ∷ in_pages text r ∷ in_bytes r l storage ∷ [])

-- ---- all of them

abbrev pub unlike_by : Bool → List ℕ → RunLimits → Lent → Kept → Option Unlike
unlike_by same text limits r t =
    let l = t.locals r.cpu in
    first_some (
    in_numbers same limits r t.state.queue l (t.state.numbers r.cpu)
    ∷ in_registers l.attempt.cpu (local_of r.made.start).attempt.cpu
    ∷ in_storage text r (t.state.held r.cpu) l t.storage
    ∷ [])

-- the first place of a run that differs from the machine
pub record IsFirstUnlike (text : List ℕ) (limits : RunLimits) (r : Lent) (t : Kept) (found : Option Unlike) : Type 0 where
  pub same : Bool
  pub is_same : IsTrue same ↔ AreSameAttempts (t.locals r.cpu).attempt (local_of r.made.start).attempt
  pub value : found ≡ unlike_by same text limits r t
