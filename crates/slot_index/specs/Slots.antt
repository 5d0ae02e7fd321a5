-- Keys in slots, which are numbered from 0.
use Rattle.std.specs.Prelude.{◌≡◌, ℕ, ◌-◌, ◌<◌, ◌≤◌, ◌^◌, Bool, ◌==◌, if◌then◌else◌, List, length, Option}
use Rattle.std.specs.Prelude.{Some, None, is_some}
use Rattle.std.specs.List.{slice_index_or, position}
use Rattle.std.specs.Option.{option_and_then}

-- the keys in the order of their slots; all are below a limit, and there are at most so many
pub record Slots : Type 0 where
  pub limit : ℕ
  pub most : ℕ
  pub keys : List ℕ

-- the slot of a key, where it has one
unfoldable pub slot_in : List ℕ → ℕ → Option ℕ
slot_in keys key = position (λ k. k == key) keys

abbrev pub is_key : List ℕ → ℕ → Bool
is_key keys key = is_some (slot_in keys key)

-- the slot that the key of a slot has after the key of one slot went away: the key of the last slot has that slot
-- now
abbrev pub slot_after : List ℕ → ℕ → ℕ → Option ℕ
slot_after keys gone slot =
    if slot == gone then None else Some (if slot == length keys - 1 then gone else slot)

-- the slots of all keys after that
abbrev pub slot_without : List ℕ → ℕ → ℕ → Option ℕ
slot_without keys gone key = option_and_then (slot_after keys gone) (slot_in keys key)

-- the table tells the slot of each key in the list; what it says of others is of no account
pub record IsIndexed (slots keys : List ℕ) (most capacity : ℕ) : Type 0 where
  pub narrow : length slots ≤ 2 ^ 32
  pub small : most ≤ 2 ^ 16
  pub reserved : most ≤ capacity
  pub few : length keys ≤ most
  pub below : (slot : ℕ) → slot < length keys → slice_index_or keys slot 0 < length slots
  pub tells : (slot : ℕ) → slot < length keys → slice_index_or slots (slice_index_or keys slot 0) 0 ≡ slot
