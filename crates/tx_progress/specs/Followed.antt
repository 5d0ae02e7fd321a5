-- What is said of runs that are followed: one instruction more, flat states that are the same to a CPU, and
-- what an entry leaves.
use Rattle.std.specs.Prelude.{◌≡◌, ◌⊎◌, ℕ, suc, ◌+◌, ◌/◌, ◌≤◌, true, ◌||◌, List, length, Some, Bool, false}
use Rattle.z_regs.specs.Cpu.{Cpu}
use Rattle.z_regs.specs.Absolute.{absolute_ranges}
use Rattle.z_regs.specs.declared.ranges.Range.{Range}
use Rattle.z_instr.specs.declared.instr.Instr.{Instr}
use Rattle.tx_constraint.specs.Kept.{Kept}
use Rattle.tx_footprint.specs.Places.{stores, fetches}
use Rattle.tx_footprint.specs.Touched.{Sets, line_count, block_count}
use Rattle.tx_footprint.specs.Sizes.{line_limit, block_limit}
use Rattle.tx_footprint.specs.Sizes.{line_size}
use Rattle.tx_serial.specs.Entry.{Entry}
use Rattle.tx_serial.specs.Apply.{apply}
use Rattle.tx_serial.specs.Flat.{FlatState, Storage, at_put}
use Rattle.tx_serial.specs.Attempt.{Run, Mark, Open, Committed, Overflowed, Missing}
use Rattle.tx_serial.specs.Ending.{ending}
use Rattle.tx_serial.specs.Run.{run}
use Rattle.tx_serial.specs.Text.{SameText}
use Rattle.tx_progress.specs.Progress.{Progress, advanced, seen_through}
use Rattle.tx_progress.specs.Doing.{stores_of}
use Rattle.tx_progress.specs.Local.{Local, Beside, flat_from}
use Rattle.tx_progress.specs.declared.done.Done.{Done}
use Rattle.tx_progress.specs.declared.done.Done.TheVariants as done
use Rattle.tx_progress.specs.Reached.{progress_of, IsFollowed}

-- the longer run, after an instruction that has left this CPU and these bytes
pub record Advances (next : Run) (instr : Instr) (ranges : List Range) (c : Cpu) (bytes : List ℕ)
    (q : Progress) (m : Mark) : Type 0 where
  pub progress : progress_of next ≡ advanced instr ranges c (stores_of ranges bytes q) q
  pub mark : next.mark ≡ m

-- Two flat states are the same to a CPU whose attempt has touched some lines: all that they have of the CPU
-- is the same, and so is every byte of text and of those lines.
pub record AreSameTo (i : ℕ) (touched : Sets) (f g : FlatState) : Type 0 where
  pub cpu : g.cpus i ≡ f.cpus i
  pub pending : g.pending i ≡ f.pending i
  pub waiting : g.waiting i ≡ f.waiting i
  pub pages : g.text ≡ f.text
  pub text : SameText f.text f.storage g.storage
  pub lines : (a : ℕ) → (touched.fetched (a / line_size) || touched.stored (a / line_size)) ≡ true
      → g.storage a ≡ f.storage a

-- ---- flat states that differ in one CPU and in storage

abbrev pub beside_in : Storage → (ℕ → Local) → ℕ → Beside
beside_in storage locals i = record { local = locals i; storage = storage }

abbrev pub flat_after : List ℕ → (ℕ → Local) → ℕ → Beside → FlatState
flat_after text locals i after = flat_from text after.storage (at_put locals i after.local)

-- an entry fits, and makes of flat storage what is left of its CPU and of storage, and that is followed
pub record Leaves (text : List ℕ) (storage : Storage) (locals : ℕ → Local) (i : ℕ) (e : Entry)
    (after : Beside) : Type 0 where
  pub applied : apply (flat_from text storage locals) e ≡ Some (flat_after text locals i after)
  pub followed : IsFollowed (flat_after text locals i after) i after.local
  pub rests : after.local.attempt.count ≡ 0

-- no entry, and storage stays: the attempt goes on with one instruction more, and what is left of the CPU is
-- followed
pub record GoesOnAs (text : List ℕ) (storage : Storage) (locals : ℕ → Local) (i : ℕ) (after : Beside)
    : Type 0 where
  pub same : flat_after text locals i after ≡ flat_from text storage locals
  pub followed : IsFollowed (flat_after text locals i after) i after.local
  pub count : after.local.attempt.count ≡ (locals i).attempt.count + 1
  pub mark : (run (flat_from text storage locals) i (suc (locals i).attempt.count)).mark ≡ Open

-- What a live attempt tells of an instruction that goes is what the run shows with one instruction more: it
-- is open, it is committed, or there is a cause by which it ends, with that instruction or without it.
abbrev pub RunTells : List ℕ → Run → Run → ℕ → Beside → Done → Type 0
RunTells text p next n after done.Stepped = next.mark ≡ Open
RunTells text p next n after (done.Committed m) = (m ≡ n + 1) × (next.mark ≡ Committed)
RunTells text p next n after (done.Ended why) =
    ((next.mark ≡ Overflowed) × (ending text next ≡ Some why) × (after.local.attempt.count ≡ n + 1))
    ⊎ ((next.mark ≡ Missing) × (ending text p ≡ Some why) × (after.local.attempt.count ≡ n))
RunTells text p next n after (done.Paused turns) = ⊥
RunTells text p next n after done.Began = ⊥
RunTells text p next n after (done.Interrupted code) = ⊥

-- ---- constrained attempts

-- What a constrained attempt keeps to, on a CPU that is like this at rest: few instructions, its begin again
-- after an abort, and what its constraints ask.
pub record KeepsTo (c : Cpu) (q : Progress) : Type 0 where
  pub few : q.count ≤ 33
  pub again : q.resumes_at ≡ c.address
  pub kept : Kept
  pub constraint : q.constraint ≡ Some kept
  pub begin : kept.begin ≡ c.address
  pub counted : q.count ≡ kept.count + 1
  pub octowords : length kept.octowords ≤ 4
  pub single : length q.nest ≡ 1

-- ---- limits

-- no more lines and no more stored blocks than a transaction may touch
pub record KeepsLimits (touched : Sets) : Type 0 where
  pub lines : line_count touched ≤ line_limit
  pub blocks : block_count touched ≤ block_limit

-- ---- what changes

-- only bytes in some lines change
abbrev pub ChangesIn : (ℕ → Bool) → Storage → Storage → Type 0
ChangesIn lines storage after = (a : ℕ) → lines (a / line_size) ≡ false → after a ≡ storage a

-- the lines that an attempt has stored into, with those of some operands
abbrev pub stored_lines : Progress → List Range → ℕ → Bool
stored_lines q ranges line = q.footprint.stored line || stores (absolute_ranges q.cpu.prefix ranges) line

-- Storage changes in lines that the attempt has stored into or that its operands are stored into, and there
-- alone; so it would if what outlives an abort went into it; and what is left of the attempt has touched no
-- other line.
pub record TouchesMore (q : Progress) (storage : Storage) (ranges : List Range) (after : Beside)
    : Type 0 where
  pub bytes : ChangesIn (stored_lines q ranges) storage after.storage
  pub stored : (line : ℕ) → after.local.attempt.footprint.stored line ≡ true
      → stored_lines q ranges line ≡ true
  pub fetched : (line : ℕ) → after.local.attempt.footprint.fetched line ≡ true
      → (q.footprint.fetched line || fetches (absolute_ranges q.cpu.prefix ranges) line) ≡ true
  pub lasting : ChangesIn (stored_lines q ranges) storage
      (seen_through after.local.attempt.lasting after.storage)
