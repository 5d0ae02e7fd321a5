-- What is shown of CPUs, storage and a history.
use Rattle.std.specs.Prelude.{ℕ, ◌*◌, List, map, length, Option}
use Rattle.std.specs.List.{range_with_len}
use Rattle.z_regs.specs.Cpu.{Cpu}
use Rattle.tx_journal.specs.declared.entries.Entry.{Entry}

-- of one CPU: it as its program sees it, the open begins and the completed instructions of its live attempt, and
-- the real address of the block that is pending for it
pub record CpuSeen : Type 0 where
  pub cpu : Cpu
  pub live : Option (ℕ × ℕ)
  pub pending : Option ℕ

-- of all, by places: how many CPUs there are, each CPU, each byte of storage, and the history
pub record Shown : Type 0 where
  pub count : ℕ
  pub cpu : ℕ → CpuSeen
  pub bytes : ℕ → ℕ
  pub history : List Entry

-- of all, as lists: the CPUs in the order of their numbers, storage in words of eight bytes, and how many entries
-- the history has
pub record Sight : Type 0 where
  pub cpus : List CpuSeen
  pub words : List (List ℕ)
  pub entries : ℕ

abbrev pub cpus_seen : Shown → List CpuSeen
cpus_seen v = map v.cpu (range_with_len 0 v.count)

-- the eight bytes of a word of storage, and all of the 131,072 words
abbrev pub word_at : (ℕ → ℕ) → ℕ → List ℕ
word_at bytes w = map bytes (range_with_len (8 * w) 8)

unfoldable pub words_of : (ℕ → ℕ) → List (List ℕ)
words_of bytes = map (word_at bytes) (range_with_len 0 131072)

abbrev pub sight_of : Shown → Sight
sight_of v = record { cpus = cpus_seen v; words = words_of v.bytes; entries = length v.history }
