-- What holds of every image.
use Rattle.std.specs.Prelude.{◌≡◌, ◌≢◌, ℕ, ◌<◌, ◌≤◌, ◌+◌, ◌/◌, true, false, IsTrue, ◌↔◌, Option, Some}
use Rattle.std.specs.Prelude.{List, length, take, drop, replicate, sum_by, slice_index, All, AllPairs}
use Rattle.std.specs.FinSet.{FinSet, contains}
use Rattle.std.specs.Ordering.{nat_cmp}
use Rattle.z_regs.specs.Cpu.{Cpu}
use Rattle.z_regs.specs.Prefix.{storage_size, area_size, is_prefix}
use Rattle.z_regs.specs.declared.image.RunState.TheVariants.{Running}
use Rattle.z_instr.specs.declared.instr.Instr.{Instr}
use Rattle.z_instr.specs.Layout.{length_by}
use Rattle.z_instr.specs.Operands.{Span, span, HoldsByteOf}
use Rattle.z_instr.specs.Reading.{Reads}
use Rattle.tx_ladder.specs.Parameters.{IsAllowed}
use Rattle.tx_journal.specs.declared.events.Event.{Event}
use Rattle.tx_journal.specs.declared.events.Event.TheVariants.{Turn, External}
use Rattle.tx_journal.specs.declared.image.Show.{Show}
use Rattle.tx_journal.specs.Content.{Content}

-- the bytes of a page
abbrev pub page_size : ℕ
page_size = 4096

-- ---- instructions

-- how many bytes the instruction at an address has, by its first byte
abbrev pub length_at : List ℕ → ℕ → ℕ
length_at storage start = length_by (slice_index storage start)

-- the range of its bytes
abbrev pub instruction_at : List ℕ → ℕ → Span
instruction_at storage start = span start (length_at storage start) false

-- the bytes of the instruction at an address read as one
pub record HasReading (storage : List ℕ) (start : ℕ) : Type 0 where
  pub instr : Instr
  pub reads : Reads (take (length_at storage start) (drop start storage)) instr

-- a byte of an instruction that starts at one of the addresses is in the page
pub record HoldsText (storage starts : List ℕ) (page : ℕ) : Type 0 where
  pub index : ℕ
  pub within : index < length starts
  pub byte : HoldsByteOf page_size (instruction_at storage (slice_index starts index)) page

-- each is greater than the one before it
abbrev pub IsRising : List ℕ → Type 0
IsRising starts = (i : ℕ) → i + 1 < length starts → slice_index starts i < slice_index starts (i + 1)

-- ---- CPUs, shown bytes, events

-- the CPU enters in storage and runs, its condition code, its program mask and its access registers are zero,
-- and it has no prefix or one that a CPU may have
pub record IsStarting (c : Cpu) : Type 0 where
  pub address : c.address < storage_size
  pub runs : c.state ≡ Running
  pub code : c.condition ≡ 0
  pub mask : c.mask ≡ 0
  pub access : c.access ≡ replicate 16 0
  pub prefix : IsTrue (is_prefix c.prefix)

-- not both have this prefix
abbrev pub AreApart : Cpu → Cpu → Type 0
AreApart some other = (p : ℕ) → some.prefix ≡ Some p → other.prefix ≢ Some p

-- a page lies in the area of a prefix
pub record IsInArea (prefix : Option ℕ) (page : ℕ) : Type 0 where
  pub first : ℕ
  pub begins : prefix ≡ Some first
  pub low : first / page_size ≤ page
  pub high : page < (first + area_size) / page_size

-- no text page lies in the CPU's area
abbrev pub HasFreeArea : FinSet nat_cmp → Cpu → Type 0
HasFreeArea guard c = (page : ℕ) → IsInArea c.prefix page → contains guard page ≡ false

-- at least one byte is shown, all of them can be accessed, and a diagnostic block has 256
pub record IsShown (s : Show) : Type 0 where
  pub some : 0 < s.length
  pub low : area_size ≤ s.first
  pub high : s.first + s.length ≤ storage_size
  pub block : s.fields ≡ true → s.length ≡ 256

abbrev pub cpu_of_event : Event → ℕ
cpu_of_event (Turn cpu) = cpu
cpu_of_event (External cpu) = cpu

-- ---- every image

pub record IsImage (i : Content) : Type 0 where
  -- storage has its size, and zeros where programs have no access
  pub size : length i.storage ≡ storage_size
  pub low : (address : ℕ) → address < area_size → slice_index i.storage address ≡ 0
  -- instructions, in rising order of their addresses, and the pages that hold a byte of one
  pub rising : IsRising i.starts
  pub readings : All (HasReading i.storage) i.starts
  pub text : (page : ℕ) → IsTrue (contains i.guard page) ↔ HoldsText i.storage i.starts page
  -- one to sixteen CPUs
  pub some_cpu : 0 < length i.cpus
  pub few_cpus : length i.cpus ≤ 16
  pub starting : All IsStarting i.cpus
  -- no two have one prefix, and their areas hold no instruction
  pub apart : AllPairs AreApart i.cpus
  pub free : All (HasFreeArea i.guard) i.cpus
  -- what is shown
  pub shown : All IsShown i.shows
  pub few_shows : length i.shows ≤ 64
  pub few_shown : sum_by (λ s. s.length) i.shows ≤ 65536
  -- a given schedule
  pub few_events : length i.schedule ≤ 4194304
  pub known : All (λ e. cpu_of_event e < length i.cpus) i.schedule
  -- the numbers of the retry ladder are in their ranges
  pub allowed : IsAllowed i.parms
