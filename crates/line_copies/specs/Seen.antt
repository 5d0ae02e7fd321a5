-- What contracts see of storage with copies of its lines, and what is kept behind that.
use Rattle.std.specs.Prelude.{◌≡◌, ℕ, List, [], length, Option}
use Rattle.std.specs.List.{slice_index_or}
use Rattle.z_regs.specs.Prefix.{storage_size}
use Rattle.line_table.specs.declared.table.Mode.{Mode}
use Rattle.line_table.specs.Holders.{Holders, Holdings, mode_in}
use Rattle.l1_data.specs.Copies.{Kept, copies_of}
use Rattle.line_copies.specs.Coherence.{Copied, IsCoherent, flat}

-- the bytes, the number of CPUs, and the modes of the lines for one CPU after the other
pub record Seen : Type 0 where
  pub bytes : List ℕ
  pub cpus : ℕ
  pub modes : List (Option Mode)

abbrev pub holdings_of : Seen → Holdings
holdings_of seen = record { cpus = seen.cpus; modes = seen.modes }

abbrev pub holders_in : Seen → Holders
holders_in seen = mode_in (holdings_of seen)

abbrev pub nothing_kept : Kept
nothing_kept = record { lines = []; copies = [] }

-- the copies that each CPU has; none past the last CPU
abbrev pub copied : List Kept → Copied
copied copies cpu = copies_of (slice_index_or copies cpu nothing_kept)

-- storage as it is seen with a table of holders and the copies of each CPU
abbrev pub seen_bytes : List ℕ → Holdings → List Kept → List ℕ
seen_bytes storage table copies = flat table.cpus (mode_in table) (copied copies) storage

-- all of storage, copies for each CPU, and all in agreement
pub record IsKept (storage : List ℕ) (table : Holdings) (copies : List Kept) : Type 0 where
  pub size : length storage ≡ storage_size
  pub each : length copies ≡ table.cpus
  pub coherent : IsCoherent table.cpus (mode_in table) (copied copies) storage
