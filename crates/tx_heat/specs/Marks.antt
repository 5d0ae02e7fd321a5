-- What is kept of an attempt: a mark for each octoword of storage.
use Rattle.std.specs.Prelude.{◌≡◌, ℕ, ◌<◌, true, false, Bool, List, length}
use Rattle.std.specs.List.{slice_index_or}
use Rattle.z_regs.specs.declared.ranges.Range.{Range}
use Rattle.tx_heat.specs.Octowords.{storage_octowords, meets}

-- the octowords that were touched, and those that were stored into
pub record Marks : Type 0 where
  pub touched : List Bool
  pub stored : List Bool

-- the octoword is marked
abbrev pub is_marked : List Bool → ℕ → Bool
is_marked marks octoword = slice_index_or marks octoword false

-- what these ranges have touched is marked, and nothing else
pub record AreMarksOf (marks : Marks) (ranges : List Range) : Type 0 where
  pub touched : (o : ℕ) → o < storage_octowords → is_marked marks.touched o ≡ meets true ranges o
  pub stored : (o : ℕ) → o < storage_octowords → is_marked marks.stored o ≡ meets false ranges o

-- a mark for each octoword of storage
pub record AreWhole (marks : Marks) : Type 0 where
  pub touched : length marks.touched ≡ storage_octowords
  pub stored : length marks.stored ≡ storage_octowords
