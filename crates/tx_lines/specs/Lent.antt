-- Lines that are lent with a CPU.
use Rattle.std.specs.Prelude.{◌≡◌, ℕ, ◌/◌, ◌&&◌, not, nat_eq, is_some, if◌then◌else◌, List, Option}
use Rattle.std.specs.List.{list_any}
use Rattle.line_table.specs.declared.table.Mode.{Mode}
use Rattle.tx_meaning.specs.Flat.{Storage}
use Rattle.tx_run.specs.Own.{bytes_at}
use Rattle.tx_run.specs.Marks.{mode_in}
use Rattle.tx_run.specs.Lent.{Lent, IsFor}

-- of lines that are held the bytes are those of storage, but for those in text pages, which are the image's
abbrev pub with_lines_of : List ℕ → (ℕ → Option Mode) → Storage → Storage → Storage
with_lines_of text held from old a =
    if is_some (held (a / 256)) && not (list_any (nat_eq (a / 4096)) text) then from a else old a

-- a run has these lines, in these modes and with these bytes, and all else is as it was
pub record HasLines (modes : ℕ → Option Mode) (from : Storage) (r other : Lent) : Type 0 where
  pub held : (line : ℕ) → mode_in other.held line ≡ modes line
  pub bytes : (a : ℕ) → bytes_at other.made.own.now a ≡ with_lines_of r.text modes from (bytes_at r.made.own.now) a
  pub start : other.made.start ≡ r.made.start
  pub reached : other.made.reached ≡ r.made.reached
  pub steps : other.made.steps ≡ r.made.steps
  pub loan : IsFor r other
