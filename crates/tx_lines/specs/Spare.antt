-- The line that a CPU gives up for another one.
use Rattle.std.specs.Prelude.{ℕ, Bool, true, false, ◌&&◌, ◌||◌, not, ◌==◌, is_some, List, Option, Some}
use Rattle.std.specs.List.{list_any}
use Rattle.line_table.specs.Sizes.{storage_lines}
use Rattle.line_table.specs.Holders.{Holders}
use Rattle.tx_footprint.specs.Touched.{Sets}
use Rattle.tx_meaning.specs.declared.asking.Need.{Need}
use Rattle.tx_meaning.specs.Changes.{has_room, giving_up}
use Rattle.line_table.specs.Holders.{holding}
use Rattle.tx_lines.specs.Next.{passing_from, first_of}

-- neither the attempt nor this turn needs the line
abbrev pub is_unused : Sets → List ℕ → ℕ → Bool
is_unused footprint needed line =
    not ((footprint.fetched line || footprint.stored line) || list_any (λ other. other == line) needed)

abbrev pub may_give_up : Holders → ℕ → Sets → List ℕ → ℕ → Bool
may_give_up held cpu footprint needed line = is_some (held cpu line) && is_unused footprint needed line

abbrev pub lowest_spare : Holders → ℕ → Sets → List ℕ → Option ℕ
lowest_spare held cpu footprint needed =
    first_of (passing_from (may_give_up held cpu footprint needed) storage_lines 0)

abbrev pub with_room : Bool → Holders → ℕ → Sets → List ℕ → Holders
with_room true held cpu footprint needed = held
with_room false held cpu footprint needed = giving_up held cpu (lowest_spare held cpu footprint needed)

-- a line granted, and another one given up before where that is due
abbrev pub granted : ℕ → Sets → List ℕ → Need → Holders → Holders
granted cpu footprint needed need held =
    holding (with_room (has_room held cpu need.line) held cpu footprint needed) cpu need.line (Some need.mode)
