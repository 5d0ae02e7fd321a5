-- Octowords of storage: which a turn asks for, which an attempt has touched, and whether these lie apart in
-- a line.
use Rattle.std.specs.Prelude.{ℕ, ◌*◌, Bool, ◌&&◌, ◌||◌, not, false, List}
use Rattle.std.specs.List.{list_any, range_with_len}
use Rattle.z_regs.specs.declared.ranges.Range.{Range}
use Rattle.tx_footprint.specs.Places.{has_place, stores}

-- the bytes of an octoword, the octowords of a line, and those of storage
abbrev pub octoword_size : ℕ
octoword_size = 32

abbrev pub octowords_in_line : ℕ
octowords_in_line = 8

abbrev pub storage_octowords : ℕ
storage_octowords = 32768

-- the octowords of a line, whose numbers are their first addresses divided by their size
abbrev pub octowords_of : ℕ → List ℕ
octowords_of line = range_with_len (octowords_in_line * line) octowords_in_line

-- ranges by absolute addresses have a byte of the octoword
unfoldable pub asks : List Range → ℕ → Bool
asks ranges octoword = list_any (λ r. has_place octoword_size r octoword) ranges

-- what an attempt has touched stands against a request for the octoword: against an exclusive one all of it,
-- against a shared one what it has stored into
unfoldable pub meets : Bool → List Range → ℕ → Bool
meets exclusive touched octoword =
    list_any (λ r. (exclusive || r.store) && has_place octoword_size r octoword) touched

-- no octoword of the line is both asked for and touched so; the line is asked for exclusively where the asker
-- stores into it
unfoldable pub are_apart : List Range → List Range → ℕ → Bool
are_apart asked touched line =
    not (list_any (λ octoword. asks asked octoword && meets (stores asked line) touched octoword)
    (octowords_of line))

-- a range that is fetched
abbrev pub fetched : ℕ → ℕ → Range
fetched first length = record { first = first; length = length; store = false }
