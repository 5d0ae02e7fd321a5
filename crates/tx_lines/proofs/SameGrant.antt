-- A grant by the lines that a turn needs is one by its needs.
use Rattle.std.proofs.Common.{◌≡◌, ℕ, Bool, true, false, List, [], ◌∷◌, refl, ap, ◌∙◌, is_some, map, Some}
use Rattle.std.specs.Prelude.{◌&&◌, ◌||◌, not, ◌==◌}
use Rattle.std.specs.List.{list_any, filter, range_with_len}
use Rattle.line_table.specs.Sizes.{storage_lines}
use Rattle.line_table.specs.Holders.{Holders, holding}
use Rattle.tx_footprint.specs.Touched.{Sets}
use Rattle.tx_meaning.specs.declared.asking.Need.{Need}
use Rattle.tx_meaning.specs.Changes as meaning
use Rattle.tx_meaning.specs.Changes.{granting, is_needed, is_spare, spare_line, lowest, giving_up, has_room}
use Rattle.tx_lines.specs.Next.{first_of}
use Rattle.tx_lines.specs.Spare.{may_give_up, lowest_spare, with_room, granted}
use Rattle.tx_lines.proofs.Next.{from_first}

abbrev pub lines_of_needs : List Need → List ℕ
lines_of_needs needs = map (λ need. need.line) needs

same_needed : (needs : List Need) (line : ℕ)
    → list_any (λ other. other == line) (lines_of_needs needs) ≡ is_needed needs line
same_needed [] line = refl
same_needed (n ∷ rest) line = ap (λ b. (n.line == line) || b) (same_needed rest line)

same_spare : (held : Holders) (cpu : ℕ) (footprint : Sets) (needs : List Need) (line : ℕ)
    → may_give_up held cpu footprint (lines_of_needs needs) line ≡ is_spare held cpu footprint needs line
same_spare held cpu footprint needs line =
    ap (λ b. is_some (held cpu line) && not ((footprint.fetched line || footprint.stored line) || b))
    (same_needed needs line)

same_first : (lines : List ℕ) → first_of lines ≡ lowest lines
same_first [] = refl
same_first (line ∷ rest) = refl

pub same_line : (held : Holders) (cpu : ℕ) (footprint : Sets) (needs : List Need)
    → lowest_spare held cpu footprint (lines_of_needs needs) ≡ spare_line held cpu footprint needs
same_line held cpu footprint needs =
    ap first_of (from_first (may_give_up held cpu footprint (lines_of_needs needs)) storage_lines)
    ∙ ap (λ (test : ℕ → Bool). first_of (filter test (range_with_len 0 storage_lines)))
    (λ i line. same_spare held cpu footprint needs line i)
    ∙ same_first (filter (is_spare held cpu footprint needs) (range_with_len 0 storage_lines))

same_room : (b : Bool) (held : Holders) (cpu : ℕ) (footprint : Sets) (needs : List Need)
    → with_room b held cpu footprint (lines_of_needs needs) ≡ meaning.with_room b held cpu footprint needs
same_room true held cpu footprint needs = refl
same_room false held cpu footprint needs = ap (giving_up held cpu) (same_line held cpu footprint needs)

pub same_grant : (cpu : ℕ) (footprint : Sets) (needs : List Need) (need : Need) (held : Holders)
    → granted cpu footprint (lines_of_needs needs) need held ≡ granting cpu footprint needs need held
unfolding granting
same_grant cpu footprint needs need held =
    ap (λ h. holding h cpu need.line (Some need.mode))
    (same_room (has_room held cpu need.line) held cpu footprint needs)
