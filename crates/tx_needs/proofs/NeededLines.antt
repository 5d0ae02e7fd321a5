-- Lines that ranges need are lines of storage.
use Rattle.std.proofs.Common.{◌≡◌, ◌≢◌, ℕ, zero, suc, ◌+◌, ◌-◌, ◌<◌, ◌≤◌, Bool, true, false, List, [], ◌∷◌, ◌++◌}
use Rattle.std.proofs.Common.{length, get_or, refl, sym, ap, subst, ◌∙◌, arith}
use Rattle.std.specs.Prelude.{nat_lt, nat_eq, if◌then◌else◌, All, fold, map}
use Rattle.std.specs.List.{flat_map, range_with_len}
use Rattle.std.proofs.lemmas.Bool.{eqb-false}
use Rattle.std.proofs.lemmas.List.Elements.{All-head, All-tail, All-nil, All-cons}
use Rattle.z_regs.specs.Prefix.{storage_size}
use Rattle.z_regs.specs.Rising.{with_number}
use Rattle.z_regs.specs.declared.ranges.Range.{Range}
use Rattle.line_table.specs.Sizes.{storage_lines}
use Rattle.tx_meaning.specs.declared.asking.Need.{Need}
use Rattle.tx_meaning.specs.Needs.{needs_of, lines_of, first_line, last_line, rising}
use Rattle.tx_needs.specs.Needs.{need_at}

-- each of these is a line of storage
abbrev AllSmall : List ℕ → Type 0
AllSmall [] = Unit {0}
AllSmall (line ∷ rest) = (line < storage_lines) × AllSmall rest

small_with_by : (n line : ℕ) (rest more : List ℕ) (less same : Bool) → n < storage_lines
    → AllSmall (line ∷ rest) → AllSmall more
    → AllSmall (if less then line ∷ more else (if same then line ∷ rest else n ∷ line ∷ rest))
small_with_by n line rest more true same lt small put = (small.0, put)
small_with_by n line rest more false true lt small put = small
small_with_by n line rest more false false lt small put = (lt, small)

small_with : (n : ℕ) (sorted : List ℕ) → n < storage_lines → AllSmall sorted → AllSmall (with_number sorted n)
small_with n [] lt small = (lt, tt)
small_with n (line ∷ rest) lt small =
    small_with_by n line rest (with_number rest n) (nat_lt line n) (nat_eq line n) lt small
    (small_with n rest lt small.1)

small_rising : (numbers sorted : List ℕ) → AllSmall numbers → AllSmall sorted
    → AllSmall (fold with_number sorted numbers)
small_rising [] sorted small so = so
small_rising (n ∷ rest) sorted small so =
    small_rising rest (with_number sorted n) small.1 (small_with n sorted small.0 so)

small_range : (a n : ℕ) → a + n ≤ storage_lines → AllSmall (range_with_len a n)
small_range a zero le = tt
small_range a (suc n) le = (omega arith, small_range (a + 1) n (omega arith))

small_append : (xs ys : List ℕ) → AllSmall xs → AllSmall ys → AllSmall (xs ++ ys)
small_append [] ys small more = more
small_append (x ∷ xs) ys small more = (small.0, small_append xs ys small.1 more)

small_lines_by : (r : Range) (b : Bool) → nat_eq r.length 0 ≡ b → r.first + r.length ≤ storage_size
    → AllSmall (if b then [] else range_with_len (first_line r) (last_line r + 1 - first_line r))
small_lines_by r true e within = tt
small_lines_by r false e within =
    let some : r.length ≢ 0 = eqb-false r.length 0 e in
    let last : last_line r < storage_lines = omega arith in
    let first : first_line r < storage_lines = omega arith in
    small_range (first_line r) (last_line r + 1 - first_line r) (omega (arith, first, last))

small_ranges : (ranges : List Range) → All (λ (r : Range). r.first + r.length ≤ storage_size) ranges
    → AllSmall (flat_map lines_of ranges)
small_ranges [] within = tt
small_ranges (r ∷ rest) within =
    small_append (lines_of r) (flat_map lines_of rest)
    (small_lines_by r (nat_eq r.length 0) refl
    (All-head (λ (r : Range). r.first + r.length ≤ storage_size) r rest within))
    (small_ranges rest (All-tail (λ (r : Range). r.first + r.length ≤ storage_size) r rest within))

all_from_small : (lines : List ℕ) → AllSmall lines → All (λ line. line < storage_lines) lines
all_from_small [] small = All-nil (λ line. line < storage_lines)
all_from_small (line ∷ rest) small =
    All-cons (λ line. line < storage_lines) line rest small.0 (all_from_small rest small.1)

-- the lines of what is asked for are those that it was made of
pub mapped_lines : (f : ℕ → Need) → ((line : ℕ) → (f line).line ≡ line) → (lines : List ℕ)
    → map (λ (need : Need). need.line) (map f lines) ≡ lines
mapped_lines f same [] = refl
mapped_lines f same (line ∷ rest) =
    ap (λ l. l ∷ map (λ (need : Need). need.line) (map f rest)) (same line)
    ∙ ap (λ l. line ∷ l) (mapped_lines f same rest)

pub needed_in_storage : (ranges : List Range) (lines : List ℕ)
    → All (λ (r : Range). r.first + r.length ≤ storage_size) ranges
    → map (need_at ranges) lines ≡ needs_of ranges → All (λ line. line < storage_lines) lines
unfolding needs_of
needed_in_storage ranges lines within these =
    let sorted = rising (flat_map lines_of ranges) in
    let same : lines ≡ sorted =
    sym (mapped_lines (need_at ranges) (λ line. refl) lines) ∙ ap (map (λ (need : Need). need.line)) these
    ∙ mapped_lines (need_at ranges) (λ line. refl) sorted in
    subst (All (λ line. line < storage_lines)) (sym same)
    (all_from_small sorted (small_rising (flat_map lines_of ranges) [] (small_ranges ranges within) tt))

-- the line of one of the needs
pub line_in_storage : (ranges : List Range) (lines : List ℕ) (i : ℕ) (need : Need)
    → All (λ (r : Range). r.first + r.length ≤ storage_size) ranges
    → map (need_at ranges) lines ≡ needs_of ranges → i < length lines
    → need ≡ need_at ranges (get_or lines i 0) → need.line < storage_lines
line_in_storage ranges lines i need within these lt this =
    subst (λ (n : Need). n.line < storage_lines) (sym this) (needed_in_storage ranges lines within these i 0 lt)
