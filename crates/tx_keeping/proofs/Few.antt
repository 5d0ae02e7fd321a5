-- The lines that a turn needs are few: with all that a live attempt has touched no more than a CPU may hold.
use Rattle.std.proofs.Common.{◌≡◌, ◌≢◌, ℕ, ◌+◌, ◌-◌, ◌*◌, ◌/◌, ◌<◌, ◌≤◌, Bool, true, false, eqb, List, []}
use Rattle.std.proofs.Common.{◌∷◌, ◌++◌, Option, Some, None, refl, sym, ap, subst, ◌∙◌, arith, length, map}
use Rattle.std.specs.Prelude.{◌||◌, ◌&&◌, not, nat_le, cond, All, Ok}
use Rattle.std.specs.List.{list_any}
use Rattle.std.proofs.lemmas.Bool.{or_cases, or_left, or_right, cases_eq, eq-eqb, and_parts, leb-false}
use Rattle.std.proofs.lemmas.List.Folds.{list_any-append}
use Rattle.std.proofs.lemmas.List.Elements.{All-head, All-tail}
use borrow.Enum.Arm.{by_way}
use Rattle.bit_set.specs.Counts.{count_below}
use Rattle.bit_set.proofs.Counts.{count_agree, count_le, count_or, count_none, count_listed}
use Rattle.z_regs.specs.Absolute.{absolute_range, absolute_ranges, part_of, to_edge}
use Rattle.z_regs.specs.Prefix.{absolute_of}
use Rattle.z_regs.specs.declared.ranges.Range.{Range}
use Rattle.z_regs.proofs.Elements.{or_across}
use Rattle.z_instr.specs.declared.instr.Instr.{Instr}
use Rattle.z_instr.specs.declared.operand.Operands.{Operands}
use Rattle.z_instr.specs.Operands.{Span, IsSmall, spans, spans_in, selects}
use Rattle.z_instr.specs.Table.{entry_at}
use Rattle.line_table.specs.Sizes.{storage_lines}
use Rattle.tx_footprint.specs.Sizes.{line_size}
use Rattle.tx_footprint.specs.Places.{has_place, fetches, stores}
use Rattle.tx_footprint.specs.Touched.{Sets, untouched, touching, fit_of}
use Rattle.tx_footprint.proofs.Limits.{fits_from}
use Rattle.tx_meaning.specs.Needs.{needs_of, operand_needs, interruption_ranges}
use Rattle.tx_meaning.specs.Changes.{is_needed}
use Rattle.tx_meaning.proofs.Needs.{needed_lines}
use Rattle.std.proofs.Math.ListN.{length-map}
use Rattle.z_instr.specs.declared.operand.Operands.TheVariants.{Absent, Fetched, Stored, FetchedMany}
use Rattle.z_instr.specs.declared.operand.Operands.TheVariants.{StoredMany}
use Rattle.z_instr.specs.declared.operand.Operands.TheVariants.{FetchedSelected, StoredSelected}
use Rattle.z_instr.specs.declared.operand.Operands.TheVariants.{StoredAndFetched}
use Rattle.z_instr.specs.declared.operand.Operands.TheVariants.{BothFetched}
use Rattle.z_instr.proofs.SmallOperands.{sizes}
use Rattle.tx_serial.specs.Refusals.{range_of}
use Rattle.tx_serial.specs.Attempt.{footprint}
use Rattle.tx_serial.specs.Fate.{Goes, operands}
use Rattle.tx_serial.specs.Flat.{FlatState}
use Rattle.tx_serial.specs.Run.{run}
use Rattle.tx_serial.proofs.Passing.{passes, fits_in}
use Rattle.tx_progress.specs.Progress.{Progress}
use Rattle.tx_progress.specs.Local.{Local}
use Rattle.tx_progress.specs.Reached.{IsFollowed, progress_of}
use Rattle.tx_progress.specs.Trial.{fate_by_progress}
use Rattle.tx_progress.proofs.Facts.{live_nest}
use Rattle.tx_progress.proofs.Parts.{followed_fate}
use Rattle.tx_progress.proofs.Standing.{tests_find_nothing}
use Rattle.tx_meaning.specs.Limits.{Setting}
use Rattle.tx_meaning.specs.State.{is_live}
use Rattle.tx_keeping.specs.Kept.{Kept, kept_flat, kept_footprint, text_of}
use Rattle.tx_keeping.proofs.Truth.{live_is}
use Rattle.tx_keeping.proofs.Moves.{IsGood}
use Rattle.tx_keeping.proofs.Asking.{not_live_untouched}
use Rattle.tx_keeping.proofs.Needing.{spot}
use Rattle.tx_keeping.proofs.Room.{HasRoom}

-- ---- the lines of one range

-- at most 256 bytes lie in two lines
two_lines : (r : Range) (line : ℕ) → r.length ≤ 256 → has_place line_size r line ≡ true
    → list_any (λ x. eqb x line) (r.first / line_size ∷ (r.first / line_size + 1) ∷ []) ≡ true
unfolding has_place
two_lines r line small h =
    let s = spot r.first r.length line h in
    let first = r.first / line_size in
    by_way (cases_eq first line)
    (λ e. or_left (eqb first line) (eqb (first + 1) line || false) (eq-eqb first line e))
    (λ ne. let next : first + 1 ≡ line = omega (arith, s.low, s.high, s.there, small, ne) in
    or_right (eqb first line) (eqb (first + 1) line || false)
    (or_left (eqb (first + 1) line) false (eq-eqb (first + 1) line next)))

range_count : (n : ℕ) (r : Range) → r.length ≤ 256 → count_below n (has_place line_size r) ≤ 2
range_count n r small =
    let xs = r.first / line_size ∷ (r.first / line_size + 1) ∷ [] in
    let le = count_le n (has_place line_size r) (λ line. list_any (λ x. eqb x line) xs)
    (λ line lt h. two_lines r line small h) in
    omega (arith, le, count_listed n xs)

-- ---- the lines of ranges

abbrev pub AreShort : List Range → Type 0
AreShort [] = Unit {0}
AreShort (r ∷ rs) = (r.length ≤ 256) × AreShort rs

abbrev in_any : List Range → ℕ → Bool
in_any ranges line = list_any (λ r. has_place line_size r line) ranges

any_count : (n : ℕ) (ranges : List Range) → AreShort ranges
    → count_below n (in_any ranges) ≤ 2 * length ranges
any_count n [] short = omega (arith, count_none n (λ line. false) (λ k lt. refl))
any_count n (r ∷ rs) short =
    omega (
      arith,
      count_or n (has_place line_size r)
          (in_any rs),
      range_count n r short.0,
      any_count n rs short.1,
    )

-- by absolute addresses
record AreParts (n : ℕ) (parts : List Range) : Type 0 where
  short : AreShort parts
  few : length parts ≤ n

split_parts : (p : ℕ) (r : Range) (b : Bool) → r.length ≤ 256 → nat_le r.length (to_edge r.first) ≡ b
    → AreParts 2 (cond b
    (part_of r (absolute_of (Some p) r.first) r.length ∷ [])
    (part_of r (absolute_of (Some p) r.first) (to_edge r.first) ∷
    part_of r (absolute_of (Some p) (r.first + to_edge r.first)) (r.length - to_edge r.first) ∷ []))
split_parts p r true small e = record { short = (small, tt); few = omega arith }
split_parts p r false small e =
    let edge : to_edge r.first < r.length = leb-false r.length (to_edge r.first) e in
    let first : to_edge r.first ≤ 256 = omega (arith, edge, small) in
    let second : r.length - to_edge r.first ≤ 256 = omega (arith, small) in
    record { short = (first, (second, tt)); few = omega arith }

absolute_parts : (prefix : Option ℕ) (r : Range) → r.length ≤ 256 → AreParts 2 (absolute_range prefix r)
unfolding absolute_range
absolute_parts None r small = record { short = (small, tt); few = omega arith }
absolute_parts (Some p) r small = split_parts p r (nat_le r.length (to_edge r.first)) small refl

any_append : (xs ys : List Range) (line : ℕ) → in_any (xs ++ ys) line ≡ (in_any xs line || in_any ys line)
any_append xs ys line = list_any-append (λ r. has_place line_size r line) xs ys

absolute_count : (n : ℕ) (prefix : Option ℕ) (ranges : List Range) → AreShort ranges
    → count_below n (in_any (absolute_ranges prefix ranges)) ≤ 4 * length ranges
absolute_count n prefix [] short = omega (arith, count_none n (λ line. false) (λ k lt. refl))
absolute_count n prefix (r ∷ rs) short =
    let parts = absolute_parts prefix r short.0 in
    let one = any_count n (absolute_range prefix r) parts.short in
    let rest = absolute_count n prefix rs short.1 in
    let all = count_agree n (in_any (absolute_ranges prefix (r ∷ rs)))
    (λ line. in_any (absolute_range prefix r) line || in_any (absolute_ranges prefix rs) line)
    (λ line lt. any_append (absolute_range prefix r) (absolute_ranges prefix rs) line) in
    omega (
      arith,
      one,
      rest,
      all,
      parts.few,
      count_or n (in_any (absolute_range prefix r)) (in_any (absolute_ranges prefix rs)),
    )

some_any : (test : Range → Bool) (ranges : List Range) (line : ℕ)
    → list_any (λ r. test r && has_place line_size r line) ranges ≡ true → in_any ranges line ≡ true
some_any test [] line h = h
some_any test (r ∷ rs) line h =
    by_way (or_cases (test r && has_place line_size r line)
    (list_any (λ r. test r && has_place line_size r line) rs) h)
    (λ here. or_left (has_place line_size r line) (in_any rs line)
    (and_parts (test r) (has_place line_size r line) here).1)
    (λ later. or_right (has_place line_size r line) (in_any rs line) (some_any test rs line later))

touched_any : (ranges : List Range) (line : ℕ) → (fetches ranges line || stores ranges line) ≡ true
    → in_any ranges line ≡ true
touched_any ranges line h =
    by_way (or_cases (fetches ranges line) (stores ranges line) h)
    (λ f. some_any (λ r. not r.store) ranges line f) (λ s. some_any (λ r. r.store) ranges line s)

-- ---- a CPU that has touched nothing

pub untouched_room : (sets : Sets) (prefix : Option ℕ) (ranges : List Range) → sets ≡ untouched
    → AreShort ranges
    → length ranges ≤ 96 → HasRoom sets (operand_needs prefix ranges)
untouched_room sets prefix ranges none short few =
    let abs = absolute_ranges prefix ranges in
    let le = count_le storage_lines (λ line. (sets.fetched line || sets.stored line) || is_needed (needs_of abs) line)
    (in_any abs) (λ line lt h. touched_any abs line
    (sym (needed_lines abs line)
    ∙ ap (λ (s : Sets). (s.fetched line || s.stored line) || is_needed (needs_of abs) line) (sym none)
    ∙ h)) in
    record { few = omega (arith, le, absolute_count storage_lines prefix ranges short, few) }

pub small_interruption : (block : Option (List ℕ)) → AreShort (interruption_ranges block)
small_interruption None = (omega arith, (omega arith, (omega arith, tt)))
small_interruption (Some bytes) = (omega arith, (omega arith, (omega arith, (omega arith, tt))))

pub few_interruption : (block : Option (List ℕ)) → length (interruption_ranges block) ≤ 96
few_interruption None = omega arith
few_interruption (Some bytes) = omega arith

-- ---- an attempt that keeps the limits

pub fitting_room : (sets : Sets) (prefix : Option ℕ) (ranges : List Range)
    → fit_of (touching sets (absolute_ranges prefix ranges)) ≡ Ok tt
    → HasRoom sets (operand_needs prefix ranges)
fitting_room sets prefix ranges fits =
    let abs = absolute_ranges prefix ranges in
    let most = (fits_from (touching sets abs) fits).0 in
    let same = count_agree storage_lines
    (λ line. (sets.fetched line || sets.stored line) || is_needed (needs_of abs) line)
    (λ line. (sets.fetched line || fetches abs line) || (sets.stored line || stores abs line))
    (λ line lt. ap (λ b. (sets.fetched line || sets.stored line) || b) (needed_lines abs line)
    ∙ or_across (sets.fetched line) (sets.stored line) (fetches abs line) (stores abs line)) in
    record { few = omega (arith, same, most) }

-- ---- what a turn needs

pub resting_room : (m : Setting) (k : Kept) (i : ℕ) (prefix : Option ℕ) (ranges : List Range) → IsGood m k
    → is_live k.state i ≡ false → AreShort ranges → length ranges ≤ 96
    → HasRoom (kept_footprint k i) (operand_needs prefix ranges)
resting_room m k i prefix ranges g off short few =
    untouched_room (kept_footprint k i) prefix ranges (not_live_untouched m k i g.truth off) short few

all_short : (ss : List Span) → All IsSmall ss → AreShort (map range_of ss)
all_short [] h = tt
all_short (s ∷ ss) h = ((All-head IsSmall s ss h).most, all_short ss (All-tail IsSmall s ss h))

selected_few : (b : Bool) (s : Span) → length (cond b (s ∷ []) []) ≤ 96
selected_few true s = omega arith
selected_few false s = omega arith

spans_few : (o : Operands) (i : Instr) (general : List ℕ) (code : ℕ) → length (spans_in o i general code) ≤ 96
unfolding spans_in
spans_few Absent i general code = omega arith
spans_few (Fetched size) i general code = omega arith
spans_few (Stored size) i general code = omega arith
spans_few (FetchedMany size) i general code = omega arith
spans_few (StoredMany size) i general code = omega arith
spans_few FetchedSelected i general code = selected_few (selects i.mask code) _
spans_few StoredSelected i general code = selected_few (selects i.mask code) _
spans_few StoredAndFetched i general code = omega arith
spans_few BothFetched i general code = omega arith

record Goes_so (q : Progress) (ranges : List Range) : Type 0 where
  short : AreShort ranges
  few : length ranges ≤ 96
  fits : q.nest ≢ [] → fit_of (touching q.footprint (absolute_ranges q.cpu.prefix ranges)) ≡ Ok tt

goes_so : (f : FlatState) (i : ℕ) (local : Local) (instr : Instr) (ranges : List Range) → IsFollowed f i local
    → fate_by_progress f.text f.storage local.attempt ≡ Goes instr ranges → Goes_so local.attempt ranges
unfolding progress_of
goes_so f i local instr ranges h goes =
    let p = run f i local.attempt.count in
    let pass = passes f.text p instr ranges (followed_fate f i local h ∙ goes) in
    let nothing = tests_find_nothing f.text p instr pass.passed in
    let ss = spans instr p.cpu.general p.cpu.condition in
    let few : length (operands instr p.cpu) ≤ 96 =
    omega (
      arith,
      length-map ss range_of,
      spans_few (entry_at instr.op.number).operands instr p.cpu.general p.cpu.condition,
    ) in
    record {
      short = subst AreShort (sym pass.touches) (all_short ss
          (sizes (entry_at instr.op.number).operands instr p.cpu.general p.cpu.condition));
      few = subst (λ rs. length rs ≤ 96) (sym pass.touches) few;
      fits = λ some.
          subst (λ rs. fit_of (touching local.attempt.footprint
          (absolute_ranges local.attempt.cpu.prefix rs)) ≡ Ok tt)
          (sym pass.touches)
          (subst (λ (q : Progress). fit_of (touching q.footprint (absolute_ranges q.cpu.prefix
          (operands instr p.cpu)))
          ≡ Ok tt) h.attempt
          (fits_in p.nest (touching (footprint p) (absolute_ranges p.cpu.prefix (operands instr p.cpu)))
          (λ none. some (ap (λ (q : Progress). q.nest) (sym h.attempt) ∙ none)) nothing.overflow));
    }

instruction_by : (m : Setting) (k : Kept) (i : ℕ) (ranges : List Range) (live : Bool) → IsGood m k
    → is_live k.state i ≡ live → Goes_so (k.locals i).attempt ranges
    → HasRoom (kept_footprint k i) (operand_needs (k.locals i).attempt.cpu.prefix ranges)
instruction_by m k i ranges true g live so =
    fitting_room (kept_footprint k i) (k.locals i).attempt.cpu.prefix ranges
    (so.fits (live_nest (kept_flat m k) i (k.locals i) (g.truth.each i).followed
    (sym (live_is m k g.truth i) ∙ live)))
instruction_by m k i ranges false g off so =
    resting_room m k i (k.locals i).attempt.cpu.prefix ranges g off so.short so.few

pub instruction_room : (m : Setting) (k : Kept) (i : ℕ) (instr : Instr) (ranges : List Range) → IsGood m k
    → fate_by_progress (text_of m) k.storage (k.locals i).attempt ≡ Goes instr ranges
    → HasRoom (kept_footprint k i) (operand_needs (k.locals i).attempt.cpu.prefix ranges)
instruction_room m k i instr ranges g goes =
    instruction_by m k i ranges (is_live k.state i) g refl
    (goes_so (kept_flat m k) i (k.locals i) instr ranges (g.truth.each i).followed goes)
