-- Footprints and their limits: what is kept beside the marks stays true, and the counts are those of the
-- sets.
use Rattle.std.proofs.Common.{◌≡◌, ℕ, ◌+◌, ◌<◌, ◌≤◌, Bool, true, false, cond, ltb, List, [], ◌∷◌, length}
use Rattle.std.proofs.Common.{get_or, replicate, Result, Ok, Err, refl, sym, ap, subst, ◌∙◌, arith}
use Rattle.std.specs.Prelude.{◌||◌, ◌&&◌, not}
use Rattle.std.proofs.lemmas.Bool.{cases_lt, cond-true, cond-false, lt-ltb, le-ltb}
use Rattle.std.proofs.lemmas.List.{ext_get_or, length-replicate}
use borrow.Enum.Arm.{by_way}
use Rattle.bit_set.specs.Counts.{count_below}
use Rattle.bit_set.proofs.Counts.{count_agree, count_none, count_or}
use Rattle.bit_set.proofs.Marks.{blank_at}
use Rattle.z_regs.specs.declared.ranges.Range.{Range}
use Rattle.z_regs.proofs.Elements.{or_across}
use Rattle.line_table.specs.Sizes.{storage_lines}
use Rattle.tx_footprint.specs.declared.footprint.Overflow.{Overflow}
use Rattle.tx_footprint.specs.declared.footprint.Overflow.TheVariants.{Fetch, Store}
use Rattle.tx_footprint.specs.Sizes.{line_limit, block_limit}
use Rattle.tx_footprint.specs.declared.places.Kind.{Kind}
use Rattle.tx_footprint.specs.declared.places.Kind.TheVariants.{Line, FetchedLine, StoredLine, StoredBlock}
use Rattle.tx_footprint.specs.Sizes.{line_size, storage_blocks}
use Rattle.tx_footprint.specs.Places.{has_place, fetches, stores, touched_by, marked_or_touched}
use Rattle.tx_footprint.specs.Touched.{Sets, untouched, touching, line_count, block_count, fit_of}
use Rattle.tx_footprint.specs.Touched.{Touched, sets_of, IsKept}
use Rattle.std.proofs.Math.Bool.{or-false}

-- ---- a line is touched where it is fetched or stored

pub either_way : (store has f s : Bool) → (has || (f || s)) ≡ (((not store && has) || f) || ((store && has) || s))
either_way true true true s = refl
either_way true true false s = refl
either_way true false f s = refl
either_way false true f s = refl
either_way false false f s = refl

touched_line : (ranges : List Range) (line : ℕ)
    → touched_by Line ranges line ≡ (fetches ranges line || stores ranges line)
touched_line [] line = refl
touched_line (r ∷ rs) line =
    ap (λ b. has_place line_size r line || b) (touched_line rs line)
    ∙ either_way r.store (has_place line_size r line) (fetches rs line) (stores rs line)

union_after : (f s t : Bool) (ranges : List Range) (line : ℕ) → t ≡ (f || s)
    → (t || touched_by Line ranges line) ≡ ((f || fetches ranges line) || (s || stores ranges line))
union_after f s t ranges line e =
    ap (λ b. b || touched_by Line ranges line) e ∙ ap (λ b. (f || s) || b) (touched_line ranges line)
    ∙ or_across f s (fetches ranges line) (stores ranges line)

-- ---- whether sets fit

-- the second limit, which is tested where the first is kept
abbrev blocks_fit : Sets → Result (Unit {0}) Overflow
blocks_fit sets = cond (ltb block_limit (block_count sets)) (Err Store) (Ok tt)

pub too_many_lines : (sets : Sets) → line_limit < line_count sets → fit_of sets ≡ Err Fetch
too_many_lines sets lt =
    cond-true (ltb line_limit (line_count sets)) (Err Fetch) (blocks_fit sets) (lt-ltb _ _ lt)

pub lines_fit : (sets : Sets) → line_count sets ≤ line_limit → fit_of sets ≡ blocks_fit sets
lines_fit sets le =
    cond-false (ltb line_limit (line_count sets)) (Err Fetch) (blocks_fit sets) (le-ltb _ _ le)

pub too_many_blocks : (sets : Sets) → line_count sets ≤ line_limit → block_limit < block_count sets
    → fit_of sets ≡ Err Store
too_many_blocks sets le lt =
    lines_fit sets le ∙ cond-true (ltb block_limit (block_count sets)) (Err Store) (Ok tt) (lt-ltb _ _ lt)

pub all_fit : (sets : Sets) → line_count sets ≤ line_limit → block_count sets ≤ block_limit
    → fit_of sets ≡ Ok tt
all_fit sets le few =
    lines_fit sets le ∙ cond-false (ltb block_limit (block_count sets)) (Err Store) (Ok tt) (le-ltb _ _ few)

pub fits_from : (sets : Sets) → fit_of sets ≡ Ok tt
    → (line_count sets ≤ line_limit) × (block_count sets ≤ block_limit)
fits_from sets e =
    by_way (cases_lt line_limit (line_count sets))
    (λ over. let n : Err Fetch ≡ Ok tt = sym (too_many_lines sets over) ∙ e in cc)
    (λ le. by_way (cases_lt block_limit (block_count sets))
    (λ over. let n : Err Store ≡ Ok tt = sym (too_many_blocks sets le over) ∙ e in cc)
    (λ few. (le, few)))

-- no ranges touch nothing more
pub nothing_more : (sets : Sets) (ranges : List Range) → length ranges ≡ 0 → touching sets ranges ≡ sets
nothing_more sets [] e = λ i. record {
  fetched = λ line. or-false (sets.fetched line) i;
  stored = λ line. or-false (sets.stored line) i;
  blocks = λ block. or-false (sets.blocks block) i;
}
nothing_more sets (r ∷ rs) e = absurd (omega arith)

-- ---- nothing is touched

-- marks of their size, none of them set
pub record AreClear (size : ℕ) (marks : List Bool) : Type 0 where
  pub size_is : length marks ≡ size
  pub none : (k : ℕ) → get_or marks k false ≡ false

pub are_clear : {marks : List Bool} (n size : ℕ) → marks ≡ replicate n false → n ≡ size → AreClear size marks
are_clear n size is same = record {
  size_is = ap length is ∙ length-replicate n false ∙ same;
  none = λ k. ap (λ l. get_or l k false) is ∙ blank_at n k false;
}

pub nothing_kept : {touched fetched stored blocks : List Bool} → AreClear storage_lines touched
    → AreClear storage_lines fetched
    → AreClear storage_lines stored → AreClear storage_blocks blocks → IsKept touched fetched stored blocks 0 0
nothing_kept {touched} {fetched} {stored} {blocks} no_touched no_fetched no_stored no_blocks =
    record {
      touched_size = no_touched.size_is;
      fetched_size = no_fetched.size_is;
      stored_size = no_stored.size_is;
      blocks_size = no_blocks.size_is;
      union = λ k. no_touched.none k
          ∙ sym (ap (λ b. b || get_or stored k false) (no_fetched.none k) ∙ no_stored.none k);
      counted_lines = sym (count_none storage_lines (λ k. get_or touched k false) (λ k _. no_touched.none k));
      counted_blocks = sym (count_none storage_blocks (λ k. get_or blocks k false) (λ k _. no_blocks.none k));
      most_lines = omega arith;
      most_blocks = omega arith;
    }

pub nothing_touched : {fetched stored blocks : List Bool} → AreClear storage_lines fetched → AreClear storage_lines stored
    → AreClear storage_blocks blocks
    → sets_of (record { fetched = fetched; stored = stored; blocks = blocks }) ≡ untouched
nothing_touched no_fetched no_stored no_blocks = λ i. record {
  fetched = λ k. no_fetched.none k i;
  stored = λ k. no_stored.none k i;
  blocks = λ k. no_blocks.none k i;
}

-- ---- ranges are added

-- the places of this kind that ranges touch were added to the marks
pub record AreAdded (kind : Kind) (ranges : List Range) (before after : List Bool) : Type 0 where
  pub size : length after ≡ length before
  pub marks : (k : ℕ) → get_or after k false ≡ marked_or_touched before kind ranges k

-- of a footprint with these marks and counts
module _ {touched fetched stored blocks : List Bool} {lines stored_blocks : ℕ}
    (kept : IsKept touched fetched stored blocks lines stored_blocks) (ranges : List Range) where
  -- the sets with the ranges
  abbrev after : Sets
  after = touching (sets_of (record { fetched = fetched; stored = stored; blocks = blocks })) ranges

  together : (k : ℕ) → marked_or_touched touched Line ranges k ≡ (after.fetched k || after.stored k)
  together k =
      union_after (get_or fetched k false) (get_or stored k false) (get_or touched k false) ranges k
      (kept.union k)

  -- so many places of a kind that were not marked are touched
  abbrev Adds : ℕ → ℕ → List Bool → Kind → Type 0
  Adds added size marks kind =
      added + count_below size (λ k. get_or marks k false) ≡ count_below size
      (marked_or_touched marks kind ranges)

  lines_counted : (added : ℕ) → Adds added storage_lines touched Line → lines + added ≡ line_count after
  lines_counted added counted =
      let alike =
      count_agree storage_lines (marked_or_touched touched Line ranges) (λ k. after.fetched k || after.stored k)
      (λ k _. together k) in
      omega (arith, kept.counted_lines, counted, alike)

  -- the counts of what the footprint is seen as
  pub lines_after : {seen : Touched} (added : ℕ)
      → record { fetched = fetched; stored = stored; blocks = blocks } ≡ seen → Adds added storage_lines touched Line
      → lines + added ≡ line_count (touching (sets_of seen) ranges)
  lines_after added view_is counted =
      lines_counted added counted ∙ ap (λ (v : Touched). line_count (touching (sets_of v) ranges)) view_is

  pub blocks_after : {seen : Touched} (added : ℕ)
      → record { fetched = fetched; stored = stored; blocks = blocks } ≡ seen
      → Adds added storage_blocks blocks StoredBlock
      → stored_blocks + added ≡ block_count (touching (sets_of seen) ranges)
  blocks_after added view_is counted =
      let here : stored_blocks + added ≡ block_count after = omega (arith, kept.counted_blocks, counted) in
      here ∙ ap (λ (v : Touched). block_count (touching (sets_of v) ranges)) view_is

  -- the same counts from the marks before and after
  adds : {marks marks' : List Bool} (kind : Kind) (added size : ℕ) → AreAdded kind ranges marks marks'
      → added + count_below size (λ k. get_or marks k false) ≡ count_below size (λ k. get_or marks' k false)
      → Adds added size marks kind
  adds {marks} {marks'} kind added size are_added counted =
      counted
      ∙ count_agree size (λ k. get_or marks' k false) (marked_or_touched marks kind ranges)
      (λ k _. are_added.marks k)

  pub lines_marked : {seen : Touched} {touched' : List Bool} (added : ℕ)
      → record { fetched = fetched; stored = stored; blocks = blocks } ≡ seen
      → AreAdded Line ranges touched touched'
      → added + count_below storage_lines (λ k. get_or touched k false) ≡ count_below
      storage_lines (λ k. get_or touched' k false)
      → lines + added ≡ line_count (touching (sets_of seen) ranges)
  lines_marked added view_is are_added counted =
      lines_after added view_is (adds Line added storage_lines are_added counted)

  pub blocks_marked : {seen : Touched} {blocks' : List Bool} (added : ℕ)
      → record { fetched = fetched; stored = stored; blocks = blocks } ≡ seen
      → AreAdded StoredBlock ranges blocks blocks'
      → added + count_below storage_blocks (λ k. get_or blocks k false) ≡ count_below
      storage_blocks (λ k. get_or blocks' k false)
      → stored_blocks + added ≡ block_count (touching (sets_of seen) ranges)
  blocks_marked added view_is are_added counted =
      blocks_after added view_is (adds StoredBlock added storage_blocks are_added counted)

  -- marks and touched places together are no more than both
  at_most : (marks : List Bool) (kind : Kind) (size most : ℕ)
      → count_below size (touched_by kind ranges) ≤ most
      → count_below size (marked_or_touched marks kind ranges) ≤ count_below size (λ k. get_or marks k false)
      + most
  at_most marks kind size most le =
      omega (arith, le, count_or size (λ k. get_or marks k false) (touched_by kind ranges))

  -- no more lines and blocks than before and a bound on those that are touched
  pub most_lines_after : {seen : Touched} (most : ℕ)
      → record { fetched = fetched; stored = stored; blocks = blocks } ≡ seen
      → count_below storage_lines (touched_by Line ranges) ≤ most
      → line_count (touching (sets_of seen) ranges) ≤ lines + most
  most_lines_after most view_is le =
      let alike =
      count_agree storage_lines (marked_or_touched touched Line ranges) (λ k. after.fetched k || after.stored k)
      (λ k _. together k) in
      let here : line_count after ≤ lines + most =
      omega (arith, alike, kept.counted_lines, at_most touched Line storage_lines most le) in
      subst (λ (v : Touched). line_count (touching (sets_of v) ranges) ≤ lines + most) view_is here

  pub most_blocks_after : {seen : Touched} (most : ℕ)
      → record { fetched = fetched; stored = stored; blocks = blocks } ≡ seen
      → count_below storage_blocks (touched_by StoredBlock ranges) ≤ most
      → block_count (touching (sets_of seen) ranges) ≤ stored_blocks + most
  most_blocks_after most view_is le =
      let here : block_count after ≤ stored_blocks + most =
      omega (arith, kept.counted_blocks, at_most blocks StoredBlock storage_blocks most le) in
      subst (λ (v : Touched). block_count (touching (sets_of v) ranges) ≤ stored_blocks + most) view_is here

  pub added_kept : {seen : Touched} {touched' fetched' stored' blocks' : List Bool}
      {lines' stored_blocks' : ℕ}
      → record { fetched = fetched; stored = stored; blocks = blocks } ≡ seen
      → AreAdded Line ranges touched touched' → AreAdded FetchedLine ranges fetched fetched'
      → AreAdded StoredLine ranges stored stored' → AreAdded StoredBlock ranges blocks blocks'
      → lines' ≡ line_count (touching (sets_of seen) ranges) → lines' ≤ line_limit
      → stored_blocks' ≡ block_count (touching (sets_of seen) ranges) → stored_blocks' ≤ block_limit
      → IsKept touched' fetched' stored' blocks' lines' stored_blocks'
  added_kept {seen} {touched'} {fetched'} {stored'} {blocks'} view_is t f s b lines_are few_lines blocks_are
      few_blocks =
      record {
        touched_size = t.size ∙ kept.touched_size;
        fetched_size = f.size ∙ kept.fetched_size;
        stored_size = s.size ∙ kept.stored_size;
        blocks_size = b.size ∙ kept.blocks_size;
        union = λ k. t.marks k ∙ together k
            ∙ sym (ap (λ x. x || get_or stored' k false) (f.marks k)
            ∙ ap (λ x. after.fetched k || x) (s.marks k));
        counted_lines = lines_are
            ∙ sym (ap (λ (v : Touched). line_count (touching (sets_of v) ranges)) view_is)
            ∙ sym (count_agree storage_lines (λ k. get_or touched' k false) (λ k. after.fetched k || after.stored k)
            (λ k _. t.marks k ∙ together k));
        counted_blocks = blocks_are
            ∙ sym (ap (λ (v : Touched). block_count (touching (sets_of v) ranges)) view_is)
            ∙ sym (count_agree storage_blocks (λ k. get_or blocks' k false) after.blocks (λ k _. b.marks k));
        most_lines = few_lines;
        most_blocks = few_blocks;
      }

-- marks of one size are equal where their sets are
pub same_marks : (a b : List Bool) → length a ≡ length b → ((k : ℕ) → get_or a k false ≡ get_or b k false)
    → a ≡ b
same_marks a b size same = ext_get_or false a b size (λ k _. same k)

-- the marks inside two footprints have the same sets where the footprints do
pub sets_inside : {marks others : Touched} {seen also : Touched} → marks ≡ seen → others ≡ also
    → sets_of seen ≡ sets_of also → sets_of marks ≡ sets_of others
sets_inside is also_is same = ap sets_of is ∙ same ∙ sym (ap sets_of also_is)

-- footprints are seen with the same sets where the marks inside them are the same
pub sets_outside : {marks others seen also : Touched} → marks ≡ seen → others ≡ also
    → marks.fetched ≡ others.fetched → marks.stored ≡ others.stored → marks.blocks ≡ others.blocks
    → sets_of seen ≡ sets_of also
sets_outside {marks} {others} is also_is fetched stored blocks =
    let same : marks ≡ others = λ i. record { fetched = fetched i; stored = stored i; blocks = blocks i } in
    ap sets_of (sym is ∙ same ∙ also_is)
