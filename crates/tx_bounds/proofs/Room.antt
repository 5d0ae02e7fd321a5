-- A constrained attempt has room in its footprint: its operands lie in few octowords, implied in few lines and
-- blocks.
use Rattle.std.proofs.Common.{◌≡◌, ◌≢◌, ℕ, zero, suc, ◌+◌, ◌*◌, ◌/◌, ◌≤◌, Bool, true, false, eqb}
use Rattle.std.proofs.Common.{List, [], ◌∷◌, ◌++◌, length, map, Option, Some, None, refl, sym, ap, ◌∙◌, subst}
use Rattle.std.proofs.Common.{arith}
use Rattle.std.specs.Prelude.{◌||◌, ◌&&◌, not, ◌==◌, nat_lt, if◌then◌else◌, Ok, Err}
use Rattle.std.specs.List.{list_any, flat_map, fold, range_with_len}
use Rattle.std.proofs.lemmas.Bool.{true≢false, or_left, or_right, or_cases, ltb-false, le-ltb}
use Rattle.std.proofs.lemmas.List.{length-map}
use Rattle.std.proofs.lemmas.List.Folds.{list_any-append}
use Rattle.std.proofs.lemmas.List.Concat.{flat_map-append}
use borrow.Enum.Arm.{by_way}
use Rattle.bit_set.specs.Counts.{count_below}
use Rattle.bit_set.proofs.Counts.{count_le, count_listed}
use Rattle.z_regs.specs.Cpu.{Cpu}
use Rattle.z_regs.specs.Prefix.{absolute_of, is_prefix}
use Rattle.z_regs.specs.Absolute.{absolute_range, absolute_ranges, addresses_of}
use Rattle.z_regs.specs.declared.ranges.Range.{Range}
use Rattle.z_regs.proofs.MovedBytes.{same_octowords}
use Rattle.z_instr.specs.declared.instr.Instr.{Instr}
use Rattle.z_instr.specs.Operands.{from_up}
use Rattle.z_instr.specs.Roles.{begins}
use Rattle.z_instr.specs.Table.{entry_at}
use Rattle.tx_control.specs.declared.begins.Begin.{Begin}
use Rattle.line_table.specs.Sizes.{storage_lines}
use Rattle.tx_constraint.specs.Bytes.{pieces}
use Rattle.tx_constraint.specs.Constraints.{Step}
use Rattle.tx_constraint.specs.Kept.{Kept, kept, next_operand_breach}
use Rattle.z_regs.specs.Rising.{with_number}
use Rattle.tx_constraint.specs.Octowords.{with_octowords}
use Rattle.z_regs.proofs.Rising.{any_all}
use Rattle.tx_constraint.proofs.Attempts.{unbroken}
use Rattle.tx_footprint.specs.Places.{has_place, fetches, stores, stores_block}
use Rattle.tx_footprint.specs.Touched.{Sets, touching, untouched, line_count, block_count, fit_of}
use Rattle.tx_footprint.specs.declared.footprint.Overflow.TheVariants.{Fetch, Store}
use Rattle.tx_footprint.specs.Sizes.{line_limit, block_limit}
use Rattle.tx_footprint.specs.Sizes.{line_size, block_size, storage_blocks}
use Rattle.tx_serial.specs.Alike as alike
use Rattle.tx_serial.specs.Alike.{addresses_in}
use Rattle.tx_serial.specs.Attempt.{Run, Missing, footprint, attempt_of}
use Rattle.tx_serial.specs.Fate.{operands, step_of, overflow_of, overflow_in}
use Rattle.tx_serial.specs.Flat.{FlatState}
use Rattle.tx_serial.specs.Run.{run, may_follow}
use Rattle.tx_serial.proofs.Passing.{passes}
use Rattle.tx_progress.specs.Local.{Local}
use Rattle.tx_progress.specs.Progress.{Progress, begins_constrained}
use Rattle.tx_progress.specs.Reached.{progress_of, constraint_of, IsFollowed}
use Rattle.tx_progress.specs.Trial.{constraint_refusal, place_refusal_by, overflow_refusal_by}
use Rattle.tx_progress.proofs.Alike.{its_footprint}
use Rattle.tx_progress.proofs.Facts.{keeps_prefix}
use Rattle.tx_serial.proofs.StoredPlaces.{AreSmall, small_operands}
use Rattle.tx_progress.proofs.Lines.{any_there, range_there, run_there}
use Rattle.tx_progress.proofs.Lines.{either_way}
use Rattle.tx_progress.proofs.OneMore.{went, open_is_there}
use Rattle.tx_progress.proofs.Standing.{Stands, run_stands}
use Rattle.tx_serial.proofs.FreeOperands.{begin_bare}
use Rattle.tx_progress.proofs.Limits.{breach_none}

-- ---- octowords that are piled up

piled : (p : ℕ → Bool) (found xs : List ℕ) → (list_any p found || list_any p xs) ≡ true
    → list_any p (fold with_number found xs) ≡ true
piled p found xs h = any_all p found xs ∙ h

-- ---- a place of storage holds whole octowords

abbrev HoldsOctowords : ℕ → Type 0
HoldsOctowords size = (x y : ℕ) → x / 32 ≡ y / 32 → x / size ≡ y / size

lines_hold : HoldsOctowords line_size
lines_hold x y e = omega arith

blocks_hold : HoldsOctowords block_size
blocks_hold x y e = omega arith

module _ (prefix : Option ℕ) (ok : is_prefix prefix ≡ true) (size : ℕ) (whole : HoldsOctowords size) where
  -- the place that a real address lies in, by its octoword
  place_of : ℕ → ℕ
  place_of o = absolute_of prefix (o * 32) / size

  lies : ℕ → ℕ → Bool
  lies place a = absolute_of prefix a / size == place

  same_place : (a : ℕ) → absolute_of prefix a / size ≡ absolute_of prefix (a / 32 * 32) / size
  same_place a =
      whole (absolute_of prefix a) (absolute_of prefix (a / 32 * 32))
      ((same_octowords prefix a (a / 32 * 32) ok).1 (omega arith))

  holds : ℕ → ℕ → Bool
  holds place o = place_of o == place

  bytes_lie : (place n a : ℕ)
      → list_any (lies place) (from_up a n) ≡ list_any (holds place) (map (λ x. x / 32) (range_with_len a n))
  unfolding place_of lies holds
  bytes_lie place zero a = refl
  bytes_lie place (suc n) a =
      let next : suc a ≡ a + 1 = omega arith in
      (λ k. (same_place a k == place) || bytes_lie place n (suc a) k)
      ∙ ap (λ b. holds place (a / 32) || list_any (holds place) (map (λ x. x / 32) (range_with_len b n))) next

  operands_lie : (place : ℕ) (rs : List Range)
      → list_any (lies place) (addresses_in rs) ≡ list_any (holds place) (flat_map (pieces 32) rs)
  operands_lie place [] = refl
  operands_lie place (r ∷ rs) =
      list_any-append (lies place) (from_up r.first r.length) (addresses_in rs)
      ∙ (λ k. bytes_lie place r.length r.first k || operands_lie place rs k)
      ∙ sym (list_any-append (holds place) (pieces 32 r) (flat_map (pieces 32) rs))

  abbrev ranges_in : List Step → List Range
  ranges_in steps = flat_map (λ (s : Step). s.ranges) steps

  steps_lie : (place : ℕ) (steps : List Step)
      → list_any (lies place) (alike.addresses_of steps)
      ≡ list_any (holds place) (flat_map (pieces 32) (ranges_in steps))
  steps_lie place [] = refl
  steps_lie place (s ∷ ss) =
      list_any-append (lies place) (addresses_in s.ranges) (alike.addresses_of ss)
      ∙ (λ k. operands_lie place s.ranges k || steps_lie place ss k)
      ∙ sym (ap (list_any (holds place)) (flat_map-append (pieces 32) s.ranges (ranges_in ss))
      ∙ list_any-append (holds place) (flat_map (pieces 32) s.ranges) (flat_map (pieces 32) (ranges_in ss)))

  -- operands of the next instruction, by their absolute ranges
  ranges_there : (place : ℕ) (rs : List Range) → AreSmall rs
      → list_any (lies place) (addresses_in rs)
      ≡ any_there (λ b. b / size == place) (absolute_ranges prefix rs)
  unfolding lies
  ranges_there place [] small = refl
  ranges_there place (r ∷ rs) small =
      list_any-append (lies place) (from_up r.first r.length) (addresses_in rs)
      ∙ (λ k. range_there (λ b. b / size == place) prefix r ok small.0 k || ranges_there place rs small.1 k)
      ∙ sym (list_any-append (λ q. list_any (λ b. b / size == place) (addresses_of q))
      (absolute_range prefix r)
      (absolute_ranges prefix rs))

  operands_there : (place : ℕ) (rs : List Range) → AreSmall rs
      → list_any (λ r. has_place size r place) (absolute_ranges prefix rs)
      ≡ list_any (holds place) (flat_map (pieces 32) rs)
  unfolding has_place
  operands_there place rs small = sym (ranges_there place rs small) ∙ operands_lie place rs

  -- ---- how many places

  listed_by : (place : ℕ) (os : List ℕ)
      → list_any (holds place) os ≡ list_any (λ x. eqb x place) (map place_of os)
  unfolding holds
  listed_by place [] = refl
  listed_by place (o ∷ os) = ap (λ b. (place_of o == place) || b) (listed_by place os)

  few_places : (n : ℕ) (test : ℕ → Bool) (os : List ℕ) → length os ≤ 4
      → ((place : ℕ) → test place ≡ true → list_any (holds place) os ≡ true) → count_below n test ≤ 4
  few_places n test os few within =
      let less = count_le n test (λ k. list_any (λ x. eqb x k) (map place_of os))
      (λ k lt h. sym (listed_by k os) ∙ within k h) in
      let most = count_listed n (map place_of os) in
      let same : length (map place_of os) ≡ length os = length-map os place_of in
      omega (arith, less, most, same, few)

-- ---- the first instruction of a run has no operand

abbrev IsBareFirst : List Step → Type 0
IsBareFirst [] = Unit {0}
IsBareFirst (s ∷ ss) = s.ranges ≡ []

bare_more : (steps : List Step) (s : Step) → IsBareFirst steps → (steps ≡ [] → s.ranges ≡ [])
    → IsBareFirst (steps ++ s ∷ [])
bare_more [] s h first = first refl
bare_more (x ∷ xs) s h first = h

first_begins : (c now : Cpu) (steps : List Step) (nest : List Begin) (i : Instr) → Stands c now steps nest
    → steps ≡ [] → may_follow nest i ≡ true → begins (entry_at i.op.number) ≡ true
first_begins c now [] [] i h none follows = follows
first_begins c now [] (b ∷ bs) i h none follows = absurd h
first_begins c now (s ∷ ss) nest i h none follows = absurd (cc)

run_bare : (f : FlatState) (i k : ℕ) → (run f i k).mark ≢ Missing → IsBareFirst (run f i k).steps
unfolding run
run_bare f i zero exists = tt
run_bare f i (suc k) exists =
    let p = run f i k in
    let w = went f i k exists in
    let pass = passes f.text p w.instruction w.ranges w.goes in
    subst (λ (r : Run). IsBareFirst r.steps) (sym w.is)
    (bare_more p.steps (step_of w.instruction w.ranges p.cpu)
    (run_bare f i k (open_is_there p.mark w.opens))
    (λ none. pass.touches ∙ begin_bare w.instruction p.cpu
    (first_begins (f.cpus i) p.cpu p.steps p.nest w.instruction (run_stands f i k w.opens) none w.follows)))

-- ---- what the footprint of a run has

tail_lies : (p : ℕ → Bool) (steps : List Step) → IsBareFirst steps
    → list_any p (alike.addresses_of steps) ≡ list_any p (alike.addresses_of (attempt_of steps).steps)
tail_lies p [] bare = refl
tail_lies p (s ∷ ss) bare =
    ap (λ rs. list_any p (addresses_in rs ++ alike.addresses_of ss)) bare

module _ (f : FlatState) (i k : ℕ) (exists : (run f i k).mark ≢ Missing) (ok : is_prefix (f.cpus i).prefix
    ≡ true)
    (size : ℕ) (whole : HoldsOctowords size) where
  abbrev prefix : Option ℕ
  prefix = (f.cpus i).prefix

  abbrev behind : List Step
  behind = (attempt_of (run f i k).steps).steps

  run_lies : (place : ℕ) → list_any (λ r. has_place size r place) (run f i k).touched
      ≡ list_any (holds prefix ok size whole place)
      (flat_map (pieces 32) (flat_map (λ (s : Step). s.ranges) behind))
  unfolding has_place lies
  run_lies place =
      sym (run_there (λ b. b / size == place) f i k ok exists)
      ∙ tail_lies (lies prefix ok size whole place) (run f i k).steps (run_bare f i k exists)
      ∙ steps_lie prefix ok size whole place behind

  -- a place of the run, or of the next operands, is that of an octoword found
  place_found : (place : ℕ) (rs : List Range) → AreSmall rs
      → (list_any (λ r. has_place size r place) (run f i k).touched
      || list_any (λ r. has_place size r place) (absolute_ranges prefix rs)) ≡ true
      → list_any (holds prefix ok size whole place)
      (with_octowords (kept (attempt_of (run f i k).steps)).octowords rs) ≡ true
  unfolding with_octowords
  place_found place rs small h =
      let p = holds prefix ok size whole place in
      let before = flat_map (pieces 32) (flat_map (λ (s : Step). s.ranges) behind) in
      by_way (or_cases (list_any (λ r. has_place size r place) (run f i k).touched) _ h)
      (λ was. piled p (fold with_number [] before) (flat_map (pieces 32) rs)
      (or_left (list_any p (fold with_number [] before)) _
      (piled p [] before (sym (run_lies place) ∙ was))))
      (λ now. piled p (fold with_number [] before) (flat_map (pieces 32) rs)
      (or_right (list_any p (fold with_number [] before)) _
      (sym (operands_there prefix ok size whole place rs small) ∙ now)))

-- ---- lines and blocks

or_of_lines : (a b c d : Bool) → (((false || a) || b) || ((false || c) || d)) ≡ true
    → ((a || c) || (b || d)) ≡ true
or_of_lines true b c d h = refl
or_of_lines false b true d h = refl
or_of_lines false true false d h = refl
or_of_lines false false false d h = h

sets_lines : (touched new : List Range) (line : ℕ)
    → (let s = touching (touching untouched touched) new in s.fetched line || s.stored line) ≡ true
    → (list_any (λ r. has_place line_size r line) touched || list_any (λ r. has_place line_size r line) new)
    ≡ true
sets_lines touched new line h =
    (λ k. either_way (λ r. has_place line_size r line) touched k
    || either_way (λ r. has_place line_size r line) new k)
    ∙ or_of_lines (fetches touched line) (fetches new line) (stores touched line) (stores new line) h

or_of_blocks : (a b c d : Bool) → ((false || a) || b) ≡ true → ((c || a) || (d || b)) ≡ true
or_of_blocks true b true d h = refl
or_of_blocks true b false d h = refl
or_of_blocks false true true d h = refl
or_of_blocks false true false true h = refl
or_of_blocks false true false false h = refl
or_of_blocks false false c d h = absurd (true≢false (sym h))

sets_blocks : (touched new : List Range) (block : ℕ)
    → (touching (touching untouched touched) new).blocks block ≡ true
    → (list_any (λ r. has_place block_size r block) touched
    || list_any (λ r. has_place block_size r block) new)
    ≡ true
sets_blocks touched new block h =
    (λ k. either_way (λ r. has_place block_size r block) touched k
    || either_way (λ r. has_place block_size r block) new k)
    ∙ or_of_blocks (stores_block touched block) (stores_block new block)
    (list_any (λ r. not r.store && has_place block_size r block) touched)
    (list_any (λ r. not r.store && has_place block_size r block) new) h

fits : (sets : Sets) → line_count sets ≤ 4 → block_count sets ≤ 4 → overflow_of (fit_of sets) ≡ None
fits sets lines blocks =
    ap (λ b. overflow_of (if b then Err Fetch else
    (if nat_lt block_limit (block_count sets) then Err Store else Ok tt)))
    (le-ltb line_limit (line_count sets) (omega (arith, lines)))
    ∙ ap (λ b. overflow_of (if b then Err Store else Ok tt))
    (le-ltb block_limit (block_count sets) (omega (arith, blocks)))

-- ---- what is kept of the attempt

kept_of : (steps : List Step) (k : Kept) → constraint_of steps ≡ Some k → kept (attempt_of steps) ≡ k
kept_of [] k e = absurd (cc)
kept_of (s ∷ ss) k e = by (begins_constrained s.instruction) e
  where
    by : (b : Bool) → (if b then Some (kept (attempt_of (s ∷ ss))) else None) ≡ Some k
        → kept (attempt_of (s ∷ ss)) ≡ k
    by true h = cc
    by false h = absurd (cc)

few_octowords : (q : Progress) (i : Instr) (k : Kept) → q.constraint ≡ Some k → place_refusal_by q i ≡ None
    → length (with_octowords k.octowords (operands i q.cpu)) ≤ 4
unfolding next_operand_breach
few_octowords q i k some h =
    let none = breach_none i (next_operand_breach k i (operands i q.cpu))
    (ap (constraint_refusal (λ x. next_operand_breach x i (operands i q.cpu)) i) (sym some) ∙ h) in
    ltb-false 4 (length (with_octowords k.octowords (operands i q.cpu))) (unbroken _ 4 _ none).0

room_by : (f : FlatState) (i k : ℕ) → (run f i k).mark ≢ Missing → is_prefix (f.cpus i).prefix ≡ true
    → (rs : List Range) → AreSmall rs
    → length (with_octowords (kept (attempt_of (run f i k).steps)).octowords rs) ≤ 4
    → overflow_of (fit_of (touching (footprint (run f i k)) (absolute_ranges (f.cpus i).prefix rs))) ≡ None
room_by f i k exists ok rs small few =
    let prefix = (f.cpus i).prefix in
    let touched = (run f i k).touched in
    let new = absolute_ranges prefix rs in
    let sets = touching (footprint (run f i k)) new in
    let os = with_octowords (kept (attempt_of (run f i k).steps)).octowords rs in
    fits sets
    (few_places prefix ok line_size lines_hold storage_lines (λ line. sets.fetched line || sets.stored line) os few
    (λ line h. place_found f i k exists ok line_size lines_hold line rs small
    (sets_lines touched new line h)))
    (few_places prefix ok block_size blocks_hold storage_blocks sets.blocks os few
    (λ block h. place_found f i k exists ok block_size blocks_hold block rs small
    (sets_blocks touched new block h)))

in_nest : (nest : List Begin) (sets : Sets) → overflow_of (fit_of sets) ≡ None → overflow_in nest sets ≡ None
in_nest [] sets h = refl
in_nest (b ∷ bs) sets h = h

-- an instruction that keeps the constraints has room in the footprint
pub has_room : (f : FlatState) (i : ℕ) (l : Local) (k : Kept) (instr : Instr) → IsFollowed f i l
    → is_prefix l.cpu.prefix ≡ true → l.attempt.constraint ≡ Some k → place_refusal_by l.attempt instr ≡ None
    → overflow_refusal_by l.attempt instr ≡ None
unfolding progress_of
has_room f i l k instr is ok some place =
    let n = l.attempt.count in
    let rs = operands instr l.attempt.cpu in
    let same : (f.cpus i).prefix ≡ l.cpu.prefix = ap (λ (c : Cpu). c.prefix) is.cpu in
    let its : kept (attempt_of (run f i n).steps) ≡ k =
    kept_of (run f i n).steps k (ap (λ (q : Progress). q.constraint) is.attempt ∙ some) in
    let few : length (with_octowords (kept (attempt_of (run f i n).steps)).octowords rs) ≤ 4 =
    subst (λ (x : Kept). length (with_octowords x.octowords rs) ≤ 4) (sym its)
    (few_octowords l.attempt instr k some place) in
    in_nest l.attempt.nest (touching l.attempt.footprint (absolute_ranges l.attempt.cpu.prefix rs))
    (ap (λ p. overflow_of (fit_of (touching l.attempt.footprint (absolute_ranges p rs))))
    (keeps_prefix f i l is ∙ sym same)
    ∙ ap (λ sets. overflow_of (fit_of (touching sets (absolute_ranges (f.cpus i).prefix rs))))
    (sym (its_footprint f i l is))
    ∙ room_by f i n (open_is_there (run f i n).mark is.opens) (ap is_prefix same ∙ ok) rs
    (small_operands instr l.attempt.cpu) few)
