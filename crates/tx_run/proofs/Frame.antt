-- What an instruction leaves as it was: storage beside its operands, and bytes of text; what holds of one that goes; and how
-- much it counts.
use Rattle.std.proofs.Common.{map, ◌≡◌, ℕ, zero, suc, ◌+◌, ◌-◌, ◌/◌, ◌<◌, ◌≤◌, Bool, true, false, List, [], ◌∷◌, ◌++◌}
use Rattle.std.proofs.Common.{Option, None, refl, sym, ap, subst, ◌∙◌, arith, length, take, ltb}
use Rattle.std.specs.Prelude.{All, nat_eq, nat_lt, if◌then◌else◌}
use Rattle.std.specs.List.{list_any}
use Rattle.std.proofs.Math.ListN.{length-map}
use Rattle.std.proofs.lemmas.Bool.{true≢false, or_left, or_right, and_parts, not-true}
use Rattle.std.proofs.lemmas.Bool.Decides.{nat_tests}
use Rattle.z_regs.specs.Absolute.{IsAccessible}
use Rattle.z_regs.specs.Prefix.{storage_size, absolute_of, is_prefix}
use Rattle.z_regs.specs.declared.ranges.Range.{Range}
use Rattle.z_instr.specs.declared.instr.Instr.{Instr}
use Rattle.z_instr.specs.Access.{accessible_pages, text_pages, unfetched}
use Rattle.z_instr.specs.Layout.{length_by}
use Rattle.z_instr.specs.Operands.{from_up, spans, inaccessible}
use Rattle.z_instr.specs.Roles.{begins, is_end}
use Rattle.z_instr.specs.Table.{entry_at}
use Rattle.z_instr.proofs.SmallOperands.{count, sizes}
use Rattle.z_touch.specs.Refusals.{range_of}
use Rattle.z_touch.proofs.SmallRanges.{any-text_pages}
use Rattle.z_effect.specs.Beginning.{begin_of}
use Rattle.z_effect.specs.Outcome.{Outcome, Did, Divides, Aborts}
use Rattle.z_effect.specs.Outcome as outcome
use Rattle.tx_control.specs.declared.begins.Begin.{Begin}
use Rattle.tx_serial.specs.Fate.{Goes, fetch_refusal, restricted_refusal, specified_refusal, depth_refusal}
use Rattle.tx_serial.specs.Fate.{operand_refusal}
use Rattle.tx_serial.specs.Flat.{Storage, laid_over}
use Rattle.tx_serial.specs.Run.{nest_after}
use Rattle.tx_serial.specs.Text.{SameText}
use Rattle.tx_serial.proofs.FreeOperands.{AreFree, inside_operands, operands_free, not_excepted}
use Rattle.tx_serial.proofs.TextStays.{laid_apart, operands_apart, or_first, contraposed, or_second}
use Rattle.tx_progress.specs.Doing.{executed, executed_where, closed_by, stores_of}
use Rattle.tx_progress.specs.Local.{Beside}
use Rattle.tx_progress.specs.Progress.{Progress, seen_through, is_live, advanced}
use Rattle.tx_progress.specs.Trial.{at_hand, fate_by_progress, outcome_by, text_refusal_by}
use Rattle.tx_progress.specs.declared.done.Done.TheVariants.{Stepped}
use Rattle.tx_cpu.proofs.Goes.{found-so}
use Rattle.tx_serial.proofs.Reached.{accessible_spans}
use Rattle.tx_marks.specs.Away.{is_plain}
use Rattle.tx_marks.specs.Places.{operand_places, stored_places, is_among}
use Rattle.tx_marks.proofs.Along.{no_begin}
use Rattle.tx_marks.proofs.Leaving.{count_after, left_by}
use Rattle.tx_run.specs.Made.{IsWithin}
use Rattle.tx_marks.proofs.Stores.{stored_among, stores_elsewhere}
use Rattle.tx_serial.proofs.Frame.{fetched_text, length_some}
use Rattle.tx_progress.proofs.Standing.{none_first}

-- ---- no begin and no end

-- a plain instruction is no end
no_end : (i : Instr) → is_plain i ≡ true → is_end (entry_at i.op.number) ≡ false
no_end i h =
    let e = entry_at i.op.number in
    or_first (is_end e) _ (or_second (begins e) _ (not-true _ h))

nest_by : (begin end : Bool) (i : Instr) (general : List ℕ) (nest : List Begin) → begin ≡ false → end ≡ false
    → (if begin then nest ++ begin_of i general ∷ []
    else if end then take (length nest - 1) nest else nest) ≡ nest
nest_by true end i general nest b e = absurd (true≢false b)
nest_by false true i general nest b e = absurd (true≢false e)
nest_by false false i general nest b e = refl

-- it leaves the open begins as they are
nest_stays : (i : Instr) (general : List ℕ) (nest : List Begin) → is_plain i ≡ true
    → nest_after i general nest ≡ nest
nest_stays i general nest plain =
    nest_by (begins (entry_at i.op.number)) (is_end (entry_at i.op.number)) i general nest (no_begin i plain)
    (no_end i plain)

-- ---- storage

-- what holds of storage as it is, and of it under any stores into the operands, holds of what a plain instruction
-- leaves
module _ (i : Instr) (ranges : List Range) (b : Beside) (P : Storage → Type 0) (was : P b.storage)
    (laid : (bytes : List ℕ) → P (laid_over b.storage (stores_of ranges bytes b.local.attempt)))
  where
    abbrev q : Progress
    q = b.local.attempt

    -- nothing is committed where a begin is left open
    closed_storage : (next : Progress) (nest : List Begin) → 0 < length nest
        → P (closed_by next nest b).after.storage
    closed_storage next [] some = absurd (omega (arith, some))
    closed_storage next (outermost ∷ inner) some = was

    storage_where : (live : Bool) (o : Outcome) → is_plain i ≡ true → (live ≡ true → 0 < length q.nest)
        → P (executed_where live false i ranges b o).after.storage
    storage_where true (Did c bytes) plain some =
        let next = advanced i ranges c (stores_of ranges bytes q) q in
        closed_storage next next.nest
        (subst (λ nest. 0 < length nest) (sym (nest_stays i q.cpu.general q.nest plain)) (some refl))
    storage_where true (outcome.Overflowed c bytes) plain some = was
    storage_where true Divides plain some = was
    storage_where true (Aborts code) plain some = was
    storage_where false (Did c bytes) plain some = laid bytes
    storage_where false (outcome.Overflowed c bytes) plain some = laid bytes
    storage_where false Divides plain some = was
    storage_where false (Aborts code) plain some = was

    executed_storage : is_plain i ≡ true → (is_live q ≡ true → 0 < length q.nest)
        → P (executed i ranges b).after.storage
    unfolding executed
    executed_storage plain some =
        let o = outcome_by b.storage i ranges q in
        subst (λ begin. P (executed_where (is_live q) begin i ranges b o).after.storage)
        (sym (no_begin i plain)) (storage_where (is_live q) o plain some)

-- beside its operands storage is as it was, whatever comes of the instruction
pub executed-elsewhere : (i : Instr) (ranges : List Range) (b : Beside) (a : ℕ) → is_plain i ≡ true
    → (is_live b.local.attempt ≡ true → 0 < length b.local.attempt.nest)
    → is_among (operand_places ranges b.local.attempt) a ≡ false
    → (executed i ranges b).after.storage a ≡ b.storage a
executed-elsewhere i ranges b a plain some apart =
    let q = b.local.attempt in
    let unstored = contraposed (is_among (stored_places ranges q) a) (is_among (operand_places ranges q) a)
    (stored_among ranges q a) apart in
    executed_storage i ranges b (λ s. s a ≡ b.storage a) refl
    (λ bytes. stores_elsewhere ranges q bytes b.storage a unstored) plain some

-- ---- an instruction that goes

-- it and its operands lie in storage, and operands that are stored hold no text
pub record IsReachedBy (text : List ℕ) (s : Storage) (q : Progress) (need : List Range) : Type 0 where
  pub within : IsWithin s q need
  pub free : AreFree q.cpu.prefix text need

-- the last of so many addresses is among them
last_there : (n a : ℕ) → list_any (nat_eq (a + n)) (from_up a (suc n)) ≡ true
last_there zero a = or_left (nat_eq (a + 0) a) false (grind (arith))
last_there (suc n) a =
    let same : suc a + n ≡ a + suc n = omega arith in
    or_right (nat_eq (a + suc n) a) (list_any (nat_eq (a + suc n)) (from_up (suc a) (suc n)))
    (subst (λ x. list_any (nat_eq x) (from_up (suc a) (suc n)) ≡ true) same (last_there n (suc a)))

-- bytes that can be fetched end in storage
end_in_storage : (prefix : Option ℕ) (text : List ℕ) (a n : ℕ)
    → unfetched (accessible_pages prefix) (text_pages prefix text) a (suc n) ≡ None → a + suc n ≤ storage_size
end_in_storage prefix text a n h =
    let lies = fetched_text (accessible_pages prefix) (text_pages prefix text) a (suc n) h (a + n)
    (last_there n a) in
    let low = (and_parts (ltb ((a + n) / 4096) 256) _
    (sym (any-text_pages prefix text ((a + n) / 4096)) ∙ lies)).0 in
    let page : (a + n) / 4096 < 256 = grind (arith, nat_tests, low) in
    omega (arith, page)

-- an instruction that is fetched has a byte, and its bytes end in storage
record IsFetched (address size : ℕ) : Type 0 where
  first : address < storage_size
  end : address + size ≤ storage_size

fetched_by : (text : List ℕ) (s : Storage) (q : Progress) → fetch_refusal text (at_hand s q) ≡ None
    → IsFetched q.cpu.address (length_by (seen_through q.overlay s (absolute_of q.cpu.prefix q.cpu.address)))
fetched_by text s q h =
    let prefix = q.cpu.prefix in
    let a = q.cpu.address in
    let byte = seen_through q.overlay s (absolute_of prefix a) in
    let some = length_some (nat_lt byte 64) (nat_lt byte 192) in
    let end = end_in_storage prefix text a some.0
    (sym (ap (unfetched (accessible_pages prefix) (text_pages prefix text) a) some.1) ∙ h) in
    record {
      first = omega (arith, end);
      end = subst (λ n. a + n ≤ storage_size) (sym some.1) end;
    }

pub goes-reached : (text : List ℕ) (s : Storage) (q : Progress) (i : Instr) (need : List Range)
    → is_prefix q.cpu.prefix ≡ true → fate_by_progress text s q ≡ Goes i need → IsReachedBy text s q need
goes-reached text s q i need ok goes =
    let c = q.cpu in
    let found = found-so text s q i need goes in
    let x = none_first (text_refusal_by q i) _ found.passed in
    let y = none_first (restricted_refusal (at_hand s q) i) _ x.1 in
    let z = none_first (specified_refusal (at_hand s q) i) _ y.1 in
    let u = none_first (depth_refusal (at_hand s q) i) _ z.1 in
    let v = none_first (operand_refusal text (at_hand s q) i) _ u.1 in
    let passed : inaccessible i c.general c.condition (length q.nest) (accessible_pages c.prefix)
    (text_pages c.prefix text) ≡ None = not_excepted i _ v.0 in
    let ss = spans i c.general c.condition in
    let operands = (entry_at i.op.number).operands in
    let at_most = count operands i c.general c.condition in
    let few : length (map range_of ss) ≤ 2 = omega (arith, length-map ss range_of, at_most) in
    let accessible = subst (All (IsAccessible c.prefix)) (sym found.touches)
    (accessible_spans c.prefix ss (sizes operands i c.general c.condition)
    (inside_operands text i c (length q.nest) passed)) in
    let bytes = fetched_by text s q found.fetched in
    record {
      within = record {
        first = bytes.first;
        fetched = bytes.end;
        accessible = accessible;
        inside = λ k d below. (accessible k d below).end;
        few = subst (λ (rs : List Range). length rs ≤ 2) (sym found.touches) few;
      };
      free = subst (AreFree c.prefix text) (sym found.touches)
          (operands_free text i c (length q.nest) ok passed);
    }

-- it changes no byte of text
pub keeps-text : (text : List ℕ) (i : Instr) (ranges : List Range) (b : Beside) → is_plain i ≡ true
    → (is_live b.local.attempt ≡ true → 0 < length b.local.attempt.nest)
    → is_prefix b.local.attempt.cpu.prefix ≡ true
    → fate_by_progress text b.storage b.local.attempt ≡ Goes i ranges
    → SameText text b.storage (executed i ranges b).after.storage
keeps-text text i ranges b plain some ok goes =
    let q = b.local.attempt in
    let reached = goes-reached text b.storage q i ranges ok goes in
    executed_storage i ranges b (SameText text b.storage) (λ a is. refl)
    (λ bytes. laid_apart text (stores_of ranges bytes q) b.storage
    (operands_apart text q.cpu.prefix ranges reached.free bytes)) plain some

-- ---- an instruction that completes

at_most_one : (live : Bool) (n m : ℕ) → m ≡ count_after live n → m ≤ n + 1
at_most_one true n m e = omega (arith, e)
at_most_one false n m e = omega (arith, e)

-- at most one instruction more is completed in the attempt
pub counted : (i : Instr) (ranges : List Range) (b : Beside) → is_plain i ≡ true
    → (executed i ranges b).told ≡ Stepped
    → (executed i ranges b).after.local.attempt.count ≤ b.local.attempt.count + 1
counted i ranges b plain told =
    let q = b.local.attempt in
    at_most_one (is_live q) q.count (executed i ranges b).after.local.attempt.count
    (left_by i ranges b.local b.storage plain told).count
