-- What the tests have found of an instruction that goes.
use Rattle.std.proofs.Common.{◌≡◌, ℕ, suc, ◌/◌, ◌%◌, ◌<◌, ◌≤◌, Bool, true, false, List, [], ◌∷◌, Option}
use Rattle.std.proofs.Common.{Some, None, refl, sym, ap, subst, ◌∙◌, arith, length, ltb}
use Rattle.std.specs.Prelude.{◌&&◌, ◌||◌, not, nat_eq, nat_lt, nat_le}
use Rattle.std.specs.Prelude.{if◌then◌else◌, is_some, All, map, Ok}
use Rattle.std.specs.List.{list_any}
use Rattle.std.proofs.lemmas.Bool.{true≢false, or_left, and_parts, not-false}
use Rattle.std.proofs.lemmas.Bool.Decides.{nat_tests}
use Rattle.z_regs.specs.Absolute.{IsAccessible, absolute_ranges}
use Rattle.z_regs.specs.Cpu.{Cpu}
use Rattle.z_regs.specs.Prefix.{storage_size, absolute_of}
use Rattle.z_regs.specs.declared.ranges.Range.{Range}
use Rattle.z_instr.specs.declared.instr.Instr.{Instr}
use Rattle.z_instr.specs.declared.operand.Demand.{Demand}
use Rattle.z_instr.specs.declared.operand.Demand.TheVariants.{Boundary}
use Rattle.z_instr.specs.declared.operand.Operands.{Operands}
use Rattle.z_instr.specs.declared.operand.Operands.TheVariants.{Stored}
use Rattle.z_instr.specs.declared.operand.Size.TheVariants.{Doubleword}
use Rattle.z_instr.specs.Access.{accessible_pages, text_pages, unfetched}
use Rattle.z_instr.specs.Operands.{spans, spans_in, unspecified}
use Rattle.z_instr.specs.Operands.{unspecified_in, inaccessible, first_address, from_up}
use Rattle.z_instr.specs.Operands.{specification}
use Rattle.z_instr.specs.Roles.{begins, is_end}
use Rattle.z_instr.specs.Table.{Entry, entry_at}
use Rattle.z_instr.proofs.SmallOperands.{sizes}
use Rattle.z_touch.specs.Refusals.{range_of, at_fetch}
use Rattle.z_touch.proofs.SmallRanges.{any-text_pages}
use Rattle.tx_control.specs.declared.begins.Begin.{Begin}
use Rattle.tx_control.specs.declared.causes.Why.{Why}
use Rattle.tx_constraint.specs.Kept.{Kept, next_text_breach, next_operand_breach}
use Rattle.tx_constraint.specs.Octowords.{with_octowords}
use Rattle.tx_constraint.specs.Operations.{is_permitted, ends}
use Rattle.tx_footprint.specs.Touched.{Sets, sets_of, touching, fit_of}
use Rattle.tx_serial.specs.Fate.{Goes}
use Rattle.tx_serial.specs.Fate.{Refusal, Excepts, first_refusal}
use Rattle.tx_serial.specs.Fate.{operands, fetch_refusal, instruction_at, unreadable, aborts_where}
use Rattle.tx_serial.specs.Fate.{restricted_refusal, specified_refusal, depth_refusal, operand_refusal}
use Rattle.tx_serial.specs.Fate.{overflow_in}
use Rattle.tx_serial.specs.Flat.{Storage}
use Rattle.z_instr.specs.Roles.{stores_lastingly}
use Rattle.tx_serial.proofs.FreeOperands.{inside_operands, inside_block, not_excepted}
use Rattle.tx_progress.specs.Progress.{Progress}
use Rattle.tx_progress.specs.Trial.{at_hand, fetched, tried, tests_by, fate_by_progress, text_refusal_by}
use Rattle.tx_progress.specs.Trial.{place_refusal_by, overflow_refusal_by, constraint_refusal}
use Rattle.tx_progress.proofs.Rows.{any_row, begins_are_barred}
use Rattle.tx_attempt.specs.Gathered.{IsStoredDoubleword}
use Rattle.tx_cpu.specs.Going.{MayGo}
use Rattle.tx_attempt.specs.Tracked.{Tracked, IsSound, progress}
use Rattle.tx_serial.proofs.Reached.{accessible_spans}
use Rattle.tx_serial.proofs.Frame.{fetched_text, length_some}
use Rattle.tx_serial.proofs.Passing.{goes_alike, no_fate, fit_by}
use Rattle.tx_progress.proofs.Standing.{none_first}
use Rattle.tx_constraint.proofs.Whole.{few_words}
use Rattle.tx_progress.proofs.Limits.{breach_none}
use Rattle.z_instr.proofs.PlainImmediates.{implied}

-- ---- no test has found anything

-- it is fetched, no test refuses it, and the operands are its own
pub record Found (text : List ℕ) (s : Storage) (q : Progress) (i : Instr) (need : List Range) : Type 0 where
  pub fetched : fetch_refusal text (at_hand s q) ≡ None
  pub passed : first_refusal (tests_by text s q i) ≡ None
  pub touches : need ≡ operands i q.cpu

by_tests : (text : List ℕ) (s : Storage) (q : Progress) (i : Instr) (need : List Range) (j : Instr)
    (o : Option Refusal) → first_refusal (tests_by text s q j) ≡ o → fetch_refusal text (at_hand s q) ≡ None
    → tried q j o ≡ Goes i need → Found text s q i need
by_tests text s q i need j None t f h =
    let alike = goes_alike j i (operands j q.cpu) need h in
    let same : j ≡ i = alike.0 in
    record {
      fetched = f;
      passed = subst (λ k. first_refusal (tests_by text s q k) ≡ None) same t;
      touches = sym alike.1 ∙ ap (λ k. operands k q.cpu) same;
    }
by_tests text s q i need j (Some refusal) t f h = no_fate q.nest refusal i need h

by_reading : (text : List ℕ) (s : Storage) (q : Progress) (i : Instr) (need : List Range) (u : Option ℕ)
    (o : Option Instr) → fetch_refusal text (at_hand s q) ≡ u → fetched text s q u o ≡ Goes i need
    → Found text s q i need
by_reading text s q i need (Some code) o f h = no_fate q.nest (Excepts (at_fetch code)) i need h
by_reading text s q i need None None f h = no_fate q.nest (Excepts (unreadable (at_hand s q))) i need h
by_reading text s q i need None (Some j) f h =
    by_tests text s q i need j (first_refusal (tests_by text s q j)) refl f h

pub found-so : (text : List ℕ) (s : Storage) (q : Progress) (i : Instr) (need : List Range)
    → fate_by_progress text s q ≡ Goes i need → Found text s q i need
unfolding fate_by_progress
found-so text s q i need h =
    by_reading text s q i need (fetch_refusal text (at_hand s q)) (instruction_at (at_hand s q)) refl h

-- ---- what is touched by the instruction that is read

tried-touches : (q : Progress) (j i : Instr) (need : List Range) (o : Option Refusal) → tried q j o ≡ Goes i need
    → need ≡ operands j q.cpu
tried-touches q j i need None h = sym (goes_alike j i (operands j q.cpu) need h).1
tried-touches q j i need (Some refusal) h = no_fate q.nest refusal i need h

fetched-touches : (text : List ℕ) (s : Storage) (q : Progress) (j i : Instr) (need : List Range) (u : Option ℕ)
    → fetched text s q u (Some j) ≡ Goes i need → need ≡ operands j q.cpu
fetched-touches text s q j i need (Some code) h = no_fate q.nest (Excepts (at_fetch code)) i need h
fetched-touches text s q j i need None h = tried-touches q j i need (first_refusal (tests_by text s q j)) h

pub read-touches : (text : List ℕ) (s : Storage) (q : Progress) (j i : Instr) (need : List Range)
    → instruction_at (at_hand s q) ≡ Some j → fate_by_progress text s q ≡ Goes i need → need ≡ operands j q.cpu
unfolding fate_by_progress
read-touches text s q j i need reads h =
    let u = fetch_refusal text (at_hand s q) in
    fetched-touches text s q j i need u (ap (fetched text s q u) (sym reads) ∙ h)

-- ---- what each says

no-depth : (b : Bool) (n : ℕ) (why : Why) → aborts_where (b && nat_le 16 n) why ≡ None → b ≡ true → n < 16
no-depth false n why h e = absurd (true≢false (sym e))
no-depth true n why h e = under (nat_le 16 n) refl h
  where
    under : (t : Bool) → nat_le 16 n ≡ t → aborts_where t why ≡ None → n < 16
    under true g k = absurd (cc)
    under false g k = grind (arith, nat_tests, g)

fits-so : (nest : List Begin) (sets : Sets) → 0 < length nest → overflow_in nest sets ≡ None
    → fit_of sets ≡ Ok tt
fits-so [] sets some h = absurd (omega (arith, some))
fits-so (b ∷ bs) sets some h = fit_by (fit_of sets) h

unbroken-of : (breach : Kept → Option ℕ) (i : Instr) (o : Option Kept) (k : Kept) → o ≡ Some k
    → constraint_refusal breach i o ≡ None → breach k ≡ None
unbroken-of breach i o k e h =
    breach_none i (breach k) (sym (ap (constraint_refusal breach i) e) ∙ h)

first-not : (b : Bool) (n : ℕ) (rest : Option ℕ) → (if b then Some n else rest) ≡ None
    → (b ≡ false) × (rest ≡ None)
first-not true n rest h = absurd (cc)
first-not false n rest h = (refl, h)

few-instructions : (k : Kept) (i : Instr) (at : ℕ) → next_text_breach k i at ≡ None → ends i ≡ false
    → k.count < 32
unfolding next_text_breach
few-instructions k i at h e =
    let over = (first-not (nat_le 32 k.count && not (ends i)) 1 _ h).0 in
    let still : (nat_le 32 k.count && true) ≡ false = ap (λ b. nat_le 32 k.count && not b) (sym e) ∙ over in
    by (nat_le 32 k.count) refl still
  where
    by : (b : Bool) → nat_le 32 k.count ≡ b → (b && true) ≡ false → k.count < 32
    by true g s = absurd (true≢false s)
    by false g s = grind (arith, nat_tests, g)

barred : (b p : Bool) → not (b && p) ≡ true → p ≡ true → b ≡ false
barred true true h e = sym h
barred true false h e = absurd (true≢false (sym e))
barred false p h e = refl

permits-no-begin : (k : Kept) (i : Instr) (at : ℕ) → next_text_breach k i at ≡ None
    → begins (entry_at i.op.number) ≡ false
unfolding next_text_breach
permits-no-begin k i at h =
    let later = (first-not (nat_le 32 k.count && not (ends i)) 1 _ h).1 in
    let last = (first-not _ 2 _ later).1 in
    let refused = (first-not (not (is_permitted i)) 3 None last).0 in
    let permitted = (and_parts (entry_at i.op.number).permitted _ (not-false (is_permitted i) refused)).0 in
    barred (begins (entry_at i.op.number)) (entry_at i.op.number).permitted (begins_are_barred i.op.number)
    permitted

-- ---- the address

in-text : (prefix : Option ℕ) (text : List ℕ) (a n : ℕ)
    → unfetched (accessible_pages prefix) (text_pages prefix text) a (suc n) ≡ None → a < storage_size
in-text prefix text a n h =
    let here : nat_eq a a ≡ true = grind (arith) in
    let lies : list_any (nat_eq (a / 4096)) (text_pages prefix text) ≡ true =
    fetched_text (accessible_pages prefix) (text_pages prefix text) a (suc n) h a
    (or_left (nat_eq a a) (list_any (nat_eq a) (from_up (suc a) n)) here) in
    let low = (and_parts (ltb (a / 4096) 256) _ (sym (any-text_pages prefix text (a / 4096)) ∙ lies)).0 in
    let page : a / 4096 < 256 = grind (arith, nat_tests, low) in
    omega (arith, page)

in-storage : (text : List ℕ) (s : Storage) (q : Progress) → fetch_refusal text (at_hand s q) ≡ None
    → q.cpu.address < storage_size
in-storage text s q h =
    let byte = (at_hand s q).copy (absolute_of q.cpu.prefix q.cpu.address) in
    let some = length_some (nat_lt byte 64) (nat_lt byte 192) in
    in-text q.cpu.prefix text q.cpu.address some.0
    (sym (ap (unfetched (accessible_pages q.cpu.prefix) (text_pages q.cpu.prefix text) q.cpu.address) some.1)
    ∙ h)

-- ---- NTSTG

is_doubleword : Operands → Bool
is_doubleword (Stored Doubleword) = true
is_doubleword _ = false

on_boundary : Demand → Bool
on_boundary Boundary = true
on_boundary _ = false

stored-so : (o : Operands) → is_doubleword o ≡ true → o ≡ Stored Doubleword
unfolding is_doubleword
stored-so (Stored Doubleword) h = refl
stored-so _ h = absurd (cc)

boundary-so : (d : Demand) → on_boundary d ≡ true → d ≡ Boundary
unfolding on_boundary
boundary-so Boundary h = refl
boundary-so _ h = absurd (cc)

abbrev lasting_row : Entry → Bool
lasting_row e = not (stores_lastingly e) || (is_doubleword e.operands && on_boundary e.demand)

lasting-rows : (n : ℕ) → lasting_row (entry_at n) ≡ true
unfolding is_doubleword on_boundary
lasting-rows = any_row lasting_row refl refl

no-wrong : (b : Bool) (n : ℕ) → (if b then Some n else None) ≡ None → b ≡ false
no-wrong true n h = absurd (cc)
no-wrong false n h = refl

lasting-so : (i : Instr) (c : Cpu) (depth : ℕ) (need : List Range)
    → stores_lastingly (entry_at i.op.number) ≡ true → unspecified i c.general depth ≡ None
    → need ≡ operands i c → IsStoredDoubleword need
unfolding spans_in unspecified_in
lasting-so i c depth need is h en =
    let e = entry_at i.op.number in
    let both = and_parts (is_doubleword e.operands) (on_boundary e.demand)
    (implied (stores_lastingly e) _ (lasting-rows i.op.number) is) in
    let operand = stored-so e.operands both.0 in
    let demand = boundary-so e.demand both.1 in
    let wrong : unspecified_in Boundary (Stored Doubleword) i c.general depth ≡ None =
    sym (λ k. unspecified_in (demand k) (operand k) i c.general depth) ∙ h in
    let even = no-wrong (not (nat_eq (first_address i c.general % 8) 0)) specification wrong in
    record {
      first = first_address i c.general;
      is = en ∙ ap (λ (o : Operands). map range_of (spans_in o i c.general c.condition)) operand;
      boundary = by (nat_eq (first_address i c.general % 8) 0) refl even;
    }
  where
    by : {n : ℕ} (b : Bool) → nat_eq n 0 ≡ b → not b ≡ false → n ≡ 0
    by true g k = grind (arith, nat_tests, g)
    by false g k = absurd (true≢false k)

-- ---- an instruction that goes

more-open : (n : ℕ) (e : Bool) → 0 < n → (e && nat_eq n 1) ≡ false → e ≡ true → 1 < n
more-open n true some h is = grind (arith, nat_tests, h, some)
more-open n false some h is = absurd (true≢false (sym is))

ends-not : (t : Tracked) (e : Bool) → IsSound t → is_some t.constraint ≡ true
    → (e && nat_eq (length t.nest) 1) ≡ false → e ≡ false
ends-not t false sound some h = refl
ends-not t true sound some h =
    let one : length t.nest ≡ 1 = sound.single some in
    let n : nat_eq (length t.nest) 1 ≡ true = ap (λ k. nat_eq k 1) one in
    absurd (true≢false (sym n ∙ h))

some-kept : (o : Option Kept) (k : Kept) → o ≡ Some k → is_some o ≡ true
some-kept o k e = ap (λ (x : Option Kept). is_some x) e

has-kept : (o : Option Kept) (A : Type 0) → is_some o ≡ true → ((k : Kept) → o ≡ Some k → A) → A
has-kept None A h f = absurd (true≢false (sym h))
has-kept (Some k) A h f = f k refl

pub goes-so : (text : List ℕ) (s : Storage) (t : Tracked) (c : Cpu) (i : Instr) (need : List Range)
    → IsSound t
    → fate_by_progress text s (progress t c) ≡ Goes i need → MayGo t c i need
goes-so text s t c i need sound h =
    let q = progress t c in
    let found = found-so text s q i need h in
    let a = none_first (text_refusal_by q i) _ found.passed in
    let b = none_first (restricted_refusal (at_hand s q) i) _ a.1 in
    let d = none_first (specified_refusal (at_hand s q) i) _ b.1 in
    let e = none_first (depth_refusal (at_hand s q) i) _ d.1 in
    let f = none_first (operand_refusal text (at_hand s q) i) _ e.1 in
    let g = none_first (place_refusal_by q i) _ f.1 in
    let k = none_first (overflow_refusal_by q i) [] g.1 in
    let passed : inaccessible i c.general c.condition (length t.nest) (accessible_pages c.prefix)
    (text_pages c.prefix text) ≡ None = not_excepted i _ f.0 in
    let text_kept = unbroken-of (λ kept. next_text_breach kept i c.address) i t.constraint in
    let place_kept = unbroken-of (λ kept. next_operand_breach kept i (operands i c)) i t.constraint in
    record {
      operands_are = found.touches;
      accessible = subst (All (IsAccessible c.prefix)) (sym found.touches)
          (accessible_spans c.prefix (spans i c.general c.condition)
          (sizes (entry_at i.op.number).operands i c.general c.condition)
          (inside_operands text i c (length t.nest) passed));
      place = in-storage text s q found.fetched;
      block = λ none address named.
          let zero : length t.nest ≡ 0 = ap (λ (n : List Begin). length n) none in
          inside_block text i c address
          (sym (ap (λ n. inaccessible i c.general c.condition n (accessible_pages c.prefix)
          (text_pages c.prefix text)) zero) ∙ passed) named;
      advances = λ some goes_on. record {
        depth = no-depth (begins (entry_at i.op.number)) (length t.nest) _ e.0;
        leaves = more-open (length t.nest) (is_end (entry_at i.op.number)) some goes_on;
        plain = λ is. has-kept t.constraint _ is (λ kept ek. permits-no-begin kept i c.address
            (text_kept kept ek a.0));
        few = λ kept ek. few-instructions kept i c.address (text_kept kept ek a.0)
            (ends-not t (is_end (entry_at i.op.number)) sound (some-kept t.constraint kept ek) goes_on);
        octowords = λ kept ek. subst (λ (rs : List Range). length (with_octowords kept.octowords rs) ≤ 4)
            (sym found.touches) (few_words kept i (operands i c) (place_kept kept ek g.0));
        fits = ap (λ (rs : List Range). fit_of (touching (sets_of t.footprint) (absolute_ranges c.prefix rs)))
            found.touches
            ∙ fits-so t.nest (touching (sets_of t.footprint) (absolute_ranges c.prefix
            (operands i c))) some k.0;
      };
      lasting = λ is. lasting-so i c (length t.nest) need is (not_excepted i _ d.0) found.touches;
    }
