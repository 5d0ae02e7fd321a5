-- The addresses of instructions, and the pages that hold their bytes.
use Rattle.std.proofs.Common.{◌≡◌, ℕ, zero, suc, ◌+◌, ◌-◌, ◌/◌, ◌<◌, ◌≤◌, Bool, true, false, ◌||◌, List, []}
use Rattle.std.proofs.Common.{◌∷◌, length, get_or, take, drop, Option, refl, sym, ap, ◌∙◌, subst, arith, inl}
use Rattle.std.proofs.Common.{inr, ◌⊎◌, nat_lt, lt-ltb, eq-eqb}
use Rattle.std.specs.Prelude.{All, if◌then◌else◌, slice_index}
use Rattle.std.specs.FinSet.{contains, insert, empty, contains-empty, contains-insert}
use Rattle.std.specs.Ordering.{nat_cmp, eq_by_cmp}
use Rattle.std.specs.Cmp.{nat_cmp_total, unsigned_tied}
use Rattle.std.specs.List.{list_any}
use Rattle.std.proofs.lemmas.Bool.{or_cases, and_from, eqb-true, false≢true, cases_eq}
use Rattle.std.proofs.lemmas.Grind.{same_number_lists}
use Rattle.std.proofs.lemmas.List.{length-take-le, length-drop, get_or-take, get_or-drop}
use Rattle.std.proofs.lemmas.List.Elements.{All-contains}
use Rattle.std.proofs.lemmas.List.Folds.{list_any_at}
use Rattle.std.proofs.Math.Bool.{or-true}
use Rattle.z_instr.proofs.Spelled.{read_size}
use Rattle.z_instr.specs.Layout.{length_by}
use Rattle.z_instr.specs.Operands.{HoldsByteOf}
use Rattle.z_instr.specs.Table.{entry_at}
use Rattle.tx_journal.specs.Image.{length_at, instruction_at, HasReading, HoldsText, IsRising}
use Rattle.z_reading.specs.Listing.{Task}
use Rattle.z_setup.specs.Machine.{places_in, task_places_in}
use Rattle.z_operands.specs.Operations.{size_of_row}
use Rattle.z_assemble.specs.Whole.{places_from, pages_with, with_pages, with_page, Pages}
use Rattle.z_operands.specs.declared.operation.Operation.{Operation}
use Rattle.z_operands.specs.declared.operation.Operation.TheVariants as operations
use Rattle.z_assemble.proofs.Codes.{HasCode, HasCodeAt, IsCoded}
use Rattle.z_assemble.proofs.Plans.{BeginsAt, IsInRoom, IsWithin, IsBegun, some_size}

-- ---- the places of marks rise, and each is marked

places_above : (n : ℕ) (marks : List Bool) (i : ℕ) → i < length (places_from n marks) →
    n ≤ get_or (places_from n marks) i 0
unfolding places_from
places_above n [] i h = absurd (omega arith)
places_above n (true ∷ marks) zero h = omega arith
places_above n (true ∷ marks) (suc i) h = let r = places_above (suc n) marks i (omega arith) in omega arith
places_above n (false ∷ marks) i h = let r = places_above (suc n) marks i h in omega arith

rises : (n : ℕ) (marks : List Bool) (i j : ℕ) → j ≡ suc i → j < length (places_from n marks) →
    get_or (places_from n marks) i 0 < get_or (places_from n marks) j 0
unfolding places_from
rises n [] i j e h = absurd (omega arith)
rises n (true ∷ marks) i zero e h = absurd (omega arith)
rises n (true ∷ marks) zero (suc j) e h = places_above (suc n) marks j (omega arith)
rises n (true ∷ marks) (suc i) (suc j) e h = rises (suc n) marks i j (omega arith) (omega arith)
rises n (false ∷ marks) i j e h = rises (suc n) marks i j e h

pub starts_rise : (marks : List Bool) → IsRising (places_from 0 marks)
starts_rise marks i h = rises 0 marks i (i + 1) (omega arith) h

marked_from : (n : ℕ) (marks : List Bool) (i : ℕ) → i < length (places_from n marks) →
    (k : ℕ) × (get_or (places_from n marks) i 0 ≡ n + k) × (get_or marks k false ≡ true)
unfolding places_from
marked_from n [] i h = absurd (omega arith)
marked_from n (true ∷ marks) zero h = (0, omega arith, refl)
marked_from n (true ∷ marks) (suc i) h = let r = marked_from (suc n) marks i (omega arith) in
    (suc r.0, omega (arith, r.1), r.2)
marked_from n (false ∷ marks) i h = let r = marked_from (suc n) marks i h in
    (suc r.0, omega (arith, r.1), r.2)

pub start_marked : (marks : List Bool) (i : ℕ) → i < length (places_from 0 marks) →
    get_or marks (get_or (places_from 0 marks) i 0) false ≡ true
start_marked marks i h =
    let r = marked_from 0 marks i h in
    let e : get_or (places_from 0 marks) i 0 ≡ r.0 = omega (arith, r.1) in
    ap (λ q. get_or marks q false) e ∙ r.2

-- ---- instructions

size_some : (a b : Bool) → 0 < (if a then 2 else (if b then 4 else 6))
size_some true b = omega arith
size_some false true = omega arith
size_some false false = omega arith

size_few : (a b : Bool) → (if a then 2 else (if b then 4 else 6)) ≤ 6
size_few true b = omega arith
size_few false true = omega arith
size_few false false = omega arith

pub length_some : (storage : List ℕ) (start : ℕ) → 0 < length_at storage start
length_some storage start = size_some (nat_lt (slice_index storage start) 64)
    (nat_lt (slice_index storage start) 192)

pub length_few : (storage : List ℕ) (start : ℕ) → length_at storage start ≤ 6
length_few storage start = size_few (nat_lt (slice_index storage start) 64)
    (nat_lt (slice_index storage start) 192)

-- an instruction of a task stands there
pub record IsText (storage : List ℕ) (tasks : List Task) (start : ℕ) : Type 0 where
  pub reading : HasReading storage start
  pub high : start + length_at storage start ≤ 1048576
  pub clear : (area : ℕ) → list_any (task_places_in area) tasks ≡ false → start < area + 8192 →
      area < start + length_at storage start → ⊥

code_size : (storage : List ℕ) (here row : ℕ) → (c : HasCode storage here row) → 0 < size_of_row row →
    length_at storage here ≡ length c.bytes
code_size storage here row c some =
    let size = c.code.size in
    let e : here + 0 ≡ here = omega arith in
    let first : get_or storage here 0 ≡ get_or c.bytes 0 0 = ap (λ q. get_or storage q 0) (sym e)
    ∙ c.there 0 (omega (arith, size)) in
    ap length_by first ∙ sym (read_size c.bytes c.code.instr c.code.reads)

taken_out : (storage : List ℕ) (here row : ℕ) → (c : HasCode storage here row) →
    here + length c.bytes ≤ length storage → take (length c.bytes) (drop here storage) ≡ c.bytes
taken_out storage here row c h =
    let n = length c.bytes in
    let rest : length (drop here storage) ≡ length storage - here = length-drop here storage in
    let size : length (take n (drop here storage)) ≡ n = length-take-le n (drop here storage) (omega arith) in
    same_number_lists (take n (drop here storage)) c.bytes size
    (λ k l. let lk : k < n = omega arith in get_or-take n (drop here storage) k 0 lk
    ∙ get_or-drop here storage k 0 ∙ c.there k lk)

instruction_text : (storage : List ℕ) (tasks : List Task) (here row : ℕ) (mask : Option ℕ) →
    HasCode storage here row → here + size_of_row row ≤ 1048576 → 0 < size_of_row row →
    length storage ≡ 1048576 →
    ((area : ℕ) → places_in area here (operations.Instruction row mask) ≡ true →
    list_any (task_places_in area) tasks ≡ true) → IsText storage tasks here
instruction_text storage tasks here row mask c room some size among =
    let code = c.code.size in
    let long : length_at storage here ≡ length c.bytes = code_size storage here row c some in
    let out : take (length_at storage here) (drop here storage) ≡ c.bytes =
    ap (λ n. take n (drop here storage)) long ∙ taken_out storage here row c (omega (arith, code)) in
    record {
      reading = record { instr = c.code.instr; reads = out ∙ c.code.reads };
      high = omega (arith, code);
      clear = λ area none low high.
          let p : places_in area here (operations.Instruction row mask) ≡ true =
          and_from _ _ (lt-ltb here (area + 8192) low)
          (lt-ltb area (here + size_of_row row) (omega (arith, code))) in
          false≢true (sym none ∙ among area p);
    }

text_at : (storage : List ℕ) (tasks : List Task) (here : ℕ) (op : Operation) → IsInRoom here op →
    HasCodeAt storage here op → length storage ≡ 1048576 →
    ((area : ℕ) → places_in area here op ≡ true → list_any (task_places_in area) tasks ≡ true) → (k : ℕ) →
    BeginsAt here op k → IsText storage tasks k
text_at storage tasks here (operations.Instruction row mask) room code size among k begins =
    subst (IsText storage tasks) begins (instruction_text storage tasks here row mask code room.1
    (some_size (entry_at row).form) size among)
text_at storage tasks here _ room code size among k begins = absurd begins

pub begun_text : (storage : List ℕ) (tasks : List Task) (k : ℕ) → All IsWithin tasks →
    All (IsCoded storage) tasks → length storage ≡ 1048576 → IsBegun tasks k → IsText storage tasks k
begun_text storage tasks k within coded size b =
    let t = b.task in
    let w = All-contains IsWithin tasks t within b.among in
    let c = All-contains (IsCoded storage) tasks t coded b.among in
    text_at storage tasks t.here t.operation w.room c size
    (λ area e. list_any_at (task_places_in area) tasks b.among.0 t b.among.1
    (ap (task_places_in area) b.among.2 ∙ e)) k b.begins

-- ---- pages

same_page : (q : ℕ) → eq_by_cmp nat_cmp q q ≡ true
same_page q = unsigned_tied q q ∙ eq-eqb q q refl

one_more : (b : Bool) (p q : ℕ) (pages : Pages) → contains (if b then insert pages p else pages) q ≡ true →
    (q ≡ p) ⊎ (contains pages q ≡ true)
one_more true p q pages h =
    elim (or_cases (eq_by_cmp nat_cmp q p) (contains pages q) (sym (contains-insert nat_cmp_total pages p q)
    ∙ h)) [
      | inl e ↦ inl (eqb-true q p (sym (unsigned_tied q p) ∙ e))
      | inr e ↦ inr e
    ]
one_more false p q pages h = inr h

kept_page : (b : Bool) (p q : ℕ) (pages : Pages) → contains pages q ≡ true →
    contains (if b then insert pages p else pages) q ≡ true
kept_page true p q pages h = contains-insert nat_cmp_total pages p q
    ∙ (ap (λ c. eq_by_cmp nat_cmp q p || c) h ∙ or-true (eq_by_cmp nat_cmp q p))
kept_page false p q pages h = h

new_page : (p : ℕ) (pages : Pages) → p < 256 → contains (with_page p pages) p ≡ true
new_page p pages h =
    ap (λ b. contains (if b then insert pages p else pages) p) (lt-ltb p 256 h)
    ∙ (contains-insert nat_cmp_total pages p p ∙ ap (λ c. c || contains pages p) (same_page p))

-- a page of an instruction holds its first byte or its last one
first_or_last : (start count k page : ℕ) → k < count → count ≤ 6 → (start + k) / 4096 ≡ page →
    (start / 4096 ≡ page) ⊎ ((start + count - 1) / 4096 ≡ page)
first_or_last start count k page l few e =
    elim (cases_eq (start / 4096) page) [
      | inl same ↦ inl same
      | inr other ↦ inr (omega arith)
    ]

pub pages_keep : (storage starts : List ℕ) (pages : Pages) (q : ℕ) → contains pages q ≡ true →
    contains (pages_with storage starts pages) q ≡ true
unfolding pages_with
pages_keep storage [] pages q h = h
pages_keep storage (s ∷ ss) pages q h =
    let first = s / 4096 in
    let last = (s + length_at storage s - 1) / 4096 in
    pages_keep storage ss (with_pages storage s pages) q
    (kept_page (nat_lt last 256) last q (with_page first pages)
    (kept_page (nat_lt first 256) first q pages h))

pub page_there : (storage starts : List ℕ) (pages : Pages) (q : ℕ) →
    ((i : ℕ) → i < length starts → get_or starts i 0 + length_at storage (get_or starts i 0) ≤ 1048576) →
    (i : ℕ) → i < length starts → HoldsByteOf 4096 (instruction_at storage (get_or starts i 0)) q →
    contains (pages_with storage starts pages) q ≡ true
unfolding pages_with
page_there storage [] pages q high i h b = absurd (omega arith)
page_there storage (s ∷ ss) pages q high (suc i) h b =
    page_there storage ss (with_pages storage s pages) q (λ j l. high (suc j) (omega arith)) i (omega arith) b
page_there storage (s ∷ ss) pages q high zero h b =
    let first = s / 4096 in
    let count = length_at storage s in
    let last = (s + count - 1) / 4096 in
    let few : count ≤ 6 = length_few storage s in
    let some : 0 < count = length_some storage s in
    let top : s + count ≤ 1048576 = high 0 (omega arith) in
    pages_keep storage ss (with_pages storage s pages) q
    (elim (first_or_last s count b.0 q b.1 few b.2) [
      | inl e ↦ subst (λ p. contains (with_pages storage s pages) p ≡ true) e
          (kept_page (nat_lt last 256) last first (with_page first pages)
          (new_page first pages (omega arith)))
      | inr e ↦ subst (λ p. contains (with_pages storage s pages) p ≡ true) e
          (new_page last (with_page first pages) (omega arith))
    ])

pub page_from : (storage starts : List ℕ) (pages : Pages) (q : ℕ) →
    contains (pages_with storage starts pages) q ≡ true →
    (contains pages q ≡ true) ⊎ HoldsText storage starts q
unfolding pages_with
page_from storage [] pages q h = inl h
page_from storage (s ∷ ss) pages q h =
    let first = s / 4096 in
    let count = length_at storage s in
    let last = (s + count - 1) / 4096 in
    let some : 0 < count = length_some storage s in
    elim (page_from storage ss (with_pages storage s pages) q h) [
      | inr t ↦ inr (record { index = suc t.index; within = omega (arith, t.within); byte = t.byte })
      | inl c ↦ elim (one_more (nat_lt last 256) last q (with_page first pages) c) [
        | inl e ↦ inr (record {
          index = 0;
          within = omega arith;
          byte = (
            count - 1,
            omega arith,
            let same : s + (count - 1) ≡ s + count - 1 =
                omega arith in ap (λ n. n / 4096) same ∙ sym e,
          );
        })
        | inr d ↦ elim (one_more (nat_lt first 256) first q pages d) [
          | inl e ↦ inr (record {
            index = 0;
            within = omega arith;
            byte = (0, some, let same : s + 0 ≡ s = omega arith in ap (λ n. n / 4096) same ∙ sym e);
          })
          | inr o ↦ inl o
        ]
      ]
    ]

pub none_empty : (q : ℕ) → contains (empty {R = nat_cmp}) q ≡ true → ⊥
none_empty q h = false≢true (sym (contains-empty nat_cmp q) ∙ h)
