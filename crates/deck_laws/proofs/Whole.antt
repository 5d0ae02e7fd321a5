-- The listing of a deck stands for an image with the deck's storage and entry.
use Rattle.std.proofs.Common.{◌≡◌, ℕ, zero, suc, ◌+◌, ◌*◌, ◌<◌, ◌≤◌, ◌^◌, Bool, true, false, List, [], ◌∷◌, ◌++◌}
use Rattle.std.proofs.Common.{length, map, drop, replicate, Option, Some, None, refl, sym, ap, ap₂, ◌∙◌, arith, subst}
use Rattle.std.proofs.Common.{lt-ltb, le-ltb, length-append, slice_index}
use Rattle.std.specs.Prelude.{pos, Result, Ok, Err, if◌then◌else◌, nat_lt, ◌==◌, codes, unwrap_or}
use Rattle.std.specs.Char.{to_ascii_uppercase}
use Rattle.std.specs.Fmt.{decimal}
use Rattle.std.proofs.lemmas.Bool.{ne_eqb, ltb-true, ltb-false}
use Rattle.std.proofs.lemmas.List.{append-nil, map-append, length-map, ext_get_or, length-replicate, get_or_past}
use Rattle.hex.specs.Hex.{encode_lower}
use Rattle.z_regs.specs.Cpu.{Cpu, started}
use Rattle.z_text.specs.Line.{as_read}
use Rattle.z_text.specs.declared.token.TextFault.{TextFault}
use Rattle.z_text.specs.declared.token.Token.{Token}
use Rattle.z_fields.specs.Chain.{◌>>=◌}
use Rattle.z_operands.specs.Values.{operands_on}
use Rattle.z_fields.specs.declared.fault.Kind.{Kind}
use Rattle.z_fields.specs.declared.fault.Kind.TheVariants.{OutOfRange, BadDirective}
use Rattle.z_operands.specs.declared.operand.Operand.{Operand}
use Rattle.z_operands.specs.declared.operation.Operation.TheVariants as operations
use Rattle.z_reading.specs.Listing.{Plan, Task, line_gives, operation_line, cpu_line, end_line, tasked, operands_in}
use Rattle.z_setup.specs.Machine.{Machine, Known, task_gives, read_again, tokens_in, tokens_or, directive_line}
use Rattle.z_setup.specs.Machine.{entry_line, with_address, change_at}
use Rattle.z_reading.specs.Text.{copies, lines_of}
use Rattle.z_assemble.specs.Whole.{blank, ready, ready_for, known_in, image_of, First, Second, Stands}
use Rattle.z_deck.specs.Listing.{listing_of, placing_lines, block_lines, org_line, data_line, block_at}
use Rattle.z_deck.specs.Listing as decks
use Rattle.z_deck.specs.Writing.{first_entry, is_zero}
use Rattle.listing_laws.proofs.Lines.{words_at, words_lie}
use Rattle.listing_laws.proofs.Words.{map_over}
use Rattle.listing_laws.proofs.Numbers.{number, digits_are, capitals}
use Rattle.listing_laws.proofs.Codes.{cpu_is, end_is, plain}
use Rattle.listing_laws.proofs.Placed.{known, none_behind, tokens, operands_behind}
use Rattle.listing_laws.proofs.Terms.{one_operand, number_value}
use Rattle.listing_laws.proofs.Texts.{Line, written}
use Rattle.listing_laws.proofs.Generated.{with_one, end_line_of}
use Rattle.deck_laws.specs.Assembled.{IsKept, IsAssembled}
use Rattle.deck_laws.proofs.Digits as digits
use Rattle.deck_laws.proofs.Rows.{Row, ended, text_of_rows, rows_append, lines_are, Runs, first_runs, runs_on}
use Rattle.deck_laws.proofs.Rows.{text_short, rows_count}
use Rattle.deck_laws.proofs.Data.{data_row}
use Rattle.deck_laws.proofs.Places.{row_of, org_at, State, block_size, block_bytes, block_rows, address_few, rows_if}
use Rattle.deck_laws.proofs.Places.{le_before, below, rows_to, Reached, reached}
use Rattle.z_assemble.proofs.Over.{copies_size}
use Rattle.listing_laws.proofs.Stand.{none_placed}
use Rattle.listing_laws.proofs.Spelled.{near_fits}

-- ---- nothing is placed at first

zero_copies : (n a : ℕ) → slice_index (copies n 0) a ≡ 0
unfolding copies
zero_copies zero a = refl
zero_copies (suc n) zero = refl
zero_copies (suc n) (suc a) = zero_copies n a

-- ---- texts

-- digits and a line end, as they are read
number_end : (n : ℕ) → n < 10 ^ 10
    → map to_ascii_uppercase (decimal n ++ 10 ∷ []) ≡ (decimal n ++ []) ++ 10 ∷ []
number_end n few =
    map_over to_ascii_uppercase (decimal n) (10 ∷ []) (capitals (decimal n) (digits_are n (near_fits n few))) refl
    ∙ ap (λ (t : List ℕ). t ++ 10 ∷ []) (sym (append-nil (decimal n)))

org_text : (a : ℕ) (few : a < 10 ^ 10) → map to_ascii_uppercase (org_line a) ≡ ended (row_of (org_at a few))
unfolding row_of
org_text a few = ap (λ (t : List ℕ). 32 ∷ 79 ∷ 82 ∷ 71 ∷ 32 ∷ t) (number_end a few)

data_text : (bytes : List ℕ) → map to_ascii_uppercase (data_line bytes)
    ≡ (32 ∷ 68 ∷ 67 ∷ 32 ∷ 88 ∷ 39 ∷ (digits.capitals bytes ++ 39 ∷ [])) ++ 10 ∷ []
data_text bytes =
    ap (λ (t : List ℕ). 32 ∷ 68 ∷ 67 ∷ 32 ∷ 88 ∷ 39 ∷ t)
    (map-append to_ascii_uppercase (encode_lower bytes ++ 39 ∷ []) (10 ∷ [])
    ∙ ap (λ (t : List ℕ). t ++ 10 ∷ []) (map-append to_ascii_uppercase (encode_lower bytes) (39 ∷ [])
    ∙ ap (λ (t : List ℕ). t ++ 39 ∷ []) (digits.capitals_are bytes)))

module _ (storage : List ℕ) (entry : Option ℕ) (kept : IsKept storage entry) where
  abbrev e : ℕ
  e = unwrap_or entry 0

  e_low : e < 1048576
  e_low = by entry kept.within
    where
      by : (o : Option ℕ) → ((a : ℕ) → o ≡ Some a → a < 1048576) → unwrap_or o 0 < 1048576
      by None within = omega arith
      by (Some a) within = within a refl

  e_few : e < 10 ^ 10
  e_few = more e e_low
    where
      more : (n : ℕ) → n < 1048576 → n < 10 ^ 10
      more n h = omega arith

  abbrev line : Line
  line = with_one (codes "CPU") e refl refl refl (omega arith) e_few

  abbrev task : Task
  task = record { line = 1; here = 16384; text = written line; operation = operations.Cpu }

  -- ---- the rows

  all_blocks : 32512 ≤ 32512
  all_blocks = omega arith

  abbrev blocks : List Row
  blocks = rows_to storage kept.size kept.bytes task 32512 all_blocks

  abbrev rows : List Row
  rows = row_of line ∷ (blocks ++ row_of end_line_of ∷ [])

  cpu_text : map to_ascii_uppercase (decks.cpu_line entry) ≡ ended (row_of line)
  unfolding row_of
  cpu_text = ap (λ (t : List ℕ). 32 ∷ 67 ∷ 80 ∷ 85 ∷ 32 ∷ t) (number_end e e_few)

  end_text : map to_ascii_uppercase (decks.line (codes " END")) ≡ ended (row_of end_line_of)
  unfolding row_of
  end_text = refl

  both : (j : ℕ) (low : j < 32512)
      → map to_ascii_uppercase (org_line (8192 + 32 * j) ++ data_line (block_at storage j))
      ≡ text_of_rows (block_rows storage kept.size kept.bytes task j low)
  unfolding block_rows data_row
  both j low =
      map-append to_ascii_uppercase (org_line (8192 + 32 * j)) (data_line (block_at storage j))
      ∙ ap₂ (λ (s t : List ℕ). s ++ t)
      (org_text (8192 + 32 * j) (address_few storage kept.size kept.bytes task j low))
      (data_text (block_at storage j) ∙ sym (append-nil _))

  block_text : (i : ℕ) (few : i < 32512) (b : Bool) → is_zero (block_at storage i) ≡ b
      → map to_ascii_uppercase (block_lines storage i)
      ≡ text_of_rows (rows_if storage kept.size kept.bytes task i few b)
  unfolding block_lines
  block_text i few true is =
      ap (λ b. map to_ascii_uppercase (if b then [] else org_line (8192 + 32 * i)
      ++ data_line (block_at storage i))) is
  block_text i few false is =
      ap (λ b. map to_ascii_uppercase (if b then [] else org_line (8192 + 32 * i)
      ++ data_line (block_at storage i))) is ∙ both i few

  blocks_text : (n : ℕ) (h : n ≤ 32512) → map to_ascii_uppercase (placing_lines n storage)
      ≡ text_of_rows (rows_to storage kept.size kept.bytes task n h)
  unfolding placing_lines rows_to
  blocks_text zero h = refl
  blocks_text (suc n) h =
      let before = le_before storage kept.size kept.bytes task n h in
      let few = below storage kept.size kept.bytes task n h in
      map-append to_ascii_uppercase (placing_lines n storage) (block_lines storage n)
      ∙ ap₂ (λ (s t : List ℕ). s ++ t) (blocks_text n before)
      (block_text n few (is_zero (block_at storage n)) refl)
      ∙ sym (rows_append (rows_to storage kept.size kept.bytes task n before)
      (rows_if storage kept.size kept.bytes task n few (is_zero (block_at storage n))))

  abbrev text : List ℕ
  text = listing_of storage entry

  text_is : as_read text ≡ text_of_rows rows
  text_is =
      map-append to_ascii_uppercase (decks.cpu_line entry) (placing_lines 32512 storage ++ decks.line (codes " END"))
      ∙ ap₂ (λ (s t : List ℕ). s ++ t) cpu_text
      (map-append to_ascii_uppercase (placing_lines 32512 storage) (decks.line (codes " END"))
      ∙ ap₂ (λ (s t : List ℕ). s ++ t) (blocks_text 32512 all_blocks) (end_text ∙ sym (append-nil _))
      ∙ sym (rows_append blocks (row_of end_line_of ∷ [])))

  -- ---- their number

  if_few : (i : ℕ) (few : i < 32512) (b : Bool)
      → length (rows_if storage kept.size kept.bytes task i few b) ≤ 2
  unfolding block_rows
  if_few i few true = omega arith
  if_few i few false = omega arith

  rows_few : (n : ℕ) (h : n ≤ 32512) → length (rows_to storage kept.size kept.bytes task n h) ≤ 2 * n
  unfolding rows_to
  rows_few zero h = omega arith
  rows_few (suc n) h =
      let before = le_before storage kept.size kept.bytes task n h in
      let few = below storage kept.size kept.bytes task n h in
      omega (
        arith,
        rows_few n before,
        if_few n few (is_zero (block_at storage n)),
        length-append (rows_to storage kept.size kept.bytes task n before)
            (rows_if storage kept.size kept.bytes task n few (is_zero (block_at storage n))),
      )

  all_few : length rows ≤ 65026
  all_few = omega (arith, rows_few 32512 all_blocks, length-append blocks (row_of end_line_of ∷ []))

  text_size : length text ≡ length (text_of_rows rows)
  text_size = sym (length-map text to_ascii_uppercase) ∙ ap length text_is

  -- ---- the first reading

  begun : Plan
  begun = tasked 1 16384 (written line) operations.Cpu (record blank { cpus = 1 })

  cpu_gives : line_gives 1 (row_of line).text blank ≡ Ok begun
  unfolding operation_line cpu_line blank begun row_of
  cpu_gives = known line.label line.op line.ws line.said operations.Cpu 1 blank cpu_is refl refl refl

  begun_state : State storage kept.size kept.bytes task 0 begun
  unfolding blank begun
  begun_state = record {
    open_yet = refl;
    free = none_behind 8192 (copies 1048576 false) (none_placed 1048576);
    marks = copies_size 1048576 false;
    count = refl;
    tasks = refl;
    whole = copies_size 1048576 0;
    done = λ a low. zero_copies 1048576 a ∙ sym (kept.low a (omega arith));
    rest = λ a from. zero_copies 1048576 a;
  }

  placed : Reached storage kept.size kept.bytes task 2 32512 blocks begun
  placed = reached storage kept.size kept.bytes task 32512 all_blocks 2 begun begun_state

  last : Plan
  last = record placed.plan { ended = true }

  end_gives : (n : ℕ) → line_gives n (row_of end_line_of).text placed.plan ≡ Ok last
  unfolding operation_line end_line row_of last
  end_gives n =
      let l = end_line_of in
      known l.label l.op l.ws l.said operations.End n placed.plan end_is placed.state.open_yet refl refl

  all_run : Runs 1 rows blank last
  all_run = (
    begun,
    cpu_gives,
    runs_on 2 blocks (row_of end_line_of ∷ []) begun placed.plan last placed.runs
        (last, end_gives (2 + length blocks), refl {a = last}),
  )

  -- ---- the second reading

  entered : Machine → Machine
  entered m = record m { cpus = change_at m.entered (with_address e) m.cpus; entered = m.entered + 1 }

  cpu_passes : (k : Known) (m : Machine) → task_gives k task m ≡ Ok (entered m)
  unfolding task_gives read_again tokens_in directive_line entry_line entered
  cpu_passes k m =
      ap (λ (r : Result (List Token) TextFault). operands_on BadDirective (written line) k.labels 16384 (operands_in
      (tokens_or r)) >>= λ os. entry_line os m) (tokens line.label line.op line.ws line.said)
      ∙ ap (λ (ts : List Token). operands_on BadDirective (written line) k.labels 16384 ts >>= λ os. entry_line os m)
      (operands_behind line.label line.op line.ws line.said)
      ∙ ap (λ (r : Result (List Operand) Kind). r >>= λ os. entry_line os m)
      (one_operand (written line) k.labels 16384 BadDirective (number e) (pos e)
      (words_at line.label line.op line.ws) (number_value (written line) k.labels 16384 e (near_fits e e_few))
      (words_lie line.label line.op line.ws line.said))
      ∙ ap (λ b. if b then Ok (record m {
        cpus = change_at m.entered (with_address e) m.cpus;
        entered = m.entered + 1;
      }) else Err OutOfRange) (lt-ltb e 1048576 e_low)

  abbrev machine : Machine
  machine = entered (ready last)

  last_tasks : last.tasks ≡ task ∷ []
  unfolding last
  last_tasks = placed.state.tasks

  second : Second (known_in last) last.tasks (ready last) machine
  second = subst (λ (ts : List Task). Second (known_in last) ts (ready last) machine) (sym last_tasks)
      (machine, cpu_passes (known_in last) (ready last), refl {a = machine})

  -- ---- the image

  last_count : last.cpus ≡ 1
  unfolding last
  last_count = placed.state.count

  storage_so : last.storage ≡ storage
  unfolding last
  storage_so = ext_get_or 0 placed.plan.storage storage (placed.state.whole ∙ sym kept.size)
      (λ a low. placed.state.done a (subst (λ n. a < n) placed.state.whole low))

  stored : (image_of last.begins machine).storage ≡ last.storage
  unfolding image_of entered ready_for
  stored = refl

  first_of : (n : ℕ) → n ≡ 1 → first_entry (change_at 0 (with_address e) (replicate n (started 0))) ≡ e
  first_of n is = ap (λ k. first_entry (change_at 0 (with_address e) (replicate k (started 0)))) is

  entry_so : first_entry (image_of last.begins machine).cpus ≡ e
  unfolding image_of entered ready_for
  entry_so = first_of last.cpus last_count

  pub is_assembled : IsAssembled storage entry
  is_assembled = record {
    image = image_of last.begins machine;
    stands = record {
      plan = last;
      machine = machine;
      size = le-ltb 16777216 (length text) (omega (arith, text_size, text_short rows, all_few));
      lines = ap (λ (xs : List (List ℕ)). nat_lt 262144 (length xs)) (lines_are text rows text_is)
          ∙ le-ltb 262144 (length (map ended rows)) (omega (arith, rows_count rows, all_few));
      first = subst (λ (xs : List (List ℕ)). First 1 xs blank last) (sym (lines_are text rows text_is))
          (first_runs 1 rows blank last all_run);
      second = second;
      some = ne_eqb last.cpus 0 (λ h. omega (arith, last_count, h));
      is = refl;
    };
    storage_is = stored ∙ storage_so;
    enters = λ a is. entry_so ∙ ap (λ o. unwrap_or o 0) is;
  }

pub assembled : (storage : List ℕ) (entry : Option ℕ) → IsKept storage entry → IsAssembled storage entry
assembled storage entry kept = is_assembled storage entry kept
